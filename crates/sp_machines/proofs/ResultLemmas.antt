-- What holds of a result, from other facts that hold of it.
use Rattle.std.proofs.Common.{◌≡◌, refl}
use Rattle.std.specs.Prelude.{Result, Ok, Err, IfOk, IfErr, OnOk, OnErr}

pub if-ok : {T E : Type 0} (r : Result T E) (P Q : T → Type 0) → ((x : T) → P x → Q x) → IfOk r P → IfOk r Q
if-ok (Ok x) P Q f p = f x p
if-ok (Err e) P Q f p = tt

pub on-err : {T E : Type 0} (r : Result T E) (A B : Type 0) → (A → B) → OnErr r A → OnErr r B
on-err (Ok x) A B f a = tt
on-err (Err e) A B f a = f a

pub if-err : {T E : Type 0} (r : Result T E) (P Q : E → Type 0) → ((e : E) → P e → Q e) → IfErr r P → IfErr r Q
if-err (Ok x) P Q f p = tt
if-err (Err e) P Q f p = f e p

-- facts of an answered event that stand in several clauses
pub if-ok-with : {T E : Type 0} (r : Result T E) (A B : Type 0) (P Q : T → Type 0) → OnOk r A → OnOk r B → IfOk r P → ((x : T) → A → B → P x → Q x) → IfOk r Q
if-ok-with (Ok x) A B P Q a b p f = f x a b p
if-ok-with (Err e) A B P Q a b p f = tt

pub at-err : {T E : Type 0} (r : Result T E) (A : Type 0) → A → OnErr r A
at-err (Ok x) A a = tt
at-err (Err e) A a = a

pub if-on-ok : {T E : Type 0} (r : Result T E) (A : Type 0) (Q : T → Type 0) → OnOk r A → ((x : T) → A → Q x) → IfOk r Q
if-on-ok (Ok x) A Q a f = f x a
if-on-ok (Err e) A Q a f = tt

pub on-ok : {T E : Type 0} (r : Result T E) (A B : Type 0) → (A → B) → OnOk r A → OnOk r B
on-ok (Ok x) A B f a = f a
on-ok (Err e) A B f a = tt

pub on-ok-two : {T E : Type 0} (r : Result T E) (A B C : Type 0) → (A → B → C) → OnOk r A → OnOk r B → OnOk r C
on-ok-two (Ok x) A B C f a b = f a b
on-ok-two (Err e) A B C f a b = tt

pub from-ok : {T E : Type 0} (r : Result T E) (A : Type 0) → OnOk r A → ((e : E) → r ≡ Err e → ⊥) → A
from-ok (Ok x) A a some = a
from-ok (Err e) A a some = absurd (some e refl)

pub value-ok : {T E : Type 0} (r : Result T E) (P : T → Type 0) → IfOk r P → ((e : E) → r ≡ Err e → ⊥) → (x : T) × P x
value-ok (Ok x) P p some = (x, p)
value-ok (Err e) P p some = absurd (some e refl)

-- what follows either way
pub ok-or-err : {T E : Type 0} (r : Result T E) (A : Type 0) (P : E → Type 0) (B : Type 0) → (A → B) → ((e : E) → P e → B) → OnOk r A → IfErr r P → B
ok-or-err (Ok x) A P B f h a p = f a
ok-or-err (Err e) A P B f h a p = h e p

pub ok-or-on : {T E : Type 0} (r : Result T E) (A B C : Type 0) → (A → C) → (B → C) → OnOk r A → OnErr r B → C
ok-or-on (Ok x) A B C f h a b = f a
ok-or-on (Err e) A B C f h a b = h b

pub ok-of : {T E : Type 0} (r : Result T E) (P : T → Type 0) (B : Type 0) → ((x : T) → P x → B) → IfOk r P → OnOk r B
ok-of (Ok x) P B f p = f x p
ok-of (Err e) P B f p = tt
