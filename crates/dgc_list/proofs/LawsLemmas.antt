use Rattle.std.proofs.Common.{◌≡◌, ℕ, ◌+◌, ◌<◌, ◌≤◌, Bool, true, false, cond, max, List, [], ◌∷◌, ◌++◌, None, Some, is_some, IsTrue, refl, ap, ◌∙◌, arith}
use Rattle.std.specs.Prelude.{nat_le, nat_lt}
use Rattle.std.proofs.lemmas.Bool.Decides.{nat_tests}
use Rattle.space_ids.specs.declared.ids.ObjId.{ObjId}
use Rattle.dgc_list.specs.declared.remembered.Remembered.{Remembered}
use Rattle.dgc_list.specs.Remembered.{is_late, after_dirty, after_clean, after_moment}
use Rattle.dgc_list.specs.Objects.{is_same}
use Rattle.dgc_list.specs.History.{Call, moment_of, granted, is_told, remembered_of, is_leased, own_calls, AreOlder}
use Rattle.dgc_list.specs.History.Call.{Dirty, Clean, Moment, Forget}

either : {X : Type 0} (t : Bool) (x : X) → cond t x x ≡ x
either true x = refl
either false x = refl

pub late-dirty : (h : List Call) (c : List ℕ) (o : ObjId) (objects : List ObjId) (number period : ℕ) → IsTrue (is_late (remembered_of h c o) number)
    → remembered_of (Dirty c objects number period ∷ h) c o ≡ remembered_of h c o
late-dirty h c o objects number period late = rw late (either (is_told c objects c o) (remembered_of h c o))

pub late-clean : (h : List Call) (c : List ℕ) (o : ObjId) (objects : List ObjId) (number : ℕ) (strong : Bool) → IsTrue (is_late (remembered_of h c o) number)
    → remembered_of (Clean c objects number strong ∷ h) c o ≡ remembered_of h c o
late-clean h c o objects number strong late = rw late (either (is_told c objects c o) (remembered_of h c o))

-- what a strong clean call leaves
abbrev cleaned : ℕ → Remembered
cleaned number = record { number = Some number; strong = true; expires = None }

older-dirty : (n number e : ℕ) → n ≤ number → after_dirty n e (cleaned number) ≡ cleaned number
older-dirty n number e older = let late : nat_le n number ≡ true = grind (arith, nat_tests) in rw late refl

older-clean : (n number : ℕ) (strong : Bool) → n ≤ number → after_clean n strong (cleaned number) ≡ cleaned number
older-clean n number strong older = let late : nat_le n number ≡ true = grind (arith, nat_tests) in rw late refl

pub cleaned-stays : (h later : List Call) (c : List ℕ) (o : ObjId) (objects : List ObjId) (number : ℕ) → IsTrue (is_told c objects c o)
    → is_late (remembered_of h c o) number ≡ false → AreOlder number c o later → remembered_of (later ++ Clean c objects number true ∷ h) c o ≡ cleaned number
cleaned-stays h [] c o objects number told fresh older = rw (told, fresh) refl
cleaned-stays h (Dirty client ids n period ∷ later) c o objects number told fresh older =
    let before = cleaned-stays h later c o objects number told fresh older.1 in
    rw before (elim (is_told client ids c o) as (λ t. is_told client ids c o ≡ t
    → cond t (after_dirty n (moment_of (later ++ Clean c objects number true ∷ h) + granted period) (cleaned number)) (cleaned number) ≡ cleaned number)
    [ true ↦ λ here. older-dirty n number (moment_of (later ++ Clean c objects number true ∷ h) + granted period) (older.0 here) | false ↦ λ _. refl ] refl)
cleaned-stays h (Clean client ids n strong ∷ later) c o objects number told fresh older =
    let before = cleaned-stays h later c o objects number told fresh older.1 in
    rw before (elim (is_told client ids c o) as (λ t. is_told client ids c o ≡ t → cond t (after_clean n strong (cleaned number)) (cleaned number) ≡ cleaned number)
    [ true ↦ λ here. older-clean n number strong (older.0 here) | false ↦ λ _. refl ] refl)
cleaned-stays h (Moment moment ∷ later) c o objects number told fresh older =
    let before = cleaned-stays h later c o objects number told fresh older in
    rw before (either (nat_lt moment (moment_of (later ++ Clean c objects number true ∷ h))) (cleaned number))
cleaned-stays h (Forget object ∷ later) c o objects number told fresh older =
    rw older.0 (cleaned-stays h later c o objects number told fresh older.1)

-- what a dirty call that is not late leaves
set-by : (h : List Call) (c : List ℕ) (o : ObjId) (objects : List ObjId) (number period : ℕ) → IsTrue (is_told c objects c o) → is_late (remembered_of h c o) number ≡ false
    → remembered_of (Dirty c objects number period ∷ h) c o
    ≡ record { number = Some number; strong = (remembered_of h c o).strong; expires = Some (moment_of h + granted period) }
set-by h c o objects number period told fresh = rw (told, fresh) refl

pub stands-before : (h : List Call) (c : List ℕ) (o : ObjId) (objects : List ObjId) (number period moment : ℕ) → IsTrue (is_told c objects c o)
    → is_late (remembered_of h c o) number ≡ false → moment < moment_of h + granted period → is_leased (Moment moment ∷ Dirty c objects number period ∷ h) c o ≡ true
stands-before h c o objects number period moment told fresh before =
    let not_gone : nat_le (moment_of h + granted period) moment ≡ false = grind (arith, nat_tests) in
    let early = nat_lt moment (moment_of h) in
    ap (λ (r : Remembered). is_some (cond {A = Remembered} early r (after_moment moment r)).expires) (set-by h c o objects number period told fresh)
    ∙ rw not_gone (ap (λ (r : Remembered). is_some r.expires) (either early (record { number = Some number; strong = (remembered_of h c o).strong; expires = Some (moment_of h + granted period) })))

pub gone-after : (h : List Call) (c : List ℕ) (o : ObjId) (objects : List ObjId) (number period moment : ℕ) → IsTrue (is_told c objects c o)
    → is_late (remembered_of h c o) number ≡ false → moment_of h + granted period ≤ moment → is_leased (Moment moment ∷ Dirty c objects number period ∷ h) c o ≡ false
gone-after h c o objects number period moment told fresh after =
    let not_early : nat_lt moment (moment_of h) ≡ false = grind (arith, nat_tests) in
    let gone : nat_le (moment_of h + granted period) moment ≡ true = grind (arith, nat_tests) in
    ap (λ (r : Remembered). is_some (cond {A = Remembered} (nat_lt moment (moment_of h)) r (after_moment moment r)).expires) (set-by h c o objects number period told fresh)
    ∙ rw (not_early, gone) refl

-- the moments are those of the pair's own calls
own-moment : (c : List ℕ) (o : ObjId) (h : List Call) → moment_of (own_calls c o h) ≡ moment_of h
own-moment c o [] = refl
own-moment c o (Dirty client objects number period ∷ h) = elim (is_told client objects c o) as (λ t. moment_of (cond t (Dirty client objects number period ∷ own_calls c o h) (own_calls c o h)) ≡ moment_of h)
    [ true ↦ own-moment c o h | false ↦ own-moment c o h ]
own-moment c o (Clean client objects number strong ∷ h) = elim (is_told client objects c o) as (λ t. moment_of (cond t (Clean client objects number strong ∷ own_calls c o h) (own_calls c o h)) ≡ moment_of h)
    [ true ↦ own-moment c o h | false ↦ own-moment c o h ]
own-moment c o (Moment moment ∷ h) = ap (max moment) (own-moment c o h)
own-moment c o (Forget object ∷ h) = elim (is_same object o) as (λ t. moment_of (cond t (Forget object ∷ own_calls c o h) (own_calls c o h)) ≡ moment_of h)
    [ true ↦ own-moment c o h | false ↦ own-moment c o h ]

pub own-remembered : (h : List Call) (c : List ℕ) (o : ObjId) → remembered_of h c o ≡ remembered_of (own_calls c o h) c o
own-remembered [] c o = refl
own-remembered (Dirty client objects number period ∷ h) c o =
    elim (is_told client objects c o) as (λ t. is_told client objects c o ≡ t → cond t (after_dirty number (moment_of h + granted period) (remembered_of h c o)) (remembered_of h c o)
    ≡ remembered_of (cond t (Dirty client objects number period ∷ own_calls c o h) (own_calls c o h)) c o)
    [ true ↦ λ here. rw (here, own-moment c o h) (ap (after_dirty number (moment_of h + granted period)) (own-remembered h c o)) | false ↦ λ _. own-remembered h c o ] refl
own-remembered (Clean client objects number strong ∷ h) c o =
    elim (is_told client objects c o) as (λ t. is_told client objects c o ≡ t → cond t (after_clean number strong (remembered_of h c o)) (remembered_of h c o)
    ≡ remembered_of (cond t (Clean client objects number strong ∷ own_calls c o h) (own_calls c o h)) c o)
    [ true ↦ λ here. rw here (ap (after_clean number strong) (own-remembered h c o)) | false ↦ λ _. own-remembered h c o ] refl
own-remembered (Moment moment ∷ h) c o =
    rw (own-moment c o h) (ap (λ (r : Remembered). cond (nat_lt moment (moment_of h)) r (after_moment moment r)) (own-remembered h c o))
own-remembered (Forget object ∷ h) c o =
    elim (is_same object o) as (λ t. is_same object o ≡ t → cond t (record { number = None; strong = false; expires = None }) (remembered_of h c o)
    ≡ remembered_of (cond t (Forget object ∷ own_calls c o h) (own_calls c o h)) c o)
    [ true ↦ λ here. rw here refl | false ↦ λ _. own-remembered h c o ] refl
