-- Loops over values and over ids: what is so of the first ones, and of one more.
use Rattle.std.proofs.Common.{◌≡◌, ℕ, zero, suc, ◌+◌, ◌<◌, arith, Bool, true, false, List, [], ◌∷◌, ◌++◌, Option, None, Some, refl, sym, ap, ◌∙◌, length, get_or, take, unwrap_or}
use Rattle.std.specs.Prelude.{◌||◌, option_map}
use Rattle.std.specs.List.{flat_map, list_any}
use Rattle.std.proofs.lemmas.Grind.{flat_map-append, take_at_read}
use Rattle.std.proofs.lemmas.List.{append-nil}
use Rattle.std.proofs.lemmas.List.Folds.{list_any-append}
use Rattle.space_ids.specs.declared.ids.ObjId.{ObjId}
use Rattle.space_ids.specs.declared.ids.Ref.{Ref}
use Rattle.space_ids.specs.declared.value.Value.{Value}
use Rattle.sp_rules.specs.Classes.{Setting}
use Rattle.sp_rules.specs.Holders.{fields_of}
use Rattle.sp_rules.specs.References.{reference_of, references_of}
use Rattle.sp_rules.specs.State.{State, Object, object_at}
use Rattle.sp_state.specs.Sweeping.{fields_at}

take-next : {A : Type 0} (xs : List A) (i : ℕ) (x : A) → i < length xs → x ≡ get_or xs i x → take (i + 1) xs ≡ take i xs ++ x ∷ []
take-next xs i x lt is = (take_at_read xs i x lt).1 ∙ ap (λ y. take i xs ++ y ∷ []) (sym is)

pub flat-next : {A B : Type 0} (f : A → List B) (xs : List A) (i : ℕ) (x : A) → i < length xs → x ≡ get_or xs i x → flat_map f (take (i + 1) xs) ≡ flat_map f (take i xs) ++ f x
flat-next f xs i x lt is =
    ap (flat_map f) (take-next xs i x lt is) ∙ flat_map-append f (take i xs) (x ∷ []) ∙ ap (λ ys. flat_map f (take i xs) ++ ys) (append-nil (f x))

pub flat-read : {A B : Type 0} (f : A → List B) (xs : List A) (i : ℕ) (d : A) → i < length xs → flat_map f (take (i + 1) xs) ≡ flat_map f (take i xs) ++ f (get_or xs i d)
flat-read f xs i d lt =
    ap (flat_map f) (take_at_read xs i d lt).1 ∙ flat_map-append f (take i xs) (get_or xs i d ∷ []) ∙ ap (λ ys. flat_map f (take i xs) ++ ys) (append-nil (f (get_or xs i d)))

-- ---- whether one is refused

pub any-next : (is : Ref → Bool) (values : List Value) (i : ℕ) (v : Value) → i < length values → v ≡ get_or values i v → list_any is (references_of (take i values)) ≡ false → list_any is (reference_of v) ≡ false
    → list_any is (references_of (take (i + 1) values)) ≡ false
any-next is values i v lt here none one =
    ap (list_any is) (flat-next reference_of values i v lt here) ∙ list_any-append is (references_of (take i values)) (reference_of v) ∙ (λ j. none j || one j)

or-true : (b : Bool) → (b || true) ≡ true
or-true true = refl
or-true false = refl

pub any-there : (is : Ref → Bool) (values : List Value) (i : ℕ) (v : Value) → i < length values → v ≡ get_or values i v → list_any is (reference_of v) ≡ true → list_any is (references_of values) ≡ true
any-there is [] i v lt here one = absurd (omega (arith, lt))
any-there is (x ∷ xs) zero v lt here one =
    list_any-append is (reference_of x) (references_of xs) ∙ ap (λ (y : Value). list_any is (reference_of y) || list_any is (references_of xs)) (sym here) ∙ ap (λ b. b || list_any is (references_of xs)) one
any-there is (x ∷ xs) (suc i) v lt here one =
    list_any-append is (reference_of x) (references_of xs) ∙ ap (λ b. list_any is (reference_of x) || b) (any-there is xs i v (omega (arith, lt)) here one) ∙ or-true (list_any is (reference_of x))

-- ---- the fields of an object

pub fields-some : (g : Setting) (s : State) (id : ObjId) (fields : List Value) → Some fields ≡ option_map (fields_of g s) (object_at s id) → references_of fields ≡ fields_at g s id
fields-some g s id fields e = of (object_at s id) e
  where
    of : (o : Option Object) → Some fields ≡ option_map (fields_of g s) o → references_of fields ≡ unwrap_or (option_map (λ (p : Object). references_of (fields_of g s p)) o) []
    of None e = absurd (cc)
    of (Some o) e = ap (λ (f : Option (List Value)). references_of (unwrap_or f fields)) e

pub fields-none : (g : Setting) (s : State) (id : ObjId) → None ≡ option_map (fields_of g s) (object_at s id) → fields_at g s id ≡ []
fields-none g s id e = of (object_at s id) e
  where
    of : (o : Option Object) → None ≡ option_map (fields_of g s) o → unwrap_or (option_map (λ (p : Object). references_of (fields_of g s p)) o) [] ≡ []
    of None e = refl
    of (Some o) e = absurd (cc)
