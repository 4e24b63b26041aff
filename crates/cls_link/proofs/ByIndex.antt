-- The method of an index among those of its class, by its number.
use Rattle.std.proofs.Common.{◌≡◌, ℕ, zero, suc, ◌+◌, Option, Some, None, List, [], ◌∷◌, ◌++◌, length, take, refl, sym, ap, ◌∙◌, arith, add-zero, zero-add}
use Rattle.std.specs.Prelude.{IsSome, option_and_then, option_map, slice_get}
use Rattle.std.proofs.lemmas.List.{length-append}
use Rattle.cls_set.specs.declared.Method.{Method}
use Rattle.cls_set.specs.declared.class.Class.{Class}
use Rattle.space_ids.specs.declared.ids.ClassId.{ClassId}
use Rattle.cls_search.specs.declared.methods.MethodIndex.{MethodIndex}
use Rattle.cls_search.specs.MethodSearches.{method_in}
use Rattle.cls_link.specs.Links.{declared_from, declared_in, method_at, Declared}
use Rattle.cls_link.specs.Numbers.{number_in}
use Rattle.cls_link.proofs.Declarations.{declare}
use Rattle.cls_link.proofs.MethodNumbers.{stands}

suc_plus : (n j : ℕ) → suc n + j ≡ suc (n + j)
suc_plus n j = omega arith

suc_moves : (p i : ℕ) → suc p + i ≡ p + suc i
suc_moves p i = omega arith

same_some : {X : Type 0} {x y : X} → Some x ≡ Some y → x ≡ y
same_some e = cc

none_some : {X : Type 0} {x : X} → None ≡ Some x → ⊥
none_some e = cc

following : {X : Type 0} (xs ys : List X) (j : ℕ) → slice_get (xs ++ ys) (length xs + j) ≡ slice_get ys j
following [] ys j = ap (slice_get ys) (zero-add j)
following (x ∷ xs) ys j = ap (slice_get (x ∷ (xs ++ ys))) (suc_plus (length xs) j) ∙ following xs ys j

before : {X : Type 0} (xs ys : List X) (i : ℕ) (x : X) → slice_get xs i ≡ Some x → slice_get (xs ++ ys) i ≡ Some x
before [] ys i x e = absurd (none_some e)
before (a ∷ xs) ys zero x e = e
before (a ∷ xs) ys (suc i) x e = before xs ys i x e

in_class_at : (class : ClassId) (name : List ℕ) (p : ℕ) (ms : List Method) (i : ℕ) (m : Method) → slice_get ms i ≡ Some m → slice_get (declared_in class name p ms) i ≡ Some (declare class name (p + i) m)
in_class_at class name p [] i m e = absurd (none_some e)
in_class_at class name p (x ∷ ms) zero m e = ap (λ y. Some (declare class name p y)) (same_some e) ∙ ap (λ n. Some (declare class name n m)) (sym (add-zero p))
in_class_at class name p (x ∷ ms) (suc i) m e = in_class_at class name (suc p) ms i m e ∙ ap (λ n. Some (declare class name n m)) (suc_moves p i)

added : (a b i : ℕ) → a + b + i ≡ a + (b + i)
added a b i = omega arith

declared_at : (k : ℕ) (cs : List Class) (n i : ℕ) (c : Class) (m : Method) → slice_get cs n ≡ Some c → slice_get c.file.methods i ≡ Some m → option_map (λ (d : Declared). d.method) (slice_get (declared_from k cs) (length (declared_from k (take n cs)) + i)) ≡ Some m
declared_at k [] n i c m at here = absurd (none_some at)
declared_at k (x ∷ cs) zero i c m at here =
    let own = declared_in (record { 0 = k }) x.file.name 0 x.file.methods in
    let e : slice_get x.file.methods i ≡ Some m = ap (λ (y : Class). slice_get y.file.methods i) (same_some at) ∙ here in
    ap (λ n. option_map (λ (d : Declared). d.method) (slice_get (own ++ declared_from (suc k) cs) n)) (zero-add i)
    ∙ ap (option_map (λ (d : Declared). d.method)) (before own (declared_from (suc k) cs) i _ (in_class_at (record { 0 = k }) x.file.name 0 x.file.methods i m e))
declared_at k (x ∷ cs) (suc n) i c m at here =
    let own = declared_in (record { 0 = k }) x.file.name 0 x.file.methods in
    let rest = declared_from (suc k) (take n cs) in
    ap (λ j. option_map (λ (d : Declared). d.method) (slice_get (own ++ declared_from (suc k) cs) j)) (ap (λ j. j + i) (length-append own rest) ∙ added (length own) (length rest) i)
    ∙ (ap (option_map (λ (d : Declared). d.method)) (following own (declared_from (suc k) cs) (length rest + i)) ∙ declared_at (suc k) cs n i c m at here)

false_is : (o : Option Method) → IsSome o → (d : Method) × (o ≡ Some d)
false_is None h = cc
false_is (Some d) h = (d, refl)

-- the method with the number of an index is that of the index
pub method_numbered : (cs : List Class) (m : MethodIndex) → IsSome (method_in cs m) → method_at cs (number_in cs m) ≡ method_in cs m
method_numbered cs m h =
    let s = stands cs m h in
    let d = false_is (method_in cs m) h in
    let here : slice_get s.c.file.methods m.index ≡ Some d.0 = sym (ap (option_and_then (λ (c : Class). slice_get c.file.methods m.index)) s.at) ∙ d.1 in
    declared_at 0 cs m.class.0 m.index s.c d.0 s.at here ∙ sym d.1
