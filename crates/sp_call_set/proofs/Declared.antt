-- The methods of a linked set by their numbers, with the classes that declare them.
use Rattle.std.proofs.Common.{◌≡◌, ℕ, zero, suc, ◌≤◌, Some, None, List, [], ◌∷◌, length, refl, sym, subst, ap, ◌∙◌, arith}
use Rattle.std.specs.Prelude.{option_map, slice_get}
use Rattle.std.specs.List.{AllZip}
use Rattle.cf_reader.specs.declared.class_file.Method.{Method}
use Rattle.cls_link.specs.Links.{Declared, Links, AreLinks, IsLinked, declared_methods, method_at}
use Rattle.cls_link.specs.declared.linked_code.LinkedMethod.{LinkedMethod}
use Rattle.cls_set.proofs.Hierarchy.{same_some}
use Rattle.cls_set.specs.declared.class.Class.{Class}
use Rattle.space_ids.specs.declared.ids.ClassId.{ClassId}

-- the method of a number is this one, which this class declares
pub record IsDeclaredBy (classes : List Class) (method : ℕ) (class : ClassId) (m : Method) : Type 0 where
  pub declared : Declared
  pub at : slice_get (declared_methods classes) method ≡ Some declared
  pub by_class : declared.class ≡ class
  pub is : declared.method ≡ m

none_past : {A : Type 0} (xs : List A) (n : ℕ) → length xs ≤ n → slice_get xs n ≡ None
none_past [] n h = refl
none_past (x ∷ xs) zero h = absurd (omega (arith, h))
none_past (x ∷ xs) (suc n) h = none_past xs n (omega (arith, h))

module _ (classes : List Class) where
  as_many : (ds : List Declared) (ms : List LinkedMethod) → AllZip (IsLinked classes) ds ms → length ds ≡ length ms
  as_many [] [] all = refl
  as_many [] (m ∷ ms) all = absurd all
  as_many (d ∷ ds) [] all = absurd all
  as_many (d ∷ ds) (m ∷ ms) all = ap (λ (n : ℕ). suc n) (as_many ds ms all.1)

  linked_at : (ds : List Declared) (ms : List LinkedMethod) (i : ℕ) (m : LinkedMethod) → AllZip (IsLinked classes) ds ms → slice_get ms i ≡ Some m
      → (d : Declared) × ((slice_get ds i ≡ Some d) × IsLinked classes d m)
  linked_at [] [] i m all e = absurd (cc)
  linked_at [] (y ∷ ms) i m all e = absurd all
  linked_at (d ∷ ds) [] i m all e = absurd all
  linked_at (d ∷ ds) (y ∷ ms) zero m all e = (d, (refl, subst (IsLinked classes d) (same_some e) all.0))
  linked_at (d ∷ ds) (y ∷ ms) (suc i) m all e = linked_at ds ms i m all.1 e

-- no method has a number past the last
pub none_declared : (links : Links) → AreLinks links → (method : ℕ) → length links.methods ≤ method → slice_get (declared_methods links.classes) method ≡ None
none_declared links are method past =
    let same : length (declared_methods links.classes) ≡ length links.methods = as_many links.classes (declared_methods links.classes) links.methods are.methods in
    none_past (declared_methods links.classes) method (omega (arith, same, past))

pub none_at : (links : Links) → AreLinks links → (method : ℕ) → length links.methods ≤ method → None ≡ method_at links.classes (record { 0 = method })
none_at links are method past = sym (ap (option_map (λ (d : Declared). d.method)) (none_declared links are method past))

pub declared_by : (links : Links) → AreLinks links → (method : ℕ) (entry : LinkedMethod) (m : Method) → slice_get links.methods method ≡ Some entry
    → method_at links.classes (record { 0 = method }) ≡ Some m → IsDeclaredBy links.classes method entry.class m
declared_by links are method entry m e f =
    let found = linked_at links.classes (declared_methods links.classes) links.methods method entry are.methods e in
    record {
      declared = found.0;
      at = found.1.0;
      by_class = sym found.1.1.class;
      is = same_some (sym (ap (option_map (λ (d : Declared). d.method)) found.1.0) ∙ f);
    }
