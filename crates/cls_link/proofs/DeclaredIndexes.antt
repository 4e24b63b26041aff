-- The classes and indices at which methods are declared.
use Rattle.std.proofs.Common.{◌≡◌, ℕ, zero, suc, ◌-◌, ◌<◌, ◌≤◌, inl, inr, Some, List, [], ◌∷◌, length, get_or, drop, refl, sym, subst, ap, ◌∙◌, arith}
use Rattle.std.specs.Prelude.{All, IsSomeAnd, option_map, slice_get}
use Rattle.std.specs.List.{AllZip}
use Rattle.std.proofs.lemmas.List.Elements.{All-append, All-cons, All-nil, All-weaker, All-get_or}
use Rattle.std.proofs.lemmas.Option.{slice_get_cases}
use Rattle.cls_set.proofs.Hierarchy.{some_of}
use Rattle.cls_set.specs.declared.Method.{Method}
use Rattle.cls_set.specs.declared.class.Class.{Class}
use Rattle.space_ids.specs.declared.ids.ClassId.{ClassId}
use Rattle.cls_link.specs.declared.linked_code.LinkedMethod.{LinkedMethod}
use Rattle.cls_link.specs.Links.{Declared, IsLinked, declared_in, declared_from, declared_methods}

-- its class is one of these, the first of which has the number k, and it stands at its index there
pub record IsPlaced (k : ℕ) (cs : List Class) (d : Declared) : Type 0 where
  pub following : k ≤ d.class.0
  pub at : IsSomeAnd (slice_get cs (d.class.0 - k)) (λ c. slice_get c.file.methods d.index ≡ Some d.method)

zero_from : (k : ℕ) → k - k ≡ 0
zero_from k = omega arith

one_less : (n k : ℕ) → suc k ≤ n → n - k ≡ suc (n - suc k)
one_less n k h = omega (arith, h)

no_cons : (m : Method) (rest : List Method) → [] ≡ m ∷ rest → ⊥
no_cons m rest e = cc

drop_one : (ms : List Method) (p : ℕ) (m : Method) (rest : List Method) → drop p ms ≡ m ∷ rest → drop (suc p) ms ≡ rest
drop_one [] zero m rest e = absurd (no_cons m rest e)
drop_one [] (suc p) m rest e = absurd (no_cons m rest e)
drop_one (x ∷ ms) zero m rest e = cc
drop_one (x ∷ ms) (suc p) m rest e = drop_one ms p m rest e

read_at : (ms : List Method) (p i : ℕ) (m : Method) (rest : List Method) → drop p ms ≡ m ∷ rest → slice_get ms p ≡ Some m
read_at [] zero i m rest e = absurd (no_cons m rest e)
read_at [] (suc p) i m rest e = absurd (no_cons m rest e)
read_at (x ∷ ms) zero i m rest e = cc
read_at (x ∷ ms) (suc p) i m rest e = read_at ms p i m rest e

placed_in : (k : ℕ) (c : Class) (cs : List Class) (p : ℕ) (ms : List Method) → drop p c.file.methods ≡ ms → All (IsPlaced k (c ∷ cs)) (declared_in (record { 0 = k }) c.file.name p ms)
placed_in k c cs p [] e = All-nil (IsPlaced k (c ∷ cs))
placed_in k c cs p (m ∷ ms) e =
    All-cons (IsPlaced k (c ∷ cs)) (record { class = record { 0 = k }; class_name = c.file.name; index = p; method = m }) (declared_in (record { 0 = k }) c.file.name (suc p) ms)
    (record {
      following = omega arith;
      at = subst (λ n. IsSomeAnd (slice_get (c ∷ cs) n) (λ (c : Class). slice_get c.file.methods p ≡ Some m)) (sym (zero_from k)) (read_at c.file.methods p 0 m ms e);
    })
    (placed_in k c cs (suc p) ms (drop_one c.file.methods p m ms e))

deeper : (k : ℕ) (c : Class) (cs : List Class) (d : Declared) → IsPlaced (suc k) cs d → IsPlaced k (c ∷ cs) d
deeper k c cs d h =
    record {
      following = omega (arith, h.following);
      at = subst (λ n. IsSomeAnd (slice_get (c ∷ cs) n) (λ (c : Class). slice_get c.file.methods d.index ≡ Some d.method)) (sym (one_less d.class.0 k h.following)) h.at;
    }

placed : (k : ℕ) (cs : List Class) → All (IsPlaced k cs) (declared_from k cs)
placed k [] = All-nil (IsPlaced k [])
placed k (c ∷ cs) =
    All-append (IsPlaced k (c ∷ cs)) (declared_in (record { 0 = k }) c.file.name 0 c.file.methods) (declared_from (suc k) cs)
    (placed_in k c cs 0 c.file.methods refl)
    (All-weaker (IsPlaced (suc k) cs) (IsPlaced k (c ∷ cs)) (deeper k c cs) (declared_from (suc k) cs) (placed (suc k) cs))

same_zero : (n : ℕ) → n - 0 ≡ n
same_zero n = omega arith

linked_at : {classes : List Class} (ds : List Declared) (ms : List LinkedMethod) (i : ℕ) (d : Declared) (m : LinkedMethod) → AllZip (IsLinked classes) ds ms → i < length ds → IsLinked classes (get_or ds i d) (get_or ms i m)
linked_at [] ms i d m all h = absurd (omega (arith, h))
linked_at (x ∷ ds) [] i d m all h = absurd all
linked_at (x ∷ ds) (y ∷ ms) zero d m all h = all.0
linked_at (x ∷ ds) (y ∷ ms) (suc i) d m all h = linked_at ds ms i d m all.1 (omega (arith, h))

-- the class and the index of a linked method
pub record IsAt (classes : List Class) (methods : List LinkedMethod) (i : ℕ) (entry : LinkedMethod) : Type 0 where
  pub class : Class
  pub method : Method
  pub class_at : slice_get classes entry.class.0 ≡ Some class
  pub method_there : slice_get class.file.methods entry.index ≡ Some method
  pub declared : option_map (λ (d : Declared). d.method) (slice_get (declared_methods classes) i) ≡ Some method

pub at_number : (classes : List Class) (methods : List LinkedMethod) (i : ℕ) (entry : LinkedMethod) → AllZip (IsLinked classes) (declared_methods classes) methods → i < length (declared_methods classes) → entry ≡ get_or methods i entry → IsAt classes methods i entry
at_number classes methods i entry all h is =
    let ds = declared_methods classes in
    elim (slice_get_cases ds i).1 [
      | inl r ↦
          let d = r.0 in
          let linked : IsLinked classes d entry = subst (IsLinked classes d) (sym is) (subst (λ x. IsLinked classes x (get_or methods i entry)) r.3 (linked_at ds methods i d entry all h)) in
          let here : IsPlaced 0 classes d = subst (IsPlaced 0 classes) r.3 (All-get_or (IsPlaced 0 classes) ds i d h (placed 0 classes)) in
          let found = some_of (slice_get classes (d.class.0 - 0)) (λ (c : Class). slice_get c.file.methods d.index ≡ Some d.method) here.at in
          record {
            class = found.0;
            method = d.method;
            class_at = ap (λ n. slice_get classes n) (ap (λ (c : ClassId). c.0) linked.class ∙ sym (same_zero d.class.0)) ∙ found.1;
            method_there = ap (λ n. slice_get found.0.file.methods n) linked.index ∙ found.2;
            declared = ap (option_map (λ (d : Declared). d.method)) r.2;
          }
      | inr r ↦ absurd (omega (arith, h, r.0))
    ]
