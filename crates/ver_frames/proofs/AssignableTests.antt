-- The test of assignability passes exactly if types are assignable.
use Rattle.std.proofs.Common.{◌≡◌, ◌≢◌, ◌↔◌, ◌⊎◌, inl, inr, ℕ, zero, suc, ◌<◌, ◌≤◌, Bool, true, false, not, Option, Some, None, List, IsTrue, length, refl, sym, ap, subst, ◌∙◌, arith}
use Rattle.std.specs.Prelude.{◌||◌, ◌==◌, nat_eq, IsSomeAnd, bit_and, bytes_eq, codes, slice_get, option_and_then}
use Rattle.std.specs.Option.{option_map_or}
use Rattle.std.proofs.lemmas.Bool.{eq-eqb, ne_eqb, eqb-true}
use Rattle.std.proofs.lemmas.Bool.Decides.{nat_tests}
use Rattle.std.proofs.lemmas.Option.{slice_get_past}
use Rattle.std.proofs.lemmas.Slice.Eq.{bytes_eq-Decides}
use Rattle.cf_reader.specs.declared.flags.TheConstants.Flags.{INTERFACE}
use Rattle.cls_search.proofs.Heights.{low_ranks}
use Rattle.cls_search.specs.Searches.{IsRanking}
use Rattle.cls_set.proofs.Hierarchy.{equal, some_and, some_of, subclass_first, true_false}
use Rattle.cls_set.specs.Classes.{name_at, IsInterface}
use Rattle.cls_set.specs.Sets.{IsClassSet}
use Rattle.cls_set.specs.Subtypes.{Extends, IsSubclass}
use Rattle.cls_set.specs.Subtypes.IsSubclass.{itself, superclass, through}
use Rattle.cls_set.specs.declared.class.Class.{Class}
use Rattle.space_ids.specs.declared.ids.ClassId.{ClassId}
use Rattle.ver_frames.proofs.Subclasses.{itself_outside}
use Rattle.ver_frames.specs.AssignableTest.{is_below, is_interface, is_named_object, superclass_of}

-- two tests of one fact are one
pub same_test : (r s : Bool) (P : Type 0) → IsTrue r ↔ P → IsTrue s ↔ P → r ≡ s
same_test true true P f g = refl
same_test false false P f g = refl
same_test true false P f g = absurd (true_false (sym (g.1 (f.0 refl))))
same_test false true P f g = absurd (true_false (sym (f.1 (g.0 refl))))

or_left : (a b : Bool) → a ≡ true → (a || b) ≡ true
or_left true b e = refl
or_left false b e = absurd (true_false (sym e))

or_right : (a b : Bool) → b ≡ true → (a || b) ≡ true
or_right true b e = refl
or_right false b e = e

or_cases : (a b : Bool) → (a || b) ≡ true → (a ≡ true) ⊎ (b ≡ true)
or_cases true b e = inl refl
or_cases false b e = inr e

same_number : (a b : ClassId) → a ≡ b → nat_eq a.0 b.0 ≡ true
same_number a b e = eq-eqb a.0 b.0 (ap (λ (c : ClassId). c.0) e)

same_name : (a b : List ℕ) → ◌≡◌ {A = Option (List ℕ)} (Some a) (Some b) → a ≡ b
same_name a b e = cc

module _ (classes : List Class) where
  extends : (a m : ClassId) → superclass_of classes a ≡ Some m → Extends classes a m
  extends a m e = of_class (slice_get classes a.0) e
    where
      of_class : (o : Option Class) → option_and_then (λ (c : Class). c.superclass) o ≡ Some m → IsSomeAnd o (λ c. c.superclass ≡ Some m)
      of_class None e = absurd (cc)
      of_class (Some c) e = e

  superclass_is : (a m : ClassId) → Extends classes a m → superclass_of classes a ≡ Some m
  superclass_is a m e = of_class (slice_get classes a.0) e
    where
      of_class : (o : Option Class) → IsSomeAnd o (λ c. c.superclass ≡ Some m) → option_and_then (λ (c : Class). c.superclass) o ≡ Some m
      of_class None e = absurd e
      of_class (Some c) e = e

  -- the test passes for superclasses alone
  below_sound : (n : ℕ) (a b : ClassId) → is_below n classes a b ≡ true → IsSubclass classes a b
  unfolding is_below
  below_sound zero a b e = subst (λ (c : ClassId). IsSubclass classes a c) (equal a b e) (itself a)
  below_sound (suc n) a b e =
      elim (or_cases (nat_eq a.0 b.0) _ e) [
        | inl same ↦ subst (λ (c : ClassId). IsSubclass classes a c) (equal a b same) (itself a)
        | inr up ↦ higher (below_sound n) (superclass_of classes a) refl up
      ]
    where
      higher : ((c d : ClassId) → is_below n classes c d ≡ true → IsSubclass classes c d) → (o : Option ClassId) → superclass_of classes a ≡ o
          → option_map_or (λ (up : ClassId). is_below n classes up b) o false ≡ true → IsSubclass classes a b
      higher go None is up = absurd (true_false (sym up))
      higher go (Some m) is up = through a m b (superclass a m (extends a m is)) (go m b up)

  -- the test finds each superclass, if at most n stand above the class
  below_whole : (rank : ClassId → ℕ) → IsRanking classes rank → (n : ℕ) (a b : ClassId) → rank a ≤ n → IsSubclass classes a b → is_below n classes a b ≡ true
  unfolding is_below
  below_whole rank ranking zero a b low below =
      elim (subclass_first classes below) [
        | inl same ↦ same_number a b same
        | inr up ↦ let less = ranking a up.0 (inl up.1) in absurd (omega (arith, less, low))
      ]
  below_whole rank ranking (suc n) a b low below =
      elim (subclass_first classes below) [
        | inl same ↦ or_left (nat_eq a.0 b.0) _ (same_number a b same)
        | inr up ↦
            let less = ranking a up.0 (inl up.1) in
            or_right (nat_eq a.0 b.0) _ (subst (λ (o : Option ClassId). option_map_or (λ (m : ClassId). is_below n classes m b) o false ≡ true) (sym (superclass_is a up.0 up.1))
            (below_whole rank ranking n up.0 b (omega (arith, less, low)) up.2))
      ]

  -- the test of a class decides whether it is a subclass
  pub below_decides : IsClassSet classes → (a b : ClassId) → IsTrue (is_below (length classes) classes a b) ↔ IsSubclass classes a b
  below_decides set a b =
      let ranks = low_ranks classes set in
      (below_sound (length classes) a b, below_whole ranks.rank ranks.ranking (length classes) a b (ranks.low a))

  pub below_test : IsClassSet classes → (a b : ClassId) (r : Bool) → IsTrue r ↔ IsSubclass classes a b → r ≡ is_below (length classes) classes a b
  below_test set a b r decides = same_test r (is_below (length classes) classes a b) (IsSubclass classes a b) decides (below_decides set a b)

  bits_test : (bits : ℕ) (r : Bool) → IsTrue r ↔ (bits ≢ 0) → r ≡ not (bits == 0)
  bits_test bits r decides = same_test r (not (bits == 0)) (bits ≢ 0) decides (both (bits == 0) refl)
    where
      both : (t : Bool) → (bits == 0) ≡ t → IsTrue (not t) ↔ (bits ≢ 0)
      both true e = (λ f. absurd (true_false (sym f)), λ other. absurd (other (eqb-true bits 0 e)))
      both false e = (λ f same. true_false (sym (eq-eqb bits 0 same) ∙ e), λ other. refl)

  -- a class of the set
  pub interface_at : (class : ClassId) (c : Class) (r : Bool) → slice_get classes class.0 ≡ Some c → IsTrue r ↔ IsInterface c
      → (IsTrue r ↔ IsSomeAnd (slice_get classes class.0) IsInterface) × (r ≡ is_interface classes class)
  unfolding is_interface
  interface_at class c r is decides =
      let test : r ≡ option_map_or (λ (c : Class). not (bit_and c.file.flags.bits INTERFACE == 0)) (slice_get classes class.0) false =
      subst (λ (o : Option Class). r ≡ option_map_or (λ (c : Class). not (bit_and c.file.flags.bits INTERFACE == 0)) o false) (sym is) (bits_test (bit_and c.file.flags.bits INTERFACE) r decides) in
      (subst (λ (o : Option Class). IsTrue r ↔ IsSomeAnd o IsInterface) (sym is) decides, test)

  -- a number of none
  pub interface_past : (class : ClassId) → length classes ≤ class.0
      → (IsTrue false ↔ IsSomeAnd (slice_get classes class.0) IsInterface) × (false ≡ is_interface classes class)
  unfolding is_interface
  interface_past class past =
      let is : slice_get classes class.0 ≡ None = slice_get_past classes class.0 past in (
        subst (λ (o : Option Class). IsTrue false ↔ IsSomeAnd o IsInterface) (sym is) (λ f. true_false (sym f), λ none. absurd none),
        subst (λ (o : Option Class). false ≡ option_map_or (λ (c : Class). not (bit_and c.file.flags.bits INTERFACE == 0)) o false) (sym is) refl,
      )

  -- whether a class is named java/lang/Object
  pub named_test : (class : ClassId) (r : Bool) → IsTrue r ↔ (name_at classes class ≡ Some (codes "java/lang/Object")) → r ≡ is_named_object classes class
  unfolding is_named_object
  named_test class r decides = by_name (name_at classes class) decides
    where
      by_name : (o : Option (List ℕ)) → IsTrue r ↔ (o ≡ Some (codes "java/lang/Object")) → r ≡ option_map_or (λ name. bytes_eq name (codes "java/lang/Object")) o false
      by_name None decides = same_test r false (None ≡ Some (codes "java/lang/Object")) decides (λ f. absurd (true_false (sym f)), λ e. absurd (cc))
      by_name (Some name) decides =
          let eq = bytes_eq-Decides name (codes "java/lang/Object") in
          same_test r (bytes_eq name (codes "java/lang/Object")) (Some name ≡ Some (codes "java/lang/Object")) decides
          (λ f. ap (λ (n : List ℕ). Some n) (eq.0 f), λ e. eq.1 (same_name name (codes "java/lang/Object") e))
