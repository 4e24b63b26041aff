-- The test of a remote class passes for remote classes alone, and for each of them.
use Rattle.std.proofs.Common.{◌≡◌, ◌↔◌, inl, inr, ℕ, ◌<◌, Bool, true, false, Option, Some, None, List, IsTrue, length, refl, sym, subst, ◌∙◌, arith}
use Rattle.std.specs.Prelude.{◌&&◌, not, nat_eq, bit_and, codes, slice_get, IsSomeAnd}
use Rattle.std.specs.Option.{option_map_or}
use Rattle.std.proofs.lemmas.Bool.{eq-eqb, eqb-true}
use Rattle.std.proofs.lemmas.Option.{slice_get_cases}
use Rattle.cf_reader.specs.declared.flags.TheConstants.Flags.{INTERFACE}
use Rattle.cls_search.specs.MethodSearches.{is_interface}
use Rattle.cls_set.proofs.Hierarchy.{true_false}
use Rattle.cls_set.specs.Classes.{number_of, IsInterface}
use Rattle.cls_set.specs.Sets.{IsClassSet}
use Rattle.cls_set.specs.Subtypes.{IsRemote}
use Rattle.cls_set.specs.declared.class.Class.{Class}
use Rattle.space_ids.specs.declared.ids.ClassId.{ClassId}
use Rattle.vm_code.proofs.Subtypes.{same_test, subtype_sound, subtype_test}
use Rattle.vm_code.specs.Classes.{is_below_remote, is_remote, is_subtype}

both : (a b : Bool) → (a && b) ≡ true → (a ≡ true) × (b ≡ true)
both true b e = (refl, e)
both false b e = absurd (true_false (sym e))

both_back : (a b : Bool) → a ≡ true → b ≡ true → (a && b) ≡ true
both_back true b e f = f
both_back false b e f = absurd (true_false (sym e))

zero_of : (n : ℕ) → not (not (nat_eq n 0)) ≡ true → n ≡ 0
zero_of n e = eqb-true n 0 (twice (nat_eq n 0) e)
  where
    twice : (b : Bool) → not (not b) ≡ true → b ≡ true
    twice true e = refl
    twice false e = e

zero_back : (n : ℕ) → ((n ≡ 0 → ⊥) → ⊥) → not (not (nat_eq n 0)) ≡ true
zero_back n not_other = by (nat_eq n 0) refl
  where
    by : (b : Bool) → nat_eq n 0 ≡ b → not (not b) ≡ true
    by true is = refl
    by false is = absurd (not_other (λ zero. true_false (sym (eq-eqb n 0 zero) ∙ is)))

module _ (classes : List Class) (class : ClassId) where
  class_here : class.0 < length classes → (c : Class) × (slice_get classes class.0 ≡ Some c)
  class_here inside = elim (slice_get_cases classes class.0).1 [ inl r ↦ (r.0, r.2) | inr r ↦ absurd (omega (arith, r.0)) ]

  -- a class of the set that is no interface
  class_sound : class.0 < length classes → not (is_interface classes class) ≡ true → IsSomeAnd (slice_get classes class.0) (λ c. ¬ IsInterface c)
  class_sound inside e = at (slice_get classes class.0) (class_here inside).0 (class_here inside).1 e
    where
      at : (o : Option Class) (c : Class) → o ≡ Some c
          → not (option_map_or (λ (c : Class). not (nat_eq (bit_and c.file.flags.bits INTERFACE) 0)) o false) ≡ true → IsSomeAnd o (λ c. ¬ IsInterface c)
      at None c is e = absurd (cc)
      at (Some d) c is e = λ interface. interface (zero_of (bit_and d.file.flags.bits INTERFACE) e)

  class_back : IsSomeAnd (slice_get classes class.0) (λ c. ¬ IsInterface c) → not (is_interface classes class) ≡ true
  class_back is = at (slice_get classes class.0) is
    where
      at : (o : Option Class) → IsSomeAnd o (λ c. ¬ IsInterface c)
          → not (option_map_or (λ (c : Class). not (nat_eq (bit_and c.file.flags.bits INTERFACE) 0)) o false) ≡ true
      at None is = absurd is
      at (Some c) is = zero_back (bit_and c.file.flags.bits INTERFACE) is

  -- a class of the set that is an interface
  pub interface_sound : is_interface classes class ≡ true → IsSomeAnd (slice_get classes class.0) IsInterface
  interface_sound e = at (slice_get classes class.0) e
    where
      other : (n : ℕ) → not (nat_eq n 0) ≡ true → n ≡ 0 → ⊥
      other n e none = let same : nat_eq n 0 ≡ true = eq-eqb n 0 none in absurd (cc)

      at : (o : Option Class) → option_map_or (λ (c : Class). not (nat_eq (bit_and c.file.flags.bits INTERFACE) 0)) o false ≡ true → IsSomeAnd o IsInterface
      at None e = absurd (cc)
      at (Some c) e = other (bit_and c.file.flags.bits INTERFACE) e

  -- a class that passes the test is remote
  pub remote_sound : is_remote classes class ≡ true → IsRemote classes class
  remote_sound e = below (number_of classes (codes "java/rmi/Remote")) refl parts.1
    where
      parts : (not (is_interface classes class) ≡ true) × (is_below_remote classes class ≡ true)
      parts = both (not (is_interface classes class)) (is_below_remote classes class) e

      below : (o : Option ClassId) → number_of classes (codes "java/rmi/Remote") ≡ o → option_map_or (λ remote. is_subtype classes class remote) o false ≡ true → IsRemote classes class
      below None is f = absurd (true_false (sym f))
      below (Some remote) is f =
          let sub = subtype_sound classes class remote f in
          record { is_class = class_sound sub.0 parts.0; remote = remote; named = is; implements = sub.1 }

  remote_whole : IsClassSet classes → class.0 < length classes → IsRemote classes class → is_remote classes class ≡ true
  remote_whole set inside is =
      both_back (not (is_interface classes class)) (is_below_remote classes class) (class_back is.is_class)
      (subst (λ o. option_map_or (λ remote. is_subtype classes class remote) o false ≡ true) (sym is.named)
      (sym (subtype_test classes set class is.remote true inside (λ t. is.implements, λ t. refl))))

-- a test of a remote class is the one of the definition
pub remote_test : (classes : List Class) → IsClassSet classes → (class : ClassId) (r : Bool) → class.0 < length classes → IsTrue r ↔ IsRemote classes class
    → is_remote classes class ≡ r
remote_test classes set class r inside decides =
    same_test (is_remote classes class) r (IsRemote classes class) (remote_sound classes class, remote_whole classes class set inside) decides
