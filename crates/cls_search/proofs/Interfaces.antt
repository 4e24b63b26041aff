-- Whether a class is an interface, as a test and as a fact.
use Rattle.std.proofs.Common.{◌≡◌, ◌≢◌, ℕ, Some, List, sym, ap, ◌∙◌, arith, Bool, true, false, not}
use Rattle.std.specs.Prelude.{IsTrue, bit_and, nat_eq, slice_get}
use Rattle.std.specs.Option.{option_map_or}
use Rattle.std.proofs.lemmas.Bool.Decides.{nat_tests}
use Rattle.cf_reader.specs.declared.flags.TheConstants.Flags.{INTERFACE}
use Rattle.cls_set.specs.Classes.{IsInterface}
use Rattle.cls_set.specs.declared.class.Class.{Class}
use Rattle.space_ids.specs.declared.ids.ClassId.{ClassId}
use Rattle.cls_search.specs.MethodSearches.{is_interface}

true_false : true ≡ false → ⊥
true_false e = cc

pub not_true : (b : Bool) → b ≡ false → b ≡ true → ⊥
not_true b f e = true_false (sym e ∙ f)

test_true : (n : ℕ) → n ≢ 0 → not (nat_eq n 0) ≡ true
test_true n h = grind (arith, nat_tests)

test_holds : (n : ℕ) → not (nat_eq n 0) ≡ true → n ≢ 0
test_holds n h = grind (arith, nat_tests)

module _ (classes : List Class) (class : ClassId) (c : Class) (at : slice_get classes class.0 ≡ Some c) where
  read : is_interface classes class ≡ not (nat_eq (bit_and c.file.flags.bits INTERFACE) 0)
  read = ap (λ o. option_map_or (λ (c : Class). not (nat_eq (bit_and c.file.flags.bits INTERFACE) 0)) o false) at

  pub interface_true : IsInterface c → IsTrue (is_interface classes class)
  interface_true h = read ∙ test_true (bit_and c.file.flags.bits INTERFACE) h

  pub interface_false : ¬ IsInterface c → ¬ IsTrue (is_interface classes class)
  interface_false h is = h (test_holds (bit_and c.file.flags.bits INTERFACE) (sym read ∙ is))
