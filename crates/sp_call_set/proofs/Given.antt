-- Remote interfaces between a class and another interface.
use Rattle.std.proofs.Common.{◌≡◌, ℕ, ◌<◌, Bool, true, false, Option, Some, List, length, refl, sym, ap, ◌∙◌}
use Rattle.std.specs.Prelude.{◌&&◌, codes}
use Rattle.std.specs.List.{list_any}
use Rattle.std.specs.Option.{option_map_or}
use Rattle.cls_search.specs.MethodSearches.{is_interface}
use Rattle.cls_set.specs.Classes.{number_of}
use Rattle.cls_set.specs.Sets.{IsClassSet}
use Rattle.cls_set.specs.Subtypes.IsSubtype.{itself, through}
use Rattle.cls_set.specs.declared.class.Class.{Class}
use Rattle.space_ids.specs.declared.ids.ClassId.{ClassId}
use Rattle.sp_rules.specs.Lists.{numbers_below}
use Rattle.vm_code.proofs.Subtypes.{subtype_sound, subtype_test}
use Rattle.vm_code.specs.Classes.{is_below_remote, is_subtype}
use Rattle.vm_code.specs.Classes.{is_remote_interface}
use Rattle.sp_call_set.proofs.Lists.{any_below, any_filter, any_map, any_none}
use Rattle.sp_call_set.specs.Calls.{first_classes, is_given, leads_to, remote_interfaces}

none_leads : (r s t : Bool) → (s ≡ true → t ≡ true → ⊥) → (r && (s && t)) ≡ false
none_leads false s t h = refl
none_leads true false t h = refl
none_leads true true false h = refl
none_leads true true true h = absurd (h refl refl)

all_true : (r s t : Bool) → r ≡ true → s ≡ true → t ≡ true → (r && (s && t)) ≡ true
all_true true true true a b c = refl
all_true false s t a b c = absurd (cc)
all_true true false t a b c = absurd (cc)
all_true true true false a b c = absurd (cc)

not_both : (b : Bool) → false ≡ b → b ≡ true → ⊥
not_both true e f = cc
not_both false e f = cc

-- the test of what is below java/rmi/Remote
pub below_remote : (classes : List Class) (class remote : ClassId) → number_of classes (codes "java/rmi/Remote") ≡ Some remote → is_below_remote classes class ≡ is_subtype classes class remote
below_remote classes class remote e = ap (λ (o : Option ClassId). option_map_or (λ (r : ClassId). is_subtype classes class r) o false) e

module _ (classes : List Class) (set : IsClassSet classes) where
  itself_below : (a : ClassId) → a.0 < length classes → is_subtype classes a a ≡ true
  itself_below a inside = sym (subtype_test classes set a a true inside (λ t. itself a, λ t. refl))

  below_through : (a b c : ClassId) → is_subtype classes a b ≡ true → is_subtype classes b c ≡ true → is_subtype classes a c ≡ true
  below_through a b c e f =
      let low = subtype_sound classes a b e in
      let high = subtype_sound classes b c f in
      sym (subtype_test classes set a c true low.0 (λ t. through a b c low.1 high.1, λ t. refl))

  -- there is none if the class is no subtype of the other interface
  pub given_none : (class declaring : ClassId) → false ≡ is_subtype classes class declaring → false ≡ is_given classes class declaring
  given_none class declaring other =
      sym
      (any_none (λ n. is_remote_interface classes (record { 0 = n }) && leads_to classes class declaring (record { 0 = n }))
      (λ n. none_leads (is_remote_interface classes (record { 0 = n })) (is_subtype classes class (record { 0 = n })) (is_subtype classes (record { 0 = n }) declaring)
      (λ e f. not_both (is_subtype classes class declaring) other (below_through class (record { 0 = n }) declaring e f)))
      (numbers_below (length classes)))

  -- if that interface is remote, it is one itself
  pub given_itself : (class declaring remote : ClassId) → number_of classes (codes "java/rmi/Remote") ≡ Some remote → is_interface classes declaring ≡ true
      → true ≡ is_subtype classes class declaring → true ≡ is_subtype classes declaring remote → true ≡ is_given classes class declaring
  given_itself class declaring remote named interface below high =
      let inside = (subtype_sound classes declaring remote (sym high)).0 in
      let is : is_remote_interface classes declaring ≡ true = ap (λ b. b && is_below_remote classes declaring) interface ∙ (below_remote classes declaring remote named ∙ sym high) in
      sym
      (any_below (λ n. is_remote_interface classes (record { 0 = n }) && leads_to classes class declaring (record { 0 = n })) declaring.0 (length classes) inside
      (all_true (is_remote_interface classes declaring) (is_subtype classes class declaring) (is_subtype classes declaring declaring) is (sym below) (itself_below declaring inside)))

-- else it is among the remote interfaces of the set
pub given_among : (classes : List Class) (class declaring : ClassId) (interfaces : List ClassId) → interfaces ≡ remote_interfaces classes
    → list_any (leads_to classes class declaring) interfaces ≡ is_given classes class declaring
given_among classes class declaring interfaces are =
    ap (list_any (leads_to classes class declaring)) are
    ∙ (any_filter (is_remote_interface classes) (leads_to classes class declaring) (first_classes (length classes))
    ∙ any_map (λ (n : ℕ). record { 0 = n }) (λ (i : ClassId). is_remote_interface classes i && leads_to classes class declaring i) (numbers_below (length classes)))
