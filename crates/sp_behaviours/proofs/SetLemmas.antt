-- What is told of a linked set is so.
use Rattle.std.proofs.Common.{◌≡◌, ℕ, ◌<◌, Bool, true, false, Option, Some, None, List, [], length, map, refl, sym, ap, subst, ◌∙◌}
use Rattle.std.specs.Prelude.{codes, not, ◌&&◌, if◌then◌else◌, unwrap_or, option_map, slice_get, IsSome, IsSomeAnd}
use Rattle.std.proofs.lemmas.Option.{slice_get-map, slice_get_within}
use Rattle.cls_link.specs.Links.{Links, AreLinks}
use Rattle.cls_set.specs.Classes.{number_of, IsInterface}
use Rattle.cls_set.specs.Subtypes.{IsRemote}
use Rattle.cls_set.specs.declared.class.Class.{Class}
use Rattle.space_ids.specs.declared.ids.ClassId.{ClassId}
use Rattle.sp_rules.specs.Classes.{field_kind}
use Rattle.ver_frames.specs.declared.vtype.VType.{VType}
use Rattle.ver_frames.specs.declared.vtype.VType.TheVariants as vtype
use Rattle.vm_act.specs.declared.ending.Thrown.TheVariants as thrown
use Rattle.vm_code.proofs.Remotes.{remote_sound, remote_test}
use Rattle.vm_code.specs.Classes.{is_remote}
use Rattle.vm_laws.proofs.Sets.{number_known, object_stands}
use Rattle.vm_step.proofs.Throws.{thrown_stands}
use Rattle.vm_laws.specs.Files.{types_of}
use Rattle.sp_behaviours.specs.Classes.{class_named, classes_of}
use Rattle.sp_behaviours.specs.Fields.{kind_of_field}
use Rattle.sp_behaviours.specs.Remote.{is_abstract}
use Rattle.sp_behaviours.specs.Sets.{SetsAreTold}
use Rattle.sp_behaviours.specs.Told.{IsKindOf}

both : (a b : Bool) → (a && b) ≡ true → (a ≡ true) × (b ≡ true)
both true b e = (refl, e)
both false b e = absurd (cc)

remote_known : (classes : List Class) (class : ClassId) → IsRemote classes class → class.0 < length classes
remote_known classes class is = by (slice_get classes class.0) refl is.is_class
  where
    by : (o : Option Class) → slice_get classes class.0 ≡ o → IsSomeAnd o (λ (c : Class). ¬ IsInterface c) → class.0 < length classes
    by None at some = absurd some
    by (Some c) at some = slice_get_within classes class.0 c at

-- a field of this type holds what its kind says
kind_is : (t : VType) → IsKindOf t (Some (kind_of_field t))
kind_is vtype.Int = refl
kind_is (vtype.Object class) = refl
kind_is t = tt

field_told : (links : Links) → AreLinks links → (class : ClassId) (slot : ℕ) (t : VType) → IsRemote links.classes class → slice_get (types_of links.classes class) slot ≡ Some t
    → IsKindOf t (field_kind (classes_of links) class slot)
field_told links are class slot t is at =
    let ts = types_of links.classes class in
    let remote : is_remote links.classes class ≡ true = remote_test links.classes are.set class true (remote_known links.classes class is) (λ t. is, λ i. refl) in
    let found : slice_get (map kind_of_field ts) slot ≡ Some (kind_of_field t) = slice_get-map kind_of_field ts slot ∙ ap (option_map kind_of_field) at in
    let all : slice_get (if is_remote links.classes class then map kind_of_field ts else []) slot ≡ Some (kind_of_field t) =
    ap (λ (b : Bool). slice_get (if b then map kind_of_field ts else []) slot) remote ∙ found in
    subst (IsKindOf t) (sym all) (kind_is t)

-- the class of OutOfMemoryError is one of the set
pub memory_named : (links : Links) → AreLinks links → number_of links.classes (codes "java/lang/OutOfMemoryError") ≡ Some (class_named links.classes (codes "java/lang/OutOfMemoryError"))
memory_named links are = by (number_of links.classes (codes "java/lang/OutOfMemoryError")) (thrown_stands links thrown.OutOfMemoryError are)
  where
    by : (o : Option ClassId) → IsSome o → o ≡ Some (unwrap_or o (record { 0 = 0 }))
    by None some = absurd (cc)
    by (Some id) some = refl

remote_told : (links : Links) (class : ClassId) → (classes_of links).is_remote class ≡ true → IsRemote links.classes class
remote_told links class is =
    let parts = both (is_remote links.classes class) (not (is_abstract links.classes class)) is in remote_sound links.classes class parts.0

-- so is java/lang/Object
object_known : (links : Links) → AreLinks links → (unwrap_or (number_of links.classes (codes "java/lang/Object")) (record { 0 = 0 })).0 < length links.classes
object_known links are = by (number_of links.classes (codes "java/lang/Object")) refl (object_stands links.classes are.set)
  where
    by : (o : Option ClassId) → number_of links.classes (codes "java/lang/Object") ≡ o → IsSome o → (unwrap_or o (record { 0 = 0 })).0 < length links.classes
    by None e some = absurd (cc)
    by (Some id) e some = number_known links.classes (codes "java/lang/Object") id e

pub sets_are_told : SetsAreTold
sets_are_told links are = record {
  remote = remote_told links;
  fields = field_told links are;
  memory = number_known links.classes (codes "java/lang/OutOfMemoryError") (class_named links.classes (codes "java/lang/OutOfMemoryError")) (memory_named links are);
  object = object_known links are;
}
