-- A linked and checked set, of classes as their files say them, meets what is owed of its world.
use Rattle.std.proofs.Common.{◌≡◌, ℕ, true, false, Option, Some, None, List, [], refl, sym, subst, lit<}
use Rattle.std.specs.Prelude.{IsSome, codes, slice_get}
use Rattle.std.specs.Option.{option_map_or, unwrap_or}
use Rattle.cls_link.specs.Links.{Links, AreLinks}
use Rattle.cls_set.proofs.Names.{name_at_number}
use Rattle.cls_set.specs.BuiltIn.{built_in, built_ins}
use Rattle.cls_set.specs.Classes.{name_at, number_of}
use Rattle.cls_set.specs.Sets.{IsClassSet}
use Rattle.cls_set.specs.declared.class.Class.{Class}
use Rattle.space_ids.specs.declared.ids.ClassId.{ClassId}
use Rattle.ver_frames.specs.Frames.{Frame}
use Rattle.ver_frames.specs.Method.{Subject}
use Rattle.vm_typing.proofs.Sets.{sets_give}
use Rattle.vm_typing.specs.Fits.{no_method}
use Rattle.vm_typing.specs.Owed.{Owed, MethodOwed}
use Rattle.vm_typing.specs.World.{MethodType}
use Rattle.vm_laws.specs.Files.{AreAsRead}
use Rattle.vm_laws.specs.Worlds.{subject_at, method_type, world_of, AreTyped}
use Rattle.vm_laws.proofs.Subjects.{stands, listed}
use Rattle.vm_laws.proofs.Objects.{object_has_none, inherits, fields_plain}
use Rattle.vm_laws.proofs.Methods.{Meets, meets}

object_stands : (classes : List Class) → IsClassSet classes → IsSome (number_of classes (codes "java/lang/Object"))
unfolding built_ins
object_stands classes set = set.built_in 0 (built_in [] []) (lit< tt)

object_named : (classes : List Class) (o : Option ClassId) → number_of classes (codes "java/lang/Object") ≡ o → IsSome o
    → name_at classes (unwrap_or o (record { 0 = 0 })) ≡ Some (codes "java/lang/Object")
object_named classes None e some = absurd (cc)
object_named classes (Some object) e some = name_at_number classes (codes "java/lang/Object") object e

module _ (links : Links) (frames : ℕ → ℕ → Frame) (are : AreLinks links) (typed : AreTyped links frames) (read : AreAsRead links.classes) where
  named : name_at links.classes (world_of links frames).object ≡ Some (codes "java/lang/Object")
  named = object_named links.classes (number_of links.classes (codes "java/lang/Object")) refl (object_stands links.classes are.set)

  meets_at : (number : ℕ) (m : Subject) → subject_at links number ≡ Some m → Meets links.classes (method_type m (frames number))
  meets_at number m e =
      let there = stands links number m e in
      subst (λ (classes : List Class). Meets classes (method_type m (frames number))) there.classes
      (meets m (frames number) (listed links are number m e) (typed number m e) (subst AreAsRead (sym there.classes) read)
      (record { class = m.class_id; c = m.class; index = there.index; at = subst (λ (classes : List Class). slice_get classes m.class_id.0 ≡ Some m.class) (sym there.classes) there.class; is = there.method }))

  abbrev type_in : ℕ → Option Subject → MethodType
  type_in number o = option_map_or (λ (m : Subject). method_type m (frames number)) o no_method

  found : (number : ℕ) (o : Option Subject) → subject_at links number ≡ o → option_map_or (λ (m : Subject). true) o false ≡ true → Meets links.classes (type_in number o)
  found number None e has = absurd (cc)
  found number (Some m) e has = meets_at number m e

  method_owed : (number : ℕ) → (world_of links frames).has_code number ≡ true → MethodOwed (world_of links frames) number
  method_owed number has =
      let all = found number (subject_at links number) refl has in
      record {
        locals = all.locals;
        plain = all.plain;
        result = all.result;
        void = all.void;
        index = all.index;
        opens = record { inside = all.inside; to = all.to };
      }

  pub owed : Owed (world_of links frames)
  owed =
      let set = sets_give (world_of links frames) are.set named in
      record {
        object = set.object;
        object_named = set.object_named;
        further = set.further;
        inherits = λ a b slot t known. inherits links.classes are.set read (world_of links frames).object named a b slot t;
        object_fields = object_has_none links.classes are.set read (world_of links frames).object named;
        fields = fields_plain links.classes read;
        methods = method_owed;
      }
