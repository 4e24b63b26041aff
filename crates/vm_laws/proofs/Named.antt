-- What each instruction of a linked set names.
use Rattle.std.proofs.Common.{◌≡◌, ℕ, List, refl, subst, Option, Some, None}
use Rattle.std.specs.Prelude.{IsSome, option_map, slice_get}
use Rattle.cf_insns.specs.declared.insn.Insn.{Insn}
use Rattle.cf_insns.specs.declared.insn.Insn.TheVariants as read
use Rattle.cls_link.specs.LinkedForms as forms
use Rattle.cls_link.specs.LinkedForms.{IsLinkedInsn, IsLinkedName}
use Rattle.cls_link.specs.Links.{Links, AreLinks}
use Rattle.cls_link.specs.Targets.{linked_insn}
use Rattle.cls_link.specs.declared.linked_code.LinkedInsn.{LinkedInsn}
use Rattle.cls_link.specs.declared.linked_code.LinkedInsn.TheVariants as linked
use Rattle.cls_link.specs.declared.linked_code.LinkedSwitch.{LinkedSwitch}
use Rattle.cls_set.proofs.Hierarchy.{none_some, same_some}
use Rattle.space_ids.specs.declared.ids.ClassId.{ClassId}
use Rattle.ver_frames.specs.Frames.{Frame}
use Rattle.vm_typing.specs.World.{World}
use Rattle.vm_laws.proofs.Owing.{owed}
use Rattle.vm_laws.specs.Files.{AreAsRead}
use Rattle.vm_laws.specs.Worlds.{AreTyped, world_of}
use Rattle.vm_laws.specs.Rows.{HasThrowable, Names}
use Rattle.vm_laws.specs.Steps.{AreMembersNamed, AreNamed, NamesMember}
use Rattle.vm_laws.proofs.Readings.{linked_at}
use Rattle.vm_laws.proofs.Sets.{object_named, casts_to, has_throwable, makes_objects}

module _ (links : Links) (frames : ℕ → ℕ → Frame) (are : AreLinks links) (typed : AreTyped links frames) (files : AreAsRead links.classes) where
  abbrev world : World
  world = world_of links frames

  throwable : HasThrowable world
  throwable =
      has_throwable world (owed links frames are typed files) are.set files
      (object_named links.classes are.set)

  module _ (current : ClassId) (switches : List LinkedSwitch) where
    abbrev Named : LinkedInsn → Type 0
    Named i = Names world current switches i

    mapped : (o : Option ℕ) (f : ℕ → LinkedInsn) (i : LinkedInsn) → ((target : ℕ) → Named (f target)) → option_map f o ≡ Some i → Named i
    mapped None f i names e = absurd (none_some e)
    mapped (Some target) f i names e = subst Named (same_some e) (names target)

    pub nameless : (all : List ℕ) (at : ℕ) (insn : Insn) (i : LinkedInsn) → linked_insn all at insn ≡ Some i → Named i
    nameless all at read.Nop i e = subst Named (same_some e) tt
    nameless all at read.Null i e = subst Named (same_some e) tt
    nameless all at (read.Constant value) i e = subst Named (same_some e) tt
    nameless all at (read.Load kind local) i e = subst Named (same_some e) tt
    nameless all at (read.Store kind local) i e = subst Named (same_some e) tt
    nameless all at (read.Increment local by) i e = subst Named (same_some e) tt
    nameless all at (read.Stack operation) i e = subst Named (same_some e) tt
    nameless all at (read.Unary operator) i e = subst Named (same_some e) tt
    nameless all at (read.Binary operator) i e = subst Named (same_some e) tt
    nameless all at (read.Array operation) i e = subst Named (same_some e) tt
    nameless all at (read.ReturnValue kind) i e = subst Named (same_some e) tt
    nameless all at read.Return i e = subst Named (same_some e) tt
    nameless all at read.Throw i e = subst Named (same_some e) throwable
    nameless all at (read.If condition branch) i e = mapped _ (λ target. linked.If condition target) i (λ target. tt) e
    nameless all at (read.IfCompare condition branch) i e = mapped _ (λ target. linked.IfCompare condition target) i (λ target. tt) e
    nameless all at (read.IfSame equality branch) i e = mapped _ (λ target. linked.IfSame equality target) i (λ target. tt) e
    nameless all at (read.IfNull equality branch) i e = mapped _ (λ target. linked.IfNull equality target) i (λ target. tt) e
    nameless all at (read.Goto branch) i e = mapped _ (λ target. linked.Goto target) i (λ target. tt) e
    nameless all at insn i e = absurd (cc)

    by_name : {insn : Insn} {i : LinkedInsn} → IsLinkedName links.classes current insn i → NamesMember world current i → Named i
    by_name (forms.IsLinkedName.load_constant index value is) member = tt
    by_name (forms.IsLinkedName.get_static index class m f is) member = tt
    by_name (forms.IsLinkedName.get_field index class m f is) member = member
    by_name (forms.IsLinkedName.put_field index class m f is) member = member
    by_name (forms.IsLinkedName.invoke how index class m method is) member = member
    by_name (forms.IsLinkedName.invoke_interface index count class m method is) member = member
    by_name (forms.IsLinkedName.new index class is) member = makes_objects world (owed links frames are typed files) are.set files (λ c. refl) is.text class is.number
    by_name (forms.IsLinkedName.check_cast index type is) member = casts_to world (owed links frames are typed files) are.set files type
    by_name (forms.IsLinkedName.instance_of index type is) member = tt

    some_there : (o : Option LinkedSwitch) (s : LinkedSwitch) → o ≡ Some s → IsSome o
    some_there None s e = absurd (none_some e)
    some_there (Some t) s e = refl

    by_link : (all : List ℕ) (at : ℕ) {insn : Insn} {i : LinkedInsn} → IsLinkedInsn links.classes current all switches at insn i → NamesMember world current i → Named i
    by_link all at (forms.IsLinkedInsn.nameless insn i e) member = nameless all at insn i e
    by_link all at (forms.IsLinkedInsn.name insn i name) member = by_name name member
    by_link all at (forms.IsLinkedInsn.switch insn k s is to) member = some_there (slice_get switches k) s is

  pub named : AreMembersNamed links frames → AreNamed links frames
  named members number s e index i is =
      let l = linked_at links are number s e index i is in
      by_link s.class_id s.linked.switches l.all l.entry.0 l.is (members number s e index i is)
