-- The fields and the methods that the instructions of a linked set name.
use Rattle.std.proofs.Common.{◌≡◌, ◌≢◌, inr, ℕ, Bool, true, false, List, refl, subst, Option, Some, None}
use Rattle.std.specs.Prelude.{IfSome, slice_get}
use Rattle.cf_insns.specs.declared.insn.Insn.{Insn}
use Rattle.cf_insns.specs.declared.insn.InvokeKind.{InvokeKind}
use Rattle.cf_insns.specs.declared.insn.InvokeKind.TheVariants as invoke
use Rattle.cf_pool.specs.declared.pool.MemberKind.TheVariants as kind
use Rattle.cf_reader.specs.declared.class_file.Method.{Method}
use Rattle.cls_link.specs.LinkedForms as forms
use Rattle.cls_link.specs.LinkedForms.{IsLinkedInsn, IsLinkedName}
use Rattle.cls_link.specs.Links.{Links, AreLinks}
use Rattle.cls_link.specs.declared.linked_code.LinkedInsn.{LinkedInsn}
use Rattle.cls_link.specs.declared.linked_code.LinkedInsn.TheVariants as linked
use Rattle.cls_link.specs.declared.linked_code.LinkedSwitch.{LinkedSwitch}
use Rattle.cls_resolve.specs.LinkRules.{IsSound}
use Rattle.cls_resolve.specs.Meanings.{IsMethodAt}
use Rattle.cls_resolve.specs.References.{asked_of, invoke_operation}
use Rattle.cls_resolve.specs.declared.named.MemberIndex.{MemberIndex}
use Rattle.cls_resolve.specs.declared.references.Asked.TheVariants as asked
use Rattle.cls_resolve.specs.declared.references.MemberOperation.TheVariants as operations
use Rattle.cls_set.specs.Subtypes.IsSubclass.{superclass}
use Rattle.space_ids.specs.declared.ids.ClassId.{ClassId}
use Rattle.ver_check.specs.Members.{method_at}
use Rattle.ver_frames.specs.Assignable.{IsObjectAssignable}
use Rattle.ver_frames.specs.Frames.{Frame}
use Rattle.ver_frames.specs.declared.vtype.VType.{VType}
use Rattle.vm_act.specs.declared.calls.Selected.{Selected}
use Rattle.vm_act.specs.declared.calls.Selected.TheVariants as selected
use Rattle.vm_code.specs.Calls.{id_of}
use Rattle.vm_code.specs.Methods.{is_init, is_superclass, object_of, selected_of, special_start, start_above, superclass_at}
use Rattle.vm_typing.specs.Owed.{Selects}
use Rattle.vm_typing.specs.World.{World, ArePlain, IsKnown}
use Rattle.vm_laws.proofs.Owing.{owed}
use Rattle.vm_laws.proofs.Subjects.{passes_both}
use Rattle.vm_laws.specs.Files.{AreAsRead}
use Rattle.vm_laws.specs.Worlds.{AreTyped, world_of}
use Rattle.vm_laws.proofs.RowsCallees as callees
use Rattle.vm_laws.proofs.Named.{nameless}
use Rattle.vm_laws.proofs.Readings.{linked_at}
use Rattle.vm_laws.proofs.Sets.{object_is}
use Rattle.vm_laws.specs.Rows.{Constructs, Names, NamesInterface, NamesSpecial, NamesVirtual, arguments_in, result_in}
use Rattle.vm_laws.specs.Steps.{AreMembersNamed, NamesMember}
use Rattle.vm_laws.proofs.Fields.{names_field}
use Rattle.vm_laws.proofs.SoundMethods.{init_class, no_init, static_named}

module _ (links : Links) (frames : ℕ → ℕ → Frame) (are : AreLinks links) (typed : AreTyped links frames) (files : AreAsRead links.classes) where
  abbrev world : World
  world = world_of links frames

  object : object_of links.classes ≡ Some world.object
  object = object_is world (owed links frames are typed files) are.set

  -- what a class selects may be called on what may stand for the class
  raised : (below class : ClassId) → IsKnown world below → IsObjectAssignable links.classes below class → (arguments : List VType) (result : Option VType) (s : Selected)
      → Selects world class arguments result s → Selects world below arguments result s
  raised below class known to arguments result (selected.Method callee) s =
      let up = (owed links frames are typed files).further below class (world.method callee.method).owner known to s.above in
      record { agrees = s.agrees; normal = s.normal; passed = s.passed; gives = s.gives; above = up }
  raised below class known to arguments result selected.Abstract s = tt
  raised below class known to arguments result selected.NotPublic s = tt
  raised below class known to arguments result selected.NotImplemented s = tt

  -- the class with which invokespecial begins is the current one or above it
  begins_above : (current class : ClassId) → IsObjectAssignable links.classes current class → IsObjectAssignable links.classes current (special_start links.classes current class)
  unfolding special_start
  begins_above current class to = on (is_superclass links.classes current class) (superclass_at links.classes current) refl
    where
      on : (b : Bool) (o : Option ClassId) → superclass_at links.classes current ≡ o → IsObjectAssignable links.classes current (start_above b class o)
      on false o e = to
      on true None e = to
      on true (Some up) e = inr (superclass current up (callees.extends links frames are files current up e))

  module _ (member : MemberIndex) (m : Method) (there : method_at links.classes member ≡ Some m) where
    -- its parameters are of types of the profile
    plain : ArePlain (arguments_in world m)
    plain =
        let class = passes_both (slice_get links.classes member.class.0) _ m there in
        files.parameters m (record { class = member.class; c = class.0; index = member.index; at = class.1.0; is = class.1.1 })

    virtual_named : (class : ClassId) → is_init m ≡ false → NamesVirtual world class member
    virtual_named class other = record {
      method = m;
      declared = there;
      plain = plain;
      selects = record { object = object; runs = λ below known to. callees.selects links frames are files member m there other below };
    }

    interface_named : (class : ClassId) → is_init m ≡ false → NamesInterface world class member
    interface_named class other = record {
      method = m;
      declared = there;
      plain = plain;
      selects = record { object = object; runs = λ below known to. callees.selects_interface links frames are files member m there other below class };
      takes = (callees.asked_as links frames are files member m there).takes;
      gives = (callees.asked_as links frames are files member m there).gives;
      types = (callees.asked_as links frames are files member m there).types;
    }

    special_named : (current class : ClassId) → (is_init m ≡ true → member.class ≡ class) → NamesSpecial world current class member
    special_named current class own = record {
      method = m;
      declared = there;
      plain = plain;
      init = λ init callee is. subst (λ (c : ClassId). Constructs world c callee (arguments_in world m)) (own init) (callees.init_runs links frames are files member m callee there init is);
      selects = λ other to. record {
        object = object;
        runs = λ below known under.
            raised below (special_start links.classes current class) known
            ((owed links frames are typed files).further below current (special_start links.classes current class) known under (begins_above current class to))
            (arguments_in world m) (result_in world m) (selected_of links.classes (special_start links.classes current class) (id_of links.classes member))
            (callees.selects links frames are files member m there other (special_start links.classes current class));
      };
    }

  module _ (current : ClassId) (method : Method) where
    abbrev Sound : Insn → Type 0
    Sound insn = IfSome (asked_of insn) (λ a. IsSound links.classes (record { class = current; method = method; asked = a.0; index = a.1 }))

    no_other : kind.Method ≢ kind.Field
    no_other e = cc

    no_interface : kind.InterfaceMethod ≢ kind.Field
    no_interface e = cc

    invoked : (how : InvokeKind) (index : ℕ) (class : ClassId) (member : MemberIndex) (m : Method) → IsMethodAt links.classes current index kind.Method class member m
        → IsSound links.classes (record { class = current; method = method; asked = asked.Member (invoke_operation how); index = index })
        → NamesMember world current (linked.Invoke how class member)
    invoked invoke.Virtual index class member m at sound =
        virtual_named member m at.declared class (no_init links.classes current method operations.InvokeVirtual index kind.Method class member m no_other sound at (λ e. cc))
    invoked invoke.Special index class member m at sound =
        special_named member m at.declared current class (init_class links.classes current method operations.InvokeSpecial index kind.Method class member m no_other sound at)
    invoked invoke.Static index class member m at sound =
        let other = no_init links.classes current method operations.InvokeStatic index kind.Method class member m no_other sound at (λ e. cc) in
        let static = static_named links.classes current method operations.InvokeStatic index kind.Method class member m no_other sound at refl in
        record { method = m; declared = at.declared; plain = plain member m at.declared; runs = λ callee is. callees.static_runs links frames are files member m callee at.declared other static is }

    by_name : {insn : Insn} {i : LinkedInsn} → IsLinkedName links.classes current insn i → Sound insn → NamesMember world current i
    by_name (forms.IsLinkedName.load_constant index value is) sound = tt
    by_name (forms.IsLinkedName.get_static index class member f is) sound = tt
    by_name (forms.IsLinkedName.get_field index class member f is) sound =
        names_field world (owed links frames are typed files) files (λ c. refl) current method operations.GetField index class member f refl sound is
    by_name (forms.IsLinkedName.put_field index class member f is) sound =
        names_field world (owed links frames are typed files) files (λ c. refl) current method operations.PutField index class member f refl sound is
    by_name (forms.IsLinkedName.invoke how index class member m is) sound = invoked how index class member m is sound
    by_name (forms.IsLinkedName.invoke_interface index count class member m is) sound =
        interface_named member m is.declared class (no_init links.classes current method operations.InvokeInterface index kind.InterfaceMethod class member m no_interface sound is (λ e. cc))
    by_name (forms.IsLinkedName.new index class is) sound = tt
    by_name (forms.IsLinkedName.check_cast index type is) sound = tt
    by_name (forms.IsLinkedName.instance_of index type is) sound = tt

    -- what is said of an instruction is also said of the member that it names
    of_member : (switches : List LinkedSwitch) (i : LinkedInsn) → Names world current switches i → NamesMember world current i
    of_member switches (linked.GetField class member) names = names
    of_member switches (linked.PutField class member) names = names
    of_member switches (linked.Invoke how class member) names = names
    of_member switches (linked.InvokeInterface count class member) names = names
    of_member switches i names = tt

    by_link : (switches : List LinkedSwitch) (all : List ℕ) (at : ℕ) {insn : Insn} {i : LinkedInsn} → IsLinkedInsn links.classes current all switches at insn i → Sound insn
        → NamesMember world current i
    by_link switches all at (forms.IsLinkedInsn.nameless insn i e) sound = of_member switches i (nameless links frames are typed files current switches all at insn i e)
    by_link switches all at (forms.IsLinkedInsn.name insn i name) sound = by_name name sound
    by_link switches all at (forms.IsLinkedInsn.switch insn k s is to) sound = tt

  pub members : AreMembersNamed links frames
  members number s e index i is = let l = linked_at links are number s e index i is in by_link s.class_id l.method s.linked.switches l.all l.entry.0 l.is l.sound
