-- The rows of calls.
use Rattle.std.proofs.Common.{◌≡◌, ◌⊎◌, inl, inr, ℕ, suc, ◌==◌, ◌+◌, ◌<◌, ◌≤◌, ◌++◌, Bool, true, false, List, [], ◌∷◌, length, map, reverse, refl, sym, subst, ap, ◌∙◌, Option, Some, None, Ok, arith}
use Rattle.std.specs.Prelude.{nat_eq, ◌&&◌, ◌||◌, if◌then◌else◌, option_and_then, option_map, slice_get, IsSomeAnd}
use Rattle.std.specs.Option.{option_map_or}
use Rattle.std.proofs.lemmas.List.{length-map}
use Rattle.std.proofs.lemmas.Option.{slice_get_within}
use Rattle.cf_insns.specs.declared.insn.InvokeKind.{InvokeKind}
use Rattle.cf_insns.specs.declared.insn.InvokeKind.TheVariants as kind
use Rattle.cf_reader.specs.declared.class_file.Method.{Method}
use Rattle.cf_text.specs.declared.types.FieldType.{FieldType}
use Rattle.cls_link.specs.Links.{Links}
use Rattle.cls_link.specs.declared.linked_code.LinkedInsn.{LinkedInsn}
use Rattle.cls_link.specs.declared.linked_code.LinkedInsn.TheVariants as insn
use Rattle.cls_resolve.specs.Meanings.{method_of}
use Rattle.cls_resolve.specs.declared.named.MemberIndex.{MemberIndex}
use Rattle.cls_search.specs.MethodSearches.{method_in}
use Rattle.cls_set.proofs.Hierarchy.{equal, true_false}
use Rattle.cls_set.specs.Sets.{IsClassSet}
use Rattle.cls_set.specs.Subtypes.{IsSubclass}
use Rattle.cls_set.specs.Subtypes.IsSubclass.{itself, superclass}
use Rattle.cls_set.specs.declared.class.Class.{Class}
use Rattle.space_ids.specs.declared.ids.ClassId.{ClassId}
use Rattle.ver_check.specs.Bodies.{Body}
use Rattle.ver_check.specs.Effects.{effect}
use Rattle.ver_check.specs.Members as checked
use Rattle.ver_check.specs.Members.{arguments_of, call_interface, call_special, call_static, call_super, call_virtual, construct, give_result, is_init, is_made_of, is_own_init, is_own_superclass, method_at, this_initialized}
use Rattle.ver_check.specs.Steps.{◌>>=◌, demand, found_or, give, take, take_all}
use Rattle.ver_rules.specs.Wants.{is_wanted}
use Rattle.ver_rules.specs.declared.fault.CheckRule.TheVariants as rule
use Rattle.ver_rules.specs.declared.want.Want.TheVariants as want
use Rattle.ver_frames.specs.Assignable.{AreAssignable, IsAssignable, IsObjectAssignable}
use Rattle.ver_frames.specs.AssignableTest.{is_assignable, superclass_of}
use Rattle.ver_frames.specs.Changes as changes
use Rattle.ver_frames.specs.Frames.{Frame}
use Rattle.ver_frames.specs.Made.{made_at}
use Rattle.ver_frames.specs.Types.{field_vtype}
use Rattle.ver_frames.specs.declared.vtype.VType.{VType}
use Rattle.ver_frames.specs.declared.vtype.VType.TheVariants as vtype
use Rattle.vm_act.specs.Calls as acts
use Rattle.vm_act.specs.Next.{Next}
use Rattle.vm_act.specs.Objects.{on_referent}
use Rattle.vm_act.specs.Steps.{on_some, where_true}
use Rattle.vm_act.specs.declared.calls.Callee.{Callee}
use Rattle.vm_act.specs.declared.calls.Selected.{Selected}
use Rattle.vm_act.specs.declared.calls.Selected.TheVariants as selected
use Rattle.vm_act.specs.declared.crossing.Parameter.{Parameter}
use Rattle.vm_act.specs.Remote.{ask_call}
use Rattle.space_ids.specs.declared.ids.Ref.{Ref}
use Rattle.vm_act.specs.declared.machine.Machine.{Machine}
use Rattle.vm_act.specs.declared.objects.Referent.{Referent}
use Rattle.vm_act.specs.declared.objects.Referent.TheVariants as referent
use Rattle.vm_code.specs.Calls as code
use Rattle.vm_code.specs.Calls.{id_of}
use Rattle.vm_code.specs.Classes.{implements_remotely}
use Rattle.vm_code.specs.Fits.{are_arguments, current_is, is_of_both, is_of_class, is_own_or_direct, is_target, may_call, may_construct, operand_is, refers}
use Rattle.vm_code.specs.Parameters.{parameters_of}
use Rattle.vm_code.specs.Methods.{callee_of, chosen, init_begins_uninit, interface_selected, object_of, selected_of, special_start}
use Rattle.vm_heap.specs.Tagged.{Tagged, Site, object_at}
use Rattle.vm_typing.proofs.Calls as calls
use Rattle.vm_typing.proofs.Leads.{Fits-assignable, FitsFrame-assignable, at_site, length-AllZip}
use Rattle.vm_typing.proofs.Referents as referents
use Rattle.vm_typing.proofs.Stubs as stubs
use Rattle.vm_typing.proofs.Uses.{IsFrameAssignable-itself}
use Rattle.vm_typing.specs.Asking.{IsForeignObject}
use Rattle.vm_typing.specs.Fits.{held_by, pointee_at, IsA, IsOf, There, Marks, IsMade, IsReceiver, Fits, AllFit}
use Rattle.vm_typing.specs.Laws.{Leads}
use Rattle.vm_typing.specs.Owed.{Owed, Passes, Selects}
use Rattle.vm_typing.specs.Typed.{HasDepth, HasRoom, IsAt, marks_of, with_result}
use Rattle.vm_typing.specs.World as world
use Rattle.vm_typing.specs.World.{World, ArePlain, Enters, IsKnown}
use Rattle.vm_laws.specs.Rows.{CallRows, Constructs, IsRow, NamesInterface, NamesSpecial, NamesStatic, NamesVirtual, RunsAs, SelectsBelow, StandsAt, arguments_in, result_in}
use Rattle.vm_laws.proofs.Fitting.{and_true, arguments_pass, below_them, made_passes, object_passes}
use Rattle.vm_laws.proofs.ObjectRows.{let_pass, same_made}
use Rattle.vm_laws.proofs.Stands.{next_is}
use Rattle.vm_laws.proofs.Takes.{Checked, demanded, found_is, gives, in_turn, no_error, passes_then, same_ok, take_then, tested}
use Rattle.vm_laws.proofs.Wants.{assignable_by, fits_wanted}

-- what an `<init>` makes of the types of its receiver, as the checker and as the laws of typed machines say it
same_made_is : (offset : ℕ) (class : ClassId) (ts : List VType) → map (world.made_is offset class) ts ≡ map (changes.made_is offset class) ts
same_made_is offset class [] = refl
same_made_is offset class (t ∷ ts) =
    ap (λ (b : Bool). (if b then vtype.Object class else t) ∷ map (world.made_is offset class) ts) (same_made offset t)
    ∙ ap (λ (us : List VType). changes.made_is offset class t ∷ us) (same_made_is offset class ts)

same_this : (class : ClassId) (t : VType) → world.this_is class t ≡ changes.this_is class t
same_this class vtype.Top = refl
same_this class vtype.Int = refl
same_this class vtype.Null = refl
same_this class (vtype.Object c) = refl
same_this class vtype.IntArray = refl
same_this class (vtype.Uninitialized made) = refl
same_this class vtype.UninitializedThis = refl

same_this_is : (class : ClassId) (ts : List VType) → map (world.this_is class) ts ≡ map (changes.this_is class) ts
same_this_is class [] = refl
same_this_is class (t ∷ ts) =
    ap (λ (u : VType). u ∷ map (world.this_is class) ts) (same_this class t) ∙ ap (λ (us : List VType). changes.this_is class t ∷ us) (same_this_is class ts)

either : (a b : Bool) → (a || b) ≡ true → (a ≡ true) ⊎ (b ≡ true)
either true b e = inl refl
either false b e = inr e

named_by : (o : Option ClassId) (class : ClassId) → option_map_or (λ (c : ClassId). nat_eq c.0 class.0) o false ≡ true → o ≡ Some class
named_by None class e = absurd (true_false (sym e))
named_by (Some c) class e = ap (λ (d : ClassId). Some d) (equal c class e)

superclass_above : (classes : List Class) (class up : ClassId) → superclass_of classes class ≡ Some up → IsSubclass classes class up
superclass_above classes class up e = superclass class up (on (slice_get classes class.0) e)
  where
    on : (o : Option Class) → option_and_then (λ (c : Class). c.superclass) o ≡ Some up → IsSomeAnd o (λ c. c.superclass ≡ Some up)
    on None e = absurd (cc)
    on (Some c) e = e

object_above : (classes : List Class) (given asked : ClassId) → IsAssignable classes (vtype.Object given) (vtype.Object asked) → IsObjectAssignable classes given asked
unfolding IsAssignable
object_above classes given asked to = to

same_method : (a b : Method) → ◌≡◌ {A = Option Method} (Some a) (Some b) → a ≡ b
same_method a b e = cc

-- an `<init>` is called on what a `new` made
record OnMade (body : Body) (class : ClassId) (f y : Frame) : Type 0 where
  offset : ℕ
  below : List VType
  stack : f.stack ≡ vtype.Uninitialized offset ∷ below
  made : is_made_of body offset class ≡ true
  after : changes.map_types (changes.made_is offset class) (record f { stack = below }) ≡ y

-- or on the receiver of a running `<init>`
record OnThis (body : Body) (class : ClassId) (f y : Frame) : Type 0 where
  below : List VType
  stack : f.stack ≡ vtype.UninitializedThis ∷ below
  own : is_own_init body class ≡ true
  after : this_initialized body (record f { stack = below }) ≡ y

constructed_parts : (body : Body) (class : ClassId) (locals stack : List VType) (flag : Bool) (y : Frame) → construct body class (record { locals = locals; stack = stack; flag_this_uninit = flag }) ≡ Ok y
    → OnMade body class (record { locals = locals; stack = stack; flag_this_uninit = flag }) y ⊎ OnThis body class (record { locals = locals; stack = stack; flag_this_uninit = flag }) y
unfolding construct
constructed_parts body class locals [] flag y e = absurd (no_error e)
constructed_parts body class locals (vtype.Uninitialized offset ∷ below) flag y e =
    let passed = tested (is_made_of body offset class) (changes.map_types (changes.made_is offset class) (record { locals = locals; stack = below; flag_this_uninit = flag })) rule.Mismatch y e in
    inl (record { offset = offset; below = below; stack = refl; made = passed.0; after = passed.1 })
constructed_parts body class locals (vtype.UninitializedThis ∷ below) flag y e =
    let passed = tested (is_own_init body class) (this_initialized body (record { locals = locals; stack = below; flag_this_uninit = flag })) rule.Mismatch y e in
    inr (record { below = below; stack = refl; own = passed.0; after = passed.1 })
constructed_parts body class locals (vtype.Top ∷ below) flag y e = absurd (no_error e)
constructed_parts body class locals (vtype.Int ∷ below) flag y e = absurd (no_error e)
constructed_parts body class locals (vtype.Null ∷ below) flag y e = absurd (no_error e)
constructed_parts body class locals (vtype.Object c ∷ below) flag y e = absurd (no_error e)
constructed_parts body class locals (vtype.IntArray ∷ below) flag y e = absurd (no_error e)

constructed : (body : Body) (class : ClassId) (f y : Frame) → construct body class f ≡ Ok y → OnMade body class f y ⊎ OnThis body class f y
constructed body class f y e = constructed_parts body class f.locals f.stack f.flag_this_uninit y e

-- arguments are taken off a frame, and the rest goes on
record Passed {A : Type 0} (w : World) (types : List VType) (f : Frame) (k : Frame → Checked A) (y : A) : Type 0 where
  given : List VType
  below : List VType
  stack : f.stack ≡ given ++ below
  to : AreAssignable w.classes given types
  further : k (record f { stack = below }) ≡ Ok y

-- arguments and a receiver of a class
record Received {A : Type 0} (w : World) (types : List VType) (class : ClassId) (f : Frame) (k : Frame → Checked A) (y : A) : Type 0 where
  given : List VType
  top : VType
  below : List VType
  stack : f.stack ≡ given ++ top ∷ below
  to : AreAssignable w.classes given types
  may : IsAssignable w.classes top (vtype.Object class)
  further : k (record f { stack = below }) ≡ Ok y

module _ (links : Links) (w : World) (owed : Owed w) (set : IsClassSet w.classes) (body : Body) where
  takes_all : {A : Type 0} → body.classes ≡ w.classes → (types : List VType) (f : Frame) (k : Frame → Checked A) (y : A) → (take_all body types f >>= k) ≡ Ok y → Passed w types f k y
  unfolding take_all
  takes_all same [] f k y e = record { given = []; below = f.stack; stack = refl; to = tt; further = e }
  takes_all same (t ∷ types) f k y e =
      let a = take_then body (want.Fits t) f (λ g. take_all body types g >>= k) y (sym (in_turn (take body (want.Fits t) f) (take_all body types) k) ∙ e) in
      let rest = takes_all same types (record f { stack = a.types }) k y a.further in
      let may : IsAssignable w.classes a.top t = fits_wanted w.classes set t a.top (subst (λ (classes : List Class). is_wanted classes (want.Fits t) a.top ≡ true) same a.wanted) in
      record {
        given = a.top ∷ rest.given;
        below = rest.below;
        stack = subst (λ (ts : List VType). f.stack ≡ a.top ∷ ts) rest.stack a.stack;
        to = (may, rest.to);
        further = rest.further;
      }

  receives : {A : Type 0} → body.classes ≡ w.classes → (types : List VType) (class : ClassId) (f : Frame) (k : Frame → Checked A) (y : A)
      → ((take_all body types f >>= take body (want.Fits (vtype.Object class))) >>= k) ≡ Ok y → Received w types class f k y
  receives same types class f k y e =
      let p = takes_all same types f (λ g. take body (want.Fits (vtype.Object class)) g >>= k) y (sym (in_turn (take_all body types f) (take body (want.Fits (vtype.Object class))) k) ∙ e) in
      let a = take_then body (want.Fits (vtype.Object class)) (record f { stack = p.below }) k y p.further in
      record {
        given = p.given;
        top = a.top;
        below = a.types;
        stack = subst (λ (ts : List VType). f.stack ≡ p.given ++ ts) a.stack p.stack;
        to = p.to;
        may = fits_wanted w.classes set (vtype.Object class) a.top (subst (λ (classes : List Class). is_wanted classes (want.Fits (vtype.Object class)) a.top ≡ true) same a.wanted);
        further = a.further;
      }

  -- the types of the arguments of a method as they lie on the stack
  arguments_are : body.classes ≡ w.classes → (method : Method) → arguments_of body method ≡ reverse (arguments_in w method)
  unfolding arguments_of
  arguments_are same method = ap (λ (classes : List Class). reverse (map (field_vtype classes) method.types.parameters)) same

  -- the result of a method is put on, if there is room
  gives_result : (o : Option FieldType) (g after : Frame) → option_map_or (λ (type : FieldType). give body (field_vtype body.classes type) g) o (Ok g) ≡ Ok after
      → HasRoom body.max_stack (option_map (field_vtype body.classes) o) g × (with_result (option_map (field_vtype body.classes) o) g ≡ after)
  gives_result None g after e = (tt, same_ok e)
  gives_result (Some type) g after e = gives body (field_vtype body.classes type) g after e

  module _ (insn : LinkedInsn) (f after : Frame) (m : Machine) (s : StandsAt links w body insn f after m) where
    result_given : (method : Method) (g : Frame) → give_result body method g ≡ Ok after
        → HasRoom (w.method m.stack.frame.method).max_stack (result_in w method) g × (with_result (result_in w method) g ≡ after)
    unfolding give_result
    result_given method g e =
        let given = gives_result method.types.result g after e in
        let same : option_map (field_vtype body.classes) method.types.result ≡ result_in w method = ap (λ (classes : List Class). option_map (field_vtype classes) method.types.result) s.body_of.classes in (
          subst (λ (o : Option VType). HasRoom (w.method m.stack.frame.method).max_stack o g) same
              (subst (λ (room : ℕ). HasRoom room (option_map (field_vtype body.classes) method.types.result) g) s.body_of.max_stack given.0),
          subst (λ (o : Option VType). with_result o g ≡ after) same given.1,
        )

    -- the method that the checker finds is the one that is named
    named_effect : {A : Type 0} (member : MemberIndex) (method : Method) → method_at w.classes member ≡ Some method → (k : Method → Checked A) (y : A)
        → (found_or rule.Mismatch (method_at body.classes member) >>= k) ≡ Ok y → k method ≡ Ok y
    named_effect member method declared k y e =
        let first = passes_then (found_or rule.Mismatch (method_at body.classes member)) k y e in
        let is : method_at w.classes member ≡ Some first.0 =
        subst (λ (classes : List Class). method_at classes member ≡ Some first.0) s.body_of.classes (found_is rule.Mismatch (method_at body.classes member) first.0 first.1.0) in
        subst (λ (n : Method). k n ≡ Ok y) (same_method first.0 method (sym is ∙ declared)) first.1.1

  -- ---- calls of what is no `<init>`

  module _ (asked : Option VType) (fresh : ℕ → Site) (receiver : Site) (f : Frame) (m : Machine) where
    abbrev Goes : Next → Type 0
    Goes = Leads w asked (held_by m)

    run_leads : (below arguments : List VType) (result : Option VType) (callee : Callee) → RunsAs w callee arguments result → Passes w (reverse arguments) f.stack below
        → HasRoom (w.method m.stack.frame.method).max_stack result (record f { stack = below })
        → Enters w m.stack.frame.method (m.stack.frame.index + 1) (with_result result (record f { stack = below }))
        → IsAt w asked fresh receiver f m → Goes (acts.call callee m)
    run_leads below arguments result callee runs passes room enters at =
        calls.call-leads w owed asked (held_by m) fresh receiver callee f below m runs.agrees runs.normal
        (subst (λ (ts : List VType). Passes w (reverse ts) f.stack below) (sym runs.passed) passes)
        (subst (λ (o : Option VType). HasRoom (w.method m.stack.frame.method).max_stack o (record f { stack = below })) (sym runs.gives) room)
        (subst (λ (o : Option VType). Enters w m.stack.frame.method (m.stack.frame.index + 1) (with_result o (record f { stack = below }))) (sym runs.gives) enters) at

    static_leads : (member : MemberIndex) (names : NamesStatic w member) (below : List VType) → Passes w (reverse (arguments_in w names.method)) f.stack below
        → HasRoom (w.method m.stack.frame.method).max_stack (result_in w names.method) (record f { stack = below })
        → Enters w m.stack.frame.method (m.stack.frame.index + 1) (with_result (result_in w names.method) (record f { stack = below }))
        → IsAt w asked fresh receiver f m → (o : Option Callee) → callee_of w.classes false (id_of w.classes member) ≡ o → Goes (acts.invoke (chosen o) m)
    static_leads member names below passes room enters at None is = tt
    static_leads member names below passes room enters at (Some callee) is =
        run_leads below (arguments_in w names.method) (result_in w names.method) callee (names.runs callee is) passes room enters at

    -- a receiver that may stand for a class is used as one
    stands_for : (class : ClassId) (given : List VType) (top : VType) (below : List VType) → IsAssignable w.classes top (vtype.Object class)
        → AreAssignable w.classes (given ++ top ∷ below) (given ++ vtype.Object class ∷ below)
    stands_for class [] top below may = (may, (IsFrameAssignable-itself w.classes (record { locals = below; stack = []; flag_this_uninit = false })).locals)
    stands_for class (t ∷ given) top below may =
        ((IsFrameAssignable-itself w.classes (record { locals = t ∷ []; stack = []; flag_this_uninit = false })).locals.0, stands_for class given top below may)

    used_as : (class : ClassId) (given : List VType) (top : VType) (below : List VType) → f.stack ≡ given ++ top ∷ below → IsAssignable w.classes top (vtype.Object class)
        → IsAt w asked fresh receiver f m → IsAt w asked fresh receiver (record f { stack = given ++ vtype.Object class ∷ below }) m
    used_as class given top below stack may at = record {
      frame = FitsFrame-assignable w owed (held_by m) fresh receiver f (record f { stack = given ++ vtype.Object class ∷ below }) m.stack.frame
          (record {
            locals = (IsFrameAssignable-itself w.classes f).locals;
            stack = subst (λ (ts : List VType). AreAssignable w.classes ts (given ++ vtype.Object class ∷ below)) (sym stack) (stands_for class given top below may);
            flag = λ is. is;
          }) at.frame;
      heap = at.heap;
      callers = at.callers;
    }

    receiver_leads : (class : ClassId) (method : Method) (select : ClassId → Selected) → SelectsBelow w class method select → (next : Referent → Machine → Next)
        → Goes (next referent.Null m)
        → ((b : ClassId) → next (referent.Object b) m ≡ acts.invoke (select b) m)
        → next referent.Ints m ≡ acts.invoke (select w.object) m
        → ((reference : Ref) → IsForeignObject w m.references reference → (next (referent.Stub reference) m ≡ acts.invoke (select w.object) m) ⊎ Goes (next (referent.Stub reference) m))
        → (given : List VType) (top : VType) (below : List VType) → f.stack ≡ given ++ top ∷ below → AreAssignable w.classes given (reverse (arguments_in w method))
        → IsAssignable w.classes top (vtype.Object class)
        → HasRoom (w.method m.stack.frame.method).max_stack (result_in w method) (record f { stack = below })
        → Enters w m.stack.frame.method (m.stack.frame.index + 1) (with_result (result_in w method) (record f { stack = below }))
        → IsAt w asked fresh receiver f m → Goes (on_referent (length method.types.parameters) next m)
    receiver_leads class method select selects next null objects arrays stub given top below stack to may room enters at =
        subst (λ (count : ℕ). Goes (on_referent count next m)) (length-map method.types.parameters (field_vtype w.classes))
        (referents.receiver-leads w owed asked (held_by m) fresh receiver class (arguments_in w method) (result_in w method) next (record f { stack = given ++ vtype.Object class ∷ below }) below m
        (record { given = given; whole = refl; to = to }) null
        (λ b known under. (select b, (selects.runs b known under, objects b)))
        (λ under. (select w.object, (selects.runs w.object owed.object under, arrays)))
        (λ reference foreign under. of_stub reference under (stub reference foreign))
        room enters (used_as class given top below stack may at))
      where
        of_stub : (reference : Ref) → IsObjectAssignable w.classes w.object class → (next (referent.Stub reference) m ≡ acts.invoke (select w.object) m) ⊎ Goes (next (referent.Stub reference) m)
            → ((s : Selected) × (Selects w w.object (arguments_in w method) (result_in w method) s × (next (referent.Stub reference) m ≡ acts.invoke s m)))
            ⊎ Goes (next (referent.Stub reference) m)
        of_stub reference under (inl is) = inl (select w.object, (selects.runs w.object owed.object under, is))
        of_stub reference under (inr leads) = inr leads

    -- invokeinterface of a stub: it is asked for, or the class of its object does not implement the interface
    stub_leads : (class : ClassId) (member : MemberIndex) (names : NamesInterface w class member) (given : List VType) (top : VType) (below : List VType)
        → f.stack ≡ given ++ top ∷ below → AreAssignable w.classes given (reverse (arguments_in w names.method)) → IsAssignable w.classes top (vtype.Object class)
        → HasDepth w m.stack.frame.method (length m.stack.frame.operands)
        → HasRoom (w.method m.stack.frame.method).max_stack (result_in w names.method) (record f { stack = below })
        → Enters w m.stack.frame.method (m.stack.frame.index + 1) (with_result (result_in w names.method) (record f { stack = below }))
        → IsAt w asked fresh receiver f m → (reference : Ref) → IsForeignObject w m.references reference
        → Goes (code.call_stub w.classes class (id_of w.classes member) names.method reference m)
    stub_leads class member names given top below stack to may depth room enters at reference foreign = by (implements_remotely w.classes reference.class class)
      where
        by : (b : Bool) → Goes (if b then ask_call reference (id_of w.classes member).0 (parameters_of names.method) m else acts.invoke selected.NotImplemented m)
        by true =
            subst (λ (ps : List Parameter). Goes (ask_call reference (id_of w.classes member).0 ps m)) names.takes
            (stubs.ask_call-leads w owed asked (held_by m) fresh receiver reference (id_of w.classes member).0 class (arguments_in w names.method) (result_in w names.method)
            (record f { stack = given ++ vtype.Object class ∷ below }) below m foreign names.types names.gives
            (record { given = given; whole = refl; to = to }) depth room enters (used_as class given top below stack may at))
        by false = tt

    arrays_select : (select : ClassId → Selected) → object_of w.classes ≡ Some w.object → code.invoke_on w.classes select referent.Ints m ≡ acts.invoke (select w.object) m
    arrays_select select is = ap (λ (o : Option ClassId). on_some (λ object. acts.invoke (select object) m) o) is

    -- there are no more operands than the frame at the instruction has
    depth_at : (insn : LinkedInsn) (after : Frame) → StandsAt links w body insn f after m → IsAt w asked fresh receiver f m → HasDepth w m.stack.frame.method (length m.stack.frame.operands)
    depth_at insn after s at =
        let inside : m.stack.frame.index < length body.insns = slice_get_within body.insns m.stack.frame.index insn s.is in
        let count : length body.insns ≡ (w.method m.stack.frame.method).count = s.body_of.count in
        let size : length m.stack.frame.operands ≡ length f.stack =
        length-AllZip (Fits w (held_by m) (marks_of w m.stack.frame.method fresh receiver)) f.stack m.stack.frame.operands at.frame.operands in
        let here : length ((w.method m.stack.frame.method).frames m.stack.frame.index).stack ≡ length f.stack = ap (λ (g : Frame). length g.stack) s.typed in
        record { index = m.stack.frame.index; inside = omega (arith, inside, count); few = omega (arith, size, here) }

  -- ---- what the tests of calls let pass

  module _ (asked : Option VType) (fresh : ℕ → Site) (receiver : Site) (f : Frame) (m : Machine) (method : Method) (linked : links.classes ≡ w.classes) (at : IsAt w asked fresh receiver f m) where
    abbrev marks : Marks
    marks = marks_of w m.stack.frame.method fresh receiver

    typed_as : (types : List VType) → f.stack ≡ types → AllFit w (held_by m) marks types m.stack.frame.operands
    typed_as types e = subst (λ (ts : List VType). AllFit w (held_by m) marks ts m.stack.frame.operands) e at.frame.operands

    may_be_called : (how : InvokeKind) (class : ClassId) (member : MemberIndex) → method_in w.classes (method_of member) ≡ Some method → ArePlain (arguments_in w method)
        → (given below : List VType) → f.stack ≡ given ++ below → AreAssignable w.classes given (reverse (arguments_in w method)) → is_target links how class method m ≡ true
        → may_call links how class member m ≡ true
    unfolding may_call
    may_be_called how class member declared plain given below stack to target =
        let there : method_in links.classes (method_of member) ≡ Some method = subst (λ (classes : List Class). method_in classes (method_of member) ≡ Some method) (sym linked) declared in
        rw there (and_true (are_arguments links.classes method m) (is_target links how class method m)
        (subst (λ (classes : List Class). are_arguments classes method m ≡ true) (sym linked)
        (arguments_pass w owed set m marks method.types.parameters given below plain to (typed_as (given ++ below) stack))) target)

    -- the receiver may stand for a class
    target_of : (class : ClassId) (given : List VType) (top : VType) (below : List VType) → f.stack ≡ given ++ top ∷ below → AreAssignable w.classes given (reverse (arguments_in w method))
        → IsAssignable w.classes top (vtype.Object class) → operand_is (length method.types.parameters) (refers (is_of_class links.classes class) m) m ≡ true
    target_of class given top below stack to may =
        let v = below_them w owed set m marks method.types.parameters given top below to (typed_as (given ++ top ∷ below) stack) in
        rw v.1.0 (subst (λ (classes : List Class). refers (is_of_class classes class) m v.0 ≡ true) (sym linked)
        (object_passes w owed set m marks class v.0 (Fits-assignable w owed (held_by m) marks top (vtype.Object class) v.0 may v.1.1)))

    -- the receiver of an `<init>` is what a `new` of the class made
    made_target : (class : ClassId) (offset : ℕ) (given below : List VType) → f.stack ≡ given ++ vtype.Uninitialized offset ∷ below → AreAssignable w.classes given (reverse (arguments_in w method))
        → (w.method m.stack.frame.method).made_at offset ≡ Some class → operand_is (length method.types.parameters) (may_construct links class m) m ≡ true
    made_target class offset given below stack to made =
        let v = below_them w owed set m marks method.types.parameters given (vtype.Uninitialized offset) below to (typed_as (given ++ vtype.Uninitialized offset ∷ below) stack) in
        let is : IsMade w (held_by m) marks offset v.0 = v.1.1 in
        let there : There (IsOf w class) (pointee_at (held_by m) (fresh offset)) =
        subst (λ (o : Option ClassId). There (λ c. There (IsOf w c) (pointee_at (held_by m) (fresh offset))) o) made is.there in
        rw v.1.0 (subst (λ (u : Tagged). may_construct links class m u ≡ true) (sym is.is) (made_passes w owed set m marks class (fresh offset) there))

    -- or that of a running `<init>`
    own_target : (class current : ClassId) (given below : List VType) → f.stack ≡ given ++ vtype.UninitializedThis ∷ below → AreAssignable w.classes given (reverse (arguments_in w method))
        → code.current_class links m ≡ Some current → (w.method m.stack.frame.method).owner ≡ current → is_own_or_direct w.classes class current ≡ true
        → operand_is (length method.types.parameters) (may_construct links class m) m ≡ true
    own_target class current given below stack to runs owner own =
        let v = below_them w owed set m marks method.types.parameters given vtype.UninitializedThis below to (typed_as (given ++ vtype.UninitializedThis ∷ below) stack) in
        let is : IsReceiver w (held_by m) marks v.0 = v.1.1 in
        let there : There (IsA w current) (pointee_at (held_by m) receiver) = subst (λ (c : ClassId). There (IsA w c) (pointee_at (held_by m) receiver)) owner is.there in
        let passes = object_passes w owed set m marks current (object_at receiver) (at_site (IsA w current) (held_by m) receiver there) in
        rw v.1.0 (subst (λ (u : Tagged). may_construct links class m u ≡ true) (sym is.is)
        (ap (λ (o : Option ClassId). option_map_or (λ current. is_own_or_direct links.classes class current && refers (is_of_class links.classes current) m (object_at receiver)) o false) runs
        ∙ subst (λ (classes : List Class). (is_own_or_direct classes class current && refers (is_of_class classes current) m (object_at receiver)) ≡ true) (sym linked)
        (and_true (is_own_or_direct w.classes class current) (refers (is_of_class w.classes current) m (object_at receiver)) own passes)))

    -- the receiver of another method by invokespecial
    both_target : (class current : ClassId) (given : List VType) (top : VType) (below : List VType) → f.stack ≡ given ++ top ∷ below → AreAssignable w.classes given (reverse (arguments_in w method))
        → IsAssignable w.classes top (vtype.Object current) → IsAssignable w.classes (vtype.Object current) (vtype.Object class) → code.current_class links m ≡ Some current
        → operand_is (length method.types.parameters) (is_of_both links class m) m ≡ true
    both_target class current given top below stack to may above runs =
        let v = below_them w owed set m marks method.types.parameters given top below to (typed_as (given ++ top ∷ below) stack) in
        let of_current = Fits-assignable w owed (held_by m) marks top (vtype.Object current) v.0 may v.1.1 in
        let of_named = Fits-assignable w owed (held_by m) marks (vtype.Object current) (vtype.Object class) v.0 above of_current in
        rw v.1.0 (and_true (refers (is_of_class links.classes class) m v.0) (current_is links (λ current. refers (is_of_class links.classes current) m v.0) m)
        (subst (λ (classes : List Class). refers (is_of_class classes class) m v.0 ≡ true) (sym linked) (object_passes w owed set m marks class v.0 of_named))
        (ap (λ (o : Option ClassId). option_map_or (λ current. refers (is_of_class links.classes current) m v.0) o false) runs
        ∙ subst (λ (classes : List Class). refers (is_of_class classes current) m v.0 ≡ true) (sym linked) (object_passes w owed set m marks current v.0 of_current)))

  static_row : (class : ClassId) (member : MemberIndex) → IsRow links w body (insn.Invoke kind.Static class member)
  unfolding effect checked.call call_static
  static_row class member asked fresh receiver f after m s at =
      let names : NamesStatic w member = s.names in
      let e = named_effect (insn.Invoke kind.Static class member) f after m s member names.method names.declared (λ method. checked.call body kind.Static class method f) after s.effect in
      let p = takes_all s.body_of.classes (arguments_of body names.method) f (give_result body names.method) after e in
      let r = result_given (insn.Invoke kind.Static class member) f after m s names.method (record f { stack = p.below }) p.further in
      let to = subst (λ (ts : List VType). AreAssignable w.classes p.given ts) (arguments_are s.body_of.classes names.method) p.to in
      let_pass w asked (held_by m) (may_call links kind.Static class member m) _
      (may_be_called asked fresh receiver f m names.method s.body_of.linked at kind.Static class member names.declared names.plain p.given p.below p.stack to refl)
      (subst (λ (classes : List Class). Leads w asked (held_by m) (code.call_static classes member m)) (sym s.body_of.linked)
      (subst (λ (o : Option Method). Leads w asked (held_by m) (on_some (λ (method : Method). acts.invoke (chosen (callee_of w.classes false (id_of w.classes member))) m) o)) (sym names.declared)
      (static_leads asked fresh receiver f m member names p.below
      (record { given = p.given; whole = p.stack; to = to }) r.0
      (next_is links w body (insn.Invoke kind.Static class member) f after m s (with_result (result_in w names.method) (record f { stack = p.below })) r.1 refl) at
      (callee_of w.classes false (id_of w.classes member)) refl)))

  virtual_row : (class : ClassId) (member : MemberIndex) → IsRow links w body (insn.Invoke kind.Virtual class member)
  unfolding effect checked.call call_virtual
  virtual_row class member asked fresh receiver f after m s at =
      let names : NamesVirtual w class member = s.names in
      let e = named_effect (insn.Invoke kind.Virtual class member) f after m s member names.method names.declared (λ method. checked.call body kind.Virtual class method f) after s.effect in
      let p = receives s.body_of.classes (arguments_of body names.method) class f (give_result body names.method) after e in
      let r = result_given (insn.Invoke kind.Virtual class member) f after m s names.method (record f { stack = p.below }) p.further in
      let to = subst (λ (ts : List VType). AreAssignable w.classes p.given ts) (arguments_are s.body_of.classes names.method) p.to in
      let_pass w asked (held_by m) (may_call links kind.Virtual class member m) _
      (may_be_called asked fresh receiver f m names.method s.body_of.linked at kind.Virtual class member names.declared names.plain p.given (p.top ∷ p.below) p.stack to
      (target_of asked fresh receiver f m names.method s.body_of.linked at class p.given p.top p.below p.stack to p.may))
      (subst (λ (classes : List Class). Leads w asked (held_by m) (code.call_virtual classes member m)) (sym s.body_of.linked)
      (subst (λ (o : Option Method). Leads w asked (held_by m) (on_some (λ (method : Method). code.call_receiver w.classes method (λ below. selected_of w.classes below (id_of w.classes member)) m) o)) (sym names.declared)
      (receiver_leads asked fresh receiver f m class names.method (λ below. selected_of w.classes below (id_of w.classes member)) names.selects
      (code.invoke_on w.classes (λ below. selected_of w.classes below (id_of w.classes member))) tt (λ b. refl)
      (arrays_select asked fresh receiver f m (λ below. selected_of w.classes below (id_of w.classes member)) names.selects.object)
      (λ reference foreign. inl (arrays_select asked fresh receiver f m (λ below. selected_of w.classes below (id_of w.classes member)) names.selects.object))
      p.given p.top p.below p.stack to p.may r.0
      (next_is links w body (insn.Invoke kind.Virtual class member) f after m s (with_result (result_in w names.method) (record f { stack = p.below })) r.1 refl) at)))

  interface_row : (count : ℕ) (class : ClassId) (member : MemberIndex) → IsRow links w body (insn.InvokeInterface count class member)
  unfolding effect call_interface
  interface_row count class member asked fresh receiver f after m s at =
      let names : NamesInterface w class member = s.names in
      let e = named_effect (insn.InvokeInterface count class member) f after m s member names.method names.declared (λ method. call_interface body count class method f) after s.effect in
      let test = count == suc (length names.method.types.parameters) in
      let p = receives s.body_of.classes (arguments_of body names.method) class f (λ g. demand rule.Mismatch test g >>= give_result body names.method) after
      (sym (in_turn (take_all body (arguments_of body names.method) f >>= take body (want.Fits (vtype.Object class))) (demand rule.Mismatch test) (give_result body names.method)) ∙ e) in
      let last = passes_then (demand rule.Mismatch test (record f { stack = p.below })) (give_result body names.method) after p.further in
      let met = demanded rule.Mismatch test (record f { stack = p.below }) last.0 last.1.0 in
      let r = result_given (insn.InvokeInterface count class member) f after m s names.method (record f { stack = p.below })
      (subst (λ (g : Frame). give_result body names.method g ≡ Ok after) (sym met.1) last.1.1) in
      let enters = next_is links w body (insn.InvokeInterface count class member) f after m s (with_result (result_in w names.method) (record f { stack = p.below })) r.1 refl in
      let to = subst (λ (ts : List VType). AreAssignable w.classes p.given ts) (arguments_are s.body_of.classes names.method) p.to in
      let_pass w asked (held_by m) (may_call links kind.Virtual class member m) _
      (may_be_called asked fresh receiver f m names.method s.body_of.linked at kind.Virtual class member names.declared names.plain p.given (p.top ∷ p.below) p.stack to
      (target_of asked fresh receiver f m names.method s.body_of.linked at class p.given p.top p.below p.stack to p.may))
      (subst (λ (classes : List Class). Leads w asked (held_by m) (code.call_interface classes class member m)) (sym s.body_of.linked)
      (subst (λ (o : Option Method). Leads w asked (held_by m) (on_some (λ (method : Method). on_referent (length method.types.parameters) (code.invoke_interface w.classes class (id_of w.classes member) method) m) o)) (sym names.declared)
      (receiver_leads asked fresh receiver f m class names.method (λ below. interface_selected w.classes below class (id_of w.classes member)) names.selects
      (code.invoke_interface w.classes class (id_of w.classes member) names.method) tt (λ b. refl)
      (arrays_select asked fresh receiver f m (λ below. interface_selected w.classes below class (id_of w.classes member)) names.selects.object)
      (λ reference foreign. inr (stub_leads asked fresh receiver f m class member names p.given p.top p.below p.stack to p.may
      (depth_at asked fresh receiver f m (insn.InvokeInterface count class member) after s at) r.0 enters at reference foreign))
      p.given p.top p.below p.stack to p.may r.0 enters at)))

  -- ---- invokespecial

  module _ (class : ClassId) (member : MemberIndex) (asked : Option VType) (fresh : ℕ → Site) (receiver : Site) (f after : Frame) (m : Machine)
      (s : StandsAt links w body (insn.Invoke kind.Special class member) f after m) (at : IsAt w asked fresh receiver f m) where
    abbrev Leads_to : Next → Type 0
    Leads_to = Leads w asked (held_by m)

    -- of what is no `<init>`
    super_leads : (names : NamesSpecial w body.class_id class member) → is_init names.method ≡ false → call_super body class names.method f ≡ Ok after
        → Leads_to (on_some (λ current. on_referent (length names.method.types.parameters) (code.invoke_unless_null (selected_of w.classes (special_start w.classes current class) (id_of w.classes member))) m) (Some body.class_id))
    unfolding call_super
    super_leads names other e =
        let test = is_assignable body.classes (vtype.Object body.class_id) (vtype.Object class) in
        let p = receives s.body_of.classes (arguments_of body names.method) body.class_id f (λ g. demand rule.Mismatch test g >>= give_result body names.method) after
        (sym (in_turn (take_all body (arguments_of body names.method) f >>= take body (want.Fits (vtype.Object body.class_id))) (demand rule.Mismatch test) (give_result body names.method)) ∙ e) in
        let last = passes_then (demand rule.Mismatch test (record f { stack = p.below })) (give_result body names.method) after p.further in
        let met = demanded rule.Mismatch test (record f { stack = p.below }) last.0 last.1.0 in
        let r = result_given (insn.Invoke kind.Special class member) f after m s names.method (record f { stack = p.below })
        (subst (λ (g : Frame). give_result body names.method g ≡ Ok after) (sym met.1) last.1.1) in
        let above : IsObjectAssignable w.classes body.class_id class =
        object_above w.classes body.class_id class (assignable_by w.classes set (vtype.Object body.class_id) (vtype.Object class)
        (subst (λ (classes : List Class). is_assignable classes (vtype.Object body.class_id) (vtype.Object class) ≡ true) s.body_of.classes met.0)) in
        receiver_leads asked fresh receiver f m body.class_id names.method (λ below. selected_of w.classes (special_start w.classes body.class_id class) (id_of w.classes member))
        (names.selects other above)
        (code.invoke_unless_null (selected_of w.classes (special_start w.classes body.class_id class) (id_of w.classes member))) tt (λ b. refl) refl (λ reference foreign. inl refl)
        p.given p.top p.below p.stack (subst (λ (ts : List VType). AreAssignable w.classes p.given ts) (arguments_are s.body_of.classes names.method) p.to) p.may r.0
        (next_is links w body (insn.Invoke kind.Special class member) f after m s (with_result (result_in w names.method) (record f { stack = p.below })) r.1 refl) at

    -- of an `<init>`
    construct_leads : (arguments : List VType) (callee : Callee) → Constructs w class callee arguments → (given below : List VType) → f.stack ≡ given ++ below
        → AreAssignable w.classes given (reverse arguments) → OnMade body class (record f { stack = below }) after ⊎ OnThis body class (record f { stack = below }) after
        → Leads_to (acts.construct callee m)
    construct_leads arguments callee runs given below stack to (inl on) =
        calls.construct_new-leads w owed asked (held_by m) fresh receiver callee on.offset f.flag_this_uninit f on.below m runs.agrees runs.init
        (record {
          given = given;
          whole = subst (λ (ts : List VType). f.stack ≡ given ++ ts) on.stack stack;
          to = subst (λ (ts : List VType). AreAssignable w.classes given (reverse ts)) (sym runs.passed) to;
        })
        (s.body_of.made on.offset ∙ (named_by (made_at body.insns body.offsets on.offset) class on.made ∙ ap (λ (c : ClassId). Some c) (sym runs.owner)))
        (next_is links w body (insn.Invoke kind.Special class member) f after m s _
        (ap (λ (c : ClassId). record { locals = map (world.made_is on.offset c) f.locals; stack = map (world.made_is on.offset c) on.below; flag_this_uninit = f.flag_this_uninit }) runs.owner
        ∙ (ap (λ (ts : List VType). record { locals = ts; stack = map (world.made_is on.offset class) on.below; flag_this_uninit = f.flag_this_uninit }) (same_made_is on.offset class f.locals)
        ∙ (ap (λ (ts : List VType). record { locals = map (changes.made_is on.offset class) f.locals; stack = ts; flag_this_uninit = f.flag_this_uninit }) (same_made_is on.offset class on.below)
        ∙ on.after))) refl) at
    construct_leads arguments callee runs given below stack to (inr on) =
        calls.construct_this-leads w owed asked (held_by m) fresh receiver callee false f on.below m runs.agrees runs.init
        (record {
          given = given;
          whole = subst (λ (ts : List VType). f.stack ≡ given ++ ts) on.stack stack;
          to = subst (λ (ts : List VType). AreAssignable w.classes given (reverse ts)) (sym runs.passed) to;
        })
        (subst (λ (c : ClassId). IsObjectAssignable w.classes (w.method m.stack.frame.method).owner c) (sym runs.owner)
        (subst (λ (c : ClassId). IsObjectAssignable w.classes c class) s.body_of.owner (own_above on.own)))
        (next_is links w body (insn.Invoke kind.Special class member) f after m s _
        (ap (λ (c : ClassId). record { locals = map (world.this_is c) f.locals; stack = map (world.this_is c) on.below; flag_this_uninit = false }) (sym s.body_of.owner)
        ∙ (ap (λ (ts : List VType). record { locals = ts; stack = map (world.this_is body.class_id) on.below; flag_this_uninit = false }) (same_this_is body.class_id f.locals)
        ∙ (ap (λ (ts : List VType). record { locals = map (changes.this_is body.class_id) f.locals; stack = ts; flag_this_uninit = false }) (same_this_is body.class_id on.below)
        ∙ on.after))) refl) at
      where
        own_above : is_own_init body class ≡ true → IsObjectAssignable w.classes body.class_id class
        own_above own =
            elim (either (nat_eq class.0 body.class_id.0) (is_own_superclass body class) own) [
              | inl same ↦ inr (subst (λ (c : ClassId). IsSubclass w.classes body.class_id c) (sym (equal class body.class_id same)) (itself body.class_id))
              | inr up ↦ inr (superclass_above w.classes body.class_id class
                  (subst (λ (classes : List Class). superclass_of classes body.class_id ≡ Some class) s.body_of.classes (named_by (superclass_of body.classes body.class_id) class up)))
            ]

    init_leads : (names : NamesSpecial w body.class_id class member) → is_init names.method ≡ true → (take_all body (arguments_of body names.method) f >>= construct body class) ≡ Ok after
        → (o : Option Callee) → callee_of w.classes (init_begins_uninit w.classes member.class) (id_of w.classes member) ≡ o → Leads_to (code.construct_chosen (chosen o) m)
    init_leads names init e None is = tt
    init_leads names init e (Some callee) is =
        let p = takes_all s.body_of.classes (arguments_of body names.method) f (construct body class) after e in
        construct_leads (arguments_in w names.method) callee (names.init init callee is) p.given p.below p.stack
        (subst (λ (ts : List VType). AreAssignable w.classes p.given ts) (arguments_are s.body_of.classes names.method) p.to)
        (constructed body class (record f { stack = p.below }) after p.further)

    -- the receiver and the arguments of an `<init>`
    init_target : (names : NamesSpecial w body.class_id class member) (given below : List VType) → f.stack ≡ given ++ below → AreAssignable w.classes given (reverse (arguments_in w names.method))
        → OnMade body class (record f { stack = below }) after ⊎ OnThis body class (record f { stack = below }) after
        → operand_is (length names.method.types.parameters) (may_construct links class m) m ≡ true
    init_target names given below stack to (inl on) =
        made_target asked fresh receiver f m names.method s.body_of.linked at class on.offset given on.below (subst (λ (ts : List VType). f.stack ≡ given ++ ts) on.stack stack) to
        (s.body_of.made on.offset ∙ named_by (made_at body.insns body.offsets on.offset) class on.made)
    init_target names given below stack to (inr on) =
        own_target asked fresh receiver f m names.method s.body_of.linked at class body.class_id given on.below (subst (λ (ts : List VType). f.stack ≡ given ++ ts) on.stack stack) to
        s.body_of.declared_by (sym s.body_of.owner) (subst (λ (classes : List Class). is_own_or_direct classes class body.class_id ≡ true) s.body_of.classes on.own)

    special_passes : (names : NamesSpecial w body.class_id class member) (b : Bool) → is_init names.method ≡ b
        → (if b then take_all body (arguments_of body names.method) f >>= construct body class else call_super body class names.method f) ≡ Ok after
        → may_call links kind.Special class member m ≡ true
    unfolding call_super
    special_passes names true init e =
        let p = takes_all s.body_of.classes (arguments_of body names.method) f (construct body class) after e in
        let to = subst (λ (ts : List VType). AreAssignable w.classes p.given ts) (arguments_are s.body_of.classes names.method) p.to in
        may_be_called asked fresh receiver f m names.method s.body_of.linked at kind.Special class member names.declared names.plain p.given p.below p.stack to
        (rw init (init_target names p.given p.below p.stack to (constructed body class (record f { stack = p.below }) after p.further)))
    special_passes names false other e =
        let test = is_assignable body.classes (vtype.Object body.class_id) (vtype.Object class) in
        let p = receives s.body_of.classes (arguments_of body names.method) body.class_id f (λ g. demand rule.Mismatch test g >>= give_result body names.method) after
        (sym (in_turn (take_all body (arguments_of body names.method) f >>= take body (want.Fits (vtype.Object body.class_id))) (demand rule.Mismatch test) (give_result body names.method)) ∙ e) in
        let to = subst (λ (ts : List VType). AreAssignable w.classes p.given ts) (arguments_are s.body_of.classes names.method) p.to in
        let last = passes_then (demand rule.Mismatch test (record f { stack = p.below })) (give_result body names.method) after p.further in
        let met = demanded rule.Mismatch test (record f { stack = p.below }) last.0 last.1.0 in
        let above = assignable_by w.classes set (vtype.Object body.class_id) (vtype.Object class)
        (subst (λ (classes : List Class). is_assignable classes (vtype.Object body.class_id) (vtype.Object class) ≡ true) s.body_of.classes met.0) in
        may_be_called asked fresh receiver f m names.method s.body_of.linked at kind.Special class member names.declared names.plain p.given (p.top ∷ p.below) p.stack to
        (rw other (both_target asked fresh receiver f m names.method s.body_of.linked at class body.class_id p.given p.top p.below p.stack to p.may above s.body_of.declared_by))

    -- what a super call comes to, in a class of the set
    abbrev super_in : List Class → Method → Option ClassId → Next
    super_in classes method current =
        on_some (λ c. on_referent (length method.types.parameters) (code.invoke_unless_null (selected_of classes (special_start classes c class) (id_of classes member))) m) current

    special_by : (names : NamesSpecial w body.class_id class member) (b : Bool) → is_init names.method ≡ b
        → (if b then take_all body (arguments_of body names.method) f >>= construct body class else call_super body class names.method f) ≡ Ok after
        → Leads_to ((if b then code.construct_chosen (chosen (callee_of links.classes (init_begins_uninit links.classes member.class) (id_of links.classes member)))
        else code.call_super links class names.method (id_of links.classes member)) m)
    special_by names true init e =
        subst (λ (classes : List Class). Leads_to (code.construct_chosen (chosen (callee_of classes (init_begins_uninit classes member.class) (id_of classes member))) m)) (sym s.body_of.linked)
        (init_leads names init e (callee_of w.classes (init_begins_uninit w.classes member.class) (id_of w.classes member)) refl)
    special_by names false other e =
        subst (λ (current : Option ClassId). Leads_to (super_in links.classes names.method current)) (sym s.body_of.declared_by)
        (subst (λ (classes : List Class). Leads_to (super_in classes names.method (Some body.class_id))) (sym s.body_of.linked) (super_leads names other e))

    special_at : Leads_to (where_true (may_call links kind.Special class member m) (code.call_special links class member m))
    unfolding effect checked.call call_special
    special_at =
        let names : NamesSpecial w body.class_id class member = s.names in
        let e = named_effect (insn.Invoke kind.Special class member) f after m s member names.method names.declared (λ method. checked.call body kind.Special class method f) after s.effect in
        let there : method_in links.classes (method_of member) ≡ Some names.method =
        subst (λ (classes : List Class). method_in classes (method_of member) ≡ Some names.method) (sym s.body_of.linked) names.declared in
        let_pass w asked (held_by m) (may_call links kind.Special class member m) _ (special_passes names (is_init names.method) refl e)
        (subst (λ (o : Option Method). Leads_to (on_some (λ (method : Method). code.call_special_of links class member method m) o)) (sym there) (special_by names (is_init names.method) refl e))

  invoke_row : (how : InvokeKind) (class : ClassId) (member : MemberIndex) → IsRow links w body (insn.Invoke how class member)
  invoke_row kind.Virtual class member = virtual_row class member
  invoke_row kind.Special class member = special_at class member
  invoke_row kind.Static class member = static_row class member

  pub rows : CallRows links w body
  rows = record { invoke = invoke_row; invoke_interface = interface_row }
