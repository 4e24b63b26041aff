-- Calls: what they lead to is not stuck and fits.
use Rattle.std.proofs.Common.{◌≡◌, ℕ, zero, suc, ◌+◌, ◌-◌, ◌≤◌, Bool, true, false, List, [], ◌∷◌, ◌++◌, length, map, take, drop, reverse, refl, ap, sym, subst, ◌∙◌, arith, Option, Some, None, inr, length-append, le-leb}
use Rattle.std.specs.Prelude.{nat_le, nat_lt, replicate, slice_get, if◌then◌else◌}
use Rattle.std.specs.List.{AllZip, list_all}
use Rattle.std.proofs.lemmas.Bool.{eq-eqb, lt-ltb}
use Rattle.std.proofs.lemmas.List.{reverse-append, reverse-reverse, length-reverse}
use Rattle.space_ids.specs.declared.ids.ClassId.{ClassId}
use Rattle.cls_set.specs.Subtypes.IsSubclass.{itself}
use Rattle.ver_frames.specs.Frames.{Frame}
use Rattle.ver_frames.specs.Assignable.{IsObjectAssignable}
use Rattle.ver_frames.specs.declared.vtype.VType.{VType}
use Rattle.ver_frames.specs.declared.vtype.VType.TheVariants as vtype
use Rattle.vm_heap.specs.References.{Table}
use Rattle.vm_heap.specs.Tagged.{Tagged, Site, HeapAddress, ReferenceRow, Local, Remote, Fresh, This, Unset, after_init, object_at}
use Rattle.vm_heap.specs.Heap.{Object, Ints, Store}
use Rattle.vm_stack.specs.Frames as frames
use Rattle.vm_stack.specs.Frames.{Frames, entered, at_index, pushed, begun, initialised, frame_cost}
use Rattle.vm_act.specs.Next.{Next, On, Ends}
use Rattle.vm_act.specs.Steps.{on_uninitialised, is_initialised}
use Rattle.vm_act.specs.Calls.{are_passed, enter, unchanged, call, begin_receiver, construct, left}
use Rattle.vm_act.specs.declared.machine.Machine.{Machine}
use Rattle.vm_act.specs.declared.calls.Callee.{Callee}
use Rattle.vm_act.specs.declared.ending.Ending.TheVariants as ending
use Rattle.vm_act.specs.declared.ending.Thrown.TheVariants as thrown
use Rattle.vm_typing.specs.World.{World, MethodType, init_receiver, parameters, opening, Enters, made_is, this_is}
use Rattle.vm_typing.specs.Fits.{Held, Pointee, OfHeap, OfSpace, OfStub, pointee_at, held_by, held_in, no_site, IsA, IsOf, There, Marks, IsMade, IsReceiver, Fits, AllFit, HeapFits}
use Rattle.vm_typing.specs.Typed.{with_result, HasRoom, Waits, CallersWait, IsAt, IsTyped, marks_of}
use Rattle.vm_typing.specs.Owed.{Owed, IsCallee, Passes}
use Rattle.vm_typing.specs.Leads.{LeadsTo}
use Rattle.vm_typing.specs.Runs.{first_frame}
use Rattle.vm_typing.proofs.Leads.{There-map, at_site, IsA-above, length-AllZip, FitsFrame-assignable}
use Rattle.vm_typing.proofs.Turns.{site_itself, turned_new, turned_own, map_fits, all_stay, AllZip-append, AllZip-reverse, all_plain_fit, all_plain_initialised, ArePlain-reverse, popped, take_front, drop_front, get_front, map-append, more_front}

pub parameters_normal : (m : MethodType) → m.is_init ≡ false → parameters m ≡ m.arguments
parameters_normal m e = rw e refl

parameters_init : (m : MethodType) → m.is_init ≡ true → parameters m ≡ init_receiver m.begins_uninit m.owner ∷ m.arguments
parameters_init m e = rw e refl

unset_fits : (w : World) (held : Held) (k : Marks) (n : ℕ) → AllFit w held k (replicate n vtype.Top) (replicate n Unset)
unset_fits w held k zero = tt
unset_fits w held k (suc n) = (tt, unset_fits w held k n)

-- what a call makes of the frames, when its operands lie on top
abbrev called_frames : Callee → List Tagged → List Tagged → Frames → Frames
called_frames callee values left s = record {
  frame = first_frame callee values;
  callers = record s.frame { operands = left; index = s.frame.index + 1 } ∷ s.callers;
  free = s.free - frame_cost callee.max_locals callee.max_stack;
}

entered_is : (callee : Callee) (s : Frames) (passed left : List Tagged) → s.frame.operands ≡ passed ++ left → length passed ≡ callee.arguments
    → entered callee.method callee.arguments callee.max_locals callee.max_stack (at_index (s.frame.index + 1) s) ≡ called_frames callee (reverse passed) left s
unfolding entered
entered_is callee s passed left whole count =
    let front : take callee.arguments s.frame.operands ≡ passed = rw (whole, ← count) (take_front passed left) in
    let back : drop callee.arguments s.frame.operands ≡ left = rw (whole, ← count) (drop_front passed left) in
    rw (front, back) refl

passed_true : (n : ℕ) (operands passed left : List Tagged) → operands ≡ passed ++ left → length passed ≡ n → list_all is_initialised passed ≡ true → are_passed n operands ≡ true
passed_true n operands passed left whole count all =
    let front : take n operands ≡ passed = rw (whole, ← count) (take_front passed left) in
    let long : length operands ≡ n + length left = ap length whole ∙ (length-append passed left ∙ ap (λ (k : ℕ). k + length left) count) in
    rw (front, all, le-leb n (length operands) (omega arith)) refl

-- the receiver of an `<init>` as it begins
abbrev receiver_value : Bool → Site → Tagged
receiver_value true site = This site
receiver_value false site = object_at site

begun_is : (b : Bool) (callee : Callee) (passed left : List Tagged) (site : Site) (s : Frames)
    → begin_receiver b (called_frames callee (reverse (passed ++ object_at site ∷ [])) left s) ≡ called_frames callee (receiver_value b site ∷ reverse passed) left s
begun_is true callee passed left (HeapAddress a) s = rw (reverse-append passed (Local a ∷ [])) refl
begun_is true callee passed left (ReferenceRow row) s = rw (reverse-append passed (Remote row ∷ [])) refl
begun_is false callee passed left site s = rw (reverse-append passed (object_at site ∷ [])) refl

receiver_fits : (w : World) (held : Held) (k : Marks) (b : Bool) → There (IsA w k.method.owner) (pointee_at held k.receiver)
    → Fits w held k (init_receiver b k.method.owner) (receiver_value b k.receiver)
receiver_fits w held k true there = record { is = refl; there = there }
receiver_fits w held k false there = at_site (IsA w k.method.owner) held k.receiver there

pub reversed : (w : World) (held : Held) (k : Marks) (types : List VType) (values : List Tagged) → AllFit w held k (reverse types) values → AllFit w held k types (reverse values)
reversed w held k types values fit =
    subst (λ (ts : List VType). AllFit w held k ts (reverse values)) (reverse-reverse types) (AllZip-reverse (Fits w held k) (reverse types) values fit)

IsOf-IsA : (w : World) (owed : Owed w) (class : ClassId) (x : Pointee) → IsOf w class x → IsA w class x
IsOf-IsA w owed class (OfHeap (Object c fs)) is = (is.1, subst (λ (d : ClassId). IsObjectAssignable w.classes c d) is.0 (inr (itself c)), tt)
IsOf-IsA w owed class (OfHeap (Ints items)) is = absurd is
IsOf-IsA w owed class (OfStub c) is = absurd is
IsOf-IsA w owed class (OfSpace c) is = (is.1, subst (λ (d : ClassId). IsObjectAssignable w.classes c d) is.0 (inr (itself c)), is.2)

turns_new : (o : ℕ) (site : Site) → after_init (Fresh o site) (Fresh o site) ≡ object_at site
unfolding after_init
turns_new o site = rw (eq-eqb o o refl, site_itself site) refl

turns_own : (site : Site) → after_init (This site) (This site) ≡ object_at site
unfolding after_init
turns_own site = rw (site_itself site) refl

pub on_left : {A B : Type 0} (R : A → B → Type 0) (t : A) (types : List A) (values : List B) → AllZip R (t ∷ types) values
    → (v : B) × ((left : List B) × ((values ≡ v ∷ left) × (R t v × AllZip R types left)))
on_left R t types [] fit = absurd fit
on_left R t types (v ∷ left) fit = (v, (left, (refl, (fit.0, fit.1))))

module _ (w : World) (owed : Owed w) (asked : Option VType) where
  abbrev Typed : Machine → Type 0
  Typed = IsTyped w asked

  begun-typed : (callee : Callee) (fresh : ℕ → Site) (receiver : Site) (values : List Tagged) (callers : List frames.Frame) (free : ℕ) (heap : Store) (references : Table) → IsCallee w callee
      → AllFit w (held_in heap references) (marks_of w callee.method fresh receiver) (parameters (w.method callee.method)) values
      → HeapFits w (held_in heap references) → CallersWait w asked (held_in heap references) (w.method callee.method).result callers
      → Typed (record { stack = record { frame = first_frame callee values; callers = callers; free = free }; heap = heap; references = references })
  begun-typed callee fresh receiver values callers free heap references agrees fit fits wait =
      let method : MethodType = w.method callee.method in
      let opens : Enters w callee.method 0 (opening method) = (owed.methods callee.method agrees.known).opens in
      let count : callee.max_locals - callee.arguments ≡ method.max_locals - length (parameters method) = rw (agrees.max_locals, agrees.arguments) refl in
      let unset : AllFit w (held_in heap references) (marks_of w callee.method fresh receiver) (replicate (method.max_locals - length (parameters method)) vtype.Top) (replicate (callee.max_locals - callee.arguments) Unset) =
      rw count (unset_fits w (held_in heap references) (marks_of w callee.method fresh receiver) (method.max_locals - length (parameters method))) in
      record {
        fresh = fresh;
        receiver = receiver;
        inside = opens.inside;
        at = record {
          frame = FitsFrame-assignable w owed (held_in heap references) fresh receiver (opening method) (method.frames 0) (first_frame callee values) opens.to record {
            known = agrees.known;
            locals = AllZip-append (Fits w (held_in heap references) (marks_of w callee.method fresh receiver)) (parameters method) (replicate (method.max_locals - length (parameters method)) vtype.Top)
                values (replicate (callee.max_locals - callee.arguments) Unset) fit unset;
            operands = tt;
            room = agrees.max_stack;
          };
          heap = fits;
          callers = wait;
        };
      }

  wait_more : (held : Held) (result : Option VType) (frame : frames.Frame) (callers : List frames.Frame) → Waits w held result frame
      → CallersWait w asked held (w.method frame.method).result callers → CallersWait w asked held result (frame ∷ callers)
  wait_more held result frame [] waits wait = absurd wait
  wait_more held result frame (below ∷ callers) waits wait = (waits, wait)

  -- a method that is started on values of its parameters, over one frame, is typed
  pub start-typed : (callee : Callee) (values : List Tagged) (lowest : frames.Frame) (free : ℕ) (heap : Store) (references : Table) → IsCallee w callee → (w.method callee.method).result ≡ asked
      → AllFit w (held_in heap references) (marks_of w callee.method (λ o. no_site) no_site) (parameters (w.method callee.method)) values → HeapFits w (held_in heap references)
      → Typed (record { stack = record { frame = first_frame callee values; callers = lowest ∷ []; free = free }; heap = heap; references = references })
  start-typed callee values lowest free heap references agrees result fit fits = begun-typed callee (λ o. no_site) no_site values (lowest ∷ []) free heap references agrees fit fits result

  module _ (held : Held) where
    abbrev Leads : Next → Type 0
    Leads = LeadsTo w asked held Typed

    -- a new frame, or no room for it
    enter-leads : (callee : Callee) (begin : Frames → Frames) (m : Machine) (after : Frames) → callee.arguments ≤ callee.max_locals
        → begin (entered callee.method callee.arguments callee.max_locals callee.max_stack (at_index (m.stack.frame.index + 1) m.stack)) ≡ after
        → Typed (record m { stack = after }) → Leads (enter callee begin m)
    enter-leads callee begin m after few is typed =
        rw (le-leb callee.arguments callee.max_locals few) (room (nat_le (frame_cost callee.max_locals callee.max_stack) m.stack.free))
      where
        room : (b : Bool) → Leads (if b
            then On (record m { stack = begin (entered callee.method callee.arguments callee.max_locals callee.max_stack (at_index (m.stack.frame.index + 1) m.stack)) })
            else Ends (ending.Threw thrown.StackOverflowError))
        room true = rw is typed
        room false = tt

    few : (callee : Callee) → IsCallee w callee → callee.arguments ≤ callee.max_locals
    few callee agrees = rw (agrees.arguments, agrees.max_locals) ((owed.methods callee.method agrees.known).locals)

    all_initialised : (callee : Callee) (held : Held) (k : Marks) (passed : List Tagged) → IsCallee w callee → AllFit w held k (w.method callee.method).arguments (reverse passed)
        → list_all is_initialised passed ≡ true
    all_initialised callee held k passed agrees fit =
        all_plain_initialised w held k (reverse (w.method callee.method).arguments) passed (ArePlain-reverse (w.method callee.method).arguments (owed.methods callee.method agrees.known).plain)
        (subst (λ (vs : List Tagged). AllFit w held k (reverse (w.method callee.method).arguments) vs) (reverse-reverse passed)
        (AllZip-reverse (Fits w held k) (w.method callee.method).arguments (reverse passed) fit))

    -- a call of a method that is no `<init>`
    pub passed-leads : (callee : Callee) (m : Machine) (k : Marks) (passed left : List Tagged) → IsCallee w callee → (w.method callee.method).is_init ≡ false
        → m.stack.frame.operands ≡ passed ++ left → AllFit w (held_by m) k (w.method callee.method).arguments (reverse passed) → HeapFits w (held_by m)
        → Waits w (held_by m) (w.method callee.method).result (record m.stack.frame { operands = left; index = m.stack.frame.index + 1 })
        → CallersWait w asked (held_by m) (w.method m.stack.frame.method).result m.stack.callers
        → Leads (call callee m)
    passed-leads callee m k passed left agrees normal whole fit fits waits wait =
        let method : MethodType = w.method callee.method in
        let plainly : parameters method ≡ method.arguments = parameters_normal method normal in
        let count : length passed ≡ callee.arguments =
        sym (length-reverse passed) ∙ (length-AllZip (Fits w (held_by m) k) method.arguments (reverse passed) fit ∙ (ap length (sym plainly) ∙ sym agrees.arguments)) in
        let own : Marks = marks_of w callee.method (λ o. no_site) no_site in
        let fit' : AllFit w (held_by m) own (parameters method) (reverse passed) =
        rw plainly (all_plain_fit w (held_by m) k own method.arguments (reverse passed) (owed.methods callee.method agrees.known).plain fit) in
        rw (passed_true callee.arguments m.stack.frame.operands passed left whole count (all_initialised callee (held_by m) k passed agrees fit))
        (enter-leads callee unchanged m (called_frames callee (reverse passed) left m.stack) (few callee agrees)
        (entered_is callee m.stack passed left whole count)
        (begun-typed callee (λ o. no_site) no_site (reverse passed) (record m.stack.frame { operands = left; index = m.stack.frame.index + 1 } ∷ m.stack.callers)
        (m.stack.free - frame_cost callee.max_locals callee.max_stack) m.heap m.references agrees fit' fits
        (wait_more (held_by m) method.result _ m.stack.callers waits wait)))

    -- an `<init>` on a value that turns into the object at an address
    turned-leads : (callee : Callee) (m : Machine) (k : Marks) (v : Tagged) (a : Site) (passed left : List Tagged) → IsCallee w callee
        → (w.method callee.method).is_init ≡ true → after_init v v ≡ object_at a → ((n : Next) → on_uninitialised n v ≡ n) → m.stack.frame.operands ≡ passed ++ v ∷ left
        → AllFit w (held_by m) k (w.method callee.method).arguments (reverse passed) → There (IsA w (w.method callee.method).owner) (pointee_at (held_by m) a) → HeapFits w (held_by m)
        → Waits w (held_by m) None (record (initialised v m.stack).frame { operands = map (after_init v) left; index = m.stack.frame.index + 1 })
        → CallersWait w asked (held_by m) (w.method m.stack.frame.method).result m.stack.callers
        → Leads (construct callee m)
    turned-leads callee m k v a passed left agrees init turns fresh_one whole fit there fits waits wait =
        let method : MethodType = w.method callee.method in
        let with_this : parameters method ≡ init_receiver method.begins_uninit method.owner ∷ method.arguments = parameters_init method init in
        let count : suc (length passed) ≡ callee.arguments =
        ap suc (sym (length-reverse passed) ∙ length-AllZip (Fits w (held_by m) k) method.arguments (reverse passed) fit) ∙ (ap length (sym with_this) ∙ sym agrees.arguments) in
        let back : list_all is_initialised passed ≡ true = all_initialised callee (held_by m) k passed agrees fit in
        let own : Marks = marks_of w callee.method (λ o. no_site) a in
        let receiver : Fits w (held_by m) own (init_receiver method.begins_uninit method.owner) (receiver_value callee.begins_uninit a) =
        rw agrees.begins_uninit (receiver_fits w (held_by m) own method.begins_uninit there) in
        let fit' : AllFit w (held_by m) own (parameters method) (receiver_value callee.begins_uninit a ∷ reverse passed) =
        rw with_this (receiver, all_plain_fit w (held_by m) k own method.arguments (reverse passed) (owed.methods callee.method agrees.known).plain fit) in
        let some : nat_lt 0 callee.arguments ≡ true = lt-ltb 0 callee.arguments (omega arith) in
        let long : length passed ≡ callee.arguments - 1 = omega arith in
        let found : slice_get m.stack.frame.operands (callee.arguments - 1) ≡ Some v = rw (whole, ← long) (get_front passed left v) in
        let s : Frames = initialised v m.stack in
        let whole' : s.frame.operands ≡ (passed ++ object_at a ∷ []) ++ map (after_init v) left =
        ap (map (after_init v)) whole ∙ (map-append (after_init v) passed (v ∷ left)
        ∙ (ap (λ (zs : List Tagged). zs ++ after_init v v ∷ map (after_init v) left) (all_stay v passed back)
        ∙ (ap (λ (u : Tagged). passed ++ u ∷ map (after_init v) left) turns ∙ more_front passed (map (after_init v) left) (object_at a)))) in
        let count' : length (passed ++ object_at a ∷ []) ≡ callee.arguments = omega (arith, length-append passed (object_at a ∷ [])) in
        let none : method.result ≡ None = (owed.methods callee.method agrees.known).void init in
        rw (some, found, fresh_one, passed_true (callee.arguments - 1) m.stack.frame.operands passed (v ∷ left) whole long back)
        (enter-leads callee (begin_receiver callee.begins_uninit) (record m { stack = s }) (called_frames callee (receiver_value callee.begins_uninit a ∷ reverse passed) (map (after_init v) left) s)
        (few callee agrees)
        (ap (begin_receiver callee.begins_uninit) (entered_is callee s (passed ++ object_at a ∷ []) (map (after_init v) left) whole' count') ∙ begun_is callee.begins_uninit callee passed (map (after_init v) left) a s)
        (begun-typed callee (λ o. no_site) a (receiver_value callee.begins_uninit a ∷ reverse passed)
        (record s.frame { operands = map (after_init v) left; index = m.stack.frame.index + 1 } ∷ m.stack.callers)
        (m.stack.free - frame_cost callee.max_locals callee.max_stack) m.heap m.references agrees fit' fits
        (wait_more (held_by m) method.result _ m.stack.callers (rw none waits) wait)))

    module _ (fresh : ℕ → Site) (receiver_at : Site) where
      abbrev Here : Frame → Machine → Type 0
      Here = IsAt w asked fresh receiver_at

      abbrev marks : Machine → Marks
      marks m = marks_of w m.stack.frame.method fresh receiver_at

      -- the caller, with what is left of its operands, waits for the result
      pub waits_for : (m : Machine) (f : Frame) (below : List VType) (left : List Tagged) (result : Option VType) → Here f m → AllFit w (held_by m) (marks m) below left
          → HasRoom (w.method m.stack.frame.method).max_stack result (record f { stack = below })
          → Enters w m.stack.frame.method (m.stack.frame.index + 1) (with_result result (record f { stack = below }))
          → Waits w (held_by m) result (record m.stack.frame { operands = left; index = m.stack.frame.index + 1 })
      waits_for m f below left result at rest room enters = record {
        fresh = fresh;
        receiver = receiver_at;
        given = record f { stack = below };
        fits = record { known = at.frame.known; locals = at.frame.locals; operands = rest; room = at.frame.room };
        has_room = room;
        enters = enters;
      }

      -- a call of a named method: invokestatic, and invokespecial of what is no `<init>`
      pub call-leads : (callee : Callee) (f : Frame) (below : List VType) (m : Machine) → IsCallee w callee → (w.method callee.method).is_init ≡ false
          → Passes w (reverse (w.method callee.method).arguments) f.stack below
          → HasRoom (w.method m.stack.frame.method).max_stack (w.method callee.method).result (record f { stack = below })
          → Enters w m.stack.frame.method (m.stack.frame.index + 1) (with_result (w.method callee.method).result (record f { stack = below }))
          → Here f m → Leads (call callee m)
      call-leads callee f below m agrees normal passes room enters at =
          let method : MethodType = w.method callee.method in
          let off = popped w owed (held_by m) (marks m) passes.given (reverse method.arguments) below m.stack.frame.operands passes.to (rw (← passes.whole) at.frame.operands) in
          passed-leads callee m (marks m) off.passed off.left agrees normal off.whole (reversed w (held_by m) (marks m) method.arguments off.passed off.fit) at.heap
          (waits_for m f below off.left method.result at off.rest room enters) at.callers

      -- the caller whose frame has turned
      turned_waits : (m : Machine) (f : Frame) (below : List VType) (left : List Tagged) (v : Tagged) (change : VType → VType) (flag : Bool) → Here f m → AllFit w (held_by m) (marks m) below left
          → ((t : VType) (u : Tagged) → Fits w (held_by m) (marks m) t u → Fits w (held_by m) (marks m) (change t) (after_init v u))
          → Enters w m.stack.frame.method (m.stack.frame.index + 1) (record { locals = map change f.locals; stack = map change below; flag_this_uninit = flag })
          → Waits w (held_by m) None (record (initialised v m.stack).frame { operands = map (after_init v) left; index = m.stack.frame.index + 1 })
      turned_waits m f below left v change flag at rest to enters = record {
        fresh = fresh;
        receiver = receiver_at;
        given = record { locals = map change f.locals; stack = map change below; flag_this_uninit = flag };
        fits = record {
          known = at.frame.known;
          locals = map_fits (Fits w (held_by m) (marks m)) change (after_init v) f.locals m.stack.frame.locals to at.frame.locals;
          operands = map_fits (Fits w (held_by m) (marks m)) change (after_init v) below left to rest;
          room = at.frame.room;
        };
        has_room = tt;
        enters = enters;
      }

      -- invokespecial of an `<init>` on an object that the `new` at an offset made; that `new` names the class of the `<init>`
      pub construct_new-leads : (callee : Callee) (offset : ℕ) (flag : Bool) (f : Frame) (below : List VType) (m : Machine) → IsCallee w callee → (w.method callee.method).is_init ≡ true
          → Passes w (reverse (w.method callee.method).arguments) f.stack (vtype.Uninitialized offset ∷ below)
          → (w.method m.stack.frame.method).made_at offset ≡ Some (w.method callee.method).owner
          → Enters w m.stack.frame.method (m.stack.frame.index + 1) (record {
            locals = map (made_is offset (w.method callee.method).owner) f.locals;
            stack = map (made_is offset (w.method callee.method).owner) below;
            flag_this_uninit = flag;
          })
          → Here f m → Leads (construct callee m)
      construct_new-leads callee offset flag f below m agrees init passes names enters at =
          let method : MethodType = w.method callee.method in
          let k : Marks = marks m in
          let off = popped w owed (held_by m) k passes.given (reverse method.arguments) (vtype.Uninitialized offset ∷ below) m.stack.frame.operands passes.to (rw (← passes.whole) at.frame.operands) in
          let top = on_left (Fits w (held_by m) k) (vtype.Uninitialized offset) below off.left off.rest in
          let made : IsMade w (held_by m) k offset top.0 = top.1.1.1.0 in
          let v : Tagged = Fresh (k.method.index_at offset) (fresh offset) in
          let of : There (IsOf w method.owner) (pointee_at (held_by m) (fresh offset)) =
          subst (λ (c : Option ClassId). There (λ (d : ClassId). There (IsOf w d) (pointee_at (held_by m) (fresh offset))) c) names made.there in
          let there : There (IsA w method.owner) (pointee_at (held_by m) (fresh offset)) =
          There-map (IsOf w method.owner) (IsA w method.owner) (pointee_at (held_by m) (fresh offset)) (IsOf-IsA w owed method.owner) of in
          turned-leads callee m k v (fresh offset) off.passed top.1.0 agrees init (turns_new (k.method.index_at offset) (fresh offset)) (λ n. refl)
          (off.whole ∙ ap (λ (zs : List Tagged). off.passed ++ zs) (top.1.1.0 ∙ ap (λ (u : Tagged). u ∷ top.1.0) made.is))
          (reversed w (held_by m) k method.arguments off.passed off.fit) there at.heap
          (turned_waits m f below top.1.0 v (made_is offset method.owner) flag at top.1.1.1.1 (λ t u. turned_new w (held_by m) k offset method.owner t u there made.at) enters) at.callers

      -- the same on the receiver of a running `<init>`; its class is that of the `<init>` called, or below it
      pub construct_this-leads : (callee : Callee) (flag : Bool) (f : Frame) (below : List VType) (m : Machine) → IsCallee w callee → (w.method callee.method).is_init ≡ true
          → Passes w (reverse (w.method callee.method).arguments) f.stack (vtype.UninitializedThis ∷ below)
          → IsObjectAssignable w.classes (w.method m.stack.frame.method).owner (w.method callee.method).owner
          → Enters w m.stack.frame.method (m.stack.frame.index + 1) (record {
            locals = map (this_is (w.method m.stack.frame.method).owner) f.locals;
            stack = map (this_is (w.method m.stack.frame.method).owner) below;
            flag_this_uninit = flag;
          })
          → Here f m → Leads (construct callee m)
      construct_this-leads callee flag f below m agrees init passes above enters at =
          let method : MethodType = w.method callee.method in
          let own : ClassId = (w.method m.stack.frame.method).owner in
          let k : Marks = marks m in
          let off = popped w owed (held_by m) k passes.given (reverse method.arguments) (vtype.UninitializedThis ∷ below) m.stack.frame.operands passes.to (rw (← passes.whole) at.frame.operands) in
          let top = on_left (Fits w (held_by m) k) vtype.UninitializedThis below off.left off.rest in
          let this : IsReceiver w (held_by m) k top.0 = top.1.1.1.0 in
          let v : Tagged = This receiver_at in
          let there : There (IsA w method.owner) (pointee_at (held_by m) receiver_at) =
          There-map (IsA w own) (IsA w method.owner) (pointee_at (held_by m) receiver_at) (λ x. IsA-above w owed own method.owner x above) this.there in
          turned-leads callee m k v receiver_at off.passed top.1.0 agrees init (turns_own receiver_at) (λ n. refl)
          (off.whole ∙ ap (λ (zs : List Tagged). off.passed ++ zs) (top.1.1.0 ∙ ap (λ (u : Tagged). u ∷ top.1.0) this.is))
          (reversed w (held_by m) k method.arguments off.passed off.fit) there at.heap
          (turned_waits m f below top.1.0 v (this_is own) flag at top.1.1.1.1 (λ t u. turned_own w (held_by m) k own t u this.there) enters) at.callers
