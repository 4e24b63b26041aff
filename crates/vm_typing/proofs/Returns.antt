-- Returns: what they lead to is not stuck and fits, and a task ends with what its method's descriptor says.
use Rattle.std.proofs.Common.{◌≡◌, ℕ, ◌+◌, List, [], ◌∷◌, length, sym, subst, Option, Some, None}
use Rattle.space_ids.specs.declared.ids.ClassId.{ClassId}
use Rattle.space_ids.specs.declared.ids.Ref.{Ref}
use Rattle.ver_frames.specs.Frames.{Frame}
use Rattle.ver_frames.specs.Assignable.{IsAssignable}
use Rattle.ver_frames.specs.declared.vtype.VType.{VType}
use Rattle.ver_frames.specs.declared.vtype.VType.TheVariants as vtype
use Rattle.vm_heap.specs.Tagged.{Tagged, Site, Int, Null, Local, Remote, Fresh, This, Unset, Head}
use Rattle.vm_heap.specs.declared.heap.WordKind.TheVariants as kind
use Rattle.vm_stack.specs.Frames as frames
use Rattle.vm_stack.specs.Frames.{pushed, frame_cost}
use Rattle.vm_act.specs.Next.{On}
use Rattle.vm_act.specs.Steps.{on_some, push, with_operands}
use Rattle.vm_act.specs.Calls.{on_returned, leave, left, return_int, return_reference, return_nothing}
use Rattle.vm_act.specs.declared.asked.FieldValue.TheVariants as field
use Rattle.vm_act.specs.declared.machine.Machine.{Machine}
use Rattle.vm_act.specs.declared.ending.Ending.{Ending}
use Rattle.vm_act.specs.declared.ending.Ending.TheVariants as ending
use Rattle.vm_typing.specs.World.{World, IsPlain, Enters}
use Rattle.vm_typing.specs.Asking.{ValueFits}
use Rattle.vm_typing.specs.Fits.{Held, held_by, IsA, IsInts, There, Points, Marks, Fits, HeapFits, no_marks}
use Rattle.vm_typing.specs.Typed.{Waits, CallersWait, IsAt, IsTyped, marks_of}
use Rattle.vm_typing.specs.Owed.{Owed, Moves}
use Rattle.vm_typing.specs.Leads.{LeadsTo, IsGiven, reference_to}
use Rattle.vm_typing.proofs.Leads.{remote_row, no_array_away, plain_fits, FitsFrame-assignable, pop_typed-leads, pop_int-leads, push-leads}

module _ (w : World) (owed : Owed w) (asked : Option VType) where
  abbrev Typed : Machine → Type 0
  Typed = IsTyped w asked

  -- a machine in which a caller's frame runs again, on top of the others
  abbrev back_in : frames.Frame → frames.Frame → List frames.Frame → Machine → Machine
  back_in frame below callers m =
      record m { stack = record { frame = frame; callers = below ∷ callers; free = m.stack.free + frame_cost (length m.stack.frame.locals) m.stack.frame.room } }

  -- the frame of a caller stands at the instruction after its call
  stands : (m : Machine) (after : Frame) (fresh : ℕ → Site) (receiver : Site) → Enters w m.stack.frame.method m.stack.frame.index after → IsAt w asked fresh receiver after m → Typed m
  stands m after fresh receiver enters at = record {
    fresh = fresh;
    receiver = receiver;
    inside = enters.inside;
    at = record {
      frame = FitsFrame-assignable w owed (held_by m) fresh receiver after ((w.method m.stack.frame.method).frames m.stack.frame.index) m.stack.frame enters.to at.frame;
      heap = at.heap;
      callers = at.callers;
    };
  }

  value_left : (t : VType) (value : Tagged) (over : Ending) (m : Machine) (k : Marks) (callers : List frames.Frame) → IsPlain t → Fits w (held_by m) k t value → HeapFits w (held_by m)
      → CallersWait w asked (held_by m) (Some t) callers → (Some t ≡ asked → IsGiven w asked (held_by m) over) → LeadsTo w asked (held_by m) Typed (left (push value On) over m callers)
  value_left t value over m k [] plain fit fits wait gives = absurd wait
  value_left t value over m k (frame ∷ []) plain fit fits wait gives = gives wait
  value_left t value over m k (frame ∷ below ∷ callers) plain fit fits wait gives =
      let waits : Waits w (held_by m) (Some t) frame = wait.0 in
      let back : Machine = back_in frame below callers m in
      push-leads w owed asked (held_by m) waits.fresh waits.receiver Typed value On t waits.given back waits.has_room
      record { frame = waits.fits; heap = fits; callers = wait.1 }
      (plain_fits w (held_by m) k (marks_of w frame.method waits.fresh waits.receiver) t value plain fit)
      (λ all. stands (record back { stack = pushed value back.stack }) (record waits.given { stack = t ∷ waits.given.stack }) waits.fresh waits.receiver waits.enters all)

  nothing_left : (over : Ending) (m : Machine) (callers : List frames.Frame) → HeapFits w (held_by m) → CallersWait w asked (held_by m) None callers
      → (None ≡ asked → IsGiven w asked (held_by m) over) → LeadsTo w asked (held_by m) Typed (left On over m callers)
  nothing_left over m [] fits wait gives = absurd wait
  nothing_left over m (frame ∷ []) fits wait gives = gives wait
  nothing_left over m (frame ∷ below ∷ callers) fits wait gives =
      let waits : Waits w (held_by m) None frame = wait.0 in
      stands (back_in frame below callers m) waits.given waits.fresh waits.receiver waits.enters record { frame = waits.fits; heap = fits; callers = wait.1 }

  -- what is returned, if the task ends
  given_reference : (held : Held) (k : Marks) (t : VType) (address : Option ℕ) → IsPlain t → Fits w held k t (reference_to address) → Some t ≡ asked
      → IsGiven w asked held (ending.ReturnedReference address)
  given_reference held k t address plain fit is =
      subst (λ (a : Option VType). There (λ s. Fits w held no_marks s (reference_to address)) a) is (plain_fits w held k no_marks t (reference_to address) plain fit)

  module _ (fresh : ℕ → Site) (receiver : Site) where
    abbrev Here : Frame → Machine → Type 0
    Here = IsAt w asked fresh receiver

    abbrev marks : Machine → Marks
    marks m = marks_of w m.stack.frame.method fresh receiver

    -- ireturn, of a method that gives an int
    pub return_int-leads : (types : List VType) (f : Frame) (m : Machine) → f.stack ≡ vtype.Int ∷ types → (w.method m.stack.frame.method).result ≡ Some vtype.Int
        → Here f m → LeadsTo w asked (held_by m) Typed (return_int m)
    return_int-leads types f m e result at =
        pop_int-leads w owed asked (held_by m) fresh receiver Typed (λ n. leave (push (Int n) On) (ending.ReturnedInt n)) f types m e at
        (λ n below all. value_left vtype.Int (Int n) (ending.ReturnedInt n) (with_operands below m) (marks m) m.stack.callers tt tt at.heap
        (subst (λ (r : Option VType). CallersWait w asked (held_by m) r m.stack.callers) result at.callers) (λ is. sym is))

    -- what a value of a class is returned as
    on_object : (class : ClassId) (m : Machine) (v : Tagged) → IsPlain (vtype.Object class) → Points (IsA w class) (held_by m) v
        → ((over : Ending) → (Some (vtype.Object class) ≡ asked → IsGiven w asked (held_by m) over) → LeadsTo w asked (held_by m) Typed (leave (push v On) over m))
        → LeadsTo w asked (held_by m) Typed (on_returned (λ over. leave (push v On) over m) m v)
    on_object class m Null plain fits go = go (ending.ReturnedReference None) (given_reference (held_by m) (marks m) (vtype.Object class) None plain fits)
    on_object class m (Local a) plain fits go = go (ending.ReturnedReference (Some a)) (given_reference (held_by m) (marks m) (vtype.Object class) (Some a) plain fits)
    on_object class m (Int n) plain fits go = absurd fits
    on_object class m (Remote row) plain fits go =
        let r = remote_row (IsA w class) (held_by m) row fits in
        subst (λ (o : Option Ref). LeadsTo w asked (held_by m) Typed (on_some (λ reference. leave (push (Remote row) On) (ending.ReturnedRemote reference) m) o)) (sym r.is)
        (go (ending.ReturnedRemote r.reference)
        (λ is. subst (λ (a : Option VType). There (λ t. ValueFits w m.references t (field.Reference r.reference)) a) is r.fits))
    on_object class m (Fresh index site) plain fits go = absurd fits
    on_object class m (This site) plain fits go = absurd fits
    on_object class m Unset plain fits go = absurd fits
    on_object class m (Head header) plain fits go = absurd fits

    on_array : (m : Machine) (v : Tagged) → Points IsInts (held_by m) v
        → ((over : Ending) → (Some vtype.IntArray ≡ asked → IsGiven w asked (held_by m) over) → LeadsTo w asked (held_by m) Typed (leave (push v On) over m))
        → LeadsTo w asked (held_by m) Typed (on_returned (λ over. leave (push v On) over m) m v)
    on_array m Null fits go = go (ending.ReturnedReference None) (given_reference (held_by m) (marks m) vtype.IntArray None tt fits)
    on_array m (Local a) fits go = go (ending.ReturnedReference (Some a)) (given_reference (held_by m) (marks m) vtype.IntArray (Some a) tt fits)
    on_array m (Int n) fits go = absurd fits
    on_array m (Remote row) fits go = absurd (no_array_away (held_by m) row fits)
    on_array m (Fresh index site) fits go = absurd fits
    on_array m (This site) fits go = absurd fits
    on_array m Unset fits go = absurd fits
    on_array m (Head header) fits go = absurd fits

    value-leads : (t : VType) (m : Machine) (v : Tagged) → IsPlain t → Moves kind.Reference t → Fits w (held_by m) (marks m) t v
        → ((over : Ending) → (Some t ≡ asked → IsGiven w asked (held_by m) over) → LeadsTo w asked (held_by m) Typed (leave (push v On) over m))
        → LeadsTo w asked (held_by m) Typed (on_returned (λ over. leave (push v On) over m) m v)
    value-leads (vtype.Object c) m v plain moves fit go = on_object c m v plain fit go
    value-leads vtype.IntArray m v plain moves fit go = on_array m v fit go
    value-leads vtype.Top m v plain moves fit go = absurd plain
    value-leads vtype.Int m v plain moves fit go = absurd moves
    value-leads vtype.Null m v plain moves fit go = absurd plain
    value-leads (vtype.Uninitialized o) m v plain moves fit go = absurd plain
    value-leads vtype.UninitializedThis m v plain moves fit go = absurd plain

    -- areturn, if what is on top may stand for the result that the method gives, a reference
    pub return_reference-leads : (s t : VType) (types : List VType) (f : Frame) (m : Machine) → f.stack ≡ s ∷ types → IsAssignable w.classes s t
        → (w.method m.stack.frame.method).result ≡ Some t → Moves kind.Reference t → Here f m → LeadsTo w asked (held_by m) Typed (return_reference m)
    return_reference-leads s t types f m e to result moves at =
        let plain : IsPlain t = (owed.methods m.stack.frame.method at.frame.known).result t result in
        pop_typed-leads w owed asked (held_by m) fresh receiver Typed
        (λ value m. on_returned (λ over. leave (push value On) over m) m value) f s t types m e to at
        (λ value below fit all. value-leads t (with_operands below m) value plain moves fit
        (λ over gives. value_left t value over (with_operands below m) (marks m) m.stack.callers plain fit at.heap
        (subst (λ (r : Option VType). CallersWait w asked (held_by m) r m.stack.callers) result at.callers) gives))

    -- return, of a method that gives nothing
    pub return_nothing-leads : (f : Frame) (m : Machine) → (w.method m.stack.frame.method).result ≡ None → Here f m → LeadsTo w asked (held_by m) Typed (return_nothing m)
    return_nothing-leads f m result at =
        nothing_left ending.ReturnedNothing m m.stack.callers at.heap
        (subst (λ (r : Option VType). CallersWait w asked (held_by m) r m.stack.callers) result at.callers) (λ is. sym is)
