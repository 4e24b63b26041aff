-- Calls of stubs: what they ask of the space crosses, and with each reply that fits the machine goes on typed.
use Rattle.std.proofs.Common.{◌≡◌, ℕ, suc, ◌+◌, ◌<◌, ◌≤◌, Bool, true, false, ℤ, List, [], ◌∷◌, ◌++◌, length, drop, reverse, refl, ap, sym, subst, ◌∙◌, arith, Option, Some, None, length-append, le-leb}
use Rattle.std.specs.Prelude.{◌^◌, nat_le, nat_lt, IsSome, option_map, if◌then◌else◌, slice_get}
use Rattle.std.specs.List.{AllZip}
use Rattle.std.proofs.lemmas.List.{length-reverse}
use Rattle.space_ids.specs.declared.ids.ClassId.{ClassId}
use Rattle.space_ids.specs.declared.ids.Ref.{Ref}
use Rattle.space_ids.specs.declared.value.Value.{Value}
use Rattle.space_ids.specs.declared.value.Value.TheVariants as value
use Rattle.ver_frames.specs.Frames.{Frame}
use Rattle.ver_frames.specs.declared.vtype.VType.{VType}
use Rattle.ver_frames.specs.declared.vtype.VType.TheVariants as vtype
use Rattle.vm_heap.specs.Heap.{Cell, Ints, all_cost, cell_at, cost, with_new}
use Rattle.vm_heap.specs.Tagged.{Tagged, Site, HeapAddress, Int, Null, Local, Remote, Fresh, This, Unset, Head}
use Rattle.vm_act.specs.Crossing.{cell_value, crosses, reference_value, value_as, values_of, with_last_of}
use Rattle.vm_act.specs.Next.{Next, On, Ends}
use Rattle.vm_act.specs.Remote.{answered, ask, ask_call, push_copy, push_result}
use Rattle.vm_act.specs.Steps.{go_on, on_some, push, with_operands}
use Rattle.vm_act.specs.declared.asked.Asked.TheVariants as asked_for
use Rattle.vm_act.specs.declared.asked.Reply.{Reply}
use Rattle.vm_act.specs.declared.asked.Reply.TheVariants as reply
use Rattle.vm_act.specs.declared.crossing.Parameter.{Parameter}
use Rattle.vm_act.specs.declared.crossing.Parameter.TheVariants as parameter
use Rattle.vm_act.specs.declared.ending.Ending.TheVariants as ending
use Rattle.vm_act.specs.declared.ending.Thrown.TheVariants as thrown
use Rattle.vm_act.specs.declared.machine.Machine.{Machine}
use Rattle.vm_typing.specs.World.{World, Enters}
use Rattle.vm_typing.specs.Fits.{Held, Marks, Pointee, OfHeap, held_by, held_in, pointee_at, remote_pointee, IsA, IsInts, There, Points, Fits, AllFit, CellFits, HeapFits}
use Rattle.vm_typing.specs.Asking.{IsForeignObject, ReplyFits, ResultFits}
use Rattle.vm_typing.specs.Typed.{HasDepth, HasRoom, IsAt, IsTyped, marks_of, with_result}
use Rattle.vm_typing.specs.Owed.{Owed, Passes, Takes}
use Rattle.vm_typing.specs.Leads.{Completes, LeadsTo}
use Rattle.vm_typing.proofs.Asks.{on_held-completes, pushed}
use Rattle.vm_typing.proofs.Calls.{on_left}
use Rattle.vm_typing.proofs.Kept.{Keeps, AllCells-add, AllCells-map, CellFits-keeps, added-Keeps, cell_at-new}
use Rattle.vm_typing.proofs.Leads.{go_on-leads, length-AllZip}
use Rattle.vm_typing.proofs.Objects.{with_heap}
use Rattle.vm_typing.proofs.Turns.{AllZip-reverse, drop_front, popped}

-- a value that is there is of the kind that its parameter asks
cell_some : (P : Pointee → Type 0) (p : Parameter) (o : Option Cell) → There P (option_map (λ cell. OfHeap cell) o) → IsSome (option_map (cell_value p) o)
cell_some P p None there = absurd there
cell_some P p (Some cell) there = refl

row_some : (P : Pointee → Type 0) (held : Held) (o : Option Ref) → There P (option_map (remote_pointee held.references) o)
    → IsSome (option_map (λ (reference : Ref). Some (value.Ref reference)) o)
row_some P held None there = absurd there
row_some P held (Some reference) there = refl

reference_some : (P : Pointee → Type 0) (held : Held) (p : Parameter) (v : Tagged) → Points P held v → IsSome (reference_value p held.references held.cells v)
reference_some P held p Null fits = refl
reference_some P held p (Local a) fits = cell_some P p (cell_at held.cells a) fits
reference_some P held p (Remote row) fits = row_some P held (slice_get held.references.rows row) fits
reference_some P held p (Int n) fits = absurd fits
reference_some P held p (Fresh index site) fits = absurd fits
reference_some P held p (This site) fits = absurd fits
reference_some P held p Unset fits = absurd fits
reference_some P held p (Head header) fits = absurd fits

value_some : (w : World) (held : Held) (k : Marks) (p : Parameter) (t : VType) (v : Tagged) → Takes p t → Fits w held k t v → IsSome (value_as p held.references held.cells v)
value_some w held k parameter.Int vtype.Int (Int n) takes fits = refl
value_some w held k parameter.Int vtype.Int Null takes fits = absurd fits
value_some w held k parameter.Int vtype.Int (Local a) takes fits = absurd fits
value_some w held k parameter.Int vtype.Int (Remote row) takes fits = absurd fits
value_some w held k parameter.Int vtype.Int (Fresh index site) takes fits = absurd fits
value_some w held k parameter.Int vtype.Int (This site) takes fits = absurd fits
value_some w held k parameter.Int vtype.Int Unset takes fits = absurd fits
value_some w held k parameter.Int vtype.Int (Head header) takes fits = absurd fits
value_some w held k parameter.Ints vtype.IntArray v takes fits = reference_some IsInts held parameter.Ints v fits
value_some w held k parameter.Reference (vtype.Object c) v takes fits = reference_some (IsA w c) held parameter.Reference v fits
value_some w held k p t v takes fits = absurd takes

joined : (last : Option (Option Value)) (values : Option (Option (List Value))) → IsSome last → IsSome values → IsSome (with_last_of last values)
joined None values some all = absurd (cc)
joined (Some last) None some all = absurd (cc)
joined (Some last) (Some values) some all = refl

-- so are all arguments
values_some : (w : World) (held : Held) (k : Marks) (ps : List Parameter) (ts : List VType) (values left : List Tagged) → AllZip Takes ps ts → AllFit w held k ts values
    → IsSome (values_of ps held.references held.cells (values ++ left))
unfolding values_of
values_some w held k [] [] [] left takes fits = refl
values_some w held k [] [] (v ∷ values) left takes fits = absurd fits
values_some w held k [] (t ∷ ts) values left takes fits = absurd takes
values_some w held k (p ∷ ps) [] values left takes fits = absurd takes
values_some w held k (p ∷ ps) (t ∷ ts) [] left takes fits = absurd fits
values_some w held k (p ∷ ps) (t ∷ ts) (v ∷ values) left takes fits =
    joined (value_as p held.references held.cells v) (values_of ps held.references held.cells (values ++ left))
    (value_some w held k p t v takes.0 fits.0) (values_some w held k ps ts values left takes.1 fits.1)

locals_with : (result : Option VType) (f : Frame) → (with_result result f).locals ≡ f.locals
locals_with None f = refl
locals_with (Some t) f = refl

module _ (w : World) (owed : Owed w) (asked : Option VType) (held : Held) (fresh : ℕ → Site) (receiver : Site) where
  abbrev Typed : Machine → Type 0
  Typed = IsTyped w asked

  abbrev Here : Frame → Machine → Type 0
  Here = IsAt w asked fresh receiver

  abbrev Leads : Next → Type 0
  Leads = LeadsTo w asked held Typed

  abbrev Done : Held → Next → Type 0
  Done over = Completes w asked over Typed

  abbrev marks : Machine → Marks
  marks m = marks_of w m.stack.frame.method fresh receiver

  -- a copy of an array is pushed, if it fits
  push_copy-completes : (elements : List ℤ) (f : Frame) (m : Machine) → length f.stack < (w.method m.stack.frame.method).max_stack
      → Enters w m.stack.frame.method (m.stack.frame.index + 1) (record f { stack = vtype.IntArray ∷ f.stack }) → Here f m
      → Done (held_by m) (push_copy elements m)
  push_copy-completes elements f m room enters at = short (nat_lt (length elements) (2 ^ 31))
    where
      after : Machine
      after = record m { heap = with_new (Ints elements) m.heap }

      keeps : Keeps (held_by m) (held_in (with_new (Ints elements) m.heap) m.references)
      keeps = added-Keeps (held_by m) (Ints elements)

      cells_fit : HeapFits w (held_in (with_new (Ints elements) m.heap) m.references)
      cells_fit =
          AllCells-add (CellFits w (held_in (with_new (Ints elements) m.heap) m.references)) m.heap.cells (Ints elements)
          (AllCells-map (CellFits w (held_by m)) (CellFits w (held_in (with_new (Ints elements) m.heap) m.references)) m.heap.cells
          (λ x. CellFits-keeps w (held_by m) (held_in (with_new (Ints elements) m.heap) m.references) x keeps) at.heap) tt

      there : There IsInts (pointee_at (held_in (with_new (Ints elements) m.heap) m.references) (HeapAddress (all_cost m.heap.cells)))
      there = rw (cell_at-new m.heap.cells (Ints elements)) tt

      fits : (b : Bool) → Done (held_by m) (if b then push (Local (all_cost m.heap.cells)) go_on (record m { heap = with_new (Ints elements) m.heap })
          else Ends (ending.Threw thrown.OutOfMemoryError))
      fits true =
          pushed w owed asked held fresh receiver (held_by m) (Local (all_cost m.heap.cells)) vtype.IntArray f (record m { heap = with_new (Ints elements) m.heap }) room enters
          (with_heap w owed asked held fresh receiver f m (with_new (Ints elements) m.heap) keeps cells_fit at) there
      fits false = tt

      short : (b : Bool) → Done (held_by m) (if b
          then (if nat_le (cost (Ints elements)) m.heap.free then push (Local (all_cost m.heap.cells)) go_on (record m { heap = with_new (Ints elements) m.heap })
          else Ends (ending.Threw thrown.OutOfMemoryError))
          else Ends (ending.Threw thrown.OutOfMemoryError))
      short true = fits (nat_le (cost (Ints elements)) m.heap.free)
      short false = tt

  -- what a call gives is pushed
  push_result-completes : (result : Option VType) (given : Option Value) (f : Frame) (m : Machine) → ResultFits w m.references result given
      → HasRoom (w.method m.stack.frame.method).max_stack result f → Enters w m.stack.frame.method (m.stack.frame.index + 1) (with_result result f) → Here f m
      → Done (held_by m) (push_result given m)
  push_result-completes None None f m fits room enters at = go_on-leads w owed asked held fresh receiver f m enters at
  push_result-completes None (Some v) f m fits room enters at = absurd fits
  push_result-completes (Some t) None f m fits room enters at = absurd fits
  push_result-completes (Some vtype.Int) (Some (value.Int n)) f m fits room enters at =
      pushed w owed asked held fresh receiver (held_by m) (Int n) vtype.Int f m room enters at tt
  push_result-completes (Some (vtype.Object c)) (Some value.Null) f m fits room enters at =
      pushed w owed asked held fresh receiver (held_by m) Null (vtype.Object c) f m room enters at tt
  push_result-completes (Some (vtype.Object c)) (Some (value.Ref reference)) f m fits room enters at =
      on_held-completes w owed asked held fresh receiver reference (λ row. push (Remote row) go_on) f m at
      (λ row there all. pushed w owed asked held fresh receiver (held_by m) (Remote row) (vtype.Object c) f _ room enters all (rw there fits))
  push_result-completes (Some vtype.IntArray) (Some value.Null) f m fits room enters at =
      pushed w owed asked held fresh receiver (held_by m) Null vtype.IntArray f m room enters at tt
  push_result-completes (Some vtype.IntArray) (Some (value.Ints elements)) f m fits room enters at = push_copy-completes elements f m room enters at
  push_result-completes (Some t) (Some v) f m fits room enters at = absurd fits

  module _ (target : Ref) (method : ℕ) (class : ClassId) (arguments : List VType) (result : Option VType) (f : Frame) (below : List VType) (m : Machine)
      (takes : AllZip Takes (w.takes method) arguments) (gives : w.gives method ≡ result)
      (room : HasRoom (w.method m.stack.frame.method).max_stack result (record f { stack = below }))
      (enters : Enters w m.stack.frame.method (m.stack.frame.index + 1) (with_result result (record f { stack = below }))) (at : Here f m) where
    abbrev count : ℕ
    count = length (w.takes method)

    -- the reply: the arguments and the receiver go
    completes : (passed left : List Tagged) (v : Tagged) → m.stack.frame.operands ≡ passed ++ v ∷ left → length passed ≡ count → AllFit w (held_by m) (marks m) below left
        → (given : Reply) → ReplyFits w m.references (asked_for.Call target method count) given → Done (held_by m) (answered (asked_for.Call target method count) given m)
    completes passed left v whole size rest (reply.Made other) fits = absurd fits
    completes passed left v whole size rest (reply.Holds other) fits = absurd fits
    completes passed left v whole size rest reply.Written fits = absurd fits
    completes passed left v whole size rest (reply.Returned given fuel) fits =
        let enough : nat_le count (length m.stack.frame.operands) ≡ true =
        le-leb count (length m.stack.frame.operands) (omega (arith, ap length whole, length-append passed (v ∷ left), size)) in
        let gone : drop count m.stack.frame.operands ≡ v ∷ left = rw (whole, ← size) (drop_front passed (v ∷ left)) in
        let here : Here (record f { stack = below }) (with_operands left m) =
        record { frame = record { known = at.frame.known; locals = at.frame.locals; operands = rest; room = at.frame.room }; heap = at.heap; callers = at.callers } in
        rw (enough, gone)
        (push_result-completes result given (record f { stack = below }) (with_operands left m) (subst (λ (o : Option VType). ResultFits w m.references o given) gives fits) room enters here)
    completes passed left v whole size rest reply.RunsOut fits = tt
    completes passed left v whole size rest (reply.Throws class') fits = fits

    asks : (foreign : IsForeignObject w m.references target) (depth : HasDepth w m.stack.frame.method (length m.stack.frame.operands))
        (passed left : List Tagged) (v : Tagged) → m.stack.frame.operands ≡ passed ++ v ∷ left → length passed ≡ count → AllFit w (held_by m) (marks m) below left
        → (o : Option (Option (List Value))) → values_of (reverse (w.takes method)) m.references m.heap.cells m.stack.frame.operands ≡ o → IsSome o
        → Leads (on_some (λ (values : Option (List Value)). ask target method count (crosses values) m) o)
    asks foreign depth passed left v whole size rest None is some = absurd (cc)
    asks foreign depth passed left v whole size rest (Some values) is some = by (crosses values) refl
      where
        by : (b : Bool) → crosses values ≡ b → Leads (ask target method count b m)
        by false e = tt
        by true e = record {
          fits = foreign;
          call = (refl, ap (option_map crosses) is ∙ ap (λ (b : Bool). Some b) e);
          before = record {
            next = with_result result (record f { stack = below });
            known = at.frame.known;
            enters = enters;
            locals = length-AllZip (Fits w (held_by m) (marks m)) f.locals m.stack.frame.locals at.frame.locals ∙ ap length (sym (locals_with result (record f { stack = below })));
            operands = depth;
            callers = at.callers;
          };
          completes = completes passed left v whole size rest;
        }

  -- a call of a stub, by the number of a method whose parameters take values of these types
  pub ask_call-leads : (target : Ref) (method : ℕ) (class : ClassId) (arguments : List VType) (result : Option VType) (f : Frame) (below : List VType) (m : Machine)
      → IsForeignObject w m.references target → AllZip Takes (w.takes method) arguments → w.gives method ≡ result
      → Passes w (reverse arguments) f.stack (vtype.Object class ∷ below)
      → HasDepth w m.stack.frame.method (length m.stack.frame.operands)
      → HasRoom (w.method m.stack.frame.method).max_stack result (record f { stack = below })
      → Enters w m.stack.frame.method (m.stack.frame.index + 1) (with_result result (record f { stack = below }))
      → Here f m → Leads (ask_call target method (w.takes method) m)
  ask_call-leads target method class arguments result f below m foreign takes gives passes depth room enters at =
      let k : Marks = marks m in
      let off = popped w owed (held_by m) k passes.given (reverse arguments) (vtype.Object class ∷ below) m.stack.frame.operands passes.to (rw (← passes.whole) at.frame.operands) in
      let top = on_left (Fits w (held_by m) k) (vtype.Object class) below off.left off.rest in
      let whole : m.stack.frame.operands ≡ off.passed ++ top.0 ∷ top.1.0 = off.whole ∙ ap (λ (zs : List Tagged). off.passed ++ zs) top.1.1.0 in
      let some : IsSome (values_of (reverse (w.takes method)) m.references m.heap.cells m.stack.frame.operands) =
      subst (λ (vs : List Tagged). IsSome (values_of (reverse (w.takes method)) m.references m.heap.cells vs)) (sym whole)
      (values_some w (held_by m) k (reverse (w.takes method)) (reverse arguments) off.passed (top.0 ∷ top.1.0) (AllZip-reverse Takes (w.takes method) arguments takes) off.fit) in
      let size : length off.passed ≡ length (w.takes method) =
      length-AllZip (Fits w (held_by m) k) (reverse arguments) off.passed off.fit ∙ (length-reverse arguments ∙ length-AllZip Takes (w.takes method) arguments takes) in
      asks target method class arguments result f below m takes gives room enters at foreign depth off.passed top.1.0 top.0 whole size top.1.1.1.1
      (values_of (reverse (w.takes method)) m.references m.heap.cells m.stack.frame.operands) refl some
