-- The instructions on remote objects, and on objects that may be remote: what they ask of the space is of typed words, and with each reply
-- that fits the machine goes on typed.
use Rattle.std.proofs.Common.{◌≡◌, ℕ, ◌+◌, ◌<◌, ◌≤◌, ◌∙◌, arith, Bool, true, false, List, [], ◌∷◌, length, map, refl, sym, subst, Option, Some, None}
use Rattle.std.specs.Prelude.{nat_lt, not, slice_get, if◌then◌else◌}
use Rattle.std.proofs.lemmas.List.{length-map}
use Rattle.std.specs.List.{list_all}
use Rattle.space_ids.specs.declared.ids.ClassId.{ClassId}
use Rattle.space_ids.specs.declared.ids.Ref.{Ref}
use Rattle.cls_set.specs.Subtypes.{IsRemote}
use Rattle.ver_frames.specs.Frames.{Frame}
use Rattle.ver_frames.specs.Assignable.{IsAssignable}
use Rattle.ver_frames.specs.declared.vtype.VType.{VType}
use Rattle.ver_frames.specs.declared.vtype.VType.TheVariants as vtype
use Rattle.vm_heap.specs.Heap.{with_field}
use Rattle.vm_heap.specs.References.{Table, row_for, with_reference}
use Rattle.vm_heap.specs.Tagged.{Tagged, Site, HeapAddress, ReferenceRow, Int, Null, Local, Remote, Fresh, This, Unset, Head}
use Rattle.vm_heap.specs.declared.heap.WordKind.{WordKind}
use Rattle.vm_heap.specs.declared.heap.WordKind.TheVariants as kind
use Rattle.vm_act.specs.Next.{Next, On, Asks, Stuck}
use Rattle.vm_act.specs.Objects.{put_at}
use Rattle.vm_act.specs.Remote.{answered, create, on_held, on_row, push_value, put_to, read_field, write_field}
use Rattle.vm_act.specs.Steps.{is_initialised, is_kind, push, go_on, with_operands}
use Rattle.vm_act.specs.declared.asked.Asked.TheVariants as ask
use Rattle.vm_act.specs.declared.asked.FieldValue.{FieldValue}
use Rattle.vm_act.specs.declared.asked.FieldValue.TheVariants as field
use Rattle.vm_act.specs.declared.asked.Reply.{Reply}
use Rattle.vm_act.specs.declared.asked.Reply.TheVariants as reply
use Rattle.vm_act.specs.declared.machine.Machine.{Machine}
use Rattle.vm_typing.specs.World.{World, IsKnown, IsPlain, Enters, is_made_at, cleared}
use Rattle.vm_typing.specs.Fits.{Held, Marks, OfSpace, OfStub, remote_pointee, held_by, held_in, no_marks, pointee_at, IsA, There, Points, Fits, CellFits, AllFit, HeapFits}
use Rattle.vm_typing.specs.Asking.{IsOwnObject, ReplyFits, ValueFits}
use Rattle.vm_typing.specs.Typed.{IsAt, IsTyped, StandsBefore, marks_of}
use Rattle.vm_typing.specs.Owed.{Owed, HasKind, MayWrite, Moves}
use Rattle.vm_typing.specs.Leads.{Completes, IsWaiting, LeadsTo}
use Rattle.vm_typing.proofs.Arrivals.{comes}
use Rattle.vm_typing.proofs.Kept.{Keeps, CellFits-keeps, AllCells-map, FitsFrame-keeps, CallersWait-keeps, with_field-Keeps}
use Rattle.vm_typing.proofs.Leads.{Fits-assignable, go_on-leads, kind_value, no_array_away, length-AllZip, own_row, remote_row, plain_fits, plain_initialised, push-leads}
use Rattle.vm_typing.proofs.Objects.{field_found, field_put, push_made-leads, with_heap}

-- what holds a value of a type moves as its kind
moves_of : (t : VType) (k : WordKind) → HasKind t k → Moves k t
moves_of vtype.Int kind.Int has = tt
moves_of (vtype.Object c) kind.Reference has = tt
moves_of vtype.IntArray kind.Reference has = tt
moves_of t k has = absurd has

module _ (w : World) (owed : Owed w) (asked : Option VType) (held : Held) (fresh : ℕ → Site) (receiver : Site) where
  abbrev Typed : Machine → Type 0
  Typed = IsTyped w asked

  abbrev Here : Frame → Machine → Type 0
  Here = IsAt w asked fresh receiver

  abbrev Leads : Next → Type 0
  Leads = LeadsTo w asked held Typed

  abbrev Done : Held → Next → Type 0
  Done over = Completes w asked over Typed

  abbrev marks : Machine → Marks
  marks m = marks_of w m.stack.frame.method fresh receiver

  -- a push asks for nothing
  quiet : (over : Held) (b : Bool) (m : Machine) → Leads (if b then On m else Stuck) → Done over (if b then On m else Stuck)
  quiet over true m leads = leads
  quiet over false m leads = leads

  -- a value is pushed, and the machine goes on at the next instruction
  pushed-leads : (value : Tagged) (t : VType) (f : Frame) (m : Machine) → length f.stack < (w.method m.stack.frame.method).max_stack
      → Enters w m.stack.frame.method (m.stack.frame.index + 1) (record f { stack = t ∷ f.stack }) → Here f m
      → Fits w (held_by m) (marks m) t value → Leads (push value go_on m)
  pushed-leads value t f m room enters at fit =
      push-leads w owed asked held fresh receiver Typed value go_on t f m room at fit (λ all. go_on-leads w owed asked held fresh receiver _ _ enters all)

  pub pushed : (over : Held) (value : Tagged) (t : VType) (f : Frame) (m : Machine) → length f.stack < (w.method m.stack.frame.method).max_stack
      → Enters w m.stack.frame.method (m.stack.frame.index + 1) (record f { stack = t ∷ f.stack }) → Here f m
      → Fits w (held_by m) (marks m) t value → Done over (push value go_on m)
  pushed over value t f m room enters at fit =
      quiet over (nat_lt (length m.stack.frame.operands) m.stack.frame.room) _ (pushed-leads value t f m room enters at fit)

  -- the task comes by a reference: all else fits as before
  with_references : (f : Frame) (m : Machine) (table : Table) → Keeps (held_by m) (held_in m.heap table) → Here f m → Here f (record m { references = table })
  with_references f m table keeps at = record {
    frame = FitsFrame-keeps w (held_by m) (held_in m.heap table) fresh receiver f m.stack.frame keeps at.frame;
    heap = AllCells-map (CellFits w (held_by m)) (CellFits w (held_in m.heap table)) m.heap.cells (λ x. CellFits-keeps w (held_by m) (held_in m.heap table) x keeps) at.heap;
    callers = CallersWait-keeps w asked (held_by m) (held_in m.heap table) (w.method m.stack.frame.method).result m.stack.callers keeps at.callers;
  }

  abbrev arrived : Ref → Machine → Machine
  arrived reference m = record m { references = with_reference reference m.references }

  -- a reference comes, or is one too many
  pub on_held-completes : (reference : Ref) (next : ℕ → Machine → Next) (f : Frame) (m : Machine) → Here f m
      → ((row : ℕ) → pointee_at (held_by (arrived reference m)) (ReferenceRow row) ≡ Some (remote_pointee m.references reference) → Here f (arrived reference m)
      → Done (held_by m) (next row (arrived reference m))) → Done (held_by m) (on_held reference next m)
  on_held-completes reference next f m at go = by (row_for reference m.references) refl
    where
      by : (o : Option ℕ) → row_for reference m.references ≡ o → Done (held_by m) (on_row (λ row. next row (arrived reference m)) o)
      by None is = tt
      by (Some row) is =
          let come = comes (held_by m) reference row is in
          go row come.there (with_references f m (with_reference reference m.references) come.keeps at)

  -- what a field holds is pushed
  push_value-completes : (t : VType) (value : FieldValue) (f : Frame) (m : Machine) → ValueFits w m.references t value
      → length f.stack < (w.method m.stack.frame.method).max_stack
      → Enters w m.stack.frame.method (m.stack.frame.index + 1) (record f { stack = t ∷ f.stack }) → Here f m
      → Done (held_by m) (push_value value m)
  push_value-completes vtype.Int (field.Int n) f m fits room enters at = pushed (held_by m) (Int n) vtype.Int f m room enters at tt
  push_value-completes (vtype.Object c) field.Null f m fits room enters at = pushed (held_by m) Null (vtype.Object c) f m room enters at tt
  push_value-completes vtype.IntArray field.Null f m fits room enters at = pushed (held_by m) Null vtype.IntArray f m room enters at tt
  push_value-completes (vtype.Object c) (field.Reference reference) f m fits room enters at =
      on_held-completes reference (λ row. push (Remote row) go_on) f m at
      (λ row there all. pushed (held_by m) (Remote row) (vtype.Object c) f (arrived reference m) room enters all (rw there fits))
  push_value-completes t value f m fits room enters at = absurd fits

  -- the frame after the instruction comes in at the next one
  before : (f next : Frame) (m : Machine) → Here f m → Enters w m.stack.frame.method (m.stack.frame.index + 1) next → length f.locals ≡ length next.locals
      → length f.stack ≤ length next.stack → StandsBefore w asked m
  before f next m at enters locals operands =
      let all_locals = length-AllZip (Fits w (held_by m) (marks m)) f.locals m.stack.frame.locals at.frame.locals in
      let all_operands = length-AllZip (Fits w (held_by m) (marks m)) f.stack m.stack.frame.operands at.frame.operands in
      let all_there = length-AllZip (IsAssignable w.classes) next.stack ((w.method m.stack.frame.method).frames (m.stack.frame.index + 1)).stack enters.to.stack in
      record {
        next = next;
        known = at.frame.known;
        enters = enters;
        locals = all_locals ∙ locals;
        operands = record { index = m.stack.frame.index + 1; inside = enters.inside; few = omega (arith, all_operands, all_there, operands) };
        callers = at.callers;
      }

  -- new of a remote class; no object of the instruction at this offset is on the stack
  pub create-leads : (class : ClassId) (offset : ℕ) (f : Frame) (m : Machine) → IsKnown w class → IsRemote w.classes class
      → m.stack.frame.index < (w.method m.stack.frame.method).count
      → (w.method m.stack.frame.method).offset_at m.stack.frame.index ≡ offset → (w.method m.stack.frame.method).made_at offset ≡ Some class
      → list_all (λ t. not (is_made_at offset t)) f.stack ≡ true → length f.stack < (w.method m.stack.frame.method).max_stack
      → Enters w m.stack.frame.method (m.stack.frame.index + 1) (record f { locals = map (cleared offset) f.locals; stack = vtype.Uninitialized offset ∷ f.stack })
      → Here f m → Leads (create class m)
  create-leads class offset f m known remote inside stands names none room enters at = record {
    fits = (known, remote);
    call = tt;
    before = before f _ m at enters (sym (length-map f.locals (cleared offset))) (omega arith);
    completes = by;
  }
    where
      made : (reference : Ref) → reference.class ≡ class → (c : ClassId) → c ≡ class → (c ≡ class) × IsKnown w c × IsRemote w.classes c
      made reference is c same = (same, subst (λ (d : ClassId). IsKnown w d) (sym same) known, subst (λ (d : ClassId). IsRemote w.classes d) (sym same) remote)

      by : (given : Reply) → ReplyFits w m.references (ask.Create class) given → Done (held_by m) (answered (ask.Create class) given m)
      by (reply.Made reference) fits =
          on_held-completes reference (λ row. push (Fresh m.stack.frame.index (ReferenceRow row)) go_on) f m at
          (λ row there all. quiet (held_by m) (nat_lt (length m.stack.frame.operands) m.stack.frame.room) _
          (push_made-leads w owed asked held fresh receiver class offset (ReferenceRow row) f (arrived reference m)
          (rw (there, fits.0) (made reference fits.1 reference.class fits.1)) inside stands names none room enters all))
      by (reply.Holds value) fits = absurd fits
      by reply.Written fits = absurd fits
      by (reply.Returned value fuel) fits = absurd fits
      by reply.RunsOut fits = absurd fits
      by (reply.Throws thrown) fits = fits

  -- the field of an own object that getfield asks for
  get-waits : (reference : Ref) (slot : ℕ) (t : VType) (f : Frame) (m : Machine) → IsOwnObject w m.references reference
      → slice_get (w.fields reference.class) slot ≡ Some t
      → length f.stack < (w.method m.stack.frame.method).max_stack
      → Enters w m.stack.frame.method (m.stack.frame.index + 1) (record f { stack = t ∷ f.stack }) → Here f m
      → IsWaiting w asked Typed (ask.Get reference slot) m
  get-waits reference slot t f m own has room enters at = record { fits = (own, rw has refl); call = tt; before = before f _ m at enters refl (omega arith); completes = by }
    where
      by : (given : Reply) → ReplyFits w m.references (ask.Get reference slot) given → Done (held_by m) (answered (ask.Get reference slot) given m)
      by (reply.Made other) fits = absurd fits
      by (reply.Holds value) fits =
          push_value-completes t value f m (subst (λ (o : Option VType). There (λ t. ValueFits w m.references t value) o) has fits) room enters at
      by reply.Written fits = absurd fits
      by (reply.Returned value fuel) fits = absurd fits
      by reply.RunsOut fits = absurd fits
      by (reply.Throws thrown) fits = fits

  -- the value that putfield asks a field to hold
  put-waits : (reference : Ref) (slot : ℕ) (t : VType) (value : FieldValue) (f : Frame) (m : Machine) → IsOwnObject w m.references reference
      → slice_get (w.fields reference.class) slot ≡ Some t → ValueFits w m.references t value
      → Enters w m.stack.frame.method (m.stack.frame.index + 1) f → Here f m
      → IsWaiting w asked Typed (ask.Put reference slot value) m
  put-waits reference slot t value f m own has fits enters at = record { fits = (own, rw has fits); call = tt; before = before f f m at enters refl (omega arith); completes = by }
    where
      by : (given : Reply) → ReplyFits w m.references (ask.Put reference slot value) given → Done (held_by m) (answered (ask.Put reference slot value) given m)
      by (reply.Made other) fits = absurd fits
      by (reply.Holds other) fits = absurd fits
      by reply.Written fits = go_on-leads w owed asked held fresh receiver f m enters at
      by (reply.Returned value fuel) fits = absurd fits
      by reply.RunsOut fits = absurd fits
      by (reply.Throws thrown) fits = fits

  module _ (class : ClassId) (slot : ℕ) (t : VType) (has : slice_get (w.fields class) slot ≡ Some t) where
    plain : IsPlain t
    plain = owed.fields class slot t has

    -- the class of a remote object that may stand for this one has the field too
    has_field : (reference : Ref) → IsA w class (OfSpace reference.class) → slice_get (w.fields reference.class) slot ≡ Some t
    has_field reference is = owed.inherits reference.class class slot t is.0 is.1 has

    -- and no stub may: java/lang/Object has no fields
    no_stub : (c : ClassId) → IsA w class (OfStub c) → ⊥
    no_stub c is =
        let there : slice_get (w.fields w.object) slot ≡ Some t = owed.inherits w.object class slot t is.0 is.1 has in
        let none : ◌≡◌ {A = Option VType} None (Some t) = subst (λ (fs : List VType). slice_get fs slot ≡ Some t) owed.object_fields there in
        cc

    -- getfield of a value that stands for the class
    read_one : (types : List VType) (f : Frame) (m : Machine) (v : Tagged) (below : List Tagged) → Points (IsA w class) (held_by m) v
        → length types < (w.method m.stack.frame.method).max_stack
        → Enters w m.stack.frame.method (m.stack.frame.index + 1) (record f { stack = t ∷ types })
        → Here (record f { stack = types }) (with_operands below m) → Leads (read_field slot (with_operands (v ∷ below) m))
    read_one types f m Null below fits room enters at = tt
    read_one types f m (Local a) below fits room enters at =
        let found = field_found w owed (held_by m) a class slot t at.heap fits has in
        rw found.1.0
        (pushed-leads found.0 t (record f { stack = types }) (with_operands below m) room enters at
        (plain_fits w (held_by m) no_marks (marks m) t found.0 plain found.1.1))
    read_one types f m (Remote row) below fits room enters at =
        let r = own_row (IsA w class) (held_by m) row no_stub fits in
        rw (r.is, r.own)
        (get-waits r.reference slot t (record f { stack = types }) (with_operands below m) (r.own, r.fits.0, r.fits.2) (has_field r.reference r.fits) room enters at)
    read_one types f m (Int n) below fits room enters at = absurd fits
    read_one types f m (Fresh index site) below fits room enters at = absurd fits
    read_one types f m (This site) below fits room enters at = absurd fits
    read_one types f m Unset below fits room enters at = absurd fits
    read_one types f m (Head header) below fits room enters at = absurd fits

    -- getfield, of a field of the class, if an object of the class is on top
    pub read_field-leads : (s : VType) (types : List VType) (f : Frame) (m : Machine)
        → f.stack ≡ s ∷ types → IsAssignable w.classes s (vtype.Object class) → length types < (w.method m.stack.frame.method).max_stack
        → Enters w m.stack.frame.method (m.stack.frame.index + 1) (record f { stack = t ∷ types }) → Here f m → Leads (read_field slot m)
    read_field-leads s types f m e to room enters at = by m.stack.frame.operands (rw (← e) at.frame.operands)
      where
        by : (operands : List Tagged) → AllFit w (held_by m) (marks m) (s ∷ types) operands → Leads (read_field slot (with_operands operands m))
        by [] fit = absurd fit
        by (v ∷ below) fit =
            read_one types f m v below (Fits-assignable w owed (held_by m) (marks m) s (vtype.Object class) v to fit.0) room enters record {
              frame = record { known = at.frame.known; locals = at.frame.locals; operands = fit.1; room = at.frame.room };
              heap = at.heap;
              callers = at.callers;
            }

    module _ (types : List VType) (f : Frame) (m : Machine) (v : Tagged) (below : List Tagged) (fit : Fits w (held_by m) (marks m) t v)
        (enters : Enters w m.stack.frame.method (m.stack.frame.index + 1) (record f { stack = types })) (at : Here (record f { stack = types }) (with_operands below m)) where
      abbrev after : Machine
      after = with_operands below m

      -- a write to an object of the heap
      put_here : (a : ℕ) → There (IsA w class) (pointee_at (held_by m) (HeapAddress a)) → Leads (put_at slot v after a)
      put_here a there =
          let found = field_found w owed (held_by m) a class slot t at.heap there has in
          let written : HeapFits w (record (held_by m) { cells = with_field a slot v m.heap.cells }) =
          field_put w owed (held_by m) a class slot t v at.heap there has (plain_fits w (held_by m) (marks m) no_marks t v plain fit) in
          rw found.1.0
          (go_on-leads w owed asked held fresh receiver (record f { stack = types }) _ enters
          (with_heap w owed asked held fresh receiver (record f { stack = types }) after (record m.heap { cells = with_field a slot v m.heap.cells })
          (with_field-Keeps a slot v (held_by m)) written at))

      -- a write to a remote object
      stored : (reference : Ref) → IsOwnObject w m.references reference → slice_get (w.fields reference.class) slot ≡ Some t → (u : VType) → u ≡ t → IsPlain u
          → Fits w (held_by m) (marks m) u v → Leads (put_to reference slot v after)
      stored reference own of u same is_plain fits = by u v same is_plain fits
        where
          wait : (value : FieldValue) → ValueFits w m.references t value → Leads (Asks (ask.Put reference slot value) after)
          wait value value_fits = put-waits reference slot t value (record f { stack = types }) after own of value_fits enters at

          by : (u : VType) (v : Tagged) → u ≡ t → IsPlain u → Fits w (held_by m) (marks m) u v → Leads (put_to reference slot v after)
          by vtype.Int (Int n) same is_plain fits = wait (field.Int n) (subst (λ (s : VType). ValueFits w m.references s (field.Int n)) same tt)
          by (vtype.Object c) Null same is_plain fits = wait field.Null (subst (λ (s : VType). ValueFits w m.references s field.Null) same tt)
          by (vtype.Object c) (Local a) same is_plain fits = tt
          by (vtype.Object c) (Remote row) same is_plain fits =
              let r = remote_row (IsA w c) (held_by m) row fits in
              rw r.is (wait (field.Reference r.reference) (subst (λ (s : VType). ValueFits w m.references s (field.Reference r.reference)) same r.fits))
          by vtype.IntArray Null same is_plain fits = wait field.Null (subst (λ (s : VType). ValueFits w m.references s field.Null) same tt)
          by vtype.IntArray (Local a) same is_plain fits = tt
          by vtype.IntArray (Remote row) same is_plain fits = absurd (no_array_away (held_by m) row fits)
          by vtype.Top v same is_plain fits = absurd is_plain
          by vtype.Null v same is_plain fits = absurd is_plain
          by (vtype.Uninitialized o) v same is_plain fits = absurd is_plain
          by vtype.UninitializedThis v same is_plain fits = absurd is_plain
          by u v same is_plain fits = absurd fits

      initialised : is_initialised v ≡ true
      initialised = plain_initialised w (held_by m) (marks m) t v plain fit

      module _ (k : WordKind) (kinds : HasKind t k) where
        moved : is_kind k v ≡ true
        moved = kind_value w owed (held_by m) (marks m) k t v (moves_of t k kinds) fit

        -- into a value that stands for the class
        write_one : (o : Tagged) → Points (IsA w class) (held_by m) o → Leads (write_field slot k (with_operands (v ∷ o ∷ below) m))
        write_one Null fits = rw initialised tt
        write_one (Local a) fits = rw initialised (put_here a fits)
        write_one (Remote row) fits =
            let r = own_row (IsA w class) (held_by m) row no_stub fits in
            rw (moved, r.is, r.own) (stored r.reference (r.own, r.fits.0, r.fits.2) (has_field r.reference r.fits) t refl plain fit)
        write_one (Int n) fits = absurd fits
        write_one (Fresh index site) fits = absurd fits
        write_one (This site) fits = absurd fits
        write_one Unset fits = absurd fits
        write_one (Head header) fits = absurd fits

        -- into the receiver of a running `<init>`
        write_own : (site : Site) → There (IsA w class) (pointee_at (held_by m) site) → Leads (write_field slot k (with_operands (v ∷ This site ∷ below) m))
        write_own (HeapAddress a) there = rw initialised (put_here a there)
        write_own (ReferenceRow row) there =
            let r = own_row (IsA w class) (held_by m) row no_stub there in
            rw (moved, r.is, r.own) (stored r.reference (r.own, r.fits.0, r.fits.2) (has_field r.reference r.fits) t refl plain fit)

        write_into : (r : VType) (o : Tagged) → MayWrite w (w.method m.stack.frame.method).owner class r → Fits w (held_by m) (marks m) r o
            → Leads (write_field slot k (with_operands (v ∷ o ∷ below) m))
        unfolding IsAssignable
        write_into vtype.UninitializedThis o may fits =
            rw fits.is (write_own receiver (subst (λ (c : ClassId). There (IsA w c) (pointee_at (held_by m) receiver)) may fits.there))
        write_into vtype.Null o may fits = write_one o (Fits-assignable w owed (held_by m) (marks m) vtype.Null (vtype.Object class) o tt fits)
        write_into (vtype.Object b) o may fits = write_one o (Fits-assignable w owed (held_by m) (marks m) (vtype.Object b) (vtype.Object class) o may fits)
        write_into vtype.IntArray o may fits = write_one o (Fits-assignable w owed (held_by m) (marks m) vtype.IntArray (vtype.Object class) o may fits)
        write_into vtype.Top o may fits = absurd may
        write_into vtype.Int o may fits = absurd may
        write_into (vtype.Uninitialized i) o may fits = absurd may

    -- putfield, of a field of the class that holds values of a kind
    pub write_field-leads : (k : WordKind) (s r : VType) (types : List VType) (f : Frame) (m : Machine) → HasKind t k
        → f.stack ≡ s ∷ r ∷ types → IsAssignable w.classes s t → MayWrite w (w.method m.stack.frame.method).owner class r
        → Enters w m.stack.frame.method (m.stack.frame.index + 1) (record f { stack = types }) → Here f m → Leads (write_field slot k m)
    write_field-leads k s r types f m kinds e to may enters at = by m.stack.frame.operands (rw (← e) at.frame.operands)
      where
        by : (operands : List Tagged) → AllFit w (held_by m) (marks m) (s ∷ r ∷ types) operands → Leads (write_field slot k (with_operands operands m))
        by [] fit = absurd fit
        by (v ∷ []) fit = absurd fit.1
        by (v ∷ o ∷ below) fit =
            write_into types f m v below (Fits-assignable w owed (held_by m) (marks m) s t v to fit.0) enters record {
              frame = record { known = at.frame.known; locals = at.frame.locals; operands = fit.1.1; room = at.frame.room };
              heap = at.heap;
              callers = at.callers;
            } k kinds r o may fit.1.0
