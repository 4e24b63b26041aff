-- The instructions on objects and arrays: what they lead to is not stuck and fits.
use Rattle.std.proofs.Common.{◌≡◌, ℕ, zero, suc, ◌+◌, ◌<◌, Bool, true, false, List, [], ◌∷◌, length, map, refl, subst, arith, Option, Some, None, ltb-true}
use Rattle.std.specs.Prelude.{ℤ, pos, negsuc, nat_lt, nat_le, nat_eq, not, ◌&&◌, replicate, slice_get, option_map, option_and_then, if◌then◌else◌}
use Rattle.std.specs.List.{AllZip, list_all}
use Rattle.std.proofs.lemmas.Bool.{eq-eqb}
use Rattle.space_ids.specs.declared.ids.ClassId.{ClassId}
use Rattle.ver_frames.specs.Frames.{Frame}
use Rattle.ver_frames.specs.Assignable.{IsAssignable}
use Rattle.ver_frames.specs.declared.vtype.VType.{VType}
use Rattle.ver_frames.specs.declared.vtype.VType.TheVariants as vtype
use Rattle.vm_heap.specs.Tagged.{Tagged, Site, HeapAddress, Int, Local, Fresh}
use Rattle.vm_heap.specs.Heap.{Cell, Object, Ints, Store, cell_at, all_cost, cost, field_of, field_at, element_at, with_field, with_element, with_new, new_cell, cell_with_field, cell_with_element, default}
use Rattle.vm_heap.specs.declared.heap.WordKind.{WordKind}
use Rattle.vm_heap.specs.declared.heap.WordKind.TheVariants as kind
use Rattle.vm_act.specs.Next.{Next, Ends}
use Rattle.vm_act.specs.Steps.{on_object, on_some, pop_int, pop_object, push, with_operands, go_on}
use Rattle.vm_act.specs.Objects.{make, new_object}
use Rattle.vm_act.specs.Arrays.{sized, new_array, index_in, on_array, array_load, array_store, array_length}
use Rattle.vm_act.specs.declared.machine.Machine.{Machine}
use Rattle.vm_act.specs.declared.ending.Ending.TheVariants as ending
use Rattle.vm_act.specs.declared.ending.Thrown.TheVariants as thrown
use Rattle.vm_typing.specs.World.{World, IsKnown, Enters, is_made_at, cleared}
use Rattle.vm_typing.specs.Fits.{Held, OfHeap, held_by, held_in, pointee_at, IsA, IsOf, IsInts, There, Marks, IsMade, Fits, AllFit, CellFits, AllCells, HeapFits, no_marks}
use Rattle.vm_typing.specs.Typed.{IsAt, IsTyped, marks_of}
use Rattle.vm_typing.specs.Owed.{Owed, HasKind}
use Rattle.vm_typing.specs.Leads.{LeadsTo}
use Rattle.vm_typing.proofs.Kept.{Keeps, Fits-keeps, CellFits-keeps, AllCells-map, AllCells-at, AllCells-changed, AllCells-add, FitsFrame-keeps, CallersWait-keeps, with_field-Keeps, with_element-Keeps, added-Keeps, cell_at-new}
use Rattle.vm_typing.proofs.Leads.{AllZip-get, AllZip-keep, pop_typed-leads, pop_int-leads, on_array-leads, push-leads, go_on-leads}

pub both_true : (a b : Bool) → (a && b) ≡ true → (a ≡ true) × (b ≡ true)
both_true true b e = (refl, e)
both_true false b e = absurd (cc)

not_true : (b : Bool) → not b ≡ true → b ≡ false
not_true true e = absurd (cc)
not_true false e = refl

-- the sites of a frame's objects once the `new` at an offset has made its own
abbrev pub renewed : ℕ → Site → (ℕ → Site) → ℕ → Site
renewed o a fresh q = if nat_eq q o then a else fresh q

renewed_fits : (w : World) (held : Held) (k : Marks) (o : ℕ) (a : Site) (t : VType) (v : Tagged) → is_made_at o t ≡ false → Fits w held k t v
    → Fits w held (record k { fresh = renewed o a k.fresh }) t v
renewed_fits w held k o a vtype.Top v other fits = fits
renewed_fits w held k o a vtype.Int v other fits = fits
renewed_fits w held k o a vtype.Null v other fits = fits
renewed_fits w held k o a (vtype.Object c) v other fits = fits
renewed_fits w held k o a vtype.IntArray v other fits = fits
renewed_fits w held k o a (vtype.Uninitialized q) v other fits = record { is = rw other fits.is; at = fits.at; there = rw other fits.there }
renewed_fits w held k o a vtype.UninitializedThis v other fits = record { is = fits.is; there = fits.there }

cleared_fits : (w : World) (held : Held) (k : Marks) (o : ℕ) (a : Site) (t : VType) (v : Tagged) (b : Bool) → is_made_at o t ≡ b → Fits w held k t v
    → Fits w held (record k { fresh = renewed o a k.fresh }) (if b then vtype.Top else t) v
cleared_fits w held k o a t v true is fits = tt
cleared_fits w held k o a t v false is fits = renewed_fits w held k o a t v is fits

pub all_cleared : (w : World) (held : Held) (k : Marks) (o : ℕ) (a : Site) (types : List VType) (values : List Tagged) → AllFit w held k types values
    → AllFit w held (record k { fresh = renewed o a k.fresh }) (map (cleared o) types) values
all_cleared w held k o a [] [] fit = tt
all_cleared w held k o a [] (v ∷ values) fit = absurd fit
all_cleared w held k o a (t ∷ types) [] fit = absurd fit
all_cleared w held k o a (t ∷ types) (v ∷ values) fit = (cleared_fits w held k o a t v (is_made_at o t) refl fit.0, all_cleared w held k o a types values fit.1)

pub all_renewed : (w : World) (held : Held) (k : Marks) (o : ℕ) (a : Site) (types : List VType) (values : List Tagged) → list_all (λ t. not (is_made_at o t)) types ≡ true
    → AllFit w held k types values → AllFit w held (record k { fresh = renewed o a k.fresh }) types values
all_renewed w held k o a [] [] none fit = tt
all_renewed w held k o a [] (v ∷ values) none fit = absurd fit
all_renewed w held k o a (t ∷ types) [] none fit = absurd fit
all_renewed w held k o a (t ∷ types) (v ∷ values) none fit =
    let both = both_true (not (is_made_at o t)) (list_all (λ t. not (is_made_at o t)) types) none in
    (renewed_fits w held k o a t v (not_true (is_made_at o t) both.0) fit.0, all_renewed w held k o a types values both.1 fit.1)

default_fits : (w : World) (held : Held) (k : Marks) (t : VType) (d : WordKind) → HasKind t d → Fits w held k t (default d)
default_fits w held k vtype.Int kind.Int has = tt
default_fits w held k (vtype.Object c) kind.Reference has = tt
default_fits w held k vtype.IntArray kind.Reference has = tt
default_fits w held k t d has = absurd has

all_default : (w : World) (held : Held) (k : Marks) (types : List VType) (kinds : List WordKind) → AllZip HasKind types kinds → AllFit w held k types (map default kinds)
all_default w held k [] [] has = tt
all_default w held k [] (d ∷ kinds) has = absurd has
all_default w held k (t ∷ types) [] has = absurd has
all_default w held k (t ∷ types) (d ∷ kinds) has = (default_fits w held k t d has.0, all_default w held k types kinds has.1)

array_found : (held : Held) (a : ℕ) → There IsInts (pointee_at held (HeapAddress a)) → (elements : List ℤ) × (cell_at held.cells a ≡ Some (Ints elements))
array_found held a there = at (cell_at held.cells a) refl there
  where
    at : (o : Option Cell) → cell_at held.cells a ≡ o → There IsInts (option_map (λ cell. OfHeap cell) o) → (elements : List ℤ) × (o ≡ Some (Ints elements))
    at None is there = absurd there
    at (Some (Object c fs)) is there = absurd there
    at (Some (Ints elements)) is there = (elements, refl)

get_inside : {A : Type 0} (xs : List A) (n : ℕ) → n < length xs → (x : A) × (slice_get xs n ≡ Some x)
get_inside [] n h = absurd (omega arith)
get_inside (x ∷ xs) zero h = (x, refl)
get_inside (x ∷ xs) (suc n) h = get_inside xs n (omega arith)

module _ (w : World) (owed : Owed w) where
  -- a field of an object of a class: it is there, and of its type
  pub field_found : (held : Held) (a : ℕ) (class : ClassId) (slot : ℕ) (t : VType) → HeapFits w held → There (IsA w class) (pointee_at held (HeapAddress a))
      → slice_get (w.fields class) slot ≡ Some t → (v : Tagged) × ((field_at a slot held.cells ≡ Some v) × Fits w held no_marks t v)
  field_found held a class slot t heap there e = at (cell_at held.cells a) refl there
    where
      at : (o : Option Cell) → cell_at held.cells a ≡ o → There (IsA w class) (option_map (λ cell. OfHeap cell) o)
          → (v : Tagged) × ((option_and_then (field_of slot) o ≡ Some v) × Fits w held no_marks t v)
      at None is there = absurd there
      at (Some (Object c fs)) is there =
          AllZip-get (Fits w held no_marks) (w.fields c) fs slot t (AllCells-at (CellFits w held) held.cells a (Object c fs) heap is) (owed.inherits c class slot t there.0 there.1 e)
      at (Some (Ints is')) is there =
          let none : slice_get (w.fields w.object) slot ≡ Some t = owed.inherits w.object class slot t there.0 there.1 e in
          let no : slice_get {X = VType} [] slot ≡ Some t = subst (λ (ts : List VType). slice_get ts slot ≡ Some t) owed.object_fields none in
          absurd (cc)

  -- a field written with a value of its type
  pub field_put : (held : Held) (a : ℕ) (class : ClassId) (slot : ℕ) (t : VType) (v : Tagged) → HeapFits w held → There (IsA w class) (pointee_at held (HeapAddress a))
      → slice_get (w.fields class) slot ≡ Some t → Fits w held no_marks t v → HeapFits w (record held { cells = with_field a slot v held.cells })
  field_put held a class slot t v heap there e fit = at (cell_at held.cells a) refl there
    where
      keeps : Keeps held (record held { cells = with_field a slot v held.cells })
      keeps = with_field-Keeps a slot v held

      all : AllCells (CellFits w (record held { cells = with_field a slot v held.cells })) held.cells
      all = AllCells-map (CellFits w held) (CellFits w (record held { cells = with_field a slot v held.cells })) held.cells (λ x. CellFits-keeps w held (record held { cells = with_field a slot v held.cells }) x keeps) heap

      new : (x : Cell) → IsA w class (OfHeap x) → CellFits w (record held { cells = with_field a slot v held.cells }) x → CellFits w (record held { cells = with_field a slot v held.cells }) (cell_with_field slot v x)
      new (Object c fs) is fits =
          AllZip-keep (Fits w (record held { cells = with_field a slot v held.cells }) no_marks) (w.fields c) fs slot t v fits (owed.inherits c class slot t is.0 is.1 e) (Fits-keeps w held (record held { cells = with_field a slot v held.cells }) no_marks t v keeps fit)
      new (Ints is') is fits = tt

      at : (o : Option Cell) → cell_at held.cells a ≡ o → There (IsA w class) (option_map (λ cell. OfHeap cell) o) → HeapFits w (record held { cells = with_field a slot v held.cells })
      at None is there = absurd there
      at (Some x) is there =
          AllCells-changed (CellFits w (record held { cells = with_field a slot v held.cells })) (cell_with_field slot v) held.cells a x all is (new x there (AllCells-at (CellFits w (record held { cells = with_field a slot v held.cells })) held.cells a x all is))

  element_put : (held : Held) (a index : ℕ) (n : ℤ) (elements : List ℤ) → HeapFits w held → cell_at held.cells a ≡ Some (Ints elements)
      → HeapFits w (record held { cells = with_element a index n held.cells })
  element_put held a index n elements heap is =
      AllCells-changed (CellFits w (record held { cells = with_element a index n held.cells })) (cell_with_element index n) held.cells a (Ints elements)
      (AllCells-map (CellFits w held) (CellFits w (record held { cells = with_element a index n held.cells })) held.cells
      (λ x. CellFits-keeps w held (record held { cells = with_element a index n held.cells }) x (with_element-Keeps a index n held)) heap)
      is tt

  module _ (asked : Option VType) (held : Held) (fresh : ℕ → Site) (receiver : Site) where
    abbrev Here : Frame → Machine → Type 0
    Here = IsAt w asked fresh receiver

    abbrev Leads : Next → Type 0
    Leads = LeadsTo w asked held (IsTyped w asked)

    abbrev marks : Machine → Marks
    marks m = marks_of w m.stack.frame.method fresh receiver

    -- the heap changes and each class stays: all else fits as before
    pub with_heap : (f : Frame) (m : Machine) (store : Store) → Keeps (held_by m) (held_in store m.references) → HeapFits w (held_in store m.references) → Here f m
        → Here f (record m { heap = store })
    with_heap f m store keeps fits at = record {
      frame = FitsFrame-keeps w (held_by m) (held_in store m.references) fresh receiver f m.stack.frame keeps at.frame;
      heap = fits;
      callers = CallersWait-keeps w asked (held_by m) (held_in store m.references) (w.method m.stack.frame.method).result m.stack.callers keeps at.callers;
    }

    make-leads : (cell : Cell) (next : Machine → Next) (m : Machine) → Leads (next (record m { heap = with_new cell m.heap })) → Leads (make cell next m)
    make-leads cell next m go = made (nat_le (cost cell) m.heap.free)
      where
        made : (b : Bool) → Leads (if b then next (record m { heap = with_new cell m.heap }) else Ends (ending.Threw thrown.OutOfMemoryError))
        made true = go
        made false = tt

    -- what the `new` at an offset made at a site is pushed, and older objects of the instruction are gone
    pub push_made-leads : (class : ClassId) (offset : ℕ) (site : Site) (f : Frame) (m : Machine) → There (IsOf w class) (pointee_at (held_by m) site)
        → m.stack.frame.index < (w.method m.stack.frame.method).count
        → (w.method m.stack.frame.method).offset_at m.stack.frame.index ≡ offset → (w.method m.stack.frame.method).made_at offset ≡ Some class
        → list_all (λ t. not (is_made_at offset t)) f.stack ≡ true → length f.stack < (w.method m.stack.frame.method).max_stack
        → Enters w m.stack.frame.method (m.stack.frame.index + 1) (record f { locals = map (cleared offset) f.locals; stack = vtype.Uninitialized offset ∷ f.stack })
        → Here f m → Leads (push (Fresh m.stack.frame.index site) go_on m)
    push_made-leads class offset site f m there inside stands names none room enters now =
        let renew : IsAt w asked (renewed offset site fresh) receiver (record f { locals = map (cleared offset) f.locals }) m = record {
          frame = record {
            known = now.frame.known;
            locals = all_cleared w (held_by m) (marks m) offset site f.locals m.stack.frame.locals now.frame.locals;
            operands = all_renewed w (held_by m) (marks m) offset site f.stack m.stack.frame.operands none now.frame.operands;
            room = now.frame.room;
          };
          heap = now.heap;
          callers = now.callers;
        } in
        let itself : nat_eq offset offset ≡ true = eq-eqb offset offset refl in
        let index : (w.method m.stack.frame.method).index_at offset ≡ m.stack.frame.index =
        subst (λ (o : ℕ). (w.method m.stack.frame.method).index_at o ≡ m.stack.frame.index) stands ((owed.methods m.stack.frame.method now.frame.known).index m.stack.frame.index inside) in
        let made : IsMade w (held_by m) (marks_of w m.stack.frame.method (renewed offset site fresh) receiver) offset (Fresh m.stack.frame.index site) = record {
          is = rw (itself, index) refl;
          at = rw index stands;
          there = rw (itself, names) there;
        } in
        push-leads w owed asked held (renewed offset site fresh) receiver (IsTyped w asked) (Fresh m.stack.frame.index site) go_on (vtype.Uninitialized offset)
        (record f { locals = map (cleared offset) f.locals }) m room renew made
        (λ all. go_on-leads w owed asked held (renewed offset site fresh) receiver _ _ enters all)

    -- new, of a class of the set whose fields have these kinds; no object of the instruction at this offset is on the stack
    pub new_object-leads : (class : ClassId) (kinds : List WordKind) (offset : ℕ) (f : Frame) (m : Machine) → IsKnown w class → AllZip HasKind (w.fields class) kinds
        → m.stack.frame.index < (w.method m.stack.frame.method).count
        → (w.method m.stack.frame.method).offset_at m.stack.frame.index ≡ offset → (w.method m.stack.frame.method).made_at offset ≡ Some class
        → list_all (λ t. not (is_made_at offset t)) f.stack ≡ true → length f.stack < (w.method m.stack.frame.method).max_stack
        → Enters w m.stack.frame.method (m.stack.frame.index + 1) (record f { locals = map (cleared offset) f.locals; stack = vtype.Uninitialized offset ∷ f.stack })
        → Here f m → Leads (new_object class kinds m)
    new_object-leads class kinds offset f m known has inside stands names none room enters at =
        let cell : Cell = new_cell class kinds in
        let a : ℕ = all_cost m.heap.cells in
        let after : Held = held_in (with_new cell m.heap) m.references in
        let keeps : Keeps (held_by m) after = added-Keeps (held_by m) cell in
        let fits : HeapFits w after =
        AllCells-add (CellFits w after) m.heap.cells cell
        (AllCells-map (CellFits w (held_by m)) (CellFits w after) m.heap.cells (λ x. CellFits-keeps w (held_by m) after x keeps) at.heap)
        (all_default w after no_marks (w.fields class) kinds has) in
        let now : Here f (record m { heap = with_new cell m.heap }) = with_heap f m (with_new cell m.heap) keeps fits at in
        let there : There (IsOf w class) (pointee_at after (HeapAddress a)) = rw (cell_at-new m.heap.cells cell) (refl, known) in
        make-leads cell (push (Fresh m.stack.frame.index (HeapAddress a)) go_on) m
        (push_made-leads class offset (HeapAddress a) f (record m { heap = with_new cell m.heap }) there inside stands names none room enters now)

    -- newarray
    pub new_array-leads : (types : List VType) (f : Frame) (m : Machine) → f.stack ≡ vtype.Int ∷ types → length types < (w.method m.stack.frame.method).max_stack
        → Enters w m.stack.frame.method (m.stack.frame.index + 1) (record f { stack = vtype.IntArray ∷ types }) → Here f m → Leads (new_array m)
    new_array-leads types f m e room enters at =
        pop_int-leads w owed asked held fresh receiver (IsTyped w asked)
        (λ n m. sized n (λ count. make (Ints (replicate count (pos 0))) (push (Local (all_cost m.heap.cells)) go_on) m)) f types m e at
        (λ n below all. by_size n (with_operands below m) all room enters)
      where
        by_size : (n : ℤ) (m1 : Machine) → Here (record f { stack = types }) m1 → length types < (w.method m1.stack.frame.method).max_stack
            → Enters w m1.stack.frame.method (m1.stack.frame.index + 1) (record f { stack = vtype.IntArray ∷ types })
            → Leads (sized n (λ count. make (Ints (replicate count (pos 0))) (push (Local (all_cost m1.heap.cells)) go_on) m1))
        by_size (negsuc n) m1 at1 room enters = tt
        by_size (pos count) m1 at1 room enters =
            let cell : Cell = Ints (replicate count (pos 0)) in
            let after : Held = held_in (with_new cell m1.heap) m1.references in
            let keeps : Keeps (held_by m1) after = added-Keeps (held_by m1) cell in
            let fits : HeapFits w after =
            AllCells-add (CellFits w after) m1.heap.cells cell
            (AllCells-map (CellFits w (held_by m1)) (CellFits w after) m1.heap.cells (λ x. CellFits-keeps w (held_by m1) after x keeps) at1.heap) tt in
            let there : There IsInts (pointee_at after (HeapAddress (all_cost m1.heap.cells))) = rw (cell_at-new m1.heap.cells cell) tt in
            make-leads cell (push (Local (all_cost m1.heap.cells)) go_on) m1
            (push-leads w owed asked held fresh receiver (IsTyped w asked) (Local (all_cost m1.heap.cells)) go_on vtype.IntArray (record f { stack = types }) (record m1 { heap = with_new cell m1.heap })
            room (with_heap (record f { stack = types }) m1 (with_new cell m1.heap) keeps fits at1) there
            (λ all. go_on-leads w owed asked held fresh receiver _ _ enters all))

    -- an index in an array, or the end
    index-leads : (i : ℤ) (elements : List ℤ) (next : ℕ → Next) → ((index : ℕ) → index < length elements → Leads (next index)) → Leads (index_in i (length elements) next)
    index-leads (negsuc n) elements next go = tt
    index-leads (pos n) elements next go = tested (nat_lt n (length elements)) refl
      where
        tested : (b : Bool) → nat_lt n (length elements) ≡ b → Leads (if b then next n else Ends (ending.Threw thrown.ArrayIndexOutOfBoundsException))
        tested true is = go n (ltb-true n (length elements) is)
        tested false is = tt

    -- iaload, if the array's type may stand for that of an int array
    pub array_load-leads : (s : VType) (types : List VType) (f : Frame) (m : Machine) → f.stack ≡ vtype.Int ∷ s ∷ types → IsAssignable w.classes s vtype.IntArray
        → length types < (w.method m.stack.frame.method).max_stack
        → Enters w m.stack.frame.method (m.stack.frame.index + 1) (record f { stack = vtype.Int ∷ types }) → Here f m → Leads (array_load m)
    array_load-leads s types f m e to room enters at =
        pop_int-leads w owed asked held fresh receiver (IsTyped w asked)
        (λ i. pop_object (λ address m. on_array address (λ count. index_in i count (λ index. on_some (λ n. push (Int n) go_on m) (element_at address index m.heap.cells))) m))
        f (s ∷ types) m e at
        (λ i below1 all1. pop_typed-leads w owed asked held fresh receiver (IsTyped w asked)
        (λ value m. on_object (λ address. on_array address (λ count. index_in i count (λ index. on_some (λ n. push (Int n) go_on m) (element_at address index m.heap.cells))) m) value)
        (record f { stack = s ∷ types }) s vtype.IntArray types (with_operands below1 m) refl to all1
        (λ value below fit all. on_array-leads w owed asked held fresh receiver (IsTyped w asked)
        (λ address. on_array address (λ count. index_in i count (λ index. on_some (λ n. push (Int n) go_on (with_operands below m)) (element_at address index m.heap.cells))) (with_operands below m))
        (held_by m) value fit
        (λ a there.
        let array = array_found (held_by m) a there in
        rw array.1
        (index-leads i array.0 (λ index. on_some (λ n. push (Int n) go_on (with_operands below m)) (slice_get array.0 index))
        (λ index inside.
        let element = get_inside array.0 index inside in
        rw element.1
        (push-leads w owed asked held fresh receiver (IsTyped w asked) (Int element.0) go_on vtype.Int (record f { stack = types }) (with_operands below m) room all tt
        (λ last. go_on-leads w owed asked held fresh receiver _ _ enters last)))))))

    -- arraylength
    pub array_length-leads : (s : VType) (types : List VType) (f : Frame) (m : Machine) → f.stack ≡ s ∷ types → IsAssignable w.classes s vtype.IntArray
        → length types < (w.method m.stack.frame.method).max_stack
        → Enters w m.stack.frame.method (m.stack.frame.index + 1) (record f { stack = vtype.Int ∷ types }) → Here f m → Leads (array_length m)
    array_length-leads s types f m e to room enters at =
        pop_typed-leads w owed asked held fresh receiver (IsTyped w asked)
        (λ value m. on_object (λ address. on_array address (λ count. push (Int (pos count)) go_on m) m) value)
        f s vtype.IntArray types m e to at
        (λ value below fit all. on_array-leads w owed asked held fresh receiver (IsTyped w asked)
        (λ address. on_array address (λ count. push (Int (pos count)) go_on (with_operands below m)) (with_operands below m)) (held_by m) value fit
        (λ a there.
        let array = array_found (held_by m) a there in
        rw array.1
        (push-leads w owed asked held fresh receiver (IsTyped w asked) (Int (pos (length array.0))) go_on vtype.Int (record f { stack = types }) (with_operands below m) room all tt
        (λ last. go_on-leads w owed asked held fresh receiver _ _ enters last))))

    -- iastore
    pub array_store-leads : (s : VType) (types : List VType) (f : Frame) (m : Machine) → f.stack ≡ vtype.Int ∷ vtype.Int ∷ s ∷ types → IsAssignable w.classes s vtype.IntArray
        → Enters w m.stack.frame.method (m.stack.frame.index + 1) (record f { stack = types }) → Here f m → Leads (array_store m)
    array_store-leads s types f m e to enters at =
        pop_int-leads w owed asked held fresh receiver (IsTyped w asked)
        (λ n. pop_int (λ i. pop_object (λ address m. on_array address (λ count. index_in i count (λ index. on_some
        (λ was. go_on (record m { heap = record m.heap { cells = with_element address index n m.heap.cells } })) (element_at address index m.heap.cells))) m)))
        f (vtype.Int ∷ s ∷ types) m e at
        (λ n below1 all1. pop_int-leads w owed asked held fresh receiver (IsTyped w asked)
        (λ i. pop_object (λ address m. on_array address (λ count. index_in i count (λ index. on_some
        (λ was. go_on (record m { heap = record m.heap { cells = with_element address index n m.heap.cells } })) (element_at address index m.heap.cells))) m))
        (record f { stack = vtype.Int ∷ s ∷ types }) (s ∷ types) (with_operands below1 m) refl all1
        (λ i below2 all2. pop_typed-leads w owed asked held fresh receiver (IsTyped w asked)
        (λ value m. on_object (λ address. on_array address (λ count. index_in i count (λ index. on_some
        (λ was. go_on (record m { heap = record m.heap { cells = with_element address index n m.heap.cells } })) (element_at address index m.heap.cells))) m) value)
        (record f { stack = s ∷ types }) s vtype.IntArray types (with_operands below2 m) refl to all2
        (λ value below fit all. on_array-leads w owed asked held fresh receiver (IsTyped w asked)
        (λ address. on_array address (λ count. index_in i count (λ index. on_some
        (λ was. go_on (record m { stack = (with_operands below m).stack; heap = record m.heap { cells = with_element address index n m.heap.cells } })) (element_at address index m.heap.cells)))
        (with_operands below m))
        (held_by m) value fit
        (λ a there.
        let array = array_found (held_by m) a there in
        rw array.1
        (index-leads i array.0 (λ index. on_some
        (λ was. go_on (record m { stack = (with_operands below m).stack; heap = record m.heap { cells = with_element a index n m.heap.cells } })) (slice_get array.0 index))
        (λ index inside.
        let element = get_inside array.0 index inside in
        rw element.1
        (go_on-leads w owed asked held fresh receiver (record f { stack = types }) _ enters
        (with_heap (record f { stack = types }) (with_operands below m) (record m.heap { cells = with_element a index n m.heap.cells }) (with_element-Keeps a index n (held_by m))
        (element_put (held_by m) a index n array.0 at.heap array.1) all))))))))
