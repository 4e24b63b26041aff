-- What is asked of the object below other operands: calls of methods that its class selects, casts, and athrow.
use Rattle.std.proofs.Common.{◌≡◌, ℕ, ◌+◌, ◌<◌, Bool, true, false, List, [], ◌∷◌, ◌++◌, length, reverse, refl, ap, sym, subst, ◌∙◌, Option, Some, None, inl, inr, ◌⊎◌}
use Rattle.std.specs.Prelude.{pos, slice_get, option_map, if◌then◌else◌}
use Rattle.std.proofs.lemmas.List.{reverse-append, length-reverse}
use Rattle.space_ids.specs.declared.ids.ClassId.{ClassId}
use Rattle.space_ids.specs.declared.ids.Ref.{Ref}
use Rattle.ver_frames.specs.Frames.{Frame}
use Rattle.ver_frames.specs.Assignable.{IsAssignable, IsObjectAssignable}
use Rattle.ver_frames.specs.declared.vtype.VType.{VType}
use Rattle.ver_frames.specs.declared.vtype.VType.TheVariants as vtype
use Rattle.vm_heap.specs.Tagged.{Tagged, Site, Int, Null, Local, Remote, Fresh, This, Unset, Head}
use Rattle.vm_heap.specs.Heap.{Cell, Object, Ints, cell_at}
use Rattle.vm_heap.specs.References.{is_own}
use Rattle.vm_act.specs.Next.{Next}
use Rattle.vm_act.specs.Steps.{push, with_operands, go_on}
use Rattle.vm_act.specs.Objects.{referent_of, on_referent, cast, answer, throw}
use Rattle.vm_act.specs.Calls.{invoke}
use Rattle.vm_act.specs.declared.machine.Machine.{Machine}
use Rattle.vm_act.specs.declared.calls.Selected.{Selected}
use Rattle.vm_act.specs.declared.calls.Selected.TheVariants as selected
use Rattle.vm_act.specs.declared.objects.Referent.{Referent}
use Rattle.vm_act.specs.declared.objects.Referent.TheVariants as referent
use Rattle.vm_typing.specs.World.{World, IsKnown, Enters}
use Rattle.vm_typing.specs.Fits.{Held, OfHeap, OfSpace, OfStub, held_by, IsA, IsInts, IsNull, There, Points, Marks, Fits, AllFit}
use Rattle.vm_typing.specs.Typed.{with_result, HasRoom, IsAt, IsTyped, marks_of}
use Rattle.vm_typing.specs.Asking.{IsForeignObject}
use Rattle.vm_typing.specs.Owed.{Owed, Selects, Passes, Refers, IsOne, CastFits}
use Rattle.vm_typing.specs.Leads.{LeadsTo}
use Rattle.vm_typing.proofs.Leads.{RemoteRow, remote_row, no_array_away, Fits-assignable, length-AllZip, pop-leads, push-leads, go_on-leads}
use Rattle.vm_typing.proofs.Turns.{popped, get_front, more_front}
use Rattle.vm_typing.proofs.Calls.{reversed, on_left, passed-leads, waits_for}

-- what a value of a type that is asked for stands for
pub record Found (w : World) (held : Held) (t : VType) (v : Tagged) : Type 0 where
  pub stands : Referent
  pub is : referent_of held.references held.cells v ≡ Some stands
  pub one : IsOne w t stands
  -- and it is of each class that this one may stand for
  above : (c : ClassId) → CastFits w (vtype.Object c) stands → Points (IsA w c) held v
  ints : CastFits w vtype.IntArray stands → Points IsInts held v
  -- a stub is one of an object of another space
  away : (reference : Ref) → stands ≡ referent.Stub reference → IsForeignObject w held.references reference

found_object : (w : World) (held : Held) (class : ClassId) (v : Tagged) → Points (IsA w class) held v → Found w held (vtype.Object class) v
found_object w held class Null fit = record { stands = referent.Null; is = refl; one = tt; above = λ c fits. tt; ints = λ fits. tt; away = λ reference e. absurd (cc) }
found_object w held class (Local a) fit = at (cell_at held.cells a) refl fit
  where
    at : (o : Option Cell) → cell_at held.cells a ≡ o → There (IsA w class) (option_map (λ cell. OfHeap cell) o) → Found w held (vtype.Object class) (Local a)
    at None e there = absurd there
    at (Some (Object b fields)) e there = record {
      stands = referent.Object b;
      is = rw e refl;
      one = (there.0, there.1);
      above = λ c fits. rw e (fits.0, fits.1, tt);
      ints = λ fits. absurd fits;
      away = λ reference e. absurd (cc);
    }
    at (Some (Ints elements)) e there = record {
      stands = referent.Ints;
      is = rw e refl;
      one = (there.0, there.1);
      above = λ c fits. rw e (fits.0, fits.1, tt);
      ints = λ fits. rw e tt;
      away = λ reference e. absurd (cc);
    }
found_object w held class (Remote row) fit = of (remote_row (IsA w class) held row fit)
  where
    by : (reference : Ref) → slice_get held.references.rows row ≡ Some reference → (b : Bool) → is_own held.references reference ≡ b
        → IsA w class (if b then OfSpace reference.class else OfStub reference.class) → Found w held (vtype.Object class) (Remote row)
    by reference is true own fits = record {
      stands = referent.Object reference.class;
      is = rw (is, own) refl;
      one = (fits.0, fits.1);
      above = λ c casts. rw (is, own) (casts.0, casts.1, fits.2);
      ints = λ casts. absurd casts;
      away = λ other e. absurd (cc);
    }
    by reference is false own fits = record {
      stands = referent.Stub reference;
      is = rw (is, own) refl;
      one = (fits.0, fits.1);
      above = λ c casts. rw (is, own) (casts.0, casts.1, fits.2);
      ints = λ casts. absurd casts;
      away = λ other e. let same : reference ≡ other = cc in subst (λ (r : Ref). IsForeignObject w held.references r) same (own, fits.2.0, fits.2.1);
    }

    of : RemoteRow (IsA w class) held row → Found w held (vtype.Object class) (Remote row)
    of r = by r.reference r.is (is_own held.references r.reference) refl r.fits
found_object w held class (Int n) fit = absurd fit
found_object w held class (Fresh index site) fit = absurd fit
found_object w held class (This site) fit = absurd fit
found_object w held class Unset fit = absurd fit
found_object w held class (Head header) fit = absurd fit

found_ints : (w : World) (held : Held) (v : Tagged) → Points IsInts held v → Found w held vtype.IntArray v
found_ints w held Null fit = record { stands = referent.Null; is = refl; one = tt; above = λ c fits. tt; ints = λ fits. tt; away = λ reference e. absurd (cc) }
found_ints w held (Local a) fit = at (cell_at held.cells a) refl fit
  where
    at : (o : Option Cell) → cell_at held.cells a ≡ o → There IsInts (option_map (λ cell. OfHeap cell) o) → Found w held vtype.IntArray (Local a)
    at None e there = absurd there
    at (Some (Object b fields)) e there = absurd there
    at (Some (Ints elements)) e there = record {
      stands = referent.Ints;
      is = rw e refl;
      one = tt;
      above = λ c fits. rw e (fits.0, fits.1, tt);
      ints = λ fits. rw e tt;
      away = λ reference e. absurd (cc);
    }
found_ints w held (Remote row) fit = absurd (no_array_away held row fit)
found_ints w held (Int n) fit = absurd fit
found_ints w held (Fresh index site) fit = absurd fit
found_ints w held (This site) fit = absurd fit
found_ints w held Unset fit = absurd fit
found_ints w held (Head header) fit = absurd fit

found_null : (w : World) (held : Held) (v : Tagged) → IsNull v → Found w held vtype.Null v
found_null w held Null fit = record { stands = referent.Null; is = refl; one = tt; above = λ c fits. tt; ints = λ fits. tt; away = λ reference e. absurd (cc) }
found_null w held v fit = absurd fit

pub found : (w : World) (held : Held) (k : Marks) (t : VType) (v : Tagged) → Refers t → Fits w held k t v → Found w held t v
found w held k vtype.Null v refers fit = found_null w held v fit
found w held k (vtype.Object c) v refers fit = found_object w held c v fit
found w held k vtype.IntArray v refers fit = found_ints w held v fit
found w held k vtype.Top v refers fit = absurd refers
found w held k vtype.Int v refers fit = absurd refers
found w held k (vtype.Uninitialized o) v refers fit = absurd refers
found w held k vtype.UninitializedThis v refers fit = absurd refers

module _ (w : World) (owed : Owed w) (asked : Option VType) (held : Held) where
  abbrev Typed : Machine → Type 0
  Typed = IsTyped w asked

  abbrev Leads : Next → Type 0
  Leads = LeadsTo w asked held Typed

  module _ (fresh : ℕ → Site) (receiver : Site) where
    abbrev Here : Frame → Machine → Type 0
    Here = IsAt w asked fresh receiver

    abbrev marks : Machine → Marks
    marks m = marks_of w m.stack.frame.method fresh receiver

    -- a call of the method that the class of a receiver selects
    selected-leads : (class : ClassId) (arguments : List VType) (result : Option VType) (s : Selected) (m : Machine) (f : Frame) (below : List VType) (passed left : List Tagged) (v : Tagged) → Here f m
        → Selects w class arguments result s → ((owner : ClassId) → IsObjectAssignable w.classes class owner → Points (IsA w owner) (held_by m) v)
        → m.stack.frame.operands ≡ passed ++ v ∷ left → AllFit w (held_by m) (marks m) arguments (reverse passed)
        → AllFit w (held_by m) (marks m) below left
        → HasRoom (w.method m.stack.frame.method).max_stack result (record f { stack = below })
        → Enters w m.stack.frame.method (m.stack.frame.index + 1) (with_result result (record f { stack = below }))
        → Leads (invoke s m)
    selected-leads class arguments result (selected.Method callee) m f below passed left v at sel above whole fit rest room enters =
        let values : AllFit w (held_by m) (marks m) (w.method callee.method).arguments (reverse (passed ++ v ∷ [])) =
        rw (sel.passed, reverse-append passed (v ∷ [])) (above (w.method callee.method).owner sel.above, fit) in
        passed-leads w owed asked held callee m (marks m) (passed ++ v ∷ []) left sel.agrees sel.normal (whole ∙ more_front passed left v) values at.heap
        (waits_for w owed asked held fresh receiver m f below left (w.method callee.method).result at rest (rw sel.gives room) (rw sel.gives enters)) at.callers
    selected-leads class arguments result selected.Abstract m f below passed left v at sel above whole fit rest room enters = tt
    selected-leads class arguments result selected.NotPublic m f below passed left v at sel above whole fit rest room enters = tt
    selected-leads class arguments result selected.NotImplemented m f below passed left v at sel above whole fit rest room enters = tt

    get_at : (n : ℕ) (operands passed left : List Tagged) (v : Tagged) → operands ≡ passed ++ v ∷ left → length passed ≡ n → slice_get operands n ≡ Some v
    get_at n operands passed left v whole long = rw (whole, ← long) (get_front passed left v)

    -- A call on a receiver that stands for a class and lies below the arguments: invokevirtual, invokeinterface, and invokespecial of what
    -- is no `<init>`. An object runs the method that its class selects, an array the one that java/lang/Object selects, and so does a stub, or it
    -- does what the caller says; what null leads to, the caller says too.
    pub receiver-leads : (class : ClassId) (arguments : List VType) (result : Option VType) (next : Referent → Machine → Next) (f : Frame) (below : List VType) (m : Machine)
        → Passes w (reverse arguments) f.stack (vtype.Object class ∷ below)
        → Leads (next referent.Null m)
        → ((b : ClassId) → IsKnown w b → IsObjectAssignable w.classes b class → (s : Selected) × (Selects w b arguments result s × (next (referent.Object b) m ≡ invoke s m)))
        → (IsObjectAssignable w.classes w.object class → (s : Selected) × (Selects w w.object arguments result s × (next referent.Ints m ≡ invoke s m)))
        → ((reference : Ref) → IsForeignObject w m.references reference → IsObjectAssignable w.classes w.object class
        → ((s : Selected) × (Selects w w.object arguments result s × (next (referent.Stub reference) m ≡ invoke s m))) ⊎ Leads (next (referent.Stub reference) m))
        → HasRoom (w.method m.stack.frame.method).max_stack result (record f { stack = below })
        → Enters w m.stack.frame.method (m.stack.frame.index + 1) (with_result result (record f { stack = below }))
        → Here f m → Leads (on_referent (length arguments) next m)
    receiver-leads class arguments result next f below m passes null object ints stub room enters at =
        let k : Marks = marks m in
        let off = popped w owed (held_by m) k passes.given (reverse arguments) (vtype.Object class ∷ below) m.stack.frame.operands passes.to (rw (← passes.whole) at.frame.operands) in
        let top = on_left (Fits w (held_by m) k) (vtype.Object class) below off.left off.rest in
        let fit : AllFit w (held_by m) k arguments (reverse off.passed) = reversed w (held_by m) k arguments off.passed off.fit in
        let whole : m.stack.frame.operands ≡ off.passed ++ top.0 ∷ top.1.0 = off.whole ∙ ap (λ (zs : List Tagged). off.passed ++ zs) top.1.1.0 in
        let long : length off.passed ≡ length arguments = sym (length-reverse off.passed) ∙ length-AllZip (Fits w (held_by m) k) arguments (reverse off.passed) fit in
        let there : slice_get m.stack.frame.operands (length arguments) ≡ Some top.0 = get_at (length arguments) m.stack.frame.operands off.passed top.1.0 top.0 whole long in
        let one : Found w (held_by m) (vtype.Object class) top.0 = found w (held_by m) k (vtype.Object class) top.0 tt top.1.1.1.0 in
        rw (there, one.is) (by off.passed top.1.0 top.0 one.stands one.one one.above one.away whole fit top.1.1.1.1)
      where
        by : (passed left : List Tagged) (v : Tagged) (r : Referent) → IsOne w (vtype.Object class) r → ((c : ClassId) → CastFits w (vtype.Object c) r → Points (IsA w c) (held_by m) v)
            → ((reference : Ref) → r ≡ referent.Stub reference → IsForeignObject w m.references reference)
            → m.stack.frame.operands ≡ passed ++ v ∷ left → AllFit w (held_by m) (marks m) arguments (reverse passed) → AllFit w (held_by m) (marks m) below left → Leads (next r m)
        by passed left v referent.Null one above away whole fit rest = null
        by passed left v (referent.Object b) one above away whole fit rest =
            let sel = object b one.0 one.1 in
            rw sel.1.1 (selected-leads b arguments result sel.0 m f below passed left v at sel.1.0 (λ owner is. above owner (one.0, is)) whole fit rest room enters)
        by passed left v referent.Ints one above away whole fit rest =
            let sel = ints one.1 in
            rw sel.1.1 (selected-leads w.object arguments result sel.0 m f below passed left v at sel.1.0 (λ owner is. above owner (one.0, is)) whole fit rest room enters)
        by passed left v (referent.Stub reference) one above away whole fit rest =
            elim (stub reference (away reference refl) one.1) [
              | inl sel ↦ rw sel.1.1 (selected-leads w.object arguments result sel.0 m f below passed left v at sel.1.0 (λ owner is. above owner (one.0, is)) whole fit rest room enters)
              | inr leads ↦ leads
            ]

    -- what is on top stands for what its type says
    on_top-leads : (s : VType) (types : List VType) (next : Referent → Machine → Next) (f : Frame) (m : Machine) → f.stack ≡ s ∷ types → Refers s
        → Here f m
        → ((v : Tagged) (left : List Tagged) (one : Found w (held_by m) s v) → m.stack.frame.operands ≡ v ∷ left → AllFit w (held_by m) (marks m) types left → Leads (next one.stands m))
        → Leads (on_referent 0 next m)
    on_top-leads s types next f m e refers at go =
        let top = on_left (Fits w (held_by m) (marks m)) s types m.stack.frame.operands (rw (← e) at.frame.operands) in
        let one : Found w (held_by m) s top.0 = found w (held_by m) (marks m) s top.0 refers top.1.1.1.0 in
        let there : slice_get m.stack.frame.operands 0 ≡ Some top.0 = get_at 0 m.stack.frame.operands [] top.1.0 top.0 top.1.1.0 refl in
        rw (there, one.is) (go top.0 top.1.0 one top.1.1.0 top.1.1.1.1)

    -- checkcast: what passes is of the type that is asked
    pub cast-leads : (passes : Referent → Bool) (s t : VType) (types : List VType) (f : Frame) (m : Machine) → f.stack ≡ s ∷ types → Refers s → Refers t
        → ((r : Referent) → IsOne w s r → passes r ≡ true → CastFits w t r)
        → Enters w m.stack.frame.method (m.stack.frame.index + 1) (record f { stack = t ∷ types }) → Here f m
        → Leads (on_referent 0 (λ r. cast (passes r)) m)
    cast-leads passes s t types f m e refers refers' fine enters at =
        on_top-leads s types (λ r. cast (passes r)) f m e refers at
        (λ v left one whole rest. tested v (passes one.stands) (λ is. by t refers' v one (fine one.stands one.one is)) left whole rest)
      where
        by : (t : VType) → Refers t → (v : Tagged) (one : Found w (held_by m) s v) → CastFits w t one.stands → Fits w (held_by m) (marks m) t v
        by (vtype.Object c) refers v one fits = one.above c fits
        by vtype.IntArray refers v one fits = one.ints fits
        by vtype.Null refers v one fits = absurd fits
        by vtype.Top refers v one fits = absurd refers
        by vtype.Int refers v one fits = absurd refers
        by (vtype.Uninitialized o) refers v one fits = absurd refers
        by vtype.UninitializedThis refers v one fits = absurd refers

        tested : (v : Tagged) (b : Bool) → (b ≡ true → Fits w (held_by m) (marks m) t v) → (left : List Tagged) → m.stack.frame.operands ≡ v ∷ left
            → AllFit w (held_by m) (marks m) types left → Leads (cast b m)
        tested v false fits left whole rest = tt
        tested v true fits left whole rest =
            let all : AllFit w (held_by m) (marks m) (t ∷ types) m.stack.frame.operands = rw whole (fits refl, rest) in
            go_on-leads w owed asked held fresh receiver (record f { stack = t ∷ types }) m enters record {
              frame = record { known = at.frame.known; locals = at.frame.locals; operands = all; room = at.frame.room };
              heap = at.heap;
              callers = at.callers;
            }

    -- instanceof
    pub answer-leads : (is : Referent → Bool) (s : VType) (types : List VType) (f : Frame) (m : Machine) → f.stack ≡ s ∷ types → Refers s
        → length types < (w.method m.stack.frame.method).max_stack
        → Enters w m.stack.frame.method (m.stack.frame.index + 1) (record f { stack = vtype.Int ∷ types }) → Here f m
        → Leads (on_referent 0 (λ r. answer (is r)) m)
    answer-leads is s types f m e refers room enters at =
        on_top-leads s types (λ r. answer (is r)) f m e refers at
        (λ v left one whole rest. pop-leads w owed asked held fresh receiver Typed (λ value. push (Int (if is one.stands then pos 1 else pos 0)) go_on) f s types m e at
        (λ value below fit all. push-leads w owed asked held fresh receiver Typed (Int (if is one.stands then pos 1 else pos 0)) go_on vtype.Int (record f { stack = types }) (with_operands below m) room all tt
        (λ last. go_on-leads w owed asked held fresh receiver _ _ enters last)))

    -- athrow, of what may stand for a class for which java/lang/Object may not stand, such as java/lang/Throwable
    pub throw-leads : (class : ClassId) (s : VType) (types : List VType) (f : Frame) (m : Machine) → f.stack ≡ s ∷ types → Refers s → IsAssignable w.classes s (vtype.Object class)
        → ¬ IsObjectAssignable w.classes w.object class → Here f m → Leads (on_referent 0 throw m)
    throw-leads class s types f m e refers to none at =
        on_top-leads s types throw f m e refers at
        (λ v left one whole rest. by v one.stands (found w (held_by m) (marks m) (vtype.Object class) v tt
        (Fits-assignable w owed (held_by m) (marks m) s (vtype.Object class) v to (fits_of v left whole))) one.is)
      where
        fits_of : (v : Tagged) (left : List Tagged) → m.stack.frame.operands ≡ v ∷ left → Fits w (held_by m) (marks m) s v
        fits_of v left whole =
            let all : AllFit w (held_by m) (marks m) (s ∷ types) (v ∷ left) =
            subst (λ (ts : List VType). AllFit w (held_by m) (marks m) ts (v ∷ left)) e (subst (λ (vs : List Tagged). AllFit w (held_by m) (marks m) f.stack vs) whole at.frame.operands) in
            all.0

        thrown_one : (r : Referent) → IsOne w (vtype.Object class) r → Leads (throw r m)
        thrown_one referent.Null one = tt
        thrown_one (referent.Object b) one = one.0
        thrown_one referent.Ints one = absurd (none one.1)
        thrown_one (referent.Stub reference) one = absurd (none one.1)

        by : (v : Tagged) (r : Referent) → (one : Found w (held_by m) (vtype.Object class) v) → referent_of m.references m.heap.cells v ≡ Some r → Leads (throw r m)
        by v r one is =
            let same : one.stands ≡ r = let h = one.is in cc in
            subst (λ (q : Referent). Leads (throw q m)) same (thrown_one one.stands one.one)
