-- If a machine fits a type frame and an operand or a local variable has a type, a small step is not stuck, and fits the frame after it.
use Rattle.std.proofs.Common.{◌≡◌, ℕ, zero, suc, ◌+◌, ◌<◌, Bool, true, false, List, [], ◌∷◌, length, refl, ap, sym, subst, Option, Some, None, inr}
use Rattle.std.specs.Prelude.{ℤ, nat_lt, slice_get, slice_set, option_map, if◌then◌else◌}
use Rattle.std.specs.List.{AllZip}
use Rattle.std.proofs.lemmas.Bool.{lt-ltb}
use Rattle.std.proofs.lemmas.Option.{slice_get_within}
use Rattle.space_ids.specs.declared.ids.ClassId.{ClassId}
use Rattle.space_ids.specs.declared.ids.Ref.{Ref}
use Rattle.cls_set.specs.Subtypes.IsSubclass.{itself}
use Rattle.ver_frames.specs.Frames.{Frame}
use Rattle.ver_frames.specs.Assignable.{IsObjectAssignable, IsAssignable, AreAssignable, IsFrameAssignable}
use Rattle.ver_frames.specs.declared.vtype.VType.{VType}
use Rattle.ver_frames.specs.declared.vtype.VType.TheVariants as vtype
use Rattle.vm_heap.specs.declared.word.Pointer.{Pointer}
use Rattle.vm_heap.specs.declared.word.Pointer.TheVariants as pointer
use Rattle.vm_heap.specs.Tagged.{Tagged, Site, HeapAddress, ReferenceRow, Int, Null, Local, Remote, Fresh, This, Unset, Head, object_at, pointer_at}
use Rattle.vm_heap.specs.Heap.{Object, Ints}
use Rattle.vm_heap.specs.References.{is_own}
use Rattle.vm_heap.specs.declared.heap.WordKind.{WordKind}
use Rattle.vm_heap.specs.declared.heap.WordKind.TheVariants as kind
use Rattle.vm_stack.specs.Frames as frames
use Rattle.vm_stack.specs.Frames.{pushed, with_local, at_index}
use Rattle.vm_act.specs.Next.{Next, Stuck}
use Rattle.vm_act.specs.Steps.{on_int, on_object, on_reference, on_top, pop, pop_as, pop_int, pop_reference, push, load_as, store, is_kind, is_initialised, with_operands, go_on, jump, branch}
use Rattle.vm_act.specs.declared.machine.Machine.{Machine}
use Rattle.vm_typing.specs.World.{World, IsPlain, Enters}
use Rattle.vm_typing.specs.Fits.{Held, Pointee, OfHeap, OfSpace, OfStub, remote_pointee, pointee_at, held_by, class_in, IsA, IsInts, IsNull, There, Points, Marks, Fits, AllFit}
use Rattle.vm_typing.specs.Typed.{FitsFrame, IsAt, IsTyped, marks_of}
use Rattle.vm_typing.specs.Owed.{Owed, Moves}
use Rattle.vm_typing.specs.Leads.{LeadsTo}

pub There-map : {A : Type 0} (P Q : A → Type 0) (o : Option A) → ((x : A) → P x → Q x) → There P o → There Q o
There-map P Q None to there = absurd there
There-map P Q (Some x) to there = to x there

pub Points-map : (P Q : Pointee → Type 0) (held : Held) (v : Tagged) → ((x : Pointee) → P x → Q x) → Points P held v → Points Q held v
Points-map P Q held Null to fits = tt
Points-map P Q held (Local a) to fits = There-map P Q _ to fits
Points-map P Q held (Int n) to fits = absurd fits
Points-map P Q held (Remote row) to fits = There-map P Q _ to fits
Points-map P Q held (Fresh index site) to fits = absurd fits
Points-map P Q held (This site) to fits = absurd fits
Points-map P Q held Unset to fits = absurd fits
Points-map P Q held (Head header) to fits = absurd fits

Points-null : (P : Pointee → Type 0) (held : Held) (v : Tagged) → IsNull v → Points P held v
Points-null P held Null fits = tt
Points-null P held (Local a) fits = absurd fits
Points-null P held (Int n) fits = absurd fits
Points-null P held (Remote row) fits = absurd fits
Points-null P held (Fresh index site) fits = absurd fits
Points-null P held (This site) fits = absurd fits
Points-null P held Unset fits = absurd fits
Points-null P held (Head header) fits = absurd fits

-- a value of a plain type fits in each frame, and is initialised
pub plain_fits : (w : World) (held : Held) (k k' : Marks) (t : VType) (v : Tagged) → IsPlain t → Fits w held k t v → Fits w held k' t v
plain_fits w held k k' vtype.Int v plain fits = fits
plain_fits w held k k' (vtype.Object c) v plain fits = fits
plain_fits w held k k' vtype.IntArray v plain fits = fits
plain_fits w held k k' vtype.Top v plain fits = absurd plain
plain_fits w held k k' vtype.Null v plain fits = absurd plain
plain_fits w held k k' (vtype.Uninitialized o) v plain fits = absurd plain
plain_fits w held k k' vtype.UninitializedThis v plain fits = absurd plain

Points-initialised : (P : Pointee → Type 0) (held : Held) (v : Tagged) → Points P held v → is_initialised v ≡ true
Points-initialised P held Null fits = refl
Points-initialised P held (Local a) fits = refl
Points-initialised P held (Int n) fits = absurd fits
Points-initialised P held (Remote row) fits = refl
Points-initialised P held (Fresh index site) fits = absurd fits
Points-initialised P held (This site) fits = absurd fits
Points-initialised P held Unset fits = absurd fits
Points-initialised P held (Head header) fits = absurd fits

pub plain_initialised : (w : World) (held : Held) (k : Marks) (t : VType) (v : Tagged) → IsPlain t → Fits w held k t v → is_initialised v ≡ true
plain_initialised w held k vtype.Int (Int n) plain fits = refl
plain_initialised w held k vtype.Int Null plain fits = absurd fits
plain_initialised w held k vtype.Int (Local a) plain fits = absurd fits
plain_initialised w held k vtype.Int (Remote r) plain fits = absurd fits
plain_initialised w held k vtype.Int (Fresh index site) plain fits = absurd fits
plain_initialised w held k vtype.Int (This site) plain fits = absurd fits
plain_initialised w held k vtype.Int Unset plain fits = absurd fits
plain_initialised w held k vtype.Int (Head header) plain fits = absurd fits
plain_initialised w held k (vtype.Object c) v plain fits = Points-initialised (IsA w c) held v fits
plain_initialised w held k vtype.IntArray v plain fits = Points-initialised IsInts held v fits
plain_initialised w held k vtype.Top v plain fits = absurd plain
plain_initialised w held k vtype.Null v plain fits = absurd plain
plain_initialised w held k (vtype.Uninitialized o) v plain fits = absurd plain
plain_initialised w held k vtype.UninitializedThis v plain fits = absurd plain

-- a reference of a list, by its row: what it stands for has the property
pub record RemoteRow (P : Pointee → Type 0) (held : Held) (row : ℕ) : Type 0 where
  pub reference : Ref
  pub is : slice_get held.references.rows row ≡ Some reference
  pub fits : P (remote_pointee held.references reference)

pub remote_row : (P : Pointee → Type 0) (held : Held) (row : ℕ) → There P (pointee_at held (ReferenceRow row)) → RemoteRow P held row
remote_row P held row there = at (slice_get held.references.rows row) refl there
  where
    at : (o : Option Ref) → slice_get held.references.rows row ≡ o → There P (option_map (remote_pointee held.references) o) → RemoteRow P held row
    at None is there = absurd there
    at (Some reference) is there = record { reference = reference; is = is; fits = there }

-- it is to an object of the own space, if no stub has the property
pub record OwnRow (P : Pointee → Type 0) (held : Held) (row : ℕ) : Type 0 where
  pub reference : Ref
  pub is : slice_get held.references.rows row ≡ Some reference
  pub own : is_own held.references reference ≡ true
  pub fits : P (OfSpace reference.class)

pub own_row : (P : Pointee → Type 0) (held : Held) (row : ℕ) → ((class : ClassId) → P (OfStub class) → ⊥) → There P (pointee_at held (ReferenceRow row)) → OwnRow P held row
own_row P held row none there = of (remote_row P held row there)
  where
    to : (reference : Ref) → slice_get held.references.rows row ≡ Some reference → (b : Bool) → is_own held.references reference ≡ b
        → P (if b then OfSpace reference.class else OfStub reference.class) → OwnRow P held row
    to reference is true own fits = record { reference = reference; is = is; own = own; fits = fits }
    to reference is false own fits = absurd (none reference.class fits)

    of : RemoteRow P held row → OwnRow P held row
    of r = to r.reference r.is (is_own held.references r.reference) refl r.fits

-- no array is a remote object
pub no_array_away : (held : Held) (row : ℕ) → There IsInts (pointee_at held (ReferenceRow row)) → ⊥
no_array_away held row there = (own_row IsInts held row (λ class is. is) there).fits

-- an object of its site
pub at_site : (P : Pointee → Type 0) (held : Held) (site : Site) → There P (pointee_at held site) → Points P held (object_at site)
at_site P held (HeapAddress a) there = there
at_site P held (ReferenceRow row) there = there

pub length-AllZip : {A B : Type 0} (R : A → B → Type 0) (xs : List A) (ys : List B) → AllZip R xs ys → length ys ≡ length xs
length-AllZip R [] [] fit = refl
length-AllZip R [] (y ∷ ys) fit = absurd fit
length-AllZip R (x ∷ xs) [] fit = absurd fit
length-AllZip R (x ∷ xs) (y ∷ ys) fit = ap suc (length-AllZip R xs ys fit.1)

pub AllZip-get : {A B : Type 0} (R : A → B → Type 0) (xs : List A) (ys : List B) (n : ℕ) (x : A) → AllZip R xs ys → slice_get xs n ≡ Some x
    → (y : B) × ((slice_get ys n ≡ Some y) × R x y)
AllZip-get R [] ys n x fit e = absurd (cc)
AllZip-get R (z ∷ xs) [] n x fit e = absurd fit
AllZip-get R (z ∷ xs) (y ∷ ys) zero x fit e = let same : z ≡ x = cc in (y, (refl, subst (λ w. R w y) same fit.0))
AllZip-get R (z ∷ xs) (y ∷ ys) (suc n) x fit e = AllZip-get R xs ys n x fit.1 e

pub AllZip-set : {A B : Type 0} (R : A → B → Type 0) (xs : List A) (ys : List B) (n : ℕ) (x : A) (y : B) → AllZip R xs ys → R x y
    → AllZip R (slice_set xs n x) (slice_set ys n y)
AllZip-set R [] [] n x y all fit = tt
AllZip-set R [] (w ∷ ys) n x y all fit = absurd all
AllZip-set R (z ∷ xs) [] n x y all fit = absurd all
AllZip-set R (z ∷ xs) (w ∷ ys) zero x y all fit = (fit, all.1)
AllZip-set R (z ∷ xs) (w ∷ ys) (suc n) x y all fit = (all.0, AllZip-set R xs ys n x y all.1 fit)

-- a value written over one of the same type
pub AllZip-keep : {A B : Type 0} (R : A → B → Type 0) (xs : List A) (ys : List B) (n : ℕ) (x : A) (y : B) → AllZip R xs ys → slice_get xs n ≡ Some x → R x y
    → AllZip R xs (slice_set ys n y)
AllZip-keep R [] ys n x y all e fit = absurd (cc)
AllZip-keep R (z ∷ xs) [] n x y all e fit = absurd all
AllZip-keep R (z ∷ xs) (w ∷ ys) zero x y all e fit = let same : z ≡ x = cc in (subst (λ u. R u y) (sym same) fit, all.1)
AllZip-keep R (z ∷ xs) (w ∷ ys) (suc n) x y all e fit = (all.0, AllZip-keep R xs ys n x y all.1 e fit)

module _ (w : World) (owed : Owed w) where
  pub IsA-above : (b c : ClassId) (x : Pointee) → IsObjectAssignable w.classes b c → IsA w b x → IsA w c x
  IsA-above b c x above is = (is.0, owed.further (class_in w x) b c is.0 is.1 above, is.2)

  pub Ints-are : (x : Pointee) → IsInts x → IsA w w.object x
  Ints-are (OfHeap (Object d fs)) is = absurd is
  Ints-are (OfHeap (Ints is)) is' = (owed.object, inr (itself w.object), tt)
  Ints-are (OfSpace class) is = absurd is
  Ints-are (OfStub class) is = absurd is

  -- a value of a type is of each type to which the type is assignable
  pub Fits-assignable : (held : Held) (k : Marks) (s t : VType) (v : Tagged) → IsAssignable w.classes s t → Fits w held k s v → Fits w held k t v
  unfolding IsAssignable
  Fits-assignable held k s vtype.Top v to fits = tt
  Fits-assignable held k vtype.Int vtype.Int v to fits = fits
  Fits-assignable held k vtype.Null vtype.Null v to fits = fits
  Fits-assignable held k vtype.Null (vtype.Object c) v to fits = Points-null (IsA w c) held v fits
  Fits-assignable held k vtype.Null vtype.IntArray v to fits = Points-null IsInts held v fits
  Fits-assignable held k (vtype.Object b) (vtype.Object c) v to fits = Points-map (IsA w b) (IsA w c) held v (λ x. IsA-above b c x to) fits
  Fits-assignable held k vtype.IntArray (vtype.Object c) v to fits =
      let same : w.object ≡ c = owed.object_named c to in
      Points-map IsInts (IsA w c) held v (λ x is. subst (λ (d : ClassId). IsA w d x) same (Ints-are x is)) fits
  Fits-assignable held k vtype.IntArray vtype.IntArray v to fits = fits
  Fits-assignable held k (vtype.Uninitialized o) (vtype.Uninitialized q) v to fits = subst (λ (r : ℕ). Fits w held k (vtype.Uninitialized r) v) to fits
  Fits-assignable held k vtype.UninitializedThis vtype.UninitializedThis v to fits = fits
  Fits-assignable held k s t v to fits = absurd to

  pub AllFit-assignable : (held : Held) (k : Marks) (given asked : List VType) (values : List Tagged) → AreAssignable w.classes given asked
      → AllFit w held k given values → AllFit w held k asked values
  AllFit-assignable held k [] [] values to fits = fits
  AllFit-assignable held k [] (t ∷ asked) values to fits = absurd to
  AllFit-assignable held k (s ∷ given) [] values to fits = absurd to
  AllFit-assignable held k (s ∷ given) (t ∷ asked) [] to fits = fits
  AllFit-assignable held k (s ∷ given) (t ∷ asked) (v ∷ values) to fits =
      (Fits-assignable held k s t v to.0 fits.0, AllFit-assignable held k given asked values to.1 fits.1)

  pub FitsFrame-assignable : (held : Held) (fresh : ℕ → Site) (receiver : Site) (given asked : Frame) (frame : frames.Frame) → IsFrameAssignable w.classes given asked
      → FitsFrame w held fresh receiver given frame → FitsFrame w held fresh receiver asked frame
  FitsFrame-assignable held fresh receiver given asked frame to fits = record {
    known = fits.known;
    locals = AllFit-assignable held (marks_of w frame.method fresh receiver) given.locals asked.locals frame.locals to.locals fits.locals;
    operands = AllFit-assignable held (marks_of w frame.method fresh receiver) given.stack asked.stack frame.operands to.stack fits.operands;
    room = fits.room;
  }

  -- a value of a type that a kind of instruction moves is of that kind
  pub kind_value : (held : Held) (k : Marks) (moved : WordKind) (t : VType) (v : Tagged) → Moves moved t → Fits w held k t v → is_kind moved v ≡ true
  kind_value held k kind.Int vtype.Int (Int n) moves fits = refl
  kind_value held k kind.Reference vtype.Null Null moves fits = refl
  kind_value held k kind.Reference (vtype.Object c) Null moves fits = refl
  kind_value held k kind.Reference (vtype.Object c) (Local a) moves fits = refl
  kind_value held k kind.Reference (vtype.Object c) (Remote row) moves fits = refl
  kind_value held k kind.Reference vtype.IntArray Null moves fits = refl
  kind_value held k kind.Reference vtype.IntArray (Local a) moves fits = refl
  kind_value held k kind.Reference vtype.IntArray (Remote row) moves fits = refl
  kind_value held k kind.Reference (vtype.Uninitialized o) v moves fits = rw fits.is refl
  kind_value held k kind.Reference vtype.UninitializedThis v moves fits = rw fits.is refl
  kind_value held k kind.Int vtype.Top v moves fits = absurd moves
  kind_value held k kind.Int vtype.Null v moves fits = absurd moves
  kind_value held k kind.Int (vtype.Object c) v moves fits = absurd moves
  kind_value held k kind.Int vtype.IntArray v moves fits = absurd moves
  kind_value held k kind.Int (vtype.Uninitialized o) v moves fits = absurd moves
  kind_value held k kind.Int vtype.UninitializedThis v moves fits = absurd moves
  kind_value held k kind.Reference vtype.Top v moves fits = absurd moves
  kind_value held k kind.Reference vtype.Int v moves fits = absurd moves
  kind_value held k moved t v moves fits = absurd fits

  module _ (asked : Option VType) (held : Held) (fresh : ℕ → Site) (receiver : Site) where
    -- a machine that fits a type frame
    abbrev pub At : Frame → Machine → Type 0
    At = IsAt w asked fresh receiver

    -- what fits in its running frame
    abbrev pub FitsIn : Machine → VType → Tagged → Type 0
    FitsIn m = Fits w (held_by m) (marks_of w m.stack.frame.method fresh receiver)

    abbrev pub Leads : (Machine → Type 0) → Next → Type 0
    Leads = LeadsTo w asked held

    on_top-leads : (P : Machine → Type 0) (next : Tagged → List Tagged → Next) (R : VType → Tagged → Type 0) (t : VType) (types : List VType) (values : List Tagged)
        → AllZip R (t ∷ types) values → ((value : Tagged) (below : List Tagged) → R t value → AllZip R types below → Leads P (next value below)) → Leads P (on_top next values)
    on_top-leads P next R t types [] fit go = absurd fit
    on_top-leads P next R t types (value ∷ below) fit go = go value below fit.0 fit.1

    -- the operand on top, of the type on top
    pub pop-leads : (P : Machine → Type 0) (next : Tagged → Machine → Next) (f : Frame) (t : VType) (types : List VType) (m : Machine) → f.stack ≡ t ∷ types → At f m
        → ((value : Tagged) (below : List Tagged) → FitsIn m t value → At (record f { stack = types }) (with_operands below m) → Leads P (next value (with_operands below m)))
        → Leads P (pop next m)
    pop-leads P next f t types m e at go =
        on_top-leads P (λ value below. next value (with_operands below m)) (FitsIn m) t types m.stack.frame.operands (rw (← e) at.frame.operands)
        (λ value below fit all. go value below fit record {
          frame = record { known = at.frame.known; locals = at.frame.locals; operands = all; room = at.frame.room };
          heap = at.heap;
          callers = at.callers;
        })

    -- the operand on top, if one of a type is asked
    pub pop_typed-leads : (P : Machine → Type 0) (next : Tagged → Machine → Next) (f : Frame) (s t : VType) (types : List VType) (m : Machine) → f.stack ≡ s ∷ types
        → IsAssignable w.classes s t → At f m
        → ((value : Tagged) (below : List Tagged) → FitsIn m t value → At (record f { stack = types }) (with_operands below m) → Leads P (next value (with_operands below m)))
        → Leads P (pop next m)
    pop_typed-leads P next f s t types m e to at go =
        pop-leads P next f s types m e at (λ value below fit all. go value below (Fits-assignable (held_by m) (marks_of w m.stack.frame.method fresh receiver) s t value to fit) all)

    -- the operand on top, of a kind
    pub pop_kind-leads : (P : Machine → Type 0) (moved : WordKind) (next : Tagged → Machine → Next) (f : Frame) (t : VType) (types : List VType) (m : Machine) → f.stack ≡ t ∷ types
        → Moves moved t → At f m
        → ((value : Tagged) (below : List Tagged) → FitsIn m t value → At (record f { stack = types }) (with_operands below m) → Leads P (next value (with_operands below m)))
        → Leads P (pop_as (is_kind moved) next m)
    pop_kind-leads P moved next f t types m e moves at go =
        pop-leads P (λ value m. if is_kind moved value then next value m else Stuck) f t types m e at
        (λ value below fit all. rw (kind_value (held_by m) (marks_of w m.stack.frame.method fresh receiver) moved t value moves fit) (go value below fit all))

    on_int-leads : (P : Machine → Type 0) (next : ℤ → Next) (m : Machine) (v : Tagged) → FitsIn m vtype.Int v → ((n : ℤ) → Leads P (next n)) → Leads P (on_int next v)
    on_int-leads P next m (Int n) fits go = go n
    on_int-leads P next m Null fits go = absurd fits
    on_int-leads P next m (Local a) fits go = absurd fits
    on_int-leads P next m (Remote row) fits go = absurd fits
    on_int-leads P next m (Fresh index site) fits go = absurd fits
    on_int-leads P next m (This site) fits go = absurd fits
    on_int-leads P next m Unset fits go = absurd fits
    on_int-leads P next m (Head header) fits go = absurd fits

    pub pop_int-leads : (P : Machine → Type 0) (next : ℤ → Machine → Next) (f : Frame) (types : List VType) (m : Machine) → f.stack ≡ vtype.Int ∷ types → At f m
        → ((n : ℤ) (below : List Tagged) → At (record f { stack = types }) (with_operands below m) → Leads P (next n (with_operands below m))) → Leads P (pop_int next m)
    pop_int-leads P next f types m e at go =
        pop-leads P (λ value m. on_int (λ n. next n m) value) f vtype.Int types m e at
        (λ value below fit all. on_int-leads P (λ n. next n (with_operands below m)) m value fit (λ n. go n below all))

    -- null ends it; else there is an array at its address
    pub on_array-leads : (P : Machine → Type 0) (next : ℕ → Next) (held : Held) (v : Tagged) → Points IsInts held v
        → ((a : ℕ) → Points IsInts held (Local a) → Leads P (next a)) → Leads P (on_object next v)
    on_array-leads P next held Null fits go = tt
    on_array-leads P next held (Local a) fits go = go a fits
    on_array-leads P next held (Int n) fits go = absurd fits
    on_array-leads P next held (Remote row) fits go = absurd (no_array_away held row fits)
    on_array-leads P next held (Fresh index site) fits go = absurd fits
    on_array-leads P next held (This site) fits go = absurd fits
    on_array-leads P next held Unset fits go = absurd fits
    on_array-leads P next held (Head header) fits go = absurd fits

    on_points : (P : Machine → Type 0) (Q : Pointee → Type 0) (next : Pointer → Next) (held : Held) (v : Tagged) → Points Q held v
        → ((a : Pointer) → Leads P (next a)) → Leads P (on_reference next v)
    on_points P Q next held Null fits go = go pointer.Null
    on_points P Q next held (Local a) fits go = go (pointer.Address a)
    on_points P Q next held (Int n) fits go = absurd fits
    on_points P Q next held (Remote row) fits go = go (pointer.Row row)
    on_points P Q next held (Fresh index site) fits go = absurd fits
    on_points P Q next held (This site) fits go = absurd fits
    on_points P Q next held Unset fits go = absurd fits
    on_points P Q next held (Head header) fits go = absurd fits

    -- what is compared: any reference
    pub on_reference-leads : (P : Machine → Type 0) (next : Pointer → Next) (m : Machine) (t : VType) (v : Tagged) → Moves kind.Reference t → FitsIn m t v
        → ((a : Pointer) → Leads P (next a)) → Leads P (on_reference next v)
    on_reference-leads P next m vtype.Null Null moves fits go = go pointer.Null
    on_reference-leads P next m (vtype.Object c) v moves fits go = on_points P (IsA w c) next (held_by m) v fits go
    on_reference-leads P next m vtype.IntArray v moves fits go = on_points P IsInts next (held_by m) v fits go
    on_reference-leads P next m (vtype.Uninitialized o) v moves fits go = rw fits.is (go (pointer_at (fresh o)))
    on_reference-leads P next m vtype.UninitializedThis v moves fits go = rw fits.is (go (pointer_at receiver))
    on_reference-leads P next m vtype.Top v moves fits go = absurd moves
    on_reference-leads P next m vtype.Int v moves fits go = absurd moves
    on_reference-leads P next m t v moves fits go = absurd fits

    pub pop_reference-leads : (P : Machine → Type 0) (next : Pointer → Machine → Next) (f : Frame) (t : VType) (types : List VType) (m : Machine) → f.stack ≡ t ∷ types
        → Moves kind.Reference t → At f m
        → ((a : Pointer) (below : List Tagged) → At (record f { stack = types }) (with_operands below m) → Leads P (next a (with_operands below m))) → Leads P (pop_reference next m)
    pop_reference-leads P next f t types m e moves at go =
        pop-leads P (λ value m. on_reference (λ a. next a m) value) f t types m e at
        (λ value below fit all. on_reference-leads P (λ a. next a (with_operands below m)) m t value moves fit (λ a. go a below all))

    pub push-leads : (P : Machine → Type 0) (value : Tagged) (next : Machine → Next) (t : VType) (f : Frame) (m : Machine)
        → length f.stack < (w.method m.stack.frame.method).max_stack → At f m → FitsIn m t value
        → (At (record f { stack = t ∷ f.stack }) (record m { stack = pushed value m.stack }) → Leads P (next (record m { stack = pushed value m.stack }))) → Leads P (push value next m)
    push-leads P value next t f m room at fit go =
        let inside : nat_lt (length m.stack.frame.operands) m.stack.frame.room ≡ true =
        rw (length-AllZip (FitsIn m) f.stack m.stack.frame.operands at.frame.operands, at.frame.room) (lt-ltb (length f.stack) (w.method m.stack.frame.method).max_stack room) in
        rw inside (go record {
          frame = record { known = at.frame.known; locals = at.frame.locals; operands = (fit, at.frame.operands); room = at.frame.room };
          heap = at.heap;
          callers = at.callers;
        })

    -- a local variable of a type, of a kind
    pub load-leads : (P : Machine → Type 0) (moved : WordKind) (next : Tagged → Next) (n : ℕ) (t : VType) (f : Frame) (m : Machine) → slice_get f.locals n ≡ Some t → Moves moved t → At f m
        → ((v : Tagged) → FitsIn m t v → Leads P (next v)) → Leads P (load_as (is_kind moved) n next m)
    load-leads P moved next n t f m e moves at go =
        let held = AllZip-get (FitsIn m) f.locals m.stack.frame.locals n t at.frame.locals e in
        rw (held.1.0, kind_value (held_by m) (marks_of w m.stack.frame.method fresh receiver) moved t held.0 moves held.1.1) (go held.0 held.1.1)

    pub load_int-leads : (P : Machine → Type 0) (next : ℤ → Next) (n : ℕ) (f : Frame) (m : Machine) → slice_get f.locals n ≡ Some vtype.Int → At f m
        → ((z : ℤ) → Leads P (next z)) → Leads P (load_as (is_kind kind.Int) n (on_int next) m)
    load_int-leads P next n f m e at go = load-leads P kind.Int (on_int next) n vtype.Int f m e tt at (λ v fit. on_int-leads P next m v fit go)

    pub store-leads : (P : Machine → Type 0) (n : ℕ) (value : Tagged) (next : Machine → Next) (t : VType) (f : Frame) (m : Machine)
        → n < length f.locals → At f m → FitsIn m t value
        → (At (record f { locals = slice_set f.locals n t }) (record m { stack = with_local n value m.stack }) → Leads P (next (record m { stack = with_local n value m.stack })))
        → Leads P (store n value next m)
    store-leads P n value next t f m within at fit go =
        let inside : nat_lt n (length m.stack.frame.locals) ≡ true = rw (length-AllZip (FitsIn m) f.locals m.stack.frame.locals at.frame.locals) (lt-ltb n (length f.locals) within) in
        rw inside (go record {
          frame = record { known = at.frame.known; locals = AllZip-set (FitsIn m) f.locals m.stack.frame.locals n t value at.frame.locals fit; operands = at.frame.operands; room = at.frame.room };
          heap = at.heap;
          callers = at.callers;
        })

    -- a write of a value of the type that the local variable has
    pub rewrite-leads : (P : Machine → Type 0) (n : ℕ) (value : Tagged) (next : Machine → Next) (t : VType) (f : Frame) (m : Machine)
        → slice_get f.locals n ≡ Some t → At f m → FitsIn m t value
        → (At f (record m { stack = with_local n value m.stack }) → Leads P (next (record m { stack = with_local n value m.stack }))) → Leads P (store n value next m)
    rewrite-leads P n value next t f m e at fit go =
        let within : n < length f.locals = slice_get_within f.locals n t e in
        let inside : nat_lt n (length m.stack.frame.locals) ≡ true = rw (length-AllZip (FitsIn m) f.locals m.stack.frame.locals at.frame.locals) (lt-ltb n (length f.locals) within) in
        rw inside (go record {
          frame = record { known = at.frame.known; locals = AllZip-keep (FitsIn m) f.locals m.stack.frame.locals n t value at.frame.locals e fit; operands = at.frame.operands; room = at.frame.room };
          heap = at.heap;
          callers = at.callers;
        })

    -- a machine at another index
    pub jump-leads : (f : Frame) (m : Machine) (to : ℕ) → Enters w m.stack.frame.method to f → At f m → Leads (IsTyped w asked) (jump to m)
    jump-leads f m to enters at = record {
      fresh = fresh;
      receiver = receiver;
      inside = enters.inside;
      at = record {
        frame = FitsFrame-assignable (held_by m) fresh receiver f ((w.method m.stack.frame.method).frames to) (record m.stack.frame { index = to }) enters.to
            record { known = at.frame.known; locals = at.frame.locals; operands = at.frame.operands; room = at.frame.room };
        heap = at.heap;
        callers = at.callers;
      };
    }

    pub go_on-leads : (f : Frame) (m : Machine) → Enters w m.stack.frame.method (m.stack.frame.index + 1) f → At f m → Leads (IsTyped w asked) (go_on m)
    go_on-leads f m enters at = jump-leads f m (m.stack.frame.index + 1) enters at

    pub branch-leads : (f : Frame) (m : Machine) (taken : Bool) (to : ℕ) → Enters w m.stack.frame.method (m.stack.frame.index + 1) f
        → Enters w m.stack.frame.method to f → At f m → Leads (IsTyped w asked) (branch taken to m)
    branch-leads f m false to next lands at = go_on-leads f m next at
    branch-leads f m true to next lands at = jump-leads f m to lands at
