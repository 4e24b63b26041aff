-- What stays when the heap changes, or references come: the class of each address and the reference of each row, and so what fits.
use Rattle.std.proofs.Common.{◌≡◌, ℕ, zero, suc, ◌+◌, ◌-◌, ◌<◌, List, [], ◌∷◌, ◌++◌, length, refl, ap, subst, arith, Option, Some, None, Bool, true, false, nat_eq, nat_lt, slice_set}
use Rattle.std.specs.Prelude.{ℤ, if◌then◌else◌, bytes_eq, option_map, option_and_then, slice_get}
use Rattle.std.proofs.lemmas.Bool.{ltb-true, eqb-true}
use Rattle.space_ids.specs.declared.ids.ClassId.{ClassId}
use Rattle.space_ids.specs.declared.ids.Ref.{Ref}
use Rattle.ver_frames.specs.Frames.{Frame}
use Rattle.ver_frames.specs.declared.vtype.VType.{VType}
use Rattle.ver_frames.specs.declared.vtype.VType.TheVariants as vtype
use Rattle.vm_heap.specs.Tagged.{Tagged, Site, HeapAddress, ReferenceRow, Int, Null, Local, Remote, Fresh, This, Unset, Head}
use Rattle.vm_heap.specs.Heap.{Cell, Object, Ints, cost, cell_at, changed_at, all_cost, cell_with_field, cell_with_element}
use Rattle.vm_stack.specs.Frames as frames
use Rattle.vm_typing.specs.World.{World}
use Rattle.vm_typing.specs.Fits.{Held, Pointee, OfHeap, OfSpace, OfStub, remote_pointee, pointee_at, class_in, IsA, IsOf, IsInts, There, Points, Marks, Fits, AllFit, CellFits, AllCells, no_marks}
use Rattle.vm_typing.specs.Typed.{FitsFrame, CallersWait, marks_of}

-- of the same class
abbrev pub IsSame : Cell → Cell → Type 0
IsSame (Object c fs) (Object d gs) = c ≡ d
IsSame (Object c fs) (Ints js) = ⊥
IsSame (Ints is) (Object d gs) = ⊥
IsSame (Ints is) (Ints js) = Unit {0}

same_itself : (x : Cell) → IsSame x x
same_itself (Object c fs) = refl
same_itself (Ints is) = tt

-- each address keeps its class
pub record KeepsCells (before after : List Cell) : Type 0 where
  pub kept : (a : ℕ) (x : Cell) → cell_at before a ≡ Some x → There (IsSame x) (cell_at after a)

pub all_kept : (cells : List Cell) → KeepsCells cells cells
all_kept cells = record { kept = λ a x is. rw is (same_itself x) }

-- and each row its reference
pub record Keeps (before after : Held) : Type 0 where
  pub heap : KeepsCells before.cells after.cells
  pub own : before.references.own ≡ after.references.own
  pub rows : (row : ℕ) (reference : Ref) → slice_get before.references.rows row ≡ Some reference
      → slice_get after.references.rows row ≡ Some reference

-- the heap alone changes
pub heap-Keeps : (held : Held) (cells : List Cell) → KeepsCells held.cells cells → Keeps held (record held { cells = cells })
heap-Keeps held cells keeps = record { heap = keeps; own = refl; rows = λ row reference is. is }

pub There-keeps : (P : Pointee → Type 0) (before after : Held) (site : Site) → ((x y : Cell) → IsSame x y → P (OfHeap x) → P (OfHeap y))
    → Keeps before after → There P (pointee_at before site) → There P (pointee_at after site)
There-keeps P before after (HeapAddress a) mono keeps there = at (cell_at before.cells a) refl there
  where
    to : (o : Option Cell) (x : Cell) → There (IsSame x) o → P (OfHeap x) → There P (option_map (λ cell. OfHeap cell) o)
    to None x same there = absurd same
    to (Some y) x same there = mono x y same there

    at : (o : Option Cell) → cell_at before.cells a ≡ o → There P (option_map (λ cell. OfHeap cell) o)
        → There P (option_map (λ cell. OfHeap cell) (cell_at after.cells a))
    at None is there = absurd there
    at (Some x) is there = to (cell_at after.cells a) x (keeps.heap.kept a x is) there
There-keeps P before after (ReferenceRow row) mono keeps there = at (slice_get before.references.rows row) refl there
  where
    at : (o : Option Ref) → slice_get before.references.rows row ≡ o → There P (option_map (remote_pointee before.references) o)
        → There P (option_map (remote_pointee after.references) (slice_get after.references.rows row))
    at None is there = absurd there
    at (Some reference) is there =
        rw (keeps.rows row reference is)
        (subst (λ own. P (if bytes_eq reference.space own then OfSpace reference.class else OfStub reference.class)) keeps.own there)

class_in-same : (w : World) (x y : Cell) → IsSame x y → class_in w (OfHeap x) ≡ class_in w (OfHeap y)
class_in-same w (Object c fs) (Object d gs) same = same
class_in-same w (Object c fs) (Ints js) same = absurd same
class_in-same w (Ints is) (Object d gs) same = absurd same
class_in-same w (Ints is) (Ints js) same = refl

IsA-same : (w : World) (class : ClassId) (x y : Cell) → IsSame x y → IsA w class (OfHeap x) → IsA w class (OfHeap y)
IsA-same w class x y same is = rw (← class_in-same w x y same) is

IsOf-same : (w : World) (class : ClassId) (x y : Cell) → IsSame x y → IsOf w class (OfHeap x) → IsOf w class (OfHeap y)
IsOf-same w class (Object c fs) (Object d gs) same is = rw (← same) is
IsOf-same w class (Object c fs) (Ints js) same is = absurd same
IsOf-same w class (Ints is) y same is' = absurd is'

IsInts-same : (x y : Cell) → IsSame x y → IsInts (OfHeap x) → IsInts (OfHeap y)
IsInts-same (Object c fs) y same is = absurd is
IsInts-same (Ints is) (Object d gs) same is' = absurd same
IsInts-same (Ints is) (Ints js) same is' = tt

Points-keeps : (P : Pointee → Type 0) (before after : Held) (v : Tagged) → ((x y : Cell) → IsSame x y → P (OfHeap x) → P (OfHeap y))
    → Keeps before after → Points P before v → Points P after v
Points-keeps P before after Null mono keeps fits = tt
Points-keeps P before after (Local a) mono keeps fits = There-keeps P before after (HeapAddress a) mono keeps fits
Points-keeps P before after (Int n) mono keeps fits = absurd fits
Points-keeps P before after (Remote row) mono keeps fits = There-keeps P before after (ReferenceRow row) mono keeps fits
Points-keeps P before after (Fresh index site) mono keeps fits = absurd fits
Points-keeps P before after (This site) mono keeps fits = absurd fits
Points-keeps P before after Unset mono keeps fits = absurd fits
Points-keeps P before after (Head header) mono keeps fits = absurd fits

pub Fits-keeps : (w : World) (before after : Held) (k : Marks) (t : VType) (v : Tagged) → Keeps before after → Fits w before k t v → Fits w after k t v
Fits-keeps w before after k vtype.Top v keeps fits = tt
Fits-keeps w before after k vtype.Int v keeps fits = fits
Fits-keeps w before after k vtype.Null v keeps fits = fits
Fits-keeps w before after k (vtype.Object class) v keeps fits = Points-keeps (IsA w class) before after v (IsA-same w class) keeps fits
Fits-keeps w before after k vtype.IntArray v keeps fits = Points-keeps IsInts before after v IsInts-same keeps fits
Fits-keeps w before after k (vtype.Uninitialized o) v keeps fits = record { is = fits.is; at = fits.at; there = made (k.method.made_at o) fits.there }
  where
    made : (c : Option ClassId) → There (λ class. There (IsOf w class) (pointee_at before (k.fresh o))) c → There (λ class. There (IsOf w class) (pointee_at after (k.fresh o))) c
    made None there = absurd there
    made (Some class) there = There-keeps (IsOf w class) before after (k.fresh o) (IsOf-same w class) keeps there
Fits-keeps w before after k vtype.UninitializedThis v keeps fits =
    record { is = fits.is; there = There-keeps (IsA w k.method.owner) before after k.receiver (IsA-same w k.method.owner) keeps fits.there }

pub AllFit-keeps : (w : World) (before after : Held) (k : Marks) (types : List VType) (values : List Tagged) → Keeps before after
    → AllFit w before k types values → AllFit w after k types values
AllFit-keeps w before after k [] [] keeps fit = tt
AllFit-keeps w before after k [] (v ∷ values) keeps fit = absurd fit
AllFit-keeps w before after k (t ∷ types) [] keeps fit = absurd fit
AllFit-keeps w before after k (t ∷ types) (v ∷ values) keeps fit = (Fits-keeps w before after k t v keeps fit.0, AllFit-keeps w before after k types values keeps fit.1)

pub CellFits-keeps : (w : World) (before after : Held) (x : Cell) → Keeps before after → CellFits w before x → CellFits w after x
CellFits-keeps w before after (Object c fs) keeps fits = AllFit-keeps w before after no_marks (w.fields c) fs keeps fits
CellFits-keeps w before after (Ints is) keeps fits = tt

pub AllCells-map : (P Q : Cell → Type 0) (cells : List Cell) → ((x : Cell) → P x → Q x) → AllCells P cells → AllCells Q cells
AllCells-map P Q [] to all = tt
AllCells-map P Q (c ∷ cells) to all = (to c all.0, AllCells-map P Q cells to all.1)

pub FitsFrame-keeps : (w : World) (before after : Held) (fresh : ℕ → Site) (receiver : Site) (f : Frame) (frame : frames.Frame) → Keeps before after
    → FitsFrame w before fresh receiver f frame → FitsFrame w after fresh receiver f frame
FitsFrame-keeps w before after fresh receiver f frame keeps fits = record {
  known = fits.known;
  locals = AllFit-keeps w before after (marks_of w frame.method fresh receiver) f.locals frame.locals keeps fits.locals;
  operands = AllFit-keeps w before after (marks_of w frame.method fresh receiver) f.stack frame.operands keeps fits.operands;
  room = fits.room;
}

pub CallersWait-keeps : (w : World) (asked : Option VType) (before after : Held) (result : Option VType) (callers : List frames.Frame) → Keeps before after
    → CallersWait w asked before result callers → CallersWait w asked after result callers
CallersWait-keeps w asked before after result [] keeps wait = wait
CallersWait-keeps w asked before after result (frame ∷ []) keeps wait = wait
CallersWait-keeps w asked before after result (frame ∷ below ∷ callers) keeps wait = (
  record {
    fresh = wait.0.fresh;
    receiver = wait.0.receiver;
    given = wait.0.given;
    fits = FitsFrame-keeps w before after wait.0.fresh wait.0.receiver wait.0.given frame keeps wait.0.fits;
    has_room = wait.0.has_room;
    enters = wait.0.enters;
  },
  CallersWait-keeps w asked before after (w.method frame.method).result (below ∷ callers) keeps wait.1,
)

-- a change of one cell that keeps its class and its size
pub changed-Keeps : (change : Cell → Cell) (at : ℕ) (cells : List Cell) → ((x : Cell) → IsSame x (change x)) → ((x : Cell) → cost (change x) ≡ cost x) → KeepsCells cells (changed_at change at cells)
unfolding cell_at changed_at
changed-Keeps change at cells same size = record { kept = λ a x is. each cells at a x is }
  where
    there : (x y : Cell) → IsSame x y → Path (Option Cell) (Some x) (Some x) → There (IsSame x) (Some y)
    there x y s e = s

    found : (x : Cell) (o : Option Cell) → o ≡ Some x → There (IsSame x) o
    found x None e = absurd (cc)
    found x (Some y) e = let same : y ≡ x = cc in rw same (same_itself x)

    first : (c x : Cell) → Path (Option Cell) (Some c) (Some x) → IsSame x (change c)
    first c x e = let is : c ≡ x = cc in rw is (same x)

    later : (c x : Cell) (cs ds : List Cell) (a : ℕ) (b : Bool) → (cell_at cs (a - cost c) ≡ Some x → There (IsSame x) (cell_at ds (a - cost c)))
        → (if b then None else cell_at cs (a - cost c)) ≡ Some x → There (IsSame x) (if b then None else cell_at ds (a - cost c))
    later c x cs ds a true go e = absurd (cc)
    later c x cs ds a false go e = go e

    changed_first : (c x : Cell) (cs : List Cell) (a : ℕ) (b : Bool) → (if b then Some c else (if nat_lt a (cost c) then None else cell_at cs (a - cost c))) ≡ Some x
        → There (IsSame x) (if b then Some (change c) else (if nat_lt a (cost c) then None else cell_at cs (a - cost c)))
    changed_first c x cs a true e = first c x e
    changed_first c x cs a false e = found x (if nat_lt a (cost c) then None else cell_at cs (a - cost c)) e

    changed_later : (c x : Cell) (cs ds : List Cell) (a : ℕ) (b : Bool) → (cell_at cs (a - cost c) ≡ Some x → There (IsSame x) (cell_at ds (a - cost c)))
        → (if b then Some c else (if nat_lt a (cost c) then None else cell_at cs (a - cost c))) ≡ Some x
        → There (IsSame x) (if b then Some c else (if nat_lt a (cost c) then None else cell_at ds (a - cost c)))
    changed_later c x cs ds a true go e = found x (Some c) e
    changed_later c x cs ds a false go e = later c x cs ds a (nat_lt a (cost c)) go e

    each : (cs : List Cell) (at a : ℕ) (x : Cell) → cell_at cs a ≡ Some x → There (IsSame x) (cell_at (changed_at change at cs) a)
    each [] at a x e = absurd (cc)
    each (c ∷ cs) at a x e = split (λ f. each cs (at - cost c) (a - cost c) x f) (nat_eq at 0)
      where
        split : (cell_at cs (a - cost c) ≡ Some x → There (IsSame x) (cell_at (changed_at change (at - cost c) cs) (a - cost c)))
            → (b : Bool) → There (IsSame x) (cell_at (if b then change c ∷ cs else c ∷ changed_at change (at - cost c) cs) a)
        split go true = rw (size c) (changed_first c x cs a (nat_eq a 0) e)
        split go false = changed_later c x cs (changed_at change (at - cost c) cs) a (nat_eq a 0) go e

length-set : {A : Type 0} (xs : List A) (at : ℕ) (x : A) → length (slice_set xs at x) ≡ length xs
length-set [] at x = refl
length-set (y ∷ xs) zero x = refl
length-set (y ∷ xs) (suc at) x = ap suc (length-set xs at x)

pub with_field-Keeps : (address slot : ℕ) (v : Tagged) (held : Held)
    → Keeps held (record held { cells = changed_at (cell_with_field slot v) address held.cells })
unfolding cost
with_field-Keeps address slot v held =
    heap-Keeps held (changed_at (cell_with_field slot v) address held.cells) (changed-Keeps (cell_with_field slot v) address held.cells same size)
  where
    same : (x : Cell) → IsSame x (cell_with_field slot v x)
    same (Object c fs) = refl
    same (Ints is) = tt

    size : (x : Cell) → cost (cell_with_field slot v x) ≡ cost x
    size (Object c fs) = rw (length-set fs slot v) refl
    size (Ints is) = refl

pub with_element-Keeps : (address index : ℕ) (n : ℤ) (held : Held)
    → Keeps held (record held { cells = changed_at (cell_with_element index n) address held.cells })
unfolding cost
with_element-Keeps address index n held =
    heap-Keeps held (changed_at (cell_with_element index n) address held.cells) (changed-Keeps (cell_with_element index n) address held.cells same size)
  where
    same : (x : Cell) → IsSame x (cell_with_element index n x)
    same (Object c fs) = refl
    same (Ints is) = tt

    size : (x : Cell) → cost (cell_with_element index n x) ≡ cost x
    size (Object c fs) = refl
    size (Ints is) = rw (length-set is index n) refl

-- one more
pub added-Keeps : (held : Held) (new : Cell) → Keeps held (record held { cells = held.cells ++ new ∷ [] })
unfolding cell_at
added-Keeps held new = heap-Keeps held (held.cells ++ new ∷ []) (record { kept = λ a x is. rw (each held.cells a x is) (same_itself x) })
  where
    later : (c x : Cell) (cs ds : List Cell) (a : ℕ) (b : Bool) → (cell_at cs (a - cost c) ≡ Some x → cell_at ds (a - cost c) ≡ Some x)
        → (if b then None else cell_at cs (a - cost c)) ≡ Some x → (if b then None else cell_at ds (a - cost c)) ≡ Some x
    later c x cs ds a true go e = absurd (cc)
    later c x cs ds a false go e = go e

    at_first : (c x : Cell) (cs ds : List Cell) (a : ℕ) (b : Bool) → (cell_at cs (a - cost c) ≡ Some x → cell_at ds (a - cost c) ≡ Some x)
        → (if b then Some c else (if nat_lt a (cost c) then None else cell_at cs (a - cost c))) ≡ Some x
        → (if b then Some c else (if nat_lt a (cost c) then None else cell_at ds (a - cost c))) ≡ Some x
    at_first c x cs ds a true go e = e
    at_first c x cs ds a false go e = later c x cs ds a (nat_lt a (cost c)) go e

    each : (cs : List Cell) (a : ℕ) (x : Cell) → cell_at cs a ≡ Some x → cell_at (cs ++ new ∷ []) a ≡ Some x
    each [] a x e = absurd (cc)
    each (c ∷ cs) a x e = at_first c x cs (cs ++ new ∷ []) a (nat_eq a 0) (λ f. each cs (a - cost c) x f) e

cost_some : (c : Cell) → 0 < cost c
unfolding cost
cost_some (Object class fs) = omega arith
cost_some (Ints is) = omega arith

pub cell_at-new : (cells : List Cell) (new : Cell) → cell_at (cells ++ new ∷ []) (all_cost cells) ≡ Some new
unfolding cell_at all_cost
cell_at-new [] new = refl
cell_at-new (c ∷ cs) new = at_first (cell_at-new cs new) (nat_eq (cost c + all_cost cs) 0) refl
  where
    at_next : cell_at (cs ++ new ∷ []) (all_cost cs) ≡ Some new → (b : Bool) → nat_lt (cost c + all_cost cs) (cost c) ≡ b → (if b then None else cell_at (cs ++ new ∷ []) (cost c + all_cost cs - cost c)) ≡ Some new
    at_next go true lt = let less : cost c + all_cost cs < cost c = ltb-true (cost c + all_cost cs) (cost c) lt in absurd (omega arith)
    at_next go false lt = let same : cost c + all_cost cs - cost c ≡ all_cost cs = omega arith in rw same go

    at_first : cell_at (cs ++ new ∷ []) (all_cost cs) ≡ Some new → (b : Bool) → nat_eq (cost c + all_cost cs) 0 ≡ b
        → (if b then Some c else (if nat_lt (cost c + all_cost cs) (cost c) then None else cell_at (cs ++ new ∷ []) (cost c + all_cost cs - cost c))) ≡ Some new
    at_first go true eq = let none : cost c + all_cost cs ≡ 0 = eqb-true (cost c + all_cost cs) 0 eq in absurd (omega (arith, cost_some c))
    at_first go false eq = at_next go (nat_lt (cost c + all_cost cs) (cost c)) refl

pub AllCells-at : (P : Cell → Type 0) (cells : List Cell) (a : ℕ) (x : Cell) → AllCells P cells → cell_at cells a ≡ Some x → P x
unfolding cell_at
AllCells-at P [] a x all e = absurd (cc)
AllCells-at P (c ∷ cs) a x all e = at_first (λ f. AllCells-at P cs (a - cost c) x all.1 f) (nat_eq a 0) e
  where
    at_next : (cell_at cs (a - cost c) ≡ Some x → P x) → (b : Bool) → (if b then None else cell_at cs (a - cost c)) ≡ Some x → P x
    at_next go true e = absurd (cc)
    at_next go false e = go e

    at_first : (cell_at cs (a - cost c) ≡ Some x → P x) → (b : Bool) → (if b then Some c else (if nat_lt a (cost c) then None else cell_at cs (a - cost c))) ≡ Some x → P x
    at_first go true e = let same : c ≡ x = cc in subst P same all.0
    at_first go false e = at_next go (nat_lt a (cost c)) e

pub AllCells-changed : (P : Cell → Type 0) (change : Cell → Cell) (cells : List Cell) (a : ℕ) (x : Cell) → AllCells P cells → cell_at cells a ≡ Some x → P (change x)
    → AllCells P (changed_at change a cells)
unfolding cell_at changed_at
AllCells-changed P change [] a x all e new = tt
AllCells-changed P change (c ∷ cs) a x all e new = at_first (λ f. AllCells-changed P change cs (a - cost c) x all.1 f new) (nat_eq a 0) e
  where
    at_next : (cell_at cs (a - cost c) ≡ Some x → AllCells P (changed_at change (a - cost c) cs)) → (b : Bool) → (if b then None else cell_at cs (a - cost c)) ≡ Some x → AllCells P (c ∷ changed_at change (a - cost c) cs)
    at_next go true e = absurd (cc)
    at_next go false e = (all.0, go e)

    at_first : (cell_at cs (a - cost c) ≡ Some x → AllCells P (changed_at change (a - cost c) cs)) → (b : Bool) → (if b then Some c else (if nat_lt a (cost c) then None else cell_at cs (a - cost c))) ≡ Some x
        → AllCells P (if b then change c ∷ cs else c ∷ changed_at change (a - cost c) cs)
    at_first go true e = let same : c ≡ x = cc in (rw same new, all.1)
    at_first go false e = at_next go (nat_lt a (cost c)) e

pub AllCells-add : (P : Cell → Type 0) (cells : List Cell) (new : Cell) → AllCells P cells → P new → AllCells P (cells ++ new ∷ [])
AllCells-add P [] new all fits = (fits, tt)
AllCells-add P (c ∷ cs) new all fits = (all.0, AllCells-add P cs new all.1 fits)
