-- When a value is of a type, over what its task holds (JVMS 4.10.1.2 for the types).
use Rattle.std.specs.Prelude.{◌≡◌, ℕ, false, if◌then◌else◌, Option, Some, None, List, [], ◌∷◌, slice_get, option_map}
use Rattle.std.specs.List.{AllZip}
use Rattle.space_ids.specs.declared.ids.ClassId.{ClassId}
use Rattle.space_ids.specs.declared.ids.Ref.{Ref}
use Rattle.cls_set.specs.Subtypes.{IsRemote}
use Rattle.ver_frames.specs.Assignable.{IsObjectAssignable}
use Rattle.ver_frames.specs.declared.vtype.VType.{VType}
use Rattle.ver_frames.specs.declared.vtype.VType.TheVariants as vtype
use Rattle.vm_heap.specs.Tagged.{Tagged, Site, HeapAddress, ReferenceRow, Int, Null, Local, Remote, Fresh, This, Unset, Head, IsInt}
use Rattle.vm_heap.specs.Heap.{Cell, Object, Ints, Store, cell_at}
use Rattle.vm_heap.specs.References.{Table, is_own}
use Rattle.vm_act.specs.declared.machine.Machine.{Machine}
use Rattle.vm_typing.specs.World.{World, MethodType, IsKnown}

-- what a task holds beside its frames: the objects and arrays of its heap, and its list of references to remote objects
pub record Held : Type 0 where
  pub cells : List Cell
  pub references : Table

abbrev pub held_in : Store → Table → Held
held_in heap references = record { cells = heap.cells; references = references }

abbrev pub held_by : Machine → Held
held_by m = held_in m.heap m.references

-- what a reference may stand for: an object or an array of the heap, a remote object of the task's own space, or a stub of an object of
-- another one. Of remote objects the class is known
pub data Pointee : Type 0 where
  OfHeap : Cell → Pointee
  OfSpace : ClassId → Pointee
  OfStub : ClassId → Pointee

abbrev pub remote_pointee : Table → Ref → Pointee
remote_pointee table reference = if is_own table reference then OfSpace reference.class else OfStub reference.class

-- what stands at a site
abbrev pub pointee_at : Held → Site → Option Pointee
pointee_at held (HeapAddress address) = option_map (λ cell. OfHeap cell) (cell_at held.cells address)
pointee_at held (ReferenceRow row) = option_map (remote_pointee held.references) (slice_get held.references.rows row)

-- the class of an object; an array and a stub are used as objects of java/lang/Object
abbrev pub class_in : World → Pointee → ClassId
class_in w (OfHeap (Object class fields)) = class
class_in w (OfHeap (Ints elements)) = w.object
class_in w (OfSpace class) = class
class_in w (OfStub class) = w.object

-- remote objects are those of remote classes
abbrev pub IsPlaced : World → Pointee → Type 0
IsPlaced w (OfHeap cell) = Unit {0}
IsPlaced w (OfSpace class) = IsRemote w.classes class
IsPlaced w (OfStub class) = IsKnown w class × IsRemote w.classes class

-- what may stand for an object of a class
abbrev pub IsA : World → ClassId → Pointee → Type 0
IsA w class pointee =
    IsKnown w (class_in w pointee) × IsObjectAssignable w.classes (class_in w pointee) class × IsPlaced w pointee

-- an object of this very class
abbrev pub IsOf : World → ClassId → Pointee → Type 0
IsOf w class (OfHeap (Object c fields)) = (c ≡ class) × IsKnown w c
IsOf w class (OfHeap (Ints elements)) = ⊥
IsOf w class (OfSpace c) = (c ≡ class) × IsKnown w c × IsRemote w.classes c
IsOf w class (OfStub c) = ⊥

abbrev pub IsInts : Pointee → Type 0
IsInts (OfHeap (Object class fields)) = ⊥
IsInts (OfHeap (Ints elements)) = Unit {0}
IsInts (OfSpace class) = ⊥
IsInts (OfStub class) = ⊥

-- there is one, and it has the property
abbrev pub There : {A : Type 0} → (A → Type 0) → Option A → Type 0
There P None = ⊥
There P (Some x) = P x

abbrev pub IsNull : Tagged → Type 0
IsNull (Int n) = ⊥
IsNull Null = Unit {0}
IsNull (Local address) = ⊥
IsNull (Remote row) = ⊥
IsNull (Fresh index site) = ⊥
IsNull (This site) = ⊥
IsNull Unset = ⊥
IsNull (Head header) = ⊥

-- null, or at its site there is one with the property
abbrev pub Points : (Pointee → Type 0) → Held → Tagged → Type 0
Points P held (Int n) = ⊥
Points P held Null = Unit {0}
Points P held (Local address) = There P (pointee_at held (HeapAddress address))
Points P held (Remote row) = There P (pointee_at held (ReferenceRow row))
Points P held (Fresh index site) = ⊥
Points P held (This site) = ⊥
Points P held Unset = ⊥
Points P held (Head header) = ⊥

-- what a frame's uninitialised objects are: its method, the site of what each `new` made last, by the offset of the instruction, and that
-- of the receiver of an `<init>`
pub record Marks : Type 0 where
  pub method : MethodType
  pub fresh : ℕ → Site
  pub receiver : Site

-- what the `new` at an offset made: on each offset there is one site alone, and the object is of the class that the instruction names
pub record IsMade (w : World) (held : Held) (k : Marks) (offset : ℕ) (value : Tagged) : Type 0 where
  pub is : value ≡ Fresh (k.method.index_at offset) (k.fresh offset)
  pub at : k.method.offset_at (k.method.index_at offset) ≡ offset
  pub there : There (λ class. There (IsOf w class) (pointee_at held (k.fresh offset))) (k.method.made_at offset)

-- the receiver of a running `<init>`
pub record IsReceiver (w : World) (held : Held) (k : Marks) (value : Tagged) : Type 0 where
  pub is : value ≡ This k.receiver
  pub there : There (IsA w k.method.owner) (pointee_at held k.receiver)

-- a value is of a type
abbrev pub Fits : World → Held → Marks → VType → Tagged → Type 0
Fits w held k vtype.Top value = Unit {0}
Fits w held k vtype.Int value = IsInt value
Fits w held k vtype.Null value = IsNull value
Fits w held k (vtype.Object class) value = Points (IsA w class) held value
Fits w held k vtype.IntArray value = Points IsInts held value
Fits w held k (vtype.Uninitialized offset) value = IsMade w held k offset value
Fits w held k vtype.UninitializedThis value = IsReceiver w held k value

-- the values and the types have one length, and each value is of the type at its index
abbrev pub AllFit : World → Held → Marks → List VType → List Tagged → Type 0
AllFit w held k = AllZip (Fits w held k)

-- of no method there is an uninitialised object
abbrev pub no_site : Site
no_site = HeapAddress 0

abbrev pub no_method : MethodType
no_method = record {
  owner = record { 0 = 0 };
  is_init = false;
  begins_uninit = false;
  arguments = [];
  result = None;
  max_locals = 0;
  max_stack = 0;
  count = 0;
  frames = λ index. record { locals = []; stack = []; flag_this_uninit = false };
  offset_at = λ index. 0;
  index_at = λ offset. 0;
  made_at = λ offset. None;
}

-- of what stands in the heap nothing is uninitialised
abbrev pub no_marks : Marks
no_marks = record { method = no_method; fresh = λ offset. no_site; receiver = no_site }

-- the fields of an object are of their types
abbrev pub CellFits : World → Held → Cell → Type 0
CellFits w held (Object class fields) = AllFit w held no_marks (w.fields class) fields
CellFits w held (Ints elements) = Unit {0}

abbrev pub AllCells : (Cell → Type 0) → List Cell → Type 0
AllCells P [] = Unit {0}
AllCells P (cell ∷ cells) = P cell × AllCells P cells

-- the heap is of its types
abbrev pub HeapFits : World → Held → Type 0
HeapFits w held = AllCells (CellFits w held) held.cells
