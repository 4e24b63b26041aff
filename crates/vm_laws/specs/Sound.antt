-- What is promised of every class set that is linked and checked: its machine, which checks nothing again (JVMS 4.10), is never stuck.
use Rattle.std.specs.Prelude.{◌≡◌, ℕ, false, if◌then◌else◌, Option, Some, List, ◌∷◌, slice_get}
use Rattle.cf_reader.specs.declared.class_file.Method.{Method}
use Rattle.cls_link.specs.Links.{Links, Declared, declared_methods}
use Rattle.space_ids.specs.declared.ids.ClassId.{ClassId}
use Rattle.ver_frames.specs.Frames.{Frame}
use Rattle.ver_frames.specs.Method.{is_static}
use Rattle.ver_frames.specs.declared.vtype.VType.{VType}
use Rattle.ver_frames.specs.declared.vtype.VType.TheVariants as vtype
use Rattle.vm_act.specs.Next.{On}
use Rattle.vm_act.specs.declared.calls.Callee.{Callee}
use Rattle.vm_code.specs.Methods.{callee_of, is_init}
use Rattle.vm_heap.specs.References.{Table}
use Rattle.vm_heap.specs.Heap.{Store}
use Rattle.vm_heap.specs.Tagged.{Tagged}
use Rattle.vm_stack.specs.Frames as stacks
use Rattle.vm_typing.specs.Fits.{AllFit, HeapFits, held_in, no_marks}
use Rattle.vm_typing.specs.Runs.{IsSound, KeepsTyped, Move, MovesFit, played, started}
use Rattle.vm_typing.specs.World.{World}
use Rattle.vm_laws.specs.Worlds.{AreTyped, world_of}
use Rattle.vm_laws.specs.Rows.{arguments_in, result_in}
use Rattle.vm_laws.specs.Steps.{AreNeverStuck, AreNeverStuckByReplies, step}

-- the types of the words that a method of a class is passed, if it is no `<init>`: the receiver of an instance method first
abbrev pub passed_types : World → ClassId → Method → List VType
passed_types w class method = if is_static method then arguments_in w method else vtype.Object class ∷ arguments_in w method

-- a method with code, which is no `<init>`, is started on values of the types of its parameters, over a heap whose objects are of their
-- types, and with references
pub record IsStarted (links : Links) (w : World) (d : Declared) (callee : Callee) (values : List Tagged) (heap : Store) (references : Table) : Type 0 where
  pub declared : slice_get (declared_methods links.classes) callee.method ≡ Some d
  pub normal : is_init d.method ≡ false
  pub has_code : callee_of links.classes false (record { 0 = callee.method }) ≡ Some callee
  pub values_fit : AllFit w (held_in heap references) no_marks (passed_types w d.class d.method) values
  pub heap_fits : HeapFits w (held_in heap references)

-- however many steps such a method makes, and whatever it is replied to what it asks, if that fits, it is never stuck, and its task ends by
-- a throw or with a result of the type that it declares
abbrev pub AreSoundFromStart : Links → (ℕ → ℕ → Frame) → Type 0
AreSoundFromStart links frames = (d : Declared) (callee : Callee) (values : List Tagged) (lowest : stacks.Frame) (free : ℕ) (heap : Store) (references : Table)
    → IsStarted links (world_of links frames) d callee values heap references
    → (moves : List Move) → MovesFit (world_of links frames) (step links) moves (On (started callee values lowest free heap references))
    → IsSound (world_of links frames) (result_in (world_of links frames) d.method) (played (step links) moves (On (started callee values lowest free heap references)))

-- A set whose methods are typed by frames, so that each step of a typed machine leads to a typed one, or to one that waits for a reply, or
-- ends its task with what that may give: so no typed machine is ever stuck, and no method that is started is.
pub record IsNeverStuck (links : Links) : Type 0 where
  pub frames : ℕ → ℕ → Frame
  pub typed : AreTyped links frames
  pub keeps : (asked : Option VType) → KeepsTyped (world_of links frames) asked (step links)
  pub runs : AreNeverStuck links frames
  pub replies : AreNeverStuckByReplies links frames
  pub starts : AreSoundFromStart links frames
