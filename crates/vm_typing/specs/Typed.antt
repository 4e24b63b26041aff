-- When a machine fits the types of the program that it runs (JVMS 4.10.1.4 for type frames): its running frame, those of its callers, which
-- wait for a result, and its heap. The remote objects are those of its references.
use Rattle.std.specs.Prelude.{◌≡◌, ℕ, ◌+◌, ◌<◌, ◌≤◌, true, Option, Some, None, List, [], ◌∷◌, length}
use Rattle.ver_frames.specs.Frames.{Frame}
use Rattle.ver_frames.specs.declared.vtype.VType.{VType}
use Rattle.vm_heap.specs.Tagged.{Site}
use Rattle.vm_stack.specs.Frames as frames
use Rattle.vm_act.specs.declared.machine.Machine.{Machine}
use Rattle.vm_typing.specs.World.{World, Enters}
use Rattle.vm_typing.specs.Fits.{Held, Marks, AllFit, HeapFits, held_by}

-- a frame's marks, by its method's number
abbrev pub marks_of : World → ℕ → (ℕ → Site) → Site → Marks
marks_of w number fresh receiver = record { method = w.method number; fresh = fresh; receiver = receiver }

-- a frame fits a type frame
pub record FitsFrame (w : World) (held : Held) (fresh : ℕ → Site) (receiver : Site) (f : Frame) (frame : frames.Frame) : Type 0 where
  pub known : w.has_code frame.method ≡ true
  pub locals : AllFit w held (marks_of w frame.method fresh receiver) f.locals frame.locals
  pub operands : AllFit w held (marks_of w frame.method fresh receiver) f.stack frame.operands
  pub room : frame.room ≡ (w.method frame.method).max_stack

-- the frame once a result is pushed
abbrev pub with_result : Option VType → Frame → Frame
with_result None f = f
with_result (Some t) f = record f { stack = t ∷ f.stack }

-- there is room for a result
abbrev pub HasRoom : ℕ → Option VType → Frame → Type 0
HasRoom max_stack None f = Unit {0}
HasRoom max_stack (Some t) f = length f.stack < max_stack

-- the frame of a caller fits the type frame after its call, once the result is pushed
pub record Waits (w : World) (held : Held) (result : Option VType) (frame : frames.Frame) : Type 0 where
  pub fresh : ℕ → Site
  pub receiver : Site
  pub given : Frame
  pub fits : FitsFrame w held fresh receiver given frame
  pub has_room : HasRoom (w.method frame.method).max_stack result given
  pub enters : Enters w frame.method frame.index (with_result result given)

-- Each caller waits for the result of the method above it. The lowest frame is the empty one: what comes there is what
-- the task gives.
abbrev pub CallersWait : World → Option VType → Held → Option VType → List frames.Frame → Type 0
CallersWait w asked held result [] = ⊥
CallersWait w asked held result (frame ∷ []) = result ≡ asked
CallersWait w asked held result (frame ∷ below ∷ callers) =
    Waits w held result frame × CallersWait w asked held (w.method frame.method).result (below ∷ callers)

-- so many operands are no more than a method has at one of its instructions
pub record HasDepth (w : World) (number depth : ℕ) : Type 0 where
  pub index : ℕ
  pub inside : index < (w.method number).count
  pub few : depth ≤ length ((w.method number).frames index).stack

-- A machine stands before the instruction after the one that it makes: it has as many local variables as the frame that comes in there, and no
-- more operands than its method has somewhere
pub record StandsBefore (w : World) (asked : Option VType) (m : Machine) : Type 0 where
  pub next : Frame
  pub known : w.has_code m.stack.frame.method ≡ true
  pub enters : Enters w m.stack.frame.method (m.stack.frame.index + 1) next
  pub locals : length m.stack.frame.locals ≡ length next.locals
  pub operands : HasDepth w m.stack.frame.method (length m.stack.frame.operands)
  pub callers : CallersWait w asked (held_by m) (w.method m.stack.frame.method).result m.stack.callers

-- a machine whose running frame fits a type frame
pub record IsAt (w : World) (asked : Option VType) (fresh : ℕ → Site) (receiver : Site) (f : Frame) (m : Machine) : Type 0 where
  pub frame : FitsFrame w (held_by m) fresh receiver f m.stack.frame
  pub heap : HeapFits w (held_by m)
  pub callers : CallersWait w asked (held_by m) (w.method m.stack.frame.method).result m.stack.callers

-- a machine stands at an instruction and fits the type frame there, and its task gives a result of a type
pub record IsTyped (w : World) (asked : Option VType) (m : Machine) : Type 0 where
  pub fresh : ℕ → Site
  pub receiver : Site
  pub inside : m.stack.frame.index < (w.method m.stack.frame.method).count
  pub at : IsAt w asked fresh receiver ((w.method m.stack.frame.method).frames m.stack.frame.index) m
