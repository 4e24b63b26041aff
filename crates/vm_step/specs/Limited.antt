-- What the frames of a task may hold: "the maximum depth of the operand stack of this method", and "the number of local variables" (JVMS
-- 4.7.3).
use Rattle.std.specs.Prelude.{◌≡◌, ◌≤◌, Some, List, [], ◌∷◌, length}
use Rattle.cls_link.specs.Links.{Links}
use Rattle.vm_stack.specs.Frames.{Frame}
use Rattle.vm_typing.specs.Runs.{Move}
use Rattle.vm_step.specs.Run.{State, Running, Waits, Over, Lost, played, AreDue}
use Rattle.vm_step.specs.Subjects.{Declared, declared_at}

-- a frame is one of a method with code, and has the local variables of that, and no more operands than it allows
pub record IsWithinCode (links : Links) (frame : Frame) : Type 0 where
  pub declared : Declared
  pub is : declared_at links (record { 0 = frame.method }) ≡ Some declared
  pub locals : length frame.locals ≡ declared.code.max_locals
  pub operands : length frame.operands ≤ declared.code.max_stack

-- so is the frame of each caller; below all of them lies one of no method
abbrev pub AreWithinCode : Links → List Frame → Type 0
AreWithinCode links [] = Unit {0}
AreWithinCode links (frame ∷ []) = Unit {0}
AreWithinCode links (frame ∷ below ∷ callers) = IsWithinCode links frame × AreWithinCode links (below ∷ callers)

-- the frame of the running method of a task and those of all its callers have max_locals local variables, and are within max_stack
abbrev pub KeepsWithin : Links → State → Type 0
KeepsWithin links (Running m fuel) = IsWithinCode links m.stack.frame × AreWithinCode links m.stack.callers
KeepsWithin links (Waits op m fuel) = IsWithinCode links m.stack.frame × AreWithinCode links m.stack.callers
KeepsWithin links (Over end fuel) = Unit {0}
KeepsWithin links Lost = Unit {0}

-- so they are after any steps, and any replies that are due
abbrev pub AlwaysKeepsWithin : Links → State → Type 0
AlwaysKeepsWithin links state = (moves : List Move) → AreDue links moves state → KeepsWithin links (played links moves state)
