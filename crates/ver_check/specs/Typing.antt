-- Type safety of a method with code (JVMS 4.10.1.6).
use Rattle.std.specs.Prelude.{◌≡◌, ℕ, suc, ◌<◌, ◌≤◌, Some, Ok, length, MatchOption, MatchBool, IsSomeAnd, IsSome}
use Rattle.std.specs.List.{AllByRecursion}
use Rattle.cls_link.specs.declared.linked_code.LinkedInsn.{LinkedInsn}
use Rattle.ver_check.specs.Bodies.{Body, insn_at, declared_at, offset_at}
use Rattle.ver_check.specs.Effects.{effect, falls_through, targets}
use Rattle.ver_frames.specs.Assignable.{IsFrameAssignable}
use Rattle.ver_frames.specs.Frames.{Frame}

-- A body is type safe if there is a frame for each instruction that agrees with the declared frames and with what flows in.

-- a frame comes in at an index: it is assignable to the frame declared there, or it is the frame there
abbrev pub Enters : Body → (ℕ → Frame) → ℕ → Frame → Type 0
Enters body frames index given =
    MatchOption (declared_at body index) (frames index ≡ given) (λ declared. IsFrameAssignable body.classes given declared)

-- a frame comes in at the target of a branch; a frame has to be declared there
abbrev pub Lands : Body → Frame → ℕ → Type 0
Lands body given index =
    IsSomeAnd (declared_at body index) (λ declared. IsFrameAssignable body.classes given declared)

-- the frame after an instruction comes in at the next one, which has to be there. If the instruction does not fall through, a frame has to
-- be declared at the next one, if there is one
abbrev pub GoesOn : Body → (ℕ → Frame) → ℕ → LinkedInsn → Frame → Type 0
GoesOn body frames index insn after =
    MatchBool (falls_through insn)
    ((suc index < length body.insns) × Enters body frames (suc index) after)
    (suc index < length body.insns → IsSome (declared_at body (suc index)))

-- the instruction at an index agrees with the frames
pub record IsFineAt (body : Body) (frames : ℕ → Frame) (index : ℕ) (insn : LinkedInsn) : Type 0 where
  pub after : Frame
  pub acts : effect body (offset_at body index) insn (frames index) ≡ Ok after
  pub lands : AllByRecursion (Lands body after) (targets body insn)
  pub goes_on : GoesOn body frames index insn after

-- a frame has as many local variables as the method, and no more operands
pub record IsWithin (body : Body) (f : Frame) : Type 0 where
  pub locals : length f.locals ≡ body.max_locals
  pub stack : length f.stack ≤ body.max_stack

-- these are the frames of the instructions, by index
pub record IsTyping (body : Body) (frames : ℕ → Frame) : Type 0 where
  -- the arguments fit the local variables
  pub arguments : length body.opening.locals ≤ body.max_locals
  -- the code is not empty (JVMS 4.7.3)
  pub begins : 0 < length body.insns
  pub opening : Enters body frames 0 body.opening
  pub declared : (index : ℕ) (f : Frame) → declared_at body index ≡ Some f → frames index ≡ f
  pub within : (index : ℕ) → index < length body.insns → IsWithin body (frames index)
  pub fine : (index : ℕ) (insn : LinkedInsn) → insn_at body index ≡ Some insn → IsFineAt body frames index insn

-- a body is type safe
pub record IsTypeSafe (body : Body) : Type 0 where
  pub frames : ℕ → Frame
  pub typing : IsTyping body frames
