-- The one pass over a body, with one current frame (JVMS 4.10.1.6).
use Rattle.std.specs.Prelude.{◌≡◌, ℕ, suc, ◌<◌, Some, Result, Ok, Err, length, MatchOption, MatchBool}
use Rattle.std.specs.List.{AllByRecursion}
use Rattle.cls_link.specs.declared.linked_code.LinkedInsn.{LinkedInsn}
use Rattle.ver_check.specs.Bodies.{Body, insn_at, declared_at, offset_at}
use Rattle.ver_check.specs.Effects.{effect, falls_through, targets}
use Rattle.ver_check.specs.Typing.{Lands}
use Rattle.ver_rules.specs.declared.fault.CheckRule.{CheckRule}
use Rattle.ver_rules.specs.declared.fault.CheckRule.TheVariants.{NoFrame}
use Rattle.ver_check.specs.declared.stop.Stop.{Stop}
use Rattle.ver_check.specs.declared.stop.Stop.TheVariants.{Broken, Missing, Memory}
use Rattle.ver_frames.specs.Assignable.{IsFrameAssignable}
use Rattle.ver_frames.specs.Frames.{Frame}

-- The pass merges the declared frames and the instructions by offset, and checks each instruction from the frame that comes in.

-- a frame comes in at an index, and the pass goes on there with this one: the frame that is declared
-- there, or the one that came in
abbrev pub ComesIn : Body → ℕ → Frame → Frame → Type 0
ComesIn body index given here =
    MatchOption (declared_at body index) (here ≡ given) (λ declared. IsFrameAssignable body.classes given declared × (here ≡ declared))

-- after an instruction and its effect the pass goes on with this frame
abbrev pub GoesTo : Body → ℕ → LinkedInsn → Frame → Frame → Type 0
GoesTo body index insn after next =
    MatchBool (falls_through insn)
    ((suc index < length body.insns) × ComesIn body (suc index) after next)
    (suc index < length body.insns → declared_at body (suc index) ≡ Some next)

-- the frame lands on a declared one at each target
abbrev pub LandsOnAll : Body → LinkedInsn → Frame → Type 0
LandsOnAll body insn after = AllByRecursion (Lands body after) (targets body insn)

-- the pass comes through an instruction, from this frame to this one at the next index
pub record Passes (body : Body) (index : ℕ) (insn : LinkedInsn) (here next : Frame) : Type 0 where
  pub after : Frame
  pub acts : effect body (offset_at body index) insn here ≡ Ok after
  pub lands : LandsOnAll body insn after
  pub goes_to : GoesTo body index insn after next

-- the pass reaches an index with this frame
pub data Reaches (body : Body) : ℕ → Frame → Type 0 where
  begins : (here : Frame) → ComesIn body 0 body.opening here → Reaches body 0 here
  comes_on : (index : ℕ) (insn : LinkedInsn) (here next : Frame) → Reaches body index here → insn_at body index ≡ Some insn → Passes body index insn here next → Reaches body (suc index) next

-- a function found that this is so; or it stopped at the instruction at an index, and this is wrong; or memory ran out
abbrev pub Settles : {X : Type 0} → ℕ → Result X Stop → Type 0 → (CheckRule → ℕ → Type 0) → Type 0
Settles index (Ok x) so Wrong = so
Settles index (Err (Broken rule)) so Wrong = Wrong rule index
Settles index (Err (Missing missing)) so Wrong = Wrong NoFrame missing
Settles index (Err Memory) so Wrong = Unit {0}
