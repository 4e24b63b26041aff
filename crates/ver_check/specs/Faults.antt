-- Why a class set is not accepted: what the check meets first on its way through a method (JVMS 4.10.1.6).
use Rattle.std.specs.Prelude.{◌≡◌, ◌⊎◌, ℕ, suc, ◌<◌, ◌≤◌, Option, Some, None, Result, Ok, Err, List, [], ◌∷◌, length, slice_get, slice_index, option_and_then, MatchBool, IsSomeAnd}
use Rattle.cls_link.specs.Links.{Links}
use Rattle.cls_link.specs.declared.linked_code.LinkedInsn.{LinkedInsn}
use Rattle.ver_check.specs.Acceptance.{IsSafeAt, subject_of}
use Rattle.ver_check.specs.Bodies.{Body, body_of, insn_at, declared_at, offset_at}
use Rattle.ver_check.specs.Effects.{effect, falls_through, targets}
use Rattle.ver_check.specs.Flow.{LandsOnAll, Reaches}
use Rattle.ver_check.specs.Typing.{Lands}
use Rattle.ver_rules.specs.declared.fault.CheckFault.{CheckFault}
use Rattle.ver_rules.specs.declared.fault.CheckFault.TheVariants as fault
use Rattle.ver_rules.specs.declared.fault.CheckRule.{CheckRule}
use Rattle.ver_rules.specs.declared.fault.CheckRule.TheVariants.{StackMap, NoFrame, NotAssignable, FallsOff, Local}
use Rattle.ver_frames.specs.Assignable.{IsFrameAssignable}
use Rattle.ver_frames.specs.Frames.{Frame}
use Rattle.ver_frames.specs.Method.{Subject}
use Rattle.ver_frames.specs.StackMap.{declared_frames}
use Rattle.ver_frames.specs.declared.fault.StackMapFault.{StackMapFault}
use Rattle.ver_frames.specs.declared.fault.StackMapFault.TheVariants as frames

-- Each of these takes the broken rule, and the index of the instruction that the fault names.

-- what comes from an index is not assignable to the frame declared here: the fault names the index that it comes from
abbrev pub IsWrongEntry : Body → ℕ → Frame → ℕ → CheckRule → ℕ → Type 0
IsWrongEntry body here given from rule told =
    IsSomeAnd (declared_at body here) (λ declared. ¬ IsFrameAssignable body.classes given declared × (rule ≡ NotAssignable) × (told ≡ from))

-- no frame is declared here: the fault names this index
abbrev pub IsMissing : Body → ℕ → CheckRule → ℕ → Type 0
IsMissing body here rule told = (declared_at body here ≡ None) × (rule ≡ NoFrame) × (told ≡ here)

-- a frame does not land on one that is declared at the target of a branch
abbrev pub IsWrongTarget : Body → ℕ → Frame → ℕ → CheckRule → ℕ → Type 0
IsWrongTarget body index after target rule told = IsMissing body target rule told ⊎ IsWrongEntry body target after index rule told

-- at the first of these targets at which it does not land
abbrev pub IsWrongAmong : Body → ℕ → Frame → List ℕ → CheckRule → ℕ → Type 0
IsWrongAmong body index after [] rule told = ⊥
IsWrongAmong body index after (target ∷ others) rule told =
    IsWrongTarget body index after target rule told ⊎ (Lands body after target × IsWrongAmong body index after others rule told)

-- the pass does not go on after an instruction, whose effect gave this frame
abbrev pub IsWrongNext : Body → ℕ → LinkedInsn → Frame → CheckRule → ℕ → Type 0
IsWrongNext body index insn after rule told =
    MatchBool (falls_through insn)
    (((length body.insns ≤ suc index) × (rule ≡ FallsOff) × (told ≡ index)) ⊎ ((suc index < length body.insns) × IsWrongEntry body (suc index) after index rule told))
    ((suc index < length body.insns) × IsMissing body (suc index) rule told)

-- the pass does not come through an instruction: it breaks a rule in this frame; or it does not, and then its
-- targets are looked at, in order; or they are in order, and then what is after it
pub data IsWrongAt (body : Body) (index : ℕ) (insn : LinkedInsn) (here : Frame) (rule : CheckRule) (told : ℕ) : Type 0 where
  acts : effect body (offset_at body index) insn here ≡ Err rule → told ≡ index → IsWrongAt body index insn here rule told
  lands : (after : Frame) → effect body (offset_at body index) insn here ≡ Ok after → IsWrongAmong body index after (targets body insn) rule told → IsWrongAt body index insn here rule told
  goes_on : (after : Frame) → effect body (offset_at body index) insn here ≡ Ok after → LandsOnAll body insn after → IsWrongNext body index insn after rule told → IsWrongAt body index insn here rule told

-- the pass over a body stops: there are more arguments than local variables; or they fit, and there is no instruction, or
-- the opening frame is not assignable to the one that is declared at the first; or the pass reaches an instruction and
-- does not come through it
pub data IsWrongBody (body : Body) (rule : CheckRule) (told : ℕ) : Type 0 where
  arguments : body.max_locals < length body.opening.locals → rule ≡ Local → told ≡ 0 → IsWrongBody body rule told
  empty : length body.opening.locals ≤ body.max_locals → length body.insns ≡ 0 → rule ≡ FallsOff → told ≡ 0 → IsWrongBody body rule told
  opening : length body.opening.locals ≤ body.max_locals → IsWrongEntry body 0 body.opening 0 rule told → IsWrongBody body rule told
  instruction : length body.opening.locals ≤ body.max_locals → (index : ℕ) (insn : LinkedInsn) (here : Frame) → Reaches body index here → insn_at body index ≡ Some insn → IsWrongAt body index insn here rule told → IsWrongBody body rule told

-- the broken rule, and the offset of the instruction that the fault names
pub record IsBodyFault (body : Body) (rule : CheckRule) (at : ℕ) : Type 0 where
  pub told : ℕ
  pub wrong : IsWrongBody body rule told
  pub offset : at ≡ slice_index body.offsets told

-- the fault of a table of frames
abbrev pub IsFrameFault : StackMapFault → CheckRule → ℕ → Type 0
IsFrameFault frames.Memory rule at = ⊥
IsFrameFault (frames.Broken broken index) rule at = (rule ≡ StackMap broken) × (at ≡ index)

-- the same of a method, by what its table of frames gives
abbrev pub IsFaultWith : Subject → Result (List (ℕ × Frame)) StackMapFault → CheckRule → ℕ → Type 0
IsFaultWith m (Ok declared) rule at = IsBodyFault (body_of m declared) rule at
IsFaultWith m (Err broken) rule at = IsFrameFault broken rule at

-- its table declares no frames; or the body with them is at fault
abbrev pub IsMethodFault : Subject → CheckRule → ℕ → Type 0
IsMethodFault m rule at = IsFaultWith m (declared_frames m) rule at

-- the names of a method and of its class
pub record IsNamed (m : Subject) (class method descriptor : List ℕ) : Type 0 where
  pub class_name : class ≡ m.class.file.name
  pub method_name : method ≡ m.method.name
  pub method_descriptor : descriptor ≡ m.method.descriptor

-- the first method that is not type safe, by its names, and its fault
pub record IsFirstFault (links : Links) (rule : CheckRule) (class method descriptor : List ℕ) (at : ℕ) : Type 0 where
  pub index : ℕ
  pub inside : index < length links.methods
  pub before : (k : ℕ) → k < index → IsSafeAt links k
  pub subject : Subject
  pub stands : option_and_then (subject_of links.classes) (slice_get links.methods index) ≡ Some subject
  pub named : IsNamed subject class method descriptor
  pub wrong : IsMethodFault subject rule at

-- the fault of a class set that is not accepted, unless memory ran out
abbrev pub IsCheckFault : Links → CheckFault → Type 0
IsCheckFault links fault.Memory = Unit {0}
IsCheckFault links (fault.Broken rule class method descriptor at) = IsFirstFault links rule class method descriptor at
