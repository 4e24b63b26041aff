-- The pass through an instruction, from what its parts found.
use Rattle.std.proofs.Common.{◌≡◌, ℕ, suc, ◌<◌, ◌≤◌, ◌⊎◌, Bool, true, false, inl, inr, Some, Result, Ok, Err, List, [], ◌∷◌, length, sym, subst, ap, ◌∙◌}
use Rattle.std.specs.Prelude.{MatchBool}
use Rattle.std.specs.List.{AllByRecursion}
use Rattle.cls_link.specs.declared.linked_code.LinkedInsn.{LinkedInsn}
use Rattle.ver_check.specs.Bodies.{Body, declared_at, offset_at}
use Rattle.ver_check.specs.Effects.{effect, falls_through, targets}
use Rattle.ver_check.specs.Faults as faults
use Rattle.ver_check.specs.Faults.{IsMissing, IsWrongAmong, IsWrongAt, IsWrongEntry, IsWrongNext, IsWrongTarget}
use Rattle.ver_check.specs.Flow.{ComesIn, GoesTo, LandsOnAll, Passes, Settles}
use Rattle.ver_check.specs.Typing.{Lands}
use Rattle.ver_rules.specs.declared.fault.CheckRule.TheVariants.{FallsOff}
use Rattle.ver_check.specs.declared.stop.Stop.{Stop}
use Rattle.ver_check.specs.declared.stop.Stop.TheVariants.{Broken, Missing, Memory}
use Rattle.ver_frames.specs.Frames.{Frame}

came_from : (body : Body) (index : ℕ) (given here : Frame) (falls : Bool) (r : Result (Unit {0}) Stop) → falls ≡ true → suc index < length body.insns
    → Settles index r (ComesIn body (suc index) given here) (IsWrongEntry body (suc index) given index)
    → Settles index r (MatchBool falls ((suc index < length body.insns) × ComesIn body (suc index) given here) (suc index < length body.insns → declared_at body (suc index) ≡ Some here))
    (λ rule told. MatchBool falls (((length body.insns ≤ suc index) × (rule ≡ FallsOff) × (told ≡ index)) ⊎ ((suc index < length body.insns) × IsWrongEntry body (suc index) given index rule told)) ((suc index < length body.insns) × IsMissing body (suc index) rule told))
came_from body index given here false r e inside h = absurd (cc)
came_from body index given here true (Ok x) e inside h = (inside, h)
came_from body index given here true (Err (Broken rule)) e inside h = inr (inside, h)
came_from body index given here true (Err (Missing missing)) e inside h = inr (inside, h)
came_from body index given here true (Err Memory) e inside h = tt

-- at the next instruction
pub came : (body : Body) (index : ℕ) (insn : LinkedInsn) (given here : Frame) (r : Result (Unit {0}) Stop) → falls_through insn ≡ true → suc index < length body.insns
    → Settles index r (ComesIn body (suc index) given here) (IsWrongEntry body (suc index) given index)
    → Settles index r (GoesTo body index insn given here) (IsWrongNext body index insn given)
came body index insn given here r e inside h = came_from body index given here (falls_through insn) r e inside h

-- it does not land on a target
pub not_landed : (body : Body) (index : ℕ) (insn : LinkedInsn) (here after next : Frame) (s : Stop) → effect body (offset_at body index) insn here ≡ Ok after
    → Settles {X = Unit {0}} index (Err s) (LandsOnAll body insn after) (IsWrongAmong body index after (targets body insn))
    → Settles {X = Unit {0}} index (Err s) (Passes body index insn here next) (IsWrongAt body index insn here)
not_landed body index insn here after next (Broken rule) e wrong = faults.IsWrongAt.lands after e wrong
not_landed body index insn here after next (Missing missing) e wrong = faults.IsWrongAt.lands after e wrong
not_landed body index insn here after next Memory e wrong = tt

-- it goes on, or it does not
pub went : (body : Body) (index : ℕ) (insn : LinkedInsn) (here after next : Frame) (r : Result (Unit {0}) Stop) → effect body (offset_at body index) insn here ≡ Ok after → LandsOnAll body insn after
    → Settles index r (GoesTo body index insn after next) (IsWrongNext body index insn after)
    → Settles index r (Passes body index insn here next) (IsWrongAt body index insn here)
went body index insn here after next (Ok x) e lands goes = record { after = after; acts = e; lands = lands; goes_to = goes }
went body index insn here after next (Err (Broken rule)) e lands wrong = faults.IsWrongAt.goes_on after e lands wrong
went body index insn here after next (Err (Missing missing)) e lands wrong = faults.IsWrongAt.goes_on after e lands wrong
went body index insn here after next (Err Memory) e lands wrong = tt
