use Rattle.std.specs.Prelude.{◌≡◌, ℕ, true}
use Rattle.sp_core.specs.Cores.{has_lent}
use Rattle.sp_rules.specs.Classes.{Setting}
use Rattle.sp_rules.specs.State.{State}
use Rattle.sp_lending.specs.Works.{IsAtWork}
use Rattle.sp_lending.proofs.parts.Parts.take_turns.Given as goal

-- the space lends the task still, which made at most an operation a turn
abbrev pub invariant-loop-turn : goal.invariant-loop-turn
invariant-loop-turn l =
    (has_lent l.self.core l.task.hand ≡ true) ×
    ((g : Setting) (s : State) (id : ℕ) → IsAtWork g s id 0 l.initial.self l.initial.task → IsAtWork g s id l._turn l.self l.task)
