-- What comes next of a task whose machine is level with it. (This project's own.)
use Rattle.std.specs.Prelude.{◌≡◌, ℕ, true, false, Option, Some, None, IfSome, IsSomeAnd, is_some}
use Rattle.sp_rules.specs.State.{Living}
use Rattle.sp_rules.specs.Tasks.{HasEnded, Runs, is_at_end, stand, step}
use Rattle.sp_tasks.specs.Behaviours.{outcome_of}
use Rattle.vm_step.specs.Task.{fuel_left}
use Rattle.sp_machines.specs.Players.{AsksIn, Played}
use Rattle.sp_machines.specs.declared.task_machine.Next.{Next}
use Rattle.sp_machines.specs.declared.task_machine.Next.TheVariants as next

-- the fuel that the machine of a task has left
abbrev pub fuel_at : Option Played → ℕ
fuel_at None = 0
fuel_at (Some p) = fuel_left p.task.state

-- What comes next of a task whose machine is level with it: its end, an operation for which it asks, or an instruction of its own, which the
-- machine has made, and which may have ended it.
abbrev pub IsNext : Living → Played → Next → Type 0
IsNext t p (next.Ended outcome) = (p.ahead ≡ false) × (stand t.task ≡ HasEnded (outcome_of outcome))
IsNext t p (next.Asks asked) = (p.ahead ≡ false) × AsksIn asked p.task.state
IsNext t p (next.Made outcome) =
    (p.ahead ≡ true) × (stand t.task ≡ Runs) × (is_at_end (step t.task).behaviour ≡ is_some outcome)
    × IfSome outcome (λ ended. stand (step t.task) ≡ HasEnded (outcome_of ended))

abbrev pub IsNextAt : Living → Option Played → Next → Type 0
IsNextAt t None next = ⊥
IsNextAt t (Some p) next = IsNext t p next

-- A machine asks for what it is said to ask for.
abbrev pub IsAskedBy : Next → Option Played → Type 0
IsAskedBy (next.Ended outcome) o = Unit {0}
IsAskedBy (next.Asks asked) o = IsSomeAnd o (λ (p : Played). AsksIn asked p.task.state)
IsAskedBy (next.Made outcome) o = Unit {0}
