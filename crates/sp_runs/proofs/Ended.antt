-- A task has ended after more steps than there can be fuel for.
use Rattle.std.proofs.Common.{◌≡◌, ◌∙◌, ◌+◌, ◌<◌, ◌≤◌, ℕ, Option, Some, None, arith, refl, subst, sym}
use Rattle.std.specs.Prelude.{IsSome}
use Rattle.cls_link.specs.Links.{Links}
use Rattle.vm_step.specs.Run.{State, Running, Waits, Over, Lost, HasNoRemote, HasStopped, IsNeverStuck, IsOver, run}
use Rattle.vm_step.specs.Task.{fuel_left, pause_at}
use Rattle.vm_step.specs.declared.outcome.Pause.TheVariants.{Turn}
use Rattle.vm_step.proofs.Runs.{at_once, run_over, stopped_over}

pub ended_by_one_more : (program : Links) (reached ended : State) (fuel most : ℕ) → HasNoRemote program.classes
    → (pause_at reached ≡ Turn → fuel_left reached + most ≡ fuel) → fuel ≤ most
    → IsNeverStuck program reached → IsNeverStuck program ended → ended ≡ run program 1 reached → (fuel_left reached < 1 → HasStopped ended) → IsOver ended
ended_by_one_more program (Running machine left) ended fuel most plain turn few never later is over =
    let spent : left + most ≡ fuel = turn refl in stopped_over program ended later plain (over (omega (arith, spent, few)))
ended_by_one_more program (Waits op machine left) ended fuel most plain turn few never later is over = absurd (stopped_over program (Waits op machine left) never plain tt)
ended_by_one_more program (Over end left) ended fuel most plain turn few never later is over = subst IsOver (sym (is ∙ run_over program 1 end left)) tt
ended_by_one_more program Lost ended fuel most plain turn few never later is over = absurd (at_once program Lost never)

pub none_told : {A : Type 0} (o : Option A) → o ≡ None → IsSome o → ⊥
none_told None is some = absurd (cc)
none_told (Some a) is some = absurd (cc)
