use Rattle.std.proofs.Common.{◌≡◌, ℕ, [], Option, Some, None, refl, sym, subst, ap, ◌∙◌}
use Rattle.cls_link.specs.Links.{Links}
use Rattle.vm_step.specs.Ends.{End}
use Rattle.vm_step.specs.Run.{over, played, AreDue, IsNeverStuck}
use Rattle.vm_step.specs.Task.{Tasked, fuel_left, last_end, phase_state}
use Rattle.vm_step.proofs.task.Task.fuel.Goals as goal

-- a task that is over has its end
over_fuel : (links : Links) (o : Option End) (fuel : ℕ) → IsNeverStuck links (over o fuel) → fuel ≡ fuel_left (over o fuel)
unfolding played AreDue
over_fuel links None fuel never = absurd (never.always [] tt)
over_fuel links (Some end) fuel never = refl

pub returns-in-Over : goal.returns-in-Over
returns-in-Over c =
    let last : phase_state c.self.inside.phase ≡ over (last_end c.in-Over.field-0) c.in-Over.fuel = ap phase_state c.in-Over.is in
    let never : IsNeverStuck c.self.inside.program.value (over (last_end c.in-Over.field-0) c.in-Over.fuel) = subst (IsNeverStuck c.self.inside.program.value) last c.self.invariant.never_stuck in
    over_fuel c.self.inside.program.value (last_end c.in-Over.field-0) c.in-Over.fuel never ∙ (ap fuel_left (sym last) ∙ ap (λ (t : Tasked). fuel_left t.state) c.self.view_is)
