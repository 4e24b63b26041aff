use Rattle.cls_link.specs.Links.{Links}
use Rattle.sp_rules.specs.Classes.{Setting}
use Rattle.sp_rules.specs.Events.{Event}
use Rattle.sp_space_runs.specs.Going.{Goes}
use Rattle.vm_step.specs.Run.{State}
use Rattle.sp_space_runs.proofs.in_space.play.Given as goal

-- the task goes on with the fuel that is left
abbrev pub invariant-loop-outputs : goal.invariant-loop-outputs
invariant-loop-outputs l = (program : Links) (g : Setting) (first : Event) (began : State) → Goes program g first began l.fn.fuel l.fn.space → Goes program g first began l.left l.space

abbrev pub decreases-loop-outputs : goal.decreases-loop-outputs
decreases-loop-outputs l = l.left
