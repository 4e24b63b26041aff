use Rattle.std.proofs.Common.{◌≡◌, Option, false, subst}
use Rattle.std.specs.Prelude.{IfSome}
use Rattle.cls_link.specs.Links.{Links}
use Rattle.sp_machines.specs.Players.{IsLevel}
use Rattle.sp_rules.specs.Classes.{Setting}
use Rattle.sp_rules.specs.State.{Living}
use Rattle.sp_rules.specs.Tasks.{HasEnded, stand}
use Rattle.sp_tasks.specs.Behaviours.{outcome_of}
use Rattle.sp_tasks.specs.declared.behaviour.Outcome.{Outcome}
use Rattle.sp_lending.proofs.point.point.Goals as goal

pub returns-in-Some : goal.returns-in-Some
returns-in-Some c = λ abreast links g t level.
    let p = c.args.player.now in
    (subst (λ (o : Option Outcome). IfSome o (λ outcome. (links : Links) (g : Setting) (t : Living) → IsLevel links g t p → p.ahead ≡ false → stand t.task ≡ HasEnded (outcome_of outcome))) c.in-Some.is c.in_ok-outcome.ensures)
    links g t level abreast
