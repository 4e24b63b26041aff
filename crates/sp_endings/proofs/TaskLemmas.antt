-- A task in hand that ends.
use Rattle.std.proofs.Common.{◌≡◌, Option, ap, ◌∙◌}
use Rattle.sp_rules.specs.Behaviours.{Outcome}
use Rattle.sp_rules.specs.Classes.{Setting}
use Rattle.sp_rules.specs.Lists.{with_some}
use Rattle.sp_rules.specs.LivingTasks.{after_steps, end_at, end_with, finish_task}
use Rattle.sp_rules.specs.State.{State}
use Rattle.sp_rules.specs.State as rules
use Rattle.sp_rules.specs.Tasks.{Stand, HasEnded, stand, steps}
use Rattle.sp_tasks.specs.Rows.{Hand}
use Rattle.sp_living.specs.Hands.{task_of}
use Rattle.sp_living.specs.Livings.{IsLiving}
use Rattle.sp_living.specs.declared.living.Living.{Living}
use Rattle.sp_living.proofs.HandLemmas.{InHand, task-is}

pub finishes : (g : Setting) (s : State) (l : Living) (hand : Hand) (outcome : Outcome) → IsLiving g s l → (h : InHand g s l hand) → stand (task_of g hand) ≡ HasEnded outcome
    → finish_task g hand.id hand.made s ≡ end_with g hand.id (after_steps hand.made h.living) outcome s
unfolding finish_task
finishes g s l hand outcome is h stands =
    ap (λ (o : Option rules.Living). with_some o s (λ t. end_at g hand.id (after_steps hand.made t) (stand (steps hand.made t.task)) s)) h.ready
    ∙ ap (λ (x : Stand). end_at g hand.id (after_steps hand.made h.living) x s) (ap stand (task-is g s l hand is h) ∙ stands)
