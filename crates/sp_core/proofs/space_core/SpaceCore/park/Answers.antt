use Rattle.std.proofs.Common.{◌≡◌, ◌∷◌, None, ap, sym, subst, ◌∙◌}
use Rattle.std.specs.Prelude.{◌==◌, ◌&&◌, is_ok, not}
use Rattle.std.proofs.lemmas.Result.{IfErr-weaker, on_ok_weaker}
use Rattle.sp_events.specs.FaultNames.{Refuses}
use Rattle.sp_living.specs.Hands.{task_of}
use Rattle.sp_rules.specs.Origins.{OwnStand}
use Rattle.sp_rules.specs.Refusals.{refusal}
use Rattle.sp_rules.specs.Space.{on, state_of}
use Rattle.sp_rules.specs.Tasks.{stand}
use Rattle.sp_tasks.specs.Rows.{Hand}
use Rattle.sp_core.specs.Cores.{IsCore, is_lent, lends, lent_as}
use Rattle.sp_core.specs.Hands.{parked}
use Rattle.sp_core.proofs.TwinLemmas.{both, if-ok}
use Rattle.sp_core.proofs.space_core.SpaceCore.park.Goals as goal

pub returns-then-not-lends-clause-refused : goal.returns-then-not-lends-clause-refused
returns-then-not-lends-clause-refused w c = λ g s lent is lending tells at. c.refuse_unlent-fault.ensures.parked g s lent is lending

pub park_lent-requires : goal.park_lent-requires
park_lent-requires w c = both _ _ (ap (λ (hand : Hand). lends c.args.self.now hand) c.keep_twin.ensures.task ∙ sym c.lends.ensures ∙ c.if-not-lends.false) c.keep_twin.ensures.fits

pub returns-clause-accepted : goal.returns-clause-accepted
returns-clause-accepted w c = on_ok_weaker c.park_lent.result (λ told. λ g s lent is lending tells at.
    let keep = c.keep_twin.ensures.task in
    subst (λ (hand : Hand). refusal g (lent_as s hand lent) s (parked hand) ≡ None) keep (told g s lent is lending tells (ap (λ (hand : Hand). stand (task_of g hand)) keep ∙ at))) c.park_lent.ensures.accepted

pub returns-clause-outputs : goal.returns-clause-outputs
returns-clause-outputs w c = if-ok c.park_lent.result _ _ (λ outs told. λ g s is tells at fuel.
    let keep = c.keep_twin.ensures.task in
    told g s is tells (ap (λ (hand : Hand). stand (task_of g hand)) keep ∙ at) (fuel ∙ sym (ap (λ (hand : Hand). (task_of g hand).fuel) keep)) ∙ ap (λ (hand : Hand). (on g (parked hand) s).1) keep) c.park_lent.ensures.outputs

pub returns-clause-state : goal.returns-clause-state
returns-clause-state w c = on_ok_weaker c.park_lent.result (λ told. λ g s is tells at fuel.
    let keep = c.keep_twin.ensures.task in
    subst (λ (hand : Hand). IsCore g (on g (parked hand) s).0 c.park_lent.new.self) keep
    (told g s is tells (ap (λ (hand : Hand). stand (task_of g hand)) keep ∙ at) (fuel ∙ sym (ap (λ (hand : Hand). (task_of g hand).fuel) keep)))) c.park_lent.ensures.state

pub returns-clause-lent : goal.returns-clause-lent
returns-clause-lent w c = λ g s is id. c.park_lent.ensures.lent g s is id ∙ ap (λ (hand : Hand). not (is_ok c.park_lent.result && id == hand.id) && is_lent c.args.self.now id) c.keep_twin.ensures.task

pub returns-clause-refused : goal.returns-clause-refused
returns-clause-refused w c = IfErr-weaker c.park_lent.result _ _ (λ back told. λ g s lent is lending tells at.
    let keep = c.keep_twin.ensures.task in
    subst (λ (hand : Hand). Refuses (refusal g (lent_as s hand lent) s (parked hand)) back.1) keep (told g s lent is lending tells (ap (λ (hand : Hand). stand (task_of g hand)) keep ∙ at))) c.park_lent.ensures.refused

pub returns-clause-task : goal.returns-clause-task
returns-clause-task w c = IfErr-weaker c.park_lent.result _ _ (λ back told. told ∙ c.keep_twin.ensures.task) c.park_lent.ensures.task

pub returns-clause-standing : goal.returns-clause-standing
returns-clause-standing w c = on_ok_weaker c.park_lent.result (λ told. λ g h lent is lending tells at taken.
    let keep = c.keep_twin.ensures.task in
    subst (λ (hand : Hand). OwnStand g (state_of g (parked hand ∷ h))) keep (told g h lent is lending tells (ap (λ (hand : Hand). stand (task_of g hand)) keep ∙ at) taken)) c.park_lent.ensures.standing
