use Rattle.std.proofs.Common.{◌≡◌, [], inr, Option, refl, sym, ap, subst, ◌∙◌}
use Rattle.sp_events.specs.FaultNames.{Refuses}
use Rattle.sp_rules.specs.Refusals.{Refusal}
use Rattle.sp_rules.specs.Space.{state_of}
use Rattle.sp_core.specs.Cores.{lent_as}
use Rattle.sp_core.specs.Hands.{HasFuel, parked}
use Rattle.sp_space.specs.Events.{IsRefused}
use Rattle.sp_machines.specs.Coming.{fuel_at}
use Rattle.sp_space.specs.Machines.{machine_at}
use Rattle.sp_space.proofs.HandLemmas.{asks-fuel, asks-told, park-played}
use Rattle.sp_space.proofs.LentLemmas.{lends-those, lent-hand, lent_ids, park-alone}
use Rattle.sp_space.proofs.NextLemmas.{park-step}
use Rattle.sp_space.proofs.StandLemmas.{lent-event}
use Rattle.sp_space.proofs.StepLemmas.{event-refused, happened, one-event}
use Rattle.sp_space.proofs.parts.Parts.park.Goals as goal

pub returns-in-Ok-clause-done : goal.returns-in-Ok-clause-done
returns-in-Ok-clause-done c = λ g h a off.
    let s = state_of g h in
    let space = c.args.self.now in
    let hand = c.args.hand in
    let op = c.args.op in
    let stands = a.in_hand.stands in
    let lent = lent-hand g s space.core hand stands.core a.in_hand.own in
    let at = asks-told g h space hand op a in
    let fuel : HasFuel g hand.task c.fuel-fuel.result = c.fuel-fuel.ensures ∙ ap (λ n. fuel_at (machine_at n space.machines)) c.id.ensures ∙ asks-fuel g h space hand op a in
    let taken = c.in-Ok.ensures.accepted g s (lent_ids space.core) stands.core (lends-those space.core) stands.of.classes at in
    one-event g h hand.task.id a.living (parked hand.task) _ _ a.lives a.level.ready (park-step g h space hand op a off)
    (happened g h (parked hand.task) _ _ (sym (park-alone g s space.core hand.task lent) ∙ taken) (c.in-Ok.ensures.outputs g s stands.core stands.of.classes at fuel)
    (lent-event g h space c.park_lent.new.self space.machines (parked hand.task) hand.task.id stands refl (lent_as s hand.task (lent_ids space.core)) taken
    (c.in-Ok.ensures.state g s stands.core stands.of.classes at fuel) (park-played g h space hand op a off) (λ other apart. refl)))

pub returns-clause-refused : goal.returns-clause-refused
returns-clause-refused c = λ g h a off.
    let s = state_of g h in
    let space = c.args.self.now in
    let hand = c.args.hand in
    let op = c.args.op in
    let stands = a.in_hand.stands in
    let lent = lent-hand g s space.core hand stands.core a.in_hand.own in
    let refused = c.in-Err.ensures.refused g s (lent_ids space.core) stands.core (lends-those space.core) stands.of.classes (asks-told g h space hand op a) in
    let why : IsRefused g h (parked hand.task) c.in-Err.fault = inr (subst (λ (r : Option Refusal). Refuses r c.in-Err.fault) (park-alone g s space.core hand.task lent) refused) in
    event-refused g h hand.task.id a.living (parked hand.task) [] c.fail.result a.lives a.level.ready (park-step g h space hand op a off)
    (subst (IsRefused g h (parked hand.task)) (sym c.fail.ensures.fault) why)
