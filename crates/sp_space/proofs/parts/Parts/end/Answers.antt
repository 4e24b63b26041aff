use Rattle.std.proofs.Common.{◌≡◌, inr, Option, None, cond, refl, sym, ap, subst, ◌∙◌}
use Rattle.std.specs.Prelude.{◌==◌}
use Rattle.std.proofs.lemmas.Bool.{eq-eqb}
use Rattle.sp_events.specs.FaultNames.{Refuses}
use Rattle.sp_rules.specs.Refusals.{Refusal}
use Rattle.sp_rules.specs.Space.{state_of}
use Rattle.sp_core.specs.Cores.{lent_as}
use Rattle.sp_core.specs.Hands.{HasFuel, finished}
use Rattle.sp_space.specs.Events.{IsRefused}
use Rattle.sp_machines.specs.Coming.{fuel_at}
use Rattle.sp_space.specs.Machines.{machine_at}
use Rattle.sp_space.proofs.HandLemmas.{gone-played}
use Rattle.sp_space.proofs.LentLemmas.{finish-alone, lends-those, lent-hand, lent_ids}
use Rattle.sp_space.proofs.StandLemmas.{lent-event}
use Rattle.sp_space.proofs.StepLemmas.{happened}
use Rattle.sp_space.proofs.parts.Parts.end.Goals as goal

pub returns-in-Ok-clause-done : goal.returns-in-Ok-clause-done
returns-in-Ok-clause-done c = λ g h e.
    let s = state_of g h in
    let space = c.args.self.now in
    let hand = c.args.hand in
    let core-is = e.stands.core in
    let lent = lent-hand g s space.core hand core-is e.own in
    let fuel : HasFuel g hand.task c.fuel-fuel.result = c.fuel-fuel.ensures ∙ ap (λ n. fuel_at (machine_at n space.machines)) c.id-id.ensures ∙ e.fuel in
    let taken = c.in-Ok.ensures.accepted g s (lent_ids space.core) core-is (lends-those space.core) e.at in
    let gone : machine_at hand.task.id c.remove.new.self ≡ None = c.remove.ensures hand.task.id ∙ ap (λ b. cond b None (machine_at hand.task.id space.machines)) (eq-eqb c.id-id.result hand.task.id c.id-id.ensures) in
    happened g h (finished hand.task) _ _ (sym (finish-alone g s space.core hand.task lent) ∙ taken) (c.in-Ok.ensures.outputs g s core-is e.stands.of.classes e.at fuel)
    (lent-event g h space c.finish_lent.new.self c.remove.new.self (finished hand.task) hand.task.id e.stands refl (lent_as s hand.task (lent_ids space.core)) taken
    (c.in-Ok.ensures.state g s core-is e.stands.of.classes e.at fuel) (gone-played g h space hand c.args.outcome c.remove.new.self e gone)
    (λ other apart. c.remove.ensures other ∙ ap (λ b. cond b None (machine_at other space.machines)) (ap (λ n. n == other) c.id-id.ensures ∙ apart)))

pub returns-clause-refused : goal.returns-clause-refused
returns-clause-refused c = λ g h e.
    let s = state_of g h in
    let space = c.args.self.now in
    let hand = c.args.hand in
    let lent = lent-hand g s space.core hand e.stands.core e.own in
    let refused = c.in-Err.ensures.refused g s (lent_ids space.core) e.stands.core (lends-those space.core) e.at in
    let why : IsRefused g h (finished hand.task) c.in-Err.fault = inr (subst (λ (r : Option Refusal). Refuses r c.in-Err.fault) (finish-alone g s space.core hand.task lent) refused) in
    subst (IsRefused g h (finished hand.task)) (sym c.fail.ensures.fault) why
