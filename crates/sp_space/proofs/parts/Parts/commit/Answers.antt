use Rattle.std.proofs.Common.{◌≡◌, ◌∷◌, ℕ, [], inl, inr, true, refl, sym, ap, subst, ◌∙◌, Option}
use Rattle.std.specs.Prelude.{map}
use Rattle.sp_events.specs.FaultNames.{Refuses}
use Rattle.sp_outputs.specs.Notes.{output_of}
use Rattle.sp_rules.specs.Events.{GivenBack}
use Rattle.sp_rules.specs.Refusals.{Refusal}
use Rattle.sp_rules.specs.Space.{state_of}
use Rattle.sp_tasks.specs.Behaviours.{op_of}
use Rattle.sp_tasks.specs.Rows.{Hand}
use Rattle.sp_tasks.specs.declared.behaviour.Op.{Op}
use Rattle.sp_tasks.specs.declared.behaviour.Stand.TheVariants as point
use Rattle.sp_core.specs.Cores.{lent_as}
use Rattle.sp_core.specs.Hands.{committed, given_back, is_on_store}
use Rattle.sp_space.specs.Events.{IsRefused}
use Rattle.sp_space.specs.Hands.{AsksInHand}
use Rattle.sp_space.specs.Machines.{machine_at}
use Rattle.sp_space.proofs.FreeLemmas.{none-lent, same-lent}
use Rattle.sp_space.proofs.HandLemmas.{asks-told, back-played, commit-played}
use Rattle.sp_space.proofs.LentLemmas.{back-alone, commit-alone, lends-those, lent-hand, lent_ids}
use Rattle.sp_space.proofs.NextLemmas.{commit-step}
use Rattle.sp_machines.proofs.ResultLemmas.{from-ok, value-ok}
use Rattle.sp_space.proofs.StandLemmas.{core-change, lent-event}
use Rattle.sp_space.proofs.StepLemmas.{event-refused, two-events}
use Rattle.sp_space.proofs.parts.Parts.commit.Goals as goal

asks-same : (x y : Op) → point.AsksFor x ≡ point.AsksFor y → x ≡ y
asks-same x y e = cc

pub returns-clause-done : goal.returns-clause-done
returns-clause-done c = λ g h asks stores.
    let s = state_of g h in
    let space = c.args.self.now in
    let hand = c.args.hand in
    let after = c.commit_lent.new.task in
    let op = c.in-AsksFor.op in
    let same : c.args.op ≡ op = asks-same c.args.op op c.in-AsksFor.is in
    let a : AsksInHand g h space hand op = subst (λ (o : Op). AsksInHand g h space hand o) same asks in
    let on : is_on_store (op_of op) ≡ true = subst (λ (o : Op). is_on_store (op_of o) ≡ true) same stores in
    let stands = a.in_hand.stands in
    let at = asks-told g h space hand c.args.op asks in
    let some = c.in_default-commit_lent.not-Err in
    let lent = lent-hand g s space.core hand stands.core a.in_hand.own in
    let taken = from-ok c.commit_lent.result _ c.commit_lent.ensures.accepted some g s (lent_ids space.core) stands.core (lends-those space.core) stands.of.classes at in
    let core = from-ok c.commit_lent.result _ c.commit_lent.ensures.state some g s stands.core stands.of.classes in
    let replied = value-ok c.commit_lent.result _ c.commit_lent.ensures.task some in
    let is = replied.1 g s stands.core in
    let here : after.task.id ≡ hand.task.id = ap (λ (x : Hand). x.id) is in
    let none : after.task.made ≡ 0 = ap (λ (x : Hand). x.made) is in
    let e = committed hand.task op in
    let done = lent-event g h space c.commit_lent.new.self space.machines e hand.task.id stands refl (lent_as s hand.task (lent_ids space.core)) taken core (commit-played g h space hand op a on) (λ other apart. refl) in
    let t = state_of g (e ∷ h) in
    let again = lent-hand g t c.commit_lent.new.self after done.core c.commit_lent.ensures.own in
    let back = c.take_back.ensures.accepted g t (lent_ids c.commit_lent.new.self) done.core (lends-those c.commit_lent.new.self) in
    two-events g h hand.task.id a.living e (given_back after.task) _ _ a.lives a.level.ready
    (commit-step g h space hand op a on ∙ (λ j. e ∷ GivenBack (sym here j) (sym none j) ∷ []))
    (sym (commit-alone g s space.core hand.task op lent) ∙ taken) (sym (back-alone g t c.commit_lent.new.self after.task again) ∙ back)
    (c.commit_lent.ensures.outputs g s) (c.take_back.ensures.outputs g t) (ap (map output_of) c.new.ensures.items)
    (lent-event g (e ∷ h) (record space { core = c.commit_lent.new.self }) c.take_back.new.self space.machines (given_back after.task) after.task.id done refl
    (lent_as t after.task (lent_ids c.commit_lent.new.self)) back (c.take_back.ensures.state g t done.core)
    (back-played g (e ∷ h) space.program.now after.task (machine_at after.task.id space.machines) none (done.played after.task.id)) (λ other apart. refl))

pub returns-in-Err-clause-refused : goal.returns-in-Err-clause-refused
returns-in-Err-clause-refused c = λ g h asks stores.
    let s = state_of g h in
    let space = c.args.self.now in
    let hand = c.args.hand in
    let op = c.in-AsksFor.op in
    let same : c.args.op ≡ op = asks-same c.args.op op c.in-AsksFor.is in
    let a : AsksInHand g h space hand op = subst (λ (o : Op). AsksInHand g h space hand o) same asks in
    let on : is_on_store (op_of op) ≡ true = subst (λ (o : Op). is_on_store (op_of o) ≡ true) same stores in
    let stands = a.in_hand.stands in
    let at = asks-told g h space hand c.args.op asks in
    let lent = lent-hand g s space.core hand stands.core a.in_hand.own in
    let refused = c.in-Err.ensures.refused g s (lent_ids space.core) stands.core (lends-those space.core) stands.of.classes at in
    let why : IsRefused g h (committed hand.task op) c.in-Err.fault = inr (subst (λ (r : Option Refusal). Refuses r c.in-Err.fault) (commit-alone g s space.core hand.task op lent) refused) in
    event-refused g h hand.task.id a.living (committed hand.task op) (GivenBack hand.task.id 0 ∷ []) c.fail.result a.lives a.level.ready (commit-step g h space hand op a on)
    (subst (IsRefused g h (committed hand.task op)) (sym c.fail.ensures.fault) why)
