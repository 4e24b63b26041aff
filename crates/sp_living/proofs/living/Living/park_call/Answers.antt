use Rattle.std.proofs.Common.{◌≡◌, ℕ, ◌+◌, ◌<◌, ◌^◌, ◌∷◌, [], refl, sym, ap, subst, ◌∙◌, arith}
use Rattle.net_message.specs.declared.message.Message.TheVariants as message
use Rattle.sp_requests.specs.Asking.{kind_of}
use Rattle.sp_rules.specs.LivingTasks.{waiting}
use Rattle.sp_rules.specs.State.{State, Calls, set_task}
use Rattle.sp_tasks.specs.Rows.{Hand}
use Rattle.sp_transport.specs.Asking.{make_call}
use Rattle.sp_living.specs.Livings.{IsLiving}
use Rattle.sp_living.proofs.HandLemmas.{roomy-own, taken}
use Rattle.sp_living.proofs.LivingLemmas.{moved}
use Rattle.sp_living.proofs.StepLemmas.{now-waiting, parks}
use Rattle.sp_tasks.specs.Lent.{LendsNoMore}
use Rattle.sp_tasks.proofs.LentLemmas.{no-more-next}
use Rattle.sp_living.proofs.living.Living.park_call.Goals as goal

pub park-requires-clause-lent : goal.park-requires-clause-lent
park-requires-clause-lent w c = (roomy-own c.args.self.now.tasks c.reserve_answer.new.self c.args.task c.reserve_answer.new.task c.requires c.in-Ok.ensures.rows c.in-Ok.ensures.task).0

pub park-requires-clause-row : goal.park-requires-clause-row
park-requires-clause-row w c = (roomy-own c.args.self.now.tasks c.reserve_answer.new.self c.args.task c.reserve_answer.new.task c.requires c.in-Ok.ensures.rows c.in-Ok.ensures.task).1

pub returns-clause-parked : goal.returns-clause-parked
returns-clause-parked w c = λ g s a tells stands fuel.
    let l = c.args.self.now in
    let hand = c.args.task in
    let h = taken g s l hand a c.requires in
    let target = c.args.target in
    let waits : State = set_task (waiting hand.made) hand.id s in
    let a1 = now-waiting g s l hand c.reserve_answer.new.task c.reserve_answer.new.self c.park.new.self h c.in-Ok.ensures.rows c.in-Ok.ensures.task c.park.ensures.parked a in
    let number : c.calls_made-number.result ≡ s.calls_made = c.calls_made-number.ensures s a.transport in
    let fits : s.calls_made + 1 < 2 ^ 64 = omega (arith, number, c.if-number-ge-LAST_CALL.false) in
    let named = ap (λ n. (n + 1) ∷ []) number in
    let id = c.id.ensures ∙ ap (λ (x : Hand). x.id) c.in-Ok.ensures.task in
    let made = make_call target.space (Calls (c.calls_made-number.result + 1) c.id.result c.args.fuel (kind_of c.result_kind.result) (message.Call (c.calls_made-number.result + 1) target.id c.args.method c.args.fuel c.args.arguments)) waits in
    subst (λ (u : State). IsLiving g u (record l { tasks = c.park.new.self; transport = c.make_call.new.self }))
    (sym (parks g s l hand target c.args.method c.args.arguments c.args.fuel c.calls_made-number.result c.id.result (kind_of c.result_kind.result) a h stands fuel number id (c.result_kind.ensures g.classes tells)))
    (moved g waits made (record l { tasks = c.park.new.self }) c.make_call.new.self refl (λ t. c.make_call.ensures.made waits t fits named refl) a1)

pub returns-clause-lent : goal.returns-clause-lent
returns-clause-lent w c =
    subst (λ (id : ℕ). LendsNoMore id c.args.self.now.tasks c.park.new.self) (ap (λ (x : Hand). x.id) c.in-Ok.ensures.task) (no-more-next c.in-Ok.ensures.lent c.park.ensures.lent)
