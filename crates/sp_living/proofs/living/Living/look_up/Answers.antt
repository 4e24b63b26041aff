use Rattle.std.proofs.Common.{◌≡◌, ◌<◌, ◌+◌, ◌^◌, arith, sym, ap, subst, ◌∙◌, [], ◌∷◌}
use Rattle.std.proofs.lemmas.Result.{on_ok_weaker}
use Rattle.sp_rules.specs.Events.{Started}
use Rattle.sp_rules.specs.State.{State, say}
use Rattle.sp_living.specs.Livings.{IsLiving}
use Rattle.sp_living.proofs.LookupLemmas.{looked-up, lookup-made, with_lookup}
use Rattle.sp_tasks.proofs.LentLemmas.{lent-still, on-any}
use Rattle.sp_living.proofs.living.Living.look_up.Goals as goal

pub returns-clause-looked_up : goal.returns-clause-looked_up
returns-clause-looked_up c = on_ok_weaker c.say.result (λ said. λ g s a allowed tasks calls.
    let l = c.args.self.now in
    let peer = c.args.peer.now in
    let name = c.args.name in
    let last : c.calls_made-last.result ≡ s.calls_made = c.calls_made-last.ensures s a.transport in
    let fits : s.calls_made + 1 < 2 ^ 64 = omega arith in
    let made = c.make_call.ensures.made s a.transport fits (ap (λ n. (n + 1) ∷ []) last) tt in
    let now = lookup-made g s l peer name c.calls_made-last.result c.take_id-task.result c.make_call.new.self c.take_id-task.new.self last c.take_id-task.ensures.id c.take_id-task.ensures.taken made a in
    let id = c.take_id-task.ensures.id ∙ ap (λ n. n + 1) a.tasks.last in
    subst (λ (u : State). IsLiving g u c.say.new.self) (ap (λ n. say (Started n) (with_lookup peer name s)) id ∙ sym (looked-up g peer name s allowed)) (said g (with_lookup peer name s) now)) c.say.ensures.said

pub returns-clause-lent : goal.returns-clause-lent
returns-clause-lent c = on-any c.say.result (lent-still c.take_id-task.ensures.lent c.say.ensures.tasks)
