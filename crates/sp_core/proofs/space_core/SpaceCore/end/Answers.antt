use Rattle.std.proofs.Common.{Option, Some, refl, sym, ap, ◌≡◌, ◌∙◌}
use Rattle.sp_rules.specs.Space.{on}
use Rattle.sp_rules.specs.Tasks.{HasEnded, stand}
use Rattle.sp_state.specs.Hands as state
use Rattle.sp_state.specs.declared.space_state.SpaceState.{SpaceState}
use Rattle.sp_tasks.specs.Behaviours.{outcome_of}
use Rattle.sp_tasks.specs.Rows.{Hand}
use Rattle.sp_core.specs.Hands.{finished, fits}
use Rattle.sp_core.specs.declared.space_core.SpaceCore.{SpaceCore}
use Rattle.sp_core.proofs.EventLemmas.{advanced, finished-same, space-is}
use Rattle.sp_core.proofs.LentLemmas.{but, lent-after, lent-same, no-more}
use Rattle.sp_core.proofs.TwinLemmas.{core-is, if-some, on-err, own-alone, own-fits, own-main, same-task, taken-out, task-same, twin-id, twin-made, twin-own}
use Rattle.sp_core.proofs.space_core.SpaceCore.end.Goals as goal

pub take_second-requires-clause-lent : goal.take_second-requires-clause-lent
take_second-requires-clause-lent w c = own-main c.args.self.now c.args.task.now c.requires

pub take_second-requires-clause-fits : goal.take_second-requires-clause-fits
take_second-requires-clause-fits w c = ap (λ (o : Option Hand). fits c.args.self.now.spare c.args.task.now.task o) c.take.ensures.value ∙ own-fits c.args.self.now c.args.task.now c.requires

pub finish_in-requires : goal.finish_in-requires
finish_in-requires w c = twin-own c.in_ok-next.next c.args.task.now.task c.in_ok-next.twin c.in_ok-next.ensures.own

pub finish_too-spare-requires : goal.finish_too-spare-requires
finish_too-spare-requires w c =
    let last : c.replace-last.result ≡ c.args.self.now.state = c.replace-last.ensures.value ∙ ap (λ (core : SpaceCore). core.state) c.take_second.ensures.core in
    ap (λ (x : SpaceState). state.has_lent x c.args.task.now.task) last ∙ own-main c.args.self.now c.args.task.now c.requires

pub returns-in_err-next-clause-still : goal.returns-in_err-next-clause-still
returns-in_err-next-clause-still w c = on-err c.from_residual-in_err-next.result _ (lent-same c.args.self.now c.take_second.new.self (ap (λ (core : SpaceCore). core.state) c.take_second.ensures.core))

pub returns-in_err-next-clause-unchanged : goal.returns-in_err-next-clause-unchanged
returns-in_err-next-clause-unchanged w c = on-err c.from_residual-in_err-next.result _ (λ g s is. taken-out g s c.args.self.now c.take_second.new.self c.take_second.ensures.core is)

pub returns-in_err-next-clause-own : goal.returns-in_err-next-clause-own
returns-in_err-next-clause-own w c = on-err c.from_residual-in_err-next.result _ (own-alone c.args.self.now c.take_second.new.self c.args.task.now (record c.args.task.now { twin = c.take.new.self }) c.take_second.ensures.core refl c.requires)

pub returns-in_default-clause-still : goal.returns-in_default-clause-still
returns-in_default-clause-still w c = lent-same c.args.self.now c.take_second.new.self (ap (λ (core : SpaceCore). core.state) c.take_second.ensures.core)

pub returns-in_default-clause-unchanged : goal.returns-in_default-clause-unchanged
returns-in_default-clause-unchanged w c = λ g s is. taken-out g s c.args.self.now c.take_second.new.self c.take_second.ensures.core is

pub returns-in_default-clause-own : goal.returns-in_default-clause-own
returns-in_default-clause-own w c = own-alone c.args.self.now c.take_second.new.self c.args.task.now (record c.args.task.now { twin = c.take.new.self }) c.take_second.ensures.core refl c.requires

pub returns-clause-outputs : goal.returns-clause-outputs
returns-clause-outputs w c = λ g s is tells stands fuel.
    let core = c.args.self.now in
    let hand = c.args.task.now.task in
    let twin = c.in_ok-next.twin in
    let space = c.in_ok-next.next in
    let fit = c.in_ok-next.ensures.own in
    let second = c.in_ok-next.ensures.state g s is in
    let here = second.state in
    let same = same-task g s core.state space hand twin is.state here (own-main core c.args.task.now c.requires) (twin-own space hand twin fit) (twin-id space hand twin fit) (twin-made space hand twin fit) in
    let task = task-same g twin hand same in
    c.in-Ok.ensures.outputs g s here is.rest tells (ap stand task ∙ stands ∙ sym (ap (λ o. HasEnded (outcome_of o)) c.in_ok-first.ensures)) (fuel ∙ sym (ap (λ t. t.fuel) task))
    ∙ ap (λ r. r.1) (finished-same g s twin hand same.id same.made)

pub returns-clause-state : goal.returns-clause-state
returns-clause-state w c = λ g s is tells stands fuel.
    let core = c.args.self.now in
    let hand = c.args.task.now.task in
    let twin = c.in_ok-next.twin in
    let space = c.in_ok-next.next in
    let fit = c.in_ok-next.ensures.own in
    let second = c.in_ok-next.ensures.state g s is in
    let here = second.state in
    let same = same-task g s core.state space hand twin is.state here (own-main core c.args.task.now c.requires) (twin-own space hand twin fit) (twin-id space hand twin fit) (twin-made space hand twin fit) in
    let task = task-same g twin hand same in
    core-is g (on g (finished hand) s).0 (record c.take_second.new.self { state = c.replace-last.new.dest; spare = c.finish_too-spare.result }) c.put_spare.new.self c.put_spare.ensures
    (advanced (but hand.id) g s (finished hand) core c.take_second.new.self space c.replace-last.result c.replace-last.new.dest c.finish_in.new.space c.finish_too-spare.result refl is c.take_second.ensures.core
    c.replace-last.ensures.value c.replace-last.ensures.after second.lent
    (space-is g (on g (finished twin) s).0 (on g (finished hand) s).0 c.finish_in.new.space (sym (ap (λ r. r.0) (finished-same g s twin hand same.id same.made)))
    (c.in-Ok.ensures.state g s here is.rest tells (ap stand task ∙ stands ∙ sym (ap (λ o. HasEnded (outcome_of o)) c.in_ok-first.ensures)) (fuel ∙ sym (ap (λ t. t.fuel) task))))
    (no-more hand.id twin.id space c.finish_in.new.space same.id c.in-Ok.ensures.lent)
    (if-some c.finish_too-spare.result _ _ (λ x told. λ there rest. told g s there rest tells (stands ∙ sym (ap (λ o. HasEnded (outcome_of o)) c.in_ok-second.ensures)) fuel) c.finish_too-spare.ensures.finished)
    (if-some c.finish_too-spare.result _ _ (λ x gone. no-more hand.id hand.id c.replace-last.result x refl gone) c.finish_too-spare.ensures.lent))

pub returns-clause-lent : goal.returns-clause-lent
returns-clause-lent w c = λ g s is id.
    let hand = c.args.task.now.task in
    let twin = c.in_ok-next.twin in
    let space = c.in_ok-next.next in
    lent-after (but hand.id) c.args.self.now c.take_second.new.self c.put_spare.new.self space c.replace-last.new.dest c.finish_in.new.space c.finish_too-spare.result (c.in_ok-next.ensures.state g s is).lent
    c.replace-last.ensures.after (no-more hand.id twin.id space c.finish_in.new.space (twin-id space hand twin c.in_ok-next.ensures.own) c.in-Ok.ensures.lent) c.put_spare.ensures id
