use Rattle.std.proofs.Common.{Option, Some, refl, sym, ap, ◌≡◌, ◌∙◌}
use Rattle.sp_rules.specs.Space.{on}
use Rattle.sp_state.specs.Hands as state
use Rattle.sp_tasks.specs.Behaviours.{op_of, reply_of}
use Rattle.sp_tasks.specs.Rows.{Hand}
use Rattle.sp_core.specs.Cores.{has_lent}
use Rattle.sp_core.specs.Hands.{committed, fits}
use Rattle.sp_core.specs.declared.space_core.SpaceCore.{SpaceCore}
use Rattle.sp_core.proofs.EventLemmas.{advanced-to, committed-at}
use Rattle.sp_core.proofs.LentLemmas.{kept, lent-after, lent-same, stays}
use Rattle.sp_core.proofs.RestLemmas.{commit-rest}
use Rattle.sp_core.proofs.TwinLemmas.{both, core-is, on-err, fits-kept, if-some, own-alone, own-fits, own-main, replied-same, same-task, taken-out, twin-id, twin-made, twin-own}
use Rattle.sp_core.proofs.space_core.SpaceCore.perform.Goals as goal

pub take_second-requires-clause-lent : goal.take_second-requires-clause-lent
take_second-requires-clause-lent w c = own-main c.args.self.now c.args.task.now c.requires

pub take_second-requires-clause-fits : goal.take_second-requires-clause-fits
take_second-requires-clause-fits w c = ap (λ (o : Option Hand). fits c.args.self.now.spare c.args.task.now.task o) c.take.ensures.value ∙ own-fits c.args.self.now c.args.task.now c.requires

pub commit_in-requires : goal.commit_in-requires
commit_in-requires w c = twin-own c.in_ok-next.next c.args.task.now.task c.in_ok-next.twin c.in_ok-next.ensures.own

pub commit_too-spare-requires : goal.commit_too-spare-requires
commit_too-spare-requires w c =
    let last : c.replace-last.result ≡ c.args.self.now.state = c.replace-last.ensures.value ∙ ap (λ (core : SpaceCore). core.state) c.take_second.ensures.core in
    (λ j. state.has_lent (last j) (c.replace-hand.ensures.value j)) ∙ own-main c.args.self.now c.args.task.now c.requires

pub returns-in_err-next-clause-own : goal.returns-in_err-next-clause-own
returns-in_err-next-clause-own w c = own-alone c.args.self.now c.take_second.new.self c.args.task.now (record c.args.task.now { twin = c.take.new.self }) c.take_second.ensures.core refl c.requires

pub returns-in_err-next-clause-lent : goal.returns-in_err-next-clause-lent
returns-in_err-next-clause-lent w c = λ g s is id. lent-same c.args.self.now c.take_second.new.self (ap (λ (core : SpaceCore). core.state) c.take_second.ensures.core) id

pub returns-in_err-next-clause-unchanged : goal.returns-in_err-next-clause-unchanged
returns-in_err-next-clause-unchanged w c = on-err c.from_residual.result _ (λ g s is. taken-out g s c.args.self.now c.take_second.new.self c.take_second.ensures.core is)

pub returns-in_default-clause-own : goal.returns-in_default-clause-own
returns-in_default-clause-own w c = own-alone c.args.self.now c.take_second.new.self c.args.task.now (record c.args.task.now { twin = c.take.new.self }) c.take_second.ensures.core refl c.requires

pub returns-in_default-clause-lent : goal.returns-in_default-clause-lent
returns-in_default-clause-lent w c = λ g s is id. lent-same c.args.self.now c.take_second.new.self (ap (λ (core : SpaceCore). core.state) c.take_second.ensures.core) id

pub returns-in_default-clause-unchanged : goal.returns-in_default-clause-unchanged
returns-in_default-clause-unchanged w c = λ g s is. taken-out g s c.args.self.now c.take_second.new.self c.take_second.ensures.core is

pub returns-clause-reply : goal.returns-clause-reply
returns-clause-reply w c = λ g s is tells may. c.in-Ok.ensures.reply g s (c.in_ok-next.ensures.state g s is).state tells may

pub returns-clause-state : goal.returns-clause-state
returns-clause-state w c = λ g s is tells may.
    let core = c.args.self.now in
    let hand = c.args.task.now.task in
    let twin = c.in_ok-next.twin in
    let space = c.in_ok-next.next in
    let fit = c.in_ok-next.ensures.own in
    let second = c.in_ok-next.ensures.state g s is in
    let op = op_of c.args.op.now in
    let after = (on g (committed hand c.args.op.now) s).0 in
    core-is g after (record c.take_second.new.self { state = c.replace-last.new.dest; spare = c.commit_too-spare.result }) c.put_spare.new.self c.put_spare.ensures
    (advanced-to stays g s after core c.take_second.new.self space c.replace-last.result c.replace-last.new.dest c.commit_in.new.space c.commit_too-spare.result is c.take_second.ensures.core
    c.replace-last.ensures.value c.replace-last.ensures.after second.lent
    (committed-at g s op hand twin c.commit_in.new.space (twin-id space hand twin fit) (twin-made space hand twin fit) (c.in-Ok.ensures.committed g s second.state tells may))
    (kept space c.commit_in.new.space c.in-Ok.ensures.lent)
    (if-some c.commit_too-spare.result _ _ (λ x told. λ there rest. committed-at g s op hand c.replace-hand.result x (ap (λ (h : Hand). h.id) c.replace-hand.ensures.value) (ap (λ (h : Hand). h.made) c.replace-hand.ensures.value) (told g s there tells may)) c.commit_too-spare.ensures.done)
    (if-some c.commit_too-spare.result _ _ (λ x same. kept c.replace-last.result x same) c.commit_too-spare.ensures.lent)
    (commit-rest g hand.id hand.made op s is.rest))

pub returns-clause-task : goal.returns-clause-task
returns-clause-task w c = λ g s is.
    let core = c.args.self.now in
    let hand = c.args.task.now.task in
    let twin = c.in_ok-next.twin in
    let space = c.in_ok-next.next in
    let fit = c.in_ok-next.ensures.own in
    c.replace-hand.ensures.after ∙ c.in-Ok.ensures.task
    ∙ replied-same (reply_of c.in-Ok.replies.0) twin hand (same-task g s core.state space hand twin is.state (c.in_ok-next.ensures.state g s is).state (own-main core c.args.task.now c.requires) (twin-own space hand twin fit) (twin-id space hand twin fit) (twin-made space hand twin fit))

pub returns-clause-lent : goal.returns-clause-lent
returns-clause-lent w c = λ g s is id.
    lent-after stays c.args.self.now c.take_second.new.self c.put_spare.new.self c.in_ok-next.next c.replace-last.new.dest c.commit_in.new.space c.commit_too-spare.result (c.in_ok-next.ensures.state g s is).lent
    c.replace-last.ensures.after (kept c.in_ok-next.next c.commit_in.new.space c.in-Ok.ensures.lent) c.put_spare.ensures id

pub returns-clause-own : goal.returns-clause-own
returns-clause-own w c =
    let hand = c.args.task.now.task in
    let twin = c.in_ok-next.twin in
    let space = c.in_ok-next.next in
    let fit = c.in_ok-next.ensures.own in
    let front = c.replace-hand.new.dest in
    let after = c.replace-hand.ensures.after ∙ c.in-Ok.ensures.task in
    let kept = c.replace-hand.ensures.value in
    ap (λ (core : SpaceCore). has_lent core (record c.args.task.now { task = front; twin = Some c.commit_too-spare.new.hand })) c.put_spare.ensures
    ∙ both _ _ ((λ j. state.has_lent (c.replace-last.ensures.after j) (c.replace-hand.ensures.after j)) ∙ c.in-Ok.ensures.own)
    (fits-kept c.commit_too-spare.result front c.commit_too-spare.new.hand c.replace-hand.result (ap (λ (h : Hand). h.id) after ∙ twin-id space hand twin fit ∙ sym (ap (λ (h : Hand). h.id) kept)) (ap (λ (h : Hand). h.made) after)
    c.commit_too-spare.ensures.own c.commit_too-spare.ensures.hand)
