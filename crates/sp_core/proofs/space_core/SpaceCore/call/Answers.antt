use Rattle.std.proofs.Common.{◌≡◌, Option, Some, refl, sym, ap, ◌∙◌}
use Rattle.sp_rules.specs.Space.{on}
use Rattle.sp_rules.specs.Tasks.{AsksFor, stand}
use Rattle.sp_state.specs.Hands as state
use Rattle.sp_state.specs.declared.space_state.SpaceState.{SpaceState}
use Rattle.sp_tasks.specs.Rows.{Hand}
use Rattle.sp_core.specs.Hands.{fits, parked}
use Rattle.sp_core.specs.declared.space_core.SpaceCore.{SpaceCore}
use Rattle.sp_core.proofs.EventLemmas.{advanced, parked-same, space-is}
use Rattle.sp_core.proofs.LentLemmas.{but, lent-after, lent-same, no-more}
use Rattle.sp_core.proofs.TwinLemmas.{core-is, if-some, own-alone, own-fits, own-main, same-task, taken-out, task-same, twin-id, twin-made, twin-own}
use Rattle.sp_core.proofs.space_core.SpaceCore.call.Goals as goal

pub take_second-requires-clause-lent : goal.take_second-requires-clause-lent
take_second-requires-clause-lent w c = own-main c.args.self.now c.args.task c.requires.own

pub take_second-requires-clause-fits : goal.take_second-requires-clause-fits
take_second-requires-clause-fits w c = ap (λ (o : Option Hand). fits c.args.self.now.spare c.args.task.task o) c.take.ensures.value ∙ own-fits c.args.self.now c.args.task c.requires.own

pub park_in-requires : goal.park_in-requires
park_in-requires w c = twin-own c.in-Ok-take_second.taken.0 c.args.task.task c.in-Ok-take_second.taken.1 c.in-Ok-take_second.ensures.own

pub park_too-spare-requires : goal.park_too-spare-requires
park_too-spare-requires w c =
    let last : c.replace-last.result ≡ c.args.self.now.state = c.replace-last.ensures.value ∙ ap (λ (core : SpaceCore). core.state) c.take_second.ensures.core in
    ap (λ (x : SpaceState). state.has_lent x c.args.task.task) last ∙ own-main c.args.self.now c.args.task c.requires.own

pub returns-in_default-take_second-clause-lent : goal.returns-in_default-take_second-clause-lent
returns-in_default-take_second-clause-lent w c = λ g s is id. lent-same c.args.self.now c.take_second.new.self (ap (λ (core : SpaceCore). core.state) c.take_second.ensures.core) id

pub returns-in_default-take_second-clause-unchanged : goal.returns-in_default-take_second-clause-unchanged
returns-in_default-take_second-clause-unchanged w c = λ g s is. taken-out g s c.args.self.now c.take_second.new.self c.take_second.ensures.core is

pub returns-in_default-take_second-clause-own : goal.returns-in_default-take_second-clause-own
returns-in_default-take_second-clause-own w c = own-alone c.args.self.now c.take_second.new.self c.args.task (record c.args.task { twin = c.take.new.self }) c.take_second.ensures.core refl c.requires.own

pub returns-in_default-park_in-clause-lent : goal.returns-in_default-park_in-clause-lent
returns-in_default-park_in-clause-lent w c = λ g s is id. lent-same c.args.self.now c.take_second.new.self (ap (λ (core : SpaceCore). core.state) c.take_second.ensures.core) id

pub returns-in_default-park_in-clause-unchanged : goal.returns-in_default-park_in-clause-unchanged
returns-in_default-park_in-clause-unchanged w c = λ g s is. taken-out g s c.args.self.now c.take_second.new.self c.take_second.ensures.core is

pub returns-in_default-park_in-clause-own : goal.returns-in_default-park_in-clause-own
returns-in_default-park_in-clause-own w c = own-alone c.args.self.now c.take_second.new.self c.args.task (record c.args.task { twin = c.take.new.self }) c.take_second.ensures.core refl c.requires.own

pub returns-clause-outputs : goal.returns-clause-outputs
returns-clause-outputs w c = λ g s is tells stands fuel.
    let core = c.args.self.now in
    let hand = c.args.task.task in
    let twin = c.in-Ok-take_second.taken.1 in
    let space = c.in-Ok-take_second.taken.0 in
    let fit = c.in-Ok-take_second.ensures.own in
    let second = c.in-Ok-take_second.ensures.state g s is in
    let here = second.state in
    let same = same-task g s core.state space hand twin is.state here (own-main core c.args.task c.requires.own) (twin-own space hand twin fit) (twin-id space hand twin fit) (twin-made space hand twin fit) in
    let task = task-same g twin hand same in
    c.in-Ok-park_in.ensures.outputs g s here is.rest tells (ap stand task ∙ stands ∙ ap AsksFor c.in-Ok.ensures) (fuel ∙ sym (ap (λ t. t.fuel) task))
    ∙ ap (λ r. r.1) (parked-same g s twin hand same.id same.made)

pub returns-clause-state : goal.returns-clause-state
returns-clause-state w c = λ g s is tells stands fuel.
    let core = c.args.self.now in
    let hand = c.args.task.task in
    let twin = c.in-Ok-take_second.taken.1 in
    let space = c.in-Ok-take_second.taken.0 in
    let fit = c.in-Ok-take_second.ensures.own in
    let second = c.in-Ok-take_second.ensures.state g s is in
    let here = second.state in
    let same = same-task g s core.state space hand twin is.state here (own-main core c.args.task c.requires.own) (twin-own space hand twin fit) (twin-id space hand twin fit) (twin-made space hand twin fit) in
    let task = task-same g twin hand same in
    core-is g (on g (parked hand) s).0 (record c.take_second.new.self { state = c.replace-last.new.dest; spare = c.park_too-spare.result }) c.put_spare.new.self c.put_spare.ensures
    (advanced (but hand.id) g s (parked hand) core c.take_second.new.self space c.replace-last.result c.replace-last.new.dest c.park_in.new.space c.park_too-spare.result refl is c.take_second.ensures.core
    c.replace-last.ensures.value c.replace-last.ensures.after second.lent
    (space-is g (on g (parked twin) s).0 (on g (parked hand) s).0 c.park_in.new.space (sym (ap (λ r. r.0) (parked-same g s twin hand same.id same.made)))
    (c.in-Ok-park_in.ensures.state g s here is.rest tells (ap stand task ∙ stands ∙ ap AsksFor c.in-Ok.ensures) (fuel ∙ sym (ap (λ t. t.fuel) task))))
    (no-more hand.id twin.id space c.park_in.new.space same.id c.in-Ok-park_in.ensures.lent)
    (if-some c.park_too-spare.result _ _ (λ x told. λ there rest. told g s there rest tells (stands ∙ ap AsksFor c.in-Ok-call_of.ensures) fuel) c.park_too-spare.ensures.parked)
    (if-some c.park_too-spare.result _ _ (λ x gone. no-more hand.id hand.id c.replace-last.result x refl gone) c.park_too-spare.ensures.lent))

pub returns-clause-lent : goal.returns-clause-lent
returns-clause-lent w c = λ g s is id.
    let hand = c.args.task.task in
    let twin = c.in-Ok-take_second.taken.1 in
    let space = c.in-Ok-take_second.taken.0 in
    lent-after (but hand.id) c.args.self.now c.take_second.new.self c.put_spare.new.self space c.replace-last.new.dest c.park_in.new.space c.park_too-spare.result (c.in-Ok-take_second.ensures.state g s is).lent
    c.replace-last.ensures.after (no-more hand.id twin.id space c.park_in.new.space (twin-id space hand twin c.in-Ok-take_second.ensures.own) c.in-Ok-park_in.ensures.lent) c.put_spare.ensures id
