use Rattle.std.proofs.Common.{ap, refl}
use Rattle.sp_events.specs.Events.{event_of_root}
use Rattle.sp_rules.specs.Space.{on}
use Rattle.sp_core.specs.declared.space_core.SpaceCore.{SpaceCore}
use Rattle.sp_core.proofs.EventLemmas.{advanced}
use Rattle.sp_core.proofs.LentLemmas.{kept, lent-after, lent-same, stays}
use Rattle.sp_core.proofs.TwinLemmas.{core-is, if-some, on-err, taken-out}
use Rattle.sp_core.proofs.space_core.SpaceCore.start.Goals as goal

pub returns-in_err-next-clause-lent : goal.returns-in_err-next-clause-lent
returns-in_err-next-clause-lent c = λ g s is id. lent-same c.args.self.now c.take_spare.new.self (ap (λ (core : SpaceCore). core.state) c.take_spare.ensures.core) id

pub returns-in_err-next-clause-unchanged : goal.returns-in_err-next-clause-unchanged
returns-in_err-next-clause-unchanged c = on-err c.from_residual.result _ (λ g s is. taken-out g s c.args.self.now c.take_spare.new.self c.take_spare.ensures.core is)

pub returns-in_default-clause-lent : goal.returns-in_default-clause-lent
returns-in_default-clause-lent c = λ g s is id. lent-same c.args.self.now c.take_spare.new.self (ap (λ (core : SpaceCore). core.state) c.take_spare.ensures.core) id

pub returns-in_default-clause-unchanged : goal.returns-in_default-clause-unchanged
returns-in_default-clause-unchanged c = λ g s is. taken-out g s c.args.self.now c.take_spare.new.self c.take_spare.ensures.core is

pub returns-clause-outputs : goal.returns-clause-outputs
returns-clause-outputs c = λ g s is. c.in-Ok.ensures.outputs g s (c.in_ok-next.ensures.spare g s is).state is.rest

pub returns-clause-state : goal.returns-clause-state
returns-clause-state c = λ g s is.
    let second = c.in_ok-next.ensures.spare g s is in
    core-is g (on g (event_of_root c.args.root.now) s).0 (record c.take_spare.new.self { state = c.replace-last.new.dest; spare = c.follow_root-spare.result }) c.put_spare.new.self c.put_spare.ensures
    (advanced stays g s (event_of_root c.args.root.now) c.args.self.now c.take_spare.new.self c.in_ok-next.next c.replace-last.result c.replace-last.new.dest c.on_root.new.self c.follow_root-spare.result refl is c.take_spare.ensures.core
    c.replace-last.ensures.value c.replace-last.ensures.after second.lent (c.in-Ok.ensures.happened g s second.state is.rest) (kept c.in_ok-next.next c.on_root.new.self c.in-Ok.ensures.lent)
    (if-some c.follow_root-spare.result _ _ (λ space told. told g s) c.follow_root-spare.ensures.happened)
    (if-some c.follow_root-spare.result _ _ (λ space same. kept c.replace-last.result space same) c.follow_root-spare.ensures.lent))

pub returns-clause-lent : goal.returns-clause-lent
returns-clause-lent c = λ g s is id.
    lent-after stays c.args.self.now c.take_spare.new.self c.put_spare.new.self c.in_ok-next.next c.replace-last.new.dest c.on_root.new.self c.follow_root-spare.result (c.in_ok-next.ensures.spare g s is).lent
    c.replace-last.ensures.after (kept c.in_ok-next.next c.on_root.new.self c.in-Ok.ensures.lent) c.put_spare.ensures id
