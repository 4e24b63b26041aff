use Rattle.std.proofs.Common.{[]}
use Rattle.sp_events.specs.Events.{event_of}
use Rattle.sp_machines.proofs.GoingLemmas.{outside}
use Rattle.sp_machines.proofs.ResultLemmas.{if-ok, on-err, on-ok-two}
use Rattle.sp_lending.proofs.SpaceLemmas.{event-space, kept-space, space-core}
use Rattle.sp_lending.proofs.parts.Parts.on.Goals as goal

pub returns-clause-outputs : goal.returns-clause-outputs
returns-clause-outputs c = if-ok c.on.result _ _ (λ outputs told. λ g s is. told g s (space-core g s c.args.self.now is) is.stands.classes) c.on.ensures.outputs

pub returns-clause-state : goal.returns-clause-state
returns-clause-state c =
    let space = c.args.self.now in
    on-ok-two c.on.result _ _ _ (λ accepted state. λ g s is.
    let core-is = space-core g s space is in
    event-space g s (event_of c.args.event.now) space c.on.new.self is (outside c.args.event.now) [] (accepted g s [] core-is) (state g s core-is is.stands.classes) (c.on.ensures.lent g s core-is)) c.on.ensures.accepted c.on.ensures.state

pub returns-clause-unchanged : goal.returns-clause-unchanged
returns-clause-unchanged c =
    let space = c.args.self.now in
    on-err c.on.result _ _ (λ same. λ g s is. kept-space g s space c.on.new.self is (same g) (c.on.ensures.lent g s (space-core g s space is))) c.on.ensures.unchanged
