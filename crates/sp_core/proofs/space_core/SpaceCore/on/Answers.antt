use Rattle.std.proofs.Common.{◌∷◌, []}
use Rattle.sp_events.specs.Events.{event_of}
use Rattle.sp_rules.specs.Space.{state_of}
use Rattle.sp_rules.proofs.OwnLemmas.{own_references_stand}
use Rattle.sp_core.proofs.CheckLemmas.{refused-none, refused-some}
use Rattle.sp_core.proofs.space_core.SpaceCore.on.Goals as goal

pub returns-in-Some-clause-refused : goal.returns-in-Some-clause-refused
returns-in-Some-clause-refused w c = λ g s lent is. refused-some _ c.in-Some.fault (c.in-Some.ensures g s lent is)

pub returns-in_ok-accept-in-None-clause-outputs : goal.returns-in_ok-accept-in-None-clause-outputs
returns-in_ok-accept-in-None-clause-outputs w c = λ g s is tells. c.in_ok-accept-in-None.ensures.outputs g s is tells (refused-none _ (c.in-None.ensures g s [] is))

pub returns-in_ok-accept-in-None-clause-state : goal.returns-in_ok-accept-in-None-clause-state
returns-in_ok-accept-in-None-clause-state w c = λ g s is tells. c.in_ok-accept-in-None.ensures.state g s is tells (refused-none _ (c.in-None.ensures g s [] is))

pub returns-in_ok-accept-in-None-clause-standing : goal.returns-in_ok-accept-in-None-clause-standing
returns-in_ok-accept-in-None-clause-standing w c = λ g h is taken.
    own_references_stand g (event_of c.args.event.now ∷ h) (([], refused-none _ (c.in-None.ensures g (state_of g h) [] is)), taken)
