use Rattle.std.proofs.Common.{◌∷◌, ◌∙◌}
use Rattle.sp_rules.specs.Space.{state_of}
use Rattle.sp_rules.proofs.OwnLemmas.{own_references_stand}
use Rattle.sp_core.specs.Cores.{lent_as}
use Rattle.sp_core.specs.Hands.{parked}
use Rattle.sp_core.proofs.CheckLemmas.{refused-some}
use Rattle.sp_core.proofs.TwinLemmas.{own-main}
use Rattle.sp_core.proofs.space_core.SpaceCore.park_lent.Goals as goal

pub refuse_park-requires : goal.refuse_park-requires
refuse_park-requires w c = own-main c.args.self.now c.args.task c.requires

pub returns-in-Err-clause-refused : goal.returns-in-Err-clause-refused
returns-in-Err-clause-refused w c = λ g s lent is lending tells at. refused-some _ c.in-Err.fault (c.in-Err.ensures.refused g s lent is lending tells at)

pub returns-in-Ok-call-clause-outputs : goal.returns-in-Ok-call-clause-outputs
returns-in-Ok-call-clause-outputs w c = λ g s is tells at fuel. c.in-Ok-call.ensures.outputs g s is tells (at ∙ c.in-Ok.ensures.asks) fuel

pub returns-in-Ok-call-clause-state : goal.returns-in-Ok-call-clause-state
returns-in-Ok-call-clause-state w c = λ g s is tells at fuel. c.in-Ok-call.ensures.state g s is tells (at ∙ c.in-Ok.ensures.asks) fuel

pub returns-in-Ok-call-clause-standing : goal.returns-in-Ok-call-clause-standing
returns-in-Ok-call-clause-standing w c = λ g h lent is lending tells at taken.
    own_references_stand g (parked c.args.task.task ∷ h) ((lent_as (state_of g h) c.args.task.task lent, c.in-Ok.ensures.accepted g (state_of g h) lent is lending tells at), taken)
