use Rattle.std.proofs.Common.{◌∷◌, ap, ◌∙◌}
use Rattle.sp_rules.specs.Space.{on, state_of}
use Rattle.sp_rules.proofs.OwnLemmas.{own_references_stand}
use Rattle.sp_core.specs.Cores.{lent_as}
use Rattle.sp_core.specs.Hands.{finished}
use Rattle.sp_core.specs.declared.space_core.SpaceCore.{SpaceCore}
use Rattle.sp_core.proofs.LentLemmas.{lent-same}
use Rattle.sp_core.proofs.CheckLemmas.{refused-some}
use Rattle.sp_core.proofs.TwinLemmas.{own-main, with-sightings}
use Rattle.sp_core.proofs.space_core.SpaceCore.finish_lent.Goals as goal

pub refuse_finish-requires : goal.refuse_finish-requires
refuse_finish-requires w c = own-main c.args.self.now c.args.task c.requires

pub returns-in-Err-clause-refused : goal.returns-in-Err-clause-refused
returns-in-Err-clause-refused w c = λ g s lent is lending at. refused-some _ c.in-Err.fault (c.in-Err.ensures.refused g s lent is lending at)

pub returns-in-Ok-end-clause-outputs : goal.returns-in-Ok-end-clause-outputs
returns-in-Ok-end-clause-outputs w c = λ g s is tells at fuel. c.in-Ok-end.ensures.outputs g s is tells (at ∙ c.in-Ok.ensures.ended) fuel

pub returns-in-Ok-end-clause-state : goal.returns-in-Ok-end-clause-state
returns-in-Ok-end-clause-state w c = λ g s is tells at fuel.
    with-sightings g (on g (finished c.args.task.task) s).0 c.end.new.self c.see_end.new.self c.see_end.ensures (c.in-Ok-end.ensures.state g s is tells (at ∙ c.in-Ok.ensures.ended) fuel)

pub returns-in-Ok-end-clause-lent : goal.returns-in-Ok-end-clause-lent
returns-in-Ok-end-clause-lent w c = λ g s is id. lent-same c.end.new.self c.see_end.new.self (ap (λ (core : SpaceCore). core.state) c.see_end.ensures) id ∙ c.in-Ok-end.ensures.lent g s is id

pub returns-in-Ok-end-clause-standing : goal.returns-in-Ok-end-clause-standing
returns-in-Ok-end-clause-standing w c = λ g h lent is lending at taken.
    own_references_stand g (finished c.args.task.task ∷ h) ((lent_as (state_of g h) c.args.task.task lent, c.in-Ok.ensures.accepted g (state_of g h) lent is lending at), taken)
