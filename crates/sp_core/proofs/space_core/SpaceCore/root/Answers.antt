use Rattle.std.proofs.Common.{◌∷◌, [], ap, ◌∙◌}
use Rattle.std.specs.Prelude.{option_and_then}
use Rattle.sp_events.specs.Events.{event_of_root}
use Rattle.sp_events.specs.FaultNames.{core_fault_number}
use Rattle.sp_rules.specs.Space.{state_of}
use Rattle.sp_rules.proofs.OwnLemmas.{own_references_stand}
use Rattle.sp_core.proofs.CheckLemmas.{refused-none}
use Rattle.sp_core.proofs.TwinLemmas.{seen-is}
use Rattle.sp_core.proofs.space_core.SpaceCore.root.Goals as goal

pub returns-in_err-start-in-None-clause-lent : goal.returns-in_err-start-in-None-clause-lent
returns-in_err-start-in-None-clause-lent c = λ g s is id. c.start.ensures.lent g s (seen-is g s c.args.self.now c.look_for.new.self is) id

pub returns-in_ok-start-in-None-clause-lent : goal.returns-in_ok-start-in-None-clause-lent
returns-in_ok-start-in-None-clause-lent c = λ g s is id. c.start.ensures.lent g s (seen-is g s c.args.self.now c.look_for.new.self is) id

pub returns-in_ok-start-in-None-clause-standing : goal.returns-in_ok-start-in-None-clause-standing
returns-in_ok-start-in-None-clause-standing c = λ g h is told taken.
    own_references_stand g (event_of_root c.args.root.now ∷ h) (([], refused-none _ (c.in_ok-fault.ensures g (state_of g h) [] (seen-is g (state_of g h) c.args.self.now c.look_for.new.self is) told ∙ ap (option_and_then core_fault_number) c.in-None.is)), taken)
