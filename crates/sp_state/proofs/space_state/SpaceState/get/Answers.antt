use Rattle.std.proofs.Common.{Some, ap, ◌∙◌}
use Rattle.sp_state.proofs.OpLemmas.{field-there, field-value}
use Rattle.sp_state.proofs.space_state.SpaceState.get.Goals as goal

pub returns-in_ok-copy_value-in-Some : goal.returns-in_ok-copy_value-in-Some
returns-in_ok-copy_value-in-Some c = λ g s is has. ap Some c.in_ok-copy_value-in-Some.ensures ∙ field-value g s c.args.object c.args.slot _ (c.in-Some.ensures g s is.owner)

pub returns-in-None : goal.returns-in-None
returns-in-None c = λ g s is has. absurd (field-there g s c.args.object c.args.slot (c.in-None.ensures g s is.owner) has)
