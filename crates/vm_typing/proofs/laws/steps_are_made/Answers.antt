use Rattle.vm_typing.proofs.Uses
use Rattle.vm_typing.proofs.laws.steps_are_made.Goals as goal
use Rattle.vm_typing.specs.Typed.{IsTyped}

pub returns : goal.returns
returns c = λ w asked held. record {
  may_be_made = Uses.not_stuck w asked held (IsTyped w asked);
  goes_on = Uses.goes_on w asked held (IsTyped w asked);
  ends = Uses.ends w asked held (IsTyped w asked);
  object = Uses.referent_is w asked held (IsTyped w asked);
}
