use Rattle.vm_typing.proofs.Example
use Rattle.vm_typing.proofs.laws.what_is_owed_can_be_met.Goals as goal

pub returns : goal.returns
returns c = record { owed = Example.owed; sound = Example.example_is_sound }
