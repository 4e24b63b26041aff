use Rattle.vm_typing.proofs.Sets
use Rattle.vm_typing.proofs.laws.class_sets_give_what_is_owed.Goals as goal

pub returns : goal.returns
returns c = Sets.sets_give
