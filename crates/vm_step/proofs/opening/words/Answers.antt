use Rattle.vm_step.proofs.Copying.{words_of_ints, words_of_other}
use Rattle.vm_step.proofs.opening.words.Goals as goal

pub returns-in-Ints : goal.returns-in-Ints
returns-in-Ints c = rw c.as_slice.ensures (words_of_ints c.args.argument.now _ c.in-Ints.is)

pub returns-in_default : goal.returns-in_default
returns-in_default c = words_of_other c.args.argument.now (λ elements is. c.in_default.not-Ints elements is)
