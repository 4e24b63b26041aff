use Rattle.vm_heap.proofs.OwnWords.{same_reference}
use Rattle.vm_heap.proofs.laws.references_have_words_of_their_own.Goals as goal

pub returns : goal.returns
returns c = same_reference
