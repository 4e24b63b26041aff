use Rattle.vm_heap.proofs.Images.{as_fresh-word}
use Rattle.vm_heap.proofs.word.Word.fresh.Goals as goal

pub invariant_of-result : goal.invariant_of-result
invariant_of-result c = rw (c.of-tag.ensures, ← c.self.view_is) (as_fresh-word c.args.index c.self.inside.tag.value c.self.inside.bits c.self.invariant)
