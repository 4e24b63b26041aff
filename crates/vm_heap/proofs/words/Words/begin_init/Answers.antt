use Rattle.std.proofs.Common.{◌≡◌, ◌+◌, ◌<◌, ◌≤◌, length, get_or, sym, ap, ◌∙◌, arith, refl, Some, slice_get}
use Rattle.vm_heap.specs.Tagged.{Unset}
use Rattle.vm_heap.proofs.Images.{are_words-begun}
use Rattle.vm_heap.proofs.words.Words.begin_init.Goals as goal

pub invariant_of-self : goal.invariant_of-self
invariant_of-self c =
    rw (c.of.ensures, c.copy.ensures)
    (are_words-begun c.self.inside.tags.value c.self.inside.bits.items c.args.index c.args.word.now c.self.invariant (rw (← c.self.view_is) at c.requires))
