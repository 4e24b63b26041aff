use Rattle.std.proofs.Common.{◌≡◌, ◌+◌, ◌<◌, ◌≤◌, length, get_or, sym, ap, ◌∙◌, arith, refl, Some, slice_get}
use Rattle.vm_heap.specs.Tagged.{Unset}
use Rattle.vm_heap.proofs.Images.{are_words-after_init_from}
use Rattle.vm_heap.proofs.words.Words.initialise.Goals as goal

pub invariant_of-self : goal.invariant_of-self
invariant_of-self c =
    rw (c.of.ensures, c.copy.ensures)
    (are_words-after_init_from c.args.start c.args.word.now c.self.inside.tags.value c.self.inside.bits.items c.self.invariant)
