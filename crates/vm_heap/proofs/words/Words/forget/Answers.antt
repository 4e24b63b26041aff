use Rattle.std.proofs.Common.{◌≡◌, ◌+◌, ◌<◌, ◌≤◌, length, get_or, sym, ap, ◌∙◌, arith, refl, Some, slice_get}
use Rattle.vm_heap.specs.Tagged.{Unset}
use Rattle.vm_heap.proofs.Images.{are_words-forgotten}
use Rattle.vm_heap.proofs.words.Words.forget.Goals as goal

pub invariant_of-self : goal.invariant_of-self
invariant_of-self c =
    rw (c.of.ensures, c.copy.ensures)
    (are_words-forgotten c.args.start c.args.end c.self.inside.tags.value c.self.inside.bits.items c.self.invariant c.requires.order (rw (← c.self.view_is) at c.requires.within))
