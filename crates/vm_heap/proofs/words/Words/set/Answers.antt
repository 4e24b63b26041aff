use Rattle.std.proofs.Common.{◌≡◌, ◌+◌, ◌<◌, ◌≤◌, length, get_or, sym, ap, ◌∙◌, arith, refl, Some, slice_get}
use Rattle.vm_heap.specs.Tagged.{Unset}
use Rattle.vm_heap.proofs.Images.{are_words-set}
use Rattle.vm_heap.proofs.words.Words.set.Goals as goal

pub index_mut-requires : goal.index_mut-requires
index_mut-requires c = let h : c.args.index < length c.self.inside.tags.value = rw (← c.self.view_is) at c.requires in omega (arith, h, c.self.invariant.len)

pub invariant_of-self : goal.invariant_of-self
invariant_of-self c =
    rw (c.of.ensures, c.copy.ensures, ← c.word.view_is)
    (are_words-set c.self.inside.tags.value c.self.inside.bits.items c.args.index c.word.inside.tag.value c.word.inside.bits c.self.invariant c.word.invariant)
