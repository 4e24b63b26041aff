use Rattle.std.proofs.Common.{◌≡◌, ◌+◌, ◌<◌, ◌≤◌, length, get_or, sym, ap, ◌∙◌, arith, refl, Some, slice_get}
use Rattle.std.specs.Prelude.{vec_capacity}
use Rattle.vm_heap.specs.Tagged.{Unset}
use Rattle.vm_heap.proofs.Images.{are_words-add}
use Rattle.vm_heap.proofs.words.Words.push_reserved.Goals as goal

pub push_reserved-requires : goal.push_reserved-requires
push_reserved-requires c = let h : length c.self.inside.tags.value < vec_capacity c.self.inside.bits = rw (← c.self.view_is) at c.requires in omega (arith, h, c.self.invariant.len)

pub invariant_of-self : goal.invariant_of-self
invariant_of-self c =
    rw (c.of.ensures, c.copy.ensures, ← c.word.view_is, c.push_reserved.ensures.items)
    (are_words-add c.self.inside.tags.value c.self.inside.bits.items c.word.inside.tag.value c.word.inside.bits c.self.invariant c.word.invariant)
