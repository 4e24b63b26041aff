use Rattle.std.proofs.Common.{◌≡◌, ◌+◌, ◌<◌, ◌≤◌, length, get_or, sym, ap, ◌∙◌, arith, refl, Some, slice_get}
use Rattle.std.proofs.lemmas.Option.{slice_get-get_or}
use Rattle.vm_heap.specs.Tagged.{Unset}
use Rattle.vm_heap.proofs.Images.{is_word-get}
use Rattle.vm_heap.proofs.words.Words.get.Goals as goal

pub index-requires : goal.index-requires
index-requires c = let h : c.args.index < length c.self.inside.tags.value = rw (← c.self.view_is) at c.requires in omega (arith, h, c.self.invariant.len)

pub invariant_of-result : goal.invariant_of-result
invariant_of-result c =
    let h : c.args.index < length c.self.inside.tags.value = rw (← c.self.view_is) at c.requires in
    let within : c.args.index < length c.self.inside.bits.items = omega (arith, h, c.self.invariant.len) in
    rw (c.of.ensures, c.copy.ensures, c.index.ensures)
    (is_word-get c.self.inside.tags.value c.self.inside.bits.items c.args.index Unset c.index.result.now c.self.invariant within)

pub returns : goal.returns
returns c =
    let h : c.args.index < length c.self.inside.tags.value = rw (← c.self.view_is) at c.requires in
    rw (← c.self.view_is, c.of.ensures, c.copy.ensures) (slice_get-get_or c.self.inside.tags.value c.args.index Unset h)
