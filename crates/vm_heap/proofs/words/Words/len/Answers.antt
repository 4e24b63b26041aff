use Rattle.std.proofs.Common.{◌≡◌, ◌+◌, ◌<◌, ◌≤◌, length, get_or, sym, ap, ◌∙◌, arith, refl, Some, slice_get}
use Rattle.vm_heap.specs.Tagged.{Unset}
use Rattle.vm_heap.proofs.words.Words.len.Goals as goal

pub returns : goal.returns
returns c = rw (← c.self.view_is) (omega (arith, c.len.ensures, c.self.invariant.len))
