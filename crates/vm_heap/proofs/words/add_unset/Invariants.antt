use Rattle.std.proofs.Common.{◌≡◌, ◌++◌}
use Rattle.std.specs.Prelude.{replicate}
use Rattle.vm_heap.specs.Tagged.{Unset}
use Rattle.vm_heap.proofs.words.add_unset.Given as goal

abbrev pub invariant-loop : goal.invariant-loop
invariant-loop l = l.words ≡ record l.fn.words { values = l.fn.words.values ++ replicate l.counter Unset }
