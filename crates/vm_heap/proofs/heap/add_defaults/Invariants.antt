use Rattle.std.proofs.Common.{◌≡◌, ◌++◌, take, map}
use Rattle.vm_heap.specs.Heap.{default}
use Rattle.vm_heap.proofs.heap.add_defaults.Given as goal

abbrev pub invariant-loop-kind : goal.invariant-loop-kind
invariant-loop-kind l = l.words ≡ record l.fn.words { values = l.fn.words.values ++ map default (take l.kind-index l.fields) }
