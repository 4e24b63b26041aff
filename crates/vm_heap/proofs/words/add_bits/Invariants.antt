use Rattle.std.proofs.Common.{◌≡◌, ◌+◌, ◌++◌, List, map, take}
use Rattle.std.specs.Prelude.{vec_len, vec_capacity}
use Rattle.vm_heap.specs.Tagged.{Tagged, Int}
use Rattle.vm_heap.specs.Words.{AreWords}
use Rattle.vm_heap.proofs.words.add_bits.Given as goal

-- the words so far stand for what they stood for and for the first ints
abbrev pub invariant-loop-int : goal.invariant-loop-int
invariant-loop-int l = record {
  words : (values : List Tagged) → AreWords values l.fn.bits.items → AreWords (values ++ map Int (take l.int-index l.ints)) l.row.items;
  len : vec_len l.row ≡ vec_len l.fn.bits + l.int-index;
  room : vec_capacity l.row ≡ vec_capacity l.fn.bits;
}
