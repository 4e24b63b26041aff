use Rattle.std.proofs.Common.{◌≡◌, ◌+◌, ◌++◌, List, map}
use Rattle.std.specs.Prelude.{pos, replicate, vec_len, vec_capacity}
use Rattle.vm_heap.specs.Tagged.{Tagged, Int}
use Rattle.vm_heap.specs.Words.{AreWords}
use Rattle.vm_heap.proofs.words.add_zero_bits.Given as goal

-- the words so far stand for what they stood for and for the zeros
abbrev pub invariant-loop : goal.invariant-loop
invariant-loop l = record {
  words : (values : List Tagged) → AreWords values l.fn.bits.items → AreWords (values ++ map Int (replicate l.counter (pos 0))) l.row.items;
  len : vec_len l.row ≡ vec_len l.fn.bits + l.counter;
  room : vec_capacity l.row ≡ vec_capacity l.fn.bits;
}
