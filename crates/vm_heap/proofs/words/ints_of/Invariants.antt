use Rattle.std.proofs.Common.{◌≡◌, length, map, take}
use Rattle.std.specs.Prelude.{vec_len, vec_capacity}
use Rattle.std.specs.Int.{w32, cast_signed}
use Rattle.vm_heap.proofs.words.ints_of.Given as goal

abbrev pub invariant-loop-word : goal.invariant-loop-word
invariant-loop-word l = record {
  items : l.ints.items ≡ map (λ bits. cast_signed w32 bits) (take l.word-index l.bits);
  len : vec_len l.ints ≡ l.word-index;
  room : vec_capacity l.ints ≡ length l.bits;
}
