-- Hashes of keys. (This project's own.)
-- Hashes of numbers: one multiplication to 128 bits, of which the halves are joined.
use Rattle.std.specs.Prelude.{ℕ, ◌*◌, ◌/◌, ◌^◌, ◌-◌, List, bit_and, bit_xor}
use Rattle.std.specs.Int.{from_le_bytes}
use mir.Syntax.{w64}
use Rattle.std.specs.Hash.DefaultHasher as sip
use Rattle.std.specs.declared.hash.DefaultHasher.{DefaultHasher}
use Rattle.std.specs.RandomState.{initial_hasher}
use Rattle.table_copies.specs.declared.number_hasher.NumberHasher.{NumberHasher}
use Rattle.table_copies.specs.declared.peer_hashes.PeerHashes.{PeerHashes}

abbrev pub initial : NumberHasher
initial = record { state = 0 }

-- the halves of the 128 bits of a product, joined
abbrev pub folded_product : ℕ → ℕ → ℕ
folded_product a b = bit_xor (bit_and (a * b) (2 ^ 64 - 1)) (a * b / 2 ^ 64)

-- the state after a number
abbrev pub with_number : NumberHasher → ℕ → NumberHasher
with_number hasher number = record { state = folded_product (bit_xor hasher.state number) 0x9e37_79b9_7f4a_7c15 }

-- the state after bytes: those of a number, the lowest first, of which the first eight count
abbrev pub write : NumberHasher → List ℕ → NumberHasher
write hasher bytes = with_number hasher (from_le_bytes w64 bytes)

abbrev pub finish : NumberHasher → ℕ
finish hasher = hasher.state

-- ---- hashes of keys that peers pick

-- the hasher with which the hash of such a key begins: SipHash-1-3 with fixed keys, or with those of chance
abbrev pub hasher_of_peers : PeerHashes → DefaultHasher
hasher_of_peers PeerHashes.Fixed = sip.initial
hasher_of_peers (PeerHashes.Random state) = initial_hasher state
