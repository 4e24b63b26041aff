use Rattle.std.proofs.Common.{◌≡◌, ◌++◌, map}
use Rattle.std.specs.Map.Iter.{deref_pair}
use Rattle.table_copies.specs.Copies.{AreCopies}
use Rattle.table_copies.proofs.maps.copy_map.Given as goal

-- the entries so far are copied; the others are left
abbrev pub invariant-loop-key : goal.invariant-loop-key
invariant-loop-key g l = record {
  copied : AreCopies g.V.CopyIn.is_copy (map deref_pair l.yielded) l.copy.entries;
  whole : map deref_pair l.yielded ++ l.key-iterator ≡ l.map.entries;
}
