use Rattle.std.proofs.Common.{◌≡◌, ◌++◌, List}
use Rattle.table_copies.specs.Copies.{AreCopies}
use Rattle.table_copies.proofs.caches.copy_cache.Given as goal

-- the last entries are copied; the others are left
abbrev pub invariant-loop-key : goal.invariant-loop-key
invariant-loop-key g l = record {
  cap : l.copy.cap ≡ l.cache.cap;
  copied : (done : List (g.row.K.Denot × g.row.V.Denot)) × (l.key-iterator.iter ++ done ≡ l.cache.entries) × AreCopies g.V.CopyIn.is_copy done l.copy.entries;
}
