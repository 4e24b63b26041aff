use Rattle.std.proofs.Common.{◌≡◌, length, take}
use Rattle.cf_text.specs.TypesAt.{types_at}
use Rattle.cf_text.proofs.interning.TypeTable.indices_of.Given as goal

-- the indices so far are those of the types so far
abbrev pub invariant-loop-kind : goal.invariant-loop-kind
invariant-loop-kind l = record {
  types : types_at l.self.types l.indices.items ≡ take l.kind-index l.kinds;
  all : length l.indices.items ≡ l.kind-index;
}
