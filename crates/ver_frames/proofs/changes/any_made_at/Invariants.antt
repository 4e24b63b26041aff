use Rattle.std.proofs.Common.{◌≡◌, drop}
use Rattle.std.specs.List.{list_any}
use Rattle.ver_frames.specs.Changes.{is_made_at}
use Rattle.ver_frames.proofs.changes.any_made_at.Given as goal

-- what is found is found in what is left
abbrev pub invariant-loop-kind : goal.invariant-loop-kind
invariant-loop-kind l = list_any (is_made_at l.offset) (drop l.kind-index l.types) ≡ list_any (is_made_at l.offset) l.types
