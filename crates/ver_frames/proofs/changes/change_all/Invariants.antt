use Rattle.std.proofs.Common.{◌≡◌, map, length}
use Rattle.ver_frames.specs.Changes.{changed}
use Rattle.ver_frames.proofs.Changing.{changed_to}
use Rattle.ver_frames.proofs.changes.change_all.Given as goal

abbrev pub invariant-loop-index : goal.invariant-loop-index
invariant-loop-index l = record {
  long : length l.types.items ≡ length l.initial.types.items;
  changed : changed_to (changed l.change) l.index l.types.items ≡ map (changed l.change) l.initial.types.items;
}
