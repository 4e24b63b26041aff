use Rattle.std.proofs.Common.{◌↔◌, ◌≤◌}
use Rattle.ver_frames.proofs.ChainZips.{AreFirst}
use Rattle.ver_frames.specs.Chains.{StandTo}
use Rattle.ver_frames.specs.Frames.{filled}
use Rattle.ver_frames.proofs.assignability.chain_assignable.Given as goal

abbrev pub invariant-loop-count : goal.invariant-loop-count
invariant-loop-count l = record {
  stands : StandTo l.nodes l.count l.last;
  within : l.count ≤ l.fn.asked.count;
  first : AreFirst l.classes (filled l.fn.asked.count l.given) l.nodes l.count l.last
      ↔ AreFirst l.classes (filled l.fn.asked.count l.given) l.nodes l.fn.asked.count l.fn.asked.last;
}

abbrev pub decreases-loop-count : goal.decreases-loop-count
decreases-loop-count l = l.count
