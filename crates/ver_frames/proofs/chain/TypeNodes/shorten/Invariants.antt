use Rattle.std.proofs.Common.{◌≡◌, ◌≤◌, ℕ, take}
use Rattle.ver_frames.specs.Chains.{StandTo, types_of, types_to}
use Rattle.ver_frames.proofs.chain.TypeNodes.shorten.Given as goal

abbrev pub invariant-loop-count : goal.invariant-loop-count
invariant-loop-count l = record {
  stands : StandTo l.self l.count l.last;
  within : l.keeps ≤ l.count;
  types : take l.keeps (types_to l.self l.count l.last) ≡ take l.keeps (types_of l.self l.fn.chain);
}

abbrev pub decreases-loop-count : goal.decreases-loop-count
decreases-loop-count l = l.count
