use Rattle.std.proofs.Common.{◌≡◌, ◌≤◌, ◌++◌, drop, length}
use Rattle.ver_frames.specs.Chains.{StandTo, types_of, types_to}
use Rattle.ver_frames.proofs.chain.TypeNodes.write.Given as goal

abbrev pub invariant-loop-count : goal.invariant-loop-count
invariant-loop-count l = record {
  stands : StandTo l.self l.count l.last;
  long : length l.types.items ≡ l.fn.chain.count;
  within : l.count ≤ l.fn.chain.count;
  types : types_to l.self l.count l.last ++ drop l.count l.types.items ≡ types_of l.self l.fn.chain;
}

abbrev pub decreases-loop-count : goal.decreases-loop-count
decreases-loop-count l = l.count
