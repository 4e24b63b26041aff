use Rattle.std.proofs.Common.{◌≡◌}
use Rattle.std.specs.List.{list_any}
use Rattle.ver_frames.specs.Chains.{StandTo, types_of, types_to}
use Rattle.ver_frames.specs.StackMapFormat.{is_uninit_this}
use Rattle.ver_frames.proofs.chain.TypeNodes.has_uninit_this.Given as goal

abbrev pub invariant-loop-count : goal.invariant-loop-count
invariant-loop-count l = record {
  stands : StandTo l.self l.count l.last;
  any : list_any is_uninit_this (types_to l.self l.count l.last) ≡ list_any is_uninit_this (types_of l.self l.fn.chain);
}

abbrev pub decreases-loop-count : goal.decreases-loop-count
decreases-loop-count l = l.count
