use Rattle.std.proofs.Common.{◌≡◌, take}
use Rattle.ver_frames.specs.Chains.{Stands, types_of}
use Rattle.ver_frames.proofs.chain.TypeNodes.append_all.Given as goal

abbrev pub invariant-loop-kind : goal.invariant-loop-kind
invariant-loop-kind l = record {
  types : types_of l.self l.chain ≡ take l.kind-index l.types;
  stands : Stands l.self l.chain;
  count : l.chain.count ≡ l.kind-index;
}
