use Rattle.std.proofs.Common.{◌≡◌, ◌-◌, ◌<◌, suc, length, length-set, arith}
use Rattle.ver_frames.proofs.Chains.{inside, stands_before, write_end, write_step}
use Rattle.ver_frames.proofs.chain.TypeNodes.write.Goals as goal

pub node-node-requires : goal.node-node-requires
node-node-requires c = inside c.args.self.now c.loop-count.count c.loop-count.last (omega arith) c.loop-count.invariant.stands

pub loop-count-preserved : goal.loop-count-preserved
loop-count-preserved c =
    let nodes = c.args.self.now in
    let e : c.loop-count.count ≡ suc (c.loop-count.count - 1) = omega arith in
    let within : c.loop-count.count - 1 < length c.loop-count.types.items = omega (arith, c.loop-count.invariant.long, c.loop-count.invariant.within) in
    record {
      stands = stands_before nodes c.loop-count.count (c.loop-count.count - 1) c.loop-count.last c.node-node.result e c.loop-count.invariant.stands c.node-node.ensures;
      long = rw length-set c.loop-count.invariant.long;
      within = omega (arith, c.loop-count.invariant.within);
      types = write_step nodes c.loop-count.count (c.loop-count.count - 1) c.loop-count.last c.node-node.result c.loop-count.types.items _ e c.loop-count.invariant.stands c.node-node.ensures within c.loop-count.invariant.types;
    }

pub returns : goal.returns
returns c = write_end c.args.self.now c.loop-count.count c.loop-count.last c.loop-count.types.items _ (omega arith) c.loop-count.invariant.types
