use Rattle.std.proofs.Common.{◌≡◌, ◌-◌, suc, arith}
use Rattle.ver_frames.proofs.Chains.{inside, shorten_end, shorten_step, stands_before}
use Rattle.ver_frames.proofs.chain.TypeNodes.shorten.Goals as goal

pub node-last-requires : goal.node-last-requires
node-last-requires c = inside c.args.self.now c.loop-count.count c.loop-count.last (omega arith) c.loop-count.invariant.stands

pub loop-count-preserved : goal.loop-count-preserved
loop-count-preserved c =
    let nodes = c.args.self.now in
    let e : c.loop-count.count ≡ suc (c.loop-count.count - 1) = omega arith in
    record {
      stands = stands_before nodes c.loop-count.count (c.loop-count.count - 1) c.loop-count.last c.node-last.result e c.loop-count.invariant.stands c.node-last.ensures;
      within = omega arith;
      types = shorten_step nodes c.loop-count.count (c.loop-count.count - 1) c.loop-count.last c.args.keeps c.node-last.result _ e (omega arith) c.loop-count.invariant.stands c.node-last.ensures c.loop-count.invariant.types;
    }

pub returns-clause-types : goal.returns-clause-types
returns-clause-types c =
    shorten_end c.args.self.now c.loop-count.count c.loop-count.last c.args.keeps _ (omega (arith, c.loop-count.invariant.within)) c.loop-count.invariant.stands c.loop-count.invariant.types
