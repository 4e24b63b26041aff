use Rattle.std.proofs.Common.{◌≡◌, ◌-◌, ◌<◌, suc, length, arith}
use Rattle.ver_frames.proofs.Chains.{inside, stands_before}
use Rattle.ver_frames.proofs.ChainZips.{last_fails, last_passes, none_left, test_filled, within_filled, zip_at}
use Rattle.ver_frames.specs.Frames.{filled}
use Rattle.ver_frames.proofs.assignability.chain_assignable.Goals as goal

pub node-node-requires : goal.node-node-requires
node-node-requires c = inside c.args.nodes.now c.loop-count.count c.loop-count.last (omega arith) c.loop-count.invariant.stands

pub returns-then-not-assignable : goal.returns-then-not-assignable
returns-then-not-assignable c =
    let classes = c.args.classes.now in
    let count = c.loop-count.count in
    let types = filled c.args.asked.count c.args.given.now in
    let e : count ≡ suc (count - 1) = omega arith in
    let within : count - 1 < length types = within_filled c.args.asked.count (count - 1) c.args.given.now (omega (arith, c.loop-count.invariant.within)) in
    let here = zip_at classes types c.args.nodes.now count (count - 1) c.loop-count.last c.node-node.result e c.loop-count.invariant.stands c.node-node.ensures within in
    last_fails _ _ _ _ c.assignable.result c.loop-count.invariant.first here
    (test_filled classes c.args.asked.count (count - 1) c.args.given.now c.type_at.result c.node-node.result.kind c.assignable.result c.type_at.ensures c.assignable.ensures.decides) c.if-not-assignable.true

pub loop-count-preserved : goal.loop-count-preserved
loop-count-preserved c =
    let classes = c.args.classes.now in
    let count = c.loop-count.count in
    let types = filled c.args.asked.count c.args.given.now in
    let e : count ≡ suc (count - 1) = omega arith in
    let within : count - 1 < length types = within_filled c.args.asked.count (count - 1) c.args.given.now (omega (arith, c.loop-count.invariant.within)) in
    let here = zip_at classes types c.args.nodes.now count (count - 1) c.loop-count.last c.node-node.result e c.loop-count.invariant.stands c.node-node.ensures within in
    record {
      stands = stands_before c.args.nodes.now count (count - 1) c.loop-count.last c.node-node.result e c.loop-count.invariant.stands c.node-node.ensures;
      within = omega (arith, c.loop-count.invariant.within);
      first = last_passes _ _ _ _ c.assignable.result c.loop-count.invariant.first here
          (test_filled classes c.args.asked.count (count - 1) c.args.given.now c.type_at.result c.node-node.result.kind c.assignable.result c.type_at.ensures c.assignable.ensures.decides) c.if-not-assignable.false;
    }

pub returns : goal.returns
returns c =
    none_left c.args.classes.now (filled c.args.asked.count c.args.given.now) c.args.nodes.now c.loop-count.count c.loop-count.last _ (omega arith) c.loop-count.invariant.first
