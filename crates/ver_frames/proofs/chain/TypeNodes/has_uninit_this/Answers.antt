use Rattle.std.proofs.Common.{◌≡◌, ◌-◌, suc, sym, ◌∙◌, arith}
use Rattle.ver_frames.proofs.Chains.{any_found, any_none, any_step, inside, stands_before}
use Rattle.ver_frames.proofs.chain.TypeNodes.has_uninit_this.Goals as goal

pub node-node-requires : goal.node-node-requires
node-node-requires c = inside c.args.self.now c.loop-count.count c.loop-count.last (omega arith) c.loop-count.invariant.stands

pub returns-then-is_uninit_this : goal.returns-then-is_uninit_this
returns-then-is_uninit_this c =
    let e : c.loop-count.count ≡ suc (c.loop-count.count - 1) = omega arith in
    any_found c.args.self.now c.loop-count.count (c.loop-count.count - 1) c.loop-count.last c.node-node.result _ e c.node-node.ensures (sym c.is_uninit_this.ensures ∙ c.if-is_uninit_this.true) c.loop-count.invariant.any

pub loop-count-preserved : goal.loop-count-preserved
loop-count-preserved c =
    let nodes = c.args.self.now in
    let e : c.loop-count.count ≡ suc (c.loop-count.count - 1) = omega arith in
    record {
      stands = stands_before nodes c.loop-count.count (c.loop-count.count - 1) c.loop-count.last c.node-node.result e c.loop-count.invariant.stands c.node-node.ensures;
      any = any_step nodes c.loop-count.count (c.loop-count.count - 1) c.loop-count.last c.node-node.result _ e c.node-node.ensures (sym c.is_uninit_this.ensures ∙ c.if-is_uninit_this.false) c.loop-count.invariant.any;
    }

pub returns : goal.returns
returns c = any_none c.args.self.now c.loop-count.count c.loop-count.last _ (omega arith) c.loop-count.invariant.any
