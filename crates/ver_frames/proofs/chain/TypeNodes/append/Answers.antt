use Rattle.std.proofs.Common.{◌≡◌, ◌+◌, length, ap, add-one, arith}
use Rattle.ver_frames.proofs.Chains.{appended_at, keeps_all, keeps_more}
use Rattle.ver_frames.specs.declared.chain.TypeNode.{TypeNode}
use Rattle.std.specs.Prelude.{List}
use Rattle.ver_frames.proofs.chain.TypeNodes.append.Goals as goal

pub returns-in_err-push-clause-kept : goal.returns-in_err-push-clause-kept
returns-in_err-push-clause-kept c = rw (c.in_err-push.ensures.items, c.self.view_is) (keeps_all c.args.self.now)

pub returns-clause-types : goal.returns-clause-types
returns-clause-types c =
    let long : c.len-last.result ≡ length c.args.self.now = omega (arith, c.len-last.ensures, c.self.inside.nodes.ok.0, ap (λ (ns : List TypeNode). length ns) c.self.view_is) in
    let more = appended_at c.args.self.now c.args.chain c.args.kind c.len-last.result (c.args.chain.count + 1) c.requires.stands long (add-one c.args.chain.count) in
    rw (c.in_ok-push.ensures.items, c.self.view_is) more.1

pub returns-clause-stands : goal.returns-clause-stands
returns-clause-stands c =
    let long : c.len-last.result ≡ length c.args.self.now = omega (arith, c.len-last.ensures, c.self.inside.nodes.ok.0, ap (λ (ns : List TypeNode). length ns) c.self.view_is) in
    let more = appended_at c.args.self.now c.args.chain c.args.kind c.len-last.result (c.args.chain.count + 1) c.requires.stands long (add-one c.args.chain.count) in
    rw (c.in_ok-push.ensures.items, c.self.view_is) more.0

pub returns-clause-kept : goal.returns-clause-kept
returns-clause-kept c = rw (c.in_ok-push.ensures.items, c.self.view_is) (keeps_more c.args.self.now _)
