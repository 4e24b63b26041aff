use Rattle.std.proofs.Common.{◌<◌, suc, length, add-one, sym, arith}
use Rattle.ver_check.proofs.Flows.{came}
use Rattle.ver_check.proofs.body.BodyView.go_on.Goals as goal

pub returns-then-falls_through : goal.returns-then-falls_through
returns-then-falls_through c =
    let body = c.args.self.now in
    let inside : suc c.args.index < length body.insns = omega (arith, c.if-not-is_inside.false, c.insn_count-count.ensures) in
    came body c.args.index c.args.insn c.args.frame.now c.enter.new.frame c.enter.result (sym c.if-falls_through.ensures) inside (rw add-one at c.enter.ensures c.args.index)
