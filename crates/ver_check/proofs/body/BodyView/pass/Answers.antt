use Rattle.std.proofs.lemmas.Result.{err_from_is_err_and}
use Rattle.ver_check.proofs.Flows.{not_landed, went}
use Rattle.ver_check.proofs.body.BodyView.pass.Goals as goal

pub returns-in_err-land_on_all : goal.returns-in_err-land_on_all
returns-in_err-land_on_all c =
    let p = err_from_is_err_and c.from_residual-in_err-land_on_all.result c.from_residual-in_err-land_on_all.ensures.1 in
    rw (p.1, p.2) (not_landed c.args.self.now c.args.index c.args.insn c.args.frame.now c.apply.new.frame c.apply.new.frame c.in_err-land_on_all.field-0.0 (rw c.offset_at.ensures at c.in_ok-apply.ensures) (c.in_err-land_on_all.ensures c.args.index))

pub returns : goal.returns
returns c =
    went c.args.self.now c.args.index c.args.insn c.args.frame.now c.apply.new.frame c.go_on.new.frame c.go_on.result (rw c.offset_at.ensures at c.in_ok-apply.ensures) (c.in_ok-land_on_all.ensures 0) c.go_on.ensures
