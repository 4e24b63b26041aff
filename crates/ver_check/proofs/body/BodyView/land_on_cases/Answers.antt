use Rattle.std.proofs.lemmas.Result.{err_from_is_err_and}
use Rattle.ver_check.proofs.Makings.{lands_first, stops_first}
use Rattle.ver_check.proofs.body.BodyView.land_on_cases.Goals as goal

pub returns-in_err-land : goal.returns-in_err-land
returns-in_err-land c = λ from.
    let p = err_from_is_err_and c.from_residual.result c.from_residual.ensures.1 in
    rw (p.1, p.2) (stops_first c.args.self.now from c.args.frame.now c.in_err-land.field-0.0 c.args.default c.args.targets.now (c.in_err-land.ensures from))

pub returns : goal.returns
returns c = λ from.
    lands_first c.args.self.now from c.args.frame.now c.args.default c.args.targets.now c.land_on_many.result (c.in_ok-land.ensures from) (c.land_on_many.ensures from)
