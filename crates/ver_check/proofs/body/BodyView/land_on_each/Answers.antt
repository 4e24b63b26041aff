use Rattle.std.proofs.Common.{◌<◌, ℕ, List, length, get_or, add-one, subst, sym, take, arith}
use Rattle.std.specs.List.{AllByRecursion}
use Rattle.std.proofs.lemmas.Result.{err_from_is_err_and}
use Rattle.ver_check.proofs.Makings.{one_more_lands, stops_at}
use Rattle.ver_check.specs.Typing.{Lands}
use Rattle.ver_check.proofs.body.BodyView.land_on_each.Goals as goal

pub returns-in_err-land : goal.returns-in_err-land
returns-in_err-land c = λ from.
    let p = err_from_is_err_and c.from_residual.result c.from_residual.ensures.1 in
    rw (p.1, p.2) (stops_at c.args.self.now from c.args.frame.now c.in_err-land.field-0.0 c.args.targets.now c.loop-target.target-index 0 (omega arith) c.loop-target.invariant (c.in_err-land.ensures from))

pub loop-target-preserved : goal.loop-target-preserved
loop-target-preserved c =
    let body = c.args.self.now in
    let after = c.args.frame.now in
    let k = c.loop-target.target-index in
    subst (λ (n : ℕ). AllByRecursion (Lands body after) (take n c.args.targets.now)) (sym (add-one k))
    (one_more_lands body 0 after c.args.targets.now k 0 (omega arith) c.loop-target.invariant (c.in_ok-land.ensures 0))
