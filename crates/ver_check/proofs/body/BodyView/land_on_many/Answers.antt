use Rattle.std.proofs.Common.{◌<◌, ℕ, List, length, get_or, add-one, subst, sym, take, arith}
use Rattle.std.specs.List.{AllByRecursion}
use Rattle.std.proofs.lemmas.Result.{err_from_is_err_and}
use Rattle.ver_check.proofs.Landings.{none_marked}
use Rattle.ver_check.specs.Landed.{LandsOnMarked}
use Rattle.ver_check.proofs.Makings.{one_more_lands, stops_at}
use Rattle.ver_check.specs.Typing.{Lands}
use Rattle.ver_check.proofs.body.BodyView.land_on_many.Goals as goal

pub loop-target-init : goal.loop-target-init
loop-target-init c = record {
  lands = tt;
  marked = subst (LandsOnMarked c.args.self.now c.args.frame.now) (sym c.in_ok-marks.ensures) (none_marked c.args.self.now c.args.frame.now _);
}

pub returns-in_err-land_once : goal.returns-in_err-land_once
returns-in_err-land_once c = λ from.
    let p = err_from_is_err_and c.from_residual-in_err-land_once.result c.from_residual-in_err-land_once.ensures.1 in
    rw (p.1, p.2) (stops_at c.args.self.now from c.args.frame.now c.in_err-land_once.field-0.0 c.args.targets.now c.loop-target.target-index 0 (omega arith) c.loop-target.invariant.lands (c.in_err-land_once.ensures.settles from))

pub loop-target-preserved : goal.loop-target-preserved
loop-target-preserved c =
    let body = c.args.self.now in
    let after = c.args.frame.now in
    let k = c.loop-target.target-index in
    record {
      lands = subst (λ (n : ℕ). AllByRecursion (Lands body after) (take n c.args.targets.now)) (sym (add-one k))
          (one_more_lands body 0 after c.args.targets.now k 0 (omega arith) c.loop-target.invariant.lands (c.in_ok-land_once.ensures.settles 0));
      marked = c.in_ok-land_once.ensures.marked;
    }
