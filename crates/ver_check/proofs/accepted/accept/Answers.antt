use Rattle.std.proofs.Common.{◌≡◌}
use Rattle.std.proofs.lemmas.Result.{err_from_is_err_and}
use Rattle.ver_check.proofs.Faults.{set_unsafe}
use Rattle.ver_check.specs.Acceptance.{AreSafe}
use Rattle.ver_check.proofs.accepted.accept.Goals as goal

pub returns-in_err-check_all-clause-exact : goal.returns-in_err-check_all-clause-exact
returns-in_err-check_all-clause-exact c =
    let p = err_from_is_err_and c.from_residual.result c.from_residual.ensures.1 in
    rw (p.1, p.2) (set_unsafe (λ accepted. (accepted ≡ c.args.linked) × AreSafe c.args.linked) c.args.linked c.in_err-check_all.field-0.0 c.in_err-check_all.ensures.fault)
