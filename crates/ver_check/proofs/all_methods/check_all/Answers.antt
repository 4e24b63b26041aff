use Rattle.std.proofs.Common.{arith}
use Rattle.std.proofs.lemmas.Result.{err_from_is_err_and}
use Rattle.ver_check.proofs.Accepts.{first_fault}
use Rattle.ver_check.specs.Acceptance.{AreSafe}
use Rattle.ver_check.proofs.all_methods.check_all.Goals as goal

pub returns-in_err-check_at-clause-fault : goal.returns-in_err-check_at-clause-fault
returns-in_err-check_at-clause-fault c =
    let p = err_from_is_err_and c.from_residual.result c.from_residual.ensures.1 in
    rw (p.1, p.2) (first_fault c.in_err-check_at.field-0.0 c.args.linked.now c.loop-index.index (omega arith) c.loop-index.invariant c.in_err-check_at.ensures.fault)

pub returns-clause-ok : goal.returns-clause-ok
unfolding AreSafe
returns-clause-ok c = λ index inside. c.loop-index.invariant index (omega arith)
