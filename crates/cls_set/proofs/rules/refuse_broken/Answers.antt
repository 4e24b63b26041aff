use Rattle.std.proofs.Common.{arith}
use Rattle.std.proofs.lemmas.Result.{err_from_is_err_and, MatchResult-weaker, on_ok_weaker}
use Rattle.cls_set.specs.declared.rules.ClassRule.TheVariants as class_rules
use Rattle.cls_order.specs.Building.{origins_of}
use Rattle.cls_set.proofs.Broken.{first_fault, five_before, four_before, three_before}
use Rattle.cls_set.proofs.rules.refuse_broken.Goals as goal

pub returns-in_err-refuse-4-clause-fault : goal.returns-in_err-refuse-4-clause-fault
returns-in_err-refuse-4-clause-fault c =
    let os = origins_of c.args.entries.now in
    let p = err_from_is_err_and c.from_residual-in_err-refuse-4.result c.from_residual-in_err-refuse-4.ensures.1 in
    rw (p.1, p.2) (first_fault os class_rules.RemoteMethod c.in_err-refuse-4.field-0.0 (omega arith) c.in_err-refuse-4.ensures.fault
    (three_before os c.in_ok-refuse.ensures.ok c.in_ok-refuse-2.ensures.ok c.in_ok-refuse-3.ensures.ok))

pub returns-clause-ok : goal.returns-clause-ok
returns-clause-ok c =
    on_ok_weaker c.refuse-5.result
    (λ k. five_before (origins_of c.args.entries.now) c.in_ok-refuse.ensures.ok c.in_ok-refuse-2.ensures.ok c.in_ok-refuse-3.ensures.ok c.in_ok-refuse-4.ensures.ok k) c.refuse-5.ensures.ok

pub returns-clause-fault : goal.returns-clause-fault
returns-clause-fault c =
    let os = origins_of c.args.entries.now in
    MatchResult-weaker c.refuse-5.result c.refuse-5.ensures.fault (λ x h. h) (λ e h. first_fault os class_rules.Override e (omega arith) h
    (four_before os c.in_ok-refuse.ensures.ok c.in_ok-refuse-2.ensures.ok c.in_ok-refuse-3.ensures.ok c.in_ok-refuse-4.ensures.ok))
