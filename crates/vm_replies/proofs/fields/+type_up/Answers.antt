use Rattle.std.proofs.Common.{arith}
use Rattle.vm_replies.proofs.Types.{count_alone, count_own, found_above, found_alone, found_own, if_err, if_ok, none_up, nothing_up}
use Rattle.vm_replies.proofs.fields.+type_up.Goals as goal

pub returns-then-most-eq0-clause-count : goal.returns-then-most-eq0-clause-count
returns-then-most-eq0-clause-count t c = none_up c.args.set.now c.args.most c.args.class c.if-most-eq0.true

pub returns-then-from-len-clause-count : goal.returns-then-from-len-clause-count
returns-then-from-len-clause-count t c =
    nothing_up c.args.set.now c.args.most c.args.class (omega (arith, c.if-from-len.true, c.len.ensures.count, c.from.ensures))

pub returns-in-Ok-clause-found : goal.returns-in-Ok-clause-found
returns-in-Ok-clause-found t c =
    found_above c.args.set.now c.args.most c.args.class c.class-entry.result.now c.as_slice-fields.result.now c.if-most-eq0.false c.class-entry.ensures c.as_slice-fields.ensures.items
    c.in-Some.superclass c.args.slot c.in-Ok.kind c.in-Some.is c.in-Ok.ensures.found

pub returns-in-Err-clause-found : goal.returns-in-Err-clause-found
returns-in-Err-clause-found t c =
    if_ok c.type_after.result _ _ (λ type found.
    found_own c.args.set.now c.args.most c.args.class c.class-entry.result.now c.as_slice-fields.result.now c.if-most-eq0.false c.class-entry.ensures c.as_slice-fields.ensures.items
    c.in-Some.superclass c.args.slot c.in-Err.above type c.in-Some.is c.in-Err.ensures.count c.in-Err.ensures.past found) c.type_after.ensures.found

pub returns-in-Err-clause-count : goal.returns-in-Err-clause-count
returns-in-Err-clause-count t c =
    if_err c.type_after.result _ _ (λ all sum.
    count_own c.args.set.now c.args.most c.args.class c.class-entry.result.now c.as_slice-fields.result.now c.if-most-eq0.false c.class-entry.ensures c.as_slice-fields.ensures.items
    c.in-Some.superclass c.in-Err.above all c.in-Some.is c.in-Err.ensures.count sum) c.type_after.ensures.count

pub returns-in-None-clause-found : goal.returns-in-None-clause-found
returns-in-None-clause-found t c =
    if_ok c.type_after-in-None.result _ _ (λ type found.
    found_alone c.args.set.now c.args.most c.args.class c.class-entry.result.now c.as_slice-fields.result.now c.if-most-eq0.false c.class-entry.ensures c.as_slice-fields.ensures.items
    c.args.slot type c.in-None.is found) c.type_after-in-None.ensures.found

pub returns-in-None-clause-count : goal.returns-in-None-clause-count
returns-in-None-clause-count t c =
    if_err c.type_after-in-None.result _ _ (λ all sum.
    count_alone c.args.set.now c.args.most c.args.class c.class-entry.result.now c.as_slice-fields.result.now c.if-most-eq0.false c.class-entry.ensures c.as_slice-fields.ensures.items
    all c.in-None.is sum) c.type_after-in-None.ensures.count
