use Rattle.std.proofs.Common.{arith, rules}
use Rattle.std.proofs.lemmas.Grind.{common_steps}
use Rattle.std.proofs.lemmas.Result.{err_from_is_err_and}
use Rattle.cf_text.specs.Types.{parameters_of}
use Rattle.cf_text.proofs.ParameterSteps.{parameters-close, parameters-go_on, parameters-fail, parameters-none}
use Rattle.cf_text.proofs.descriptors.parameters.Goals as goal

pub returns-then-begins_with : goal.returns-then-begins_with
returns-then-begins_with c =
    let closed = parameters-close c.loop.types.items c.args.most c.loop.counter c.args.at c.loop.rest (parameters_of c.args.most c.args.at c.args.rest.now) c.loop.invariant c.loop-test.true (search rules) in
    grind (arith, common_steps, closed)

pub returns-in_err-parameter : goal.returns-in_err-parameter
returns-in_err-parameter c =
    let p = err_from_is_err_and c.from_residual.result c.from_residual.ensures.1 in
    rw (p.1, p.2) (parameters-fail c.loop.types.items c.args.most c.loop.counter c.args.at c.loop.rest _ c.loop.invariant c.in_err-parameter.field-0.0 c.loop-test.true (search rules) c.in_err-parameter.ensures)

pub loop-preserved : goal.loop-preserved
loop-preserved c =
    rw c.in_ok-push.ensures.items (parameters-go_on c.loop.types.items c.args.most c.loop.counter c.args.at c.loop.rest _ c.loop.invariant c.in_ok-parameter.parameter c.known_type.new.rest c.loop-test.true (search rules) c.in_ok-parameter.ensures)

pub returns : goal.returns
returns c =
    rw c.malformed.ensures (parameters-none c.loop.types.items c.args.most c.loop.counter c.args.at c.loop.rest (parameters_of c.args.most c.args.at c.args.rest.now) c.loop.invariant c.loop-test.false)
