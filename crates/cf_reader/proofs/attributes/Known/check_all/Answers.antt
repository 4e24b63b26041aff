use Rattle.std.proofs.Common.{rules}
use Rattle.std.proofs.lemmas.Result.{err_from_is_err_and}
use Rattle.cf_layout.specs.ReadInsides.{insides_of}
use Rattle.cf_reader.specs.Checks.{is_known, known_demands, plain_demands}
use Rattle.cf_reader.proofs.AttributeSteps.{attributes-go_on, attributes-fail, attributes-end}
use Rattle.cf_reader.proofs.attributes.Known.check_all.Goals as goal

pub returns-in_err-check_one : goal.returns-in_err-check_one
unfolding plain_demands
returns-in_err-check_one c =
    let p = err_from_is_err_and c.from_residual.result c.from_residual.ensures.1 in
    let l = c.loop-attribute in
    rw (p.1, p.2) (attributes-fail c.args.pool.now (is_known c.args.pool.now c.args.self) (known_demands (insides_of c.args.bytes.now) c.args.pool.now c.args.self) c.args.attributes.now l.seen l.attribute-index (search rules) l.invariant c.in_err-check_one.field-0.0 (search rules))

pub loop-attribute-preserved : goal.loop-attribute-preserved
loop-attribute-preserved c =
    let l = c.loop-attribute in
    let next = attributes-go_on c.args.pool.now (is_known c.args.pool.now c.args.self) (known_demands (insides_of c.args.bytes.now) c.args.pool.now c.args.self) c.args.attributes.now l.seen l.attribute-index (search rules) l.invariant (search rules) in
    rw c.is-seen.ensures next

pub returns : goal.returns
unfolding plain_demands
returns c =
    attributes-end c.args.pool.now (is_known c.args.pool.now c.args.self) (known_demands (insides_of c.args.bytes.now) c.args.pool.now c.args.self) c.args.attributes.now c.loop-attribute.seen c.loop-attribute.attribute-index (search rules) c.loop-attribute.invariant
