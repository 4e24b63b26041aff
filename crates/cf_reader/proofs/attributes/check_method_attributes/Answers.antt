use Rattle.std.proofs.Common.{rules, codes}
use Rattle.std.proofs.lemmas.Result.{err_from_is_err_and}
use Rattle.cf_layout.specs.ReadInsides.{insides_of}
use Rattle.cf_reader.specs.Checks.{is_named, code_demands, method_attribute_demands}
use Rattle.cf_reader.proofs.AttributeSteps.{attributes-go_on, attributes-fail, attributes-end}
use Rattle.cf_reader.proofs.attributes.check_method_attributes.Goals as goal

pub returns-in_err-check_method_attribute : goal.returns-in_err-check_method_attribute
unfolding method_attribute_demands
returns-in_err-check_method_attribute c =
    let p = err_from_is_err_and c.from_residual.result c.from_residual.ensures.1 in
    let l = c.loop-attribute in
    rw (p.1, p.2) (attributes-fail c.args.pool.now (is_named c.args.pool.now (codes "Code")) (code_demands (insides_of c.args.bytes.now) c.args.pool.now) c.args.attributes.now l.seen l.attribute-index (search rules) l.invariant c.in_err-check_method_attribute.field-0.0 (search rules))

pub loop-attribute-preserved : goal.loop-attribute-preserved
loop-attribute-preserved c =
    let l = c.loop-attribute in
    let next = attributes-go_on c.args.pool.now (is_named c.args.pool.now (codes "Code")) (code_demands (insides_of c.args.bytes.now) c.args.pool.now) c.args.attributes.now l.seen l.attribute-index (search rules) l.invariant (search rules) in
    rw c.is_named-seen.ensures next

pub returns : goal.returns
unfolding method_attribute_demands
returns c =
    attributes-end c.args.pool.now (is_named c.args.pool.now (codes "Code")) (code_demands (insides_of c.args.bytes.now) c.args.pool.now) c.args.attributes.now c.loop-attribute.seen c.loop-attribute.attribute-index (search rules) c.loop-attribute.invariant
