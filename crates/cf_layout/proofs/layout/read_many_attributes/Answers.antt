use Rattle.std.proofs.Common.{◌≡◌, ℕ, List, length, subst, arith}
use Rattle.std.specs.Prelude.{IfOk}
use Rattle.std.proofs.lemmas.Result.{err_from_is_err_and}
use Rattle.cf_text.specs.Reading.{many}
use Rattle.cf_text.proofs.Loops.{many-goes_on, many-fails, many-end, many-long}
use Rattle.cf_layout.specs.declared.items.Attribute.{Attribute}
use Rattle.cf_layout.specs.Layouts.{attribute_at}
use Rattle.cf_layout.proofs.layout.read_many_attributes.Goals as goal

pub returns-in_err-attribute : goal.returns-in_err-attribute
returns-in_err-attribute c =
    let p = err_from_is_err_and c.from_residual.result c.from_residual.ensures.1 in
    let read = attribute_at c.args.bytes.now in
    rw (p.1, p.2) (many-fails read c.loop.attributes.items c.args.count c.loop.counter c.loop.position (many read c.args.count c.args.at) c.loop.invariant c.in_err-attribute.field-0.0 c.loop-test.true c.in_err-attribute.ensures)

pub loop-preserved : goal.loop-preserved
loop-preserved c =
    let read = attribute_at c.args.bytes.now in
    rw c.in_ok-push.ensures.items (many-goes_on read c.loop.attributes.items c.args.count c.loop.counter c.loop.position (many read c.args.count c.args.at) c.loop.invariant c.in_ok-attribute.attribute c.in_ok-attribute.after c.loop-test.true c.in_ok-attribute.ensures)

pub returns : goal.returns
returns c =
    let read = attribute_at c.args.bytes.now in
    rw c.new.ensures (many-end read c.loop.attributes.items c.args.count c.loop.counter c.loop.position (many read c.args.count c.args.at) c.loop.invariant c.loop-test.false)

pub new-requires : goal.new-requires
new-requires c =
    let read = attribute_at c.args.bytes.now in
    let all = many-end read c.loop.attributes.items c.args.count c.loop.counter c.loop.position (many read c.args.count c.args.at) c.loop.invariant c.loop-test.false in
    let long : length c.loop.attributes.items ≡ c.args.count = subst (λ r. IfOk {T = List Attribute × ℕ} r (λ x. length x.0 ≡ c.args.count)) all (many-long read c.args.count c.args.at) in
    omega (arith, long)
