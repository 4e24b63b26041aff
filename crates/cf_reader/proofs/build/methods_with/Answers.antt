use Rattle.std.proofs.Common.{◌≡◌, List, length, subst, arith, sym, rules}
use Rattle.std.specs.Prelude.{IfOk}
use Rattle.std.proofs.lemmas.Result.{err_from_is_err_and}
use Rattle.cf_layout.specs.declared.items.Item.{Item}
use Rattle.cf_reader.specs.declared.class_file.Method.{Method}
use Rattle.cf_reader.specs.Builds.{method_from}
use Rattle.cf_reader.proofs.Each.{each-goes_on, each-fails, each-end, each-long}
use Rattle.cf_reader.proofs.build.methods_with.Goals as goal

-- what stands past the end of a row of items
abbrev nowhere : Item
nowhere = record { at = 0; value = 0 }

pub returns-in_err-method : goal.returns-in_err-method
returns-in_err-method c =
    let p = err_from_is_err_and c.from_residual-in_err-method.result c.from_residual-in_err-method.ensures.1 in
    rw (p.1, p.2) (each-fails (method_from c.args.bytes.now c.args.pool.now) c.args.items.now c.loop-item.methods.items c.loop-item.item-index c.item-item.result c.item-item.result (search rules) (sym c.item-item.is) c.loop-item.invariant.0 c.in_err-method.field-0.0 (search rules))

pub loop-item-preserved : goal.loop-item-preserved
loop-item-preserved c =
    (rw c.in_ok-push.ensures.items (each-goes_on (method_from c.args.bytes.now c.args.pool.now) c.args.items.now c.loop-item.methods.items c.loop-item.item-index c.item-item.result c.item-item.result (search rules) (sym c.item-item.is) c.loop-item.invariant.0 c.in_ok-method.method (search rules)), c.method_from.ensures.packed)

pub returns : goal.returns
returns c = rw c.new-2.ensures (each-end (method_from c.args.bytes.now c.args.pool.now) c.args.items.now c.loop-item.methods.items c.loop-item.item-index (search rules) c.loop-item.invariant.0)

pub new-requires-2 : goal.new-requires-2
new-requires-2 c =
    let read = (method_from c.args.bytes.now c.args.pool.now) in
    let all = each-end read c.args.items.now c.loop-item.methods.items c.loop-item.item-index (search rules) c.loop-item.invariant.0 in
    let long : length c.loop-item.methods.items ≡ length c.args.items.now = subst (λ r. IfOk {T = List Method} r (λ ys. length ys ≡ length c.args.items.now)) all (each-long read c.args.items.now) in
    let few = c.requires.few in
    omega (arith, long, few)
