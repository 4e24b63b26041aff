use Rattle.std.proofs.Common.{◌≡◌, ℕ, List, length, subst, arith, get_or, refl, rules}
use Rattle.std.specs.Prelude.{IfOk}
use Rattle.std.proofs.lemmas.Result.{err_from_is_err_and}
use Rattle.cf_layout.specs.declared.items.Item.{Item}
use Rattle.cf_reader.specs.Builds.{class_name_of}
use Rattle.cf_reader.proofs.Each.{each-goes_on, each-fails, each-end, each-long}
use Rattle.cf_reader.proofs.build.interfaces_from.Goals as goal

-- what stands past the end of a row of items
abbrev nowhere : Item
nowhere = record { at = 0; value = 0 }

pub returns-in_err-name : goal.returns-in_err-name
returns-in_err-name c =
    let p = err_from_is_err_and c.from_residual-in_err-name.result c.from_residual-in_err-name.ensures.1 in
    rw (p.1, p.2) (each-fails (class_name_of c.args.pool.now) c.args.items.now c.loop-item.names.items c.loop-item.item-index nowhere (get_or c.args.items.now c.loop-item.item-index nowhere) (search rules) refl c.loop-item.invariant c.in_err-name.field-0.0 (search rules))

pub loop-item-preserved : goal.loop-item-preserved
loop-item-preserved c =
    rw c.in_ok-push.ensures.items (each-goes_on (class_name_of c.args.pool.now) c.args.items.now c.loop-item.names.items c.loop-item.item-index nowhere (get_or c.args.items.now c.loop-item.item-index nowhere) (search rules) refl c.loop-item.invariant c.in_ok-name.name (search rules))

pub returns : goal.returns
returns c = rw c.new.ensures (each-end (class_name_of c.args.pool.now) c.args.items.now c.loop-item.names.items c.loop-item.item-index (search rules) c.loop-item.invariant)

pub new-requires : goal.new-requires
new-requires c =
    let read = (class_name_of c.args.pool.now) in
    let all = each-end read c.args.items.now c.loop-item.names.items c.loop-item.item-index (search rules) c.loop-item.invariant in
    let long : length c.loop-item.names.items ≡ length c.args.items.now = subst (λ r. IfOk {T = List (List ℕ)} r (λ ys. length ys ≡ length c.args.items.now)) all (each-long read c.args.items.now) in
    let few = c.requires in
    omega (arith, long, few)
