use Rattle.std.proofs.Common.{ℕ, get_or, refl, rules}
use Rattle.std.proofs.lemmas.Result.{err_from_is_err_and}
use Rattle.cf_text.proofs.Verdicts.{of_each-goes_on, of_each-fails, of_each-end}
use Rattle.cf_layout.specs.declared.items.Item.{Item}
use Rattle.cf_reader.specs.Checks.{class_index_demands}
use Rattle.cf_reader.proofs.check.check_each_interface.Goals as goal

-- what stands past the end of a row of items
abbrev nowhere : Item
nowhere = record { at = 0; value = 0 }

pub returns-in_err-check_class_index : goal.returns-in_err-check_class_index
returns-in_err-check_class_index c =
    let p = err_from_is_err_and c.from_residual.result c.from_residual.ensures.1 in
    let item = get_or c.args.interfaces.now c.loop-interface.interface-index nowhere in
    rw (p.1, p.2) (of_each-fails (λ (index : ℕ) (interface : Item). class_index_demands c.args.pool.now interface) c.args.interfaces.now c.loop-interface.interface-index nowhere item (search rules) refl c.loop-interface.invariant c.in_err-check_class_index.field-0.0 (search rules))

pub loop-interface-preserved : goal.loop-interface-preserved
loop-interface-preserved c =
    let item = get_or c.args.interfaces.now c.loop-interface.interface-index nowhere in
    of_each-goes_on (λ (index : ℕ) (interface : Item). class_index_demands c.args.pool.now interface) c.args.interfaces.now c.loop-interface.interface-index nowhere item (search rules) refl c.loop-interface.invariant (search rules)

pub returns : goal.returns
returns c =
    of_each-end (λ (index : ℕ) (interface : Item). class_index_demands c.args.pool.now interface) c.args.interfaces.now c.loop-interface.interface-index (search rules) c.loop-interface.invariant
