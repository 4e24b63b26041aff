use Rattle.std.proofs.Common.{◌≡◌, ℕ, suc, ◌+◌, ◌-◌, ◌<◌, length, drop, map, reverse, refl, ap, sym, subst, ◌∙◌, arith, Some}
use Rattle.std.specs.Prelude.{slice_get}
use Rattle.std.proofs.lemmas.List.{length-map, length-reverse}
use Rattle.vm_act.specs.Crossing.{Crosses, value_at, values_of}
use Rattle.vm_act.proofs.Passing.{copies_more, copies_none, crosses_at, taken_at}
use Rattle.vm_code.specs.Parameters.{parameter_of}
use Rattle.vm_code.proofs.passing.arguments.Goals as goal

pub loop-index-init : goal.loop-index-init
loop-index-init c =
    copies_none c.args.machine.now.references c.args.machine.now.heap.cells (length c.args.types.now - 0) (reverse (map parameter_of c.args.types.now)) c.args.machine.now.stack.frame.operands
    (omega (arith, length-reverse (map parameter_of c.args.types.now), length-map c.args.types.now parameter_of))
    ∙ ap (λ (vs : _). Some (Some vs)) (sym c.in_ok-values.ensures.items)

pub argument-requires : goal.argument-requires
argument-requires c =
    let within : c.loop-index.index < length c.args.types.now = omega (arith, c.loop-index-test.true, c.len-index-end.ensures.count) in
    let there : slice_get (reverse (map parameter_of c.args.types.now)) (length c.args.types.now - 1 - c.loop-index.index) ≡ Some c.parameter.result =
    taken_at parameter_of c.args.types.now c.loop-index.index (length c.args.types.now - 1 - c.loop-index.index) _ within refl
    ∙ ap (λ (p : _). Some p) (ap parameter_of (sym c.index.ensures) ∙ sym c.parameter.ensures) in
    subst (λ (n : ℕ). Crosses (value_at c.parameter.result (n - 1 - c.loop-index.index) c.args.machine.now)) (sym c.len-in-loop-index.ensures.count)
    (crosses_at c.args.machine.now.references c.args.machine.now.heap.cells (length c.args.types.now - 1 - c.loop-index.index) c.parameter.result (reverse (map parameter_of c.args.types.now)) c.args.machine.now.stack.frame.operands c.requires there)

pub loop-index-preserved : goal.loop-index-preserved
loop-index-preserved c =
    let within : c.loop-index.index < length c.args.types.now = omega (arith, c.loop-index-test.true, c.len-index-end.ensures.count) in
    let next : length c.args.types.now - c.loop-index.index ≡ suc (length c.args.types.now - 1 - c.loop-index.index) = omega arith in
    let here : length c.args.types.now - 1 - c.loop-index.index ≡ length c.args.types.now - (c.loop-index.index + 1) = omega arith in
    let there : slice_get (reverse (map parameter_of c.args.types.now)) (length c.args.types.now - 1 - c.loop-index.index) ≡ Some c.parameter.result =
    taken_at parameter_of c.args.types.now c.loop-index.index (length c.args.types.now - 1 - c.loop-index.index) _ within refl
    ∙ ap (λ (p : _). Some p) (ap parameter_of (sym c.index.ensures) ∙ sym c.parameter.ensures) in
    subst (λ (k : ℕ). values_of (drop k (reverse (map parameter_of c.args.types.now))) c.args.machine.now.references c.args.machine.now.heap.cells (drop k c.args.machine.now.stack.frame.operands) ≡ Some (Some c.push.new.self.items)) here
    (copies_more c.args.machine.now.references c.args.machine.now.heap.cells (length c.args.types.now - 1 - c.loop-index.index) c.parameter.result (reverse (map parameter_of c.args.types.now))
    c.args.machine.now.stack.frame.operands c.in_ok-argument.field-0 c.loop-index.values.items c.requires there (ap (λ (n : ℕ). value_at c.parameter.result (n - 1 - c.loop-index.index) c.args.machine.now) (sym c.len-in-loop-index.ensures.count) ∙ c.in_ok-argument.ensures)
    (subst (λ (k : ℕ). values_of (drop k (reverse (map parameter_of c.args.types.now))) c.args.machine.now.references c.args.machine.now.heap.cells (drop k c.args.machine.now.stack.frame.operands) ≡ Some (Some c.loop-index.values.items)) next c.loop-index.invariant)
    ∙ ap (λ (vs : _). Some (Some vs)) (sym c.in_ok-push.ensures.items))
