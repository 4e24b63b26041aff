use Rattle.std.proofs.Common.{◌≡◌, ℕ, suc, ◌+◌, ◌-◌, ◌<◌, length, map, reverse, refl, ap, sym, subst, ◌∙◌, arith, Some, None}
use Rattle.std.specs.Prelude.{slice_get, option_map, IsSome}
use Rattle.std.proofs.lemmas.List.{length-map, length-reverse}
use Rattle.vm_act.specs.Crossing.{value_at, value_bytes}
use Rattle.vm_act.proofs.Passing.{Leaves, at_depth, leaves_all, leaves_more, leaves_none, leaves_whole, taken_at}
use Rattle.vm_code.specs.Parameters.{parameter_of}
use Rattle.vm_code.proofs.passing.crosses.Goals as goal

pub loop-index-init : goal.loop-index-init
loop-index-init c =
    leaves_all c.args.machine.now.references c.args.machine.now.heap.cells (length c.args.types.now - 0) (reverse (map parameter_of c.args.types.now)) c.args.machine.now.stack.frame.operands
    (omega (arith, length-reverse (map parameter_of c.args.types.now), length-map c.args.types.now parameter_of))

pub argument_bytes-requires : goal.argument_bytes-requires
argument_bytes-requires c =
    let within : c.loop-index.index < length c.args.types.now = omega (arith, c.loop-index-test.true, c.len-index-end.ensures.count) in
    let there : slice_get (reverse (map parameter_of c.args.types.now)) (length c.args.types.now - 1 - c.loop-index.index) ≡ Some c.parameter.result =
    taken_at parameter_of c.args.types.now c.loop-index.index (length c.args.types.now - 1 - c.loop-index.index) _ within refl
    ∙ ap (λ (p : _). Some p) (ap parameter_of (sym c.index.ensures) ∙ sym c.parameter.ensures) in
    let a = at_depth c.args.machine.now.references c.args.machine.now.heap.cells (length c.args.types.now - 1 - c.loop-index.index) c.parameter.result (reverse (map parameter_of c.args.types.now)) c.args.machine.now.stack.frame.operands c.requires there in
    subst (λ (n : ℕ). IsSome (value_at c.parameter.result (n - 1 - c.loop-index.index) c.args.machine.now)) (sym c.len.ensures.count) (subst IsSome (sym a.is) refl)

pub returns-in_default : goal.returns-in_default
returns-in_default c =
    let within : c.loop-index.index < length c.args.types.now = omega (arith, c.loop-index-test.true, c.len-index-end.ensures.count) in
    let bytes_at = ap (λ (n : ℕ). option_map (option_map value_bytes) (value_at c.parameter.result (n - 1 - c.loop-index.index) c.args.machine.now)) (sym c.len.ensures.count) ∙ c.argument_bytes.ensures in
    let next : length c.args.types.now - c.loop-index.index ≡ suc (length c.args.types.now - 1 - c.loop-index.index) = omega arith in
    let there : slice_get (reverse (map parameter_of c.args.types.now)) (length c.args.types.now - 1 - c.loop-index.index) ≡ Some c.parameter.result =
    taken_at parameter_of c.args.types.now c.loop-index.index (length c.args.types.now - 1 - c.loop-index.index) _ within refl
    ∙ ap (λ (p : _). Some p) (ap parameter_of (sym c.index.ensures) ∙ sym c.parameter.ensures) in
    let more : c.loop-index.left < c.in-Some.bytes = omega (arith, c.if-bytes-left.false) in
    leaves_none c.args.machine.now.references c.args.machine.now.heap.cells (length c.args.types.now - 1 - c.loop-index.index) c.parameter.result (reverse (map parameter_of c.args.types.now))
    c.args.machine.now.stack.frame.operands c.loop-index.left (Some c.in-Some.bytes) c.requires there (bytes_at ∙ ap (λ (o : _). Some o) c.in-Some.is)
    (λ (bytes : ℕ) (e : Some c.in-Some.bytes ≡ Some bytes). let same : c.in-Some.bytes ≡ bytes = cc in subst (λ (n : ℕ). c.loop-index.left < n) same more)
    (subst (λ (k : ℕ). Leaves c.args.machine.now.references c.args.machine.now.heap.cells k (reverse (map parameter_of c.args.types.now)) c.args.machine.now.stack.frame.operands c.loop-index.left) next c.loop-index.invariant)

pub returns-in_default-2 : goal.returns-in_default-2
returns-in_default-2 c =
    let within : c.loop-index.index < length c.args.types.now = omega (arith, c.loop-index-test.true, c.len-index-end.ensures.count) in
    let bytes_at = ap (λ (n : ℕ). option_map (option_map value_bytes) (value_at c.parameter.result (n - 1 - c.loop-index.index) c.args.machine.now)) (sym c.len.ensures.count) ∙ c.argument_bytes.ensures in
    let next : length c.args.types.now - c.loop-index.index ≡ suc (length c.args.types.now - 1 - c.loop-index.index) = omega arith in
    let there : slice_get (reverse (map parameter_of c.args.types.now)) (length c.args.types.now - 1 - c.loop-index.index) ≡ Some c.parameter.result =
    taken_at parameter_of c.args.types.now c.loop-index.index (length c.args.types.now - 1 - c.loop-index.index) _ within refl
    ∙ ap (λ (p : _). Some p) (ap parameter_of (sym c.index.ensures) ∙ sym c.parameter.ensures) in
    leaves_none c.args.machine.now.references c.args.machine.now.heap.cells (length c.args.types.now - 1 - c.loop-index.index) c.parameter.result (reverse (map parameter_of c.args.types.now))
    c.args.machine.now.stack.frame.operands c.loop-index.left None c.requires there (bytes_at ∙ ap (λ (o : _). Some o) c.in_default.is)
    (λ (bytes : ℕ) e. absurd (cc))
    (subst (λ (k : ℕ). Leaves c.args.machine.now.references c.args.machine.now.heap.cells k (reverse (map parameter_of c.args.types.now)) c.args.machine.now.stack.frame.operands c.loop-index.left) next c.loop-index.invariant)

pub loop-index-preserved : goal.loop-index-preserved
loop-index-preserved c =
    let within : c.loop-index.index < length c.args.types.now = omega (arith, c.loop-index-test.true, c.len-index-end.ensures.count) in
    let bytes_at = ap (λ (n : ℕ). option_map (option_map value_bytes) (value_at c.parameter.result (n - 1 - c.loop-index.index) c.args.machine.now)) (sym c.len.ensures.count) ∙ c.argument_bytes.ensures in
    let next : length c.args.types.now - c.loop-index.index ≡ suc (length c.args.types.now - 1 - c.loop-index.index) = omega arith in
    let here : length c.args.types.now - 1 - c.loop-index.index ≡ length c.args.types.now - (c.loop-index.index + 1) = omega arith in
    let there : slice_get (reverse (map parameter_of c.args.types.now)) (length c.args.types.now - 1 - c.loop-index.index) ≡ Some c.parameter.result =
    taken_at parameter_of c.args.types.now c.loop-index.index (length c.args.types.now - 1 - c.loop-index.index) _ within refl
    ∙ ap (λ (p : _). Some p) (ap parameter_of (sym c.index.ensures) ∙ sym c.parameter.ensures) in
    subst (λ (k : ℕ). Leaves c.args.machine.now.references c.args.machine.now.heap.cells k (reverse (map parameter_of c.args.types.now)) c.args.machine.now.stack.frame.operands (c.loop-index.left - c.in-Some.bytes)) here
    (leaves_more c.args.machine.now.references c.args.machine.now.heap.cells (length c.args.types.now - 1 - c.loop-index.index) c.parameter.result (reverse (map parameter_of c.args.types.now))
    c.args.machine.now.stack.frame.operands c.loop-index.left c.in-Some.bytes c.requires there (bytes_at ∙ ap (λ (o : _). Some o) c.in-Some.is) c.if-bytes-left.true
    (subst (λ (k : ℕ). Leaves c.args.machine.now.references c.args.machine.now.heap.cells k (reverse (map parameter_of c.args.types.now)) c.args.machine.now.stack.frame.operands c.loop-index.left) next c.loop-index.invariant))

pub returns : goal.returns
returns c =
    let none : length c.args.types.now - c.loop-index.index ≡ 0 = omega (arith, c.loop-index-test.false) in
    leaves_whole c.args.machine.now.references c.args.machine.now.heap.cells (reverse (map parameter_of c.args.types.now)) c.args.machine.now.stack.frame.operands c.loop-index.left
    (subst (λ (k : ℕ). Leaves c.args.machine.now.references c.args.machine.now.heap.cells k (reverse (map parameter_of c.args.types.now)) c.args.machine.now.stack.frame.operands c.loop-index.left) none c.loop-index.invariant)
