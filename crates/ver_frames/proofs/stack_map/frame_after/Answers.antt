use Rattle.std.proofs.Common.{◌≡◌, ◌≤◌, ◌+◌, ℕ, Bool, true, false, Option, Some, None, List, [], length, take, ap, refl, sym, subst, ◌∙◌, arith}
use Rattle.std.specs.Prelude.{if◌then◌else◌}
use Rattle.ver_frames.proofs.ChainFrames.{frame_read, read_same}
use Rattle.ver_frames.proofs.Chains.{chain_long, keeps_on, kept_stands, kept_types, none_stand, none_types}
use Rattle.ver_frames.specs.Chains.{types_of}
use Rattle.ver_frames.specs.Method.{Subject}
use Rattle.ver_frames.specs.StackMap.{is_start, items, kept, with_front}
use Rattle.ver_frames.specs.declared.chain.TypeNode.{TypeNode}
use Rattle.ver_frames.specs.declared.vtype.VType.{VType}
use Rattle.ver_frames.proofs.stack_map.frame_after.Goals as goal

start_found : (test : Bool) (at offset : ℕ) → (if test then Some at else None) ≡ Some offset → test ≡ true
start_found true at offset e = refl
start_found false at offset e = absurd (cc)

start_same : (test : Bool) (at offset : ℕ) → (if test then Some at else None) ≡ Some offset → at ≡ offset
start_same true at offset e = cc
start_same false at offset e = absurd (cc)

pub shorten-first-requires-clause-within : goal.shorten-first-requires-clause-within
shorten-first-requires-clause-within c =
    let long = chain_long c.args.nodes.now c.args.before c.requires.stands in
    omega (arith, long, c.count.ensures, c.in-Some.ensures.within)

pub append_items-requires-2-clause-stands : goal.append_items-requires-2-clause-stands
append_items-requires-2-clause-stands c = none_stand c.append_items.new.nodes 0

pub returns-in_err-stack-clause-kept : goal.returns-in_err-stack-clause-kept
returns-in_err-stack-clause-kept c = keeps_on c.args.nodes.now c.append_items.new.nodes c.append_items-2.new.nodes c.in_ok-locals.ensures.kept c.in_err-stack.ensures.kept

pub returns-in_default-3-clause-kept : goal.returns-in_default-3-clause-kept
returns-in_default-3-clause-kept c = keeps_on c.args.nodes.now c.append_items.new.nodes c.append_items-2.new.nodes c.in_ok-locals.ensures.kept c.in_ok-stack.ensures.kept

pub returns-clause-kept : goal.returns-clause-kept
returns-clause-kept c = keeps_on c.args.nodes.now c.append_items.new.nodes c.append_items-2.new.nodes c.in_ok-locals.ensures.kept c.in_ok-stack.ensures.kept

pub returns-clause-stands : goal.returns-clause-stands
returns-clause-stands c =
    let locals = rw c.in-Some-2.is at c.in_ok-locals.ensures.stands in
    let stack = rw c.in-Some-3.is at c.in_ok-stack.ensures.stands in
    record { locals = kept_stands c.append_items.new.nodes c.append_items-2.new.nodes c.in-Some-2.locals c.in_ok-stack.ensures.kept locals; stack = stack }

pub returns-clause-gives : goal.returns-clause-gives
returns-clause-gives c =
    let m = c.args.method.now in
    let old : List TypeNode = c.args.nodes.now in
    let middle : List TypeNode = c.append_items.new.nodes in
    let new : List TypeNode = c.append_items-2.new.nodes in
    let before : List VType = types_of old c.args.before in
    let most = ap (λ (s : Subject). s.code.max_locals) c.method.view_is in
    let deepest = ap (λ (s : Subject). s.code.max_stack) c.method.view_is in
    let keeps_is : kept c.args.tag (length before) ≡ Some c.in-Some.keeps = sym (c.in-Some.ensures.kept ∙ ap (kept c.args.tag) c.count.ensures) in
    let few : c.in-Some.keeps + c.in-Some-added.adds ≤ m.code.max_locals = first_of (omega (arith, most), grind (arith, most)) in
    let fits : c.in-Some-operands_after.pushes ≤ m.code.max_stack = first_of (omega (arith, deepest), grind (arith, deepest)) in
    let starts : is_start m c.args.at ≡ true = start_found (is_start m c.args.at) c.args.at c.in-Some-start_at.offset (sym c.in-Some-start_at.ensures) in
    let locals_stand = rw c.in-Some-2.is at c.in_ok-locals.ensures.stands in
    let locals_are = rw c.in-Some-2.is at c.in_ok-locals.ensures.items in
    let stack_is = rw c.in-Some-3.is at c.in_ok-stack.ensures.items in
    let locals_read : with_front (take c.in-Some.keeps before) (items m c.in-Some-added.adds c.in-Some-added.added.now) ≡ Some (types_of middle c.in-Some-2.locals, c.in-Some-2.field-0-1.now) =
    subst (λ (ts : List VType). with_front ts (items m c.in-Some-added.adds c.in-Some-added.added.now) ≡ Some (types_of middle c.in-Some-2.locals, c.in-Some-2.field-0-1.now)) c.shorten-first.ensures.types locals_are in
    let stack_read : with_front [] (items m c.in-Some-operands_after.pushes c.in-Some-operands_after.pushed.now) ≡ Some (types_of new c.in-Some-3.stack, c.in-Some-3.rest.now) =
    subst (λ (ts : List VType). with_front ts (items m c.in-Some-operands_after.pushes c.in-Some-operands_after.pushed.now) ≡ Some (types_of new c.in-Some-3.stack, c.in-Some-3.rest.now)) (none_types middle 0) stack_is in
    let later : types_of new c.in-Some-2.locals ≡ types_of middle c.in-Some-2.locals = kept_types middle new c.in-Some-2.locals c.in_ok-stack.ensures.kept locals_stand in
    let same_at : c.args.at ≡ c.in-Some-start_at.offset = start_same (is_start m c.args.at) c.args.at c.in-Some-start_at.offset (sym c.in-Some-start_at.ensures) in
    frame_read m c.args.at before c.args.tag c.args.rest.now c.in-Some.keeps (c.in-Some-added.adds, c.in-Some-added.added.now) (c.in-Some-operands_after.pushes, c.in-Some-operands_after.pushed.now)
    (types_of middle c.in-Some-2.locals) (types_of new c.in-Some-3.stack) c.in-Some-2.field-0-1.now c.in-Some-3.rest.now keeps_is c.in-Some-added.ensures c.in-Some-operands_after.ensures few fits starts locals_read stack_read
    ∙ read_same c.args.at c.in-Some-start_at.offset (types_of middle c.in-Some-2.locals) (types_of new c.in-Some-2.locals) (types_of new c.in-Some-3.stack) c.in-Some-3.rest.now same_at (sym later)
