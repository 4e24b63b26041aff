use Rattle.std.proofs.lemmas.List.Elements.{All-get_or}
use Rattle.std.proofs.Common.{subst, sym, ◌≡◌, ◌+◌, ◌∙◌, List, length, ap, refl, arith}
use Rattle.std.specs.Prelude.{slice_set}
use Rattle.vm_heap.specs.Heap.{all_cost}
use Rattle.vm_heap.specs.References.{Table}
use Rattle.vm_heap.specs.Tagged.{Tagged}
use Rattle.vm_stack.specs.Frames.{Frame, Frames}
use Rattle.vm_step.specs.Start.{passed_at, IsHeld, copies, passed_from}
use Rattle.vm_step.proofs.Passing.{copied_one, copied_within, length-passed, passed_one}
use Rattle.vm_step.proofs.opening.pass.Goals as goal

pub loop-index-init : goal.loop-index-init
unfolding copies all_cost passed_from
loop-index-init c = record { address = refl; frame = refl; callers = refl; free = refl; references = refl }

pub word-requires-clause-address : goal.word-requires-clause-address
word-requires-clause-address c =
    let one = copied_one c.args.arguments.now c.loop-index.index c.index-arguments-index.result _ c.index-arguments-index.is c.loop-index-test.true in
    let all = copied_within c.args.arguments.now (c.loop-index.index + 1) in
    omega (arith, c.requires.small, c.loop-index.invariant.address, one, all)

pub word-requires-clause-known : goal.word-requires-clause-known
word-requires-clause-known c =
    subst (λ (t : Table). IsHeld t c.index-arguments-index.result) (sym c.loop-index.invariant.references)
    (subst (IsHeld c.args.references.now) (sym c.index-arguments-index.is)
    (All-get_or (IsHeld c.args.references.now) c.args.arguments.now c.loop-index.index _ c.loop-index-test.true c.requires.known))

pub set_local-requires : goal.set_local-requires
set_local-requires c =
    let long : length c.loop-index.stack.frame.locals ≡ length c.args.stack.now.frame.locals =
    ap (λ (f : Frame). length f.locals) c.loop-index.invariant.frame
    ∙ length-passed c.args.references.now 0 c.args.arguments.now c.args.stack.now.frame.locals c.loop-index.index (omega (arith, c.loop-index-test.true)) c.requires.room in
    omega (arith, long, c.loop-index-test.true, c.requires.room)

pub words-address-requires : goal.words-address-requires
words-address-requires c =
    let one = copied_one c.args.arguments.now c.loop-index.index c.index-arguments-index.result _ c.index-arguments-index.is c.loop-index-test.true in
    let all = copied_within c.args.arguments.now (c.loop-index.index + 1) in
    omega (arith, c.requires.small, one, all)

pub overflow_add-address : goal.overflow_add-address
overflow_add-address c =
    let one = copied_one c.args.arguments.now c.loop-index.index c.index-arguments-index.result _ c.index-arguments-index.is c.loop-index-test.true in
    let all = copied_within c.args.arguments.now (c.loop-index.index + 1) in
    omega (arith, c.requires.small, c.loop-index.invariant.address, one, all, c.words-address.ensures)

pub loop-index-preserved : goal.loop-index-preserved
loop-index-preserved c =
    let one = copied_one c.args.arguments.now c.loop-index.index c.index-arguments-index.result _ c.index-arguments-index.is c.loop-index-test.true in
    record {
      address = omega (arith, c.words-address.ensures, c.loop-index.invariant.address, one);
      frame =
          ap (λ (s : Frames). s.frame) c.set_local.ensures
          ∙ (ap (λ (f : Frame). record f { locals = slice_set f.locals c.loop-index.index c.word.result }) c.loop-index.invariant.frame
          ∙ ap (λ (ls : List Tagged). record c.args.stack.now.frame { locals = ls })
          (passed_one c.args.references.now c.args.arguments.now c.args.stack.now.frame.locals c.loop-index.index c.loop-index.address c.index-arguments-index.result _ c.word.result
          c.loop-index.invariant.address (c.word.ensures.word ∙ ap (λ (t : Table). passed_at c.loop-index.address t c.index-arguments-index.result) c.loop-index.invariant.references) c.index-arguments-index.is c.loop-index-test.true (omega (arith, c.loop-index-test.true, c.requires.room))));
      callers = ap (λ (s : Frames). s.callers) c.set_local.ensures ∙ c.loop-index.invariant.callers;
      free = ap (λ (s : Frames). s.free) c.set_local.ensures ∙ c.loop-index.invariant.free;
      references = c.word.ensures.references ∙ c.loop-index.invariant.references;
    }
