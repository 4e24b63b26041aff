use Rattle.std.proofs.Common.{◌≡◌, ◌∙◌, List, ap, arith, subst, sym, true}
use Rattle.std.specs.Prelude.{◌&&◌}
use Rattle.std.specs.List.{list_all}
use Rattle.cf_text.specs.declared.types.FieldType.{FieldType}
use Rattle.std.proofs.lemmas.List.{take_all}
use Rattle.std.proofs.lemmas.List.Folds.{list_all_at, list_all_more}
use Rattle.vm_step.specs.Start.{crosses}
use Rattle.vm_step.proofs.start.all_cross.Goals as goal

pub returns-then-not-crosses : goal.returns-then-not-crosses
returns-then-not-crosses c =
    sym (list_all_at (crosses c.args.set.now) c.args.kinds.now c.loop-index.index _ (omega (arith, c.len-index-end.ensures.count, c.loop-index-test.true)) (ap (crosses c.args.set.now) (sym c.index.ensures) ∙ sym c.if-not-crosses.ensures))

pub loop-index-preserved : goal.loop-index-preserved
loop-index-preserved c =
    let here = ap (crosses c.args.set.now) (sym c.index.ensures) ∙ sym c.if-not-crosses.ensures in
    list_all_more (crosses c.args.set.now) c.args.kinds.now c.loop-index.index _ (omega (arith, c.len-index-end.ensures.count, c.loop-index-test.true)) ∙ (λ j. c.loop-index.invariant j && here j)

pub returns : goal.returns
returns c =
    sym (subst (λ (kinds : List FieldType). list_all (crosses c.args.set.now) kinds ≡ true) (take_all c.loop-index.index c.args.kinds.now (omega (arith, c.len-index-end.ensures.count, c.loop-index-test.false))) c.loop-index.invariant)
