use Rattle.std.proofs.Common.{◌≡◌, ◌∙◌, length, subst, sym, arith}
use Rattle.cls_set.specs.KeyNumbers.{AreNumbersOf}
use Rattle.cls_set.proofs.KeyOrder.{numbers_told, row_more}
use Rattle.number_trees.specs.Trees.{Covers}
use Rattle.cls_set.proofs.key_numbers.number_all.Goals as goal

pub loop-class-preserved : goal.loop-class-preserved
loop-class-preserved c =
    let entries = c.args.entries.now in
    let all = c.in_ok-all.all.items in
    let n = c.loop-class.class in
    let row = c.new.result in
    row_more entries all n c.loop-class.numbers.items c.push.new.self.items row c.loop-class.invariant c.in_ok-push.ensures.items
    (subst (AreNumbersOf entries all n) (sym c.new.ensures) (subst (λ xs. AreNumbersOf entries xs n c.in_ok-row.row.items) c.as_slice.ensures.value c.in_ok-row.ensures))

pub returns : goal.returns
returns c =
    let entries = c.args.entries.now in
    let all = c.in_ok-all.all.items in
    let over = c.loop-class-test.false in
    let end = c.loop-class.auto.class-end in
    let was = c.loop-class.invariant in
    let own = was.0 in
    let count : c.len-2.result ≡ length all = c.len-2.ensures ∙ c.in_ok-all.all.ok.0 in
    numbers_told entries all c.in_ok-all.ensures c.levels_for.result c.loop-class.numbers.items (subst (Covers c.levels_for.result) count c.levels_for.ensures.covers)
    (omega (arith, own, over, end)) (λ k h. was.1 k (omega (arith, h, over)))
