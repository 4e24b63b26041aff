use Rattle.std.proofs.Common.{ℕ, ◌-◌, ◌/◌, ◌<◌, List, length, refl, sym, ap, subst, ◌∙◌, arith}
use Rattle.std.proofs.lemmas.List.{length-set}
use Rattle.least_tree.specs.Least.{IsLow}
use Rattle.least_tree.proofs.LeastLemmas.{above, settled}
use Rattle.least_tree.proofs.tree.rise.Goals as goal

pub loop-at-preserved : goal.loop-at-preserved
loop-at-preserved c =
    let at = c.loop-at.at in
    let lt : at < length c.loop-at.lows = c.loop-at.invariant.index in
    let some : 0 < at = c.loop-at-test.true in record {
      index = let same = ap length c.settle-in-loop-at.ensures ∙ length-set c.loop-at.lows ((at - 1) / 2) _ in omega (arith, same, lt);
      low = λ other left right. subst (λ (l : List ℕ). IsLow c.args.numbers.now l other) (sym c.settle-in-loop-at.ensures)
          (settled c.args.numbers.now c.loop-at.lows ((at - 1) / 2) _ (omega (arith, lt)) refl (above c.args.numbers.now c.loop-at.lows at some c.loop-at.invariant.low) other left right);
    }
