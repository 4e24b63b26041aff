use Rattle.std.proofs.Common.{◌≡◌, rules, arith}
use Rattle.std.specs.Ordering.{is_lt}
use Rattle.std.proofs.lemmas.Fn.{always_returns_same}
use Rattle.std.proofs.lemmas.List.MinMax.{ranks_by}
use Rattle.std.proofs.lemmas.List.Sorted.{Contains-permutation}
use Rattle.cls_set.specs.KeyNumbers.{declared_key}
use Rattle.cls_set.specs.Orders.{key_cmp}
use Rattle.cls_set.proofs.KeyOrder.{holds_more}
use Rattle.cls_set.proofs.Orders.{key_total}
use Rattle.cls_set.proofs.key_numbers.sorted.Goals as goal

pub loop-class-preserved : goal.loop-class-preserved
loop-class-preserved c =
    let was = c.in_ok-add_declared.ensures in
    holds_more c.args.entries.now c.loop-class.class c.loop-class.all.items c.add_declared.new.all.items c.loop-class.invariant was.starts was.each

pub returns : goal.returns
returns c =
    let entries = c.args.entries.now in
    let n = c.loop-class.class in
    let old = c.loop-class.all.items in
    let new = c.sort_by.new.self.items in
    record {
      each = λ k i low h.
          Contains-permutation old new (record { class = k; method = i }) c.in_ok-sort_by.ensures.permutation
          (c.loop-class.invariant k i (let end = c.loop-class-test.false in omega (arith, low, end)) h);
      sorted =
          c.in_ok-sort_by.ensures.sorted (λ a b. is_lt (key_cmp (declared_key entries a) (declared_key entries b))) (ranks_by key_total (declared_key entries))
          (always_returns_same _ (λ a r. is_lt r ≡ is_lt (key_cmp (declared_key entries a.0.now) (declared_key entries a.1.0.now))) _
          (λ a r q k. (search rules, search rules)));
    }
