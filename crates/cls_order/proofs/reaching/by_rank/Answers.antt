use Rattle.std.proofs.Common.{◌≡◌, ◌<◌, rules, length, arith}
use Rattle.std.specs.Ordering.{is_lt, nat_cmp}
use Rattle.std.proofs.lemmas.Cmp.{nat_cmp_total}
use Rattle.std.proofs.lemmas.Fn.{always_returns_same}
use Rattle.std.proofs.lemmas.List.Sorted.{ranks_by, All-permutation, Contains-permutation}
use Rattle.cls_order.specs.Marks.{rank_at}
use Rattle.cls_order.proofs.Indices.{one_more}
use Rattle.cls_order.proofs.reaching.by_rank.Goals as goal

pub loop-index-preserved : goal.loop-index-preserved
loop-index-preserved c = rw c.in_ok-push.ensures.items (one_more c.loop-index.index c.loop-index.order.items c.loop-index.invariant)

pub returns : goal.returns
returns c =
    let entries = c.args.entries.now in
    let old = c.loop-index.order.items in
    let new = c.sort_by.new.self.items in
    record {
      only = All-permutation (λ k. k < length entries) old new c.in_ok-sort_by.ensures.permutation (λ k d h. let low = c.loop-index.invariant.only k d h in let end = c.loop-index.auto.index-end in omega (arith, low, end));
      each = λ k h. Contains-permutation old new k c.in_ok-sort_by.ensures.permutation (c.loop-index.invariant.each k (let end = c.loop-index-test.false in omega (arith, h, end)));
      sorted =
          c.in_ok-sort_by.ensures.sorted (λ a b. is_lt (nat_cmp (rank_at entries a) (rank_at entries b))) (ranks_by nat_cmp_total (rank_at entries))
          (always_returns_same _ (λ a r. is_lt r ≡ is_lt (nat_cmp (rank_at entries a.0.now) (rank_at entries a.1.0.now))) _ (λ a r q k. (search rules, search rules)));
    }
