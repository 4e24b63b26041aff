use Rattle.std.proofs.Common.{◌≡◌, ◌<◌, rules, length, arith}
use Rattle.std.specs.Ordering.{is_lt}
use Rattle.std.proofs.lemmas.Fn.{always_returns_same}
use Rattle.std.proofs.lemmas.List.MinMax.{ranks_by}
use Rattle.std.proofs.lemmas.List.Sorted.{All-permutation, Contains-permutation}
use Rattle.cls_set.specs.Orders.{index_cmp, keys_of}
use Rattle.cls_order.proofs.Indices.{one_more}
use Rattle.cls_set.proofs.Orders.{index_total}
use Rattle.cls_set.proofs.ordering.order.Goals as goal

pub loop-index-preserved : goal.loop-index-preserved
loop-index-preserved c = rw c.in_ok-push.ensures.items (one_more c.loop-index.index c.loop-index.order.items c.loop-index.invariant)

pub returns : goal.returns
returns c =
    let keys = keys_of c.args.kind c.args.file.now in
    let n = c.loop-index.index in
    let old = c.loop-index.order.items in
    let new = c.sort_by.new.self.items in
    record {
      only =
          All-permutation (λ k. k < length keys) old new c.in_ok-sort_by.ensures.permutation
          (λ k d h. let low = c.loop-index.invariant.only k d h in let end = c.loop-index.auto.index-end in omega (arith, low, end));
      each = λ k h.
          Contains-permutation old new k c.in_ok-sort_by.ensures.permutation
          (c.loop-index.invariant.each k (let end = c.loop-index-test.false in omega (arith, h, end)));
      sorted =
          c.in_ok-sort_by.ensures.sorted (λ a b. is_lt (index_cmp keys a b)) (ranks_by (index_total keys) (λ k. k))
          (always_returns_same _ (λ a r. is_lt r ≡ is_lt (index_cmp keys a.0.now a.1.0.now)) _
          (λ a r q k. (search rules, search rules)));
    }
