use Rattle.std.proofs.Common.{◌≡◌, rules}
use Rattle.std.proofs.lemmas.Fn.{always_returns_same}
use Rattle.cls_set.specs.KeyNumbers.{comes_before, declared_key}
use Rattle.cls_set.proofs.KeyOrder.{partitioned}
use Rattle.cls_set.proofs.key_numbers.number.Goals as goal

pub returns : goal.returns
returns c =
    let entries = c.args.entries.now in
    let all = c.args.all.now in
    let key = declared_key entries c.args.own in
    record {
      within = c.partition_point.ensures.bound;
      start =
          c.partition_point.ensures.partitioned (comes_before entries key)
          (always_returns_same _ (λ a r. r ≡ comes_before entries key a.0.now) _ (λ a r q k. (search rules, search rules)))
          (partitioned entries all c.requires key);
    }
