use Rattle.std.proofs.Common.{◌≡◌, rules}
use Rattle.std.proofs.lemmas.Fn.{always_returns_same}
use Rattle.cls_set.specs.Orders.{is_below, keys_of, Key}
use Rattle.cls_set.proofs.Orders.{partitioned}
use Rattle.cls_set.proofs.ordering.lower_bound.Goals as goal

pub returns-clause-start : goal.returns-clause-start
returns-clause-start c =
    let keys = keys_of c.args.kind c.args.file.now in
    let wanted : Key = (c.args.name.now, c.args.descriptor.now) in
    c.partition_point.ensures.partitioned (is_below keys wanted)
    (always_returns_same _ (λ a r. r ≡ is_below keys wanted a.0.now) _ (λ a r q k. (search rules, search rules)))
    (partitioned keys c.args.order.now c.requires wanted)
