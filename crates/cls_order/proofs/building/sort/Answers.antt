use Rattle.std.proofs.Common.{◌≡◌, rules}
use Rattle.std.specs.Ordering.{is_lt}
use Rattle.std.proofs.lemmas.Cmp.{nat_list_cmp_total}
use Rattle.std.proofs.lemmas.Fn.{always_returns_same}
use Rattle.std.proofs.lemmas.List.Sorted.{ranks_by}
use Rattle.std.proofs.lemmas.Result.{on_ok_weaker}
use Rattle.cls_order.specs.Classes.{name_cmp}
use Rattle.cls_order.proofs.Names.{name_of}
use Rattle.cls_order.proofs.building.sort.Goals as goal

pub returns-clause-sorted : goal.returns-clause-sorted
returns-clause-sorted c =
    on_ok_weaker c.sort_by.result
    (λ d. d (λ a b. is_lt (name_cmp (name_of a) (name_of b))) (ranks_by nat_list_cmp_total name_of) (always_returns_same _ (λ a r. is_lt r ≡ is_lt (name_cmp (name_of a.0.now) (name_of a.1.0.now))) _ (λ a r q k. (search rules, search rules))))
    c.sort_by.ensures.sorted
