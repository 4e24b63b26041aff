use Rattle.std.proofs.Common.{subst}
use Rattle.cls_tables.specs.Numbers.{Covers}
use Rattle.cls_tables.proofs.Numbered.{keys_told, method_within}
use Rattle.cls_tables.proofs.numbers.all_keys.Goals as goal

pub returns-clause-told : goal.returns-clause-told
returns-clause-told c =
    let links = c.args.linked.now in
    keys_told links.classes _ c.levels_for-levels.result c.in_ok-keys.keys.items c.in_ok-keys.ensures
    (subst (Covers c.levels_for-levels.result) c.len.ensures.count c.levels_for-levels.ensures.covers) (method_within links.classes links.methods c.len.ensures.links.methods)
