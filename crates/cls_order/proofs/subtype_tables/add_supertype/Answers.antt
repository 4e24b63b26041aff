use Rattle.std.proofs.Common.{◌≡◌, ◌∙◌, true, [], ◌∷◌, ◌++◌, ◌⊎◌, get_or, sym, subst, ap, arith}
use Rattle.std.specs.Prelude.{◌↔◌, set}
use Rattle.cls_order.specs.Marks.{IsMarked}
use Rattle.cls_order.specs.Telling.{IsTelling}
use Rattle.cls_order.proofs.Hierarchy.{same_read}
use Rattle.cls_order.proofs.SubtypeTables.{tells_more}
use Rattle.cls_order.proofs.subtype_tables.add_supertype.Goals as goal

pub returns-then-not-has-clause-told : goal.returns-then-not-has-clause-told
returns-then-not-has-clause-told c = λ classes from done telling direct table.
    let tables = c.args.tables.now in
    let class = c.args.class in
    let joined = c.join.new.self in
    let long = c.join.ensures.long in
    let read : c.index-tables-index.result ≡ get_or tables class.0 [] =
    c.index-tables-index.is ∙ (ap (λ i. get_or tables i c.index-tables-index.result) c.get-index.ensures ∙ same_read tables class.0 c.index-tables-index.result [] c.requires.in_set) in
    subst (IsTelling classes from (done ++ class ∷ [])) (sym (c.set.ensures ∙ ap (λ i. set joined i true) c.get-index.ensures))
    (tells_more classes from class done c.args.table.now telling direct (get_or tables class.0 []) joined table (omega (arith, long, c.requires.in_set, c.requires.one_each))
    (λ k. subst (λ xs. IsMarked joined k ↔ (IsMarked c.args.table.now k ⊎ IsMarked xs k)) read (c.join.ensures.marked k)))
