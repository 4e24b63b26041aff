use Rattle.std.proofs.Common.{◌<◌, None, length, get_or, subst, sym}
use Rattle.std.specs.Prelude.{IsSome}
use Rattle.cls_link.specs.Fields.{IsFieldSlot}
use Rattle.cls_link.specs.Links.{Links}
use Rattle.cls_resolve.specs.Meanings.{field_of}
use Rattle.cls_search.specs.FieldSearches.{field_at}
use Rattle.cls_tables.proofs.FieldRows.{read}
use Rattle.cls_tables.proofs.tables.Tables.slot_of.Goals as goal

pub bounds-row-from : goal.bounds-row-from
bounds-row-from c =
    let member = c.args.member in
    let is = subst (λ (links : Links). IsSome (field_at links.classes (field_of member))) (sym c.self.view_is) c.requires in
    let row = c.index.result.now in
    let kept = read c.self.inside.links.value.classes c.self.inside.slots.items member c.from.result row c.self.invariant.0 is c.from.ensures c.index.ensures in
    subst (λ i. i < length c.as_slice-row.result.now) (sym c.from-2.ensures) (subst (λ xs. member.index < length xs) (sym c.as_slice-row.ensures) kept.within)

pub returns : goal.returns
returns c =
    let member = c.args.member in
    let is = subst (λ (links : Links). IsSome (field_at links.classes (field_of member))) (sym c.self.view_is) c.requires in
    let row = c.index.result.now in
    let kept = read c.self.inside.links.value.classes c.self.inside.slots.items member c.from.result row c.self.invariant.0 is c.from.ensures c.index.ensures in
    let slot = subst (λ xs. IsFieldSlot c.self.inside.links.value.classes (field_of member) (get_or xs c.from-2.result None)) (sym c.as_slice-row.ensures)
    (subst (λ i. IsFieldSlot c.self.inside.links.value.classes (field_of member) (get_or row i None)) (sym c.from-2.ensures) kept.slot) in
    subst (λ (links : Links). IsFieldSlot links.classes (field_of member) (get_or c.as_slice-row.result.now c.from-2.result None)) c.self.view_is slot
