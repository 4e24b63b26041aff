use Rattle.std.proofs.Common.{◌<◌, ◌∙◌, inl, inr, List, Bool, [], ◌∷◌, length, get_or, take, refl, sym, subst, arith}
use Rattle.std.specs.Prelude.{Contains, set}
use Rattle.std.proofs.lemmas.List.{get_or-set_other, get_or-set_same, length-set, take_all, take_more}
use Rattle.std.proofs.lemmas.List.Elements.{Contains-append_cases}
use Rattle.cls_order.specs.Entries.{classes_of, IsTable}
use Rattle.cls_order.specs.Marks.{IsByRank}
use Rattle.cls_order.proofs.Heights.{long_classes}
use Rattle.cls_order.proofs.Marks.{comes_before, single_index}
use Rattle.cls_order.proofs.Supertypes.{are_within}
use Rattle.cls_order.proofs.Walks.{same_or_other_index}
use Rattle.cls_order.proofs.subtype_tables.tables.Goals as goal

pub loop-index-init : goal.loop-index-init
loop-index-init c = (omega (arith, c.loop.invariant, c.loop-test.false, c.loop.auto.counter-end), λ k among. absurd (omega (arith, among.1)))

pub table_below-requires-clause-within : goal.table_below-requires-clause-within
table_below-requires-clause-within c = are_within c.args.entries.now c.requires.resolved

pub table_below-requires-clause-above : goal.table_below-requires-clause-above
table_below-requires-clause-above c = λ s d.
    let entries = c.args.entries.now in
    let order = c.as_slice-index-items.result.now in
    let ranks : IsByRank entries order = subst (IsByRank entries) (sym c.as_slice-index-items.ensures.value) c.in_ok-order.ensures in
    subst (λ (xs : List (List Bool)). IsTable (classes_of entries) s.0 (get_or xs s.0 [])) (sym c.as_slice.ensures.value)
    (c.loop-index.invariant.1 s.0 (comes_before entries order c.loop-index.index-index (get_or order c.loop-index.index-index 0) s c.requires ranks c.loop-index-test.true refl d))

pub loop-index-preserved : goal.loop-index-preserved
loop-index-preserved c =
    let entries = c.args.entries.now in
    let classes = classes_of entries in
    let order = c.as_slice-index-items.result.now in
    let i = c.loop-index.index-index in
    let n = get_or order i 0 in
    let tables = c.loop-index.tables.items in
    let row = c.in_ok-table.table in
    let inv = c.loop-index.invariant in
    let ranks : IsByRank entries order = subst (IsByRank entries) (sym c.as_slice-index-items.ensures.value) c.in_ok-order.ensures in
    let inside : n < length entries = ranks.only i 0 c.loop-index-test.true in
    let long = inv.0 in
    let new : IsTable classes n row = c.in_ok-table.ensures in (
      length-set tables n row ∙ inv.0,
      λ k among.
          same_or_other_index (IsTable classes k (get_or (set tables n row) k [])) k n
          (λ e. subst (λ j. IsTable classes j (get_or (set tables n row) j [])) (sym e) (subst (IsTable classes n) (sym (get_or-set_same tables n row [] (omega (arith, inside, long)))) new))
          (λ ne.
          elim (Contains-append_cases (take i order) (n ∷ []) k (subst (λ xs. Contains xs k) (take_more order i 0 c.loop-index-test.true) among)) [
            | inl was ↦ subst (IsTable classes k) (sym (get_or-set_other tables n k row [] ne)) (inv.1 k was)
            | inr here ↦ absurd (ne (single_index k n here))
          ]),
    )

pub returns : goal.returns
returns c =
    let entries = c.args.entries.now in
    let order = c.as_slice-index-items.result.now in
    let ranks : IsByRank entries order = subst (IsByRank entries) (sym c.as_slice-index-items.ensures.value) c.in_ok-order.ensures in
    let long = long_classes entries in
    record {
      one_each = c.loop-index.invariant.0 ∙ sym long;
      table = λ k l.
          c.loop-index.invariant.1 k (subst (λ xs. Contains xs k) (sym (take_all c.loop-index.index-index order c.loop-index-test.false)) (ranks.each k (omega (arith, l, long))));
    }
