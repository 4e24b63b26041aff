use Rattle.std.proofs.Common.{ℕ, List, ◌≡◌, ◌∙◌, ◌-◌, length, refl, sym, subst, ap, arith}
use Rattle.std.specs.Prelude.{IfSome}
use Rattle.std.specs.declared.cmp.Ordering.TheVariants.{Less}
use Rattle.std.proofs.lemmas.Option.{slice_get_read}
use Rattle.std.proofs.lemmas.List.Sorted.{all_adjacent_more}
use Rattle.cls_order.specs.declared.class.Class.{Class}
use Rattle.cls_order.specs.Classes.{name_cmp, names}
use Rattle.cls_order.specs.Entries.{classes_of}
use Rattle.cls_order.specs.Sets.{IsFirstDuplicate}
use Rattle.cls_order.proofs.Hierarchy.{same_read, true_false}
use Rattle.cls_order.proofs.Names.{name_of}
use Rattle.cls_order.proofs.Sorting.{duplicate_at, strictly_sorted, rises}
use Rattle.cls_order.proofs.building.first_duplicate.Goals as goal

abbrev file_name : Class → List ℕ
file_name c = c.file.name

pub returns-then-is-clause-found : goal.returns-then-is-clause-found
returns-then-is-clause-found c =
    let entries = c.args.entries.now in
    let here = c.index-entries-index-in-loop-index.result in
    let found = duplicate_at entries c.loop-index.index c.index-entries-index.result here (omega arith) c.loop-index-test.true c.requires c.loop-index.invariant c.index-entries-index.is c.index-entries-index-in-loop-index.is (ap name_of c.index-entries-index-in-loop-index.is ∙ (sym (ap file_name c.class.view_is) ∙ (c.is.ensures.0 c.if-is.true ∙ (c.as_bytes.ensures ∙ (ap file_name c.before-in-loop-index.view_is ∙ ap name_of (sym c.index-entries-index.is)))))) in
    subst (λ o. IfSome o (λ m. IsFirstDuplicate (names (classes_of entries)) (name_of m))) (sym (slice_get_read entries (length entries) c.loop-index.index here refl c.loop-index-test.true c.index-entries-index-in-loop-index.is)) found

pub loop-index-preserved : goal.loop-index-preserved
loop-index-preserved c =
    let entries = c.args.entries.now in
    all_adjacent_more entries (λ a b. name_cmp (name_of a) (name_of b) ≡ Less) c.loop-index.index (omega arith) c.loop-index.invariant
    (λ d. rises entries c.loop-index.index d c.requires (omega arith) c.loop-index-test.true (λ same.
    let here = ap name_of (same_read entries c.loop-index.index c.index-entries-index-in-loop-index.result d c.loop-index-test.true) in
    let before = ap name_of (same_read entries (c.loop-index.index - 1) d c.index-entries-index.result (omega arith)) in
    true_false (sym (c.is.ensures.1 (ap file_name c.class.view_is ∙ (here ∙ (same ∙ (before ∙ (sym (ap file_name c.before-in-loop-index.view_is) ∙ sym c.as_bytes.ensures)))))) ∙ c.if-is.false)))

pub returns-clause-none : goal.returns-clause-none
returns-clause-none c = strictly_sorted c.args.entries.now c.loop-index.index (omega arith) c.loop-index.invariant
