use Rattle.std.proofs.Common.{◌∙◌, get_or, sym, subst, arith}
use Rattle.std.specs.List.Sorted.{IsStrictlySortedBy}
use Rattle.cls_order.specs.declared.entries.Entry.{Entry}
use Rattle.cls_order.specs.Classes.{name_cmp, names}
use Rattle.cls_order.specs.Entries.{classes_of}
use Rattle.cls_order.specs.Building.{IsWhole}
use Rattle.std.proofs.lemmas.Result.{err_from_is_err_and}
use Rattle.std.specs.List.{AllWithin}
use Rattle.cls_order.proofs.Absent.{first_absent_at}
use Rattle.cls_order.proofs.Resolved.{absent_kept, length_kept, names_kept, AllWithin-next}
use Rattle.cls_order.proofs.resolving.resolve.Goals as goal

pub resolve_at-requires-clause-ordered : goal.resolve_at-requires-clause-ordered
resolve_at-requires-clause-ordered c = subst (IsStrictlySortedBy name_cmp) (sym (names_kept _ _ c.loop-index.invariant.0)) c.requires.ordered

pub loop-index-preserved : goal.loop-index-preserved
loop-index-preserved c =
    let start = c.args.entries.now.items in
    let old = c.loop-index.entries.items in
    let new = c.resolve_at.new.entries.items in
    let P : Entry → Type 0 = λ m. IsWhole (names (classes_of start)) m.class in
    let same = names_kept old start c.loop-index.invariant.0 in (
      c.resolve_at.ensures.kept ∙ c.loop-index.invariant.0,
      AllWithin-next P old new c.loop-index.index c.loop-index.invariant.1 c.resolve_at.ensures.others
          (λ d. subst (λ ns. IsWhole ns (get_or new c.loop-index.index d).class) same (c.in_ok-resolve_at.ensures.resolved d)),
    )

pub returns-in_err-resolve_at-clause-absent : goal.returns-in_err-resolve_at-clause-absent
returns-in_err-resolve_at-clause-absent c =
    let p = err_from_is_err_and c.from_residual.result c.from_residual.ensures.1 in
    let start = c.args.entries.now.items in
    let old = c.loop-index.entries.items in
    let k = c.loop-index.index in
    let e = c.in_err-resolve_at.field-0.0 in
    let same = names_kept old start c.loop-index.invariant.0 in
    let long = length_kept old start c.loop-index.invariant.0 in
    rw (p.1, p.2) (absent_kept old start e c.loop-index.invariant.0
    (first_absent_at old k e (subst (IsStrictlySortedBy name_cmp) (sym same) c.requires.ordered) (omega (arith, c.loop-index-test.true, long))
    (subst (λ ns. AllWithin (λ m. IsWhole ns m.class) old 0 k) (sym same) c.loop-index.invariant.1) c.in_err-resolve_at.ensures.absent))
