use Rattle.std.proofs.Common.{subst}
use Rattle.std.proofs.lemmas.Result.{err_from_is_err_and}
use Rattle.std.specs.List.Sorted.{IsStrictlySortedBy}
use Rattle.cls_order.specs.Building.{IsDuplicateFault}
use Rattle.cls_order.specs.Classes.{name_cmp, names}
use Rattle.cls_order.specs.Entries.{classes_of}
use Rattle.cls_set.proofs.Built as built
use Rattle.cls_set.proofs.arranging.arrange.Goals as goal

pub returns-in_err-refuse_duplicates-clause-fault : goal.returns-in_err-refuse_duplicates-clause-fault
returns-in_err-refuse_duplicates-clause-fault c =
    let p = err_from_is_err_and c.from_residual-in_err-refuse_duplicates.result c.from_residual-in_err-refuse_duplicates.ensures.1 in
    rw (p.1, p.2) (built.duplicate_fault c.args.files.items c.in_ok-entries.entries.items c.in_ok-entries.ensures.all c.in_err-refuse_duplicates.field-0.0
    (subst (λ ms. IsDuplicateFault (names (classes_of ms)) c.in_err-refuse_duplicates.field-0.0) c.as_slice.ensures.value c.in_err-refuse_duplicates.ensures.fault))

pub returns-in_err-resolve-clause-fault : goal.returns-in_err-resolve-clause-fault
returns-in_err-resolve-clause-fault c =
    let p = err_from_is_err_and c.from_residual-in_err-resolve.result c.from_residual-in_err-resolve.ensures.1 in
    let ordered = subst (λ ms. IsStrictlySortedBy name_cmp (names (classes_of ms))) c.as_slice.ensures.value c.in_ok-refuse_duplicates.ensures.ok in
    rw (p.1, p.2) (built.absent_fault c.args.files.items c.in_ok-entries.entries.items c.in_ok-entries.ensures.all ordered c.in_err-resolve.field-0.0 c.in_err-resolve.ensures.absent)

pub refuse_cycles-requires-clause-ordered : goal.refuse_cycles-requires-clause-ordered
refuse_cycles-requires-clause-ordered c =
    let ordered = subst (λ ms. IsStrictlySortedBy name_cmp (names (classes_of ms))) c.as_slice.ensures.value c.in_ok-refuse_duplicates.ensures.ok in
    built.ordered_kept c.args.files.items c.in_ok-entries.entries.items c.in_ok-entries.ensures.all c.resolve.new.entries.items c.resolve.ensures.kept ordered c.in_ok-resolve.ensures.resolved

pub refuse_cycles-requires-clause-resolved : goal.refuse_cycles-requires-clause-resolved
refuse_cycles-requires-clause-resolved c =
    let ordered = subst (λ ms. IsStrictlySortedBy name_cmp (names (classes_of ms))) c.as_slice.ensures.value c.in_ok-refuse_duplicates.ensures.ok in
    built.found_kept c.args.files.items c.in_ok-entries.entries.items c.in_ok-entries.ensures.all c.resolve.new.entries.items c.resolve.ensures.kept ordered c.in_ok-resolve.ensures.resolved

pub returns-in_err-refuse_cycles-clause-fault : goal.returns-in_err-refuse_cycles-clause-fault
returns-in_err-refuse_cycles-clause-fault c =
    let p = err_from_is_err_and c.from_residual-in_err-refuse_cycles.result c.from_residual-in_err-refuse_cycles.ensures.1 in
    let ordered = subst (λ ms. IsStrictlySortedBy name_cmp (names (classes_of ms))) c.as_slice.ensures.value c.in_ok-refuse_duplicates.ensures.ok in
    rw (p.1, p.2) (built.cycle_held c.args.files.items c.in_ok-entries.entries.items c.in_ok-entries.ensures.all c.resolve.new.entries.items c.resolve.ensures.kept ordered c.in_ok-resolve.ensures.resolved c.in_err-refuse_cycles.field-0.0 c.in_err-refuse_cycles.ensures.fault)

pub returns-clause-classes : goal.returns-clause-classes
returns-clause-classes c =
    let ordered = subst (λ ms. IsStrictlySortedBy name_cmp (names (classes_of ms))) c.as_slice.ensures.value c.in_ok-refuse_duplicates.ensures.ok in
    record {
      known = built.arranged c.args.files.items c.in_ok-entries.entries.items c.in_ok-entries.ensures.all c.resolve.new.entries.items c.resolve.ensures.kept ordered c.in_ok-resolve.ensures.resolved c.refuse_cycles.new.entries.items c.refuse_cycles.ensures.classes c.in_ok-refuse_cycles.ensures.ranked;
      held = built.held c.args.files.items c.in_ok-entries.entries.items c.in_ok-entries.ensures.all c.resolve.new.entries.items c.resolve.ensures.kept ordered c.in_ok-resolve.ensures.resolved c.refuse_cycles.new.entries.items c.refuse_cycles.ensures.classes c.in_ok-refuse_cycles.ensures.ranked;
      kept = built.kept_acyclic c.args.files.items c.in_ok-entries.entries.items c.in_ok-entries.ensures.all c.resolve.new.entries.items c.resolve.ensures.kept ordered c.in_ok-resolve.ensures.resolved c.refuse_cycles.new.entries.items c.refuse_cycles.ensures.classes c.in_ok-refuse_cycles.ensures.ranked;
    }
