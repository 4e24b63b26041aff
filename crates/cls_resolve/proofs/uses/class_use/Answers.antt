use Rattle.std.proofs.Common.{Some, refl, ap, ◌∙◌}
use Rattle.cls_resolve.specs.Meanings as meanings
use Rattle.cls_resolve.proofs.ClassChecks.{array_broken, array_kept, class_absent, class_abstract, class_hidden, class_kept, no_entry}
use Rattle.cls_search.proofs.Interfaces.{not_true}
use Rattle.cls_resolve.proofs.uses.class_use.Goals as goal

pub returns-in-NoEntry-clause-broken : goal.returns-in-NoEntry-clause-broken
returns-in-NoEntry-clause-broken c = λ method. no_entry c.args.set.now _ c.args.operation refl c.in-NoEntry.ensures.meaning

pub returns-then-takes_array-clause-broken : goal.returns-then-takes_array-clause-broken
returns-then-takes_array-clause-broken c =
    let at = c.in-Array.ensures.meaning in
    let takes = c.takes_array.ensures.0 c.if-takes_array.true in
    λ method. array_kept c.args.set.now _ c.args.operation refl at.text at.entry at.array takes.0 (at.of_ints.0 takes.1)

pub returns-then-takes_array-clause-named : goal.returns-then-takes_array-clause-named
returns-then-takes_array-clause-named c =
    let at = c.in-Array.ensures.meaning in
    let takes = c.takes_array.ensures.0 c.if-takes_array.true in
    meanings.IsTypeAt.int_array (at.entry ∙ ap (λ t. Some t) (at.of_ints.0 takes.1))

pub returns-else-takes_array-clause-broken : goal.returns-else-takes_array-clause-broken
returns-else-takes_array-clause-broken c =
    let at = c.in-Array.ensures.meaning in
    λ method.
    array_broken c.args.set.now _ c.args.operation refl at.text at.entry at.array
    (λ takes. not_true _ c.if-takes_array.false (c.takes_array.ensures.1 (takes.0, at.of_ints.1 takes.1)))

pub returns-in-Absent-clause-broken : goal.returns-in-Absent-clause-broken
returns-in-Absent-clause-broken c =
    let at = c.in-Absent.ensures.meaning in
    λ method. class_absent c.args.set.now _ c.args.operation refl at.text at.entry at.plain at.absent

pub returns-then-not-is_accessible-clause-broken : goal.returns-then-not-is_accessible-clause-broken
returns-then-not-is_accessible-clause-broken c =
    let at = c.in-Class.ensures.meaning in
    λ method.
    class_hidden c.args.set.now _ c.args.operation refl at.text at.entry at.plain c.in-Class.class at.number
    (λ may. not_true _ c.if-not-is_accessible.true (at.accessible.1 may))

pub returns-then-makes_abstract-clause-broken : goal.returns-then-makes_abstract-clause-broken
returns-then-makes_abstract-clause-broken c =
    let at = c.in-Class.ensures.meaning in
    let makes = c.makes_abstract.ensures.0 c.if-makes_abstract.true in
    λ method.
    class_abstract c.args.set.now _ c.args.operation refl at.text at.entry at.plain c.in-Class.class at.number
    (at.accessible.0 c.if-not-is_accessible.false) makes.0 makes.1

pub returns-else-makes_abstract-clause-broken : goal.returns-else-makes_abstract-clause-broken
returns-else-makes_abstract-clause-broken c =
    let at = c.in-Class.ensures.meaning in
    λ method.
    class_kept c.args.set.now _ c.args.operation refl at.text at.entry at.plain c.in-Class.class at.number
    (at.accessible.0 c.if-not-is_accessible.false)
    (λ e h. not_true _ c.if-makes_abstract.false (c.makes_abstract.ensures.1 (e, h)))

pub returns-else-makes_abstract-clause-named : goal.returns-else-makes_abstract-clause-named
returns-else-makes_abstract-clause-named c =
    let at = c.in-Class.ensures.meaning in
    meanings.IsTypeAt.class c.in-Class.class (record { text = at.text; entry = at.entry; number = at.number }) at.plain
