use Rattle.std.proofs.Common.{get_or, refl, sym, subst, ap, ◌∙◌}
use Rattle.std.proofs.lemmas.List.{take_more}
use Rattle.cls_order.proofs.Hierarchy.{class_read}
use Rattle.cls_set.specs.Descending.{Above, HasInherited, root_above}
use Rattle.cls_set.proofs.Descends.{class_more, inherited_here}
use Rattle.cls_set.proofs.descending.come_to.Goals as goal

pub overrides_badly-requires-clause-above : goal.overrides_badly-requires-clause-above
overrides_badly-requires-clause-above c =
    let entries = c.args.entries.now in
    let order = c.args.order.now in
    let index = get_or order c.args.step 0 in
    let e = c.index-entries-index.result in
    let own = (get_or entries index e).class in
    let is = class_read entries e index index refl (c.requires.order.only c.args.step 0 c.requires.within) in
    let walk = c.args.walk.now in
    subst (λ r. HasInherited entries c.args.keys.now walk.trees r (Above entries index)) (sym (c.root_above-above.ensures ∙ ap (λ xs. root_above xs own.superclass) c.as_slice.ensures.value))
    (inherited_here entries c.args.keys.now c.requires.arranged index own is order c.args.step walk c.requires.order c.requires.within refl c.requires.walk)

pub declare_own-requires-clause-above : goal.declare_own-requires-clause-above
declare_own-requires-clause-above c =
    let entries = c.args.entries.now in
    let order = c.args.order.now in
    let index = get_or order c.args.step 0 in
    let e = c.index-entries-index.result in
    let own = (get_or entries index e).class in
    let is = class_read entries e index index refl (c.requires.order.only c.args.step 0 c.requires.within) in
    let walk = c.args.walk.now in
    subst (λ r. HasInherited entries c.args.keys.now walk.trees r (Above entries index)) (sym (c.root_above-above.ensures ∙ ap (λ xs. root_above xs own.superclass) c.as_slice.ensures.value))
    (inherited_here entries c.args.keys.now c.requires.arranged index own is order c.args.step walk c.requires.order c.requires.within refl c.requires.walk)

pub returns : goal.returns
returns c =
    let entries = c.args.entries.now in
    let order = c.args.order.now in
    let index = get_or order c.args.step 0 in
    let inside = c.requires.order.only c.args.step 0 c.requires.within in
    rw (take_more order c.args.step 0 c.requires.within)
    (class_more entries c.args.keys.now _ c.args.walk.now _ index c.in_ok-walk.field-0 c.overrides_badly.result c.requires.walk inside c.in_ok-walk.ensures.grown
    c.in_ok-walk.ensures.passed c.overrides_badly.ensures refl refl)
