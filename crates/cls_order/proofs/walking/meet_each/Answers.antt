use Rattle.std.proofs.Common.{◌<◌, ◌∙◌, [], ◌∷◌, ◌++◌, length, take, sym, subst, ap}
use Rattle.std.proofs.lemmas.List.{take_more}
use Rattle.space_ids.specs.declared.ids.ClassId.{ClassId}
use Rattle.cls_order.specs.Walks.{Met, met_by, meet_all, meet_one}
use Rattle.cls_order.proofs.Walks.{long_all, meet_append}
use Rattle.cls_order.proofs.walking.meet_each.Goals as goal

pub meet-requires : goal.meet-requires
meet-requires c =
    let cs = c.args.classes.now in
    let i = c.loop-class.class-index in
    let s : ClassId = c.class-item.result in
    let same = ap (λ (m : Met). length m.0) c.loop-class.invariant ∙ long_all (met_by c.args.walk.now) (take i cs) in
    subst (λ n. s.0 < n) (sym same) (subst (λ (x : ClassId). x.0 < length c.args.walk.now.met.items) (sym c.class-item.is) (c.requires i s c.loop-class-test.true))

pub loop-class-preserved : goal.loop-class-preserved
loop-class-preserved c =
    let cs = c.args.classes.now in
    let i = c.loop-class.class-index in
    let start = met_by c.args.walk.now in
    let s : ClassId = c.class-item.result in
    c.in_ok-meet.ensures
    ∙ (ap (λ m. meet_one m s) c.loop-class.invariant
    ∙ (sym (meet_append start (take i cs) (s ∷ [])) ∙ ap (meet_all start) (sym (take_more cs i s c.loop-class-test.true ∙ ap (λ x. take i cs ++ x ∷ []) (sym c.class-item.is)))))
