use Rattle.std.proofs.Common.{◌<◌, ◌∙◌, length, get_or, sym, subst, ap}
use Rattle.std.proofs.lemmas.Result.{on_ok_weaker}
use Rattle.cls_order.specs.declared.class.Class.{Class}
use Rattle.cls_order.specs.Entries.{classes_of}
use Rattle.cls_order.specs.Walks.{Met, met_by, meet_one}
use Rattle.cls_order.proofs.Hierarchy.{class_read}
use Rattle.cls_order.proofs.Walks.{interfaces_within, superclass_within, long_all, whole_with, whole_without}
use Rattle.cls_order.proofs.walking.meet_supertypes.Goals as goal

pub meet_each-requires : goal.meet_each-requires
meet_each-requires c =
    let classes = classes_of c.args.entries.now in
    let class = (get_or c.args.entries.now c.get.result c.index-entries-get.result).class in
    let k = class_read c.args.entries.now c.index-entries-get.result c.get.result c.args.class.0 c.get.ensures c.requires.in_set in
    interfaces_within (length c.args.walk.now.met.items) classes c.args.class class c.as_slice.result.now c.requires.within k (c.as_slice.ensures ∙ ap (λ (x : Class). x.interfaces) c.class.view_is)

pub meet-requires : goal.meet-requires
meet-requires c =
    let classes = classes_of c.args.entries.now in
    let class = (get_or c.args.entries.now c.get.result c.index-entries-get.result).class in
    let k = class_read c.args.entries.now c.index-entries-get.result c.get.result c.args.class.0 c.get.ensures c.requires.in_set in
    let s = c.in-Some.superclass in
    let same = ap (λ (m : Met). length m.0) c.in_ok-meet_each.ensures ∙ long_all (met_by c.args.walk.now) c.as_slice.result.now in
    subst (λ n. s.0 < n) (sym same) (superclass_within (length c.args.walk.now.met.items) classes c.args.class class s c.requires.within k (sym (ap (λ (x : Class). x.superclass) c.class.view_is) ∙ c.in-Some.is))

pub returns-in-Some : goal.returns-in-Some
returns-in-Some c =
    let classes = classes_of c.args.entries.now in
    let class = (get_or c.args.entries.now c.get.result c.index-entries-get.result).class in
    let k = class_read c.args.entries.now c.index-entries-get.result c.get.result c.args.class.0 c.get.ensures c.requires.in_set in
    let s = c.in-Some.superclass in
    on_ok_weaker c.meet.result
    (λ e. e ∙ (ap (λ m. meet_one m s) c.in_ok-meet_each.ensures ∙ whole_with (met_by c.args.walk.now) classes c.args.class class c.as_slice.result.now s k (c.as_slice.ensures ∙ ap (λ (x : Class). x.interfaces) c.class.view_is) (sym (ap (λ (x : Class). x.superclass) c.class.view_is) ∙ c.in-Some.is)))
    c.meet.ensures

pub returns-in-None : goal.returns-in-None
returns-in-None c =
    let classes = classes_of c.args.entries.now in
    let class = (get_or c.args.entries.now c.get.result c.index-entries-get.result).class in
    let k = class_read c.args.entries.now c.index-entries-get.result c.get.result c.args.class.0 c.get.ensures c.requires.in_set in
    c.in_ok-meet_each.ensures ∙ whole_without (met_by c.args.walk.now) classes c.args.class class c.as_slice.result.now k (c.as_slice.ensures ∙ ap (λ (x : Class). x.interfaces) c.class.view_is) (sym (ap (λ (x : Class). x.superclass) c.class.view_is) ∙ c.in-None.is)
