use Rattle.std.proofs.Common.{◌∙◌, ◌<◌, refl, sym, ap, subst, arith}
use Rattle.std.specs.Prelude.{Contains, option_to_list}
use Rattle.std.proofs.lemmas.List.Elements.{All-contains, Contains-append_left, Contains-append_right, Contains-get_or}
use Rattle.std.proofs.Common.{get_or}
use Rattle.cls_order.specs.declared.class.Class.{Class}
use Rattle.space_ids.specs.declared.ids.ClassId.{ClassId}
use Rattle.cls_order.specs.Walks.{ups}
use Rattle.cls_set.proofs.members.number_class.Goals as goal

pub class_ids-requires : goal.class_ids-requires
class_ids-requires c = λ k d h.
    let class : Class = c.args.entry.class in
    let s : ClassId = get_or c.as_slice.result.now k d in
    let among : Contains class.interfaces s = subst (λ xs. Contains xs s) (c.as_slice.ensures ∙ ap (λ (x : Class). x.interfaces) c.draft.view_is) (Contains-get_or c.as_slice.result.now k d h) in
    All-contains (λ (s : ClassId). s.0 < 4096) (ups class) s c.requires (Contains-append_left class.interfaces (option_to_list class.superclass) s among)

pub class_id-requires : goal.class_id-requires
class_id-requires c =
    let class : Class = c.args.entry.class in
    let s : ClassId = c.in-Some.index in
    let is = sym (ap (λ (x : Class). x.superclass) c.draft.view_is) ∙ c.in-Some.is in
    let among = subst (λ o. Contains (option_to_list o) s) (sym is) (0, omega arith, refl) in
    All-contains (λ (s : ClassId). s.0 < 4096) (ups class) s c.requires (Contains-append_right class.interfaces (option_to_list class.superclass) s among)
