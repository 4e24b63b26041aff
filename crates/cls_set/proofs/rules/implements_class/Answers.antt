use Rattle.std.proofs.Common.{◌≡◌, ◌<◌, ◌∙◌, Some, List, length, get_or, refl, sym, subst, ap, arith, rules}
use Rattle.std.specs.Prelude.{Contains, slice_get}
use Rattle.std.proofs.lemmas.List.Elements.{All-contains}
use Rattle.cls_order.specs.declared.class.Class.{Class}
use Rattle.space_ids.specs.declared.ids.ClassId.{ClassId}
use Rattle.cls_order.specs.Classes.{IsInterface}
use Rattle.cls_order.specs.Entries.{classes_of}
use Rattle.cls_order.proofs.Hierarchy.{All-whole, class_read, same_some, true_false}
use Rattle.cls_set.proofs.Supers.{implements_in, implements_out, interface_in_set}
use Rattle.cls_set.proofs.Broken.{All-take_more}
use Rattle.cls_set.proofs.rules.implements_class.Goals as goal

pub bounds-entries-index : goal.bounds-entries-index
bounds-entries-index c =
    let s : ClassId = c.interface-item.result in
    let among = subst (λ (xs : List ClassId). Contains xs s) (c.as_slice-interface-items.ensures ∙ ap (λ (x : Class). x.interfaces) c.class.view_is) (c.loop-interface.interface-index, c.loop-interface-test.true, sym c.interface-item.is) in
    subst (λ n. n < length c.args.entries.now) (sym c.get-index.ensures) (interface_in_set c.args.entries.now c.requires.arranged c.args.class.now c.requires.among s among)

pub offset_bounds-entries-index : goal.offset_bounds-entries-index
offset_bounds-entries-index c =
    let s : ClassId = c.interface-item.result in
    let among = subst (λ (xs : List ClassId). Contains xs s) (c.as_slice-interface-items.ensures ∙ ap (λ (x : Class). x.interfaces) c.class.view_is) (c.loop-interface.interface-index, c.loop-interface-test.true, sym c.interface-item.is) in
    let inside : c.get-index.result < length c.args.entries.now = subst (λ n. n < length c.args.entries.now) (sym c.get-index.ensures) (interface_in_set c.args.entries.now c.requires.arranged c.args.class.now c.requires.among s among) in
    first_of (omega arith, search rules)

pub returns-then-not-is_interface : goal.returns-then-not-is_interface
returns-then-not-is_interface c =
    let entries = c.args.entries.now in
    let a = c.requires.arranged in
    let class = c.args.class.now in
    let s : ClassId = c.interface-item.result in
    let among = subst (λ (xs : List ClassId). Contains xs s) (c.as_slice-interface-items.ensures ∙ ap (λ (x : Class). x.interfaces) c.class.view_is) (c.loop-interface.interface-index, c.loop-interface-test.true, sym c.interface-item.is) in
    let inside = interface_in_set entries a class c.requires.among s among in
    let k = class_read entries c.index-entries-index.result c.get-index.result s.0 c.get-index.ensures inside in (
      λ _. implements_in entries a class c.requires.among s (get_or entries c.get-index.result c.index-entries-index.result).class among k (λ h. true_false (sym (c.is_interface.ensures.1 h) ∙ c.if-not-is_interface.true)),
      λ _. refl,
    )

pub loop-interface-preserved : goal.loop-interface-preserved
loop-interface-preserved c =
    let entries = c.args.entries.now in
    let xs = c.as_slice-interface-items.result.now in
    let i = c.loop-interface.interface-index in
    let P : ClassId → Type 0 = λ s. (k : Class) → slice_get (classes_of entries) s.0 ≡ Some k → IsInterface k in
    let s : ClassId = c.interface-item.result in
    let among = subst (λ (xs : List ClassId). Contains xs s) (c.as_slice-interface-items.ensures ∙ ap (λ (x : Class). x.interfaces) c.class.view_is) (i, c.loop-interface-test.true, sym c.interface-item.is) in
    let inside = interface_in_set entries c.requires.arranged c.args.class.now c.requires.among s among in
    let read = class_read entries c.index-entries-index.result c.get-index.result s.0 c.get-index.ensures inside in
    All-take_more P xs i s c.loop-interface-test.true c.loop-interface.invariant
    (subst P c.interface-item.is (λ k e. subst IsInterface (same_some (sym read ∙ e)) (c.is_interface.ensures.0 c.if-not-is_interface.false)))

pub returns : goal.returns
returns c =
    let entries = c.args.entries.now in
    let P : ClassId → Type 0 = λ s. (k : Class) → slice_get (classes_of entries) s.0 ≡ Some k → IsInterface k in
    let all = All-whole P c.as_slice-interface-items.result.now c.loop-interface.interface-index c.args.class.now.interfaces c.loop-interface-test.false (c.as_slice-interface-items.ensures ∙ ap (λ (x : Class). x.interfaces) c.class.view_is) c.loop-interface.invariant in (
      λ e. absurd (true_false (sym e)),
      λ x.
          let out = implements_out entries c.requires.arranged c.args.class.now c.requires.among x in
          absurd (out.4 (All-contains P c.args.class.now.interfaces out.0 all out.2 out.1 out.3)),
    )
