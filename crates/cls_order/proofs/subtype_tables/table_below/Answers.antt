use Rattle.std.proofs.Common.{◌≡◌, ◌∙◌, inl, Some, None, List, [], ◌∷◌, ◌++◌, length, get_or, take, refl, sym, subst, ap, arith}
use Rattle.std.specs.Prelude.{Contains, slice_get, option_to_list}
use Rattle.std.proofs.lemmas.List.{take_all, take_more}
use Rattle.std.proofs.lemmas.List.Elements.{Contains-append_left}
use Rattle.space_ids.specs.declared.ids.ClassId.{ClassId}
use Rattle.cls_order.specs.declared.class.Class.{Class}
use Rattle.cls_order.specs.Entries.{classes_of}
use Rattle.cls_order.specs.Subtypes.{IsDirectSupertype}
use Rattle.cls_order.specs.Telling.{IsTelling}
use Rattle.cls_order.specs.Walks.{ups_of}
use Rattle.cls_order.proofs.Heights.{long_classes}
use Rattle.cls_order.proofs.Hierarchy.{class_read, some_and}
use Rattle.cls_order.proofs.SubtypeTables.{direct_low, tells_all}
use Rattle.cls_order.proofs.Walks.{of_class}
use Rattle.cls_order.proofs.subtype_tables.table_below.Goals as goal
use Rattle.cls_order.proofs.subtype_tables.table_below.Goals.{in-Some, in_default}

append_none : (xs : List ClassId) → xs ++ [] ≡ xs
append_none [] = refl
append_none (x ∷ xs) = ap (λ ys. x ∷ ys) (append_none xs)

pub add_supertype-requires-clause-in_set : goal.add_supertype-requires-clause-in_set
add_supertype-requires-clause-in_set c =
    let entries = c.args.entries.now in
    let classes = classes_of entries in
    let k = c.args.index in
    let m = get_or entries k c.index-entries-index.result in
    let here : slice_get classes k ≡ Some m.class = class_read entries c.index-entries-index.result k k refl c.requires.in_set in
    let item = c.interface-item.result in
    let items = c.as_slice-interface-items.ensures ∙ ap (λ (x : Class). x.interfaces) c.class.view_is in
    let among : Contains m.class.interfaces item = subst (λ xs. Contains xs item) items (c.loop-interface.interface-index, c.loop-interface-test.true, sym c.interface-item.is) in
    let direct : IsDirectSupertype classes (record { 0 = k }) item = of_class classes (record { 0 = k }) item m.class here (Contains-append_left m.class.interfaces (option_to_list m.class.superclass) item among) in
    let low = direct_low (length entries) classes (record { 0 = k }) item c.requires.within direct in
    omega (arith, low, c.requires.one_each)

pub add_supertype-requires-clause-long : goal.add_supertype-requires-clause-long
add_supertype-requires-clause-long c =
    let entries = c.args.entries.now in
    let classes = classes_of entries in
    let k = c.args.index in
    let m = get_or entries k c.index-entries-index.result in
    let here : slice_get classes k ≡ Some m.class = class_read entries c.index-entries-index.result k k refl c.requires.in_set in
    let item = c.interface-item.result in
    let items = c.as_slice-interface-items.ensures ∙ ap (λ (x : Class). x.interfaces) c.class.view_is in
    let among : Contains m.class.interfaces item = subst (λ xs. Contains xs item) items (c.loop-interface.interface-index, c.loop-interface-test.true, sym c.interface-item.is) in
    let direct : IsDirectSupertype classes (record { 0 = k }) item = of_class classes (record { 0 = k }) item m.class here (Contains-append_left m.class.interfaces (option_to_list m.class.superclass) item among) in
    let table = c.requires.above item direct in
    table.long ∙ (long_classes entries ∙ sym c.requires.one_each)

pub loop-interface-preserved : goal.loop-interface-preserved
loop-interface-preserved c =
    let entries = c.args.entries.now in
    let classes = classes_of entries in
    let k = c.args.index in
    let m = get_or entries k c.index-entries-index.result in
    let here : slice_get classes k ≡ Some m.class = class_read entries c.index-entries-index.result k k refl c.requires.in_set in
    let item = c.interface-item.result in
    let all = c.as_slice-interface-items.result.now in
    let i = c.loop-interface.interface-index in
    let items = c.as_slice-interface-items.ensures ∙ ap (λ (x : Class). x.interfaces) c.class.view_is in
    let among : Contains m.class.interfaces item = subst (λ xs. Contains xs item) items (i, c.loop-interface-test.true, sym c.interface-item.is) in
    let direct : IsDirectSupertype classes (record { 0 = k }) item = of_class classes (record { 0 = k }) item m.class here (Contains-append_left m.class.interfaces (option_to_list m.class.superclass) item among) in
    let more = take_more all i item c.loop-interface-test.true ∙ ap (λ x. take i all ++ x ∷ []) (sym c.interface-item.is) in (
      c.add_supertype.ensures.long ∙ c.loop-interface.invariant.0,
      subst (λ xs. IsTelling classes (record { 0 = k }) xs c.add_supertype.new.table) (sym more)
          (c.add_supertype.ensures.told classes (record { 0 = k }) (take i all) c.loop-interface.invariant.1 direct (c.requires.above item direct)),
    )

pub add_supertype-requires-in-Some-clause-in_set : goal.add_supertype-requires-in-Some-clause-in_set
add_supertype-requires-in-Some-clause-in_set c =
    let entries = c.args.entries.now in
    let classes = classes_of entries in
    let k = c.args.index in
    let m = get_or entries k c.index-entries-index.result in
    let here : slice_get classes k ≡ Some m.class = class_read entries c.index-entries-index.result k k refl c.requires.in_set in
    let s = c.in-Some.superclass in
    let up : m.class.superclass ≡ Some s = sym (ap (λ (x : Class). x.superclass) c.class.view_is) ∙ c.in-Some.is in
    let direct : IsDirectSupertype classes (record { 0 = k }) s = inl (some_and (slice_get classes k) (λ (x : Class). x.superclass ≡ Some s) m.class here up) in
    let low = direct_low (length entries) classes (record { 0 = k }) s c.requires.within direct in
    omega (arith, low, c.requires.one_each)

pub add_supertype-requires-in-Some-clause-long : goal.add_supertype-requires-in-Some-clause-long
add_supertype-requires-in-Some-clause-long c =
    let entries = c.args.entries.now in
    let classes = classes_of entries in
    let k = c.args.index in
    let m = get_or entries k c.index-entries-index.result in
    let here : slice_get classes k ≡ Some m.class = class_read entries c.index-entries-index.result k k refl c.requires.in_set in
    let s = c.in-Some.superclass in
    let up : m.class.superclass ≡ Some s = sym (ap (λ (x : Class). x.superclass) c.class.view_is) ∙ c.in-Some.is in
    let direct : IsDirectSupertype classes (record { 0 = k }) s = inl (some_and (slice_get classes k) (λ (x : Class). x.superclass ≡ Some s) m.class here up) in
    (c.requires.above s direct).long ∙ (long_classes entries ∙ sym c.requires.one_each)

pub returns : goal.returns
returns c =
    let entries = c.args.entries.now in
    let classes = classes_of entries in
    let k = c.args.index in
    let m = get_or entries k c.index-entries-index.result in
    let here : slice_get classes k ≡ Some m.class = class_read entries c.index-entries-index.result k k refl c.requires.in_set in
    let all = c.as_slice-interface-items.result.now in
    let items = c.as_slice-interface-items.ensures ∙ ap (λ (x : Class). x.interfaces) c.class.view_is in
    let inv = c.loop-interface.invariant in
    let whole : take c.loop-interface.interface-index all ≡ m.class.interfaces = take_all c.loop-interface.interface-index all c.loop-interface-test.false ∙ items in
    let telling = subst (λ xs. IsTelling classes (record { 0 = k }) xs c.loop-interface.table) whole inv.1 in
    let long = inv.0 ∙ sym (long_classes entries) in
    elim c.match-class.branch [
      | in-Some w ↦
          let s = w.in-Some.superclass in
          let up : m.class.superclass ≡ Some s = sym (ap (λ (x : Class). x.superclass) c.class.view_is) ∙ w.in-Some.is in
          let direct : IsDirectSupertype classes (record { 0 = k }) s = inl (some_and (slice_get classes k) (λ (x : Class). x.superclass ≡ Some s) m.class here up) in
          let ups = ap (λ o. m.class.interfaces ++ option_to_list o) (sym up) ∙ ap ups_of (sym here) in
          rw w.table-is
          (tells_all classes k w.add_supertype-in-Some.new.table (w.add_supertype-in-Some.ensures.long ∙ long)
          (subst (λ xs. IsTelling classes (record { 0 = k }) xs w.add_supertype-in-Some.new.table) ups (w.add_supertype-in-Some.ensures.told classes (record { 0 = k }) m.class.interfaces telling direct (c.requires.above s direct))))
      | in_default w ↦
          let up : m.class.superclass ≡ None = sym (ap (λ (x : Class). x.superclass) c.class.view_is) ∙ w.in_default.is in
          let ups = sym (append_none m.class.interfaces) ∙ (ap (λ o. m.class.interfaces ++ option_to_list o) (sym up) ∙ ap ups_of (sym here)) in
          rw w.table-is (tells_all classes k c.loop-interface.table long (subst (λ xs. IsTelling classes (record { 0 = k }) xs c.loop-interface.table) ups telling))
    ]
