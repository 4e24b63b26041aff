use Rattle.std.proofs.Common.{[], sym, subst, arith}
use Rattle.std.specs.Prelude.{Contains, slice_index_or}
use Rattle.std.proofs.lemmas.List.Elements.{Contains-get_or}
use Rattle.space_ids.specs.declared.ids.ClassId.{ClassId}
use Rattle.cls_search.specs.Searches as searches
use Rattle.cls_search.specs.Searches.{supertypes_of}
use Rattle.cls_search.specs.MethodSearches.{own_method, own_of_interface}
use Rattle.cls_search.proofs.Found.{through_interface, interface_passed, through_superclass, through_none}
use Rattle.cls_search.proofs.Heights.{superclass_above, interface_above}
use Rattle.cls_search.proofs.Marked.{marked_more}
use Rattle.cls_search.proofs.methods.+in_interfaces.Goals as goal

pub returns-in-Some-clause-found : goal.returns-in-Some-clause-found
returns-in-Some-clause-found t c = searches.Finds.here c.args.class [] c.in-Some.method (sym c.in-Some.ensures.found)

pub superinterfaces-init : goal.superinterfaces-init
superinterfaces-init t c = (searches.Finds.nothing, c.requires.marked)

pub in_interfaces-requires : goal.in_interfaces-requires
in_interfaces-requires t c =
    let classes = c.args.set.now in
    let items = c.as_slice-superinterface-items.result.now in
    let i = c.superinterfaces.superinterface-index in
    let s : ClassId = slice_index_or items i (record { 0 = 0 }) in
    let among = Contains-get_or items i (record { 0 = 0 }) c.superinterfaces-test.true in
    let up = interface_above classes c.requires.set c.args.class s c.class-entry.result.now c.class-entry.ensures (subst (λ xs. Contains xs s) c.as_slice-superinterface-items.ensures among) in
    (omega (arith, up.lower, c.decreases), (c.requires.set, (up.in_set, c.superinterfaces.invariant.1)))

pub returns-in-Some-in_interfaces-clause-found : goal.returns-in-Some-in_interfaces-clause-found
returns-in-Some-in_interfaces-clause-found t c =
    let classes = c.args.set.now in
    through_interface classes (own_of_interface classes (own_method classes c.args.name.now c.args.descriptor.now)) c.args.class c.class-entry.result.now c.class-entry.ensures
    c.as_slice-superinterface-items.result.now c.as_slice-superinterface-items.ensures c.superinterfaces.superinterface-index (record { 0 = 0 }) c.in-Some-in_interfaces.method
    c.superinterfaces-test.true (sym c.in_default.ensures.found) c.superinterfaces.invariant.0 c.in-Some-in_interfaces.ensures.found

pub superinterfaces-preserved : goal.superinterfaces-preserved
superinterfaces-preserved t c =
    let classes = c.args.set.now in
    let items = c.as_slice-superinterface-items.result.now in (
      interface_passed classes (own_of_interface classes (own_method classes c.args.name.now c.args.descriptor.now)) c.args.class c.class-entry.result.now c.class-entry.ensures
          items c.as_slice-superinterface-items.ensures c.superinterfaces.superinterface-index (record { 0 = 0 })
          c.superinterfaces-test.true c.superinterfaces.invariant.0 c.in_default-in_interfaces.ensures.found,
      marked_more (supertypes_of classes) (own_of_interface classes (own_method classes c.args.name.now c.args.descriptor.now)) _ _ (slice_index_or items c.superinterfaces.superinterface-index (record { 0 = 0 }))
          c.in_default-in_interfaces.ensures.marked c.in_default-in_interfaces.ensures.found c.mark.ensures,
    )

pub in_interfaces-requires-in-Some-superclass : goal.in_interfaces-requires-in-Some-superclass
in_interfaces-requires-in-Some-superclass t c =
    let classes = c.args.set.now in
    let up = superclass_above classes c.requires.set c.args.class c.in-Some-superclass.superclass c.class-entry.result.now c.class-entry.ensures c.in-Some-superclass.is in
    (omega (arith, up.lower, c.decreases), (c.requires.set, (up.in_set, c.superinterfaces.invariant.1)))

pub returns-in-Some-superclass-clause-found : goal.returns-in-Some-superclass-clause-found
returns-in-Some-superclass-clause-found t c =
    let classes = c.args.set.now in
    through_superclass classes (own_of_interface classes (own_method classes c.args.name.now c.args.descriptor.now)) c.args.class c.class-entry.result.now c.class-entry.ensures
    c.as_slice-superinterface-items.result.now c.as_slice-superinterface-items.ensures c.superinterfaces.superinterface-index c.in-Some-superclass.superclass _
    c.superinterfaces-test.false (sym c.in_default.ensures.found) c.in-Some-superclass.is c.superinterfaces.invariant.0 c.in_interfaces-in-Some-superclass.ensures.found

pub returns-in-None-clause-found : goal.returns-in-None-clause-found
returns-in-None-clause-found t c =
    let classes = c.args.set.now in
    through_none classes (own_of_interface classes (own_method classes c.args.name.now c.args.descriptor.now)) c.args.class c.class-entry.result.now c.class-entry.ensures
    c.as_slice-superinterface-items.result.now c.as_slice-superinterface-items.ensures c.superinterfaces.superinterface-index
    c.superinterfaces-test.false (sym c.in_default.ensures.found) c.in-None.is c.superinterfaces.invariant.0
