use Rattle.std.proofs.Common.{◌≡◌, ◌+◌, inl, Some, subst, sym, arith}
use Rattle.std.specs.Prelude.{IsSomeAnd}
use Rattle.cls_set.specs.Subtypes.{IsDirectSupertype}
use Rattle.cls_set.specs.declared.class.Class.{Class}
use Rattle.cls_link.proofs.NotedCounts.{count_below, count_root, noted, noted_before, own_count}
use Rattle.cls_search.proofs.Heights.{low_ranks, superclass_above}
use Rattle.cls_link.proofs.fields.+count_fields.Goals as goal

pub returns-in-Some-clause-count : goal.returns-in-Some-clause-count
returns-in-Some-clause-count t c =
    noted_before c.args.set.now c.args.class c.args.noted.now.items c.from.result c.index.result.now c.in-Some.count c.requires.noted c.requires.in_set c.from.ensures c.index.ensures c.in-Some.is

pub count_fields-requires : goal.count_fields-requires
count_fields-requires t c =
    let up = superclass_above c.args.set.now c.requires.set c.args.class c.in-Some-superclass.superclass c.class-entry.result.now c.class-entry.ensures c.in-Some-superclass.is in
    (omega (arith, up.lower, c.decreases), (c.requires.set, (up.in_set, c.requires.noted)))

pub overflow_add-count : goal.overflow_add-count
overflow_add-count t c =
    let classes = c.args.set.now in
    let lower = low_ranks classes c.requires.set in
    let up : IsDirectSupertype classes c.args.class c.in-Some-superclass.superclass = inl (subst (λ o. IsSomeAnd o (λ (k : Class). k.superclass ≡ Some c.in-Some-superclass.superclass)) (sym c.class-entry.ensures) c.in-Some-superclass.is) in
    let less = lower.ranking c.args.class c.in-Some-superclass.superclass up in
    let low = lower.low c.args.class in
    let classes_few = c.requires.set.few in
    let inherited = c.count_fields.ensures.count.few lower.rank lower.ranking in
    let own = (own_count c.class-entry.result.now c.as_slice.result.now c.count_instance_fields-own.result c.as_slice.ensures.items c.as_slice.ensures.few c.count_instance_fields-own.ensures) in
    let own_few = own.few in
    omega (arith, less, low, classes_few, inherited, own_few)

pub returns-in-Some-superclass-clause-count : goal.returns-in-Some-superclass-clause-count
returns-in-Some-superclass-clause-count t c =
    count_below c.args.set.now c.args.class c.in-Some-superclass.superclass c.class-entry.result.now c.count_fields.result c.count_instance_fields-own.result c.class-entry.ensures c.in-Some-superclass.is
    c.count_fields.ensures.count (own_count c.class-entry.result.now c.as_slice.result.now c.count_instance_fields-own.result c.as_slice.ensures.items c.as_slice.ensures.few c.count_instance_fields-own.ensures)

pub returns-in-None-clause-count : goal.returns-in-None-clause-count
returns-in-None-clause-count t c =
    count_root c.args.set.now c.args.class c.class-entry.result.now c.count_instance_fields-own.result c.class-entry.ensures c.in-None.is
    (own_count c.class-entry.result.now c.as_slice.result.now c.count_instance_fields-own.result c.as_slice.ensures.items c.as_slice.ensures.few c.count_instance_fields-own.ensures)

pub returns-in-Some-superclass-clause-noted : goal.returns-in-Some-superclass-clause-noted
returns-in-Some-superclass-clause-noted t c =
    noted c.args.set.now c.args.class c.count_fields.new.noted.items c.from-in-Some-superclass.result (c.count_fields.result + c.count_instance_fields-own.result) c.count_fields.ensures.noted
    c.from-in-Some-superclass.ensures c.requires.in_set
    (count_below c.args.set.now c.args.class c.in-Some-superclass.superclass c.class-entry.result.now c.count_fields.result c.count_instance_fields-own.result c.class-entry.ensures c.in-Some-superclass.is
    c.count_fields.ensures.count (own_count c.class-entry.result.now c.as_slice.result.now c.count_instance_fields-own.result c.as_slice.ensures.items c.as_slice.ensures.few c.count_instance_fields-own.ensures))

pub returns-in-None-clause-noted : goal.returns-in-None-clause-noted
returns-in-None-clause-noted t c =
    noted c.args.set.now c.args.class c.args.noted.now.items c.from-in-None.result c.count_instance_fields-own.result c.requires.noted c.from-in-None.ensures c.requires.in_set
    (count_root c.args.set.now c.args.class c.class-entry.result.now c.count_instance_fields-own.result c.class-entry.ensures c.in-None.is
    (own_count c.class-entry.result.now c.as_slice.result.now c.count_instance_fields-own.result c.as_slice.ensures.items c.as_slice.ensures.few c.count_instance_fields-own.ensures))
