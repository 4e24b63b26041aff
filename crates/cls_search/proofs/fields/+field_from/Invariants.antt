use Rattle.std.proofs.Common.{None, take}
use Rattle.cls_search.specs.FieldSearches.{own_field}
use Rattle.cls_search.specs.Searches.{Finds, FindNothing, supertypes_of}
use Rattle.cls_search.proofs.Heights.{height_of}
use Rattle.cls_search.proofs.fields.+field_from.Given as goal

abbrev pub decreases-field_from : goal.decreases-field_from
decreases-field_from l = height_of l.set.now l.class

-- nothing is found in the superinterfaces so far, and from the marked ones
abbrev pub invariant-superinterfaces : goal.invariant-superinterfaces
invariant-superinterfaces l =
    Finds (supertypes_of l.set) (own_field l.set l.name l.descriptor) (take l.superinterface-index l.superinterface-items) None
    × FindNothing (supertypes_of l.set) (own_field l.set l.name l.descriptor) l.marks
