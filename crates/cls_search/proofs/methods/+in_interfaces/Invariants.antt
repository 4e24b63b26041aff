use Rattle.std.proofs.Common.{None, take}
use Rattle.cls_search.specs.Searches.{Finds, FindNothing, supertypes_of}
use Rattle.cls_search.specs.MethodSearches.{own_method, own_of_interface}
use Rattle.cls_search.proofs.Heights.{height_of}
use Rattle.cls_search.proofs.methods.+in_interfaces.Given as goal

abbrev pub decreases-in_interfaces : goal.decreases-in_interfaces
decreases-in_interfaces l = height_of l.set.now l.class

-- nothing is found in the superinterfaces so far, and from the marked ones
abbrev pub invariant-superinterfaces : goal.invariant-superinterfaces
invariant-superinterfaces l =
    Finds (supertypes_of l.set) (own_of_interface l.set (own_method l.set l.name l.descriptor)) (take l.superinterface-index l.superinterface-items) None
    × FindNothing (supertypes_of l.set) (own_of_interface l.set (own_method l.set l.name l.descriptor)) l.marks
