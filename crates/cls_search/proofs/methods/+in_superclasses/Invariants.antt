use Rattle.cls_search.proofs.Heights.{height_of}
use Rattle.cls_search.proofs.methods.+in_superclasses.Given as goal

abbrev pub decreases-in_superclasses : goal.decreases-in_superclasses
decreases-in_superclasses l = height_of l.set.now l.class
