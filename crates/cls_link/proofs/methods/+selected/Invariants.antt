use Rattle.cls_search.proofs.Heights.{height_of}
use Rattle.cls_link.proofs.methods.+selected.Given as goal

abbrev pub decreases-selected : goal.decreases-selected
decreases-selected l = height_of l.linked.now.classes l.class
