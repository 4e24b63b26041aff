use Rattle.cls_search.proofs.Heights.{height_of}
use Rattle.cls_tables.proofs.choices.+choose.Given as goal

abbrev pub decreases-choose : goal.decreases-choose
decreases-choose l = height_of l.linked.now.classes l.class
