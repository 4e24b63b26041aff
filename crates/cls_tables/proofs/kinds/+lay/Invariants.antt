use Rattle.cls_search.proofs.Heights.{height_of}
use Rattle.cls_tables.proofs.kinds.+lay.Given as goal

abbrev pub decreases-lay : goal.decreases-lay
decreases-lay l = height_of l.set.now l.class
