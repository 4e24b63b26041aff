use Rattle.cls_search.proofs.Heights.{height_of}
use Rattle.cls_link.proofs.fields.+count_fields.Given as goal

abbrev pub decreases-count_fields : goal.decreases-count_fields
decreases-count_fields l = height_of l.set.now l.class
