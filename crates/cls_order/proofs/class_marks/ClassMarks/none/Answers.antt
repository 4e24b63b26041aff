use Rattle.std.proofs.Common.{◌+◌, ◌/◌, refl}
use Rattle.cls_order.proofs.Bits.{none_marked}
use Rattle.cls_order.proofs.class_marks.ClassMarks.none.Goals as goal

pub returns : goal.returns
returns c = rw (c.in_ok-words.ensures.items_if_clones_equal (λ y e. e)) (none_marked (c.args.count / 64 + 1) c.args.count refl)
