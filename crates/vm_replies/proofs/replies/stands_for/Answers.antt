use Rattle.std.proofs.Common.{List}
use Rattle.cls_set.specs.declared.class.Class.{Class}
use Rattle.space_ids.specs.declared.ids.ClassId.{ClassId}
use Rattle.ver_frames.specs.Assignable.{IsAssignable, IsObjectAssignable}
use Rattle.ver_frames.specs.declared.vtype.VType.TheVariants as vtype
use Rattle.vm_replies.proofs.replies.stands_for.Goals as goal

of_objects : (classes : List Class) (given asked : ClassId) → IsAssignable classes (vtype.Object given) (vtype.Object asked) → IsObjectAssignable classes given asked
unfolding IsAssignable
of_objects classes given asked is = is

pub returns-then-is_known-clause-stands : goal.returns-then-is_known-clause-stands
returns-then-is_known-clause-stands c = λ is. of_objects c.args.set.now c.args.given c.args.class (c.assignable.ensures.decides.0 is)
