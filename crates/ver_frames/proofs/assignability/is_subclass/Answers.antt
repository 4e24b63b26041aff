use Rattle.std.proofs.Common.{◌↔◌, IsTrue, arith}
use Rattle.cls_set.specs.Subtypes.{IsSubclass}
use Rattle.ver_frames.proofs.AssignableTests.{below_test}
use Rattle.ver_frames.proofs.Subclasses.{outside_decides}
use Rattle.ver_frames.proofs.assignability.is_subclass.Goals as goal

pub returns-then-from-len : goal.returns-then-from-len
returns-then-from-len c =
    let classes = c.args.classes.now in
    let decides : IsTrue c.eq.result ↔ IsSubclass classes c.args.given c.args.asked = outside_decides classes c.args.given c.args.asked c.eq.result (omega arith) c.eq.ensures in
    record { decides = decides; test = below_test classes c.len.ensures.set c.args.given c.args.asked c.eq.result decides }

pub returns : goal.returns
returns c =
    record { decides = c.is_subclass.ensures; test = below_test c.args.classes.now c.len.ensures.set c.args.given c.args.asked c.is_subclass.result c.is_subclass.ensures }
