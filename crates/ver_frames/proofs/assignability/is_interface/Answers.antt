use Rattle.std.proofs.Common.{arith}
use Rattle.ver_frames.proofs.AssignableTests.{interface_at, interface_past}
use Rattle.ver_frames.proofs.assignability.is_interface.Goals as goal

pub returns-then-from-len : goal.returns-then-from-len
returns-then-from-len c =
    let past = interface_past c.args.classes.now c.args.class (omega arith) in
    record { decides = past.0; test = past.1 }

pub returns : goal.returns
returns c =
    let at = interface_at c.args.classes.now c.args.class c.class.result.now c.is_interface.result c.class.ensures c.is_interface.ensures in
    record { decides = at.0; test = at.1 }
