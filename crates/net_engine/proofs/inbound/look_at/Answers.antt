use Rattle.net_frames.specs.Stream.{Breaks}
use Rattle.net_engine.proofs.Moves.{at_once}
use Rattle.net_engine.proofs.inbound.look_at.Goals as goal

pub returns-in-Err-Fault : goal.returns-in-Err-Fault
returns-in-Err-Fault c =
    let breaks : Breaks c.in-Err-Fault.fault c.args.held.now = rw c.in-Err-Fault.field-0-is at c.in-Err-Fault.ensures in
    (breaks, at_once c.in-Err-Fault.fault c.args.held.now c.requires breaks)
