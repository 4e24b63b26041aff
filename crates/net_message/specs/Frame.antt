-- What making a frame of a message answers: the frame, or a fault if a field is out of its range. (This project's own.)
use Rattle.std.specs.Prelude.{◌≡◌, Result, Ok, Err}
use Rattle.net_message.specs.declared.fault.WireFault.{WireFault}
use Rattle.net_message.specs.declared.fault.WireFault.TheVariants as faults
use Rattle.net_message.specs.declared.message.Message.{Message}
use Rattle.net_message.specs.Wire.{IsInRange}

-- the frame says the message exactly if each field is in its range
abbrev pub MakesFrame : Message → Result Message WireFault → Type 0
MakesFrame message (Ok made) = (made ≡ message) × IsInRange message
MakesFrame message (Err fault) = (fault ≡ faults.Body) × ¬ (IsInRange message)
