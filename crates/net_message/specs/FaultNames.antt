-- The number of each fault of the wire. (This project's own.)
use Rattle.std.specs.Prelude.{ℕ}
use Rattle.net_message.specs.declared.fault.WireFault.TheVariants as wire_fault
use Rattle.net_message.specs.declared.fault.WireFault.{WireFault}

-- the number of a fault
abbrev pub wire_fault_number : WireFault → ℕ
wire_fault_number wire_fault.Length = 70
wire_fault_number wire_fault.Kind = 71
wire_fault_number wire_fault.Body = 72
wire_fault_number wire_fault.Trailing = 73
