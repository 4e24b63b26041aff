use Rattle.std.proofs.Common.{◌≡◌}
use Rattle.std.specs.Prelude.{filter}
use Rattle.vm_code.specs.Classes.{is_remote_interface}
use Rattle.sp_call_set.proofs.calls.list_remote_interfaces.Given as goal
use Rattle.sp_call_set.specs.Calls.{first_classes}

-- the remote interfaces among the first classes
abbrev pub invariant-loop-number : goal.invariant-loop-number
invariant-loop-number l = l.interfaces.items ≡ filter (is_remote_interface l.set) (first_classes l.number)
