-- The machines of a space, by the ids of their tasks. (This project's own.)
use Rattle.std.specs.Prelude.{ℕ, nat_eq, Option}
use Rattle.std.specs.Map.{lookup}
use Rattle.sp_machines.specs.Players.{Played}
use Rattle.sp_space.specs.declared.machines.Machines.{Machines}

-- the machine of a task, if it has one
abbrev pub machine_at : ℕ → Machines → Option Played
machine_at id machines = lookup (nat_eq id) machines.rows.entries
