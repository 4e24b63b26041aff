use Rattle.std.proofs.Common.{◌≡◌, ◌≤◌, ◌-◌, false, length, map, take, vec_len}
use Rattle.std.specs.List.{list_any}
use Rattle.sp_pipes.specs.Connections.{pipe_of, waits}
use Rattle.sp_pipes.proofs.pipes.Pipes.advance.Given as goal

abbrev pub invariant-up : goal.invariant-up
invariant-up l = record {
  rows : l.self.rows ≡ l.initial.self.rows;
  within : l.initial.self.unaccepted ≤ length l.initial.self.rows.items → l.self.unaccepted ≤ length l.self.rows.items;
  below : list_any waits (take l.initial.self.unaccepted (map pipe_of l.initial.self.rows.items)) ≡ false → list_any waits (take l.self.unaccepted (map pipe_of l.self.rows.items)) ≡ false;
}

abbrev pub decreases-up : goal.decreases-up
decreases-up l = vec_len l.self.rows - l.self.unaccepted
