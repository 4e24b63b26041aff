-- Room for the due calls, made before they are known: an event that reserves it first cannot fail at its end. (This project's own; which
-- calls are due is the Java RMI specification's, 9.1.)
use Rattle.std.specs.Prelude.{◌≤◌, ℕ, List, vec_capacity}
use Rattle.dgc_client.specs.declared.due_calls.DueCalls.{DueCalls}
use Rattle.dgc_client.specs.declared.groups.DueCall.{DueCall}

-- the calls, in the order in which they are made
abbrev pub calls_in : DueCalls → List DueCall
calls_in due = due.ordered.items

-- there is room for `calls` calls
pub record HasRoomFor (calls : ℕ) (due : DueCalls) : Type 0 where
  pub found : calls ≤ vec_capacity due.found
  pub peers : calls ≤ vec_capacity due.peers
  pub ordered : calls ≤ vec_capacity due.ordered
