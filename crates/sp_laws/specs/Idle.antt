-- Connections on which nothing happens: before the Hello nothing is asked or answered, and only the end that dialled asks (this project's own protocol).
use Rattle.std.specs.Prelude.{◌≡◌, ℕ, ◌≤◌, ◌||◌, true, false, is_none, List, Some}
use Rattle.sp_rules.specs.Classes.{Setting}
use Rattle.sp_rules.specs.Events.{Event}
use Rattle.sp_rules.specs.Laws.{AllOf}
use Rattle.sp_rules.specs.Origins.{IsTaken}
use Rattle.sp_rules.specs.ParkedFrames.{is_out_on}
use Rattle.sp_rules.specs.Space.{state_of}
use Rattle.sp_rules.specs.State.{State, Request, Connection, connection_at}
use Rattle.sp_laws.specs.Answered.{is_unasked}
use Rattle.sp_laws.specs.Inbound.{OpensOnce, occurrences_of}

-- If a Hello has not come, or this space dialled, no call of the connection is parked, lives or has a result that waits for its Ack, under
-- any number from 1. If a Hello has not come, or a peer dialled, no request is out and none is answered.
pub record IsIdleWhereUnasked (s : State) : Type 0 where
  pub calls : (conn number : ℕ) (c : Connection) → connection_at s conn ≡ Some c → is_unasked c ≡ true → 1 ≤ number → occurrences_of conn number s ≡ 0
  pub requests : (conn : ℕ) (c : Connection) → connection_at s conn ≡ Some c → is_none c.peer || is_none c.dialled ≡ true → AllOf (λ (q : Request). is_out_on conn q.stage ≡ false) s.requests

-- This holds after every history that a space took, if no number of a connection comes again in it.
abbrev pub UnaskedConnectionsAreIdle : Type 0
UnaskedConnectionsAreIdle = (g : Setting) (h : List Event) → IsTaken g h → OpensOnce h → IsIdleWhereUnasked (state_of g h)
