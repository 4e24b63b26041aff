-- The table of the hand-shake: which frames may be under way along a connection, at each of its stages (this project's own protocol).
use Rattle.std.specs.Prelude.{◌≡◌, ◌⊎◌, ℕ, true, false, List, [], ◌++◌, None, Some, slice_get}
use Rattle.net_message.specs.declared.message.Message.{Message}
use Rattle.uuid.specs.declared.Uuid.{Uuid}
use Rattle.sp_rules.specs.Classes.{Setting}
use Rattle.sp_rules.specs.State.{Connection, connection_at}
use Rattle.sp_rules.specs.Worlds.{World, Space, End, Pipe, Over, WorldEvent, side, other, run, new_world}
use Rattle.sp_laws.specs.Inbound.{opened}
use Rattle.sp_order_laws.specs.Hellos.{NoHellos, BeginsWithHello, SaysEarly, SaysFirst, says_late}

-- At the end to which frames come the connection is open, and no Hello came.
pub record HasNotHeard (s : Space) (conn : ℕ) : Type 0 where
  pub row : Connection
  pub there : connection_at s.state conn ≡ Some row
  pub none : row.peer ≡ None

-- It is open, and a Hello came.
pub record HasHeard (s : Space) (conn : ℕ) : Type 0 where
  pub row : Connection
  pub peer : Uuid
  pub there : connection_at s.state conn ≡ Some row
  pub some : row.peer ≡ Some peer

-- Toward an end, of the space there and of the other end's: what is on its way, and what was lost after it.
pub record IsInTable (s there : Space) (conn : ℕ) (queue lost : List Message) : Type 0 where
  -- the other end has not opened: nothing
  pub unopened : opened conn there.history ≡ false → queue ++ lost ≡ []
  -- the other end has, and no Hello came here: its Hello first, and then no other
  pub first : opened conn there.history ≡ true → HasNotHeard s conn → BeginsWithHello there.setting (queue ++ lost)
  -- which is there, if it says that early
  pub early : SaysEarly there conn → HasNotHeard s conn → queue ++ lost ≡ [] → ⊥
  -- nor did one come there: its Hello alone, or nothing if it says that late
  pub alone : (n : HasNotHeard there conn) → HasNotHeard s conn → SaysFirst there.setting (says_late there.setting n.row.dialled) (queue ++ lost)
  -- a Hello came here: no other is under way, and none at all before one came there
  pub later : HasHeard s conn → NoHellos (queue ++ lost)
  pub answered : HasHeard s conn → HasNotHeard there conn → queue ++ lost ≡ []

-- So toward each end of each connection; something was lost only if the other end is over.
pub record IsHandShake (w : World) (conn : ℕ) (p : Pipe) (to : End) (s there : Space) : Type 0 where
  pub lost : List Message
  pub ended : (lost ≡ []) ⊎ ((side (other to) p).phase ≡ Over)
  pub table : IsInTable s there conn (side to p).queue lost

-- This holds in every run of every world, whatever is lost or fails.
abbrev pub HandShakesAreInTable : Type 0
HandShakesAreInTable = (settings : List Setting) (events : List WorldEvent) (conn : ℕ) (p : Pipe) (to : End) (s there : Space) → slice_get (run (new_world settings) events).pipes conn ≡ Some p
    → slice_get (run (new_world settings) events).spaces (side to p).space ≡ Some s → slice_get (run (new_world settings) events).spaces (side (other to) p).space ≡ Some there → IsHandShake (run (new_world settings) events) conn p to s there
