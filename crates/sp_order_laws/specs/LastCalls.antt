-- The last call of a connection: a call or lookup comes with a number above the last that came there, so its connection is not closed for it (this project's own protocol: numbers of calls rise along a connection).
use Rattle.std.specs.Prelude.{◌≡◌, ◌⊎◌, ℕ, ◌+◌, ◌≤◌, List, Some}
use Rattle.sp_rules.specs.Classes.{Setting}
use Rattle.sp_rules.specs.Events.{Event}
use Rattle.sp_rules.specs.Laws.{AllOf}
use Rattle.sp_rules.specs.Space.{state_of}
use Rattle.sp_rules.specs.State.{Connection, connection_at}
use Rattle.sp_rules.specs.Worlds.{World, Space, Pipe, WorldEvent, run, new_world}
use Rattle.sp_order_laws.specs.Delivered.{came_on}
use Rattle.sp_order_laws.specs.Ends.{IsOneOf}
use Rattle.sp_order_laws.specs.Places.{IsBetween}
use Rattle.sp_order_laws.specs.Rising.{call_numbers}

-- The last number of a connection is that of a call or lookup that came there, or 0.
abbrev pub LastCame : List Event → Connection → Type 0
LastCame h c = (c.last ≡ 0) ⊎ IsOneOf c.last (call_numbers (came_on c.number h))

-- So of each open connection after every history.
abbrev pub LastCallsCame : Type 0
LastCallsCame = (g : Setting) (h : List Event) → AllOf (LastCame h) (state_of g h).connections

-- A call or lookup that is on its way has a number above the last of its connection where it comes.
abbrev pub IsAboveTheLast : World → Type 0
IsAboveTheLast w = (conn k : ℕ) (p : Pipe) (a b : Space) (c : Connection) → IsBetween w conn p a b → connection_at b.state conn ≡ Some c → IsOneOf k (call_numbers p.accepter.queue) → c.last + 1 ≤ k

-- So in every run of every world, whatever is lost or fails.
abbrev pub CallsComeAboveTheLast : Type 0
CallsComeAboveTheLast = (settings : List Setting) (events : List WorldEvent) → IsAboveTheLast (run (new_world settings) events)
