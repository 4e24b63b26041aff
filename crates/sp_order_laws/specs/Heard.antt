-- What an owner is told of its objects came: each dirty and clean call on its reference lists came in a frame, from the space that the connection's Hello named (Java RMI specification, 9.1: `DGC.dirty` and `DGC.clean`).
use Rattle.std.specs.Prelude.{ℕ, List}
use Rattle.dgc_list.specs.History as owner
use Rattle.net_message.specs.declared.message.Message.TheVariants as message
use Rattle.sp_rules.specs.Classes.{Setting}
use Rattle.sp_rules.specs.Events.{Event}
use Rattle.sp_rules.specs.Laws.{AllOf}
use Rattle.sp_rules.specs.Worlds.{Space, WorldEvent, run, new_world}
use Rattle.sp_order_laws.specs.Delivered.{came_on}
use Rattle.sp_order_laws.specs.Ends.{IsOneOf}
use Rattle.sp_order_laws.specs.Rising.{sequence_numbers}

-- A call of this number came from the client: on a connection on which its Hello came.
pub record CameFrom (h : List Event) (client : List ℕ) (number : ℕ) : Type 0 where
  pub conn : ℕ
  pub frame : IsOneOf number (sequence_numbers (came_on conn h))
  pub version : ℕ
  pub digest : List ℕ
  pub hello : IsOneOf (message.Hello version client digest) (came_on conn h)

abbrev pub IsHeard : List Event → owner.Call → Type 0
IsHeard h (owner.Dirty client objects number period) = CameFrom h client number
IsHeard h (owner.Clean client objects number strong) = CameFrom h client number
IsHeard h (owner.Moment moment) = Unit {0}
IsHeard h (owner.Forget object) = Unit {0}

-- So of each space in every run of every world, whatever is lost or fails.
abbrev pub OwnersHearWhatCame : Type 0
OwnersHearWhatCame = (settings : List Setting) (events : List WorldEvent) → AllOf (λ (s : Space). AllOf (IsHeard s.history) s.state.owner.entries) (run (new_world settings) events).spaces
