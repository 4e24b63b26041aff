-- The connections of a world and their queues, as the rules of spaces tell them. (This project's own.)
use Rattle.std.specs.Prelude.{◌≡◌, ℕ, ◌-◌, ◌≤◌, Bool, true, false, List, [], ◌∷◌, Option, None, Some, length, map, position, slice_get, take, vec_len, if◌then◌else◌}
use Rattle.std.specs.List.{list_any}
use Rattle.std.specs.Vec.{vec_capacity}
use Rattle.net_message.specs.declared.message.Message.{Message}
use Rattle.sp_rules.specs.Worlds as rules
use Rattle.sp_rules.specs.Worlds.{is_ended, is_live, is_unopened, lost, may_deliver, side}
use Rattle.sp_pipes.specs.declared.pipe.End.{End}
use Rattle.sp_pipes.specs.declared.pipe.End.TheVariants as end
use Rattle.sp_pipes.specs.declared.pipe.Phase.{Phase}
use Rattle.sp_pipes.specs.declared.pipe.Phase.TheVariants as phase
use Rattle.sp_pipes.specs.declared.pipe.Side.{Side}
use Rattle.sp_pipes.specs.declared.pipe.Pipe.{Pipe}
use Rattle.sp_pipes.specs.declared.pipes.Pipes.{Pipes}

-- ---- as the rules name them

abbrev pub end_of : End → rules.End
end_of end.Dialler = rules.Dialler
end_of end.Accepter = rules.Accepter

abbrev pub phase_of : Phase → rules.Phase
phase_of phase.Unopened = rules.Unopened
phase_of phase.Live = rules.Live
phase_of phase.Over = rules.Over

abbrev pub side_of : Side → rules.Side
side_of s = record { space = s.space; phase = phase_of s.phase; queue = s.queue.items }

abbrev pub pipe_of : Pipe → rules.Pipe
pipe_of p = record { dialler = side_of p.dialler; accepter = side_of p.accepter }

-- ---- what can be seen of a connection that may be there

abbrev pub first_of : List Message → Option Message
first_of [] = None
first_of (m ∷ ms) = Some m

-- the space at an end that gets events
abbrev pub live_space : rules.End → Option rules.Pipe → Option ℕ
live_space at None = None
live_space at (Some p) = if is_live (side at p).phase then Some (side at p).space else None

-- the space that was dialled, if the connection waits to be accepted
abbrev pub unopened_space : Option rules.Pipe → Option ℕ
unopened_space None = None
unopened_space (Some p) = if is_unopened p.accepter.phase then Some p.accepter.space else None

-- the first frame that comes towards an end
abbrev pub front_at : rules.End → Option rules.Pipe → Option Message
front_at to None = None
front_at to (Some p) = first_of (side to p).queue

-- whether an end has ended
abbrev pub comes_over : rules.End → Option rules.Pipe → Bool
comes_over at None = false
comes_over at (Some p) = is_ended (side at p).phase

-- whether a Deliver fits
abbrev pub has_frames_or_end : rules.End → Option rules.Pipe → Bool
has_frames_or_end to None = false
has_frames_or_end to (Some p) = may_deliver to p

-- how many of the last frames are lost
abbrev pub lost_at : ℕ → rules.End → Option rules.Pipe → ℕ
lost_at unsent at None = 0
lost_at unsent at (Some p) = lost unsent at p

-- ---- all connections

-- whether a connection waits to be accepted
abbrev pub waits : rules.Pipe → Bool
waits p = is_unopened p.accepter.phase

abbrev pub waits_at : Option rules.Pipe → Bool
waits_at None = true
waits_at (Some p) = waits p

-- the lowest that does
abbrev pub lowest_waiting : List rules.Pipe → Option ℕ
lowest_waiting pipes = position waits pipes

-- The connections are those of the rules. Below the lowest that waits to be accepted none does; it does, or there is none.
pub record ArePipes (pipes : List rules.Pipe) (table : Pipes) : Type 0 where
  pub rows : map pipe_of table.rows.items ≡ pipes
  pub below : list_any waits (take table.unaccepted pipes) ≡ false
  pub stands : waits_at (slice_get pipes table.unaccepted) ≡ true
  pub within : table.unaccepted ≤ length pipes

-- for how many more connections there is room
abbrev pub room : Pipes → ℕ
room table = vec_capacity table.rows - vec_len table.rows
