-- Frames arrive in the order in which they were sent, and none arrives after one that was lost (this project's own protocol; the Java RMI specification leaves connections to TCP).
use Rattle.std.specs.Prelude.{◌≡◌, ◌⊎◌, ℕ, false, List, [], ◌++◌, Some, slice_get}
use Rattle.net_message.specs.declared.message.Message.{Message}
use Rattle.sp_rules.specs.Classes.{Setting}
use Rattle.sp_rules.specs.State.{is_open}
use Rattle.sp_rules.specs.Worlds.{World, Space, End, Pipe, Phase, Over, WorldEvent, side, other, run, new_world}
use Rattle.sp_order_laws.specs.Delivered.{came_on, sent_on, outputs_at}

-- What came, what is on its way and what was lost are all that was sent, in this order; something was lost only if the end that sent has ended.
pub record AreInOrder (came queue sent : List Message) (phase : Phase) : Type 0 where
  pub lost : List Message
  pub all : came ++ (queue ++ lost) ≡ sent
  pub ended : (lost ≡ []) ⊎ (phase ≡ Over)

-- So at each end of each connection; and at an end that is over its space has the connection no longer open.
pub record LosesTheLast (w : World) : Type 0 where
  pub comes : (conn : ℕ) (p : Pipe) (to : End) → slice_get w.pipes conn ≡ Some p → (s : Space) → slice_get w.spaces (side to p).space ≡ Some s
      → AreInOrder (came_on conn s.history) (side to p).queue (sent_on conn (outputs_at w.spaces (side (other to) p).space)) (side (other to) p).phase
  pub over : (conn : ℕ) (p : Pipe) (end : End) → slice_get w.pipes conn ≡ Some p → (side end p).phase ≡ Over → (s : Space) → slice_get w.spaces (side end p).space ≡ Some s
      → is_open s.state conn ≡ false

-- This holds in every run of every world, whatever is lost or fails.
abbrev pub LostFramesComeLast : Type 0
LostFramesComeLast = (settings : List Setting) (events : List WorldEvent) → LosesTheLast (run (new_world settings) events)
