-- Fuel, each unit counted once: what was executed, what tasks have left, and what frames on their way lend or give back. (This project's
-- own rule.)
use Rattle.std.specs.Prelude.{ℕ, ◌+◌}
use Rattle.net_message.specs.declared.message.Message.{Message}
use Rattle.net_message.specs.declared.message.Message.TheVariants as message
use Rattle.sp_rules.specs.Events.{Event, Root, Received, Output, Send, Note, output_of}
use Rattle.sp_rules.specs.Lists.{total}
use Rattle.sp_rules.specs.State.{State, Living, Request, Asked, Calls, LooksUp, Tells, Stage, Waits, Out, Answered, Frame, CallFrame, ReturnedFrame, ParkedFrame}
use Rattle.sp_rules.specs.Worlds.{World, Space, Pipe}

-- a living task: its instructions so far, and its fuel left
abbrev pub task_units : Living → ℕ
task_units t = t.task.made + t.task.fuel

abbrev pub message_units : Message → ℕ
message_units (message.Call number object method fuel arguments) = fuel
message_units (message.Returned number fuel value) = fuel
message_units _ = 0

abbrev pub asked_units : Asked → ℕ
asked_units (Calls number task lent kind m) = message_units m
asked_units (LooksUp number task name) = 0
asked_units (Tells call group) = 0

-- What a request lends is in it until it goes out.
abbrev pub in_stage : Stage → ℕ → ℕ
in_stage Waits n = n
in_stage (Out conn sequence) n = 0
in_stage (Answered conn) n = 0

abbrev pub request_units : Request → ℕ
request_units r = in_stage r.stage (asked_units r.asked)

-- what a request that is being made lends
abbrev pub fresh_units : Request → ℕ
fresh_units r = asked_units r.asked

abbrev pub frame_units : Frame → ℕ
frame_units (CallFrame target method fuel arguments) = fuel
frame_units (ReturnedFrame value fuel) = fuel

abbrev pub parked_units : ParkedFrame → ℕ
parked_units p = frame_units p.frame

abbrev pub output_units : Output → ℕ
output_units (Send conn m) = message_units m
output_units _ = 0

abbrev pub note_units : Note → ℕ
note_units n = output_units (output_of n)

-- all instructions made in a space and all fuel in it
abbrev pub units : State → ℕ
units s =
    s.retired + (total task_units s.tasks + (total request_units s.requests
    + (total parked_units s.parked + (total fresh_units s.fresh + total note_units s.notes))))

-- the fuel that comes into a space with an event
abbrev pub event_units : Event → ℕ
event_units (Root method arguments fuel) = fuel
event_units (Received conn m) = message_units m
event_units _ = 0

-- the fuel of the roots of a space
abbrev pub root_units : Event → ℕ
root_units (Root method arguments fuel) = fuel
root_units _ = 0

abbrev pub roots_of : Space → ℕ
roots_of s = total root_units s.history

abbrev pub space_units : Space → ℕ
space_units s = units s.state

abbrev pub pipe_units : Pipe → ℕ
pipe_units p = total message_units p.dialler.queue + total message_units p.accepter.queue

-- all instructions made in a world and all fuel in it: in its spaces and on its connections
abbrev pub world_units : World → ℕ
world_units w = total space_units w.spaces + total pipe_units w.pipes

abbrev pub world_roots : World → ℕ
world_roots w = total roots_of w.spaces
