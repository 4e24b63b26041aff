-- Worlds: any number of spaces, the queues of frames between them, and what may happen, with every loss and every order. (This project's own rule; the Java RMI specification promises nothing of delivery.)
use Rattle.std.specs.Prelude.{ℕ, ◌-◌, ◌==◌, ◌&&◌, ◌||◌, min, Bool, true, false, List, [], ◌∷◌, ◌++◌, Option, None, Some, map, length, take, slice_get, position, if◌then◌else◌}
use Rattle.std.specs.List.{list_any}
use Rattle.std.specs.Str.{bytes_eq}
use Rattle.net_message.specs.declared.message.Message.{Message}
use Rattle.uuid.specs.declared.Uuid.{Uuid}
use Rattle.sp_rules.specs.Behaviours.{Op, Create, Get, Put, Call}
use Rattle.sp_rules.specs.Classes.{Setting}
use Rattle.sp_rules.specs.Events.{Event, Moment, Sweep, Root, RootAck, Bind, Rebind, Unbind, Lookup, Opened, Refused, Received, Closed, ReadFailed, WriteFailed, Committed, Parked, GivenBack, Finished, Output, Started, Ended, Withdrawn, Denied, Send, Dial, Close, Ready}
use Rattle.sp_rules.specs.Lists.{each, with_some, at_index}
use Rattle.sp_rules.specs.Refusals.{Refusal, NotLent, refusal}
use Rattle.sp_rules.specs.Space.{on}
use Rattle.sp_rules.specs.State.{State, opening, task_at}
use Rattle.sp_rules.specs.Tasks.{Task, Stand, Runs, AsksFor, HasEnded, is_at_end, stand, step}

-- the two ends of a connection
pub data End : Type 0 where
  Dialler Accepter : End

pub data WorldEvent : Type 0 where
  -- a space's own event, Moment to Lookup
  Own : (space : ℕ) (event : Event) → WorldEvent
  -- one instruction of a task
  Step : (space task : ℕ) → WorldEvent
  -- a Dial of `a` to `b` comes to a connection, or is refused
  Open Refuse : (a b : ℕ) → WorldEvent
  Accept : (conn : ℕ) → WorldEvent
  -- the first frame of the queue towards an end, or that the other end has ended
  Deliver : (conn : ℕ) (to : End) → WorldEvent
  ReadFails : (conn : ℕ) (at : End) → WorldEvent
  WriteFails : (conn : ℕ) (at : End) (unsent : ℕ) → WorldEvent

-- A space of a world: its history, newest event first; the state that it leaves; and all that it answered, oldest first.
pub record Space : Type 0 where
  pub setting : Setting
  pub history : List Event
  pub state : State
  pub outputs : List Output

pub data Phase : Type 0 where
  Unopened Live Over : Phase

-- one end of a connection: its space, whether it is live, and the frames that come towards it, the first one first
pub record Side : Type 0 where
  pub space : ℕ
  pub phase : Phase
  pub queue : List Message

-- A connection has one queue each way.
pub record Pipe : Type 0 where
  pub dialler : Side
  pub accepter : Side

pub record World : Type 0 where
  pub spaces : List Space
  pub pipes : List Pipe
  -- the pairs whose Dial waits for Open or Refuse, oldest first
  pub asked : List (ℕ × ℕ)
  -- why the last event was refused, if it was
  pub refused : Option Refusal

-- ---- sides

abbrev pub side : End → Pipe → Side
side Dialler p = p.dialler
side Accepter p = p.accepter

abbrev pub other : End → End
other Dialler = Accepter
other Accepter = Dialler

abbrev pub set_side : (Side → Side) → End → Pipe → Pipe
set_side f Dialler p = record p { dialler = f p.dialler }
set_side f Accepter p = record p { accepter = f p.accepter }

abbrev pub on_pipe : (Pipe → Pipe) → ℕ → World → World
on_pipe f conn w = record w { pipes = at_index f conn w.pipes }

abbrev pub on_side : (Side → Side) → ℕ → End → World → World
on_side f conn end w = on_pipe (set_side f end) conn w

abbrev pub ends : Side → Side
ends s = record s { phase = Over }

abbrev pub is_live : Phase → Bool
is_live Unopened = false
is_live Live = true
is_live Over = false

abbrev pub is_ended : Phase → Bool
is_ended Unopened = false
is_ended Live = false
is_ended Over = true

-- at which end of a connection a space stands: at one of them, since none dials itself
abbrev pub end_of : ℕ → Pipe → End
end_of i p = if p.dialler.space == i then Dialler else Accepter

-- ---- what spaces answer goes into the world

abbrev pub number_of : List Space → Uuid → Option ℕ
number_of spaces peer = position (λ (s : Space). bytes_eq s.setting.id peer) spaces

abbrev pub asks_for : ℕ → Option ℕ → World → World
asks_for i None w = w
asks_for i (Some j) w = record w { asked = w.asked ++ (i, j) ∷ [] }

abbrev pub queue_up : Message → Side → Side
queue_up m s = record s { queue = s.queue ++ m ∷ [] }

-- A frame goes into the queue towards the other end, a Dial is asked, a Close ends that end alone: what it wrote may still be delivered.
abbrev pub put : ℕ → World → Output → World
put i w (Started task) = w
put i w (Ended task outcome) = w
put i w (Withdrawn ids) = w
put i w (Denied why) = w
put i w (Send conn m) = on_pipe (λ p. set_side (queue_up m) (other (end_of i p)) p) conn w
put i w (Dial peer) = asks_for i (number_of w.spaces peer) w
put i w (Close conn) = on_pipe (λ p. set_side ends (end_of i p) p) conn w
put i w (Ready task) = w

abbrev pub grown : Event → Space → Space
grown e s = record s { history = e ∷ s.history; state = (on s.setting e s.state).0; outputs = s.outputs ++ (on s.setting e s.state).1 }

-- an event of a space that does not refuse it
unfoldable pub take_event : ℕ → Event → Space → World → World
take_event i e s w = each (put i) (on s.setting e s.state).1 (record w { spaces = at_index (grown e) i w.spaces })

-- the task that is lent as an event of a lent task comes
abbrev pub lent_for : Event → List ℕ
lent_for (Committed task k op) = task ∷ []
lent_for (Parked task k) = task ∷ []
lent_for (GivenBack task k) = task ∷ []
lent_for (Finished task k) = task ∷ []
lent_for _ = []

-- Events reach a space one after the other, in a world that is prepared for them. If the space refuses one, the world stays as it was
-- before, but for the refusal.
unfoldable pub acts : World → ℕ → List Event → World → World
acts before i [] w = w
acts before i (e ∷ es) w = with_some (slice_get w.spaces i) before (λ s.
    with_some (refusal s.setting (lent_for e) s.state e) (acts before i es (take_event i e s w)) (λ why. record before { refused = Some why }))

abbrev pub act : World → ℕ → Event → World → World
act before i e w = acts before i (e ∷ []) w

-- ---- what may happen

-- A space's own events are Moment to Lookup.
abbrev pub is_own : Event → Bool
is_own (Moment moment) = true
is_own Sweep = true
is_own (Root method arguments fuel) = true
is_own (RootAck task) = true
is_own (Bind name value) = true
is_own (Rebind name value) = true
is_own (Unbind name) = true
is_own (Lookup peer name) = true
is_own _ = false

abbrev pub is_pair : ℕ → ℕ → ℕ × ℕ → Bool
is_pair a b p = p.0 == a && p.1 == b

-- the pairs without the first that is this one
abbrev pub without_pair : ℕ → ℕ → List (ℕ × ℕ) → List (ℕ × ℕ)
without_pair a b [] = []
without_pair a b (p ∷ ps) = if is_pair a b p then ps else p ∷ without_pair a b ps

abbrev pub is_asked : ℕ → ℕ → World → Bool
is_asked a b w = list_any (is_pair a b) w.asked

abbrev pub new_pipe : ℕ → ℕ → Pipe
new_pipe a b = record {
  dialler = record { space = a; phase = Live; queue = [] };
  accepter = record { space = b; phase = Unopened; queue = [] };
}

-- A step whose instruction ends its task finishes it, else the task is given back. One whose fuel the instruction used up is found Spent at its
-- next step, as the next instruction would be made.
abbrev pub events_after : ℕ → Bool → List Event
events_after id true = Finished id 1 ∷ []
events_after id false = GivenBack id 1 ∷ []

abbrev pub events_of_op : ℕ → Op → List Event
events_of_op id (Create class) = Committed id 0 (Create class) ∷ GivenBack id 0 ∷ []
events_of_op id (Get object slot) = Committed id 0 (Get object slot) ∷ GivenBack id 0 ∷ []
events_of_op id (Put object slot value) = Committed id 0 (Put object slot value) ∷ GivenBack id 0 ∷ []
events_of_op id (Call target method arguments) = Parked id 0 ∷ []

-- A task whose end came by a reply, or by its own start, ends at its next step.
abbrev pub events_at : ℕ → Task → Stand → List Event
events_at id task Runs = events_after id (is_at_end (step task).behaviour)
events_at id task (AsksFor op) = events_of_op id op
events_at id task (HasEnded outcome) = Finished id 0 ∷ []

-- what one instruction of a task is to its space
abbrev pub step_events : ℕ → Task → List Event
step_events id task = events_at id task (stand task)

-- A Step of a task that is not ready is refused: it cannot be lent.
unfoldable pub step_task : ℕ → ℕ → World → World
step_task i id w = with_some (slice_get w.spaces i) w (λ s.
    with_some (task_at s.state id) (record w { refused = Some NotLent }) (λ t.
    if t.waits then record w { refused = Some NotLent } else acts w i (step_events id t.task) w))

abbrev pub id_in : Option Space → Option Uuid
id_in None = None
id_in (Some s) = Some s.setting.id

abbrev pub id_at : ℕ → World → Option Uuid
id_at i w = id_in (slice_get w.spaces i)

abbrev pub without_front : List Message → List Message
without_front [] = []
without_front (m ∷ ms) = ms

abbrev pub take_front : Side → Side
take_front s = record s { queue = without_front s.queue }

-- without its last frames
abbrev pub cut_end : ℕ → Side → Side
cut_end n s = record s { queue = take (length s.queue - n) s.queue }

abbrev pub deliver_first : ℕ → End → World → ℕ → Bool → List Message → World
deliver_first conn to w space over (m ∷ ms) = act w space (Received conn m) (on_side take_front conn to w)
deliver_first conn to w space true [] = act w space (Closed conn) (on_side ends conn to w)
deliver_first conn to w space false [] = w

-- Deliver hands over a queue's first frame; if the queue is empty and its writing end has ended, Closed, once. An end that has ended gets
-- no further event.
unfoldable pub deliver : ℕ → End → World → World
deliver conn to w = with_some (slice_get w.pipes conn) w (λ p.
    if is_live (side to p).phase then deliver_first conn to w (side to p).space (is_ended (side (other to) p).phase) (side to p).queue else w)

unfoldable pub read_fails : ℕ → End → World → World
read_fails conn end w = with_some (slice_get w.pipes conn) w (λ p.
    if is_live (side end p).phase then act w (side end p).space (ReadFailed conn) (on_side ends conn end w) else w)

-- how many of the last frames are lost: at most those that were not delivered
abbrev pub lost : ℕ → End → Pipe → ℕ
lost unsent end p = min unsent (length (side (other end) p).queue)

-- WriteFails first takes the last frames out of the queue; the number taken is the event's.
unfoldable pub write_fails : ℕ → End → ℕ → World → World
write_fails conn end unsent w = with_some (slice_get w.pipes conn) w (λ p.
    if is_live (side end p).phase
    then act w (side end p).space (WriteFailed conn (lost unsent end p))
    (on_side ends conn end (on_side (cut_end (lost unsent end p)) conn (other end) w))
    else w)

abbrev pub begin_side : Side → Side
begin_side s = record s { phase = Live }

abbrev pub accept_at : ℕ → World → ℕ → Phase → World
accept_at conn w space Unopened = act w space (Opened conn None) (on_side begin_side conn Accepter w)
accept_at conn w space Live = w
accept_at conn w space Over = w

-- Accept gives the space that was dialled its Opened, once.
unfoldable pub accept : ℕ → World → World
accept conn w = with_some (slice_get w.pipes conn) w (λ p. accept_at conn w p.accepter.space p.accepter.phase)

-- Open fits if `a` asked for a Dial to `b`, and gives `a` its Opened. Connections are numbered from 0.
unfoldable pub open_pipe : ℕ → ℕ → World → World
open_pipe a b w =
    if is_asked a b w
    then act w a (Opened (length w.pipes) (id_at b w)) (record w { asked = without_pair a b w.asked; pipes = w.pipes ++ new_pipe a b ∷ [] })
    else w

abbrev pub refuse_to : World → ℕ → Option Uuid → World → World
refuse_to before a None w = before
refuse_to before a (Some peer) w = act before a (Refused peer) w

-- Refuse fits if `a` asked for a Dial to `b`.
unfoldable pub refuse : ℕ → ℕ → World → World
refuse a b w = if is_asked a b w then refuse_to w a (id_at b w) (record w { asked = without_pair a b w.asked }) else w

abbrev pub happens : WorldEvent → World → World
happens (Own i e) w = if is_own e then act w i e w else w
happens (Step i task) w = step_task i task w
happens (Open a b) w = open_pipe a b w
happens (Refuse a b) w = refuse a b w
happens (Accept conn) w = accept conn w
happens (Deliver conn to) w = deliver conn to w
happens (ReadFails conn at) w = read_fails conn at w
happens (WriteFails conn at unsent) w = write_fails conn at unsent w

-- One event of a world. One that does not fit the state changes nothing but the note of what was refused.
unfoldable pub after : World → WorldEvent → World
after w e = happens e (record w { refused = None })

-- the world after these events, oldest first
unfoldable pub run : World → List WorldEvent → World
run w [] = w
run w (e ∷ es) = run (after w e) es

abbrev pub new_space : Setting → Space
new_space g = record { setting = g; history = []; state = opening; outputs = [] }

-- A world begins with spaces to which nothing has happened.
unfoldable pub new_world : List Setting → World
new_world settings = record { spaces = map new_space settings; pipes = []; asked = []; refused = None }

-- ---- what can be seen of a world

abbrev pub has_frames : List Message → Bool
has_frames [] = false
has_frames (m ∷ ms) = true

abbrev pub may_deliver : End → Pipe → Bool
may_deliver to p = is_live (side to p).phase && (has_frames (side to p).queue || is_ended (side (other to) p).phase)

-- whether a Deliver fits
abbrev pub is_queued : ℕ → End → World → Bool
is_queued conn to w = with_some (slice_get w.pipes conn) false (may_deliver to)

abbrev pub is_unopened : Phase → Bool
is_unopened Unopened = true
is_unopened Live = false
is_unopened Over = false

-- the lowest connection that waits for Accept
abbrev pub unaccepted : World → Option ℕ
unaccepted w = position (λ (p : Pipe). is_unopened p.accepter.phase) w.pipes
