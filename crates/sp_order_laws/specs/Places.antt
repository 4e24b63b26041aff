-- Where calls, dirty and clean calls, and results are on their way between two spaces: in one part of the world at a time (Java RMI specification, 3.1: a remote call returns once; 9.1: dirty and clean calls; that a result is acknowledged is this project's own protocol).
use Rattle.std.specs.Prelude.{◌≡◌, ℕ, ◌+◌, ◌≤◌, ◌&&◌, List, ◌++◌, Option, Some, slice_get}
use Rattle.space_ids.specs.declared.value.Value.{Value}
use Rattle.net_message.specs.declared.message.Message.TheVariants as message
use Rattle.sp_rules.specs.Classes.{Setting}
use Rattle.sp_rules.specs.Events.{Event}
use Rattle.sp_rules.specs.Lists.{total}
use Rattle.sp_rules.specs.Origins.{IsTaken}
use Rattle.sp_rules.specs.ParkedFrames.{has_number}
use Rattle.sp_rules.specs.Requests.{is_waiting}
use Rattle.sp_rules.specs.Space.{state_of, all_outputs}
use Rattle.sp_rules.specs.State.{State, Request}
use Rattle.sp_rules.specs.Worlds.{World, Space, Pipe, WorldEvent, run, new_world}
use Rattle.sp_laws.specs.Inbound.{OpensOnce}
use Rattle.sp_laws.specs.Waiting.{count}
use Rattle.sp_order_laws.specs.Delivered.{came_on, sent_on}
use Rattle.sp_order_laws.specs.Ends.{IsOneOf}
use Rattle.sp_order_laws.specs.Answering.{CallReply, GroupReply, ResultAck, times, times_asked, times_answered, under_way}
use Rattle.sp_order_laws.specs.Rising.{frames_in, call_numbers}

-- ---- calls go out once

-- the calls and lookups of a number that wait to be sent
abbrev pub waiting_to_go : ℕ → State → ℕ
waiting_to_go k s = total (λ (q : Request). count (is_waiting q.stage && has_number k q.asked)) s.requests

-- After every history that a space took, in which no number of a connection comes again: a call or lookup of a number waits to be sent, or was sent once, on whatever connection, or neither.
abbrev pub CallsGoOutOnce : Type 0
CallsGoOutOnce = (g : Setting) (h : List Event) (k : ℕ) → IsTaken g h → OpensOnce h
    → times k (call_numbers (frames_in (all_outputs g h))) + waiting_to_go k (state_of g h) ≤ 1

-- ---- a connection and its two spaces

-- The space that dialled a connection, and the one that it dialled.
pub record IsBetween (w : World) (conn : ℕ) (p : Pipe) (a b : Space) : Type 0 where
  pub pipe : slice_get w.pipes conn ≡ Some p
  pub dialled : slice_get w.spaces p.dialler.space ≡ Some a
  pub accepted : slice_get w.spaces p.accepter.space ≡ Some b

-- how often a call or lookup of the space that dialled stands on a connection: as a Call or Lookup on its way, as a parked call or a task where it came, as its answer on its way, and as a result that came and waits for leases
abbrev pub call_stands : ℕ → ℕ → Pipe → Space → Space → ℕ
call_stands conn k p a b =
    times_asked CallReply k p.accepter.queue
    + (under_way CallReply conn k b.state
    + (times_answered CallReply k p.dialler.queue
    + under_way ResultAck conn k a.state))

-- the same, with answers that came in place of results that wait
abbrev pub call_answered : ℕ → ℕ → Pipe → Space → Space → ℕ
call_answered conn k p a b =
    times_asked CallReply k p.accepter.queue
    + (under_way CallReply conn k b.state
    + times_answered CallReply k (came_on conn a.history ++ p.dialler.queue))

-- how often a dirty or clean call of a sequence number stands there: as its frame on its way, or as the Lease or Cleaned that answers it, on its way or come
abbrev pub group_stands : ℕ → ℕ → Pipe → Space → ℕ
group_stands conn k p a = times_asked GroupReply k p.accepter.queue + times_answered GroupReply k (came_on conn a.history ++ p.dialler.queue)

-- how often a result is on its way there: as a Returned, as one that came and waits for leases, as an Ack on its way, and as one that came
abbrev pub result_stands : ℕ → ℕ → Pipe → Space → Space → ℕ
result_stands conn k p a b =
    times_asked ResultAck k p.dialler.queue
    + (under_way ResultAck conn k a.state
    + times_answered ResultAck k (came_on conn b.history ++ p.accepter.queue))

-- ---- the laws

-- A call or lookup of a space stands in one part of the world at most: it waits to be sent, or stands once on one connection. Once its answer came, nothing of it waits to be sent, is on its way or is under way at the callee.
pub record CallsStandOnceIn (w : World) : Type 0 where
  pub once : (conn k : ℕ) (p : Pipe) (a b : Space) → IsBetween w conn p a b → waiting_to_go k a.state + call_stands conn k p a b ≤ 1
  pub answered : (conn k : ℕ) (p : Pipe) (a b : Space) → IsBetween w conn p a b → waiting_to_go k a.state + call_answered conn k p a b ≤ 1
  pub apart : (conn d k : ℕ) (p q : Pipe) (a b c : Space) → (conn ≡ d → ⊥) → IsBetween w conn p a b → IsBetween w d q a c → call_stands conn k p a b + call_stands d k q a c ≤ 1

abbrev pub EachCallStandsOnce : Type 0
EachCallStandsOnce = (settings : List Setting) (events : List WorldEvent) → CallsStandOnceIn (run (new_world settings) events)

-- A dirty or clean call is on its way, or its one answer is or came, or neither, and on one connection.
pub record GroupsStandOnceIn (w : World) : Type 0 where
  pub once : (conn k : ℕ) (p : Pipe) (a b : Space) → IsBetween w conn p a b → group_stands conn k p a ≤ 1
  pub apart : (conn d k : ℕ) (p q : Pipe) (a b c : Space) → (conn ≡ d → ⊥) → IsBetween w conn p a b → IsBetween w d q a c → group_stands conn k p a + group_stands d k q a ≤ 1

abbrev pub EachGroupIsAnsweredOnce : Type 0
EachGroupIsAnsweredOnce = (settings : List Setting) (events : List WorldEvent) → GroupsStandOnceIn (run (new_world settings) events)

-- The other end sent a result of this number on the connection.
pub record SentResult (conn k : ℕ) (b : Space) : Type 0 where
  pub fuel : ℕ
  pub value : Option Value
  pub sent : IsOneOf (message.Returned k fuel value) (sent_on conn b.outputs)

-- A result is on its way, waits for leases, or has one Ack, which is on its way or came; and each Ack on its way names a result that was sent there.
pub record ResultsStandOnceIn (w : World) : Type 0 where
  pub once : (conn k : ℕ) (p : Pipe) (a b : Space) → IsBetween w conn p a b → result_stands conn k p a b ≤ 1
  pub sent : (conn k : ℕ) (p : Pipe) (a b : Space) → IsBetween w conn p a b → 1 ≤ times_answered ResultAck k p.accepter.queue → SentResult conn k b

abbrev pub EachResultIsAcknowledgedOnce : Type 0
EachResultIsAcknowledgedOnce = (settings : List Setting) (events : List WorldEvent) → ResultsStandOnceIn (run (new_world settings) events)
