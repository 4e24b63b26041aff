-- Frames and their answers: a Call or a Lookup is answered by a Returned, a Threw or a Spent, a dirty or clean call by a Lease or a Cleaned, and a Returned by an Ack (Java RMI specification, 3.1: a remote call returns once; 9.1: dirty and clean calls; Ack is this project's own).
use Rattle.std.specs.Prelude.{ℕ, ◌+◌, ◌≤◌, ◌==◌, ◌&&◌, not, Bool, false, List, [], ◌∷◌}
use Rattle.std.specs.List.{flat_map}
use Rattle.net_message.specs.declared.message.Message.{Message}
use Rattle.net_message.specs.declared.message.Message.TheVariants as message
use Rattle.sp_rules.specs.Classes.{Setting}
use Rattle.sp_rules.specs.Endings.{call_number_in}
use Rattle.sp_rules.specs.Events.{Event}
use Rattle.sp_rules.specs.Frames.{is_call_frame}
use Rattle.sp_rules.specs.Lists.{total}
use Rattle.sp_rules.specs.Origins.{IsTaken}
use Rattle.sp_rules.specs.Space.{state_of, all_outputs}
use Rattle.sp_rules.specs.State.{State, Living, Origin, Frame, ParkedFrame}
use Rattle.sp_laws.specs.Inbound.{from_origin, OpensOnce}
use Rattle.sp_laws.specs.Waiting.{count}
use Rattle.sp_order_laws.specs.Delivered.{came_on, sent_on}
use Rattle.sp_order_laws.specs.Rising.{sequence_in}

-- ---- what is asked, and what is answered

-- the kinds of frames that are answered
pub data Exchange : Type 0 where
  CallReply GroupReply ResultAck : Exchange

abbrev pub result_in : Message → List ℕ
result_in (message.Returned number fuel value) = number ∷ []
result_in _ = []

abbrev pub reply_in : Message → List ℕ
reply_in (message.Returned number fuel value) = number ∷ []
reply_in (message.Threw number class) = number ∷ []
reply_in (message.Spent number) = number ∷ []
reply_in _ = []

abbrev pub group_reply_in : Message → List ℕ
group_reply_in (message.Lease sequence period) = sequence ∷ []
group_reply_in (message.Cleaned sequence) = sequence ∷ []
group_reply_in _ = []

abbrev pub ack_in : Message → List ℕ
ack_in (message.Ack number) = number ∷ []
ack_in _ = []

-- the number under which a frame asks for an answer
abbrev pub asked_in : Exchange → Message → List ℕ
asked_in CallReply m = call_number_in m
asked_in GroupReply m = sequence_in m
asked_in ResultAck m = result_in m

-- the number to which a frame answers
abbrev pub answered_in : Exchange → Message → List ℕ
answered_in CallReply m = reply_in m
answered_in GroupReply m = group_reply_in m
answered_in ResultAck m = ack_in m

-- how often a number stands in a list
abbrev pub times : ℕ → List ℕ → ℕ
times k ns = total (λ n. count (n == k)) ns

-- how often one is asked under a number, and answered
abbrev pub times_asked : Exchange → ℕ → List Message → ℕ
times_asked x k ms = times k (flat_map (asked_in x) ms)

abbrev pub times_answered : Exchange → ℕ → List Message → ℕ
times_answered x k ms = times k (flat_map (answered_in x) ms)

-- ---- what a space has not answered yet

abbrev pub is_frame_of : Exchange → Frame → Bool
is_frame_of CallReply f = is_call_frame f
is_frame_of GroupReply f = false
is_frame_of ResultAck f = not (is_call_frame f)

-- a parked call, or a parked result, of this number that came on a connection
abbrev pub parked_for : Exchange → ℕ → ℕ → ParkedFrame → ℕ
parked_for x conn k p = count (is_frame_of x p.frame && (p.conn == conn && p.number == k))

-- a task that the call of this number from a connection started
abbrev pub task_for : Exchange → ℕ → ℕ → Origin → ℕ
task_for CallReply conn k origin = from_origin conn k origin
task_for GroupReply conn k origin = 0
task_for ResultAck conn k origin = 0

-- the parked frames and living tasks that a space has of what came on a connection under a number
abbrev pub under_way : Exchange → ℕ → ℕ → State → ℕ
under_way x conn k s = total (parked_for x conn k) s.parked + total (λ (t : Living). task_for x conn k t.origin) s.tasks

-- ---- the law

-- After every history that a space took, in which no number of a connection comes again: what the space has of a connection and number and has not answered, and the answers that it sent, are no more than the frames that came there under the number.
abbrev pub FramesAreAnsweredOnce : Type 0
FramesAreAnsweredOnce = (g : Setting) (h : List Event) (x : Exchange) (conn k : ℕ) → IsTaken g h → OpensOnce h
    → under_way x conn k (state_of g h) + times_answered x k (sent_on conn (all_outputs g h)) ≤ times_asked x k (came_on conn h)
