-- What a space asked of others stands among its requests until its answer comes (Java RMI specification, 3.1: a remote call waits for its result; 9.1: dirty and clean calls; that they stand in one list is this project's own rule).
use Rattle.std.specs.Prelude.{◌≡◌, ◌≤◌, ℕ, ◌==◌, ◌&&◌, not, Bool, true, false, List}
use Rattle.std.specs.List.{list_any}
use Rattle.net_message.specs.declared.message.Message.{Message}
use Rattle.net_message.specs.declared.message.Message.TheVariants as message
use Rattle.sp_rules.specs.Classes.{Setting}
use Rattle.sp_rules.specs.Endings.{call_number_in, is_group}
use Rattle.sp_rules.specs.Events.{Event}
use Rattle.sp_rules.specs.Laws.{AllOf}
use Rattle.sp_rules.specs.Lists.{total}
use Rattle.sp_rules.specs.Origins.{IsTaken}
use Rattle.sp_rules.specs.Requests.{group_frame}
use Rattle.sp_rules.specs.Space.{state_of, all_outputs}
use Rattle.sp_rules.specs.State.{Request, Asked, Calls, LooksUp, Tells, Stage, Waits, Out, Answered, is_open}
use Rattle.sp_laws.specs.Inbound.{OpensOnce}
use Rattle.sp_laws.specs.Waiting.{count}
use Rattle.sp_order_laws.specs.Delivered.{came_on, sent_on}
use Rattle.sp_order_laws.specs.Rising.{sequence_in}

-- ---- frames and requests

-- whether a frame asks for an answer
abbrev pub is_request : Message → Bool
is_request (message.Call number object method fuel arguments) = true
is_request (message.Lookup number name) = true
is_request (message.Dirty sequence period objects) = true
is_request (message.Clean sequence strong objects) = true
is_request _ = false

-- the frame with which a request goes out, dirty and clean calls under this sequence number
abbrev pub frame_of : Asked → ℕ → Message
frame_of (Calls number task lent kind m) sequence = m
frame_of (LooksUp number task name) sequence = message.Lookup number name
frame_of (Tells call group) sequence = group_frame group.kind sequence group.ids

-- one for a request that is out on the connection, or whose Returned is parked there, with such a frame
abbrev pub out_as : ℕ → (Message → Bool) → Asked → Stage → ℕ
out_as conn is asked Waits = 0
out_as conn is asked (Out c sequence) = count (c == conn && is (frame_of asked sequence))
out_as conn is asked (Answered c) = count (c == conn && (not (is_group asked) && is (frame_of asked 0)))

abbrev pub out_on : ℕ → (Message → Bool) → Request → ℕ
out_on conn is q = out_as conn is q.asked q.stage

-- one for such a frame that asks for an answer
abbrev pub asks_for : (Message → Bool) → Message → ℕ
asks_for is m = count (is_request m && is m)

-- ---- answers

-- whether the first frame is an answer to the second
abbrev pub is_answer_to : Message → Message → Bool
is_answer_to (message.Returned number fuel value) m = list_any (◌==◌ number) (call_number_in m)
is_answer_to (message.Threw number class) m = list_any (◌==◌ number) (call_number_in m)
is_answer_to (message.Spent number) m = list_any (◌==◌ number) (call_number_in m)
is_answer_to (message.Lease sequence period) m = list_any (◌==◌ sequence) (sequence_in m)
is_answer_to (message.Cleaned sequence) m = list_any (◌==◌ sequence) (sequence_in m)
is_answer_to _ m = false

-- A frame answers none of these.
abbrev pub AnswersNone : (Message → Bool) → Message → Type 0
AnswersNone is answer = (m : Message) → is_answer_to answer m ≡ true → is m ≡ false

-- ---- the law

-- After every history that a space took, in which no number of a connection comes again: of the calls, lookups and dirty and clean calls that it sent on a connection, those to which no answer came stand among its requests while the connection is open, each as often as it was sent.
abbrev pub WhatIsAskedStands : Type 0
WhatIsAskedStands = (g : Setting) (h : List Event) (conn : ℕ) (is : Message → Bool) → IsTaken g h → OpensOnce h → is_open (state_of g h) conn ≡ true → AllOf (AnswersNone is) (came_on conn h)
    → total (asks_for is) (sent_on conn (all_outputs g h)) ≤ total (out_on conn is) (state_of g h).requests
