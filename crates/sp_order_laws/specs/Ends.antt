-- How calls end in worlds: by what the other end of the connection answered, which is the outcome of the task that the call started there or an exception of a call that starts none, or by a failure (Java RMI specification, 3.1 on results and A.2 on exceptions).
use Rattle.std.specs.List.{list_any}
use Rattle.std.specs.Prelude.{◌≡◌, ◌⊎◌, ℕ, true, List, [], ◌∷◌, ◌++◌, Some, slice_get, find}
use Rattle.net_message.specs.declared.message.Message.{Message}
use Rattle.net_message.specs.declared.message.Message.TheVariants as message
use Rattle.space_ids.specs.declared.ids.ClassId.{ClassId}
use Rattle.sp_rules.specs.Behaviours.{Reply, GivesBack, Throws, RunsOut}
use Rattle.sp_rules.specs.Classes.{Setting, Kind}
use Rattle.sp_rules.specs.Events.{Event, Send}
use Rattle.sp_rules.specs.Frames.{thrown_reply}
use Rattle.sp_rules.specs.Laws.{AllOf}
use Rattle.sp_rules.specs.ParkedFrames.{has_number, is_call_on}
use Rattle.sp_rules.specs.Space.{state_of, outputs_of, on}
use Rattle.sp_rules.specs.State.{Living, Request, Calls, Frame, CallFrame, ReturnedFrame, ParkedFrame, task_at}
use Rattle.sp_rules.specs.Worlds.{World, Space, End, Pipe, WorldEvent, side, other, run, new_world}
use Rattle.sp_laws.specs.Answers.{IsAnswer}
use Rattle.sp_laws.specs.CallEnds.{IsFailure, WaitsOn, IsGiven}
use Rattle.sp_order_laws.specs.Delivered.{came_on}

-- this is one of these
abbrev pub IsOneOf : {A : Type 0} → A → List A → Type 0
IsOneOf x [] = ⊥
IsOneOf x (y ∷ ys) = (x ≡ y) ⊎ IsOneOf x ys

-- ---- results that wait for leases came

-- the Returned that is parked came on its connection
abbrev pub CameAs : List Event → ParkedFrame → Frame → Type 0
CameAs h p (CallFrame target method fuel arguments) = Unit {0}
CameAs h p (ReturnedFrame value fuel) = IsOneOf (message.Returned p.number fuel value) (came_on p.conn h)

-- So each result that is parked after a history.
abbrev pub ParkedResultsCame : Type 0
ParkedResultsCame = (g : Setting) (h : List Event) → AllOf (λ (p : ParkedFrame). CameAs h p p.frame) (state_of g h).parked

-- ---- answers

-- a frame that answers a call
abbrev pub IsReply : Message → Type 0
IsReply (message.Returned number fuel value) = Unit {0}
IsReply (message.Threw number class) = Unit {0}
IsReply (message.Spent number) = Unit {0}
IsReply _ = ⊥

-- The space at the other end of a connection of this space sent the frame, with an event of its own, and what it says is the outcome of a task that this event ends, an exception, or what a Lookup found.
pub record IsAnswered (w : World) (i conn : ℕ) (m : Message) : Type 0 where
  pub pipe : Pipe
  pub end : End
  pub joins : slice_get w.pipes conn ≡ Some pipe
  pub here : (side end pipe).space ≡ i
  pub callee : Space
  pub there : slice_get w.spaces (side (other end) pipe).space ≡ Some callee
  pub later : List Event
  pub event : Event
  pub before : List Event
  pub part : later ++ event ∷ before ≡ callee.history
  pub sent : IsOneOf (Send conn m) (outputs_of callee.setting before event)
  pub answer : IsAnswer callee.setting (state_of callee.setting before) event conn m

-- In every run of every world, whatever is lost or fails, each Returned, Threw and Spent that came to a space is such an answer.
abbrev pub AnswersCameFromCallees : Type 0
AnswersCameFromCallees = (settings : List Setting) (events : List WorldEvent) (i conn : ℕ) (s : Space) (m : Message) → slice_get (run (new_world settings) events).spaces i ≡ Some s → IsReply m → IsOneOf m (came_on conn s.history)
    → IsAnswered (run (new_world settings) events) i conn m

-- ---- ends of calls

-- what a frame says to the call of a number
abbrev pub Says : Setting → ℕ → Message → Reply → Type 0
Says g number (message.Returned n fuel value) reply = (n ≡ number) × (reply ≡ GivesBack value fuel)
Says g number (message.Threw n class) reply = (n ≡ number) × (reply ≡ thrown_reply g class)
Says g number (message.Spent n) reply = (n ≡ number) × (reply ≡ RunsOut)
Says g number _ reply = ⊥

-- The reply is what the other end of the connection on which the call went out answered to it.
pub record IsToldBy (w : World) (i : ℕ) (g : Setting) (requests : List Request) (number : ℕ) (reply : Reply) : Type 0 where
  pub conn : ℕ
  pub frame : Message
  pub out : list_any (is_call_on conn number) requests ≡ true
  pub says : Says g number frame reply
  pub answered : IsAnswered w i conn frame

-- the reply is the exception of a failure
abbrev pub IsOfFailure : Setting → Event → Reply → Type 0
IsOfFailure g e reply = (class : ClassId) × ((reply ≡ Throws class) × IsFailure g e class)

-- In every run of every world, whatever is lost or fails, of each space at each event: the task of a call that stands among the requests lives on, and waits on, or was given one reply, which its callee answered or which is the exception of a failure.
abbrev pub CallsEndByCallees : Type 0
CallsEndByCallees = (settings : List Setting) (events : List WorldEvent) (i : ℕ) (s : Space) (later : List Event) (e : Event) (h : List Event) → slice_get (run (new_world settings) events).spaces i ≡ Some s → later ++ e ∷ h ≡ s.history
    → (number task lent : ℕ) (kind : Kind) (m : Message) (q : Request) (t : Living) → find (λ (p : Request). has_number number p.asked) (state_of s.setting h).requests ≡ Some q → q.asked ≡ Calls number task lent kind m → task_at (state_of s.setting h) task ≡ Some t
    → (u : Living) × ((task_at (on s.setting e (state_of s.setting h)).0 task ≡ Some u)
    × (WaitsOn t u ⊎ ((reply : Reply) × (IsGiven reply t u × (IsToldBy (run (new_world settings) events) i s.setting (state_of s.setting h).requests number reply ⊎ IsOfFailure s.setting e reply)))))
