-- What a call may end with: with what the task that it started ended with; with an exception of a callee in which it started no task, at any moment; or with the exception of a failure. What a look-up finds, or that its name is bound to nothing, ends no call (Java RMI specification, 3.1 on results, 6.1 on the registry, and appendix A).
use Rattle.std.specs.Prelude.{◌≡◌, ◌⊎◌, ℕ, List, ◌∷◌, ◌++◌, Some, slice_get, find}
use Rattle.net_message.specs.declared.message.Message.{Message}
use Rattle.net_message.specs.declared.message.Message.TheVariants as message
use Rattle.space_ids.specs.declared.ids.ClassId.{ClassId}
use Rattle.sp_rules.specs.Behaviours.{Reply}
use Rattle.sp_rules.specs.Classes.{Setting, Kind}
use Rattle.sp_rules.specs.Events.{Event, Send}
use Rattle.sp_rules.specs.ParkedFrames.{has_number}
use Rattle.sp_rules.specs.Space.{state_of, outputs_of, on}
use Rattle.sp_rules.specs.State.{Living, Request, Calls, task_at}
use Rattle.sp_rules.specs.Worlds.{World, Space, WorldEvent, run, new_world}
use Rattle.sp_laws.specs.Answers.{IsOutcome, IsRefused}
use Rattle.sp_laws.specs.CallEnds.{WaitsOn, IsGiven}
use Rattle.sp_laws.specs.Sent.{IsCallRefusal}
use Rattle.sp_laws.specs.Started.{IsStartedBy}
use Rattle.sp_order_laws.specs.Ends.{IsOneOf, IsToldBy, IsOfFailure}

-- ---- calls that start no task

-- No task was started by the call of this number on this connection, at any moment of the history.
abbrev pub StartsNone : Setting → List Event → ℕ → ℕ → Type 0
StartsNone g h conn number = (later before : List Event) (id : ℕ) → later ++ before ≡ h → IsStartedBy conn number id (state_of g before) → ⊥

-- In every run of every world, whatever is lost or fails: a call or lookup to which a space answers an exception, and not the outcome of a task, started no task in it, before or later.
abbrev pub RefusedCallsStartNone : Type 0
RefusedCallsStartNone = (settings : List Setting) (events : List WorldEvent) (i : ℕ) (s : Space) (later : List Event) (e : Event) (before : List Event) (conn : ℕ) (m : Message)
    → slice_get (run (new_world settings) events).spaces i ≡ Some s → later ++ e ∷ before ≡ s.history → IsOneOf (Send conn m) (outputs_of s.setting before e)
    → (refused : IsRefused s.setting e conn m) → StartsNone s.setting s.history conn refused.number

-- ---- ends of calls

-- The frame throws NoSuchObjectException, UnmarshalException or ServerError to the call of a number, which started no task in the callee.
pub record IsRefusedBy (callee : Space) (conn number : ℕ) (m : Message) : Type 0 where
  pub class : ClassId
  pub says : m ≡ message.Threw number class
  pub why : IsCallRefusal callee.setting class
  pub none : StartsNone callee.setting callee.history conn number

-- The reply to the call of a number is what its callee answered: the outcome of the task that the call started there, or such an exception.
pub record IsCallEnd (w : World) (i : ℕ) (g : Setting) (requests : List Request) (number : ℕ) (reply : Reply) : Type 0 where
  pub told : IsToldBy w i g requests number reply
  pub ends : IsOutcome told.answered.callee.setting (state_of told.answered.callee.setting told.answered.before) told.answered.event told.conn told.frame
      ⊎ IsRefusedBy told.answered.callee told.conn number told.frame

-- In every run of every world, whatever is lost or fails, of each space at each event: the task of a call that stands among the requests lives on, and waits on, or was given one reply. That is such an end, or the exception of a failure.
abbrev pub CallsEndAsAnswered : Type 0
CallsEndAsAnswered = (settings : List Setting) (events : List WorldEvent) (i : ℕ) (s : Space) (later : List Event) (e : Event) (h : List Event) → slice_get (run (new_world settings) events).spaces i ≡ Some s → later ++ e ∷ h ≡ s.history
    → (number task lent : ℕ) (kind : Kind) (m : Message) (q : Request) (t : Living) → find (λ (p : Request). has_number number p.asked) (state_of s.setting h).requests ≡ Some q → q.asked ≡ Calls number task lent kind m → task_at (state_of s.setting h) task ≡ Some t
    → (u : Living) × ((task_at (on s.setting e (state_of s.setting h)).0 task ≡ Some u)
    × (WaitsOn t u ⊎ ((reply : Reply) × (IsGiven reply t u × (IsCallEnd (run (new_world settings) events) i s.setting (state_of s.setting h).requests number reply ⊎ IsOfFailure s.setting e reply)))))
