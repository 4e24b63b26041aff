-- How a call ends: with its callee's answer, as the frame says it, or with an exception of a failure, and with nothing else (Java RMI specification, appendix A: ConnectException, MarshalException, UnmarshalException; 3.1 on results).
use Rattle.std.specs.List.{list_any}
use Rattle.std.specs.Prelude.{◌≡◌, ◌⊎◌, ℕ, true, false, List, [], ◌∷◌, Option, Some, find, if◌then◌else◌}
use Rattle.net_message.specs.declared.message.Message.{Message}
use Rattle.net_message.specs.declared.message.Message.TheVariants as message
use Rattle.space_ids.specs.declared.ids.ClassId.{ClassId}
use Rattle.space_ids.specs.declared.value.Value.{Value}
use Rattle.sp_rules.specs.Behaviours.{Reply, Gives, GivesBack, Throws, RunsOut}
use Rattle.sp_rules.specs.Classes.{Setting, Kind}
use Rattle.sp_rules.specs.Events.{Event, Refused, Received, Closed, ReadFailed, Bad, WriteFailed}
use Rattle.sp_rules.specs.ParkedFrames.{has_number, is_asked_on}
use Rattle.sp_rules.specs.Space.{state_of, on}
pub use Rattle.sp_laws.specs.Sent.{is_hello}
use Rattle.sp_rules.specs.State.{State, Living, Request, Calls, ReturnedFrame, ParkedFrame, task_at}

-- ---- what ends calls

-- The exceptions of failures: ConnectException if no peer is reached, by a Dial that is refused or a Hello that is wrong; MarshalException
-- if a frame was not written whole; and UnmarshalException with each end of a connection, and each dirty call that fails.
abbrev pub IsFailure : Setting → Event → ClassId → Type 0
IsFailure g (Refused peer) class = (class ≡ g.classes.connect) ⊎ (class ≡ g.classes.unmarshal)
IsFailure g (Received conn m) class = ((is_hello m ≡ true) × (class ≡ g.classes.connect)) ⊎ (class ≡ g.classes.unmarshal)
IsFailure g (Closed conn) class = class ≡ g.classes.unmarshal
IsFailure g (ReadFailed conn) class = class ≡ g.classes.unmarshal
IsFailure g (Bad conn) class = class ≡ g.classes.unmarshal
IsFailure g (WriteFailed conn unsent) class = (class ≡ g.classes.marshal) ⊎ (class ≡ g.classes.unmarshal)
IsFailure g _ class = ⊥

-- The call or lookup of a number is out on the connection, and not answered.
abbrev pub IsOutOn : ℕ → ℕ → List Request → Type 0
IsOutOn conn number requests = list_any (is_asked_on conn number) requests ≡ true

-- A Threw came under the number on the connection on which that is out, with this class or one that is no Throwable.
pub record IsThrown (g : Setting) (s : State) (e : Event) (number : ℕ) (class : ClassId) : Type 0 where
  pub conn : ℕ
  pub thrown : ClassId
  pub out : IsOutOn conn number s.requests
  pub came : e ≡ Received conn (message.Threw number thrown)
  pub told : class ≡ (if g.classes.is_throwable thrown then thrown else g.classes.unmarshal)

-- a Returned of this number, value and fuel that waits for leases is among these
abbrev pub IsParkedIn : ℕ → Option Value → ℕ → List ParkedFrame → Type 0
IsParkedIn number value fuel [] = ⊥
IsParkedIn number value fuel (p ∷ ps) = ((p.number ≡ number) × (p.frame ≡ ReturnedFrame value fuel)) ⊎ IsParkedIn number value fuel ps

-- With what an event may end the call of a number: with the value and the fuel of a Returned of that number that comes on the connection on which the call is out, or waited for leases; with what a Threw or a Spent of that number says that comes there; or with the exception of a failure.
abbrev pub MayEndWith : Setting → State → Event → ℕ → Reply → Type 0
MayEndWith g s e number (Gives value) = ⊥
MayEndWith g s e number (GivesBack value fuel) = ((conn : ℕ) × (IsOutOn conn number s.requests × (e ≡ Received conn (message.Returned number fuel value)))) ⊎ IsParkedIn number value fuel s.parked
MayEndWith g s e number (Throws class) = IsThrown g s e number class ⊎ IsFailure g e class
MayEndWith g s e number RunsOut = (conn : ℕ) × (IsOutOn conn number s.requests × (e ≡ Received conn (message.Spent number)))

-- ---- what becomes of a task that waits

-- it waits on, and nothing was given to it
pub record WaitsOn (t u : Living) : Type 0 where
  pub waits : u.waits ≡ true
  pub given : u.given ≡ t.given
  pub steps : u.steps ≡ t.steps

-- it was given this reply to its call, and nothing else
pub record IsGiven (reply : Reply) (t u : Living) : Type 0 where
  pub ready : u.waits ≡ false
  pub given : u.given ≡ record { steps = t.steps; lent = true; reply = reply } ∷ t.given

-- The task waits on, or the call of this number ended with a reply that the event may end it with.
abbrev pub WaitsOrEnds : Setting → State → Event → ℕ → Living → Living → Type 0
WaitsOrEnds g s e number t u = WaitsOn t u ⊎ ((reply : Reply) × (IsGiven reply t u × MayEndWith g s e number reply))

-- ---- the law

-- After every history, whatever event comes: the task of a call that stands among the requests lives on, and waits on or was given one such reply.
abbrev pub CallsEndAsNamed : Type 0
CallsEndAsNamed = (g : Setting) (h : List Event) (e : Event) (number task lent : ℕ) (kind : Kind) (m : Message) (q : Request) (t : Living)
    → find (λ (p : Request). has_number number p.asked) (state_of g h).requests ≡ Some q → q.asked ≡ Calls number task lent kind m → task_at (state_of g h) task ≡ Some t
    → (u : Living) × ((task_at (on g e (state_of g h)).0 task ≡ Some u) × WaitsOrEnds g (state_of g h) e number t u)
