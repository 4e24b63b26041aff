-- Requests and frames stand with their connections: what is out went to the peer that was dialled and said Hello, what is parked came on a connection whose Hello came, and a call or lookup is answered exactly while its result is parked (this project's own protocol; a remote call returns once by the Java RMI specification, 3.1).
use Rattle.std.specs.Prelude.{◌≡◌, ℕ, ◌≤◌, ◌==◌, ◌&&◌, ◌||◌, not, Bool, true, false, is_some, is_none, List, Option, Some, find}
use Rattle.uuid.specs.declared.Uuid.{Uuid}
use Rattle.sp_rules.specs.Classes.{Setting}
use Rattle.sp_rules.specs.Events.{Event}
use Rattle.sp_rules.specs.Frames.{is_call_frame}
use Rattle.sp_rules.specs.Laws.{AllOf}
use Rattle.sp_rules.specs.Lists.{total}
use Rattle.sp_rules.specs.Origins.{IsTaken}
use Rattle.sp_rules.specs.ParkedFrames.{has_number, is_parked_at}
use Rattle.sp_rules.specs.Space.{state_of}
use Rattle.sp_rules.specs.State.{State, Request, Asked, Calls, LooksUp, Tells, Stage, Waits, Out, Answered, Connection, ParkedFrame, is_to}
use Rattle.sp_laws.specs.Waiting.{count}

-- ---- connections

-- the connection of a number, among these
abbrev pub numbered : List Connection → ℕ → Option Connection
numbered connections conn = find (λ (c : Connection). c.number == conn) connections

-- The connection is open, was dialled to this peer, and its Hello came.
pub record IsDialledTo (connections : List Connection) (conn : ℕ) (peer : Uuid) : Type 0 where
  pub row : Connection
  pub found : numbered connections conn ≡ Some row
  pub dialled : is_to peer row.dialled ≡ true
  pub greeted : is_some row.peer ≡ true

-- The connection is open, this space dialled it or did not, and its Hello came.
pub record IsGreeted (connections : List Connection) (conn : ℕ) (dialled : Bool) : Type 0 where
  pub row : Connection
  pub found : numbered connections conn ≡ Some row
  pub end : is_some row.dialled ≡ dialled
  pub greeted : is_some row.peer ≡ true

-- Nobody asks on the connection: its Hello has not come, or this space dialled it.
abbrev pub is_unasked : Connection → Bool
is_unasked c = is_none c.peer || is_some c.dialled

-- Then no number of a call or lookup came on it.
abbrev pub HasTakenNone : Connection → Type 0
HasTakenNone c = is_unasked c ≡ true → c.last ≡ 0

-- ---- requests and parked frames

-- A request that is out, and one that is answered, went to its peer.
abbrev pub StandsOn : List Connection → Uuid → Stage → Type 0
StandsOn connections peer Waits = Unit {0}
StandsOn connections peer (Out conn sequence) = IsDialledTo connections conn peer
StandsOn connections peer (Answered conn) = IsDialledTo connections conn peer

-- Dirty and clean calls go to the owner of their objects.
abbrev pub GoesTo : Uuid → Asked → Type 0
GoesTo peer (Calls number task lent kind m) = Unit {0}
GoesTo peer (LooksUp number task name) = Unit {0}
GoesTo peer (Tells call group) = group.peer ≡ peer

-- A parked call came on a connection that a peer dialled, a parked result on one that this space dialled.
abbrev pub CameOn : List Connection → ParkedFrame → Type 0
CameOn connections p = IsGreeted connections p.conn (not (is_call_frame p.frame))

abbrev pub is_answered_on : ℕ → Stage → Bool
is_answered_on conn Waits = false
is_answered_on conn (Out c sequence) = false
is_answered_on conn (Answered c) = c == conn

-- how many calls and lookups of a number are answered on a connection
abbrev pub answers_of : ℕ → ℕ → List Request → ℕ
answers_of conn number requests = total (λ (q : Request). count (is_answered_on conn q.stage && has_number number q.asked)) requests

-- how many results of that number are parked
abbrev pub results_of : ℕ → ℕ → List ParkedFrame → ℕ
results_of conn number parked = total (λ (p : ParkedFrame). count (not (is_call_frame p.frame) && is_parked_at conn number p)) parked

-- ---- the law

-- Each request and each parked frame stands with its connection, and on one on which nobody asks no call was taken. On a connection the
-- calls and lookups of a number that are answered are as many as its parked results: one, or none.
pub record AreInPlace (s : State) : Type 0 where
  pub requests : AllOf (λ (q : Request). StandsOn s.connections q.peer q.stage × GoesTo q.peer q.asked) s.requests
  pub parked : AllOf (CameOn s.connections) s.parked
  pub unasked : AllOf HasTakenNone s.connections
  pub answered : (conn number : ℕ) → answers_of conn number s.requests ≡ results_of conn number s.parked
  pub once : (conn number : ℕ) → results_of conn number s.parked ≤ 1

-- This holds after every history that a space took.
abbrev pub AnswersAreParked : Type 0
AnswersAreParked = (g : Setting) (h : List Event) → IsTaken g h → AreInPlace (state_of g h)
