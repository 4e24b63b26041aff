-- Calls that come: each occurs once, as a parked frame, as a living task or as a result that is held until its Ack (this project's own rule; a call of a remote method runs once by the Java RMI specification, 3.1).
use Rattle.std.specs.Prelude.{◌≡◌, ℕ, ◌+◌, ◌≤◌, ◌==◌, ◌&&◌, ◌||◌, ◌++◌, Bool, true, false, List, [], ◌∷◌, Some}
use Rattle.sp_rules.specs.Classes.{Setting}
use Rattle.sp_rules.specs.Events.{Event, Opened}
use Rattle.sp_rules.specs.Frames.{is_call_frame}
use Rattle.sp_rules.specs.Lists.{total}
use Rattle.sp_rules.specs.Space.{state_of}
use Rattle.sp_rules.specs.State.{State, Living, Origin, OfRoot, OfCall, KeptResult, Until, RootAcked, Acked, Passed, Connection, ParkedFrame, connection_at}
use Rattle.sp_laws.specs.Waiting.{count}

-- ---- the parts of the state in which a call that came may occur

abbrev pub from_origin : ℕ → ℕ → Origin → ℕ
from_origin conn number OfRoot = 0
from_origin conn number (OfCall c n) = count (c == conn && n == number)

abbrev pub from_until : ℕ → ℕ → Until → ℕ
from_until conn number (RootAcked task) = 0
from_until conn number (Acked c n) = count (c == conn && n == number)
from_until conn number (Passed moment) = 0

abbrev pub from_parked : ℕ → ℕ → ParkedFrame → ℕ
from_parked conn number p = count (is_call_frame p.frame && (p.conn == conn && p.number == number))

-- how often a call of this number from a connection occurs, among parked calls, living tasks and results that are held until their Ack
abbrev pub occurrences_of : ℕ → ℕ → State → ℕ
occurrences_of conn number s =
    total (from_parked conn number) s.parked
    + (total (λ (t : Living). from_origin conn number t.origin) s.tasks
    + total (λ (k : KeptResult). from_until conn number k.until) s.results)

-- ---- connections have numbers of their own

-- whether an event opens a connection of this number
abbrev pub opens : ℕ → Event → Bool
opens conn (Opened c dialled) = c == conn
opens conn _ = false

-- whether a history opened one
abbrev pub opened : ℕ → List Event → Bool
opened conn [] = false
opened conn (e ∷ h) = opens conn e || opened conn h

-- No number of a connection comes again.
abbrev pub OpensOnce : List Event → Type 0
OpensOnce [] = Unit {0}
OpensOnce (e ∷ h) = ((conn : ℕ) → opens conn e ≡ true → opened conn h ≡ false) × OpensOnce h

-- ---- the law

-- A call that came occurs once at most, and one of a number above the last of its connection nowhere.
pub record CallsCameOnce (s : State) : Type 0 where
  pub once : (conn number : ℕ) → occurrences_of conn number s ≤ 1
  pub above : (conn number : ℕ) (c : Connection) → connection_at s conn ≡ Some c → c.last + 1 ≤ number → occurrences_of conn number s ≡ 0

-- This holds after every history in which no number of a connection comes again.
abbrev pub CallsThatComeAreOnce : Type 0
CallsThatComeAreOnce = (g : Setting) (h : List Event) → OpensOnce h → CallsCameOnce (state_of g h)

-- If a call that came, of a number not above the last of its connection, occurs no more, it never occurs again.
abbrev pub CallsThatWentStayGone : Type 0
CallsThatWentStayGone = (g : Setting) (h more : List Event) (conn number : ℕ) → OpensOnce (more ++ h) → opened conn h ≡ true → ((c : Connection) → connection_at (state_of g h) conn ≡ Some c → number ≤ c.last)
    → occurrences_of conn number (state_of g h) ≡ 0 → occurrences_of conn number (state_of g (more ++ h)) ≡ 0
