-- Which frames close no connection: a first Hello of the same digest, from the space that was dialled, of a version that the space speaks, and said if it dialled; then frames of their direction that ask under a number above the last, name no more ids than the connection's version allows, or answer what was asked and not answered (this project's own protocol).
use Rattle.std.specs.Prelude.{◌≡◌, ℕ, ◌==◌, ◌&&◌, not, nat_le, is_some, is_none, Bool, true, false, List, Some, find, if◌then◌else◌}
use Rattle.std.specs.List.{list_any}
use Rattle.std.specs.Str.{bytes_eq}
use Rattle.net_message.specs.declared.message.Message.{Message}
use Rattle.net_message.specs.declared.message.Message.TheVariants as message
use Rattle.sp_rules.specs.Classes.{Setting}
use Rattle.sp_rules.specs.Events.{Event, Received}
use Rattle.sp_rules.specs.Frames.{is_asking, is_wrong_way, is_acked_by, tells_on, fit_frame}
use Rattle.sp_rules.specs.Lists.{with_some}
use Rattle.sp_rules.specs.Origins.{IsTaken}
use Rattle.sp_rules.specs.ParkedFrames.{is_asked_on}
use Rattle.sp_rules.specs.Space.{state_of, on}
use Rattle.sp_rules.specs.State.{State, Connection, connection_at, is_open}
use Rattle.sp_laws.specs.Inbound.{OpensOnce}

-- ---- welcome frames

-- a first frame
abbrev pub is_welcome_first : Setting → Connection → Message → Bool
is_welcome_first g c (message.Hello version space digest) = with_some c.dialled (bytes_eq digest g.digest && nat_le version g.version) (λ peer. bytes_eq digest g.digest && bytes_eq space peer && version == c.version)
is_welcome_first g c _ = false

-- a frame after the Hello, of its direction
abbrev pub is_welcome_later : State → Connection → Message → Bool
is_welcome_later s c (message.Hello version space digest) = false
is_welcome_later s c (message.Call number object method fuel arguments) = not (nat_le number c.last)
is_welcome_later s c (message.Returned number fuel value) = is_some (find (is_asked_on c.number number) s.requests)
is_welcome_later s c (message.Threw number class) = is_some (find (is_asked_on c.number number) s.requests)
is_welcome_later s c (message.Spent number) = is_some (find (is_asked_on c.number number) s.requests)
is_welcome_later s c (message.Ack number) = list_any (is_acked_by c.number number) s.results
is_welcome_later s c (message.Dirty sequence period objects) = fit_frame c objects
is_welcome_later s c (message.Lease sequence period) = is_some (find (tells_on true c.number sequence) s.requests)
is_welcome_later s c (message.Clean sequence strong objects) = fit_frame c objects
is_welcome_later s c (message.Cleaned sequence) = is_some (find (tells_on false c.number sequence) s.requests)
is_welcome_later s c (message.Lookup number name) = not (nat_le number c.last)

abbrev pub is_welcome : Setting → State → Connection → Message → Bool
is_welcome g s c m = if is_none c.peer then is_welcome_first g c m else not (is_wrong_way (is_asking m) (is_some c.dialled)) && is_welcome_later s c m

-- ---- the law

-- After every history that a space took, in which no number of a connection comes again: a welcome frame closes no connection.
abbrev pub WelcomeFramesCloseNothing : Type 0
WelcomeFramesCloseNothing = (g : Setting) (h : List Event) (conn : ℕ) (c : Connection) (m : Message) → IsTaken g h → OpensOnce h → connection_at (state_of g h) conn ≡ Some c → is_welcome g (state_of g h) c m ≡ true
    → (other : ℕ) → is_open (state_of g h) other ≡ true → is_open (on g (Received conn m) (state_of g h)).0 other ≡ true
