-- What may be asked of a peer, and how it goes out or waits. (This project's own protocol; calls and dirty and clean calls are the Java RMI specification's, 3.2 and 9.1.)
use Rattle.std.specs.Prelude.{◌≡◌, ◌+◌, ℕ, List, [], ◌∷◌, ◌++◌, Some}
use Rattle.dgc_client.specs.Table as client
use Rattle.dgc_client.specs.declared.groups.Group.{Group}
use Rattle.uuid.specs.declared.Uuid.{Uuid}
use Rattle.sp_rules.specs.Frames.{greeted}
use Rattle.sp_rules.specs.Laws.{RisesWithin}
use Rattle.sp_rules.specs.Lines.{dialled_to}
use Rattle.sp_rules.specs.Requests.{without_waiting}
use Rattle.sp_rules.specs.State.{State, Connection, Asked, Waits}
use Rattle.sp_requests.specs.Asking.{last_call}
use Rattle.sp_transport.specs.Said.{said}
use Rattle.sp_transport.specs.Transports.{asked_up_to, waiting_numbers}

-- These numbers rise above that of the last call that went out to the peer, and none is above the last that was asked: so may calls of these numbers go out, one after the other.
abbrev pub AreNextOut : State → Uuid → List ℕ → Type 0
AreNextOut s peer numbers = (c : Connection) → dialled_to (said s) peer ≡ Some c → RisesWithin (last_call c.sent) (asked_up_to s.calls_made s.fresh) numbers

-- They rise above those of all calls that wait: so may calls of these numbers wait, after all others.
abbrev pub AreNextWaiting : State → List ℕ → Type 0
AreNextWaiting s numbers = RisesWithin 0 (asked_up_to s.calls_made s.fresh) (waiting_numbers s.requests ++ numbers)

-- ---- what an event makes of a state, step by step

-- a call or lookup is made, and asked at the end of the event
abbrev pub make_call : Uuid → Asked → State → State
make_call peer asked s = record s { calls_made = s.calls_made + 1; fresh = record { peer = peer; asked = asked; stage = Waits } ∷ [] }

-- it is taken, to be asked
abbrev pub take_fresh : State → State
take_fresh s = record s { fresh = [] }

-- the next dirty or clean calls are made: those of a group
abbrev pub make_calls : Group → State → State
make_calls group s = record s { groups_made = s.groups_made + 1; leases = client.made group (s.groups_made + 1) s.leases }

-- The Hello of a peer that was dialled has come, and what waits for it is taken.
abbrev pub welcome : Uuid → ℕ → State → State
welcome peer conn s = without_waiting peer (greeted peer conn s)

-- a moment passes for the leases of foreign references
abbrev pub pass_moment : ℕ → State → State
pass_moment moment s = record s { leases = client.At moment ∷ s.leases }
