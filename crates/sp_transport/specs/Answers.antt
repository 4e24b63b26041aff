-- What an answer that comes finds, and what the end of all that is asked of a peer tells. (This project's own; dirty and clean calls are the Java RMI specification's, 9.1, exceptions its appendix A.)
use Rattle.std.specs.Prelude.{◌≡◌, ℕ, ◌==◌, true, List, Option, Some, map, find}
use Rattle.std.specs.List.{flat_map, list_any}
use Rattle.dgc_client.specs.declared.groups.Group.{Group}
use Rattle.dgc_client.specs.History as lease_events
use Rattle.dgc_client.specs.Table as client
use Rattle.net_message.specs.declared.message.Message.TheVariants as message
use Rattle.uuid.specs.declared.Uuid.{Uuid}
use Rattle.sp_rules.specs.Events.{Acks}
use Rattle.sp_rules.specs.Frames.{answered_on}
use Rattle.sp_rules.specs.Lines.{dialled_to}
use Rattle.sp_rules.specs.Lists.{with_some}
use Rattle.sp_rules.specs.ParkedFrames.{is_call_on, remove_requests}
use Rattle.sp_rules.specs.State.{State, Connection, Request, is_open, send}
use Rattle.sp_requests.specs.Asking.{asks_by, first_of}
use Rattle.sp_requests.specs.Ends.{ended_group}
use Rattle.sp_requests.specs.declared.asked.Asker.{Asker}
use Rattle.sp_requests.specs.declared.ended.Ended.{Ended}
use Rattle.sp_requests.specs.declared.ended.EndedCall.{EndedCall}
use Rattle.sp_requests.specs.declared.ended.Ending.{Ending}
use Rattle.sp_requests.specs.AllAsked as asked
use Rattle.sp_transport.specs.Said.{said}
use Rattle.sp_transport.specs.declared.transport.Transport.{Transport}

-- who asks by a request, if it is a call or lookup
abbrev pub asker_in : Request → Option Asker
asker_in r = first_of (asks_by r.asked)

-- The connection of a number was dialled to a peer, and is open.
pub record IsDialled (s : State) (peer : Uuid) (conn : ℕ) : Type 0 where
  pub row : Connection
  pub there : dialled_to (said s) peer ≡ Some row
  pub number : row.number ≡ conn
  pub stands : is_open s conn ≡ true

-- ---- what an event makes of a state, step by step

-- the result of a call or lookup has come, and is parked
abbrev pub park_answer : ℕ → ℕ → State → State
park_answer conn number s = record s { requests = map (answered_on conn number) s.requests }

-- a call or lookup whose result has come goes, and its Ack is sent
abbrev pub acknowledge : ℕ → ℕ → State → State
acknowledge conn number s = with_some (find (is_call_on conn number) s.requests) s (λ r. send Acks conn (message.Ack number) (remove_requests (is_call_on conn number) s))

-- something happened to the references of a group
abbrev pub tell_leases : Group → lease_events.Event → State → State
tell_leases group event s = record s { leases = client.told group event s.leases }

-- ---- ends

-- what is told of a call or lookup that ends, if the calls of these numbers were not sent whole
abbrev pub ended_as : List ℕ → Request → List EndedCall
ended_as unsent r = map (λ row. record { asker = row.1; unsent = list_any (◌==◌ row.0) unsent }) (asks_by r.asked)

-- All of these requests, in their order.
pub record AreEnded (unsent : List ℕ) (requests : List Request) (ended : Ended) : Type 0 where
  pub calls : ended.calls.items ≡ flat_map (ended_as unsent) requests
  pub groups : ended.groups.items ≡ flat_map ended_group requests

-- There is room for the end of all that is asked of a peer.
abbrev pub HasEndRoom : Uuid → Ending → Transport → Type 0
HasEndRoom peer ending t = asked.IsEndRoom (asked.row_of peer t.peers) ending
