-- What is told of all that was asked of a peer as it ends together. (This project's own; that calls end with an exception is the Java RMI specification's appendix A.)
use Rattle.std.specs.Prelude.{◌≡◌, ℕ, ◌+◌, ◌≤◌, ◌==◌, not, false, List, [], ◌∷◌, ◌++◌, Option, None, Some, filter, map, length, take, vec_len}
use Rattle.std.specs.Vec.{vec_capacity}
use Rattle.std.specs.List.{flat_map, list_any}
use Rattle.std.specs.Map.{keys_of, values_of}
use Rattle.net_message.specs.declared.message.Message.{Message}
use Rattle.sp_rules.specs.Endings.{call_number_in}
use Rattle.sp_rules.specs.Requests.{is_waiting}
use Rattle.sp_rules.specs.State as rules
use Rattle.sp_requests.specs.declared.asked.Asked.{Asked}
use Rattle.sp_requests.specs.declared.asked.Asked.TheVariants as asked
use Rattle.sp_requests.specs.declared.asked.Asker.{Asker}
use Rattle.sp_requests.specs.declared.asked.Asker.TheVariants as asker
use Rattle.sp_requests.specs.declared.asked.OutGroup.{OutGroup}
use Rattle.sp_requests.specs.declared.ended.Ended.{Ended}
use Rattle.sp_requests.specs.declared.ended.EndedCall.{EndedCall}
use Rattle.sp_requests.specs.declared.ended.Ending.{Ending}
use Rattle.sp_requests.specs.declared.requests.Requests.{Requests}
use Rattle.sp_requests.specs.Asking.{asks_by, group_in, groups_in}

-- ---- one request

abbrev pub asker_of : Asked → Option Asker
asker_of (asked.Call number task lent kind message) = Some (asker.Call task lent kind)
asker_of (asked.Lookup number task name) = Some (asker.Lookup task)
asker_of (asked.Tell call group) = None

-- A call or lookup that is out was not sent whole if its number is one of these; one that waits was not sent.
abbrev pub ended_at : List ℕ → rules.Stage → ℕ × Asker → EndedCall
ended_at unsent rules.Waits row = record { asker = row.1; unsent = false }
ended_at unsent (rules.Out conn sequence) row = record { asker = row.1; unsent = list_any (◌==◌ row.0) unsent }
ended_at unsent (rules.Answered conn) row = record { asker = row.1; unsent = list_any (◌==◌ row.0) unsent }

abbrev pub ended_call : List ℕ → rules.Request → List EndedCall
ended_call unsent r = map (ended_at unsent r.stage) (asks_by r.asked)

abbrev pub ended_group : rules.Request → List OutGroup
ended_group r = values_of (group_in 0 r.asked)

-- the dirty or clean calls that wait, if it is these
abbrev pub waiting_group : Asked → List OutGroup
waiting_group (asked.Call number task lent kind message) = []
waiting_group (asked.Lookup number task name) = []
waiting_group (asked.Tell call group) = record { call = call; group = group } ∷ []

-- ---- all of them

abbrev pub out_among : List rules.Request → List rules.Request
out_among rows = filter (λ (r : rules.Request). not (is_waiting r.stage)) rows

abbrev pub waiting_among : List rules.Request → List rules.Request
waiting_among rows = filter (λ (r : rules.Request). is_waiting r.stage) rows

-- what is out, and then what waits, each in the order in which it was made
abbrev pub in_turn : List rules.Request → List rules.Request
in_turn rows = out_among rows ++ waiting_among rows

-- the numbers of the calls among the last frames of a connection, newest first
abbrev pub unsent_among : ℕ → List Message → List ℕ
unsent_among unsent sent = flat_map call_number_in (take unsent sent)

-- the calls and lookups that end, and the sequence numbers of the groups that are out
pub record IsEnding (unsent : ℕ) (rows : List rules.Request) (sent : List Message) (ending : Ending) : Type 0 where
  pub calls : ending.calls.items ≡ flat_map (ended_call (unsent_among unsent sent)) (in_turn rows)
  pub sequences : ending.sequences.items ≡ keys_of (groups_in rows)
  pub groups : ending.groups.items ≡ []

-- There is room for all groups of the table.
abbrev pub HasEndRoom : Requests → Ending → Type 0
HasEndRoom table ending = vec_len ending.groups + (length ending.sequences.items + vec_len table.waiting) ≤ vec_capacity ending.groups

-- all that ends
pub record IsEnded (unsent : ℕ) (rows : List rules.Request) (sent : List Message) (ended : Ended) : Type 0 where
  pub calls : ended.calls.items ≡ flat_map (ended_call (unsent_among unsent sent)) (in_turn rows)
  pub groups : ended.groups.items ≡ flat_map ended_group (in_turn rows)
