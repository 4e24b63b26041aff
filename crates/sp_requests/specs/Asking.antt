-- What is asked of one peer, as tables beside the list of the rules of spaces. (This project's own protocol; calls and dirty and clean calls are the Java RMI specification's, 3.2 and 9.1.)
use Rattle.std.specs.Prelude.{◌≡◌, ℕ, suc, ◌+◌, ◌*◌, ◌-◌, ◌^◌, ◌<◌, ◌≤◌, ◌==◌, Bool, true, false, List, [], ◌∷◌, Option, None, Some, filter, map, length, vec_len, if◌then◌else◌}
use Rattle.std.specs.Vec.{vec_capacity}
use Rattle.std.specs.List.{flat_map, list_any}
use Rattle.std.specs.Map.{keys_of}
use Rattle.net_message.specs.declared.message.Message.{Message}
use Rattle.net_message.specs.declared.message.Message.TheVariants as message
use Rattle.rising_map.specs.Rows as rising
use Rattle.rising_map.specs.Rows.{AreBelow, AreRows}
use Rattle.sp_rules.specs.Classes.{Kind, IntKind, IntArrayKind, ReferenceKind, VoidKind}
use Rattle.sp_rules.specs.Endings.{call_number_in, is_group}
use Rattle.sp_rules.specs.Laws.{AllOf}
use Rattle.sp_rules.specs.Requests.{is_waiting}
use Rattle.sp_rules.specs.State as rules
use Rattle.sp_requests.specs.declared.asked.Asked.{Asked}
use Rattle.sp_requests.specs.declared.asked.Asked.TheVariants as asked
use Rattle.sp_requests.specs.declared.asked.Asker.{Asker}
use Rattle.sp_requests.specs.declared.asked.Asker.TheVariants as asker
use Rattle.sp_requests.specs.declared.asked.OutCall.{OutCall}
use Rattle.sp_requests.specs.declared.asked.OutGroup.{OutGroup}
use Rattle.sp_requests.specs.declared.asked.ResultKind.{ResultKind}
use Rattle.sp_requests.specs.declared.asked.ResultKind.TheVariants as result
use Rattle.sp_requests.specs.declared.requests.Requests.{Requests}

-- ---- what is asked

abbrev pub kind_of : ResultKind → Kind
kind_of result.Int = IntKind
kind_of result.IntArray = IntArrayKind
kind_of result.Reference = ReferenceKind
kind_of result.Nothing = VoidKind

abbrev pub result_kind : Kind → ResultKind
result_kind IntKind = result.Int
result_kind IntArrayKind = result.IntArray
result_kind ReferenceKind = result.Reference
result_kind VoidKind = result.Nothing

-- what waits, in the terms of the rules
abbrev pub asked_of : Asked → rules.Asked
asked_of (asked.Call number task lent kind message) = rules.Calls number task lent (kind_of kind) message
asked_of (asked.Lookup number task name) = rules.LooksUp number task name
asked_of (asked.Tell call group) = rules.Tells call group

-- the number of a call or lookup, and who asks by it
abbrev pub asks_by : rules.Asked → List (ℕ × Asker)
asks_by (rules.Calls number task lent kind m) = (number, asker.Call task lent (result_kind kind)) ∷ []
asks_by (rules.LooksUp number task name) = (number, asker.Lookup task) ∷ []
asks_by (rules.Tells call group) = []

-- ---- frames

-- The frame of the call or lookup of this number went out.
abbrev pub was_sent : ℕ → List Message → Bool
was_sent number sent = list_any (◌==◌ number) (flat_map call_number_in sent)

-- how many frames went out before the call or lookup of this number
abbrev pub index_of : ℕ → List Message → ℕ
index_of number [] = 0
index_of number (m ∷ sent) = if list_any (◌==◌ number) (call_number_in m) then length sent else index_of number sent

-- the sequence number of dirty or clean calls
abbrev pub sequence_in : Message → List ℕ
sequence_in (message.Dirty sequence period objects) = sequence ∷ []
sequence_in (message.Clean sequence strong objects) = sequence ∷ []
sequence_in _ = []

-- the first of these numbers, or 0
abbrev pub newest : List ℕ → ℕ
newest [] = 0
newest (n ∷ ns) = n

-- the number of the last call or lookup that went out, 0 before the first
abbrev pub last_call : List Message → ℕ
last_call sent = newest (flat_map call_number_in sent)

-- the sequence number of the last dirty or clean calls that went out, 0 before the first
abbrev pub last_sequence : List Message → ℕ
last_sequence sent = newest (flat_map sequence_in sent)

-- ---- rows

abbrev pub out_row : List Message → Bool → ℕ × Asker → ℕ × OutCall
out_row sent answered row = (row.0, record { asker = row.1; answered = answered; index = index_of row.0 sent })

abbrev pub call_at : List Message → rules.Stage → rules.Asked → List (ℕ × OutCall)
call_at sent rules.Waits question = []
call_at sent (rules.Out conn sequence) question = map (out_row sent false) (asks_by question)
call_at sent (rules.Answered conn) question = map (out_row sent true) (asks_by question)

-- the row of a call or lookup that is out
abbrev pub call_row : List Message → rules.Request → List (ℕ × OutCall)
call_row sent r = call_at sent r.stage r.asked

abbrev pub group_in : ℕ → rules.Asked → List (ℕ × OutGroup)
group_in sequence (rules.Calls number task lent kind m) = []
group_in sequence (rules.LooksUp number task name) = []
group_in sequence (rules.Tells call group) = (sequence, record { call = call; group = group }) ∷ []

abbrev pub group_at : rules.Stage → rules.Asked → List (ℕ × OutGroup)
group_at rules.Waits question = []
group_at (rules.Out conn sequence) question = group_in sequence question
group_at (rules.Answered conn) question = []

-- the row of dirty or clean calls that are out
abbrev pub group_row : rules.Request → List (ℕ × OutGroup)
group_row r = group_at r.stage r.asked

abbrev pub calls_in : List Message → List rules.Request → List (ℕ × OutCall)
calls_in sent rows = flat_map (call_row sent) rows

abbrev pub groups_in : List rules.Request → List (ℕ × OutGroup)
groups_in rows = flat_map group_row rows

abbrev pub waiting_in : List rules.Request → List rules.Asked
waiting_in rows = map (λ (r : rules.Request). r.asked) (filter (λ (r : rules.Request). is_waiting r.stage) rows)

abbrev pub first_of : {A : Type 0} → List (ℕ × A) → Option A
first_of [] = None
first_of (row ∷ rows) = Some row.1

-- what is kept of a call or lookup that is out
abbrev pub shown : List Message → rules.Request → Option OutCall
shown sent r = first_of (call_row sent r)

-- what is kept of dirty or clean calls that are out
abbrev pub told : rules.Request → Option OutGroup
told r = first_of (group_row r)

-- the number of a call or lookup that is out, the sequence number of dirty or clean calls
abbrev pub number_of : rules.Request → List ℕ
number_of r = keys_of (call_row [] r)

abbrev pub sequence_of : rules.Request → List ℕ
sequence_of r = keys_of (group_row r)

-- ---- tables

-- What is out is out on this connection.
abbrev pub IsOn : ℕ → rules.Stage → Type 0
IsOn conn rules.Waits = Unit {0}
IsOn conn (rules.Out c sequence) = c ≡ conn
IsOn conn (rules.Answered c) = c ≡ conn

-- The frame of a call has its number.
abbrev pub IsNamed : rules.Asked → Type 0
IsNamed (rules.Calls number task lent kind m) = call_number_in m ≡ number ∷ []
IsNamed (rules.LooksUp number task name) = Unit {0}
IsNamed (rules.Tells call group) = Unit {0}

-- What is answered is a call or lookup.
abbrev pub IsOfCall : rules.Stage → rules.Asked → Type 0
IsOfCall rules.Waits question = Unit {0}
IsOfCall (rules.Out conn sequence) question = Unit {0}
IsOfCall (rules.Answered conn) question = is_group question ≡ false

-- What waits stands in its order, calls and lookups that are out by number, dirty and clean calls by sequence number. The frame of each call that is out went out on the connection. Its frames are no more than the numbers allow: each call may go out and be acknowledged, each dirty or clean call goes out, and one is the Hello.
pub record AreRequests (conn : ℕ) (rows : List rules.Request) (sent : List Message) (table : Requests) : Type 0 where
  pub on : AllOf (λ (r : rules.Request). IsOn conn r.stage) rows
  pub answered : AllOf (λ (r : rules.Request). IsOfCall r.stage r.asked) rows
  pub named : AllOf (λ (r : rules.Request). IsNamed r.asked) rows
  pub waiting : map asked_of table.waiting.items ≡ waiting_in rows
  pub calls : AreRows (calls_in sent rows) table.calls
  pub groups : AreRows (groups_in rows) table.groups
  pub were_sent : AllOf (λ (row : ℕ × OutCall). was_sent row.0 sent ≡ true) (calls_in sent rows)
  pub frames : table.frames ≡ length sent
  pub called : AreBelow (suc (last_call sent)) (keys_of (calls_in sent rows))
  pub told_of : AreBelow (suc (last_sequence sent)) (keys_of (groups_in rows))
  pub call_fits : last_call sent < 2 ^ 64
  pub sequence_fits : last_sequence sent < 2 ^ 64
  pub few : length sent + length (calls_in sent rows) ≤ 1 + (2 * last_call sent + last_sequence sent)

-- whatever requests the table may stand for, the other may stand for
abbrev pub HasRequestsOf : Requests → Requests → Type 0
HasRequestsOf table other = (conn : ℕ) (rows : List rules.Request) (sent : List Message) → AreRequests conn rows sent table → AreRequests conn rows sent other

-- ---- room

abbrev pub waiting_room : Requests → ℕ
waiting_room table = vec_capacity table.waiting - vec_len table.waiting

abbrev pub call_room : Requests → ℕ
call_room table = rising.room table.calls

abbrev pub group_room : Requests → ℕ
group_room table = rising.room table.groups
