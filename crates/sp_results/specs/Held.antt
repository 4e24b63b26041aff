-- The results of calls and lookups that came, beside the list of the rules of spaces. (This project's own; the Java RMI specification, 3.3, has that what is referenced stays.)
use Rattle.std.specs.Prelude.{◌≡◌, ℕ, suc, ◌+◌, ◌-◌, ◌^◌, ◌<◌, ◌≤◌, ◌==◌, not, Bool, true, false, List, [], ◌∷◌, ◌++◌, Option, None, Some, filter, map, if◌then◌else◌}
use Rattle.std.specs.List.{flat_map, list_any}
use Rattle.std.specs.Map.{keys_of, values_of}
use Rattle.space_ids.specs.declared.ids.ObjId.{ObjId}
use Rattle.space_ids.specs.declared.ids.Ref.{Ref}
use Rattle.space_ids.specs.declared.value.Value.{Value}
use Rattle.uuid.specs.declared.Uuid.{Uuid}
use Rattle.rising_map.specs.Rows as rising
use Rattle.rising_map.specs.Rows.{AreBelow, AreRows}
use Rattle.sp_rules.specs.Frames.{is_acked_by}
use Rattle.sp_rules.specs.OwnEvents.{is_over_at}
use Rattle.sp_rules.specs.References.{is_id_in, own_ids, references_in}
use Rattle.sp_rules.specs.State.{KeptResult, Until, RootAcked, Acked, Passed}
use Rattle.sp_results.specs.Ended as ended
use Rattle.sp_results.specs.Ended.{AreFrom, AreUntil}
use Rattle.sp_results.specs.Numbers as numbers
use Rattle.sp_results.specs.Numbers.{AreTickets, HaveSame}
use Rattle.sp_results.specs.declared.call_results.CallResults.{CallResults}
use Rattle.sp_results.specs.declared.orphans.Orphan.{Orphan}

-- ---- the results of calls, among all

-- whether a result is of a call or lookup that came, and not of a root or lookup of the space's own
abbrev pub is_of_call : KeptResult → Bool
is_of_call r = is r.until
  where
    is : Until → Bool
    is (RootAcked task) = false
    is (Acked conn number) = true
    is (Passed moment) = true

abbrev pub of_calls : List KeptResult → List KeptResult
of_calls results = filter is_of_call results

-- the others: those of the space's own roots and lookups
abbrev pub of_roots : List KeptResult → List KeptResult
of_roots results = filter (λ (r : KeptResult). not (is_of_call r)) results

-- the result that waits for an Ack of a number on a connection, if there is one with this value
abbrev pub acked_row : ℕ → ℕ → Option (Option Value) → List KeptResult
acked_row conn number None = []
acked_row conn number (Some value) = record { until = Acked conn number; value = value } ∷ []

-- the results with that of a call after all others
abbrev pub with_acked : ℕ → ℕ → Option Value → List KeptResult → List KeptResult
with_acked conn number value results = results ++ record { until = Acked conn number; value = value } ∷ []

-- those that an Ack of a number on a connection leaves
abbrev pub left_by_ack : ℕ → ℕ → List KeptResult → List KeptResult
left_by_ack conn number results = filter (λ (r : KeptResult). not (is_acked_by conn number r)) results

-- those that a moment leaves
abbrev pub left_at : ℕ → List KeptResult → List KeptResult
left_at moment results = filter (λ (r : KeptResult). not (is_over_at moment r)) results

-- whether a result names the space's own object of this id
abbrev pub is_named_in : Uuid → List KeptResult → ObjId → Bool
is_named_in own results id = list_any (λ (r : KeptResult). is_id_in (own_ids own (references_in r.value)) id) results

-- the references in results
abbrev pub references_of_results : List KeptResult → List Ref
references_of_results results = flat_map (λ (r : KeptResult). references_in r.value) results

-- the references in the value of a result, if there is one
abbrev pub references_found : Option (Option Value) → List Ref
references_found None = []
references_found (Some value) = references_in value

-- ---- results with their tickets

-- the number of a result that waits for an Ack on this connection, with its ticket
abbrev pub number_on : ℕ → ℕ × KeptResult → List (ℕ × ℕ)
number_on conn row = on row.1.until
  where
    on : Until → List (ℕ × ℕ)
    on (RootAcked task) = []
    on (Acked c number) = if c == conn then (number, row.0) ∷ [] else []
    on (Passed moment) = []

abbrev pub numbers_on : List (ℕ × KeptResult) → ℕ → List (ℕ × ℕ)
numbers_on rows conn = flat_map (number_on conn) rows

-- the moment until which a result is held whose connection has ended, with its ticket
abbrev pub orphan_in : ℕ × KeptResult → List Orphan
orphan_in row = of row.1.until
  where
    of : Until → List Orphan
    of (RootAcked task) = []
    of (Acked conn number) = []
    of (Passed moment) = record { until = moment; ticket = row.0 } ∷ []

abbrev pub orphans_in : List (ℕ × KeptResult) → List Orphan
orphans_in rows = flat_map orphan_in rows

abbrev pub valued : List (ℕ × KeptResult) → List (ℕ × Option Value)
valued rows = map (λ (row : ℕ × KeptResult). (row.0, row.1.value)) rows

-- Values stand by their tickets, which rise. The tickets of those that wait for an Ack stand by connections and numbers, those of the others in the order of the moments until which they are held. None of these is later than 600,000 ms after this moment.
pub record AreTicketed (moment : ℕ) (rows : List (ℕ × KeptResult)) (table : CallResults) : Type 0 where
  pub values : AreRows (valued rows) table.values
  pub waiting : AreTickets (numbers_on rows) table.unacknowledged
  pub ended : HaveSame table.orphans.queue.items (orphans_in rows)
  pub in_order : AreFrom 0 table.orphans.queue.items
  pub within : AreUntil (moment + 600000) table.orphans.queue.items
  pub given : AreBelow (suc table.last) (keys_of rows)

-- The results of calls among all results of a space, at a moment, stand in the table: these are their tickets.
pub record AreCallResults (moment : ℕ) (results : List KeptResult) (table : CallResults) : Type 0 where
  pub rows : List (ℕ × KeptResult)
  pub are : values_of rows ≡ of_calls results
  pub ticketed : AreTicketed moment rows table

-- ---- room

-- There is room for a result of a call on this connection.
pub record HasRoom (conn : ℕ) (table : CallResults) : Type 0 where
  pub values : 0 < rising.room table.values
  pub waiting : 0 < numbers.room_at table.unacknowledged conn
  pub tickets : table.last < 2 ^ 64 - 1

-- There is room for the end of this connection.
abbrev pub HasRoomToEnd : ℕ → CallResults → Type 0
HasRoomToEnd conn table = numbers.count_at table.unacknowledged conn ≤ ended.room table.orphans
