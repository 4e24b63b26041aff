-- A reference can have a call due only if something happened to it since the last question for due calls. (This project's own; no rule of a
-- standard.)
use Rattle.std.specs.Prelude.{◌≡◌, ℕ, Bool, true, List, Contains, slice_get, Option, None, Some, is_some, if◌then◌else◌}
use Rattle.dgc_client.specs.declared.groups.DueCall.{DueCall}
use Rattle.dgc_client.specs.declared.lease.ClientLease.{ClientLease}
use Rattle.dgc_client.specs.declared.lease.Due.{Due}
use Rattle.space_ids.specs.declared.ids.ForeignId.{ForeignId}
use Rattle.dgc_client.specs.declared.picked.Question.{Question}
use Rattle.dgc_client.specs.declared.picked.Question.TheVariants.{Renewed, Lapses}
use Rattle.dgc_client.specs.Lease.{due, is_renewed_at, lapses_at}

abbrev pub due_call : ForeignId → Option Due → Option DueCall
due_call reference None = None
due_call reference (Some kind) = Some (record { reference = reference; kind = kind })

-- the call that is due of an entry
abbrev pub call_of_entry : ForeignId × ClientLease → Option DueCall
call_of_entry entry = due_call entry.0 (due entry.1)

-- what is found of an entry that is there
abbrev pub some_of : {X : Type 0} → (ForeignId × ClientLease → Option X) → Option (ForeignId × ClientLease) → Option X
some_of f None = None
some_of f (Some entry) = f entry

-- what is found at an index
abbrev pub at_index : {X : Type 0} → (ForeignId × ClientLease → Option X) → List (ForeignId × ClientLease) → ℕ → Option X
at_index f entries at = some_of f (slice_get entries at)

abbrev pub IsAnswered : {X : Type 0} → (ForeignId × ClientLease → Option X) → List (ForeignId × ClientLease) → ℕ → Type 0
IsAnswered f entries at = is_some (at_index f entries at) ≡ true

-- all indexes at which something is found are among these
abbrev pub HasAllOf : {X : Type 0} → (ForeignId × ClientLease → Option X) → List (ForeignId × ClientLease) → List ℕ → Type 0
HasAllOf f entries indexes = (at : ℕ) → IsAnswered f entries at → Contains indexes at

-- the call that is due at an index
abbrev pub call_at : List (ForeignId × ClientLease) → ℕ → Option DueCall
call_at entries at = at_index call_of_entry entries at

abbrev pub IsDueAt : List (ForeignId × ClientLease) → ℕ → Type 0
IsDueAt entries at = IsAnswered call_of_entry entries at

-- all indexes at which a call is due are among these
abbrev pub HasAll : List (ForeignId × ClientLease) → List ℕ → Type 0
HasAll entries indexes = HasAllOf call_of_entry entries indexes

-- whether the question holds of a lease
abbrev pub holds : Question → ClientLease → Bool
holds (Renewed moment) l = is_renewed_at moment l
holds (Lapses moment) l = lapses_at moment l

-- the reference of an entry, if the question holds of its lease
abbrev pub reference_of : Question → ForeignId × ClientLease → Option ForeignId
reference_of question entry = if holds question entry.1 then Some entry.0 else None
