-- What is seen of a history. (This project's own.)
use Rattle.std.specs.Prelude.{◌≡◌, ℕ, ◌+◌, ◌-◌, ◌^◌, min, nat_le, Bool, List, [], ◌∷◌, ◌++◌, length, Option, None, Some}
use Rattle.sp_rules.specs.Books.{Entry, event_of}
use Rattle.sp_rules.specs.Classes.{Setting}
use Rattle.sp_rules.specs.Events.{Output}
use Rattle.sp_rules.specs.Space.{on}
use Rattle.sp_rules.specs.State.{State, opening}
use Rattle.sp_history.specs.Books.{run_from, told}

-- The entries that checkpoints cut, and the outputs that waited at the last one; the entries since, oldest first, each with the number of who made the
-- call; the outputs that wait; how many tasks are in hand; and as how many entries and tasks in hand together it takes.
pub record Log : Type 0 where
  pub cut : List (ℕ × Entry)
  pub before : List Output
  pub entries : List (ℕ × Entry)
  pub waiting : List Output
  pub in_hand : ℕ
  pub limit : ℕ

abbrev pub unnumbered : List (ℕ × Entry) → List Entry
unnumbered [] = []
unnumbered (e ∷ es) = e.1 ∷ unnumbered es

-- ---- states

-- the state at the checkpoint that cut the last of these entries: that of a space to which nothing has happened, where none was cut
abbrev pub start_of : Setting → List (ℕ × Entry) → State
start_of g cut = run_from g opening (unnumbered cut)

-- the state to which the entries since the last checkpoint replay
abbrev pub state_in : Setting → Log → State
state_in g log = run_from g (start_of g log.cut) (unnumbered log.entries)

-- What is kept of the state at the last checkpoint is a copy of it. Where nothing is kept, nothing was cut.
abbrev pub IsKept : {A : Type 0} → (State → A → Type 0) → Setting → List (ℕ × Entry) → Option A → Type 0
IsKept is_base g cut None = cut ≡ []
IsKept is_base g cut (Some base) = is_base (start_of g cut) base

-- ---- how many entries it takes

-- as how many entries and tasks in hand together it takes after this many were cut: no more than it was to take, and 2^63 with those
abbrev pub limit_after : ℕ → ℕ → ℕ
limit_after cut limit = min limit (2 ^ 63 - cut)

abbrev pub first_log : ℕ → Log
first_log limit = record { cut = []; before = []; entries = []; waiting = []; in_hand = 0; limit = limit_after 0 limit }

abbrev pub is_full : Log → Bool
is_full log = nat_le log.limit (length log.entries + log.in_hand)

-- ---- what calls make of it

-- one entry more, and what its event answers waits
abbrev pub entered : Setting → ℕ → Entry → Log → Log
entered g by entry log = record log {
  entries = log.entries ++ (by, entry) ∷ [];
  waiting = log.waiting ++ told (on g (event_of entry) (state_in g log)).1;
}

abbrev pub with_one_lent : Log → Log
with_one_lent log = record log { in_hand = log.in_hand + 1 }

-- one task less is in hand
abbrev pub back : Log → Log
back log = record log { in_hand = log.in_hand - 1 }

abbrev pub with_all_taken : Log → Log
with_all_taken log = record log { waiting = [] }

-- all entries are cut, and what waits has waited there
abbrev pub with_all_cut : Log → Log
with_all_cut log = record log {
  cut = log.cut ++ log.entries;
  before = log.waiting;
  entries = [];
  limit = limit_after (length log.cut + length log.entries) log.limit;
}
