-- A book from any state on: the state to which entries lead, what they answer, and when what waits is an end of that. (This project's own.)
use Rattle.std.specs.Prelude.{◌≡◌, not, Bool, true, false, List, [], ◌∷◌, ◌++◌, filter}
use Rattle.sp_rules.specs.Books.{Entry, AreTrueFrom, book_run, event_of}
use Rattle.sp_rules.specs.Classes.{Setting}
use Rattle.sp_rules.specs.Events.{Output, Ready}
use Rattle.sp_rules.specs.Space.{on}
use Rattle.sp_rules.specs.State.{State, opening}

-- the state to which entries, oldest first, lead from a state
unfoldable pub run_from : Setting → State → List Entry → State
run_from g s [] = s
run_from g s (e ∷ es) = run_from g (on g (event_of e) s).0 es

-- all that they answer
unfoldable pub answers_from : Setting → State → List Entry → List Output
answers_from g s [] = []
answers_from g s (e ∷ es) = (on g (event_of e) s).1 ++ answers_from g (on g (event_of e) s).0 es

abbrev pub is_ready : Output → Bool
is_ready (Ready task) = true
is_ready _ = false

-- the outputs that are told: a Ready is a notice instead
abbrev pub told : List Output → List Output
told outputs = filter (λ o. not (is_ready o)) outputs

abbrev pub IsEnd : List Output → List Output → Type 0
IsEnd waiting all = (front : List Output) × (all ≡ front ++ waiting)

-- Entries are true from a state on, and the outputs that wait are an end of those that waited there and were answered since.
pub record Replays (g : Setting) (start : State) (before : List Output) (entries : List Entry) (waiting : List Output) : Type 0 where
  pub replies : AreTrueFrom g start entries
  pub waits : IsEnd waiting (before ++ told (answers_from g start entries))

-- ---- entries that were cut

-- With those that were cut before them, entries replay from the first state on.
abbrev pub CutBooksReplay : Type 0
CutBooksReplay = (g : Setting) (cut entries : List Entry) (before waiting : List Output) → Replays g opening [] cut before → Replays g (run_from g opening cut) before entries waiting
    → Replays g opening [] (cut ++ entries) waiting

-- They lead where the rules say that a book of all of them leads.
abbrev pub CutBooksLead : Type 0
CutBooksLead = (g : Setting) (cut entries : List Entry) → run_from g (run_from g opening cut) entries ≡ book_run g (cut ++ entries)
