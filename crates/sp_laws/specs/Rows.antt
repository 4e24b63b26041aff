-- What the entries of a book leave of a task: how it began, and its record, that is the replies that it
-- was given and its instructions between them (this project's own rule).
use Rattle.std.specs.Prelude.{◌≡◌, ◌⊎◌, ℕ, ◌==◌, ◌&&◌, not, Bool, List, [], ◌∷◌, ◌++◌, Some, if◌then◌else◌}
use Rattle.sp_rules.specs.Books.{Entry, OnEvent, OnCommit, OnPark, OnGiveBack, OnFinish, AreTrueFrom, book_run, event_of, history_of}
use Rattle.sp_rules.specs.Classes.{Setting}
use Rattle.sp_rules.specs.Events.{Event, Output, Ended}
use Rattle.sp_rules.specs.Laws.{AllOf}
use Rattle.sp_rules.specs.LivingTasks.{after_steps, after_reply}
use Rattle.sp_rules.specs.Space.{on}
use Rattle.sp_rules.specs.State.{Living, opening, task_at}
use Rattle.sp_rules.specs.Tasks.{stand, steps}
use Rattle.sp_laws.specs.Changes.{IsOfSpace, IsAnswered, HasBegun, when_parked}
use Rattle.sp_laws.specs.Ends.{IsEndOfRun, IsEndOfNoTask}

-- ---- one entry

-- whether an entry of this task is of the row, and the row may go on
abbrev pub is_at_work : ℕ → Living → Bool
is_at_work task t = t.id == task && not t.waits

-- What an entry makes of the row of a task that lives on. An event of the space leaves it, or brings
-- the reply to its call. A commit gives it the reply of the entry, after so many instructions; with a
-- park it waits, if it stands at a call; with a give-back it has made so many instructions more; and
-- with a finish it stays, since it does not stand at its end. (Nothing is said of an event of a lent
-- task that is entered as one of the space, as no book enters it.)
abbrev pub Turns : Setting → Entry → Living → Living → Type 0
Turns g (OnEvent event) t u = IsOfSpace event → (u ≡ t) ⊎ IsAnswered g t u
Turns g (OnCommit task k op reply) t u =
    u ≡ (if is_at_work task t then after_reply g reply (after_steps k t) else t)
Turns g (OnPark task k op) t u =
    u ≡ (if is_at_work task t then when_parked k (stand (steps k t.task)) t else t)
Turns g (OnGiveBack task k) t u = u ≡ (if is_at_work task t then after_steps k t else t)
Turns g (OnFinish task k) t u = u ≡ t

-- ---- all entries

-- entries, oldest first, lead from a row to a row
abbrev pub Leads : Setting → List Entry → Living → Living → Type 0
Leads g [] t u = u ≡ t
Leads g (e ∷ es) t u = (v : Living) × (Turns g e t v × Leads g es v u)

-- A row stands in entries: with one of them its task began, with nothing in its record, and those after
-- that lead to the row.
pub record IsWritten (g : Setting) (entries : List Entry) (t : Living) : Type 0 where
  pub before : List Entry
  pub event : Event
  pub after : List Entry
  pub parts : entries ≡ before ++ OnEvent event ∷ after
  pub first : Living
  pub begins : HasBegun g (book_run g before) event first
  pub same : first.id ≡ t.id
  pub leads : Leads g after first t

-- ---- the laws

-- This holds of each living task of a book whose commits have the replies that the space gives.
abbrev pub RecordsAreEntries : Type 0
RecordsAreEntries = (g : Setting) (entries : List Entry) (id : ℕ) (t : Living)
    → AreTrueFrom g opening entries → task_at (book_run g entries) id ≡ Some t → IsWritten g entries t

-- An Ended that an entry answers is of the task that it finishes, whose row stands in the entries
-- before, or of a lookup.
abbrev pub EndsAsWritten : Setting → List Entry → Entry → Output → Type 0
EndsAsWritten g entries e (Ended id outcome) =
    ((end : IsEndOfRun g (book_run g entries) (event_of e) id outcome) × IsWritten g entries end.task)
    ⊎ IsEndOfNoTask g (history_of entries) (event_of e) id outcome
EndsAsWritten g entries e _ = Unit {0}

-- So with one entry more after all entries of such a book.
abbrev pub BooksEndAsWritten : Type 0
BooksEndAsWritten = (g : Setting) (entries : List Entry) (e : Entry) → AreTrueFrom g opening entries
    → AllOf (EndsAsWritten g entries e) (on g (event_of e) (book_run g entries)).1
