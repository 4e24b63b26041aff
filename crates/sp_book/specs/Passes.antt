-- What is seen of passes. (This project's own.)
use Rattle.std.specs.Prelude.{◌≡◌, ℕ, ◌==◌, nat_lt, Bool, List, [], ◌∷◌, ◌++◌, drop, if◌then◌else◌}
use Rattle.std.specs.List.{list_any, sum_by}
use Rattle.sp_ready.specs.Notices.{numbered}
use Rattle.sp_ready.specs.declared.rule.Known.{Known}
use Rattle.sp_rules.specs.Books.{Entry}

-- its number, the entries of its calls, oldest first; how many of them it made before its list began, and how many entries checkpoints had cut by
-- then; the tasks that it was lent, what its seat at the queue knows, and for how many calls its list has room beside those with which its tasks come
-- back
pub record Seen : Type 0 where
  pub number : ℕ
  pub calls : List Entry
  pub older : ℕ
  pub since : ℕ
  pub hand : List ℕ
  pub known : Known
  pub room : ℕ

-- ---- what a call makes of a pass

abbrev pub IsSame : Seen → Seen → Type 0
IsSame p q = (q.number ≡ p.number) × (q.calls ≡ p.calls) × (q.hand ≡ p.hand) × (q.known ≡ p.known)

-- its list has one entry more
abbrev pub Adds : Entry → Seen → Seen → Type 0
Adds entry p q = (q.number ≡ p.number) × (q.calls ≡ p.calls ++ entry ∷ []) × (q.hand ≡ p.hand) × (q.known ≡ p.known)

-- it was lent a task
abbrev pub Holds : ℕ → Seen → Seen → Type 0
Holds task p q = (q.number ≡ p.number) × (q.calls ≡ p.calls) × (q.hand ≡ p.hand ++ task ∷ []) × (q.known ≡ p.known)

-- whether a task is among these
abbrev pub has : ℕ → List ℕ → Bool
has task hand = list_any (λ x. x == task) hand

-- the others: without the first that is the task
abbrev pub without : ℕ → List ℕ → List ℕ
without task [] = []
without task (x ∷ xs) = if x == task then xs else x ∷ without task xs

-- its list has the entry with which a task came back
abbrev pub Returns : ℕ → Entry → Seen → Seen → Type 0
Returns task entry p q = (q.number ≡ p.number) × (q.calls ≡ p.calls ++ entry ∷ []) × (q.hand ≡ without task p.hand) × (q.known ≡ p.known)

-- ---- all passes

-- the entries under a number, in their order
abbrev pub standing : ℕ → List (ℕ × Entry) → List Entry
standing number [] = []
standing number (e ∷ es) = if e.0 == number then e.1 ∷ standing number es else standing number es

-- the calls in its list, where so many entries are cut: none, if its list began before
abbrev pub calls_since : ℕ → Seen → List Entry
calls_since cut p = if nat_lt p.since cut then [] else drop p.older p.calls

-- Passes took notices out of one list, in which those that nobody took are the last: each of the others, at its place in the list, was taken once, by
-- one of them.
abbrev pub TookEach : List Seen → Type 0
TookEach passes = (notices taken left : List ℕ) × (notices ≡ taken ++ left) × ((h : ℕ × ℕ → ℕ) → sum_by (λ p. sum_by h p.known.taken) passes ≡ sum_by h (numbered 0 taken))
