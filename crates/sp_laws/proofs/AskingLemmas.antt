-- What tasks ask is held, and entries have numbers.
use mathlib.Core.Path.{sym}
use Rattle.std.proofs.lemmas.Bool.{true≢false}
use Rattle.std.specs.Prelude.{◌≡◌, refl, ℕ, ◌+◌, ◌++◌, ◌||◌, not, nat_lt, is_some, Bool, true, false, List, [], ◌∷◌, Option, None, Some, if◌then◌else◌}
use Rattle.dgc_list.specs.History as owner
use Rattle.dgc_list.specs.History.{remembered_of}
use Rattle.dgc_list.specs.Objects.{is_same}
use Rattle.dgc_list.specs.Remembered.{blank, is_late, is_gone, after_dirty, after_clean, after_moment}
use Rattle.dgc_list.specs.declared.remembered.Remembered.{Remembered}
use Rattle.space_ids.specs.declared.ids.ObjId.{ObjId}
use Rattle.sp_rules.specs.Classes.{Setting}
use Rattle.sp_rules.specs.Events.{Event, Moment, Sweep, Root, RootAck, Bind, Rebind, Unbind, Lookup, Opened, Refused, Received, Closed, ReadFailed, Bad, WriteFailed, Committed, Parked, GivenBack, Finished}
use Rattle.sp_rules.specs.References.{references_in}
use Rattle.sp_rules.specs.Refusals
use Rattle.sp_rules.specs.Refusals.{Check, first_refusal, checks, refusal}
use Rattle.sp_rules.specs.Space
use Rattle.sp_rules.specs.State.{State, task_at}
use Rattle.sp_rules.specs.Tasks.{Stand, Runs, AsksFor, HasEnded}
use Rattle.sp_rules.proofs.OwnLemmas.{unrefused, first-of, not-false}
use Rattle.sp_laws.specs.Asking.{StandsAtHeld, AsksOfHeld, TasksAskOfWhatTheyHold, EntriesHaveNumbers}

-- ---- what tasks ask

-- the tests after the one that the task is lent
in-hand : (lent : List ℕ) (s : State) (task : ℕ) (rest : List Check) → first_refusal (Refusals.refuse_if (not (Refusals.is_in_hand lent s task)) Refusals.NotLent ++ rest) ≡ None → first_refusal rest ≡ None
in-hand lent s task rest e = (first-of (not (Refusals.is_in_hand lent s task)) Refusals.NotLent rest e).1

parked-held : (g : Setting) (s : State) (task : ℕ) (stands : Option Stand) → first_refusal (Refusals.check_parked g (task_at s task) stands) ≡ None → StandsAtHeld g s task stands
parked-held g s task None e = tt
parked-held g s task (Some Runs) e = tt
parked-held g s task (Some (AsksFor op)) e = not-false (Refusals.holds_op g (task_at s task) op) (first-of (not (Refusals.holds_op g (task_at s task) op)) Refusals.NotHeld (Refusals.refuse_if (not (Refusals.fits_call g op)) Refusals.WrongKind) e).0
parked-held g s task (Some (HasEnded outcome)) e = absurd (true≢false (first-of true Refusals.WrongKind [] e).0)

finished-held : (g : Setting) (s : State) (task : ℕ) (stands : Option Stand) → first_refusal (Refusals.check_finished (task_at s task) stands) ≡ None → StandsAtHeld g s task stands
finished-held g s task None e = tt
finished-held g s task (Some Runs) e = tt
finished-held g s task (Some (AsksFor op)) e = absurd (true≢false (first-of true Refusals.WrongKind [] e).0)
finished-held g s task (Some (HasEnded outcome)) e = not-false (Refusals.holds (task_at s task) (references_in (Refusals.result_of outcome))) (first-of (not (Refusals.holds (task_at s task) (references_in (Refusals.result_of outcome)))) Refusals.NotHeld [] e).0

pub tasks_ask_of_what_they_hold : TasksAskOfWhatTheyHold
tasks_ask_of_what_they_hold g lent s e t = by e (unrefused g lent s e t)
  where
    by : (e : Event) → first_refusal (checks g lent s e) ≡ None → AsksOfHeld g s e
    by (Committed task k op) r = not-false (Refusals.holds_op g (task_at s task) op) (first-of (not (Refusals.holds_op g (task_at s task) op)) Refusals.NotHeld (Refusals.check_committed g s op (Refusals.stand_after k (task_at s task)))
        (in-hand lent s task (Refusals.refuse_if (not (Refusals.holds_op g (task_at s task) op)) Refusals.NotHeld ++ Refusals.check_committed g s op (Refusals.stand_after k (task_at s task))) r)).0
    by (Parked task k) r = parked-held g s task (Refusals.stand_after k (task_at s task)) (in-hand lent s task (Refusals.check_parked g (task_at s task) (Refusals.stand_after k (task_at s task))) r)
    by (Finished task k) r = finished-held g s task (Refusals.stand_after k (task_at s task)) (in-hand lent s task (Refusals.check_finished (task_at s task) (Refusals.stand_after k (task_at s task))) r)
    by (Moment moment) r = tt
    by Sweep r = tt
    by (Root method arguments fuel) r = tt
    by (RootAck task) r = tt
    by (Bind name value) r = tt
    by (Rebind name value) r = tt
    by (Unbind name) r = tt
    by (Lookup peer name) r = tt
    by (Opened conn dialled) r = tt
    by (Refused peer) r = tt
    by (Received conn m) r = tt
    by (Closed conn) r = tt
    by (ReadFailed conn) r = tt
    by (Bad conn) r = tt
    by (WriteFailed conn unsent) r = tt
    by (GivenBack task k) r = tt

-- ---- entries

abbrev HasNumber : Remembered → Type 0
HasNumber r = is_some r.expires ≡ true → is_some r.number ≡ true

if-number : (b : Bool) (r q : Remembered) → HasNumber r → HasNumber q → HasNumber (if b then r else q)
if-number true r q h k = h
if-number false r q h k = k

gone-number : (number : Option ℕ) (strong : Bool) → HasNumber (record { number = number; strong = strong; expires = None })
gone-number number strong e = absurd (true≢false (sym e))

remembered-number : (h : List owner.Call) (client : List ℕ) (o : ObjId) → HasNumber (remembered_of h client o)
remembered-number [] client o = gone-number None false
remembered-number (owner.Dirty c objects number period ∷ h) client o =
    let r : Remembered = remembered_of h client o in
    let old : HasNumber r = remembered-number h client o in
    if-number (owner.is_told c objects client o) (after_dirty number (owner.moment_of h + owner.granted period) r) r
    (if-number (is_late r number) r (record { number = Some number; strong = r.strong; expires = Some (owner.moment_of h + owner.granted period) }) old (λ e. refl)) old
remembered-number (owner.Clean c objects number strong ∷ h) client o =
    let r : Remembered = remembered_of h client o in
    let old : HasNumber r = remembered-number h client o in
    if-number (owner.is_told c objects client o) (after_clean number strong r) r (if-number (is_late r number) r (record { number = (if strong || r.strong then Some number else None); strong = strong || r.strong; expires = None }) old (gone-number (if strong || r.strong then Some number else None) (strong || r.strong))) old
remembered-number (owner.Moment moment ∷ h) client o =
    let r : Remembered = remembered_of h client o in
    let old : HasNumber r = remembered-number h client o in
    if-number (nat_lt moment (owner.moment_of h)) r (after_moment moment r) old (if-number (is_gone moment r.expires) (record { number = (if r.strong then r.number else None); strong = r.strong; expires = None }) r (gone-number (if r.strong then r.number else None) r.strong) old)
remembered-number (owner.Forget object ∷ h) client o =
    if-number (is_same object o) blank (remembered_of h client o) (gone-number None false) (remembered-number h client o)

pub entries_have_numbers : EntriesHaveNumbers
entries_have_numbers g h client o = remembered-number (Space.state_of g h).owner.entries client o
