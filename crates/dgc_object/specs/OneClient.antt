-- One client and one object that another space owns: what both keep of it, and the dirty and clean calls and leases on their way between
-- them. None of these is lost (Java RMI specification, 3.3 and 9.1; the machine is this project's own form of it).
use Rattle.std.specs.Prelude.{◌≡◌, ◌<◌, ◌≤◌, ℕ, ◌+◌, ◌-◌, ◌==◌, Bool, true, false, not, ◌&&◌, ◌||◌, List, [], ◌∷◌, ◌++◌, Option, None, Some, if◌then◌else◌}

-- a call of the client on the reference, with its number
pub data Op : Type 0 where
  Dirty : (call : ℕ) → Op
  Clean : (call : ℕ) → Op

pub record State : Type 0 where
  -- the calls that were made and have not arrived, the oldest first
  pub path : List Op
  -- the dirty call that is on its way: it is not answered, and no clean call was made after it
  pub way : Option ℕ
  -- the dirty calls whose leases come, the oldest first
  pub coming : List ℕ
  pub lease : Bool
  -- whether a dirty call was made and no clean call after it
  pub due : Bool
  -- the client's entry at the owner
  pub entry : Bool
  pub stands : Bool
  -- whether the object has another reason to stand
  pub other : Bool
  -- frames that wait for the lease
  pub parked : ℕ
  -- what holds the reference without waiting: tasks, fields, results
  pub started : ℕ
  -- a number above those of all calls so far
  pub next : ℕ

pub data Event : Type 0 where
  -- a frame comes that names the reference, and waits
  Parks : Event
  -- a parked frame goes; a task or a result holds the reference, or nothing does
  Goes : (held : Bool) → Event
  -- one more holder, from one that is there
  Holds : Event
  -- one more holder, of one who was lent the reference outside the space
  Roots : Event
  -- a started holder less
  Lets : Event
  DirtyMade : (call : ℕ) → Event
  CleanMade : (call : ℕ) → Event
  -- the oldest call arrives
  Arrives : Event
  -- the oldest answer arrives
  Answers : Event
  -- the lease is over
  Lapses : Event
  -- the object is withdrawn
  Sweeps : Event
  OtherComes : Event
  OtherGoes : Event

abbrev pub call_of : Op → ℕ
call_of (Dirty call) = call
call_of (Clean call) = call

abbrev pub is_clean : Op → Bool
is_clean (Dirty call) = false
is_clean (Clean call) = true

abbrev pub has_clean : List Op → Bool
has_clean [] = false
has_clean (op ∷ ops) = is_clean op || has_clean ops

-- The call of this number, if it is among these, is a dirty call, and no clean call follows it.
abbrev pub is_last : ℕ → List Op → Bool
is_last call [] = true
is_last call (op ∷ ops) = if call_of op == call then not (is_clean op) && not (has_clean ops) else is_last call ops

abbrev pub is_way : Option ℕ → ℕ → Bool
is_way None call = false
is_way (Some way) call = way == call

-- whether the lease of this call comes
abbrev pub comes : ℕ → List ℕ → Bool
comes call [] = false
comes call (c ∷ calls) = c == call || comes call calls

-- the numbers of the calls, and of the leases that come, are below this one
abbrev pub OpsBelow : ℕ → List Op → Type 0
OpsBelow next [] = Unit {0}
OpsBelow next (op ∷ ops) = (call_of op < next) × OpsBelow next ops

abbrev pub CallsBelow : ℕ → List ℕ → Type 0
CallsBelow next [] = Unit {0}
CallsBelow next (call ∷ calls) = (call < next) × CallsBelow next calls

abbrev pub arrived : List Op → State → State
arrived [] s = s
arrived (Dirty call ∷ ops) s = record s { path = ops; coming = s.coming ++ call ∷ []; entry = s.entry || s.stands }
arrived (Clean call ∷ ops) s = record s { path = ops; entry = false }

abbrev pub answered : List ℕ → State → State
answered [] s = s
answered (call ∷ calls) s =
    if is_way s.way call then record s { coming = calls; way = None; lease = true } else record s { coming = calls }

-- what an event makes of it
abbrev pub after : Event → State → State
after Parks s = record s { parked = s.parked + 1 }
after (Goes true) s = record s { parked = s.parked - 1; started = s.started + 1 }
after (Goes false) s = record s { parked = s.parked - 1 }
after Holds s = record s { started = s.started + 1 }
after Roots s = record s { started = s.started + 1 }
after Lets s = record s { started = s.started - 1 }
after (DirtyMade call) s = record s { path = s.path ++ Dirty call ∷ []; way = Some call; due = true; next = call + 1 }
after (CleanMade call) s = record s { path = s.path ++ Clean call ∷ []; way = None; lease = false; due = false; next = call + 1 }
after Arrives s = arrived s.path s
after Answers s = answered s.coming s
after Lapses s = record s { lease = false }
after Sweeps s = record s { stands = false }
after OtherComes s = record s { other = true }
after OtherGoes s = record s { other = false }

-- when an event may come
abbrev pub Fits : Event → State → Type 0
Fits Parks s = s.other ≡ true
Fits (Goes held) s = (0 < s.parked) × (s.lease ≡ true)
Fits Holds s = 0 < s.started
Fits Roots s = s.lease ≡ true
Fits Lets s = 0 < s.started
Fits (DirtyMade call) s = (s.next ≤ call) × (s.way ≡ None) × (0 < s.parked + s.started)
Fits (CleanMade call) s = (s.next ≤ call) × (s.due ≡ true) × (s.parked + s.started ≡ 0)
Fits Arrives s = Unit {0}
Fits Answers s = Unit {0}
Fits Lapses s = Unit {0}
Fits Sweeps s = (s.entry ≡ false) × (s.other ≡ false)
Fits OtherComes s = s.stands ≡ true
Fits OtherGoes s = s.parked ≡ 0

-- The entry stands, and no clean call is on its way to it.
pub record IsSecure (entry : Bool) (path : List Op) : Type 0 where
  pub entry_is : entry ≡ true
  pub clear : has_clean path ≡ false

pub record IsSafe (s : State) : Type 0 where
  pub entry_stands : s.entry ≡ true → s.stands ≡ true
  pub other_stands : s.other ≡ true → s.stands ≡ true
  pub parked_other : 0 < s.parked → s.other ≡ true
  -- what is leased, or held by more than a parked frame, is secure
  pub leased : s.lease ≡ true → IsSecure s.entry s.path
  pub started : 0 < s.started → IsSecure s.entry s.path
  -- no clean call follows the dirty call on its way
  pub dirty_last : (call : ℕ) → s.way ≡ Some call → is_last call s.path ≡ true
  -- a lease that comes and will be taken finds it secure
  pub lease_comes : (call : ℕ) → s.way ≡ Some call → comes call s.coming ≡ true → IsSecure s.entry s.path
  -- a dirty call on its way without a lease has a parked holder, or finds it secure
  pub dirty_parked : (call : ℕ) → s.way ≡ Some call → s.lease ≡ false → s.parked ≡ 0 → IsSecure s.entry s.path
  -- a lease, or a dirty call on its way, is owed a clean call
  pub leased_due : s.lease ≡ true → s.due ≡ true
  pub way_due : (call : ℕ) → s.way ≡ Some call → s.due ≡ true
  -- the next number is new
  pub path_below : OpsBelow s.next s.path
  pub coming_below : CallsBelow s.next s.coming

-- nothing is held, made or known yet; the object may stand
abbrev pub start : Bool → Bool → State
start stands other = record { path = []; way = None; coming = []; lease = false; due = false; entry = false; stands = stands; other = stands && other; parked = 0; started = 0; next = 0 }

-- a history is the list of what happened, newest first
abbrev pub state_of : State → List Event → State
state_of s [] = s
state_of s (event ∷ h) = after event (state_of s h)

abbrev pub AreFitting : State → List Event → Type 0
AreFitting s [] = Unit {0}
AreFitting s (event ∷ h) = Fits event (state_of s h) × AreFitting s h

-- what is held is there: its object stands, the client's entry too, and nothing on its way takes it
pub record IsKept (s : State) : Type 0 where
  pub secure : IsSecure s.entry s.path
  pub stands : s.stands ≡ true
