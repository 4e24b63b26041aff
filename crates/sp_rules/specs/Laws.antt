-- The laws of spaces and worlds, in the terms of the rules; each is the contract of a function of this crate. (This project's own.)
use Rattle.std.specs.Prelude.{◌+◌, None, Some, map, ◌≡◌, ◌≤◌, ◌⊎◌, ℕ, Bool, true, false, List, [], ◌∷◌, ◌++◌, Option, option_map, slice_get, filter, not, Result, Ok, Err, fold, nat_lt, if◌then◌else◌}
use Rattle.dgc_list.specs.History as owner
use Rattle.dgc_list.specs.Remembered.{blank}
use Rattle.net_message.specs.declared.message.Message.{Message}
use Rattle.net_message.specs.declared.message.Message.TheVariants as message
use Rattle.sp_registry.specs.Bindings as registry
use Rattle.sp_registry.specs.declared.fault.RegistryFault.{RegistryFault}
use Rattle.sp_registry.specs.declared.registry.Binding.{Binding}
use Rattle.uuid.specs.declared.Uuid.{Uuid}
use Rattle.space_ids.specs.declared.ids.ObjId.{ObjId}
use Rattle.sp_rules.specs.Behaviours.{Op}
use Rattle.sp_rules.specs.Books.{Entry, event_of, book_run}
use Rattle.sp_rules.specs.Classes.{Setting}
use Rattle.sp_rules.specs.Events.{Output, Started, Ended, Withdrawn, Denied, Send, Dial, Close, Ready, Event, Moment, Sweep, Bind, Rebind, Unbind, Received, Committed}
use Rattle.sp_rules.specs.Fuel.{world_units, world_roots}
use Rattle.sp_rules.specs.Frames.{that_stand, fit_frame}
use Rattle.sp_rules.specs.Holders.{has_reason, own_object}
use Rattle.sp_rules.specs.OwnEvents.{without_reason}
use Rattle.sp_rules.specs.References.{is_id_in}
use Rattle.sp_rules.specs.Refusals.{Refusal, Check, refusal, refusal_number, checks}
use Rattle.sp_rules.specs.Runs.{AreRecorded}
use Rattle.sp_rules.specs.Space.{state_of, on}
use Rattle.sp_rules.specs.State.{State, Object, Living, Connection, connection_at, Owner, standing, task_at}
use Rattle.sp_rules.specs.Tasks.{Task, AsksFor, stand, steps}
use Rattle.sp_rules.specs.Worlds.{World, Space, End, WorldEvent, Refuse, ReadFails, WriteFails, after, run, new_world}

-- each of these holds
abbrev pub AllOf : {A : Type 0} → (A → Type 0) → List A → Type 0
AllOf Is [] = Unit {0}
AllOf Is (x ∷ xs) = Is x × AllOf Is xs

-- ---- failures

-- a frame that tells the owner of holders
abbrev pub tells_owner : Message → Bool
tells_owner (message.Dirty sequence period objects) = true
tells_owner (message.Clean sequence strong objects) = true
tells_owner _ = false

-- The events of a space that leave its names and its clients' entries alone: all but moments, sweeps, changes of names, and dirty and clean calls that come.
abbrev pub leaves_owner : Event → Bool
leaves_owner (Moment moment) = false
leaves_owner Sweep = false
leaves_owner (Bind name value) = false
leaves_owner (Rebind name value) = false
leaves_owner (Unbind name) = false
leaves_owner (Received conn m) = not (tells_owner m)
leaves_owner _ = true

-- the names and the entries of a space of the world
abbrev pub owner_at : World → ℕ → Option Owner
owner_at w i = option_map (λ (s : Space). s.state.owner) (slice_get w.spaces i)

-- all names and entries of all spaces are the same
abbrev pub SameOwners : World → World → Type 0
SameOwners w v = (i : ℕ) → owner_at v i ≡ owner_at w i

-- In a space all events but those leave the names and the entries as they were: connections that end or are closed, failures, refusals, calls and replies.
abbrev pub EventsLeaveOwners : Type 0
EventsLeaveOwners = (g : Setting) (e : Event) (s : State) → leaves_owner e ≡ true → (on g e s).0.owner ≡ s.owner

-- A read that fails, a write that fails, whatever is lost with it, and a refused Dial remove no name and no entry, in any space.
abbrev pub FailuresRemoveNothing : Type 0
FailuresRemoveNothing =
    (w : World) (conn unsent a b : ℕ) (at : End) →
    SameOwners w (after w (ReadFails conn at)) × SameOwners w (after w (WriteFails conn at unsent)) × SameOwners w (after w (Refuse a b))

-- ---- fuel

-- Whatever happens, the instructions that are made and the fuel left are no more than the fuel of the roots.
abbrev pub FuelIsBounded : Type 0
FuelIsBounded = (settings : List Setting) (events : List WorldEvent) →
    world_units (run (new_world settings) events) ≤ world_roots (run (new_world settings) events)

-- ---- names

-- the events that change names
abbrev pub is_naming : Event → Bool
is_naming (Bind name value) = true
is_naming (Rebind name value) = true
is_naming (Unbind name) = true
is_naming _ = false

-- A change that the registry refuses leaves the names as they were.
abbrev pub unless_denied : List Binding → Result (List Binding) RegistryFault → List Binding
unless_denied names (Ok new) = new
unless_denied names (Err fault) = names

-- what an event makes of the names; a name is bound to an own standing object
abbrev pub named_by : Setting → State → Event → List Binding → List Binding
named_by g s (Bind name value) names = unless_denied names (registry.bind names name (own_object g s value))
named_by g s (Rebind name value) names = unless_denied names (registry.rebind names name (own_object g s value))
named_by g s (Unbind name) names = unless_denied names (registry.unbind names name)
named_by g s _ names = names

-- what the binds, rebinds and unbinds of a history leave, newest event first
abbrev pub names_after : Setting → List Event → List Binding
names_after g [] = []
names_after g (e ∷ h) = named_by g (state_of g h) e (names_after g h)

-- The names of a space are what its binds, rebinds and unbinds left.
abbrev pub NamesAreBound : Type 0
NamesAreBound = (g : Setting) (h : List Event) → (state_of g h).owner.names ≡ names_after g h

-- ---- entries

abbrev pub told_in : Uuid → State → Message → List owner.Call → List owner.Call
told_in client s (message.Dirty sequence period ids) calls = owner.Dirty client (that_stand s ids) sequence period ∷ calls
told_in client s (message.Clean sequence strong ids) calls = owner.Clean client (that_stand s ids) sequence strong ∷ calls
told_in client s m calls = calls

-- what the space that spoke on a connection tells there, if this space did not dial it
abbrev pub told_from : Option Uuid → Option Uuid → State → Message → List owner.Call → List owner.Call
told_from None dialled s m calls = calls
told_from (Some client) None s m calls = told_in client s m calls
told_from (Some client) (Some peer) s m calls = calls

-- whether a frame names no more ids than one of the connection's version may
abbrev pub is_short : Connection → Message → Bool
is_short c (message.Dirty sequence period ids) = fit_frame c ids
is_short c (message.Clean sequence strong ids) = fit_frame c ids
is_short c m = true

-- A client tells by dirty and clean frames alone, on a connection that it dialled, after its Hello; its calls speak of standing objects.
abbrev pub told_on : State → Option Connection → Message → List owner.Call → List owner.Call
told_on s None m calls = calls
told_on s (Some c) m calls = if is_short c m then told_from c.peer c.dialled s m calls else calls

-- what an event tells the reference lists: a client's dirty or clean call, a moment that is not below the last, the objects that a Sweep withdraws
abbrev pub told_by : Setting → State → Event → List owner.Call → List owner.Call
told_by g s (Moment moment) calls = if nat_lt moment s.moment then calls else owner.Moment moment ∷ calls
told_by g s Sweep calls = fold (λ calls (o : Object). owner.Forget o.id ∷ calls) calls (without_reason g s)
told_by g s (Received conn m) calls = told_on s (connection_at s conn) m calls
told_by g s _ calls = calls

-- what a history tells them, newest first
abbrev pub told_after : Setting → List Event → List owner.Call
told_after g [] = []
told_after g (e ∷ h) = told_by g (state_of g h) e (told_after g h)

-- What is remembered of a client and an object is a function of what that client told of that object, the moments, and the object's withdrawal.
abbrev pub EntriesAreTold : Type 0
EntriesAreTold = (g : Setting) (h : List Event) (client : List ℕ) (o : ObjId) →
    owner.remembered_of (state_of g h).owner.entries client o ≡ owner.remembered_of (owner.own_calls client o (told_after g h)) client o

-- ---- sweeps

-- A Sweep leaves exactly the objects that had a reason to stay as it began.
abbrev pub SweepIsExact : Type 0
SweepIsExact = (g : Setting) (s : State) →
    standing (on g Sweep s).0.store ≡ filter (λ (o : Object). has_reason g s o.id) (standing s.store)

-- the object is one of these
abbrev pub IsOne : Object → List Object → Type 0
IsOne o [] = ⊥
IsOne o (p ∷ ps) = (p ≡ o) ⊎ IsOne o ps

abbrev pub is_sweep : Event → Bool
is_sweep Sweep = true
is_sweep _ = false

-- No event but a Sweep withdraws an object.
abbrev pub OnlySweepsWithdraw : Type 0
OnlySweepsWithdraw = (g : Setting) (e : Event) (s : State) (o : Object) → is_sweep e ≡ false → IsOne o (standing s.store) → IsOne o (standing (on g e s).0.store)

-- ---- what stands

-- whether an object of this id stands
abbrev pub stands : State → ObjId → Bool
stands s id = is_id_in (map (λ (o : Object). o.id) (standing s.store)) id

-- The objects to which names are bound stand.
abbrev pub NamesStand : Type 0
NamesStand = (g : Setting) (h : List Event) → AllOf (λ (b : Binding). stands (state_of g h) b.object ≡ true) (state_of g h).owner.names

-- Nothing is remembered of an object that does not stand: no entry, no number, no strong clean call.
abbrev pub EntriesStand : Type 0
EntriesStand = (g : Setting) (h : List Event) (client : List ℕ) (o : ObjId) → stands (state_of g h) o ≡ false
    → owner.remembered_of (state_of g h).owner.entries client o ≡ blank

-- ---- outputs

-- The kinds of outputs in their order.
abbrev pub output_kind : Output → ℕ
output_kind (Started task) = 0
output_kind (Ended task outcome) = 1
output_kind (Withdrawn ids) = 2
output_kind (Denied fault) = 3
output_kind (Send conn m) = 4
output_kind (Dial peer) = 5
output_kind (Close conn) = 6
output_kind (Ready task) = 7

-- from this number on, each is no smaller than the one before
abbrev pub RisesFrom : ℕ → List ℕ → Type 0
RisesFrom n [] = Unit {0}
RisesFrom n (m ∷ ms) = (n ≤ m) × RisesFrom m ms

-- The outputs of an event stand in the order of their kinds.
abbrev pub OutputsAreInOrder : Type 0
OutputsAreInOrder = (g : Setting) (e : Event) (s : State) → RisesFrom 0 (map output_kind (on g e s).1)

-- ---- refusals

abbrev pub check_number : Check → ℕ
check_number c = refusal_number c.refusal

-- The reasons to refuse an event are looked at in the order of their numbers.
abbrev pub ChecksRise : Type 0
ChecksRise = (g : Setting) (lent : List ℕ) (s : State) (e : Event) → RisesFrom 0 (map check_number (checks g lent s e))

-- An operation on the store that a space takes is the one at which the task stands.
abbrev pub CommitsAreAsked : Type 0
CommitsAreAsked = (g : Setting) (lent : List ℕ) (s : State) (task k : ℕ) (op : Op) (t : Living) → refusal g lent s (Committed task k op) ≡ None → task_at s task ≡ Some t
    → stand (steps k t.task) ≡ AsksFor op

-- An event of a world that is refused changes nothing but the note of what was refused.
abbrev pub RefusedChangesNothing : Type 0
RefusedChangesNothing = (w : World) (e : WorldEvent) (why : Refusal) → (after w e).refused ≡ Some why → after w e ≡ record w { refused = Some why }

-- ---- tasks

abbrev pub HasRuns : Space → Type 0
HasRuns s = AreRecorded s.setting s.state.tasks

-- In every run of every world each living task stands at the point to which its start and its own record bring it.
abbrev pub TasksAreRuns : Type 0
TasksAreRuns = (settings : List Setting) (events : List WorldEvent) → AllOf HasRuns (run (new_world settings) events).spaces

-- Of some instructions those that were made bring a task to where all of them bring it.
abbrev pub StepsAreMade : Type 0
StepsAreMade = (t : Task) (k j : ℕ) → (steps k t).made ≡ t.made + j → steps k t ≡ steps j t

-- ---- numbers

-- from above this number on, each is larger than the one before, and none is larger than the last
abbrev pub RisesWithin : ℕ → ℕ → List ℕ → Type 0
RisesWithin n last [] = n ≤ last
RisesWithin n last (m ∷ ms) = (n + 1 ≤ m) × RisesWithin m last ms

abbrev pub object_numbers : State → List ℕ
object_numbers s = map (λ (o : Object). o.id.0) (standing s.store)

abbrev pub task_numbers : State → List ℕ
task_numbers s = map (λ (t : Living). t.id) s.tasks

-- The standing objects and the living tasks have numbers from 1, each its own, in the order in which they were made, and none above the
-- last that was given.
abbrev pub HasFreshNumbers : Space → Type 0
HasFreshNumbers s = RisesWithin 0 s.state.objects_made (object_numbers s.state) × RisesWithin 0 s.state.tasks_made (task_numbers s.state)

-- In every run of every world numbers never come again.
abbrev pub NumbersAreFresh : Type 0
NumbersAreFresh = (settings : List Setting) (events : List WorldEvent) → AllOf HasFreshNumbers (run (new_world settings) events).spaces

-- ---- histories

abbrev pub HasHistory : Space → Type 0
HasHistory s = s.state ≡ state_of s.setting s.history

-- In every run of every world the state of a space is what its history leaves.
abbrev pub StatesAreHistories : Type 0
StatesAreHistories = (settings : List Setting) (events : List WorldEvent) → AllOf HasHistory (run (new_world settings) events).spaces

-- One more entry of a book is one more event.
abbrev pub BooksGrow : Type 0
BooksGrow = (g : Setting) (entries : List Entry) (e : Entry) → book_run g (entries ++ e ∷ []) ≡ (on g (event_of e) (book_run g entries)).0
