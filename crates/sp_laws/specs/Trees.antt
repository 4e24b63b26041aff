-- Trees of calls: a task that a Root started, each task that its calls start, in any space, and so on; and what is executed and left of the fuel of a tree. (This project's own rule.)
use Rattle.std.specs.Prelude.{◌≡◌, ◌≤◌, ℕ, suc, ◌+◌, Bool, true, false, List, [], ◌∷◌, Option, None, Some}
use Rattle.net_message.specs.declared.message.Message.{Message}
use Rattle.net_message.specs.declared.message.Message.TheVariants as message
use Rattle.uuid.specs.declared.Uuid.{Uuid}
use Rattle.sp_rules.specs.Behaviours.{Op, Create, Get, Put, Call}
use Rattle.sp_rules.specs.Classes.{Setting}
use Rattle.sp_rules.specs.Events.{Event, Root, Opened, Parked, Finished, Output, Send, Note, output_of}
use Rattle.sp_rules.specs.Fuel.{task_units, in_stage, parked_units}
use Rattle.sp_rules.specs.Lists.{total, with_some}
use Rattle.sp_rules.specs.Space.{state_of}
use Rattle.sp_rules.specs.State.{State, Living, Origin, OfRoot, OfCall, Request, Asked, Calls, LooksUp, Tells, ParkedFrame, ready_at}
use Rattle.sp_rules.specs.Tasks.{Stand, Runs, AsksFor, HasEnded, stand, steps}
use Rattle.sp_rules.specs.Worlds.{World, Space, Pipe, WorldEvent, run, new_world}

-- ---- what is of a tree

-- A tree, or several together, is given by its roots and its calls: which of the tasks that a Root started are of it, by space and task,
-- and which calls, by the space that made them and their number. (Each connection has one space that dialled it and makes the calls there.)
pub record Tree : Type 0 where
  pub has_root : ℕ → ℕ → Bool
  pub has_call : ℕ → ℕ → Bool
  pub dialler : ℕ → ℕ

-- a tree as one space sees it: its tasks that a Root started, its own calls, and the calls on its connections
pub record Part : Type 0 where
  pub roots : ℕ → Bool
  pub calls : ℕ → Bool
  pub frames : ℕ → ℕ → Bool

abbrev pub part_of : Tree → ℕ → Part
part_of tree i = record { roots = tree.has_root i; calls = tree.has_call i; frames = λ conn. tree.has_call (tree.dialler conn) }

-- A task that a call started is of the tree of that call.
abbrev pub is_of : Part → ℕ → Origin → Bool
is_of p id OfRoot = p.roots id
is_of p id (OfCall conn number) = p.frames conn number

abbrev pub has_task : Part → Living → Bool
has_task p t = is_of p t.id t.origin

-- ---- fuel of a tree, each unit once

-- a number if it is of the tree, else 0
abbrev pub counted : Bool → ℕ → ℕ
counted true n = n
counted false n = 0

abbrev pub task_part : Part → Living → ℕ
task_part p t = counted (has_task p t) (task_units t)

-- what a frame lends or gives back, if its call is of the tree
abbrev pub carried : (ℕ → Bool) → Message → ℕ
carried has (message.Call number object method fuel arguments) = counted (has number) fuel
carried has (message.Returned number fuel value) = counted (has number) fuel
carried has _ = 0

abbrev pub asked_part : Part → Asked → ℕ
asked_part p (Calls number task lent kind m) = carried p.calls m
asked_part p (LooksUp number task name) = 0
asked_part p (Tells call group) = 0

-- What a request lends is in it until it goes out.
abbrev pub request_part : Part → Request → ℕ
request_part p r = in_stage r.stage (asked_part p r.asked)

abbrev pub fresh_part : Part → Request → ℕ
fresh_part p r = asked_part p r.asked

abbrev pub parked_part : Part → ParkedFrame → ℕ
parked_part p f = counted (p.frames f.conn f.number) (parked_units f)

abbrev pub output_part : Part → Output → ℕ
output_part p (Send conn m) = carried (p.frames conn) m
output_part p _ = 0

abbrev pub note_part : Part → Note → ℕ
note_part p n = output_part p (output_of n)

-- what a space has of a tree: the instructions of its living tasks there, and all its fuel. A task that waits for a Call has one unit in
-- it, for the Call itself.
abbrev pub left_in : Part → State → ℕ
left_in p s =
    total (task_part p) s.tasks + (total (request_part p) s.requests
    + (total (parked_part p) s.parked + (total (fresh_part p) s.fresh + total (note_part p) s.notes)))

-- ---- what ended tasks executed, and what roots brought

abbrev pub ended_at : Bool → ℕ → Stand → ℕ
ended_at has made Runs = 0
ended_at has made (AsksFor op) = 0
ended_at has made (HasEnded outcome) = counted has made

-- the instructions of a task of the tree that an event ends
abbrev pub ended_part : Part → State → Event → ℕ
ended_part p s (Finished id k) = with_some (ready_at s id) 0 (λ t. ended_at (has_task p t) (steps k t.task).made (stand (steps k t.task)))
ended_part p s _ = 0

-- the fuel of a Root of the tree
abbrev pub root_part : Part → State → Event → ℕ
root_part p s (Root method arguments fuel) = counted (p.roots (s.tasks_made + 1)) fuel
root_part p s _ = 0

-- the instructions of the tasks of the tree that ended in a history, newest event first
abbrev pub ended_in : Part → Setting → List Event → ℕ
ended_in p g [] = 0
ended_in p g (e ∷ h) = ended_part p (state_of g h) e + ended_in p g h

-- the fuel of its Roots in a history
abbrev pub roots_in : Part → Setting → List Event → ℕ
roots_in p g [] = 0
roots_in p g (e ∷ h) = root_part p (state_of g h) e + roots_in p g h

-- ---- over a world

-- the sum over a list, by each element and its index, counted from a number on
abbrev pub total_from : {A : Type 0} → (ℕ → A → ℕ) → ℕ → List A → ℕ
total_from f i [] = 0
total_from f i (x ∷ xs) = f i x + total_from f (suc i) xs

abbrev pub space_part : Tree → ℕ → Space → ℕ
space_part tree i s = left_in (part_of tree i) s.state + ended_in (part_of tree i) s.setting s.history

abbrev pub pipe_part : Tree → ℕ → Pipe → ℕ
pipe_part tree conn p =
    total (carried (tree.has_call (tree.dialler conn))) p.dialler.queue + total (carried (tree.has_call (tree.dialler conn))) p.accepter.queue

-- What a tree spent and has left: the instructions of its tasks, in any space, those that ended too; a unit for each of its Calls that waits; and the fuel in its tasks, its waiting and parked calls, its results and the frames on their way.
abbrev pub spent : Tree → World → ℕ
spent tree w = total_from (space_part tree) 0 w.spaces + total_from (pipe_part tree) 0 w.pipes

abbrev pub roots_at : Tree → ℕ → Space → ℕ
roots_at tree i s = roots_in (part_of tree i) s.setting s.history

-- the fuel of its Roots
abbrev pub root_fuel : Tree → World → ℕ
root_fuel tree w = total_from (roots_at tree) 0 w.spaces

-- ---- the law

abbrev pub is_call : Op → Bool
is_call (Create class) = false
is_call (Get object slot) = false
is_call (Put object slot value) = false
is_call (Call target method arguments) = true

-- whether a task stands at a call
abbrev pub stands_at_call : Stand → Bool
stands_at_call Runs = false
stands_at_call (AsksFor op) = is_call op
stands_at_call (HasEnded outcome) = false

-- On a connection that a space dialled the calls are its own.
abbrev pub DialsOwn : Part → ℕ → Option Uuid → Type 0
DialsOwn p conn None = Unit {0}
DialsOwn p conn (Some peer) = (number : ℕ) → p.frames conn number ≡ p.calls number

-- A call is of the tree of the task that makes it.
abbrev pub FitsTree : Part → State → Event → Type 0
FitsTree p s (Parked id k) = (t : Living) → ready_at s id ≡ Some t → stands_at_call (stand (steps k t.task)) ≡ true → p.calls (s.calls_made + 1) ≡ has_task p t
FitsTree p s (Opened conn dialled) = DialsOwn p conn dialled
FitsTree p s _ = Unit {0}

-- This holds of each event of a history, newest event first.
abbrev pub FitsHistory : Part → Setting → List Event → Type 0
FitsHistory p g [] = Unit {0}
FitsHistory p g (e ∷ h) = FitsTree p (state_of g h) e × FitsHistory p g h

-- what holds of each element of a list, by its index, counted from a number on
abbrev pub AllFrom : {A : Type 0} → (ℕ → A → Type 0) → ℕ → List A → Type 0
AllFrom Is i [] = Unit {0}
AllFrom Is i (x ∷ xs) = Is i x × AllFrom Is (suc i) xs

-- A tree, or several together: a call is of it exactly if the task that made the call is, and a task that a call started is of it exactly
-- if the call is.
abbrev pub IsTree : Tree → World → Type 0
IsTree tree w = AllFrom (λ i (s : Space). FitsHistory (part_of tree i) s.setting s.history) 0 w.spaces

-- In every run of every world, whatever is lost or fails, a tree spends no more than the fuel of its Roots.
abbrev pub FuelIsBoundedInTrees : Type 0
FuelIsBoundedInTrees = (settings : List Setting) (events : List WorldEvent) (tree : Tree) → IsTree tree (run (new_world settings) events)
    → spent tree (run (new_world settings) events) ≤ root_fuel tree (run (new_world settings) events)
