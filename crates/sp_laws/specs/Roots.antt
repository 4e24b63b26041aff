-- The tree of one root: its calls, noted as they are made. (This project's own rule.)
use Rattle.std.specs.Prelude.{◌≤◌, ℕ, ◌+◌, ◌==◌, ◌&&◌, Bool, false, List, [], ◌∷◌, None, slice_get, if◌then◌else◌}
use Rattle.sp_rules.specs.Classes.{Setting}
use Rattle.sp_rules.specs.Lists.{with_some}
use Rattle.sp_rules.specs.State.{Living, ready_at}
use Rattle.sp_rules.specs.Tasks.{stand}
use Rattle.sp_rules.specs.Worlds.{World, Space, Pipe, WorldEvent, Own, Step, Open, Refuse, Accept, Deliver, ReadFails, WriteFails, after, run, new_world}
use Rattle.sp_laws.specs.Trees.{Tree, part_of, has_task, stands_at_call, IsTree, spent, root_fuel}

-- ---- calls are noted

-- one call more: of a space and a number
abbrev pub with_call : ℕ → ℕ → Bool → (ℕ → ℕ → Bool) → ℕ → ℕ → Bool
with_call space number is has i n = if i == space && n == number then is else has i n

-- these calls, instead of a tree's own
abbrev pub with_calls : Tree → (ℕ → ℕ → Bool) → Tree
with_calls tree has = record { has_root = tree.has_root; has_call = has; dialler = tree.dialler }

-- A task that stands at a call makes one of its own tree.
abbrev pub call_of : Tree → ℕ → Space → Living → (ℕ → ℕ → Bool) → ℕ → ℕ → Bool
call_of tree i s t has =
    if stands_at_call (stand t.task) then with_call i (s.state.calls_made + 1) (has_task (part_of (with_calls tree has) i) t) has else has

-- the calls of a tree after an event of a world
abbrev pub calls_after : Tree → World → WorldEvent → (ℕ → ℕ → Bool) → ℕ → ℕ → Bool
calls_after tree w (Step i task) has = with_some (slice_get w.spaces i) has (λ s. with_some (ready_at s.state task) has (λ t. call_of tree i s t has))
calls_after tree w (Own i e) has = has
calls_after tree w (Open a b) has = has
calls_after tree w (Refuse a b) has = has
calls_after tree w (Accept conn) has = has
calls_after tree w (Deliver conn to) has = has
calls_after tree w (ReadFails conn at) has = has
calls_after tree w (WriteFails conn at unsent) has = has

-- its calls after a run
unfoldable pub calls_of_run : Tree → World → List WorldEvent → (ℕ → ℕ → Bool) → ℕ → ℕ → Bool
calls_of_run tree w [] has = has
calls_of_run tree w (e ∷ es) has = calls_of_run tree (after w e) es (calls_after tree (record w { refused = None }) e has)

-- ---- the tree of a root

-- the space that dialled a connection of a world
abbrev pub dialler_in : World → ℕ → ℕ
dialler_in w conn = with_some (slice_get w.pipes conn) 0 (λ (p : Pipe). p.dialler.space)

-- a root alone, before it made a call
abbrev pub root_alone : ℕ → ℕ → World → Tree
root_alone space task w = record { has_root = λ i id. i == space && id == task; has_call = λ i number. false; dialler = dialler_in w }

-- The tree of a task that a Root started: its calls are those that the task makes, and those of tasks that its calls started.
abbrev pub tree_of : List Setting → List WorldEvent → ℕ → ℕ → Tree
tree_of settings events space task =
    let tree = root_alone space task (run (new_world settings) events) in
    with_calls tree (calls_of_run tree (new_world settings) events (λ i number. false))

-- ---- the laws

-- In every run of every world each root has its tree: a call is of it exactly if the task that made the call is, and a task that a call
-- started is of it exactly if the call is.
abbrev pub RootsHaveTrees : Type 0
RootsHaveTrees = (settings : List Setting) (events : List WorldEvent) (space task : ℕ) → IsTree (tree_of settings events space task) (run (new_world settings) events)

-- So each root and all that it starts spend no more than its fuel.
abbrev pub RootsSpendTheirFuel : Type 0
RootsSpendTheirFuel = (settings : List Setting) (events : List WorldEvent) (space task : ℕ)
    → spent (tree_of settings events space task) (run (new_world settings) events) ≤ root_fuel (tree_of settings events space task) (run (new_world settings) events)
