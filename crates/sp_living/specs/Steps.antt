-- What single calls make of a state, as steps of an event. (This project's own.)
use Rattle.std.specs.Prelude.{ℕ, ◌+◌, ◌==◌, false, not, List, [], ◌∷◌, ◌++◌, filter}
use Rattle.space_ids.specs.declared.value.Value.{Value}
use Rattle.sp_rules.specs.Behaviours.{Reply}
use Rattle.sp_rules.specs.Classes.{Setting}
use Rattle.sp_rules.specs.Holders.{hold}
use Rattle.sp_rules.specs.Lists.{with_some}
use Rattle.sp_rules.specs.LivingTasks.{after_reply, after_steps}
use Rattle.sp_rules.specs.State.{State, Living, Origin, ready_at, set_task}
use Rattle.sp_rules.specs.Tasks.{answer, gained, start, steps}

-- a task as it starts
abbrev pub started : Setting → ℕ → Origin → ℕ → List Value → ℕ → Living
started g id origin method arguments fuel = record {
  id = id;
  origin = origin;
  waits = false;
  task = start g method arguments fuel;
  began = record { method = method; arguments = arguments; fuel = fuel };
  given = [];
  steps = 0;
}

-- A task starts under the next id, and nothing is answered.
abbrev pub with_task : Setting → Origin → ℕ → List Value → ℕ → State → State
with_task g origin method arguments fuel s = record s {
  tasks_made = s.tasks_made + 1;
  tasks = s.tasks ++ started g (s.tasks_made + 1) origin method arguments fuel ∷ [];
}

-- A task ends, and nothing is answered. So many instructions were made then by tasks that ended.
abbrev pub without_task : ℕ → ℕ → State → State
without_task id retired s = record s { tasks = filter (λ (t : Living). not (t.id == id)) s.tasks; retired = retired }

-- A task that may go on is given a reply, after this number of instructions of its own, and holds the reference in it too.
abbrev pub give_reply : Setting → ℕ → ℕ → Reply → State → State
give_reply g id k reply s = with_some (ready_at s id) s (λ t.
    hold g (gained t.task (answer g reply (steps k t.task))) (set_task (λ (u : Living). after_reply g reply (after_steps k u)) id s))
