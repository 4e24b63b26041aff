-- What it means that a method runs as the only root of a new space: the space steps as the rules of spaces say, until the task ends. (This
-- project's own rules of spaces.)
use Rattle.std.specs.Prelude.{◌≡◌, ℕ, not, List, [], ◌∷◌, ◌++◌, Option, Some, find, option_map, replicate}
use Rattle.cls_link.specs.Links.{Links}
use Rattle.cls_link.specs.declared.linked_code.MethodId.{MethodId}
use Rattle.space_ids.specs.declared.value.Value.{Value}
use Rattle.sp_behaviours.specs.Behaviours.{told}
use Rattle.sp_behaviours.specs.Classes.{classes_of}
use Rattle.sp_rules.specs.Classes.{Setting}
use Rattle.sp_rules.specs.Events.{Event, Output, Ended, Root}
use Rattle.sp_rules.specs.Origins.{IsTaken}
use Rattle.sp_rules.specs.Space.{outputs_of, state_of}
use Rattle.sp_rules.specs.State.{State, Living, task_at}
use Rattle.sp_rules.specs.Worlds.{step_events}
use Rattle.sp_runs.specs.Outcomes.{IsNamed}
use Rattle.sp_runs.specs.OverReplies.{RunsOverReplies}
use Rattle.sp_files.specs.declared.outcome.RunOutcome.{RunOutcome}
use Rattle.uuid.specs.Parts.{zero_bytes}
use Rattle.vm_step.specs.declared.limits.Limits.{Limits}
use Rattle.vm_step.specs.declared.outcome.Outcome.{Outcome}

-- the lowest living task that does not wait
abbrev pub lowest_ready : State → Option ℕ
lowest_ready s = option_map (λ (t : Living). t.id) (find (λ (t : Living). not t.waits) s.tasks)

-- a history after more events, oldest first
abbrev pub grown : List Event → List Event → List Event
grown h [] = h
grown h (e ∷ es) = grown (e ∷ h) es

-- what they are answered
abbrev pub answers_to : Setting → List Event → List Event → List Output
answers_to g h [] = []
answers_to g h (e ∷ es) = outputs_of g h e ++ answers_to g (e ∷ h) es

-- The histories, newest event first, of a space that began with an event and made steps since, each of its lowest ready task.
pub data Grows (g : Setting) (first : Event) : List Event → Type 0 where
  begins : Grows g first (first ∷ [])
  steps : (h : List Event) (id : ℕ) (task : Living) → Grows g first h → lowest_ready (state_of g h) ≡ Some id → task_at (state_of g h) id ≡ Some task
      → Grows g first (grown h (step_events id task.task))

-- The last step of such a history ended the first task of the space, and nothing else: no event of it was refused.
pub record EndsAs (g : Setting) (first : Event) (end : Outcome) : Type 0 where
  pub before : List Event
  pub grows : Grows g first before
  pub task : Living
  pub ready : lowest_ready (state_of g before) ≡ Some 1
  pub lives : task_at (state_of g before) 1 ≡ Some task
  pub taken : IsTaken g (grown before (step_events 1 task.task))
  pub ended : answers_to g before (step_events 1 task.task) ≡ Ended 1 (told end) ∷ []

-- the limits of a setting are those that machines are given
pub record AreLimits (g : Setting) (limits : Limits) : Type 0 where
  pub heap : g.limits.heap ≡ limits.heap_words
  pub stack : g.limits.stack ≡ limits.stack_words
  pub references : g.limits.references ≡ limits.references
  pub fuel : g.limits.fuel ≡ limits.fuel

-- The rules of spaces (docs/SPACE.md), told of the program's classes, run a method from the root of a space of id 0 to this outcome; and so does
-- the tagged machine over the replies of the space.
pub record RunsInSpace (program : Links) (method : MethodId) (arguments : List Value) (limits : Limits) (outcome : RunOutcome) : Type 0 where
  pub setting : Setting
  pub classes : setting.classes ≡ classes_of program
  pub id : setting.id ≡ zero_bytes
  -- no peer compares these with its own
  pub digest : setting.digest ≡ replicate 32 0
  pub version : setting.version ≡ 2
  pub within : AreLimits setting limits
  pub end : Outcome
  pub ends : EndsAs setting (Root method.0 arguments limits.fuel) end
  pub named : IsNamed program.classes end outcome
  pub on_machine : RunsOverReplies program method arguments limits outcome
