-- A space whose only task goes on, as the machine of its method does. (This project's own.)
use Rattle.std.specs.Prelude.{◌≡◌, ◌+◌, ℕ, false, List, [], ◌∷◌, Option, Some, None, replicate}
use Rattle.cls_link.specs.Links.{Links}
use Rattle.dgc_client.specs.Table as client
use Rattle.space_ids.specs.declared.ids.Ref.{Ref}
use Rattle.sp_behaviours.specs.Behaviours.{told}
use Rattle.sp_behaviours.specs.Follows.{Follows}
use Rattle.sp_behaviours.specs.Classes.{classes_of}
use Rattle.sp_rules.specs.Classes.{Setting}
use Rattle.sp_rules.specs.Events.{Event, Output, Ended}
use Rattle.sp_rules.specs.Laws.{AllOf}
use Rattle.sp_rules.specs.Origins.{IsTaken}
use Rattle.sp_rules.specs.References.{foreign_ids, reference_of}
use Rattle.sp_rules.specs.Space.{state_of}
use Rattle.sp_rules.specs.State.{State, Living, OfRoot, Stored, Made, Written, Gone, task_at}
use Rattle.sp_rules.specs.Tasks.{Task}
use Rattle.sp_rules.specs.Worlds.{step_events}
use Rattle.sp_runs.specs.InSpace.{EndsAs, Grows, grown, lowest_ready}
use Rattle.sp_runs.specs.OverReplies.{made_over}
use Rattle.uuid.specs.declared.Uuid.{Uuid}
use Rattle.vm_step.specs.Ends.{End}
use Rattle.vm_step.specs.Run.{State as Machine, Over, AreDue, played}
use Rattle.vm_step.specs.Task.{IsOfSet, Tells, fuel_left}
use Rattle.vm_step.specs.declared.limits.Limits.{Limits}
use Rattle.vm_step.specs.declared.outcome.Outcome.{Outcome}
use Rattle.vm_typing.specs.Runs.{Move}

-- ---- a space that no other has to do with

-- Each of the references is of the space's own object.
abbrev pub AreOwn : Setting → List Ref → Type 0
AreOwn g references = foreign_ids g.id references ≡ []

-- What was put into a field is no foreign reference.
abbrev pub IsOwnStored : Setting → Stored → Type 0
IsOwnStored g (Made id class) = Unit {0}
IsOwnStored g (Written id slot value) = AreOwn g (reference_of value)
IsOwnStored g (Gone ids) = Unit {0}

-- No foreign reference was ever held, nor put into a field. No event is under way.
pub record IsAlone (g : Setting) (s : State) : Type 0 where
  pub held : client.held s.leases ≡ []
  pub fresh : s.fresh ≡ []
  pub notes : s.notes ≡ []
  pub stored : AllOf (IsOwnStored g) s.store

-- The only task of a space is its first, a root's, which does not wait and holds own references alone.
pub record IsOnly (g : Setting) (s : State) (t : Living) : Type 0 where
  pub alone : s.tasks ≡ t ∷ []
  pub number : t.id ≡ 1
  pub ready : t.waits ≡ false
  pub root : t.origin ≡ OfRoot
  pub own : AreOwn g t.task.held

-- ---- its machine

-- A task follows a machine that began so: through its instructions, and through replies that were due.
pub record FollowsFrom (program : Links) (g : Setting) (start : Machine) (t : Task) : Type 0 where
  pub moves : List Move
  pub due : AreDue program moves start
  pub follows : Follows program g t (played program moves start)
  pub counted : made_over program moves start + fuel_left (played program moves start) ≡ fuel_left start

-- Such a machine comes to this end.
pub record EndsOver (program : Links) (start : Machine) (outcome : Outcome) : Type 0 where
  pub moves : List Move
  pub due : AreDue program moves start
  pub end : End
  pub left : ℕ
  pub ends : played program moves start ≡ Over end left
  pub counted : made_over program moves start + left ≡ fuel_left start
  pub tells : Tells program.classes end outcome

-- ---- histories

-- A history that steps lead to, each of the lowest ready task.
pub data Reaches (g : Setting) : List Event → List Event → Type 0 where
  same : (h later : List Event) → h ≡ later → Reaches g h later
  step : (h later : List Event) (id : ℕ) (task : Living) → lowest_ready (state_of g h) ≡ Some id → task_at (state_of g h) id ≡ Some task
      → Reaches g (grown h (step_events id task.task)) later → Reaches g h later

-- The history began with this event, and made steps since. Its only task is its first, which follows a machine that began so, and has this fuel.
pub record GoesOn (program : Links) (g : Setting) (first : Event) (start : Machine) (fuel : ℕ) (h : List Event) : Type 0 where
  pub grows : Grows g first h
  pub taken : IsTaken g h
  pub alone : IsAlone g (state_of g h)
  pub task : Living
  pub only : IsOnly g (state_of g h) task
  pub comes : FollowsFrom program g start task.task
  pub left : task.task.fuel ≡ fuel
  -- no end of the task is in it
  pub awaits : (end : Outcome) (e : EndsAs g first end) → Reaches g h e.before

-- It has ended so: on its machine too, with what is of the set, and in no other way.
pub record HasEnded (program : Links) (g : Setting) (first : Event) (start : Machine) (outcome : Outcome) : Type 0 where
  pub ends : EndsAs g first outcome
  pub only : (other : Outcome) → EndsAs g first other → other ≡ outcome
  pub over : EndsOver program start outcome
  pub of_set : IsOfSet program.classes outcome

-- what a step answers that has ended the first task so, or that has ended none
abbrev pub answer_of : Option Outcome → List Output
answer_of None = []
answer_of (Some end) = Ended 1 (told end) ∷ []

-- ---- the setting

-- a space of a program's classes, with this id and these limits; no peer asks for its digest or its version
abbrev pub setting_of : Links → Uuid → Limits → Setting
setting_of program id limits = record {
  classes = classes_of program;
  id = id;
  digest = replicate 32 0;
  version = 2;
  limits = record { heap = limits.heap_words; stack = limits.stack_words; references = limits.references; fuel = limits.fuel };
}
