-- Tasks that begin have machines. (JVMS 6.5, invokeinterface; Java RMI specification, 2.4; the rest are rules of this project.)
use Rattle.std.specs.Prelude.{List, ◌∷◌, IsOk}
use Rattle.cls_link.specs.Links.{Links}
use Rattle.sp_laws.specs.Changes.{HasBegun}
use Rattle.sp_rules.specs.Classes.{Setting}
use Rattle.sp_rules.specs.Events.{Event}
use Rattle.sp_rules.specs.Origins.{IsTaken}
use Rattle.sp_rules.specs.Space.{state_of}
use Rattle.sp_rules.specs.State.{Living}
use Rattle.vm_step.specs.Begin.{begun}
use Rattle.vm_step.specs.declared.limits.Limits.{Limits}
use Rattle.sp_behaviours.specs.Calls.{IsSettingOf}

-- the method of a task begins with the task's values, whatever the limits
abbrev pub Begins : Links → Setting → Living → Type 0
Begins links g task = (limits : Limits) → IsOk (begun links g.id (record { 0 = task.began.method }) task.began.arguments limits)

-- So does that of a task that an event begins which a space took.
abbrev pub TasksBegin : Type 0
TasksBegin =
    (links : Links) (g : Setting) (h : List Event) (e : Event) (task : Living) → IsSettingOf links g → IsTaken g (e ∷ h) → HasBegun g (state_of g h) e task → Begins links g task
