-- Runs of the tagged machine (JVMS 6.5) over the replies of a space, which complete the instructions that ask. (This project's own.)
use Rattle.std.specs.Prelude.{◌≡◌, ℕ, ◌+◌, Ok, List, [], ◌∷◌}
use Rattle.cls_link.specs.Links.{Links}
use Rattle.cls_link.specs.declared.linked_code.MethodId.{MethodId}
use Rattle.space_ids.specs.declared.value.Value.{Value}
use Rattle.sp_files.specs.declared.outcome.RunOutcome.{RunOutcome}
use Rattle.sp_runs.specs.Outcomes.{IsTold}
use Rattle.uuid.specs.Parts.{zero_bytes}
use Rattle.vm_step.specs.Ends.{End}
use Rattle.vm_step.specs.Limited.{AlwaysKeepsWithin}
use Rattle.vm_step.specs.Run.{State, Over, AreDue, IsNeverStuck, answer, made, played, run}
use Rattle.vm_step.specs.Start.{started}
use Rattle.vm_step.specs.Task.{Tasked}
use Rattle.vm_step.specs.declared.limits.Limits.{Limits}
use Rattle.vm_typing.specs.Runs.{Move, Replied, Steps}

-- how many instructions a machine makes: its own, and each that a reply completes
unfoldable pub made_over : Links → List Move → State → ℕ
made_over program [] state = 0
made_over program (Steps k ∷ moves) state = made program k state + made_over program moves (run program k state)
made_over program (Replied given ∷ moves) state = 1 + made_over program moves (answer given state)

-- The tagged machine, of all instructions of the profile, runs a method of a program from its opening state to this outcome over replies, each
-- of which fits what it waits for then. It is never stuck, keeps the running frame and those of all its callers within max_stack and
-- max_locals, whatever replies that fit are given, and makes no more instructions than it has fuel for.
pub record RunsOverReplies (program : Links) (method : MethodId) (arguments : List Value) (limits : Limits) (outcome : RunOutcome) : Type 0 where
  pub task : Tasked
  pub starts : started program zero_bytes method arguments limits ≡ Ok task
  pub never_stuck : IsNeverStuck program task.state
  pub within : AlwaysKeepsWithin program task.state
  pub moves : List Move
  pub due : AreDue program moves task.state
  pub end : End
  pub left : ℕ
  pub ends : played program moves task.state ≡ Over end left
  pub fuel : made_over program moves task.state + left ≡ limits.fuel
  pub told : IsTold program.classes end outcome
