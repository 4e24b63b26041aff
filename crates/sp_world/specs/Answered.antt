-- What a space of a world promises of a call. (This project's own.)
use Rattle.std.specs.Prelude.{◌≡◌, ℕ, List, [], Option, None, Result, IfOk, IfErr, OnOk, OnErr, map}
use Rattle.std.specs.Global.{Vec}
use Rattle.sp_rules.specs.Classes.{Setting}
use Rattle.sp_rules.specs.Events.{Event}
use Rattle.sp_rules.specs.Events as events
use Rattle.sp_rules.specs.Refusals.{Refusal, refusal}
use Rattle.sp_rules.specs.Space.{on}
use Rattle.sp_rules.specs.State.{State}
use Rattle.sp_events.specs.FaultNames.{RefusesOrLacks}
use Rattle.sp_events.specs.declared.fault.CoreFault.{CoreFault}
use Rattle.sp_outputs.specs.Notes.{output_of}
use Rattle.sp_outputs.specs.declared.output.Output.{Output}
use Rattle.sp_world.specs.Steps.{answers_to, state_after, step_at, step_refusal}

-- A space answers a call as the rules do, whatever setting and state it is in (`before` the call, and `after` it). For those the rules
-- refuse the call or not (`why`), and make a state and outputs of it (`made`). These five facts are all that is promised:
--   accepted: the call is answered only where nothing refuses it;
--   outputs: the answer is the outputs that the rules make;
--   state: after it the space is in the state that they make;
--   refused: a fault is that of the refusal, or out of memory;
--   unchanged: after a fault the space is in the state that it was in.
pub record Answered (before after : Setting → State → Type 0) (why : Setting → State → Option Refusal) (made : Setting → State → State × List events.Output) (answer : Result (Vec Output) CoreFault) : Type 0 where
  pub accepted : OnOk answer ((g : Setting) (s : State) → before g s → why g s ≡ None)
  pub outputs : IfOk answer (λ outputs. (g : Setting) (s : State) → before g s → map output_of outputs.items ≡ (made g s).1)
  pub state : OnOk answer ((g : Setting) (s : State) → before g s → after g (made g s).0)
  pub refused : IfErr answer (λ fault. (g : Setting) (s : State) → before g s → RefusesOrLacks (why g s) fault)
  pub unchanged : OnErr answer ((g : Setting) (s : State) → before g s → after g s)

-- ---- what is answered

-- an event: why it is refused, if it is, and what it makes
abbrev pub event_refusal : Event → Setting → State → Option Refusal
event_refusal e g s = refusal g [] s e

abbrev pub event_made : Event → Setting → State → State × List events.Output
event_made e g s = on g e s

-- one instruction of a task
abbrev pub task_refusal : ℕ → Setting → State → Option Refusal
task_refusal task g s = step_refusal g s task

abbrev pub task_made : ℕ → Setting → State → State × List events.Output
task_made task g s = (state_after g s (step_at s task), answers_to g s (step_at s task))
