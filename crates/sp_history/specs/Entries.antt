-- What is stored of calls, as entries of the rules. (This project's own.)
use Rattle.std.specs.Arc.{arc_value}
use Rattle.std.specs.Global.{Global}
use Rattle.std.specs.Prelude.{Vec, ℕ, List, ◌++◌, [], ◌∷◌, map}
use Rattle.sp_events.specs.Events.{event_of}
use Rattle.sp_outputs.specs.Notes.{output_of}
use Rattle.sp_outputs.specs.declared.output.Output.{Output}
use Rattle.sp_rules.specs.Books as rules
use Rattle.sp_rules.specs.Events as events
use Rattle.sp_tasks.specs.Behaviours.{op_of, reply_of}
use Rattle.sp_history.specs.declared.entry.Call.{Call}
use Rattle.sp_history.specs.declared.entry.Call.TheVariants as call
use Rattle.sp_history.specs.declared.entry.Entry.{Entry}
use Rattle.sp_history.specs.declared.entry.Input.{Input}
use Rattle.sp_history.specs.declared.entry.Input.TheVariants as input

abbrev pub event_of_input : Input → events.Event
event_of_input (input.Event event) = event_of event
event_of_input (input.Root method arguments fuel) = events.Root method arguments fuel

abbrev pub entry_of : Call → rules.Entry
entry_of (call.On handed) = rules.OnEvent (event_of_input (arc_value handed))
entry_of (call.Commit task steps op reply) = rules.OnCommit task steps (op_of (arc_value op)) (reply_of reply)
entry_of (call.Park task steps op) = rules.OnPark task steps (op_of (arc_value op))
entry_of (call.GiveBack task steps) = rules.OnGiveBack task steps
entry_of (call.Finish task steps) = rules.OnFinish task steps

-- with the number of who made the call
abbrev pub numbered_entry : Entry → ℕ × rules.Entry
numbered_entry e = (e.by, entry_of e.call)

-- the outputs of batches, one after the other
abbrev pub outputs_in_all : List (Vec Output Global) → List events.Output
outputs_in_all [] = []
outputs_in_all (batch ∷ batches) = map output_of batch.items ++ outputs_in_all batches
