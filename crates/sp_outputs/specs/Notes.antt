-- What an event answers, in the terms of the rules of spaces. (This project's own.)
use Rattle.std.specs.Prelude.{ℕ, ◌-◌, min, List, [], ◌∷◌, Option, None, Some, vec_len}
use Rattle.std.specs.List.{flat_map}
use Rattle.std.specs.Vec.{vec_capacity}
use Rattle.sp_rules.specs.Events as rules
use Rattle.sp_tasks.specs.Behaviours.{outcome_of}
pub use Rattle.sp_outputs.specs.Said.{is_said}
use Rattle.sp_outputs.specs.declared.note.Note.{Note}
use Rattle.sp_outputs.specs.declared.note.Note.TheVariants as note
use Rattle.sp_outputs.specs.declared.output.Output.{Output}
use Rattle.sp_outputs.specs.declared.output.Output.TheVariants as output
use Rattle.sp_outputs.specs.declared.output.Turn.{Turn}
use Rattle.sp_outputs.specs.declared.output.Turn.TheVariants as turn
use Rattle.sp_outputs.specs.declared.outputs.Outputs.{Outputs}

-- the output of the rules
abbrev pub output_of : Output → rules.Output
output_of (output.Started task) = rules.Started task
output_of (output.Ended task outcome) = rules.Ended task (outcome_of outcome)
output_of (output.Withdrawn ids) = rules.Withdrawn ids
output_of (output.Denied fault) = rules.Denied fault
output_of (output.Send conn message) = rules.Send conn message
output_of (output.Dial peer) = rules.Dial peer
output_of (output.Close conn) = rules.Close conn
output_of (output.Ready task) = rules.Ready task

-- the turn of the rules
abbrev pub turn_of : Turn → rules.Turn
turn_of turn.Hellos = rules.Hellos
turn_of turn.Replies = rules.Replies
turn_of turn.Waited = rules.Waited
turn_of turn.Cleans = rules.Cleans
turn_of turn.Dirties = rules.Dirties
turn_of turn.Calls = rules.Calls
turn_of turn.Acks = rules.Acks

-- the note of the rules
abbrev pub note_of : Note → rules.Note
note_of (note.Says output) = rules.Says (output_of output)
note_of (note.Sends turn conn message) = rules.Sends (turn_of turn) conn message

-- the notes in a slot: one, or none once it is taken
abbrev pub noted_at : Option Note → List rules.Note
noted_at None = []
noted_at (Some n) = note_of n ∷ []

-- the notes in slots, in their order
abbrev pub noted : List (Option Note) → List rules.Note
noted slots = flat_map noted_at slots

-- the notes of the rules, in the order in which they were made
unfoldable pub notes_of : Outputs → List rules.Note
notes_of outputs = noted outputs.notes.items

-- for how many more notes there is room
unfoldable pub room : Outputs → ℕ
room outputs = min (vec_capacity outputs.notes - vec_len outputs.notes) (vec_capacity outputs.told - vec_len outputs.notes)
