-- What is noted of an event: an output that is no frame, or a frame with its turn. (This project's own.)
use Rattle.std.specs.Prelude.{Bool, true, false, Option, None, Some}
use Rattle.sp_outputs.specs.declared.note.Note.{Note}
use Rattle.sp_outputs.specs.declared.note.Note.TheVariants as note
use Rattle.sp_outputs.specs.declared.output.Output.{Output}
use Rattle.sp_outputs.specs.declared.output.Output.TheVariants as output

-- whether an output is no frame: a frame is noted with its turn
abbrev pub is_said : Output → Bool
is_said (output.Started task) = true
is_said (output.Ended task outcome) = true
is_said (output.Withdrawn ids) = true
is_said (output.Denied fault) = true
is_said (output.Send conn message) = false
is_said (output.Dial peer) = true
is_said (output.Close conn) = true
is_said (output.Ready task) = true

-- whether a note is there, and no frame without a turn
abbrev pub is_noted : Option Note → Bool
is_noted None = false
is_noted (Some (note.Says output)) = is_said output
is_noted (Some (note.Sends turn conn message)) = true
