-- The record of a living task, as the rules of spaces tell it. (This project's own.)
use Rattle.std.specs.Prelude.{◌-◌, map, vec_len}
use Rattle.std.specs.Vec.{vec_capacity}
use Rattle.sp_rules.specs.State as rules
use Rattle.sp_tasks.specs.Behaviours.{reply_of}
use Rattle.sp_tasks.specs.declared.record.Given.{Given}
use Rattle.sp_tasks.specs.declared.record.Record.TheInside.{Inside}
use Rattle.sp_tasks.specs.Recorded.{Recorded, RecordedRoom}

abbrev pub given_of : Given → rules.Given
given_of given = record { steps = given.steps; lent = given.lent; reply = reply_of given.reply }

abbrev pub recorded_of : Inside → Recorded
recorded_of a = record { began = record { method = a.method; arguments = a.arguments; fuel = a.fuel }; given = map given_of a.given.items }

-- the same, and the room for more replies
abbrev pub room_of : Inside → RecordedRoom
room_of a = record { past = recorded_of a; room = vec_capacity a.given - vec_len a.given }
