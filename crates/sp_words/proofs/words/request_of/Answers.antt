use Rattle.std.proofs.Common.{map, string_bytes}
use Rattle.sp_words.proofs.Requested.{command_found, taken_words, untaken_words}
use Rattle.sp_words.proofs.words.request_of.Goals as goal

pub returns-in-Ok : goal.returns-in-Ok
returns-in-Ok c = taken_words (map string_bytes c.args.words.now) c.in_ok-whole_command.field-0 c.in-Ok.matches c.asked.result c.in_ok-whole_command.ensures (c.in-Ok.ensures).matches (c.in-Ok.ensures).kinds c.asked.ensures

pub returns-in-Err : goal.returns-in-Err
returns-in-Err c = untaken_words (map string_bytes c.args.words.now) c.in_ok-whole_command.field-0 c.in-Err.error c.unasked.result c.in_ok-whole_command.ensures (c.in-Err.ensures).kinds c.unasked.ensures

pub asked-requires : goal.asked-requires
asked-requires c = record {
  command = command_found (map string_bytes c.args.words.now) c.in_ok-whole_command.field-0 c.in-Ok.matches c.in_ok-whole_command.ensures (c.in-Ok.ensures).matches (c.in-Ok.ensures).kinds;
}
