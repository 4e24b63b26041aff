use Rattle.sp_scripts.proofs.FailuresPlays
use Rattle.sp_scripts.proofs.laws.scripts_of_failures.Goals as goal

pub returns : goal.returns
returns c = record { ack_lost = FailuresPlays.ack_lost; call_lost = FailuresPlays.call_lost; call_read_fails = FailuresPlays.call_read_fails; call_written_then_fails = FailuresPlays.call_written_then_fails; hello_read_fails = FailuresPlays.hello_read_fails; no_retry = FailuresPlays.no_retry; recursion_fails = FailuresPlays.recursion_fails; refused_then_open = FailuresPlays.refused_then_open; reply_queued_read_fails = FailuresPlays.reply_queued_read_fails; returned_lost_holds = FailuresPlays.returned_lost_holds; task_drops_result = FailuresPlays.task_drops_result; parked_call_dropped = FailuresPlays.parked_call_dropped }
