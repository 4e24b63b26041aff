use Rattle.std.proofs.Common.{sym}
use Rattle.sp_requests.specs.Peers.{of_peer}
use Rattle.sp_requests.proofs.AskingLemmas.{if-ok}
use Rattle.sp_requests.proofs.AskedLemmas.{row-there}
use Rattle.sp_requests.proofs.peers.Peers.call_numbers.Goals as goal

pub returns-in-Some : goal.returns-in-Some
returns-in-Some c = if-ok c.call_numbers.result _ _ (λ numbers is. λ connections requests k a line. is k.number (of_peer c.args.peer.now requests) k.sent (row-there c.args.peer.now line (sym c.in-Some.ensures.value) a)) c.call_numbers.ensures
