use Rattle.std.proofs.Common.{sym, ap, ◌∙◌, is_some}
use Rattle.sp_rules.specs.ParkedFrames.{is_call_on}
use Rattle.sp_requests.specs.Peers.{of_peer}
use Rattle.sp_requests.proofs.AskedLemmas.{call-is-out, found-of, row-there}
use Rattle.sp_requests.proofs.peers.Peers.is_unsent.Goals as goal

pub returns-in-Some : goal.returns-in-Some
returns-in-Some c = λ connections requests k a line there.
    c.is_unsent.ensures k.number (of_peer c.args.peer.now requests) k.sent (row-there c.args.peer.now line (sym c.in-Some.ensures.value) a) (ap is_some (found-of c.args.peer.now (is_call_on k.number c.args.number) (call-is-out k.number c.args.number) line a) ∙ there)
