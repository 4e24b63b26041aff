use Rattle.std.proofs.Common.{sym, ap, ◌∙◌}
use Rattle.std.specs.Prelude.{option_and_then}
use Rattle.sp_rules.specs.ParkedFrames.{is_asked_on}
use Rattle.sp_requests.specs.Asking.{shown}
use Rattle.sp_requests.specs.Peers.{of_peer}
use Rattle.sp_requests.proofs.AskedLemmas.{asked-is-out, found-of, row-there}
use Rattle.sp_requests.proofs.peers.Peers.asked.Goals as goal

pub returns : goal.returns
returns c = λ connections requests k a line.
    c.asked.ensures k.number (of_peer c.args.peer.now requests) k.sent (row-there c.args.peer.now line (sym c.in_ok-get.ensures.value) a) ∙ ap (option_and_then (shown k.sent)) (found-of c.args.peer.now (is_asked_on k.number c.args.number) (asked-is-out k.number c.args.number) line a)
