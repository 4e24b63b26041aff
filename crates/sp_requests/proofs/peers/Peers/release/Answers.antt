use Rattle.sp_requests.proofs.AskedLemmas.{released}
use Rattle.sp_requests.proofs.RowLemmas.{gone-now}
use Rattle.sp_requests.proofs.peers.Peers.release.Goals as goal

pub returns-clause-released : goal.returns-clause-released
returns-clause-released c = λ connections requests a line none. released (record { updates = λ q. c.swap_remove.ensures.updates.0 q }) line none a

pub returns-clause-gone : goal.returns-clause-gone
returns-clause-gone c = gone-now c.args.peer.now c.args.self.now.rows.entries _ (λ q. c.swap_remove.ensures.updates.0 q)
