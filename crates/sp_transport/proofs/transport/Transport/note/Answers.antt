use Rattle.sp_transport.proofs.RedialLemmas.{now-noted}
use Rattle.sp_transport.proofs.GoingLemmas.{on-ok}
use Rattle.sp_transport.proofs.transport.Transport.note.Goals as goal

pub returns : goal.returns
returns c = record { noted = on-ok c.insert.result _ _ (λ added s a. now-noted s c.args.self.now c.args.peer.now c.insert.new.self added a) c.insert.ensures }
