use Rattle.std.proofs.lemmas.Result.{IfOk-weaker}
use Rattle.sp_transport.proofs.transport.Transport.renewals.Goals as goal

pub returns : goal.returns
returns c = IfOk-weaker c.renewals.result _ _ (λ references is s a. is s.leases a.leases) c.renewals.ensures
