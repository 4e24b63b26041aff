use Rattle.dgc_client.specs.History.Event.{CleanFailed}
use Rattle.dgc_client.specs.Table as client
use Rattle.sp_transport.proofs.StepLemmas.{told-numbers, with-leases}
use Rattle.sp_transport.proofs.transport.Transport.clean_failed.Goals as goal

pub returns-clause-told : goal.returns-clause-told
returns-clause-told c = λ s a.
    with-leases s c.args.self.now (client.told c.args.group.now (CleanFailed c.args.call) s.leases) c.clean_failed.new.self (told-numbers c.args.group.now (CleanFailed c.args.call) s.leases) (c.clean_failed.ensures.failed s.leases a.leases) a
