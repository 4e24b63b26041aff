use Rattle.dgc_client.specs.History.Event.{DirtyAnswered}
use Rattle.dgc_client.specs.Table as client
use Rattle.sp_transport.proofs.StepLemmas.{told-numbers, with-leases}
use Rattle.sp_transport.proofs.transport.Transport.dirty_answered.Goals as goal

pub returns-clause-told : goal.returns-clause-told
returns-clause-told c = λ s a.
    with-leases s c.args.self.now (client.told c.args.group.now (DirtyAnswered c.args.call c.args.period) s.leases) c.dirty_answered.new.self (told-numbers c.args.group.now (DirtyAnswered c.args.call c.args.period) s.leases) (c.dirty_answered.ensures.answered s.leases a.leases) a
