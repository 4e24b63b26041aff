use Rattle.sp_transport.specs.Answers.{acknowledge}
use Rattle.sp_living.proofs.LivingLemmas.{acked-own, moved}
use Rattle.sp_living.proofs.living.Living.acknowledge.Goals as goal

pub returns-clause-acknowledged : goal.returns-clause-acknowledged
returns-clause-acknowledged c = λ g s row peer a there dialled.
    moved g s (acknowledge c.args.conn c.args.number s) c.args.self.now c.acknowledge_reserved.new.self (acked-own c.args.conn c.args.number s)
    (λ t. c.acknowledge_reserved.ensures.acknowledged s row peer (c.in_ok-reserve_notes.ensures.same s t) there dialled) a
