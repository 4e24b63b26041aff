use Rattle.std.proofs.Common.{◌∙◌}
use Rattle.sp_rules.specs.State.{connection_at}
use Rattle.sp_transport.proofs.DialledLemmas.{most-seen, most-unseen}
use Rattle.sp_transport.proofs.transport.Transport.most_on.Goals as goal

pub returns-in-Some-clause-most : goal.returns-in-Some-clause-most
returns-in-Some-clause-most c = λ s a. c.most_ids.ensures.most ∙ most-seen (connection_at s c.args.conn) c.in-Some.connection (c.in-Some.ensures s.connections s.dialling a.connections)

pub returns-in-None-clause-most : goal.returns-in-None-clause-most
returns-in-None-clause-most c = λ s a. most-unseen (connection_at s c.args.conn) (c.in-None.ensures s.connections s.dialling a.connections)
