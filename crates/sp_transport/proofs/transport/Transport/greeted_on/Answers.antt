use Rattle.std.proofs.Common.{sym, ◌∙◌}
use Rattle.sp_transport.proofs.ViewLemmas.{hello-seen, hello-unseen}
use Rattle.sp_transport.proofs.transport.Transport.greeted_on.Goals as goal

pub returns-in-None : goal.returns-in-None
returns-in-None c = λ s a. hello-unseen c.args.conn s.connections (c.in-None.ensures s.connections s.dialling a.connections)

pub returns-in-Some : goal.returns-in-Some
returns-in-Some c = λ s a. c.number_if.ensures ∙ hello-seen c.args.conn s.connections c.in-Some.connection c.is_some.result (c.in-Some.ensures s.connections s.dialling a.connections) (sym c.is_some.ensures)
