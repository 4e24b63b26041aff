use Rattle.std.proofs.Common.{◌≡◌, Some, subst, ◌∙◌}
use Rattle.sp_requests.specs.Tables.{link_of}
use Rattle.sp_requests.specs.declared.connection.Link.{Link}
use Rattle.sp_transport.proofs.ViewLemmas.{hello-dialling, hello-open, hello-unlinked}
use Rattle.sp_transport.proofs.transport.Transport.hello_came.Goals as goal

pub returns-in-Some-Open : goal.returns-in-Some-Open
returns-in-Some-Open c = λ s a.
    c.greeted_on.ensures s a ∙ hello-open c.args.peer.now c.in-Some-Open.conn s.connections s.dialling c.args.self.now.connections
    (subst (λ (x : Link). Some x ≡ link_of c.args.peer.now s.connections s.dialling) c.in-Some-Open.field-0-is (c.in-Some-Open.ensures s.connections s.dialling a.connections)) a.connections

pub returns-in-Some-Dialling : goal.returns-in-Some-Dialling
returns-in-Some-Dialling c = λ s a.
    hello-dialling c.args.peer.now s.connections s.dialling c.args.self.now.connections
    (subst (λ (x : Link). Some x ≡ link_of c.args.peer.now s.connections s.dialling) c.in-Some-Dialling.field-0-is (c.in-Some-Dialling.ensures s.connections s.dialling a.connections)) a.connections

pub returns-in-None : goal.returns-in-None
returns-in-None c = λ s a. hello-unlinked c.args.peer.now s.connections s.dialling (c.in-None.ensures s.connections s.dialling a.connections)
