use Rattle.std.proofs.Common.{◌∷◌, ◌++◌, [], Some, sym, subst}
use Rattle.net_message.specs.declared.message.Message.{Message}
use Rattle.sp_requests.specs.Tables.{opened}
use Rattle.sp_requests.specs.AllAsked.{AreAsked, sent_on}
use Rattle.sp_transport.proofs.OpeningLemmas.{asked-first, now-opened}
use Rattle.sp_transport.proofs.transport.Transport.open_reserved.Goals as goal

pub returns-clause-opened : goal.returns-clause-opened
returns-clause-opened c = λ s a none free is hello.
    now-opened s c.args.self.now c.args.conn c.args.peer.now c.args.hello c.open_reserved.new.self c.hello.new.self c.send_reserved.new.self none free is hello (c.open_reserved.ensures.opened s.connections s.dialling a.connections free is)
    (subst (λ (m : Message). AreAsked (sent_on c.args.conn m (s.connections ++ opened c.args.conn (Some c.args.peer.now) ∷ [])) s.requests c.hello.new.self) (sym hello.says)
    (c.hello.ensures.sent s.connections s.requests c.args.conn hello.version hello.space hello.digest (asked-first s c.args.self.now none a) free (a.connections.apart c.args.peer.now is)))
    c.send_reserved.ensures.notes a
