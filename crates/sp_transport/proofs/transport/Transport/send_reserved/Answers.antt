use Rattle.std.proofs.Common.{◌≡◌, true, false, ap, is_some, sym, subst, ◌∙◌}
use Rattle.sp_rules.specs.State.{State, is_open}
use Rattle.sp_outputs.specs.Notes.{turn_of}
use Rattle.sp_transport.specs.Transports.{IsTransport}
use Rattle.sp_transport.proofs.StepLemmas.{now-answered, open-seen, send-open, send-shut}
use Rattle.sp_transport.proofs.transport.Transport.send_reserved.Goals as goal

pub returns-in-Some-clause-sent : goal.returns-in-Some-clause-sent
returns-in-Some-clause-sent c = λ s a accepts.
    let stands : is_open s c.args.conn ≡ true = sym (open-seen _) ∙ sym (ap is_some (c.in-Some.ensures s.connections s.dialling a.connections)) in
    subst (λ (u : State). IsTransport u (record c.args.self.now { outputs = c.send_reserved.new.self })) (send-open (turn_of c.args.turn) c.args.conn c.args.message s stands)
    (now-answered s c.args.self.now (turn_of c.args.turn) c.args.conn c.args.message c.send_reserved.new.self c.requires.turn accepts c.send_reserved.ensures.notes a)

pub returns-in-None-clause-sent : goal.returns-in-None-clause-sent
returns-in-None-clause-sent c = λ s a accepts.
    let shut : is_open s c.args.conn ≡ false = sym (open-seen _) ∙ sym (ap is_some (c.in-None.ensures s.connections s.dialling a.connections)) in
    subst (λ (u : State). IsTransport u c.args.self.now) (send-shut (turn_of c.args.turn) c.args.conn c.args.message s shut) a
