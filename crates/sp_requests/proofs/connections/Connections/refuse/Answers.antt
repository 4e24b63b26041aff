use Rattle.std.proofs.Common.{refl, sym, ◌∙◌}
use Rattle.sp_requests.proofs.TableLemmas.{refuse, unrefused}
use Rattle.sp_requests.proofs.connections.Connections.refuse.Goals as goal

pub returns-then-is_dialling-clause-refused : goal.returns-then-is_dialling-clause-refused
returns-then-is_dialling-clause-refused c = λ rows dialling a.
    refuse rows dialling c.args.self.now _ c.args.peer.now (sym (c.is_dialling.ensures rows dialling a) ∙ c.if-is_dialling.true) refl (λ q. c.swap_remove.ensures.updates.0 q) a

pub returns-else-is_dialling-clause-refused : goal.returns-else-is_dialling-clause-refused
returns-else-is_dialling-clause-refused c = λ rows dialling a. unrefused rows dialling c.args.self.now c.args.peer.now (sym (c.is_dialling.ensures rows dialling a) ∙ c.if-is_dialling.false) a
