use Rattle.std.proofs.Common.{refl, sym, ◌∙◌}
use Rattle.sp_requests.proofs.TableLemmas.{dial}
use Rattle.sp_requests.proofs.connections.Connections.dial_reserved.Goals as goal

pub returns-clause-dialled : goal.returns-clause-dialled
returns-clause-dialled c = λ rows dialling a.
    dial rows dialling c.args.self.now _ c.args.peer.now (sym c.contains_key.ensures ∙ c.if-contains_key.false) refl (λ q. c.in-Ok.ensures.updates.0 q) a
