use Rattle.std.proofs.Common.{cond, Some, nat_eq, refl, ap, ◌∙◌}
use Rattle.std.specs.Map.{lookup}
use Rattle.sp_requests.specs.declared.connection.Connection.{Connection}
use Rattle.sp_requests.proofs.TableLemmas.{accept}
use Rattle.sp_requests.proofs.connections.Connections.accept_reserved.Goals as goal

pub returns-clause-opened : goal.returns-clause-opened
returns-clause-opened c = λ rows dialling a none.
    accept rows dialling c.args.self.now _ c.args.conn refl
    (λ q. c.in-Ok.ensures.updates.0 q ∙ ap (λ (x : Connection). cond (nat_eq c.args.conn q) (Some x) (lookup (nat_eq q) c.args.self.now.rows.entries)) c.new.ensures) a none
