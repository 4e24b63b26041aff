use Rattle.std.proofs.Common.{refl, sym, filter}
use Rattle.std.specs.Prelude.{◌==◌, not}
use Rattle.sp_rules.specs.State as rules
use Rattle.sp_requests.proofs.TableLemmas.{close_other, close_to, retold, unclose}
use Rattle.sp_requests.proofs.connections.Connections.close.Goals as goal
use Rattle.sp_requests.proofs.connections.Connections.close.Goals.{in-Some, in-None}

pub returns-in_err-row-clause-closed : goal.returns-in_err-row-clause-closed
returns-in_err-row-clause-closed c = λ rows dialling a.
    retold (filter (λ (r : rules.Connection). not (r.number == c.args.conn)) rows) dialling c.args.self.now _ c.in_err-row.ensures.unchanged refl
    (unclose rows dialling c.args.self.now c.args.conn (sym c.in_err-row.ensures.value) a)

pub returns-clause-closed : goal.returns-clause-closed
returns-clause-closed c = λ rows dialling a. elim c.match-row.branch [
  | in-Some w ↦ rw (w.self-is)
      (close_to rows dialling c.args.self.now _ c.args.conn c.in_ok-row.row w.in-Some.peer (sym c.in_ok-row.ensures.value) w.in-Some.is (λ q. w.swap_remove-in-Some.ensures.updates.0 q) (λ q. c.swap_remove.ensures.updates.0 q) a)
  | in-None w ↦ rw (w.self-is)
      (close_other rows dialling c.args.self.now _ c.args.conn c.in_ok-row.row (sym c.in_ok-row.ensures.value) w.in-None.is refl (λ q. c.swap_remove.ensures.updates.0 q) a)
]
