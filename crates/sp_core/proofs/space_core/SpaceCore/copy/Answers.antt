use Rattle.sp_tasks.specs.Lent.{KeepsLent}
use Rattle.sp_tasks.proofs.LentLemmas.{lent-rows}
use Rattle.sp_core.proofs.space_core.SpaceCore.copy.Goals as goal

pub returns-clause-state : goal.returns-clause-state
returns-clause-state c = λ g s is. record {
  id = is.id;
  fuel = is.fuel;
  state = c.in_ok-state.ensures.stands g s is.state is.rest;
  spare = tt;
  rest = is.rest;
}

pub returns-clause-lent : goal.returns-clause-lent
returns-clause-lent c =
    let kept : KeepsLent c.args.self.now.state.living.tasks c.in_ok-state.state.living.tasks = lent-rows c.in_ok-state.ensures.rows in
    kept.lent
