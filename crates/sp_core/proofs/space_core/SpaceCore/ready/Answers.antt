use Rattle.std.proofs.Common.{ap, subst, nat_eq, ◌≡◌, ◌∙◌}
use Rattle.std.specs.List.{IsDistinct}
use Rattle.std.specs.Map.{keys_of}
use Rattle.sp_tasks.specs.Rows.{TaskTable, first_ready}
use Rattle.sp_core.proofs.ShownLemmas.{ready-lowest}
use Rattle.sp_core.proofs.space_core.SpaceCore.ready.Goals as goal

pub returns : goal.returns
returns c = λ g s lent is lends.
    let path : c.tasks.result.now ≡ c.args.self.now.state.living.tasks = c.tasks.ensures.is ∙ ap (λ l. l.tasks) c.living.ensures.is in
    ready-lowest g s c.args.self.now lent c.ready.result (c.ready.ensures.first ∙ ap (λ (t : TaskTable). first_ready t.rows) path) (subst (λ (t : TaskTable). IsDistinct nat_eq (keys_of t.rows)) path c.ready.ensures.distinct) is lends
