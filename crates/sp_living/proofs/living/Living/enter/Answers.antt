use Rattle.std.proofs.Common.{◌≡◌, ◌∙◌}
use Rattle.std.specs.Prelude.{max}
use Rattle.sp_tasks.specs.Behaviours.{origin_of}
use Rattle.sp_tasks.specs.Rows.{started_row, with_started}
use Rattle.sp_living.proofs.StepLemmas.{now-entered}
use Rattle.sp_tasks.proofs.LentLemmas.{lent-then}
use Rattle.sp_living.proofs.living.Living.enter.Goals as goal

pub returns-clause-entered : goal.returns-clause-entered
returns-clause-entered c = λ g s a.
    let l = c.args.self.now in
    let room = max l.tasks.room 1 in
    let table : c.start_reserved.new.self ≡ with_started (started_row (origin_of c.args.origin) c.args.method c.args.arguments.now c.args.fuel) (record l.tasks { room = room }) =
    c.start_reserved.ensures.started ∙ (λ j. with_started (c.in_ok-new.ensures j) (c.in_ok-reserve.ensures.ok j)) in
    now-entered g s l room c.start_reserved.new.self (origin_of c.args.origin) c.args.method c.args.arguments.now c.args.fuel table a

pub returns-clause-lent : goal.returns-clause-lent
returns-clause-lent c = lent-then c.in_ok-reserve.ensures.lent c.start_reserved.ensures.lent
