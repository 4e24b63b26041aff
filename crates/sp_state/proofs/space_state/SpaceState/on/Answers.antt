use Rattle.std.proofs.Common.{true, sym, ap, ◌∙◌}
use Rattle.sp_events.specs.Events.{event_of}
use Rattle.sp_rules.specs.Space.{finish_event, happen, on}
use Rattle.sp_state.proofs.EndLemmas.{happen-settles}
use Rattle.sp_state.proofs.FrameLemmas.{space-is}
use Rattle.sp_state.proofs.HappenLemmas.{on-so, outside-answers}
use Rattle.sp_tasks.proofs.LentLemmas.{lent-still}
use Rattle.sp_state.proofs.space_state.SpaceState.on.Goals as goal

pub returns-clause-outputs : goal.returns-clause-outputs
returns-clause-outputs w c = λ g s is rest tells lets.
    let e = event_of c.args.event in
    let answers = outside-answers c.args.event in
    c.in_ok-outputs.ensures.outputs g (happen g e s) (c.in_ok-happen.ensures.happened g s is rest tells lets) (happen-settles g e s answers rest) ∙ sym (ap (λ r. r.1) (on-so g e s answers))

pub returns-clause-happened : goal.returns-clause-happened
returns-clause-happened w c = λ g s is rest tells lets.
    let e = event_of c.args.event in
    let answers = outside-answers c.args.event in
    space-is g (finish_event true (happen g e s)).0 (on g e s).0 _ (ap (λ r. r.0) (on-so g e s answers))
    (c.in_ok-outputs.ensures.concluded g (happen g e s) (c.in_ok-happen.ensures.happened g s is rest tells lets) (happen-settles g e s answers rest))

pub returns-clause-lent : goal.returns-clause-lent
returns-clause-lent w c = lent-still c.in_ok-happen.ensures.lent c.conclude.ensures.tasks
