use Rattle.std.proofs.Common.{true, List, refl, sym, ap, subst, ◌∙◌}
use Rattle.space_ids.specs.declared.value.Value.{Value}
use Rattle.sp_rules.specs.LivingTasks.{add_task}
use Rattle.sp_rules.specs.State.{OfRoot}
use Rattle.sp_state.specs.Spaces.{IsSpace}
use Rattle.sp_events.specs.Events.{event_of_root}
use Rattle.sp_rules.specs.Space.{finish_event, happen, on}
use Rattle.sp_state.proofs.EndLemmas.{happen-settles}
use Rattle.sp_state.proofs.FrameLemmas.{space-is}
use Rattle.sp_state.proofs.HappenLemmas.{on-so}
use Rattle.sp_tasks.proofs.LentLemmas.{lent-still}
use Rattle.sp_state.proofs.space_state.SpaceState.on_root.Goals as goal

pub returns-clause-outputs : goal.returns-clause-outputs
unfolding happen
returns-clause-outputs c = λ g s is rest.
    let e = event_of_root c.args.root.now in
    c.in_ok-outputs.ensures.outputs g (happen g e s) (subst (λ (xs : List Value). IsSpace g (add_task g OfRoot c.args.root.now.method xs c.args.root.now.fuel s) c.root.new.self) c.as_slice.ensures (c.in_ok-root.ensures.started g s is)) (happen-settles g e s refl rest)
    ∙ sym (ap (λ r. r.1) (on-so g e s refl))

pub returns-clause-happened : goal.returns-clause-happened
unfolding happen
returns-clause-happened c = λ g s is rest.
    let e = event_of_root c.args.root.now in
    space-is g (finish_event true (happen g e s)).0 (on g e s).0 _ (ap (λ r. r.0) (on-so g e s refl))
    (c.in_ok-outputs.ensures.concluded g (happen g e s) (subst (λ (xs : List Value). IsSpace g (add_task g OfRoot c.args.root.now.method xs c.args.root.now.fuel s) c.root.new.self) c.as_slice.ensures (c.in_ok-root.ensures.started g s is)) (happen-settles g e s refl rest))

pub returns-clause-lent : goal.returns-clause-lent
returns-clause-lent c = lent-still c.in_ok-root.ensures.lent c.conclude.ensures.tasks
