use Rattle.std.proofs.Common.{ap, sym, subst, ◌∙◌}
use Rattle.sp_events.specs.Events.{event_of}
use Rattle.sp_events.specs.declared.event.Event.{Event}
use Rattle.sp_rules.specs.Space.{on}
use Rattle.sp_state.specs.LetIn.{IsLetIn}
use Rattle.sp_state.specs.Spaces.{IsSpace}
use Rattle.sp_state.proofs.HappenLemmas.{outside-answers}
use Rattle.sp_core.specs.declared.space_core.SpaceCore.{SpaceCore}
use Rattle.sp_core.proofs.EventLemmas.{advanced}
use Rattle.sp_core.proofs.LentLemmas.{kept, lent-after, lent-same, stays}
use Rattle.sp_core.proofs.TwinLemmas.{core-is, if-some, on-err, seen-is, taken-out}
use Rattle.sp_core.proofs.space_core.SpaceCore.accept.Goals as goal

pub returns-in_err-next-clause-lent : goal.returns-in_err-next-clause-lent
returns-in_err-next-clause-lent w c = λ g s is id. lent-same c.args.self.now c.take_spare.new.self (ap (λ (core : SpaceCore). core.state) c.take_spare.ensures.core) id

pub returns-in_err-next-clause-unchanged : goal.returns-in_err-next-clause-unchanged
returns-in_err-next-clause-unchanged w c = on-err c.from_residual-in_err-next.result _ (λ g s is. taken-out g s c.args.self.now c.take_spare.new.self c.take_spare.ensures.core is)

pub returns-in_default-clause-lent : goal.returns-in_default-clause-lent
returns-in_default-clause-lent w c = λ g s is id. lent-same c.args.self.now c.take_spare.new.self (ap (λ (core : SpaceCore). core.state) c.take_spare.ensures.core) id

pub returns-in_default-clause-unchanged : goal.returns-in_default-clause-unchanged
returns-in_default-clause-unchanged w c = λ g s is. taken-out g s c.args.self.now c.take_spare.new.self c.take_spare.ensures.core is

pub returns-clause-outputs : goal.returns-clause-outputs
returns-clause-outputs w c = λ g s is tells lets.
    c.in-Ok.ensures.outputs g s (c.in_ok-next.ensures.spare g s is).state is.rest tells (subst (λ (e : Event). IsLetIn g s (event_of e)) (sym c.in_ok-first.ensures) lets) ∙ ap (λ (e : Event). (on g (event_of e) s).1) c.in_ok-first.ensures

pub returns-clause-state : goal.returns-clause-state
returns-clause-state w c = λ g s is tells lets.
    let second = c.in_ok-next.ensures.spare g s is in
    seen-is g (on g (event_of c.args.event.now) s).0 c.put_spare.new.self c.see_results.new.self
    (core-is g (on g (event_of c.args.event.now) s).0 (record c.take_spare.new.self { state = c.replace-last.new.dest; spare = c.follow-spare.result }) c.put_spare.new.self c.put_spare.ensures
    (advanced stays g s (event_of c.args.event.now) c.args.self.now c.take_spare.new.self c.in_ok-next.next c.replace-last.result c.replace-last.new.dest c.on.new.self c.follow-spare.result (outside-answers c.args.event.now) is c.take_spare.ensures.core
    c.replace-last.ensures.value c.replace-last.ensures.after second.lent
    (subst (λ (e : Event). IsSpace g (on g (event_of e) s).0 c.on.new.self) c.in_ok-first.ensures (c.in-Ok.ensures.happened g s second.state is.rest tells (subst (λ (e : Event). IsLetIn g s (event_of e)) (sym c.in_ok-first.ensures) lets)))
    (kept c.in_ok-next.next c.on.new.self c.in-Ok.ensures.lent)
    (if-some c.follow-spare.result _ _ (λ space told. λ here rest. subst (λ (e : Event). IsSpace g (on g (event_of e) s).0 space) c.in_ok-second.ensures (told g s here rest tells (subst (λ (e : Event). IsLetIn g s (event_of e)) (sym c.in_ok-second.ensures) lets))) c.follow-spare.ensures.happened)
    (if-some c.follow-spare.result _ _ (λ space same. kept c.replace-last.result space same) c.follow-spare.ensures.lent)))

pub returns-clause-lent : goal.returns-clause-lent
returns-clause-lent w c = λ g s is id.
    lent-after stays c.args.self.now c.take_spare.new.self c.put_spare.new.self c.in_ok-next.next c.replace-last.new.dest c.on.new.self c.follow-spare.result (c.in_ok-next.ensures.spare g s is).lent
    c.replace-last.ensures.after (kept c.in_ok-next.next c.on.new.self c.in-Ok.ensures.lent) c.put_spare.ensures id
