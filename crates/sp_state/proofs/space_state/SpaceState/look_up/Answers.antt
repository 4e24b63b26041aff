use Rattle.std.proofs.Common.{sym, ap, subst, ◌∙◌}
use Rattle.std.proofs.lemmas.Result.{on_ok_weaker}
use Rattle.sp_registry.specs.Names.{is_name}
use Rattle.sp_rules.specs.OwnEvents.{on_lookup}
use Rattle.sp_rules.specs.State.{State}
use Rattle.sp_living.specs.Livings.{IsLiving}
use Rattle.sp_state.proofs.LetInLemmas.{not-worn}
use Rattle.sp_state.proofs.SpaceLemmas.{denied-name, lookup-parts, quiet}
use Rattle.sp_tasks.proofs.LentLemmas.{lent-same, on-any}
use Rattle.sp_state.proofs.space_state.SpaceState.look_up.Goals as goal

pub returns-then-not-is_name-clause-looked_up : goal.returns-then-not-is_name-clause-looked_up
returns-then-not-is_name-clause-looked_up c = on_ok_weaker c.say.result (λ said. λ g s is fresh.
    quiet g s (on_lookup g c.args.peer.now c.args.name s) c.args.self.now c.say.new.self (lookup-parts g c.args.peer.now c.args.name s)
    (subst (λ (t : State). IsLiving g t c.say.new.self) (sym (denied-name g c.args.peer.now c.args.name s (ap is_name (sym c.as_slice.ensures) ∙ sym c.is_name.ensures.read ∙ c.if-not-is_name.true))) (said g s is.living)) is) c.say.ensures.said

pub returns-clause-looked_up : goal.returns-clause-looked_up
returns-clause-looked_up c = on_ok_weaker c.look_up.result (λ now. λ g s is fresh.
    let numbers = not-worn s fresh in
    quiet g s (on_lookup g c.args.peer.now c.args.name s) c.args.self.now c.look_up.new.self (lookup-parts g c.args.peer.now c.args.name s)
    (now g s is.living (ap is_name (sym c.as_slice.ensures) ∙ sym c.is_name.ensures.read ∙ c.if-not-is_name.false) numbers.tasks numbers.calls) is) c.look_up.ensures.looked_up

pub returns-then-not-is_name-clause-lent : goal.returns-then-not-is_name-clause-lent
returns-then-not-is_name-clause-lent c = on-any c.say.result (lent-same c.say.ensures.tasks)
