use Rattle.std.proofs.Common.{◌≡◌, ◌∷◌, List, sym, ap, subst, ◌∙◌}
use Rattle.std.proofs.lemmas.Result.{on_ok_weaker}
use Rattle.space_ids.specs.declared.value.Value.{Value}
use Rattle.space_ids.specs.declared.value.Value.TheVariants as values
use Rattle.sp_rules.specs.State.{State}
use Rattle.sp_living.specs.Livings.{IsLiving}
use Rattle.sp_endings.proofs.PassLemmas.{call-drops, call-starts}
use Rattle.sp_living.proofs.TableLemmas.{none-left}
use Rattle.sp_tasks.proofs.LentLemmas.{lent-none}
use Rattle.sp_endings.proofs.passing.start_call.Goals as goal

pub returns-clause-started : goal.returns-clause-started
returns-clause-started w c = on_ok_weaker c.start_selected.result (λ started. λ g s p a tells after at of.
    let call = c.args.call in
    let receiver = c.in-Some.receiver in
    let args : c.deref.result.now ≡ values.Ref receiver ∷ call.arguments = c.deref.ensures.value ∙ c.in_ok-insert.ensures.items ∙ ap (λ (xs : List Value). values.Ref receiver ∷ xs) c.into_vec-arguments.ensures in
    subst (λ (u : State). IsLiving g u c.start_selected.new.living)
    (sym (call-starts g s p c.args.conn c.args.number call.target call.method call.fuel call.arguments receiver c.selected-selected.result at of (sym c.in-Some.is ∙ c.receiver_of.ensures g s a after) (c.selected-selected.ensures g.classes tells)))
    (started g s receiver call.arguments a tells args)) c.start_selected.ensures.started

pub returns-in_default-clause-started : goal.returns-in_default-clause-started
returns-in_default-clause-started w c = λ g s p a tells after at of.
    let call = c.args.call in
    subst (λ (u : State). IsLiving g u c.args.living.now) (sym (call-drops g s p call.target call.method call.fuel call.arguments (sym (none-left c.receiver_of.result c.in_default.not-Some) ∙ c.receiver_of.ensures g s a after))) a

pub returns-in_default-clause-lent : goal.returns-in_default-clause-lent
returns-in_default-clause-lent w c = lent-none c.args.living.now.tasks
