use Rattle.std.proofs.Common.{Option, sym, ap, subst, ◌∙◌}
use Rattle.std.proofs.lemmas.Result.{on_ok_weaker}
use Rattle.uuid.specs.declared.Uuid.{Uuid}
use Rattle.sp_rules.specs.OwnEvents.{on_opened}
use Rattle.sp_rules.specs.Refusals.{was_asked}
use Rattle.sp_rules.specs.State.{State}
use Rattle.sp_living.specs.Livings.{IsLiving}
use Rattle.sp_living.proofs.OpenLemmas.{opens-to}
use Rattle.sp_living.proofs.living.Living.open.Goals as goal

pub returns-in-Some-clause-opened : goal.returns-in-Some-clause-opened
returns-in-Some-clause-opened c = on_ok_weaker c.open_to.result (λ opened. λ g s a quiet of digest free asked.
    subst (λ (u : State). IsLiving g u c.open_to.new.self) (opens-to g c.args.conn c.in-Some.peer s c.version_to-said.result (c.version_to-said.ensures g s a of) ∙ ap (λ (d : Option Uuid). on_opened g c.args.conn d s) (sym c.in-Some.is))
    (opened g s a quiet digest free (ap (was_asked s) (sym c.in-Some.is) ∙ asked))) c.open_to.ensures.opened

pub returns-in-None-clause-opened : goal.returns-in-None-clause-opened
unfolding on_opened
returns-in-None-clause-opened c = on_ok_weaker c.accept.result (λ opened. λ g s a quiet of digest free asked.
    subst (λ (d : Option Uuid). IsLiving g (on_opened g c.args.conn d s) c.accept.new.self) (sym c.in-None.is) (opened g s a quiet of digest free)) c.accept.ensures.opened
