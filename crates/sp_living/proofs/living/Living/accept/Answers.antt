use Rattle.std.proofs.Common.{ℕ, sym, ap, subst, ◌∙◌}
use Rattle.std.specs.Prelude.{nat_le}
use Rattle.std.proofs.lemmas.Result.{on_ok_weaker}
use Rattle.sp_rules.specs.State.{State}
use Rattle.sp_living.specs.Livings.{IsLiving}
use Rattle.sp_living.proofs.OpenLemmas.{opens-early, opens-late}
use Rattle.sp_living.proofs.living.Living.accept.Goals as goal

pub returns-then-says_late-clause-opened : goal.returns-then-says_late-clause-opened
returns-then-says_late-clause-opened c = on_ok_weaker c.accept_late.result (λ opened. λ g s a quiet of digest free.
    subst (λ (u : State). IsLiving g u c.accept_late.new.self) (opens-late g c.args.conn s (ap (λ (n : ℕ). nat_le 2 n) (sym of) ∙ sym c.says_late.ensures ∙ c.if-says_late.true)) (opened g s a quiet free)) c.accept_late.ensures.opened

pub returns-clause-opened : goal.returns-clause-opened
returns-clause-opened c = on_ok_weaker c.accept_first.result (λ opened. λ g s a quiet of digest free.
    subst (λ (u : State). IsLiving g u c.accept_first.new.self) (opens-early g c.args.conn s (ap (λ (n : ℕ). nat_le 2 n) (sym of) ∙ sym c.says_late.ensures ∙ c.if-says_late.false)) (opened g s a quiet digest free)) c.accept_first.ensures.opened
