use Rattle.std.proofs.Common.{Option, sym, ap, subst, ◌∙◌}
use Rattle.space_ids.specs.declared.ids.Ref.{Ref}
use Rattle.sp_rules.specs.Holders.{drop}
use Rattle.sp_rules.specs.State.{State}
use Rattle.sp_living.specs.Holding.{listed}
use Rattle.sp_living.specs.Livings.{IsLiving}
use Rattle.sp_living.proofs.LivingLemmas.{dropped-none}
use Rattle.sp_living.proofs.living.Living.drop_found.Goals as goal

pub returns-in-None-clause-dropped : goal.returns-in-None-clause-dropped
returns-in-None-clause-dropped c = λ g s a. subst (λ (u : State). IsLiving g u c.args.self.now) (sym (ap (λ (o : Option Ref). drop g (listed o) s) c.in-None.is ∙ dropped-none s)) a
