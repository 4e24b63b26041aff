use Rattle.std.proofs.Common.{Option, sym, subst}
use Rattle.std.proofs.lemmas.Result.{on_ok_weaker}
use Rattle.sp_registry.specs.declared.fault.RegistryFault.{RegistryFault}
use Rattle.sp_living.specs.Livings.{IsLiving}
use Rattle.sp_state.specs.Denying.{told_denied}
use Rattle.sp_tasks.proofs.LentLemmas.{lent-none, lent-same, on-any}
use Rattle.sp_state.proofs.owning.deny.Goals as goal

pub returns-in-Some-clause-denied : goal.returns-in-Some-clause-denied
returns-in-Some-clause-denied c = on_ok_weaker c.say.result (λ said. λ g s is. subst (λ (d : Option RegistryFault). IsLiving g (told_denied d s) c.say.new.self) (sym c.in-Some.is) (said g s is)) c.say.ensures.said

pub returns-in-None-clause-denied : goal.returns-in-None-clause-denied
returns-in-None-clause-denied c = λ g s is. subst (λ (d : Option RegistryFault). IsLiving g (told_denied d s) c.args.living.now) (sym c.in-None.is) is

pub returns-in-Some-clause-lent : goal.returns-in-Some-clause-lent
returns-in-Some-clause-lent c = on-any c.say.result (lent-same c.say.ensures.tasks)

pub returns-in-None-clause-lent : goal.returns-in-None-clause-lent
returns-in-None-clause-lent c = lent-none c.args.living.now.tasks
