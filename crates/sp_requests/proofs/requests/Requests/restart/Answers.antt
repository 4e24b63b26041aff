use Rattle.std.proofs.Common.{◌≡◌, List, [], sym, subst, ◌∙◌, refl}
use Rattle.sp_rules.specs.Laws.{AllOf}
use Rattle.sp_rules.specs.State.{Request}
use Rattle.sp_requests.proofs.RestartLemmas.{restarted}
use Rattle.sp_requests.proofs.requests.Requests.restart.Goals as goal

pub returns-clause-restarted : goal.returns-clause-restarted
returns-clause-restarted c = λ conn other rows sent a waits. restarted conn other rows sent c.args.self.now a waits
