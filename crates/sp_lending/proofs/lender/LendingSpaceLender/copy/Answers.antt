use Rattle.std.proofs.Common.{sym, subst}
use Rattle.sp_core.specs.Cores.{IsCore}
use Rattle.sp_machines.proofs.ResultLemmas.{if-ok}
use Rattle.sp_lending.specs.Spaces.{IsSpace}
use Rattle.sp_lending.proofs.lender.LendingSpaceLender.copy.Goals as goal

pub returns : goal.returns
returns b c =
    if-ok c.copy.result _ _ (λ base same. λ g s is.
    let k = subst (IsSpace g s) (sym c.self.view_is) is in
    subst (λ s. IsCore g s base) (sym k.leaves) (same g _ k.stands.core)) c.copy.ensures.state
