use Rattle.sp_machines.proofs.ResultLemmas.{ok-or-on}
use Rattle.sp_lending.proofs.SpaceLemmas.{in-some}
use Rattle.sp_lending.proofs.lender.LendingSpaceLender.on.Goals as goal

pub invariant_of-self : goal.invariant_of-self
invariant_of-self b c =
    let n = b.N.Setup.setting in
    let k = c.self.invariant in
    ok-or-on c.on.result _ _ _ (λ state. in-some n _ _ (state n k.state k.is)) (λ same. in-some n _ _ (same n k.state k.is)) c.on.ensures.state c.on.ensures.unchanged
