use Rattle.sp_lending.proofs.SpaceLemmas.{in-some}
use Rattle.sp_lending.proofs.lender.LendingSpaceLender.reserve.Goals as goal

pub invariant_of-self : goal.invariant_of-self
invariant_of-self b c =
    let n = b.N.Setup.setting in
    let k = c.self.invariant in
    in-some n _ _ (c.reserve.ensures n k.state k.is)
