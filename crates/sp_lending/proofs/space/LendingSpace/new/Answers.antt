use Rattle.sp_rules.specs.State.{opening}
use Rattle.sp_lending.proofs.SpaceLemmas.{in-some}
use Rattle.sp_lending.proofs.space.LendingSpace.new.Goals as goal

pub invariant_of-result : goal.invariant_of-result
invariant_of-result b c =
    let r = c.requires in
    in-some b.N.Setup.setting opening _ (c.in_ok-new.ensures b.N.Setup.setting r.set r.id r.digest r.limits r.version)
