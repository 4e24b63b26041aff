use Rattle.sp_lending.proofs.SpaceLemmas.{same-rows}
use Rattle.sp_lending.proofs.parts.Parts.reserve.Goals as goal

-- its rows are what they were
pub returns : goal.returns
returns c = λ g s is. same-rows g s c.args.self.now c.reserve.new.self is c.reserve.ensures.same
