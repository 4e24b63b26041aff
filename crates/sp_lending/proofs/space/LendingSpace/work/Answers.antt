use Rattle.sp_lending.proofs.space.LendingSpace.work.Goals as goal

pub work-requires : goal.work-requires
work-requires b c = let k = c.self.invariant in record { known = record { setting = b.N.Setup.setting; state = k.state; is = k.is } }

pub invariant_of-self : goal.invariant_of-self
invariant_of-self b c = c.work.ensures.state b.N.Setup.setting c.self.invariant
