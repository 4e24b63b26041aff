use Rattle.sp_owner.proofs.owner.Owner.object.Goals as goal

pub returns : goal.returns
returns c = λ g s is. c.object.ensures g s.store is.store
