use Rattle.sp_owner.proofs.owner.Owner.is_full.Goals as goal

pub returns : goal.returns
returns c = λ g s is. c.is_full.ensures g s.store is.store
