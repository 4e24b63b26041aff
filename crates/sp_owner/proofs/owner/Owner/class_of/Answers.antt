use Rattle.sp_owner.proofs.owner.Owner.class_of.Goals as goal

pub returns : goal.returns
returns c = λ g s is. c.class_of.ensures g s.store is.store
