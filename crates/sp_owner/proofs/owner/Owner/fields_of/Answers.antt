use Rattle.sp_owner.proofs.owner.Owner.fields_of.Goals as goal

pub returns : goal.returns
returns c = λ g s is. c.fields_of.ensures g s.store is.store
