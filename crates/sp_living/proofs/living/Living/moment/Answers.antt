use Rattle.sp_living.proofs.living.Living.moment.Goals as goal

pub returns : goal.returns
returns c = λ g s a. a.moment.same
