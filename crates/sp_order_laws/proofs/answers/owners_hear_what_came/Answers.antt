use Rattle.sp_order_laws.proofs.HeardLemmas
use Rattle.sp_order_laws.proofs.answers.owners_hear_what_came.Goals as goal

pub returns : goal.returns
returns c = HeardLemmas.owners_hear_what_came
