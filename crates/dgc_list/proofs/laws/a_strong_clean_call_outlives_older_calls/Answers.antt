use Rattle.std.proofs.Common.{ap, is_some}
use Rattle.dgc_list.specs.declared.remembered.Remembered.{Remembered}
use Rattle.dgc_list.proofs.LawsLemmas.{cleaned-stays}
use Rattle.dgc_list.proofs.laws.a_strong_clean_call_outlives_older_calls.Goals as goal

pub returns : goal.returns
returns c = λ h later c o objects number told fresh older. ap (λ (r : Remembered). is_some r.expires) (cleaned-stays h later c o objects number told fresh older)
