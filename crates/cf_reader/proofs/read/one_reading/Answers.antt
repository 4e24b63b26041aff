use Rattle.cf_reader.proofs.SpellsLaws.{one_class}
use Rattle.cf_reader.proofs.read.one_reading.Goals as goal

pub returns : goal.returns
returns c = λ bytes l m x y a b. one_class bytes l m x y a b
