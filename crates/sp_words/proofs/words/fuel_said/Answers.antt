use Rattle.std.proofs.Common.{codes}
use Rattle.clap.specs.Matches.{found_of}
use Rattle.sp_words.proofs.Said.{fuel_is_said, no_fuel_said, said, says_no_fuel, unsaid}
use Rattle.sp_words.proofs.Spelled.{to_none}
use Rattle.sp_words.proofs.words.fuel_said.Goals as goal

pub returns-in_err-fuel_of-in-Some : goal.returns-in_err-fuel_of-in-Some
returns-in_err-fuel_of-in-Some c =
    to_none _ _ _ c.from_residual.ensures
    (says_no_fuel _ c.in-Some.word.now (said (found_of c.args.found.now) (codes "fuel") c.get_str.result c.in-Some.word c.get_str.ensures c.in-Some.is) c.in_err-fuel_of-in-Some.ensures)

pub returns-in_ok-fuel_of-in-Some : goal.returns-in_ok-fuel_of-in-Some
returns-in_ok-fuel_of-in-Some c =
    fuel_is_said _ c.in-Some.word.now c.in_ok-fuel_of-in-Some.field-0
    (said (found_of c.args.found.now) (codes "fuel") c.get_str.result c.in-Some.word c.get_str.ensures c.in-Some.is) c.in_ok-fuel_of-in-Some.ensures

pub returns-in-None : goal.returns-in-None
returns-in-None c = no_fuel_said _ (unsaid (found_of c.args.found.now) (codes "fuel") c.get_str.result c.get_str.ensures c.in-None.is)
