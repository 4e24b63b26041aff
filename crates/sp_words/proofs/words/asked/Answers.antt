use Rattle.std.proofs.Common.{rules}
use Rattle.clap.specs.Matches.{found_of}
use Rattle.clap.specs.Simple.{subcommand_rows_of}
use Rattle.clap.specs.Walk.{rows_of}
use Rattle.sp_words.proofs.Asked.{asked_by_check, asked_by_run, asked_by_sim}
use Rattle.sp_words.proofs.words.asked.Goals as goal

pub returns-in-Some-run-default : goal.returns-in-Some-run-default
returns-in-Some-run-default c =
    asked_by_run (subcommand_rows_of c.args.matches.now) (rows_of (found_of c.in-Some-run-default.found.now)) c.asked_run.result (search rules) c.asked_run.ensures

pub returns-in-Some-check-default : goal.returns-in-Some-check-default
returns-in-Some-check-default c =
    asked_by_check (subcommand_rows_of c.args.matches.now) (rows_of (found_of c.in-Some-check-default.found.now)) c.asked_check.result (search rules) c.asked_check.ensures

pub returns-in-Some-sim-default : goal.returns-in-Some-sim-default
returns-in-Some-sim-default c =
    asked_by_sim (subcommand_rows_of c.args.matches.now) (rows_of (found_of c.in-Some-sim-default.found.now)) c.asked_sim.result (search rules) c.asked_sim.ensures
