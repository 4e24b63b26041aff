use Rattle.sp_files.proofs.Spelled.{known_error}
use Rattle.sp_files.specs.Only.{IsOutOfMemory}
use Rattle.sp_runs.specs.OfProgram.{IsRefusedOf}
use Rattle.sp_runs.proofs.Only.{found_out, only_error, only_run}
use Rattle.sp_runs.proofs.Refused.{not_found, refused_there, run_refused, told_alone, told_there}
use Rattle.sp_space_runs.proofs.running.run_named.Goals as goal

pub returns-in_err-method-clause-refused : goal.returns-in_err-method-clause-refused
returns-in_err-method-clause-refused c =
    known_error c.from_residual.result c.in_err-method.field-0.0 (IsRefusedOf c.args.program.now c.args.class.now c.args.text.now c.args.arguments.items c.args.limits) c.from_residual.ensures.1
    (not_found c.args.class.now c.args.text.now c.args.arguments.items c.args.limits c.args.program.now c.in_err-method.field-0.0 (c.in_err-method.ensures).refused)

pub returns-in_err-method-clause-only : goal.returns-in_err-method-clause-only
returns-in_err-method-clause-only c = λ files outcome is run.
    only_error c.from_residual.result c.in_err-method.field-0.0 outcome IsOutOfMemory c.from_residual.ensures.1
    (found_out files c.args.class.now c.args.text.now c.args.arguments.items c.args.limits c.args.program.now outcome is run c.in_err-method.field-0.0 (c.in_err-method.ensures).refused)

-- ---- a class of the program is remote

pub run_in_space-requires : goal.run_in_space-requires
run_in_space-requires c = record { program = c.requires.program }

pub returns-then-has_remote-clause-run : goal.returns-then-has_remote-clause-run
returns-then-has_remote-clause-run c =
    told_there c.args.class.now c.args.text.now c.args.arguments.items c.args.limits c.args.program.now c.in_ok-method.method
    ((c.has_remote.ensures).one c.if-has_remote.true) (c.in_ok-method.ensures).found c.run_in_space.result (c.run_in_space.ensures).run

pub returns-then-has_remote-clause-refused : goal.returns-then-has_remote-clause-refused
returns-then-has_remote-clause-refused c =
    refused_there c.args.class.now c.args.text.now c.args.arguments.items c.args.limits c.args.program.now c.in_ok-method.method
    ((c.has_remote.ensures).one c.if-has_remote.true) (c.in_ok-method.ensures).found c.run_in_space.result (c.run_in_space.ensures).refused

pub returns-then-has_remote-clause-only : goal.returns-then-has_remote-clause-only
returns-then-has_remote-clause-only c = λ files outcome is run.
    (c.run_in_space.ensures).only outcome
    ((only_run files c.args.class.now c.args.text.now c.args.arguments.items c.args.limits c.args.program.now c.in_ok-method.method outcome is (c.in_ok-method.ensures).found run).1
    ((c.has_remote.ensures).one c.if-has_remote.true))

-- ---- none is

pub run_method-requires : goal.run_method-requires
run_method-requires c = record { plain = (c.has_remote.ensures).none c.if-has_remote.false }

pub returns-clause-run : goal.returns-clause-run
returns-clause-run c =
    told_alone c.args.class.now c.args.text.now c.args.arguments.items c.args.limits c.args.program.now c.in_ok-method.method
    ((c.has_remote.ensures).none c.if-has_remote.false) (c.in_ok-method.ensures).found c.run_method.result (c.run_method.ensures).run

pub returns-clause-refused : goal.returns-clause-refused
returns-clause-refused c =
    run_refused c.args.class.now c.args.text.now c.args.arguments.items c.args.limits c.args.program.now c.in_ok-method.method
    (c.in_ok-method.ensures).found c.run_method.result (c.run_method.ensures).refused

pub returns-clause-only : goal.returns-clause-only
returns-clause-only c = λ files outcome is run.
    (c.run_method.ensures).only outcome
    ((only_run files c.args.class.now c.args.text.now c.args.arguments.items c.args.limits c.args.program.now c.in_ok-method.method outcome is (c.in_ok-method.ensures).found run).0
    ((c.has_remote.ensures).none c.if-has_remote.false))
