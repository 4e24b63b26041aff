use Rattle.std.proofs.Common.{inl, inr, sym, subst}
use Rattle.sp_files.proofs.Spelled.{known_error}
use Rattle.sp_files.specs.Only.{IsOutOfMemory}
use Rattle.sp_files.specs.declared.refusal.Refusal.{Refusal}
use Rattle.sp_runs.specs.Runs.{IsRefused, no_memory, no_program}
use Rattle.sp_runs.proofs.Only.{only_error}
use Rattle.sp_runs.proofs.Refused.{refused_of, run_of}
use Rattle.sp_space_runs.proofs.running.run_classes.Goals as goal

pub returns-in_err-program-clause-refused : goal.returns-in_err-program-clause-refused
returns-in_err-program-clause-refused c =
    let is : Refusal → Type 0 = IsRefused c.args.files.now c.args.class.now c.args.method.now c.args.arguments.items c.args.limits in
    known_error c.from_residual.result c.in_err-program.field-0.0 is c.from_residual.ensures.1
    (elim (c.in_err-program.ensures).refused [
      | inl why ↦ no_program c.in_err-program.field-0.0 why
      | inr out ↦ subst is (sym out) no_memory
    ])

pub returns-in_err-program-clause-only : goal.returns-in_err-program-clause-only
returns-in_err-program-clause-only c = λ outcome only.
    only_error c.from_residual.result c.in_err-program.field-0.0 outcome IsOutOfMemory c.from_residual.ensures.1 ((c.in_err-program.ensures).only only.program only.is_program)

pub run_named-requires : goal.run_named-requires
run_named-requires c = record { program = (c.args.files.now, (c.in_ok-program.ensures).program) }

pub returns-clause-run : goal.returns-clause-run
returns-clause-run c =
    run_of c.args.files.now c.args.class.now c.args.method.now c.args.arguments.items c.args.limits c.in_ok-program.program (c.in_ok-program.ensures).program
    c.run_named.result c.run_named.ensures.run

pub returns-clause-refused : goal.returns-clause-refused
returns-clause-refused c =
    refused_of c.args.files.now c.args.class.now c.args.method.now c.args.arguments.items c.args.limits c.in_ok-program.program (c.in_ok-program.ensures).program
    c.run_named.result c.run_named.ensures.refused

pub returns-clause-only : goal.returns-clause-only
returns-clause-only c = λ outcome only. c.run_named.ensures.only c.args.files.now outcome (c.in_ok-program.ensures).program only
