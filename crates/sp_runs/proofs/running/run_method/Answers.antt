use Rattle.std.proofs.Common.{◌≡◌, List, Ok, ℕ, ◌<◌, arith, rules, subst}
use Rattle.std.specs.Prelude.{Err}
use Rattle.cls_link.specs.Links.{Links}
use Rattle.vm_step.specs.Start.{started}
use Rattle.sp_files.specs.Only.{IsOutOfMemory}
use Rattle.sp_files.specs.declared.refusal.Refusal.TheVariants.{Start}
use Rattle.sp_runs.proofs.Only.{only_error, only_ran, out_ran, start_out}
use Rattle.sp_runs.proofs.Whole.{whole_end}
use Rattle.sp_runs.proofs.running.run_method.Goals as goal

pub run_task-requires : goal.run_task-requires
run_task-requires c =
    let few : c.args.limits.fuel < 18446744073709551616 = search rules in
    record { plain = c.requires.plain; program = (c.in_ok-task.ensures).program; fuel = omega (arith, few, (c.in_ok-task.ensures).fuel) }

pub returns-clause-run : goal.returns-clause-run
returns-clause-run c =
    let start = subst (λ (own : List ℕ). started c.args.program.now own c.args.method c.args.arguments.items c.args.limits ≡ Ok c.in_ok-task.task) c.nil.ensures (c.in_ok-task.ensures).started in
    whole_end c.args.program.now c.args.method c.args.arguments.items c.args.limits c.in_ok-task.task 18446744073709551616
    start (c.in_ok-task.ensures).never_stuck (c.in_ok-task.ensures).within (c.in_ok-task.ensures).fuel c.run_task.result c.run_task.ensures.ended

pub returns-clause-refused : goal.returns-clause-refused
returns-clause-refused c = out_ran c.args.program.now c.args.method c.args.arguments.items c.args.limits c.run_task.result c.run_task.ensures.refused

pub returns-in_err-task-clause-only : goal.returns-in_err-task-clause-only
returns-in_err-task-clause-only c = λ outcome runs.
    let program : Links = c.args.program.now in
    only_error c.from_residual.result (Start c.in_err-task.field-0.0) outcome IsOutOfMemory c.from_residual.ensures.1
    (start_out program c.args.method c.args.arguments.items c.args.limits outcome c.in_err-task.field-0.0
    (λ known. subst (λ (own : List ℕ). started program own c.args.method c.args.arguments.items c.args.limits ≡ Err c.in_err-task.field-0.0) c.nil.ensures ((c.in_err-task.ensures).refused known)) runs)

pub returns-clause-only : goal.returns-clause-only
returns-clause-only c = λ outcome runs.
    only_ran c.args.program.now c.args.method c.args.arguments.items c.args.limits outcome c.run_task.result (returns-clause-run c) c.run_task.ensures.refused runs
