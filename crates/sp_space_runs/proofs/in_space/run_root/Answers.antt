use Rattle.std.proofs.Common.{sym, subst}
use Rattle.sp_files.specs.Only.{IsOutOfMemory}
use Rattle.sp_rules.specs.Events.{Root}
use Rattle.sp_rules.specs.State.{opening}
use Rattle.sp_runs.specs.Going.{setting_of}
use Rattle.sp_runs.specs.Runs.{IsNotRunInSpace}
use Rattle.uuid.specs.Parts.{zero_bytes}
use Rattle.sp_space_runs.proofs.Rooting.{began, goes-first, only-so, root-out, root-refused, runs-so}
use Rattle.sp_space_runs.proofs.in_space.run_root.Goals as goal

pub refusal_of-requires : goal.refusal_of-requires
refusal_of-requires c =
    let g = setting_of c.args.program.now zero_bytes c.args.limits in
    (root-refused c.args.program.now c.args.method c.args.arguments.now c.args.limits c.in-Err.fault (c.in-Err.ensures.refused g opening c.requires.space)).1

pub returns-in-Err-clause-refused : goal.returns-in-Err-clause-refused
returns-in-Err-clause-refused c =
    let g = setting_of c.args.program.now zero_bytes c.args.limits in
    subst (IsNotRunInSpace c.args.program.now c.args.method c.args.arguments.now c.args.limits) (sym c.refusal_of.ensures)
    (root-refused c.args.program.now c.args.method c.args.arguments.now c.args.limits c.in-Err.fault (c.in-Err.ensures.refused g opening c.requires.space)).0

pub returns-in-Err-clause-only : goal.returns-in-Err-clause-only
returns-in-Err-clause-only c = λ outcome runs.
    let g = setting_of c.args.program.now zero_bytes c.args.limits in
    subst IsOutOfMemory (sym c.refusal_of.ensures)
    (root-out c.args.program.now c.args.method c.args.arguments.now c.args.limits outcome runs c.in-Err.fault (c.in-Err.ensures.refused g opening c.requires.space))

pub play-requires : goal.play-requires
play-requires c =
    let g = setting_of c.args.program.now zero_bytes c.args.limits in
    let accepted = c.in-Ok.ensures.accepted g opening c.requires.space in
    let (files, is) = c.requires.program in (
      c.args.program.now,
      g,
      Root c.args.method.0 c.args.arguments.now c.args.limits.fuel,
      (began c.args.program.now c.args.method c.args.arguments.now c.args.limits files is c.root.new.self accepted).state,
      goes-first c.args.program.now c.args.method c.args.arguments.now c.args.limits files is c.root.new.self accepted (c.in-Ok.ensures.state g opening c.requires.space),
    )

pub named-requires : goal.named-requires
named-requires c =
    let g = setting_of c.args.program.now zero_bytes c.args.limits in
    let accepted = c.in-Ok.ensures.accepted g opening c.requires.space in
    let (files, is) = c.requires.program in
    let first = Root c.args.method.0 c.args.arguments.now c.args.limits.fuel in
    let task = began c.args.program.now c.args.method c.args.arguments.now c.args.limits files is c.root.new.self accepted in
    (c.in_ok-outcome.ensures.ended c.args.program.now g first task.state
    (goes-first c.args.program.now c.args.method c.args.arguments.now c.args.limits files is c.root.new.self accepted (c.in-Ok.ensures.state g opening c.requires.space))).of_set

pub returns-clause-run : goal.returns-clause-run
returns-clause-run c =
    let g = setting_of c.args.program.now zero_bytes c.args.limits in
    let accepted = c.in-Ok.ensures.accepted g opening c.requires.space in
    let (files, is) = c.requires.program in
    let first = Root c.args.method.0 c.args.arguments.now c.args.limits.fuel in
    let task = began c.args.program.now c.args.method c.args.arguments.now c.args.limits files is c.root.new.self accepted in
    runs-so c.args.program.now c.args.method c.args.arguments.now c.args.limits files is c.root.new.self accepted c.in_ok-outcome.outcome c.in_ok-named.field-0
    (c.in_ok-outcome.ensures.ended c.args.program.now g first task.state
    (goes-first c.args.program.now c.args.method c.args.arguments.now c.args.limits files is c.root.new.self accepted (c.in-Ok.ensures.state g opening c.requires.space)))
    c.in_ok-named.ensures

pub returns-clause-only : goal.returns-clause-only
returns-clause-only c = λ outcome runs.
    let g = setting_of c.args.program.now zero_bytes c.args.limits in
    let accepted = c.in-Ok.ensures.accepted g opening c.requires.space in
    let (files, is) = c.requires.program in
    let first = Root c.args.method.0 c.args.arguments.now c.args.limits.fuel in
    let task = began c.args.program.now c.args.method c.args.arguments.now c.args.limits files is c.root.new.self accepted in
    only-so c.args.program.now c.args.method c.args.arguments.now c.args.limits files is c.root.new.self accepted outcome runs c.in_ok-outcome.outcome c.in_ok-named.field-0
    (c.in_ok-outcome.ensures.ended c.args.program.now g first task.state
    (goes-first c.args.program.now c.args.method c.args.arguments.now c.args.limits files is c.root.new.self accepted (c.in-Ok.ensures.state g opening c.requires.space)))
    c.in_ok-named.ensures
