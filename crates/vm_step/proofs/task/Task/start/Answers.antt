use Rattle.std.proofs.Common.{◌≡◌, List, subst}
use Rattle.std.specs.Prelude.{IfErr, IfOk, IsOk, Ok, Result}
use Rattle.space_ids.specs.declared.value.Value.{Value}
use Rattle.vm_step.proofs.Begun.{begun_started}
use Rattle.vm_step.specs.Start.{started, Refuses}
use Rattle.vm_step.specs.Task.{Tasked}
use Rattle.vm_step.specs.declared.fault.StartFault.{StartFault}
use Rattle.vm_step.proofs.task.Task.start.Goals as goal

pub returns-in-None-clause-started : goal.returns-in-None-clause-started
returns-in-None-clause-started c =
    let ok : IsOk (started c.args.program.now c.args.own c.args.method c.args.arguments.items c.args.limits) =
    subst (λ (values : List Value). IsOk (started c.args.program.now c.args.own c.args.method values c.args.limits)) c.deref.ensures.value (c.in-None.ensures.starts c.args.own c.args.limits) in
    subst (λ (r : Result Tasked StartFault). IfOk c.begin.result (λ task. r ≡ Ok task)) (begun_started c.args.program.now c.args.own c.args.method c.args.arguments.items c.args.limits ok)
    c.begin.ensures.begun

pub returns-in-None-clause-refused : goal.returns-in-None-clause-refused
returns-in-None-clause-refused c =
    let ok : IsOk (started c.args.program.now c.args.own c.args.method c.args.arguments.items c.args.limits) =
    subst (λ (values : List Value). IsOk (started c.args.program.now c.args.own c.args.method values c.args.limits)) c.deref.ensures.value (c.in-None.ensures.starts c.args.own c.args.limits) in
    subst (λ (r : Result Tasked StartFault). IfErr c.begin.result (Refuses r)) (begun_started c.args.program.now c.args.own c.args.method c.args.arguments.items c.args.limits ok)
    c.begin.ensures.refused
