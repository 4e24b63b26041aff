use Rattle.vm_step.specs.Subjects.{shown}
use Rattle.vm_step.proofs.Begins.{Begins, found_begins}
use Rattle.vm_step.proofs.task.Task.begin.Goals as goal

pub opening-requires : goal.opening-requires
opening-requires c =
    let begins : Begins c.args.program.now c.args.own c.args.method (shown c.in-Some.found) c.args.values.items c.args.limits =
    found_begins c.linked-linked.result.now c.args.program.now c.args.own c.args.method c.find.result c.in-Some.found c.set.result.now c.refuses_begin.result c.deref.result.now c.args.values.items c.args.limits
    c.linked-linked.ensures.linked c.find.ensures.links c.linked-linked.ensures.sound c.find.ensures.found c.in-Some.is c.set.ensures c.refuses_begin.ensures c.in-None.is c.deref.ensures.value in
    record { few = rw c.deref-2.ensures.value begins.few }

pub invariant_of-result : goal.invariant_of-result
invariant_of-result c =
    let begins : Begins c.args.program.now c.args.own c.args.method (shown c.in-Some.found) c.args.values.items c.args.limits =
    found_begins c.linked-linked.result.now c.args.program.now c.args.own c.args.method c.find.result c.in-Some.found c.set.result.now c.refuses_begin.result c.deref.result.now c.args.values.items c.args.limits
    c.linked-linked.ensures.linked c.find.ensures.links c.linked-linked.ensures.sound c.find.ensures.found c.in-Some.is c.set.ensures c.refuses_begin.ensures c.in-None.is c.deref.ensures.value in
    record {
      thrown = rw c.of.ensures c.thrown.ensures;
      never_stuck = rw (c.of.ensures, c.in_ok-phase.ensures.opens, c.deref-2.ensures.value) begins.never_stuck;
      short = c.in_ok-phase.ensures.short;
    }

pub returns-clause-never_stuck : goal.returns-clause-never_stuck
returns-clause-never_stuck c =
    let begins : Begins c.args.program.now c.args.own c.args.method (shown c.in-Some.found) c.args.values.items c.args.limits =
    found_begins c.linked-linked.result.now c.args.program.now c.args.own c.args.method c.find.result c.in-Some.found c.set.result.now c.refuses_begin.result c.deref.result.now c.args.values.items c.args.limits
    c.linked-linked.ensures.linked c.find.ensures.links c.linked-linked.ensures.sound c.find.ensures.found c.in-Some.is c.set.ensures c.refuses_begin.ensures c.in-None.is c.deref.ensures.value in
    rw (c.in_ok-phase.ensures.opens, c.deref-2.ensures.value) begins.never_stuck

pub returns-clause-within : goal.returns-clause-within
returns-clause-within c =
    let begins : Begins c.args.program.now c.args.own c.args.method (shown c.in-Some.found) c.args.values.items c.args.limits =
    found_begins c.linked-linked.result.now c.args.program.now c.args.own c.args.method c.find.result c.in-Some.found c.set.result.now c.refuses_begin.result c.deref.result.now c.args.values.items c.args.limits
    c.linked-linked.ensures.linked c.find.ensures.links c.linked-linked.ensures.sound c.find.ensures.found c.in-Some.is c.set.ensures c.refuses_begin.ensures c.in-None.is c.deref.ensures.value in
    rw (c.in_ok-phase.ensures.opens, c.deref-2.ensures.value) begins.within

pub returns-clause-within_replies : goal.returns-clause-within_replies
returns-clause-within_replies c =
    let begins : Begins c.args.program.now c.args.own c.args.method (shown c.in-Some.found) c.args.values.items c.args.limits =
    found_begins c.linked-linked.result.now c.args.program.now c.args.own c.args.method c.find.result c.in-Some.found c.set.result.now c.refuses_begin.result c.deref.result.now c.args.values.items c.args.limits
    c.linked-linked.ensures.linked c.find.ensures.links c.linked-linked.ensures.sound c.find.ensures.found c.in-Some.is c.set.ensures c.refuses_begin.ensures c.in-None.is c.deref.ensures.value in
    rw (c.in_ok-phase.ensures.opens, c.deref-2.ensures.value) begins.within_replies
