use Rattle.vm_act.proofs.machine.Machine.pop_receiver.Goals as goal

pub returns-clause-does : goal.returns-clause-does
returns-clause-does c = rw c.pop.ensures c.push_result.ensures.does
