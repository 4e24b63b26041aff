use Rattle.vm_code.proofs.step.act.Goals as goal

pub returns-in-IfSame-clause-does : goal.returns-in-IfSame-clause-does
returns-in-IfSame-clause-does c = rw c.in-IfSame.is c.compare.ensures.does
