use Rattle.sp_living.proofs.HandLemmas.{lent-own}
use Rattle.sp_living.proofs.StepLemmas.{now-lent}
use Rattle.sp_living.proofs.living.Living.lend.Goals as goal

pub returns-clause-own : goal.returns-clause-own
returns-clause-own c = lent-own c.args.self.now (record c.args.self.now { tasks = c.lend.new.self }) c.args.id c.lend.result c.lend.ensures.task c.lend.ensures.rows

pub returns-clause-same : goal.returns-clause-same
returns-clause-same c = λ g s a. now-lent g s c.args.self.now c.args.id c.lend.new.self c.lend.ensures.rows a
