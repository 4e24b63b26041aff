use Rattle.sp_workers.specs.Going.{GoesOn}
use Rattle.sp_workers.proofs.worker.work.Given as goal

-- the pass went on
abbrev pub invariant-loop : goal.invariant-loop
invariant-loop g l = GoesOn l.initial.pass l.pass
