use Rattle.std.specs.Prelude.{◌≡◌, true}
use Rattle.sp_book.specs.Passes.{has}
use Rattle.sp_workers.specs.Going.{GoesOn}
use Rattle.sp_workers.proofs.worker.run.Given as goal

-- the task is in hand
abbrev pub invariant-loop : goal.invariant-loop
invariant-loop g l = record {
  hand : has l.lent.id l.pass.hand ≡ true;
  pass : GoesOn l.initial.pass l.pass;
}
