use Rattle.std.proofs.Common.{sym, ap}
use Rattle.vm_step.specs.Task.{pause_at}
use Rattle.vm_step.proofs.Runs.{run-add, run_stays}
use Rattle.vm_step.proofs.laws.pieces_make_a_run.Goals as goal

pub returns : goal.returns
returns c = record {
  state = λ links some others state. sym (run-add links some others state);
  answer = λ links some others state. ap pause_at (sym (run-add links some others state));
  over = run_stays;
}
