use Rattle.std.proofs.Common.{take}
use Rattle.sp_rules.specs.Classes.{Setting}
use Rattle.sp_rules.specs.Lists.{each}
use Rattle.sp_rules.specs.State.{State}
use Rattle.sp_endings.specs.Ends.{end_call}
use Rattle.sp_living.specs.Livings.{IsLiving}
use Rattle.sp_tasks.specs.Lent.{KeepsLent}
use Rattle.sp_endings.proofs.ends.end_calls.Given as goal

-- each of the calls and lookups so far ended
abbrev pub invariant-loop-call : goal.invariant-loop-call
invariant-loop-call l = record {
  done : (g : Setting) (s : State) → IsLiving g s l.fn.living → IsLiving g (each (end_call g l.thrown) (take l.call-index l.calls) s) l.living;
  lent : KeepsLent l.fn.living.tasks l.living.tasks;
}
