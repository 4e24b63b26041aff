use Rattle.std.proofs.Common.{take}
use Rattle.dgc_client.specs.Table.{references_at}
use Rattle.sp_rules.specs.Classes.{Setting}
use Rattle.sp_rules.specs.Endings.{fail_dirty}
use Rattle.sp_rules.specs.Lists.{each}
use Rattle.sp_rules.specs.State.{State}
use Rattle.sp_living.specs.Livings.{IsLiving}
use Rattle.sp_tasks.specs.Lent.{KeepsLent}
use Rattle.sp_endings.proofs.failing.fail_dirty_calls.Given as goal

-- the dirty call of each of the references so far failed
abbrev pub invariant-loop-id : goal.invariant-loop-id
invariant-loop-id w l = record {
  done : (g : Setting) (s : State) → IsLiving g s l.fn.living → w.C.ClassSet.tells l.classes g.classes → IsLiving g (each (fail_dirty g l.call) (references_at l.group.peer (take l.id-index l.id-items)) s) l.living;
  lent : KeepsLent l.fn.living.tasks l.living.tasks;
}
