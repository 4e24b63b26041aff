use Rattle.std.proofs.Common.{take}
use Rattle.sp_rules.specs.Classes.{Setting}
use Rattle.sp_rules.specs.Lists.{each}
use Rattle.sp_rules.specs.State.{State}
use Rattle.sp_endings.specs.Ends.{fail_out}
use Rattle.sp_living.specs.Livings.{IsLiving}
use Rattle.sp_tasks.specs.Lent.{KeepsLent}
use Rattle.sp_endings.proofs.ends.fail_groups.Given as goal

-- each of the groups so far failed
abbrev pub invariant-loop-told : goal.invariant-loop-told
invariant-loop-told w l = record {
  done : (g : Setting) (s : State) → IsLiving g s l.fn.living → w.C.ClassSet.tells l.classes g.classes → IsLiving g (each (fail_out g) (take l.told-index l.groups) s) l.living;
  lent : KeepsLent l.fn.living.tasks l.living.tasks;
}
