use Rattle.std.proofs.Common.{map, take}
use Rattle.sp_parked.specs.Parkings.{parked_of}
use Rattle.sp_rules.specs.Classes.{Setting}
use Rattle.sp_rules.specs.Lists.{each}
use Rattle.sp_rules.specs.State.{State}
use Rattle.sp_endings.specs.Passing.{give_up}
use Rattle.sp_living.specs.Livings.{IsLiving}
use Rattle.sp_tasks.specs.Lent.{KeepsLent}
use Rattle.sp_endings.proofs.failing.fail_named.Given as goal

-- each of the frames so far failed
abbrev pub invariant-loop-frame : goal.invariant-loop-frame
invariant-loop-frame w l = record {
  done : (g : Setting) (s : State) → IsLiving g s l.initial.living → w.C.ClassSet.tells l.classes g.classes → IsLiving g (each (give_up g) (map parked_of (take l.frame-index l.frame-items)) s) l.living;
  lent : KeepsLent l.fn.living.tasks l.living.tasks;
}
