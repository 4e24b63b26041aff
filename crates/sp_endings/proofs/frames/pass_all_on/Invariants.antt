use Rattle.std.proofs.Common.{◌≡◌, ◌++◌, map}
use Rattle.sp_parked.specs.Parkings.{parked_of}
use Rattle.sp_rules.specs.Classes.{Setting}
use Rattle.sp_rules.specs.Lists.{each}
use Rattle.sp_rules.specs.State.{State}
use Rattle.sp_store.specs.Stores.{IsAfter}
use Rattle.sp_endings.specs.Passing.{pass_on}
use Rattle.sp_living.specs.Livings.{IsLiving}
use Rattle.sp_tasks.specs.Lent.{KeepsLent}
use Rattle.sp_endings.proofs.frames.pass_all_on.Given as goal

-- each of the frames so far went
abbrev pub invariant-loop-frame : goal.invariant-loop-frame
invariant-loop-frame w l = record {
  whole : l.fn.frames.items ≡ l.yielded ++ l.frame-iterator.rest.items;
  passed : (g : Setting) (s : State) → IsLiving g s l.fn.living → w.C.ClassSet.tells l.classes g.classes → IsAfter g s.store l.store → IsLiving g (each (pass_on g) (map parked_of l.yielded) s) l.living;
  lent : KeepsLent l.fn.living.tasks l.living.tasks;
}
