use Rattle.std.proofs.Common.{◌≡◌, take}
use Rattle.sp_rules.specs.Classes.{Setting}
use Rattle.sp_rules.specs.Holders.{drop}
use Rattle.sp_rules.specs.State.{State}
use Rattle.sp_living.specs.Livings.{IsLiving}
use Rattle.sp_living.proofs.living.Living.drop_holders.Given as goal

-- each of the foreign references so far has lost a holder
abbrev pub invariant-loop-reference : goal.invariant-loop-reference
invariant-loop-reference l = ((g : Setting) (s : State) → IsLiving g s l.initial.self → IsLiving g (drop g (take l.reference-index l.references) s) l.self) × (l.self.tasks ≡ l.initial.self.tasks)
