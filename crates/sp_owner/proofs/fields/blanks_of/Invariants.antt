use Rattle.std.proofs.Common.{◌≡◌, map}
use Rattle.sp_rules.specs.Classes.{Classes, blank, field_kind}
use Rattle.sp_rules.specs.Lists.{numbers_below}
use Rattle.sp_owner.proofs.fields.blanks_of.Given as goal

-- the values so far
abbrev pub invariant-loop-slot : goal.invariant-loop-slot
invariant-loop-slot g l =
    (c : Classes) → g.C.ClassSet.tells l.classes c → l.values.items ≡ map (λ slot. blank (field_kind c l.class slot)) (numbers_below l.slot)
