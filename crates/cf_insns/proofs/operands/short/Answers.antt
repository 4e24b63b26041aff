use Rattle.std.proofs.Common.{◌≡◌, ℕ, ◌<◌, List, [], ◌∷◌, length, drop, Err, refl, arith, length-drop}
use Rattle.cf_insns.specs.declared.fault.CodeRule.TheVariants.{Cut}
use Rattle.cf_insns.specs.Operands.{short_of}
use Rattle.cf_insns.proofs.operands.short.Goals as goal

short_of-cut : (bytes : List ℕ) → length bytes < 2 → short_of bytes ≡ Err Cut
short_of-cut [] h = refl
short_of-cut (a ∷ []) h = refl
short_of-cut (a ∷ b ∷ bytes) h = absurd (omega arith)

pub returns-then-saturating_sub-lt2-clause-value : goal.returns-then-saturating_sub-lt2-clause-value
returns-then-saturating_sub-lt2-clause-value c =
    let cut = short_of-cut (drop c.args.at c.args.operands.now) (omega (arith, length-drop c.args.at c.args.operands.now)) in cc
