-- The test on keys says whether they rise.
use Rattle.std.proofs.Common.{◌≡◌, Bool, true, false, ◌&&◌, int_lt, List, [], ◌∷◌, refl, arith}
use Rattle.std.proofs.lemmas.Int.{ints}
use Rattle.cf_insns.specs.declared.insn.SwitchCase.{SwitchCase}
use Rattle.cf_insns.specs.Reading.{keys_rise}
use Rattle.cf_insns.specs.Spelling.{KeysRise}

pub keys_again : (cases : List SwitchCase) → KeysRise cases → keys_rise cases ≡ true
keys_again [] rise = refl
keys_again (one ∷ []) rise = refl
keys_again (one ∷ other ∷ cases) rise =
    let above = rise.0 in
    let first : int_lt one.key other.key ≡ true = grind (arith, ints) in
    rw first (keys_again (other ∷ cases) rise.1)

pub both_true : (one other : Bool) → one && other ≡ true → (one ≡ true) × (other ≡ true)
both_true true other is = (refl, is)
both_true false other is = absurd (cc)

pub keys_told : (cases : List SwitchCase) → keys_rise cases ≡ true → KeysRise cases
keys_told [] is = tt
keys_told (one ∷ []) is = tt
keys_told (one ∷ other ∷ cases) is =
    let parts = both_true (int_lt one.key other.key) (keys_rise (other ∷ cases)) is in
    let test = parts.0 in
    (grind (arith, ints), keys_told (other ∷ cases) parts.1)
