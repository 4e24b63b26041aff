-- What several writes do together.
use Rattle.std.proofs.Common.{◌≡◌, ℕ, ◌+◌, List, ◌++◌, take, drop, Option, sym, ap, subst, ◌∙◌}
use Rattle.std.specs.Io.KnownBytes.{Appends}
use Rattle.std.proofs.KnownBytes.{Appends-trans}
use Rattle.std.proofs.Math.Seq.{take-add}

-- a sink that has taken the first bytes, and then takes the first of the rest
pub appends_more : (a b c : Option (List ℕ)) (bytes rest : List ℕ) (taken count : ℕ) → rest ≡ drop taken bytes
    → Appends a b (take taken bytes) → Appends b c (take count rest) → Appends a c (take (taken + count) bytes)
appends_more a b c bytes rest taken count is first next =
    subst (Appends a c) (ap (λ (x : List ℕ). take taken bytes ++ take count x) is ∙ sym (take-add taken count bytes))
    (Appends-trans a b c (take taken bytes) (take count rest) first next)
