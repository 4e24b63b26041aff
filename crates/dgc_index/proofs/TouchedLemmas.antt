-- Indexes that rise by one.
use Rattle.std.proofs.Common.{◌≡◌, ℕ, ◌<◌, ◌∙◌, List, length, get_or, Contains, arith}
use Rattle.std.proofs.lemmas.Grind.{get_or_default_zero}

-- indexes that are all there
pub counted-indexes : (indexes : List ℕ) (count : ℕ) → length indexes ≡ count → ((k : ℕ) → k < count → get_or indexes k 0 ≡ k) → (at : ℕ) → at < count → Contains indexes at
counted-indexes indexes count len each at below =
    let within : at < length indexes = omega arith in
    (at, within, get_or_default_zero indexes at at within ∙ each at below)
