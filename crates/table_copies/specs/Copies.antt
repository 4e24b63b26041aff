-- Entries of tables, and copies of them. (This project's own; no rule of a standard.)
use Rattle.std.specs.Prelude.{◌≡◌, List}
use Rattle.std.specs.List.{AllZip}

-- the same keys, in their order, each with a copy of its value
abbrev pub AreCopies : {K V : Type 0} → (V → V → Type 0) → List (K × V) → List (K × V) → Type 0
AreCopies {K} {V} copies = AllZip (λ (entry copy : K × V). (copy.0 ≡ entry.0) × copies entry.1 copy.1)
