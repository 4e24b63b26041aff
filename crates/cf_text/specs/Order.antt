-- The order of demands: by position, and at one position by the rules' numbers. (This project's own.)
use Rattle.std.specs.Prelude.{◌≡◌, ◌<◌, ◌≤◌, ◌⊎◌, ℕ, List, [], ◌∷◌}
use Rattle.std.specs.List.{AllByRecursion}
use Rattle.cf_text.specs.declared.fault.Rule.{Rule}
use Rattle.cf_text.specs.declared.fault.Rule.TheVariants as rules
use Rattle.cf_text.specs.Demands.{Demand}

-- the number of a rule
abbrev pub number_of : Rule → ℕ
number_of rules.Truncated = 1
number_of rules.Magic = 2
number_of rules.Version = 3
number_of rules.Tag = 4
number_of rules.Utf8 = 5
number_of rules.Index = 6
number_of rules.Descriptor = 7
number_of rules.Flags = 8
number_of rules.CodeLength = 9
number_of rules.AttributeLength = 10
number_of rules.Duplicate = 11
number_of rules.Trailing = 12
number_of rules.OutOfProfile = 13
number_of rules.TooLarge = 14

-- one stands at an earlier position, or at the same position, by a rule of no higher number
abbrev pub IsBefore : Demand → Demand → Type 0
IsBefore d e = (d.at < e.at) ⊎ ((d.at ≡ e.at) × (number_of d.rule ≤ number_of e.rule))

-- each stands before all that follow
abbrev pub Rises : List Demand → Type 0
Rises [] = Unit {0}
Rises (d ∷ ds) = AllByRecursion (IsBefore d) ds × Rises ds
