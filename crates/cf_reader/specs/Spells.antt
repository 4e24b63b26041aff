-- What it means that bytes spell a class file (JVMS 4.1 to 4.8), that a class file is in profile, and that bytes are at fault.
use Rattle.std.specs.Prelude.{◌≡◌, ℕ, Bool, true, false, ◌⊎◌, List, [], ◌∷◌}
use Rattle.std.specs.List.{AllByRecursion}
use Rattle.cf_text.specs.declared.fault.Rule.{Rule}
use Rattle.cf_text.specs.declared.fault.Rule.TheVariants as rules
use Rattle.cf_text.specs.declared.fault.ReadFault.{ReadFault}
use Rattle.cf_text.specs.declared.fault.ReadFault.TheVariants.{Broken, Memory}
use Rattle.cf_text.specs.Demands.{Demand}
use Rattle.cf_reader.specs.declared.class_file.ClassFile.{ClassFile}
use Rattle.cf_layout.specs.declared.items.Layout.{Layout}
use Rattle.cf_layout.specs.CodeFormat.{AreInsides, Insides}
use Rattle.cf_reader.specs.Checks.{demands}
use Rattle.cf_layout.specs.FileFormat.{LaysOut, file_format}
use Rattle.cf_reader.specs.Says.{SaysClass}

-- the rule of the profile, among those of the standard
abbrev pub is_profile : Rule → Bool
is_profile rules.OutOfProfile = true
is_profile rules.Truncated = false
is_profile rules.Magic = false
is_profile rules.Version = false
is_profile rules.Tag = false
is_profile rules.Utf8 = false
is_profile rules.Index = false
is_profile rules.Descriptor = false
is_profile rules.Flags = false
is_profile rules.CodeLength = false
is_profile rules.AttributeLength = false
is_profile rules.Duplicate = false
is_profile rules.Trailing = false
is_profile rules.TooLarge = false

-- the demands of the standard hold, and those of the profile
abbrev pub AreSound : List Demand → Type 0
AreSound = AllByRecursion (λ d. is_profile d.rule ≡ false → d.holds ≡ true)

abbrev pub AreInProfile : List Demand → Type 0
AreInProfile = AllByRecursion (λ d. is_profile d.rule ≡ true → d.holds ≡ true)

-- these are demanded of bytes that are laid out so
abbrev pub AreDemands : List ℕ → Layout → List Demand → Type 0
AreDemands bytes layout asked = (insides : Insides) × AreInsides bytes insides × (asked ≡ demands insides layout)

-- The bytes spell a class file by a layout: they lay it out, what the standard demands of it holds, and it says the
-- class file.
pub record Spells (bytes : List ℕ) (layout : Layout) (class : ClassFile) : Type 0 where
  pub laid_out : LaysOut bytes layout
  pub asked : List Demand
  pub demanded : AreDemands bytes layout asked
  pub sound : AreSound asked
  pub says : SaysClass bytes layout class

-- no rule of the profile is broken
abbrev pub IsInProfile : List ℕ → Layout → Type 0
IsInProfile bytes layout = (asked : List Demand) × AreDemands bytes layout asked × AreInProfile asked

-- the first of the demands that does not hold is of this rule, at this position
unfoldable pub Breaks : List Demand → Rule → ℕ → Type 0
Breaks [] rule at = ⊥
Breaks (d ∷ ds) rule at = ((d.holds ≡ false) × (rule ≡ d.rule) × (at ≡ d.at)) ⊎ ((d.holds ≡ true) × Breaks ds rule at)

-- how bytes are at fault, one constructor a way
pub data WayToFail (bytes : List ℕ) (rule : Rule) (at : ℕ) : Type 0 where
  -- they lay out no file: what stands before the position is laid out, and what stands there is not
  no_layout : (file_format bytes).Fails 0 rule at → WayToFail bytes rule at
  -- they lay out a file, and of what is demanded of it this is the first that does not hold
  no_demand : (layout : Layout) (asked : List Demand) → LaysOut bytes layout → AreDemands bytes layout asked → Breaks asked rule at → WayToFail bytes rule at

-- a fault names a rule that fails at its position; out of memory says nothing
abbrev pub IsAtFault : List ℕ → ReadFault → Type 0
IsAtFault bytes (Broken rule at) = WayToFail bytes rule at
IsAtFault bytes Memory = Unit {0}
