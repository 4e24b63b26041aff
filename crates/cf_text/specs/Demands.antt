-- What is demanded of a file whose layout is known, in order: the first demand that does not hold is the fault. (This project's own.)
use Rattle.std.specs.Prelude.{ℕ, ◌+◌, Bool, true, false, List, [], ◌∷◌, ◌++◌, Option, Some, None, Result, Ok, Err, if◌then◌else◌}
use Rattle.cf_text.specs.declared.fault.Rule.{Rule}
use Rattle.cf_text.specs.declared.fault.ReadFault.{ReadFault}
use Rattle.cf_text.specs.declared.fault.ReadFault.TheVariants.{Broken, Memory}

-- the item at this position keeps this rule
pub record Demand : Type 0 where
  pub at : ℕ
  pub rule : Rule
  pub holds : Bool

-- the first demand that does not hold, as a fault
unfoldable pub verdict : List Demand → Result (Unit {0}) ReadFault
verdict [] = Ok tt
verdict (demand ∷ demands) = if demand.holds then verdict demands else Err (Broken demand.rule demand.at)

-- a test of a value; it holds if there is none
abbrev pub where_some : {A : Type 0} → (A → Bool) → Option A → Bool
where_some test (Some x) = test x
where_some test None = true

-- the demands of each item of a list, by its index, from an index on
unfoldable pub of_each : {A : Type 0} → (ℕ → A → List Demand) → ℕ → List A → List Demand
of_each demands index [] = []
of_each demands index (item ∷ items) = demands index item ++ of_each demands (index + 1) items

-- the demands of a value that a look-up may find
abbrev pub of_some : {A : Type 0} → Option A → (A → List Demand) → List Demand
of_some (Some x) demands = demands x
of_some None demands = []

-- the demands of a value that is read: that it can be read, and its own
abbrev pub of_read : {A : Type 0} → Result A ReadFault → (A → List Demand) → List Demand
of_read (Ok x) demands = demands x
of_read (Err (Broken rule at)) demands = record { at = at; rule = rule; holds = false } ∷ []
of_read (Err Memory) demands = []
