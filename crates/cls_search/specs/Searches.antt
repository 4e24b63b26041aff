-- Searches through classes (JVMS 5.4.3).
use Rattle.std.specs.Prelude.{◌≡◌, ◌<◌, ◌++◌, ℕ, Option, Some, None, List, [], ◌∷◌, option_to_list, slice_get, slice_index_or, Bool, true, false}
use Rattle.std.specs.Option.{option_map_or}
use Rattle.cls_set.specs.declared.class.Class.{Class}
use Rattle.space_ids.specs.declared.ids.ClassId.{ClassId}
use Rattle.cls_set.specs.Subtypes.{IsDirectSupertype}

-- A search through classes for what a class has of its own (JVMS 5.4.3, 5.4.5): the first class has it; else the classes above that one
-- come next, before the classes after it. If no class is left, nothing is found.
pub data Finds {A : Type 0} (above : ClassId → List ClassId) (own : ClassId → Option A) : List ClassId → Option A → Type 0 where
  nothing : Finds above own [] None
  here : (c : ClassId) (rest : List ClassId) (found : A) → own c ≡ Some found → Finds above own (c ∷ rest) (Some found)
  further : (c : ClassId) (rest : List ClassId) (answer : Option A) → own c ≡ None → Finds above own (above c ++ rest) answer → Finds above own (c ∷ rest) answer

-- what stands above a class: its direct superclass
abbrev pub superclass_of : List Class → ClassId → List ClassId
superclass_of classes class = option_map_or (λ (c : Class). option_to_list c.superclass) (slice_get classes class.0) []

-- what stands above a class: its direct superinterfaces as declared, and then its direct superclass
abbrev pub supertypes_of : List Class → ClassId → List ClassId
supertypes_of classes class = option_map_or (λ (c : Class). c.interfaces ++ option_to_list c.superclass) (slice_get classes class.0) []

-- each class has a higher number than its direct supertypes
abbrev pub IsRanking : List Class → (ClassId → ℕ) → Type 0
IsRanking classes rank = (sub sup : ClassId) → IsDirectSupertype classes sub sup → rank sup < rank sub

-- nothing is found from the classes that are marked, by class number
abbrev pub FindNothing : {A : Type 0} → (ClassId → List ClassId) → (ClassId → Option A) → List Bool → Type 0
FindNothing above own marks = (c : ClassId) → slice_index_or marks c.0 false ≡ true → Finds above own (c ∷ []) None
