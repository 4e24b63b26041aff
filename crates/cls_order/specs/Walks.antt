-- What a walk from a class up through its supertypes has met, and in which order. (This project's own.)
use Rattle.std.specs.Prelude.{◌≡◌, ◌<◌, ◌↔◌, ℕ, Bool, true, false, Option, Some, None, List, [], ◌∷◌, ◌++◌, All, IsTrue, set, length, count_by, cond, slice_get, slice_index_or, option_to_list}
use Rattle.cls_order.specs.declared.class.Class.{Class}
use Rattle.space_ids.specs.declared.ids.ClassId.{ClassId}
use Rattle.cls_order.specs.declared.walking.Walk.{Walk}
use Rattle.cls_order.specs.Subtypes.{IsProperSubtype}

-- ---- what a walk has met

-- the classes that a walk has met: whether it has met each, by number, and all that it has, in their order
abbrev pub Met : Type 0
Met = List Bool × List ClassId

abbrev pub met_by : Walk → Met
met_by walk = (walk.met.items, walk.order.items)

-- whether a class was met
abbrev pub WasMet : Met → ClassId → Type 0
WasMet met class = IsTrue (slice_index_or met.0 class.0 false)

-- one more class is met
abbrev pub meet_one : Met → ClassId → Met
meet_one met class = cond (slice_index_or met.0 class.0 false) met (set met.0 class.0 true, met.1 ++ class ∷ [])

abbrev pub meet_all : Met → List ClassId → Met
meet_all met [] = met
meet_all met (class ∷ classes) = meet_all (meet_one met class) classes

-- the direct supertypes in the order in which a walk meets them
abbrev pub ups : Class → List ClassId
ups c = c.interfaces ++ option_to_list c.superclass

abbrev pub ups_of : Option Class → List ClassId
ups_of None = []
ups_of (Some c) = ups c

abbrev pub ups_at : List Class → ClassId → List ClassId
ups_at classes class = ups_of (slice_get classes class.0)

-- the direct supertypes stand in the list
abbrev pub AreWithin : ℕ → List Class → Type 0
AreWithin n classes = All (λ c. All (λ s. s.0 < n) (ups c)) classes

-- a walk from a class that came to its end met all its proper supertypes, each once
pub record IsWalked (classes : List Class) (from : ClassId) (walk : Walk) : Type 0 where
  pub long : length walk.met.items ≡ length classes
  pub met : (sup : ClassId) → WasMet (met_by walk) sup ↔ IsProperSubtype classes from sup
  pub count : length walk.order.items ≡ count_by (λ b. b) walk.met.items

-- a class is its own supertype
abbrev pub IsOwn : List Class → ℕ → Type 0
IsOwn classes k = IsProperSubtype classes (record { 0 = k }) (record { 0 = k })

-- a class is its own supertype, and none before it is
pub record IsFirstOwn (classes : List Class) (k : ℕ) : Type 0 where
  pub within : k < length classes
  pub own : IsOwn classes k
  pub first : (j : ℕ) → j < k → ¬ IsOwn classes j
