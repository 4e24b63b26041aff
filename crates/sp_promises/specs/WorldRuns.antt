-- When a value stands for the world that events have made of new spaces, of which it keeps the last outputs alone. (This project's own.)
use Rattle.std.specs.Prelude.{◌≡◌, All, Bool, List, [], ◌∷◌, ◌++◌}
use Rattle.sp_rules.specs.Classes.{Setting}
use Rattle.sp_rules.specs.Events.{Output}
use Rattle.sp_rules.specs.State.{State, opening}
use Rattle.sp_rules.specs.Worlds as rules
use Rattle.sp_rules.specs.Worlds.{new_world}
use Rattle.sp_world.specs.Waitings.{AreNew, IsWorld}
use Rattle.sp_world.specs.declared.world.World.{World}

-- the same space, of whose outputs only the last are kept
pub record IsLate (whole kept : rules.Space) : Type 0 where
  pub setting : kept.setting ≡ whole.setting
  pub history : kept.history ≡ whole.history
  pub state : kept.state ≡ whole.state
  pub before : List Output
  pub outputs : whole.outputs ≡ before ++ kept.outputs

-- There are as many, and each is that of its number.
abbrev pub AreLate : List rules.Space → List rules.Space → Type 0
AreLate [] [] = Unit {0}
AreLate [] (s ∷ ss) = ⊥
AreLate (s ∷ ss) [] = ⊥
AreLate (s ∷ ss) (t ∷ ts) = IsLate s t × AreLate ss ts

-- the same world, of whose spaces' outputs only the last are kept
pub record IsSameWorld (whole kept : rules.World) : Type 0 where
  pub spaces : AreLate whole.spaces kept.spaces
  pub pipes : kept.pipes ≡ whole.pipes
  pub asked : kept.asked ≡ whole.asked
  pub refused : kept.refused ≡ whole.refused

-- A value stands for a world of the rules, of whose outputs it keeps the last.
pub record StandsFor {S : Type 0} (is_space : Setting → State → S → Type 0) (whole : rules.World) (world : World S) : Type 0 where
  pub kept : rules.World
  pub same : IsSameWorld whole kept
  pub stands : IsWorld is_space kept world

-- a space of some setting, to which nothing has happened
abbrev pub IsNew : {S : Type 0} → (Setting → State → S → Type 0) → S → Type 0
IsNew is_space space = (g : Setting) × is_space g opening space

-- A value stands for the world that the events made of these spaces, oldest first: nothing had happened to them, so they have settings, and it
-- stands for what the rules make of worlds of such settings.
pub record IsRun {S : Type 0} (is_space : Setting → State → S → Type 0) (spaces : List S) (events : List rules.WorldEvent) (world : World S) : Type 0 where
  pub new : All (IsNew is_space) spaces
  pub stands : (settings : List Setting) → AreNew is_space settings spaces → StandsFor is_space (rules.run (new_world settings) events) world

-- a run: the spaces of which its world began, its events, oldest first, and whether nothing is still to be put into the queues
pub record RunWorld (S : Type 0) : Type 0 where
  pub spaces : List S
  pub events : List rules.WorldEvent
  pub settled : Bool
