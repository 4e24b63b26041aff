-- What happens as a script is played, and what is shown meanwhile. (This project's own.)
use Rattle.std.specs.Prelude.{◌≡◌, ◌++◌, ◌∷◌, ◌-◌, ◌^◌, [], ℕ, List, Option, Some, slice_get, take}
use Rattle.space_ids.specs.declared.ids.ClassId.{ClassId}
use Rattle.sp_promises.specs.WorldRuns.{RunWorld}
use Rattle.sp_rules.specs.Classes.{Setting}
use Rattle.sp_rules.specs.State.{State}
use Rattle.sp_rules.specs.Worlds.{Space, WorldEvent, new_world, run}
use Rattle.sp_world.specs.Waitings.{AreNew, IsSpaceAt}
use Rattle.sim_shows.specs.Lines.{AreLines, sights_at}

-- An event of the world happens, or the objects of the space of a number are shown, under a name.
pub data Step : Type 0 where
  Happens : (e : WorldEvent) → Step
  Shows : (number : ℕ) (name : List ℕ) → Step

-- the events of steps, of which the newest stands first, oldest first
abbrev pub events_of : List Step → List WorldEvent
events_of [] = []
events_of (Happens e ∷ before) = events_of before ++ e ∷ []
events_of (Shows number name ∷ before) = events_of before

-- A text is what a showing of a space adds, in this state of the world's space of its number: the lines of the objects that stand there, by
-- the rules; the first 2^64 - 1 of them, since a memory holds no more. A space in that state has the names of their classes.
pub record Showing {S : Type 0} (is_space : Setting → State → S → Type 0) (is_named : S → ClassId → List ℕ → Type 0) (there : Option Space) (name text : List ℕ) : Type 0 where
  pub space : S
  pub stands : IsSpaceAt is_space there (Some space)
  pub lines : AreLines (is_named space) name (take (2 ^ 64 - 1) (sights_at there)) text

-- A text is what steps show, of which the newest stands first, each in the world that the events before it have made.
abbrev pub IsShown : {S : Type 0} → (Setting → State → S → Type 0) → (S → ClassId → List ℕ → Type 0) → List Setting → List Step → List ℕ → Type 0
IsShown is_space is_named settings [] text = text ≡ []
IsShown is_space is_named settings (Happens e ∷ before) text = IsShown is_space is_named settings before text
IsShown is_space is_named settings (Shows number name ∷ before) text =
    (earlier lines : List ℕ) × (text ≡ earlier ++ lines) × IsShown is_space is_named settings before earlier
    × Showing is_space is_named (slice_get (run (new_world settings) (events_of before)).spaces number) name lines

-- the same, whatever the settings of the spaces are of which the world began
abbrev pub IsTextOf : {S : Type 0} → (Setting → State → S → Type 0) → (S → ClassId → List ℕ → Type 0) → List S → List Step → List ℕ → Type 0
IsTextOf is_space is_named spaces steps text = (settings : List Setting) → AreNew is_space settings spaces → IsShown is_space is_named settings steps text

-- a world as a script plays it: the steps, of which the newest stands first, what they have shown, and the run of the world
pub record ShownWorld (S : Type 0) : Type 0 where
  pub steps : List Step
  pub text : List ℕ
  pub run : RunWorld S
