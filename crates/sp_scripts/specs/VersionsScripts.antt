-- Scripts of spaces of both versions of the frames: what they show, how their roots and lookups end, and what is spent is the same whichever spaces are of version 2.
-- (This project's own worked examples: docs/SCRIPTS.md.)
use Rattle.std.specs.Prelude.{◌≡◌, ℕ, zero, suc, List, [], ◌∷◌, Option, None, length}
use Rattle.sp_rules.specs.Behaviours.{Outcome}
use Rattle.sp_rules.specs.Classes.{Setting}
use Rattle.sp_rules.specs.Worlds.{new_world}
use Rattle.sp_scripts.specs.FuelScripts.{lines_of_two_spaces}
use Rattle.sp_scripts.specs.Programs.{setting_of}
use Rattle.sp_scripts.specs.Scripts.{Line, Shown, Sim, run_lines, seen_of, spent_of, seen_and_spent}
use Rattle.sp_scripts.specs.ThirdSpacesScripts.{lines_of_third_space}

-- spaces of the scripts, each of its version
abbrev pub settings_as : ℕ → List ℕ → List Setting
settings_as n [] = []
settings_as n (version ∷ versions) = record (setting_of (n ∷ [])) { version = version } ∷ settings_as (suc n) versions

-- what is seen of a script of spaces of these versions, and what was spent in it
abbrev pub seen_as : List ℕ → List Line → (Option ℕ × List Shown × List (Option Outcome)) × List ℕ × ℕ
seen_as versions lines = both (run_lines (suc (length versions)) lines (record { world = new_world (settings_as 1 versions); vars = []; shown = []; bad = None }))
  where
    both : Sim → (Option ℕ × List Shown × List (Option Outcome)) × List ℕ × ℕ
    both s = (seen_of s, (spent_of s).0, (spent_of s).1)

-- ---- two spaces, an owner and its client

abbrev pub BothOfVersion2 : Type 0
BothOfVersion2 = seen_as (2 ∷ 2 ∷ []) lines_of_two_spaces ≡ seen_and_spent 2 lines_of_two_spaces

abbrev pub OwnerOfVersion1 : Type 0
OwnerOfVersion1 = seen_as (1 ∷ 2 ∷ []) lines_of_two_spaces ≡ seen_and_spent 2 lines_of_two_spaces

abbrev pub ClientOfVersion1 : Type 0
ClientOfVersion1 = seen_as (2 ∷ 1 ∷ []) lines_of_two_spaces ≡ seen_and_spent 2 lines_of_two_spaces

-- ---- a third space

abbrev pub ThirdOfVersion2 : Type 0
ThirdOfVersion2 = seen_as (1 ∷ 1 ∷ 2 ∷ []) lines_of_third_space ≡ seen_and_spent 3 lines_of_third_space
