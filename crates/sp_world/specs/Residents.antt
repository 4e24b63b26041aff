-- The spaces of a world, each with what it answered. (This project's own.)
use Rattle.std.specs.Prelude.{◌≡◌, ℕ, List, [], ◌∷◌, Option, None, Some, map, slice_get}
use Rattle.std.specs.Global.{Vec}
use Rattle.std.specs.List.{flat_map}
use Rattle.sp_rules.specs.Classes.{Setting}
use Rattle.sp_rules.specs.Events.{Event}
use Rattle.sp_rules.specs.Events as events
use Rattle.sp_rules.specs.Refusals.{Refusal}
use Rattle.sp_rules.specs.State.{State}
use Rattle.sp_rules.specs.Worlds as rules
use Rattle.sp_outputs.specs.Notes.{output_of}
use Rattle.sp_outputs.specs.declared.output.Output.{Output}
use Rattle.sp_world.specs.Steps.{answers_to, refusal_of, step_at, step_refusal}
use Rattle.sp_world.specs.declared.resident.Resident.{Resident}

-- a row of outputs, as the rules name them
abbrev pub told_in : Vec Output → List events.Output
told_in row = map output_of row.items

-- all outputs of these rows, in their order
abbrev pub told : List (Vec Output) → List events.Output
told rows = flat_map told_in rows

-- A space of a world is in its state, and answered what is kept.
pub record IsResident {S : Type 0} (is_space : Setting → State → S → Type 0) (s : rules.Space) (r : Resident S) : Type 0 where
  pub space : is_space s.setting s.state r.space
  pub outputs : s.outputs ≡ told r.answers.items

-- There are as many, and each is that of its number.
abbrev pub AreResidents : {S : Type 0} → (Setting → State → S → Type 0) → List rules.Space → List (Resident S) → Type 0
AreResidents is_space [] [] = Unit {0}
AreResidents is_space [] (r ∷ rs) = ⊥
AreResidents is_space (s ∷ ss) [] = ⊥
AreResidents is_space (s ∷ ss) (r ∷ rs) = IsResident is_space s r × AreResidents is_space ss rs

-- ---- events of one space

-- a space of a world after more events, oldest first
abbrev pub grown_all : List Event → rules.Space → rules.Space
grown_all [] s = s
grown_all (e ∷ es) s = grown_all es (rules.grown e s)

abbrev pub refused_event : Event → rules.Space → Option Refusal
refused_event e s = refusal_of s.setting s.state (e ∷ [])

abbrev pub one_event : Event → rules.Space → List Event
one_event e s = e ∷ []

abbrev pub refused_step : ℕ → rules.Space → Option Refusal
refused_step task s = step_refusal s.setting s.state task

abbrev pub step_events_of : ℕ → rules.Space → List Event
step_events_of task s = step_at s.state task

-- the outputs of one row that is kept
abbrev pub row_at : Option (Vec Output) → List events.Output
row_at None = []
row_at (Some row) = told_in row

abbrev pub row_in : {S : Type 0} → ℕ → Resident S → List events.Output
row_in n r = row_at (slice_get r.answers.items n)

-- A space took these events, which it does not refuse, and answered with the row of this number.
pub record TakesRow {S : Type 0} (is_space : Setting → State → S → Type 0) (s : rules.Space) (why : Option Refusal) (es : List Event) (row : ℕ) (after : Resident S) : Type 0 where
  pub accepted : why ≡ None
  pub resident : IsResident is_space (grown_all es s) after
  pub answers : row_in row after ≡ answers_to s.setting s.state es
