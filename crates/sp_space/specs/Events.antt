-- What events and steps make of a space that stands at the end of a history. (This project's own.)
use Rattle.std.specs.Prelude.{◌≡◌, ℕ, List, [], ◌∷◌, None}
use Rattle.sp_rules.specs.Classes.{Setting}
use Rattle.sp_rules.specs.Events.{Event, Output}
use Rattle.sp_rules.specs.Refusals.{refusal}
use Rattle.sp_rules.specs.Space.{outputs_of, state_of}
use Rattle.sp_rules.specs.Worlds.{lent_for}
use Rattle.sp_events.specs.FaultNames.{RefusesOrLacks}
use Rattle.sp_events.specs.declared.fault.CoreFault.{CoreFault}
use Rattle.sp_world.specs.Steps.{answers_to, step_at, step_refusal}
use Rattle.sp_space.specs.Spaces.{Stands}
use Rattle.sp_space.specs.declared.parts.Parts.{Parts}

-- An event was not refused, happened, and was answered so.
pub record Happened (g : Setting) (h : List Event) (e : Event) (after : Parts) (outputs : List Output) : Type 0 where
  pub accepted : refusal g (lent_for e) (state_of g h) e ≡ None
  pub answers : outputs ≡ outputs_of g h e
  pub stands : Stands g (e ∷ h) after

-- An event is refused for this, or memory ran out.
abbrev pub IsRefused : Setting → List Event → Event → CoreFault → Type 0
IsRefused g h e fault = RefusesOrLacks (refusal g (lent_for e) (state_of g h) e) fault

-- a history after more events, oldest first
abbrev pub grown : List Event → List Event → List Event
grown h [] = h
grown h (e ∷ es) = grown (e ∷ h) es

-- A task made a step that was not refused: the events of one instruction of it happened, and were answered so.
pub record IsStep (g : Setting) (h : List Event) (id : ℕ) (after : Parts) (outputs : List Output) : Type 0 where
  pub accepted : step_refusal g (state_of g h) id ≡ None
  pub answers : outputs ≡ answers_to g (state_of g h) (step_at (state_of g h) id)
  pub stands : Stands g (grown h (step_at (state_of g h) id)) after

-- A step of a task is refused for this, or memory ran out.
abbrev pub IsStepRefused : Setting → List Event → ℕ → CoreFault → Type 0
IsStepRefused g h id fault = RefusesOrLacks (step_refusal g (state_of g h) id) fault
