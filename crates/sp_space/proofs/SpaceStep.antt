-- Spaces that are in a state, and steps as the world asks for them.
use Rattle.std.proofs.Common.{◌≡◌, ℕ, List, [], ◌∷◌, refl, sym, ap, subst, ◌∙◌}
use Rattle.std.specs.Prelude.{None}
use Rattle.sp_events.specs.FaultNames.{RefusesOrLacks}
use Rattle.sp_events.specs.declared.fault.CoreFault.{CoreFault}
use Rattle.sp_rules.specs.Classes.{Setting}
use Rattle.sp_rules.specs.Events.{Event, Output}
use Rattle.sp_rules.specs.Space.{on, state_of}
use Rattle.sp_rules.specs.State.{State}
use Rattle.sp_world.specs.Steps.{answers_to, state_after, step_at, step_refusal}
use Rattle.sp_space.specs.Events.{IsStep, IsStepRefused, grown}
use Rattle.sp_space.specs.Spaces.{IsFree, IsResting, IsSpace, Stands}
use Rattle.sp_space.specs.declared.parts.Parts.{Parts}

-- ---- rest

pub resting : (g : Setting) (s : State) (space : Parts) → IsSpace g s space → IsResting space
resting g s space is = record { known = record { setting = g; history = is.history; is = is.stands }; free = is.free }

pub rests-at : (g : Setting) (h : List Event) (space : Parts) → Stands g h space → IsFree space.core → IsResting space
rests-at g h space stands free = record { known = record { setting = g; history = h; is = stands }; free = free }

-- the state in which a space rests
pub at-rest : (space : Parts) (r : IsResting space) → IsSpace r.known.setting (state_of r.known.setting r.known.history) space
at-rest space r = record { history = r.known.history; leaves = refl; stands = r.known.is; free = r.free }

-- ---- steps

after-grown : (g : Setting) (h es : List Event) → state_after g (state_of g h) es ≡ state_of g (grown h es)
unfolding state_of
after-grown g h [] = refl
after-grown g h (e ∷ es) = after-grown g (e ∷ h) es

pub step-space : (g : Setting) (s : State) (space after : Parts) (id : ℕ) (outputs : List Output) → (is : IsSpace g s space) → IsStep g is.history id after outputs → IsFree after.core → IsSpace g (state_after g s (step_at s id)) after
step-space g s space after id outputs is step free = record {
  history = grown is.history (step_at (state_of g is.history) id);
  leaves = ap (λ (s : State). state_after g s (step_at s id)) is.leaves ∙ after-grown g is.history (step_at (state_of g is.history) id);
  stands = step.stands;
  free = free;
}

pub step-accepted : (g : Setting) (s : State) (space after : Parts) (id : ℕ) (outputs : List Output) → (is : IsSpace g s space) → IsStep g is.history id after outputs → step_refusal g s id ≡ None
step-accepted g s space after id outputs is step = subst (λ (s : State). step_refusal g s id ≡ None) (sym is.leaves) step.accepted

pub step-answers : (g : Setting) (s : State) (space after : Parts) (id : ℕ) (outputs : List Output) → (is : IsSpace g s space) → IsStep g is.history id after outputs → outputs ≡ answers_to g s (step_at s id)
step-answers g s space after id outputs is step = subst (λ (s : State). outputs ≡ answers_to g s (step_at s id)) (sym is.leaves) step.answers

pub step-refused : (g : Setting) (s : State) (space : Parts) (id : ℕ) (fault : CoreFault) → (is : IsSpace g s space) → IsStepRefused g is.history id fault → RefusesOrLacks (step_refusal g s id) fault
step-refused g s space id fault is refused = subst (λ (s : State). RefusesOrLacks (step_refusal g s id) fault) (sym is.leaves) refused

pub step-same : (g : Setting) (s : State) (space after : Parts) → (is : IsSpace g s space) → Stands g is.history after → IsFree after.core → IsSpace g s after
step-same g s space after is stands free = record { history = is.history; leaves = is.leaves; stands = stands; free = free }
