-- What an event makes of both states.
use Rattle.std.proofs.Common.{◌≡◌, ℕ, Bool, true, Option, None, refl, sym, ap, subst, ◌∙◌}
use Rattle.std.specs.Prelude.{IfSome}
use Rattle.sp_rules.specs.Behaviours.{Op}
use Rattle.sp_rules.specs.Classes.{Setting}
use Rattle.sp_rules.specs.Events.{Event, Committed, Finished, Parked}
use Rattle.sp_rules.specs.LivingTasks.{commit}
use Rattle.sp_rules.specs.Space.{answers_outputs, on}
use Rattle.sp_rules.specs.State.{State}
use Rattle.sp_tasks.specs.Lent.{KeepsLent, is_lent_in}
use Rattle.sp_tasks.specs.Rows.{Hand}
use Rattle.sp_state.specs.Spaces.{IsAtRest, IsSpace}
use Rattle.sp_state.specs.declared.space_state.SpaceState.{SpaceState}
use Rattle.sp_core.specs.Cores.{IsCore}
use Rattle.sp_core.specs.Hands.{IsSecond}
use Rattle.sp_core.specs.declared.space_core.SpaceCore.{SpaceCore}
use Rattle.sp_core.proofs.LentLemmas.{IsTurned, after-turn}
use Rattle.sp_core.proofs.OpLemmas.{on-commit}
use Rattle.sp_core.proofs.RestLemmas.{answer-rest}
use Rattle.sp_core.proofs.TwinLemmas.{some-both, taken-out, with-states}

-- a state after an equation between states
pub space-is : (g : Setting) (s t : State) (x : SpaceState) → t ≡ s → IsSpace g s x → IsSpace g t x
space-is g s t x same is = subst (λ (u : State). IsSpace g u x) (sym same) is

-- ---- an event that answers

-- It happened to the second state, which is the first now, and to the first, if memory lasted.
pub advanced-to : (turn : ℕ → Bool → Bool) (g : Setting) (s t : State) (core mid : SpaceCore) (second last now next : SpaceState) (spare : Option SpaceState) → IsCore g s core → mid ≡ record core { spare = None }
    → last ≡ mid.state → now ≡ next → KeepsLent core.state.living.tasks second.living.tasks → IsSpace g t next → IsTurned turn second next → IfSome spare (λ space. IsSpace g s last → IsAtRest s → IsSpace g t space)
    → IfSome spare (IsTurned turn last) → IsAtRest t → IsCore g t (record mid { state = now; spare = spare })
advanced-to turn g s t core mid second last now next spare is out old there alike here turned told follows rest =
    let m = taken-out g s core mid out is in
    let first : last ≡ core.state = old ∙ ap (λ (c : SpaceCore). c.state) out in
    with-states g s t mid now spare m (subst (λ (x : SpaceState). IsSpace g t x) (sym there) here)
    (some-both spare (λ space. IsSpace g s last → IsAtRest s → IsSpace g t space) (IsTurned turn last) (IsSecond g t now) (λ space there-too turned-too. record {
      state = there-too (subst (λ (x : SpaceState). IsSpace g s x) (sym old) m.state) m.rest;
      lent = record { lent = λ id. turned-too.lent id ∙ ap (λ (x : SpaceState). turn id (is_lent_in id x.living.tasks)) first ∙ sym (after-turn turn core second now next alike there turned id) };
    }) told follows) rest

pub advanced : (turn : ℕ → Bool → Bool) (g : Setting) (s : State) (e : Event) (core mid : SpaceCore) (second last now next : SpaceState) (spare : Option SpaceState) → answers_outputs e ≡ true → IsCore g s core → mid ≡ record core { spare = None }
    → last ≡ mid.state → now ≡ next → KeepsLent core.state.living.tasks second.living.tasks → IsSpace g (on g e s).0 next → IsTurned turn second next → IfSome spare (λ space. IsSpace g s last → IsAtRest s → IsSpace g (on g e s).0 space)
    → IfSome spare (IsTurned turn last) → IsCore g (on g e s).0 (record mid { state = now; spare = spare })
advanced turn g s e core mid second last now next spare answers is out old there alike here turned told follows =
    advanced-to turn g s (on g e s).0 core mid second last now next spare is out old there alike here turned told follows (answer-rest g e s answers)

-- ---- commits

-- what is done to the second state, whose task in hand is the twin
pub committed-at : (g : Setting) (s : State) (op : Op) (hand twin : Hand) (x : SpaceState) → twin.id ≡ hand.id → twin.made ≡ hand.made → IsSpace g (commit g twin.id twin.made op s) x → IsSpace g (on g (Committed hand.id hand.made op) s).0 x
committed-at g s op hand twin x id made is =
    space-is g (commit g hand.id hand.made op s) (on g (Committed hand.id hand.made op) s).0 x (on-commit g s hand.id hand.made op)
    (subst (λ (k : ℕ). IsSpace g (commit g hand.id k op s) x) made (subst (λ (n : ℕ). IsSpace g (commit g n twin.made op s) x) id is))

-- ---- the twin's event is the task's

pub finished-same : (g : Setting) (s : State) (twin hand : Hand) → twin.id ≡ hand.id → twin.made ≡ hand.made → on g (Finished twin.id twin.made) s ≡ on g (Finished hand.id hand.made) s
finished-same g s twin hand id made = λ j. on g (Finished (id j) (made j)) s

pub parked-same : (g : Setting) (s : State) (twin hand : Hand) → twin.id ≡ hand.id → twin.made ≡ hand.made → on g (Parked twin.id twin.made) s ≡ on g (Parked hand.id hand.made) s
parked-same g s twin hand id made = λ j. on g (Parked (id j) (made j)) s
