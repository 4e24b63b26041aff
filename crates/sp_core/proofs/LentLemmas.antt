-- Which tasks a core lends after an event that happened to both of its states.
use Rattle.std.proofs.Common.{◌≡◌, ℕ, Bool, Option, refl, sym, ap, ◌∙◌}
use Rattle.std.specs.Prelude.{not, ◌==◌, ◌&&◌, Result, Ok, Err, OnOk, IfSome}
use Rattle.sp_rules.specs.Classes.{Setting}
use Rattle.sp_rules.specs.State.{State}
use Rattle.sp_tasks.specs.Lent.{KeepsLent, LendsNoMore, is_lent_in}
use Rattle.sp_state.specs.declared.space_state.SpaceState.{SpaceState}
use Rattle.sp_core.specs.Cores.{is_lent}
use Rattle.sp_core.specs.Hands.{IsSecond}
use Rattle.sp_core.specs.declared.space_core.SpaceCore.{SpaceCore}

-- Whether a task is lent afterwards follows from whether it was.
pub record IsTurned (turn : ℕ → Bool → Bool) (old new : SpaceState) : Type 0 where
  pub lent : (id : ℕ) → is_lent_in id new.living.tasks ≡ turn id (is_lent_in id old.living.tasks)

-- each as before
abbrev pub stays : ℕ → Bool → Bool
stays id lent = lent

-- one is not lent any more
abbrev pub but : ℕ → ℕ → Bool → Bool
but task id lent = not (id == task) && lent

pub kept : (old new : SpaceState) → KeepsLent old.living.tasks new.living.tasks → IsTurned stays old new
kept old new is = record { lent = is.lent }

pub no-more : (task twin : ℕ) (old new : SpaceState) → twin ≡ task → LendsNoMore twin old.living.tasks new.living.tasks → IsTurned (but task) old new
no-more task twin old new same is = record { lent = λ id. is.lent id ∙ ap (λ n. not (id == n) && is_lent_in id old.living.tasks) same }

-- It happened to the second state, which is the first now.
pub after-turn : (turn : ℕ → Bool → Bool) (core : SpaceCore) (second now next : SpaceState) → KeepsLent core.state.living.tasks second.living.tasks → now ≡ next → IsTurned turn second next
    → (id : ℕ) → is_lent_in id now.living.tasks ≡ turn id (is_lent core id)
after-turn turn core second now next alike there turned id =
    ap (λ (x : SpaceState). is_lent_in id x.living.tasks) there ∙ turned.lent id ∙ ap (turn id) (alike.lent id)

pub lent-after : (turn : ℕ → Bool → Bool) (core mid new : SpaceCore) (second now next : SpaceState) (spare : Option SpaceState) → KeepsLent core.state.living.tasks second.living.tasks → now ≡ next → IsTurned turn second next
    → new ≡ record mid { state = now; spare = spare } → (id : ℕ) → is_lent new id ≡ turn id (is_lent core id)
lent-after turn core mid new second now next spare alike there turned same id =
    ap (λ (c : SpaceCore). is_lent c id) same ∙ after-turn turn core second now next alike there turned id

-- what is told of lent tasks is told of the first state alone
pub lent-same : (core new : SpaceCore) → new.state ≡ core.state → (id : ℕ) → is_lent new id ≡ is_lent core id
lent-same core new same id = ap (λ (x : SpaceState). is_lent_in id x.living.tasks) same

-- the first state lends the same tasks after this
pub second-after : (g : Setting) (s : State) (first now second : SpaceState) → KeepsLent first.living.tasks now.living.tasks → IsSecond g s first second → IsSecond g s now second
second-after g s first now second same is = record { state = is.state; lent = record { lent = λ id. is.lent.lent id ∙ sym (same.lent id) } }
