-- Tasks that a space lends.
use Rattle.std.proofs.Common.{◌≡◌, ℕ, Bool, true, false, Option, None, Some, refl, sym, ap, subst, ◌∙◌}
use Rattle.std.specs.Prelude.{is_some, option_and_then, ◌==◌, ◌||◌}
use Rattle.std.proofs.lemmas.Bool.{eq-eqb, eqb-true, true≢false}
use Rattle.sp_core.specs.Cores.{is_historys, is_lent}
use Rattle.sp_core.specs.declared.space_core.SpaceCore.{SpaceCore}
use Rattle.sp_machines.specs.Players.{Played}
use Rattle.sp_machines.proofs.PlayedLemmas.{after-none}
use Rattle.sp_rules.specs.Classes.{Setting}
use Rattle.sp_rules.specs.LivingTasks.{after_steps}
use Rattle.sp_rules.specs.Space.{state_of}
use Rattle.sp_rules.specs.State.{State, Living, ready_at}
use Rattle.sp_lending.specs.Hands.{IsHeld, IsHome, IsStood, IsTask}
use Rattle.sp_tasks.specs.Rows.{Hand}
use Rattle.sp_lending.specs.Rows.{IsRow, row_at}
use Rattle.sp_lending.specs.Spaces.{IsSpace}
use Rattle.sp_lending.specs.declared.parts.Parts.{Parts}
use Rattle.sp_lending.specs.declared.task_parts.TaskParts.{TaskParts}
use Rattle.sp_lending.proofs.FoundLemmas.{Found, found-as, now-found}

-- ---- which tasks are lent then

abbrev pub LendsMore : ℕ → SpaceCore → SpaceCore → Type 0
LendsMore id old new = (other : ℕ) → is_lent new other ≡ (other == id || is_lent old other)

pub lends-it : (id : ℕ) (old new : SpaceCore) → LendsMore id old new → is_lent new id ≡ true
lends-it id old new lends = lends id ∙ ap (λ b. b || is_lent old id) (eq-eqb id id refl)

not-flipped : (a b : ℕ) → (a == b) ≡ false → (b == a) ≡ false
not-flipped a b apart = by (b == a) refl
  where
    by : (x : Bool) → (b == a) ≡ x → x ≡ false
    by true is = absurd (true≢false (sym (eq-eqb a b (sym (eqb-true b a is))) ∙ apart))
    by false is = refl

pub lends-else : (id : ℕ) (old new : SpaceCore) → LendsMore id old new → (other : ℕ) → (id == other) ≡ false → is_lent new other ≡ is_lent old other
lends-else id old new lends other apart = lends other ∙ ap (λ b. b || is_lent old other) (not-flipped id other apart)

-- ---- the task

-- the machine that is taken out of its row plays the task
taken-held : (g : Setting) (t : Living) (row : Option (Option Played)) (o : Option Played) → (row ≡ Some None → ⊥) → o ≡ option_and_then (λ (x : Option Played). x) row → IsRow g (Some t) row → IsHeld g t o
taken-held g t None o inside is played = subst (IsHeld g t) (sym is) played
taken-held g t (Some None) o inside is played = absurd (inside refl)
taken-held g t (Some (Some p)) o inside is played = subst (IsHeld g t) (sym is) played

-- a task that is taken out is one of the space
pub lent-task : (g : Setting) (s : State) (space : Parts) (core : SpaceCore) (task : TaskParts) → (is : IsSpace g s space) → is_historys (ready_at (state_of g is.history) task.hand.task.id) task.hand.task ≡ true
    → is_lent core task.hand.task.id ≡ true → task.hand.task.made ≡ 0 → task.home ≡ space.home → (row_at task.hand.task.id space.rows ≡ Some None → ⊥)
    → task.player ≡ option_and_then (λ (x : Option Played). x) (row_at task.hand.task.id space.rows) → task.stand ≡ None → IsTask g task
lent-task g s space core task is historys lent none same inside player stand =
    let h = is.history in
    let hand = task.hand.task in
    let f = found-as (state_of g h) core hand historys lent in
    let now = after_steps hand.made f.living in
    let same-now : f.living ≡ now = sym (ap (λ k. after_steps k f.living) none ∙ after-none f.living) in
    let row = subst (λ (o : Option Living). IsRow g o (row_at hand.id space.rows)) f.there (is.stands.rows hand.id) in
    record {
      home = subst (IsHome g) (sym same) is.stands.home;
      now = now;
      is = now-found g h core hand f;
      held = subst (λ (t : Living). IsHeld g t task.player) same-now (taken-held g f.living (row_at hand.id space.rows) task.player inside player row);
      stood = subst (IsStood g now task.player) (sym stand) tt;
    }

-- the row of a lent task is there, empty
pub row-there : (g : Setting) (s t : State) (space : Parts) (id : ℕ) (hand : Hand) → IsSpace g s space → Found t space.core hand → id ≡ hand.id → is_some (row_at id space.rows) ≡ true
row-there g s t space id hand is f same = ap (λ n. is_some (row_at n space.rows)) same ∙ ap is_some (is.stands.out hand.id f.lent)
