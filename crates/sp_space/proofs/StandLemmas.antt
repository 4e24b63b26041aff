-- Where a space stands after an event of a lent task, and after its machines changed.
use Rattle.std.proofs.Common.{◌≡◌, ℕ, ◌+◌, Bool, true, false, cond, List, [], ◌∷◌, Option, None, Some, refl, sym, ap, subst, ◌∙◌, arith}
use Rattle.std.specs.Prelude.{is_some, unwrap_or, ◌==◌}
use Rattle.std.proofs.lemmas.Bool.{eq-eqb, eqb-true, true≢false}
use Rattle.cls_link.specs.Links.{Links}
use Rattle.sp_laws.specs.Changes.{lent_task}
use Rattle.sp_laws.proofs.LentEvents.{other_tasks_stay}
use Rattle.sp_rules.specs.Classes.{Setting}
use Rattle.sp_rules.specs.Events.{Event, GivenBack}
use Rattle.sp_rules.specs.Lists.{at_first, with_some}
use Rattle.sp_rules.specs.LivingTasks.{after_steps, give_back}
use Rattle.sp_rules.specs.Refusals.{refusal}
use Rattle.sp_rules.specs.Space.{happen, on, state_of}
use Rattle.sp_rules.specs.State.{State, Living, ready_at, set_task, task_at}
use Rattle.sp_rules.specs.Tasks.{steps}
use Rattle.sp_tasks.specs.Rows.{Hand}
use Rattle.sp_core.specs.Cores.{IsCore}
use Rattle.sp_core.specs.Hands.{given_back}
use Rattle.sp_core.specs.declared.space_core.SpaceCore.{SpaceCore}
use Rattle.sp_space.specs.Machines.{machine_at}
use Rattle.sp_machines.specs.Players.{IsPlayed, Played}
use Rattle.sp_space.specs.Spaces.{IsOf, Stands}
use Rattle.sp_space.specs.declared.machines.Machines.{Machines}
use Rattle.sp_space.specs.declared.parts.Parts.{Parts}
use Rattle.sp_machines.proofs.PlayedLemmas.{after-none}

itself : (n : ℕ) → (n == n) ≡ true
itself n = eq-eqb n n refl

not-same : (id other : ℕ) → (id == other) ≡ false → id ≡ other → ⊥
not-same id other apart same = true≢false (sym (itself id) ∙ ap (λ n. id == n) same ∙ apart)

same-of : (g : Setting) (space : Parts) (core : SpaceCore) (machines : Machines) → IsOf g space → IsOf g (record space { core = core; machines = machines })
same-of g space core machines is = record { classes = is.classes; program = is.program; plays = is.plays; set = is.set; id = is.id; limits = is.limits }

pub lent-event : (g : Setting) (h : List Event) (space : Parts) (core : SpaceCore) (machines : Machines) (e : Event) (id : ℕ) → Stands g h space → lent_task e ≡ Some id → (lent : List ℕ)
    → refusal g lent (state_of g h) e ≡ None → IsCore g (on g e (state_of g h)).0 core → IsPlayed space.program.now g (task_at (state_of g (e ∷ h)) id) (machine_at id machines)
    → ((other : ℕ) → (id == other) ≡ false → machine_at other machines ≡ machine_at other space.machines) → Stands g (e ∷ h) (record space { core = core; machines = machines })
unfolding state_of
lent-event g h space core machines e id is of lent unrefused core-is mine others = record {
  of = same-of g space core machines is.of;
  taken = ((lent, unrefused), is.taken);
  core = core-is;
  played = λ other.
      elim (id == other) as (λ b. (id == other) ≡ b → IsPlayed space.program.now g (task_at (state_of g (e ∷ h)) other) (machine_at other machines)) [
        | true ↦ λ here. subst (λ n. IsPlayed space.program.now g (task_at (state_of g (e ∷ h)) n) (machine_at n machines)) (eqb-true id other here) mine
        | false ↦ λ apart. subst (λ (o : Option Living). IsPlayed space.program.now g o (machine_at other machines)) (sym (other_tasks_stay g h e id other of (not-same id other apart)))
            (subst (IsPlayed space.program.now g (task_at (state_of g h) other)) (sym (others other apart)) (is.played other))
      ] refl;
}

-- the machine of one task has changed
pub machine-change : (g : Setting) (h : List Event) (space : Parts) (machines : Machines) (id : ℕ) → Stands g h space → IsPlayed space.program.now g (task_at (state_of g h) id) (machine_at id machines)
    → ((other : ℕ) → (id == other) ≡ false → machine_at other machines ≡ machine_at other space.machines) → Stands g h (record space { machines = machines })
machine-change g h space machines id is mine others = record {
  of = same-of g space space.core machines is.of;
  taken = is.taken;
  core = is.core;
  played = λ other.
      elim (id == other) as (λ b. (id == other) ≡ b → IsPlayed space.program.now g (task_at (state_of g h) other) (machine_at other machines)) [
        | true ↦ λ here. subst (λ n. IsPlayed space.program.now g (task_at (state_of g h) n) (machine_at n machines)) (eqb-true id other here) mine
        | false ↦ λ apart. subst (IsPlayed space.program.now g (task_at (state_of g h) other)) (sym (others other apart)) (is.played other)
      ] refl;
}

pub core-change : (g : Setting) (h : List Event) (space : Parts) (core : SpaceCore) → Stands g h space → IsCore g (state_of g h) core → Stands g h (record space { core = core })
core-change g h space core is core-is = record { of = same-of g space core space.machines is.of; taken = is.taken; core = core-is; played = is.played }

-- ---- no instruction

first-same : (p : Living → Bool) (f : Living → Living) (ts : List Living) → ((t : Living) → f t ≡ t) → at_first p f ts ≡ ts
first-same p f [] same = refl
first-same p f (t ∷ ts) same = elim (p t) as (λ b. cond b (f t ∷ ts) (t ∷ at_first p f ts) ≡ t ∷ ts) [ true ↦ ap (λ u. u ∷ ts) (same t) | false ↦ ap (λ us. t ∷ us) (first-same p f ts same) ]

-- A task that is given back without an instruction stands as it stood.
pub back-nothing : (g : Setting) (s : State) (id : ℕ) → (on g (GivenBack id 0) s).0 ≡ s
unfolding on happen give_back
back-nothing g s id = by (ready_at s id)
  where
    by : (o : Option Living) → with_some o s (λ t. set_task (after_steps 0) id s) ≡ s
    by None = refl
    by (Some t) = let e = first-same (λ (u : Living). u.id == id) (after_steps 0) s.tasks after-none in λ j. record s { tasks = e j }

pub given-nothing : (g : Setting) (s : State) (hand : Hand) → hand.made ≡ 0 → (on g (given_back hand) s).0 ≡ s
given-nothing g s hand none = ap (λ k. (on g (GivenBack hand.id k) s).0) none ∙ back-nothing g s hand.id

pub fail-stands : (g : Setting) (h : List Event) (space : Parts) (core : SpaceCore) (hand : Hand) → Stands g h space → hand.made ≡ 0 → IsCore g (on g (given_back hand) (state_of g h)).0 core
    → Stands g h (record space { core = core })
fail-stands g h space core hand is none core-is = core-change g h space core is (subst (λ (s : State). IsCore g s core) (given-nothing g (state_of g h) hand none) core-is)
