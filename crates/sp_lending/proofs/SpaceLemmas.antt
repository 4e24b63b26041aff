-- Where a lending space stands after events.
use Rattle.std.proofs.Common.{◌≡◌, ℕ, Bool, true, false, cond, List, ◌∷◌, Option, None, Some, refl, sym, ap, subst, ◌∙◌}
use Rattle.std.specs.Prelude.{not, ◌==◌, ◌&&◌}
use Rattle.std.proofs.lemmas.Bool.{eq-eqb, eqb-true, false≢true, true≢false}
use Rattle.sp_laws.specs.Changes.{IsOfSpace, lent_task}
use Rattle.sp_laws.proofs.FittedLemmas.{tasks_go_on}
use Rattle.sp_laws.proofs.LentEvents.{other_tasks_stay}
use Rattle.sp_behaviours.proofs.StartLemmas.{tasks_begin}
use Rattle.sp_rules.specs.Classes.{Setting}
use Rattle.sp_rules.specs.Events.{Event}
use Rattle.sp_rules.specs.Origins.{IsTaken}
use Rattle.sp_rules.specs.Refusals.{refusal}
use Rattle.sp_rules.specs.Space.{on, state_of}
use Rattle.sp_rules.specs.State.{State, Living, task_at}
use Rattle.sp_core.specs.Cores.{IsCore, is_lent}
use Rattle.sp_core.specs.declared.space_core.SpaceCore.{SpaceCore}
use Rattle.sp_machines.specs.Players.{Played}
use Rattle.sp_machines.proofs.GoingLemmas.{goes-on}
use Rattle.sp_lending.specs.Rows.{IsRow, row_at}
use Rattle.sp_lending.specs.Spaces.{IsInSome, IsSpace, Stands}
use Rattle.sp_lending.specs.declared.parts.Parts.{Parts}
use Rattle.sp_lending.specs.declared.rows.Rows.{Rows}

-- ---- states

-- a space at the end of a history is in the state after the last event
pub space-at : (g : Setting) (h : List Event) (e : Event) (space : Parts) → Stands g (e ∷ h) space → IsSpace g (on g e (state_of g h)).0 space
unfolding state_of
space-at g h e space stands = record { history = e ∷ h; leaves = refl; stands = stands }

pub space-core : (g : Setting) (s : State) (space : Parts) → IsSpace g s space → IsCore g s space.core
space-core g s space is = subst (λ (t : State). IsCore g t space.core) (sym is.leaves) is.stands.core

-- the same of a space in a state
pub space-after : (g : Setting) (s : State) (e : Event) (space new : Parts) → (is : IsSpace g s space) → ((h : List Event) → Stands g h space → Stands g (e ∷ h) new) → IsSpace g (on g e s).0 new
space-after g s e space new is goes = subst (λ (t : State). IsSpace g (on g e t).0 new) (sym is.leaves) (space-at g is.history e new (goes is.history is.stands))

pub in-some : (g : Setting) (s : State) (space : Parts) → IsSpace g s space → IsInSome g space
in-some g s space is = record { state = s; is = is }

-- ---- events of the space

row-goes : (g : Setting) (h : List Event) (e : Event) (id : ℕ) (row : Option (Option Played)) → IsOfSpace e → IsTaken g (e ∷ h) → IsRow g (task_at (state_of g h) id) row → IsRow g (task_at (state_of g (e ∷ h)) id) row
row-goes g h e id None of taken fresh =
    λ links set. goes-on links g (state_of g h) e (task_at (state_of g h) id) (task_at (state_of g (e ∷ h)) id) None set (λ t begun. tasks_begin links g h e t set taken begun) (tasks_go_on g h e id of) (fresh links set)
row-goes g h e id (Some None) of taken out = tt
row-goes g h e id (Some (Some p)) of taken is = (
  is.0,
  goes-on p.task.program g (state_of g h) e (task_at (state_of g h) id) (task_at (state_of g (e ∷ h)) id) (Some p) is.0.set (λ t begun. tasks_begin p.task.program g h e t is.0.set taken begun) (tasks_go_on g h e id of) is.1,
)

pub after-event : (g : Setting) (h : List Event) (e : Event) (space : Parts) (core : SpaceCore) → Stands g h space → IsOfSpace e → (lent : List ℕ) → refusal g lent (state_of g h) e ≡ None
    → IsCore g (on g e (state_of g h)).0 core → ((id : ℕ) → is_lent core id ≡ is_lent space.core id) → Stands g (e ∷ h) (record space { core = core })
unfolding state_of
after-event g h e space core is of lent unrefused core-is same = record {
  home = is.home;
  classes = is.classes;
  taken = ((lent, unrefused), is.taken);
  core = core-is;
  rows = λ id. row-goes g h e id (row_at id space.rows) of ((lent, unrefused), is.taken) (is.rows id);
  out = λ id here. is.out id (sym (same id) ∙ here);
}

pub event-space : (g : Setting) (s : State) (e : Event) (space : Parts) (core : SpaceCore) → IsSpace g s space → IsOfSpace e → (lent : List ℕ) → refusal g lent s e ≡ None
    → IsCore g (on g e s).0 core → ((id : ℕ) → is_lent core id ≡ is_lent space.core id) → IsSpace g (on g e s).0 (record space { core = core })
event-space g s e space core is of lent unrefused core-is same =
    subst (λ (t : State). IsSpace g (on g e t).0 (record space { core = core })) (sym is.leaves)
    (space-at g is.history e (record space { core = core })
    (after-event g is.history e space core is.stands of lent (subst (λ (t : State). refusal g lent t e ≡ None) is.leaves unrefused) (subst (λ (t : State). IsCore g (on g e t).0 core) is.leaves core-is) same))

-- A call that leaves the core in each state in which it was leaves the space in its state.
pub kept-space : (g : Setting) (s : State) (space : Parts) (core : SpaceCore) → IsSpace g s space → ((t : State) → IsCore g t space.core → IsCore g t core) → ((id : ℕ) → is_lent core id ≡ is_lent space.core id)
    → IsSpace g s (record space { core = core })
kept-space g s space core is keeps same = record {
  history = is.history;
  leaves = is.leaves;
  stands = record {
    home = is.stands.home;
    classes = is.stands.classes;
    taken = is.stands.taken;
    core = keeps (state_of g is.history) is.stands.core;
    rows = is.stands.rows;
    out = λ id here. is.stands.out id (sym (same id) ∙ here);
  };
}

-- ---- events of lent tasks

itself : (n : ℕ) → (n == n) ≡ true
itself n = eq-eqb n n refl

not-same : (id other : ℕ) → (id == other) ≡ false → id ≡ other → ⊥
not-same id other apart same = true≢false (sym (itself id) ∙ ap (λ n. id == n) same ∙ apart)

-- its own row may change
abbrev pub ChangesRow : ℕ → Option (Option Played) → Rows → Rows → Type 0
ChangesRow id row old new = (other : ℕ) → row_at other new ≡ cond (id == other) row (row_at other old)

pub own-row : (id : ℕ) (row : Option (Option Played)) (old new : Rows) → ChangesRow id row old new → row_at id new ≡ row
own-row id row old new changes = changes id ∙ ap (λ b. cond b row (row_at id old)) (itself id)

pub other-row : (id other : ℕ) (row : Option (Option Played)) (old new : Rows) → ChangesRow id row old new → (id == other) ≡ false → row_at other new ≡ row_at other old
other-row id other row old new changes apart = changes other ∙ ap (λ b. cond b row (row_at other old)) apart

pub row-of : (id here : ℕ) (row : Option (Option Played)) (old new : Rows) → id ≡ here → ChangesRow id row old new → ChangesRow here row old new
row-of id here row old new same changes = subst (λ n. ChangesRow n row old new) same changes

-- all rows but its own are as they were
rows-else : (g : Setting) (h : List Event) (e : Event) (id : ℕ) (row : Option (Option Played)) (old new : Rows) → lent_task e ≡ Some id → ((other : ℕ) → IsRow g (task_at (state_of g h) other) (row_at other old))
    → ChangesRow id row old new → IsRow g (task_at (state_of g (e ∷ h)) id) row → (other : ℕ) → IsRow g (task_at (state_of g (e ∷ h)) other) (row_at other new)
rows-else g h e id row old new of were changes mine other =
    elim (id == other) as (λ b. (id == other) ≡ b → IsRow g (task_at (state_of g (e ∷ h)) other) (row_at other new)) [
      | true ↦ λ here.
          subst (λ n. IsRow g (task_at (state_of g (e ∷ h)) n) (row_at n new)) (eqb-true id other here)
          (subst (IsRow g (task_at (state_of g (e ∷ h)) id)) (sym (own-row id row old new changes)) mine)
      | false ↦ λ apart.
          subst (λ (o : Option Living). IsRow g o (row_at other new)) (sym (other_tasks_stay g h e id other of (not-same id other apart)))
          (subst (IsRow g (task_at (state_of g h) other)) (sym (other-row id other row old new changes apart)) (were other))
    ] refl

-- a task that comes back is lent no more
abbrev pub LendsNoMore : ℕ → SpaceCore → SpaceCore → Type 0
LendsNoMore id old new = (other : ℕ) → is_lent new other ≡ (not (other == id) && is_lent old other)

pub no-more : (id : ℕ) (ok : Bool) (old new : SpaceCore) → ok ≡ true → ((other : ℕ) → is_lent new other ≡ (not (ok && other == id) && is_lent old other)) → LendsNoMore id old new
no-more id ok old new is lends other = lends other ∙ ap (λ b. not (b && other == id) && is_lent old other) is

pub same-lent : (id : ℕ) (ok : Bool) (old new : SpaceCore) → ok ≡ false → ((other : ℕ) → is_lent new other ≡ (not (ok && other == id) && is_lent old other)) → (other : ℕ) → is_lent new other ≡ is_lent old other
same-lent id ok old new is lends other = lends other ∙ ap (λ b. not (b && other == id) && is_lent old other) is

both-true : (a b : Bool) → (a && b) ≡ true → b ≡ true
both-true true b e = e
both-true false b e = absurd (false≢true e)

flipped : (a b : ℕ) → (a == b) ≡ true → (b == a) ≡ true
flipped a b e = eq-eqb b a (sym (eqb-true a b e))

out-else : (id : ℕ) (row : Option (Option Played)) (core new : SpaceCore) (old rows : Rows) → ((other : ℕ) → is_lent core other ≡ true → row_at other old ≡ Some None) → LendsNoMore id core new → ChangesRow id row old rows
    → (other : ℕ) → is_lent new other ≡ true → row_at other rows ≡ Some None
out-else id row core new old rows were lends changes other here =
    elim (id == other) as (λ b. (id == other) ≡ b → row_at other rows ≡ Some None) [
      | true ↦ λ same. absurd (false≢true (ap (λ b. not b && is_lent core other) (sym (flipped id other same)) ∙ sym (lends other) ∙ here))
      | false ↦ λ apart. other-row id other row old rows changes apart ∙ were other (both-true (not (other == id)) (is_lent core other) (sym (lends other) ∙ here))
    ] refl

-- It comes back with an event of its own.
pub lent-event : (g : Setting) (h : List Event) (e : Event) (id : ℕ) (space : Parts) (core : SpaceCore) (rows : Rows) (row : Option (Option Played)) → Stands g h space → lent_task e ≡ Some id → (lent : List ℕ)
    → refusal g lent (state_of g h) e ≡ None → IsCore g (on g e (state_of g h)).0 core → LendsNoMore id space.core core → ChangesRow id row space.rows rows → IsRow g (task_at (state_of g (e ∷ h)) id) row
    → Stands g (e ∷ h) (record space { core = core; rows = rows })
unfolding state_of
lent-event g h e id space core rows row is of lent unrefused core-is lends changes mine = record {
  home = is.home;
  classes = is.classes;
  taken = ((lent, unrefused), is.taken);
  core = core-is;
  rows = rows-else g h e id row space.rows rows of is.rows changes mine;
  out = out-else id row space.core core space.rows rows is.out lends changes;
}

-- It stays lent: its machine is out, and its row stays as it was.
pub out-event : (g : Setting) (h : List Event) (e : Event) (id : ℕ) (space : Parts) (core : SpaceCore) → Stands g h space → lent_task e ≡ Some id → is_lent space.core id ≡ true → (lent : List ℕ)
    → refusal g lent (state_of g h) e ≡ None → IsCore g (on g e (state_of g h)).0 core → ((other : ℕ) → is_lent core other ≡ is_lent space.core other) → Stands g (e ∷ h) (record space { core = core })
unfolding state_of
out-event g h e id space core is of here lent unrefused core-is same =
    let row = is.out id here in
    record {
      home = is.home;
      classes = is.classes;
      taken = ((lent, unrefused), is.taken);
      core = core-is;
      rows = rows-else g h e id (Some None) space.rows space.rows of is.rows
          (λ other.
          elim (id == other) as (λ b. (id == other) ≡ b → row_at other space.rows ≡ cond b (Some None) (row_at other space.rows)) [
            | true ↦ λ e. subst (λ n. row_at n space.rows ≡ Some None) (eqb-true id other e) row
            | false ↦ λ e. refl
          ] refl) tt;
      out = λ other e. is.out other (sym (same other) ∙ e);
    }

-- ---- a task that is lent

lent-rows : (g : Setting) (s : State) (id : ℕ) (old new : Rows) → ((other : ℕ) → IsRow g (task_at s other) (row_at other old)) → ChangesRow id (Some None) old new → (other : ℕ) → IsRow g (task_at s other) (row_at other new)
lent-rows g s id old new were changes other =
    elim (id == other) as (λ b. (id == other) ≡ b → IsRow g (task_at s other) (row_at other new)) [
      | true ↦ λ here. subst (IsRow g (task_at s other)) (sym (changes other ∙ ap (λ b. cond b (Some None) (row_at other old)) here)) tt
      | false ↦ λ apart. subst (IsRow g (task_at s other)) (sym (other-row id other (Some None) old new changes apart)) (were other)
    ] refl

lent-out : (id : ℕ) (core new : SpaceCore) (old rows : Rows) → ((other : ℕ) → is_lent core other ≡ true → row_at other old ≡ Some None) → ((other : ℕ) → (id == other) ≡ false → is_lent new other ≡ is_lent core other)
    → ChangesRow id (Some None) old rows → (other : ℕ) → is_lent new other ≡ true → row_at other rows ≡ Some None
lent-out id core new old rows were lends changes other here =
    elim (id == other) as (λ b. (id == other) ≡ b → row_at other rows ≡ Some None) [
      | true ↦ λ same. changes other ∙ ap (λ b. cond b (Some None) (row_at other old)) same
      | false ↦ λ apart. other-row id other (Some None) old rows changes apart ∙ were other (sym (lends other apart) ∙ here)
    ] refl

pub lent-space : (g : Setting) (s : State) (id : ℕ) (space : Parts) (core : SpaceCore) (rows : Rows) → IsSpace g s space → ((t : State) → IsCore g t space.core → IsCore g t core)
    → ((other : ℕ) → (id == other) ≡ false → is_lent core other ≡ is_lent space.core other) → ChangesRow id (Some None) space.rows rows → IsSpace g s (record space { core = core; rows = rows })
lent-space g s id space core rows is keeps lends changes = record {
  history = is.history;
  leaves = is.leaves;
  stands = record {
    home = is.stands.home;
    classes = is.stands.classes;
    taken = is.stands.taken;
    core = keeps (state_of g is.history) is.stands.core;
    rows = lent-rows g (state_of g is.history) id space.rows rows is.stands.rows changes;
    out = lent-out id space.core core space.rows rows is.stands.out lends changes;
  };
}

-- rows that show the same
pub same-rows : (g : Setting) (s : State) (space : Parts) (rows : Rows) → IsSpace g s space → ((id : ℕ) → row_at id rows ≡ row_at id space.rows) → IsSpace g s (record space { rows = rows })
same-rows g s space rows is same = record {
  history = is.history;
  leaves = is.leaves;
  stands = record {
    home = is.stands.home;
    classes = is.stands.classes;
    taken = is.stands.taken;
    core = is.stands.core;
    rows = λ id. subst (IsRow g (task_at (state_of g is.history) id)) (sym (same id)) (is.stands.rows id);
    out = λ id here. same id ∙ is.stands.out id here;
  };
}
