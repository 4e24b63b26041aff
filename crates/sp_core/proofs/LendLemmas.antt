-- Tasks that are lent and come back, as the rows tell.
use Rattle.std.proofs.Common.{◌≡◌, ℕ, Bool, true, false, cond, nat_eq, List, [], ◌∷◌, Option, None, Some, refl, sym, ap, ◌∙◌}
use Rattle.std.specs.Prelude.{not, is_some, IfSome, IfNone, ◌==◌, ◌&&◌, ◌||◌, option_map, unwrap_or}
use Rattle.std.specs.List.{list_any}
use Rattle.std.proofs.lemmas.Bool.{eqb-true, false≢true}
use Rattle.sp_rules.specs.Classes.{Setting}
use Rattle.sp_rules.specs.State.{State, Living, ready_at, task_at, that_is_ready}
use Rattle.sp_tasks.specs.Rows as rows
use Rattle.sp_tasks.specs.Rows.{Hand, TaskRow, row_of}
use Rattle.sp_tasks.specs.Same.{is_recorded}
use Rattle.sp_tasks.proofs.SameLemmas.{record-itself}
use Rattle.std.proofs.lemmas.Bool.{eq-eqb}
use Rattle.sp_living.specs.Views.{Seen, seen, seen_row}
use Rattle.sp_tasks.specs.Lent.{LendsToo, is_lent_in}
use Rattle.sp_living.proofs.TaskLemmas.{matched}
use Rattle.sp_state.specs.Hands as state
use Rattle.sp_state.specs.Spaces.{IsSpace}
use Rattle.sp_state.specs.declared.space_state.SpaceState.{SpaceState}
use Rattle.sp_core.specs.Cores.{IsCore, Lends, is_historys}
use Rattle.sp_core.specs.Hands.{IsLentToo, IsSecond}
use Rattle.sp_core.specs.declared.space_core.SpaceCore.{SpaceCore}
use Rattle.sp_core.proofs.HandLemmas.{at-row}
use Rattle.sp_core.proofs.TwinLemmas.{with-states}

only : {A : Type 0} (x y : A) → Some x ≡ Some y → x ≡ y
only x y h = ap (λ o. unwrap_or o x) h

-- a task as it is lent
abbrev itself : (id : ℕ) (row : TaskRow) → Hand
itself id row = record { id = id; past = row.past; steps = row.steps; made = 0; room = false }

or-left : (a b : Bool) → (a || b) ≡ false → a ≡ false
or-left true b h = h
or-left false b h = refl

no-one : (one : Hand) → None ≡ Some one → ⊥
no-one one e = cc

idle-then : (id : ℕ) (row : TaskRow) (hand : Hand) → Some hand ≡ rows.hand_of id (Some row) → row.waits ≡ false
idle-then id row hand at =
    elim (row.waits || row.lent) as (λ b. (row.waits || row.lent) ≡ b → Some hand ≡ cond b None (Some (itself id row)) → row.waits ≡ false) [
      | true ↦ λ taken none. absurd (no-one hand (sym none))
      | false ↦ λ free some. or-left row.waits row.lent free
    ] refl at

abbrev flag : Option TaskRow → Bool
flag o = unwrap_or (option_map (λ (r : TaskRow). r.lent) o) false

-- a task may go on and is not lent
lends-one : (id : ℕ) (o : Option TaskRow) (p : Option Living) (lent : Bool) → option_map (λ (row : TaskRow). seen_row (id, row)) o ≡ option_map seen p → lent ≡ flag o
    → is_some (rows.hand_of id o) ≡ (is_some (that_is_ready p) && not lent)
lends-one id None None lent e l = refl
lends-one id None (Some t) lent e l = cc
lends-one id (Some row) None lent e l = cc
lends-one id (Some row) (Some t) lent e l =
    let same : seen_row (id, row) ≡ seen t = only (seen_row (id, row)) (seen t) e in
    cases row.waits row.lent (itself id row) t
    ∙ (λ j. is_some (cond ((same j).waits) None (Some t)) && not (sym l j))
  where
    cases : (w f : Bool) (one : Hand) (t : Living) → is_some (cond (w || f) None (Some one)) ≡ (is_some (cond w None (Some t)) && not f)
    cases true f one t = refl
    cases false true one t = refl
    cases false false one t = refl

pub lend-lent : (g : Setting) (s : State) (core : SpaceCore) (id : ℕ) (lent : List ℕ) (r : Option Hand) → r ≡ rows.hand_of id (row_of id core.state.living.tasks.rows) → IsCore g s core → Lends core lent
    → is_some r ≡ (is_some (ready_at s id) && not (list_any (◌==◌ id) lent))
lend-lent g s core id lent r at is lends =
    ap is_some at ∙ lends-one id (row_of id core.state.living.tasks.rows) (task_at s id) (list_any (◌==◌ id) lent) (at-row g s core id is) (lends id)

-- what is lent is the living task
pub lend-hand : (core : SpaceCore) (id : ℕ) (hand : Hand) → Some hand ≡ rows.hand_of id (row_of id core.state.living.tasks.rows) → (g : Setting) (s : State) → IsCore g s core → is_historys (ready_at s id) hand ≡ true
lend-hand core id hand at = λ g s is. by (row_of id core.state.living.tasks.rows) (task_at s id) (at-row g s core id is) at
  where
    by : (o : Option TaskRow) (p : Option Living) → option_map (λ (row : TaskRow). seen_row (id, row)) o ≡ option_map seen p → Some hand ≡ rows.hand_of id o → is_historys (that_is_ready p) hand ≡ true
    by None p e at = cc
    by (Some row) None e at = cc
    by (Some row) (Some t) e at =
        let same : seen_row (id, row) ≡ seen t = only (seen_row (id, row)) (seen t) e in
        let goes : t.waits ≡ false = ap (λ (x : Seen). x.waits) (sym same) ∙ idle-then id row hand at in
        elim (row.waits || row.lent) as (λ b. Some hand ≡ cond b None (Some (itself id row)) → is_historys (that_is_ready (Some t)) hand ≡ true) [
          | true ↦ λ none. cc
          | false ↦ λ some.
              let mine : hand ≡ itself id row = cc in
              ap (λ w. is_historys (cond w None (Some t)) hand) goes
              ∙ (λ j. ((sym same j).steps == (mine j).steps) && is_recorded (sym same j).past (mine j).past)
              ∙ (λ j. eq-eqb row.steps row.steps refl j && is_recorded row.past row.past)
              ∙ record-itself row.past
        ] at

-- what is lent has the id, and has made nothing since
pub lend-new : (id : ℕ) (o : Option TaskRow) (hand : Hand) → Some hand ≡ rows.hand_of id o → (hand.id ≡ id) × (hand.made ≡ 0)
lend-new id None hand at = cc
lend-new id (Some row) hand at =
    elim (row.waits || row.lent) as (λ b. Some hand ≡ cond b None (Some (itself id row)) → (hand.id ≡ id) × (hand.made ≡ 0)) [
      | true ↦ λ none. cc
      | false ↦ λ some. (ap (λ (o : Option Hand). (unwrap_or o hand).id) some, ap (λ (o : Option Hand). (unwrap_or o hand).made) some)
    ] at

-- the same of what may be lent
pub twin-new : (id : ℕ) (o : Option TaskRow) (r : Option Hand) → r ≡ rows.hand_of id o → IfSome r (λ hand. (hand.id ≡ id) × (hand.made ≡ 0))
twin-new id o None at = tt
twin-new id o (Some hand) at = lend-new id o hand at

-- ---- both states lend it

hand-some : (g : Setting) (s : State) (space : SpaceState) (id : ℕ) → IsSpace g s space → is_some (state.hand_at id space) ≡ (is_some (ready_at s id) && not (is_lent_in id space.living.tasks))
hand-some g s space id is = lends-one id (row_of id space.living.tasks.rows) (task_at s id) (is_lent_in id space.living.tasks) (matched g s.tasks_made s.tasks space.living.tasks id is.living.tasks) refl

some-lent : (o : Option Hand) (P : Type 0) → is_some o ≡ true → IfSome o (λ _. P) → P
some-lent None P none h = absurd (false≢true none)
some-lent (Some hand) P some h = h

pub lent-both : (g : Setting) (s : State) (id : ℕ) (hand : Hand) (core : SpaceCore) (now : SpaceState) (spare : Option SpaceState) (twin : Option Hand) → IsCore g s core → Some hand ≡ state.hand_at id core.state → IsSpace g s now
    → LendsToo id core.state.living.tasks now.living.tasks → IsLentToo id core.spare spare twin → IsCore g s (record core { state = now; spare = spare })
lent-both g s id hand core now spare twin is at here lent too = with-states g s s core now spare is here (by core.spare spare is.spare too) is.rest
  where
    by : (o n : Option SpaceState) → IfSome o (IsSecond g s core.state) → IsLentToo id o n twin → IfSome n (IsSecond g s now)
    by None None second too = tt
    by None (Some new) second too = absurd too
    by (Some old) None second too = absurd too
    by (Some old) (Some new) second too =
        let some : is_some twin ≡ true =
        ap is_some too.twin ∙ hand-some g s old id second.state ∙ ap (λ b. is_some (ready_at s id) && not b) (second.lent.lent id) ∙ sym (hand-some g s core.state id is.state) ∙ sym (ap is_some at) in
        let all : LendsToo id old.living.tasks new.living.tasks = some-lent twin _ some too.lent in record {
          state = too.same g s second.state;
          lent = record { lent = λ q. all.lent q ∙ ap (λ b. q == id || b) (second.lent.lent q) ∙ sym (lent.lent q) };
        }

-- whether a task lives that does not wait
abbrev has_row : Option TaskRow → Bool
has_row o = is_some (option_map (λ (row : TaskRow). row.origin) o)

pub ready-one : (id : ℕ) (o : Option TaskRow) (p : Option Living) → option_map (λ (row : TaskRow). seen_row (id, row)) o ≡ option_map seen p
    → (has_row o && not (rows.is_parked o)) ≡ is_some (that_is_ready p)
ready-one id None None e = refl
ready-one id None (Some t) e = cc
ready-one id (Some row) None e = cc
ready-one id (Some row) (Some t) e =
    let same : seen_row (id, row) ≡ seen t = only (seen_row (id, row)) (seen t) e in
    (λ j. not ((same j).waits)) ∙ cases t.waits
  where
    cases : (w : Bool) → not w ≡ is_some (cond w None (Some t))
    cases true = refl
    cases false = refl

some-mapped : {A B : Type 0} (f : A → B) (o : Option A) → is_some (option_map f o) ≡ is_some o
some-mapped f None = refl
some-mapped f (Some x) = refl

-- what is told of its origin, and whether it waits, say whether it may go on
pub ready-told : {A B : Type 0} (f : A → B) (of : TaskRow → B) (told : Option A) (g : Setting) (s : State) (core : SpaceCore) (id : ℕ) (o : Option TaskRow) → o ≡ row_of id core.state.living.tasks.rows
    → option_map f told ≡ option_map of o → IsCore g s core → (is_some told && not (rows.is_parked o)) ≡ is_some (ready_at s id)
ready-told f of told g s core id o at same is =
    ap (λ b. b && not (rows.is_parked o)) (sym (some-mapped f told) ∙ ap is_some same ∙ some-mapped of o ∙ sym (some-mapped (λ (row : TaskRow). row.origin) o))
    ∙ ready-one id o (task_at s id) (ap (option_map (λ (row : TaskRow). seen_row (id, row))) at ∙ at-row g s core id is)
