-- Two tasks in hand that two equal states lend under one id are the same.
use Rattle.std.proofs.Common.{◌≡◌, ℕ, ◌+◌, Bool, true, false, cond, List, Option, None, Some, refl, sym, ap, subst, ◌∙◌}
use Rattle.std.specs.Prelude.{◌==◌, ◌&&◌, unwrap_or, Result, Ok, Err, IfOk, OnOk, OnErr, IfSome, option_map}
use Rattle.std.specs.Option.{option_zip}
use Rattle.std.proofs.lemmas.Bool.{eq-eqb, eqb-true}
use Rattle.sp_rules.specs.Behaviours.{Reply}
use Rattle.sp_rules.specs.Classes.{Setting}
use Rattle.sp_rules.specs.Runs.{replayed}
use Rattle.sp_rules.specs.State.{State, Living, task_at}
use Rattle.sp_rules.specs.Tasks.{steps}
use Rattle.sp_tasks.specs.Recorded.{Recorded, with_given}
use Rattle.sp_tasks.specs.Rows.{Hand, replied_hand}
use Rattle.sp_tasks.proofs.SameLemmas.{and-left, and-right}
use Rattle.sp_living.specs.Hands.{task_of}
use Rattle.sp_living.specs.Views.{Seen, recorded_in, seen, turned}
use Rattle.sp_living.proofs.HandLemmas.{InHand, taken}
use Rattle.sp_state.specs.Hands as state
use Rattle.sp_state.specs.Spaces.{IsAtRest, IsSpace}
use Rattle.sp_state.specs.declared.space_state.SpaceState.{SpaceState}
use Rattle.sp_core.specs.Cores.{IsCore, has_lent, lends}
use Rattle.sp_core.specs.Hands.{IsSecond, fits}
use Rattle.sp_core.specs.declared.lent_task.LentTask.{LentTask}
use Rattle.sp_core.specs.declared.space_core.SpaceCore.{SpaceCore}
use Rattle.sp_holders.specs.declared.sightings.Sightings.{Sightings}

only : {A : Type 0} (x y : A) → Some x ≡ Some y → x ≡ y
only x y h = ap (λ o. unwrap_or o x) h

-- ---- what fits

-- what the second state lends, if there are both
pub twin-own : (spare : SpaceState) (hand twin : Hand) → fits (Some spare) hand (Some twin) ≡ true → state.has_lent spare twin ≡ true
twin-own spare hand twin fit = and-right (twin.id == hand.id && twin.made == hand.made) _ fit

pub twin-id : (spare : SpaceState) (hand twin : Hand) → fits (Some spare) hand (Some twin) ≡ true → twin.id ≡ hand.id
twin-id spare hand twin fit = eqb-true twin.id hand.id (and-left (twin.id == hand.id) _ (and-left (twin.id == hand.id && twin.made == hand.made) _ fit))

pub twin-made : (spare : SpaceState) (hand twin : Hand) → fits (Some spare) hand (Some twin) ≡ true → twin.made ≡ hand.made
twin-made spare hand twin fit = eqb-true twin.made hand.made (and-right (twin.id == hand.id) _ (and-left (twin.id == hand.id && twin.made == hand.made) _ fit))

pub fits-none : (spare : Option SpaceState) (hand : Hand) → fits spare hand None ≡ true
fits-none None hand = refl
fits-none (Some spare) hand = refl

pub fits-both : (spare : SpaceState) (hand twin : Hand) → twin.id ≡ hand.id → twin.made ≡ hand.made → state.has_lent spare twin ≡ true → fits (Some spare) hand (Some twin) ≡ true
fits-both spare hand twin id made own = λ j. (eq-eqb twin.id hand.id id j && eq-eqb twin.made hand.made made j) && own j

pub fits-kept : (o : Option SpaceState) (front hand old : Hand) → front.id ≡ old.id → front.made ≡ 0 → IfSome o (λ x. state.has_lent x hand ≡ true) → IfSome o (λ (x : SpaceState). (hand.id ≡ old.id) × (hand.made ≡ 0)) → fits o front (Some hand) ≡ true
fits-kept None front hand old id made own same = refl
fits-kept (Some x) front hand old id made own same = fits-both x front hand (same.0 ∙ sym id) (same.1 ∙ sym made) own

pub own-main : (core : SpaceCore) (task : LentTask) → has_lent core task ≡ true → lends core task.task ≡ true
own-main core task own = and-left (lends core task.task) _ own

pub own-fits : (core : SpaceCore) (task : LentTask) → has_lent core task ≡ true → fits core.spare task.task task.twin ≡ true
own-fits core task own = and-right (lends core task.task) _ own

pub both : (a b : Bool) → a ≡ true → b ≡ true → (a && b) ≡ true
both a b l r = λ j. l j && r j

-- ---- the same task

pub record IsSame (twin hand : Hand) : Type 0 where
  pub id : twin.id ≡ hand.id
  pub past : twin.past ≡ hand.past
  pub steps : twin.steps ≡ hand.steps
  pub made : twin.made ≡ hand.made

past-of : (g : Setting) (s : State) (space : SpaceState) (hand : Hand) (h : InHand g s space.living hand) → hand.past ≡ recorded_in h.living
past-of g s space hand h = sym h.past ∙ ap (λ (x : Seen). x.past) h.same

steps-of : (g : Setting) (s : State) (space : SpaceState) (hand : Hand) (h : InHand g s space.living hand) → hand.steps ≡ h.living.steps
steps-of g s space hand h = sym h.steps ∙ ap (λ (x : Seen). x.steps) h.same

pub same-task : (g : Setting) (s : State) (a b : SpaceState) (hand twin : Hand) → IsSpace g s a → IsSpace g s b → state.has_lent a hand ≡ true → state.has_lent b twin ≡ true
    → twin.id ≡ hand.id → twin.made ≡ hand.made → IsSame twin hand
same-task g s a b hand twin is-a is-b own-a own-b id made =
    let h = taken g s a.living hand is-a.living own-a in
    let k = taken g s b.living twin is-b.living own-b in
    let same : k.living ≡ h.living = only k.living h.living (sym k.there ∙ ap (λ (n : ℕ). task_at s n) id ∙ h.there) in record {
      id = id;
      past = past-of g s b twin k ∙ ap recorded_in same ∙ sym (past-of g s a hand h);
      steps = steps-of g s b twin k ∙ ap (λ (t : Living). t.steps) same ∙ sym (steps-of g s a hand h);
      made = made;
    }

pub replied-same : (reply : Reply) (twin hand : Hand) → IsSame twin hand → replied_hand reply twin ≡ replied_hand reply hand
replied-same reply twin hand is = λ j. record { id = is.id j; past = with_given (is.steps j + is.made j) reply (is.past j); steps = 0; made = 0; room = false }

pub task-same : (g : Setting) (twin hand : Hand) → IsSame twin hand → task_of g twin ≡ task_of g hand
task-same g twin hand is = λ j. steps (is.made j) (steps (is.steps j) (replayed g (is.past j).began (turned (is.past j).given)))

-- ---- both of two

pub zipped : {A B : Type 0} (a : Option A) (b : Option B) (p : A × B) → Some p ≡ option_zip a b → (a ≡ Some p.0) × (b ≡ Some p.1)
zipped None b p is = cc
zipped (Some x) None p is = cc
zipped (Some x) (Some y) p is = let same : p ≡ (x, y) = ap (λ o. unwrap_or o p) is in (λ j. Some ((sym same j).0), λ j. Some ((sym same j).1))

-- ---- results

pub if-ok : {A E : Type 0} (r : Result A E) (P Q : A → Type 0) → ((x : A) → P x → Q x) → IfOk r P → IfOk r Q
if-ok (Ok x) P Q each h = each x h
if-ok (Err e) P Q each h = h

pub ok-both : {A E : Type 0} (r : Result A E) (P Q R : A → Type 0) → ((x : A) → P x → Q x → R x) → IfOk r P → IfOk r Q → IfOk r R
ok-both (Ok x) P Q R each p q = each x p q
ok-both (Err e) P Q R each p q = p

-- ---- cores

pub core-is : (g : Setting) (s : State) (a b : SpaceCore) → b ≡ a → IsCore g s a → IsCore g s b
core-is g s a b same is = subst (λ (core : SpaceCore). IsCore g s core) (sym same) is

-- with other sightings of holders
pub seen-is : (g : Setting) (s : State) (core : SpaceCore) (sightings : Sightings) → IsCore g s core → IsCore g s (record core { sightings = sightings })
seen-is g s core sightings is = record { id = is.id; fuel = is.fuel; state = is.state; spare = is.spare; rest = is.rest }

pub with-sightings : (g : Setting) (s : State) (core new : SpaceCore) → new ≡ record core { sightings = new.sightings } → IsCore g s core → IsCore g s new
with-sightings g s core new same is = core-is g s (record core { sightings = new.sightings }) new same (seen-is g s core new.sightings is)

-- without the second state
pub without-spare : (g : Setting) (s : State) (core : SpaceCore) → IsCore g s core → IsCore g s (record core { spare = None })
without-spare g s core is = record { id = is.id; fuel = is.fuel; state = is.state; spare = tt; rest = is.rest }

pub spare-gone : (g : Setting) (s : State) (core : SpaceCore) (spare : Option SpaceState) → spare ≡ None → IsCore g s core → IsCore g s (record core { spare = spare })
spare-gone g s core spare gone is = subst (λ (o : Option SpaceState). IsCore g s (record core { spare = o })) (sym gone) (without-spare g s core is)

-- a second state after an equation between states
pub second-is : (g : Setting) (s t : State) (first second : SpaceState) → t ≡ s → IsSecond g s first second → IsSecond g t first second
second-is g s t first second same is = subst (λ (u : State). IsSecond g u first second) (sym same) is

-- with other states
pub with-states : (g : Setting) (s t : State) (core : SpaceCore) (now : SpaceState) (spare : Option SpaceState) → IsCore g s core → IsSpace g t now → IfSome spare (IsSecond g t now) → IsAtRest t
    → IsCore g t (record core { state = now; spare = spare })
with-states g s t core now spare is state other rest = record { id = is.id; fuel = is.fuel; state = state; spare = other; rest = rest }

-- ---- options

pub on-err : {A E : Type 0} (r : Result A E) (P : Type 0) → P → OnErr r P
on-err (Ok x) P h = tt
on-err (Err e) P h = h

pub if-some : {A : Type 0} (o : Option A) (P Q : A → Type 0) → ((x : A) → P x → Q x) → IfSome o P → IfSome o Q
if-some (Some x) P Q each h = each x h
if-some None P Q each h = h

pub some-both : {A : Type 0} (o : Option A) (P Q R : A → Type 0) → ((x : A) → P x → Q x → R x) → IfSome o P → IfSome o Q → IfSome o R
some-both (Some x) P Q R each p q = each x p q
some-both None P Q R each p q = tt

-- after the second state was taken out
pub taken-out : (g : Setting) (s : State) (core new : SpaceCore) → new ≡ record core { spare = None } → IsCore g s core → IsCore g s new
taken-out g s core new same is = core-is g s (record core { spare = None }) new same (without-spare g s core is)

-- a task in hand of both states, after it was taken out
pub own-alone : (core new : SpaceCore) (old task : LentTask) → new ≡ record core { spare = None } → task.task ≡ old.task → has_lent core old ≡ true → has_lent new task ≡ true
own-alone core new old task out same own =
    (λ j. lends (out j) (same j) && fits ((out j).spare) (same j) task.twin)
    ∙ both (lends core old.task) true (own-main core old own) refl

-- ---- as a task is lent

pub fits-lent : (spare : Option SpaceState) (hand : Hand) (twin : Option Hand) (id : ℕ) → hand.id ≡ id → hand.made ≡ 0 → IfSome twin (λ t. IfSome spare (λ x. state.has_lent x t ≡ true))
    → IfSome twin (λ t. (t.id ≡ id) × (t.made ≡ 0)) → fits spare hand twin ≡ true
fits-lent None hand twin id i m own same = refl
fits-lent (Some x) hand None id i m own same = refl
fits-lent (Some x) hand (Some t) id i m own same = fits-both x hand t (same.0 ∙ sym i) (same.1 ∙ sym m) own
