-- Numbers of objects and of tasks never come again.
use mathlib.Core.Path.{sym, ap, subst}
use Rattle.std.specs.Prelude.{◌≡◌, refl, ℕ, ◌+◌, ◌≤◌, ◌==◌, Bool, true, false, List, [], ◌∷◌, ◌++◌, filter, map, not, cond, if◌then◌else◌}
use Rattle.std.proofs.Common.{arith}
use Rattle.sp_rules.specs.Classes.{Setting}
use Rattle.sp_rules.specs.Laws.{RisesWithin, object_numbers, task_numbers, HasFreshNumbers, NumbersAreFresh}
use Rattle.sp_rules.specs.Lists.{at_first}
use Rattle.sp_rules.specs.LivingTasks.{next_object, after_reply, after_steps, waiting}
use Rattle.sp_rules.specs.References.{is_id_in}
use Rattle.sp_rules.specs.Events.{Event}
use Rattle.sp_rules.specs.Space
use Rattle.sp_rules.specs.State.{State, Object, Living, standing, opening}
use Rattle.sp_rules.proofs.Stable.{Core, IsStable, AllowsTelling, AllowsNaming, AllowsWithdrawal, on_keeps}
use Rattle.sp_rules.proofs.WorldLemmas.{all_hold}

-- ---- numbers that rise

end-higher : (n last more : ℕ) (xs : List ℕ) → last ≤ more → RisesWithin n last xs → RisesWithin n more xs
end-higher n last more [] le r = let a : n ≤ last = r in omega arith
end-higher n last more (x ∷ xs) le r = (r.0, end-higher x last more xs le r.1)

begin-lower : (m n last : ℕ) (xs : List ℕ) → m ≤ n → RisesWithin n last xs → RisesWithin m last xs
begin-lower m n last [] le r = let a : n ≤ last = r in omega arith
begin-lower m n last (x ∷ xs) le r = let a : n + 1 ≤ x = r.0 in (omega arith, r.1)

-- one that is next to the last goes after them
one-more : (n last : ℕ) (xs : List ℕ) → RisesWithin n last xs → RisesWithin n (last + 1) (xs ++ (last + 1) ∷ [])
one-more n last [] r = let a : n ≤ last = r in (omega arith, omega arith)
one-more n last (x ∷ xs) r = (r.0, one-more x last xs r.1)

-- of rows some are left out
some-go : {A : Type 0} (f : A → ℕ) (p : A → Bool) (n last : ℕ) (xs : List A) → RisesWithin n last (map f xs) → RisesWithin n last (map f (filter p xs))
some-go f p n last [] r = r
some-go f p n last (x ∷ xs) r = pick (p x) (some-go f p (f x) last xs r.1)
  where
    a : n + 1 ≤ f x
    a = r.0

    le : n ≤ f x
    le = omega (arith, a)

    pick : (b : Bool) → RisesWithin (f x) last (map f (filter p xs)) → RisesWithin n last (map f (cond b (x ∷ filter p xs) (filter p xs)))
    pick true rest = (r.0, rest)
    pick false rest = begin-lower n (f x) last (map f (filter p xs)) le rest

joined : {A : Type 0} (f : A → ℕ) (xs : List A) (x : A) → map f (xs ++ x ∷ []) ≡ map f xs ++ f x ∷ []
joined f [] x = refl
joined f (y ∷ xs) x = ap (λ (ns : List ℕ). f y ∷ ns) (joined f xs x)

-- one row is changed and keeps its number
same-numbers : {A : Type 0} (f : A → ℕ) (p : A → Bool) (g : A → A) (xs : List A) → ((x : A) → f (g x) ≡ f x) → map f (at_first p g xs) ≡ map f xs
same-numbers f p g [] e = refl
same-numbers f p g (x ∷ xs) e = pick (p x) (same-numbers f p g xs e)
  where
    pick : (b : Bool) → map f (at_first p g xs) ≡ map f xs → map f (if b then g x ∷ xs else x ∷ at_first p g xs) ≡ f x ∷ map f xs
    pick true rest = ap (λ (n : ℕ). n ∷ map f xs) (e x)
    pick false rest = ap (λ (ns : List ℕ). f x ∷ ns) rest

-- ---- the property is stable

abbrev pub Fresh : State → Type 0
Fresh s = RisesWithin 0 s.objects_made (object_numbers s) × RisesWithin 0 s.tasks_made (task_numbers s)

abbrev FreshCore : Core → Type 0
FreshCore c = RisesWithin 0 c.objects_made (map (λ (o : Object). o.id.0) (standing c.store)) × RisesWithin 0 c.tasks_made (map (λ (t : Living). t.id) c.tasks)

changed : (s : State) (id : ℕ) (f : Living → Living) → ((t : Living) → (f t).id ≡ t.id) → Fresh s → Fresh (record s { tasks = at_first (λ (u : Living). u.id == id) f s.tasks })
changed s id f e h = (h.0, subst (RisesWithin 0 s.tasks_made) (sym (same-numbers (λ (t : Living). t.id) (λ (u : Living). u.id == id) f s.tasks e)) h.1)

stable : (g : Setting) → IsStable g Fresh
stable g = record {
  framed = record { frame = λ s t e h. subst FreshCore (sym e) h };
  begins = λ s origin method arguments fuel h. (h.0, subst (RisesWithin 0 (s.tasks_made + 1)) (sym (joined (λ (t : Living). t.id) s.tasks _)) (one-more 0 s.tasks_made _ h.1));
  counts = λ s h. (h.0, end-higher 0 s.tasks_made (s.tasks_made + 1) _ (omega arith) h.1);
  ends = λ s id h. (h.0, some-go (λ (t : Living). t.id) (λ (u : Living). not (u.id == id)) 0 s.tasks_made s.tasks h.1);
  replies = λ s id t reply is h. changed s id (after_reply g reply) (λ u. refl) h;
  commits = λ s id k t reply is h. changed s id (λ (u : Living). after_reply g reply (after_steps k u)) (λ u. refl) h;
  waits = λ s id k t is h. changed s id (waiting k) (λ u. refl) h;
  goes_on = λ s id k t is h. changed s id (after_steps k) (λ u. refl) h;
  makes = λ s class h. (subst (RisesWithin 0 (s.objects_made + 1)) (sym (joined (λ (o : Object). o.id.0) (standing s.store) (record { id = next_object s; class = class }))) (one-more 0 s.objects_made _ h.0), h.1);
  writes = λ s id slot value h. h;
}

telling : AllowsTelling Fresh
telling = record { told = λ s call h. h }

naming : AllowsNaming Fresh
naming = record { named = λ s names h. h }

withdrawal : AllowsWithdrawal Fresh
withdrawal = record { gone = λ s ids h. (some-go (λ (o : Object). o.id.0) (λ (o : Object). not (is_id_in ids o.id)) 0 s.objects_made (standing s.store) h.0, h.1) }

nothing : RisesWithin 0 0 []
nothing = omega arith

-- an event keeps numbers fresh
pub fresh_after : (g : Setting) (s : State) (e : Event) → Fresh s → Fresh (Space.on g e s).0
fresh_after g s e h = on_keeps (stable g) s e (λ f. telling) (λ n. naming) (λ w. withdrawal) h

pub numbers_are_fresh : NumbersAreFresh
unfolding opening
numbers_are_fresh settings events =
    all_hold {P = HasFreshNumbers} (record { grows = λ e s lent t h. on_keeps (stable s.setting) s.state e (λ f. telling) (λ n. naming) (λ w. withdrawal) h })
    (λ g. (nothing, nothing)) settings events
