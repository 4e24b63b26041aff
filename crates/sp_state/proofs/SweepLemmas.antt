-- What a Sweep withdraws, by ids.
use Rattle.std.proofs.Common.{◌≡◌, ℕ, ◌<◌, ◌≤◌, arith, Bool, true, false, cond, List, [], ◌∷◌, ◌++◌, Option, Some, refl, sym, ap, ◌∙◌, filter, length, map, unwrap_or, append_assoc}
use Rattle.std.specs.Prelude.{◌||◌, not, option_map, find}
use Rattle.std.specs.List.{flat_map}
use Rattle.std.proofs.lemmas.Bool.{eq-eqb, eqb-true}
use Rattle.space_ids.specs.declared.ids.ForeignId.{ForeignId}
use Rattle.space_ids.specs.declared.ids.ObjId.{ObjId}
use Rattle.space_ids.specs.declared.ids.Ref.{Ref}
use Rattle.dgc_list.specs.History as owner
use Rattle.sp_rules.specs.Classes.{Setting}
use Rattle.sp_rules.specs.Events.{Withdrawn}
use Rattle.sp_rules.specs.Holders.{drop, drop_ids, fields_of, has_entry, has_reason, is_bound, is_held_by_tasks, is_in_a_field, is_in_a_result, is_parked, holder_goes}
use Rattle.sp_rules.specs.Laws.{AllOf, RisesWithin}
use Rattle.sp_rules.specs.Lists.{each}
use Rattle.sp_rules.specs.OwnEvents.{on_sweep, sweep_of, without_reason}
use Rattle.sp_rules.specs.References.{foreign_id, foreign_ids, is_id, is_id_in, references_of}
use Rattle.sp_rules.specs.State.{State, Gone, Object, object_at, say, standing, tell_owner}
use Rattle.sp_rules.proofs.AllLemmas.{all-filter}
use Rattle.sp_owner.specs.Owners.{idle, owner_parts, without}
use Rattle.sp_endings.specs.Needs.{is_needed}
use Rattle.sp_state.specs.Spaces.{AreNumbered}
use Rattle.sp_state.proofs.SpaceLemmas.{with_owner}
use Rattle.sp_state.specs.Sweeping.{fields_at, idle_of, withdrawn}

-- ---- what has no reason to stay

other-order : (b e h f r p : Bool) → (b || (e || (h || (f || (r || p))))) ≡ (b || (e || (f || (h || (r || p)))))
other-order true e h f r p = refl
other-order false true h f r p = refl
other-order false false true true r p = refl
other-order false false true false r p = refl
other-order false false false true r p = refl
other-order false false false false r p = refl

reasons : (g : Setting) (s : State) (needed : List ObjId) (id : ObjId) → is_id_in needed id ≡ is_needed g s id
    → has_reason g s id ≡ (is_bound s id || (has_entry s id || (is_in_a_field g s id || is_id_in needed id)))
unfolding has_reason
reasons g s needed id same =
    other-order (is_bound s id) (has_entry s id) (is_held_by_tasks g s id) (is_in_a_field g s id) (is_in_a_result g s id) (is_parked g s id)
    ∙ ap (λ n. is_bound s id || (has_entry s id || (is_in_a_field g s id || n))) (sym same)

filter-same : {A : Type 0} (p q : A → Bool) → ((x : A) → p x ≡ q x) → (xs : List A) → filter p xs ≡ filter q xs
filter-same p q same [] = refl
filter-same p q same (x ∷ xs) = λ j. cond (same x j) (x ∷ filter-same p q same xs j) (filter-same p q same xs j)

pub idle-is : (g : Setting) (s : State) (needed : List ObjId) → ((id : ObjId) → is_id_in needed id ≡ is_needed g s id) → idle g s needed ≡ idle_of g s
idle-is g s needed same = ap (map (λ (o : Object). o.id))
    (sym (filter-same (λ (o : Object). not (has_reason g s o.id)) (λ (o : Object). not (is_bound s o.id || (has_entry s o.id || (is_in_a_field g s o.id || is_id_in needed o.id)))) (λ o. ap not (reasons g s needed o.id (same o.id))) (standing s.store)))

-- ---- objects by their ids

Found : List Object → Object → Type 0
Found os o = find (λ (p : Object). is_id p.id o.id) os ≡ Some o

above : (n last : ℕ) (os : List Object) → RisesWithin n last (map (λ (o : Object). o.id.0) os) → AllOf (λ (o : Object). n < o.id.0) os
above n last [] r = tt
above n last (o ∷ os) r = (omega (arith, r.0), all-higher n o.id.0 os (omega (arith, r.0)) (above o.id.0 last os r.1))
  where
    all-higher : (n m : ℕ) (os : List Object) → n < m → AllOf (λ (o : Object). m < o.id.0) os → AllOf (λ (o : Object). n < o.id.0) os
    all-higher n m [] h a = tt
    all-higher n m (o ∷ os) h a = (let b = a.0 in omega arith, all-higher n m os h a.1)

not-same : (a b : ObjId) → a.0 < b.0 → is_id a b ≡ false
not-same a b less = elim (is_id a b) as (λ t. is_id a b ≡ t → t ≡ false) [
  | true ↦ λ e. let same = eqb-true a.0 b.0 e in absurd (omega arith)
  | false ↦ λ e. refl
] refl

later-found : (o : Object) (os : List Object) (xs : List Object) → AllOf (λ (p : Object). o.id.0 < p.id.0) xs → AllOf (λ x. find (λ (p : Object). is_id p.id x.id) os ≡ Some x) xs → AllOf (λ x. find (λ (p : Object). is_id p.id x.id) (o ∷ os) ≡ Some x) xs
later-found o os [] a f = tt
later-found o os (x ∷ xs) a f =
    (ap (λ b. cond b (Some o) (find (λ (p : Object). is_id p.id x.id) os)) (not-same o.id x.id a.0) ∙ f.0, later-found o os xs a.1 f.1)

all-found : (n last : ℕ) (os : List Object) → RisesWithin n last (map (λ (o : Object). o.id.0) os) → AllOf (λ x. find (λ (p : Object). is_id p.id x.id) os ≡ Some x) os
all-found n last [] r = tt
all-found n last (o ∷ os) r =
    (ap (λ b. cond b (Some o) (find (λ (p : Object). is_id p.id o.id) os)) (eq-eqb o.id.0 o.id.0 refl), later-found o os os (above o.id.0 last os r.1) (all-found o.id.0 last os r.1))

-- ---- references that go

flat-append : {A B : Type 0} (f : A → List B) (xs ys : List A) → flat_map f (xs ++ ys) ≡ flat_map f xs ++ flat_map f ys
flat-append f [] ys = refl
flat-append f (x ∷ xs) ys = ap (λ zs. f x ++ zs) (flat-append f xs ys) ∙ sym (append_assoc (f x) (flat_map f xs) (flat_map f ys))

dropped-append : (xs ys : List ForeignId) (s : State) → drop_ids (xs ++ ys) s ≡ drop_ids ys (drop_ids xs s)
unfolding drop_ids each
dropped-append [] ys s = refl
dropped-append (x ∷ xs) ys s = dropped-append xs ys (holder_goes s x)

dropped-none : (s : State) → drop_ids [] s ≡ s
unfolding drop_ids each
dropped-none s = refl

drop-append : (g : Setting) (xs ys : List Ref) (s : State) → drop g (xs ++ ys) s ≡ drop g ys (drop g xs s)
drop-append g xs ys s = ap (λ ids. drop_ids ids s) (flat-append (foreign_id g.id) xs ys) ∙ dropped-append (foreign_ids g.id xs) (foreign_ids g.id ys) s

dropped-by-ids : (g : Setting) (s : State) (gone : List Object) (u : State) → AllOf (λ (o : Object). object_at s o.id ≡ Some o) gone
    → each (λ t (o : Object). drop g (references_of (fields_of g s o)) t) gone u ≡ drop g (flat_map (fields_at g s) (map (λ (o : Object). o.id) gone)) u
unfolding each
dropped-by-ids g s [] u found = sym (dropped-none u)
dropped-by-ids g s (o ∷ os) u found =
    dropped-by-ids g s os (drop g (references_of (fields_of g s o)) u) found.1
    ∙ sym (ap (λ (p : Option Object). drop g (unwrap_or (option_map (λ (q : Object). references_of (fields_of g s q)) p) [] ++ flat_map (fields_at g s) (map (λ (q : Object). q.id) os)) u) found.0
    ∙ drop-append g (references_of (fields_of g s o)) (flat_map (fields_at g s) (map (λ (q : Object). q.id) os)) u)

-- ---- a Sweep

pub nothing-goes : (g : Setting) (s : State) → idle_of g s ≡ [] → on_sweep g s ≡ s
unfolding on_sweep
nothing-goes g s none = of (without_reason g s) none
  where
    of : (gone : List Object) → map (λ (o : Object). o.id) gone ≡ [] → sweep_of g s gone ≡ s
    of [] e = refl
    of (o ∷ os) e = cc

pub some-go : (g : Setting) (s : State) → AreNumbered (owner_parts s) → (idle_of g s ≡ [] → ⊥) → on_sweep g s ≡ withdrawn g (idle_of g s) s
unfolding on_sweep
some-go g s numbers some = of (without_reason g s) (all-filter (λ (x : Object). object_at s x.id ≡ Some x) (λ (o : Object). not (has_reason g s o.id)) (standing s.store) (all-found 0 s.objects_made (standing s.store) numbers)) some
  where
    of : (gone : List Object) → AllOf (λ (o : Object). object_at s o.id ≡ Some o) gone → (map (λ (o : Object). o.id) gone ≡ [] → ⊥) → sweep_of g s gone ≡ withdrawn g (map (λ (o : Object). o.id) gone) s
    of [] found some = absurd (some refl)
    of (o ∷ os) found some =
        ap (say (Withdrawn (map (λ (p : Object). p.id) (o ∷ os)))) (dropped-by-ids g s (o ∷ os) (without (map (λ (p : Object). p.id) (o ∷ os)) s) found)

-- ---- numbers

numbers-left : (n last : ℕ) (is : Object → Bool) (os : List Object) → RisesWithin n last (map (λ (o : Object). o.id.0) os) → RisesWithin n last (map (λ (o : Object). o.id.0) (filter is os))
numbers-left n last is [] r = r
numbers-left n last is (o ∷ os) r = elim (is o) as (λ b. RisesWithin n last (map (λ (p : Object). p.id.0) (cond b (o ∷ filter is os) (filter is os)))) [
  | true ↦ (r.0, numbers-left o.id.0 last is os r.1)
  | false ↦ lower n o.id.0 (filter is os) (omega (arith, r.0)) (numbers-left o.id.0 last is os r.1)
]
  where
    lower : (n m : ℕ) (os : List Object) → n ≤ m → RisesWithin m last (map (λ (o : Object). o.id.0) os) → RisesWithin n last (map (λ (o : Object). o.id.0) os)
    lower n m [] h r = omega arith
    lower n m (o ∷ os) h r = (let a = r.0 in omega arith, r.1)

forgotten-numbered : (ids : List ObjId) (u : State) → AreNumbered (owner_parts u) → AreNumbered (owner_parts (each (λ t id. tell_owner (owner.Forget id) t) ids u))
unfolding each
forgotten-numbered [] u is = is
forgotten-numbered (id ∷ ids) u is = forgotten-numbered ids (tell_owner (owner.Forget id) u) is

-- The objects that are left have numbers as before.
pub without-numbered : (ids : List ObjId) (s : State) → AreNumbered (owner_parts s) → AreNumbered (owner_parts (without ids s))
without-numbered [] s is = forgotten-numbered [] s is
without-numbered (id ∷ ids) s is =
    forgotten-numbered (id ∷ ids) (record s { store = Gone (id ∷ ids) ∷ s.store })
    (numbers-left 0 s.objects_made (λ (o : Object). not (is_id_in (id ∷ ids) o.id)) (standing s.store) is)

forgotten-still : (ids : List ObjId) (u : State) → with_owner (owner_parts (each (λ t id. tell_owner (owner.Forget id) t) ids u)) u ≡ each (λ t id. tell_owner (owner.Forget id) t) ids u
unfolding each
forgotten-still [] u = refl
forgotten-still (id ∷ ids) u = forgotten-still ids (tell_owner (owner.Forget id) u)

-- Withdrawal changes the owner's parts alone.
pub without-still : (ids : List ObjId) (s : State) → with_owner (owner_parts (without ids s)) s ≡ without ids s
without-still [] s = forgotten-still [] s
without-still (id ∷ ids) s = forgotten-still (id ∷ ids) (record s { store = Gone (id ∷ ids) ∷ s.store })

pub not-empty : {A : Type 0} (xs : List A) → length xs ≡ 0 → xs ≡ []
not-empty [] e = refl
not-empty (x ∷ xs) e = absurd (omega (arith, e))
