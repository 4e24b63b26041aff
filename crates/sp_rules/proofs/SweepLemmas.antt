-- A Sweep is exact.
use mathlib.Core.Path.{sym, ap, ◌∙◌}
use Rattle.std.specs.Prelude.{◌≡◌, refl, ℕ, Bool, true, false, List, [], ◌∷◌, filter, map, not, cond, ◌||◌}
use Rattle.std.proofs.lemmas.Bool.{true≢false, eqb-true, eq-eqb}
use Rattle.dgc_list.specs.History as owner
use Rattle.space_ids.specs.declared.ids.ObjId.{ObjId}
use Rattle.sp_rules.specs.Classes.{Setting}
use Rattle.sp_rules.specs.Holders
use Rattle.sp_rules.specs.Holders.{has_reason}
use Rattle.sp_rules.specs.Laws.{SweepIsExact}
use Rattle.sp_rules.specs.Lists.{each}
use Rattle.sp_rules.specs.OwnEvents
use Rattle.sp_rules.specs.References.{references_of, is_id, is_id_in}
use Rattle.sp_rules.specs.Space
use Rattle.sp_rules.specs.State
use Rattle.sp_rules.specs.State.{State, Object, Stored, Gone, standing}
use Rattle.sp_rules.proofs.Stable.{Core, IsFramed, each_keeps, drop_keeps, finish_event_keeps}

ids : List Object → List ObjId
ids os = map (λ (o : Object). o.id) os

gone : (ObjId → Bool) → List Object → List Object
gone r os = filter (λ (o : Object). not (r o.id)) os

pub or-true : (b : Bool) → b || true ≡ true
or-true true = refl
or-true false = refl

pub one-id : (a b : ObjId) → is_id a b ≡ true → a ≡ b
one-id a b h = ap {A = ℕ} {B = ObjId} (λ n. record { 0 = n }) (eqb-true a.0 b.0 h)

r-same : (r : ObjId → Bool) (a b : ObjId) → is_id a b ≡ true → r a ≡ true → r b ≡ true
r-same r a b h e = sym (ap r (one-id a b h)) ∙ e

-- what has a reason is not among what goes
stays : (r : ObjId → Bool) (os : List Object) (id : ObjId) → r id ≡ true → is_id_in (ids (gone r os)) id ≡ false
unfolding ids gone
stays r [] id e = refl
stays r (o ∷ os) id e = pick (r o.id) refl (stays r os id e)
  where
    same : (b : Bool) → is_id id o.id ≡ b → r o.id ≡ false → is_id id o.id ≡ false
    same true h f = absurd (true≢false (sym (r-same r id o.id h e) ∙ f))
    same false h f = h

    pick : (b : Bool) → r o.id ≡ b → is_id_in (ids (gone r os)) id ≡ false → is_id_in (ids (cond (not b) (o ∷ gone r os) (gone r os))) id ≡ false
    pick true f rest = rest
    pick false f rest = ap (λ c. c || is_id_in (ids (gone r os)) id) (same (is_id id o.id) refl f) ∙ rest

-- each of these that has no reason is among what goes
AreGone : (ObjId → Bool) → List ObjId → List Object → Type 0
AreGone r going [] = Unit {0}
AreGone r going (o ∷ os) = (r o.id ≡ false → is_id_in going o.id ≡ true) × AreGone r going os

-- the same if more goes
more-gone : (r : ObjId → Bool) (id : ObjId) (going : List ObjId) (os : List Object) → AreGone r going os → AreGone r (id ∷ going) os
unfolding AreGone
more-gone r id going [] a = tt
more-gone r id going (o ∷ os) a = ((λ f. ap (λ c. is_id o.id id || c) (a.0 f) ∙ or-true (is_id o.id id)), more-gone r id going os a.1)

all-gone : (r : ObjId → Bool) (os : List Object) → AreGone r (ids (gone r os)) os
unfolding AreGone ids gone
all-gone r [] = tt
all-gone r (o ∷ os) = pick (r o.id) refl (all-gone r os)
  where
    pick : (b : Bool) → r o.id ≡ b → AreGone r (ids (gone r os)) os
        → (r o.id ≡ false → is_id_in (ids (cond (not b) (o ∷ gone r os) (gone r os))) o.id ≡ true) × AreGone r (ids (cond (not b) (o ∷ gone r os) (gone r os))) os
    pick true f a = ((λ no'. absurd (true≢false (sym f ∙ no'))), a)
    pick false f a = ((λ no'. ap (λ c. c || is_id_in (ids (gone r os)) o.id) (eq-eqb o.id.0 o.id.0 refl)), more-gone r o.id (ids (gone r os)) os a)

-- without what goes there are those that have a reason
left : (r : ObjId → Bool) (going : List ObjId) (os : List Object) → ((id : ObjId) → r id ≡ true → is_id_in going id ≡ false) → AreGone r going os
    → filter (λ (o : Object). not (is_id_in going o.id)) os ≡ filter (λ (o : Object). r o.id) os
unfolding AreGone
left r going [] keep a = refl
left r going (o ∷ os) keep a = pick (r o.id) refl (left r going os keep a.1)
  where
    rest : List Object
    rest = filter (λ (p : Object). not (is_id_in going p.id)) os

    pick : (b : Bool) → r o.id ≡ b → rest ≡ filter (λ (p : Object). r p.id) os
        → cond (not (is_id_in going o.id)) (o ∷ rest) rest ≡ cond b (o ∷ filter (λ (p : Object). r p.id) os) (filter (λ (p : Object). r p.id) os)
    pick true f e = ap (λ c. cond (not c) (o ∷ rest) rest) (keep o.id f) ∙ ap (λ (xs : List Object). o ∷ xs) e
    pick false f e = ap (λ c. cond (not c) (o ∷ rest) rest) (a.0 f) ∙ e

exact : (r : ObjId → Bool) (os : List Object) → filter (λ (o : Object). not (is_id_in (ids (gone r os)) o.id)) os ≡ filter (λ (o : Object). r o.id) os
exact r os = left r (ids (gone r os)) os (λ id e. stays r os id e) (all-gone r os)

-- nothing goes where nothing is without a reason
nothing-goes : (r : ObjId → Bool) (os : List Object) → gone r os ≡ [] → os ≡ filter (λ (o : Object). r o.id) os
unfolding ids gone
nothing-goes r os e = sym (all os) ∙ ap (λ going. filter (λ (o : Object). not (is_id_in (ids going) o.id)) os) (sym e) ∙ exact r os
  where
    all : (xs : List Object) → filter (λ (o : Object). not false) xs ≡ xs
    all [] = refl
    all (x ∷ xs) = ap (λ (ys : List Object). x ∷ ys) (all xs)

-- ---- the end of an event leaves the store alone

abbrev IsStore : List Stored → State → Type 0
IsStore store t = t.store ≡ store

framed : (store : List Stored) → IsFramed (IsStore store)
framed store = record { frame = λ s t e h. ap (λ (c : Core). c.store) e ∙ h }

withdrawn-store : (g : Setting) (s : State) (going : List Object) → (OwnEvents.withdraw g s going).store ≡ Gone (ids going) ∷ s.store
unfolding ids
withdrawn-store g s going =
    let store : List Stored = Gone (map (λ (o : Object). o.id) going) ∷ s.store in
    let t : State = record s { store = Gone (map (λ (o : Object). o.id) going) ∷ s.store } in
    let start : IsStore store t = refl in
    let told : IsStore store (each (λ u id. State.tell_owner (owner.Forget id) u) (map (λ (o : Object). o.id) going) t) = each_keeps (framed store) _ _ (λ u id h. h) start in
    each_keeps (framed store) (λ u (o : Object). Holders.drop g (references_of (Holders.fields_of g s o)) u) going (λ u o h. drop_keeps (framed store) _ h) told

swept : (g : Setting) (s : State) (r : ObjId → Bool) (going : List Object) → going ≡ gone r (standing s.store)
    → standing (OwnEvents.sweep_of g s going).store ≡ filter (λ (o : Object). r o.id) (standing s.store)
swept g s r [] e = nothing-goes r (standing s.store) (sym e)
swept g s r (o ∷ os) e =
    ap standing (withdrawn-store g s (o ∷ os))
    ∙ ap (λ going. filter (λ (p : Object). not (is_id_in (ids going) p.id)) (standing s.store)) e
    ∙ exact r (standing s.store)

pub sweep_is_exact : SweepIsExact
unfolding Space.on Space.happen OwnEvents.on_sweep gone
sweep_is_exact g s =
    let t : State = OwnEvents.sweep_of g s (OwnEvents.without_reason g s) in
    let start : IsStore t.store t = refl in
    ap standing (finish_event_keeps (framed t.store) {s = t} true start)
    ∙ swept g s (has_reason g s) (OwnEvents.without_reason g s) refl

-- what is left of the store once the objects without a reason are gone
abbrev pub store_left : State → List Object → List Stored
store_left s [] = s.store
store_left s (o ∷ os) = Gone (map (λ (p : Object). p.id) (o ∷ os)) ∷ s.store

pub left_exact : (g : Setting) (s : State) → standing (store_left s (OwnEvents.without_reason g s)) ≡ filter (λ (o : Object). has_reason g s o.id) (standing s.store)
unfolding gone ids
left_exact g s = by (OwnEvents.without_reason g s) refl
  where
    by : (going : List Object) → going ≡ filter (λ (o : Object). not (has_reason g s o.id)) (standing s.store) → standing (store_left s going) ≡ filter (λ (o : Object). has_reason g s o.id) (standing s.store)
    by [] e = nothing-goes (has_reason g s) (standing s.store) (sym e)
    by (o ∷ os) e =
        ap (λ going. filter (λ (p : Object). not (is_id_in (map (λ (q : Object). q.id) going) p.id)) (standing s.store)) e
        ∙ exact (has_reason g s) (standing s.store)
