-- Through an event an object that was made before stays the one that it was, or goes.
use mathlib.Core.Path.{sym, ap, subst, ◌∙◌}
use Rattle.std.proofs.Common.{arith, inl, inr}
use Rattle.std.proofs.lemmas.Bool.{true≢false}
use Rattle.std.specs.Prelude.{◌≡◌, ◌⊎◌, refl, ◌+◌, ◌≤◌, not, cond, Bool, true, false, List, [], ◌∷◌, ◌++◌, Option, None, Some, filter, find}
use Rattle.space_ids.specs.declared.ids.ObjId.{ObjId}
use Rattle.sp_rules.specs.Classes.{Setting}
use Rattle.sp_rules.specs.Events.{Event}
use Rattle.sp_rules.specs.Laws.{AllOf}
use Rattle.sp_rules.specs.LivingTasks
use Rattle.sp_rules.specs.References.{is_id, is_id_in}
use Rattle.sp_rules.specs.Space
use Rattle.sp_rules.specs.State.{State, Object, Stored, standing, object_at}
use Rattle.sp_rules.proofs.AllLemmas.{all-found, found-is}
use Rattle.sp_rules.proofs.Stable.{Core, IsStable, core_of, on_keeps}
use Rattle.sp_rules.proofs.SweepLemmas.{one-id}

-- ---- what is found in lists

-- what is found before the last of a list, or is the last
found-before : (id : ObjId) (os : List Object) (x o : Object) → find (λ (p : Object). is_id p.id id) (os ++ x ∷ []) ≡ Some o → (find (λ (p : Object). is_id p.id id) os ≡ Some o) ⊎ (is_id x.id id ≡ true)
found-before id [] x o e = pick (is_id x.id id) e
  where
    pick : (b : Bool) → cond b (Some x) None ≡ Some o → (None ≡ Some o) ⊎ (b ≡ true)
    pick true f = inr refl
    pick false f = inl f
found-before id (p ∷ os) x o e = pick (is_id p.id id) e (found-before id os x o)
  where
    pick : (b : Bool) → cond b (Some p) (find (λ (q : Object). is_id q.id id) (os ++ x ∷ [])) ≡ Some o
        → (find (λ (q : Object). is_id q.id id) (os ++ x ∷ []) ≡ Some o → (find (λ (q : Object). is_id q.id id) os ≡ Some o) ⊎ (is_id x.id id ≡ true))
        → (cond b (Some p) (find (λ (q : Object). is_id q.id id) os) ≡ Some o) ⊎ (is_id x.id id ≡ true)
    pick true f rest = inl f
    pick false f rest = rest f

all-kept : (keep : ObjId → Bool) (os : List Object) → AllOf (λ (o : Object). keep o.id ≡ true) (filter (λ (o : Object). keep o.id) os)
all-kept keep [] = tt
all-kept keep (o ∷ os) = pick (keep o.id) refl (all-kept keep os)
  where
    pick : (b : Bool) → keep o.id ≡ b → AllOf (λ (p : Object). keep p.id ≡ true) (filter (λ (p : Object). keep p.id) os) → AllOf (λ (p : Object). keep p.id ≡ true) (cond b (o ∷ filter (λ (p : Object). keep p.id) os) (filter (λ (p : Object). keep p.id) os))
    pick true is rest = (is, rest)
    pick false is rest = rest

-- what is found among what is kept was found before
found-kept : (keep : ObjId → Bool) (os : List Object) (id : ObjId) (o : Object) → find (λ (p : Object). is_id p.id id) (filter (λ (p : Object). keep p.id) os) ≡ Some o → find (λ (p : Object). is_id p.id id) os ≡ Some o
found-kept keep [] id o e = e
found-kept keep (p ∷ os) id o e = pick (keep p.id) refl e (found-kept keep os id o)
  where
    kept : (b : Bool) → cond b (Some p) (find (λ (q : Object). is_id q.id id) (filter (λ (q : Object). keep q.id) os)) ≡ Some o
        → (find (λ (q : Object). is_id q.id id) (filter (λ (q : Object). keep q.id) os) ≡ Some o → find (λ (q : Object). is_id q.id id) os ≡ Some o)
        → cond b (Some p) (find (λ (q : Object). is_id q.id id) os) ≡ Some o
    kept true f more = f
    kept false f more = more f

    gone : keep p.id ≡ false → (b : Bool) → is_id p.id id ≡ b → find (λ (q : Object). is_id q.id id) (filter (λ (q : Object). keep q.id) os) ≡ Some o
        → (find (λ (q : Object). is_id q.id id) (filter (λ (q : Object). keep q.id) os) ≡ Some o → find (λ (q : Object). is_id q.id id) os ≡ Some o)
        → cond b (Some p) (find (λ (q : Object). is_id q.id id) os) ≡ Some o
    gone out true is f more =
        let same : o.id ≡ p.id = one-id o.id id (found-is (λ (q : Object). is_id q.id id) (filter (λ (q : Object). keep q.id) os) o f) ∙ sym (one-id p.id id is) in
        let in-it : keep o.id ≡ true = all-found (λ (q : Object). keep q.id ≡ true) (λ (q : Object). is_id q.id id) (filter (λ (q : Object). keep q.id) os) o f (all-kept keep os) in
        absurd (true≢false (sym in-it ∙ (ap keep same ∙ out)))
    gone out false is f more = more f

    pick : (b : Bool) → keep p.id ≡ b → find (λ (q : Object). is_id q.id id) (cond b (p ∷ filter (λ (q : Object). keep q.id) os) (filter (λ (q : Object). keep q.id) os)) ≡ Some o
        → (find (λ (q : Object). is_id q.id id) (filter (λ (q : Object). keep q.id) os) ≡ Some o → find (λ (q : Object). is_id q.id id) os ≡ Some o)
        → cond (is_id p.id id) (Some p) (find (λ (q : Object). is_id q.id id) os) ≡ Some o
    pick true is f more = kept (is_id p.id id) f more
    pick false is f more = gone is (is_id p.id id) refl f more

-- ---- through an event

abbrev object_in : List Stored → ObjId → Option Object
object_in store id = find (λ (o : Object). is_id o.id id) (standing store)

-- what stands of a state's objects stands there
record FromCore (before : State) (c : Core) : Type 0 where
  made : before.objects_made ≤ c.objects_made
  from : (id : ObjId) (o : Object) → object_in c.store id ≡ Some o → id.0 ≤ before.objects_made → object_at before id ≡ Some o

abbrev From : State → State → Type 0
From before s = FromCore before (core_of s)

made-later : (before s : State) (o : Object) → o.id ≡ LivingTasks.next_object s → From before s → (id : ObjId) → is_id o.id id ≡ true → id.0 ≤ before.objects_made → ⊥
made-later before s o new h id is low =
    let a : s.objects_made + 1 ≡ id.0 = ap (λ (i : ObjId). i.0) (sym new ∙ one-id o.id id is) in
    let b : before.objects_made ≤ s.objects_made = h.made in omega (arith, a, b, low)

stable : (g : Setting) (before : State) → IsStable g (From before)
stable g before = record {
  framed = record { frame = λ s t e h. subst (FromCore before) (sym e) h };
  begins = λ s origin method arguments fuel h. record { made = h.made; from = h.from };
  counts = λ s h. record { made = h.made; from = h.from };
  ends = λ s id h. record { made = h.made; from = h.from };
  replies = λ s id t reply is h. record { made = h.made; from = h.from };
  commits = λ s id k t reply is h. record { made = h.made; from = h.from };
  waits = λ s id k t is h. record { made = h.made; from = h.from };
  goes_on = λ s id k t is h. record { made = h.made; from = h.from };
  makes = λ s class h.
      let new : Object = record { id = LivingTasks.next_object s; class = class } in
      record {
        made = let a : before.objects_made ≤ s.objects_made = h.made in omega arith;
        from = λ id o e low. either before s new refl h id o low (found-before id (standing s.store) new o e);
      };
  writes = λ s id slot value h. record { made = h.made; from = h.from };
}
  where
    either : (before s : State) (new : Object) → new.id ≡ LivingTasks.next_object s → From before s → (id : ObjId) (o : Object) → id.0 ≤ before.objects_made → (object_in s.store id ≡ Some o) ⊎ (is_id new.id id ≡ true) → object_at before id ≡ Some o
    either before s new next h id o low (inl e) = h.from id o e low
    either before s new next h id o low (inr is) = absurd (made-later before s new next h id is low)

-- An object that stands after an event stood before, if its number was given; and numbers are not taken back.
pub record ObjectsGoOn (before s : State) : Type 0 where
  pub made : before.objects_made ≤ s.objects_made
  pub from : (id : ObjId) (o : Object) → object_at s id ≡ Some o → id.0 ≤ before.objects_made → object_at before id ≡ Some o

pub objects-go-on : (g : Setting) (s : State) (e : Event) → ObjectsGoOn s (Space.on g e s).0
objects-go-on g s e = by (on_keeps (stable g s) s e (λ f. record { told = λ t call h. record { made = h.made; from = h.from } }) (λ n. record { named = λ t names h. record { made = h.made; from = h.from } })
    (λ w. record { gone = λ t ids h. record { made = h.made; from = λ id o e low. h.from id o (found-kept (λ i. not (is_id_in ids i)) (standing t.store) id o e) low } })
    (record { made = omega arith; from = λ id o e low. e }))
  where
    by : From s (Space.on g e s).0 → ObjectsGoOn s (Space.on g e s).0
    by h = record { made = h.made; from = h.from }
