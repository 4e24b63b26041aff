-- Each event that a space takes leaves a store whose objects are of remote classes and whose fields hold values of their kinds.
use mathlib.Core.Path.{sym, ap, subst, ◌∙◌}
use Rattle.std.specs.Prelude.{◌≡◌, refl, ℕ, ◌+◌, ◌≤◌, ◌==◌, ◌&&◌, ◌⊎◌, not, nat_le, length, Bool, true, false, cond, List, [], ◌∷◌, ◌++◌, Option, None, Some, filter, find, if◌then◌else◌}
use Rattle.std.proofs.Common.{arith, inl, inr}
use Rattle.std.proofs.lemmas.Bool.{true≢false, eqb-true}
use Rattle.space_ids.specs.declared.ids.ClassId.{ClassId}
use Rattle.space_ids.specs.declared.ids.ObjId.{ObjId}
use Rattle.space_ids.specs.declared.value.Value.{Value}
use Rattle.sp_rules.specs.Behaviours.{Op, Create, Get, Put, Call}
use Rattle.sp_rules.specs.Classes.{Setting, field_kind, fits_field}
use Rattle.sp_rules.specs.Events.{Event, Moment, Sweep, Root, RootAck, Bind, Rebind, Unbind, Lookup, Opened, Refused, Received, Closed, ReadFailed, Bad, WriteFailed, Committed, Parked, GivenBack, Finished}
use Rattle.sp_rules.specs.Laws.{AllOf}
use Rattle.sp_rules.specs.Origins.{IsTaken}
use Rattle.sp_rules.specs.OwnEvents
use Rattle.sp_rules.specs.References.{is_id, is_id_in}
use Rattle.sp_rules.specs.Refusals
use Rattle.sp_rules.specs.Refusals.{first_refusal, checks, refusal}
use Rattle.sp_rules.specs.Space
use Rattle.sp_rules.specs.State.{State, Object, Stored, Made, Written, Gone, standing, last_written, opening, task_at}
use Rattle.sp_rules.proofs.AllLemmas.{some-none, all-found, found-is}
use Rattle.sp_rules.proofs.OwnLemmas.{unrefused, first-of, not-false, some-same, own-only}
use Rattle.sp_rules.proofs.SweepLemmas.{one-id, store_left}
use Rattle.sp_behaviours.specs.Stores.{StoresFit}
use Rattle.sp_behaviours.proofs.StoreRules
use Rattle.sp_behaviours.proofs.StoreRules.{stored_by, leaves_store}

-- ---- what is found in lists

-- the last of a list is found if none before it is
find-last : {A : Type 0} (is : A → Bool) (xs : List A) (x y : A) → find is (xs ++ x ∷ []) ≡ Some y → (find is xs ≡ Some y) ⊎ ((x ≡ y) × (is x ≡ true))
find-last is [] x y e = pick (is x) refl e
  where
    pick : (b : Bool) → is x ≡ b → cond b (Some x) None ≡ Some y → (None ≡ Some y) ⊎ ((x ≡ y) × (is x ≡ true))
    pick true t f = inr (some-same f, t)
    pick false t f = inl f
find-last is (z ∷ xs) x y e = pick (is z) e (find-last is xs x y)
  where
    pick : (b : Bool) → cond b (Some z) (find is (xs ++ x ∷ [])) ≡ Some y → (find is (xs ++ x ∷ []) ≡ Some y → (find is xs ≡ Some y) ⊎ ((x ≡ y) × (is x ≡ true)))
        → (cond b (Some z) (find is xs) ≡ Some y) ⊎ ((x ≡ y) × (is x ≡ true))
    pick true f rest = inl f
    pick false f rest = rest f

all-left : {A : Type 0} (is : A → Bool) (xs : List A) → AllOf (λ x. is x ≡ true) (filter is xs)
all-left is [] = tt
all-left is (x ∷ xs) = pick (is x) refl (all-left is xs)
  where
    pick : (b : Bool) → is x ≡ b → AllOf (λ y. is y ≡ true) (filter is xs) → AllOf (λ y. is y ≡ true) (cond b (x ∷ filter is xs) (filter is xs))
    pick true t rest = (t, rest)
    pick false t rest = rest

-- what is found among what is left was found before
found-left : (keep : ObjId → Bool) (os : List Object) (id : ObjId) (o : Object) → find (λ (p : Object). is_id p.id id) (filter (λ (p : Object). keep p.id) os) ≡ Some o → find (λ (p : Object). is_id p.id id) os ≡ Some o
found-left keep [] id o e = e
found-left keep (p ∷ os) id o e = pick (keep p.id) refl e (found-left keep os id o)
  where
    with-kept : (b : Bool) → cond b (Some p) (find (λ (q : Object). is_id q.id id) (filter (λ (q : Object). keep q.id) os)) ≡ Some o
        → (find (λ (q : Object). is_id q.id id) (filter (λ (q : Object). keep q.id) os) ≡ Some o → find (λ (q : Object). is_id q.id id) os ≡ Some o)
        → cond b (Some p) (find (λ (q : Object). is_id q.id id) os) ≡ Some o
    with-kept true f more = f
    with-kept false f more = more f

    without : keep p.id ≡ false → (b : Bool) → is_id p.id id ≡ b → find (λ (q : Object). is_id q.id id) (filter (λ (q : Object). keep q.id) os) ≡ Some o
        → (find (λ (q : Object). is_id q.id id) (filter (λ (q : Object). keep q.id) os) ≡ Some o → find (λ (q : Object). is_id q.id id) os ≡ Some o)
        → cond b (Some p) (find (λ (q : Object). is_id q.id id) os) ≡ Some o
    without gone true t f more =
        let same : o.id ≡ p.id = one-id o.id id (found-is (λ (q : Object). is_id q.id id) _ o f) ∙ sym (one-id p.id id t) in
        let kept : keep o.id ≡ true = all-found (λ (q : Object). keep q.id ≡ true) (λ (q : Object). is_id q.id id) _ o f (all-left (λ (q : Object). keep q.id) os) in
        absurd (true≢false (sym kept ∙ (ap keep same ∙ gone)))
    without gone false t f more = more f

    pick : (b : Bool) → keep p.id ≡ b → find (λ (q : Object). is_id q.id id) (cond b (p ∷ filter (λ (q : Object). keep q.id) os) (filter (λ (q : Object). keep q.id) os)) ≡ Some o
        → (find (λ (q : Object). is_id q.id id) (filter (λ (q : Object). keep q.id) os) ≡ Some o → find (λ (q : Object). is_id q.id id) os ≡ Some o)
        → cond (is_id p.id id) (Some p) (find (λ (q : Object). is_id q.id id) os) ≡ Some o
    pick true t f more = with-kept (is_id p.id id) f more
    pick false t f more = without t (is_id p.id id) refl f more

-- ---- a store by itself

abbrev object_in : List Stored → ObjId → Option Object
object_in store id = find (λ (o : Object). is_id o.id id) (standing store)

record Fits (g : Setting) (store : List Stored) : Type 0 where
  remote : (id : ObjId) (o : Object) → object_in store id ≡ Some o → g.classes.is_remote o.class ≡ true
  written : (id : ObjId) (o : Object) (slot : ℕ) (value : Value) → object_in store id ≡ Some o → last_written store id slot ≡ Some value → fits_field (field_kind g.classes o.class slot) value ≡ true

-- nothing was put into a field of an object that is not made yet
abbrev Unwritten : List Stored → ℕ → Type 0
Unwritten store made = (id : ObjId) (slot : ℕ) → made + 1 ≤ id.0 → last_written store id slot ≡ None

made-fits : (g : Setting) (store : List Stored) (made : ℕ) (class : ClassId) → g.classes.is_remote class ≡ true → Unwritten store made → Fits g store → Fits g (Made (record { 0 = made + 1 }) class ∷ store)
made-fits g store made class is none h = record {
  remote = λ id o e. remote id o (find-last (λ (p : Object). is_id p.id id) (standing store) new o e);
  written = λ id o slot value e w. written id o slot value w (find-last (λ (p : Object). is_id p.id id) (standing store) new o e);
}
  where
    new : Object
    new = record { id = record { 0 = made + 1 }; class = class }

    remote : (id : ObjId) (o : Object) → (object_in store id ≡ Some o) ⊎ ((new ≡ o) × (is_id new.id id ≡ true)) → g.classes.is_remote o.class ≡ true
    remote id o (inl f) = h.remote id o f
    remote id o (inr x) = subst (λ (q : Object). g.classes.is_remote q.class ≡ true) x.0 is

    written : (id : ObjId) (o : Object) (slot : ℕ) (value : Value) → last_written store id slot ≡ Some value → (object_in store id ≡ Some o) ⊎ ((new ≡ o) × (is_id new.id id ≡ true)) → fits_field (field_kind g.classes o.class slot) value ≡ true
    written id o slot value w (inl f) = h.written id o slot value f w
    written id o slot value w (inr x) =
        let n : made + 1 ≡ id.0 = ap (λ (i : ObjId). i.0) (one-id new.id id x.1) in
        absurd (some-none value (sym w ∙ none id slot (omega (arith, n))))

written-fits : (g : Setting) (store : List Stored) (to : ObjId) (at : ℕ) (value : Value) → ((o : Object) → object_in store to ≡ Some o → fits_field (field_kind g.classes o.class at) value ≡ true) → Fits g store → Fits g (Written to at value ∷ store)
written-fits g store to at value fit h = record { remote = h.remote; written = λ id o slot v e w. pick id o slot v e (is_id to id) refl (at == slot) refl w }
  where
    pick : (id : ObjId) (o : Object) (slot : ℕ) (v : Value) → object_in store id ≡ Some o → (a : Bool) → is_id to id ≡ a → (b : Bool) → (at == slot) ≡ b
        → (if a && b then Some value else last_written store id slot) ≡ Some v → fits_field (field_kind g.classes o.class slot) v ≡ true
    pick id o slot v e true i true j w =
        let there : object_in store to ≡ Some o = subst (λ x. object_in store x ≡ Some o) (sym (one-id to id i)) e in
        subst (λ x. fits_field (field_kind g.classes o.class slot) x ≡ true) (some-same w) (subst (λ n. fits_field (field_kind g.classes o.class n) value ≡ true) (eqb-true at slot j) (fit o there))
    pick id o slot v e true i false j w = h.written id o slot v e w
    pick id o slot v e false i b j w = h.written id o slot v e w

gone-fits : (g : Setting) (store : List Stored) (ids : List ObjId) → Fits g store → Fits g (Gone ids ∷ store)
gone-fits g store ids h = record {
  remote = λ id o e. h.remote id o (before id o e);
  written = λ id o slot value e w. h.written id o slot value (before id o e) w;
}
  where
    before : (id : ObjId) (o : Object) → object_in (Gone ids ∷ store) id ≡ Some o → object_in store id ≡ Some o
    before id o e = found-left (λ i. not (is_id_in ids i)) (standing store) id o e

-- ---- what an event that is taken makes of it

-- a task asks for what it holds, and what fits
pub op-fits : (g : Setting) (lent : List ℕ) (s : State) (task k : ℕ) (op : Op) → refusal g lent s (Committed task k op) ≡ None
    → (Refusals.holds_op g (task_at s task) op ≡ true) × (Refusals.fits_store g s op ≡ true)
op-fits g lent s task k op e =
    let held : List Refusals.Check = Refusals.refuse_if (not (Refusals.holds_op g (task_at s task) op)) Refusals.NotHeld in
    let kind : List Refusals.Check = Refusals.check_committed g s op (Refusals.stand_after k (task_at s task)) in
    let a = first-of (not (Refusals.is_in_hand lent s task)) Refusals.NotLent (held ++ kind) (unrefused g lent s (Committed task k op) e) in
    let b = first-of (not (Refusals.holds_op g (task_at s task) op)) Refusals.NotHeld kind a.1 in
    let c = first-of (not (Refusals.fits_store g s op)) Refusals.WrongKind (Refusals.refuse_if (not (Refusals.stands_at op (Refusals.stand_after k (task_at s task)))) Refusals.WrongKind) b.1 in
    (not-false (Refusals.holds_op g (task_at s task) op) b.0, not-false (Refusals.fits_store g s op) c.0)

done-fits : (g : Setting) (s : State) (op : Op) → Refusals.fits_store g s op ≡ true → Unwritten s.store s.objects_made → Fits g s.store → Fits g (stored_by op s.store s.objects_made)
done-fits g s (Create class) f none h = pick (nat_le 65536 (length (standing s.store)))
  where
    pick : (full : Bool) → Fits g (if full then s.store else Made (record { 0 = s.objects_made + 1 }) class ∷ s.store)
    pick true = h
    pick false = made-fits g s.store s.objects_made class f none h
done-fits g s (Get id slot) f none h = h
done-fits g s (Put id slot value) f none h = written-fits g s.store id slot value (λ o is. subst (λ x. Refusals.takes_value g x slot value ≡ true) is f) h
done-fits g s (Call target method arguments) f none h = h

left-fits : (g : Setting) (s : State) (going : List Object) → Fits g s.store → Fits g (store_left s going)
left-fits g s [] h = h
left-fits g s (o ∷ os) h = gone-fits g s.store _ h

committed-fits : (g : Setting) (lent : List ℕ) (s : State) (task k : ℕ) (op : Op) → refusal g lent s (Committed task k op) ≡ None → Unwritten s.store s.objects_made → Fits g s.store → Fits g (Space.on g (Committed task k op) s).0.store
committed-fits g lent s task k op t none h = by (StoreRules.committed g task k op s)
  where
    by : ((Space.on g (Committed task k op) s).0.store ≡ s.store) ⊎ ((Space.on g (Committed task k op) s).0.store ≡ stored_by op s.store s.objects_made) → Fits g (Space.on g (Committed task k op) s).0.store
    by (inl e) = subst (Fits g) (sym e) h
    by (inr e) = subst (Fits g) (sym e) (done-fits g s op (op-fits g lent s task k op t).1 none h)

other-fits : (g : Setting) (s : State) (e : Event) → leaves_store e ≡ true → Fits g s.store → Fits g (Space.on g e s).0.store
other-fits g s e other h = subst (Fits g) (sym (StoreRules.left g e s other)) h

taken-fits : (g : Setting) (lent : List ℕ) (s : State) (e : Event) → refusal g lent s e ≡ None → Unwritten s.store s.objects_made → Fits g s.store → Fits g (Space.on g e s).0.store
taken-fits g lent s Sweep t none h = subst (Fits g) (sym (StoreRules.swept g s)) (left-fits g s (OwnEvents.without_reason g s) h)
taken-fits g lent s (Committed task k op) t none h = committed-fits g lent s task k op t none h
taken-fits g lent s (Moment moment) t none h = other-fits g s (Moment moment) refl h
taken-fits g lent s (Root method arguments fuel) t none h = other-fits g s (Root method arguments fuel) refl h
taken-fits g lent s (RootAck task) t none h = other-fits g s (RootAck task) refl h
taken-fits g lent s (Bind name value) t none h = other-fits g s (Bind name value) refl h
taken-fits g lent s (Rebind name value) t none h = other-fits g s (Rebind name value) refl h
taken-fits g lent s (Unbind name) t none h = other-fits g s (Unbind name) refl h
taken-fits g lent s (Lookup peer name) t none h = other-fits g s (Lookup peer name) refl h
taken-fits g lent s (Opened conn dialled) t none h = other-fits g s (Opened conn dialled) refl h
taken-fits g lent s (Refused peer) t none h = other-fits g s (Refused peer) refl h
taken-fits g lent s (Received conn m) t none h = other-fits g s (Received conn m) refl h
taken-fits g lent s (Closed conn) t none h = other-fits g s (Closed conn) refl h
taken-fits g lent s (ReadFailed conn) t none h = other-fits g s (ReadFailed conn) refl h
taken-fits g lent s (Bad conn) t none h = other-fits g s (Bad conn) refl h
taken-fits g lent s (WriteFailed conn unsent) t none h = other-fits g s (WriteFailed conn unsent) refl h
taken-fits g lent s (Parked task k) t none h = other-fits g s (Parked task k) refl h
taken-fits g lent s (GivenBack task k) t none h = other-fits g s (GivenBack task k) refl h
taken-fits g lent s (Finished task k) t none h = other-fits g s (Finished task k) refl h

-- ---- all histories

fits-after : (g : Setting) (h : List Event) → IsTaken g h → Fits g (Space.state_of g h).store
unfolding Space.state_of opening
fits-after g [] t = record { remote = λ id o e. absurd (some-none o (sym e)); written = λ id o slot value e w. absurd (some-none o (sym e)) }
fits-after g (e ∷ h) t = taken-fits g t.0.0 (Space.state_of g h) e t.0.1 (own-only g h t.1).parts.unwritten (fits-after g h t.1)

pub stores_fit : StoresFit
stores_fit g h t = let f : Fits g (Space.state_of g h).store = fits-after g h t in record { remote = f.remote; written = f.written }
