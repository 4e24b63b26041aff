-- Operations on the store: what they make of a state, and of the record of the task that asks.
use Rattle.std.proofs.Common.{◌≡◌, ℕ, zero, suc, ◌+◌, ◌≤◌, ◌<◌, arith, Bool, true, false, cond, List, [], ◌∷◌, ◌++◌, Option, None, Some, refl, sym, ap, subst, ◌∙◌, map, length, unwrap_or}
use Rattle.std.specs.Prelude.{◌⊎◌, is_some, option_and_then, slice_get}
use Rattle.std.specs.Prelude as prelude
use Rattle.std.proofs.Common.{inl, inr}
use Rattle.std.proofs.lemmas.List.{length-append, map-append}
use Rattle.dgc_client.specs.History as lease_events
use Rattle.dgc_client.specs.Table as client
use Rattle.space_ids.specs.declared.ids.ClassId.{ClassId}
use Rattle.space_ids.specs.declared.ids.ForeignId.{ForeignId}
use Rattle.space_ids.specs.declared.ids.ObjId.{ObjId}
use Rattle.space_ids.specs.declared.ids.Ref.{Ref}
use Rattle.space_ids.specs.declared.value.Value.{Value}
use Rattle.space_ids.specs.declared.value.Value.TheVariants as values
use Rattle.sp_rules.specs.Behaviours.{Op, Create, Get, Put, Call, Reply, Gives, Throws, RunsOut}
use Rattle.sp_rules.specs.Classes.{Kind, Setting, blank, field_kind, fits_field}
use Rattle.sp_rules.specs.Holders.{drop, drop_ids, hold, hold_ids, holder_comes, holder_goes}
use Rattle.sp_rules.specs.Laws.{RisesWithin}
use Rattle.sp_rules.specs.Lists.{each, numbers_below, with_some}
use Rattle.sp_rules.specs.LivingTasks.{after_op, after_reply, after_steps, commit, is_full, next_object, op_reply, value_at}
use Rattle.sp_rules.specs.References.{foreign_ids, reference_of, references_in}
use Rattle.sp_rules.specs.Refusals.{has_field, takes_value}
use Rattle.sp_rules.specs.State.{State, Living, Made, Object, Written, last_written, object_at, ready_at, set_task, standing}
use Rattle.sp_rules.specs.Tasks.{Task, Stand, Runs, AsksFor, HasEnded, answer, gained, pay_with, stand, step, step_at, steps}
use Rattle.sp_store.specs.Stores.{field_after, fields_after}
use Rattle.sp_owner.specs.Owners.{IsOwner, owner_parts}
use Rattle.sp_owner.specs.declared.owner.Owner.{Owner}
use Rattle.sp_living.specs.Livings.{IsLiving}
use Rattle.sp_living.specs.Steps.{give_reply}
use Rattle.sp_living.specs.declared.living.Living.{Living as Lives}
use Rattle.sp_state.specs.Spaces.{AreNumbered, IsSpace}
use Rattle.sp_state.specs.declared.space_state.SpaceState.{SpaceState}
use Rattle.sp_state.proofs.CallLemmas.{object-id}
use Rattle.sp_state.proofs.QuietLemmas.{drop_keeps, hold_keeps, parts-quiet}
use Rattle.sp_state.proofs.SpaceLemmas.{living-still, quiet, with_owner}

-- ---- what a field holds

-- what is found in a list with one more at its end
found-in : (xs : List Value) (y v : Value) (i : ℕ) → Some v ≡ slice_get (xs ++ y ∷ []) i → (Some v ≡ slice_get xs i) ⊎ ((v ≡ y) × (i ≡ length xs))
found-in [] y v zero e = inr (ap (λ (o : Option Value). unwrap_or o y) e, refl)
found-in [] y v (suc i) e = absurd (cc)
found-in (x ∷ xs) y v zero e = inl e
found-in (x ∷ xs) y v (suc i) e = elim (found-in xs y v i e) [ inl a ↦ inl a | inr b ↦ inr (b.0, ap suc b.1) ]

length-slots : (f : ℕ → Value) (n : ℕ) → length (map f (numbers_below n)) ≡ n
length-slots f zero = refl
length-slots f (suc n) = ap length (map-append f (numbers_below n) (n ∷ [])) ∙ length-append (map f (numbers_below n)) (f n ∷ []) ∙ omega (arith, length-slots f n)

slot-value : (f : ℕ → Value) (n slot : ℕ) (v : Value) → Some v ≡ slice_get (map f (numbers_below n)) slot → v ≡ f slot
slot-value f zero slot v e = absurd (cc)
slot-value f (suc n) slot v e =
    elim (found-in (map f (numbers_below n)) (f n) v slot (e ∙ ap (λ (vs : List Value). slice_get vs slot) (map-append f (numbers_below n) (n ∷ [])))) [
      | inl a ↦ slot-value f n slot v a
      | inr b ↦ b.0 ∙ ap f (sym (b.1 ∙ length-slots f n))
    ]

pub field-value : (g : Setting) (s : State) (id : ObjId) (slot : ℕ) (v : Value) → Some v ≡ field_after g s.store id slot → Some v ≡ value_at g s id slot (object_at s id)
field-value g s id slot v e = of (object_at s id) refl e
  where
    of : (o : Option Object) → object_at s id ≡ o → Some v ≡ option_and_then (λ (p : Object). slice_get (fields_after g s.store p) slot) o → Some v ≡ value_at g s id slot o
    of None there e = absurd (cc)
    of (Some o) there e =
        ap Some (slot-value (λ k. unwrap_or (last_written s.store o.id k) (blank (field_kind g.classes o.class k))) (length (g.classes.fields o.class)) slot v e)
        ∙ ap (λ (q : ObjId). Some (unwrap_or (last_written s.store q slot) (blank (field_kind g.classes o.class slot)))) (object-id s id o there)

-- a list that has nothing at an index is no longer than that
none-past : (xs : List Value) (i : ℕ) → ◌≡◌ {A = Option Value} None (slice_get xs i) → length xs ≤ i
none-past [] i none = omega arith
none-past (x ∷ xs) zero none = absurd (cc)
none-past (x ∷ xs) (suc i) none = let rest = none-past xs i none in omega (arith, rest)

some-within : (ks : List Kind) (i : ℕ) → is_some (slice_get ks i) ≡ true → i < length ks
some-within [] i some = absurd (cc)
some-within (k ∷ ks) zero some = omega arith
some-within (k ∷ ks) (suc i) some = let rest = some-within ks i some in omega (arith, rest)

-- a field that a standing object has holds something
pub field-there : (g : Setting) (s : State) (id : ObjId) (slot : ℕ) → ◌≡◌ {A = Option Value} None (field_after g s.store id slot) → has_field g (object_at s id) slot ≡ true → ⊥
field-there g s id slot none has = of (object_at s id) none has
  where
    of : (o : Option Object) → ◌≡◌ {A = Option Value} None (option_and_then (λ (p : Object). slice_get (fields_after g s.store p) slot) o) → has_field g o slot ≡ true → ⊥
    of None none has = cc
    of (Some o) none has =
        let f : ℕ → Value = λ k. unwrap_or (last_written s.store o.id k) (blank (field_kind g.classes o.class k)) in
        let fields = g.classes.fields o.class in
        let within : slot < length fields = some-within fields slot has in
        let past : length (map f (numbers_below (length fields))) ≤ slot = none-past (map f (numbers_below (length fields))) slot none in
        absurd (omega (arith, within, past, length-slots f (length fields)))

-- what may be put into a field is put into one that is there
pub takes-there : (g : Setting) (o : Option Object) (slot : ℕ) (value : Value) → takes_value g o slot value ≡ true → has_field g o slot ≡ true
takes-there g None slot value takes = takes
takes-there g (Some o) slot value takes = of (field_kind g.classes o.class slot) takes
  where
    of : (k : Option Kind) → fits_field k value ≡ true → is_some k ≡ true
    of None takes = takes
    of (Some k) takes = refl

-- ---- replies

pub get-reply : (g : Setting) (s : State) (id : ObjId) (slot : ℕ) (v : Option Value) → v ≡ value_at g s id slot (object_at s id) → Gives v ≡ op_reply g (Get id slot) s
unfolding op_reply
get-reply g s id slot v e = ap Gives e

pub call-reply : (g : Setting) (s : State) (target : Ref) (method : ℕ) (arguments : List Value) → RunsOut ≡ op_reply g (Call target method arguments) s
unfolding op_reply
call-reply g s target method arguments = refl

pub put-reply : (g : Setting) (s : State) (id : ObjId) (slot : ℕ) (v : Value) → Gives None ≡ op_reply g (Put id slot v) s
unfolding op_reply
put-reply g s id slot v = refl

abbrev reference_to : Setting → ClassId → ObjId → Reply
reference_to g class id = Gives (Some (values.Ref (record { space = g.id; id = id; class = class })))

pub created-reply : (g : Setting) (s : State) (class : ClassId) (id : ObjId) → Some id ≡ cond (is_full s) None (Some (next_object s)) → reference_to g class id ≡ op_reply g (Create class) s
unfolding op_reply
created-reply g s class id e =
    elim (is_full s) as (λ b. Some id ≡ cond b None (Some (next_object s)) → reference_to g class id ≡ cond b (Throws g.classes.out_of_memory) (reference_to g class (next_object s))) [
      | true ↦ λ none. absurd (cc)
      | false ↦ λ some. ap (λ (o : Option ObjId). reference_to g class (unwrap_or o id)) some
    ] e

pub full-reply : (g : Setting) (s : State) (class : ClassId) → None ≡ cond (is_full s) None (Some (next_object s)) → Throws g.classes.out_of_memory ≡ op_reply g (Create class) s
unfolding op_reply
full-reply g s class e =
    elim (is_full s) as (λ b. None ≡ cond b None (Some (next_object s)) → Throws g.classes.out_of_memory ≡ cond b (Throws g.classes.out_of_memory) (reference_to g class (next_object s))) [
      | true ↦ λ none. refl
      | false ↦ λ some. absurd (cc)
    ] e

-- ---- holders change leases alone

abbrev with_leases : List client.Told → State → State
with_leases leases s = record s { leases = leases }

abbrev held-after : List ForeignId → List client.Told → List client.Told
held-after [] told = told
held-after (r ∷ rs) told = held-after rs (client.On r lease_events.Held ∷ told)

abbrev dropped-after : List ForeignId → List client.Told → List client.Told
dropped-after [] told = told
dropped-after (r ∷ rs) told = dropped-after rs (client.On r lease_events.Dropped ∷ told)

hold-is : (ids : List ForeignId) (s : State) → hold_ids ids s ≡ with_leases (held-after ids s.leases) s
unfolding hold_ids each
hold-is [] s = refl
hold-is (r ∷ rs) s = hold-is rs (holder_comes s r)

drop-is : (ids : List ForeignId) (s : State) → drop_ids ids s ≡ with_leases (dropped-after ids s.leases) s
unfolding drop_ids each
drop-is [] s = refl
drop-is (r ∷ rs) s = drop-is rs (holder_goes s r)

pub hold-none : (s : State) → hold_ids [] s ≡ s
unfolding hold_ids each
hold-none s = refl

pub drop-none : (s : State) → drop_ids [] s ≡ s
unfolding drop_ids each
drop-none s = refl

-- ---- an instance is made

abbrev with_object : ClassId → Bool → State → State
with_object class full s = cond full s (record s { objects_made = s.objects_made + 1; store = Made (next_object s) class ∷ s.store })

create-is : (g : Setting) (class : ClassId) (s : State) → after_op g (Create class) s ≡ with_object class (is_full s) s
unfolding after_op
create-is g class s = refl

pub create-still : (g : Setting) (class : ClassId) (s : State) → with_owner (owner_parts (after_op g (Create class) s)) s ≡ after_op g (Create class) s
unfolding after_op
create-still g class s = elim (is_full s) as (λ b. with_owner (owner_parts (with_object class b s)) s ≡ with_object class b s) [ true ↦ refl | false ↦ refl ]

-- one that is next to the last goes after them
one-more : (n last : ℕ) (xs : List ℕ) → RisesWithin n last xs → RisesWithin n (last + 1) (xs ++ (last + 1) ∷ [])
one-more n last [] r = let a : n ≤ last = r in (omega (arith, a), omega (arith))
one-more n last (x ∷ xs) r = (r.0, one-more x last xs r.1)

pub create-numbered : (g : Setting) (class : ClassId) (s : State) → AreNumbered (owner_parts s) → AreNumbered (owner_parts (after_op g (Create class) s))
unfolding after_op
create-numbered g class s is = elim (is_full s) as (λ b. AreNumbered (owner_parts (with_object class b s))) [
  | true ↦ is
  | false ↦ subst (RisesWithin 0 (s.objects_made + 1)) (sym (map-append (λ (o : Object). o.id.0) (standing s.store) (record { id = next_object s; class = class } ∷ []))) (one-more 0 s.objects_made (map (λ (o : Object). o.id.0) (standing s.store)) is)
]

object-ready : (class : ClassId) (full : Bool) (s : State) (id : ℕ) → ready_at (with_object class full s) id ≡ ready_at s id
object-ready class true s id = refl
object-ready class false s id = refl

object-apart : (class : ClassId) (full : Bool) (refs : List ForeignId) (f : Living → Living) (id : ℕ) (s : State) → with_object class full (hold_ids refs (set_task f id s)) ≡ hold_ids refs (set_task f id (with_object class full s))
object-apart class true refs f id s = refl
object-apart class false refs f id s = ap (with_object class false) (hold-is refs (set_task f id s)) ∙ sym (hold-is refs (set_task f id (with_object class false s)))

-- ---- a value is put

abbrev with_put : Setting → ObjId → ℕ → Value → List ForeignId → State → State
with_put g id slot value lost s =
    record s { store = Written id slot value ∷ s.store; leases = dropped-after lost (held-after (foreign_ids g.id (reference_of value)) s.leases) }

put-is : (g : Setting) (id : ObjId) (slot : ℕ) (value : Value) (s : State)
    → after_op g (Put id slot value) s ≡ with_put g id slot value (foreign_ids g.id (references_in (value_at g s id slot (object_at s id)))) s
unfolding after_op
put-is g id slot value s =
    let lost = foreign_ids g.id (references_in (value_at g s id slot (object_at s id))) in
    ap (drop_ids lost) (hold-is (foreign_ids g.id (reference_of value)) (record s { store = Written id slot value ∷ s.store }))
    ∙ drop-is lost _

pub put-with : (g : Setting) (id : ObjId) (slot : ℕ) (value had : Value) (s : State) → Some had ≡ value_at g s id slot (object_at s id)
    → after_op g (Put id slot value) s ≡ drop_ids (foreign_ids g.id (reference_of had)) (hold_ids (foreign_ids g.id (reference_of value)) (record s { store = Written id slot value ∷ s.store }))
unfolding after_op
put-with g id slot value had s e =
    ap (λ (o : Option Value). drop_ids (foreign_ids g.id (references_in o)) (hold_ids (foreign_ids g.id (reference_of value)) (record s { store = Written id slot value ∷ s.store }))) (sym e)

-- ---- what a task gains

paid-held : (left back : ℕ) (t : Task) → (pay_with left back t).held ≡ t.held
paid-held zero back t = refl
paid-held (suc left) back t = refl

step-held : (t : Task) → (step t).held ≡ t.held
unfolding step
step-held t = by (stand t)
  where
    by : (at : Stand) → (step_at at t).held ≡ t.held
    by Runs = refl
    by (AsksFor op) = refl
    by (HasEnded outcome) = refl

steps-held : (k : ℕ) (t : Task) → (steps k t).held ≡ t.held
unfolding steps
steps-held zero t = refl
steps-held (suc k) t = steps-held k (step t) ∙ step-held t

drop-all : (xs : List Ref) → prelude.drop (length xs) xs ≡ []
drop-all [] = refl
drop-all (x ∷ xs) = drop-all xs

nothing-gained : (g : Setting) (k : ℕ) (t : Task) → gained t (answer g (Gives None) (steps k t)) ≡ []
unfolding answer
nothing-gained g k t = ap (prelude.drop (length t.held)) (paid-held (steps k t).fuel 0 (steps k t) ∙ steps-held k t) ∙ drop-all t.held

-- ---- an operation, and the reply to it

get-is : (g : Setting) (id : ObjId) (slot : ℕ) (s : State) → after_op g (Get id slot) s ≡ s
unfolding after_op
get-is g id slot s = refl

call-is : (g : Setting) (target : Ref) (method : ℕ) (arguments : List Value) (s : State) → after_op g (Call target method arguments) s ≡ s
unfolding after_op
call-is g target method arguments s = refl

abbrev replied_living : Setting → ℕ → Reply → Living → Living
replied_living g k reply t = after_reply g reply (after_steps k t)

-- a task is given a reply, and holds the reference in it too
abbrev replied : Setting → ℕ → ℕ → Reply → Living → State → State
replied g id k reply t s = hold_ids (foreign_ids g.id (gained t.task (answer g reply (steps k t.task)))) (set_task (replied_living g k reply) id s)

given : (g : Setting) (id k : ℕ) (reply : Reply) (t : Living) (s : State) → ready_at s id ≡ Some t → give_reply g id k reply s ≡ replied g id k reply t s
given g id k reply t s there = ap (λ (o : Option Living). with_some o s (λ u. replied g id k reply u s)) there

-- A task gains nothing by a value that is put.
put-replied : (g : Setting) (id k : ℕ) (t : Living) (s : State) → replied g id k (Gives None) t s ≡ set_task (replied_living g k (Gives None)) id s
put-replied g id k t s =
    ap (λ (rs : List Ref). hold_ids (foreign_ids g.id rs) (set_task (replied_living g k (Gives None)) id s)) (nothing-gained g k t.task) ∙ hold-none (set_task (replied_living g k (Gives None)) id s)

-- A task that is given its reply after the operation is given it as before.
done : (g : Setting) (id k : ℕ) (op : Op) (t : Living) (s : State) → ready_at s id ≡ Some t → after_op g op (replied g id k (op_reply g op s) t s) ≡ give_reply g id k (op_reply g op s) (after_op g op s)
done g id k (Create class) t s ready =
    let reply = op_reply g (Create class) s in
    let refs = foreign_ids g.id (gained t.task (answer g reply (steps k t.task))) in
    let turned : State = set_task (replied_living g k reply) id s in
    create-is g class (hold_ids refs turned)
    ∙ ap (λ (b : Bool). with_object class b (hold_ids refs turned)) (ap is_full (hold-is refs turned))
    ∙ object-apart class (is_full s) refs (replied_living g k reply) id s
    ∙ sym (given g id k reply t (with_object class (is_full s) s) (object-ready class (is_full s) s id ∙ ready))
    ∙ ap (give_reply g id k reply) (sym (create-is g class s))
done g id k (Get object slot) t s ready =
    let reply = op_reply g (Get object slot) s in
    get-is g object slot (replied g id k reply t s) ∙ sym (given g id k reply t s ready) ∙ ap (give_reply g id k reply) (sym (get-is g object slot s))
done g id k (Put object slot value) t s ready =
    let op = Put object slot value in
    let f = replied_living g k (Gives None) in
    let none : op_reply g op s ≡ Gives None = sym (put-reply g s object slot value) in
    let there : ready_at (after_op g op s) id ≡ Some t = ap (λ (v : State). ready_at v id) (put-is g object slot value s) ∙ ready in
    ap (λ (r : Reply). after_op g op (replied g id k r t s)) none
    ∙ ap (after_op g op) (put-replied g id k t s)
    ∙ put-is g object slot value (set_task f id s)
    ∙ ap (set_task f id) (sym (put-is g object slot value s))
    ∙ sym (put-replied g id k t (after_op g op s))
    ∙ sym (given g id k (Gives None) t (after_op g op s) there)
    ∙ ap (λ (r : Reply). give_reply g id k r (after_op g op s)) (sym none)
done g id k (Call target method arguments) t s ready =
    let reply = op_reply g (Call target method arguments) s in
    call-is g target method arguments (replied g id k reply t s) ∙ sym (given g id k reply t s ready) ∙ ap (give_reply g id k reply) (sym (call-is g target method arguments s))

pub committed : (g : Setting) (s : State) (id k : ℕ) (op : Op) (t : Living) → ready_at s id ≡ Some t → commit g id k op s ≡ give_reply g id k (op_reply g op s) (after_op g op s)
unfolding commit
committed g s id k op t ready =
    ap (λ (o : Option Living). with_some o s (λ u. after_op g op (replied g id k (op_reply g op s) u s))) ready ∙ done g id k op t s ready

-- ---- a space, after each of these

pub created-space : (g : Setting) (class : ClassId) (s : State) (x : SpaceState) (o : Owner) → IsSpace g s x → IsOwner g (after_op g (Create class) s) o → IsSpace g (after_op g (Create class) s) (record x { owner = o })
created-space g class s x o is now = record {
  id = is.id;
  version = is.version;
  digest = is.digest;
  numbers = create-numbered g class s is.numbers;
  owner = now;
  living = subst (λ (t : State). IsLiving g t x.living) (create-still g class s) (living-still g (owner_parts (after_op g (Create class) s)) s x.living is.living);
}

-- a value is written
abbrev pub with_written : ObjId → ℕ → Value → State → State
with_written id slot value s = record s { store = Written id slot value ∷ s.store }

pub written-space : (g : Setting) (id : ObjId) (slot : ℕ) (value : Value) (s : State) (x : SpaceState) (o : Owner) → IsSpace g s x → IsOwner g (with_written id slot value s) o → IsSpace g (with_written id slot value s) (record x { owner = o })
written-space g id slot value s x o is now = record {
  id = is.id;
  version = is.version;
  digest = is.digest;
  numbers = is.numbers;
  owner = now;
  living = living-still g (owner_parts (with_written id slot value s)) s x.living is.living;
}

pub held-space : (g : Setting) (refs : List Ref) (s : State) (x : SpaceState) (l : Lives) → IsSpace g s x → IsLiving g (hold g refs s) l → IsSpace g (hold g refs s) (record x { living = l })
held-space g refs s x l is now = quiet g s (hold g refs s) x l (hold_keeps (parts-quiet g (owner_parts s)) {s = s} (foreign_ids g.id refs) refl) now is

pub dropped-space : (g : Setting) (refs : List Ref) (s : State) (x : SpaceState) (l : Lives) → IsSpace g s x → IsLiving g (drop g refs s) l → IsSpace g (drop g refs s) (record x { living = l })
dropped-space g refs s x l is now = quiet g s (drop g refs s) x l (drop_keeps (parts-quiet g (owner_parts s)) {s = s} (foreign_ids g.id refs) refl) now is

give-parts : (g : Setting) (id k : ℕ) (reply : Reply) (s : State) → owner_parts (give_reply g id k reply s) ≡ owner_parts s
give-parts g id k reply s = of (ready_at s id)
  where
    of : (o : Option Living) → owner_parts (with_some o s (λ t. replied g id k reply t s)) ≡ owner_parts s
    of None = refl
    of (Some t) = hold_keeps (parts-quiet g (owner_parts s)) {s = set_task (replied_living g k reply) id s} (foreign_ids g.id (gained t.task (answer g reply (steps k t.task)))) refl

-- What is given its reply after the operation is committed.
pub committed-space : (g : Setting) (id k : ℕ) (op : Op) (reply : Reply) (t : Living) (s : State) (x : SpaceState) (l : Lives) → ready_at s id ≡ Some t → reply ≡ op_reply g op s
    → IsSpace g (after_op g op s) x → IsLiving g (give_reply g id k reply (after_op g op s)) l → IsSpace g (commit g id k op s) (record x { living = l })
committed-space g id k op reply t s x l ready same is now =
    subst (λ (u : State). IsSpace g u (record x { living = l })) (ap (λ (r : Reply). give_reply g id k r (after_op g op s)) same ∙ sym (committed g s id k op t ready))
    (quiet g (after_op g op s) (give_reply g id k reply (after_op g op s)) x l (give-parts g id k reply (after_op g op s)) now is)

pub called-space : (g : Setting) (target : Ref) (method : ℕ) (arguments : List Value) (s : State) (x : SpaceState) → IsSpace g s x → IsSpace g (after_op g (Call target method arguments) s) x
called-space g target method arguments s x is = subst (λ (u : State). IsSpace g u x) (sym (call-is g target method arguments s)) is

pub got-space : (g : Setting) (id : ObjId) (slot : ℕ) (s : State) (x : SpaceState) → IsSpace g s x → IsSpace g (after_op g (Get id slot) s) x
got-space g id slot s x is = subst (λ (u : State). IsSpace g u x) (sym (get-is g id slot s)) is

-- a value that is no reference has none in it, and no holder
pub no-reference : (v : Value) → ((r : Ref) → v ≡ values.Ref r → ⊥) → reference_of v ≡ []
no-reference values.Null none = refl
no-reference (values.Int n) none = refl
no-reference (values.Ints ns) none = refl
no-reference (values.Ref r) none = absurd (none r refl)

pub none-held : (g : Setting) (v : Value) (s : State) (x : SpaceState) → reference_of v ≡ [] → IsSpace g s x → IsSpace g (hold g (reference_of v) s) x
none-held g v s x none is = subst (λ (u : State). IsSpace g u x) (sym (ap (λ (rs : List Ref). hold g rs s) none ∙ hold-none s)) is

pub none-dropped : (g : Setting) (v : Value) (s : State) (x : SpaceState) → reference_of v ≡ [] → IsSpace g s x → IsSpace g (drop g (reference_of v) s) x
none-dropped g v s x none is = subst (λ (u : State). IsSpace g u x) (sym (ap (λ (rs : List Ref). drop g rs s) none ∙ drop-none s)) is
