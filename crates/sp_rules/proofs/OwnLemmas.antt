-- Own references stand after every history that a space took.
use mathlib.Core.Path.{sym, ap, subst, ◌∙◌}
use Rattle.std.specs.Prelude.{◌≡◌, refl, ℕ, zero, suc, ◌+◌, ◌≤◌, ◌<◌, ◌==◌, ◌&&◌, ◌||◌, not, nat_le, is_some, length, Bool, true, false, cond, List, [], ◌∷◌, ◌++◌, Option, None, Some, filter, find, map, unwrap_or, slice_get, ◌⊎◌, if◌then◌else◌}
use Rattle.std.specs.List.{list_any, list_all, flat_map}
use Rattle.std.specs.Str.{bytes_eq}
use Rattle.std.proofs.Common.{arith, inl, inr}
use Rattle.std.proofs.lemmas.Bool.{true≢false, eq-eqb, eqb-true}
use Rattle.std.proofs.lemmas.Option.{slice_get_within, slice_get_cases}
use Rattle.std.proofs.lemmas.Slice.Eq.{bytes_eq-Decides}
use Rattle.space_ids.specs.declared.ids.ForeignId.{ForeignId}
use Rattle.space_ids.specs.declared.ids.ClassId.{ClassId}
use Rattle.uuid.specs.declared.Uuid.{Uuid}
use Rattle.space_ids.specs.declared.ids.ObjId.{ObjId}
use Rattle.space_ids.specs.declared.ids.Ref.{Ref}
use Rattle.space_ids.specs.declared.value.Value.{Value}
use Rattle.space_ids.specs.declared.value.Value.TheVariants as values
use Rattle.sp_rules.specs.Behaviours.{Outcome, Op, Create, Get, Put, Call}
use Rattle.sp_rules.specs.Classes.{Setting, field_kind}
use Rattle.sp_rules.specs.Events.{Event, Moment, Sweep, Root, RootAck, Bind, Rebind, Unbind, Lookup, Opened, Refused, Received, Closed, ReadFailed, Bad, WriteFailed, Committed, Parked, GivenBack, Finished, output_of}
use Rattle.sp_rules.specs.Holders
use Rattle.sp_rules.specs.Holders.{has_reason, has_holder, class_is, fields_of, references_of_frame}
use Rattle.sp_rules.specs.Laws.{AllOf, IsOne, RisesWithin, is_sweep, stands}
use Rattle.sp_rules.specs.Lists.{numbers_below, with_some}
use Rattle.sp_rules.specs.LivingTasks
use Rattle.sp_rules.specs.Origins.{references_of_message, references_of_asked, references_of_output, own_reference, IsTaken, HasTaken, HistoriesAreTaken, IsRight, TargetStands, OwnStand, OwnReferencesStand}
use Rattle.sp_rules.specs.OwnEvents
use Rattle.sp_rules.specs.References.{references_of, references_in, reference_of, own_ids, own_id, foreign_ids, is_same_reference, is_reference_in, is_id, is_id_in}
use Rattle.sp_rules.specs.Refusals
use Rattle.sp_rules.specs.Refusals.{Refusal, WornOut, Check, first_refusal, checks, refusal}
use Rattle.sp_rules.specs.Space
use Rattle.sp_rules.specs.State.{State, Object, Stored, Made, Gone, Living, KeptResult, Frame, CallFrame, ReturnedFrame, ParkedFrame, standing, last_written, opening, task_at, ready_at, object_at}
use Rattle.sp_rules.specs.Tasks.{Stand, Runs, AsksFor, HasEnded, stand, steps}
use Rattle.sp_rules.specs.Worlds.{Space}
use Rattle.sp_rules.proofs.AllLemmas.{some-none, all-weaken, all-filter, all-found, found-is, all-pass, all-with, each-any, or-left, or-right}
use Rattle.sp_rules.proofs.NumberLemmas.{Fresh, fresh_after}
use Rattle.sp_rules.proofs.OriginLemmas.{Only, FrameIs, FieldsAre, AskedIs, NoteIs, OpBrings, CallIs, EndIs, slot-is}
use Rattle.sp_rules.proofs.OriginsOfFrames.{Waits, Matches, RefBrings, Brings, is_none_of, left, on_only, swept_only}
use Rattle.sp_rules.proofs.ReadyLemmas.{ready-is}
use Rattle.sp_rules.proofs.SweepLemmas.{one-id, store_left, left_exact, sweep_is_exact}
use Rattle.sp_rules.proofs.WithdrawalLemmas.{only_sweeps_withdraw}
use Rattle.sp_rules.proofs.WorldLemmas.{all_hold}

-- ---- refusals that do not come

if-none : (b : Bool) (x : Refusal) (o : Option Refusal) → (if b then Some x else o) ≡ None → (b ≡ false) × (o ≡ None)
if-none true x o e = absurd (some-none x e)
if-none false x o e = (refl, e)

pub unrefused : (g : Setting) (lent : List ℕ) (s : State) (e : Event) → refusal g lent s e ≡ None → first_refusal (checks g lent s e) ≡ None
unfolding refusal
unrefused g lent s e h = (if-none (Refusals.is_worn s && not (Refusals.is_give_back e)) WornOut _ h).1

pub later : (xs ys : List Check) → first_refusal (xs ++ ys) ≡ None → first_refusal ys ≡ None
later [] ys e = e
later (c ∷ xs) ys e = later xs ys (if-none c.fails c.refusal _ e).1

pub first-of : (b : Bool) (x : Refusal) (rest : List Check) → first_refusal (Refusals.refuse_if b x ++ rest) ≡ None → (b ≡ false) × (first_refusal rest ≡ None)
first-of b x rest e = if-none b x (first_refusal rest) e

pub not-false : (b : Bool) → not b ≡ false → b ≡ true
not-false true e = refl
not-false false e = absurd (true≢false e)

pub and-left : (a b : Bool) → a && b ≡ true → a ≡ true
and-left true b e = refl
and-left false b e = absurd (true≢false (sym e))

pub and-right : (a b : Bool) → a && b ≡ true → b ≡ true
and-right true b e = e
and-right false b e = absurd (true≢false (sym e))

pub has-some : {A : Type 0} (o : Option A) → is_some o ≡ true → (x : A) × (o ≡ Some x)
has-some None e = absurd (true≢false (sym e))
has-some (Some x) e = (x, refl)

pub no-space : {A : Type 0} {x : A} → Some x ≡ None → ⊥
no-space {x = x} e = some-none x e

-- what is some value is that value
pub some-same : {A : Type 0} {x y : A} → Some x ≡ Some y → x ≡ y
some-same {A} {x} {y} e = ap (λ o. unwrap_or o x) e

pub all-and : {A : Type 0} (P Q R : A → Type 0) (xs : List A) → ((x : A) → P x → Q x → R x) → AllOf P xs → AllOf Q xs → AllOf R xs
all-and P Q R xs f a b = all-with P Q R xs f a b

-- ---- what a task holds

same-reference : (a b : Ref) → is_same_reference a b ≡ true → a ≡ b
same-reference a b e =
    let space : a.space ≡ b.space = (bytes_eq-Decides a.space b.space).0 (and-left (bytes_eq a.space b.space) _ e) in
    let id : a.id ≡ b.id = one-id a.id b.id (and-left (a.id.0 == b.id.0) _ (and-right (bytes_eq a.space b.space) _ e)) in
    let class : a.class.0 ≡ b.class.0 = eqb-true a.class.0 b.class.0 (and-right (a.id.0 == b.id.0) _ (and-right (bytes_eq a.space b.space) _ e)) in
    ap {A = Uuid} {B = Ref} (λ x. record { space = x; id = a.id; class = a.class }) space
    ∙ ap {A = ObjId} {B = Ref} (λ x. record { space = b.space; id = x; class = a.class }) id
    ∙ ap {A = ℕ} {B = Ref} (λ x. record { space = b.space; id = b.id; class = record { 0 = x } }) class

held-one : (Is : Ref → Type 0) (held : List Ref) (r : Ref) → AllOf Is held → is_reference_in held r ≡ true → Is r
held-one Is [] r a e = absurd (true≢false (sym e))
held-one Is (x ∷ held) r a e = pick (is_same_reference r x) refl e (held-one Is held r a.1)
  where
    pick : (b : Bool) → is_same_reference r x ≡ b → b || list_any (is_same_reference r) held ≡ true → (list_any (is_same_reference r) held ≡ true → Is r) → Is r
    pick true is f rest = subst Is (sym (same-reference r x is)) a.0
    pick false is f rest = rest f

held-all : (Is : Ref → Type 0) (held refs : List Ref) → AllOf Is held → list_all (is_reference_in held) refs ≡ true → AllOf Is refs
held-all Is held refs a e = all-weaken (λ r. is_reference_in held r ≡ true) Is refs (λ r t. held-one Is held r a t) (all-pass (is_reference_in held) refs e)

-- what a task is said to hold is of the kind of all that tasks hold
holds-is : (Is : Ref → Type 0) (rows : List Living) (id : ℕ) (found : Option Living) (refs : List Ref) → find (λ (t : Living). t.id == id) rows ≡ found
    → AllOf (λ (t : Living). AllOf Is t.task.held) rows → Refusals.holds found refs ≡ true → AllOf Is refs
holds-is Is rows id None refs e a h = absurd (true≢false (sym h))
holds-is Is rows id (Some t) refs e a h = held-all Is t.task.held refs (all-found (λ (u : Living). AllOf Is u.task.held) (λ (u : Living). u.id == id) rows t e a) h

-- ---- what a space takes brings what it is allowed to

-- what a taken event still has to bring: a root's arguments, the references of a frame that are not refused, the object that is made
abbrev pub EventIs : Setting → (Ref → Type 0) → State → Event → Type 0
EventIs g Is s (Root method arguments fuel) = AllOf Is (references_of arguments)
EventIs g Is s (Received conn m) = AllOf (RefBrings g Is s) (references_of_message m)
EventIs g Is s (Committed task k (Create class)) = nat_le 65536 (length (standing s.store)) ≡ false → Is (record { space = g.id; id = record { 0 = s.objects_made + 1 }; class = class })
EventIs g Is s _ = Unit {0}

in-hand : (lent : List ℕ) (s : State) (task : ℕ) (rest : List Check) → first_refusal (Refusals.refuse_if (not (Refusals.is_in_hand lent s task)) Refusals.NotLent ++ rest) ≡ None → first_refusal rest ≡ None
in-hand lent s task rest e = (first-of (not (Refusals.is_in_hand lent s task)) Refusals.NotLent rest e).1

-- a committed operation is of what the task holds, and fits
committed : (g : Setting) (lent : List ℕ) (s : State) (task k : ℕ) (op : Op) → first_refusal (checks g lent s (Committed task k op)) ≡ None
    → (Refusals.holds_op g (task_at s task) op ≡ true) × (Refusals.fits_store g s op ≡ true)
committed g lent s task k op e =
    let rest : List Check = Refusals.check_committed g s op (Refusals.stand_after k (task_at s task)) in
    let f : (not (Refusals.holds_op g (task_at s task) op) ≡ false) × (first_refusal rest ≡ None) =
    first-of (not (Refusals.holds_op g (task_at s task) op)) Refusals.NotHeld rest
    (in-hand lent s task (Refusals.refuse_if (not (Refusals.holds_op g (task_at s task) op)) Refusals.NotHeld ++ rest) e) in (
      not-false (Refusals.holds_op g (task_at s task) op) f.0,
      not-false (Refusals.fits_store g s op)
          (first-of (not (Refusals.fits_store g s op)) Refusals.WrongKind (Refusals.refuse_if (not (Refusals.stands_at op (Refusals.stand_after k (task_at s task)))) Refusals.WrongKind) f.1).0,
    )

put-brings : {g : Setting} {Is Out : Ref → Type 0} {s : State} (lent : List ℕ) (task k : ℕ) (id : ObjId) (slot : ℕ) (value : Value)
    → first_refusal (checks g lent s (Committed task k (Put id slot value))) ≡ None → Only g Is Out (Waits g) s → OpBrings g Is s.objects_made s.store (Put id slot value)
put-brings {g} {Is} {Out} {s} lent task k id slot value e h =
    let f : (Refusals.holds_op g (task_at s task) (Put id slot value) ≡ true) × (Refusals.fits_store g s (Put id slot value) ≡ true) = committed g lent s task k (Put id slot value) e in
    (number (object_at s id) refl f.1, holds-is Is s.tasks task (task_at s task) (reference_of value) refl h.parts.tasks (and-right (Refusals.holds_object g (task_at s task) id) (Refusals.holds (task_at s task) (reference_of value)) f.0))
  where
    number : (o : Option Object) → object_at s id ≡ o → Refusals.takes_value g o slot value ≡ true → id.0 ≤ s.objects_made
    number None is t = absurd (true≢false (sym t))
    number (Some o) is t = subst (λ (i : ObjId). i.0 ≤ s.objects_made) (one-id o.id id (found-is (λ (q : Object). is_id q.id id) (standing s.store) o is))
        (all-found (λ (q : Object). q.id.0 ≤ s.objects_made) (λ (q : Object). is_id q.id id) (standing s.store) o is h.parts.numbers)

get-brings : (g : Setting) (Is : Ref → Type 0) (s : State) (lent : List ℕ) (task k : ℕ) (id : ObjId) (slot : ℕ)
    → first_refusal (checks g lent s (Committed task k (Get id slot))) ≡ None → OpBrings g Is s.objects_made s.store (Get id slot)
get-brings g Is s lent task k id slot e o is = subst (λ x. Refusals.has_field g x slot ≡ true) is (committed g lent s task k (Get id slot) e).1

park-brings : {g : Setting} {Is Out : Ref → Type 0} {s : State} (lent : List ℕ) (task k : ℕ) → first_refusal (checks g lent s (Parked task k)) ≡ None → Only g Is Out (Waits g) s
    → (t : Living) → ready_at s task ≡ Some t → CallIs Out (stand (steps k t.task))
park-brings {g} {Is} {Out} {s} lent task k e h t ready = at (stand (steps k t.task)) checked
  where
    there : task_at s task ≡ Some t
    there = (ready-is (task_at s task) t ready).0

    checked : first_refusal (Refusals.check_parked g (Some t) (Some (stand (steps k t.task)))) ≡ None
    checked = subst (λ x. first_refusal (Refusals.check_parked g x (Refusals.stand_after k x)) ≡ None) there (in-hand lent s task (Refusals.check_parked g (task_at s task) (Refusals.stand_after k (task_at s task))) e)

    at : (stands : Stand) → first_refusal (Refusals.check_parked g (Some t) (Some stands)) ≡ None → CallIs Out stands
    at Runs c = tt
    at (AsksFor (Create class)) c = tt
    at (AsksFor (Get id slot)) c = tt
    at (AsksFor (Put id slot value)) c = tt
    at (AsksFor (Call target method arguments)) c =
        let held : AllOf Is (target ∷ references_of arguments) = holds-is Is s.tasks task (Some t) (target ∷ references_of arguments) there h.parts.tasks
        (not-false (Refusals.holds (Some t) (target ∷ references_of arguments)) (first-of (not (Refusals.holds (Some t) (target ∷ references_of arguments))) Refusals.NotHeld (Refusals.refuse_if (not (Refusals.fits_call g (Call target method arguments))) Refusals.WrongKind) c).0) in
        all-weaken Is Out (references_of arguments) h.parts.lets held.1
    at (HasEnded outcome) c = tt

finish-brings : {g : Setting} {Is Out : Ref → Type 0} {s : State} (lent : List ℕ) (task k : ℕ) → first_refusal (checks g lent s (Finished task k)) ≡ None → Only g Is Out (Waits g) s
    → (t : Living) → ready_at s task ≡ Some t → EndIs Is (stand (steps k t.task))
finish-brings {g} {Is} {Out} {s} lent task k e h t ready = at (stand (steps k t.task)) checked
  where
    there : task_at s task ≡ Some t
    there = (ready-is (task_at s task) t ready).0

    checked : first_refusal (Refusals.check_finished (Some t) (Some (stand (steps k t.task)))) ≡ None
    checked = subst (λ x. first_refusal (Refusals.check_finished x (Refusals.stand_after k x)) ≡ None) there (in-hand lent s task (Refusals.check_finished (task_at s task) (Refusals.stand_after k (task_at s task))) e)

    at : (stands : Stand) → first_refusal (Refusals.check_finished (Some t) (Some stands)) ≡ None → EndIs Is stands
    at Runs c = tt
    at (AsksFor op) c = tt
    at (HasEnded outcome) c =
        holds-is Is s.tasks task (Some t) (references_in (Refusals.result_of outcome)) there h.parts.tasks
        (not-false (Refusals.holds (Some t) (references_in (Refusals.result_of outcome))) (first-of (not (Refusals.holds (Some t) (references_in (Refusals.result_of outcome)))) Refusals.NotHeld [] c).0)

pub taken-brings : {g : Setting} {Is Out : Ref → Type 0} {s : State} (lent : List ℕ) (e : Event) → refusal g lent s e ≡ None → EventIs g Is s e → Only g Is Out (Waits g) s → Brings g Is Out s e
taken-brings {g} {Is} {Out} {s} lent e t b h = by e (unrefused g lent s e t) b
  where
    by : (e : Event) → first_refusal (checks g lent s e) ≡ None → EventIs g Is s e → Brings g Is Out s e
    by (Root method arguments fuel) r b = b
    by (Received conn m) r b = b
    by (Committed task k (Create class)) r b = b
    by (Committed task k (Get id slot)) r b = get-brings g Is s lent task k id slot r
    by (Committed task k (Put id slot value)) r b = put-brings lent task k id slot value r h
    by (Committed task k (Call target method arguments)) r b = tt
    by (Parked task k) r b = park-brings lent task k r h
    by (Finished task k) r b = finish-brings lent task k r h
    by (Moment moment) r b = tt
    by Sweep r b = tt
    by (RootAck task) r b = tt
    by (Bind name value) r b = tt
    by (Rebind name value) r b = tt
    by (Unbind name) r b = tt
    by (Lookup peer name) r b = tt
    by (Opened conn dialled) r b = tt
    by (Refused peer) r b = tt
    by (Closed conn) r b = tt
    by (ReadFailed conn) r b = tt
    by (Bad conn) r b = tt
    by (WriteFailed conn unsent) r b = tt
    by (GivenBack task k) r b = tt

-- ---- an own reference names a standing object

abbrev pub NamesIn : Ref → List Object → Type 0
NamesIn r os = (o : Object) × IsOne o os × (o.id ≡ r.id) × ((o.class.0 == r.class.0) ≡ true)

abbrev pub Names : Setting → List Object → Ref → Type 0
Names g os r = bytes_eq r.space g.id ≡ true → NamesIn r os

abbrev pub Any : Ref → Type 0
Any r = Unit {0}

each-one : (os : List Object) → AllOf (λ o. IsOne o os) os
each-one [] = tt
each-one (p ∷ os) = (inl refl, all-weaken (λ o. IsOne o os) (λ o. IsOne o (p ∷ os)) os (λ o x. inr x) (each-one os))

named-in : (r : Ref) (os : List Object) (found : Option Object) → find (λ (o : Object). is_id o.id r.id) os ≡ found → class_is r.class found ≡ true → NamesIn r os
named-in r os None e c = absurd (true≢false (sym c))
named-in r os (Some o) e c = (o, all-found (λ p. IsOne p os) (λ (p : Object). is_id p.id r.id) os o e (each-one os), one-id o.id r.id (found-is (λ (p : Object). is_id p.id r.id) os o e), c)

own-names : (g : Setting) (s : State) (r : Ref) → Holders.is_own_standing g s r ≡ true → NamesIn r (standing s.store)
own-names g s r e = named-in r (standing s.store) (object_at s r.id) refl (and-right (bytes_eq r.space g.id) _ e)

own-object : (g : Setting) (o : Object) (os : List Object) → IsOne o os → Names g os (own_reference g o)
own-object g o os one own = (o, one, refl, eq-eqb o.class.0 o.class.0 refl)

-- ---- kinds that are wider

pub only-wider : {g : Setting} {Is Is' Out Out' : Ref → Type 0} {s : State} → ((r : Ref) → Is r → Is' r) → ((r : Ref) → Out r → Out' r) → ((r : Ref) → Is' r → Out' r) → Only g Is Out (Waits g) s → Only g Is' Out' (Waits g) s
only-wider {g} {Is} {Is'} {Out} {Out'} {s} f k lets h = record {
  parts = record {
    lets = lets;
    objects = all-weaken (λ (o : Object). Is (own_reference g o)) (λ (o : Object). Is' (own_reference g o)) (standing s.store) (λ o a. f (own_reference g o) a) h.parts.objects;
    numbers = h.parts.numbers;
    unwritten = h.parts.unwritten;
    fields = all-weaken (FieldsAre g Is s.store) (FieldsAre g Is' s.store) (standing s.store) (λ o a slot has. all-weaken Is Is' _ f (a slot has)) h.parts.fields;
    tasks = all-weaken (λ (t : Living). AllOf Is t.task.held) (λ (t : Living). AllOf Is' t.task.held) s.tasks (λ t a. all-weaken Is Is' t.task.held f a) h.parts.tasks;
    results = all-weaken (λ (r : KeptResult). AllOf Is (references_in r.value)) (λ (r : KeptResult). AllOf Is' (references_in r.value)) s.results (λ r a. all-weaken Is Is' (references_in r.value) f a) h.parts.results;
    parked = all-weaken (λ (p : ParkedFrame). FrameIs g Is p.frame) (λ (p : ParkedFrame). FrameIs g Is' p.frame) s.parked (λ p a. frame p.frame a) h.parts.parked;
    kept = h.parts.kept;
    requests = all-weaken (AskedIs Out) (AskedIs Out') s.requests (λ r a. all-weaken Out Out' (references_of_asked r.asked) k a) h.parts.requests;
    fresh = all-weaken (AskedIs Out) (AskedIs Out') s.fresh (λ r a. all-weaken Out Out' (references_of_asked r.asked) k a) h.parts.fresh;
    notes = all-weaken (NoteIs Out) (NoteIs Out') s.notes (λ n a. all-weaken Out Out' (references_of_output (output_of n)) k a) h.parts.notes;
  };
}
  where
    frame : (x : Frame) → FrameIs g Is x → FrameIs g Is' x
    frame (CallFrame target method fuel arguments) a = ((a.0.0, f _ a.0.1), all-weaken Is Is' (references_of arguments) f a.1)
    frame (ReturnedFrame value fuel) a = all-weaken Is Is' (references_in value) f a

only-weaken : {g : Setting} {Is Is' : Ref → Type 0} {s : State} → ((r : Ref) → Is r → Is' r) → Only g Is Any (Waits g) s → Only g Is' Any (Waits g) s
only-weaken f h = only-wider f (λ r is. is) (λ r is. tt) h

-- ---- all events but a Sweep

commit-stores : (g : Setting) (class : ClassId) (u s : State) → u.store ≡ s.store → u.objects_made ≡ s.objects_made → LivingTasks.is_full s ≡ false
    → (LivingTasks.after_op g (Create class) u).store ≡ Made (LivingTasks.next_object s) class ∷ s.store
unfolding LivingTasks.after_op
commit-stores g class u s e n full = pick (LivingTasks.is_full u) refl
  where
    pick : (b : Bool) → LivingTasks.is_full u ≡ b → (if b then u else record u { objects_made = u.objects_made + 1; store = Made (LivingTasks.next_object u) class ∷ u.store }).store ≡ Made (LivingTasks.next_object s) class ∷ s.store
    pick true is = absurd (true≢false (sym is ∙ ap (λ (st : List Stored). nat_le 65536 (length (standing st))) e ∙ full))
    pick false is = ap (λ (k : ℕ). Made (record { 0 = k + 1 }) class ∷ u.store) n ∙ ap (λ (st : List Stored). Made (LivingTasks.next_object s) class ∷ st) e

held-store : (ids : List ForeignId) (s : State) → ((Holders.hold_ids ids s).store ≡ s.store) × ((Holders.hold_ids ids s).objects_made ≡ s.objects_made)
unfolding Holders.hold_ids Rattle.sp_rules.specs.Lists.each
held-store [] s = (refl, refl)
held-store (r ∷ ids) s = held-store ids (Holders.holder_comes s r)

made-store : (g : Setting) (task k : ℕ) (class : ClassId) (s : State) (t : Living) → ready_at s task ≡ Some t → LivingTasks.is_full s ≡ false
    → (Space.on g (Committed task k (Create class)) s).0.store ≡ Made (LivingTasks.next_object s) class ∷ s.store
unfolding Space.on Space.happen LivingTasks.commit
made-store g task k class s t ready full = by (ready_at s task) ready
  where
    reply : Rattle.sp_rules.specs.Behaviours.Reply
    reply = LivingTasks.op_reply g (Create class) s

    u : State
    u = Rattle.sp_rules.specs.State.set_task (λ (v : Living). LivingTasks.after_reply g reply (LivingTasks.after_steps k v)) task s

    ids : Living → List ForeignId
    ids v = foreign_ids g.id (Rattle.sp_rules.specs.Tasks.gained v.task (Rattle.sp_rules.specs.Tasks.answer g reply (steps k v.task)))

    by : (found : Option Living) → found ≡ Some t → (with_some found s (λ v. LivingTasks.after_op g (Create class) (Holders.hold_ids (ids v) u))).store ≡ Made (LivingTasks.next_object s) class ∷ s.store
    by None e = absurd (some-none t (sym e))
    by (Some v) e = commit-stores g class (Holders.hold_ids (ids v) u) s (held-store (ids v) u).0 (held-store (ids v) u).1 full

-- an object that is made stands in the store
pub create-stores : (g : Setting) (lent : List ℕ) (s : State) (task k : ℕ) (class : ClassId) → first_refusal (checks g lent s (Committed task k (Create class))) ≡ None → LivingTasks.is_full s ≡ false
    → (Space.on g (Committed task k (Create class)) s).0.store ≡ Made (LivingTasks.next_object s) class ∷ s.store
create-stores g lent s task k class e full =
    let hand : not (Refusals.is_in_hand lent s task) ≡ false = (first-of (not (Refusals.is_in_hand lent s task)) Refusals.NotLent (Refusals.refuse_if (not (Refusals.holds_op g (task_at s task) (Create class))) Refusals.NotHeld ++ Refusals.check_committed g s (Create class) (Refusals.stand_after k (task_at s task))) e).0 in
    let there : (t : Living) × (ready_at s task ≡ Some t) = has-some (ready_at s task) (and-right (list_any (◌==◌ task) lent) (is_some (ready_at s task)) (not-false (Refusals.is_in_hand lent s task) hand)) in
    made-store g task k class s there.0 there.1 full

last-one : (o : Object) (os : List Object) → IsOne o (os ++ o ∷ [])
last-one o [] = inl refl
last-one o (p ∷ os) = inr (last-one o os)

new-names : (g : Setting) (lent : List ℕ) (s : State) (task k : ℕ) (class : ClassId) → first_refusal (checks g lent s (Committed task k (Create class))) ≡ None → LivingTasks.is_full s ≡ false
    → Names g (standing (Space.on g (Committed task k (Create class)) s).0.store) (record { space = g.id; id = LivingTasks.next_object s; class = class })
new-names g lent s task k class e full =
    let new : Object = record { id = LivingTasks.next_object s; class = class } in
    subst (λ os. Names g os (own_reference g new)) (sym (ap standing (create-stores g lent s task k class e full))) (own-object g new _ (last-one new (standing s.store)))

-- a reference that is not refused names a standing object, if it is own
brought-names : (g : Setting) (s : State) (r : Ref) → Holders.is_refused g s r ≡ false → Names g (standing s.store) r
brought-names g s r e own = own-names g s r (pick (not (g.classes.is_remote r.class)) (bytes_eq r.space g.id) (Holders.is_own_standing g s r) e own)
  where
    pick : (a b c : Bool) → a || (b && not c) ≡ false → b ≡ true → c ≡ true
    pick true b c e f = absurd (true≢false e)
    pick false true true e f = refl
    pick false true false e f = absurd (true≢false e)
    pick false false c e f = absurd (true≢false (sym f))

pub root-names : (g : Setting) (s : State) (r : Ref) → Refusals.is_root_argument g s r ≡ true → Names g (standing s.store) r
root-names g s r e own = own-names g s r (pick (bytes_eq r.space g.id) own e)
  where
    pick : (b : Bool) → b ≡ true → (if b then Holders.is_own_standing g s r else has_holder g s r && is_some (Holders.lease_now s (record { space = r.space; id = r.id })).lease) ≡ true → Holders.is_own_standing g s r ≡ true
    pick true t f = f
    pick false t f = absurd (true≢false (sym t))

-- the arguments of a root that is taken may be a root's
pub root-arguments : (g : Setting) (lent : List ℕ) (s : State) (method : ℕ) (arguments : List Value) (fuel : ℕ) → first_refusal (checks g lent s (Root method arguments fuel)) ≡ None
    → AllOf (λ r. Refusals.is_root_argument g s r ≡ true) (references_of arguments)
root-arguments g lent s method arguments fuel r =
    all-pass (Refusals.is_root_argument g s) (references_of arguments) (not-false (list_all (Refusals.is_root_argument g s) (references_of arguments)) (first-of (not (list_all (Refusals.is_root_argument g s) (references_of arguments))) Refusals.NotHeld more
    (later (Refusals.refuse_start (g.classes.start_refusal g.id method arguments)) (Refusals.refuse_if (not (list_all (Refusals.is_root_argument g s) (references_of arguments))) Refusals.NotHeld ++ more) r)).0)
  where
    more : List Check
    more = Refusals.refuse_if (Rattle.std.specs.Prelude.nat_lt g.limits.fuel fuel) Refusals.WrongKind ++ Refusals.refuse_if (Rattle.sp_rules.specs.Frames.is_busy s) Refusals.Busy

own-events : (g : Setting) (lent : List ℕ) (s : State) (e : Event) → first_refusal (checks g lent s e) ≡ None → ((r : Ref) → Names g (standing s.store) r → Names g (standing (Space.on g e s).0.store) r)
    → EventIs g (Names g (standing (Space.on g e s).0.store)) s e
own-events g lent s (Root method arguments fuel) r lift =
    all-weaken (λ x. Refusals.is_root_argument g s x ≡ true) _ (references_of arguments) (λ x t. lift x (root-names g s x t))
    (root-arguments g lent s method arguments fuel r)
own-events g lent s (Received conn m) r lift = every (references_of_message m)
  where
    every : (refs : List Ref) → AllOf (RefBrings g (Names g (standing (Space.on g (Received conn m) s).0.store)) s) refs
    every [] = tt
    every (x ∷ refs) = (λ e. lift x (brought-names g s x e), every refs)
own-events g lent s (Committed task k (Create class)) r lift = λ full. new-names g lent s task k class r full
own-events g lent s (Committed task k (Get id slot)) r lift = tt
own-events g lent s (Committed task k (Put id slot value)) r lift = tt
own-events g lent s (Committed task k (Call target method arguments)) r lift = tt
own-events g lent s (Moment moment) r lift = tt
own-events g lent s Sweep r lift = tt
own-events g lent s (RootAck task) r lift = tt
own-events g lent s (Bind name value) r lift = tt
own-events g lent s (Rebind name value) r lift = tt
own-events g lent s (Unbind name) r lift = tt
own-events g lent s (Lookup peer name) r lift = tt
own-events g lent s (Opened conn dialled) r lift = tt
own-events g lent s (Refused peer) r lift = tt
own-events g lent s (Closed conn) r lift = tt
own-events g lent s (ReadFailed conn) r lift = tt
own-events g lent s (Bad conn) r lift = tt
own-events g lent s (WriteFailed conn unsent) r lift = tt
own-events g lent s (Parked task k) r lift = tt
own-events g lent s (GivenBack task k) r lift = tt
own-events g lent s (Finished task k) r lift = tt

abbrev pub OwnOnly : Setting → State → Type 0
OwnOnly g s = Only g (Names g (standing s.store)) Any (Waits g) s

no-sweep-keeps : (g : Setting) (lent : List ℕ) (s : State) (e : Event) → is_sweep e ≡ false → refusal g lent s e ≡ None → OwnOnly g s → OwnOnly g (Space.on g e s).0
no-sweep-keeps g lent s e other t h = (on_only e (taken-brings lent e t (own-events g lent s e (unrefused g lent s e t) lift) wide) wide).state
  where
    lift : (r : Ref) → Names g (standing s.store) r → Names g (standing (Space.on g e s).0.store) r
    lift r names own = let x : NamesIn r (standing s.store) = names own in (x.0, only_sweeps_withdraw g e s x.0 other x.1, x.2, x.3)

    wide : Only g (Names g (standing (Space.on g e s).0.store)) Any (Waits g) s
    wide = only-weaken lift h

-- ---- a Sweep

one-filter : (is : ObjId → Bool) (o : Object) (os : List Object) → is o.id ≡ true → IsOne o os → IsOne o (filter (λ (p : Object). is p.id) os)
one-filter is o [] t one = absurd one
one-filter is o (p ∷ os) t (inl e) = pick (is p.id) (ap (λ (q : Object). is q.id) e ∙ t)
  where
    pick : (b : Bool) → b ≡ true → IsOne o (cond b (p ∷ filter (λ (q : Object). is q.id) os) (filter (λ (q : Object). is q.id) os))
    pick true f = inl e
    pick false f = absurd (true≢false (sym f))
one-filter is o (p ∷ os) t (inr one) = pick (is p.id) (one-filter is o os t one)
  where
    pick : (b : Bool) → IsOne o (filter (λ (q : Object). is q.id) os) → IsOne o (cond b (p ∷ filter (λ (q : Object). is q.id) os) (filter (λ (q : Object). is q.id) os))
    pick true r = inr r
    pick false r = r

pub same-id : (a : ObjId) → is_id a a ≡ true
same-id a = eq-eqb a.0 a.0 refl

in-append : (id : ObjId) (xs ys : List ObjId) → is_id_in ys id ≡ true → is_id_in (xs ++ ys) id ≡ true
in-append id [] ys e = e
in-append id (x ∷ xs) ys e = or-right (is_id id x) _ (in-append id xs ys e)

in-front : (id : ObjId) (xs ys : List ObjId) → is_id_in xs id ≡ true → is_id_in (xs ++ ys) id ≡ true
in-front id [] ys e = absurd (true≢false (sym e))
in-front id (x ∷ xs) ys e = pick (is_id id x) e (in-front id xs ys)
  where
    pick : (b : Bool) → b || is_id_in xs id ≡ true → (is_id_in xs id ≡ true → is_id_in (xs ++ ys) id ≡ true) → b || is_id_in (xs ++ ys) id ≡ true
    pick true f rest = refl
    pick false f rest = rest f

-- an own reference of these has its id among their own ids
own-in : (own : Uuid) (refs : List Ref) → AllOf (λ (r : Ref). bytes_eq r.space own ≡ true → is_id_in (own_ids own refs) r.id ≡ true) refs
own-in own [] = tt
own-in own (x ∷ refs) = (
  first,
  all-weaken (λ (r : Ref). bytes_eq r.space own ≡ true → is_id_in (own_ids own refs) r.id ≡ true) (λ (r : Ref). bytes_eq r.space own ≡ true → is_id_in (own_ids own (x ∷ refs)) r.id ≡ true) refs
      (λ r f e. in-append r.id (own_id own x) (own_ids own refs) (f e)) (own-in own refs),
)
  where
    first : bytes_eq x.space own ≡ true → is_id_in (own_ids own (x ∷ refs)) x.id ≡ true
    first e = pick (bytes_eq x.space own) e
      where
        pick : (b : Bool) → b ≡ true → is_id_in ((if b then x.id ∷ [] else []) ++ own_ids own refs) x.id ≡ true
        pick true f = or-left (is_id x.id x.id) _ (same-id x.id)
        pick false f = absurd (true≢false (sym f))

-- references that have a reason to stay name what is left
strong-refs : (g : Setting) (s : State) (refs : List Ref) → ((id : ObjId) → is_id_in (own_ids g.id refs) id ≡ true → has_reason g s id ≡ true)
    → AllOf (Names g (standing s.store)) refs → AllOf (Names g (filter (λ (o : Object). has_reason g s o.id) (standing s.store))) refs
strong-refs g s refs reason a = all-with (Names g (standing s.store)) (λ (r : Ref). bytes_eq r.space g.id ≡ true → is_id_in (own_ids g.id refs) r.id ≡ true) (Names g (filter (λ (o : Object). has_reason g s o.id) (standing s.store))) refs
    (λ r names among own. stays r (names own) (reason r.id (among own))) a (own-in g.id refs)
  where
    stays : (r : Ref) → NamesIn r (standing s.store) → has_reason g s r.id ≡ true → NamesIn r (filter (λ (o : Object). has_reason g s o.id) (standing s.store))
    stays r x e = (x.0, one-filter (has_reason g s) x.0 (standing s.store) (subst (λ i. has_reason g s i ≡ true) (sym x.2) e) x.1, x.2, x.3)

task-reason : (g : Setting) (s : State) (id : ObjId) → Holders.is_held_by_tasks g s id ≡ true → has_reason g s id ≡ true
unfolding has_reason
task-reason g s id e = or-right (Holders.is_bound s id) _ (or-right (Holders.has_entry s id) _ (or-left (Holders.is_held_by_tasks g s id) _ e))

field-reason : (g : Setting) (s : State) (id : ObjId) → Holders.is_in_a_field g s id ≡ true → has_reason g s id ≡ true
unfolding has_reason
field-reason g s id e = or-right (Holders.is_bound s id) _ (or-right (Holders.has_entry s id) _ (or-right (Holders.is_held_by_tasks g s id) _ (or-left (Holders.is_in_a_field g s id) _ e)))

result-reason : (g : Setting) (s : State) (id : ObjId) → Holders.is_in_a_result g s id ≡ true → has_reason g s id ≡ true
unfolding has_reason
result-reason g s id e = or-right (Holders.is_bound s id) _ (or-right (Holders.has_entry s id) _ (or-right (Holders.is_held_by_tasks g s id) _ (or-right (Holders.is_in_a_field g s id) _ (or-left (Holders.is_in_a_result g s id) _ e))))

parked-reason : (g : Setting) (s : State) (id : ObjId) → Holders.is_parked g s id ≡ true → has_reason g s id ≡ true
unfolding has_reason
parked-reason g s id e = or-right (Holders.is_bound s id) _ (or-right (Holders.has_entry s id) _ (or-right (Holders.is_held_by_tasks g s id) _ (or-right (Holders.is_in_a_field g s id) _ (or-right (Holders.is_in_a_result g s id) _ e))))

-- a number below another is among those below it
last-there : (slot : ℕ) (xs : List ℕ) (k : ℕ) → slot ≡ k → list_any (λ (k : ℕ). slot == k) (xs ++ k ∷ []) ≡ true
last-there slot [] k e = or-left (slot == k) false (eq-eqb slot k e)
last-there slot (x ∷ xs) k e = or-right (slot == x) _ (last-there slot xs k e)

more-there : (slot : ℕ) (xs : List ℕ) (k : ℕ) → list_any (λ (k : ℕ). slot == k) xs ≡ true → list_any (λ (k : ℕ). slot == k) (xs ++ k ∷ []) ≡ true
more-there slot [] k e = absurd (true≢false (sym e))
more-there slot (x ∷ xs) k e = step (slot == x) e (more-there slot xs k)
  where
    step : (b : Bool) → b || list_any (λ (k : ℕ). slot == k) xs ≡ true → (list_any (λ (k : ℕ). slot == k) xs ≡ true → list_any (λ (k : ℕ). slot == k) (xs ++ k ∷ []) ≡ true) → b || list_any (λ (k : ℕ). slot == k) (xs ++ k ∷ []) ≡ true
    step true f rest = refl
    step false f rest = rest f

below-there : (n slot : ℕ) → slot < n → list_any (λ (k : ℕ). slot == k) (numbers_below n) ≡ true
below-there zero slot lt = absurd (omega (arith, lt))
below-there (suc n) slot lt = pick (slot == n) refl (below-there n slot)
  where
    less : (slot ≡ n → ⊥) → slot < n
    less other = omega (arith, lt, other)

    pick : (b : Bool) → (slot == n) ≡ b → (slot < n → list_any (λ (k : ℕ). slot == k) (numbers_below n) ≡ true) → list_any (λ (k : ℕ). slot == k) (numbers_below n ++ n ∷ []) ≡ true
    pick true is rest = last-there slot (numbers_below n) n (eqb-true slot n is)
    pick false is rest = more-there slot (numbers_below n) n (rest (less (λ e. true≢false (sym (eq-eqb slot n e) ∙ is))))

append-assoc : (a b c : List ObjId) → (a ++ b) ++ c ≡ a ++ (b ++ c)
append-assoc [] b c = refl
append-assoc (y ∷ a) b c = ap (λ (zs : List ObjId). y ∷ zs) (append-assoc a b c)

ids-joined : (own : Uuid) (xs ys : List Ref) → own_ids own (xs ++ ys) ≡ own_ids own xs ++ own_ids own ys
ids-joined own [] ys = refl
ids-joined own (x ∷ xs) ys = ap (λ (zs : List ObjId). own_id own x ++ zs) (ids-joined own xs ys) ∙ sym (append-assoc (own_id own x) (own_ids own xs) (own_ids own ys))

field-in : (f : ℕ → Value) (own : Uuid) (slots : List ℕ) (slot : ℕ) (id : ObjId) → list_any (λ (k : ℕ). slot == k) slots ≡ true → is_id_in (own_ids own (reference_of (f slot))) id ≡ true
    → is_id_in (own_ids own (references_of (map f slots))) id ≡ true
field-in f own [] slot id e a = absurd (true≢false (sym e))
field-in f own (k ∷ slots) slot id e a = subst (λ ids. is_id_in ids id ≡ true) (sym (ids-joined own (reference_of (f k)) (references_of (map f slots)))) (pick (slot == k) refl e (λ t. field-in f own slots slot id t a))
  where
    pick : (b : Bool) → (slot == k) ≡ b → b || list_any (λ (j : ℕ). slot == j) slots ≡ true → (list_any (λ (j : ℕ). slot == j) slots ≡ true → is_id_in (own_ids own (references_of (map f slots))) id ≡ true)
        → is_id_in (own_ids own (reference_of (f k)) ++ own_ids own (references_of (map f slots))) id ≡ true
    pick true is t rest = in-front id (own_ids own (reference_of (f k))) _ (subst (λ n. is_id_in (own_ids own (reference_of (f n))) id ≡ true) (eqb-true slot k is) a)
    pick false is t rest = in-append id (own_ids own (reference_of (f k))) _ (rest t)

-- a field that was written holds what was written
written-in : (g : Setting) (s : State) (o : Object) (slot : ℕ) (id : ObjId) → is_some (field_kind g.classes o.class slot) ≡ true
    → is_id_in (own_ids g.id (references_in (last_written s.store o.id slot))) id ≡ true → is_id_in (own_ids g.id (references_of (fields_of g s o))) id ≡ true
written-in g s o slot id has e =
    let x : (k : Rattle.sp_rules.specs.Classes.Kind) × (field_kind g.classes o.class slot ≡ Some k) = has-some (field_kind g.classes o.class slot) has in
    field-in (Holders.field g s o) g.id (numbers_below (length (g.classes.fields o.class))) slot id (below-there _ slot (slice_get_within (g.classes.fields o.class) slot x.0 x.1)) (is (last_written s.store o.id slot) e)
  where
    is : (v : Option Value) → is_id_in (own_ids g.id (references_in v)) id ≡ true → is_id_in (own_ids g.id (reference_of (unwrap_or v (Rattle.sp_rules.specs.Classes.blank (field_kind g.classes o.class slot))))) id ≡ true
    is None e = absurd (true≢false (sym e))
    is (Some v) e = e

-- a result that is parked is no own reference, since that waits for nothing
foreign-result : (g : Setting) (os : List Object) (v : Option Value) (ids : List ForeignId) → ids ≡ foreign_ids g.id (references_in v) → is_none_of ids ≡ false → AllOf (Names g os) (references_in v)
foreign-result g os None ids e some = tt
foreign-result g os (Some values.Null) ids e some = tt
foreign-result g os (Some (values.Int n)) ids e some = tt
foreign-result g os (Some (values.Ints ns)) ids e some = tt
foreign-result g os (Some (values.Ref r)) ids e some = (λ own. absurd (true≢false (sym (waits own) ∙ ap is_none_of (sym e) ∙ some)), tt)
  where
    waits : bytes_eq r.space g.id ≡ true → is_none_of (foreign_ids g.id (r ∷ [])) ≡ true
    waits own = pick (bytes_eq r.space g.id) own
      where
        pick : (b : Bool) → b ≡ true → is_none_of ((if b then [] else record { space = r.space; id = r.id } ∷ []) ++ []) ≡ true
        pick true f = refl
        pick false f = absurd (true≢false (sym f))

strong : (g : Setting) (s : State) (st : List Stored) → standing st ≡ filter (λ (o : Object). has_reason g s o.id) (standing s.store) → ((id : ObjId) (slot : ℕ) → last_written st id slot ≡ last_written s.store id slot)
    → OwnOnly g s → Only g (Names g (filter (λ (o : Object). has_reason g s o.id) (standing s.store))) Any (Waits g) (record s { store = st })
strong g s st e same h = record {
  parts = record {
    lets = λ r is. tt;
    objects = subst (λ os. AllOf (λ (o : Object). Names g (rest) (own_reference g o)) os) (sym e) (all-weaken (λ o. IsOne o rest) (λ (o : Object). Names g rest (own_reference g o)) rest (λ o one. own-object g o rest one) (each-one rest));
    numbers = subst (AllOf (λ (o : Object). o.id.0 ≤ s.objects_made)) (sym e) (all-filter (λ (o : Object). o.id.0 ≤ s.objects_made) (λ (o : Object). has_reason g s o.id) (standing s.store) h.parts.numbers);
    unwritten = λ id slot high. same id slot ∙ h.parts.unwritten id slot high;
    fields = subst (AllOf (FieldsAre g (Names g rest) st)) (sym e) (all-filter (FieldsAre g (Names g rest) st) (λ (o : Object). has_reason g s o.id) (standing s.store)
        (all-with (FieldsAre g (Names g (standing s.store)) s.store) (λ (o : Object). (id : ObjId) → is_id_in (own_ids g.id (references_of (fields_of g s o))) id ≡ true → Holders.is_in_a_field g s id ≡ true) (FieldsAre g (Names g rest) st) (standing s.store)
        field h.parts.fields (each-any (λ (o : Object) id. is_id_in (own_ids g.id (references_of (fields_of g s o))) id) (standing s.store))));
    tasks = all-with (λ (t : Living). AllOf (Names g (standing s.store)) t.task.held) (λ (t : Living). (id : ObjId) → is_id_in (own_ids g.id t.task.held) id ≡ true → Holders.is_held_by_tasks g s id ≡ true) (λ (t : Living). AllOf (Names g rest) t.task.held) s.tasks
        (λ t a f. strong-refs g s t.task.held (λ id i. task-reason g s id (f id i)) a) h.parts.tasks (each-any (λ (t : Living) id. is_id_in (own_ids g.id t.task.held) id) s.tasks);
    results = all-with (λ (k : KeptResult). AllOf (Names g (standing s.store)) (references_in k.value)) (λ (k : KeptResult). (id : ObjId) → is_id_in (own_ids g.id (references_in k.value)) id ≡ true → Holders.is_in_a_result g s id ≡ true) (λ (k : KeptResult). AllOf (Names g rest) (references_in k.value)) s.results
        (λ k a f. strong-refs g s (references_in k.value) (λ id i. result-reason g s id (f id i)) a) h.parts.results (each-any (λ (k : KeptResult) id. is_id_in (own_ids g.id (references_in k.value)) id) s.results);
    parked = all-with (λ (p : ParkedFrame). FrameIs g (Names g (standing s.store)) p.frame × Waits g p) (λ (p : ParkedFrame). (id : ObjId) → is_id_in (Holders.in_frame g p.frame) id ≡ true → Holders.is_parked g s id ≡ true) (λ (p : ParkedFrame). FrameIs g (Names g rest) p.frame) s.parked
        (λ p a f. frame p.frame p.references a.0 a.1 f) (all-with (λ (p : ParkedFrame). FrameIs g (Names g (standing s.store)) p.frame) (Waits g) (λ (p : ParkedFrame). FrameIs g (Names g (standing s.store)) p.frame × Waits g p) s.parked (λ p a b. (a, b)) h.parts.parked h.parts.kept)
        (each-any (λ (p : ParkedFrame) id. is_id_in (Holders.in_frame g p.frame) id) s.parked);
    kept = h.parts.kept;
    requests = h.parts.requests;
    fresh = h.parts.fresh;
    notes = h.parts.notes;
  };
}
  where
    rest : List Object
    rest = filter (λ (o : Object). has_reason g s o.id) (standing s.store)

    field : (o : Object) → FieldsAre g (Names g (standing s.store)) s.store o → ((id : ObjId) → is_id_in (own_ids g.id (references_of (fields_of g s o))) id ≡ true → Holders.is_in_a_field g s id ≡ true) → FieldsAre g (Names g rest) st o
    field o a f slot has = subst (λ v. AllOf (Names g rest) (references_in v)) (sym (same o.id slot)) (strong-refs g s _ (λ id i. field-reason g s id (f id (written-in g s o slot id has i))) (a slot has))

    frame : (x : Frame) (ids : List ForeignId) → FrameIs g (Names g (standing s.store)) x → Matches g x ids × (is_none_of ids ≡ false) → ((id : ObjId) → is_id_in (Holders.in_frame g x) id ≡ true → Holders.is_parked g s id ≡ true) → FrameIs g (Names g rest) x
    frame (CallFrame target method fuel arguments) ids a w f =
        let t : AllOf (Names g rest) (record { space = g.id; id = target; class = a.0.0 } ∷ []) = strong-refs g s (record { space = g.id; id = target; class = a.0.0 } ∷ []) (λ id i. parked-reason g s id (f id (target-in target id _ i))) (a.0.1, tt) in
        ((a.0.0, t.0), strong-refs g s (references_of arguments) (λ id i. parked-reason g s id (f id (or-right (is_id id target) _ i))) a.1)
      where
        target-in : (t id : ObjId) (more : List ObjId) → is_id_in (own_ids g.id (record { space = g.id; id = t; class = a.0.0 } ∷ [])) id ≡ true → is_id_in (t ∷ more) id ≡ true
        target-in t id more i = pick (bytes_eq g.id g.id) i
          where
            pick : (b : Bool) → is_id_in ((if b then t ∷ [] else []) ++ []) id ≡ true → is_id id t || is_id_in more id ≡ true
            pick true i = or-left (is_id id t) _ (alone (is_id id t) i)
              where
                alone : (c : Bool) → c || false ≡ true → c ≡ true
                alone true f = refl
                alone false f = f
            pick false i = absurd (true≢false (sym i))
    frame (ReturnedFrame value fuel) ids a w f = foreign-result g rest value ids w.0 w.1

-- the store that a Sweep leaves has the same fields
left-written : (s : State) (gone : List Object) (id : ObjId) (slot : ℕ) → last_written (store_left s gone) id slot ≡ last_written s.store id slot
left-written s [] id slot = refl
left-written s (o ∷ os) id slot = refl

sweep-keeps : (g : Setting) (s : State) → OwnOnly g s → OwnOnly g (Space.on g Sweep s).0
sweep-keeps g s h = subst (λ os. Only g (Names g os) Any (Waits g) (Space.on g Sweep s).0) (sym (sweep_is_exact g s))
    (swept_only s (leaves (OwnEvents.without_reason g s) (strong g s (store_left s (OwnEvents.without_reason g s)) (left_exact g s) (left-written s (OwnEvents.without_reason g s)) h))).state
  where
    leaves : (gone : List Object) → Only g (Names g (filter (λ (o : Object). has_reason g s o.id) (standing s.store))) Any (Waits g) (record s { store = store_left s gone })
        → Only g (Names g (filter (λ (o : Object). has_reason g s o.id) (standing s.store))) Any (Waits g) (left s gone)
    leaves [] k = k
    leaves (o ∷ os) k = k

-- ---- all histories

own-keeps : (g : Setting) (lent : List ℕ) (s : State) (e : Event) → refusal g lent s e ≡ None → OwnOnly g s → OwnOnly g (Space.on g e s).0
own-keeps g lent s Sweep t h = sweep-keeps g s h
own-keeps g lent s (Moment moment) t h = no-sweep-keeps g lent s (Moment moment) refl t h
own-keeps g lent s (Root method arguments fuel) t h = no-sweep-keeps g lent s (Root method arguments fuel) refl t h
own-keeps g lent s (RootAck task) t h = no-sweep-keeps g lent s (RootAck task) refl t h
own-keeps g lent s (Bind name value) t h = no-sweep-keeps g lent s (Bind name value) refl t h
own-keeps g lent s (Rebind name value) t h = no-sweep-keeps g lent s (Rebind name value) refl t h
own-keeps g lent s (Unbind name) t h = no-sweep-keeps g lent s (Unbind name) refl t h
own-keeps g lent s (Lookup peer name) t h = no-sweep-keeps g lent s (Lookup peer name) refl t h
own-keeps g lent s (Opened conn dialled) t h = no-sweep-keeps g lent s (Opened conn dialled) refl t h
own-keeps g lent s (Refused peer) t h = no-sweep-keeps g lent s (Refused peer) refl t h
own-keeps g lent s (Received conn m) t h = no-sweep-keeps g lent s (Received conn m) refl t h
own-keeps g lent s (Closed conn) t h = no-sweep-keeps g lent s (Closed conn) refl t h
own-keeps g lent s (ReadFailed conn) t h = no-sweep-keeps g lent s (ReadFailed conn) refl t h
own-keeps g lent s (Bad conn) t h = no-sweep-keeps g lent s (Bad conn) refl t h
own-keeps g lent s (WriteFailed conn unsent) t h = no-sweep-keeps g lent s (WriteFailed conn unsent) refl t h
own-keeps g lent s (Committed task k op) t h = no-sweep-keeps g lent s (Committed task k op) refl t h
own-keeps g lent s (Parked task k) t h = no-sweep-keeps g lent s (Parked task k) refl t h
own-keeps g lent s (GivenBack task k) t h = no-sweep-keeps g lent s (GivenBack task k) refl t h
own-keeps g lent s (Finished task k) t h = no-sweep-keeps g lent s (Finished task k) refl t h

pub own-only : (g : Setting) (h : List Event) → IsTaken g h → OwnOnly g (Space.state_of g h)
unfolding Space.state_of opening
own-only g [] t = record {
  parts = record {
    lets = λ r is. tt;
    objects = tt;
    numbers = tt;
    unwritten = λ id slot high. refl;
    fields = tt;
    tasks = tt;
    results = tt;
    parked = tt;
    kept = tt;
    requests = tt;
    fresh = tt;
    notes = tt;
  };
}
own-only g (e ∷ h) t = own-keeps g t.0.0 (Space.state_of g h) e t.0.1 (own-only g h t.1)

pub fresh-of : (g : Setting) (h : List Event) → Fresh (Space.state_of g h)
unfolding Space.state_of opening
fresh-of g [] = (omega arith, omega arith)
fresh-of g (e ∷ h) = fresh_after g (Space.state_of g h) e (fresh-of g h)

-- ---- as the law says it

above : (n last : ℕ) (o : Object) (os : List Object) → RisesWithin n last (map (λ (p : Object). p.id.0) os) → IsOne o os → n + 1 ≤ o.id.0
above n last o [] r one = absurd one
above n last o (p ∷ os) r (inl e) = subst (λ (q : Object). n + 1 ≤ q.id.0) e r.0
above n last o (p ∷ os) r (inr one) = let a : n + 1 ≤ p.id.0 = r.0 in let b : p.id.0 + 1 ≤ o.id.0 = above p.id.0 last o os r.1 one in omega arith

-- each id is that of one object
find-one : (n last : ℕ) (o : Object) (os : List Object) → RisesWithin n last (map (λ (p : Object). p.id.0) os) → IsOne o os → find (λ (p : Object). is_id p.id o.id) os ≡ Some o
find-one n last o [] r one = absurd one
find-one n last o (p ∷ os) r (inl e) = pick (is_id p.id o.id) (subst (λ (q : Object). is_id p.id q.id ≡ true) e (same-id p.id))
  where
    pick : (b : Bool) → b ≡ true → cond b (Some p) (find (λ (q : Object). is_id q.id o.id) os) ≡ Some o
    pick true t = ap {A = Object} {B = Option Object} (λ q. Some q) e
    pick false t = absurd (true≢false (sym t))
find-one n last o (p ∷ os) r (inr one) = pick (is_id p.id o.id) refl (find-one p.id.0 last o os r.1 one)
  where
    pick : (b : Bool) → is_id p.id o.id ≡ b → find (λ (q : Object). is_id q.id o.id) os ≡ Some o → cond b (Some p) (find (λ (q : Object). is_id q.id o.id) os) ≡ Some o
    pick true is rest =
        let a : p.id.0 ≡ o.id.0 = ap (λ (i : ObjId). i.0) (one-id p.id o.id is) in
        let b : p.id.0 + 1 ≤ o.id.0 = above p.id.0 last o os r.1 one in absurd (omega arith)
    pick false is rest = rest

pub is-right : (g : Setting) (s : State) → Fresh s → (r : Ref) → Names g (standing s.store) r → IsRight g s r
is-right g s f r names own =
    let x : NamesIn r (standing s.store) = names own in
    subst (λ found. class_is r.class found ≡ true) (sym (subst (λ i. find (λ (p : Object). is_id p.id i) (standing s.store) ≡ Some x.0) x.2 (find-one 0 s.objects_made x.0 (standing s.store) f.0 x.1))) x.3

one-id-in : (o : Object) (os : List Object) → IsOne o os → is_id_in (map (λ (p : Object). p.id) os) o.id ≡ true
one-id-in o [] one = absurd one
one-id-in o (p ∷ os) (inl e) = or-left (is_id o.id p.id) _ (subst (λ (q : Object). is_id q.id p.id ≡ true) e (same-id p.id))
one-id-in o (p ∷ os) (inr one) = or-right (is_id o.id p.id) _ (one-id-in o os one)

target-stands : (g : Setting) (s : State) (x : Frame) → FrameIs g (Names g (standing s.store)) x → TargetStands s x
target-stands g s (CallFrame target method fuel arguments) a =
    let n : NamesIn (record { space = g.id; id = target; class = a.0.0 }) (standing s.store) = a.0.1 ((bytes_eq-Decides g.id g.id).1 refl) in
    subst (λ i. stands s i ≡ true) n.2 (one-id-in n.0 (standing s.store) n.1)
target-stands g s (ReturnedFrame value fuel) a = tt

frame-right : (g : Setting) (s : State) → Fresh s → (x : Frame) → FrameIs g (Names g (standing s.store)) x → AllOf (IsRight g s) (references_of_frame x)
frame-right g s f (CallFrame target method fuel arguments) a = all-weaken (Names g (standing s.store)) (IsRight g s) (references_of arguments) (is-right g s f) a.1
frame-right g s f (ReturnedFrame value fuel) a = all-weaken (Names g (standing s.store)) (IsRight g s) (references_in value) (is-right g s f) a

all-join : (P : Ref → Type 0) (xs ys : List Ref) → AllOf P xs → AllOf P ys → AllOf P (xs ++ ys)
all-join P [] ys b c = c
all-join P (x ∷ xs) ys b c = (b.0, all-join P xs ys b.1 c)

all-split : (P : Ref → Type 0) (xs ys : List Ref) → AllOf P (xs ++ ys) → AllOf P xs × AllOf P ys
all-split P [] ys b = (tt, b)
all-split P (x ∷ xs) ys b = let r : AllOf P xs × AllOf P ys = all-split P xs ys b.1 in ((b.0, r.0), r.1)

slots-join : (P : Ref → Type 0) (f : ℕ → Value) (slots : List ℕ) (slot : ℕ) → AllOf P (references_of (map f slots)) → AllOf P (reference_of (f slot)) → AllOf P (references_of (map f (slots ++ slot ∷ [])))
slots-join P f [] slot b c = all-join P (reference_of (f slot)) [] c tt
slots-join P f (k ∷ slots) slot b c =
    let both : AllOf P (reference_of (f k)) × AllOf P (references_of (map f slots)) = all-split P (reference_of (f k)) (references_of (map f slots)) b in
    all-join P (reference_of (f k)) _ both.0 (slots-join P f slots slot both.1 c)

all-slots : (P : Ref → Type 0) (f : ℕ → Value) (n : ℕ) → ((slot : ℕ) → slot < n → AllOf P (reference_of (f slot))) → AllOf P (references_of (map f (numbers_below n)))
all-slots P f zero b = tt
all-slots P f (suc n) b = slots-join P f (numbers_below n) n (all-slots P f n (λ slot lt. b slot (omega (arith, lt)))) (b n (omega arith))

-- the fields of an object hold what was written to each of its slots
pub fields-all : (P : Ref → Type 0) (g : Setting) (s : State) (o : Object) → FieldsAre g P s.store o → AllOf P (references_of (fields_of g s o))
fields-all P g s o a = all-slots P (Holders.field g s o) (length (g.classes.fields o.class)) (λ slot lt. slot-is P (field_kind g.classes o.class slot) (last_written s.store o.id slot) (a slot (within slot lt)))
  where
    within : (slot : ℕ) → slot < length (g.classes.fields o.class) → is_some (field_kind g.classes o.class slot) ≡ true
    within slot lt = by (slice_get_cases (g.classes.fields o.class) slot).1
      where
        by : ((x : Rattle.sp_rules.specs.Classes.Kind) × (slot < length (g.classes.fields o.class)) × (slice_get (g.classes.fields o.class) slot ≡ Some x) × (Rattle.std.specs.Prelude.get_or (g.classes.fields o.class) slot x ≡ x)) ⊎ ((length (g.classes.fields o.class) ≤ slot) × (slice_get (g.classes.fields o.class) slot ≡ None)) → is_some (field_kind g.classes o.class slot) ≡ true
        by (inl x) = ap is_some x.2
        by (inr x) = let high : length (g.classes.fields o.class) ≤ slot = x.0 in absurd (omega (arith, high, lt))

fields-right : (g : Setting) (s : State) → Fresh s → (o : Object) → FieldsAre g (Names g (standing s.store)) s.store o → AllOf (IsRight g s) (references_of (fields_of g s o))
fields-right g s f o a = all-weaken (Names g (standing s.store)) (IsRight g s) _ (is-right g s f) (fields-all (Names g (standing s.store)) g s o a)

pub own_references_stand : OwnReferencesStand
own_references_stand g h t = by (Space.state_of g h) (own-only g h t) (fresh-of g h)
  where
    by : (s : State) → OwnOnly g s → Fresh s → OwnStand g s
    by s o f = record {
      tasks = all-weaken (λ (u : Living). AllOf (Names g (standing s.store)) u.task.held) (λ (u : Living). AllOf (IsRight g s) u.task.held) s.tasks (λ u a. all-weaken (Names g (standing s.store)) (IsRight g s) u.task.held (is-right g s f) a) o.parts.tasks;
      fields = all-weaken (FieldsAre g (Names g (standing s.store)) s.store) (λ (p : Object). AllOf (IsRight g s) (references_of (fields_of g s p))) (standing s.store) (fields-right g s f) o.parts.fields;
      results = all-weaken (λ (k : KeptResult). AllOf (Names g (standing s.store)) (references_in k.value)) (λ (k : KeptResult). AllOf (IsRight g s) (references_in k.value)) s.results (λ k a. all-weaken (Names g (standing s.store)) (IsRight g s) (references_in k.value) (is-right g s f) a) o.parts.results;
      parked = all-weaken (λ (p : ParkedFrame). FrameIs g (Names g (standing s.store)) p.frame) (λ (p : ParkedFrame). AllOf (IsRight g s) (references_of_frame p.frame)) s.parked (λ p a. frame-right g s f p.frame a) o.parts.parked;
      targets = all-weaken (λ (p : ParkedFrame). FrameIs g (Names g (standing s.store)) p.frame) (λ (p : ParkedFrame). TargetStands s p.frame) s.parked (λ p a. target-stands g s p.frame a) o.parts.parked;
    }

-- ---- histories of worlds

abbrev TakenSpace : Space → Type 0
TakenSpace s = (s.state ≡ Space.state_of s.setting s.history) × HasTaken s

pub histories_are_taken : HistoriesAreTaken
unfolding Space.state_of
histories_are_taken settings events = all-weaken TakenSpace HasTaken _ (λ s h. h.1)
    (all_hold {P = TakenSpace} (record { grows = λ e s lent t h. (ap (λ u. (Space.on s.setting e u).0) h.0, ((lent, subst (λ u. refusal s.setting lent u e ≡ None) h.0 t), h.1)) }) (λ g. (refl, tt)) settings events)

-- ---- what has a holder

any-one : {A : Type 0} (Is : Ref → Type 0) (of : A → List Ref) (xs : List A) (r : Ref) → AllOf (λ x. AllOf Is (of x)) xs → list_any (λ x. is_reference_in (of x) r) xs ≡ true → Is r
any-one Is of [] r a e = absurd (true≢false (sym e))
any-one Is of (x ∷ xs) r a e = pick (is_reference_in (of x) r) refl e (any-one Is of xs r a.1)
  where
    pick : (b : Bool) → is_reference_in (of x) r ≡ b → b || list_any (λ y. is_reference_in (of y) r) xs ≡ true → (list_any (λ y. is_reference_in (of y) r) xs ≡ true → Is r) → Is r
    pick true is f rest = held-one Is (of x) r a.0 is
    pick false is f rest = rest f

pub frame-only : (g : Setting) (Is : Ref → Type 0) (x : Frame) → FrameIs g Is x → AllOf Is (references_of_frame x)
frame-only g Is (CallFrame target method fuel arguments) a = a.1
frame-only g Is (ReturnedFrame value fuel) a = a

one-of-four : {C : Type 0} (a b c d : Bool) → a || (b || (c || d)) ≡ true → (a ≡ true → C) → (b ≡ true → C) → (c ≡ true → C) → (d ≡ true → C) → C
one-of-four true b c d e f h k l = f refl
one-of-four false true c d e f h k l = h refl
one-of-four false false true d e f h k l = k refl
one-of-four false false false d e f h k l = l e

-- a reference that has a holder is of the kind of all that a space holds
pub held-is : {g : Setting} {Is Out : Ref → Type 0} {Kept : ParkedFrame → Type 0} {s : State} (r : Ref) → has_holder g s r ≡ true → Only g Is Out Kept s → Is r
held-is {g} {Is} {s = s} r e h =
    one-of-four (list_any (λ (t : Living). is_reference_in t.task.held r) s.tasks) (list_any (λ o. is_reference_in (references_of (fields_of g s o)) r) (standing s.store))
    (list_any (λ (k : KeptResult). is_reference_in (references_in k.value) r) s.results) (list_any (λ (p : ParkedFrame). is_reference_in (references_of_frame p.frame) r) s.parked) e
    (any-one Is (λ (t : Living). t.task.held) s.tasks r h.parts.tasks)
    (any-one Is (λ (o : Object). references_of (fields_of g s o)) (standing s.store) r (all-weaken (FieldsAre g Is s.store) (λ (o : Object). AllOf Is (references_of (fields_of g s o))) (standing s.store) (λ o a. fields-all Is g s o a) h.parts.fields))
    (any-one Is (λ (k : KeptResult). references_in k.value) s.results r h.parts.results)
    (any-one Is (λ (p : ParkedFrame). references_of_frame p.frame) s.parked r (all-weaken (λ (p : ParkedFrame). FrameIs g Is p.frame) (λ (p : ParkedFrame). AllOf Is (references_of_frame p.frame)) s.parked (λ p a. frame-only g Is p.frame a) h.parts.parked))

-- a foreign reference of a root has a holder
pub root-held : (g : Setting) (s : State) (r : Ref) → Refusals.is_root_argument g s r ≡ true → bytes_eq r.space g.id ≡ false → has_holder g s r ≡ true
root-held g s r e foreign = pick (bytes_eq r.space g.id) foreign e
  where
    pick : (b : Bool) → b ≡ false → (if b then Holders.is_own_standing g s r else has_holder g s r && is_some (Holders.lease_now s (record { space = r.space; id = r.id })).lease) ≡ true → has_holder g s r ≡ true
    pick true t f = absurd (true≢false t)
    pick false t f = and-left (has_holder g s r) _ f
