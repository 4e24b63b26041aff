-- The holders that a client counts and the actual ones, as tasks, fields, results and parked frames come, change and go.
use mathlib.Core.Path.{sym, ap, subst, ◌∙◌}
use Rattle.std.specs.Prelude.{◌≡◌, refl, ℕ, zero, suc, ◌+◌, ◌≤◌, ◌<◌, ◌==◌, not, length, Bool, true, false, cond, List, [], ◌∷◌, ◌++◌, Option, None, Some, drop, filter, find, map, unwrap_or, if◌then◌else◌}
use Rattle.std.proofs.Common.{arith}
use Rattle.std.proofs.lemmas.Bool.{true≢false, eq-eqb, eqb-true}
use Rattle.std.proofs.lemmas.List.{drop_at, append-nil}
use Rattle.dgc_client.specs.History.Event.{Held, Dropped}
use Rattle.dgc_client.specs.Table.{Told, On, is_same}
use Rattle.space_ids.specs.declared.ids.ForeignId.{ForeignId}
use Rattle.uuid.specs.declared.Uuid.{Uuid}
use Rattle.space_ids.specs.declared.ids.Ref.{Ref}
use Rattle.space_ids.specs.declared.value.Value.{Value}
use Rattle.sp_rules.specs.Behaviours.{Reply, Gives, GivesBack, Throws, RunsOut}
use Rattle.sp_rules.specs.Classes.{Setting, Kind, blank, field_kind}
use Rattle.sp_rules.specs.Events.{Turn}
use Rattle.sp_rules.specs.Holders
use Rattle.sp_rules.specs.Holders.{hold_ids, drop_ids, times_in}
use Rattle.sp_rules.specs.Laws.{RisesWithin}
use Rattle.sp_rules.specs.Lists.{each, with_some, numbers_below, total}
use Rattle.sp_rules.specs.References.{references_of, references_in, reference_of, with_references, is_reference_in}
use Rattle.sp_rules.specs.State.{State, Object, Stored, Living, KeptResult, ParkedFrame, standing, last_written, is_open, send}
use Rattle.net_message.specs.declared.message.Message.{Message}
use Rattle.sp_rules.specs.Tasks
use Rattle.sp_rules.specs.Tasks.{Task, answer}
use Rattle.sp_rules.proofs.FuelSums.{total-snoc}
use Rattle.sp_rules.proofs.OriginLemmas.{paid-held}
use Rattle.sp_laws.specs.Counted.{times_held}
use Rattle.sp_laws.proofs.CountLemmas.{bit, same-way, times-cons, refs_times, refs-append, counted, Alike, times-hold, times-drop, holders-hold, holders-drop}

-- ---- what is counted

pub record HoldParts : Type 0 where
  pub store : List Stored
  pub tasks : List Living
  pub results : List KeptResult
  pub parked : List ParkedFrame
  pub leases : List Told

abbrev pub hold_parts : State → HoldParts
hold_parts s = record { store = s.store; tasks = s.tasks; results = s.results; parked = s.parked; leases = s.leases }

abbrev pub task_holds : Uuid → ForeignId → Living → ℕ
task_holds u r t = refs_times u r t.task.held

-- what a slot of an object holds, by the store
abbrev pub slot_of : Setting → List Stored → Object → ℕ → Value
slot_of g store o slot = unwrap_or (last_written store o.id slot) (blank (field_kind g.classes o.class slot))

abbrev pub object_holds : Setting → ForeignId → List Stored → Object → ℕ
object_holds g r store o = refs_times g.id r (references_of (map (slot_of g store o) (numbers_below (length (g.classes.fields o.class)))))

abbrev pub result_holds : Uuid → ForeignId → KeptResult → ℕ
result_holds u r k = refs_times u r (references_in k.value)

abbrev pub parked_holds : ForeignId → ParkedFrame → ℕ
parked_holds r p = times_in r p.references

abbrev pub sum_of : Setting → ForeignId → HoldParts → ℕ
sum_of g r c =
    total (task_holds g.id r) c.tasks + (total (object_holds g r c.store) (standing c.store) + (total (result_holds g.id r) c.results + total (parked_holds r) c.parked))

pub record Even (g : Setting) (r : ForeignId) (m n : ℕ) (c : HoldParts) : Type 0 where
  pub even : times_held r c.leases < 18446744073709551615 → counted r c.leases + m ≡ sum_of g r c + n

-- The client counts the actual holders, but for m still to come, and n still to go.
pub record Off (g : Setting) (r : ForeignId) (m n : ℕ) (s : State) : Type 0 where
  pub parts : Even g r m n (hold_parts s)

-- ---- small steps

pub quiet : {g : Setting} {r : ForeignId} {m n : ℕ} {s : State} (t : State) → hold_parts t ≡ hold_parts s → Off g r m n s → Off g r m n t
quiet {g} {r} {m} {n} t e h = record { parts = subst (Even g r m n) (sym e) h.parts }

pub if_off : {g : Setting} {r : ForeignId} {m n : ℕ} {t u : State} (b : Bool) → Off g r m n t → Off g r m n u → Off g r m n (if b then t else u)
if_off true h k = h
if_off false h k = k

pub some_off : {g : Setting} {r : ForeignId} {m n : ℕ} {A : Type 0} {t : State} (x : Option A) (f : A → State) → Off g r m n t → ((a : A) → x ≡ Some a → Off g r m n (f a)) → Off g r m n (with_some x t f)
some_off None f h k = h
some_off (Some a) f h k = k a refl

pub each_off : {g : Setting} {r : ForeignId} {m n : ℕ} {A : Type 0} {s : State} (f : State → A → State) (xs : List A) → ((t : State) (x : A) → Off g r m n t → Off g r m n (f t x)) → Off g r m n s → Off g r m n (each f xs s)
unfolding each
each_off f [] k h = h
each_off {s = s} f (x ∷ xs) k h = each_off f xs k (k s x h)

pub renumber : {g : Setting} {r : ForeignId} {s : State} (m n m' n' : ℕ) → m + n' ≡ m' + n → Off g r m n s → Off g r m' n' s
renumber {g} {r} {s} m n m' n' e h = record {
  parts = record {
    even = λ lt.
        let a : counted r s.leases + m ≡ sum_of g r (hold_parts s) + n = h.parts.even lt in omega arith;
  };
}

-- each lets its number go
pub each_less : {g : Setting} {r : ForeignId} {n : ℕ} {A : Type 0} {s : State} (v : A → ℕ) (f : State → A → State) (xs : List A) → ((k : ℕ) (t : State) (x : A) → Off g r 0 (k + v x) t → Off g r 0 k (f t x))
    → Off g r 0 (n + total v xs) s → Off g r 0 n (each f xs s)
unfolding each
each_less {n = n} v f [] k h = renumber 0 (n + 0) 0 n (omega arith) h
each_less {n = n} {s = s} v f (x ∷ xs) k h = each_less v f xs k (k (n + total v xs) s x (renumber 0 (n + (v x + total v xs)) 0 (n + total v xs + v x) (omega arith) h))

pub leases_off : {g : Setting} {r : ForeignId} {m n : ℕ} {s : State} (told : List Told) → Alike r s.leases told → Off g r m n s → Off g r m n (record s { leases = told })
leases_off {g} {r} {m} {n} {s} told a h = record {
  parts = record {
    even = λ lt.
        let t : times_held r told ≡ times_held r s.leases = a.times in
        let c : counted r told ≡ counted r s.leases = a.holders in
        let e : counted r s.leases + m ≡ sum_of g r (hold_parts s) + n = h.parts.even (omega arith) in omega arith;
  };
}

pub send_off : {g : Setting} {r : ForeignId} {m n : ℕ} {s : State} (turn : Turn) (conn : ℕ) (f : Message) → Off g r m n s → Off g r m n (send turn conn f s)
unfolding send
send_off {s = s} turn conn f h = if_off (is_open s conn) (quiet _ refl h) h

-- ---- holders come and go

hold_one : {g : Setting} {r : ForeignId} {m n : ℕ} {s : State} (x : ForeignId) → Off g r (m + bit (is_same r x)) n s → Off g r m n (Holders.holder_comes s x)
hold_one {g} {r} {m} {n} {s} x h = record {
  parts = record {
    even = λ lt.
        let w : bit (is_same r x) ≡ bit (is_same x r) = ap bit (same-way r x) in
        let t : times_held r (On x Held ∷ s.leases) ≡ times_held r s.leases + bit (is_same x r) = times-hold r x s.leases in
        let l : times_held r s.leases < 18446744073709551615 = omega arith in
        let c : counted r (On x Held ∷ s.leases) ≡ counted r s.leases + bit (is_same x r) = holders-hold r x s.leases l in
        let e : counted r s.leases + (m + bit (is_same r x)) ≡ sum_of g r (hold_parts s) + n = h.parts.even l in omega arith;
  };
}

pub hold_off : {g : Setting} {r : ForeignId} {m n : ℕ} {s : State} (ids : List ForeignId) → Off g r (m + times_in r ids) n s → Off g r m n (hold_ids ids s)
unfolding hold_ids each
hold_off {m = m} {n = n} [] h = renumber (m + 0) n m n (omega arith) h
hold_off {r = r} {m = m} {n = n} (x ∷ ids) h =
    let c : times_in r (x ∷ ids) ≡ bit (is_same r x) + times_in r ids = times-cons r x ids in
    hold_off ids (hold_one x (renumber (m + times_in r (x ∷ ids)) n (m + times_in r ids + bit (is_same r x)) n (omega arith) h))

drop_one : {g : Setting} {r : ForeignId} {n : ℕ} {s : State} (x : ForeignId) → Off g r 0 (n + bit (is_same r x)) s → Off g r 0 n (Holders.holder_goes s x)
drop_one {g} {r} {n} {s} x h = record {
  parts = record {
    even = λ lt.
        let w : bit (is_same r x) ≡ bit (is_same x r) = ap bit (same-way r x) in
        let t : times_held r (On x Dropped ∷ s.leases) ≡ times_held r s.leases = times-drop r x s.leases in
        let l : times_held r s.leases < 18446744073709551615 = omega arith in
        let e : counted r s.leases + 0 ≡ sum_of g r (hold_parts s) + (n + bit (is_same r x)) = h.parts.even l in
        let c : counted r (On x Dropped ∷ s.leases) + bit (is_same x r) ≡ counted r s.leases = holders-drop r x s.leases l (λ same. let b : bit (is_same x r) ≡ 1 = ap bit same in omega arith) in omega arith;
  };
}

pub drop_off : {g : Setting} {r : ForeignId} {n : ℕ} {s : State} (ids : List ForeignId) → Off g r 0 (n + times_in r ids) s → Off g r 0 n (drop_ids ids s)
unfolding drop_ids each
drop_off {n = n} [] h = renumber 0 (n + 0) 0 n (omega arith) h
drop_off {r = r} {n = n} (x ∷ ids) h =
    let c : times_in r (x ∷ ids) ≡ bit (is_same r x) + times_in r ids = times-cons r x ids in
    drop_off ids (drop_one x (renumber 0 (n + times_in r (x ∷ ids)) 0 (n + times_in r ids + bit (is_same r x)) (omega arith) h))

-- ---- rows come, change and go

pub tasks_off : {g : Setting} {r : ForeignId} {m n : ℕ} {s : State} (a b : ℕ) (xs : List Living) → total (task_holds g.id r) xs + b ≡ total (task_holds g.id r) s.tasks + a → Off g r m n s → Off g r (m + a) (n + b) (record s { tasks = xs })
tasks_off {g} {r} {m} {n} {s} a b xs e h = record { parts = record { even = λ lt. let k : counted r s.leases + m ≡ sum_of g r (hold_parts s) + n = h.parts.even lt in omega arith } }

pub results_off : {g : Setting} {r : ForeignId} {m n : ℕ} {s : State} (a b : ℕ) (xs : List KeptResult) → total (result_holds g.id r) xs + b ≡ total (result_holds g.id r) s.results + a → Off g r m n s → Off g r (m + a) (n + b) (record s { results = xs })
results_off {g} {r} {m} {n} {s} a b xs e h = record { parts = record { even = λ lt. let k : counted r s.leases + m ≡ sum_of g r (hold_parts s) + n = h.parts.even lt in omega arith } }

pub parked_off : {g : Setting} {r : ForeignId} {m n : ℕ} {s : State} (a b : ℕ) (xs : List ParkedFrame) → total (parked_holds r) xs + b ≡ total (parked_holds r) s.parked + a → Off g r m n s → Off g r (m + a) (n + b) (record s { parked = xs })
parked_off {g} {r} {m} {n} {s} a b xs e h = record { parts = record { even = λ lt. let k : counted r s.leases + m ≡ sum_of g r (hold_parts s) + n = h.parts.even lt in omega arith } }

pub store_off : {g : Setting} {r : ForeignId} {m n : ℕ} {s : State} (a b : ℕ) (store : List Stored) → total (object_holds g r store) (standing store) + b ≡ total (object_holds g r s.store) (standing s.store) + a
    → Off g r m n s → Off g r (m + a) (n + b) (record s { store = store })
store_off {g} {r} {m} {n} {s} a b store e h = record { parts = record { even = λ lt. let k : counted r s.leases + m ≡ sum_of g r (hold_parts s) + n = h.parts.even lt in omega arith } }

-- ---- what a task gains

grown : (refs new : List Ref) → (more : List Ref) × (with_references refs new ≡ refs ++ more)
grown refs [] = ([], sym (append-nil refs))
grown refs (r ∷ new) = pick (is_reference_in refs r) refl (grown refs new) (grown (refs ++ r ∷ []) new)
  where
    assoc : (xs ys zs : List Ref) → (xs ++ ys) ++ zs ≡ xs ++ (ys ++ zs)
    assoc [] ys zs = refl
    assoc (x ∷ xs) ys zs = ap (λ l. x ∷ l) (assoc xs ys zs)

    pick : (b : Bool) → is_reference_in refs r ≡ b → (more : List Ref) × (with_references refs new ≡ refs ++ more) → (more : List Ref) × (with_references (refs ++ r ∷ []) new ≡ (refs ++ r ∷ []) ++ more)
        → (more : List Ref) × (with_references (if b then refs else refs ++ r ∷ []) new ≡ refs ++ more)
    pick true e x y = x
    pick false e x y = (r ∷ y.0, y.1 ∙ assoc refs (r ∷ []) y.0)

answer-grows : (g : Setting) (reply : Reply) (t : Task) → (more : List Ref) × ((answer g reply t).held ≡ t.held ++ more)
unfolding answer
answer-grows g (Gives value) t = subst (λ refs. (more : List Ref) × (with_references (Tasks.pay 0 t).held (references_in value) ≡ refs ++ more)) (paid-held 0 t) (grown (Tasks.pay 0 t).held (references_in value))
answer-grows g (GivesBack value fuel) t = subst (λ refs. (more : List Ref) × (with_references (Tasks.pay fuel t).held (references_in value) ≡ refs ++ more)) (paid-held fuel t) (grown (Tasks.pay fuel t).held (references_in value))
answer-grows g (Throws class) t = ([], paid-held 0 t ∙ sym (append-nil t.held))
answer-grows g RunsOut t = ([], paid-held 0 t ∙ sym (append-nil t.held))

-- what a task holds after a reply is what it held, and what it gained
pub task-gains : (g : Setting) (r : ForeignId) (reply : Reply) (t : Task) (held : List Ref) → t.held ≡ held
    → refs_times g.id r (answer g reply t).held ≡ refs_times g.id r held + refs_times g.id r (drop (length held) (answer g reply t).held)
task-gains g r reply t held e =
    let x : (more : List Ref) × ((answer g reply t).held ≡ t.held ++ more) = answer-grows g reply t in
    let y : (answer g reply t).held ≡ held ++ x.0 = x.1 ∙ ap (λ refs. refs ++ x.0) e in
    let d : drop (length held) (answer g reply t).held ≡ x.0 = ap (drop (length held)) y ∙ drop_at held x.0 (length held) refl in
    let a : refs_times g.id r (answer g reply t).held ≡ refs_times g.id r (held ++ x.0) = ap (refs_times g.id r) y in
    let b : refs_times g.id r (held ++ x.0) ≡ refs_times g.id r held + refs_times g.id r x.0 = refs-append g.id r held x.0 in
    let c : refs_times g.id r (drop (length held) (answer g reply t).held) ≡ refs_times g.id r x.0 = ap (refs_times g.id r) d in omega arith

-- ---- one row of each number

-- if all numbers are above this one, none of them is it
pub total-above : {A : Type 0} (number v : A → ℕ) (k n last : ℕ) (xs : List A) → k ≤ n → RisesWithin n last (map number xs) → total v (filter (λ x. not (number x == k)) xs) ≡ total v xs
total-above number v k n last [] le r = refl
total-above number v k n last (x ∷ xs) le r =
    let a : n + 1 ≤ number x = r.0 in pick (number x == k) refl (total-above number v k (number x) last xs (omega arith) r.1)
  where
    pick : (b : Bool) → (number x == k) ≡ b → total v (filter (λ y. not (number y == k)) xs) ≡ total v xs → total v (if not b then x ∷ filter (λ y. not (number y == k)) xs else filter (λ y. not (number y == k)) xs) ≡ v x + total v xs
    pick true e rest = let q : number x ≡ k = eqb-true (number x) k e in let a : n + 1 ≤ number x = r.0 in absurd (omega arith)
    pick false e rest = omega arith

-- a row that is found is the one of its number
pub total-only : {A : Type 0} (number v : A → ℕ) (k n last : ℕ) (xs : List A) (t : A) → RisesWithin n last (map number xs) → find (λ x. number x == k) xs ≡ Some t → total v xs ≡ v t + total v (filter (λ x. not (number x == k)) xs)
total-only number v k n last [] t r e = absurd (Rattle.sp_rules.proofs.AllLemmas.some-none t (sym e))
total-only number v k n last (x ∷ xs) t r e = pick (number x == k) refl e (total-only number v k (number x) last xs t r.1)
  where
    pick : (b : Bool) → (number x == k) ≡ b → cond b (Some x) (find (λ y. number y == k) xs) ≡ Some t
        → (find (λ y. number y == k) xs ≡ Some t → total v xs ≡ v t + total v (filter (λ y. not (number y == k)) xs))
        → v x + total v xs ≡ v t + total v (if not b then x ∷ filter (λ y. not (number y == k)) xs else filter (λ y. not (number y == k)) xs)
    pick true is f rest =
        let q : number x ≡ k = eqb-true (number x) k is in
        let same : v x ≡ v t = ap v (Rattle.sp_rules.proofs.OwnLemmas.some-same f) in
        let a : total v (filter (λ y. not (number y == k)) xs) ≡ total v xs = total-above number v k (number x) last xs (omega arith) r.1 in omega arith
    pick false is f rest = let a : total v xs ≡ v t + total v (filter (λ y. not (number y == k)) xs) = rest f in omega arith

-- of rows whose numbers are all above this one nothing changes
changed-above : {A : Type 0} (number v w : A → ℕ) (k n last : ℕ) (xs : List A) → k ≤ n → RisesWithin n last (map number xs) → ((x : A) → (number x == k) ≡ false → w x ≡ v x) → total w xs ≡ total v xs
changed-above number v w k n last [] le r same = refl
changed-above number v w k n last (x ∷ xs) le r same =
    let a : n + 1 ≤ number x = r.0 in
    let e : w x ≡ v x = same x (other (number x == k) refl) in
    let f : total w xs ≡ total v xs = changed-above number v w k (number x) last xs (omega arith) r.1 same in omega arith
  where
    other : (b : Bool) → (number x == k) ≡ b → b ≡ false
    other true is = let q : number x ≡ k = eqb-true (number x) k is in let a : n + 1 ≤ number x = r.0 in absurd (omega arith)
    other false is = refl

-- the row of a number changes alone
pub changed-only : {A : Type 0} (number v w : A → ℕ) (k n last : ℕ) (xs : List A) (t : A) → RisesWithin n last (map number xs) → find (λ x. number x == k) xs ≡ Some t → ((x : A) → (number x == k) ≡ false → w x ≡ v x)
    → total w xs + v t ≡ total v xs + w t
changed-only number v w k n last [] t r e same = absurd (Rattle.sp_rules.proofs.AllLemmas.some-none t (sym e))
changed-only number v w k n last (x ∷ xs) t r e same = pick (number x == k) refl e (λ f. changed-only number v w k (number x) last xs t r.1 f same)
  where
    pick : (b : Bool) → (number x == k) ≡ b → cond b (Some x) (find (λ y. number y == k) xs) ≡ Some t → (find (λ y. number y == k) xs ≡ Some t → total w xs + v t ≡ total v xs + w t) → w x + total w xs + v t ≡ v x + total v xs + w t
    pick true is f rest =
        let q : number x ≡ k = eqb-true (number x) k is in
        let a : v x ≡ v t = ap v (Rattle.sp_rules.proofs.OwnLemmas.some-same f) in
        let b : w x ≡ w t = ap w (Rattle.sp_rules.proofs.OwnLemmas.some-same f) in
        let c : total w xs ≡ total v xs = changed-above number v w k (number x) last xs (omega arith) r.1 same in omega arith
    pick false is f rest = let a : w x ≡ v x = same x is in let b : total w xs + v t ≡ total v xs + w t = rest f in omega arith

-- ---- fields

-- what the slots hold, slot by slot
pub slots-sum : (u : Uuid) (r : ForeignId) (f : ℕ → Value) (xs : List ℕ) → refs_times u r (references_of (map f xs)) ≡ total (λ i. refs_times u r (reference_of (f i))) xs
slots-sum u r f [] = refl
slots-sum u r f (i ∷ xs) =
    let a : refs_times u r (reference_of (f i) ++ references_of (map f xs)) ≡ refs_times u r (reference_of (f i)) + refs_times u r (references_of (map f xs)) = refs-append u r (reference_of (f i)) (references_of (map f xs)) in
    let b : refs_times u r (references_of (map f xs)) ≡ total (λ j. refs_times u r (reference_of (f j))) xs = slots-sum u r f xs in omega arith

same-below : (v w : ℕ → ℕ) (slot n : ℕ) → n ≤ slot → ((i : ℕ) → (slot == i) ≡ false → w i ≡ v i) → total w (numbers_below n) ≡ total v (numbers_below n)
same-below v w slot zero le same = refl
same-below v w slot (suc n) le same =
    let a : total w (numbers_below n) ≡ total v (numbers_below n) = same-below v w slot n (omega arith) same in
    let b : total w (numbers_below n ++ n ∷ []) ≡ total w (numbers_below n) + w n = total-snoc w (numbers_below n) n in
    let c : total v (numbers_below n ++ n ∷ []) ≡ total v (numbers_below n) + v n = total-snoc v (numbers_below n) n in
    let d : w n ≡ v n = same n (other (slot == n) refl) in omega arith
  where
    other : (b : Bool) → (slot == n) ≡ b → b ≡ false
    other true is = let q : slot ≡ n = eqb-true slot n is in absurd (omega arith)
    other false is = refl

-- one slot changes
pub slot-changed : (v w : ℕ → ℕ) (slot n : ℕ) → slot < n → ((i : ℕ) → (slot == i) ≡ false → w i ≡ v i) → total w (numbers_below n) + v slot ≡ total v (numbers_below n) + w slot
slot-changed v w slot zero lt same = absurd (omega arith)
slot-changed v w slot (suc n) lt same =
    let b : total w (numbers_below n ++ n ∷ []) ≡ total w (numbers_below n) + w n = total-snoc w (numbers_below n) n in
    let c : total v (numbers_below n ++ n ∷ []) ≡ total v (numbers_below n) + v n = total-snoc v (numbers_below n) n in
    pick (slot == n) refl b c (λ low. slot-changed v w slot n low same)
  where
    pick : (e : Bool) → (slot == n) ≡ e → total w (numbers_below n ++ n ∷ []) ≡ total w (numbers_below n) + w n → total v (numbers_below n ++ n ∷ []) ≡ total v (numbers_below n) + v n
        → (slot < n → total w (numbers_below n) + v slot ≡ total v (numbers_below n) + w slot) → total w (numbers_below n ++ n ∷ []) + v slot ≡ total v (numbers_below n ++ n ∷ []) + w slot
    pick true is b c rest =
        let q : slot ≡ n = eqb-true slot n is in
        let a : total w (numbers_below n) ≡ total v (numbers_below n) = same-below v w slot n (omega arith) same in
        let x : w slot ≡ w n = ap w q in let y : v slot ≡ v n = ap v q in omega arith
    pick false is b c rest =
        let d : w n ≡ v n = same n is in
        let low : slot < n = lower (slot-not is) in
        let a : total w (numbers_below n) + v slot ≡ total v (numbers_below n) + w slot = rest low in omega arith
      where
        slot-not : (slot == n) ≡ false → slot ≡ n → ⊥
        slot-not f q = true≢false (sym (eq-eqb slot n q) ∙ f)

        lower : (slot ≡ n → ⊥) → slot < n
        lower differs = omega (arith, differs, lt)

-- blank slots hold nothing
pub blank-none : (k : Option Kind) → reference_of (blank k) ≡ []
blank-none None = refl
blank-none (Some Rattle.sp_rules.specs.Classes.IntKind) = refl
blank-none (Some Rattle.sp_rules.specs.Classes.IntArrayKind) = refl
blank-none (Some Rattle.sp_rules.specs.Classes.ReferenceKind) = refl
blank-none (Some Rattle.sp_rules.specs.Classes.VoidKind) = refl

pub none-held : (u : Uuid) (r : ForeignId) (f : ℕ → Value) (xs : List ℕ) → ((i : ℕ) → reference_of (f i) ≡ []) → refs_times u r (references_of (map f xs)) ≡ 0
none-held u r f [] none = refl
none-held u r f (i ∷ xs) none = subst (λ refs. refs_times u r (refs ++ references_of (map f xs)) ≡ 0) (sym (none i)) (none-held u r f xs none)
