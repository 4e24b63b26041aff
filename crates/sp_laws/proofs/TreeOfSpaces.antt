-- If an event brings fuel of a tree into a space, that fuel covers what the event leaves there, what it sends, and what a task that it ends
-- has executed.
use mathlib.Core.Path.{ap}
use Rattle.std.specs.Prelude.{◌≡◌, refl, zero, suc, ℕ, ◌+◌, ◌≤◌, ◌==◌, ◌≢◌, ◌⊎◌, Bool, true, false, List, [], ◌∷◌, ◌++◌, ◌-◌, filter, map, not, Option, None, Some, if◌then◌else◌}
use Rattle.std.proofs.Common.{arith, inl, inr}
use Rattle.std.proofs.lemmas.Bool.Decides.{eqb_tells}
use Rattle.sp_rules.specs.Classes.{Setting}
use Rattle.sp_rules.specs.Events.{Event, Moment, Sweep, Root, RootAck, Bind, Rebind, Unbind, Lookup, Opened, Refused, Received, Closed, ReadFailed, Bad, WriteFailed, Committed, Parked, GivenBack, Finished, Output, Started, Ended, Withdrawn, Denied, Send, Dial, Close, Ready, Note, rank, output_of, of_rank, of_ranks, in_order}
use Rattle.sp_rules.specs.Lists.{each, total, with_some}
use Rattle.sp_rules.specs.Requests.{settle}
use Rattle.sp_rules.specs.Space
use Rattle.sp_rules.specs.State.{State, Living, Request, Connection, opening, task_at, ready_at}
use Rattle.sp_rules.specs.Tasks
use Rattle.sp_rules.specs.Tasks.{Stand, Runs, AsksFor, HasEnded}
use Rattle.sp_rules.proofs.FuelOfTasks.{units_of, steps-units}
use Rattle.sp_rules.proofs.FuelOfSpaces.{total-append}
use Rattle.sp_rules.proofs.FuelSums.{value_in, found-value, total-find}
use Rattle.sp_rules.proofs.ReadyLemmas.{ready-is}
use Rattle.sp_laws.specs.Trees.{Part, has_task, counted, task_part, output_part, note_part, left_in, ended_at, ended_part, FitsTree, FitsHistory}
use Rattle.sp_laws.proofs.RowLemmas.{counted-less}
use Rattle.sp_laws.proofs.TreeOfTasks.{Tags, tag_parts, Within, each_same, settle_within}
use Rattle.sp_laws.proofs.TreeOfFrames.{row-tags, brought, happen_within}

-- an output of another rank does not count
rank-none : (v : Part) (n : Note) (notes : List Note) (k : ℕ) → (rank n ≢ k) → total (output_part v) (of_rank (n ∷ notes) k) ≡ total (output_part v) (of_rank notes k)
rank-none v n notes k other = pick (eqb_tells (rank n) k)
  where
    taken : Bool → ℕ
    taken b = total (output_part v) (map (output_of) (if b then n ∷ filter (λ m. rank m == k) notes else filter (λ m. rank m == k) notes))

    pick : ((rank n == k) ≡ true) × (rank n ≡ k) ⊎ ((rank n == k) ≡ false) × (rank n ≢ k) → taken (rank n == k) ≡ total (output_part v) (of_rank notes k)
    pick (inl e) = absurd (other e.1)
    pick (inr e) = ap taken e.0

-- an output of any rank counts once
rank-some : (v : Part) (n : Note) (notes : List Note) (k : ℕ) → total (output_part v) (of_rank (n ∷ notes) k) ≤ note_part v n + total (output_part v) (of_rank notes k)
rank-some v n notes k = pick (rank n == k)
  where
    pick : (b : Bool) → total (output_part v) (map (output_of) (if b then n ∷ filter (λ m. rank m == k) notes else filter (λ m. rank m == k) notes))
        ≤ note_part v n + total (output_part v) (of_rank notes k)
    pick true = omega arith
    pick false = omega arith

above : (v : Part) (n : Note) (notes : List Note) (k : ℕ) → k ≤ rank n → total (output_part v) (of_ranks k (n ∷ notes)) ≡ total (output_part v) (of_ranks k notes)
above v n notes zero le = refl
above v n notes (suc k) le =
    let other : rank n ≢ k = λ e. let f : rank n ≡ k = e in omega arith in
    let a : total (output_part v) (of_ranks k (n ∷ notes)) ≡ total (output_part v) (of_ranks k notes) = above v n notes k (omega arith) in
    let b : total (output_part v) (of_rank (n ∷ notes) k) ≡ total (output_part v) (of_rank notes k) = rank-none v n notes k other in
    let c : total (output_part v) (of_ranks k (n ∷ notes) ++ of_rank (n ∷ notes) k) ≡ total (output_part v) (of_ranks k (n ∷ notes)) + total (output_part v) (of_rank (n ∷ notes) k) = total-append (output_part v) (of_ranks k (n ∷ notes)) (of_rank (n ∷ notes) k) in
    let d : total (output_part v) (of_ranks k notes ++ of_rank notes k) ≡ total (output_part v) (of_ranks k notes) + total (output_part v) (of_rank notes k) = total-append (output_part v) (of_ranks k notes) (of_rank notes k) in
    omega arith

once : (v : Part) (n : Note) (notes : List Note) (k : ℕ) → total (output_part v) (of_ranks k (n ∷ notes)) ≤ note_part v n + total (output_part v) (of_ranks k notes)
once v n notes zero = omega arith
once v n notes (suc k) = pick (eqb_tells (rank n) k) (once v n notes k)
  where
    c : total (output_part v) (of_ranks k (n ∷ notes) ++ of_rank (n ∷ notes) k) ≡ total (output_part v) (of_ranks k (n ∷ notes)) + total (output_part v) (of_rank (n ∷ notes) k)
    c = total-append (output_part v) (of_ranks k (n ∷ notes)) (of_rank (n ∷ notes) k)

    d : total (output_part v) (of_ranks k notes ++ of_rank notes k) ≡ total (output_part v) (of_ranks k notes) + total (output_part v) (of_rank notes k)
    d = total-append (output_part v) (of_ranks k notes) (of_rank notes k)

    pick : ((rank n == k) ≡ true) × (rank n ≡ k) ⊎ ((rank n == k) ≡ false) × (rank n ≢ k)
        → total (output_part v) (of_ranks k (n ∷ notes)) ≤ note_part v n + total (output_part v) (of_ranks k notes)
        → total (output_part v) (of_ranks k (n ∷ notes) ++ of_rank (n ∷ notes) k) ≤ note_part v n + total (output_part v) (of_ranks k notes ++ of_rank notes k)
    pick (inl e) before =
        let is : rank n ≡ k = e.1 in
        let a : total (output_part v) (of_ranks k (n ∷ notes)) ≡ total (output_part v) (of_ranks k notes) = above v n notes k (omega arith) in
        let b : total (output_part v) (of_rank (n ∷ notes) k) ≤ note_part v n + total (output_part v) (of_rank notes k) = rank-some v n notes k in
        omega (arith, c, d)
    pick (inr e) before =
        let b : total (output_part v) (of_rank (n ∷ notes) k) ≡ total (output_part v) (of_rank notes k) = rank-none v n notes k e.1 in
        omega (arith, c, d)

no-outputs : (v : Part) (k : ℕ) → total (output_part v) (of_ranks k []) ≡ 0
no-outputs v zero = refl
no-outputs v (suc k) =
    let a : total (output_part v) (of_ranks k []) ≡ 0 = no-outputs v k in
    let c : total (output_part v) (of_ranks k [] ++ of_rank [] k) ≡ total (output_part v) (of_ranks k []) + total (output_part v) (of_rank [] k) = total-append (output_part v) (of_ranks k []) (of_rank [] k) in
    omega arith

in-ranks : (v : Part) (k : ℕ) (notes : List Note) → total (output_part v) (of_ranks k notes) ≤ total (note_part v) notes
in-ranks v k [] = let a : total (output_part v) (of_ranks k []) ≡ 0 = no-outputs v k in omega arith
in-ranks v k (n ∷ notes) =
    let a : total (output_part v) (of_ranks k notes) ≤ total (note_part v) notes = in-ranks v k notes in
    let b : total (output_part v) (of_ranks k (n ∷ notes)) ≤ note_part v n + total (output_part v) (of_ranks k notes) = once v n notes k in
    omega arith

ordered : (v : Part) (notes : List Note) → total (output_part v) (in_order notes) ≤ total (note_part v) notes
unfolding in_order
ordered v notes = in-ranks v 14 notes

record_sent_within : {low : ℕ} {v : Part} {qs : List Request} {n : ℕ} {s : State} (o : Output) → Within low v qs n s → Within low v qs n (Space.record_sent s o)
record_sent_within (Started task) k = k
record_sent_within (Ended task outcome) k = k
record_sent_within (Withdrawn ids) k = k
record_sent_within (Denied why) k = k
record_sent_within {s = s} (Send conn m) k = record { bound = k.bound; tags = row-tags s conn (λ (c : Connection). record c { sent = m ∷ c.sent }) (λ c h. h) k.tags }
record_sent_within (Dial peer) k = k
record_sent_within (Close conn) k = k
record_sent_within (Ready task) k = k

-- What is in a space and what it sends is no more than this; and each call is of the tree of its task.
pub record Leaves (low : ℕ) (v : Part) (n : ℕ) (r : State × List Output) : Type 0 where
  pub bound : left_in v r.0 + total (output_part v) r.1 ≤ n
  pub tags : Tags low v [] (tag_parts r.0)

pub finish-leaves : {low : ℕ} {v : Part} {n : ℕ} {s : State} (answers : Bool) → Within low v [] n s → Leaves low v n (Space.finish_event answers s)
finish-leaves {low} {v} {n} {s} true k =
    let t : State = settle s in
    let settled : Within low v [] n t = settle_within k in
    let b : left_in v (settle s) ≤ n = settled.bound in
    let m : ℕ = left_in v (record t { notes = [] }) in
    let self : m ≤ m = omega arith in
    let sent : Within low v [] m (each Space.record_sent (in_order t.notes) (record t { notes = [] })) = each_same Space.record_sent (in_order t.notes) (λ u o h. record_sent_within o h) (record { bound = self; tags = settled.tags }) in
    let a : left_in v (each Space.record_sent (in_order t.notes) (record t { notes = [] })) ≤ m = sent.bound in
    let c : total (output_part v) (in_order t.notes) ≤ total (note_part v) t.notes = ordered v t.notes in
    record { bound = omega arith; tags = sent.tags }
finish-leaves {low} {v} {n} {s} false k = let b : left_in v s ≤ n = k.bound in record { bound = omega arith; tags = k.tags }

-- what a task executed is in the sum until it ends
ended-less : (v : Part) (s : State) (e : Event) → ended_part v s e ≤ left_in v s
unfolding value_in units_of
ended-less v s (Moment moment) = omega arith
ended-less v s Sweep = omega arith
ended-less v s (Root method arguments fuel) = omega arith
ended-less v s (RootAck task) = omega arith
ended-less v s (Bind name value) = omega arith
ended-less v s (Rebind name value) = omega arith
ended-less v s (Unbind name) = omega arith
ended-less v s (Lookup peer name) = omega arith
ended-less v s (Opened conn dialled) = omega arith
ended-less v s (Refused peer) = omega arith
ended-less v s (Received conn m) = omega arith
ended-less v s (Closed conn) = omega arith
ended-less v s (ReadFailed conn) = omega arith
ended-less v s (Bad conn) = omega arith
ended-less v s (WriteFailed conn unsent) = omega arith
ended-less v s (Committed task k op) = omega arith
ended-less v s (Parked task k) = omega arith
ended-less v s (GivenBack task k) = omega arith
ended-less v s (Finished id k) = found (ready_at s id) refl
  where
    at : (t : Living) (stands : Stand) → ended_at (has_task v t) (Tasks.steps k t.task).made stands ≤ counted (has_task v t) (Tasks.steps k t.task).made
    at t Runs = omega arith
    at t (AsksFor op) = omega arith
    at t (HasEnded outcome) = omega arith

    one : (t : Living) → task_at s id ≡ Some t → counted (has_task v t) (Tasks.steps k t.task).made ≤ total (task_part v) s.tasks
    one t is =
        let was : value_in (task_part v) (task_at s id) ≡ task_part v t = found-value (task_part v) (task_at s id) t is in
        let all : value_in (task_part v) (task_at s id) + total (task_part v) (filter (λ (u : Living). not (u.id == id)) s.tasks) ≤ total (task_part v) s.tasks = total-find (task_part v) (λ (u : Living). u.id == id) s.tasks in
        let le : units_of (Tasks.steps k t.task) ≤ units_of t.task = steps-units k t.task in
        let less : counted (has_task v t) (Tasks.steps k t.task).made ≤ counted (has_task v t) (units_of t.task) = counted-less (has_task v t) (Tasks.steps k t.task).made (units_of t.task) (omega arith) in
        omega arith

    found : (o : Option Living) → ready_at s id ≡ o → with_some o 0 (λ t. ended_at (has_task v t) (Tasks.steps k t.task).made (Tasks.stand (Tasks.steps k t.task))) ≤ left_in v s
    found None is = omega arith
    found (Some t) is =
        let a : ended_at (has_task v t) (Tasks.steps k t.task).made (Tasks.stand (Tasks.steps k t.task)) ≤ counted (has_task v t) (Tasks.steps k t.task).made = at t (Tasks.stand (Tasks.steps k t.task)) in
        let b : counted (has_task v t) (Tasks.steps k t.task).made ≤ total (task_part v) s.tasks = one t (ready-is (task_at s id) t is).0 in
        omega arith

pub on-leaves : {low : ℕ} (v : Part) (g : Setting) (e : Event) (s : State) → FitsTree v s e → Tags low v [] (tag_parts s)
    → (left_in v (Space.on g e s).0 + total (output_part v) (Space.on g e s).1 + ended_part v s e ≤ left_in v s + brought v s e) × Tags low v [] (tag_parts (Space.on g e s).0)
unfolding Space.on
on-leaves {low} v g e s fits tags =
    let less : ended_part v s e ≤ left_in v s = ended-less v s e in
    let n : ℕ = left_in v s - ended_part v s e in
    let all : left_in v s ≤ n + ended_part v s e = omega arith in
    let out : Leaves low v (n + brought v s e) (Space.finish_event (Space.answers_outputs e) (Space.happen g e s)) = finish-leaves (Space.answers_outputs e) (happen_within n g e fits (record { bound = all; tags = tags })) in
    let b : left_in v (Space.on g e s).0 + total (output_part v) (Space.on g e s).1 ≤ n + brought v s e = out.bound in
    (omega arith, out.tags)

-- after every history in which each call is of the tree of its task
pub tags-of : (v : Part) (g : Setting) (h : List Event) → FitsHistory v g h → Tags 0 v [] (tag_parts (Space.state_of g h))
unfolding Space.state_of opening
tags-of v g [] fits = record { calls = omega arith; ids = tt; requests = tt; fresh = tt; also = tt; connections = tt }
tags-of v g (e ∷ h) fits = (on-leaves v g e (Space.state_of g h) fits.0 (tags-of v g h fits.1)).1
