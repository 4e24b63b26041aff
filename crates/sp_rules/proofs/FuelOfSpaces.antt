-- The fuel that an event brings into a space covers what it leaves there and what it sends.
use mathlib.Core.Path.{ap}
use Rattle.std.specs.Prelude.{◌≡◌, refl, zero, suc, ℕ, ◌+◌, ◌≤◌, ◌==◌, ◌≢◌, ◌⊎◌, Bool, true, false, List, [], ◌∷◌, ◌++◌, filter, map, if◌then◌else◌}
use Rattle.std.proofs.Common.{arith, inl, inr}
use Rattle.std.proofs.lemmas.Bool.Decides.{eqb_tells}
use Rattle.sp_rules.specs.Classes.{Setting}
use Rattle.sp_rules.specs.Events.{Event, Output, Started, Ended, Withdrawn, Denied, Send, Dial, Close, Ready, Note, rank, output_of, of_rank, of_ranks, in_order}
use Rattle.sp_rules.specs.Fuel.{units, output_units, note_units, event_units}
use Rattle.sp_rules.specs.Lists.{each, total}
use Rattle.sp_rules.specs.Requests.{settle}
use Rattle.sp_rules.specs.Space
use Rattle.sp_rules.specs.State.{State}
use Rattle.sp_rules.proofs.FuelOfTasks.{Within, each_same, settle_within}
use Rattle.sp_rules.proofs.FuelOfFrames.{happen_within}

pub total-append : {A : Type 0} (f : A → ℕ) (xs ys : List A) → total f (xs ++ ys) ≡ total f xs + total f ys
total-append f [] ys = omega arith
total-append f (x ∷ xs) ys = let e : total f (xs ++ ys) ≡ total f xs + total f ys = total-append f xs ys in omega arith

-- an output of another rank does not count
rank-none : (n : Note) (notes : List Note) (k : ℕ) → (rank n ≢ k) → total output_units (of_rank (n ∷ notes) k) ≡ total output_units (of_rank notes k)
rank-none n notes k other = pick (eqb_tells (rank n) k)
  where
    taken : Bool → ℕ
    taken b = total output_units (map (output_of) (if b then n ∷ filter (λ m. rank m == k) notes else filter (λ m. rank m == k) notes))

    pick : ((rank n == k) ≡ true) × (rank n ≡ k) ⊎ ((rank n == k) ≡ false) × (rank n ≢ k) → taken (rank n == k) ≡ total output_units (of_rank notes k)
    pick (inl e) = absurd (other e.1)
    pick (inr e) = ap taken e.0

-- an output of any rank counts once
rank-some : (n : Note) (notes : List Note) (k : ℕ) → total output_units (of_rank (n ∷ notes) k) ≤ note_units n + total output_units (of_rank notes k)
rank-some n notes k = pick (rank n == k)
  where
    pick : (b : Bool) → total output_units (map (output_of) (if b then n ∷ filter (λ m. rank m == k) notes else filter (λ m. rank m == k) notes))
        ≤ note_units n + total output_units (of_rank notes k)
    pick true = omega arith
    pick false = omega arith

above : (n : Note) (notes : List Note) (k : ℕ) → k ≤ rank n → total output_units (of_ranks k (n ∷ notes)) ≡ total output_units (of_ranks k notes)
above n notes zero le = refl
above n notes (suc k) le =
    let other : rank n ≢ k = λ e. let f : rank n ≡ k = e in omega arith in
    let a : total output_units (of_ranks k (n ∷ notes)) ≡ total output_units (of_ranks k notes) = above n notes k (omega arith) in
    let b : total output_units (of_rank (n ∷ notes) k) ≡ total output_units (of_rank notes k) = rank-none n notes k other in
    let c : total output_units (of_ranks k (n ∷ notes) ++ of_rank (n ∷ notes) k) ≡ total output_units (of_ranks k (n ∷ notes)) + total output_units (of_rank (n ∷ notes) k) = total-append output_units (of_ranks k (n ∷ notes)) (of_rank (n ∷ notes) k) in
    let d : total output_units (of_ranks k notes ++ of_rank notes k) ≡ total output_units (of_ranks k notes) + total output_units (of_rank notes k) = total-append output_units (of_ranks k notes) (of_rank notes k) in
    omega arith

once : (n : Note) (notes : List Note) (k : ℕ) → total output_units (of_ranks k (n ∷ notes)) ≤ note_units n + total output_units (of_ranks k notes)
once n notes zero = omega arith
once n notes (suc k) = pick (eqb_tells (rank n) k) (once n notes k)
  where
    c : total output_units (of_ranks k (n ∷ notes) ++ of_rank (n ∷ notes) k) ≡ total output_units (of_ranks k (n ∷ notes)) + total output_units (of_rank (n ∷ notes) k)
    c = total-append output_units (of_ranks k (n ∷ notes)) (of_rank (n ∷ notes) k)

    d : total output_units (of_ranks k notes ++ of_rank notes k) ≡ total output_units (of_ranks k notes) + total output_units (of_rank notes k)
    d = total-append output_units (of_ranks k notes) (of_rank notes k)

    pick : ((rank n == k) ≡ true) × (rank n ≡ k) ⊎ ((rank n == k) ≡ false) × (rank n ≢ k)
        → total output_units (of_ranks k (n ∷ notes)) ≤ note_units n + total output_units (of_ranks k notes)
        → total output_units (of_ranks k (n ∷ notes) ++ of_rank (n ∷ notes) k) ≤ note_units n + total output_units (of_ranks k notes ++ of_rank notes k)
    pick (inl e) before =
        let is : rank n ≡ k = e.1 in
        let a : total output_units (of_ranks k (n ∷ notes)) ≡ total output_units (of_ranks k notes) = above n notes k (omega arith) in
        let b : total output_units (of_rank (n ∷ notes) k) ≤ note_units n + total output_units (of_rank notes k) = rank-some n notes k in
        omega (arith, c, d)
    pick (inr e) before =
        let b : total output_units (of_rank (n ∷ notes) k) ≡ total output_units (of_rank notes k) = rank-none n notes k e.1 in
        omega (arith, c, d)

no-outputs : (k : ℕ) → total output_units (of_ranks k []) ≡ 0
no-outputs zero = refl
no-outputs (suc k) =
    let a : total output_units (of_ranks k []) ≡ 0 = no-outputs k in
    let c : total output_units (of_ranks k [] ++ of_rank [] k) ≡ total output_units (of_ranks k []) + total output_units (of_rank [] k) = total-append output_units (of_ranks k []) (of_rank [] k) in
    omega arith

in-ranks : (k : ℕ) (notes : List Note) → total output_units (of_ranks k notes) ≤ total note_units notes
in-ranks k [] = let a : total output_units (of_ranks k []) ≡ 0 = no-outputs k in omega arith
in-ranks k (n ∷ notes) =
    let a : total output_units (of_ranks k notes) ≤ total note_units notes = in-ranks k notes in
    let b : total output_units (of_ranks k (n ∷ notes)) ≤ note_units n + total output_units (of_ranks k notes) = once n notes k in
    omega arith

ordered : (notes : List Note) → total output_units (in_order notes) ≤ total note_units notes
unfolding in_order
ordered notes = in-ranks 14 notes

record_sent_within : {n : ℕ} {s : State} (o : Output) → Within n s → Within n (Space.record_sent s o)
record_sent_within (Started task) k = k
record_sent_within (Ended task outcome) k = k
record_sent_within (Withdrawn ids) k = k
record_sent_within (Denied why) k = k
record_sent_within (Send conn m) k = record { bound = k.bound }
record_sent_within (Dial peer) k = k
record_sent_within (Close conn) k = k
record_sent_within (Ready task) k = k

-- what is in a space and what it sends
abbrev pub both : State × List Output → ℕ
both r = units r.0 + total output_units r.1

finish-units : {n : ℕ} {s : State} (answers : Bool) → Within n s → both (Space.finish_event answers s) ≤ n
finish-units {n} {s} true k =
    let t : State = settle s in
    let b : units (settle s) ≤ n = (settle_within k).bound in
    let m : ℕ = units (record t { notes = [] }) in
    let self : m ≤ m = omega arith in
    let a : units (each Space.record_sent (in_order t.notes) (record t { notes = [] })) ≤ m = (each_same Space.record_sent (in_order t.notes) (λ u o h. record_sent_within o h) (record { bound = self })).bound in
    let c : total output_units (in_order t.notes) ≤ total note_units t.notes = ordered t.notes in
    omega arith
finish-units {n} {s} false k = let b : units s ≤ n = k.bound in omega arith

pub on-units : (g : Setting) (e : Event) (s : State) → both (Space.on g e s) ≤ units s + event_units e
unfolding Space.on
on-units g e s =
    let self : units s ≤ units s = omega arith in
    finish-units _ (happen_within g e (record { bound = self }))
