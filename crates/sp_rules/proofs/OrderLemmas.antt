-- The outputs of an event stand in the order of their kinds, and the reasons to refuse it in the order of their numbers.
use mathlib.Core.Path.{sym, ap, subst, ◌∙◌}
use Rattle.std.specs.Prelude.{◌≡◌, refl, ℕ, zero, suc, ◌+◌, ◌≤◌, ◌==◌, ◌≢◌, ◌⊎◌, Bool, true, false, List, [], ◌∷◌, ◌++◌, Option, None, Some, filter, map, not, if◌then◌else◌}
use Rattle.std.proofs.Common.{arith, inl, inr}
use Rattle.std.proofs.lemmas.Bool.Decides.{eqb_tells}
use Rattle.sp_rules.specs.Classes.{StartRefusal, AbsentMethod, BadSignature, BadArgument}
use Rattle.sp_rules.specs.Events.{Moment, Sweep, Root, RootAck, Bind, Rebind, Unbind, Lookup, Opened, Refused, Received, Closed, ReadFailed, Bad, WriteFailed, Committed, Parked, GivenBack, Finished, Output, Started, Ended, Withdrawn, Denied, Send, Dial, Close, Ready, Hellos, Replies, Waited, Cleans, Dirties, Calls, Acks, Note, Says, Sends, rank, output_of, of_rank, of_ranks, in_order}
use Rattle.sp_rules.specs.Laws.{output_kind, RisesFrom, OutputsAreInOrder, check_number, ChecksRise}
use Rattle.sp_rules.specs.Refusals
use Rattle.sp_rules.specs.Requests.{settle}
use Rattle.sp_rules.specs.Space
use Rattle.sp_rules.specs.State.{State, Living}
use Rattle.sp_rules.specs.Tasks.{Stand, Runs, AsksFor, HasEnded}

-- ---- numbers that rise

from-below : (m n : ℕ) (xs : List ℕ) → m ≤ n → RisesFrom n xs → RisesFrom m xs
from-below m n [] le r = tt
from-below m n (x ∷ xs) le r = let a : n ≤ x = r.0 in (omega arith, r.1)

-- each is at most this
AtMost : ℕ → List ℕ → Type 0
AtMost b [] = Unit {0}
AtMost b (x ∷ xs) = (x ≤ b) × AtMost b xs

rises-on : (m b : ℕ) (xs ys : List ℕ) → m ≤ b → RisesFrom m xs → AtMost b xs → RisesFrom b ys → RisesFrom m (xs ++ ys)
unfolding AtMost
rises-on m b [] ys le r most s = from-below m b ys le s
rises-on m b (x ∷ xs) ys le r most s = (r.0, rises-on x b xs ys most.0 r.1 most.1 s)

at-most-on : (b c : ℕ) (xs ys : List ℕ) → b ≤ c → AtMost b xs → AtMost c ys → AtMost c (xs ++ ys)
unfolding AtMost
at-most-on b c [] ys le a d = d
at-most-on b c (x ∷ xs) ys le a d = let e : x ≤ b = a.0 in (omega arith, at-most-on b c xs ys le a.1 d)

-- ---- ranks and kinds

-- the kind of the outputs of a rank
kind_of : ℕ → ℕ
kind_of zero = 0
kind_of (suc zero) = 1
kind_of (suc (suc zero)) = 2
kind_of (suc (suc (suc zero))) = 3
kind_of (suc (suc (suc (suc zero)))) = 4
kind_of (suc (suc (suc (suc (suc zero))))) = 4
kind_of (suc (suc (suc (suc (suc (suc zero)))))) = 4
kind_of (suc (suc (suc (suc (suc (suc (suc zero))))))) = 4
kind_of (suc (suc (suc (suc (suc (suc (suc (suc zero)))))))) = 4
kind_of (suc (suc (suc (suc (suc (suc (suc (suc (suc zero))))))))) = 4
kind_of (suc (suc (suc (suc (suc (suc (suc (suc (suc (suc zero)))))))))) = 4
kind_of (suc (suc (suc (suc (suc (suc (suc (suc (suc (suc (suc zero))))))))))) = 5
kind_of (suc (suc (suc (suc (suc (suc (suc (suc (suc (suc (suc (suc zero)))))))))))) = 6
kind_of (suc (suc (suc (suc (suc (suc (suc (suc (suc (suc (suc (suc (suc n))))))))))))) = 7

kind-of-rank : (n : Note) → rank n ≤ 13 → output_kind (output_of n) ≡ kind_of (rank n)
unfolding kind_of
kind-of-rank (Says (Started task)) le = refl
kind-of-rank (Says (Ended task outcome)) le = refl
kind-of-rank (Says (Withdrawn ids)) le = refl
kind-of-rank (Says (Denied why)) le = refl
kind-of-rank (Says (Send conn m)) le = absurd (omega arith)
kind-of-rank (Says (Dial peer)) le = refl
kind-of-rank (Says (Close conn)) le = refl
kind-of-rank (Says (Ready task)) le = refl
kind-of-rank (Sends Hellos conn m) le = refl
kind-of-rank (Sends Replies conn m) le = refl
kind-of-rank (Sends Waited conn m) le = refl
kind-of-rank (Sends Cleans conn m) le = refl
kind-of-rank (Sends Dirties conn m) le = refl
kind-of-rank (Sends Calls conn m) le = refl
kind-of-rank (Sends Acks conn m) le = refl

-- each of these is this
AreAll : ℕ → List ℕ → Type 0
AreAll k [] = Unit {0}
AreAll k (x ∷ xs) = (x ≡ k) × AreAll k xs

one-kind : (k : ℕ) → k ≤ 13 → (notes : List Note) → AreAll (kind_of k) (map output_kind (of_rank notes k))
unfolding AreAll
one-kind k le [] = tt
one-kind k le (n ∷ notes) = pick (eqb_tells (rank n) k) (one-kind k le notes)
  where
    taken : Bool → List ℕ
    taken b = map output_kind (map output_of (if b then n ∷ filter (λ m. rank m == k) notes else filter (λ m. rank m == k) notes))

    is : rank n ≡ k → output_kind (output_of n) ≡ kind_of k
    is e = kind-of-rank n (let f : rank n ≡ k = e in omega (arith, le)) ∙ ap kind_of e

    pick : ((rank n == k) ≡ true) × (rank n ≡ k) ⊎ ((rank n == k) ≡ false) × (rank n ≢ k) → AreAll (kind_of k) (map output_kind (of_rank notes k)) → AreAll (kind_of k) (taken (rank n == k))
    pick (inl e) rest = subst (λ b. AreAll (kind_of k) (taken b)) (sym e.0) (is e.1, rest)
    pick (inr e) rest = subst (λ b. AreAll (kind_of k) (taken b)) (sym e.0) rest

all-rise : (k : ℕ) (xs : List ℕ) → AreAll k xs → RisesFrom k xs
unfolding AreAll
all-rise k [] a = tt
all-rise k (x ∷ xs) a = let e : x ≡ k = a.0 in (omega arith, subst (λ y. RisesFrom y xs) (sym a.0) (all-rise k xs a.1))

all-at-most : (k : ℕ) (xs : List ℕ) → AreAll k xs → AtMost k xs
unfolding AreAll AtMost
all-at-most k [] a = tt
all-at-most k (x ∷ xs) a = let e : x ≡ k = a.0 in (omega arith, all-at-most k xs a.1)

kinds-join : (xs ys : List Output) → map output_kind (xs ++ ys) ≡ map output_kind xs ++ map output_kind ys
kinds-join [] ys = refl
kinds-join (x ∷ xs) ys = ap (λ (ks : List ℕ). output_kind x ∷ ks) (kinds-join xs ys)

-- the largest kind of the ranks below
top_of : ℕ → ℕ
top_of zero = 0
top_of (suc k) = kind_of k

no-fall : (k : ℕ) → k ≤ 13 → top_of k ≤ kind_of k
unfolding top_of kind_of
no-fall zero le = omega arith
no-fall (suc zero) le = omega arith
no-fall (suc (suc zero)) le = omega arith
no-fall (suc (suc (suc zero))) le = omega arith
no-fall (suc (suc (suc (suc zero)))) le = omega arith
no-fall (suc (suc (suc (suc (suc zero))))) le = omega arith
no-fall (suc (suc (suc (suc (suc (suc zero)))))) le = omega arith
no-fall (suc (suc (suc (suc (suc (suc (suc zero))))))) le = omega arith
no-fall (suc (suc (suc (suc (suc (suc (suc (suc zero)))))))) le = omega arith
no-fall (suc (suc (suc (suc (suc (suc (suc (suc (suc zero))))))))) le = omega arith
no-fall (suc (suc (suc (suc (suc (suc (suc (suc (suc (suc zero)))))))))) le = omega arith
no-fall (suc (suc (suc (suc (suc (suc (suc (suc (suc (suc (suc zero))))))))))) le = omega arith
no-fall (suc (suc (suc (suc (suc (suc (suc (suc (suc (suc (suc (suc zero)))))))))))) le = omega arith
no-fall (suc (suc (suc (suc (suc (suc (suc (suc (suc (suc (suc (suc (suc n))))))))))))) le = ends n le
  where
    ends : (n : ℕ) → suc (suc (suc (suc (suc (suc (suc (suc (suc (suc (suc (suc (suc n)))))))))))) ≤ 13 → kind_of (suc (suc (suc (suc (suc (suc (suc (suc (suc (suc (suc (suc n)))))))))))) ≤ 7
    ends zero l = omega arith
    ends (suc m) l = omega arith

both : (k : ℕ) → k ≤ 14 → (notes : List Note) → RisesFrom 0 (map output_kind (of_ranks k notes)) × AtMost (top_of k) (map output_kind (of_ranks k notes))
unfolding AtMost top_of
both zero le notes = (tt, tt)
both (suc k) le notes =
    let within : k ≤ 13 = omega arith in
    let before : RisesFrom 0 (map output_kind (of_ranks k notes)) × AtMost (top_of k) (map output_kind (of_ranks k notes)) = both k (omega arith) notes in
    let these : AreAll (kind_of k) (map output_kind (of_rank notes k)) = one-kind k within notes in
    let low : top_of k ≤ kind_of k = no-fall k within in
    let joined : map output_kind (of_ranks k notes ++ of_rank notes k) ≡ map output_kind (of_ranks k notes) ++ map output_kind (of_rank notes k) = kinds-join (of_ranks k notes) (of_rank notes k) in (
      subst (RisesFrom 0) (sym joined) (rises-on 0 (top_of k) _ _ (omega arith) before.0 before.1 (from-below (top_of k) (kind_of k) _ low (all-rise (kind_of k) _ these))),
      subst (AtMost (kind_of k)) (sym joined) (at-most-on (top_of k) (kind_of k) _ _ low before.1 (all-at-most (kind_of k) _ these)),
    )

ordered : (notes : List Note) → RisesFrom 0 (map output_kind (in_order notes))
unfolding in_order
ordered notes = (both 14 (omega arith) notes).0

finished : (s : State) (answers : Bool) → RisesFrom 0 (map output_kind (Space.finish_event answers s).1)
finished s true = ordered (settle s).notes
finished s false = tt

pub outputs_are_in_order : OutputsAreInOrder
unfolding Space.on
outputs_are_in_order g e s = finished (Space.happen g e s) (Space.answers_outputs e)

-- ---- refusals

start-number : (why : StartRefusal) → (0 ≤ Refusals.start_refusal_number why) × (Refusals.start_refusal_number why ≤ 92)
start-number AbsentMethod = (omega arith, omega arith)
start-number BadSignature = (omega arith, omega arith)
start-number BadArgument = (omega arith, omega arith)

pub checks_rise : ChecksRise
checks_rise g lent s (Moment moment) = (omega arith, tt)
checks_rise g lent s Sweep = tt
checks_rise g lent s (Root method arguments fuel) = starts (g.classes.start_refusal g.id method arguments)
  where
    rest : List Refusals.Check
    rest = Refusals.refuse_if (not (Rattle.std.specs.List.list_all (Refusals.is_root_argument g s) (Rattle.sp_rules.specs.References.references_of arguments))) Refusals.NotHeld
        ++ (Refusals.refuse_if (Rattle.std.specs.Prelude.nat_lt g.limits.fuel fuel) Refusals.WrongKind
        ++ Refusals.refuse_if (Rattle.sp_rules.specs.Frames.is_busy s) Refusals.Busy)

    starts : (why : Option StartRefusal) → RisesFrom 0 (map check_number (Refusals.refuse_start why ++ rest))
    starts None = (omega arith, (omega arith, (omega arith, tt)))
    starts (Some why) = ((start-number why).0, ((start-number why).1, (omega arith, (omega arith, tt))))
checks_rise g lent s (RootAck task) = (omega arith, tt)
checks_rise g lent s (Bind name value) = tt
checks_rise g lent s (Rebind name value) = tt
checks_rise g lent s (Unbind name) = tt
checks_rise g lent s (Lookup peer name) = (omega arith, tt)
checks_rise g lent s (Opened conn dialled) = (omega arith, tt)
checks_rise g lent s (Refused peer) = (omega arith, tt)
checks_rise g lent s (Received conn m) = (omega arith, tt)
checks_rise g lent s (Closed conn) = (omega arith, tt)
checks_rise g lent s (ReadFailed conn) = (omega arith, tt)
checks_rise g lent s (Bad conn) = (omega arith, tt)
checks_rise g lent s (WriteFailed conn unsent) = (omega arith, tt)
checks_rise g lent s (Committed task k op) = (omega arith, (omega arith, (omega arith, (omega arith, tt))))
checks_rise g lent s (Parked task k) = (omega arith, parked (Rattle.sp_rules.specs.State.task_at s task) (Refusals.stand_after k (Rattle.sp_rules.specs.State.task_at s task)))
  where
    parked : (t : Option Living) (at : Option Stand) → RisesFrom 91 (map check_number (Refusals.check_parked g t at))
    parked t None = (omega arith, tt)
    parked t (Some Runs) = (omega arith, tt)
    parked t (Some (AsksFor op)) = (omega arith, (omega arith, tt))
    parked t (Some (HasEnded outcome)) = (omega arith, tt)
checks_rise g lent s (GivenBack task k) = (omega arith, tt)
checks_rise g lent s (Finished task k) = (omega arith, finishes (Rattle.sp_rules.specs.State.task_at s task) (Refusals.stand_after k (Rattle.sp_rules.specs.State.task_at s task)))
  where
    finishes : (t : Option Living) (at : Option Stand) → RisesFrom 91 (map check_number (Refusals.check_finished t at))
    finishes t None = (omega arith, tt)
    finishes t (Some Runs) = (omega arith, tt)
    finishes t (Some (AsksFor op)) = (omega arith, tt)
    finishes t (Some (HasEnded outcome)) = (omega arith, tt)
