-- No call that is due is missed.
use Rattle.std.proofs.Common.{◌≡◌, ℕ, zero, suc, ◌+◌, ◌-◌, ◌<◌, ◌≤◌, Bool, true, false, cond, not, eqb, ◌&&◌, ◌||◌, List, [], ◌∷◌, map, Option, Some, None, is_some, refl, sym, ap, subst, ◌∙◌, arith, inl, inr}
use Rattle.std.specs.Prelude.{◌⊎◌, nat_lt, is_none, slice_get, option_map, unwrap_or, Contains}
use Rattle.std.specs.List.{position_or_len}
use Rattle.std.specs.Map.{lookup, keys_of}
use Rattle.std.proofs.lemmas.Bool.{false≢true, eqb-true, eq-eqb}
use Rattle.std.proofs.lemmas.Bool.Decides.{nat_tests}
use Rattle.indexmap.specs.IndexMap.{set_value_at, insert_entry}
use Rattle.space_ids.specs.declared.ids.ForeignId.{ForeignId}
use Rattle.dgc_client.specs.declared.lease.ClientLease.{ClientLease}
use Rattle.dgc_client.specs.declared.lease.Due.{Due}
use Rattle.dgc_client.specs.declared.lease.Due.TheVariants.{Dirty, Clean as Clean_due}
use Rattle.dgc_client.specs.declared.lease.Made.{Made}
use Rattle.dgc_client.specs.declared.lease.Owed.{Owed}
use Rattle.dgc_client.specs.declared.lease.Owed.TheVariants.{Nothing, Clean, Strong, Again}
use Rattle.dgc_index.specs.declared.plans.Term.{Term}
use Rattle.dgc_client.specs.declared.leases.Leases.{Leases}
use Rattle.dgc_index.specs.declared.deadlines.Deadline.{Deadline}
use Rattle.dgc_index.specs.declared.deadlines.Deadlines.{Deadlines}
use Rattle.dgc_index.specs.declared.touched.Touched.{Touched}
use Rattle.dgc_client.specs.declared.picked.Question.{Question}
use Rattle.dgc_client.specs.declared.picked.Question.TheVariants.{Renewed, Lapses}
use Rattle.dgc_index.specs.declared.plans.Plans.{Plans}
use Rattle.dgc_client.specs.declared.table.Clients.{Clients}
use Rattle.dgc_client.specs.Lease.{fresh, standing, is_half_over, at_moment, after_moment, due_held, due_again, due_owed, due_unheld, is_again, due}
use Rattle.dgc_index.specs.Plans.{half_at, end_at, IsPlannedTerm}
use Rattle.dgc_index.specs.Deadlines.{IsPlanned}
use Rattle.dgc_client.specs.Kept.{is_same}
use Rattle.dgc_client.specs.Table.{leases_of, lease_in, IsLookedAt, IsSound}
use Rattle.dgc_index.specs.Touched.{IsTouched}
use Rattle.dgc_client.specs.Touched.{due_call, call_of_entry, some_of, IsDueAt, IsAnswered, holds, reference_of}
use Rattle.dgc_client.proofs.DeadlinesLemmas.{half-reached, end-reached, half-at-end}
use Rattle.dgc_client.proofs.KeptLemmas.{some-one}

not-below : (a b : ℕ) → b ≤ a → nat_lt a b ≡ false
not-below a b h = grind (arith, nat_tests)

held-later : (d : Option Made) (lease : Option Term) (renew : Bool) (m : ℕ)
    → is_some {T = Due} (cond (is_none d && (is_none lease || renew)) (Some Dirty) None) ≡ false
    → is_some {T = Due} (cond (is_none d && (is_none (standing lease m) || is_half_over (standing lease m) m)) (Some Dirty) None) ≡ true
    → (t : Term) × (lease ≡ Some t) × (is_half_over (Some t) m ≡ true)
held-later (Some d) lease renew m first second = absurd (false≢true second)
held-later None None renew m first second = absurd (false≢true (sym first))
held-later None (Some t) renew m first second = (t, refl, by (nat_lt (m - t.sent) t.period) refl second)
  where
    half : (b : Bool) → is_some {T = Due} (cond b (Some Dirty) None) ≡ true → b ≡ true
    half true h = refl
    half false h = h

    by : (b : Bool) → nat_lt (m - t.sent) t.period ≡ b
        → is_some {T = Due} (cond (is_none (cond b (Some t) None) || is_half_over (cond b (Some t) None) m) (Some Dirty) None) ≡ true → is_half_over (Some t) m ≡ true
    by true stands h = half (is_half_over (Some t) m) h
    by false ended h = half-at-end t m ended

again-later : (last : Option Made) (n m : ℕ) → n ≤ m → is_some (due_again last n) ≡ false → is_some (due_again last m) ≡ true → ⊥
again-later None n m le first second = false≢true second
again-later (Some made) n m le first second = by (nat_lt (n - made.at) 600000) (nat_lt (m - made.at) 600000) refl refl first second
  where
    by : (s t : Bool) → nat_lt (n - made.at) 600000 ≡ s → nat_lt (m - made.at) 600000 ≡ t
        → is_some {T = Due} (cond s (Some (Clean_due true)) None) ≡ false → is_some {T = Due} (cond t (Some (Clean_due true)) None) ≡ true → ⊥
    by true t p q a b = false≢true (sym a)
    by false false p q a b = false≢true b
    by false true p q a b =
        let late : 600000 ≤ n - made.at = grind (arith, nat_tests) in
        let early : m - made.at < 600000 = grind (arith, nat_tests) in omega arith

owed-later : (l : ClientLease) (m : ℕ) → l.moment ≤ m → (o : Owed) → is_some (due_owed o l) ≡ false → is_some (due_owed o (at_moment m l)) ≡ true → ⊥
owed-later l m le Nothing first second = false≢true second
owed-later l m le Clean first second = false≢true (sym first)
owed-later l m le Strong first second = false≢true (sym first)
owed-later l m le Again first second = again-later l.last l.moment m le first second

-- If a moment makes a call due, the call's reference waited, or its lease is half over.
pub due-later : (l : ClientLease) (m : ℕ) → l.moment ≤ m → is_some (due l) ≡ false → is_some (due (after_moment m l)) ≡ true
    → (l.waits ≡ true) ⊎ ((t : Term) × (l.lease ≡ Some t) × (is_half_over (Some t) m ≡ true))
due-later l m le first second = by l.waits refl
  where
    now : is_some (due (at_moment m l)) ≡ true
    now = ap (λ b. is_some (due (cond b l (at_moment m l)))) (sym (not-below m l.moment le)) ∙ second

    free : l.waits ≡ false → is_some (cond (nat_lt 0 l.holders) (due_held l) (due_unheld l)) ≡ false
    free h = ap (λ b. is_some (cond (b && not (nat_lt 0 l.holders && is_again l.owed)) None (cond (nat_lt 0 l.holders) (due_held l) (due_unheld l)))) (sym h) ∙ first

    by-holders : (b : Bool) → is_some (cond b (due_held l) (due_unheld l)) ≡ false → is_some (cond b (due_held (at_moment m l)) (due_unheld (at_moment m l))) ≡ true
        → (t : Term) × (l.lease ≡ Some t) × (is_half_over (Some t) m ≡ true)
    by-holders true p q = held-later l.dirty l.lease l.renew m p q
    by-holders false p q = absurd (owed-later l m le l.owed p q)

    by : (w : Bool) → l.waits ≡ w → (l.waits ≡ true) ⊎ ((t : Term) × (l.lease ≡ Some t) × (is_half_over (Some t) m ≡ true))
    by true h = inl h
    by false h = inr (by-holders (nat_lt 0 l.holders) (free h) now)

standing-some : (o : Option Term) (m : ℕ) (t : Term) → standing o m ≡ Some t → o ≡ Some t
standing-some None m t h = h
standing-some (Some x) m t h = by (nat_lt (m - x.sent) x.period) h
  where
    by : (b : Bool) → cond b (Some x) None ≡ Some t → Some x ≡ Some t
    by true p = p
    by false p = cc

-- a lease that stands after a moment stood before
pub lease-before : (l : ClientLease) (m : ℕ) (t : Term) → (after_moment m l).lease ≡ Some t → l.lease ≡ Some t
lease-before l m t = by (nat_lt m l.moment)
  where
    by : (b : Bool) → (let x : ClientLease = cond b l (at_moment m l) in x.lease) ≡ Some t → l.lease ≡ Some t
    by true h = h
    by false h = standing-some l.lease m t h

waits-never : (l : ClientLease) (m : ℕ) → l.moment ≤ m → (after_moment m l).waits ≡ true → ⊥
waits-never l m le h = false≢true (sym (ap (λ b. let x : ClientLease = cond b l (at_moment m l) in x.waits) (not-below m l.moment le)) ∙ h)

call-some : (r : ForeignId) (o : Option Due) → is_some (due_call r o) ≡ is_some o
call-some r None = refl
call-some r (Some kind) = refl

module _ (f : ClientLease → ClientLease) where
  abbrev changed : List (ForeignId × ClientLease) → List (ForeignId × ClientLease)
  changed es = map (λ (e : ForeignId × ClientLease). (e.0, f e.1)) es

  abbrev with_change : ForeignId × ClientLease → ForeignId × ClientLease
  with_change e = (e.0, f e.1)

  get-changed : (es : List (ForeignId × ClientLease)) (i : ℕ) → slice_get (changed es) i ≡ option_map with_change (slice_get es i)
  get-changed [] i = refl
  get-changed (e ∷ es) zero = refl
  get-changed (e ∷ es) (suc i) = get-changed es i

  -- what stands at an index after a change of each lease
  pub changed-from : (es : List (ForeignId × ClientLease)) (i : ℕ) (r : ForeignId) (l : ClientLease) → slice_get (changed es) i ≡ Some (r, l)
      → (x : ClientLease) × (slice_get es i ≡ Some (r, x)) × (f x ≡ l)
  changed-from es i r l h = by (slice_get es i) (sym (get-changed es i) ∙ h)
    where
      by : (o : Option (ForeignId × ClientLease)) → option_map with_change o ≡ Some (r, l) → (x : ClientLease) × (o ≡ Some (r, x)) × (f x ≡ l)
      by None p = cc
      by (Some e) p =
          let pair : ForeignId × ClientLease = (e.0, f e.1) in
          let same = some-one pair (r, l) p in
          (e.1, ap (λ (k : ForeignId). Some (k, e.1)) (ap (λ (q : ForeignId × ClientLease). q.0) same), ap (λ (q : ForeignId × ClientLease). q.1) same)

-- a call that is due at an index is one of the lease there
due-at : (es : List (ForeignId × ClientLease)) (at : ℕ) → IsDueAt es at → (r : ForeignId) × (l : ClientLease) × (slice_get es at ≡ Some (r, l)) × (is_some (due l) ≡ true)
due-at es at h = by (slice_get es at) refl h
  where
    by : (o : Option (ForeignId × ClientLease)) → slice_get es at ≡ o → is_some (some_of call_of_entry o) ≡ true
        → (r : ForeignId) × (l : ClientLease) × (slice_get es at ≡ Some (r, l)) × (is_some (due l) ≡ true)
    by None is some = absurd (false≢true some)
    by (Some e) is some = (e.0, e.1, is, sym (call-some e.0 (due e.1)) ∙ some)

is-due-at : (es : List (ForeignId × ClientLease)) (at : ℕ) (r : ForeignId) (l : ClientLease) → slice_get es at ≡ Some (r, l) → is_some (due l) ≡ true → IsDueAt es at
is-due-at es at r l is some = ap (λ (o : Option (ForeignId × ClientLease)). is_some (some_of call_of_entry o)) is ∙ call-some r (due l) ∙ some

-- if leases and deadlines stay the same
pub sound-same : (old : Clients) (leases : Leases) → leases_of leases ≡ leases_of old.leases → leases.moment ≡ old.leases.moment → IsSound old → IsSound (record old { leases = leases })
sound-same old leases is moment s = record {
  covered = λ at h. elim (s.covered at (subst (λ (es : List (ForeignId × ClientLease)). IsDueAt es at) is h)) [
    | inl touched ↦ inl touched
    | inr half ↦ inr (half.0, (half.1.0, subst (λ (m : ℕ). half.1.0 ≤ m) (sym moment) half.1.1, half.1.2))
  ];
  planned = λ at r l term there. s.planned at r l term (ap (λ (es : List (ForeignId × ClientLease)). slice_get es at) (sym is) ∙ there);
  waiting = λ at r l there. s.waiting at r l (ap (λ (es : List (ForeignId × ClientLease)). slice_get es at) (sym is) ∙ there);
}

-- the same indexes and the same deadlines
pub touched-same : (old new : Touched) → new.indexes.items ≡ old.indexes.items → new.all ≡ old.all → (at : ℕ) → IsTouched old at → IsTouched new at
touched-same old new items all at h = λ none. subst (λ (indexes : List ℕ). Contains indexes at) (sym items) (h (sym all ∙ none))

pub planned-same : (old new : Deadlines) → new.row.keys ≡ old.row.keys → new.all ≡ old.all → (d : Deadline) → IsPlanned old d → IsPlanned new d
planned-same old new keys all d h = λ none. subst (λ (deadlines : List Deadline). Contains deadlines d) (sym keys) (h (sym all ∙ none))

-- if leases are the same, and no index and no deadline is lost
pub sound-copied : (old new : Clients) → leases_of new.leases ≡ leases_of old.leases → new.leases.moment ≡ old.leases.moment → new.moved ≡ old.moved
    → ((at : ℕ) → IsTouched old.touched at → IsTouched new.touched at) → ((at : ℕ) → IsTouched old.later at → IsTouched new.later at)
    → ((d : Deadline) → IsPlanned old.plans.halves d → IsPlanned new.plans.halves d) → ((d : Deadline) → IsPlanned old.plans.ends d → IsPlanned new.plans.ends d)
    → IsSound old → IsSound new
sound-copied old new is moment moved touched later halves ends s = record {
  covered = λ at h. elim (s.covered at (subst (λ (es : List (ForeignId × ClientLease)). IsDueAt es at) is h)) [
    | inl there ↦ inl (touched at there)
    | inr half ↦ inr (moved ∙ half.0, (half.1.0, subst (λ (m : ℕ). half.1.0 ≤ m) (sym moment) half.1.1, halves (record { moment = half.1.0; index = at }) half.1.2))
  ];
  planned = λ at r l term there has.
      let was = s.planned at r l term (ap (λ (es : List (ForeignId × ClientLease)). slice_get es at) (sym is) ∙ there) has in
      record { half = halves (record { moment = half_at term; index = at }) was.half; end = ends (record { moment = end_at term; index = at }) was.end };
  waiting = λ at r l there waits. later at (s.waiting at r l (ap (λ (es : List (ForeignId × ClientLease)). slice_get es at) (sym is) ∙ there) waits);
}

-- a moment, from what it makes of each lease
module _ (old new : Clients) (m : ℕ) (small : m ≤ 18446744073709551615) (late : old.leases.moment ≤ m)
    (each : (at : ℕ) (r : ForeignId) (l : ClientLease) → slice_get (leases_of old.leases) at ≡ Some (r, l) → l.moment ≡ old.leases.moment)
    (is : leases_of new.leases ≡ map (λ (e : ForeignId × ClientLease). (e.0, after_moment m e.1)) (leases_of old.leases)) (moment : new.leases.moment ≡ m)
    (kept : (at : ℕ) → IsTouched old.touched at → IsTouched new.touched at) (joined : (at : ℕ) → IsTouched old.later at → IsTouched new.touched at)
    (plans : new.plans ≡ old.plans) (moved : new.moved ≡ true) (s : IsSound old) where
  before : (at : ℕ) (r : ForeignId) (l : ClientLease) → slice_get (leases_of new.leases) at ≡ Some (r, l)
      → (x : ClientLease) × (slice_get (leases_of old.leases) at ≡ Some (r, x)) × (after_moment m x ≡ l)
  before at r l h = changed-from (after_moment m) (leases_of old.leases) at r l (ap (λ (es : List (ForeignId × ClientLease)). slice_get es at) (sym is) ∙ h)

  still : (term : Term) (at : ℕ) → IsPlannedTerm old.plans term at → IsPlannedTerm new.plans term at
  still term at h = subst (λ (p : Plans). IsPlannedTerm p term at) (sym plans) h

  covers : (at : ℕ) → IsDueAt (leases_of new.leases) at → IsLookedAt new at
  covers at h =
      let there = due-at (leases_of new.leases) at h in
      let was = before at there.0 there.1 there.2 in
      let early : was.0.moment ≤ m = (let same = each at there.0 was.0 was.1 in omega arith) in
      let later : is_some (due (after_moment m was.0)) ≡ true = ap (λ l. is_some (due l)) was.2 ∙ there.3 in
      elim (is_some (due was.0)) as (λ b. is_some (due was.0) ≡ b → IsLookedAt new at) [
        | true ↦ λ due_before. elim (s.covered at (is-due-at (leases_of old.leases) at there.0 was.0 was.1 due_before)) [
          | inl touched ↦ inl (kept at touched)
          | inr half ↦ inr (moved, (half.1.0, (let le = half.1.1 in omega arith), subst (λ (p : Plans). IsPlanned p.halves (record { moment = half.1.0; index = at })) (sym plans) half.1.2))
        ]
        | false ↦ λ none. elim (due-later was.0 m early none later) [
          | inl waits ↦ inl (joined at (s.waiting at there.0 was.0 was.1 waits))
          | inr half ↦ let reached : half_at half.0 ≤ m = half-reached half.0 m small half.2 in
              inr (moved, (half_at half.0, omega arith, (still half.0 at (s.planned at there.0 was.0 half.0 was.1 half.1)).half))
        ]
      ] refl

  pub sound-pass : IsSound new
  sound-pass = record {
    covered = covers;
    planned = λ at r l term h lease. let was = before at r l h in still term at (s.planned at r was.0 term was.1 (lease-before was.0 m term (ap (λ (x : ClientLease). x.lease) was.2 ∙ lease)));
    waiting = λ at r l h waits. let was = before at r l h in
        let early : was.0.moment ≤ m = (let same = each at r was.0 was.1 in omega arith) in
        absurd (waits-never was.0 m early (ap (λ (x : ClientLease). x.waits) was.2 ∙ waits));
  }

-- a write of one lease
module _ (old new : Clients) (at : ℕ) (l : ClientLease)
    (others : (k : ℕ) → (k ≡ at → ⊥) → slice_get (leases_of new.leases) k ≡ slice_get (leases_of old.leases) k)
    (mine : (r : ForeignId) (x : ClientLease) → slice_get (leases_of new.leases) at ≡ Some (r, x) → x ≡ l)
    (moment : new.leases.moment ≡ old.leases.moment) (moved : new.moved ≡ old.moved)
    (touched : IsTouched new.touched at) (touched_kept : (k : ℕ) → IsTouched old.touched k → IsTouched new.touched k)
    (later : l.waits ≡ true → IsTouched new.later at) (later_kept : (k : ℕ) → IsTouched old.later k → IsTouched new.later k)
    (planned : (term : Term) → l.lease ≡ Some term → IsPlannedTerm new.plans term at)
    (planned_kept : (term : Term) (k : ℕ) → (k ≡ at → ⊥) → IsPlannedTerm old.plans term k → IsPlannedTerm new.plans term k)
    (halves_kept : (d : Deadline) → (d.index ≡ at → ⊥) → IsPlanned old.plans.halves d → IsPlanned new.plans.halves d)
    (s : IsSound old) where
  apart : (k : ℕ) → eqb k at ≡ false → k ≡ at → ⊥
  apart k h same = false≢true (sym h ∙ eq-eqb k at same)

  covers-write : (k : ℕ) → IsDueAt (leases_of new.leases) k → IsLookedAt new k
  covers-write k h = elim (eqb k at) as (λ b. eqb k at ≡ b → IsLookedAt new k) [
    | true ↦ λ same. inl (subst (λ (n : ℕ). IsTouched new.touched n) (sym (eqb-true k at same)) touched)
    | false ↦ λ no. elim (s.covered k (subst (λ (o : Option (ForeignId × ClientLease)). is_some (some_of call_of_entry o) ≡ true) (others k (apart k no)) h)) [
      | inl was ↦ inl (touched_kept k was)
      | inr half ↦ inr (moved ∙ half.0, (half.1.0, subst (λ (m : ℕ). half.1.0 ≤ m) (sym moment) half.1.1, halves_kept (record { moment = half.1.0; index = k }) (apart k no) half.1.2))
    ]
  ] refl

  pub sound-write : IsSound new
  sound-write = record {
    covered = covers-write;
    planned = λ k r x term h lease. elim (eqb k at) as (λ b. eqb k at ≡ b → IsPlannedTerm new.plans term k) [
      | true ↦ λ same. let here = eqb-true k at same in
          subst (λ (n : ℕ). IsPlannedTerm new.plans term n) (sym here)
          (planned term (ap (λ (y : ClientLease). y.lease) (sym (mine r x (subst (λ (n : ℕ). slice_get (leases_of new.leases) n ≡ Some (r, x)) here h))) ∙ lease))
      | false ↦ λ no. planned_kept term k (apart k no) (s.planned k r x term (sym (others k (apart k no)) ∙ h) lease)
    ] refl;
    waiting = λ k r x h waits. elim (eqb k at) as (λ b. eqb k at ≡ b → IsTouched new.later k) [
      | true ↦ λ same. let here = eqb-true k at same in
          subst (λ (n : ℕ). IsTouched new.later n) (sym here)
          (later (ap (λ (y : ClientLease). y.waits) (sym (mine r x (subst (λ (n : ℕ). slice_get (leases_of new.leases) n ≡ Some (r, x)) here h))) ∙ waits))
      | false ↦ λ no. later_kept k (s.waiting k r x (sym (others k (apart k no)) ∙ h) waits)
    ] refl;
  }

shift-get : (e : ForeignId × ClientLease) (es : List (ForeignId × ClientLease)) (n : ℕ) → slice_get (e ∷ es) (1 + n) ≡ slice_get es n
shift-get e es n = let one : 1 + n ≡ suc n = omega arith in ap (λ (k : ℕ). slice_get (e ∷ es) k) one

-- what stands at the index of a reference that is known
pub found-at : (r : ForeignId) (es : List (ForeignId × ClientLease)) (v : ClientLease) → lookup (is_same r) es ≡ Some v
    → (k : ForeignId) × (slice_get es (position_or_len (is_same r) (keys_of es)) ≡ Some (k, v))
found-at r [] v h = cc
found-at r (e ∷ es) v h = by (λ q. found-at r es v q) (is_same r e.0) h
  where
    by : (lookup (is_same r) es ≡ Some v → (k : ForeignId) × (slice_get es (position_or_len (is_same r) (keys_of es)) ≡ Some (k, v)))
        → (b : Bool) → cond b (Some e.1) (lookup (is_same r) es) ≡ Some v → (k : ForeignId) × (slice_get (e ∷ es) (cond (not b) (1 + position_or_len (is_same r) (keys_of es)) 0) ≡ Some (k, v))
    by rest true p = let value : e.1 ≡ v = cc in (e.0, ap (λ (x : ClientLease). let pair : ForeignId × ClientLease = (e.0, x) in Some pair) value)
    by rest false p = let there = rest p in (there.0, shift-get e es (position_or_len (is_same r) (keys_of es)) ∙ there.1)

-- what is written into an index, and what an insert leaves there
pub set-here : (es : List (ForeignId × ClientLease)) (i : ℕ) (l : ClientLease) (r : ForeignId) (x : ClientLease) → slice_get (set_value_at es i l) i ≡ Some (r, x) → x ≡ l
set-here [] i l r x h = cc
set-here (e ∷ es) zero l r x h = let pair : ForeignId × ClientLease = (e.0, l) in ap (λ (q : ForeignId × ClientLease). q.1) (sym (some-one pair (r, x) h))
set-here (e ∷ es) (suc i) l r x h = set-here es i l r x h

pub insert-here : (k : ForeignId) (l : ClientLease) (es : List (ForeignId × ClientLease)) (r : ForeignId) (x : ClientLease)
    → slice_get (insert_entry is_same es k l) (position_or_len (is_same k) (keys_of es)) ≡ Some (r, x) → x ≡ l
insert-here k l [] r x h = let pair : ForeignId × ClientLease = (k, l) in ap (λ (q : ForeignId × ClientLease). q.1) (sym (some-one pair (r, x) h))
insert-here k l (e ∷ es) r x h = by (λ q. insert-here k l es r x q) (is_same k e.0) h
  where
    by : (slice_get (insert_entry is_same es k l) (position_or_len (is_same k) (keys_of es)) ≡ Some (r, x) → x ≡ l)
        → (b : Bool) → slice_get (cond b ((e.0, l) ∷ es) (e ∷ insert_entry is_same es k l)) (cond (not b) (1 + position_or_len (is_same k) (keys_of es)) 0) ≡ Some (r, x) → x ≡ l
    by rest true p = let pair : ForeignId × ClientLease = (e.0, l) in ap (λ (q : ForeignId × ClientLease). q.1) (sym (some-one pair (r, x) p))
    by rest false p = rest (sym (shift-get e (insert_entry is_same es k l) (position_or_len (is_same k) (keys_of es))) ∙ p)

-- a question that holds at an index holds of the lease there
answered-at : (question : Question) (es : List (ForeignId × ClientLease)) (at : ℕ) → IsAnswered (reference_of question) es at
    → (r : ForeignId) × (l : ClientLease) × (slice_get es at ≡ Some (r, l)) × (holds question l ≡ true)
answered-at question es at h = by (slice_get es at) refl h
  where
    truth : (b : Bool) (r : ForeignId) → is_some (cond b (Some r) None) ≡ true → b ≡ true
    truth true r p = refl
    truth false r p = p

    by : (o : Option (ForeignId × ClientLease)) → slice_get es at ≡ o → is_some (some_of (reference_of question) o) ≡ true
        → (r : ForeignId) × (l : ClientLease) × (slice_get es at ≡ Some (r, l)) × (holds question l ≡ true)
    by None is some = absurd (false≢true some)
    by (Some e) is some = (e.0, e.1, is, truth (holds question e.1) e.0 some)

half-of : (o : Option Term) (m : ℕ) → is_half_over (standing o m) m ≡ true → (t : Term) × (o ≡ Some t) × (is_half_over (Some t) m ≡ true)
half-of None m h = absurd (false≢true h)
half-of (Some t) m h = (t, refl, by (nat_lt (m - t.sent) t.period) h)
  where
    by : (b : Bool) → is_half_over (cond b (Some t) None) m ≡ true → is_half_over (Some t) m ≡ true
    by true p = p
    by false p = absurd (false≢true p)

end-of : (o : Option Term) (m : ℕ) → (is_some o && is_none (standing o m)) ≡ true → (t : Term) × (o ≡ Some t) × (nat_lt (m - t.sent) t.period ≡ false)
end-of None m h = absurd (false≢true h)
end-of (Some t) m h = (t, refl, by (nat_lt (m - t.sent) t.period) h)
  where
    by : (b : Bool) → is_none (cond b (Some t) None) ≡ true → b ≡ false
    by true p = absurd (false≢true p)
    by false p = refl

module _ (clients : Clients) (s : IsSound clients) (m : ℕ) (small : m ≤ 18446744073709551615) (late : clients.leases.moment ≤ m)
    (each : (at : ℕ) (r : ForeignId) (l : ClientLease) → slice_get (leases_of clients.leases) at ≡ Some (r, l) → l.moment ≡ clients.leases.moment) where
  -- a lease that is due for renewal then has a deadline before
  pub renewed-planned : (at : ℕ) → IsAnswered (reference_of (Renewed m)) (leases_of clients.leases) at → (t : Term) × (half_at t ≤ m) × IsPlannedTerm clients.plans t at
  renewed-planned at h =
      let there = answered-at (Renewed m) (leases_of clients.leases) at h in
      let early : there.1.moment ≤ m = (let same = each at there.0 there.1 there.2 in omega arith) in
      let half = half-of there.1.lease m (ap (λ b. let x : ClientLease = cond b there.1 (at_moment m there.1) in x.renew) (sym (not-below m there.1.moment early)) ∙ there.3) in
      (half.0, half-reached half.0 m small half.2, s.planned at there.0 there.1 half.0 there.2 half.1)

  -- so has one that ends then
  pub lapsed-planned : (at : ℕ) → IsAnswered (reference_of (Lapses m)) (leases_of clients.leases) at → (t : Term) × (end_at t ≤ m) × IsPlannedTerm clients.plans t at
  lapsed-planned at h =
      let there = answered-at (Lapses m) (leases_of clients.leases) at h in
      let early : there.1.moment ≤ m = (let same = each at there.0 there.1 there.2 in omega arith) in
      let ended = end-of there.1.lease m (ap (λ b. let x : ClientLease = cond b there.1 (at_moment m there.1) in is_some there.1.lease && is_none x.lease) (sym (not-below m there.1.moment early)) ∙ there.3) in
      (ended.0, end-reached ended.0 m small ended.2, s.planned at there.0 there.1 ended.0 there.2 ended.1)

-- the deadlines of the lease before a change are there
pub planned-before : (clients : Clients) → IsSound clients → (r : ForeignId) (l : ClientLease) → l ≡ lease_in clients.leases r
    → (at : ℕ) → at ≡ position_or_len (is_same r) (keys_of (leases_of clients.leases)) → (term : Term) → l.lease ≡ Some term → IsPlannedTerm clients.plans term at
planned-before clients s r l is at index term lease = by (lookup (is_same r) (leases_of clients.leases)) refl
  where
    by : (o : Option ClientLease) → lookup (is_same r) (leases_of clients.leases) ≡ o → IsPlannedTerm clients.plans term at
    by None none =
        let fresh_one : l ≡ fresh clients.leases.moment = is ∙ ap (λ (x : Option ClientLease). unwrap_or x (fresh clients.leases.moment)) none in
        let no : None ≡ Some term = sym (ap (λ (x : ClientLease). x.lease) fresh_one) ∙ lease in cc
    by (Some v) some =
        let same : l ≡ v = is ∙ ap (λ (x : Option ClientLease). unwrap_or x (fresh clients.leases.moment)) some in
        let there = found-at r (leases_of clients.leases) v some in
        subst (λ (n : ℕ). IsPlannedTerm clients.plans term n) (sym index)
        (s.planned (position_or_len (is_same r) (keys_of (leases_of clients.leases))) there.0 v term there.1 (ap (λ (x : ClientLease). x.lease) (sym same) ∙ lease))
