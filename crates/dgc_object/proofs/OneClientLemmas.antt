-- Each event keeps the state safe, and what follows of histories.
use Rattle.std.proofs.Common.{◌≡◌, ◌<◌, ◌≤◌, ℕ, ◌+◌, ◌-◌, Bool, true, false, cond, eqb, not, ◌&&◌, ◌||◌, List, [], ◌∷◌, ◌++◌, Option, None, Some, refl, sym, ap, subst, ◌∙◌, zero, suc, arith}
use Rattle.std.proofs.lemmas.Bool.{false≢true, eqb-true}
use Rattle.std.proofs.lemmas.Bool.Decides.{nat_tests}
use Rattle.dgc_object.specs.OneClient.{Op, State, Event, call_of, has_clean, is_last, comes, OpsBelow, CallsBelow, arrived, answered, after, Fits, IsSecure, IsSafe, start, state_of, AreFitting, IsKept}
use Rattle.dgc_object.specs.OneClient.Op.{Dirty, Clean}
use Rattle.dgc_object.specs.OneClient.Event.{Parks, Goes, Holds, Roots, Lets, DirtyMade, CleanMade, Arrives, Answers, Lapses, Sweeps, OtherComes, OtherGoes}

-- ---- the path

-- a dirty call that goes last is no clean call
clear-dirty : (ops : List Op) (call : ℕ) → has_clean ops ≡ false → has_clean (ops ++ Dirty call ∷ []) ≡ false
clear-dirty [] call h = refl
clear-dirty (Dirty c ∷ ops) call h = clear-dirty ops call h
clear-dirty (Clean c ∷ ops) call h = absurd (false≢true (sym h))

-- if there is no clean call, none follows
last-clear : (ops : List Op) (call : ℕ) → has_clean ops ≡ false → is_last call ops ≡ true
last-clear [] call h = refl
last-clear (Dirty c ∷ ops) call h = elim (eqb c call) as (λ t. cond t (not (has_clean ops)) (is_last call ops) ≡ true) [ true ↦ ap not h | false ↦ last-clear ops call h ]
last-clear (Clean c ∷ ops) call h = absurd (false≢true (sym h))

apart : (a b : ℕ) → a < b → eqb a b ≡ false
apart a b h = grind (arith, nat_tests)

-- a new dirty call is the last
last-new : (ops : List Op) (next call : ℕ) → OpsBelow next ops → next ≤ call → is_last call (ops ++ Dirty call ∷ []) ≡ true
last-new [] next call below new = elim (eqb call call) as (λ t. cond t true true ≡ true) [ true ↦ refl | false ↦ refl ]
last-new (op ∷ ops) next call below new =
    let other : eqb (call_of op) call ≡ false = let b = below.0 in apart (call_of op) call (omega arith) in
    rw other (last-new ops next call below.1 new)

-- a call that has not arrived is not the new one
comes-new : (calls : List ℕ) (next call : ℕ) → CallsBelow next calls → next ≤ call → comes call calls ≡ false
comes-new [] next call below new = refl
comes-new (c ∷ calls) next call below new =
    let other : eqb c call ≡ false = let b = below.0 in apart c call (omega arith) in
    rw other (comes-new calls next call below.1 new)

ops-higher : (ops : List Op) (low high : ℕ) → low ≤ high → OpsBelow low ops → OpsBelow high ops
ops-higher [] low high h below = tt
ops-higher (op ∷ ops) low high h below = (let b = below.0 in omega arith, ops-higher ops low high h below.1)

ops-more : (ops : List Op) (op : Op) (next : ℕ) → OpsBelow next ops → call_of op < next → OpsBelow next (ops ++ op ∷ [])
ops-more [] op next below h = (h, tt)
ops-more (o ∷ ops) op next below h = (below.0, ops-more ops op next below.1 h)

calls-higher : (calls : List ℕ) (low high : ℕ) → low ≤ high → CallsBelow low calls → CallsBelow high calls
calls-higher [] low high h below = tt
calls-higher (c ∷ calls) low high h below = (let b = below.0 in omega arith, calls-higher calls low high h below.1)

calls-more : (calls : List ℕ) (call next : ℕ) → CallsBelow next calls → call < next → CallsBelow next (calls ++ call ∷ [])
calls-more [] call next below h = (h, tt)
calls-more (c ∷ calls) call next below h = (below.0, calls-more calls call next below.1 h)

-- what stands after others were added was among them, or is the last
comes-more : (calls : List ℕ) (call other : ℕ) → comes other (calls ++ call ∷ []) ≡ true → eqb call other ≡ false → comes other calls ≡ true
comes-more [] call other h apart = subst (λ t. (t || false) ≡ true) apart h
comes-more (c ∷ calls) call other h apart = elim (eqb c other) as (λ t. (t || comes other (calls ++ call ∷ [])) ≡ true → (t || comes other calls) ≡ true)
    [ true ↦ λ _. refl | false ↦ λ g. comes-more calls call other g apart ] h

-- ---- events

parks : (s : State) → Fits Parks s → IsSafe s → IsSafe (after Parks s)
parks s fits h = record {
  entry_stands = h.entry_stands;
  other_stands = h.other_stands;
  parked_other = λ _. fits;
  leased = h.leased;
  started = h.started;
  dirty_last = h.dirty_last;
  lease_comes = h.lease_comes;
  dirty_parked = λ call is none_leased none. absurd (omega arith);
  leased_due = h.leased_due;
  way_due = h.way_due;
  path_below = h.path_below;
  coming_below = h.coming_below;
}

goes : (held : Bool) (s : State) → Fits (Goes held) s → IsSafe s → IsSafe (after (Goes held) s)
goes true s fits h = record {
  entry_stands = h.entry_stands;
  other_stands = h.other_stands;
  parked_other = λ _. h.parked_other fits.0;
  leased = h.leased;
  started = λ _. h.leased fits.1;
  dirty_last = h.dirty_last;
  lease_comes = h.lease_comes;
  dirty_parked = λ call is none_leased none. h.leased fits.1;
  leased_due = h.leased_due;
  way_due = h.way_due;
  path_below = h.path_below;
  coming_below = h.coming_below;
}
goes false s fits h = record {
  entry_stands = h.entry_stands;
  other_stands = h.other_stands;
  parked_other = λ _. h.parked_other fits.0;
  leased = h.leased;
  started = h.started;
  dirty_last = h.dirty_last;
  lease_comes = h.lease_comes;
  dirty_parked = λ call is none_leased none. h.leased fits.1;
  leased_due = h.leased_due;
  way_due = h.way_due;
  path_below = h.path_below;
  coming_below = h.coming_below;
}

-- a started holder comes or goes if the reference is secure
holds : (s : State) (started : ℕ) → IsSecure s.entry s.path → IsSafe s → IsSafe (record s { started = started })
holds s started secure h = record {
  entry_stands = h.entry_stands;
  other_stands = h.other_stands;
  parked_other = h.parked_other;
  leased = h.leased;
  started = λ _. secure;
  dirty_last = h.dirty_last;
  lease_comes = h.lease_comes;
  dirty_parked = h.dirty_parked;
  leased_due = h.leased_due;
  way_due = h.way_due;
  path_below = h.path_below;
  coming_below = h.coming_below;
}

dirty-made : (call : ℕ) (s : State) → Fits (DirtyMade call) s → IsSafe s → IsSafe (after (DirtyMade call) s)
dirty-made call s fits h = record {
  entry_stands = h.entry_stands;
  other_stands = h.other_stands;
  parked_other = h.parked_other;
  leased = λ l. more (h.leased l);
  started = λ l. more (h.started l);
  dirty_last = λ c is. subst (λ c. is_last c (s.path ++ Dirty call ∷ []) ≡ true) (same c is) (last-new s.path s.next call h.path_below fits.0);
  lease_comes = λ c is k. absurd (false≢true (sym (subst (λ c. comes c s.coming ≡ false) (same c is) (comes-new s.coming s.next call h.coming_below fits.0)) ∙ k));
  dirty_parked = λ c is l none. more (h.started (let some = fits.2 in omega arith));
  leased_due = λ _. refl;
  way_due = λ _ _. refl;
  path_below = ops-more s.path (Dirty call) (call + 1) (ops-higher s.path s.next (call + 1) higher h.path_below) (omega arith);
  coming_below = calls-higher s.coming s.next (call + 1) higher h.coming_below;
}
  where
    same : (c : ℕ) → ◌≡◌ {A = Option ℕ} (Some call) (Some c) → call ≡ c
    same c is = cc

    higher : s.next ≤ call + 1
    higher = let new = fits.0 in omega arith

    more : IsSecure s.entry s.path → IsSecure s.entry (s.path ++ Dirty call ∷ [])
    more g = record { entry_is = g.entry_is; clear = clear-dirty s.path call g.clear }

clean-made : (call : ℕ) (s : State) → Fits (CleanMade call) s → IsSafe s → IsSafe (after (CleanMade call) s)
clean-made call s fits h = record {
  entry_stands = h.entry_stands;
  other_stands = h.other_stands;
  parked_other = h.parked_other;
  leased = λ l. absurd (false≢true l);
  started = λ some. absurd (let none = fits.2 in omega arith);
  dirty_last = λ c is. absurd (no c is);
  lease_comes = λ c is _. absurd (no c is);
  dirty_parked = λ c is _ _. absurd (no c is);
  leased_due = λ l. absurd (false≢true l);
  way_due = λ c is. absurd (no c is);
  path_below = ops-more s.path (Clean call) (call + 1) (ops-higher s.path s.next (call + 1) higher h.path_below) (omega arith);
  coming_below = calls-higher s.coming s.next (call + 1) higher h.coming_below;
}
  where
    no : (c : ℕ) → ◌≡◌ {A = Option ℕ} None (Some c) → ⊥
    no c is = cc

    higher : s.next ≤ call + 1
    higher = let new = fits.0 in omega arith

or-either : (e t : Bool) → (e ≡ true → t ≡ true) → (e || t) ≡ true → t ≡ true
or-either true t f h = f refl
or-either false t f h = h

or-second : (e t : Bool) → t ≡ true → (e || t) ≡ true
or-second true t h = refl
or-second false t h = h

or-first : (e t : Bool) → e ≡ true → (e || t) ≡ true
or-first e t h = rw h refl

-- the owner has the dirty call that is on its way: the object stands
stands-now : (path : List Op) (call : ℕ) (s : State) → IsSafe (record s { path = path }) → s.way ≡ Some call → s.stands ≡ true
stands-now path call s h is = by s.lease refl s.parked refl
  where
    by : (t : Bool) → s.lease ≡ t → (parked : ℕ) → s.parked ≡ parked → s.stands ≡ true
    by true l parked p = h.entry_stands (h.leased l).entry_is
    by false l zero p = h.entry_stands (h.dirty_parked call is l p).entry_is
    by false l (suc parked) p = h.other_stands (h.parked_other (omega arith))

arrives : (path : List Op) (s : State) → IsSafe (record s { path = path }) → IsSafe (arrived path (record s { path = path }))
arrives [] s h = h
arrives (Dirty call ∷ ops) s h = record {
  entry_stands = or-either s.entry s.stands h.entry_stands;
  other_stands = h.other_stands;
  parked_other = h.parked_other;
  leased = λ l. more (h.leased l);
  started = λ l. more (h.started l);
  dirty_last = λ c is. elim (eqb call c) as (λ t. cond t (not (has_clean ops)) (is_last c ops) ≡ true → is_last c ops ≡ true) [
    | true ↦ λ g. last-clear ops c (not-true (has_clean ops) g)
    | false ↦ λ g. g
  ] (h.dirty_last c is);
  lease_comes = λ c is k. elim (eqb call c) as (λ t. eqb call c ≡ t → cond t (not (has_clean ops)) (is_last c ops) ≡ true → IsSecure (s.entry || s.stands) ops) [
    | true ↦ λ _ g. record { entry_is = or-second s.entry s.stands (stands-now (Dirty call ∷ ops) c s h is); clear = not-true (has_clean ops) g }
    | false ↦ λ e g. more (h.lease_comes c is (comes-more s.coming call c k e))
  ] refl (h.dirty_last c is);
  dirty_parked = λ c is l none. more (h.dirty_parked c is l none);
  leased_due = h.leased_due;
  way_due = h.way_due;
  path_below = h.path_below.1;
  coming_below = calls-more s.coming call s.next h.coming_below h.path_below.0;
}
  where
    not-true : (t : Bool) → not t ≡ true → t ≡ false
    not-true true g = sym g
    not-true false g = refl

    more : IsSecure s.entry (Dirty call ∷ ops) → IsSecure (s.entry || s.stands) ops
    more g = record { entry_is = or-first s.entry s.stands g.entry_is; clear = g.clear }
arrives (Clean call ∷ ops) s h = record {
  entry_stands = λ e. absurd (false≢true e);
  other_stands = h.other_stands;
  parked_other = h.parked_other;
  leased = λ l. absurd (void (h.leased l));
  started = λ l. absurd (void (h.started l));
  dirty_last = λ c is. elim (eqb call c) as (λ t. cond t false (is_last c ops) ≡ true → is_last c ops ≡ true) [
    | true ↦ λ g. absurd (false≢true g)
    | false ↦ λ g. g
  ] (h.dirty_last c is);
  lease_comes = λ c is k. absurd (void (h.lease_comes c is k));
  dirty_parked = λ c is l none. absurd (void (h.dirty_parked c is l none));
  leased_due = h.leased_due;
  way_due = h.way_due;
  path_below = h.path_below.1;
  coming_below = h.coming_below;
}
  where
    void : IsSecure s.entry (Clean call ∷ ops) → ⊥
    void g = false≢true (sym g.clear)

equal : (n : ℕ) → eqb n n ≡ true
equal n = grind (arith, nat_tests)

answers : (calls : List ℕ) (way : Option ℕ) (s : State) → IsSafe (record s { coming = calls; way = way }) → IsSafe (answered calls (record s { coming = calls; way = way }))
answers [] way s h = h
answers (call ∷ calls) None s h = record {
  entry_stands = h.entry_stands;
  other_stands = h.other_stands;
  parked_other = h.parked_other;
  leased = h.leased;
  started = h.started;
  dirty_last = h.dirty_last;
  lease_comes = λ c is k. h.lease_comes c is (or-second (eqb call c) (comes c calls) k);
  dirty_parked = h.dirty_parked;
  leased_due = h.leased_due;
  way_due = h.way_due;
  path_below = h.path_below;
  coming_below = h.coming_below.1;
}
answers (call ∷ calls) (Some way) s h =
    elim (eqb way call) as (λ t. eqb way call ≡ t → IsSafe (cond t (record s { coming = calls; way = None; lease = true }) (record s { coming = calls; way = Some way }))) [
      | true ↦ λ e. record {
        entry_stands = h.entry_stands;
        other_stands = h.other_stands;
        parked_other = h.parked_other;
        leased = λ _. h.lease_comes way refl (or-first (eqb call way) (comes way calls) (rw (eqb-true way call e) (equal call)));
        started = h.started;
        dirty_last = λ c is. absurd (no c is);
        lease_comes = λ c is _. absurd (no c is);
        dirty_parked = λ c is _ _. absurd (no c is);
        leased_due = λ _. h.way_due way refl;
        way_due = λ c is. absurd (no c is);
        path_below = h.path_below;
        coming_below = h.coming_below.1;
      }
      | false ↦ λ e. record {
        entry_stands = h.entry_stands;
        other_stands = h.other_stands;
        parked_other = h.parked_other;
        leased = h.leased;
        started = h.started;
        dirty_last = h.dirty_last;
        lease_comes = λ c is k. h.lease_comes c is (or-second (eqb call c) (comes c calls) k);
        dirty_parked = h.dirty_parked;
        leased_due = h.leased_due;
        way_due = h.way_due;
        path_below = h.path_below;
        coming_below = h.coming_below.1;
      }
    ] refl
  where
    no : (c : ℕ) → ◌≡◌ {A = Option ℕ} None (Some c) → ⊥
    no c is = cc

lapses : (s : State) → IsSafe s → IsSafe (after Lapses s)
lapses s h = record {
  entry_stands = h.entry_stands;
  other_stands = h.other_stands;
  parked_other = h.parked_other;
  leased = λ l. absurd (false≢true l);
  started = h.started;
  dirty_last = h.dirty_last;
  lease_comes = h.lease_comes;
  dirty_parked = λ c is _ none. elim s.lease as (λ t. s.lease ≡ t → IsSecure s.entry s.path) [ true ↦ λ l. h.leased l | false ↦ λ l. h.dirty_parked c is l none ] refl;
  leased_due = λ l. absurd (false≢true l);
  way_due = h.way_due;
  path_below = h.path_below;
  coming_below = h.coming_below;
}

sweeps : (s : State) → Fits Sweeps s → IsSafe s → IsSafe (after Sweeps s)
sweeps s fits h = record {
  entry_stands = λ e. absurd (false≢true (sym fits.0 ∙ e));
  other_stands = λ e. absurd (false≢true (sym fits.1 ∙ e));
  parked_other = h.parked_other;
  leased = h.leased;
  started = h.started;
  dirty_last = h.dirty_last;
  lease_comes = h.lease_comes;
  dirty_parked = h.dirty_parked;
  leased_due = h.leased_due;
  way_due = h.way_due;
  path_below = h.path_below;
  coming_below = h.coming_below;
}

other-comes : (s : State) → Fits OtherComes s → IsSafe s → IsSafe (after OtherComes s)
other-comes s fits h = record {
  entry_stands = h.entry_stands;
  other_stands = λ _. fits;
  parked_other = λ _. refl;
  leased = h.leased;
  started = h.started;
  dirty_last = h.dirty_last;
  lease_comes = h.lease_comes;
  dirty_parked = h.dirty_parked;
  leased_due = h.leased_due;
  way_due = h.way_due;
  path_below = h.path_below;
  coming_below = h.coming_below;
}

other-goes : (s : State) → Fits OtherGoes s → IsSafe s → IsSafe (after OtherGoes s)
other-goes s fits h = record {
  entry_stands = h.entry_stands;
  other_stands = λ e. absurd (false≢true e);
  parked_other = λ some. absurd (omega arith);
  leased = h.leased;
  started = h.started;
  dirty_last = h.dirty_last;
  lease_comes = h.lease_comes;
  dirty_parked = h.dirty_parked;
  leased_due = h.leased_due;
  way_due = h.way_due;
  path_below = h.path_below;
  coming_below = h.coming_below;
}

pub kept : (event : Event) (s : State) → Fits event s → IsSafe s → IsSafe (after event s)
kept Parks s fits h = parks s fits h
kept (Goes held) s fits h = goes held s fits h
kept Holds s fits h = holds s (s.started + 1) (h.started fits) h
kept Roots s fits h = holds s (s.started + 1) (h.leased fits) h
kept Lets s fits h = holds s (s.started - 1) (h.started fits) h
kept (DirtyMade call) s fits h = dirty-made call s fits h
kept (CleanMade call) s fits h = clean-made call s fits h
kept Arrives s fits h = arrives s.path s h
kept Answers s fits h = answers s.coming s.way s h
kept Lapses s fits h = lapses s h
kept Sweeps s fits h = sweeps s fits h
kept OtherComes s fits h = other-comes s fits h
kept OtherGoes s fits h = other-goes s fits h

-- ---- histories

and-first : (a b : Bool) → (a && b) ≡ true → a ≡ true
and-first true b h = refl
and-first false b h = h

pub begins : (stands other : Bool) → IsSafe (start stands other)
begins stands other = record {
  entry_stands = λ e. absurd (false≢true e);
  other_stands = and-first stands other;
  parked_other = λ some. absurd (omega arith);
  leased = λ l. absurd (false≢true l);
  started = λ some. absurd (omega arith);
  dirty_last = λ c is. refl;
  lease_comes = λ c is k. absurd (false≢true k);
  dirty_parked = λ c is _ _. absurd (no c is);
  leased_due = λ l. absurd (false≢true l);
  way_due = λ c is. absurd (no c is);
  path_below = tt;
  coming_below = tt;
}
  where
    no : (c : ℕ) → ◌≡◌ {A = Option ℕ} None (Some c) → ⊥
    no c is = cc

pub safe : (stands other : Bool) (h : List Event) → AreFitting (start stands other) h → IsSafe (state_of (start stands other) h)
safe stands other [] fits = begins stands other
safe stands other (event ∷ h) fits = kept event (state_of (start stands other) h) fits.0 (safe stands other h fits.1)

pub is-kept : (s : State) → IsSafe s → IsSecure s.entry s.path → IsKept s
is-kept s h secure = record { secure = secure; stands = h.entry_stands secure.entry_is }

pub held-leased : (stands other : Bool) (h : List Event) → AreFitting (start stands other) h → (state_of (start stands other) h).lease ≡ true → IsKept (state_of (start stands other) h)
held-leased stands other h fits l = let s = safe stands other h fits in is-kept (state_of (start stands other) h) s (s.leased l)

pub held-started : (stands other : Bool) (h : List Event) → AreFitting (start stands other) h → 0 < (state_of (start stands other) h).started → IsKept (state_of (start stands other) h)
held-started stands other h fits l = let s = safe stands other h fits in is-kept (state_of (start stands other) h) s (s.started l)

pub held-parked : (stands other : Bool) (h : List Event) → AreFitting (start stands other) h → 0 < (state_of (start stands other) h).parked → (state_of (start stands other) h).stands ≡ true
held-parked stands other h fits l = let s = safe stands other h fits in s.other_stands (s.parked_other l)
