-- Each event of all clients of one object keeps it whole.
use Rattle.std.proofs.Common.{◌≡◌, ◌≢◌, ◌<◌, ◌≤◌, ℕ, ◌+◌, ◌-◌, Bool, true, false, cond, eqb, ◌&&◌, List, [], ◌∷◌, ◌++◌, Option, None, Some, refl, sym, ap, subst, ◌∙◌, zero, suc, arith}
use Rattle.std.specs.Prelude.{if◌then◌else◌, nat_lt, ◌⊎◌}
use Rattle.std.proofs.Common.{inl, inr}
use Rattle.std.proofs.lemmas.Bool.{false≢true, eqb-true}
use Rattle.std.proofs.lemmas.Bool.Decides.{nat_tests}
use Rattle.dgc_object.specs.OneClient as pair
use Rattle.dgc_object.specs.OneClient.{Op, State, IsSecure, IsSafe, IsKept}
use Rattle.dgc_object.specs.AllClients.{Frame, World, Event, is_same, bit, count, is_from, is_to, is_parked_at, lent, held_by, seen, put, after, FitsAt, Fits, IsWhole, start, world_of, AreFitting}
use Rattle.dgc_object.specs.AllClients.Event.{At, Sends, Parks, Goes, Ends, OwnHolds, OwnLets, Sweeps}
use Rattle.dgc_object.proofs.OneClientLemmas.{kept, begins, is-kept}

-- ---- counts

count-mid : (p : Frame → Bool) (before : List Frame) (f : Frame) (later : List Frame) → count p (before ++ f ∷ later) ≡ bit (p f) + count p (before ++ later)
count-mid p [] f later = refl
count-mid p (g ∷ before) f later = let more = count-mid p before f later in omega arith

count-last : (p : Frame → Bool) (frames : List Frame) (f : Frame) → count p (frames ++ f ∷ []) ≡ bit (p f) + count p frames
count-last p [] f = refl
count-last p (g ∷ frames) f = let more = count-last p frames f in omega arith

bit-and : (a b : Bool) → bit (a && b) ≤ bit b
bit-and true b = let e : bit b ≡ bit b = refl in omega arith
bit-and false true = omega arith
bit-and false false = omega arith

parked-to : (client : ℕ) (frames : List Frame) → count (is_parked_at client) frames ≤ count (is_to client) frames
parked-to client [] = omega arith
parked-to client (f ∷ frames) =
    let more = parked-to client frames in
    let one = bit-and f.parked (is_to client f) in omega arith

same-self : (who : Option ℕ) → is_same who who ≡ true
same-self None = refl
same-self (Some n) = grind (arith, nat_tests)

above-zero : (n : ℕ) → 0 < n → nat_lt 0 n ≡ true
above-zero n h = grind (arith, nat_tests)

zero-above : (n : ℕ) → nat_lt 0 n ≡ true → 0 < n
zero-above n h = grind (arith, nat_tests)

-- ---- machines

-- another reason may come or go, if the object stands while there is one and there is one while a frame is parked
other-set : (t : Bool) (s : State) → (t ≡ true → s.stands ≡ true) → (0 < s.parked → t ≡ true) → IsSafe s → IsSafe (record s { other = t })
other-set t s stands parked h = record {
  entry_stands = h.entry_stands;
  other_stands = stands;
  parked_other = parked;
  leased = h.leased;
  started = h.started;
  dirty_last = h.dirty_last;
  lease_comes = h.lease_comes;
  dirty_parked = h.dirty_parked;
  leased_due = h.leased_due;
  way_due = h.way_due;
  path_below = h.path_below;
  coming_below = h.coming_below;
}

put-safe : (client : ℕ) (s : State) (w : World) → ((d : ℕ) → eqb client d ≡ false → IsSafe (seen d w))
    → IsSafe (record s { stands = w.stands; other = nat_lt 0 (count (is_to client) w.frames) }) → (d : ℕ) → IsSafe (seen d (put client s w))
put-safe client s w others own d =
    elim (eqb client d) as (λ t. eqb client d ≡ t → IsSafe (record (cond {A = State} t s (w.clients d)) { stands = w.stands; other = nat_lt 0 (count (is_to d) w.frames) })) [
      | true ↦ λ e. subst (λ c. IsSafe (record s { stands = w.stands; other = nat_lt 0 (count (is_to c) w.frames) })) (eqb-true client d e) own
      | false ↦ λ e. others d e
    ] refl

-- a holder of the reference anywhere has the object stand
holder-stands : (who : Option ℕ) (w : World) → IsWhole w → 0 < held_by who w → w.stands ≡ true
holder-stands None w h some = h.own_stands some
holder-stands (Some client) w h some = let s = h.safe client in s.entry_stands (s.started some).entry_is

-- a frame anywhere has the object stand
pub frame-stands : (w : World) → IsWhole w → w.frames ≢ [] → w.stands ≡ true
frame-stands w h some = by w.frames refl
  where
    by : (frames : List Frame) → w.frames ≡ frames → w.stands ≡ true
    by [] e = absurd (some e)
    by (f ∷ frames) e =
        let loan : lent f.sender w ≡ 1 + count (is_from f.sender) frames = ap (count (is_from f.sender)) e ∙ ap (λ t. bit t + count (is_from f.sender) frames) (same-self f.sender) in
        let held = h.loans f.sender in
        holder-stands f.sender w h (omega arith)

-- ---- events of one client

record IsLocal (s t : State) (n : ℕ) : Type 0 where
  stands : t.stands ≡ s.stands
  other : t.other ≡ s.other
  parked : t.parked ≡ s.parked
  started : n ≤ t.started

local-arrived : (path : List Op) (s : State) (n : ℕ) → n ≤ s.started → IsLocal s (pair.arrived path s) n
local-arrived [] s n h = record { stands = refl; other = refl; parked = refl; started = h }
local-arrived (pair.Dirty call ∷ path) s n h = record { stands = refl; other = refl; parked = refl; started = h }
local-arrived (pair.Clean call ∷ path) s n h = record { stands = refl; other = refl; parked = refl; started = h }

local-answered : (calls : List ℕ) (s : State) (n : ℕ) → n ≤ s.started → IsLocal s (pair.answered calls s) n
local-answered [] s n h = record { stands = refl; other = refl; parked = refl; started = h }
local-answered (call ∷ calls) s n h = elim (pair.is_way s.way call) as (λ t. IsLocal s (cond t (record s { coming = calls; way = None; lease = true }) (record s { coming = calls })) n) [
  | true ↦ record { stands = refl; other = refl; parked = refl; started = h }
  | false ↦ record { stands = refl; other = refl; parked = refl; started = h }
]

local-after : (client : ℕ) (event : pair.Event) (w : World) → FitsAt client event w → lent (Some client) w ≤ (w.clients client).started
    → pair.Fits event (seen client w) × IsLocal (seen client w) (pair.after event (seen client w)) (lent (Some client) w)
local-after client pair.Parks w fits h = absurd fits
local-after client (pair.Goes held) w fits h = absurd fits
local-after client pair.Holds w fits h = (fits, record { stands = refl; other = refl; parked = refl; started = omega arith })
local-after client pair.Roots w fits h = (fits, record { stands = refl; other = refl; parked = refl; started = omega arith })
local-after client pair.Lets w fits h = (omega arith, record { stands = refl; other = refl; parked = refl; started = omega arith })
local-after client (pair.DirtyMade call) w fits h = (fits, record { stands = refl; other = refl; parked = refl; started = h })
local-after client (pair.CleanMade call) w fits h = (fits, record { stands = refl; other = refl; parked = refl; started = h })
local-after client pair.Arrives w fits h = (tt, local-arrived (w.clients client).path (seen client w) (lent (Some client) w) h)
local-after client pair.Answers w fits h = (tt, local-answered (w.clients client).coming (seen client w) (lent (Some client) w) h)
local-after client pair.Lapses w fits h = (tt, record { stands = refl; other = refl; parked = refl; started = h })
local-after client pair.Sweeps w fits h = absurd fits
local-after client pair.OtherComes w fits h = absurd fits
local-after client pair.OtherGoes w fits h = absurd fits

same-fields : (s : State) (a b : Bool) → s.stands ≡ a → s.other ≡ b → IsSafe s → IsSafe (record s { stands = a; other = b })
same-fields s a b ea eb h = subst (λ t. IsSafe (record s { stands = a; other = t })) eb (subst (λ t. IsSafe (record s { stands = t })) ea h)

-- what holds of the client that changes, and of each other, holds of each
put-each : (P : ℕ → State → Type 0) (client : ℕ) (s : State) (w : World) → P client s → ((d : ℕ) → eqb client d ≡ false → P d (w.clients d)) → (d : ℕ) → P d (if eqb client d then s else w.clients d)
put-each P client s w own others d = elim (eqb client d) as (λ t. eqb client d ≡ t → P d (cond {A = State} t s (w.clients d))) [
  | true ↦ λ e. subst (λ c. P c s) (eqb-true client d e) own
  | false ↦ λ e. others d e
] refl

-- the loans of each space
each-loan : (w : World) → (lent None w ≤ w.own) → ((d : ℕ) → lent (Some d) w ≤ (w.clients d).started) → (who : Option ℕ) → lent who w ≤ held_by who w
each-loan w own others None = own
each-loan w own others (Some d) = others d

at : (client : ℕ) (event : pair.Event) (w : World) → FitsAt client event w → IsWhole w → IsWhole (after (At client event) w)
at client event w fits h = record {
  safe = put-safe client s w (λ d _. h.safe d) (same-fields s w.stands _ local.1.stands local.1.other (kept event (seen client w) local.0 (h.safe client)));
  loans = each-loan (put client s w) (h.loans None) (put-each (λ d t. lent (Some d) w ≤ t.started) client s w local.1.started (λ d _. h.loans (Some d)));
  own_stands = h.own_stands;
  parked = put-each (λ d t. t.parked ≡ count (is_parked_at d) w.frames) client s w (local.1.parked ∙ h.parked client) (λ d _. h.parked d);
}
  where
    s : State
    s = pair.after event (seen client w)

    local : pair.Fits event (seen client w) × IsLocal (seen client w) s (lent (Some client) w)
    local = local-after client event w fits (h.loans (Some client))

-- ---- events of frames

same-true : (a b : Option ℕ) → is_same a b ≡ true → a ≡ b
same-true None None h = refl
same-true None (Some b) h = absurd (false≢true h)
same-true (Some a) None h = absurd (false≢true h)
same-true (Some a) (Some b) h = ap Some (eqb-true a b h)

one-more : (a b : Option ℕ) (n : ℕ) (held : Option ℕ → ℕ) → n ≤ held b → (a ≡ b → n < held b) → bit (is_same a b) + n ≤ held b
one-more a b n held h more = elim (is_same a b) as (λ t. is_same a b ≡ t → bit t + n ≤ held b) [
  | true ↦ λ e. let m = more (same-true a b e) in omega arith
  | false ↦ λ e. omega arith
] refl

sends : (sender receiver : Option ℕ) (w : World) → Fits (Sends sender receiver) w → IsWhole w → IsWhole (after (Sends sender receiver) w)
sends sender receiver w fits h = record {
  safe = λ d. other-set (nat_lt 0 (count (is_to d) (w.frames ++ f ∷ []))) (seen d w) (λ _. stands)
      (λ some. above-zero (count (is_to d) (w.frames ++ f ∷ [])) (let a = h.parked d in let b = parked-to d w.frames in let c = count-last (is_to d) w.frames f in omega arith)) (h.safe d);
  loans = each-loan (after (Sends sender receiver) w) (loan None) (λ d. loan (Some d));
  own_stands = h.own_stands;
  parked = λ d. let a = h.parked d in let b = count-last (is_parked_at d) w.frames f in omega arith;
}
  where
    f : Frame
    f = record { sender = sender; receiver = receiver; parked = false }

    stands : w.stands ≡ true
    stands = holder-stands sender w h (omega arith)

    loan : (who : Option ℕ) → count (is_from who) (w.frames ++ f ∷ []) ≤ held_by who w
    loan who = subst (λ n. n ≤ held_by who w) (sym (count-last (is_from who) w.frames f))
        (one-more sender who (lent who w) (λ b. held_by b w) (h.loans who) (λ e. subst (λ b. lent b w < held_by b w) e fits))

-- a parked frame counts as one on its way, except among the parked ones
count-park : (p : Frame → Bool) (before : List Frame) (f g : Frame) (later : List Frame) → p f ≡ p g → count p (before ++ f ∷ later) ≡ count p (before ++ g ∷ later)
count-park p before f g later same = count-mid p before f later ∙ (ap (λ t. bit t + count p (before ++ later)) same ∙ sym (count-mid p before g later))

parks : (before : List Frame) (sender : Option ℕ) (client : ℕ) (later : List Frame) (w : World) → Fits (Parks before sender client later) w → IsWhole w → IsWhole (after (Parks before sender client later) w)
parks before sender client later w fits h = record {
  safe = put-safe client s w' (λ d _. subst (λ n. IsSafe (record (w.clients d) { stands = w.stands; other = nat_lt 0 n })) (to d) (h.safe d))
      (subst (λ n. IsSafe (record s { stands = w.stands; other = nat_lt 0 n })) (to client) (kept pair.Parks (seen client w) (above-zero (count (is_to client) w.frames) here) (h.safe client)));
  loans = each-loan (put client s w') (subst (λ n. n ≤ w.own) (from None) (h.loans None))
      (put-each (λ d t. count (is_from (Some d)) w'.frames ≤ t.started) client s w (subst (λ n. n ≤ (w.clients client).started) (from (Some client)) (h.loans (Some client)))
      (λ d _. subst (λ n. n ≤ (w.clients d).started) (from (Some d)) (h.loans (Some d))));
  own_stands = h.own_stands;
  parked = put-each (λ d t. t.parked ≡ count (is_parked_at d) w'.frames) client s w
      (let a = h.parked client ∙ ap (count (is_parked_at client)) fits ∙ count-mid (is_parked_at client) before f later in
      let b = count-mid (is_parked_at client) before g later ∙ ap (λ t. bit t + count (is_parked_at client) (before ++ later)) self in omega arith)
      (λ d apart. h.parked d ∙ ap (count (is_parked_at d)) fits ∙ count-park (is_parked_at d) before f g later (sym apart));
}
  where
    f : Frame
    f = record { sender = sender; receiver = Some client; parked = false }

    g : Frame
    g = record { sender = sender; receiver = Some client; parked = true }

    w' : World
    w' = record w { frames = before ++ g ∷ later }

    s : State
    s = pair.after pair.Parks (seen client w)

    self : eqb client client ≡ true
    self = same-self (Some client)

    to : (d : ℕ) → count (is_to d) w.frames ≡ count (is_to d) w'.frames
    to d = ap (count (is_to d)) fits ∙ count-park (is_to d) before f g later refl

    from : (who : Option ℕ) → count (is_from who) w.frames ≡ count (is_from who) w'.frames
    from who = ap (count (is_from who)) fits ∙ count-park (is_from who) before f g later refl

    here : 0 < count (is_to client) w.frames
    here = let a = ap (count (is_to client)) fits ∙ count-mid (is_to client) before f later ∙ ap (λ t. bit t + count (is_to client) (before ++ later)) self in omega arith

record IsGone (s t : State) : Type 0 where
  stands : t.stands ≡ s.stands
  parked : t.parked ≡ s.parked - 1
  started : s.started ≤ t.started

is-gone : (held : Bool) (s : State) → IsGone s (pair.after (pair.Goes held) s)
is-gone true s = record { stands = refl; parked = refl; started = omega arith }
is-gone false s = record { stands = refl; parked = refl; started = omega arith }

goes : (before : List Frame) (sender : Option ℕ) (client : ℕ) (later : List Frame) (held : Bool) (w : World) → Fits (Goes before sender client later held) w → IsWhole w → IsWhole (after (Goes before sender client later held) w)
goes before sender client later held w fits h = record {
  safe = put-safe client s w' (λ d apart. subst (λ n. IsSafe (record (w.clients d) { stands = w.stands; other = nat_lt 0 n })) (to d apart) (h.safe d))
      (subst (λ a. IsSafe (record s { stands = a; other = nat_lt 0 (count (is_to client) w'.frames) })) now.stands
      (other-set (nat_lt 0 (count (is_to client) w'.frames)) s (λ _. now.stands ∙ (h.safe client).other_stands (above-zero (count (is_to client) w.frames) here))
      (λ some. above-zero (count (is_to client) w'.frames) (let a = left in let b = parked-to client w'.frames in omega arith))
      (kept (pair.Goes held) (seen client w) (let a = mine in omega arith, fits.1) (h.safe client))));
  loans = each-loan (put client s w') (let a = h.loans None in let b = from None in omega arith)
      (put-each (λ d t. count (is_from (Some d)) w'.frames ≤ t.started) client s w
      (let a = h.loans (Some client) in let b = from (Some client) in let c = now.started in omega arith)
      (λ d _. let a = h.loans (Some d) in let b = from (Some d) in omega arith));
  own_stands = h.own_stands;
  parked = put-each (λ d t. t.parked ≡ count (is_parked_at d) w'.frames) client s w left
      (λ d apart. let a = h.parked d ∙ ap (count (is_parked_at d)) fits.0 ∙ count-mid (is_parked_at d) before g later ∙ ap (λ t. bit t + count (is_parked_at d) w'.frames) apart in omega arith);
}
  where
    g : Frame
    g = record { sender = sender; receiver = Some client; parked = true }

    w' : World
    w' = record w { frames = before ++ later }

    s : State
    s = pair.after (pair.Goes held) (seen client w)

    now : IsGone (seen client w) s
    now = is-gone held (seen client w)

    self : eqb client client ≡ true
    self = same-self (Some client)

    to : (d : ℕ) → eqb client d ≡ false → count (is_to d) w.frames ≡ count (is_to d) w'.frames
    to d apart = let a = ap (count (is_to d)) fits.0 ∙ count-mid (is_to d) before g later ∙ ap (λ t. bit t + count (is_to d) w'.frames) apart in omega arith

    from : (who : Option ℕ) → count (is_from who) w'.frames ≤ count (is_from who) w.frames
    from who = let a = ap (count (is_from who)) fits.0 ∙ count-mid (is_from who) before g later in omega arith

    here : 0 < count (is_to client) w.frames
    here = let a = ap (count (is_to client)) fits.0 ∙ count-mid (is_to client) before g later ∙ ap (λ t. bit t + count (is_to client) (before ++ later)) self in omega arith

    mine : (w.clients client).parked ≡ 1 + count (is_parked_at client) w'.frames
    mine = h.parked client ∙ ap (count (is_parked_at client)) fits.0 ∙ count-mid (is_parked_at client) before g later ∙ ap (λ t. bit t + count (is_parked_at client) w'.frames) self

    left : s.parked ≡ count (is_parked_at client) w'.frames
    left = let a = now.parked in let b = mine in omega arith

ends : (before : List Frame) (f : Frame) (later : List Frame) (w : World) → Fits (Ends before f later) w → IsWhole w → IsWhole (after (Ends before f later) w)
ends before f later w fits h = record {
  safe = λ d. other-set (nat_lt 0 (count (is_to d) w'.frames)) (seen d w)
      (λ t. (h.safe d).other_stands (above-zero (count (is_to d) w.frames) (let a = zero-above (count (is_to d) w'.frames) t in let b = fewer (is_to d) in omega arith)))
      (λ some. above-zero (count (is_to d) w'.frames) (let a = left d in let b = parked-to d w'.frames in omega arith)) (h.safe d);
  loans = each-loan w' (let a = h.loans None in let b = fewer (is_from None) in omega arith) (λ d. let a = h.loans (Some d) in let b = fewer (is_from (Some d)) in omega arith);
  own_stands = h.own_stands;
  parked = left;
}
  where
    w' : World
    w' = record w { frames = before ++ later }

    fewer : (p : Frame → Bool) → count p w'.frames ≤ count p w.frames
    fewer p = let a = ap (count p) fits.0 ∙ count-mid p before f later in omega arith

    left : (d : ℕ) → (w.clients d).parked ≡ count (is_parked_at d) w'.frames
    left d = let a = h.parked d ∙ ap (count (is_parked_at d)) fits.0 ∙ count-mid (is_parked_at d) before f later ∙ ap (λ t. bit (t && is_to d f) + count (is_parked_at d) w'.frames) fits.1 in omega arith

own-lets : (w : World) → Fits OwnLets w → IsWhole w → IsWhole (after OwnLets w)
own-lets w fits h = record {
  safe = h.safe;
  loans = each-loan (after OwnLets w) (omega arith) (λ d. h.loans (Some d));
  own_stands = λ some. h.own_stands (omega arith);
  parked = h.parked;
}

-- if nothing holds the object, no frame names it
no-holder : (w : World) → Fits Sweeps w → IsWhole w → (who : Option ℕ) → held_by who w ≡ 0
no-holder w fits h None = fits.0
no-holder w fits h (Some d) = by (w.clients d).started refl
  where
    by : (n : ℕ) → (w.clients d).started ≡ n → (w.clients d).started ≡ 0
    by zero e = e
    by (suc n) e = absurd (false≢true (sym (fits.1 d) ∙ ((h.safe d).started (omega arith)).entry_is))

no-frame : (w : World) → Fits Sweeps w → IsWhole w → (p : Frame → Bool) → count p w.frames ≡ 0
no-frame w fits h p = by w.frames refl
  where
    by : (frames : List Frame) → w.frames ≡ frames → count p w.frames ≡ 0
    by [] e = ap (count p) e
    by (f ∷ frames) e =
        let loan : lent f.sender w ≡ 1 + count (is_from f.sender) frames = ap (count (is_from f.sender)) e ∙ ap (λ t. bit t + count (is_from f.sender) frames) (same-self f.sender) in
        let held = h.loans f.sender in
        let none = no-holder w fits h f.sender in
        absurd (omega arith)

sweeps-all : (w : World) → Fits Sweeps w → IsWhole w → IsWhole (after Sweeps w)
sweeps-all w fits h = record {
  safe = λ d. kept pair.Sweeps (seen d w) (fits.1 d, ap (nat_lt 0) (no-frame w fits h (is_to d))) (h.safe d);
  loans = each-loan (after Sweeps w) (h.loans None) (λ d. h.loans (Some d));
  own_stands = λ some. absurd (let none = fits.0 in omega arith);
  parked = h.parked;
}

pub whole-after : (event : Event) (w : World) → Fits event w → IsWhole w → IsWhole (after event w)
whole-after (At client event) w fits h = at client event w fits h
whole-after (Sends sender receiver) w fits h = sends sender receiver w fits h
whole-after (Parks before sender client later) w fits h = parks before sender client later w fits h
whole-after (Goes before sender client later held) w fits h = goes before sender client later held w fits h
whole-after (Ends before f later) w fits h = ends before f later w fits h
whole-after OwnHolds w fits h = record {
  safe = h.safe;
  loans = each-loan (after OwnHolds w) (let a = h.loans None in omega arith) (λ d. h.loans (Some d));
  own_stands = λ _. fits;
  parked = h.parked;
}
whole-after OwnLets w fits h = own-lets w fits h
whole-after Sweeps w fits h = sweeps-all w fits h

whole-start : (own : ℕ) → IsWhole (start own)
whole-start own = record { safe = λ d. begins true false; loans = each-loan (start own) (omega arith) (λ d. omega arith); own_stands = λ _. refl; parked = λ d. refl }

pub whole : (own : ℕ) (h : List Event) → AreFitting (start own) h → IsWhole (world_of (start own) h)
whole own [] fits = whole-start own
whole own (event ∷ h) fits = whole-after event (world_of (start own) h) fits.0 (whole own h fits.1)

pub kept-client : (own : ℕ) (h : List Event) (client : ℕ) → AreFitting (start own) h
    → ((seen client (world_of (start own) h)).lease ≡ true) ⊎ (0 < (seen client (world_of (start own) h)).started) → IsKept (seen client (world_of (start own) h))
kept-client own h client fits held =
    let s = (whole own h fits).safe client in by s held
  where
    by : IsSafe (seen client (world_of (start own) h)) → ((seen client (world_of (start own) h)).lease ≡ true) ⊎ (0 < (seen client (world_of (start own) h)).started) → IsKept (seen client (world_of (start own) h))
    by s (inl l) = is-kept (seen client (world_of (start own) h)) s (s.leased l)
    by s (inr l) = is-kept (seen client (world_of (start own) h)) s (s.started l)

pub kept-frame : (own : ℕ) (h : List Event) → AreFitting (start own) h → (world_of (start own) h).frames ≢ [] → (world_of (start own) h).stands ≡ true
kept-frame own h fits some = frame-stands (world_of (start own) h) (whole own h fits) some

pub kept-own : (own : ℕ) (h : List Event) → AreFitting (start own) h → 0 < (world_of (start own) h).own → (world_of (start own) h).stands ≡ true
kept-own own h fits some = (whole own h fits).own_stands some
