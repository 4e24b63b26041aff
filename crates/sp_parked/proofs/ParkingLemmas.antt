use Rattle.std.proofs.Common.{◌≡◌, ℕ, suc, ◌+◌, ◌<◌, ◌≤◌, Bool, true, false, cond, List, [], ◌∷◌, ◌++◌, None, Some, filter, nat_eq, refl, sym, ap, subst, ◌∙◌, add-one, arith}
use Rattle.std.specs.Prelude.{◌==◌, not}
use Rattle.std.specs.Cmp.{nat_eq_equiv}
use Rattle.std.specs.Map.{keys_of, lookup, remove_entry}
use Rattle.std.proofs.lemmas.Bool.{eqb-true}
use Rattle.space_ids.specs.declared.ids.ForeignId.{ForeignId}
use Rattle.dgc_client.specs.Table.{is_among}
use Rattle.rising_map.specs.Rows.{AreAbove, AreBelow, AreRows, Rises}
use Rattle.rising_map.proofs.RowLemmas.{above-push}
use Rattle.sp_parked.specs.ByConnections as connections
use Rattle.sp_parked.specs.ByReferences as references
use Rattle.sp_parked.specs.Parkings.{AreParked, naming, on_connection}
use Rattle.sp_parked.specs.declared.frame.ParkedFrame.{ParkedFrame}
use Rattle.sp_parked.specs.declared.parked.Parked.{Parked}
use Rattle.sp_parked.proofs.ConnectionLemmas as of_connections
use Rattle.sp_parked.proofs.TicketLemmas as of_references
use Rattle.sp_parked.proofs.TicketLemmas.{none-left}

abbrev pub Frames : Type 0
Frames = List (ℕ × ParkedFrame)

-- ---- tickets of those that pass a test of their frames

abbrev picked : (ParkedFrame → Bool) → Frames → List ℕ
picked p frames = keys_of (filter (λ (row : ℕ × ParkedFrame). p row.1) frames)

pub picked-more : (p : ParkedFrame → Bool) (frames : Frames) (t : ℕ) (f : ParkedFrame) → cond (p f) (picked p frames ++ t ∷ []) (picked p frames) ≡ picked p (frames ++ (t, f) ∷ [])
picked-more p [] t f = pick (p f)
  where
    none : List ℕ
    none = []

    pick : (b : Bool) → cond b (t ∷ []) none ≡ keys_of (cond b ((t, f) ∷ []) [])
    pick true = refl
    pick false = refl
picked-more p (x ∷ xs) t f = pick (p x.1) (p f) (picked-more p xs t f)
  where
    among : Frames → Frames
    among l = filter (λ (row : ℕ × ParkedFrame). p row.1) l

    pick : (b d : Bool) → cond d (keys_of (among xs) ++ t ∷ []) (keys_of (among xs)) ≡ keys_of (among (xs ++ (t, f) ∷ []))
        → cond d (keys_of (cond b (x ∷ among xs) (among xs)) ++ t ∷ []) (keys_of (cond b (x ∷ among xs) (among xs))) ≡ keys_of (cond b (x ∷ among (xs ++ (t, f) ∷ [])) (among (xs ++ (t, f) ∷ [])))
    pick true true go = ap (λ l. x.0 ∷ l) go
    pick true false go = ap (λ l. x.0 ∷ l) go
    pick false d go = go

pub picked-below : (p : ParkedFrame → Bool) (n : ℕ) (frames : Frames) → AreBelow n (keys_of frames) → AreBelow n (picked p frames)
picked-below p n [] a = tt
picked-below p n (x ∷ xs) a = pick (p x.1) (picked-below p n xs a.1)
  where
    rest : Frames
    rest = filter (λ (row : ℕ × ParkedFrame). p row.1) xs

    pick : (b : Bool) → AreBelow n (keys_of rest) → AreBelow n (keys_of (cond b (x ∷ rest) rest))
    pick true go = (a.0, go)
    pick false go = go

picked-above : (p : ParkedFrame → Bool) (n : ℕ) (frames : Frames) → AreAbove n (keys_of frames) → AreAbove n (picked p frames)
picked-above p n [] a = tt
picked-above p n (x ∷ xs) a = pick (p x.1) (picked-above p n xs a.1)
  where
    rest : Frames
    rest = filter (λ (row : ℕ × ParkedFrame). p row.1) xs

    pick : (b : Bool) → AreAbove n (keys_of rest) → AreAbove n (keys_of (cond b (x ∷ rest) rest))
    pick true go = (a.0, go)
    pick false go = go

pub picked-removed : (p : ParkedFrame → Bool) (t : ℕ) (f : ParkedFrame) (frames : Frames) → Rises (keys_of frames) → lookup (nat_eq t) frames ≡ Some f
    → cond (p f) (filter (λ (x : ℕ). not (x == t)) (picked p frames)) (picked p frames) ≡ picked p (remove_entry (nat_eq t) frames)
picked-removed p t f [] rises found = cc
picked-removed p t f (x ∷ xs) rises found = pick (nat_eq t x.0) refl found (picked-removed p t f xs rises.1)
  where
    among : Frames → Frames
    among l = filter (λ (row : ℕ × ParkedFrame). p row.1) l

    left : List ℕ → List ℕ
    left l = filter (λ (y : ℕ). not (y == t)) l

    here : nat_eq t x.0 ≡ true → (b : Bool) → cond b (left (keys_of (cond b (x ∷ among xs) (among xs)))) (keys_of (cond b (x ∷ among xs) (among xs))) ≡ keys_of (among xs)
    here e true =
        ap (λ d. cond (not d) (x.0 ∷ left (keys_of (among xs))) (left (keys_of (among xs)))) (sym (nat_eq_equiv.symm t x.0) ∙ e)
        ∙ none-left t (keys_of (among xs)) (subst (λ (m : ℕ). AreAbove m (keys_of (among xs))) (sym (eqb-true t x.0 e)) (picked-above p x.0 xs rises.0))
    here e false = refl

    later : nat_eq t x.0 ≡ false → (b d : Bool) → cond d (left (keys_of (among xs))) (keys_of (among xs)) ≡ keys_of (among (remove_entry (nat_eq t) xs))
        → cond d (left (keys_of (cond b (x ∷ among xs) (among xs)))) (keys_of (cond b (x ∷ among xs) (among xs))) ≡ keys_of (cond b (x ∷ among (remove_entry (nat_eq t) xs)) (among (remove_entry (nat_eq t) xs)))
    later e true true go = ap (λ d. cond (not d) (x.0 ∷ left (keys_of (among xs))) (left (keys_of (among xs)))) (sym (nat_eq_equiv.symm t x.0) ∙ e) ∙ ap (λ l. x.0 ∷ l) go
    later e true false go = ap (λ l. x.0 ∷ l) go
    later e false d go = go

    pick : (b : Bool) → nat_eq t x.0 ≡ b → cond b (Some x.1) (lookup (nat_eq t) xs) ≡ Some f
        → (lookup (nat_eq t) xs ≡ Some f → cond (p f) (left (keys_of (among xs))) (keys_of (among xs)) ≡ keys_of (among (remove_entry (nat_eq t) xs)))
        → cond (p f) (left (keys_of (cond (p x.1) (x ∷ among xs) (among xs)))) (keys_of (cond (p x.1) (x ∷ among xs) (among xs))) ≡ keys_of (among (cond b xs (x ∷ remove_entry (nat_eq t) xs)))
    pick true e g go = let same : f ≡ x.1 = cc in ap (λ y. cond (p y) (left (keys_of (cond (p x.1) (x ∷ among xs) (among xs)))) (keys_of (cond (p x.1) (x ∷ among xs) (among xs)))) same ∙ here e (p x.1)
    pick false e g go = later e (p x.1) (p f) (go g)

-- ---- tickets

below-last : (n k : ℕ) (numbers : List ℕ) → AreBelow n numbers → k < n → AreBelow n (numbers ++ k ∷ [])
below-last n k [] a h = (h, tt)
below-last n k (m ∷ ms) a h = (a.0, below-last n k ms a.1 h)

below-more : (n m : ℕ) (numbers : List ℕ) → n ≤ m → AreBelow n numbers → AreBelow m numbers
below-more n m [] h a = tt
below-more n m (k ∷ ks) h a = let low : k < n = a.0 in (omega (arith, low, h), below-more n m ks h a.1)

keys-more : (frames : Frames) (t : ℕ) (f : ParkedFrame) → keys_of (frames ++ (t, f) ∷ []) ≡ keys_of frames ++ t ∷ []
keys-more [] t f = refl
keys-more (x ∷ xs) t f = ap (λ (l : List ℕ). x.0 ∷ l) (keys-more xs t f)

below-removed : (n t : ℕ) (frames : Frames) → AreBelow n (keys_of frames) → AreBelow n (keys_of (remove_entry (nat_eq t) frames))
below-removed n t [] a = tt
below-removed n t (x ∷ xs) a = pick (nat_eq t x.0) (below-removed n t xs a.1)
  where
    pick : (b : Bool) → AreBelow n (keys_of (remove_entry (nat_eq t) xs)) → AreBelow n (keys_of (cond b xs (x ∷ remove_entry (nat_eq t) xs)))
    pick true go = a.1
    pick false go = (a.0, go)

above-removed : (n t : ℕ) (frames : Frames) → AreAbove n (keys_of frames) → AreAbove n (keys_of (remove_entry (nat_eq t) frames))
above-removed n t [] a = tt
above-removed n t (x ∷ xs) a = pick (nat_eq t x.0) (above-removed n t xs a.1)
  where
    pick : (b : Bool) → AreAbove n (keys_of (remove_entry (nat_eq t) xs)) → AreAbove n (keys_of (cond b xs (x ∷ remove_entry (nat_eq t) xs)))
    pick true go = a.1
    pick false go = (a.0, go)

pub absent-removed : (t : ℕ) (frames : Frames) → lookup (nat_eq t) frames ≡ None → remove_entry (nat_eq t) frames ≡ frames
absent-removed t [] e = refl
absent-removed t (x ∷ xs) e = pick (nat_eq t x.0) e (absent-removed t xs)
  where
    pick : (b : Bool) → cond b (Some x.1) (lookup (nat_eq t) xs) ≡ None → (lookup (nat_eq t) xs ≡ None → remove_entry (nat_eq t) xs ≡ xs) → cond b xs (x ∷ remove_entry (nat_eq t) xs) ≡ x ∷ xs
    pick true g go = cc
    pick false g go = ap (λ l. x ∷ l) (go g)

-- ---- tables

pub park : (frames : Frames) (f : ParkedFrame) (old new : Parked) → new.last ≡ old.last + 1 → (AreBelow (old.last + 1) (keys_of frames) → AreRows (frames ++ (old.last + 1, f) ∷ []) new.frames)
    → (((r : ForeignId) → AreBelow (old.last + 1) (naming frames r)) → references.AreTickets (references.with_tickets f.references (old.last + 1) (naming frames)) new.by_reference)
    → (AreBelow (old.last + 1) (on_connection frames f.conn) → connections.AreTickets (connections.with_ticket f.conn (old.last + 1) (on_connection frames)) new.by_connection)
    → AreParked frames old → AreParked (frames ++ (old.last + 1, f) ∷ []) new
park frames f old new last rows named came a =
    let t = old.last + 1 in
    let low : AreBelow t (keys_of frames) = subst (λ (n : ℕ). AreBelow n (keys_of frames)) (sym (add-one old.last)) a.given in record {
      rows = rows low;
      named = of_references.agree (references.with_tickets f.references t (naming frames)) (naming (frames ++ (t, f) ∷ [])) new.by_reference (λ r. picked-more (λ (x : ParkedFrame). is_among r x.references) frames t f)
          (named (λ r. picked-below (λ (x : ParkedFrame). is_among r x.references) t frames low));
      came = of_connections.agree (connections.with_ticket f.conn t (on_connection frames)) (on_connection (frames ++ (t, f) ∷ [])) new.by_connection
          (λ q. ap (λ b. cond b (on_connection frames q ++ t ∷ []) (on_connection frames q)) (nat_eq_equiv.symm f.conn q) ∙ picked-more (λ (x : ParkedFrame). q == x.conn) frames t f)
          (came (picked-below (λ (x : ParkedFrame). f.conn == x.conn) t frames low));
      counted = rw (keys-more frames t f) (above-push 0 (keys_of frames) t a.counted (omega arith));
      given = rw (keys-more frames t f, last) (below-last (suc t) t (keys_of frames) (below-more t (suc t) (keys_of frames) (omega arith) low) (omega arith));
    }

pub take : (frames : Frames) (t : ℕ) (f : ParkedFrame) (old new : Parked) → new.last ≡ old.last → lookup (nat_eq t) frames ≡ Some f → AreRows (remove_entry (nat_eq t) frames) new.frames
    → references.AreTickets (references.without_tickets f.references t (naming frames)) new.by_reference → connections.AreTickets (connections.without_ticket f.conn t (on_connection frames)) new.by_connection → AreParked frames old
    → AreParked (remove_entry (nat_eq t) frames) new
take frames t f old new last found rows named came a = record {
  rows = rows;
  named = of_references.agree (references.without_tickets f.references t (naming frames)) (naming (remove_entry (nat_eq t) frames)) new.by_reference (λ r. picked-removed (λ (x : ParkedFrame). is_among r x.references) t f frames a.rows.rises found) named;
  came = of_connections.agree (connections.without_ticket f.conn t (on_connection frames)) (on_connection (remove_entry (nat_eq t) frames)) new.by_connection
      (λ q. ap (λ b. cond b (filter (λ (x : ℕ). not (x == t)) (on_connection frames q)) (on_connection frames q)) (nat_eq_equiv.symm f.conn q) ∙ picked-removed (λ (x : ParkedFrame). q == x.conn) t f frames a.rows.rises found) came;
  counted = above-removed 0 t frames a.counted;
  given = rw (last) (below-removed (suc old.last) t frames a.given);
}

pub leave : (frames : Frames) (t : ℕ) (old new : Parked) → new ≡ record old { frames = new.frames } → lookup (nat_eq t) frames ≡ None → AreRows (remove_entry (nat_eq t) frames) new.frames → AreParked frames old → AreParked (remove_entry (nat_eq t) frames) new
leave frames t old new others none rows a =
    let same = absent-removed t frames none in
    subst (λ (l : Frames). AreParked l new) (sym same) (record {
      rows = subst (λ (l : Frames). AreRows l new.frames) same rows;
      named = rw (ap (λ (x : Parked). x.by_reference) others) a.named;
      came = rw (ap (λ (x : Parked). x.by_connection) others) a.came;
      counted = a.counted;
      given = rw (ap (λ (x : Parked). x.last) others) a.given;
    })

-- no frame has the ticket 0
pub release : (frames : Frames) (conn : ℕ) (names : List ForeignId) (old new : Parked) → new.frames ≡ old.frames → new.last ≡ old.last → references.AreTickets (references.without_tickets names 0 (naming frames)) new.by_reference
    → connections.AreTickets (connections.without_ticket conn 0 (on_connection frames)) new.by_connection → AreParked frames old → AreParked frames new
release frames conn names old new same last named came a = record {
  rows = rw (same) a.rows;
  named = of_references.agree (references.without_tickets names 0 (naming frames)) (naming frames) new.by_reference (λ r. pick (is_among r names) (naming frames r) (none-left 0 (naming frames r) (picked-above (λ (x : ParkedFrame). is_among r x.references) 0 frames a.counted))) named;
  came = of_connections.agree (connections.without_ticket conn 0 (on_connection frames)) (on_connection frames) new.by_connection (λ q. pick (nat_eq conn q) (on_connection frames q) (none-left 0 (on_connection frames q) (picked-above (λ (x : ParkedFrame). q == x.conn) 0 frames a.counted))) came;
  given = rw (last) a.given;
  counted = a.counted;
}
  where
    pick : (b : Bool) (l : List ℕ) → filter (λ (x : ℕ). not (x == 0)) l ≡ l → cond b (filter (λ (x : ℕ). not (x == 0)) l) l ≡ l
    pick true l e = e
    pick false l e = refl
