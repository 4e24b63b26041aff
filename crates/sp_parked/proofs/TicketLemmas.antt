use Rattle.std.proofs.Common.{◌≡◌, ℕ, zero, suc, ◌+◌, ◌<◌, ◌≤◌, Bool, true, false, cond, List, [], ◌∷◌, ◌++◌, length, get_or, slice_get, position, Option, None, Some, is_some, filter, take, drop, nat_eq, refl, sym, ap, subst, ◌∙◌, true≢false, arith}
use Rattle.std.specs.Prelude.{◌==◌, not, is_none, MatchOption, ◌||◌, option_map, unwrap_or, OnOk, Result, Ok, Err, IfOk}
use Rattle.std.specs.Cmp.{nat_eq_equiv}
use Rattle.std.specs.Map.{keys_of, values_of, lookup, remove_entry}
use Rattle.std.proofs.lemmas.Bool.{eqb-true, ne_eqb}
use Rattle.std.proofs.lemmas.List.{map-append, take_more}
use Rattle.std.proofs.Common.{add-one, drop-cons}
use Rattle.std.proofs.lemmas.List.Quantifiers.{position-Some}
use Rattle.space_ids.specs.declared.ids.ForeignId.{ForeignId}
use Rattle.std.specs.List.{AllByRecursion, IsDistinct}
use Rattle.dgc_client.specs.Table.{is_among, is_same}
use Rattle.dgc_client.proofs.KeptLemmas.{same-laws, same-reference, same-self}
use Rattle.rising_map.specs.declared.map.RisingMap.{RisingMap}
use Rattle.rising_map.specs.Rows as rising
use Rattle.rising_map.specs.Rows.{AreAbove, AreRows, Rises, first_row}
use Rattle.sp_parked.specs.declared.by_reference.ByReference.{ByReference}
use Rattle.sp_parked.specs.ByReferences.{AreTickets, pairs, without_ticket, without_tickets}

-- a set of tickets
abbrev pub Tickets : Type 0
Tickets = RisingMap (Unit {0})

-- ---- tickets as rows

pub keys-pairs : (ts : List ℕ) → keys_of (pairs ts) ≡ ts
keys-pairs [] = refl
keys-pairs (t ∷ ts) = ap (λ (l : List ℕ). t ∷ l) (keys-pairs ts)

pub pairs-more : (ts : List ℕ) (t : ℕ) → pairs ts ++ (t, tt) ∷ [] ≡ pairs (ts ++ t ∷ [])
pairs-more ts t = sym (map-append (λ (x : ℕ). let p : ℕ × Unit {0} = (x, tt) in p) ts (t ∷ []))

pub none-left : (t : ℕ) (ts : List ℕ) → AreAbove t ts → filter (λ (x : ℕ). not (x == t)) ts ≡ ts
none-left t [] a = refl
none-left t (x ∷ xs) a =
    let low : t < x = a.0 in
    ap (λ b. cond (not b) (x ∷ rest) rest) (ne_eqb x t (λ same. omega (arith, low, same))) ∙ ap (λ l. x ∷ l) (none-left t xs a.1)
  where
    rest : List ℕ
    rest = filter (λ (y : ℕ). not (y == t)) xs

pub pairs-removed : (t : ℕ) (ts : List ℕ) → Rises ts → remove_entry (nat_eq t) (pairs ts) ≡ pairs (filter (λ (x : ℕ). not (x == t)) ts)
pairs-removed t [] r = refl
pairs-removed t (x ∷ xs) r = pick (nat_eq t x) refl (pairs-removed t xs r.1)
  where
    rest : List ℕ
    rest = filter (λ (y : ℕ). not (y == t)) xs

    pick : (b : Bool) → nat_eq t x ≡ b → remove_entry (nat_eq t) (pairs xs) ≡ pairs rest → cond b (pairs xs) ((x, tt) ∷ remove_entry (nat_eq t) (pairs xs)) ≡ pairs (cond (not (x == t)) (x ∷ rest) rest)
    pick true e go =
        sym (ap (λ b. pairs (cond (not b) (x ∷ rest) rest)) (sym (nat_eq_equiv.symm t x) ∙ e) ∙ ap pairs (none-left t xs (subst (λ (m : ℕ). AreAbove m xs) (sym (eqb-true t x e)) r.0)))
    pick false e go = ap (λ l. (x, tt) ∷ l) go ∙ sym (ap (λ b. pairs (cond (not b) (x ∷ rest) rest)) (sym (nat_eq_equiv.symm t x) ∙ e))

pub rises-pairs : (ts : List ℕ) → Rises (keys_of (pairs ts)) → Rises ts
rises-pairs ts r = subst Rises (keys-pairs ts) r

pub none-first : (ts : List ℕ) → is_none (first_row (pairs ts)) ≡ true → ts ≡ []
none-first [] e = refl
none-first (t ∷ ts) e = absurd (true≢false (sym e))

-- ---- tables

-- the tickets of a reference that has some
pub there : (holds : ForeignId → List ℕ) (table : ByReference) (r : ForeignId) (m : Tickets) → lookup (is_same r) table.tickets.entries ≡ Some m → AreTickets holds table → AreRows (pairs (holds r)) m
there holds table r m found a = subst (λ (o : Option Tickets). MatchOption o (holds r ≡ []) (λ (x : Tickets). AreRows (pairs (holds r)) x)) found (a.at r)

pub absent : (holds : ForeignId → List ℕ) (table : ByReference) (r : ForeignId) → lookup (is_same r) table.tickets.entries ≡ None → AreTickets holds table → holds r ≡ []
absent holds table r none a = subst (λ (o : Option Tickets). MatchOption o (holds r ≡ []) (λ (x : Tickets). AreRows (pairs (holds r)) x)) none (a.at r)

-- the tickets of one reference change
pub changed : (f : List ℕ → List ℕ) (holds : ForeignId → List ℕ) (old new : ByReference) (r : ForeignId) (m : Tickets) → ((q : ForeignId) → lookup (is_same q) new.tickets.entries ≡ cond (is_same r q) (Some m) (lookup (is_same q) old.tickets.entries))
    → AreRows (pairs (f (holds r))) m → AreTickets holds old → AreTickets (λ q. cond (is_same r q) (f (holds q)) (holds q)) new
changed f holds old new r m updates rows a = record { at = λ q. subst (λ (o : Option Tickets). MatchOption o (cond (is_same r q) (f (holds q)) (holds q) ≡ []) (λ (x : Tickets). AreRows (pairs (cond (is_same r q) (f (holds q)) (holds q))) x)) (sym (updates q)) (pick q (is_same r q) refl) }
  where
    pick : (q : ForeignId) (b : Bool) → is_same r q ≡ b → MatchOption (cond b (Some m) (lookup (is_same q) old.tickets.entries)) (cond b (f (holds q)) (holds q) ≡ []) (λ (x : Tickets). AreRows (pairs (cond b (f (holds q)) (holds q))) x)
    pick q true e = subst (λ (p : ForeignId). AreRows (pairs (f (holds p))) m) (same-reference r q e) rows
    pick q false e = a.at q

-- a reference has no more tickets
pub emptied : (f : List ℕ → List ℕ) (holds : ForeignId → List ℕ) (old new : ByReference) (r : ForeignId) → ((q : ForeignId) → lookup (is_same q) new.tickets.entries ≡ cond (is_same r q) None (lookup (is_same q) old.tickets.entries))
    → f (holds r) ≡ [] → AreTickets holds old → AreTickets (λ q. cond (is_same r q) (f (holds q)) (holds q)) new
emptied f holds old new r updates none a = record { at = λ q. subst (λ (o : Option Tickets). MatchOption o (cond (is_same r q) (f (holds q)) (holds q) ≡ []) (λ (x : Tickets). AreRows (pairs (cond (is_same r q) (f (holds q)) (holds q))) x)) (sym (updates q)) (pick q (is_same r q) refl) }
  where
    pick : (q : ForeignId) (b : Bool) → is_same r q ≡ b → MatchOption (cond b None (lookup (is_same q) old.tickets.entries)) (cond b (f (holds q)) (holds q) ≡ []) (λ (x : Tickets). AreRows (pairs (cond b (f (holds q)) (holds q))) x)
    pick q true e = subst (λ (p : ForeignId). f (holds p) ≡ []) (same-reference r q e) none
    pick q false e = a.at q

-- nothing changes
pub alike : (f : List ℕ → List ℕ) (holds : ForeignId → List ℕ) (table : ByReference) (r : ForeignId) → f (holds r) ≡ holds r → AreTickets holds table → AreTickets (λ q. cond (is_same r q) (f (holds q)) (holds q)) table
alike f holds table r same a = record { at = λ q. pick q (is_same r q) refl }
  where
    pick : (q : ForeignId) (b : Bool) → is_same r q ≡ b → MatchOption (lookup (is_same q) table.tickets.entries) (cond b (f (holds q)) (holds q) ≡ []) (λ (x : Tickets). AreRows (pairs (cond b (f (holds q)) (holds q))) x)
    pick q true e =
        let its : holds q ≡ f (holds q) = subst (λ (p : ForeignId). holds p ≡ f (holds p)) (same-reference r q e) (sym same) in
        subst (λ (l : List ℕ). MatchOption (lookup (is_same q) table.tickets.entries) (l ≡ []) (λ (x : Tickets). AreRows (pairs l) x)) its (a.at q)
    pick q false e = a.at q

-- the same tickets stand in another set
pub kept : (holds : ForeignId → List ℕ) (old new : ByReference) (r : ForeignId) (m : Tickets) → ((q : ForeignId) → lookup (is_same q) new.tickets.entries ≡ cond (is_same r q) (Some m) (lookup (is_same q) old.tickets.entries))
    → AreRows (pairs (holds r)) m → AreTickets holds old → AreTickets holds new
kept holds old new r m updates rows a = record { at = λ q. subst (λ (o : Option Tickets). MatchOption o (holds q ≡ []) (λ (x : Tickets). AreRows (pairs (holds q)) x)) (sym (updates q)) (pick q (is_same r q) refl) }
  where
    pick : (q : ForeignId) (b : Bool) → is_same r q ≡ b → MatchOption (cond b (Some m) (lookup (is_same q) old.tickets.entries)) (holds q ≡ []) (λ (x : Tickets). AreRows (pairs (holds q)) x)
    pick q true e = subst (λ (p : ForeignId). AreRows (pairs (holds p)) m) (same-reference r q e) rows
    pick q false e = a.at q

-- what is found once a row that changed is gone
pub gone-then : (r q : ForeignId) (m : Tickets) (now before : Option Tickets) → now ≡ cond (is_same r q) (Some m) before → cond (is_same r q) None now ≡ cond (is_same r q) None before
gone-then r q m now before e = pick (is_same r q) e
  where
    pick : (b : Bool) → now ≡ cond b (Some m) before → cond b None now ≡ cond b None before
    pick true f = refl
    pick false f = f

-- ---- room

abbrev pub Rows : Type 0
Rows = List (ForeignId × Tickets)

-- the room that a row gives
abbrev pub room_in : Rows → ForeignId → ℕ
room_in es r = unwrap_or (option_map (λ (m : Tickets). rising.room m) (lookup (is_same r) es)) 0

pub room-is : (es : Rows) (r : ForeignId) (m : Tickets) → lookup (is_same r) es ≡ Some m → room_in es r ≡ rising.room m
room-is es r m found = ap (λ (o : Option Tickets). unwrap_or (option_map (λ (x : Tickets). rising.room x) o) 0) found

pub room-none : (es : Rows) (r : ForeignId) → lookup (is_same r) es ≡ None → room_in es r ≡ 0
room-none es r none = ap (λ (o : Option Tickets). unwrap_or (option_map (λ (x : Tickets). rising.room x) o) 0) none

pub room-new : (es fs : Rows) (r : ForeignId) (m : Tickets) → ((q : ForeignId) → lookup (is_same q) fs ≡ cond (is_same r q) (Some m) (lookup (is_same q) es)) → room_in fs r ≡ rising.room m
room-new es fs r m updates = room-is fs r m (updates r ∙ ap (λ b. cond b (Some m) (lookup (is_same r) es)) (same-self r))

pub room-other : (es fs : Rows) (r q : ForeignId) (m : Tickets) → ((q : ForeignId) → lookup (is_same q) fs ≡ cond (is_same r q) (Some m) (lookup (is_same q) es)) → is_same r q ≡ false → room_in fs q ≡ room_in es q
room-other es fs r q m updates apart = ap (λ (o : Option Tickets). unwrap_or (option_map (λ (x : Tickets). rising.room x) o) 0) (updates q ∙ ap (λ b. cond b (Some m) (lookup (is_same q) es)) apart)

pub room-more : (es fs : Rows) (r q : ForeignId) (m : Tickets) → ((q : ForeignId) → lookup (is_same q) fs ≡ cond (is_same r q) (Some m) (lookup (is_same q) es)) → room_in es r ≤ rising.room m → room_in es q ≤ room_in fs q
room-more es fs r q m updates more = pick (is_same r q) refl
  where
    pick : (b : Bool) → is_same r q ≡ b → room_in es q ≤ room_in fs q
    pick true e =
        let same : r ≡ q = same-reference r q e in
        subst (λ (p : ForeignId). room_in es p ≤ room_in fs p) same (let at = room-new es fs r m updates in omega (arith, at, more))
    pick false e = let at = room-other es fs r q m updates e in omega (arith, at)

-- ---- rows by index

entry-here : (r : ForeignId) (es : List (ForeignId × Tickets)) (i : ℕ) (v : Tickets) → i < length (keys_of es) → r ≡ get_or (keys_of es) i r → slice_get (values_of es) i ≡ Some v → slice_get es i ≡ Some (r, v)
entry-here r [] i v within key value = absurd (omega arith)
entry-here r (e ∷ es) zero v within key value = let mine : e.1 ≡ v = cc in λ j. Some (sym key j, mine j)
entry-here r (e ∷ es) (suc i) v within key value = entry-here r es i v (omega arith) key value

-- what stands at the index of a reference
pub entry-at : (r : ForeignId) (es : List (ForeignId × Tickets)) (i : ℕ) (v : Tickets) → position (is_same r) (keys_of es) ≡ Some i → slice_get (values_of es) i ≡ Some v → slice_get es i ≡ Some (r, v)
entry-at r es i v index value =
    let at = position-Some (is_same r) (keys_of es) i r index in entry-here r es i v at.0 (same-reference r (get_or (keys_of es) i r) at.1) value

pub none-from : (o : Option Tickets) → false ≡ is_some o → o ≡ None
none-from None h = refl
none-from (Some x) h = absurd (true≢false (sym h))

pub on-ok : {A E : Type 0} (r : Result A E) (P Q : Type 0) → (P → Q) → OnOk r P → OnOk r Q
on-ok (Ok x) P Q f p = f p
on-ok (Err e) P Q f p = p

pub if-ok : {A E : Type 0} (r : Result A E) (P Q : A → Type 0) → ((x : A) → P x → Q x) → IfOk r P → IfOk r Q
if-ok (Ok x) P Q each h = each x h
if-ok (Err e) P Q each h = h

-- ---- several references

among-more : (q r : ForeignId) (rs : List ForeignId) → is_among q (rs ++ r ∷ []) ≡ (is_among q rs || is_same q r)
among-more q r [] = pick (is_same q r)
  where
    pick : (b : Bool) → (b || false) ≡ b
    pick true = refl
    pick false = refl
among-more q r (x ∷ xs) = pick (is_same q x) (among-more q r xs)
  where
    pick : (b : Bool) → is_among q (xs ++ r ∷ []) ≡ (is_among q xs || is_same q r) → (b || is_among q (xs ++ r ∷ [])) ≡ ((b || is_among q xs) || is_same q r)
    pick true go = refl
    pick false go = go

same-turned : (a b : ForeignId) → is_same a b ≡ is_same b a
same-turned a b = same-laws.symm a b

all-at : (P : ForeignId → Type 0) (rs : List ForeignId) (i : ℕ) (d : ForeignId) → AllByRecursion P rs → i < length rs → P (get_or rs i d)
all-at P [] i d a within = absurd (omega arith)
all-at P (x ∷ xs) zero d a within = a.0
all-at P (x ∷ xs) (suc i) d a within = all-at P xs i d a.1 (omega arith)

apart-from : (x q : ForeignId) (rs : List ForeignId) → AllByRecursion (λ y. is_same x y ≡ false) rs → is_among q rs ≡ true → is_same x q ≡ false
apart-from x q [] a e = absurd (true≢false (sym e))
apart-from x q (y ∷ ys) a e = pick (is_same q y) refl e (apart-from x q ys a.1)
  where
    pick : (b : Bool) → is_same q y ≡ b → (b || is_among q ys) ≡ true → (is_among q ys ≡ true → is_same x q ≡ false) → is_same x q ≡ false
    pick true f g go = subst (λ (p : ForeignId). is_same x p ≡ false) (sym (same-reference q y f)) a.0
    pick false f g go = go g

-- what stands at an index stands neither before nor after it
pub not-before : (rs : List ForeignId) (i : ℕ) (d : ForeignId) → IsDistinct is_same rs → i < length rs → is_among (get_or rs i d) (take i rs) ≡ false
unfolding IsDistinct
not-before [] i d once within = absurd (omega arith)
not-before (x ∷ xs) zero d once within = refl
not-before (x ∷ xs) (suc i) d once within =
    let at : i < length xs = omega arith in
    ap (λ b. b || is_among (get_or xs i d) (take i xs)) (same-turned (get_or xs i d) x ∙ all-at (λ y. is_same x y ≡ false) xs i d once.0 at) ∙ not-before xs i d once.1 at

pub not-after : (rs : List ForeignId) (i : ℕ) (d q : ForeignId) → IsDistinct is_same rs → i < length rs → is_among q (drop (suc i) rs) ≡ true → is_same (get_or rs i d) q ≡ false
unfolding IsDistinct
not-after [] i d q once within e = absurd (omega arith)
not-after (x ∷ xs) zero d q once within e = apart-from x q xs once.0 e
not-after (x ∷ xs) (suc i) d q once within e = not-after xs i d q once.1 (omega arith) e

pub agree : (holds others : ForeignId → List ℕ) (table : ByReference) → ((q : ForeignId) → holds q ≡ others q) → AreTickets holds table → AreTickets others table
agree holds others table same a = record { at = λ q. subst (λ (l : List ℕ). MatchOption (lookup (is_same q) table.tickets.entries) (l ≡ []) (λ (x : Tickets). AreRows (pairs l) x)) (same q) (a.at q) }

-- one more of the references has the ticket
pub with-more : (f : List ℕ → List ℕ) (holds : ForeignId → List ℕ) (r q : ForeignId) (rs : List ForeignId) → is_among r rs ≡ false
    → cond (is_same r q) (f (cond (is_among q rs) (f (holds q)) (holds q))) (cond (is_among q rs) (f (holds q)) (holds q)) ≡ cond (is_among q (rs ++ r ∷ [])) (f (holds q)) (holds q)
with-more f holds r q rs apart = pick (is_same r q) refl (is_among q rs) refl ∙ sym (ap (λ b. cond b (f (holds q)) (holds q)) (among-more q r rs ∙ ap (λ b. is_among q rs || b) (same-turned q r)))
  where
    pick : (b : Bool) → is_same r q ≡ b → (d : Bool) → is_among q rs ≡ d → cond b (f (cond d (f (holds q)) (holds q))) (cond d (f (holds q)) (holds q)) ≡ cond (d || b) (f (holds q)) (holds q)
    pick true e true d = absurd (true≢false (sym d ∙ subst (λ (p : ForeignId). is_among p rs ≡ false) (same-reference r q e) apart))
    pick true e false d = refl
    pick false e true d = refl
    pick false e false d = refl

twice-gone : (t : ℕ) (l : List ℕ) → filter (λ (x : ℕ). not (x == t)) (filter (λ (x : ℕ). not (x == t)) l) ≡ filter (λ (x : ℕ). not (x == t)) l
twice-gone t [] = refl
twice-gone t (x ∷ xs) = pick (x == t) refl (twice-gone t xs)
  where
    rest : List ℕ
    rest = filter (λ (y : ℕ). not (y == t)) xs

    pick : (b : Bool) → (x == t) ≡ b → filter (λ (y : ℕ). not (y == t)) rest ≡ rest → filter (λ (y : ℕ). not (y == t)) (cond (not b) (x ∷ rest) rest) ≡ cond (not b) (x ∷ rest) rest
    pick true e go = go
    pick false e go = ap (λ b. cond (not b) (x ∷ filter (λ (y : ℕ). not (y == t)) rest) (filter (λ (y : ℕ). not (y == t)) rest)) e ∙ ap (λ l. x ∷ l) go

pub without-more : (t : ℕ) (holds : ForeignId → List ℕ) (r q : ForeignId) (rs : List ForeignId)
    → without_ticket r t (without_tickets rs t holds) q ≡ without_tickets (rs ++ r ∷ []) t holds q
without-more t holds r q rs = pick (is_same r q) (is_among q rs) ∙ sym (ap (λ b. cond b (f (holds q)) (holds q)) (among-more q r rs ∙ ap (λ b. is_among q rs || b) (same-turned q r)))
  where
    f : List ℕ → List ℕ
    f l = filter (λ (x : ℕ). not (x == t)) l

    pick : (b d : Bool) → cond b (f (cond d (f (holds q)) (holds q))) (cond d (f (holds q)) (holds q)) ≡ cond (d || b) (f (holds q)) (holds q)
    pick true true = twice-gone t (holds q)
    pick true false = refl
    pick false true = refl
    pick false false = refl

-- ---- one reference more

pub step-take : (rs : List ForeignId) (i : ℕ) (r : ForeignId) → r ≡ get_or rs i r → i < length rs → take (i + 1) rs ≡ take i rs ++ r ∷ []
step-take rs i r is within = take_more rs i r within ∙ ap (λ x. take i rs ++ x ∷ []) (sym is)

step-drop : (rs : List ForeignId) (i : ℕ) (r : ForeignId) → r ≡ get_or rs i r → i < length rs → drop i rs ≡ r ∷ drop (suc i) rs
step-drop rs i r is within = drop-cons rs i r within ∙ ap (λ x. x ∷ drop (suc i) rs) (sym is)

pub among-here : (rs : List ForeignId) (i : ℕ) (r : ForeignId) → r ≡ get_or rs i r → i < length rs → is_among r (drop i rs) ≡ true
among-here rs i r is within = ap (is_among r) (step-drop rs i r is within) ∙ ap (λ b. b || is_among r (drop (suc i) rs)) (same-self r)

pub among-later : (rs : List ForeignId) (i : ℕ) (r q : ForeignId) → r ≡ get_or rs i r → i < length rs → is_among q (drop (i + 1) rs) ≡ true → is_among q (drop i rs) ≡ true
among-later rs i r q is within e = ap (is_among q) (step-drop rs i r is within) ∙ ap (λ b. is_same q r || b) (ap (λ n. is_among q (drop n rs)) (sym (add-one i)) ∙ e) ∙ pick (is_same q r)
  where
    pick : (b : Bool) → (b || true) ≡ true
    pick true = refl
    pick false = refl

pub later-apart : (rs : List ForeignId) (i : ℕ) (r q : ForeignId) → r ≡ get_or rs i r → i < length rs → IsDistinct is_same rs → is_among q (drop (i + 1) rs) ≡ true → is_same r q ≡ false
later-apart rs i r q is within once e = ap (λ x. is_same x q) is ∙ not-after rs i r q once within (ap (λ n. is_among q (drop n rs)) (sym (add-one i)) ∙ e)

pub earlier-apart : (rs : List ForeignId) (i : ℕ) (r : ForeignId) → r ≡ get_or rs i r → i < length rs → IsDistinct is_same rs → is_among r (take i rs) ≡ false
earlier-apart rs i r is within once = ap (λ x. is_among x (take i rs)) is ∙ not-before rs i r once within

pub so-far : (rs : List ForeignId) (i : ℕ) (r q : ForeignId) (old new : ℕ) (here : r ≡ q → 0 < new) → r ≡ get_or rs i r → i < length rs → old ≤ new → (is_among q (take i rs) ≡ true → 0 < old) → is_among q (take (i + 1) rs) ≡ true → 0 < new
so-far rs i r q old new here is within more before e = pick (is_among q (take i rs)) refl (is_same q r) refl (sym (ap (is_among q) (step-take rs i r is within) ∙ among-more q r (take i rs)) ∙ e)
  where
    pick : (b : Bool) → is_among q (take i rs) ≡ b → (d : Bool) → is_same q r ≡ d → (b || d) ≡ true → 0 < new
    pick true at d s f = let low = before at in omega (arith, low, more)
    pick false at true s f = here (sym (same-reference q r s))
    pick false at false s f = absurd (true≢false (sym f))
