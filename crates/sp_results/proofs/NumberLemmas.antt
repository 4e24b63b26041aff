use Rattle.std.proofs.Common.{◌≡◌, ℕ, zero, suc, ◌<◌, Bool, true, false, cond, List, [], ◌∷◌, ◌++◌, length, get_or, slice_get, position, filter, Option, None, Some, is_some, nat_eq, refl, sym, ap, subst, ◌∙◌, true≢false, arith}
use Rattle.std.specs.Prelude.{◌==◌, not, MatchOption, option_map, unwrap_or, Result, Ok, Err, IfOk, OnOk}
use Rattle.std.specs.Cmp.{nat_eq_equiv}
use Rattle.std.specs.List.{AllByRecursion, IsDistinct}
use Rattle.std.specs.Map.{keys_of, values_of, lookup}
use Rattle.std.proofs.lemmas.Bool.{eqb-true, eq-eqb}
use Rattle.std.proofs.lemmas.List.Quantifiers.{position-Some}
use Rattle.std.proofs.lemmas.Map.Keys.{IsDistinct-cons, IsDistinct-head, IsDistinct-push, IsDistinct-tail}
use Rattle.std.proofs.lemmas.Map.Made.{is_some-lookup}
use Rattle.indexmap.specs.IndexMap.{spare}
use Rattle.sp_results.specs.Numbers.{AreTickets, without_connection}
use Rattle.sp_results.specs.declared.unacknowledged.Numbers.{Numbers}
use Rattle.sp_results.specs.declared.unacknowledged.Unacknowledged.{Unacknowledged}

abbrev pub Pairs : Type 0
Pairs = List (ℕ × ℕ)

-- ---- numbers with their tickets

pub lookup-more : (number ticket q : ℕ) (l : Pairs) → lookup (nat_eq number) l ≡ None → lookup (nat_eq q) (l ++ (number, ticket) ∷ []) ≡ cond (nat_eq number q) (Some ticket) (lookup (nat_eq q) l)
lookup-more number ticket q [] none = ap (λ b. cond b (Some ticket) None) (nat_eq_equiv.symm q number)
lookup-more number ticket q (x ∷ xs) none = pick (nat_eq q x.0) refl (nat_eq number q) refl (nat_eq number x.0) refl none (lookup-more number ticket q xs)
  where
    rest : Option ℕ
    rest = lookup (nat_eq q) (xs ++ (number, ticket) ∷ [])

    pick : (t : Bool) → nat_eq q x.0 ≡ t → (u : Bool) → nat_eq number q ≡ u → (v : Bool) → nat_eq number x.0 ≡ v → cond v (Some x.1) (lookup (nat_eq number) xs) ≡ None
        → (lookup (nat_eq number) xs ≡ None → rest ≡ cond (nat_eq number q) (Some ticket) (lookup (nat_eq q) xs)) → cond t (Some x.1) rest ≡ cond u (Some ticket) (cond t (Some x.1) (lookup (nat_eq q) xs))
    pick t e u f true g n go = cc
    pick true e true f false g n go =
        let here : q ≡ x.0 = eqb-true q x.0 e in let there : number ≡ q = eqb-true number q f in absurd (true≢false (sym (eq-eqb number x.0 (there ∙ here)) ∙ g))
    pick true e false f false g n go = refl
    pick false e u f false g n go = go n ∙ ap (λ b. cond b (Some ticket) (lookup (nat_eq q) xs)) f

pub lookup-less : (number q : ℕ) (l : Pairs) → lookup (nat_eq q) (filter (λ (row : ℕ × ℕ). not (row.0 == number)) l) ≡ cond (nat_eq number q) None (lookup (nat_eq q) l)
lookup-less number q [] = pick (nat_eq number q)
  where
    none : Option ℕ
    none = None

    pick : (b : Bool) → none ≡ cond b None none
    pick true = refl
    pick false = refl
lookup-less number q (x ∷ xs) = pick (nat_eq x.0 number) refl (nat_eq q x.0) refl (nat_eq number q) refl (lookup-less number q xs)
  where
    left : Pairs
    left = filter (λ (row : ℕ × ℕ). not (row.0 == number)) xs

    pick : (b : Bool) → nat_eq x.0 number ≡ b → (t : Bool) → nat_eq q x.0 ≡ t → (u : Bool) → nat_eq number q ≡ u → lookup (nat_eq q) left ≡ cond (nat_eq number q) None (lookup (nat_eq q) xs)
        → lookup (nat_eq q) (cond (not b) (x ∷ left) left) ≡ cond u None (cond t (Some x.1) (lookup (nat_eq q) xs))
    pick true e true f true g go = go ∙ ap (λ b. cond b None (lookup (nat_eq q) xs)) g
    pick true e true f false g go =
        let here : q ≡ x.0 = eqb-true q x.0 f in let there : x.0 ≡ number = eqb-true x.0 number e in absurd (true≢false (sym (eq-eqb number q (sym (here ∙ there))) ∙ g))
    pick true e false f u g go = go ∙ ap (λ b. cond b None (lookup (nat_eq q) xs)) g
    pick false e true f true g go =
        let here : q ≡ x.0 = eqb-true q x.0 f in let there : number ≡ q = eqb-true number q g in absurd (true≢false (sym (eq-eqb x.0 number (sym (there ∙ here))) ∙ e))
    pick false e true f false g go = ap (λ b. cond b (Some x.1) (lookup (nat_eq q) left)) f
    pick false e false f u g go = ap (λ b. cond b (Some x.1) (lookup (nat_eq q) left)) f ∙ go ∙ ap (λ b. cond b None (lookup (nat_eq q) xs)) g

keys-more : (l : Pairs) (n t : ℕ) → keys_of (l ++ (n, t) ∷ []) ≡ keys_of l ++ n ∷ []
keys-more [] n t = refl
keys-more (x ∷ xs) n t = ap (λ (ks : List ℕ). x.0 ∷ ks) (keys-more xs n t)

pub distinct-more : (number ticket : ℕ) (l : Pairs) → lookup (nat_eq number) l ≡ None → IsDistinct nat_eq (keys_of l) → IsDistinct nat_eq (keys_of (l ++ (number, ticket) ∷ []))
distinct-more number ticket l none once = rw (keys-more l number ticket) (IsDistinct-push nat_eq_equiv (keys_of l) number once (sym (is_some-lookup (nat_eq number) l) ∙ ap is_some none))

apart-less : (k number : ℕ) (l : Pairs) → AllByRecursion (λ n. nat_eq k n ≡ false) (keys_of l) → AllByRecursion (λ n. nat_eq k n ≡ false) (keys_of (filter (λ (row : ℕ × ℕ). not (row.0 == number)) l))
apart-less k number [] a = a
apart-less k number (x ∷ xs) a = pick (x.0 == number) (apart-less k number xs a.1)
  where
    left : Pairs
    left = filter (λ (row : ℕ × ℕ). not (row.0 == number)) xs

    pick : (b : Bool) → AllByRecursion (λ n. nat_eq k n ≡ false) (keys_of left) → AllByRecursion (λ n. nat_eq k n ≡ false) (keys_of (cond (not b) (x ∷ left) left))
    pick true go = go
    pick false go = (a.0, go)

pub distinct-less : (number : ℕ) (l : Pairs) → IsDistinct nat_eq (keys_of l) → IsDistinct nat_eq (keys_of (filter (λ (row : ℕ × ℕ). not (row.0 == number)) l))
distinct-less number [] once = once
distinct-less number (x ∷ xs) once =
    pick (x.0 == number) (apart-less x.0 number xs (IsDistinct-head nat_eq x.0 (keys_of xs) once)) (distinct-less number xs (IsDistinct-tail nat_eq x.0 (keys_of xs) once))
  where
    left : Pairs
    left = filter (λ (row : ℕ × ℕ). not (row.0 == number)) xs

    pick : (b : Bool) → AllByRecursion (λ n. nat_eq x.0 n ≡ false) (keys_of left) → IsDistinct nat_eq (keys_of left) → IsDistinct nat_eq (keys_of (cond (not b) (x ∷ left) left))
    pick true apart go = go
    pick false apart go = IsDistinct-cons nat_eq x.0 (keys_of left) apart go

-- ---- tables

abbrev pub Fits : Numbers → Pairs → Type 0
Fits m l = (number : ℕ) → lookup (nat_eq number) m.tickets.entries ≡ lookup (nat_eq number) l

abbrev At : Option Numbers → Pairs → Type 0
At o l = MatchOption o (l ≡ []) (λ (m : Numbers). Fits m l)

-- the numbers of a connection that has a row
pub there : (holds : ℕ → Pairs) (table : Unacknowledged) (c : ℕ) (m : Numbers) → lookup (nat_eq c) table.numbers.entries ≡ Some m → AreTickets holds table → Fits m (holds c)
there holds table c m found a = subst (λ (o : Option Numbers). At o (holds c)) found (a.at c)

pub absent : (holds : ℕ → Pairs) (table : Unacknowledged) (c : ℕ) → lookup (nat_eq c) table.numbers.entries ≡ None → AreTickets holds table → holds c ≡ []
absent holds table c none a = subst (λ (o : Option Numbers). At o (holds c)) none (a.at c)

-- the numbers of one connection change
pub changed : (f : Pairs → Pairs) (holds : ℕ → Pairs) (old new : Unacknowledged) (c : ℕ) (m : Numbers) → ((q : ℕ) → lookup (nat_eq q) new.numbers.entries ≡ cond (nat_eq c q) (Some m) (lookup (nat_eq q) old.numbers.entries))
    → Fits m (f (holds c)) → IsDistinct nat_eq (keys_of (f (holds c))) → AreTickets holds old → AreTickets (λ q. cond (nat_eq c q) (f (holds q)) (holds q)) new
changed f holds old new c m updates fits once a = record {
  at = λ q. subst (λ (o : Option Numbers). At o (cond (nat_eq c q) (f (holds q)) (holds q))) (sym (updates q)) (pick q (nat_eq c q) refl);
  once = λ q. only q (nat_eq c q) refl;
}
  where
    pick : (q : ℕ) (b : Bool) → nat_eq c q ≡ b → At (cond b (Some m) (lookup (nat_eq q) old.numbers.entries)) (cond b (f (holds q)) (holds q))
    pick q true e = subst (λ (p : ℕ). Fits m (f (holds p))) (eqb-true c q e) fits
    pick q false e = a.at q

    only : (q : ℕ) (b : Bool) → nat_eq c q ≡ b → IsDistinct nat_eq (keys_of (cond b (f (holds q)) (holds q)))
    only q true e = subst (λ (p : ℕ). IsDistinct nat_eq (keys_of (f (holds p)))) (eqb-true c q e) once
    only q false e = a.once q

-- the same numbers stand in another row
pub kept : (holds : ℕ → Pairs) (old new : Unacknowledged) (c : ℕ) (m : Numbers) → ((q : ℕ) → lookup (nat_eq q) new.numbers.entries ≡ cond (nat_eq c q) (Some m) (lookup (nat_eq q) old.numbers.entries))
    → Fits m (holds c) → AreTickets holds old → AreTickets holds new
kept holds old new c m updates fits a = record { at = λ q. subst (λ (o : Option Numbers). At o (holds q)) (sym (updates q)) (pick q (nat_eq c q) refl); once = a.once }
  where
    pick : (q : ℕ) (b : Bool) → nat_eq c q ≡ b → At (cond b (Some m) (lookup (nat_eq q) old.numbers.entries)) (holds q)
    pick q true e = subst (λ (p : ℕ). Fits m (holds p)) (eqb-true c q e) fits
    pick q false e = a.at q

-- a connection has none any more
pub taken : (holds : ℕ → Pairs) (old new : Unacknowledged) (c : ℕ) → ((q : ℕ) → lookup (nat_eq q) new.numbers.entries ≡ cond (nat_eq c q) None (lookup (nat_eq q) old.numbers.entries)) → AreTickets holds old → AreTickets (without_connection c holds) new
unfolding IsDistinct
taken holds old new c updates a = record {
  at = λ q. subst (λ (o : Option Numbers). At o (without_connection c holds q)) (sym (updates q)) (pick q (nat_eq c q));
  once = λ q. only q (nat_eq c q);
}
  where
    none : Pairs
    none = []

    pick : (q : ℕ) (b : Bool) → At (cond b None (lookup (nat_eq q) old.numbers.entries)) (cond b none (holds q))
    pick q true = refl
    pick q false = a.at q

    only : (q : ℕ) (b : Bool) → IsDistinct nat_eq (keys_of (cond b none (holds q)))
    only q true = tt
    only q false = a.once q

pub agree : (holds others : ℕ → Pairs) (table : Unacknowledged) → ((q : ℕ) → holds q ≡ others q) → AreTickets holds table → AreTickets others table
agree holds others table same a = record {
  at = λ q. subst (λ (l : Pairs). At (lookup (nat_eq q) table.numbers.entries) l) (same q) (a.at q);
  once = λ q. subst (λ (l : Pairs). IsDistinct nat_eq (keys_of l)) (same q) (a.once q);
}

-- ---- room

abbrev pub room_in : List (ℕ × Numbers) → ℕ → ℕ
room_in es c = unwrap_or (option_map (λ (m : Numbers). spare m.tickets) (lookup (nat_eq c) es)) 0

pub room-is : (es : List (ℕ × Numbers)) (c : ℕ) (m : Numbers) → lookup (nat_eq c) es ≡ Some m → room_in es c ≡ spare m.tickets
room-is es c m found = ap (λ (o : Option Numbers). unwrap_or (option_map (λ (x : Numbers). spare x.tickets) o) 0) found

pub room-new : (es fs : List (ℕ × Numbers)) (c : ℕ) (m : Numbers) → ((q : ℕ) → lookup (nat_eq q) fs ≡ cond (nat_eq c q) (Some m) (lookup (nat_eq q) es)) → room_in fs c ≡ spare m.tickets
room-new es fs c m updates = room-is fs c m (updates c ∙ ap (λ b. cond b (Some m) (lookup (nat_eq c) es)) (eq-eqb c c refl))

-- ---- rows by index

entry-here : (r : ℕ) (es : List (ℕ × Numbers)) (i : ℕ) (v : Numbers) → i < length (keys_of es) → r ≡ get_or (keys_of es) i r → slice_get (values_of es) i ≡ Some v → slice_get es i ≡ Some (r, v)
entry-here r [] i v within key value = absurd (omega arith)
entry-here r (e ∷ es) zero v within key value = let mine : e.1 ≡ v = cc in λ j. Some (sym key j, mine j)
entry-here r (e ∷ es) (suc i) v within key value = entry-here r es i v (omega arith) key value

-- what stands at the index of a connection
pub entry-at : (r : ℕ) (es : List (ℕ × Numbers)) (i : ℕ) (v : Numbers) → position (nat_eq r) (keys_of es) ≡ Some i → slice_get (values_of es) i ≡ Some v → slice_get es i ≡ Some (r, v)
entry-at r es i v index value =
    let at = position-Some (nat_eq r) (keys_of es) i r index in entry-here r es i v at.0 (eqb-true r (get_or (keys_of es) i r) at.1) value

pub none-from : (o : Option Numbers) → false ≡ is_some o → o ≡ None
none-from None h = refl
none-from (Some x) h = absurd (true≢false (sym h))

-- ---- what a call gave

pub on-ok : {A E : Type 0} (r : Result A E) (P Q : Type 0) → (P → Q) → OnOk r P → OnOk r Q
on-ok (Ok x) P Q f p = f p
on-ok (Err e) P Q f p = p

pub if-ok : {A E : Type 0} (r : Result A E) (P Q : A → Type 0) → ((x : A) → P x → Q x) → IfOk r P → IfOk r Q
if-ok (Ok x) P Q each h = each x h
if-ok (Err e) P Q each h = h
