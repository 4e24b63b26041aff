use Rattle.std.proofs.Common.{◌≡◌, ℕ, zero, suc, ◌<◌, ◌≤◌, Bool, true, false, cond, List, [], ◌∷◌, length, get_or, slice_get, position, Option, None, Some, is_some, nat_eq, refl, sym, ap, subst, ◌∙◌, true≢false, arith}
use Rattle.std.specs.Prelude.{MatchOption, option_map, unwrap_or}
use Rattle.std.specs.Map.{keys_of, values_of, lookup}
use Rattle.std.proofs.lemmas.Bool.{eqb-true, eq-eqb}
use Rattle.std.proofs.lemmas.List.Quantifiers.{position-Some}
use Rattle.rising_map.specs.Rows as rising
use Rattle.rising_map.specs.Rows.{AreAbove, AreRows, Rises, first_row}
use Rattle.sp_parked.specs.declared.by_connection.ByConnection.{ByConnection}
use Rattle.sp_parked.specs.ByConnections.{AreTickets}
use Rattle.sp_parked.specs.ByReferences.{pairs}
use Rattle.sp_parked.proofs.TicketLemmas.{Tickets}

-- ---- tables

-- the tickets of a connection that has some
pub there : (holds : ℕ → List ℕ) (table : ByConnection) (r : ℕ) (m : Tickets) → lookup (nat_eq r) table.tickets.entries ≡ Some m → AreTickets holds table → AreRows (pairs (holds r)) m
there holds table r m found a = subst (λ (o : Option Tickets). MatchOption o (holds r ≡ []) (λ (x : Tickets). AreRows (pairs (holds r)) x)) found (a.at r)

pub absent : (holds : ℕ → List ℕ) (table : ByConnection) (r : ℕ) → lookup (nat_eq r) table.tickets.entries ≡ None → AreTickets holds table → holds r ≡ []
absent holds table r none a = subst (λ (o : Option Tickets). MatchOption o (holds r ≡ []) (λ (x : Tickets). AreRows (pairs (holds r)) x)) none (a.at r)

-- the tickets of one connection change
pub changed : (f : List ℕ → List ℕ) (holds : ℕ → List ℕ) (old new : ByConnection) (r : ℕ) (m : Tickets) → ((q : ℕ) → lookup (nat_eq q) new.tickets.entries ≡ cond (nat_eq r q) (Some m) (lookup (nat_eq q) old.tickets.entries))
    → AreRows (pairs (f (holds r))) m → AreTickets holds old → AreTickets (λ q. cond (nat_eq r q) (f (holds q)) (holds q)) new
changed f holds old new r m updates rows a = record { at = λ q. subst (λ (o : Option Tickets). MatchOption o (cond (nat_eq r q) (f (holds q)) (holds q) ≡ []) (λ (x : Tickets). AreRows (pairs (cond (nat_eq r q) (f (holds q)) (holds q))) x)) (sym (updates q)) (pick q (nat_eq r q) refl) }
  where
    pick : (q : ℕ) (b : Bool) → nat_eq r q ≡ b → MatchOption (cond b (Some m) (lookup (nat_eq q) old.tickets.entries)) (cond b (f (holds q)) (holds q) ≡ []) (λ (x : Tickets). AreRows (pairs (cond b (f (holds q)) (holds q))) x)
    pick q true e = subst (λ (p : ℕ). AreRows (pairs (f (holds p))) m) (eqb-true r q e) rows
    pick q false e = a.at q

-- a connection has no more tickets
pub emptied : (f : List ℕ → List ℕ) (holds : ℕ → List ℕ) (old new : ByConnection) (r : ℕ) → ((q : ℕ) → lookup (nat_eq q) new.tickets.entries ≡ cond (nat_eq r q) None (lookup (nat_eq q) old.tickets.entries))
    → f (holds r) ≡ [] → AreTickets holds old → AreTickets (λ q. cond (nat_eq r q) (f (holds q)) (holds q)) new
emptied f holds old new r updates none a = record { at = λ q. subst (λ (o : Option Tickets). MatchOption o (cond (nat_eq r q) (f (holds q)) (holds q) ≡ []) (λ (x : Tickets). AreRows (pairs (cond (nat_eq r q) (f (holds q)) (holds q))) x)) (sym (updates q)) (pick q (nat_eq r q) refl) }
  where
    pick : (q : ℕ) (b : Bool) → nat_eq r q ≡ b → MatchOption (cond b None (lookup (nat_eq q) old.tickets.entries)) (cond b (f (holds q)) (holds q) ≡ []) (λ (x : Tickets). AreRows (pairs (cond b (f (holds q)) (holds q))) x)
    pick q true e = subst (λ (p : ℕ). f (holds p) ≡ []) (eqb-true r q e) none
    pick q false e = a.at q

-- nothing changes
pub alike : (f : List ℕ → List ℕ) (holds : ℕ → List ℕ) (table : ByConnection) (r : ℕ) → f (holds r) ≡ holds r → AreTickets holds table → AreTickets (λ q. cond (nat_eq r q) (f (holds q)) (holds q)) table
alike f holds table r same a = record { at = λ q. pick q (nat_eq r q) refl }
  where
    pick : (q : ℕ) (b : Bool) → nat_eq r q ≡ b → MatchOption (lookup (nat_eq q) table.tickets.entries) (cond b (f (holds q)) (holds q) ≡ []) (λ (x : Tickets). AreRows (pairs (cond b (f (holds q)) (holds q))) x)
    pick q true e =
        let its : holds q ≡ f (holds q) = subst (λ (p : ℕ). holds p ≡ f (holds p)) (eqb-true r q e) (sym same) in
        subst (λ (l : List ℕ). MatchOption (lookup (nat_eq q) table.tickets.entries) (l ≡ []) (λ (x : Tickets). AreRows (pairs l) x)) its (a.at q)
    pick q false e = a.at q

-- the same tickets stand in another set
pub kept : (holds : ℕ → List ℕ) (old new : ByConnection) (r : ℕ) (m : Tickets) → ((q : ℕ) → lookup (nat_eq q) new.tickets.entries ≡ cond (nat_eq r q) (Some m) (lookup (nat_eq q) old.tickets.entries))
    → AreRows (pairs (holds r)) m → AreTickets holds old → AreTickets holds new
kept holds old new r m updates rows a = record { at = λ q. subst (λ (o : Option Tickets). MatchOption o (holds q ≡ []) (λ (x : Tickets). AreRows (pairs (holds q)) x)) (sym (updates q)) (pick q (nat_eq r q) refl) }
  where
    pick : (q : ℕ) (b : Bool) → nat_eq r q ≡ b → MatchOption (cond b (Some m) (lookup (nat_eq q) old.tickets.entries)) (holds q ≡ []) (λ (x : Tickets). AreRows (pairs (holds q)) x)
    pick q true e = subst (λ (p : ℕ). AreRows (pairs (holds p)) m) (eqb-true r q e) rows
    pick q false e = a.at q

-- what is found once a row that changed is gone
pub gone-then : (r q : ℕ) (m : Tickets) (now before : Option Tickets) → now ≡ cond (nat_eq r q) (Some m) before → cond (nat_eq r q) None now ≡ cond (nat_eq r q) None before
gone-then r q m now before e = pick (nat_eq r q) e
  where
    pick : (b : Bool) → now ≡ cond b (Some m) before → cond b None now ≡ cond b None before
    pick true f = refl
    pick false f = f

-- ---- room

abbrev pub Rows : Type 0
Rows = List (ℕ × Tickets)

-- the room that a row gives
abbrev pub room_in : Rows → ℕ → ℕ
room_in es r = unwrap_or (option_map (λ (m : Tickets). rising.room m) (lookup (nat_eq r) es)) 0

pub room-is : (es : Rows) (r : ℕ) (m : Tickets) → lookup (nat_eq r) es ≡ Some m → room_in es r ≡ rising.room m
room-is es r m found = ap (λ (o : Option Tickets). unwrap_or (option_map (λ (x : Tickets). rising.room x) o) 0) found

pub room-none : (es : Rows) (r : ℕ) → lookup (nat_eq r) es ≡ None → room_in es r ≡ 0
room-none es r none = ap (λ (o : Option Tickets). unwrap_or (option_map (λ (x : Tickets). rising.room x) o) 0) none

pub room-new : (es fs : Rows) (r : ℕ) (m : Tickets) → ((q : ℕ) → lookup (nat_eq q) fs ≡ cond (nat_eq r q) (Some m) (lookup (nat_eq q) es)) → room_in fs r ≡ rising.room m
room-new es fs r m updates = room-is fs r m (updates r ∙ ap (λ b. cond b (Some m) (lookup (nat_eq r) es)) (eq-eqb r r refl))

pub room-other : (es fs : Rows) (r q : ℕ) (m : Tickets) → ((q : ℕ) → lookup (nat_eq q) fs ≡ cond (nat_eq r q) (Some m) (lookup (nat_eq q) es)) → nat_eq r q ≡ false → room_in fs q ≡ room_in es q
room-other es fs r q m updates apart = ap (λ (o : Option Tickets). unwrap_or (option_map (λ (x : Tickets). rising.room x) o) 0) (updates q ∙ ap (λ b. cond b (Some m) (lookup (nat_eq q) es)) apart)

pub room-more : (es fs : Rows) (r q : ℕ) (m : Tickets) → ((q : ℕ) → lookup (nat_eq q) fs ≡ cond (nat_eq r q) (Some m) (lookup (nat_eq q) es)) → room_in es r ≤ rising.room m → room_in es q ≤ room_in fs q
room-more es fs r q m updates more = pick (nat_eq r q) refl
  where
    pick : (b : Bool) → nat_eq r q ≡ b → room_in es q ≤ room_in fs q
    pick true e =
        let same : r ≡ q = eqb-true r q e in
        subst (λ (p : ℕ). room_in es p ≤ room_in fs p) same (let at = room-new es fs r m updates in omega (arith, at, more))
    pick false e = let at = room-other es fs r q m updates e in omega (arith, at)

-- ---- rows by index

entry-here : (r : ℕ) (es : List (ℕ × Tickets)) (i : ℕ) (v : Tickets) → i < length (keys_of es) → r ≡ get_or (keys_of es) i r → slice_get (values_of es) i ≡ Some v → slice_get es i ≡ Some (r, v)
entry-here r [] i v within key value = absurd (omega arith)
entry-here r (e ∷ es) zero v within key value = let mine : e.1 ≡ v = cc in λ j. Some (sym key j, mine j)
entry-here r (e ∷ es) (suc i) v within key value = entry-here r es i v (omega arith) key value

-- what stands at the index of a connection
pub entry-at : (r : ℕ) (es : List (ℕ × Tickets)) (i : ℕ) (v : Tickets) → position (nat_eq r) (keys_of es) ≡ Some i → slice_get (values_of es) i ≡ Some v → slice_get es i ≡ Some (r, v)
entry-at r es i v index value =
    let at = position-Some (nat_eq r) (keys_of es) i r index in entry-here r es i v at.0 (eqb-true r (get_or (keys_of es) i r) at.1) value

pub none-from : (o : Option Tickets) → false ≡ is_some o → o ≡ None
none-from None h = refl
none-from (Some x) h = absurd (true≢false (sym h))

pub agree : (holds others : ℕ → List ℕ) (table : ByConnection) → ((q : ℕ) → holds q ≡ others q) → AreTickets holds table → AreTickets others table
agree holds others table same a = record { at = λ q. subst (λ (l : List ℕ). MatchOption (lookup (nat_eq q) table.tickets.entries) (l ≡ []) (λ (x : Tickets). AreRows (pairs l) x)) (same q) (a.at q) }
