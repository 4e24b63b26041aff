-- One reference in the events of a client's leases, in groups of calls, and among the due calls.
use mathlib.Core.Path.{sym, ap, subst, ◌∙◌}
use Rattle.std.proofs.Common.{arith}
use Rattle.std.proofs.lemmas.Bool.{true≢false, and_from, or_right}
use Rattle.std.specs.List.{list_any, flat_map, filter_map, cons_option}
use Rattle.std.specs.Prelude.{◌≡◌, refl, ℕ, ◌+◌, ◌≤◌, ◌==◌, ◌&&◌, ◌||◌, Bool, true, false, cond, List, [], ◌∷◌, ◌++◌, Option, None, Some, filter, map, length, if◌then◌else◌}
use Rattle.std.specs.Str.{bytes_eq}
use Rattle.dgc_client.specs.declared.groups.DueCall.{DueCall}
use Rattle.dgc_client.specs.declared.groups.Group.{Group}
use Rattle.dgc_client.specs.declared.lease.Due.{Due}
use Rattle.dgc_client.specs.declared.lease.Due.TheVariants.{Dirty, Clean}
use Rattle.dgc_client.specs.Groups.{calls_of, call_of, is_of, is_same_kind, grouped, in_order, parts_of}
use Rattle.dgc_client.specs.History.{Event, lease_of}
use Rattle.dgc_client.specs.History.Event.{Moment}
use Rattle.dgc_client.specs.Lease.{due}
use Rattle.dgc_client.specs.Table.{Told, On, At, Numbered, is_same, is_hold, is_among, own, held, with_reference, on_each, references_at, numbers_of, due_of}
use Rattle.dgc_client.specs.Touched.{due_call}
use Rattle.dgc_client.proofs.GroupsLemmas.{same-kind, kind-self, parts-joined}
use Rattle.dgc_client.proofs.KeptLemmas.{same-reference, same-self}
use Rattle.dgc_client.proofs.OrderLemmas.{groups-keep}
use Rattle.space_ids.specs.declared.ids.ForeignId.{ForeignId}
use Rattle.space_ids.specs.declared.ids.ObjId.{ObjId}
use Rattle.sp_rules.specs.Holders.{times_in}
use Rattle.sp_rules.specs.Lists.{total}
use Rattle.sp_rules.proofs.AllLemmas.{or-left, or-right}
use Rattle.sp_laws.specs.OnTheWay.{times_named}
use Rattle.sp_laws.proofs.PointerLemmas.{bit, bit-false, Named, IsNeutral, named-neutral, named-known, moment-neutral}

-- ---- one reference in the events

pub record Known (r : ForeignId) (n : Bool → ℕ → ℕ) (made : ℕ) (h : List Told) : Type 0 where
  pub named : Named n made (is_among r (held h)) (own r h)

pub other-way : (a b : ForeignId) → is_same a b ≡ false → is_same b a ≡ false
other-way a b e = pick (is_same b a) refl
  where
    pick : (x : Bool) → is_same b a ≡ x → x ≡ false
    pick true f = absurd (true≢false (sym (subst (λ (z : ForeignId). is_same z b ≡ true) (same-reference b a f) (same-self b)) ∙ e))
    pick false f = refl

pub same-way : (a b : ForeignId) → is_same a b ≡ true → is_same b a ≡ true
same-way a b e = subst (λ (z : ForeignId). is_same z a ≡ true) (same-reference a b e) (same-self a)

any-more : {A : Type 0} (p : A → Bool) (xs : List A) (x : A) → list_any p xs ≡ true → list_any p (xs ++ x ∷ []) ≡ true
any-more p [] x e = absurd (true≢false (sym e))
any-more {A} p (y ∷ ys) x e = pick (p y) e (any-more p ys x)
  where
    pick : (b : Bool) → b || list_any p ys ≡ true → (list_any p ys ≡ true → list_any p (ys ++ x ∷ []) ≡ true) → b || list_any p (ys ++ x ∷ []) ≡ true
    pick true f rest = refl
    pick false f rest = rest f

among-more : (r x : ForeignId) (refs : List ForeignId) → is_among r refs ≡ true → is_among r (with_reference refs x) ≡ true
among-more r x refs e = pick (is_among x refs)
  where
    pick : (b : Bool) → is_among r (if b then refs else refs ++ x ∷ []) ≡ true
    pick true = e
    pick false = any-more (is_same r) refs x e

held-more : (r x : ForeignId) (e : Event) (h : List Told) → is_among r (held h) ≡ true → is_among r (held (On x e ∷ h)) ≡ true
held-more r x e h t = pick (is_hold e)
  where
    pick : (b : Bool) → is_among r (if b then with_reference (held h) x else held h) ≡ true
    pick true = among-more r x (held h) t
    pick false = t

pub known-neutral : {r : ForeignId} {n : Bool → ℕ → ℕ} {made : ℕ} {h : List Told} (x : ForeignId) (e : Event) → IsNeutral e → Known r n made h → Known r n made (On x e ∷ h)
known-neutral {r} {n} {made} {h} x e N k = record { named = named-known (is_among r (held (On x e ∷ h))) (held-more r x e h) (pick (is_same x r && (is_hold e || is_among x (held h)))) }
  where
    pick : (b : Bool) → Named n made (is_among r (held h)) (if b then e ∷ own r h else own r h)
    pick true = named-neutral e N k.named
    pick false = k.named

own-other : (r x : ForeignId) (e : Event) (h : List Told) → is_same x r ≡ false → own r (On x e ∷ h) ≡ own r h
own-other r x e h s = ap (λ b. if b && (is_hold e || is_among x (held h)) then e ∷ own r h else own r h) s

pub known-other : {r : ForeignId} {n : Bool → ℕ → ℕ} {made : ℕ} {h : List Told} (x : ForeignId) (e : Event) → is_same x r ≡ false → Known r n made h → Known r n made (On x e ∷ h)
known-other {r} {n} {made} {h} x e s k = record { named = named-known (is_among r (held (On x e ∷ h))) (held-more r x e h) (subst (Named n made (is_among r (held h))) (sym (own-other r x e h s)) k.named) }

pub known-at : {r : ForeignId} {n : Bool → ℕ → ℕ} {made : ℕ} {h : List Told} (moment : ℕ) → Known r n made h → Known r n made (At moment ∷ h)
known-at moment k = record { named = named-neutral (Moment moment) (moment-neutral moment) k.named }

pub known-here : {r : ForeignId} {n : Bool → ℕ → ℕ} {made : ℕ} {h : List Told} (x : ForeignId) (e : Event) → is_same x r ≡ true → is_among r (held h) ≡ true → Named n made true (e ∷ own r h) → Known r n made (On x e ∷ h)
known-here {r} {n} {made} {h} x e s t k = record { named = subst (λ b. Named n made (is_among r (held (On x e ∷ h))) (if b then e ∷ own r h else own r h)) (sym whole) (named-known (is_among r (held (On x e ∷ h))) (λ u. held-more r x e h t) k) }
  where
    there : is_among x (held h) ≡ true
    there = subst (λ (z : ForeignId). is_among z (held h) ≡ true) (same-reference r x (same-way x r s)) t

    whole : is_same x r && (is_hold e || is_among x (held h)) ≡ true
    whole = and_from (is_same x r) (is_hold e || is_among x (held h)) s (or_right (is_hold e) (is_among x (held h)) there)

-- ---- one reference in a row of references

pub times-cons : (r x : ForeignId) (ids : List ForeignId) → times_in r (x ∷ ids) ≡ bit (is_same r x) + times_in r ids
times-cons r x ids = pick (is_same r x)
  where
    pick : (b : Bool) → length (cond b (x ∷ filter (is_same r) ids) (filter (is_same r) ids)) ≡ bit b + length (filter (is_same r) ids)
    pick true = omega arith
    pick false = omega arith

pub each-neutral : {r : ForeignId} {n : Bool → ℕ → ℕ} {made : ℕ} (refs : List ForeignId) (e : Event) (h : List Told) → IsNeutral e → Known r n made h → Known r n made (on_each refs e h)
each-neutral [] e h N k = k
each-neutral (x ∷ refs) e h N k = each-neutral refs e (On x e ∷ h) N (known-neutral x e N k)

-- the others of a row
pub each-other : {r : ForeignId} {n : Bool → ℕ → ℕ} {made : ℕ} (refs : List ForeignId) (e : Event) (h : List Told) → times_in r refs ≡ 0 → Known r n made h → Known r n made (on_each refs e h)
each-other [] e h z k = k
each-other {r} {n} {made} (x ∷ refs) e h z k =
    let a : times_in r (x ∷ refs) ≡ bit (is_same r x) + times_in r refs = times-cons r x refs in
    let z' : times_in r (x ∷ refs) ≡ 0 = z in
    let c : bit (is_same r x) ≡ 0 = omega arith in
    each-other refs e (On x e ∷ h) (omega arith) (known-other x e (other-way r x (bit-false (is_same r x) c)) k)

-- the one that is in it
pub each-here : {r : ForeignId} {n m : Bool → ℕ → ℕ} {made more : ℕ} (refs : List ForeignId) (e : Event) (h : List Told) (k : List Event) → own r h ≡ k → times_in r refs ≡ 1 → is_among r (held h) ≡ true
    → ((known : Bool) → Named n made known k → Named m more true (e ∷ k)) → Known r n made h → Known r m more (on_each refs e h)
each-here [] e h k same z t step x = absurd (omega (arith, z))
each-here {r} {n} {m} {made} {more} (y ∷ refs) e h k same z t step x = pick (is_same r y) refl (λ o w u v. each-here refs e (On y e ∷ h) k o w u step v)
  where
    first : is_same r y ≡ true → times_in r refs ≡ 0 → Known r m more (on_each refs e (On y e ∷ h))
    first s w = each-other refs e (On y e ∷ h) w (known-here y e (same-way r y s) t (subst (λ (u : List Event). Named m more true (e ∷ u)) (sym same) (step (is_among r (held h)) (subst (Named n made (is_among r (held h))) same x.named))))

    pick : (b : Bool) → is_same r y ≡ b → (own r (On y e ∷ h) ≡ k → times_in r refs ≡ 1 → is_among r (held (On y e ∷ h)) ≡ true → Known r n made (On y e ∷ h) → Known r m more (on_each refs e (On y e ∷ h))) → Known r m more (on_each refs e (On y e ∷ h))
    pick true s rest =
        let a : times_in r (y ∷ refs) ≡ bit (is_same r y) + times_in r refs = times-cons r y refs in
        let z' : times_in r (y ∷ refs) ≡ 1 = z in
        let c : bit (is_same r y) ≡ 1 = ap bit s in first s (omega arith)
    pick false s rest =
        let a : times_in r (y ∷ refs) ≡ bit (is_same r y) + times_in r refs = times-cons r y refs in
        let z' : times_in r (y ∷ refs) ≡ 1 = z in
        let c : bit (is_same r y) ≡ 0 = ap bit s in
        rest (own-other r y e h (other-way r y s) ∙ same) (omega arith) (held-more r y e h t) (known-other y e (other-way r y s) x)

pub numbers-each : (refs : List ForeignId) (e : Event) (h : List Told) → numbers_of (on_each refs e h) ≡ numbers_of h
numbers-each [] e h = refl
numbers-each (x ∷ refs) e h = numbers-each refs e (On x e ∷ h)

pub held-each : (refs : List ForeignId) (e : Event) (h : List Told) → is_hold e ≡ false → held (on_each refs e h) ≡ held h
held-each [] e h q = refl
held-each (x ∷ refs) e h q = held-each refs e (On x e ∷ h) q ∙ ap (λ b. if b then with_reference (held h) x else held h) q

pub own-each : (r : ForeignId) (refs : List ForeignId) (e : Event) (h : List Told) → times_in r refs ≡ 0 → own r (on_each refs e h) ≡ own r h
own-each r [] e h z = refl
own-each r (x ∷ refs) e h z =
    let a : times_in r (x ∷ refs) ≡ bit (is_same r x) + times_in r refs = times-cons r x refs in
    let z' : times_in r (x ∷ refs) ≡ 0 = z in
    let c : bit (is_same r x) ≡ 0 = omega arith in
    own-each r refs e (On x e ∷ h) (omega arith) ∙ own-other r x e h (other-way r x (bit-false (is_same r x) c))

-- ---- sums

pub total-append : {A : Type 0} (f : A → ℕ) (xs ys : List A) → total f (xs ++ ys) ≡ total f xs + total f ys
total-append f [] ys = omega arith
total-append f (x ∷ xs) ys = let e : total f (xs ++ ys) ≡ total f xs + total f ys = total-append f xs ys in omega arith

total-pass : {A : Type 0} (f : A → ℕ) (p : A → Bool) (xs : List A) → ((x : A) → p x ≡ false → f x ≡ 0) → total f (filter p xs) ≡ total f xs
total-pass f p [] z = refl
total-pass {A} f p (x ∷ xs) z = pick (p x) refl (total-pass f p xs z)
  where
    pick : (b : Bool) → p x ≡ b → total f (filter p xs) ≡ total f xs → total f (cond b (x ∷ filter p xs) (filter p xs)) ≡ f x + total f xs
    pick true e k = omega arith
    pick false e k = let a : f x ≡ 0 = z x e in omega arith

-- ---- the calls of groups

-- one for a call of the reference, of this kind
abbrev pub hit : ForeignId → Due → DueCall → ℕ
hit r k c = bit (is_of r.space k c && c.reference.id.0 == r.id.0)

-- one for a call of the reference
abbrev pub hit_any : ForeignId → DueCall → ℕ
hit_any r c = bit (is_same r c.reference)

miss-of : (a b : Bool) → a ≡ false → bit (a && b) ≡ 0
miss-of true b e = absurd (true≢false e)
miss-of false b e = refl

pub due-hits : (r : ForeignId) (k : Due) (calls : List DueCall) → total (hit r k) (flat_map calls_of (grouped (in_order calls))) ≡ total (hit r k) calls
due-hits r k calls =
    sym (total-pass (hit r k) (is_of r.space k) (flat_map calls_of (grouped (in_order calls))) (λ c e. miss-of (is_of r.space k c) (c.reference.id.0 == r.id.0) e))
    ∙ (ap (total (hit r k)) (groups-keep r.space k calls) ∙ total-pass (hit r k) (is_of r.space k) calls (λ c e. miss-of (is_of r.space k c) (c.reference.id.0 == r.id.0) e))

same-swap : (a b : ForeignId) → is_same a b ≡ is_same b a
same-swap a b = pick (is_same a b) refl
  where
    pick : (x : Bool) → is_same a b ≡ x → is_same a b ≡ is_same b a
    pick true e = e ∙ sym (same-way a b e)
    pick false e = e ∙ sym (other-way a b e)

hit-less : (r : ForeignId) (k : Due) (c : DueCall) → hit r k c ≤ hit_any r c
hit-less r k c =
    let e : hit_any r c ≡ bit (bytes_eq c.reference.space r.space && c.reference.id.0 == r.id.0) = ap bit (same-swap r c.reference) in
    let f : hit r k c ≤ bit (bytes_eq c.reference.space r.space && c.reference.id.0 == r.id.0) = pick (bytes_eq c.reference.space r.space) (is_same_kind c.kind k) (c.reference.id.0 == r.id.0) in omega arith
  where
    pick : (a z b : Bool) → bit ((a && z) && b) ≤ bit (a && b)
    pick true true b = omega arith
    pick true false true = omega arith
    pick true false false = omega arith
    pick false z b = omega arith

-- a call is of the reference and of one kind
hit-kinds : (r : ForeignId) (c : DueCall) → hit_any r c ≡ hit r Dirty c + (hit r (Clean true) c + hit r (Clean false) c)
hit-kinds r c = ap bit (same-swap r c.reference) ∙ pick (bytes_eq c.reference.space r.space) (c.reference.id.0 == r.id.0) c.kind
  where
    pick : (a b : Bool) (k : Due) → bit (a && b) ≡ bit ((a && is_same_kind k Dirty) && b) + (bit ((a && is_same_kind k (Clean true)) && b) + bit ((a && is_same_kind k (Clean false)) && b))
    pick false b k = refl
    pick true b Dirty = omega arith
    pick true b (Clean true) = omega arith
    pick true b (Clean false) = omega arith

kinds-total : (r : ForeignId) (cs : List DueCall) → total (hit_any r) cs ≡ total (hit r Dirty) cs + (total (hit r (Clean true)) cs + total (hit r (Clean false)) cs)
kinds-total r [] = refl
kinds-total r (c ∷ cs) = let a : hit_any r c ≡ hit r Dirty c + (hit r (Clean true) c + hit r (Clean false) c) = hit-kinds r c in let b : total (hit_any r) cs ≡ total (hit r Dirty) cs + (total (hit r (Clean true)) cs + total (hit r (Clean false)) cs) = kinds-total r cs in omega arith

pub any-hits : (r : ForeignId) (calls : List DueCall) → total (hit_any r) (flat_map calls_of (grouped (in_order calls))) ≡ total (hit_any r) calls
any-hits r calls =
    let all : List DueCall = flat_map calls_of (grouped (in_order calls)) in
    kinds-total r all ∙ ((λ i. due-hits r Dirty calls i + (due-hits r (Clean true) calls i + due-hits r (Clean false) calls i)) ∙ sym (kinds-total r calls))

pub hits-less : (r : ForeignId) (k : Due) (cs : List DueCall) → total (hit r k) cs ≤ total (hit_any r) cs
hits-less r k [] = omega arith
hits-less r k (c ∷ cs) = let a : hit r k c ≤ hit_any r c = hit-less r k c in let b : total (hit r k) cs ≤ total (hit_any r) cs = hits-less r k cs in omega arith

-- a group's calls name the reference as often as the group
pub group-any : (r : ForeignId) (b : Group) → total (hit_any r) (calls_of b) ≡ times_named r b
group-any r b = rows b.ids
  where
    rows : (ids : List ObjId) → total (hit_any r) (map (call_of b.peer b.kind) ids) ≡ times_in r (references_at b.peer ids)
    rows [] = refl
    rows (id ∷ ids) = let a : total (hit_any r) (map (call_of b.peer b.kind) ids) ≡ times_in r (references_at b.peer ids) = rows ids in let c : times_in r (references_at b.peer (id ∷ ids)) ≡ bit (is_same r (record { space = b.peer; id = id })) + times_in r (references_at b.peer ids) = times-cons r (record { space = b.peer; id = id }) (references_at b.peer ids) in omega arith

hit-own-kind : (r : ForeignId) (c : DueCall) → hit r c.kind c ≡ hit_any r c
hit-own-kind r c = pick (bytes_eq c.reference.space r.space) (c.reference.id.0 == r.id.0) (is_same_kind c.kind c.kind) (kind-self c.kind) ∙ ap bit (same-swap c.reference r)
  where
    pick : (a b z : Bool) → z ≡ true → bit ((a && z) && b) ≡ bit (a && b)
    pick true b true e = refl
    pick true b false e = absurd (true≢false (sym e))
    pick false b z e = refl

pub group-kind : (r : ForeignId) (b : Group) → total (hit r b.kind) (calls_of b) ≡ times_named r b
group-kind r b = rows b.ids ∙ group-any r b
  where
    rows : (ids : List ObjId) → total (hit r b.kind) (map (call_of b.peer b.kind) ids) ≡ total (hit_any r) (map (call_of b.peer b.kind) ids)
    rows [] = refl
    rows (id ∷ ids) = let a : total (hit r b.kind) (map (call_of b.peer b.kind) ids) ≡ total (hit_any r) (map (call_of b.peer b.kind) ids) = rows ids in let c : hit r b.kind (call_of b.peer b.kind id) ≡ hit_any r (call_of b.peer b.kind id) = hit-own-kind r (call_of b.peer b.kind id) in omega arith

-- the parts of a group name the reference as often as the group
pub parts-any : (most : ℕ) → 1 ≤ most → (r : ForeignId) (b : Group) → total (times_named r) (parts_of most b) ≡ times_named r b
parts-any most some r b = joined (parts_of most b) ∙ (ap (total (hit_any r)) (parts-joined most b some) ∙ group-any r b)
  where
    joined : (bs : List Group) → total (times_named r) bs ≡ total (hit_any r) (flat_map calls_of bs)
    joined [] = refl
    joined (p ∷ bs) = let a : total (times_named r) bs ≡ total (hit_any r) (flat_map calls_of bs) = joined bs in let c : total (hit_any r) (calls_of p ++ flat_map calls_of bs) ≡ total (hit_any r) (calls_of p) + total (hit_any r) (flat_map calls_of bs) = total-append (hit_any r) (calls_of p) (flat_map calls_of bs) in let d : total (hit_any r) (calls_of p) ≡ times_named r p = group-any r p in omega arith

-- ---- the due calls

times-none : (r : ForeignId) (refs : List ForeignId) → is_among r refs ≡ false → times_in r refs ≡ 0
times-none r [] f = refl
times-none r (y ∷ refs) f = at (is_same r y) f (times-none r refs)
  where
    at : (b : Bool) → b || is_among r refs ≡ false → (is_among r refs ≡ false → times_in r refs ≡ 0) → length (cond b (y ∷ filter (is_same r) refs) (filter (is_same r) refs)) ≡ 0
    at true g rest = absurd (true≢false g)
    at false g rest = rest g

times-append : (r x : ForeignId) (refs : List ForeignId) → times_in r (refs ++ x ∷ []) ≡ times_in r refs + bit (is_same r x)
times-append r x [] = let a : times_in r (x ∷ []) ≡ bit (is_same r x) + times_in r [] = times-cons r x [] in let z : times_in r [] ≡ 0 = refl in omega arith
times-append r x (y ∷ refs) = let a : times_in r (y ∷ (refs ++ x ∷ [])) ≡ bit (is_same r y) + times_in r (refs ++ x ∷ []) = times-cons r y (refs ++ x ∷ []) in let b : times_in r (y ∷ refs) ≡ bit (is_same r y) + times_in r refs = times-cons r y refs in let c : times_in r (refs ++ x ∷ []) ≡ times_in r refs + bit (is_same r x) = times-append r x refs in omega arith

times-with : (r x : ForeignId) (refs : List ForeignId) → times_in r refs ≤ 1 → times_in r (with_reference refs x) ≤ 1
times-with r x refs few = more (is_among x refs) refl
  where
    at : (s : Bool) → is_same r x ≡ s → is_among x refs ≡ false → times_in r (refs ++ x ∷ []) ≤ 1
    at true s f = let a : times_in r (refs ++ x ∷ []) ≡ times_in r refs + bit (is_same r x) = times-append r x refs in let b : bit (is_same r x) ≡ 1 = ap bit s in let c : times_in r refs ≡ 0 = times-none r refs (subst (λ (z : ForeignId). is_among z refs ≡ false) (same-reference x r (same-way r x s)) f) in omega arith
    at false s f = let a : times_in r (refs ++ x ∷ []) ≡ times_in r refs + bit (is_same r x) = times-append r x refs in let b : bit (is_same r x) ≡ 0 = ap bit s in omega arith

    more : (b : Bool) → is_among x refs ≡ b → times_in r (if b then refs else refs ++ x ∷ []) ≤ 1
    more true f = few
    more false f = at (is_same r x) refl f

-- each reference is held once
times-held : (r : ForeignId) (h : List Told) → times_in r (held h) ≤ 1
times-held r [] = omega arith
times-held r (On x e ∷ h) = pick (is_hold e) (times-held r h)
  where
    pick : (b : Bool) → times_in r (held h) ≤ 1 → times_in r (if b then with_reference (held h) x else held h) ≤ 1
    pick true few = times-with r x (held h) few
    pick false few = few
times-held r (At moment ∷ h) = times-held r h
times-held r (Numbered ∷ h) = times-held r h

abbrev dues : (ForeignId → Option Due) → List ForeignId → List DueCall
dues f refs = filter_map (λ (x : ForeignId). due_call x (f x)) refs

dues-few : (r : ForeignId) (f : ForeignId → Option Due) (refs : List ForeignId) → total (hit_any r) (dues f refs) ≤ times_in r refs
dues-few r f [] = omega arith
dues-few r f (x ∷ refs) = pick (f x) (dues-few r f refs)
  where
    pick : (o : Option Due) → total (hit_any r) (dues f refs) ≤ times_in r refs → total (hit_any r) (cons_option (due_call x o) (dues f refs)) ≤ times_in r (x ∷ refs)
    pick None a = let b : times_in r (x ∷ refs) ≡ bit (is_same r x) + times_in r refs = times-cons r x refs in omega arith
    pick (Some k) a = let b : times_in r (x ∷ refs) ≡ bit (is_same r x) + times_in r refs = times-cons r x refs in omega arith

pub dues-once : (r : ForeignId) (h : List Told) → total (hit_any r) (due_of h) ≤ 1
dues-once r h = let a : total (hit_any r) (due_of h) ≤ times_in r (held h) = dues-few r (λ x. due (lease_of (own x h))) (held h) in let b : times_in r (held h) ≤ 1 = times-held r h in omega arith

-- a due call is of a reference that was held, and of its kind
dues-kind : (r : ForeignId) (k : Due) (f : ForeignId → Option Due) (refs : List ForeignId) → 1 ≤ total (hit r k) (dues f refs) → (is_among r refs ≡ true) × (f r ≡ Some k)
dues-kind r k f [] le = absurd (omega (arith, le))
dues-kind r k f (x ∷ refs) le = pick (f x) refl le (λ m. (or-right (is_same r x) _ (dues-kind r k f refs m).0, (dues-kind r k f refs m).1))
  where
    left : (a b : Bool) → a && b ≡ true → a ≡ true
    left true b t = refl
    left false b t = absurd (true≢false (sym t))

    right : (a b : Bool) → a && b ≡ true → b ≡ true
    right true b t = t
    right false b t = absurd (true≢false (sym t))

    this : (j : Due) → f x ≡ Some j → (b : Bool) → is_of r.space k (record { reference = x; kind = j }) && x.id.0 == r.id.0 ≡ b → 1 ≤ bit b + total (hit r k) (dues f refs) → (1 ≤ total (hit r k) (dues f refs) → (is_among r (x ∷ refs) ≡ true) × (f r ≡ Some k)) → (is_among r (x ∷ refs) ≡ true) × (f r ≡ Some k)
    this j e false b m rest = rest (let n : 1 ≤ 0 + total (hit r k) (dues f refs) = m in omega arith)
    this j e true b m rest =
        let at : bytes_eq x.space r.space && is_same_kind j k ≡ true = left (bytes_eq x.space r.space && is_same_kind j k) (x.id.0 == r.id.0) b in
        let same : is_same x r ≡ true = and_from (bytes_eq x.space r.space) (x.id.0 == r.id.0) (left (bytes_eq x.space r.space) (is_same_kind j k) at) (right (bytes_eq x.space r.space && is_same_kind j k) (x.id.0 == r.id.0) b) in
        (or-left (is_same r x) _ (same-way x r same), ap f (same-reference r x (same-way x r same)) ∙ (e ∙ ap {A = Due} {B = Option Due} (λ z. Some z) (same-kind j k (right (bytes_eq x.space r.space) (is_same_kind j k) at))))

    pick : (o : Option Due) → f x ≡ o → 1 ≤ total (hit r k) (cons_option (due_call x o) (dues f refs)) → (1 ≤ total (hit r k) (dues f refs) → (is_among r (x ∷ refs) ≡ true) × (f r ≡ Some k)) → (is_among r (x ∷ refs) ≡ true) × (f r ≡ Some k)
    pick None e m rest = rest m
    pick (Some j) e m rest = this j e (is_of r.space k (record { reference = x; kind = j }) && x.id.0 == r.id.0) refl m rest

pub dues-of : (r : ForeignId) (k : Due) (h : List Told) → 1 ≤ total (hit r k) (due_of h) → (is_among r (held h) ≡ true) × (due (lease_of (own r h)) ≡ Some k)
dues-of r k h le = dues-kind r k (λ x. due (lease_of (own x h))) (held h) le
