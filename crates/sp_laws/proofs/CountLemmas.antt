-- Holders of a reference, counted in lists and in the events of a client.
use mathlib.Core.Path.{sym, ap, subst, ◌∙◌}
use Rattle.std.specs.Prelude.{◌≡◌, refl, ℕ, ◌+◌, ◌-◌, ◌≤◌, ◌<◌, ◌&&◌, ◌||◌, nat_lt, length, Bool, true, false, cond, List, [], ◌∷◌, ◌++◌, Option, None, Some, filter, if◌then◌else◌}
use Rattle.std.specs.Str.{bytes_eq}
use Rattle.std.proofs.Common.{arith}
use Rattle.std.proofs.lemmas.Bool.{true≢false, eq-eqb, lt-ltb}
use Rattle.std.proofs.lemmas.Slice.Eq.{bytes_eq-Decides}
use Rattle.dgc_client.specs.declared.groups.Group.{Group}
use Rattle.dgc_client.specs.declared.lease.ClientLease.{ClientLease}
use Rattle.dgc_client.specs.declared.lease.Due.{Due}
use Rattle.dgc_client.specs.declared.lease.Due.TheVariants as due
use Rattle.dgc_client.specs.declared.lease.Made.{Made}
use Rattle.dgc_client.specs.History.{Event, after, lease_of}
use Rattle.dgc_client.specs.History.Event.{Held, Dropped, Moment, DirtyMade, CleanMade, DirtySent, DirtyAnswered, DirtyFailed, CleanAnswered, CleanFailed}
use Rattle.dgc_client.specs.Lease as lease
use Rattle.dgc_client.specs.Table as client
use Rattle.dgc_client.specs.Table.{Told, On, At, Numbered, is_same, is_hold, is_among, own, held}
use Rattle.space_ids.specs.declared.ids.ForeignId.{ForeignId}
use Rattle.uuid.specs.declared.Uuid.{Uuid}
use Rattle.space_ids.specs.declared.ids.ObjId.{ObjId}
use Rattle.space_ids.specs.declared.ids.Ref.{Ref}
use Rattle.sp_rules.specs.Holders.{times_in}
use Rattle.sp_rules.specs.References.{foreign_id, foreign_ids}
use Rattle.sp_rules.proofs.OwnLemmas.{and-left, and-right}
use Rattle.sp_rules.proofs.SweepLemmas.{one-id}
use Rattle.sp_laws.specs.Counted.{times_held}

-- ---- references that are one

one-foreign : (a b : ForeignId) → is_same a b ≡ true → a ≡ b
one-foreign a b e =
    let space : a.space ≡ b.space = (bytes_eq-Decides a.space b.space).0 (and-left (bytes_eq a.space b.space) _ e) in
    let id : a.id ≡ b.id = one-id a.id b.id (and-right (bytes_eq a.space b.space) _ e) in
    ap {A = Uuid} {B = ForeignId} (λ x. record { space = x; id = a.id }) space ∙ ap {A = ObjId} {B = ForeignId} (λ x. record { space = b.space; id = x }) id

same-self : (a : ForeignId) → is_same a a ≡ true
same-self a = pick (bytes_eq a.space a.space) ((bytes_eq-Decides a.space a.space).1 refl) (eq-eqb a.id.0 a.id.0 refl)
  where
    pick : (b : Bool) → b ≡ true → {c : Bool} → c ≡ true → b && c ≡ true
    pick true t f = f
    pick false t f = absurd (true≢false (sym t))

pub same-way : (a b : ForeignId) → is_same a b ≡ is_same b a
same-way a b = pick (is_same a b) refl (is_same b a) refl
  where
    pick : (x : Bool) → is_same a b ≡ x → (y : Bool) → is_same b a ≡ y → is_same a b ≡ is_same b a
    pick true e true f = e ∙ sym f
    pick true e false f = absurd (true≢false (sym (subst (λ z. is_same z a ≡ true) (one-foreign a b e) (same-self a)) ∙ f))
    pick false e true f = absurd (true≢false (sym (subst (λ z. is_same z b ≡ true) (one-foreign b a f) (same-self b)) ∙ e))
    pick false e false f = e ∙ sym f

-- ---- how often

abbrev pub bit : Bool → ℕ
bit true = 1
bit false = 0

pub times-cons : (r x : ForeignId) (ids : List ForeignId) → times_in r (x ∷ ids) ≡ bit (is_same r x) + times_in r ids
times-cons r x ids = pick (is_same r x)
  where
    pick : (b : Bool) → length (cond b (x ∷ filter (is_same r) ids) (filter (is_same r) ids)) ≡ bit b + length (filter (is_same r) ids)
    pick true = omega arith
    pick false = omega arith

times-append : (r : ForeignId) (xs ys : List ForeignId) → times_in r (xs ++ ys) ≡ times_in r xs + times_in r ys
times-append r [] ys = omega arith
times-append r (x ∷ xs) ys =
    let a : times_in r (x ∷ (xs ++ ys)) ≡ bit (is_same r x) + times_in r (xs ++ ys) = times-cons r x (xs ++ ys) in
    let b : times_in r (x ∷ xs) ≡ bit (is_same r x) + times_in r xs = times-cons r x xs in
    let c : times_in r (xs ++ ys) ≡ times_in r xs + times_in r ys = times-append r xs ys in omega arith

abbrev pub refs_times : Uuid → ForeignId → List Ref → ℕ
refs_times own_space r refs = times_in r (foreign_ids own_space refs)

pub refs-append : (u : Uuid) (r : ForeignId) (xs ys : List Ref) → refs_times u r (xs ++ ys) ≡ refs_times u r xs + refs_times u r ys
refs-append u r [] ys = omega arith
refs-append u r (x ∷ xs) ys =
    let a : times_in r (foreign_id u x ++ foreign_ids u (xs ++ ys)) ≡ times_in r (foreign_id u x) + refs_times u r (xs ++ ys) = times-append r (foreign_id u x) (foreign_ids u (xs ++ ys)) in
    let b : times_in r (foreign_id u x ++ foreign_ids u xs) ≡ times_in r (foreign_id u x) + refs_times u r xs = times-append r (foreign_id u x) (foreign_ids u xs) in
    let c : refs_times u r (xs ++ ys) ≡ refs_times u r xs + refs_times u r ys = refs-append u r xs ys in omega arith

-- ---- the events of a client

abbrev pub counted : ForeignId → List Told → ℕ
counted r h = (lease_of (own r h)).holders

abbrev pub is_drop : Event → Bool
is_drop Held = false
is_drop Dropped = true
is_drop (Moment moment) = false
is_drop (DirtyMade call) = false
is_drop (CleanMade call) = false
is_drop (DirtySent call) = false
is_drop (DirtyAnswered call period) = false
is_drop (DirtyFailed call) = false
is_drop (CleanAnswered call) = false
is_drop (CleanFailed call) = false

same-holders : (n : ℕ) (b : Bool) (l k : ClientLease) → l.holders ≡ n → k.holders ≡ n → (if b then l else k).holders ≡ n
same-holders n true l k e f = e
same-holders n false l k e f = f

answered-holders : (made : Option Made) (period : ℕ) (l : ClientLease) → (lease.answered made period l).holders ≡ l.holders
answered-holders None period l = refl
answered-holders (Some made) period l = refl

-- events that are no holder's leave the holders
quiet-after : (e : Event) → is_hold e ≡ false → is_drop e ≡ false → (l : ClientLease) → (after e l).holders ≡ l.holders
quiet-after Held h d l = absurd (true≢false h)
quiet-after Dropped h d l = absurd (true≢false d)
quiet-after (Moment moment) h d l = same-holders l.holders (nat_lt moment l.moment) l (lease.at_moment moment l) refl refl
quiet-after (DirtyMade call) h d l = refl
quiet-after (CleanMade call) h d l = refl
quiet-after (DirtySent call) h d l = refl
quiet-after (DirtyAnswered call period) h d l = same-holders l.holders (lease.is_made l.dirty call) (lease.answered l.dirty period l) l (answered-holders l.dirty period l) refl
quiet-after (DirtyFailed call) h d l = same-holders l.holders (lease.is_made l.dirty call) _ l refl refl
quiet-after (CleanAnswered call) h d l = same-holders l.holders (lease.is_clean l.clean call) _ l refl refl
quiet-after (CleanFailed call) h d l = same-holders l.holders (lease.is_clean l.clean call) _ l refl refl

-- two histories with the same number of holders, and of holders that came
pub record Alike (r : ForeignId) (h k : List Told) : Type 0 where
  pub holders : counted r k ≡ counted r h
  pub times : times_held r k ≡ times_held r h

pub alike-self : (r : ForeignId) (h : List Told) → Alike r h h
alike-self r h = record { holders = refl; times = refl }

pub alike-then : {r : ForeignId} {h k l : List Told} → Alike r h k → Alike r k l → Alike r h l
alike-then a b = record { holders = b.holders ∙ a.holders; times = b.times ∙ a.times }

pub alike-on : (r x : ForeignId) (e : Event) → is_hold e ≡ false → is_drop e ≡ false → (h : List Told) → Alike r h (On x e ∷ h)
alike-on r x e n d h = record { holders = pick (is_same x r && (is_hold e || is_among x (held h))); times = at (is_same x r) (is_hold e) n }
  where
    pick : (b : Bool) → (lease_of (if b then e ∷ own r h else own r h)).holders ≡ counted r h
    pick true = quiet-after e n d (lease_of (own r h))
    pick false = refl

    at : (b c : Bool) → c ≡ false → (if b && c then times_held r h + 1 else times_held r h) ≡ times_held r h
    at true true f = absurd (true≢false f)
    at true false f = refl
    at false c f = refl

pub alike-at : (r : ForeignId) (moment : ℕ) (h : List Told) → Alike r h (At moment ∷ h)
alike-at r moment h = record { holders = quiet-after (Moment moment) refl refl (lease_of (own r h)); times = refl }

pub alike-numbered : (r : ForeignId) (h : List Told) → Alike r h (Numbered ∷ h)
alike-numbered r h = record { holders = refl; times = refl }

pub alike-each : (r : ForeignId) (e : Event) → is_hold e ≡ false → is_drop e ≡ false → (xs : List ForeignId) (h : List Told) → Alike r h (client.on_each xs e h)
alike-each r e n d [] h = alike-self r h
alike-each r e n d (x ∷ xs) h = alike-then (alike-on r x e n d h) (alike-each r e n d xs (On x e ∷ h))

pub alike-sent : (r : ForeignId) (part : Group) (call : ℕ) (h : List Told) → Alike r h (client.sent part call h)
alike-sent r part call h = alike-then (by part.kind) (alike-numbered r (client.sent_as part.kind part call h))
  where
    by : (kind : Due) → Alike r h (client.sent_as kind part call h)
    by due.Dirty = alike-each r (DirtySent call) refl refl (client.references_at part.peer part.ids) h
    by (due.Clean strong) = alike-self r h

pub alike-made : (r : ForeignId) (group : Group) (call : ℕ) (h : List Told) → Alike r h (client.made group call h)
alike-made r group call h = by group.kind
  where
    by : (kind : Due) → Alike r h (client.told group (client.making kind call) h)
    by due.Dirty = alike-each r (DirtyMade call) refl refl (client.references_at group.peer group.ids) h
    by (due.Clean strong) = alike-each r (CleanMade call) refl refl (client.references_at group.peer group.ids) h

-- ---- holders that are known

or-none : (a b : Bool) → a || b ≡ false → (a ≡ false) × (b ≡ false)
or-none true b e = absurd (true≢false e)
or-none false b e = (refl, e)

any-more : (r x : ForeignId) (xs : List ForeignId) → is_among r (xs ++ x ∷ []) ≡ false → (is_among r xs ≡ false) × (is_same r x ≡ false)
any-more r x [] e = (refl, (or-none (is_same r x) false e).0)
any-more r x (y ∷ xs) e = two (is_same r y) e (any-more r x xs)
  where
    two : (b : Bool) → b || is_among r (xs ++ x ∷ []) ≡ false → (is_among r (xs ++ x ∷ []) ≡ false → (is_among r xs ≡ false) × (is_same r x ≡ false)) → (b || is_among r xs ≡ false) × (is_same r x ≡ false)
    two true f rest = absurd (true≢false f)
    two false f rest = rest f

-- a reference that was not among those held is not held now
among-with : (r x : ForeignId) (xs : List ForeignId) → is_among r (client.with_reference xs x) ≡ false → (is_among r xs ≡ false) × (is_same r x ≡ false)
among-with r x xs = pick (is_among x xs) refl
  where
    pick : (b : Bool) → is_among x xs ≡ b → is_among r (if b then xs else xs ++ x ∷ []) ≡ false → (is_among r xs ≡ false) × (is_same r x ≡ false)
    pick true a e = (e, not-it (is_same r x) refl)
      where
        not-it : (b : Bool) → is_same r x ≡ b → b ≡ false
        not-it true t = absurd (true≢false (sym (subst (λ y. is_among y xs ≡ true) (sym (one-foreign r x t)) a) ∙ e))
        not-it false t = refl
    pick false a e = any-more r x xs e

-- of a reference that was never held there are no holders
none-known : (r : ForeignId) (h : List Told) → is_among r (held h) ≡ false → counted r h ≡ 0
none-known r [] e = refl
none-known r (At moment ∷ h) e = (alike-at r moment h).holders ∙ none-known r h e
none-known r (Numbered ∷ h) e = none-known r h e
none-known r (On x event ∷ h) e = pick (is_hold event) refl e (none-known r h)
  where
    pick : (b : Bool) → is_hold event ≡ b → is_among r (if b then client.with_reference (held h) x else held h) ≡ false → (is_among r (held h) ≡ false → counted r h ≡ 0)
        → (lease_of (if is_same x r && (is_hold event || is_among x (held h)) then event ∷ own r h else own r h)).holders ≡ 0
    pick true is f rest =
        let a : (is_among r (held h) ≡ false) × (is_same r x ≡ false) = among-with r x (held h) f in
        subst (λ b. (lease_of (if b && (is_hold event || is_among x (held h)) then event ∷ own r h else own r h)).holders ≡ 0) (sym (same-way x r ∙ a.1)) (rest a.0)
    pick false is f rest = at (is_same x r) refl
      where
        two : (b c : Bool) → b ≡ false → c ≡ false → b || c ≡ false
        two true c u v = absurd (true≢false u)
        two false c u v = v

        at : (b : Bool) → is_same x r ≡ b → (lease_of (if b && (is_hold event || is_among x (held h)) then event ∷ own r h else own r h)).holders ≡ 0
        at true t = subst (λ c. (lease_of (if c then event ∷ own r h else own r h)).holders ≡ 0) (sym (two (is_hold event) (is_among x (held h)) is (subst (λ y. is_among y (held h) ≡ false) (sym (one-foreign x r t)) f))) (rest f)
        at false t = rest f

known : (r x : ForeignId) (h : List Told) → is_same x r ≡ true → 1 ≤ counted r h → is_among x (held h) ≡ true
known r x h e le = pick (is_among x (held h)) refl
  where
    pick : (b : Bool) → is_among x (held h) ≡ b → b ≡ true
    pick true t = refl
    pick false t = let z : counted r h ≡ 0 = none-known r h (subst (λ y. is_among y (held h) ≡ false) (one-foreign x r e) t) in absurd (omega arith)

-- ---- a holder comes, or goes

pub times-hold : (r x : ForeignId) (h : List Told) → times_held r (On x Held ∷ h) ≡ times_held r h + bit (is_same x r)
times-hold r x h = pick (is_same x r)
  where
    pick : (b : Bool) → (if b && true then times_held r h + 1 else times_held r h) ≡ times_held r h + bit b
    pick true = refl
    pick false = omega arith

pub times-drop : (r x : ForeignId) (h : List Told) → times_held r (On x Dropped ∷ h) ≡ times_held r h
times-drop r x h = pick (is_same x r)
  where
    pick : (b : Bool) → (if b && false then times_held r h + 1 else times_held r h) ≡ times_held r h
    pick true = refl
    pick false = refl

more-le : (n m : ℕ) → n ≤ m → lease.one_more n ≤ m + 1
more-le n m le = pick (nat_lt n 18446744073709551615)
  where
    pick : (b : Bool) → (if b then n + 1 else n) ≤ m + 1
    pick true = omega arith
    pick false = omega arith

less-le : (n m : ℕ) → n ≤ m → lease.one_less n ≤ m
less-le n m le = pick (nat_lt n 18446744073709551615)
  where
    pick : (b : Bool) → (if b then n - 1 else n) ≤ m
    pick true = omega arith
    pick false = omega arith

quiet-le : {r : ForeignId} {h k : List Told} → Alike r h k → counted r h ≤ times_held r h → counted r k ≤ times_held r k
quiet-le {r} {h} {k} a le =
    let e : counted r k ≡ counted r h = a.holders in let f : times_held r k ≡ times_held r h = a.times in omega arith

-- there are no more holders than came
counted-le : (r : ForeignId) (h : List Told) → counted r h ≤ times_held r h
counted-le r [] = omega arith
counted-le r (At moment ∷ h) = quiet-le (alike-at r moment h) (counted-le r h)
counted-le r (Numbered ∷ h) = counted-le r h
counted-le r (On x Held ∷ h) = pick (is_same x r) (counted-le r h)
  where
    pick : (b : Bool) → counted r h ≤ times_held r h → (lease_of (if b && true then Held ∷ own r h else own r h)).holders ≤ (if b && true then times_held r h + 1 else times_held r h)
    pick true le = more-le (counted r h) (times_held r h) le
    pick false le = le
counted-le r (On x Dropped ∷ h) = pick (is_same x r) (is_among x (held h)) (counted-le r h)
  where
    pick : (b c : Bool) → counted r h ≤ times_held r h → (lease_of (if b && c then Dropped ∷ own r h else own r h)).holders ≤ (if b && false then times_held r h + 1 else times_held r h)
    pick true true le = less-le (counted r h) (times_held r h) le
    pick true false le = le
    pick false c le = le
counted-le r (On x (Moment moment) ∷ h) = quiet-le (alike-on r x (Moment moment) refl refl h) (counted-le r h)
counted-le r (On x (DirtyMade call) ∷ h) = quiet-le (alike-on r x (DirtyMade call) refl refl h) (counted-le r h)
counted-le r (On x (CleanMade call) ∷ h) = quiet-le (alike-on r x (CleanMade call) refl refl h) (counted-le r h)
counted-le r (On x (DirtySent call) ∷ h) = quiet-le (alike-on r x (DirtySent call) refl refl h) (counted-le r h)
counted-le r (On x (DirtyAnswered call period) ∷ h) = quiet-le (alike-on r x (DirtyAnswered call period) refl refl h) (counted-le r h)
counted-le r (On x (DirtyFailed call) ∷ h) = quiet-le (alike-on r x (DirtyFailed call) refl refl h) (counted-le r h)
counted-le r (On x (CleanAnswered call) ∷ h) = quiet-le (alike-on r x (CleanAnswered call) refl refl h) (counted-le r h)
counted-le r (On x (CleanFailed call) ∷ h) = quiet-le (alike-on r x (CleanFailed call) refl refl h) (counted-le r h)

below : (r : ForeignId) (h : List Told) → times_held r h < 18446744073709551615 → nat_lt (counted r h) 18446744073709551615 ≡ true
below r h lt = let le : counted r h ≤ times_held r h = counted-le r h in lt-ltb (counted r h) 18446744073709551615 (omega arith)

pub holders-hold : (r x : ForeignId) (h : List Told) → times_held r h < 18446744073709551615 → counted r (On x Held ∷ h) ≡ counted r h + bit (is_same x r)
holders-hold r x h lt = pick (is_same x r)
  where
    more : (b : Bool) → b ≡ true → (if b then counted r h + 1 else counted r h) ≡ counted r h + 1
    more true e = refl
    more false e = absurd (true≢false (sym e))

    pick : (b : Bool) → (lease_of (if b && true then Held ∷ own r h else own r h)).holders ≡ counted r h + bit b
    pick true = more (nat_lt (counted r h) 18446744073709551615) (below r h lt)
    pick false = omega arith

pub holders-drop : (r x : ForeignId) (h : List Told) → times_held r h < 18446744073709551615 → (is_same x r ≡ true → 1 ≤ counted r h) → counted r (On x Dropped ∷ h) + bit (is_same x r) ≡ counted r h
holders-drop r x h lt some = pick (is_same x r) refl
  where
    less : (b : Bool) → b ≡ true → 1 ≤ counted r h → (if b then counted r h - 1 else counted r h) + 1 ≡ counted r h
    less true e le = omega arith
    less false e le = absurd (true≢false (sym e))

    among : (c : Bool) → c ≡ true → 1 ≤ counted r h → (lease_of (if c then Dropped ∷ own r h else own r h)).holders + 1 ≡ counted r h
    among true t le = less (nat_lt (counted r h) 18446744073709551615) (below r h lt) le
    among false t le = absurd (true≢false (sym t))

    pick : (b : Bool) → is_same x r ≡ b → (lease_of (if b && is_among x (held h) then Dropped ∷ own r h else own r h)).holders + bit b ≡ counted r h
    pick true e = among (is_among x (held h)) (known r x h e (some e)) (some e)
    pick false e = omega arith
