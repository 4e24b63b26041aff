-- What was granted, through the events of a reference.
use mathlib.Core.Path.{sym, ap, ◌∙◌}
use Rattle.std.proofs.lemmas.Bool.{true≢false}
use Rattle.std.specs.Prelude.{◌≡◌, refl, ℕ, ◌&&◌, ◌||◌, nat_lt, Bool, true, false, List, [], ◌∷◌, Option, None, Some, is_some, if◌then◌else◌}
use Rattle.dgc_client.specs.declared.lease.ClientLease.{ClientLease}
use Rattle.dgc_client.specs.declared.lease.Made.{Made}
use Rattle.dgc_client.specs.declared.lease.Owed.TheVariants as owed
use Rattle.dgc_index.specs.declared.plans.Term.{Term}
use Rattle.dgc_client.specs.History.{Event, after, lease_of}
use Rattle.dgc_client.specs.History.Event.{Held, Dropped, Moment, DirtyMade, CleanMade, DirtySent, DirtyAnswered, DirtyFailed, CleanAnswered, CleanFailed}
use Rattle.dgc_client.specs.Lease as lease
use Rattle.dgc_client.specs.Table as client
use Rattle.dgc_client.specs.Table.{Told, On, At, Numbered, own, held, is_same, is_hold, is_among}
use Rattle.space_ids.specs.declared.ids.ForeignId.{ForeignId}
use Rattle.sp_rules.proofs.AllLemmas.{or-right}
use Rattle.sp_held_laws.specs.Granted.{was_granted}
use Rattle.sp_held_laws.proofs.GrownRules.{is_plain}

-- ---- of one reference

pub none-some : {A : Type 0} {o : Option A} → o ≡ None → is_some o ≡ true → ⊥
none-some e t = true≢false (sym (sym (ap is_some e) ∙ t))

if-some : {A : Type 0} (b : Bool) (x y : Option A) → (is_some x ≡ true → is_some y ≡ true) → is_some (if b then x else y) ≡ true → is_some y ≡ true
if-some true x y f e = f e
if-some false x y f e = e

standing-some : (o : Option Term) (moment : ℕ) → is_some (lease.standing o moment) ≡ true → is_some o ≡ true
standing-some None moment e = e
standing-some (Some term) moment e = refl

-- an event that changes or keeps a lease, by a test
by-test : (P : ClientLease → Type 0) (b : Bool) (l k : ClientLease) → (b ≡ true → P l) → (b ≡ false → P k) → P (if b then l else k)
by-test P true l k f g = f refl
by-test P false l k f g = g refl

-- what has a lease is granted
pub lease-granted : (h : List Event) → is_some (lease_of h).lease ≡ true → was_granted h ≡ true
lease-granted [] e = absurd (true≢false (sym e))
lease-granted (Held ∷ h) e = lease-granted h e
lease-granted (Dropped ∷ h) e = lease-granted h e
lease-granted (Moment moment ∷ h) e = by-test (λ l. is_some l.lease ≡ true → was_granted h ≡ true) (nat_lt moment (lease_of h).moment) (lease_of h) (lease.at_moment moment (lease_of h))
    (λ t a. lease-granted h a) (λ t a. lease-granted h (standing-some (lease_of h).lease moment a)) e
lease-granted (DirtyMade call ∷ h) e = lease-granted h e
lease-granted (CleanMade call ∷ h) e = absurd (true≢false (sym e))
lease-granted (DirtySent call ∷ h) e = lease-granted h e
lease-granted (DirtyAnswered call period ∷ h) e = pick (lease.is_made (lease_of h).dirty call) e (lease-granted h)
  where
    pick : (b : Bool) → is_some (if b then lease.answered (lease_of h).dirty period (lease_of h) else lease_of h).lease ≡ true → (is_some (lease_of h).lease ≡ true → was_granted h ≡ true) → b || was_granted h ≡ true
    pick true a rest = refl
    pick false a rest = rest a
lease-granted (DirtyFailed call ∷ h) e = by-test (λ l. is_some l.lease ≡ true → was_granted h ≡ true) (lease.is_made (lease_of h).dirty call) _ (lease_of h) (λ t a. lease-granted h a) (λ t a. lease-granted h a) e
lease-granted (CleanAnswered call ∷ h) e = by-test (λ l. is_some l.lease ≡ true → was_granted h ≡ true) (lease.is_clean (lease_of h).clean call) _ (lease_of h) (λ t a. lease-granted h a) (λ t a. lease-granted h a) e
lease-granted (CleanFailed call ∷ h) e = by-test (λ l. is_some l.lease ≡ true → was_granted h ≡ true) (lease.is_clean (lease_of h).clean call) _ (lease_of h) (λ t a. lease-granted h a) (λ t a. lease-granted h a) e

-- While a dirty call is on its way, no clean call is, an ordinary one is owed, and nothing waits for a moment.
pub record Sane (l : ClientLease) : Type 0 where
  pub apart : is_some l.clean ≡ true → l.dirty ≡ None
  pub owed : is_some l.dirty ≡ true → l.owed ≡ owed.Clean
  pub ready : is_some l.dirty ≡ true → l.waits ≡ false

pub sent-some : (made : Option Made) (call moment : ℕ) → is_some (lease.sent_at made call moment) ≡ true → is_some made ≡ true
sent-some None call moment e = e
sent-some (Some made) call moment e = refl

pub sent-none : (made : Option Made) (call moment : ℕ) → made ≡ None → lease.sent_at made call moment ≡ None
sent-none made call moment e = ap (λ x. lease.sent_at x call moment) e

clean-some : (clean : Option ℕ) (call : ℕ) → lease.is_clean clean call ≡ true → is_some clean ≡ true
clean-some None call e = absurd (true≢false (sym e))
clean-some (Some clean) call e = refl

answered-sane : (l : ClientLease) (period : ℕ) (made : Option Made) → Sane l → Sane (lease.answered made period l)
answered-sane l period None h = h
answered-sane l period (Some made) h = record { apart = λ t. refl; owed = λ t. absurd (true≢false (sym t)); ready = λ t. absurd (true≢false (sym t)) }

pub after-sane : (e : Event) (l : ClientLease) → Sane l → Sane (after e l)
after-sane Held l h = record { apart = h.apart; owed = h.owed; ready = h.ready }
after-sane Dropped l h = record { apart = h.apart; owed = h.owed; ready = h.ready }
after-sane (Moment moment) l h = by-test Sane (nat_lt moment l.moment) l (lease.at_moment moment l) (λ t. h) (λ t. record { apart = h.apart; owed = h.owed; ready = λ x. refl })
after-sane (DirtyMade call) l h = record { apart = λ t. absurd (true≢false (sym t)); owed = λ t. refl; ready = λ t. refl }
after-sane (CleanMade call) l h = record { apart = λ t. refl; owed = λ t. absurd (true≢false (sym t)); ready = λ t. absurd (true≢false (sym t)) }
after-sane (DirtySent call) l h = record {
  apart = λ t. sent-none l.dirty call l.moment (h.apart t);
  owed = λ t. h.owed (sent-some l.dirty call l.moment t);
  ready = λ t. h.ready (sent-some l.dirty call l.moment t);
}
after-sane (DirtyAnswered call period) l h = by-test Sane (lease.is_made l.dirty call) _ l (λ t. answered-sane l period l.dirty h) (λ t. h)
after-sane (DirtyFailed call) l h = by-test Sane (lease.is_made l.dirty call) _ l (λ t. record { apart = λ x. refl; owed = λ x. absurd (true≢false (sym x)); ready = λ x. absurd (true≢false (sym x)) }) (λ t. h)
after-sane (CleanAnswered call) l h = by-test Sane (lease.is_clean l.clean call) _ l (λ t. record { apart = λ x. absurd (true≢false (sym x)); owed = h.owed; ready = h.ready }) (λ t. h)
after-sane (CleanFailed call) l h = by-test Sane (lease.is_clean l.clean call) _ l (λ t. record {
  apart = λ x. absurd (true≢false (sym x));
  owed = λ x. absurd (none-some (h.apart (clean-some l.clean call t)) x);
  ready = λ x. absurd (none-some (h.apart (clean-some l.clean call t)) x);
}) (λ t. h)

pub history-sane : (h : List Event) → Sane (lease_of h)
history-sane [] = record { apart = λ t. refl; owed = λ t. absurd (true≢false (sym t)); ready = λ t. absurd (true≢false (sym t)) }
history-sane (e ∷ h) = after-sane e (lease_of h) (history-sane h)

-- ---- of all references

plain-same : (e : Event) → is_plain e ≡ true → (h : List Event) → was_granted (e ∷ h) ≡ was_granted h
plain-same Held p h = refl
plain-same Dropped p h = refl
plain-same (Moment moment) p h = refl
plain-same (DirtyMade call) p h = absurd (true≢false (sym p))
plain-same (CleanMade call) p h = absurd (true≢false (sym p))
plain-same (DirtySent call) p h = refl
plain-same (DirtyAnswered call period) p h = absurd (true≢false (sym p))
plain-same (DirtyFailed call) p h = refl
plain-same (CleanAnswered call) p h = refl
plain-same (CleanFailed call) p h = refl

-- an event that is or is not the reference's own
pub own-or-not : (P : List Event → Type 0) (r x : ForeignId) (e : Event) (h : List Told) → P (own r h) → P (e ∷ own r h) → P (own r (On x e ∷ h))
own-or-not P r x e h a b = pick (is_same x r && (is_hold e || is_among x (held h)))
  where
    pick : (c : Bool) → P (if c then e ∷ own r h else own r h)
    pick true = b
    pick false = a

-- what is told but for calls that are made and answered leaves what is granted as it is
pub plain-granted : (r x : ForeignId) (e : Event) (h : List Told) → is_plain e ≡ true → was_granted (own r (On x e ∷ h)) ≡ was_granted (own r h)
plain-granted r x e h p = own-or-not (λ k. was_granted k ≡ was_granted (own r h)) r x e h refl (plain-same e p (own r h))

-- an answer takes nothing back, nor does a dirty call that is made
pub answers-granted : (r : ForeignId) (call period : ℕ) (xs : List ForeignId) (h : List Told) → was_granted (own r h) ≡ true → was_granted (own r (client.on_each xs (DirtyAnswered call period) h)) ≡ true
answers-granted r call period [] h e = e
answers-granted r call period (x ∷ xs) h e = answers-granted r call period xs (On x (DirtyAnswered call period) ∷ h)
    (own-or-not (λ k. was_granted k ≡ true) r x (DirtyAnswered call period) h e (or-right (lease.is_made (lease_of (own r h)).dirty call) (was_granted (own r h)) e))

pub dirties-granted : (r : ForeignId) (call : ℕ) (xs : List ForeignId) (h : List Told) → was_granted (own r h) ≡ true → was_granted (own r (client.on_each xs (DirtyMade call) h)) ≡ true
dirties-granted r call [] h e = e
dirties-granted r call (x ∷ xs) h e = dirties-granted r call xs (On x (DirtyMade call) ∷ h) (own-or-not (λ k. was_granted k ≡ true) r x (DirtyMade call) h e e)

-- events of a kind that leave what is granted as it is
pub each-plain-granted : (r : ForeignId) (e : Event) → is_plain e ≡ true → (xs : List ForeignId) (h : List Told) → was_granted (own r (client.on_each xs e h)) ≡ was_granted (own r h)
each-plain-granted r e p [] h = refl
each-plain-granted r e p (x ∷ xs) h = each-plain-granted r e p xs (On x e ∷ h) ∙ plain-granted r x e h p
