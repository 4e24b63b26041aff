-- What the end of an event leaves of a reference: a dirty call that is on its way has a holder, and what is granted stays so while there is one.
use mathlib.Core.Path.{sym, ap, subst, ◌∙◌}
use Rattle.std.proofs.Common.{arith, inl, inr}
use Rattle.std.proofs.lemmas.Bool.{true≢false, ltb-true, leb-true, leb-false}
use Rattle.std.specs.Prelude.{◌≡◌, ◌⊎◌, refl, ℕ, ◌-◌, ◌≤◌, ◌<◌, ◌&&◌, ◌||◌, not, nat_le, nat_lt, is_some, is_none, Bool, true, false, List, [], ◌∷◌, ◌++◌, Option, None, Some, if◌then◌else◌}
use Rattle.dgc_client.specs.History as lease_events
use Rattle.dgc_client.specs.History.{Event, after, lease_of}
use Rattle.dgc_client.specs.Lease as lease
use Rattle.dgc_client.specs.Table as client
use Rattle.dgc_client.specs.Table.{Told, On, At, Numbered, own, held, is_same, is_hold, is_among, references_at, with_reference}
use Rattle.dgc_client.specs.declared.groups.Group.{Group}
use Rattle.dgc_client.specs.declared.lease.ClientLease.{ClientLease}
use Rattle.dgc_client.specs.declared.lease.Due.{Due}
use Rattle.dgc_client.specs.declared.lease.Due.TheVariants as due
use Rattle.dgc_client.specs.declared.lease.Made.{Made}
use Rattle.dgc_client.specs.declared.lease.Owed.{Owed}
use Rattle.dgc_client.specs.declared.lease.Owed.TheVariants as owed
use Rattle.space_ids.specs.declared.ids.ForeignId.{ForeignId}
use Rattle.sp_rules.specs.Holders.{lease_now}
use Rattle.sp_rules.specs.Requests
use Rattle.sp_rules.specs.State.{State}
use Rattle.sp_rules.proofs.OwnLemmas.{some-same}
use Rattle.sp_order_laws.specs.Ends.{IsOneOf}
use Rattle.sp_held_laws.specs.Granted.{was_granted, is_granted}
use Rattle.sp_held_laws.proofs.FreeLemmas.{one-foreign}
use Rattle.sp_held_laws.proofs.GrantLemmas.{Sane, history-sane, own-or-not, dirties-granted, sent-none, none-some}
use Rattle.sp_held_laws.proofs.SettleLemmas.{names_ref, group-due, due-group, SendsKeep, settle-told, settle-gives}

-- ---- what is due

due-owed-clean : (o : Owed) (l : ClientLease) → lease.due_owed o l ≡ Some due.Dirty → ⊥
due-owed-clean owed.Nothing l e = Rattle.sp_rules.proofs.AllLemmas.some-none due.Dirty (sym e)
due-owed-clean owed.Clean l e = not-dirty (some-same e)
  where
    is-dirty : Due → Bool
    is-dirty due.Dirty = true
    is-dirty (due.Clean strong) = false

    not-dirty : due.Clean false ≡ due.Dirty → ⊥
    not-dirty e = true≢false (sym (ap is-dirty e))
due-owed-clean owed.Strong l e = not-dirty (some-same e)
  where
    is-dirty : Due → Bool
    is-dirty due.Dirty = true
    is-dirty (due.Clean strong) = false

    not-dirty : due.Clean true ≡ due.Dirty → ⊥
    not-dirty e = true≢false (sym (ap is-dirty e))
due-owed-clean owed.Again l e = again l.last e
  where
    is-dirty : Option Due → Bool
    is-dirty None = false
    is-dirty (Some due.Dirty) = true
    is-dirty (Some (due.Clean strong)) = false

    again : (o : Option Made) → lease.due_again o l.moment ≡ Some due.Dirty → ⊥
    again None e = true≢false (sym (ap is-dirty e))
    again (Some last) e = by (nat_lt (l.moment - last.at) 600000) e
      where
        by : (b : Bool) → (if b then Some (due.Clean true) else None) ≡ Some due.Dirty → ⊥
        by true e = true≢false (sym (ap is-dirty e))
        by false e = true≢false (sym (ap is-dirty e))

-- a dirty call is due with a holder
pub dirty-holders : (l : ClientLease) → lease.due l ≡ Some due.Dirty → 1 ≤ l.holders
dirty-holders l e = waits (lease.is_waiting l) e
  where
    holds : (b : Bool) → nat_lt 0 l.holders ≡ b → (if b then lease.due_held l else lease.due_unheld l) ≡ Some due.Dirty → 1 ≤ l.holders
    holds true f e = let a : 0 < l.holders = ltb-true 0 l.holders f in omega arith
    holds false f e = absurd (due-owed-clean l.owed l e)

    waits : (b : Bool) → (if b then None else (if nat_lt 0 l.holders then lease.due_held l else lease.due_unheld l)) ≡ Some due.Dirty → 1 ≤ l.holders
    waits true e = absurd (Rattle.sp_rules.proofs.AllLemmas.some-none due.Dirty (sym e))
    waits false e = holds (nat_lt 0 l.holders) refl e

-- a clean call is due with none
pub clean-holders : (l : ClientLease) (strong : Bool) → lease.due l ≡ Some (due.Clean strong) → l.holders ≡ 0
clean-holders l strong e = waits (lease.is_waiting l) e
  where
    is-clean : Option Due → Bool
    is-clean None = false
    is-clean (Some due.Dirty) = false
    is-clean (Some (due.Clean s)) = true

    held : (b : Bool) → (if b then Some due.Dirty else None) ≡ Some (due.Clean strong) → ⊥
    held true e = true≢false (sym (ap is-clean e))
    held false e = true≢false (sym (ap is-clean e))

    holds : (b : Bool) → nat_lt 0 l.holders ≡ b → (if b then lease.due_held l else lease.due_unheld l) ≡ Some (due.Clean strong) → l.holders ≡ 0
    holds true f e = absurd (held (is_none l.dirty && (is_none l.lease || l.renew)) e)
    holds false f e = let a : l.holders ≤ 0 = Rattle.std.proofs.lemmas.Bool.ltb-false 0 l.holders f in omega arith

    waits : (b : Bool) → (if b then None else (if nat_lt 0 l.holders then lease.due_held l else lease.due_unheld l)) ≡ Some (due.Clean strong) → l.holders ≡ 0
    waits true e = absurd (Rattle.sp_rules.proofs.AllLemmas.some-none (due.Clean strong) (sym e))
    waits false e = holds (nat_lt 0 l.holders) refl e

-- of a dirty call on its way of a reference without holders the clean call is due
pub clean-due : (l : ClientLease) → Sane l → is_some l.dirty ≡ true → l.holders ≡ 0 → lease.due l ≡ Some (due.Clean false)
clean-due l h some none = waits l.waits (h.ready some)
  where
    none-less : nat_lt 0 l.holders ≡ false
    none-less = ap (nat_lt 0) none

    held : (b : Bool) → b ≡ false → (if b then lease.due_held l else lease.due_unheld l) ≡ Some (due.Clean false)
    held true f = absurd (true≢false f)
    held false f = ap (λ o. lease.due_owed o l) (h.owed some)

    waits : (w : Bool) → w ≡ false → (if w && not (nat_lt 0 l.holders && lease.is_again l.owed) then None else (if nat_lt 0 l.holders then lease.due_held l else lease.due_unheld l)) ≡ Some (due.Clean false)
    waits true f = absurd (true≢false f)
    waits false f = held (nat_lt 0 l.holders) none-less

-- ---- one reference in what is told of a row

pub own-skips : (r x : ForeignId) (e : Event) (h : List Told) → is_same r x ≡ false → own r (On x e ∷ h) ≡ own r h
own-skips r x e h apart = pick (is_same x r) refl
  where
    other : is_same x r ≡ true → ⊥
    other t = true≢false (sym (subst (λ (y : ForeignId). is_same y x ≡ true) (one-foreign x r t) (self (one-foreign x r t) t)) ∙ apart)
      where
        self : x ≡ r → is_same x r ≡ true → is_same x x ≡ true
        self same u = subst (λ (y : ForeignId). is_same x y ≡ true) (sym same) u

    pick : (b : Bool) → is_same x r ≡ b → (if b && (is_hold e || is_among x (held h)) then e ∷ own r h else own r h) ≡ own r h
    pick true t = absurd (other t)
    pick false t = refl

pub row-skips : (r : ForeignId) (e : Event) (xs : List ForeignId) (h : List Told) → is_among r xs ≡ false → own r (client.on_each xs e h) ≡ own r h
row-skips r e [] h n = refl
row-skips r e (x ∷ xs) h n = pick (is_same r x) refl n (row-skips r e xs (On x e ∷ h))
  where
    pick : (b : Bool) → is_same r x ≡ b → b || is_among r xs ≡ false → (is_among r xs ≡ false → own r (client.on_each xs e (On x e ∷ h)) ≡ own r (On x e ∷ h)) → own r (client.on_each xs e (On x e ∷ h)) ≡ own r h
    pick true s n rest = absurd (true≢false n)
    pick false s n rest = rest n ∙ own-skips r x e h s

-- a property of the events of a reference that an event keeps
pub row-keeps : (P : List Event → Type 0) (r : ForeignId) (e : Event) → ((k : List Event) → P k → P (e ∷ k)) → (xs : List ForeignId) (h : List Told) → P (own r h) → P (own r (client.on_each xs e h))
row-keeps P r e keeps [] h a = a
row-keeps P r e keeps (x ∷ xs) h a = row-keeps P r e keeps xs (On x e ∷ h) (own-or-not P r x e h a (keeps (own r h) a))

pub held-row : (e : Event) → is_hold e ≡ false → (xs : List ForeignId) (h : List Told) → held (client.on_each xs e h) ≡ held h
held-row e q [] h = refl
held-row e q (x ∷ xs) h = held-row e q xs (On x e ∷ h) ∙ ap (λ b. if b then with_reference (held h) x else held h) q

-- one that an event gives to the reference itself
pub row-gives : (P : List Event → Type 0) (r : ForeignId) (e : Event) → is_hold e ≡ false → ((k : List Event) → P k → P (e ∷ k)) → ((k : List Event) → P (e ∷ k)) → (xs : List ForeignId) (h : List Told) → is_among r xs ≡ true → is_among r (held h) ≡ true → P (own r (client.on_each xs e h))
row-gives P r e q keeps gives [] h n t = absurd (true≢false (sym n))
row-gives P r e q keeps gives (x ∷ xs) h n t = pick (is_same r x) refl n (λ m. row-gives P r e q keeps gives xs (On x e ∷ h) m (subst (λ hs. is_among r hs ≡ true) (sym (ap (λ b. if b then with_reference (held h) x else held h) q)) t))
  where
    either : (a b : Bool) → b ≡ true → a || b ≡ true
    either true b e = refl
    either false b e = e

    both : (a b : Bool) → a ≡ true → b ≡ true → a && b ≡ true
    both true b e f = f
    both false b e f = absurd (true≢false (sym e))

    first : r ≡ x → is_same r x ≡ true → P (own r (On x e ∷ h))
    first same s = subst (λ c. P (if c then e ∷ own r h else own r h)) (sym (both (is_same x r) (is_hold e || is_among x (held h)) (subst (λ (y : ForeignId). is_same y r ≡ true) same (subst (λ (y : ForeignId). is_same r y ≡ true) (sym same) s))
        (either (is_hold e) (is_among x (held h)) (subst (λ (y : ForeignId). is_among y (held h) ≡ true) same t)))) (gives (own r h))

    pick : (b : Bool) → is_same r x ≡ b → b || is_among r xs ≡ true → (is_among r xs ≡ true → P (own r (client.on_each xs e (On x e ∷ h)))) → P (own r (client.on_each xs e (On x e ∷ h)))
    pick true s n rest = row-keeps P r e keeps xs (On x e ∷ h) (first (one-foreign r x s) s)
    pick false s n rest = rest n

-- what goes out keeps what a DirtySent keeps
pub sends-keep : (P : List Event → Type 0) (r : ForeignId) → ((call : ℕ) (k : List Event) → P k → P (lease_events.DirtySent call ∷ k)) → SendsKeep (λ h. P (own r h))
sends-keep P r keeps part call h a = by part.kind
  where
    by : (kind : Due) → P (own r (client.sent_as kind part call h))
    by due.Dirty = row-keeps P r (lease_events.DirtySent call) (keeps call) (references_at part.peer part.ids) h a
    by (due.Clean strong) = a

-- ---- holders

pub settle-holders : (s : State) (r : ForeignId) → (lease_now (Requests.settle s) r).holders ≡ (lease_now s r).holders
settle-holders s r = settle-told (λ h. (lease_of (own r h)).holders ≡ (lease_now s r).holders) (λ b. Unit {0}) (sends-keep (λ k. (lease_of k).holders ≡ (lease_now s r).holders) r (λ call k a. a))
    (λ b call h p a. by b.kind b call h a) s (λ b a. tt) refl
  where
    by : (kind : Due) (b : Group) (call : ℕ) (h : List Told) → (lease_of (own r h)).holders ≡ (lease_now s r).holders → (lease_of (own r (client.told b (client.making kind call) h))).holders ≡ (lease_now s r).holders
    by due.Dirty b call h a = row-keeps (λ k. (lease_of k).holders ≡ (lease_now s r).holders) r (lease_events.DirtyMade call) (λ k x. x) (references_at b.peer b.ids) h a
    by (due.Clean strong) b call h a = row-keeps (λ k. (lease_of k).holders ≡ (lease_now s r).holders) r (lease_events.CleanMade call) (λ k x. x) (references_at b.peer b.ids) h a

-- ---- what is granted

-- a clean call of the reference is made without holders
abbrev CleansUnheld : State → ForeignId → Group → Type 0
CleansUnheld s r b = names_ref r b ≡ true → (strong : Bool) → b.kind ≡ due.Clean strong → (lease_now s r).holders ≡ 0

-- What is granted stays so at the end of an event, or it has no holder.
pub settle-granted : (s : State) (r : ForeignId) → is_granted s r ≡ true → (is_granted (Requests.settle s) r ≡ true) ⊎ ((lease_now (Requests.settle s) r).holders ≡ 0)
settle-granted s r granted = by (settle-told (λ h. (was_granted (own r h) ≡ true) ⊎ ((lease_now s r).holders ≡ 0)) (CleansUnheld s r) (sends-keep (λ k. (was_granted k ≡ true) ⊎ ((lease_now s r).holders ≡ 0)) r (λ call k a. a))
    (λ b call h p a. made b call h p a b.kind refl) s (λ b a names strong e. clean-holders (lease_now s r) strong (group-due r s.leases b a names ∙ ap {A = Due} {B = Option Due} (λ k. Some k) e)) (inl granted))
  where
    by : (was_granted (own r (Requests.settle s).leases) ≡ true) ⊎ ((lease_now s r).holders ≡ 0) → (is_granted (Requests.settle s) r ≡ true) ⊎ ((lease_now (Requests.settle s) r).holders ≡ 0)
    by (inl a) = inl a
    by (inr a) = inr (settle-holders s r ∙ a)

    made : (b : Group) (call : ℕ) (h : List Told) → CleansUnheld s r b → (was_granted (own r h) ≡ true) ⊎ ((lease_now s r).holders ≡ 0) → (kind : Due) → b.kind ≡ kind → (was_granted (own r (client.told b (client.making kind call) h)) ≡ true) ⊎ ((lease_now s r).holders ≡ 0)
    made b call h p (inr a) kind e = inr a
    made b call h p (inl a) due.Dirty e = inl (dirties-granted r call (references_at b.peer b.ids) h a)
    made b call h p (inl a) (due.Clean strong) e = named (names_ref r b) refl
      where
        named : (x : Bool) → names_ref r b ≡ x → (was_granted (own r (client.told b (lease_events.CleanMade call) h)) ≡ true) ⊎ ((lease_now s r).holders ≡ 0)
        named true n = inr (p n strong e)
        named false n = inl (ap was_granted (row-skips r (lease_events.CleanMade call) (references_at b.peer b.ids) h n) ∙ a)

-- ---- dirty calls on their way

abbrev NoDirty : List Event → Type 0
NoDirty k = (lease_of k).dirty ≡ None

moment-none : (moment : ℕ) (l : ClientLease) → l.dirty ≡ None → (lease.after_moment moment l).dirty ≡ None
moment-none moment l e = pick (nat_lt moment l.moment)
  where
    pick : (b : Bool) → (if b then l else lease.at_moment moment l).dirty ≡ None
    pick true = e
    pick false = e

or-none : (a b : Bool) → a || b ≡ false → (a ≡ false) × (b ≡ false)
or-none true b e = absurd (true≢false e)
or-none false b e = (refl, e)

any-more : (r x : ForeignId) (xs : List ForeignId) → is_among r (xs ++ x ∷ []) ≡ false → (is_among r xs ≡ false) × (is_same r x ≡ false)
any-more r x [] e = (refl, (or-none (is_same r x) false e).0)
any-more r x (y ∷ xs) e = two (is_same r y) e (any-more r x xs)
  where
    two : (b : Bool) → b || is_among r (xs ++ x ∷ []) ≡ false → (is_among r (xs ++ x ∷ []) ≡ false → (is_among r xs ≡ false) × (is_same r x ≡ false)) → (b || is_among r xs ≡ false) × (is_same r x ≡ false)
    two true f rest = absurd (true≢false f)
    two false f rest = rest f

pub among-with : (r x : ForeignId) (xs : List ForeignId) → is_among r (with_reference xs x) ≡ false → (is_among r xs ≡ false) × (is_same r x ≡ false)
among-with r x xs = pick (is_among x xs) refl
  where
    pick : (b : Bool) → is_among x xs ≡ b → is_among r (if b then xs else xs ++ x ∷ []) ≡ false → (is_among r xs ≡ false) × (is_same r x ≡ false)
    pick true a e = (e, not-it (is_same r x) refl)
      where
        not-it : (b : Bool) → is_same r x ≡ b → b ≡ false
        not-it true t = absurd (true≢false (sym (subst (λ (y : ForeignId). is_among y xs ≡ true) (sym (one-foreign r x t)) a) ∙ e))
        not-it false t = refl
    pick false a e = any-more r x xs e

-- of a reference that was never held no dirty call is on its way
never-dirty : (r : ForeignId) (h : List Told) → is_among r (held h) ≡ false → NoDirty (own r h)
never-dirty r [] e = refl
never-dirty r (At moment ∷ h) e = moment-none moment (lease_of (own r h)) (never-dirty r h e)
never-dirty r (Numbered ∷ h) e = never-dirty r h e
never-dirty r (On x event ∷ h) e = pick (is_hold event) refl e (never-dirty r h)
  where
    skips : is_same r x ≡ false → NoDirty (own r h) → NoDirty (own r (On x event ∷ h))
    skips apart a = subst NoDirty (sym (own-skips r x event h apart)) a

    unheld : is_hold event ≡ false → is_among r (held h) ≡ false → (b : Bool) → is_same r x ≡ b → NoDirty (own r h) → NoDirty (own r (On x event ∷ h))
    unheld q f false s a = skips s a
    unheld q f true s a = subst (λ c. NoDirty (if c then event ∷ own r h else own r h)) (sym (none (is_same x r) (is_hold event) (is_among x (held h)) q (subst (λ (y : ForeignId). is_among y (held h) ≡ false) (one-foreign r x s) f))) a
      where
        none : (x y z : Bool) → y ≡ false → z ≡ false → x && (y || z) ≡ false
        none true true z u v = absurd (true≢false u)
        none true false z u v = v
        none false y z u v = refl

    pick : (b : Bool) → is_hold event ≡ b → is_among r (if b then with_reference (held h) x else held h) ≡ false → (is_among r (held h) ≡ false → NoDirty (own r h)) → NoDirty (own r (On x event ∷ h))
    pick true q f rest = let a : (is_among r (held h) ≡ false) × (is_same r x ≡ false) = among-with r x (held h) f in skips a.1 (rest a.0)
    pick false q f rest = unheld q f (is_same r x) refl (rest f)

-- no dirty call of it is made
abbrev MakesNoDirtyOf : ForeignId → Group → Type 0
MakesNoDirtyOf r b = names_ref r b ≡ true → b.kind ≡ due.Dirty → ⊥

no-dirty-made : (r : ForeignId) (b : Group) (call : ℕ) (h : List Told) → MakesNoDirtyOf r b → NoDirty (own r h) → (kind : Due) → b.kind ≡ kind → NoDirty (own r (client.told b (client.making kind call) h))
no-dirty-made r b call h p a due.Dirty e = named (names_ref r b) refl
  where
    named : (x : Bool) → names_ref r b ≡ x → NoDirty (own r (client.told b (lease_events.DirtyMade call) h))
    named true n = absurd (p n e)
    named false n = subst NoDirty (sym (row-skips r (lease_events.DirtyMade call) (references_at b.peer b.ids) h n)) a
no-dirty-made r b call h p a (due.Clean strong) e = row-keeps NoDirty r (lease_events.CleanMade call) (λ k x. refl) (references_at b.peer b.ids) h a

no-dirty-sent : (r : ForeignId) → SendsKeep (λ h. NoDirty (own r h))
no-dirty-sent r = sends-keep NoDirty r (λ call k a. sent-none (lease_of k).dirty call (lease_of k).moment a)

pub held-sent : (r : ForeignId) → SendsKeep (λ h. is_among r (held h) ≡ true)
held-sent r part call h a = by part.kind
  where
    by : (kind : Due) → is_among r (held (client.sent_as kind part call h)) ≡ true
    by due.Dirty = subst (λ hs. is_among r hs ≡ true) (sym (held-row (lease_events.DirtySent call) refl (references_at part.peer part.ids) h)) a
    by (due.Clean strong) = a

pub held-made : (r : ForeignId) (b : Group) (call : ℕ) (h : List Told) → is_among r (held h) ≡ true → is_among r (held (client.made b call h)) ≡ true
held-made r b call h a = by b.kind
  where
    by : (kind : Due) → is_among r (held (client.told b (client.making kind call) h)) ≡ true
    by due.Dirty = subst (λ hs. is_among r hs ≡ true) (sym (held-row (lease_events.DirtyMade call) refl (references_at b.peer b.ids) h)) a
    by (due.Clean strong) = subst (λ hs. is_among r hs ≡ true) (sym (held-row (lease_events.CleanMade call) refl (references_at b.peer b.ids) h)) a

gives-none : (r : ForeignId) (c : Group) (strong : Bool) → names_ref r c ≡ true → c.kind ≡ due.Clean strong → (call : ℕ) (h : List Told) → is_among r (held h) ≡ true → NoDirty (own r (client.made c call h))
gives-none r c strong names e call h t = subst (λ k. NoDirty (own r (client.told c (client.making k call) h))) (sym e) (row-gives NoDirty r (lease_events.CleanMade call) refl (λ k a. refl) (λ k. refl) (references_at c.peer c.ids) h names t)

-- A dirty call that is on its way at the end of an event has a holder.
pub settle-dirty : (s : State) (r : ForeignId) → is_some (lease_now (Requests.settle s) r).dirty ≡ true → 1 ≤ (lease_now (Requests.settle s) r).holders
settle-dirty s r some = by (nat_le 1 (lease_now s r).holders) refl
  where
    makes-none : (lease_now s r).holders ≡ 0 → (b : Group) → IsOneOf b (Requests.due_groups s.leases) → MakesNoDirtyOf r b
    makes-none none b a names e = let le : 1 ≤ (lease_now s r).holders = dirty-holders (lease_now s r) (group-due r s.leases b a names ∙ ap {A = Due} {B = Option Due} (λ k. Some k) e) in omega (arith, none)

    known : is_some (lease_now s r).dirty ≡ true → (x : Bool) → is_among r (held s.leases) ≡ x → is_among r (held s.leases) ≡ true
    known t true e = e
    known t false e = absurd (none-some (never-dirty r s.leases e) t)

    gone : (lease_now s r).holders ≡ 0 → (x : Bool) → is_some (lease_now s r).dirty ≡ x → NoDirty (own r (Requests.settle s).leases)
    gone none false e = settle-told (λ h. NoDirty (own r h)) (MakesNoDirtyOf r) (no-dirty-sent r) (λ b call h p a. no-dirty-made r b call h p a b.kind refl) s (makes-none none) (is-none (lease_now s r).dirty e)
      where
        is-none : (o : Option Made) → is_some o ≡ false → o ≡ None
        is-none None f = refl
        is-none (Some m) f = absurd (true≢false f)
    gone none true e =
        let there : is_among r (held s.leases) ≡ true = known e (is_among r (held s.leases)) refl in
        let c : (b : Group) × (IsOneOf b (Requests.due_groups s.leases) × ((b.kind ≡ due.Clean false) × (names_ref r b ≡ true))) = due-group r s.leases (due.Clean false) there (clean-due (lease_now s r) (history-sane (own r s.leases)) e none) in
        settle-gives (λ h. NoDirty (own r h)) (MakesNoDirtyOf r) (λ h. is_among r (held h) ≡ true) (no-dirty-sent r) (held-sent r) (λ b call h p a. no-dirty-made r b call h p a b.kind refl) (held-made r)
        c.0 (gives-none r c.0 false c.1.1.1 c.1.1.0) s (makes-none none) c.1.0 there

    by : (x : Bool) → nat_le 1 (lease_now s r).holders ≡ x → 1 ≤ (lease_now (Requests.settle s) r).holders
    by true e = let a : 1 ≤ (lease_now s r).holders = leb-true 1 (lease_now s r).holders e in let b : (lease_now (Requests.settle s) r).holders ≡ (lease_now s r).holders = settle-holders s r in omega arith
    by false e = let a : (lease_now s r).holders < 1 = leb-false 1 (lease_now s r).holders e in absurd (none-some (gone (omega arith) (is_some (lease_now s r).dirty) refl) some)
