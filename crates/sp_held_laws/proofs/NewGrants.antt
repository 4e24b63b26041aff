-- When a reference becomes granted, and which dirty call is the last.
use mathlib.Core.Path.{sym, ap, subst, ◌∙◌}
use Rattle.std.proofs.Common.{arith, inl, inr}
use Rattle.std.proofs.lemmas.Bool.{true≢false, eq-eqb, eqb-true, ltb-true}
use Rattle.std.specs.List.{list_any}
use Rattle.std.specs.Prelude.{◌≡◌, ◌⊎◌, refl, ℕ, ◌+◌, ◌≤◌, ◌<◌, ◌==◌, ◌&&◌, ◌||◌, not, nat_lt, Bool, true, false, List, [], ◌∷◌, Option, None, Some, find, if◌then◌else◌}
use Rattle.dgc_client.specs.History as lease_events
use Rattle.dgc_client.specs.History.{Event as Told_event, lease_of}
use Rattle.dgc_client.specs.Lease as lease
use Rattle.dgc_client.specs.Lease.{is_made}
use Rattle.dgc_client.specs.Table as client
use Rattle.dgc_client.specs.Table.{Told, On, own, held, is_same, is_hold, is_among, references_at, with_reference}
use Rattle.dgc_client.specs.declared.groups.Group.{Group}
use Rattle.dgc_client.specs.declared.lease.ClientLease.{ClientLease}
use Rattle.dgc_client.specs.declared.lease.Due.{Due}
use Rattle.dgc_client.specs.declared.lease.Due.TheVariants as due
use Rattle.dgc_client.specs.declared.lease.Made.{Made}
use Rattle.space_ids.specs.declared.ids.ForeignId.{ForeignId}
use Rattle.net_message.specs.declared.message.Message.{Message}
use Rattle.net_message.specs.declared.message.Message.TheVariants as message
use Rattle.sp_rules.specs.Classes.{Setting}
use Rattle.sp_rules.specs.Events.{Event, Received}
use Rattle.sp_rules.specs.Frames
use Rattle.sp_rules.specs.Holders.{lease_now}
use Rattle.sp_rules.specs.ParkedFrames
use Rattle.sp_rules.specs.Refusals.{refusal}
use Rattle.sp_rules.specs.Requests
use Rattle.sp_rules.specs.Space
use Rattle.sp_rules.specs.State.{State, Request, Asked, Calls, LooksUp, Tells, Connection, connection_at}
use Rattle.sp_laws.specs.MadeWhenDue.{AreMadeWhenDue, next_of}
use Rattle.sp_laws.specs.OnTheWay.{overtakes}
use Rattle.sp_order_laws.specs.Ends.{IsOneOf}
use Rattle.sp_held_laws.specs.Granted.{was_granted, is_granted}
use Rattle.sp_held_laws.proofs.DueLemmas.{own-skips, row-keeps, row-gives, among-with, held-sent, held-made, sends-keep}
use Rattle.sp_held_laws.proofs.FreeLemmas.{one-foreign, Numbered}
use Rattle.sp_held_laws.proofs.GrantLemmas.{own-or-not, plain-granted, each-plain-granted}
use Rattle.sp_held_laws.proofs.GrantRules.{AnyRef, any-happens, any-grown, any-may-go}
use Rattle.sp_held_laws.proofs.GrownRules.{Plain}
use Rattle.sp_held_laws.proofs.GrownFrames.{ComesWell, parking, call_row, result_row, marking, telling, happen_grown}
use Rattle.sp_held_laws.proofs.SettleLemmas.{names_ref, settle-told, settle-gives}

-- ---- a Lease that comes

-- The event brings a Lease that answers a dirty call of the reference, which is on its way.
pub record NewGrant (s : State) (e : Event) (r : ForeignId) : Type 0 where
  pub conn : ℕ
  pub sequence : ℕ
  pub period : ℕ
  pub row : Connection
  pub request : Request
  pub call : ℕ
  pub group : Group
  pub same : e ≡ Received conn (message.Lease sequence period)
  pub there : connection_at s conn ≡ Some row
  pub found : find (Frames.tells_on true row.number sequence) s.requests ≡ Some request
  pub asked : request.asked ≡ Tells call group
  pub names : names_ref r group ≡ true
  pub made : is_made (lease_now s r).dirty call ≡ true

answered-made : (call period : ℕ) (k : List Told_event) → is_made (lease_of (lease_events.DirtyAnswered call period ∷ k)).dirty call ≡ true → is_made (lease_of k).dirty call ≡ true
answered-made call period k e = by (is_made (lease_of k).dirty call) refl e
  where
    by : (b : Bool) → is_made (lease_of k).dirty call ≡ b → is_made (if b then lease.answered (lease_of k).dirty period (lease_of k) else lease_of k).dirty call ≡ true → is_made (lease_of k).dirty call ≡ true
    by true f a = f
    by false f a = a

-- what a row of answers grants was granted, or its dirty call was on its way
answered-newly : (r : ForeignId) (call period : ℕ) (xs : List ForeignId) (h : List Told) → was_granted (own r (client.on_each xs (lease_events.DirtyAnswered call period) h)) ≡ true
    → (was_granted (own r h) ≡ true) ⊎ ((is_among r xs ≡ true) × (is_made (lease_of (own r h)).dirty call ≡ true))
answered-newly r call period [] h e = inl e
answered-newly r call period (x ∷ xs) h e = by (is_same r x) refl (answered-newly r call period xs (On x (lease_events.DirtyAnswered call period) ∷ h) e)
  where
    ev : Told_event
    ev = lease_events.DirtyAnswered call period

    first : (k : List Told_event) → was_granted (ev ∷ k) ≡ true → (was_granted k ≡ true) ⊎ (is_made (lease_of k).dirty call ≡ true)
    first k e = pick (is_made (lease_of k).dirty call) refl e
      where
        pick : (b : Bool) → is_made (lease_of k).dirty call ≡ b → b || was_granted k ≡ true → (was_granted k ≡ true) ⊎ (is_made (lease_of k).dirty call ≡ true)
        pick true f a = inr f
        pick false f a = inl a

    by : (b : Bool) → is_same r x ≡ b → (was_granted (own r (On x ev ∷ h)) ≡ true) ⊎ ((is_among r xs ≡ true) × (is_made (lease_of (own r (On x ev ∷ h))).dirty call ≡ true))
        → (was_granted (own r h) ≡ true) ⊎ ((b || is_among r xs ≡ true) × (is_made (lease_of (own r h)).dirty call ≡ true))
    by false f (inl a) = inl (subst (λ k. was_granted k ≡ true) (own-skips r x ev h f) a)
    by false f (inr a) = inr (a.0, subst (λ k. is_made (lease_of k).dirty call ≡ true) (own-skips r x ev h f) a.1)
    by true f (inr a) = inr (refl, own-or-not (λ k. is_made (lease_of k).dirty call ≡ true → is_made (lease_of (own r h)).dirty call ≡ true) r x ev h (λ y. y) (answered-made call period (own r h)) a.1)
    by true f (inl a) = here (own-or-not (λ k. was_granted k ≡ true → (was_granted (own r h) ≡ true) ⊎ (is_made (lease_of (own r h)).dirty call ≡ true)) r x ev h (λ y. inl y) (first (own r h)) a)
      where
        here : (was_granted (own r h) ≡ true) ⊎ (is_made (lease_of (own r h)).dirty call ≡ true) → (was_granted (own r h) ≡ true) ⊎ ((true ≡ true) × (is_made (lease_of (own r h)).dirty call ≡ true))
        here (inl y) = inl y
        here (inr y) = inr (refl, y)

-- granted before, or newly
abbrev Newly : State → Event → ForeignId → List Told → Type 0
Newly s e r h = was_granted (own r h) ≡ true → (is_granted s r ≡ true) ⊎ NewGrant s e r

newly-plain : (g : Setting) (s : State) (e : Event) (r : ForeignId) → Plain g AnyRef (Newly s e r)
newly-plain g s e r = record { own = λ id class. tt; on = λ x ev h p k a. k (sym (plain-granted r x ev h p) ∙ a); at = λ moment h k. k; numbered = λ h k. k }

newly-comes : (g : Setting) (s : State) (e : Event) (r : ForeignId) (conn : ℕ) (c : Connection) (m : Message) → e ≡ Received conn m → connection_at s conn ≡ Some c → ComesWell g AnyRef (Newly s e r) s c m
newly-comes g s e r conn c (message.Hello version space digest) same is = tt
newly-comes g s e r conn c (message.Call number object method fuel arguments) same is = λ above o. any-may-go (parking (call_row g c.number number o method fuel arguments) (Frames.counted c.number number s)) _
newly-comes g s e r conn c (message.Returned number fuel value) same is = λ q found. any-may-go (parking (result_row g c.number number value fuel) (marking c.number number s)) _
newly-comes g s e r conn c (message.Threw number class) same is = tt
newly-comes g s e r conn c (message.Spent number) same is = tt
newly-comes g s e r conn c (message.Ack number) same is = tt
newly-comes g s e r conn c (message.Dirty sequence period objects) same is = tt
newly-comes g s e r conn c (message.Clean sequence strong objects) same is = tt
newly-comes g s e r conn c (message.Lookup number name) same is = tt
newly-comes g s e r conn c (message.Cleaned sequence) same is = λ q found. (told q.asked, any-may-go (telling false c.number sequence lease_events.CleanAnswered q s) _)
  where
    told : (asked : Asked) → Newly s e r (Frames.group_told lease_events.CleanAnswered asked (ParkedFrames.remove_requests (Frames.tells_on false c.number sequence) s)).leases
    told (Calls k task lent kind x) = λ a. inl a
    told (LooksUp k task name) = λ a. inl a
    told (Tells call group) = λ a. inl (sym (each-plain-granted r (lease_events.CleanAnswered call) refl (references_at group.peer group.ids) s.leases) ∙ a)
newly-comes g s e r conn c (message.Lease sequence period) same is = λ q found. (told q found q.asked refl, any-may-go (telling true c.number sequence (λ call. lease_events.DirtyAnswered call period) q s) _)
  where
    told : (q : Request) → find (Frames.tells_on true c.number sequence) s.requests ≡ Some q → (asked : Asked) → q.asked ≡ asked → Newly s e r (Frames.group_told (λ call. lease_events.DirtyAnswered call period) asked (ParkedFrames.remove_requests (Frames.tells_on true c.number sequence) s)).leases
    told q found (Calls k task lent kind x) asked = λ a. inl a
    told q found (LooksUp k task name) asked = λ a. inl a
    told q found (Tells call group) asked = λ a. by (answered-newly r call period (references_at group.peer group.ids) s.leases a)
      where
        by : (was_granted (own r s.leases) ≡ true) ⊎ ((names_ref r group ≡ true) × (is_made (lease_of (own r s.leases)).dirty call ≡ true)) → (is_granted s r ≡ true) ⊎ NewGrant s e r
        by (inl a) = inl a
        by (inr a) = inr (record { conn = conn; sequence = sequence; period = period; row = c; request = q; call = call; group = group; same = same; there = is; found = found; asked = asked; names = a.0; made = a.1 })

-- A reference that is granted before the end of an event was so before the event, or the event brings its Lease.
pub granted-newly : (g : Setting) (r : ForeignId) (lent : List ℕ) (s : State) (e : Event) → refusal g lent s e ≡ None → Numbered s → is_granted (Space.happen g e s) r ≡ true → (is_granted s r ≡ true) ⊎ NewGrant s e r
granted-newly g r lent s e t n granted =
    (happen_grown (newly-plain g s e r) e (any-happens g (Newly s e r) (newly-plain g s e r) lent s e t n (λ a. inl a) (λ conn m same c is. newly-comes g s e r conn c m same is)) (any-grown g (Newly s e r) s n (λ a. inl a))).parts.told granted

-- ---- the end of an event

-- the end of an event grants nothing
pub settle-back : (s : State) (r : ForeignId) → is_granted (Requests.settle s) r ≡ true → is_granted s r ≡ true
settle-back s r granted = settle-told (λ h. was_granted (own r h) ≡ true → is_granted s r ≡ true) (λ b. Unit {0}) (sends-keep (λ k. was_granted k ≡ true → is_granted s r ≡ true) r (λ call k a. a))
    (λ b call h p a. by b.kind b call h a) s (λ b a. tt) (λ a. a) granted
  where
    by : (kind : Due) (b : Group) (call : ℕ) (h : List Told) → (was_granted (own r h) ≡ true → is_granted s r ≡ true) → was_granted (own r (client.told b (client.making kind call) h)) ≡ true → is_granted s r ≡ true
    by due.Dirty b call h a = row-keeps (λ k. was_granted k ≡ true → is_granted s r ≡ true) r (lease_events.DirtyMade call) (λ k x. x) (references_at b.peer b.ids) h a
    by (due.Clean strong) b call h a = row-keeps (λ k. was_granted k ≡ true → is_granted s r ≡ true) r (lease_events.CleanMade call) (λ k x y. absurd (true≢false (sym y))) (references_at b.peer b.ids) h a

-- of a reference that was never held nothing was granted
never-granted : (r : ForeignId) (h : List Told) → is_among r (held h) ≡ false → was_granted (own r h) ≡ false
never-granted r [] e = refl
never-granted r (client.At moment ∷ h) e = never-granted r h e
never-granted r (client.Numbered ∷ h) e = never-granted r h e
never-granted r (On x event ∷ h) e = pick (is_hold event) refl e (never-granted r h)
  where
    Nothing : List Told_event → Type 0
    Nothing k = was_granted k ≡ false

    skips : is_same r x ≡ false → was_granted (own r h) ≡ false → was_granted (own r (On x event ∷ h)) ≡ false
    skips apart a = subst (λ k. was_granted k ≡ false) (sym (own-skips r x event h apart)) a

    unheld : is_hold event ≡ false → is_among r (held h) ≡ false → (b : Bool) → is_same r x ≡ b → was_granted (own r h) ≡ false → was_granted (own r (On x event ∷ h)) ≡ false
    unheld q f false s a = skips s a
    unheld q f true s a = subst (λ c. was_granted (if c then event ∷ own r h else own r h) ≡ false) (sym (none (is_same x r) (is_hold event) (is_among x (held h)) q (subst (λ (y : ForeignId). is_among y (held h) ≡ false) (one-foreign r x s) f))) a
      where
        none : (x y z : Bool) → y ≡ false → z ≡ false → x && (y || z) ≡ false
        none true true z u v = absurd (true≢false u)
        none true false z u v = v
        none false y z u v = refl

    pick : (b : Bool) → is_hold event ≡ b → is_among r (if b then with_reference (held h) x else held h) ≡ false → (is_among r (held h) ≡ false → was_granted (own r h) ≡ false) → was_granted (own r (On x event ∷ h)) ≡ false
    pick true q f rest = let a : (is_among r (held h) ≡ false) × (is_same r x ≡ false) = among-with r x (held h) f in skips a.1 (rest a.0)
    pick false q f rest = unheld q f (is_same r x) refl (rest f)

gives-back : (r : ForeignId) (c : Group) (strong : Bool) → names_ref r c ≡ true → c.kind ≡ due.Clean strong → (call : ℕ) (h : List Told) → is_among r (held h) ≡ true → was_granted (own r (client.made c call h)) ≡ false
gives-back r c strong names e call h t = subst (λ k. was_granted (own r (client.told c (client.making k call) h)) ≡ false) (sym e) (row-gives (λ k. was_granted k ≡ false) r (lease_events.CleanMade call) refl (λ k a. refl) (λ k. refl) (references_at c.peer c.ids) h names t)

ungranted-made : (r : ForeignId) (b : Group) (call : ℕ) (h : List Told) → was_granted (own r h) ≡ false → was_granted (own r (client.made b call h)) ≡ false
ungranted-made r b call h a = by b.kind
  where
    by : (kind : Due) → was_granted (own r (client.told b (client.making kind call) h)) ≡ false
    by due.Dirty = row-keeps (λ k. was_granted k ≡ false) r (lease_events.DirtyMade call) (λ k x. x) (references_at b.peer b.ids) h a
    by (due.Clean strong) = row-keeps (λ k. was_granted k ≡ false) r (lease_events.CleanMade call) (λ k x. refl) (references_at b.peer b.ids) h a

-- of what is granted at the end of an event no clean call was made
pub settle-uncleaned : (s : State) (r : ForeignId) → is_granted (Requests.settle s) r ≡ true → (b : Group) → IsOneOf b (Requests.due_groups s.leases) → names_ref r b ≡ true → (strong : Bool) → b.kind ≡ due.Clean strong → ⊥
settle-uncleaned s r granted b there names strong kind = true≢false (sym granted ∙ settle-gives (λ h. was_granted (own r h) ≡ false) (λ c. Unit {0}) (λ h. is_among r (held h) ≡ true)
    (sends-keep (λ k. was_granted k ≡ false) r (λ call k a. a)) (held-sent r) (λ c call h p a. ungranted-made r c call h a) (held-made r) b (gives-back r b strong names kind) s (λ c a. tt) there (known (is_among r (held s.leases)) refl))
  where
    known : (x : Bool) → is_among r (held s.leases) ≡ x → is_among r (held s.leases) ≡ true
    known true e = e
    known false e = absurd (true≢false (sym (settle-back s r granted) ∙ never-granted r s.leases e))

-- ---- the last dirty call

sent-made : (made : Option Made) (call at k : ℕ) → is_made (lease.sent_at made call at) k ≡ true → is_made made k ≡ true
sent-made None call at k e = e
sent-made (Some made) call at k e = by (made.call == call) refl e
  where
    by : (b : Bool) → (made.call == call) ≡ b → is_made (if b then Some (record { call = call; at = at }) else Some made) k ≡ true → (made.call == k) ≡ true
    by true f a = eq-eqb made.call k (eqb-true made.call call f ∙ eqb-true call k a)
    by false f a = a

by-test : (P : ClientLease → Type 0) (b : Bool) (l k : ClientLease) → P l → P k → P (if b then l else k)
by-test P true l k f g = f
by-test P false l k f g = g

answered-none : (l : ClientLease) (period k : ℕ) (made : Option Made) → is_made (lease.answered made period l).dirty k ≡ true → is_made l.dirty k ≡ true
answered-none l period k None e = e
answered-none l period k (Some m) e = absurd (true≢false (sym e))

-- a dirty call that is on its way is the last call that was made
pub dirty-last : (k : ℕ) (h : List Told_event) → is_made (lease_of h).dirty k ≡ true → next_of h ≡ k + 1
dirty-last k [] e = absurd (true≢false (sym e))
dirty-last k (lease_events.Held ∷ h) e = dirty-last k h e
dirty-last k (lease_events.Dropped ∷ h) e = dirty-last k h e
dirty-last k (lease_events.Moment moment ∷ h) e = dirty-last k h (by-test (λ l. is_made l.dirty k ≡ true → is_made (lease_of h).dirty k ≡ true) (nat_lt moment (lease_of h).moment) (lease_of h) (lease.at_moment moment (lease_of h)) (λ x. x) (λ x. x) e)
dirty-last k (lease_events.DirtyMade call ∷ h) e = ap (λ n. n + 1) (eqb-true call k e)
dirty-last k (lease_events.CleanMade call ∷ h) e = absurd (true≢false (sym e))
dirty-last k (lease_events.DirtySent call ∷ h) e = dirty-last k h (sent-made (lease_of h).dirty call (lease_of h).moment k e)
dirty-last k (lease_events.DirtyAnswered call period ∷ h) e = dirty-last k h (by-test (λ l. is_made l.dirty k ≡ true → is_made (lease_of h).dirty k ≡ true) (is_made (lease_of h).dirty call) _ (lease_of h) (answered-none (lease_of h) period k (lease_of h).dirty) (λ x. x) e)
dirty-last k (lease_events.DirtyFailed call ∷ h) e = dirty-last k h (by-test (λ l. is_made l.dirty k ≡ true → is_made (lease_of h).dirty k ≡ true) (is_made (lease_of h).dirty call) _ (lease_of h) (λ x. absurd (true≢false (sym x))) (λ x. x) e)
dirty-last k (lease_events.CleanAnswered call ∷ h) e = dirty-last k h (by-test (λ l. is_made l.dirty k ≡ true → is_made (lease_of h).dirty k ≡ true) (lease.is_clean (lease_of h).clean call) _ (lease_of h) (λ x. x) (λ x. x) e)
dirty-last k (lease_events.CleanFailed call ∷ h) e = dirty-last k h (by-test (λ l. is_made l.dirty k ≡ true → is_made (lease_of h).dirty k ≡ true) (lease.is_clean (lease_of h).clean call) _ (lease_of h) (λ x. x) (λ x. x) e)

-- a call that overtakes this one was made under a number above it, and the next is above that
pub overtaken-next : (dirty : Bool) (k : ℕ) (h : List Told_event) → AreMadeWhenDue h → list_any (overtakes dirty k) h ≡ true → k + 2 ≤ next_of h
overtaken-next dirty k [] a e = absurd (true≢false (sym e))
overtaken-next dirty k (lease_events.Held ∷ h) a e = overtaken-next dirty k h a e
overtaken-next dirty k (lease_events.Dropped ∷ h) a e = overtaken-next dirty k h a e
overtaken-next dirty k (lease_events.Moment moment ∷ h) a e = overtaken-next dirty k h a e
overtaken-next dirty k (lease_events.DirtySent call ∷ h) a e = overtaken-next dirty k h a e
overtaken-next dirty k (lease_events.DirtyAnswered call period ∷ h) a e = overtaken-next dirty k h a e
overtaken-next dirty k (lease_events.DirtyFailed call ∷ h) a e = overtaken-next dirty k h a e
overtaken-next dirty k (lease_events.CleanAnswered call ∷ h) a e = overtaken-next dirty k h a e
overtaken-next dirty k (lease_events.CleanFailed call ∷ h) a e = overtaken-next dirty k h a e
overtaken-next dirty k (lease_events.DirtyMade call ∷ h) a e = by (not dirty) (nat_lt k call) refl e (overtaken-next dirty k h a.1.1.1)
  where
    by : (x y : Bool) → nat_lt k call ≡ y → (x && y) || list_any (overtakes dirty k) h ≡ true → (list_any (overtakes dirty k) h ≡ true → k + 2 ≤ next_of h) → k + 2 ≤ call + 1
    by true true f e rest = let b : k < call = ltb-true k call f in omega arith
    by true false f e rest = let b : k + 2 ≤ next_of h = rest e in let c : next_of h ≤ call = a.0 in omega arith
    by false y f e rest = let b : k + 2 ≤ next_of h = rest e in let c : next_of h ≤ call = a.0 in omega arith
overtaken-next dirty k (lease_events.CleanMade call ∷ h) a e = by dirty (nat_lt k call) refl e (overtaken-next dirty k h a.1.1.1)
  where
    by : (x y : Bool) → nat_lt k call ≡ y → (x && y) || list_any (overtakes dirty k) h ≡ true → (list_any (overtakes dirty k) h ≡ true → k + 2 ≤ next_of h) → k + 2 ≤ call + 1
    by true true f e rest = let b : k < call = ltb-true k call f in omega arith
    by true false f e rest = let b : k + 2 ≤ next_of h = rest e in let c : next_of h ≤ call = a.0 in omega arith
    by false y f e rest = let b : k + 2 ≤ next_of h = rest e in let c : next_of h ≤ call = a.0 in omega arith
