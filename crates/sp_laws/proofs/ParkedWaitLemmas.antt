-- Frames that are parked wait for leases: after each event of a space each of them lacks one.
use Rattle.std.proofs.Common.{◌≡◌, ℕ, Bool, true, false, cond, List, [], ◌∷◌, Option, None, Some, refl, sym, ap, subst, ◌∙◌, true≢false}
use Rattle.std.specs.Prelude.{filter, find, is_some, nat_lt, not, ◌==◌, ◌&&◌, ◌||◌}
use Rattle.std.proofs.lemmas.Bool.{eq-eqb}
use Rattle.std.specs.List.{list_all, list_any}
use Rattle.dgc_client.specs.History as lease_events
use Rattle.dgc_client.specs.History.{lease_of}
use Rattle.dgc_client.specs.Lease.{at_moment, is_clean, is_made, standing}
use Rattle.dgc_client.specs.Table as client
use Rattle.dgc_client.specs.declared.lease.ClientLease.{ClientLease}
use Rattle.dgc_index.specs.declared.plans.Term.{Term}
use Rattle.space_ids.specs.declared.ids.ForeignId.{ForeignId}
use Rattle.sp_rules.specs.Classes.{Setting}
use Rattle.sp_rules.specs.Events.{Event}
use Rattle.sp_rules.specs.Holders.{drop_ids}
use Rattle.sp_rules.specs.Laws.{AllOf}
use Rattle.sp_rules.specs.Lists.{each, with_some}
use Rattle.sp_rules.specs.ParkedFrames.{go, go_all, go_frame, has_lease, is_parked_at, let_go_parked, take_parked}
use Rattle.sp_rules.specs.Space.{on, state_of}
use Rattle.sp_rules.specs.State.{State, ParkedFrame, opening}
use Rattle.sp_laws.specs.ParkedWaiting.{AreWaiting, is_free}
use Rattle.sp_laws.proofs.ApartLemmas.{drop-apart, go-frame-apart}
use Rattle.sp_laws.proofs.WaitRules.{IsFramed, IsStable, IsSteady, Seen, gives_lease, go_keeps, is_answer, on_keeps}

-- ---- leases

if-same : (b : Bool) (f : ClientLease) (l : ClientLease) → is_some f.lease ≡ is_some l.lease → is_some (cond b f l).lease ≡ true → is_some l.lease ≡ true
if-same true f l same h = sym same ∙ h
if-same false f l same h = h

stands-less : (o : Option Term) (moment : ℕ) → is_some (standing o moment) ≡ true → is_some o ≡ true
stands-less None moment h = h
stands-less (Some term) moment h = refl

-- no lease comes by anything but the answer to a dirty call
none-comes : (event : lease_events.Event) (l : ClientLease) → is_answer event ≡ false → is_some (lease_events.after event l).lease ≡ true → is_some l.lease ≡ true
none-comes lease_events.Held l none h = h
none-comes lease_events.Dropped l none h = h
none-comes (lease_events.Moment moment) l none h = by (nat_lt moment l.moment) h
  where
    by : (b : Bool) → is_some (cond b l (at_moment moment l)).lease ≡ true → is_some l.lease ≡ true
    by true k = k
    by false k = stands-less l.lease moment k
none-comes (lease_events.DirtyMade call) l none h = h
none-comes (lease_events.CleanMade call) l none h = absurd (true≢false (sym h))
none-comes (lease_events.DirtySent call) l none h = h
none-comes (lease_events.DirtyAnswered call period) l none h = absurd (true≢false none)
none-comes (lease_events.DirtyFailed call) l none h = if-same (is_made l.dirty call) _ l refl h
none-comes (lease_events.CleanAnswered call) l none h = if-same (is_clean l.clean call) _ l refl h
none-comes (lease_events.CleanFailed call) l none h = if-same (is_clean l.clean call) _ l refl h

-- what is leased in one history is leased in another
abbrev IsLess : List client.Told → List client.Told → Type 0
IsLess new old = (r : ForeignId) → is_some (lease_of (client.own r new)).lease ≡ true → is_some (lease_of (client.own r old)).lease ≡ true

told-less : (t : client.Told) (h : List client.Told) → gives_lease t ≡ false → IsLess (t ∷ h) h
told-less (client.On q event) h none r leased = by (client.is_same q r && (client.is_hold event || client.is_among q (client.held h))) leased
  where
    by : (b : Bool) → is_some (lease_of (cond b (event ∷ client.own r h) (client.own r h))).lease ≡ true → is_some (lease_of (client.own r h)).lease ≡ true
    by true k = none-comes event (lease_of (client.own r h)) none k
    by false k = k
told-less (client.At moment) h none r leased = none-comes (lease_events.Moment moment) (lease_of (client.own r h)) refl leased
told-less client.Numbered h none r leased = leased

-- ---- frames that wait

-- no frame waits for less
free-less : (new old : State) → IsLess new.leases old.leases → (p : ParkedFrame) → is_free old p ≡ false → is_free new p ≡ false
free-less new old less p waits = by p.references waits
  where
    one : (a b : Bool) → (b ≡ true → a ≡ true) → a ≡ false → b ≡ false
    one a true to e = absurd (true≢false (sym (to refl) ∙ e))
    one a false to e = refl

    both : (a b c d : Bool) → (b ≡ true → a ≡ true) → (c ≡ false → d ≡ false) → (a && c) ≡ false → (b && d) ≡ false
    both true true c d to go e = go e
    both true false c d to go e = refl
    both false b c d to go e = ap (λ x. x && d) (one false b to refl)

    by : (rs : List ForeignId) → list_all (has_lease old) rs ≡ false → list_all (has_lease new) rs ≡ false
    by [] e = e
    by (r ∷ rs) e = both (has_lease old r) (has_lease new r) (list_all (has_lease old) rs) (list_all (has_lease new) rs) (less r) (λ k. by rs k) e

-- ---- as rules are followed

less-framed : (old : State) → IsFramed (λ (s : State). IsLess s.leases old.leases)
less-framed old = record {
  frame = λ s t same less. subst (λ (h : List client.Told). IsLess h old.leases) (sym (ap (λ (v : Seen). v.leases) same)) less;
  told = λ s t none less r leased. less r (told-less t s.leases none r leased);
  taken = λ s is less. less;
}

-- a frame that goes gives no lease
less-go : (g : Setting) (old s : State) (p : ParkedFrame) → IsLess s.leases old.leases → IsLess (go g s p).leases old.leases
less-go g old s p less =
    let steady : IsSteady g (λ (s : State). IsLess s.leases old.leases) = record { framed = less-framed old } in
    go_keeps {g = g} {P = λ (s : State). IsLess s.leases old.leases} steady {s = s} p less

-- ---- frames that go are parked no more

both-so : (a b c d : Bool) → a ≡ c → b ≡ d → (a && b) ≡ (c && d)
both-so a b c d e f = λ j. e j && f j

at-self : (p : ParkedFrame) → is_parked_at p.conn p.number p ≡ true
at-self p = both-so (p.conn == p.conn) (p.number == p.number) true true (eq-eqb p.conn p.conn refl) (eq-eqb p.number p.number refl)

let-parked : (p : ParkedFrame) (qs : List ParkedFrame) (s : State) → (each (λ t (q : ParkedFrame). drop_ids q.references t) qs s).parked ≡ s.parked
unfolding each
let-parked p [] s = refl
let-parked p (q ∷ qs) s = let-parked p qs (drop_ids q.references s) ∙ ap (λ (t : State). t.parked) (drop-apart q.references s.parked s)

none-at : (p : ParkedFrame) (qs : List ParkedFrame) → find (is_parked_at p.conn p.number) qs ≡ None → filter (λ (q : ParkedFrame). not (is_parked_at p.conn p.number q)) qs ≡ qs
none-at p [] none = refl
none-at p (q ∷ qs) none = by (is_parked_at p.conn p.number q) none (λ k. none-at p qs k)
  where
    by : (b : Bool) → cond b (Some q) (find (is_parked_at p.conn p.number) qs) ≡ None → (find (is_parked_at p.conn p.number) qs ≡ None → filter (λ (q : ParkedFrame). not (is_parked_at p.conn p.number q)) qs ≡ qs)
        → cond (not b) (q ∷ filter (λ (q : ParkedFrame). not (is_parked_at p.conn p.number q)) qs) (filter (λ (q : ParkedFrame). not (is_parked_at p.conn p.number q)) qs) ≡ q ∷ qs
    by true n go-on = cc
    by false n go-on = ap (λ l. q ∷ l) (go-on n)

gone : (g : Setting) (p : ParkedFrame) (s : State) → (go g s p).parked ≡ filter (λ (q : ParkedFrame). not (is_parked_at p.conn p.number q)) s.parked
unfolding go
gone g p s = by (find (is_parked_at p.conn p.number) s.parked) refl
  where
    by : (o : Option ParkedFrame) → find (is_parked_at p.conn p.number) s.parked ≡ o
        → (with_some o s (λ q. let_go_parked p s.parked (go_frame g q q.frame (take_parked p s)))).parked ≡ filter (λ (q : ParkedFrame). not (is_parked_at p.conn p.number q)) s.parked
    by None there = sym (none-at p s.parked there)
    by (Some q) there =
        let-parked p (filter (is_parked_at p.conn p.number) s.parked) (go_frame g q q.frame (take_parked p s))
        ∙ ap (λ (t : State). t.parked) (go-frame-apart g q q.frame (take_parked p s).parked (take_parked p s))

-- Each of these that waited for nothing is under the connection and number of one that is to go.
abbrev GoYet : State → List ParkedFrame → List ParkedFrame → Type 0
GoYet old todo qs = AllOf (λ (q : ParkedFrame). is_free old q ≡ true → list_any (λ (p : ParkedFrame). is_parked_at p.conn p.number q) todo ≡ true) qs

yet-less : (old : State) (p : ParkedFrame) (todo qs : List ParkedFrame) → GoYet old (p ∷ todo) qs → GoYet old todo (filter (λ (q : ParkedFrame). not (is_parked_at p.conn p.number q)) qs)
yet-less old p todo [] all = tt
yet-less old p todo (q ∷ qs) all = by (is_parked_at p.conn p.number q) all.0 (yet-less old p todo qs all.1)
  where
    by : (b : Bool) → (is_free old q ≡ true → (b || list_any (λ (p : ParkedFrame). is_parked_at p.conn p.number q) todo) ≡ true)
        → GoYet old todo (filter (λ (q : ParkedFrame). not (is_parked_at p.conn p.number q)) qs)
        → GoYet old todo (cond (not b) (q ∷ filter (λ (q : ParkedFrame). not (is_parked_at p.conn p.number q)) qs) (filter (λ (q : ParkedFrame). not (is_parked_at p.conn p.number q)) qs))
    by true one rest = rest
    by false one rest = (one, rest)

each-goes : (g : Setting) (old : State) (todo : List ParkedFrame) (s : State) → IsLess s.leases old.leases → GoYet old todo s.parked → AreWaiting (each (go g) todo s)
unfolding each
each-goes g old [] s less yet = by s.parked yet
  where
    waits : (b : Bool) → (b ≡ true → false ≡ true) → b ≡ false
    waits true no-more = sym (no-more refl)
    waits false no-more = refl

    by : (qs : List ParkedFrame) → GoYet old [] qs → AllOf (λ (p : ParkedFrame). is_free s p ≡ false) qs
    by [] all = tt
    by (q ∷ qs) all = (free-less s old less q (waits (is_free old q) all.0), by qs all.1)
each-goes g old (p ∷ todo) s less yet =
    each-goes g old todo (go g s p) (less-go g old s p less) (subst (GoYet old todo) (sym (gone g p s)) (yet-less old p todo s.parked yet))

-- at first those are to go that wait for nothing
first-yet : (old : State) (qs : List ParkedFrame) → GoYet old (filter (is_free old) qs) qs
first-yet old qs = by qs (λ q k. k)
  where
    more : (q : ParkedFrame) (todo : List ParkedFrame) → list_any (λ (p : ParkedFrame). is_parked_at p.conn p.number q) (q ∷ todo) ≡ true
    more q todo = ap (λ b. b || list_any (λ (p : ParkedFrame). is_parked_at p.conn p.number q) todo) (at-self q)

    either : (b c : Bool) → c ≡ true → (b || c) ≡ true
    either true c is = refl
    either false c is = is

    grown : (q r : ParkedFrame) (todo : List ParkedFrame) (b : Bool) → list_any (λ (p : ParkedFrame). is_parked_at p.conn p.number q) todo ≡ true
        → list_any (λ (p : ParkedFrame). is_parked_at p.conn p.number q) (cond b (r ∷ todo) todo) ≡ true
    grown q r todo true k = either (is_parked_at r.conn r.number q) (list_any (λ (p : ParkedFrame). is_parked_at p.conn p.number q) todo) k
    grown q r todo false k = k

    by : (rs : List ParkedFrame) → ((q : ParkedFrame) → list_any (λ (p : ParkedFrame). is_parked_at p.conn p.number q) (filter (is_free old) rs) ≡ true → list_any (λ (p : ParkedFrame). is_parked_at p.conn p.number q) (filter (is_free old) qs) ≡ true)
        → GoYet old (filter (is_free old) qs) rs
    by [] inside = tt
    by (r ∷ rs) inside = (
      λ free. inside r (ap (λ b. list_any (λ (p : ParkedFrame). is_parked_at p.conn p.number r) (cond b (r ∷ filter (is_free old) rs) (filter (is_free old) rs))) free ∙ more r (filter (is_free old) rs)),
      by rs (λ q k. inside q (grown q r (filter (is_free old) rs) (is_free old r) k)),
    )

-- After all frames went that wait for nothing each that is left waits.
pub all-go : (g : Setting) (s : State) → AreWaiting (go_all g s)
unfolding go_all
all-go g s = each-goes g s (filter (is_free s) s.parked) s (λ r leased. leased) (first-yet s s.parked)

-- ---- events

all-filter : (s : State) (is : ParkedFrame → Bool) (ps : List ParkedFrame) → AllOf (λ (p : ParkedFrame). is_free s p ≡ false) ps → AllOf (λ (p : ParkedFrame). is_free s p ≡ false) (filter is ps)
all-filter s is [] all = tt
all-filter s is (p ∷ ps) all =
    let rest = all-filter s is ps all.1 in
    elim (is p) as (λ b. AllOf (λ (q : ParkedFrame). is_free s q ≡ false) (cond b (p ∷ filter is ps) (filter is ps))) [ true ↦ (all.0, rest) | false ↦ rest ]

all-less : (new old : State) → IsLess new.leases old.leases → (ps : List ParkedFrame) → AllOf (λ (p : ParkedFrame). is_free old p ≡ false) ps → AllOf (λ (p : ParkedFrame). is_free new p ≡ false) ps
all-less new old less [] all = tt
all-less new old less (p ∷ ps) all = (free-less new old less p all.0, all-less new old less ps all.1)

waiting-framed : IsFramed AreWaiting
waiting-framed = record {
  frame = λ s t same waits. subst (λ (v : Seen). AllOf (λ (p : ParkedFrame). list_all (λ r. is_some (lease_of (client.own r v.leases)).lease) p.references ≡ false) v.parked) (sym same) waits;
  told = λ s t none waits. all-less (record s { leases = t ∷ s.leases }) s (told-less t s.leases none) s.parked waits;
  taken = λ s is waits. all-filter s is s.parked waits;
}

-- an event leaves no frame parked that waits for nothing
pub event-leaves : (g : Setting) (s : State) (e : Event) → AreWaiting s → AreWaiting (on g e s).0
event-leaves g s e waits =
    let stable : IsStable g AreWaiting = record { steady = record { framed = waiting-framed }; goes = all-go g } in
    on_keeps {g = g} {P = AreWaiting} stable s e waits

-- After every history of a space each parked frame lacks the lease of a reference.
pub parked-wait : (g : Setting) (h : List Event) → AreWaiting (state_of g h)
unfolding state_of opening
parked-wait g [] = tt
parked-wait g (e ∷ h) = event-leaves g (state_of g h) e (parked-wait g h)
