-- Groups of dirty and clean calls are made, answered and fail: each move keeps the calls of a reference among the requests or under way.
use mathlib.Core.Path.{sym, ap, subst, ◌∙◌}
use Rattle.std.proofs.Common.{arith}
use Rattle.std.proofs.lemmas.Bool.{true≢false, eq-eqb, leb-true, leb-false, ltb-true, ltb-false}
use Rattle.std.specs.Prelude.{◌≡◌, refl, ℕ, ◌+◌, ◌-◌, ◌≤◌, ◌<◌, ◌==◌, ◌&&◌, ◌||◌, not, nat_le, nat_lt, is_none, is_some, Bool, true, false, List, [], ◌∷◌, Option, None, Some, if◌then◌else◌}
use Rattle.dgc_client.specs.declared.groups.Group.{Group}
use Rattle.dgc_client.specs.declared.lease.ClientLease.{ClientLease}
use Rattle.dgc_client.specs.declared.lease.Made.{Made}
use Rattle.dgc_client.specs.declared.lease.Due.{Due}
use Rattle.dgc_client.specs.declared.lease.Due.TheVariants as due
use Rattle.dgc_client.specs.declared.lease.Owed.{Owed}
use Rattle.dgc_client.specs.declared.lease.Owed.TheVariants as owed
use Rattle.dgc_client.specs.History.{Event, after, lease_of}
use Rattle.dgc_client.specs.History.Event.{Held, Dropped, Moment, DirtyMade, CleanMade, DirtySent, DirtyAnswered, DirtyFailed, CleanAnswered, CleanFailed}
use Rattle.dgc_client.specs.Lease as lease
use Rattle.dgc_client.specs.Table as client
use Rattle.dgc_client.specs.Table.{Told, On, is_same, is_among, own, held, references_at, numbers_of}
use Rattle.space_ids.specs.declared.ids.ForeignId.{ForeignId}
use Rattle.sp_rules.specs.Classes.{Setting}
use Rattle.sp_rules.specs.Frames.{tells_of, is_dirty_kind}
use Rattle.sp_rules.specs.State.{State, Asked, Tells}
use Rattle.sp_rules.proofs.AllLemmas.{some-none}
use Rattle.sp_laws.specs.MadeWhenDue.{is_owed}
use Rattle.sp_laws.specs.OnTheWay.{times_named, names_in}
use Rattle.sp_laws.proofs.NamingLemmas.{Known, known-here, each-other, each-here, numbers-each}
use Rattle.sp_laws.proofs.PointerLemmas.{bit, named-known, one-of-two, Named, named-same, named-given, makes-dirty, makes-clean, named-makes, Ends, named-ends}
use Rattle.sp_laws.proofs.WayLemmas.{names-full, under, given, way_parts, naming, Ways, Way, leases_way, named_way, names-other, names-not, names-zero, names-at, tells-not}

-- ---- what is due is not on its way

none-made : (o : Option Made) → is_none o ≡ true → (x : ℕ) → lease.is_made o x ≡ false
none-made None e x = refl
none-made (Some m) e x = absurd (true≢false (sym e))

dirty-free : (l : ClientLease) → lease.due l ≡ Some due.Dirty → (x : ℕ) → lease.is_made l.dirty x ≡ false
dirty-free l e = by (lease.is_waiting l) (nat_lt 0 l.holders) e
  where
    owes : (o : Owed) → lease.due_owed o l ≡ Some due.Dirty → ⊥
    owes owed.Nothing f = cc
    owes owed.Clean f = cc
    owes owed.Strong f = cc
    owes owed.Again f = again l.last f
      where
        again : (last : Option Made) → lease.due_again last l.moment ≡ Some due.Dirty → ⊥
        again None k = cc
        again (Some m) k = at (nat_lt (l.moment - m.at) 600000) k
          where
            at : (b : Bool) → (if b then Some (due.Clean true) else None) ≡ Some due.Dirty → ⊥
            at true z = cc
            at false z = cc

    held-free : (b c : Bool) → is_none l.dirty ≡ b → (if b && c then Some due.Dirty else None) ≡ Some due.Dirty → is_none l.dirty ≡ true
    held-free true c n f = n
    held-free false c n f = cc

    by : (w h : Bool) → (if w then None else (if h then lease.due_held l else lease.due_unheld l)) ≡ Some due.Dirty → (x : ℕ) → lease.is_made l.dirty x ≡ false
    by true h f = absurd cc
    by false true f = none-made l.dirty (held-free (is_none l.dirty) (is_none l.lease || l.renew) refl f)
    by false false f = absurd (owes l.owed f)

-- a dirty call is due where none is on its way, and something holds the reference
due-dirty : (l : ClientLease) → lease.due l ≡ Some due.Dirty → (l.dirty ≡ None) × (1 ≤ l.holders)
due-dirty l e = by (lease.is_waiting l) (nat_lt 0 l.holders) refl e
  where
    owes : (o : Owed) → lease.due_owed o l ≡ Some due.Dirty → ⊥
    owes owed.Nothing f = cc
    owes owed.Clean f = cc
    owes owed.Strong f = cc
    owes owed.Again f = again l.last f
      where
        again : (last : Option Made) → lease.due_again last l.moment ≡ Some due.Dirty → ⊥
        again None k = cc
        again (Some m) k = at (nat_lt (l.moment - m.at) 600000) k
          where
            at : (b : Bool) → (if b then Some (due.Clean true) else None) ≡ Some due.Dirty → ⊥
            at true z = cc
            at false z = cc

    held-free : (b c : Bool) → is_none l.dirty ≡ b → (if b && c then Some due.Dirty else None) ≡ Some due.Dirty → is_none l.dirty ≡ true
    held-free true c n f = n
    held-free false c n f = cc

    is-none : (o : Option Made) → is_none o ≡ true → o ≡ None
    is-none None f = refl
    is-none (Some m) f = absurd (true≢false (sym f))

    by : (w h : Bool) → nat_lt 0 l.holders ≡ h → (if w then None else (if h then lease.due_held l else lease.due_unheld l)) ≡ Some due.Dirty → (l.dirty ≡ None) × (1 ≤ l.holders)
    by true h is f = absurd cc
    by false true is f = (is-none l.dirty (held-free (is_none l.dirty) (is_none l.lease || l.renew) refl f), let a : 0 < l.holders = ltb-true 0 l.holders is in omega arith)
    by false false is f = absurd (owes l.owed f)

-- a clean call is due where one is owed, and nothing holds the reference
due-clean : (l : ClientLease) (strong : Bool) → lease.due l ≡ Some (due.Clean strong) → (is_owed l.owed ≡ true) × (l.holders ≡ 0)
due-clean l strong e = by (lease.is_waiting l) (nat_lt 0 l.holders) refl e
  where
    owes : (o : Owed) → lease.due_owed o l ≡ Some (due.Clean strong) → is_owed o ≡ true
    owes owed.Nothing f = absurd cc
    owes owed.Clean f = refl
    owes owed.Strong f = refl
    owes owed.Again f = refl

    not-dirty : (z : Bool) → (if z then Some due.Dirty else None) ≡ Some (due.Clean strong) → ⊥
    not-dirty true k = cc
    not-dirty false k = cc

    by : (w h : Bool) → nat_lt 0 l.holders ≡ h → (if w then None else (if h then lease.due_held l else lease.due_unheld l)) ≡ Some (due.Clean strong) → (is_owed l.owed ≡ true) × (l.holders ≡ 0)
    by true h is f = absurd cc
    by false true is f = absurd (not-dirty (is_none l.dirty && (is_none l.lease || l.renew)) f)
    by false false is f = (owes l.owed f, let a : l.holders ≤ 0 = ltb-false 0 l.holders is in omega arith)

-- While a clean call is on its way no dirty call is, and nothing is owed.
record IsCleaned (l : ClientLease) : Type 0 where
  cleaned : is_some l.clean ≡ true → (is_some l.dirty ≡ false) × (l.owed ≡ owed.Nothing)

cleaned-if : (b : Bool) (l k : ClientLease) → (b ≡ true → IsCleaned l) → IsCleaned k → IsCleaned (if b then l else k)
cleaned-if true l k f h = f refl
cleaned-if false l k f h = h

made-some : (o : Option Made) (call : ℕ) → lease.is_made o call ≡ true → is_some o ≡ true
made-some None call e = absurd (true≢false (sym e))
made-some (Some m) call e = refl

sent-none : (o : Option Made) (call moment : ℕ) → is_some o ≡ false → is_some (lease.sent_at o call moment) ≡ false
sent-none None call moment e = refl
sent-none (Some m) call moment e = absurd (true≢false e)

answered-cleaned : (o : Option Made) (period : ℕ) (l : ClientLease) → is_some l.dirty ≡ true → IsCleaned l → IsCleaned (lease.answered o period l)
answered-cleaned None period l t h = h
answered-cleaned (Some m) period l t h = record { cleaned = λ c. absurd (true≢false (sym t ∙ (h.cleaned c).0)) }

after-cleaned : (e : Event) (l : ClientLease) → IsCleaned l → IsCleaned (after e l)
after-cleaned Held l h = record { cleaned = h.cleaned }
after-cleaned Dropped l h = record { cleaned = h.cleaned }
after-cleaned (Moment moment) l h = cleaned-if (nat_lt moment l.moment) l (lease.at_moment moment l) (λ t. h) (record { cleaned = h.cleaned })
after-cleaned (DirtyMade call) l h = record { cleaned = λ c. absurd (true≢false (sym c)) }
after-cleaned (CleanMade call) l h = record { cleaned = λ c. (refl, refl) }
after-cleaned (DirtySent call) l h = record { cleaned = λ c. (sent-none l.dirty call l.moment (h.cleaned c).0, (h.cleaned c).1) }
after-cleaned (DirtyAnswered call period) l h = cleaned-if (lease.is_made l.dirty call) (lease.answered l.dirty period l) l (λ t. answered-cleaned l.dirty period l (made-some l.dirty call t) h) h
after-cleaned (DirtyFailed call) l h = cleaned-if (lease.is_made l.dirty call) (record l { dirty = None; owed = owed.Strong; waits = true }) l (λ t. record { cleaned = λ c. absurd (true≢false (sym (made-some l.dirty call t) ∙ (h.cleaned c).0)) }) h
after-cleaned (CleanAnswered call) l h = cleaned-if (lease.is_clean l.clean call) (record l { clean = None }) l (λ t. record { cleaned = λ c. absurd (true≢false (sym c)) }) h
after-cleaned (CleanFailed call) l h = cleaned-if (lease.is_clean l.clean call) (record l { clean = None; owed = owed.Again; waits = true }) l (λ t. record { cleaned = λ c. absurd (true≢false (sym c)) }) h

all-cleaned : (k : List Event) → IsCleaned (lease_of k)
all-cleaned [] = record { cleaned = λ c. absurd (true≢false (sym c)) }
all-cleaned (e ∷ k) = after-cleaned e (lease_of k) (all-cleaned k)

none-clean : (o : Option ℕ) → is_some o ≡ false → (x : ℕ) → lease.is_clean o x ≡ false
none-clean None e x = refl
none-clean (Some c) e x = absurd (true≢false e)

clean-free : (l : ClientLease) (strong : Bool) → IsCleaned l → lease.due l ≡ Some (due.Clean strong) → (x : ℕ) → lease.is_clean l.clean x ≡ false
clean-free l strong h e = none-clean l.clean (pick (is_some l.clean) refl)
  where
    nothing : (w b : Bool) (o : Owed) → o ≡ owed.Nothing → (if w then None else (if b then lease.due_held l else lease.due_owed o l)) ≡ Some (due.Clean strong) → ⊥
    nothing true b o n f = cc
    nothing false true o n f = at (is_none l.dirty && (is_none l.lease || l.renew)) f
      where
        at : (z : Bool) → (if z then Some due.Dirty else None) ≡ Some (due.Clean strong) → ⊥
        at true k = cc
        at false k = cc
    nothing false false o n f = some-none (due.Clean strong) (sym (sym (ap (λ z. lease.due_owed z l) n) ∙ f))

    pick : (b : Bool) → is_some l.clean ≡ b → b ≡ false
    pick true t = absurd (nothing (lease.is_waiting l) (nat_lt 0 l.holders) l.owed (h.cleaned t).1 e)
    pick false t = refl

-- ---- a group is made

pub made_way : {g : Setting} {r : ForeignId} {l : List Asked} {s : State} (b : Group) (t : State)
    → way_parts t ≡ record { made = s.groups_made + 1; requests = s.requests; fresh = s.fresh; leases = client.made b (s.groups_made + 1) s.leases }
    → times_named r b ≤ 1 → (1 ≤ times_named r b → (is_among r (held s.leases) ≡ true) × (lease.due (lease_of (own r s.leases)) ≡ Some b.kind))
    → Way g r l s → Way g r (Tells (s.groups_made + 1) b ∷ l) t
made_way {g} {r} {l} {s} b t e few is h = record {
  parts = subst (Ways r (Tells call b ∷ l)) (sym e) (record {
    known = told b.kind refl (times_named r b) refl;
    fresh = h.parts.fresh;
    numbered = λ k. subst (λ n. under k s.requests ≤ given k n) (sym (numbers-each (references_at b.peer b.ids) (client.making b.kind call) s.leases)) (h.parts.numbered k);
  });
}
  where
    call : ℕ
    call = s.groups_made + 1

    m : Bool → ℕ → ℕ
    m = naming r (Tells call b ∷ l) s.requests

    n : Bool → ℕ → ℕ
    n = naming r l s.requests

    -- of this kind
    makes : (kind : Due) → b.kind ≡ kind → times_named r b ≡ 1 → lease.due (lease_of (own r s.leases)) ≡ Some kind → (known : Bool) → Named n s.groups_made known (own r s.leases) → Named m (s.groups_made + 1) true (client.making kind call ∷ own r s.leases)
    makes due.Dirty k one f known x = named-makes true (DirtyMade call) (makes-dirty call) (dirty-free (lease_of (own r s.leases)) f)
        (λ y. let a : names_in true y r (Tells call b) ≡ bit (call == y) = names-at true y call r b (ap is_dirty_kind k) one in omega arith)
        (λ y. let a : names_in false y r (Tells call b) ≡ 0 = names-not false y call r b (ap (λ z. not (is_dirty_kind z)) k) in omega arith)
        (λ low a. let d = due-dirty (lease_of (own r s.leases)) f in (low, (d.0, (d.1, a)))) refl x
    makes (due.Clean strong) k one f known x = named-makes false (CleanMade call) (makes-clean call) (clean-free (lease_of (own r s.leases)) strong (all-cleaned (own r s.leases)) f)
        (λ y. let a : names_in false y r (Tells call b) ≡ bit (call == y) = names-at false y call r b (ap (λ z. not (is_dirty_kind z)) k) one in omega arith)
        (λ y. let a : names_in true y r (Tells call b) ≡ 0 = names-not true y call r b (ap is_dirty_kind k) in omega arith)
        (λ low a. let d = due-clean (lease_of (own r s.leases)) strong f in (low, (d.0, (d.1, a)))) refl x

    told : (kind : Due) → b.kind ≡ kind → (times : ℕ) → times_named r b ≡ times → Known r m (s.groups_made + 1) (client.made b call s.leases)
    told kind k times z = pick (nat_le 1 times) refl
      where
        pick : (y : Bool) → nat_le 1 times ≡ y → Known r m (s.groups_made + 1) (client.made b call s.leases)
        pick true f =
            let some : 1 ≤ times = leb-true 1 times f in
            let one : times_named r b ≡ 1 = omega arith in
            each-here {n = n} {m = m} (references_at b.peer b.ids) (client.making b.kind call) s.leases (own r s.leases) refl one (is (omega arith)).0
            (λ known x. subst (λ w. Named m (s.groups_made + 1) true (client.making w call ∷ own r s.leases)) (sym k) (makes kind k one ((is (omega arith)).1 ∙ ap {A = Due} {B = Option Due} (λ w. Some w) k) known x)) h.parts.known
        pick false f =
            let some : times < 1 = leb-false 1 times f in
            let none : times_named r b ≡ 0 = omega arith in
            each-other (references_at b.peer b.ids) (client.making b.kind call) s.leases none
            (record { named = named-same m (λ d y. let a : names_in d y r (Tells call b) ≡ 0 = names-zero d y call r b none in omega arith) (named-given h.parts.known.named) })

-- ---- a group ends

-- how often a group names the reference that is under way
few-named : {g : Setting} {r : ForeignId} {l : List Asked} {s : State} (d : Bool) (call : ℕ) (b : Group) → tells_of d (Tells call b) ≡ true → Way g r (Tells call b ∷ l) s → times_named r b ≤ 1
few-named {g} {r} {l} {s} d call b e h =
    let a : naming r (Tells call b ∷ l) s.requests true call + naming r (Tells call b ∷ l) s.requests false call ≤ bit (nat_le call s.groups_made) = h.parts.known.named.numbers call in
    let c : bit (nat_le call s.groups_made) ≤ 1 = small (nat_le call s.groups_made) in
    let f : names_in d call r (Tells call b) ≡ times_named r b = names-full d call r b e in
    let x : names_in d call r (Tells call b) ≤ names_in true call r (Tells call b) + names_in false call r (Tells call b) = either d in omega arith
  where
    small : (y : Bool) → bit y ≤ 1
    small true = omega arith
    small false = omega arith

    either : (y : Bool) → names_in y call r (Tells call b) ≤ names_in true call r (Tells call b) + names_in false call r (Tells call b)
    either true = omega arith
    either false = omega arith

-- one event of the reference ends it
pub ends_named : {g : Setting} {r : ForeignId} {l : List Asked} {s : State} (d : Bool) (call : ℕ) (b : Group) (e : Event) → Ends d call e → tells_of d (Tells call b) ≡ true → times_named r b ≡ 1 → Way g r (Tells call b ∷ l) s
    → (known : Bool) → Named (naming r (Tells call b ∷ l) s.requests) s.groups_made known (own r s.leases) → Named (naming r l s.requests) s.groups_made true (e ∷ own r s.leases)
ends_named {g} {r} {l} {s} d call b e E is one h known x = named-known true (λ t. refl) (named-ends d call e E
    (λ y f. let a : names_in d y r (Tells call b) ≡ 0 = names-other d y call r b f in omega arith)
    (let a : names_in d call r (Tells call b) ≡ bit (call == call) = names-at d call call r b is one in
    let c : bit (call == call) ≡ 1 = ap bit (eq-eqb call call refl) in
    let f : naming r (Tells call b ∷ l) s.requests true call + naming r (Tells call b ∷ l) s.requests false call ≤ bit (nat_le call s.groups_made) = x.numbers call in
    let z : bit (nat_le call s.groups_made) ≤ 1 = small (nat_le call s.groups_made) in
    let y : naming r (Tells call b ∷ l) s.requests d call ≤ naming r (Tells call b ∷ l) s.requests true call + naming r (Tells call b ∷ l) s.requests false call = one-of-two (naming r (Tells call b ∷ l) s.requests) d call in omega arith)
    (λ y. let a : names_in (not d) y r (Tells call b) ≡ 0 = names-not (not d) y call r b (tells-not d call b is) in omega arith) x)
  where
    small : (y : Bool) → bit y ≤ 1
    small true = omega arith
    small false = omega arith

among-of : {g : Setting} {r : ForeignId} {l : List Asked} {s : State} (d : Bool) (call : ℕ) (b : Group) → tells_of d (Tells call b) ≡ true → times_named r b ≡ 1 → Way g r (Tells call b ∷ l) s → is_among r (held s.leases) ≡ true
among-of {g} {r} {l} {s} d call b is one h = h.parts.known.named.holds d call (
    let a : names_in d call r (Tells call b) ≡ bit (call == call) = names-at d call call r b is one in
    let c : bit (call == call) ≡ 1 = ap bit (eq-eqb call call refl) in omega arith)

-- a group that does not name it ends
pub other_ends : {g : Setting} {r : ForeignId} {l : List Asked} {s : State} (call : ℕ) (b : Group) → times_named r b ≡ 0 → Way g r (Tells call b ∷ l) s → Way g r l s
other_ends {g} {r} {l} {s} call b none h = named_way {l = Tells call b ∷ l} {m = l} (λ d y. let a : names_in d y r (Tells call b) ≡ 0 = names-zero d y call r b none in omega arith) h

-- the event reaches all its references
pub told_ends : {g : Setting} {r : ForeignId} {l : List Asked} {s : State} (d : Bool) (call : ℕ) (b : Group) (e : Event) → Ends d call e → tells_of d (Tells call b) ≡ true → Way g r (Tells call b ∷ l) s → Way g r l (record s { leases = client.told b e s.leases })
told_ends {g} {r} {l} {s} d call b e E is h = pick (nat_le 1 (times_named r b)) refl
  where
    pick : (y : Bool) → nat_le 1 (times_named r b) ≡ y → Way g r l (record s { leases = client.told b e s.leases })
    pick true f =
        let some : 1 ≤ times_named r b = leb-true 1 (times_named r b) f in
        let few : times_named r b ≤ 1 = few-named d call b is h in
        let one : times_named r b ≡ 1 = omega arith in record {
          parts = record {
            known = each-here {n = naming r (Tells call b ∷ l) s.requests} {m = naming r l s.requests} (references_at b.peer b.ids) e s.leases (own r s.leases) refl one (among-of d call b is one h) (ends_named d call b e E is one h) h.parts.known;
            fresh = h.parts.fresh;
            numbered = λ k. subst (λ n. under k s.requests ≤ given k n) (sym (numbers-each (references_at b.peer b.ids) e s.leases)) (h.parts.numbered k);
          };
        }
    pick false f =
        let some : times_named r b < 1 = leb-false 1 (times_named r b) f in
        let none : times_named r b ≡ 0 = omega arith in
        leases_way _ (client.told b e s.leases) refl (numbers-each (references_at b.peer b.ids) e s.leases) (λ k. each-other (references_at b.peer b.ids) e s.leases none k) (other_ends call b none h)

-- the event reaches one of its references
pub one_ends : {g : Setting} {r : ForeignId} {l : List Asked} {s : State} (d : Bool) (call : ℕ) (b : Group) (x : ForeignId) (e : Event) → Ends d call e → tells_of d (Tells call b) ≡ true → times_named r b ≡ 1 → is_same x r ≡ true → Way g r (Tells call b ∷ l) s → Way g r l (record s { leases = On x e ∷ s.leases })
one_ends {g} {r} {l} {s} d call b x e E is one same h = record {
  parts = record {
    known = known-here x e same (among-of d call b is one h) (ends_named d call b e E is one h (is_among r (held s.leases)) h.parts.known.named);
    fresh = h.parts.fresh;
    numbered = h.parts.numbered;
  };
}

pub few_of : {g : Setting} {r : ForeignId} {l : List Asked} {s : State} (d : Bool) (call : ℕ) (b : Group) → tells_of d (Tells call b) ≡ true → Way g r (Tells call b ∷ l) s → times_named r b ≤ 1
few_of d call b is h = few-named d call b is h
