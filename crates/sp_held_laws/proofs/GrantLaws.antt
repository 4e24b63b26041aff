-- What is held is granted, and dirty calls on their way are awaited, after every history.
use mathlib.Core.Path.{sym, ap, subst, ◌∙◌}
use Rattle.std.proofs.Common.{arith, inl, inr}
use Rattle.std.proofs.lemmas.Bool.{true≢false, ltb-true, lt-ltb, leb-true, leb-false}
use Rattle.std.specs.Prelude.{◌≡◌, ◌⊎◌, refl, ℕ, ◌+◌, ◌≤◌, ◌<◌, ◌&&◌, nat_le, nat_lt, is_some, length, Bool, true, false, List, [], ◌∷◌, Option, None, Some, map, unwrap_or, if◌then◌else◌}
use Rattle.dgc_client.specs.History as lease_events
use Rattle.dgc_client.specs.History.{lease_of}
use Rattle.dgc_client.specs.Lease as lease
use Rattle.dgc_client.specs.Table as client
use Rattle.dgc_client.specs.Table.{Told, On, At, own, is_same, is_hold}
use Rattle.dgc_client.specs.declared.groups.Group.{Group}
use Rattle.space_ids.specs.declared.ids.ForeignId.{ForeignId}
use Rattle.net_message.specs.declared.message.Message.{Message}
use Rattle.net_message.specs.declared.message.Message.TheVariants as message
use Rattle.sp_rules.specs.Behaviours.{Op, Create, Get, Put, Call}
use Rattle.sp_rules.specs.Classes.{Setting, blank, field_kind}
use Rattle.sp_rules.specs.Events.{Event, Moment, Sweep, Root, RootAck, Bind, Rebind, Unbind, Lookup, Opened, Refused, Received, Closed, ReadFailed, Bad, WriteFailed, Committed, Parked, GivenBack, Finished, Output, Started, Ended, Withdrawn, Denied, Send, Dial, Close, Ready, in_order}
use Rattle.sp_rules.specs.Frames
use Rattle.sp_rules.specs.Holders
use Rattle.sp_rules.specs.Holders.{times_in, holders_of, lease_now, hold_ids, drop_ids}
use Rattle.sp_rules.specs.Lists.{each, with_some, total, numbers_below}
use Rattle.sp_rules.specs.LivingTasks
use Rattle.sp_rules.specs.Origins.{IsTaken}
use Rattle.sp_rules.specs.ParkedFrames
use Rattle.sp_rules.specs.ParkedFrames.{has_lease}
use Rattle.sp_rules.specs.References.{foreign_ids, references_of, references_in}
use Rattle.sp_rules.specs.Refusals.{refusal}
use Rattle.sp_rules.specs.Requests
use Rattle.sp_rules.specs.Space
use Rattle.sp_rules.specs.State.{State, Object, Living, Request, Asked, Calls, LooksUp, Tells, KeptResult, ParkedFrame, Connection, opening, standing, last_written, ready_at, set_task}
use Rattle.sp_rules.specs.Tasks.{gained, answer, steps}
use Rattle.sp_rules.proofs.OwnLemmas.{own-only}
use Rattle.sp_laws.specs.Counted.{times_held, HoldersAreCounted}
use Rattle.sp_laws.specs.Inbound.{OpensOnce}
use Rattle.sp_held_laws.specs.Granted.{was_granted, is_granted, started_of, awaited_of, WhatIsHeldIsGranted, DirtyCallsAreAwaited}
use Rattle.sp_held_laws.proofs.DueLemmas.{settle-granted, settle-dirty}
use Rattle.sp_held_laws.proofs.FreeLemmas.{Free, Numbered, free-counts, counts-free}
use Rattle.sp_held_laws.proofs.GrantLemmas.{lease-granted, own-or-not, sent-some}
use Rattle.sp_held_laws.proofs.GrantRules.{AnyRef, any-happens, any-grown, GrantedOrFree, granted-happens, free-happens, Before, free-plain, any-may-go}
use Rattle.sp_held_laws.proofs.GrownRules.{Grown, Plain, Stocks, stocks_of, is_plain, quiet, now_told, each_grown, ask_grown}
use Rattle.sp_held_laws.proofs.GrownFrames.{Any, ComesWell, parking, call_row, result_row, marking, telling, happen_grown}
use Rattle.sp_held_laws.proofs.ParkedLemmas.{parked-once}

-- ---- how an event ends

sent-stocks : (o : Output) (s : State) → stocks_of (Space.record_sent s o) ≡ stocks_of s
sent-stocks (Started task) s = refl
sent-stocks (Ended task outcome) s = refl
sent-stocks (Withdrawn ids) s = refl
sent-stocks (Denied why) s = refl
sent-stocks (Send conn m) s = refl
sent-stocks (Dial peer) s = refl
sent-stocks (Close conn) s = refl
sent-stocks (Ready task) s = refl

each-sent-stocks : (os : List Output) (s : State) → stocks_of (each Space.record_sent os s) ≡ stocks_of s
unfolding each
each-sent-stocks [] s = refl
each-sent-stocks (o ∷ os) s = each-sent-stocks os (Space.record_sent s o) ∙ sent-stocks o s

-- the state in which an event ends
abbrev pub ended : Bool → State → State
ended true s = Requests.settle s
ended false s = s

pub ends-stocks : (g : Setting) (e : Event) (s : State) → stocks_of (Space.on g e s).0 ≡ stocks_of (ended (Space.answers_outputs e) (Space.happen g e s))
unfolding Space.on
ends-stocks g e s = by (Space.answers_outputs e) (Space.happen g e s)
  where
    by : (b : Bool) (u : State) → stocks_of (Space.finish_event b u).0 ≡ stocks_of (ended b u)
    by true u = each-sent-stocks (in_order (Requests.settle u).notes) (record (Requests.settle u) { notes = [] })
    by false u = refl

-- what is started, by the parts
abbrev started_by : Setting → ForeignId → Stocks → ℕ
started_by g r c =
    total (λ (t : Living). times_in r (foreign_ids g.id t.task.held)) c.tasks
    + (total (λ (o : Object). times_in r (foreign_ids g.id (references_of (map (λ slot. unwrap_or (last_written c.store o.id slot) (blank (field_kind g.classes o.class slot))) (numbers_below (length (g.classes.fields o.class))))))) (standing c.store)
    + total (λ (k : KeptResult). times_in r (foreign_ids g.id (references_in k.value))) c.results)

same-granted : (r : ForeignId) (s t : State) → stocks_of s ≡ stocks_of t → is_granted t r ≡ true → is_granted s r ≡ true
same-granted r s t e k = subst (λ (c : Stocks). was_granted (own r c.leases) ≡ true) (sym e) k

same-free : (g : Setting) (r : ForeignId) (s t : State) → stocks_of s ≡ stocks_of t → Free g r t → Free g r s
same-free g r s t e k = quiet s e k

-- ---- holders that came

-- at least this many came
abbrev AtLeast : ForeignId → ℕ → List Told → Type 0
AtLeast r n h = n ≤ times_held r h

more-held : (r x : ForeignId) (e : lease_events.Event) (h : List Told) → times_held r h ≤ times_held r (On x e ∷ h)
more-held r x e h = pick (is_same x r && is_hold e)
  where
    pick : (b : Bool) → times_held r h ≤ (if b then times_held r h + 1 else times_held r h)
    pick true = omega arith
    pick false = omega arith

on-least : (r x : ForeignId) (n : ℕ) (e : lease_events.Event) (h : List Told) → AtLeast r n h → AtLeast r n (On x e ∷ h)
on-least r x n e h k = let a : n ≤ times_held r h = k in let b : times_held r h ≤ times_held r (On x e ∷ h) = more-held r x e h in omega arith

row-least : (r : ForeignId) (n : ℕ) (e : lease_events.Event) (xs : List ForeignId) (h : List Told) → AtLeast r n h → AtLeast r n (client.on_each xs e h)
row-least r n e [] h k = k
row-least r n e (x ∷ xs) h k = row-least r n e xs (On x e ∷ h) (on-least r x n e h k)

least-plain : (g : Setting) (r : ForeignId) (n : ℕ) → Plain g AnyRef (AtLeast r n)
least-plain g r n = record { own = λ id class. tt; on = λ x e h p k. on-least r x n e h k; at = λ moment h k. k; numbered = λ h k. k }

least-comes : (g : Setting) (r : ForeignId) (n : ℕ) (s : State) (c : Connection) (m : Message) → AtLeast r n s.leases → ComesWell g AnyRef (AtLeast r n) s c m
least-comes g r n s c (message.Hello version space digest) e = tt
least-comes g r n s c (message.Call number object method fuel arguments) e = λ above o. any-may-go (parking (call_row g c.number number o method fuel arguments) (Frames.counted c.number number s)) _
least-comes g r n s c (message.Returned number fuel value) e = λ q is. any-may-go (parking (result_row g c.number number value fuel) (marking c.number number s)) _
least-comes g r n s c (message.Threw number class) e = tt
least-comes g r n s c (message.Spent number) e = tt
least-comes g r n s c (message.Ack number) e = tt
least-comes g r n s c (message.Dirty sequence period objects) e = tt
least-comes g r n s c (message.Clean sequence strong objects) e = tt
least-comes g r n s c (message.Lookup number name) e = tt
least-comes g r n s c (message.Lease sequence period) e = λ q is. (told q.asked, any-may-go (telling true c.number sequence (λ call. lease_events.DirtyAnswered call period) q s) _)
  where
    told : (asked : Asked) → AtLeast r n (Frames.group_told (λ call. lease_events.DirtyAnswered call period) asked (ParkedFrames.remove_requests (Frames.tells_on true c.number sequence) s)).leases
    told (Calls k task lent kind x) = e
    told (LooksUp k task name) = e
    told (Tells call group) = row-least r n (lease_events.DirtyAnswered call period) (client.references_at group.peer group.ids) s.leases e
least-comes g r n s c (message.Cleaned sequence) e = λ q is. (told q.asked, any-may-go (telling false c.number sequence lease_events.CleanAnswered q s) _)
  where
    told : (asked : Asked) → AtLeast r n (Frames.group_told lease_events.CleanAnswered asked (ParkedFrames.remove_requests (Frames.tells_on false c.number sequence) s)).leases
    told (Calls k task lent kind x) = e
    told (LooksUp k task name) = e
    told (Tells call group) = row-least r n (lease_events.CleanAnswered call) (client.references_at group.peer group.ids) s.leases e

pub settle-grown : {g : Setting} {Is : Rattle.space_ids.specs.declared.ids.Ref.Ref → Type 0} {T : List Told → Type 0} {K : ParkedFrame → Type 0} {s : State} (M : Plain g Is T) → ((b : Group) (call : ℕ) (h : List Told) → T h → T (client.made b call h)) → Grown g Is T K s → Grown g Is T K (Requests.settle s)
unfolding Requests.settle Requests.make_due Requests.ask_fresh Requests.make_group
settle-grown {g} {Is} {T} {K} {s} M made h = asks (each Requests.make_group (Requests.due_groups s.leases) s) (each_grown Requests.make_group (Requests.due_groups s.leases) (λ t b k. makes t b k) h)
  where
    makes : (t : State) (b : Group) → Grown g Is T K t → Grown g Is T K (Requests.make_group t b)
    makes t b k = ask_grown M _ (quiet _ refl (now_told (client.made b (t.groups_made + 1) t.leases) (made b (t.groups_made + 1) t.leases k.parts.told) k))

    asks : (t : State) → Grown g Is T K t → Grown g Is T K (each Requests.ask t.fresh (record t { fresh = [] }))
    asks t k = each_grown Requests.ask t.fresh (λ u q j. ask_grown M q j) (quiet _ refl k)

pub ended-grown : {g : Setting} {Is : Rattle.space_ids.specs.declared.ids.Ref.Ref → Type 0} {T : List Told → Type 0} {K : ParkedFrame → Type 0} {s : State} (M : Plain g Is T) → ((b : Group) (call : ℕ) (h : List Told) → T h → T (client.made b call h)) → (answers : Bool) → Grown g Is T K s → Grown g Is T K (ended answers s)
ended-grown M made true h = settle-grown M made h
ended-grown M made false h = h

-- no holder that came is forgotten
pub past-held : (g : Setting) (r : ForeignId) (lent : List ℕ) (s : State) (e : Event) → refusal g lent s e ≡ None → Numbered s → times_held r s.leases ≤ times_held r (Space.on g e s).0.leases
past-held g r lent s e t n = subst (λ (c : Stocks). times_held r s.leases ≤ times_held r c.leases) (sym (ends-stocks g e s))
    (ended-grown (least-plain g r (times_held r s.leases)) (λ b call h k. row-least r (times_held r s.leases) (client.making b.kind call) (client.references_at b.peer b.ids) h k) (Space.answers_outputs e)
    (happen_grown (least-plain g r (times_held r s.leases)) e (any-happens g (AtLeast r (times_held r s.leases)) (least-plain g r (times_held r s.leases)) lent s e t n here (λ conn m same c is. least-comes g r (times_held r s.leases) s c m here)) (any-grown g (AtLeast r (times_held r s.leases)) s n here))).parts.told
  where
    here : AtLeast r (times_held r s.leases) s.leases
    here = omega arith

-- ---- histories

pub numbered-of : (g : Setting) (h : List Event) → IsTaken g h → Numbered (Space.state_of g h)
numbered-of g h t = record { numbers = (own-only g h t).parts.numbers; unwritten = (own-only g h t).parts.unwritten }

-- fewer holders came before
pub fewer-before : (g : Setting) (r : ForeignId) (e : Event) (h : List Event) → IsTaken g (e ∷ h) → nat_lt (times_held r (Space.state_of g (e ∷ h)).leases) 18446744073709551615 ≡ true → nat_lt (times_held r (Space.state_of g h).leases) 18446744073709551615 ≡ true
unfolding Space.state_of
fewer-before g r e h t lt =
    let a : times_held r (Space.state_of g h).leases ≤ times_held r (Space.on g e (Space.state_of g h)).0.leases = past-held g r t.0.0 (Space.state_of g h) e t.0.1 (numbered-of g h t.1) in
    let b : times_held r (Space.on g e (Space.state_of g h)).0.leases < 18446744073709551615 = ltb-true (times_held r (Space.on g e (Space.state_of g h)).0.leases) 18446744073709551615 lt in
    lt-ltb (times_held r (Space.state_of g h).leases) 18446744073709551615 (omega arith)

-- holders are those that are started, and those that wait
pub parts-of-holders : (g : Setting) (s : State) (r : ForeignId) → holders_of g s r ≡ started_of g s r + awaited_of s r
parts-of-holders g s r = omega arith

counted-parts : HoldersAreCounted → (g : Setting) (h : List Event) (r : ForeignId) → IsTaken g h → nat_lt (times_held r (Space.state_of g h).leases) 18446744073709551615 ≡ true → (lease_now (Space.state_of g h) r).holders ≡ started_of g (Space.state_of g h) r + awaited_of (Space.state_of g h) r
counted-parts counts g h r t lt = counts g h t r lt ∙ parts-of-holders g (Space.state_of g h) r

-- before the end of an event
happens-kept : (g : Setting) (r : ForeignId) (e : Event) (h : List Event) → IsTaken g (e ∷ h) → OpensOnce (e ∷ h) → GrantedOrFree g r (Space.state_of g h) → GrantedOrFree g r (Space.happen g e (Space.state_of g h))
happens-kept g r e h t o (inl granted) = inl (granted-happens g r t.0.0 (Space.state_of g h) e t.0.1 (numbered-of g h t.1) granted)
happens-kept g r e h t o (inr free) = by (has_lease (Space.state_of g h) r) refl
  where
    by : (b : Bool) → has_lease (Space.state_of g h) r ≡ b → GrantedOrFree g r (Space.happen g e (Space.state_of g h))
    by true leased = inl (granted-happens g r t.0.0 (Space.state_of g h) e t.0.1 (numbered-of g h t.1) (lease-granted (own r (Space.state_of g h).leases) leased))
    by false lacks = free-happens g r t.0.0 (Space.state_of g h) e t.0.1 (record { waits = (own-only g h t.1).parts.kept; once = parked-once g h t.1 o.1; lacks = lacks }) (numbered-of g h t.1) free

-- and at its end
ends-kept : HoldersAreCounted → (g : Setting) (r : ForeignId) (e : Event) (h : List Event) → IsTaken g (e ∷ h) → nat_lt (times_held r (Space.state_of g (e ∷ h)).leases) 18446744073709551615 ≡ true → GrantedOrFree g r (Space.happen g e (Space.state_of g h)) → GrantedOrFree g r (Space.state_of g (e ∷ h))
unfolding Space.state_of
ends-kept counts g r e h t lt k = by (Space.answers_outputs e) (ends-stocks g e (Space.state_of g h)) k
  where
    u : State
    u = Space.happen g e (Space.state_of g h)

    new : State
    new = (Space.on g e (Space.state_of g h)).0

    settled : stocks_of new ≡ stocks_of (Requests.settle u) → (is_granted (Requests.settle u) r ≡ true) ⊎ ((lease_now (Requests.settle u) r).holders ≡ 0) → GrantedOrFree g r new
    settled same (inl granted) = inl (same-granted r new (Requests.settle u) same granted)
    settled same (inr none) =
        let a : (lease_now new r).holders ≡ started_of g new r + awaited_of new r = counted-parts counts g (e ∷ h) r t lt in
        let b : (lease_now new r).holders ≡ 0 = subst (λ (c : Stocks). (lease_of (own r c.leases)).holders ≡ 0) (sym same) none in
        inr (counts-free g r new (numbered-of g (e ∷ h) t) (omega arith))

    by : (b : Bool) → stocks_of new ≡ stocks_of (ended b u) → GrantedOrFree g r u → GrantedOrFree g r new
    by true same (inl granted) = settled same (settle-granted u r granted)
    by true same (inr free) = inr (same-free g r new (Requests.settle u) same (settle-grown (free-plain g r) (λ b call h k. tt) free))
    by false same (inl granted) = inl (same-granted r new u same granted)
    by false same (inr free) = inr (same-free g r new u same free)

pub granted-or-free : HoldersAreCounted → (g : Setting) (r : ForeignId) (h : List Event) → IsTaken g h → OpensOnce h → nat_lt (times_held r (Space.state_of g h).leases) 18446744073709551615 ≡ true → GrantedOrFree g r (Space.state_of g h)
unfolding Space.state_of opening
granted-or-free counts g r [] t o lt = inr (counts-free g r opening (record { numbers = tt; unwritten = λ id slot high. refl }) refl)
granted-or-free counts g r (e ∷ h) t o lt = ends-kept counts g r e h t lt (happens-kept g r e h t o (granted-or-free counts g r h t.1 o.1 (fewer-before g r e h t lt)))

pub what_is_held_is_granted : HoldersAreCounted → WhatIsHeldIsGranted
what_is_held_is_granted counts g h r t o lt = record { held = by (granted-or-free counts g r h t o lt); leased = lease-granted (own r (Space.state_of g h).leases) }
  where
    by : GrantedOrFree g r (Space.state_of g h) → 1 ≤ started_of g (Space.state_of g h) r → is_granted (Space.state_of g h) r ≡ true
    by (inl granted) le = granted
    by (inr free) le = let z : started_of g (Space.state_of g h) r ≡ 0 = free-counts g r (Space.state_of g h) free in absurd (omega arith)

-- ---- dirty calls on their way

-- no dirty call is on its way that was not
abbrev Fewer : ForeignId → State → List Told → Type 0
Fewer r s h = is_some (lease_of (own r h)).dirty ≡ true → is_some (lease_now s r).dirty ≡ true

by-test : (P : Rattle.dgc_client.specs.declared.lease.ClientLease.ClientLease → Type 0) (b : Bool) (l k : Rattle.dgc_client.specs.declared.lease.ClientLease.ClientLease) → P l → P k → P (if b then l else k)
by-test P true l k f g = f
by-test P false l k f g = g

plain-dirty : (e : lease_events.Event) → is_plain e ≡ true → (k : List lease_events.Event) → is_some (lease_of (e ∷ k)).dirty ≡ true → is_some (lease_of k).dirty ≡ true
plain-dirty lease_events.Held p k a = a
plain-dirty lease_events.Dropped p k a = a
plain-dirty (lease_events.Moment moment) p k a = absurd (true≢false (sym p))
plain-dirty (lease_events.DirtyMade call) p k a = absurd (true≢false (sym p))
plain-dirty (lease_events.CleanMade call) p k a = absurd (true≢false (sym p))
plain-dirty (lease_events.DirtySent call) p k a = sent-some (lease_of k).dirty call (lease_of k).moment a
plain-dirty (lease_events.DirtyAnswered call period) p k a = absurd (true≢false (sym p))
plain-dirty (lease_events.DirtyFailed call) p k a = by-test (λ l. is_some l.dirty ≡ true → is_some (lease_of k).dirty ≡ true) (lease.is_made (lease_of k).dirty call) _ (lease_of k) (λ x. absurd (true≢false (sym x))) (λ x. x) a
plain-dirty (lease_events.CleanAnswered call) p k a = by-test (λ l. is_some l.dirty ≡ true → is_some (lease_of k).dirty ≡ true) (lease.is_clean (lease_of k).clean call) _ (lease_of k) (λ x. x) (λ x. x) a
plain-dirty (lease_events.CleanFailed call) p k a = by-test (λ l. is_some l.dirty ≡ true → is_some (lease_of k).dirty ≡ true) (lease.is_clean (lease_of k).clean call) _ (lease_of k) (λ x. x) (λ x. x) a

moment-dirty : (moment : ℕ) (k : List lease_events.Event) → is_some (lease_of (lease_events.Moment moment ∷ k)).dirty ≡ true → is_some (lease_of k).dirty ≡ true
moment-dirty moment k a = by-test (λ l. is_some l.dirty ≡ true → is_some (lease_of k).dirty ≡ true) (nat_lt moment (lease_of k).moment) _ (lease.at_moment moment (lease_of k)) (λ x. x) (λ x. x) a

fewer-plain : (g : Setting) (r : ForeignId) (s : State) → Plain g AnyRef (Fewer r s)
fewer-plain g r s = record {
  own = λ id class. tt;
  on = λ x e h p k. own-or-not (λ l. is_some (lease_of l).dirty ≡ true → is_some (lease_now s r).dirty ≡ true) r x e h k (λ a. k (plain-dirty e p (own r h) a));
  at = λ moment h k a. k (moment-dirty moment (own r h) a);
  numbered = λ h k. k;
}

-- an event that answers nothing, a commit or a give-back, parks nothing
held-parked : (ids : List ForeignId) (s : State) → (hold_ids ids s).parked ≡ s.parked
unfolding hold_ids each
held-parked [] s = refl
held-parked (r ∷ ids) s = held-parked ids (Holders.holder_comes s r)

dropped-parked : (ids : List ForeignId) (s : State) → (drop_ids ids s).parked ≡ s.parked
unfolding drop_ids each
dropped-parked [] s = refl
dropped-parked (r ∷ ids) s = dropped-parked ids (Holders.holder_goes s r)

op-parked : (g : Setting) (op : Op) (s : State) → (LivingTasks.after_op g op s).parked ≡ s.parked
unfolding LivingTasks.after_op
op-parked g (Create class) s = by (LivingTasks.is_full s)
  where
    by : (b : Bool) → (if b then s else record s { objects_made = s.objects_made + 1; store = Rattle.sp_rules.specs.State.Made (LivingTasks.next_object s) class ∷ s.store }).parked ≡ s.parked
    by true = refl
    by false = refl
op-parked g (Get id slot) s = refl
op-parked g (Put id slot value) s = dropped-parked _ _ ∙ held-parked _ _
op-parked g (Call target method arguments) s = refl

commit-parked : (g : Setting) (id k : ℕ) (op : Op) (s : State) → (LivingTasks.commit g id k op s).parked ≡ s.parked
unfolding LivingTasks.commit
commit-parked g id k op s = by (ready_at s id)
  where
    by : (o : Option Living) → (with_some o s (λ t. LivingTasks.after_op g op (Holders.hold g (gained t.task (answer g (LivingTasks.op_reply g op s) (steps k t.task)))
        (set_task (λ (u : Living). LivingTasks.after_reply g (LivingTasks.op_reply g op s) (LivingTasks.after_steps k u)) id s)))).parked ≡ s.parked
    by None = refl
    by (Some t) = op-parked g op _ ∙ held-parked _ _

give-parked : (id k : ℕ) (s : State) → (LivingTasks.give_back id k s).parked ≡ s.parked
unfolding LivingTasks.give_back
give-parked id k s = by (ready_at s id)
  where
    by : (o : Option Living) → (with_some o s (λ t. set_task (LivingTasks.after_steps k) id s)).parked ≡ s.parked
    by None = refl
    by (Some t) = refl

silent-parked : (g : Setting) (e : Event) (s : State) → Space.answers_outputs e ≡ false → (Space.happen g e s).parked ≡ s.parked
unfolding Space.happen
silent-parked g (Committed task k op) s a = commit-parked g task k op s
silent-parked g (GivenBack task k) s a = give-parked task k s
silent-parked g (Moment moment) s a = absurd (true≢false a)
silent-parked g Sweep s a = absurd (true≢false a)
silent-parked g (Root method arguments fuel) s a = absurd (true≢false a)
silent-parked g (RootAck task) s a = absurd (true≢false a)
silent-parked g (Bind name value) s a = absurd (true≢false a)
silent-parked g (Rebind name value) s a = absurd (true≢false a)
silent-parked g (Unbind name) s a = absurd (true≢false a)
silent-parked g (Lookup peer name) s a = absurd (true≢false a)
silent-parked g (Opened conn dialled) s a = absurd (true≢false a)
silent-parked g (Refused peer) s a = absurd (true≢false a)
silent-parked g (Received conn m) s a = absurd (true≢false a)
silent-parked g (Closed conn) s a = absurd (true≢false a)
silent-parked g (ReadFailed conn) s a = absurd (true≢false a)
silent-parked g (Bad conn) s a = absurd (true≢false a)
silent-parked g (WriteFailed conn unsent) s a = absurd (true≢false a)
silent-parked g (Parked task k) s a = absurd (true≢false a)
silent-parked g (Finished task k) s a = absurd (true≢false a)

silent-comes : (g : Setting) (r : ForeignId) (lent : List ℕ) (s : State) (e : Event) → Space.answers_outputs e ≡ false → refusal g lent s e ≡ None → Numbered s → Fewer r s (Space.happen g e s).leases
silent-comes g r lent s e a t n = (happen_grown (fewer-plain g r s) e (brings e a t) (any-grown g (Fewer r s) s n (λ x. x))).parts.told
  where
    brings : (e : Event) → Space.answers_outputs e ≡ false → refusal g lent s e ≡ None → Rattle.sp_held_laws.proofs.GrownFrames.HappensWell g AnyRef (Fewer r s) s e
    brings (Committed task k op) a t = Rattle.sp_held_laws.proofs.GrantRules.op-brings (fewer-plain g r s) lent task k op t (any-grown g (Fewer r s) s n (λ x. x))
    brings (GivenBack task k) a t = tt
    brings (Moment moment) a t = tt
    brings Sweep a t = tt
    brings (Root method arguments fuel) a t = absurd (true≢false a)
    brings (RootAck task) a t = tt
    brings (Bind name value) a t = tt
    brings (Rebind name value) a t = tt
    brings (Unbind name) a t = tt
    brings (Lookup peer name) a t = tt
    brings (Opened conn dialled) a t = tt
    brings (Refused peer) a t = tt
    brings (Received conn m) a t = absurd (true≢false a)
    brings (Closed conn) a t = tt
    brings (ReadFailed conn) a t = tt
    brings (Bad conn) a t = tt
    brings (WriteFailed conn unsent) a t = tt
    brings (Parked task k) a t = tt
    brings (Finished task k) a t = absurd (true≢false a)

awaited-or : (s : State) (r : ForeignId) (n m : ℕ) → 1 ≤ n + m → (1 ≤ n → is_granted s r ≡ true) → (is_granted s r ≡ true) ⊎ (1 ≤ m)
awaited-or s r n m le granted = by (nat_le 1 n) refl
  where
    by : (b : Bool) → nat_le 1 n ≡ b → (is_granted s r ≡ true) ⊎ (1 ≤ m)
    by true e = inl (granted (leb-true 1 n e))
    by false e = let z : n < 1 = leb-false 1 n e in inr (omega arith)

pub dirty_calls_are_awaited : HoldersAreCounted → DirtyCallsAreAwaited
unfolding Space.state_of opening
dirty_calls_are_awaited counts g [] r t o lt some = absurd (true≢false (sym some))
dirty_calls_are_awaited counts g (e ∷ h) r t o lt some = by (Space.answers_outputs e) refl (ends-stocks g e (Space.state_of g h)) (dirty_calls_are_awaited counts g h r t.1 o.1 (fewer-before g r e h t lt))
  where
    u : State
    u = Space.happen g e (Space.state_of g h)

    new : State
    new = (Space.on g e (Space.state_of g h)).0

    carried : stocks_of new ≡ stocks_of u → u.parked ≡ (Space.state_of g h).parked → (is_granted (Space.state_of g h) r ≡ true) ⊎ (1 ≤ awaited_of (Space.state_of g h) r) → (is_granted new r ≡ true) ⊎ (1 ≤ awaited_of new r)
    carried same parked (inl granted) = inl (same-granted r new u same (granted-happens g r t.0.0 (Space.state_of g h) e t.0.1 (numbered-of g h t.1) granted))
    carried same parked (inr le) = inr (subst (λ (ps : List ParkedFrame). 1 ≤ total (λ (p : ParkedFrame). times_in r p.references) ps) (sym (ap (λ (c : Stocks). c.parked) same ∙ parked)) le)

    by : (b : Bool) → Space.answers_outputs e ≡ b → stocks_of new ≡ stocks_of (ended b u) → (is_some (lease_now (Space.state_of g h) r).dirty ≡ true → (is_granted (Space.state_of g h) r ≡ true) ⊎ (1 ≤ awaited_of (Space.state_of g h) r))
        → (is_granted new r ≡ true) ⊎ (1 ≤ awaited_of new r)
    by true a same before =
        let dirty : is_some (lease_now (Requests.settle u) r).dirty ≡ true = subst (λ (c : Stocks). is_some (lease_of (own r c.leases)).dirty ≡ true) same some in
        let le : 1 ≤ (lease_now (Requests.settle u) r).holders = settle-dirty u r dirty in
        let held : (lease_now new r).holders ≡ (lease_now (Requests.settle u) r).holders = ap (λ (c : Stocks). (lease_of (own r c.leases)).holders) same in
        let parts : (lease_now new r).holders ≡ started_of g new r + awaited_of new r = counted-parts counts g (e ∷ h) r t lt in
        awaited-or new r (started_of g new r) (awaited_of new r) (omega arith) (what_is_held_is_granted counts g (e ∷ h) r t o lt).held
    by false a same before = carried same (silent-parked g e (Space.state_of g h) a)
        (before (silent-comes g r t.0.0 (Space.state_of g h) e a t.0.1 (numbered-of g h t.1) (subst (λ (c : Stocks). is_some (lease_of (own r c.leases)).dirty ≡ true) same some)))
