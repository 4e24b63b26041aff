-- What an event of a space does to what is started and to what is granted, before its end.
use mathlib.Core.Path.{sym, ap, subst, ◌∙◌}
use Rattle.std.proofs.Common.{inl, inr}
use Rattle.std.proofs.lemmas.Bool.{true≢false}
use Rattle.std.proofs.lemmas.Slice.Eq.{bytes_eq-Decides}
use Rattle.std.specs.Prelude.{◌≡◌, ◌⊎◌, refl, ℕ, ◌+◌, ◌≤◌, ◌&&◌, nat_le, is_some, is_none, Bool, true, false, List, [], ◌∷◌, ◌++◌, Option, None, Some, find, filter, map, if◌then◌else◌}
use Rattle.std.specs.List.{list_all}
use Rattle.std.specs.Str.{bytes_eq}
use Rattle.dgc_client.specs.History as lease_events
use Rattle.dgc_client.specs.Lease as lease
use Rattle.dgc_client.specs.Table as client
use Rattle.dgc_client.specs.Table.{Told, On, own}
use Rattle.space_ids.specs.declared.ids.ForeignId.{ForeignId}
use Rattle.space_ids.specs.declared.ids.Ref.{Ref}
use Rattle.space_ids.specs.declared.value.Value.{Value}
use Rattle.net_message.specs.declared.message.Message.{Message}
use Rattle.net_message.specs.declared.message.Message.TheVariants as message
use Rattle.sp_rules.specs.Behaviours.{Op}
use Rattle.sp_rules.specs.Classes.{Setting}
use Rattle.sp_rules.specs.Events.{Event, Moment, Sweep, Root, RootAck, Bind, Rebind, Unbind, Lookup, Opened, Refused, Received, Closed, ReadFailed, Bad, WriteFailed, Committed, Parked, GivenBack, Finished}
use Rattle.sp_rules.specs.Frames
use Rattle.sp_rules.specs.Holders
use Rattle.sp_rules.specs.Holders.{lease_now, hold_ids}
use Rattle.sp_rules.specs.Laws.{AllOf}
use Rattle.sp_rules.specs.Lists.{each}
use Rattle.sp_rules.specs.Origins.{own_reference}
use Rattle.sp_rules.specs.OwnEvents
use Rattle.sp_rules.specs.ParkedFrames
use Rattle.sp_rules.specs.ParkedFrames.{has_lease}
use Rattle.sp_rules.specs.References.{references_of, references_in}
use Rattle.sp_rules.specs.Refusals
use Rattle.sp_rules.specs.Refusals.{refusal}
use Rattle.sp_rules.specs.Space
use Rattle.sp_rules.specs.State.{State, Object, Living, Request, Asked, Calls, LooksUp, Tells, KeptResult, ParkedFrame, Connection, standing, ready_at, connection_at}
use Rattle.sp_rules.specs.Tasks.{stand, steps}
use Rattle.sp_rules.proofs.AllLemmas.{all-weaken, all-more}
use Rattle.sp_rules.proofs.OriginLemmas.{FieldsAre, Only, OpBrings, EndIs}
use Rattle.sp_rules.proofs.OriginsOfFrames.{Waits, Brings, is_none_of}
use Rattle.sp_rules.proofs.OwnLemmas.{taken-brings, own-only, root-arguments, unrefused}
use Rattle.sp_held_laws.specs.Granted.{was_granted, is_granted}
use Rattle.sp_held_laws.proofs.GrownRules.{Grown, Plain, is_plain, quiet}
use Rattle.sp_held_laws.proofs.GrownFrames.{Any, any-all, FrameOf, MayGo, AllMayGo, parking, ParksWell, call_row, result_row, marking, telling, TellsWell, ComesWell, ReceivedWell, HappensWell, happen_grown, all_go_grown, parked_weaken}
use Rattle.sp_held_laws.proofs.GrantLemmas.{lease-granted, own-or-not, plain-granted, answers-granted, each-plain-granted}
use Rattle.sp_held_laws.proofs.ParkedLemmas.{ParkedOnce, times_parked, each-once, none-before-call, none-before-result, more-once}
use Rattle.sp_held_laws.proofs.FreeLemmas.{NotIt, own-not-it, other-not-it, AnyTold, Free, Numbered, may-all-go}

-- ---- what a taken event brings

abbrev pub AnyRef : Ref → Type 0
AnyRef x = Unit {0}

pub any-refs : (refs : List Ref) → AllOf AnyRef refs
any-refs [] = tt
any-refs (x ∷ refs) = (tt, any-refs refs)

each-own : (g : Setting) (Is : Ref → Type 0) (T : List Told → Type 0) → Plain g Is T → (os : List Object) → AllOf (λ (o : Object). Is (own_reference g o)) os
each-own g Is T M [] = tt
each-own g Is T M (o ∷ os) = (M.own o.id o.class, each-own g Is T M os)

-- the same space with nothing parked and nothing asked
abbrev bare : State → State
bare s = record s { parked = []; requests = []; fresh = []; notes = [] }

only-bare : {g : Setting} {Is : Ref → Type 0} {T : List Told → Type 0} {K : ParkedFrame → Type 0} {s : State} → Plain g Is T → Grown g Is T K s → Only g Is AnyRef (Waits g) (bare s)
only-bare {g} {Is} {T} {K} {s} M h = record {
  parts = record {
    lets = λ r is. tt;
    objects = each-own g Is T M (standing s.store);
    numbers = h.parts.numbers;
    unwritten = h.parts.unwritten;
    fields = h.parts.fields;
    tasks = h.parts.tasks;
    results = h.parts.results;
    parked = tt;
    kept = tt;
    requests = tt;
    fresh = tt;
    notes = tt;
  };
}

-- an operation that is done, and a task that ends, bring what tasks hold
pub op-brings : {g : Setting} {Is : Ref → Type 0} {T : List Told → Type 0} {K : ParkedFrame → Type 0} {s : State} (M : Plain g Is T) (lent : List ℕ) (task k : ℕ) (op : Op) → refusal g lent s (Committed task k op) ≡ None → Grown g Is T K s → OpBrings g Is s.objects_made s.store op
unfolding refusal
op-brings {g} {Is} {T} {K} {s} M lent task k op e h = taken-brings {s = bare s} lent (Committed task k op) e (makes op) (only-bare M h)
  where
    makes : (op : Op) → Rattle.sp_rules.proofs.OwnLemmas.EventIs g Is (bare s) (Committed task k op)
    makes (Rattle.sp_rules.specs.Behaviours.Create class) = λ full. M.own _ class
    makes (Rattle.sp_rules.specs.Behaviours.Get id slot) = tt
    makes (Rattle.sp_rules.specs.Behaviours.Put id slot value) = tt
    makes (Rattle.sp_rules.specs.Behaviours.Call target method arguments) = tt

end-brings : {g : Setting} {Is : Ref → Type 0} {T : List Told → Type 0} {K : ParkedFrame → Type 0} {s : State} (M : Plain g Is T) (lent : List ℕ) (task k : ℕ) → refusal g lent s (Finished task k) ≡ None → Grown g Is T K s
    → (t : Living) → ready_at s task ≡ Some t → EndIs Is (stand (steps k t.task))
unfolding refusal
end-brings {s = s} M lent task k e h = taken-brings {s = bare s} lent (Finished task k) e tt (only-bare M h)

-- ---- what is granted stays granted

abbrev pub Granted : ForeignId → List Told → Type 0
Granted r h = was_granted (own r h) ≡ true

pub granted-plain : (g : Setting) (r : ForeignId) → Plain g AnyRef (Granted r)
granted-plain g r = record {
  own = λ id class. tt;
  on = λ x e h p k. plain-granted r x e h p ∙ k;
  at = λ moment h k. k;
  numbered = λ h k. k;
}

pub any-may-go : (s : State) (qs : List ParkedFrame) → AllOf (AllMayGo AnyRef s) qs
any-may-go s [] = tt
any-may-go s (q ∷ qs) = (each-may (filter (λ (p : ParkedFrame). list_all (has_lease s) p.references) s.parked), any-may-go s qs)
  where
    each-may : (ps : List ParkedFrame) → AllOf (λ p. MayGo AnyRef p q) ps
    each-may [] = tt
    each-may (p ∷ ps) = ((λ e. any-refs _), each-may ps)

granted-comes : (g : Setting) (r : ForeignId) (s : State) (c : Connection) (m : Message) → is_granted s r ≡ true → ComesWell g AnyRef (Granted r) s c m
granted-comes g r s c (message.Hello version space digest) e = tt
granted-comes g r s c (message.Call number object method fuel arguments) e = λ above o. any-may-go (parking (call_row g c.number number o method fuel arguments) (Frames.counted c.number number s)) _
granted-comes g r s c (message.Returned number fuel value) e = λ q is. any-may-go (parking (result_row g c.number number value fuel) (marking c.number number s)) _
granted-comes g r s c (message.Threw number class) e = tt
granted-comes g r s c (message.Spent number) e = tt
granted-comes g r s c (message.Ack number) e = tt
granted-comes g r s c (message.Dirty sequence period objects) e = tt
granted-comes g r s c (message.Clean sequence strong objects) e = tt
granted-comes g r s c (message.Lookup number name) e = tt
granted-comes g r s c (message.Lease sequence period) e = λ q is. (told q.asked, any-may-go (telling true c.number sequence (λ call. lease_events.DirtyAnswered call period) q s) _)
  where
    told : (asked : Asked) → Granted r (Frames.group_told (λ call. lease_events.DirtyAnswered call period) asked (ParkedFrames.remove_requests (Frames.tells_on true c.number sequence) s)).leases
    told (Calls n task lent kind x) = e
    told (LooksUp n task name) = e
    told (Tells call group) = answers-granted r call period (client.references_at group.peer group.ids) s.leases e
granted-comes g r s c (message.Cleaned sequence) e = λ q is. (told q.asked, any-may-go (telling false c.number sequence lease_events.CleanAnswered q s) _)
  where
    told : (asked : Asked) → Granted r (Frames.group_told lease_events.CleanAnswered asked (ParkedFrames.remove_requests (Frames.tells_on false c.number sequence) s)).leases
    told (Calls n task lent kind x) = e
    told (LooksUp n task name) = e
    told (Tells call group) = each-plain-granted r (lease_events.CleanAnswered call) refl (client.references_at group.peer group.ids) s.leases ∙ e

any-fields : (g : Setting) (s : State) (os : List Object) → AllOf (FieldsAre g AnyRef s.store) os
any-fields g s [] = tt
any-fields g s (o ∷ os) = ((λ slot has. any-refs _), any-fields g s os)

any-tasks : (ts : List Living) → AllOf (λ (t : Living). AllOf AnyRef t.task.held) ts
any-tasks [] = tt
any-tasks (t ∷ ts) = (any-refs t.task.held, any-tasks ts)

any-results : (ks : List KeptResult) → AllOf (λ (k : KeptResult). AllOf AnyRef (references_in k.value)) ks
any-results [] = tt
any-results (k ∷ ks) = (any-refs (references_in k.value), any-results ks)

pub any-grown : (g : Setting) (T : List Told → Type 0) (s : State) → Numbered s → T s.leases → Grown g AnyRef T Any s
any-grown g T s n t = record {
  parts = record {
    numbers = n.numbers;
    unwritten = n.unwritten;
    fields = any-fields g s (standing s.store);
    tasks = any-tasks s.tasks;
    results = any-results s.results;
    told = t;
    parked = any-all s.parked;
  };
}

-- each event brings any reference
pub any-happens : (g : Setting) (T : List Told → Type 0) (M : Plain g AnyRef T) (lent : List ℕ) (s : State) (e : Event) → refusal g lent s e ≡ None → Numbered s → T s.leases
    → ((conn : ℕ) (m : Message) → e ≡ Received conn m → (c : Connection) → connection_at s conn ≡ Some c → ComesWell g AnyRef T s c m) → HappensWell g AnyRef T s e
any-happens g T M lent s (Moment moment) t n k b = tt
any-happens g T M lent s Sweep t n k b = tt
any-happens g T M lent s (Root method arguments fuel) t n k b = any-refs (references_of arguments)
any-happens g T M lent s (RootAck task) t n k b = tt
any-happens g T M lent s (Bind name value) t n k b = tt
any-happens g T M lent s (Rebind name value) t n k b = tt
any-happens g T M lent s (Unbind name) t n k b = tt
any-happens g T M lent s (Lookup peer name) t n k b = tt
any-happens g T M lent s (Opened conn dialled) t n k b = tt
any-happens g T M lent s (Refused peer) t n k b = tt
any-happens g T M lent s (Received conn m) t n k b = λ c is greeted way. b conn m refl c is
any-happens g T M lent s (Closed conn) t n k b = tt
any-happens g T M lent s (ReadFailed conn) t n k b = tt
any-happens g T M lent s (Bad conn) t n k b = tt
any-happens g T M lent s (WriteFailed conn unsent) t n k b = tt
any-happens g T M lent s (Committed task made op) t n k b = op-brings M lent task made op t (any-grown g T s n k)
any-happens g T M lent s (Parked task made) t n k b = tt
any-happens g T M lent s (GivenBack task made) t n k b = tt
any-happens g T M lent s (Finished task made) t n k b = end-brings M lent task made t (any-grown g T s n k)

-- what is granted is granted still as the event ends
pub granted-happens : (g : Setting) (r : ForeignId) (lent : List ℕ) (s : State) (e : Event) → refusal g lent s e ≡ None → Numbered s → is_granted s r ≡ true → is_granted (Space.happen g e s) r ≡ true
granted-happens g r lent s e t n k =
    (happen_grown (granted-plain g r) e (any-happens g (Granted r) (granted-plain g r) lent s e t n k (λ conn m same c is. granted-comes g r s c m k)) (any-grown g (Granted r) s n k)).parts.told

-- ---- what is free stays free, unless it is granted

pub free-plain : (g : Setting) (r : ForeignId) → Plain g (NotIt g r) AnyTold
free-plain g r = record {
  own = λ id class. own-not-it g r (record { space = g.id; id = id; class = class }) ((bytes_eq-Decides g.id g.id).1 refl);
  on = λ x e h p k. tt;
  at = λ moment h k. tt;
  numbered = λ h k. tt;
}

-- whether a reference has a lease, by what is told
abbrev leased_in : ForeignId → List Told → Bool
leased_in r h = is_some (lease_events.lease_of (own r h)).lease

held-same : (r : ForeignId) (ids : List ForeignId) (s : State) → has_lease (hold_ids ids s) r ≡ has_lease s r
unfolding hold_ids each
held-same r [] s = refl
held-same r (x ∷ ids) s = held-same r ids (Holders.holder_comes s x) ∙ own-or-not (λ k. is_some (lease_events.lease_of k).lease ≡ has_lease s r) r x lease_events.Held s.leases refl refl

held-parked : (ids : List ForeignId) (s : State) → (hold_ids ids s).parked ≡ s.parked
unfolding hold_ids each
held-parked [] s = refl
held-parked (r ∷ ids) s = held-parked ids (Holders.holder_comes s r)

answered-same : (r : ForeignId) (call : ℕ) (xs : List ForeignId) (h : List Told) → leased_in r (client.on_each xs (lease_events.CleanAnswered call) h) ≡ leased_in r h
answered-same r call [] h = refl
answered-same r call (x ∷ xs) h = answered-same r call xs (On x (lease_events.CleanAnswered call) ∷ h)
    ∙ own-or-not (λ k. is_some (lease_events.lease_of k).lease ≡ leased_in r h) r x (lease_events.CleanAnswered call) h refl (by (lease.is_clean (lease_events.lease_of (own r h)).clean call))
  where
    by : (b : Bool) → is_some (if b then record (lease_events.lease_of (own r h)) { clean = None } else lease_events.lease_of (own r h)).lease ≡ leased_in r h
    by true = refl
    by false = refl

-- What is known of a space before an event: what parked frames wait for, that they are one for each number, and that the reference has no lease.
pub record Before (g : Setting) (r : ForeignId) (s : State) : Type 0 where
  pub waits : AllOf (Waits g) s.parked
  pub once : ParkedOnce s
  pub lacks : has_lease s r ≡ false

-- a frame is parked where none was under its number, and waits for its references, or goes at once
parks-well : (g : Setting) (r : ForeignId) (s : State) (row : ParkedFrame) → Before g r s → (t : State) → t.parked ≡ s.parked → t.leases ≡ s.leases → Rattle.sp_rules.proofs.OriginsOfFrames.Matches g row.frame row.references
    → times_parked row.conn row.number s.parked ≡ 0 → ParksWell (NotIt g r) row t
parks-well g r s row b t same told m none = ready
  where
    all : List ParkedFrame
    all = s.parked ++ row ∷ []

    there : (parking row t).parked ≡ all
    there = held-parked row.references (record t { parked = t.parked ++ row ∷ [] }) ∙ ap (λ ps. ps ++ row ∷ []) same

    lacks : has_lease (parking row t) r ≡ false
    lacks = held-same r row.references (record t { parked = t.parked ++ row ∷ [] }) ∙ (ap (λ h. leased_in r h) told ∙ b.lacks)

    ready : ParksWell (NotIt g r) row t
    ready = Rattle.sp_held_laws.proofs.FreeLemmas.may-go-all g r (parking row t) lacks (subst (AllOf (λ (p : ParkedFrame). Rattle.sp_rules.proofs.OriginsOfFrames.Matches g p.frame p.references)) (sym there)
        (all-more (λ (p : ParkedFrame). Rattle.sp_rules.proofs.OriginsOfFrames.Matches g p.frame p.references) s.parked row (all-weaken (Waits g) (λ (p : ParkedFrame). Rattle.sp_rules.proofs.OriginsOfFrames.Matches g p.frame p.references) s.parked (λ p w. w.0) b.waits) m))
        (λ conn k. subst (λ ps. times_parked conn k ps ≤ 1) (sym there) (more-once row s.parked (each-once b.once) none conn k))

-- ---- answers to dirty and clean calls

telling-parked : (dirty : Bool) (conn sequence : ℕ) (event : ℕ → lease_events.Event) (q : Request) (s : State) → (telling dirty conn sequence event q s).parked ≡ s.parked
telling-parked dirty conn sequence event q s = by q.asked
  where
    by : (asked : Asked) → (Frames.group_told event asked (ParkedFrames.remove_requests (Frames.tells_on dirty conn sequence) s)).parked ≡ s.parked
    by (Calls n task lent kind m) = refl
    by (LooksUp n task name) = refl
    by (Tells call group) = refl

telling-numbered : (dirty : Bool) (conn sequence : ℕ) (event : ℕ → lease_events.Event) (q : Request) (s : State) → Numbered s → Numbered (telling dirty conn sequence event q s)
telling-numbered dirty conn sequence event q s n = by q.asked
  where
    by : (asked : Asked) → Numbered (Frames.group_told event asked (ParkedFrames.remove_requests (Frames.tells_on dirty conn sequence) s))
    by (Calls x task lent kind m) = record { numbers = n.numbers; unwritten = n.unwritten }
    by (LooksUp x task name) = record { numbers = n.numbers; unwritten = n.unwritten }
    by (Tells call group) = record { numbers = n.numbers; unwritten = n.unwritten }

telling-free : (g : Setting) (r : ForeignId) (dirty : Bool) (conn sequence : ℕ) (event : ℕ → lease_events.Event) (q : Request) (s : State) → Free g r s → Free g r (telling dirty conn sequence event q s)
telling-free g r dirty conn sequence event q s h = by q.asked
  where
    by : (asked : Asked) → Free g r (Frames.group_told event asked (ParkedFrames.remove_requests (Frames.tells_on dirty conn sequence) s))
    by (Calls x task lent kind m) = quiet _ refl h
    by (LooksUp x task name) = quiet _ refl h
    by (Tells call group) = quiet _ refl (Rattle.sp_held_laws.proofs.GrownRules.now_told (client.told group (event call) s.leases) tt h)

cleaned-lacks : (r : ForeignId) (conn sequence : ℕ) (q : Request) (s : State) → has_lease s r ≡ false → has_lease (telling false conn sequence lease_events.CleanAnswered q s) r ≡ false
cleaned-lacks r conn sequence q s e = by q.asked
  where
    by : (asked : Asked) → has_lease (Frames.group_told lease_events.CleanAnswered asked (ParkedFrames.remove_requests (Frames.tells_on false conn sequence) s)) r ≡ false
    by (Calls n task lent kind m) = e
    by (LooksUp n task name) = e
    by (Tells call group) = answered-same r call (client.references_at group.peer group.ids) s.leases ∙ e

telling-goes : (g : Setting) (r : ForeignId) (dirty : Bool) (conn sequence : ℕ) (event : ℕ → lease_events.Event) (q : Request) (s : State) → Before g r s → has_lease (telling dirty conn sequence event q s) r ≡ false
    → AllOf (AllMayGo (NotIt g r) (telling dirty conn sequence event q s)) (telling dirty conn sequence event q s).parked
telling-goes g r dirty conn sequence event q s b lacks = may-all-go g r (telling dirty conn sequence event q s) lacks
    (subst (AllOf (Waits g)) (sym (telling-parked dirty conn sequence event q s)) b.waits)
    (λ c k. subst (λ ps. times_parked c k ps ≤ 1) (sym (telling-parked dirty conn sequence event q s)) (each-once b.once c k))

-- ---- what is free stays free, event by event

abbrev is_lease : Message → Bool
is_lease (message.Lease sequence period) = true
is_lease _ = false

not-true : (b : Bool) → Rattle.std.specs.Prelude.not b ≡ false → b ≡ true
not-true true e = refl
not-true false e = absurd (true≢false e)

free-comes : (g : Setting) (r : ForeignId) (s : State) (conn : ℕ) (c : Connection) (m : Message) → is_lease m ≡ false → Before g r s → connection_at s conn ≡ Some c → Frames.is_wrong_way (Frames.is_asking m) (is_some c.dialled) ≡ false → ComesWell g (NotIt g r) AnyTold s c m
free-comes g r s conn c (message.Hello version space digest) l b is way = tt
free-comes g r s conn c (message.Call number object method fuel arguments) l b is way = λ above o.
    parks-well g r s (call_row g c.number number o method fuel arguments) b (Frames.counted c.number number s) refl refl refl (none-before-call b.once conn number c is way above)
free-comes g r s conn c (message.Returned number fuel value) l b is way = λ q found.
    parks-well g r s (result_row g c.number number value fuel) b (marking c.number number s) refl refl refl (none-before-result b.once conn number c q is (not-true (is_some c.dialled) way) found)
free-comes g r s conn c (message.Threw number class) l b is way = tt
free-comes g r s conn c (message.Spent number) l b is way = tt
free-comes g r s conn c (message.Ack number) l b is way = tt
free-comes g r s conn c (message.Dirty sequence period objects) l b is way = tt
free-comes g r s conn c (message.Clean sequence strong objects) l b is way = tt
free-comes g r s conn c (message.Lookup number name) l b is way = tt
free-comes g r s conn c (message.Lease sequence period) l b is way = absurd (true≢false l)
free-comes g r s conn c (message.Cleaned sequence) l b is way = λ q found.
    (tt, telling-goes g r false c.number sequence lease_events.CleanAnswered q s b (cleaned-lacks r c.number sequence q s b.lacks))

-- A reference is granted, or nothing that is started has it.
abbrev pub GrantedOrFree : Setting → ForeignId → State → Type 0
GrantedOrFree g r s = (is_granted s r ≡ true) ⊎ Free g r s

lease-comes : (g : Setting) (r : ForeignId) (s : State) (c : Connection) (sequence period : ℕ) → Before g r s → Numbered s → Free g r s → GrantedOrFree g r (Frames.receive g c (message.Lease sequence period) s)
unfolding Frames.receive Frames.first_frame Frames.got Frames.told_by
lease-comes g r s c sequence period b n h = says (is_none c.peer) (Frames.is_wrong_way false (is_some c.dialled))
  where
    closed : Free g r (Rattle.sp_rules.specs.Endings.close g g.classes.unmarshal c.number s)
    closed = Rattle.sp_held_laws.proofs.GrownFrames.close_grown (free-plain g r) _ c.number h

    event : ℕ → lease_events.Event
    event call = lease_events.DirtyAnswered call period

    goes : (q : Request) (leased : Bool) → has_lease (telling true c.number sequence event q s) r ≡ leased → GrantedOrFree g r (ParkedFrames.go_all g (telling true c.number sequence event q s))
    goes q true e = inl (all_go_grown (granted-plain g r) (any-may-go (telling true c.number sequence event q s) _)
        (any-grown g (Granted r) (telling true c.number sequence event q s) (telling-numbered true c.number sequence event q s n) (lease-granted (own r (telling true c.number sequence event q s).leases) e))).parts.told
    goes q false e = inr (all_go_grown (free-plain g r) (telling-goes g r true c.number sequence event q s b e) (telling-free g r true c.number sequence event q s h))

    finds : (found : Option Request) → GrantedOrFree g r (Rattle.sp_rules.specs.Lists.with_some found (Rattle.sp_rules.specs.Endings.close g g.classes.unmarshal c.number s) (λ q. ParkedFrames.go_all g (telling true c.number sequence event q s)))
    finds None = inr closed
    finds (Some q) = goes q (has_lease (telling true c.number sequence event q s) r) refl

    says : (x y : Bool) → GrantedOrFree g r (if x then Rattle.sp_rules.specs.Endings.close g g.classes.unmarshal c.number s else (if y then Rattle.sp_rules.specs.Endings.close g g.classes.unmarshal c.number s
        else Rattle.sp_rules.specs.Lists.with_some (find (Frames.tells_on true c.number sequence) s.requests) (Rattle.sp_rules.specs.Endings.close g g.classes.unmarshal c.number s) (λ q. ParkedFrames.go_all g (telling true c.number sequence event q s))))
    says true y = inr closed
    says false true = inr closed
    says false false = finds (find (Frames.tells_on true c.number sequence) s.requests)

received-free : (g : Setting) (r : ForeignId) (s : State) (conn : ℕ) (m : Message) → Before g r s → Numbered s → Free g r s → GrantedOrFree g r (OwnEvents.received_on g (connection_at s conn) m s)
received-free g r s conn m b n h = by (is_lease m) refl
  where
    by : (x : Bool) → is_lease m ≡ x → GrantedOrFree g r (OwnEvents.received_on g (connection_at s conn) m s)
    by false e = inr (Rattle.sp_held_laws.proofs.GrownFrames.received_grown (free-plain g r) conn m (λ c is greeted way. free-comes g r s conn c m e b is way) h)
    by true e = leases m e (connection_at s conn)
      where
        leases : (m : Message) → is_lease m ≡ true → (o : Option Connection) → GrantedOrFree g r (OwnEvents.received_on g o m s)
        leases m e None = inr h
        leases (message.Lease sequence period) e (Some c) = lease-comes g r s c sequence period b n h
        leases (message.Hello version space digest) e (Some c) = absurd (true≢false (sym e))
        leases (message.Call number object method fuel arguments) e (Some c) = absurd (true≢false (sym e))
        leases (message.Returned number fuel value) e (Some c) = absurd (true≢false (sym e))
        leases (message.Threw number class) e (Some c) = absurd (true≢false (sym e))
        leases (message.Spent number) e (Some c) = absurd (true≢false (sym e))
        leases (message.Ack number) e (Some c) = absurd (true≢false (sym e))
        leases (message.Dirty sequence period objects) e (Some c) = absurd (true≢false (sym e))
        leases (message.Clean sequence strong objects) e (Some c) = absurd (true≢false (sym e))
        leases (message.Cleaned sequence) e (Some c) = absurd (true≢false (sym e))
        leases (message.Lookup number name) e (Some c) = absurd (true≢false (sym e))

-- the references of a root are of own objects, or leased
root-free : (g : Setting) (r : ForeignId) (lent : List ℕ) (s : State) (method : ℕ) (arguments : List Value) (fuel : ℕ) → refusal g lent s (Root method arguments fuel) ≡ None → has_lease s r ≡ false → AllOf (NotIt g r) (references_of arguments)
root-free g r lent s method arguments fuel t lacks = all-weaken (λ x. Refusals.is_root_argument g s x ≡ true) (NotIt g r) (references_of arguments) (λ x e. other-not-it g r (has_lease s) x lacks (λ foreign. pick x (bytes_eq x.space g.id) foreign e))
    (root-arguments g lent s method arguments fuel (unrefused g lent s (Root method arguments fuel) t))
  where
    pick : (x : Ref) (b : Bool) → b ≡ false → (if b then Holders.is_own_standing g s x else Holders.has_holder g s x && is_some (lease_now s (record { space = x.space; id = x.id })).lease) ≡ true → has_lease s (record { space = x.space; id = x.id }) ≡ true
    pick x true f e = absurd (true≢false f)
    pick x false f e = Rattle.sp_rules.proofs.OwnLemmas.and-right (Holders.has_holder g s x) _ e

-- before the end of an event a reference is granted, or nothing that is started has it
pub free-happens : (g : Setting) (r : ForeignId) (lent : List ℕ) (s : State) (e : Event) → refusal g lent s e ≡ None → Before g r s → Numbered s → Free g r s → GrantedOrFree g r (Space.happen g e s)
unfolding Space.happen
free-happens g r lent s (Received conn m) t b n h = received-free g r s conn m b n h
free-happens g r lent s (Root method arguments fuel) t b n h = inr (happen_grown (free-plain g r) (Root method arguments fuel) (root-free g r lent s method arguments fuel t b.lacks) h)
free-happens g r lent s (Committed task k op) t b n h = inr (happen_grown (free-plain g r) (Committed task k op) (op-brings (free-plain g r) lent task k op t h) h)
free-happens g r lent s (Finished task k) t b n h = inr (happen_grown (free-plain g r) (Finished task k) (end-brings (free-plain g r) lent task k t h) h)
free-happens g r lent s (Moment moment) t b n h = inr (happen_grown (free-plain g r) (Moment moment) tt h)
free-happens g r lent s Sweep t b n h = inr (happen_grown (free-plain g r) Sweep tt h)
free-happens g r lent s (RootAck task) t b n h = inr (happen_grown (free-plain g r) (RootAck task) tt h)
free-happens g r lent s (Bind name value) t b n h = inr (happen_grown (free-plain g r) (Bind name value) tt h)
free-happens g r lent s (Rebind name value) t b n h = inr (happen_grown (free-plain g r) (Rebind name value) tt h)
free-happens g r lent s (Unbind name) t b n h = inr (happen_grown (free-plain g r) (Unbind name) tt h)
free-happens g r lent s (Lookup peer name) t b n h = inr (happen_grown (free-plain g r) (Lookup peer name) tt h)
free-happens g r lent s (Opened conn dialled) t b n h = inr (happen_grown (free-plain g r) (Opened conn dialled) tt h)
free-happens g r lent s (Refused peer) t b n h = inr (happen_grown (free-plain g r) (Refused peer) tt h)
free-happens g r lent s (Closed conn) t b n h = inr (happen_grown (free-plain g r) (Closed conn) tt h)
free-happens g r lent s (ReadFailed conn) t b n h = inr (happen_grown (free-plain g r) (ReadFailed conn) tt h)
free-happens g r lent s (Bad conn) t b n h = inr (happen_grown (free-plain g r) (Bad conn) tt h)
free-happens g r lent s (WriteFailed conn unsent) t b n h = inr (happen_grown (free-plain g r) (WriteFailed conn unsent) tt h)
free-happens g r lent s (Parked task k) t b n h = inr (happen_grown (free-plain g r) (Parked task k) tt h)
free-happens g r lent s (GivenBack task k) t b n h = inr (happen_grown (free-plain g r) (GivenBack task k) tt h)
