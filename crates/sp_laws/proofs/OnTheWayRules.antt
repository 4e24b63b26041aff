-- Each rule of a space keeps the dirty and clean calls of a reference among its requests, on their way or overtaken, and their sequence numbers apart.
use mathlib.Core.Path.{sym, ap, subst, ◌∙◌}
use Rattle.std.proofs.Common.{arith}
use Rattle.std.specs.List.{flat_map}
use Rattle.std.specs.Prelude.{if◌then◌else◌, ◌≡◌, refl, ℕ, ◌+◌, ◌≤◌, ◌==◌, ◌&&◌, ◌||◌, is_some, Bool, true, false, List, [], ◌∷◌, ◌++◌, Option, None, Some, filter, map}
use Rattle.dgc_client.specs.declared.groups.Group.{Group}
use Rattle.dgc_client.specs.declared.lease.Due.{Due}
use Rattle.dgc_client.specs.declared.lease.Due.TheVariants as due
use Rattle.dgc_client.specs.Groups as groups
use Rattle.dgc_client.specs.History.{Event as Told_event, lease_of}
use Rattle.dgc_client.specs.History as lease_events
use Rattle.dgc_client.specs.Lease as lease
use Rattle.dgc_client.specs.Table as client
use Rattle.dgc_client.specs.Table.{Told, On, At, is_same, is_among, own, held, references_at, numbers_of}
use Rattle.space_ids.specs.declared.ids.ForeignId.{ForeignId}
use Rattle.space_ids.specs.declared.ids.ObjId.{ObjId}
use Rattle.net_message.specs.declared.message.Message.{Message}
use Rattle.uuid.specs.declared.Uuid.{Uuid}
use Rattle.sp_rules.specs.Classes.{Setting}
use Rattle.sp_rules.specs.Endings.{is_group}
use Rattle.sp_rules.specs.Events.{Turn, Waited}
use Rattle.sp_rules.specs.Frames
use Rattle.sp_rules.specs.Frames.{tells_of, is_dirty_kind}
use Rattle.sp_rules.specs.Holders
use Rattle.sp_rules.specs.Holders.{hold_ids, drop_ids, times_in}
use Rattle.sp_rules.specs.Laws.{AllOf}
use Rattle.sp_rules.specs.Lists.{each, with_some, total}
use Rattle.sp_rules.specs.ParkedFrames
use Rattle.sp_rules.proofs.LineLemmas.{most-some}
use Rattle.sp_rules.specs.Requests
use Rattle.sp_rules.specs.State as state
use Rattle.sp_rules.specs.State.{State, Living, Origin, OfRoot, OfCall, Until, Request, Asked, Calls, LooksUp, Tells, Stage, Waits, Out, Answered, Connection, Frame, CallFrame, ReturnedFrame, ParkedFrame, task_at, ready_at, object_at, connection_at, connection_to, is_open, send}
use Rattle.sp_laws.specs.Numbered.{is_out_under}
use Rattle.sp_laws.specs.OnTheWay.{times_named, names_in}
use Rattle.sp_laws.proofs.NamingLemmas.{hit, hit_any, due-hits, any-hits, group-any, group-kind, parts-any, dues-once, dues-of, times-cons, own-each, held-each, total-append, other-way, same-way}
use Rattle.sp_laws.proofs.PointerLemmas.{held-neutral, dropped-neutral}
use Rattle.sp_laws.proofs.WayLemmas.{Way, way_parts, quiet, told_way, named_way, drop_asked, more_asked, add_way, numbered_way, asked_in, removes_way, sorts_way, call_gone, answered_way}
use Rattle.sp_laws.proofs.GroupMoves.{made_way}

-- ---- small steps

pub if_way : {g : Setting} {r : ForeignId} {l : List Asked} {t u : State} (b : Bool) → Way g r l t → Way g r l u → Way g r l (if b then t else u)
if_way true h k = h
if_way false h k = k

pub some_way : {g : Setting} {r : ForeignId} {l : List Asked} {A : Type 0} {t : State} (x : Option A) (f : A → State) → Way g r l t → ((a : A) → x ≡ Some a → Way g r l (f a)) → Way g r l (with_some x t f)
some_way None f h k = h
some_way (Some a) f h k = k a refl

pub each_way : {g : Setting} {r : ForeignId} {l : List Asked} {A : Type 0} {s : State} (f : State → A → State) (xs : List A) → ((t : State) (x : A) → Way g r l t → Way g r l (f t x)) → Way g r l s → Way g r l (each f xs s)
unfolding each
each_way f [] k h = h
each_way {s = s} f (x ∷ xs) k h = each_way f xs k (k s x h)

-- each ends one that was removed
pub each_removed : {g : Setting} {r : ForeignId} {l : List Asked} {A : Type 0} {s : State} (asked : A → Asked) (f : State → A → State) (xs : List A) → ((m : List Asked) (t : State) (x : A) → Way g r (asked x ∷ m) t → Way g r m (f t x)) → Way g r (map asked xs ++ l) s → Way g r l (each f xs s)
unfolding each
each_removed asked f [] k h = h
each_removed {l = l} {s = s} asked f (x ∷ xs) k h = each_removed asked f xs k (k (map asked xs ++ l) s x h)

pub send_way : {g : Setting} {r : ForeignId} {l : List Asked} {s : State} (turn : Turn) (conn : ℕ) (m : Message) → Way g r l s → Way g r l (send turn conn m s)
unfolding send
send_way {s = s} turn conn m h = if_way (is_open s conn) (quiet _ refl h) h

pub hold_way : {g : Setting} {r : ForeignId} {l : List Asked} {s : State} (ids : List ForeignId) → Way g r l s → Way g r l (hold_ids ids s)
unfolding hold_ids
hold_way ids h = each_way Holders.holder_comes ids (λ t x k. told_way x lease_events.Held held-neutral k) h

pub drop_way : {g : Setting} {r : ForeignId} {l : List Asked} {s : State} (ids : List ForeignId) → Way g r l s → Way g r l (drop_ids ids s)
unfolding drop_ids
drop_way ids h = each_way Holders.holder_goes ids (λ t x k. told_way x lease_events.Dropped dropped-neutral k) h

pub let_go_way : {g : Setting} {r : ForeignId} {l : List Asked} {s : State} (p : ParkedFrame) (parked : List ParkedFrame) → Way g r l s → Way g r l (ParkedFrames.let_go_parked p parked s)
let_go_way p parked h = each_way _ (filter (ParkedFrames.is_parked_at p.conn p.number) parked) (λ t q k. drop_way q.references k) h

-- ---- requests

part_way : {g : Setting} {r : ForeignId} {l : List Asked} {s : State} (turn : Turn) (conn call : ℕ) (part : Group) → Way g r (Tells call part ∷ l) s → Way g r l (Requests.part_goes_out turn conn call s part)
unfolding Requests.part_goes_out
part_way turn conn call part h = send_way turn conn _ (numbered_way conn call part h)

-- the parts of a group name a reference as often as the group
parts-named : (r : ForeignId) (d : Bool) (x call : ℕ) (b : Group) (pieces : List (List ObjId)) → total (names_in d x r) (map (Tells call) (map (groups.part_of b) pieces)) ≡ (if call == x && tells_of d (Tells call b) then total (times_named r) (map (groups.part_of b) pieces) else 0)
parts-named r d x call b [] = zero (call == x && tells_of d (Tells call b))
  where
    zero : (z : Bool) → ◌≡◌ {A = ℕ} 0 (if z then 0 else 0)
    zero true = refl
    zero false = refl
parts-named r d x call b (ids ∷ pieces) = pick (call == x && tells_of d (Tells call b)) (parts-named r d x call b pieces)
  where
    pick : (z : Bool) → total (names_in d x r) (map (Tells call) (map (groups.part_of b) pieces)) ≡ (if z then total (times_named r) (map (groups.part_of b) pieces) else 0)
        → (if z then times_named r (groups.part_of b ids) else 0) + total (names_in d x r) (map (Tells call) (map (groups.part_of b) pieces)) ≡ (if z then times_named r (groups.part_of b ids) + total (times_named r) (map (groups.part_of b) pieces) else 0)
    pick true e = omega arith
    pick false e = omega arith

parts_way : {g : Setting} {r : ForeignId} {l : List Asked} {s : State} (most : ℕ) → 1 ≤ most → (call : ℕ) (b : Group) → Way g r (Tells call b ∷ l) s → Way g r (map (Tells call) (groups.parts_of most b) ++ l) s
parts_way {g} {r} {l} {s} most some call b h = named_way {l = Tells call b ∷ l} {m = map (Tells call) (groups.parts_of most b) ++ l} (λ d x.
    let a : total (names_in d x r) (map (Tells call) (groups.parts_of most b) ++ l) ≡ total (names_in d x r) (map (Tells call) (groups.parts_of most b)) + total (names_in d x r) l = total-append (names_in d x r) (map (Tells call) (groups.parts_of most b)) l in
    let c : total (names_in d x r) (map (Tells call) (groups.parts_of most b)) ≡ names_in d x r (Tells call b) = parts-named r d x call b (groups.pieces most b.ids) ∙ ap (λ n. if call == x && tells_of d (Tells call b) then n else 0) (parts-any most some r b) in omega arith) h

go_out_way : {g : Setting} {r : ForeignId} {l : List Asked} {s : State} (turn : Turn) (conn : ℕ) (q : Request) → Way g r (q.asked ∷ l) s → Way g r l (Requests.go_out turn conn q s)
unfolding Requests.go_out
go_out_way {g} {r} {l} {s} turn conn q h = goes q.asked h
  where
    goes : (asked : Asked) → Way g r (asked ∷ l) s → Way g r l (Requests.goes_out turn conn q.peer asked s)
    goes (Calls number task lent kind m) k = send_way turn conn m (add_way (record { peer = q.peer; asked = Calls number task lent kind m; stage = Out conn 0 }) (λ n. refl) k)
    goes (LooksUp number task name) k = send_way turn conn _ (add_way (record { peer = q.peer; asked = LooksUp number task name; stage = Out conn 0 }) (λ n. refl) k)
    goes (Tells call group) k = each_removed {l = l} (Tells call) (Requests.part_goes_out turn conn call) (groups.parts_of (Requests.most_on s conn) group) (λ m t part j. part_way turn conn call part j) (parts_way (Requests.most_on s conn) (most-some s conn) call group k)

pub dial_way : {g : Setting} {r : ForeignId} {l : List Asked} {s : State} (peer : Uuid) → Way g r l s → Way g r l (Requests.dial peer s)
unfolding Requests.dial
dial_way {s = s} peer h = if_way (is_some (connection_to s peer) || state.is_dialling s peer) h (quiet _ refl h)

ask_way : {g : Setting} {r : ForeignId} {l : List Asked} {s : State} (q : Request) → ((k : ℕ) → is_out_under k q ≡ false) → Way g r (q.asked ∷ l) s → Way g r l (Requests.ask s q)
unfolding Requests.ask
ask_way {s = s} q out h = some_way (Requests.hello_came (connection_to s q.peer)) _ (dial_way q.peer (add_way q out h)) (λ conn is. go_out_way _ conn q h)

pub flush_way : {g : Setting} {r : ForeignId} {l : List Asked} {s : State} (peer : Uuid) (conn : ℕ) → Way g r l s → Way g r l (Requests.flush_waiting peer conn s)
unfolding Requests.flush_waiting
flush_way {l = l} {s = s} peer conn h = each_removed {l = l} (λ (q : Request). q.asked) (λ t q. Requests.go_out Waited conn q t) (filter (Requests.waits_for peer) s.requests) (λ m t q k. go_out_way Waited conn q k) (removes_way (Requests.waits_for peer) h)

-- ---- due calls

-- Of the groups that are still to be made one at most names the reference, once; and its call is due.
record Dues (r : ForeignId) (bs : List Group) (h : List Told) : Type 0 where
  once : total (hit_any r) (flat_map groups.calls_of bs) ≤ 1
  due : (k : Due) → 1 ≤ total (hit r k) (flat_map groups.calls_of bs) → (is_among r (held h) ≡ true) × (lease.due (lease_of (own r h)) ≡ Some k)

-- what is known of a reference that is not named
record SameFor (r : ForeignId) (h k : List Told) : Type 0 where
  own : own r k ≡ own r h
  held : held k ≡ held h

same-sent : (r : ForeignId) (part : Group) (call : ℕ) (h : List Told) → times_named r part ≡ 0 → SameFor r h (client.sent part call h)
same-sent r part call h z = kinds part.kind
  where
    kinds : (kind : Due) → SameFor r h (client.Numbered ∷ client.sent_as kind part call h)
    kinds due.Dirty = record { own = own-each r (references_at part.peer part.ids) (lease_events.DirtySent call) h z; held = held-each (references_at part.peer part.ids) (lease_events.DirtySent call) h refl }
    kinds (due.Clean strong) = record { own = refl; held = refl }

same-send : (turn : Turn) (conn : ℕ) (m : Message) (s : State) → (send turn conn m s).leases ≡ s.leases
unfolding send
same-send turn conn m s = pick (is_open s conn)
  where
    pick : (b : Bool) → (if b then record s { notes = s.notes ++ Rattle.sp_rules.specs.Events.Sends turn conn m ∷ [] } else s).leases ≡ s.leases
    pick true = refl
    pick false = refl

same-part : (r : ForeignId) (turn : Turn) (conn call : ℕ) (s : State) (part : Group) → times_named r part ≡ 0 → SameFor r s.leases (Requests.part_goes_out turn conn call s part).leases
unfolding Requests.part_goes_out
same-part r turn conn call s part z = subst (SameFor r s.leases) (sym (same-send turn conn _ _)) (same-sent r part call s.leases z)

same-then : {r : ForeignId} {h k m : List Told} → SameFor r h k → SameFor r k m → SameFor r h m
same-then a b = record { own = b.own ∙ a.own; held = b.held ∙ a.held }

same-parts : (r : ForeignId) (turn : Turn) (conn call : ℕ) (parts : List Group) (s : State) → total (times_named r) parts ≡ 0 → SameFor r s.leases (each (Requests.part_goes_out turn conn call) parts s).leases
unfolding each
same-parts r turn conn call [] s z = record { own = refl; held = refl }
same-parts r turn conn call (part ∷ parts) s z =
    let a : times_named r part + total (times_named r) parts ≡ 0 = z in
    same-then (same-part r turn conn call s part (omega arith)) (same-parts r turn conn call parts (Requests.part_goes_out turn conn call s part) (omega arith))

same-dial : (peer : Uuid) (s : State) → (Requests.dial peer s).leases ≡ s.leases
unfolding Requests.dial
same-dial peer s = pick (is_some (connection_to s peer) || state.is_dialling s peer)
  where
    pick : (b : Bool) → (if b then s else state.say (Rattle.sp_rules.specs.Events.Dial peer) (record s { dialling = s.dialling ++ peer ∷ [] })).leases ≡ s.leases
    pick true = refl
    pick false = refl

same-group : (r : ForeignId) (b : Group) (s : State) → times_named r b ≡ 0 → SameFor r s.leases (Requests.make_group s b).leases
unfolding Requests.make_group Requests.ask Requests.go_out
same-group r b s z = same-then made (pick (Requests.hello_came (connection_to t b.peer)))
  where
    t : State
    t = record s { groups_made = s.groups_made + 1; leases = client.made b (s.groups_made + 1) s.leases }

    q : Request
    q = record { peer = b.peer; asked = Tells (s.groups_made + 1) b; stage = Waits }

    no-hold : (kind : Due) → client.is_hold (client.making kind (s.groups_made + 1)) ≡ false
    no-hold due.Dirty = refl
    no-hold (due.Clean strong) = refl

    made : SameFor r s.leases t.leases
    made = record { own = own-each r (references_at b.peer b.ids) (client.making b.kind (s.groups_made + 1)) s.leases z; held = held-each (references_at b.peer b.ids) (client.making b.kind (s.groups_made + 1)) s.leases (no-hold b.kind) }

    pick : (o : Option ℕ) → SameFor r t.leases (with_some o (Requests.dial b.peer (Requests.add_request q t)) (λ conn. Requests.goes_out (Requests.turn_of b.kind) conn b.peer (Tells (s.groups_made + 1) b) t)).leases
    pick None = subst (SameFor r t.leases) (sym (same-dial b.peer (Requests.add_request q t))) (record { own = refl; held = refl })
    pick (Some conn) = same-parts r (Requests.turn_of b.kind) conn (s.groups_made + 1) (groups.parts_of (Requests.most_on t conn) b) t (parts-any (Requests.most_on t conn) (most-some t conn) r b ∙ z)

make_group_way : {g : Setting} {r : ForeignId} {l : List Asked} {s : State} (b : Group) → times_named r b ≤ 1 → (1 ≤ times_named r b → (is_among r (held s.leases) ≡ true) × (lease.due (lease_of (own r s.leases)) ≡ Some b.kind)) → Way g r l s → Way g r l (Requests.make_group s b)
unfolding Requests.make_group
make_group_way {g} {r} {l} {s} b few is h = ask_way (record { peer = b.peer; asked = Tells (s.groups_made + 1) b; stage = Waits }) (λ k. refl) (made_way b (record s { groups_made = s.groups_made + 1; leases = client.made b (s.groups_made + 1) s.leases }) refl few is h)

makes_way : {g : Setting} {r : ForeignId} {l : List Asked} {s : State} (bs : List Group) → Dues r bs s.leases → Way g r l s → Way g r l (each Requests.make_group bs s)
unfolding each
makes_way [] D h = h
makes_way {g} {r} {l} {s} (b ∷ bs) D h = makes_way {s = Requests.make_group s b} bs rest (make_group_way b few here h)
  where
    any-split : total (hit_any r) (groups.calls_of b ++ flat_map groups.calls_of bs) ≡ times_named r b + total (hit_any r) (flat_map groups.calls_of bs)
    any-split = total-append (hit_any r) (groups.calls_of b) (flat_map groups.calls_of bs) ∙ ap (λ n. n + total (hit_any r) (flat_map groups.calls_of bs)) (group-any r b)

    kind-split : total (hit r b.kind) (groups.calls_of b ++ flat_map groups.calls_of bs) ≡ times_named r b + total (hit r b.kind) (flat_map groups.calls_of bs)
    kind-split = total-append (hit r b.kind) (groups.calls_of b) (flat_map groups.calls_of bs) ∙ ap (λ n. n + total (hit r b.kind) (flat_map groups.calls_of bs)) (group-kind r b)

    all : total (hit_any r) (groups.calls_of b ++ flat_map groups.calls_of bs) ≤ 1
    all = D.once

    few : times_named r b ≤ 1
    few = let a : total (hit_any r) (groups.calls_of b ++ flat_map groups.calls_of bs) ≡ times_named r b + total (hit_any r) (flat_map groups.calls_of bs) = any-split in let c : total (hit_any r) (groups.calls_of b ++ flat_map groups.calls_of bs) ≤ 1 = all in omega arith

    here : 1 ≤ times_named r b → (is_among r (held s.leases) ≡ true) × (lease.due (lease_of (own r s.leases)) ≡ Some b.kind)
    here le = D.due b.kind (let a : total (hit r b.kind) (groups.calls_of b ++ flat_map groups.calls_of bs) ≡ times_named r b + total (hit r b.kind) (flat_map groups.calls_of bs) = kind-split in omega arith)

    less : total (hit_any r) (flat_map groups.calls_of bs) ≤ 1
    less = let a : total (hit_any r) (groups.calls_of b ++ flat_map groups.calls_of bs) ≡ times_named r b + total (hit_any r) (flat_map groups.calls_of bs) = any-split in let c : total (hit_any r) (groups.calls_of b ++ flat_map groups.calls_of bs) ≤ 1 = all in omega arith

    hit-less : (k : Due) (cs : List Rattle.dgc_client.specs.declared.groups.DueCall.DueCall) → total (hit r k) cs ≤ total (hit_any r) cs
    hit-less k cs = Rattle.sp_laws.proofs.NamingLemmas.hits-less r k cs

    later : (k : Due) → 1 ≤ total (hit r k) (flat_map groups.calls_of bs) → (is_among r (held (Requests.make_group s b).leases) ≡ true) × (lease.due (lease_of (own r (Requests.make_group s b).leases)) ≡ Some k)
    later k le =
        let a : total (hit_any r) (groups.calls_of b ++ flat_map groups.calls_of bs) ≡ times_named r b + total (hit_any r) (flat_map groups.calls_of bs) = any-split in
        let c : total (hit_any r) (groups.calls_of b ++ flat_map groups.calls_of bs) ≤ 1 = all in
        let d : total (hit r k) (flat_map groups.calls_of bs) ≤ total (hit_any r) (flat_map groups.calls_of bs) = hit-less k (flat_map groups.calls_of bs) in
        let same : SameFor r s.leases (Requests.make_group s b).leases = same-group r b s (omega arith) in
        let e : total (hit r k) (groups.calls_of b ++ flat_map groups.calls_of bs) ≡ total (hit r k) (groups.calls_of b) + total (hit r k) (flat_map groups.calls_of bs) = total-append (hit r k) (groups.calls_of b) (flat_map groups.calls_of bs) in
        let x : (is_among r (held s.leases) ≡ true) × (lease.due (lease_of (own r s.leases)) ≡ Some k) = D.due k (omega arith) in
        (ap (is_among r) same.held ∙ x.0, ap (λ (z : List Told_event). lease.due (lease_of z)) same.own ∙ x.1)

    rest : Dues r bs (Requests.make_group s b).leases
    rest = record { once = less; due = later }

make_due_way : {g : Setting} {r : ForeignId} {l : List Asked} {s : State} → Way g r l s → Way g r l (Requests.make_due s)
unfolding Requests.make_due Requests.due_groups
make_due_way {g} {r} {l} {s} h = makes_way (groups.grouped (groups.in_order (client.due_of s.leases))) (record {
  once = let a : total (hit_any r) (flat_map groups.calls_of (groups.grouped (groups.in_order (client.due_of s.leases)))) ≡ total (hit_any r) (client.due_of s.leases) = any-hits r (client.due_of s.leases) in let b : total (hit_any r) (client.due_of s.leases) ≤ 1 = dues-once r s.leases in omega arith;
  due = λ k le. dues-of r k s.leases (let a : total (hit r k) (flat_map groups.calls_of (groups.grouped (groups.in_order (client.due_of s.leases)))) ≡ total (hit r k) (client.due_of s.leases) = due-hits r k (client.due_of s.leases) in omega arith);
}) h

-- the call or lookup of the event waits to be asked
pub fresh_way : {g : Setting} {r : ForeignId} {l : List Asked} {s : State} (t : State) (rs : List Request) → way_parts t ≡ record { made = s.groups_made; requests = s.requests; fresh = rs; leases = s.leases } → AllOf (λ (q : Request). is_group q.asked ≡ false) rs → Way g r l s → Way g r l t
fresh_way {g} {r} {l} {s} t rs e ok h = record {
  parts = subst (Rattle.sp_laws.proofs.WayLemmas.Ways r l) (sym e) (record { known = h.parts.known; fresh = ok; numbered = h.parts.numbered });
}

not-out : (q : Request) → is_group q.asked ≡ false → (k : ℕ) → is_out_under k q ≡ false
not-out q e k = ap (λ b. b && Frames.has_sequence k q.stage) e

asks_way : {g : Setting} {r : ForeignId} {l : List Asked} {s : State} (rs : List Request) → AllOf (λ (q : Request). is_group q.asked ≡ false) rs → Way g r l s → Way g r l (each Requests.ask rs s)
unfolding each
asks_way [] a h = h
asks_way {s = s} (q ∷ rs) a h = asks_way {s = Requests.ask s q} rs a.1 (ask_way q (not-out q a.0) (more_asked q.asked a.0 h))

pub settle_way : {g : Setting} {r : ForeignId} {l : List Asked} {s : State} → Way g r l s → Way g r l (Requests.settle s)
unfolding Requests.settle Requests.ask_fresh
settle_way {g} {r} {l} {s} h = asks (Requests.make_due s) (make_due_way h)
  where
    asks : (t : State) → Way g r l t → Way g r l (each Requests.ask t.fresh (record t { fresh = [] }))
    asks t k = asks_way t.fresh k.parts.fresh (fresh_way {s = t} (record t { fresh = [] }) [] refl tt k)
