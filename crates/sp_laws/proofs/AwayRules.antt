-- Each rule of a space asks other spaces alone: the references that get holders, the call or lookup of an event, and the Dials that are
-- answered are other spaces'.
use Rattle.std.proofs.lemmas.Bool.{true≢false, eqb-true}
use Rattle.std.specs.List.{list_any, flat_map, filter_map, cons_option}
use Rattle.std.specs.Prelude.{if◌then◌else◌, ◌≡◌, refl, ℕ, zero, suc, ◌+◌, ◌==◌, ◌&&◌, ◌||◌, not, nat_le, is_some, Bool, true, false, List, [], ◌∷◌, ◌++◌, Option, None, Some, find, fold, nat_lt, is_none, Result, Ok, Err, filter}
use Rattle.dgc_client.specs.Groups as groups
use Rattle.dgc_client.specs.History.Event.{DirtySent, DirtyFailed}
use Rattle.dgc_client.specs.Table.{Told, On, At, Numbered}
use Rattle.dgc_client.specs.Touched.{due_call}
use Rattle.dgc_client.specs.declared.groups.DueCall.{DueCall}
use Rattle.sp_rules.proofs.AllLemmas.{all-append, all-filter, all-first, all-found, all-map, all-more, found-is}
use Rattle.sp_rules.proofs.LineLemmas.{one-peer, or-none}
use Rattle.sp_rules.proofs.OwnLemmas.{unrefused, later, first-of, not-false, and-left}
use Rattle.sp_rules.proofs.ReadyLemmas.{ready-is}
use Rattle.sp_rules.specs.Behaviours.{Outcome, Returned, Threw, Spent, Op, Create, Get, Put, Call, Reply, Throws}
use Rattle.sp_rules.specs.Events.{Started, Ended, Dial, Ready, Turn, Note, Says, Sends, output_of, rank, in_order, of_ranks, of_rank, ranks, Event, Moment, Sweep, Root, RootAck, Bind, Rebind, Unbind, Lookup, Opened, Refused, Received, Closed, ReadFailed, Bad, WriteFailed, Committed, Parked, GivenBack, Finished, Output, Withdrawn, Denied, Send, Close}
use Rattle.sp_rules.specs.References.{references_in, foreign_ids}
use Rattle.sp_laws.specs.Others.{IsToOther, OthersAreDialled}
use mathlib.Core.Path.{sym, subst, ◌∙◌}
use Rattle.std.specs.Str.{bytes_eq}
use Rattle.space_ids.specs.declared.ids.ClassId.{ClassId}
use Rattle.dgc_client.specs.History as lease_events
use Rattle.dgc_client.specs.Lease as lease
use Rattle.dgc_client.specs.Table as client
use Rattle.dgc_client.specs.declared.groups.Group.{Group}
use Rattle.dgc_client.specs.declared.lease.Due.TheVariants as due
use Rattle.dgc_client.specs.declared.lease.Due.{Due}
use Rattle.space_ids.specs.declared.ids.ForeignId.{ForeignId}
use Rattle.net_message.specs.declared.message.Message.TheVariants as message
use Rattle.net_message.specs.declared.message.Message.{Message}
use Rattle.sp_registry.specs.Bindings as registry
use Rattle.sp_registry.specs.Names.{is_name}
use Rattle.sp_registry.specs.declared.fault.RegistryFault.{RegistryFault}
use Rattle.sp_registry.specs.declared.registry.Binding.{Binding}
use Rattle.uuid.specs.declared.Uuid.{Uuid}
use Rattle.space_ids.specs.declared.ids.ObjId.{ObjId}
use Rattle.space_ids.specs.declared.ids.Ref.{Ref}
use Rattle.space_ids.specs.declared.value.Value.TheVariants as values
use Rattle.space_ids.specs.declared.value.Value.{Value}
use Rattle.sp_rules.specs.Classes.{Setting, fit_kinds}
use Rattle.sp_rules.specs.Endings
use Rattle.sp_rules.specs.Frames
use Rattle.sp_rules.specs.Holders
use Rattle.sp_rules.specs.Holders.{hold_ids, drop_ids}
use Rattle.sp_rules.specs.Laws.{AllOf}
use Rattle.sp_rules.specs.Lists.{each, with_some}
use Rattle.sp_rules.specs.LivingTasks
use Rattle.sp_rules.specs.Origins.{IsTaken}
use Rattle.sp_rules.specs.OwnEvents
use Rattle.sp_rules.specs.ParkedFrames
use Rattle.sp_rules.specs.References.{references_of}
use Rattle.sp_rules.specs.Refusals
use Rattle.sp_rules.specs.Refusals.{result_of, Check, first_refusal, checks, refusal}
use Rattle.sp_rules.specs.Requests
use Rattle.sp_rules.specs.Space
use Rattle.sp_rules.specs.State as state
use Rattle.sp_rules.specs.State.{State, Object, Stored, Made, Written, Gone, Living, Origin, OfRoot, OfCall, Until, Request, Asked, Calls, LooksUp, Tells, Stage, Connection, KeptResult, Frame, CallFrame, ReturnedFrame, ParkedFrame, standing, last_written, task_at, ready_at, object_at, connection_at, connection_to, is_open, set_task, set_connection, say, send, tell_owner, is_to, opening}
use Rattle.sp_rules.specs.Tasks.{Stand, Runs, AsksFor, HasEnded, stand, steps}

-- ---- what is kept

-- A reference that gets a holder is of another space.
abbrev pub IsForeign : Setting → Told → Type 0
IsForeign g (On r event) = client.is_hold event ≡ true → bytes_eq r.space g.id ≡ false
IsForeign g (At moment) = Unit {0}
IsForeign g Numbered = Unit {0}

abbrev Foreign : Setting → ForeignId → Type 0
Foreign g r = bytes_eq r.space g.id ≡ false

pub record AwayParts : Type 0 where
  pub leases : List Told
  pub fresh : List Request
  pub notes : List Note
  pub connections : List Connection
  pub dialling : List Uuid

abbrev pub away_parts : State → AwayParts
away_parts s = record { leases = s.leases; fresh = s.fresh; notes = s.notes; connections = s.connections; dialling = s.dialling }

abbrev IsOther : Setting → Request → Type 0
IsOther g q = bytes_eq q.peer g.id ≡ false

abbrev Notes : Setting → Note → Type 0
Notes g n = IsToOther g (output_of n)

-- a peer of another id
abbrev OtherPeer : Setting → Uuid → Type 0
OtherPeer g peer = bytes_eq peer g.id ≡ false

-- a connection that was dialled, was dialled to another space
abbrev OtherLine : Setting → Option Uuid → Type 0
OtherLine g None = Unit {0}
OtherLine g (Some peer) = OtherPeer g peer

abbrev Lines : Setting → Connection → Type 0
Lines g c = OtherLine g c.dialled

pub record IsAway (g : Setting) (x : AwayParts) : Type 0 where
  pub leases : AllOf (IsForeign g) x.leases
  pub fresh : AllOf (IsOther g) x.fresh
  pub notes : AllOf (Notes g) x.notes
  pub lines : AllOf (Lines g) x.connections
  pub dialling : AllOf (OtherPeer g) x.dialling

-- What a space asks is asked of others.
pub record Away (g : Setting) (s : State) : Type 0 where
  pub parts : IsAway g (away_parts s)

-- ---- small steps

quiet : {g : Setting} {s : State} (t : State) → away_parts t ≡ away_parts s → Away g s → Away g t
quiet {g} t e h = record { parts = subst (IsAway g) (sym e) h.parts }

-- something is said that is no Dial of the space itself
noted : {g : Setting} {s : State} (t : State) (output : Output) → away_parts t ≡ record { leases = s.leases; fresh = s.fresh; notes = s.notes ++ Says output ∷ []; connections = s.connections; dialling = s.dialling } → IsToOther g output → Away g s → Away g t
noted {g} {s} t output e ok h = record { parts = subst (IsAway g) (sym e) (record { leases = h.parts.leases; fresh = h.parts.fresh; notes = all-more (Notes g) s.notes (Says output) h.parts.notes ok; lines = h.parts.lines; dialling = h.parts.dialling }) }

-- references have an event
told : {g : Setting} {s : State} (t : State) (h : List Told) → away_parts t ≡ record { leases = h; fresh = s.fresh; notes = s.notes; connections = s.connections; dialling = s.dialling } → AllOf (IsForeign g) h → Away g s → Away g t
told {g} {s} t h e ok k = record { parts = subst (IsAway g) (sym e) (record { leases = ok; fresh = k.parts.fresh; notes = k.parts.notes; lines = k.parts.lines; dialling = k.parts.dialling }) }

-- other connections, or other peers that are being dialled
lined : {g : Setting} {s : State} (t : State) (cs : List Connection) (peers : List Uuid) → away_parts t ≡ record { leases = s.leases; fresh = s.fresh; notes = s.notes; connections = cs; dialling = peers } → AllOf (Lines g) cs → AllOf (OtherPeer g) peers → Away g s → Away g t
lined {g} {s} t cs peers e lines dialling h = record { parts = subst (IsAway g) (sym e) (record { leases = h.parts.leases; fresh = h.parts.fresh; notes = h.parts.notes; lines = lines; dialling = dialling }) }

-- a row of a connection changes, and not whom this space dialled
row_away : {g : Setting} {s : State} (conn : ℕ) (f : Connection → Connection) → ((c : Connection) → (f c).dialled ≡ c.dialled) → Away g s → Away g (state.set_connection f conn s)
row_away {g} {s} conn f same h = lined {s = s} _ _ s.dialling refl (all-first (Lines g) (λ (c : Connection). c.number == conn) f s.connections (λ c a. subst (OtherLine g) (sym (same c)) a) h.parts.lines) h.parts.dialling h

if_away : {g : Setting} {t u : State} (b : Bool) → Away g t → Away g u → Away g (if b then t else u)
if_away true h k = h
if_away false h k = k

some_away : {g : Setting} {A : Type 0} {t : State} (x : Option A) (f : A → State) → Away g t → ((a : A) → x ≡ Some a → Away g (f a)) → Away g (with_some x t f)
some_away None f h k = h
some_away (Some a) f h k = k a refl

each_away : {g : Setting} {A : Type 0} {s : State} (f : State → A → State) (xs : List A) → ((t : State) (x : A) → Away g t → Away g (f t x)) → Away g s → Away g (each f xs s)
unfolding each
each_away f [] k h = h
each_away {s = s} f (x ∷ xs) k h = each_away f xs k (k s x h)

send_away : {g : Setting} {s : State} (turn : Turn) (conn : ℕ) (m : Message) → Away g s → Away g (send turn conn m s)
unfolding send
send_away {g} {s} turn conn m h = if_away (is_open s conn) (record { parts = record { leases = h.parts.leases; fresh = h.parts.fresh; notes = all-more (Notes g) s.notes (Sends turn conn m) h.parts.notes tt; lines = h.parts.lines; dialling = h.parts.dialling } }) h

each_with : {A : Type 0} {s : State} (P : State → Type 0) (Q : A → Type 0) (f : State → A → State) (xs : List A) → AllOf Q xs → ((t : State) (x : A) → Q x → P t → P (f t x)) → P s → P (each f xs s)
unfolding each
each_with P Q f [] a k h = h
each_with {s = s} P Q f (x ∷ xs) a k h = each_with P Q f xs a.1 k (k s x a.0 h)

-- the foreign references among some are of other spaces
foreign-all : (g : Setting) (refs : List Ref) → AllOf (Foreign g) (foreign_ids g.id refs)
foreign-all g [] = tt
foreign-all g (r ∷ refs) = pick (bytes_eq r.space g.id) refl (foreign-all g refs)
  where
    pick : (b : Bool) → bytes_eq r.space g.id ≡ b → AllOf (Foreign g) (foreign_ids g.id refs) → AllOf (Foreign g) ((if b then [] else record { space = r.space; id = r.id } ∷ []) ++ foreign_ids g.id refs)
    pick true e a = a
    pick false e a = (e, a)

with-all : (P : ForeignId → Type 0) (rs : List ForeignId) (r : ForeignId) → AllOf P rs → P r → AllOf P (client.with_reference rs r)
with-all P rs r a p = pick (client.is_among r rs)
  where
    pick : (b : Bool) → AllOf P (if b then rs else rs ++ r ∷ [])
    pick true = a
    pick false = all-more P rs r a p

fold-all : (P : ForeignId → Type 0) (rs more : List ForeignId) → AllOf P rs → AllOf P more → AllOf P (fold client.with_reference rs more)
fold-all P rs [] a b = a
fold-all P rs (r ∷ more) a b = fold-all P (client.with_reference rs r) more (with-all P rs r a b.0) b.1

hold_ids_away : {g : Setting} {s : State} (ids : List ForeignId) → AllOf (Foreign g) ids → Away g s → Away g (hold_ids ids s)
unfolding hold_ids
hold_ids_away {g} ids a h = each_with (Away g) (Foreign g) Holders.holder_comes ids a (λ t r e k. told (Holders.holder_comes t r) (On r lease_events.Held ∷ t.leases) refl ((λ x. e), k.parts.leases) k) h

hold_away : {g : Setting} {s : State} (refs : List Ref) → Away g s → Away g (Holders.hold g refs s)
hold_away {g} refs h = hold_ids_away (foreign_ids g.id refs) (foreign-all g refs) h

drop_away : {g : Setting} {s : State} (ids : List ForeignId) → Away g s → Away g (drop_ids ids s)
unfolding drop_ids
drop_away {g} ids h = each_away Holders.holder_goes ids (λ t x k. told (Holders.holder_goes t x) (On x lease_events.Dropped ∷ t.leases) refl ((λ e. absurd (true≢false (sym e))), k.parts.leases) k) h

let_go_away : {g : Setting} {s : State} (p : ParkedFrame) (parked : List ParkedFrame) → Away g s → Away g (ParkedFrames.let_go_parked p parked s)
let_go_away p parked h = each_away _ (filter (ParkedFrames.is_parked_at p.conn p.number) parked) (λ t q k. drop_away q.references k) h

-- ---- the events of groups

on-each : (g : Setting) (rs : List ForeignId) (event : lease_events.Event) (h : List Told) → client.is_hold event ≡ false → AllOf (IsForeign g) h → AllOf (IsForeign g) (client.on_each rs event h)
on-each g [] event h e a = a
on-each g (r ∷ rs) event h e a = on-each g rs event (On r event ∷ h) e ((λ x. absurd (true≢false (sym x ∙ e))), a)

made-away : (g : Setting) (b : Group) (call : ℕ) (h : List Told) → AllOf (IsForeign g) h → AllOf (IsForeign g) (client.made b call h)
made-away g b call h a = on-each g (client.references_at b.peer b.ids) (client.making b.kind call) h (kind b.kind) a
  where
    kind : (k : Due) → client.is_hold (client.making k call) ≡ false
    kind due.Dirty = refl
    kind (due.Clean strong) = refl

sent-away : (g : Setting) (b : Group) (call : ℕ) (h : List Told) → AllOf (IsForeign g) h → AllOf (IsForeign g) (client.sent b call h)
sent-away g b call h a = (tt, kind b.kind)
  where
    kind : (k : Due) → AllOf (IsForeign g) (client.sent_as k b call h)
    kind due.Dirty = on-each g (client.references_at b.peer b.ids) (DirtySent call) h refl a
    kind (due.Clean strong) = a

-- ---- the groups that are due

held-away : (g : Setting) (h : List Told) → AllOf (IsForeign g) h → AllOf (Foreign g) (client.held h)
held-away g [] a = tt
held-away g (On r event ∷ h) a = pick (client.is_hold event) refl (held-away g h a.1)
  where
    pick : (b : Bool) → client.is_hold event ≡ b → AllOf (Foreign g) (client.held h) → AllOf (Foreign g) (if b then client.with_reference (client.held h) r else client.held h)
    pick true e rest = with-all (Foreign g) (client.held h) r rest (a.0 e)
    pick false e rest = rest
held-away g (At moment ∷ h) a = held-away g h a.1
held-away g (Numbered ∷ h) a = held-away g h a.1

abbrev CallAway : Setting → DueCall → Type 0
CallAway g c = bytes_eq c.reference.space g.id ≡ false

abbrev GroupAway : Setting → Group → Type 0
GroupAway g b = bytes_eq b.peer g.id ≡ false

due-away : (g : Setting) (dues : ForeignId → Option Due) (rs : List ForeignId) → AllOf (Foreign g) rs → AllOf (CallAway g) (filter_map (λ r. due_call r (dues r)) rs)
due-away g dues [] a = tt
due-away g dues (r ∷ rs) a = pick (dues r) (due-away g dues rs a.1)
  where
    pick : (d : Option Due) → AllOf (CallAway g) (filter_map (λ x. due_call x (dues x)) rs) → AllOf (CallAway g) (cons_option (due_call r d) (filter_map (λ x. due_call x (dues x)) rs))
    pick None rest = rest
    pick (Some kind) rest = (a.0, rest)

flat-away : {A : Type 0} (P : DueCall → Type 0) (f : A → List DueCall) (xs : List A) → ((x : A) → AllOf P (f x)) → AllOf P (flat_map f xs)
flat-away P f [] k = tt
flat-away P f (x ∷ xs) k = all-append P (f x) (flat_map f xs) (k x) (flat-away P f xs k)

order-away : (g : Setting) (calls : List DueCall) → AllOf (CallAway g) calls → AllOf (CallAway g) (groups.in_order calls)
order-away g calls a = all-append (CallAway g) (flat_map (groups.cleans_of_peer calls) (groups.peers_of true calls)) (flat_map (λ peer. filter (groups.is_of peer due.Dirty) calls) (groups.peers_of false calls))
    (flat-away (CallAway g) (groups.cleans_of_peer calls) (groups.peers_of true calls) (λ peer. all-append (CallAway g) (filter (groups.is_of peer (due.Clean true)) calls) (filter (groups.is_of peer (due.Clean false)) calls) (all-filter (CallAway g) (groups.is_of peer (due.Clean true)) calls a) (all-filter (CallAway g) (groups.is_of peer (due.Clean false)) calls a)))
    (flat-away (CallAway g) (λ peer. filter (groups.is_of peer due.Dirty) calls) (groups.peers_of false calls) (λ peer. all-filter (CallAway g) (groups.is_of peer due.Dirty) calls a))

grouped-away : (g : Setting) (calls : List DueCall) → AllOf (CallAway g) calls → AllOf (GroupAway g) (groups.grouped calls)
grouped-away g [] a = tt
grouped-away g (c ∷ calls) a = joins (groups.grouped calls) (grouped-away g calls a.1)
  where
    joins : (bs : List Group) → AllOf (GroupAway g) bs → AllOf (GroupAway g) (groups.with_call c bs)
    joins [] k = (a.0, tt)
    joins (b ∷ bs) k = pick (groups.is_of b.peer b.kind c)
      where
        pick : (x : Bool) → AllOf (GroupAway g) (if x then record b { ids = c.reference.id ∷ b.ids } ∷ bs else groups.group_of c ∷ b ∷ bs)
        pick true = k
        pick false = (a.0, k)

groups-away : (g : Setting) (h : List Told) → AllOf (IsForeign g) h → AllOf (GroupAway g) (Requests.due_groups h)
unfolding Requests.due_groups
groups-away g h a = grouped-away g (groups.in_order (client.due_of h)) (order-away g (client.due_of h) (due-away g (λ r. lease.due (lease_events.lease_of (client.own r h))) (client.held h) (held-away g h a)))

-- ---- requests

part_away : {g : Setting} {s : State} (turn : Turn) (conn call : ℕ) (part : Group) → Away g s → Away g (Requests.part_goes_out turn conn call s part)
unfolding Requests.part_goes_out
part_away {g} {s} turn conn call part h = send_away turn conn _ (told _ (client.sent part call s.leases) refl (sent-away g part call s.leases h.parts.leases) h)

go_out_away : {g : Setting} {s : State} (turn : Turn) (conn : ℕ) (r : Request) → Away g s → Away g (Requests.go_out turn conn r s)
unfolding Requests.go_out
go_out_away {g} {s = s} turn conn r h = goes r.asked
  where
    goes : (asked : Asked) → Away g (Requests.goes_out turn conn r.peer asked s)
    goes (Calls number task lent kind m) = send_away turn conn m (quiet _ refl h)
    goes (LooksUp number task name) = send_away turn conn _ (quiet _ refl h)
    goes (Tells call group) = each_away _ _ (λ t part k. part_away turn conn call part k) h

dial_away : {g : Setting} {s : State} (peer : Uuid) → bytes_eq peer g.id ≡ false → Away g s → Away g (Requests.dial peer s)
unfolding Requests.dial
dial_away {g} {s} peer e h = if_away (is_some (connection_to s peer) || state.is_dialling s peer) h
    (noted {s = record s { dialling = s.dialling ++ peer ∷ [] }} _ (Dial peer) refl e (lined {s = s} _ s.connections _ refl h.parts.lines (all-more (OtherPeer g) s.dialling peer h.parts.dialling e) h))

ask_away : {g : Setting} {s : State} (r : Request) → IsOther g r → Away g s → Away g (Requests.ask s r)
unfolding Requests.ask
ask_away {g} {s = s} r e h = some_away (Requests.hello_came (connection_to s r.peer)) _ (dial_away r.peer e (quiet _ refl h)) (λ conn is. go_out_away _ conn r h)

make_group_away : {g : Setting} {s : State} (b : Group) → GroupAway g b → Away g s → Away g (Requests.make_group s b)
unfolding Requests.make_group
make_group_away {g} {s = s} b e h = ask_away _ e (told (record s { groups_made = s.groups_made + 1; leases = client.made b (s.groups_made + 1) s.leases }) (client.made b (s.groups_made + 1) s.leases) refl (made-away g b (s.groups_made + 1) s.leases h.parts.leases) h)

flush_away : {g : Setting} {s : State} (peer : Uuid) (conn : ℕ) → Away g s → Away g (Requests.flush_waiting peer conn s)
unfolding Requests.flush_waiting
flush_away peer conn h = each_away _ _ (λ t r k. go_out_away _ conn r k) (quiet _ refl h)

-- the call or lookup of the event is asked of another space
fresh_away : {g : Setting} {s : State} (t : State) (rs : List Request) → away_parts t ≡ record { leases = s.leases; fresh = rs; notes = s.notes; connections = s.connections; dialling = s.dialling } → AllOf (IsOther g) rs → Away g s → Away g t
fresh_away {g} {s} t rs e ok h = record { parts = subst (IsAway g) (sym e) (record { leases = h.parts.leases; fresh = ok; notes = h.parts.notes; lines = h.parts.lines; dialling = h.parts.dialling }) }

settle_away : {g : Setting} {s : State} → Away g s → Away g (Requests.settle s)
unfolding Requests.settle Requests.make_due Requests.ask_fresh
settle_away {g} {s = s} h = asks (Requests.make_due s) (each_with (Away g) (GroupAway g) Requests.make_group (Requests.due_groups s.leases) (groups-away g s.leases h.parts.leases) (λ t b e k. make_group_away b e k) h)
  where
    asks : (t : State) → Away g t → Away g (each Requests.ask t.fresh (record t { fresh = [] }))
    asks t k = each_with (Away g) (IsOther g) Requests.ask t.fresh k.parts.fresh (λ u r e j. ask_away r e j) (fresh_away {s = t} (record t { fresh = [] }) [] refl tt k)

-- ---- tasks

add_task_away : {g : Setting} {s : State} (origin : Origin) (method : ℕ) (arguments : List Value) (fuel : ℕ) → Away g s → Away g (LivingTasks.add_task g origin method arguments fuel s)
unfolding LivingTasks.add_task
add_task_away origin method arguments fuel h = noted _ _ refl tt (hold_away _ (noted _ _ refl tt h))

keep_away : {g : Setting} {s : State} (until : Until) (value : Option Value) → Away g s → Away g (LivingTasks.keep g until value s)
keep_away until value h = hold_away _ (quiet _ refl h)

keep_result_away : {g : Setting} {s : State} (until : Until) (outcome : Outcome) → Away g s → Away g (LivingTasks.keep_result g until outcome s)
keep_result_away until (Returned value) h = keep_away until value h
keep_result_away until (Threw class) h = h
keep_result_away until Spent h = h

report_away : {g : Setting} {s : State} (origin : Origin) (id fuel : ℕ) (outcome : Outcome) → Away g s → Away g (LivingTasks.report g origin id fuel outcome s)
report_away OfRoot id fuel outcome h = keep_result_away _ outcome h
report_away {s = s} (OfCall conn number) id fuel outcome h = if_away (is_open s conn) (send_away _ conn _ (keep_result_away _ outcome h)) h

end_with_away : {g : Setting} {s : State} (id : ℕ) (t : Living) (outcome : Outcome) → Away g s → Away g (LivingTasks.end_with g id t outcome s)
end_with_away id t outcome h = drop_away _ (report_away t.origin id t.task.fuel outcome (noted _ _ refl tt h))

reply_task_away : {g : Setting} {s : State} (id : ℕ) (reply : Reply) → Away g s → Away g (LivingTasks.reply_task g id reply s)
unfolding LivingTasks.reply_task
reply_task_away {s = s} id reply h = some_away (task_at s id) _ h (λ t is. noted _ _ refl tt (hold_away _ (quiet _ refl h)))

reply_to_away : {g : Setting} {s : State} (asked : Asked) (reply : Reply) → Away g s → Away g (LivingTasks.reply_to g asked reply s)
unfolding LivingTasks.reply_to
reply_to_away (Calls number task lent kind m) reply h = reply_task_away task reply h
reply_to_away (LooksUp number task name) reply h = keep_result_away (state.RootAcked task) (LivingTasks.outcome_of reply) (noted _ _ refl tt h)
reply_to_away (Tells call group) reply h = h

after_op_away : {g : Setting} {s : State} (op : Op) → Away g s → Away g (LivingTasks.after_op g op s)
unfolding LivingTasks.after_op
after_op_away {s = s} (Create class) h = if_away (LivingTasks.is_full s) h (quiet _ refl h)
after_op_away (Get id slot) h = h
after_op_away (Put id slot value) h = drop_away _ (hold_away _ (quiet _ refl h))
after_op_away (Call target method arguments) h = h

commit_away : {g : Setting} {s : State} (id k : ℕ) (op : Op) → Away g s → Away g (LivingTasks.commit g id k op s)
unfolding LivingTasks.commit
commit_away {s = s} id k op h = some_away (ready_at s id) _ h (λ t is. after_op_away op (hold_away _ (quiet _ refl h)))

park_away : {g : Setting} {s : State} (id k : ℕ) → ((t : Living) (target : Ref) (method : ℕ) (arguments : List Value) → ready_at s id ≡ Some t → stand (steps k t.task) ≡ AsksFor (Call target method arguments) → bytes_eq target.space g.id ≡ false) → Away g s → Away g (LivingTasks.park_call g id k s)
unfolding LivingTasks.park_call
park_away {g} {s = s} id k other h = some_away (ready_at s id) _ h (λ t is. at t is (stand (steps k t.task)) refl)
  where
    parks : (t : Living) → ready_at s id ≡ Some t → (op : Op) → stand (steps k t.task) ≡ AsksFor op → Away g (LivingTasks.park_op g id k t op s)
    parks t is (Create class) e = h
    parks t is (Get o slot) e = h
    parks t is (Put o slot value) e = h
    parks t is (Call target method arguments) e = fresh_away {s = s} _ _ refl (other t target method arguments is e, tt) h

    at : (t : Living) → ready_at s id ≡ Some t → (stands : Stand) → stand (steps k t.task) ≡ stands → Away g (LivingTasks.park_at g id k t stands s)
    at t is Runs e = h
    at t is (AsksFor op) e = parks t is op e
    at t is (HasEnded outcome) e = h

give_back_away : {g : Setting} {s : State} (id k : ℕ) → Away g s → Away g (LivingTasks.give_back id k s)
unfolding LivingTasks.give_back
give_back_away {s = s} id k h = some_away (ready_at s id) _ h (λ t is. quiet _ refl h)

finish_away : {g : Setting} {s : State} (id k : ℕ) → Away g s → Away g (LivingTasks.finish_task g id k s)
unfolding LivingTasks.finish_task
finish_away {g} {s = s} id k h = some_away (ready_at s id) _ h (λ t is. at (LivingTasks.after_steps k t) (stand (steps k t.task)))
  where
    at : (t : Living) (stands : Stand) → Away g (LivingTasks.end_at g id t stands s)
    at t Runs = h
    at t (AsksFor op) = h
    at t (HasEnded outcome) = end_with_away {g = g} id t outcome h

start_call_away : {g : Setting} {s : State} (p : ParkedFrame) (target : ObjId) (method fuel : ℕ) (arguments : List Value) → Away g s → Away g (ParkedFrames.start_call g p target method fuel arguments s)
unfolding ParkedFrames.start_call
start_call_away {g} {s = s} p target method fuel arguments h = some_away (object_at s target) _ h (λ o is. selected (record { space = g.id; id = target; class = o.class }) (g.classes.selected o.class method))
  where
    selected : (receiver : Ref) (found : Option ℕ) → Away g (ParkedFrames.start_selected g p.conn p.number receiver found fuel arguments s)
    selected receiver None = send_away _ p.conn _ h
    selected receiver (Some m) = add_task_away _ m _ fuel h

answer_parked_away : {g : Setting} {s : State} (p : ParkedFrame) (reply : Reply) → Away g s → Away g (ParkedFrames.answer_parked g p reply s)
unfolding ParkedFrames.answer_parked
answer_parked_away {s = s} p reply h = some_away (find (ParkedFrames.is_call_on p.conn p.number) s.requests) _ h (λ r is. reply_to_away r.asked reply (send_away _ p.conn _ (quiet _ refl h)))

-- ---- parked frames

go_away : {g : Setting} {s : State} (p : ParkedFrame) → Away g s → Away g (ParkedFrames.go g s p)
unfolding ParkedFrames.go
go_away {g} {s = s} p h = some_away (find (ParkedFrames.is_parked_at p.conn p.number) s.parked) _ h (λ q is. let_go_away p s.parked (frame q q.frame (quiet _ refl h)))
  where
    frame : (q : ParkedFrame) (f : Frame) {t : State} → Away g t → Away g (ParkedFrames.go_frame g q f t)
    frame q (CallFrame target method fuel arguments) k = start_call_away q target method fuel arguments k
    frame q (ReturnedFrame value fuel) k = answer_parked_away q _ k

go_all_away : {g : Setting} {s : State} → Away g s → Away g (ParkedFrames.go_all g s)
unfolding ParkedFrames.go_all
go_all_away h = each_away _ _ (λ t p k. go_away p k) h

park_frame_away : {g : Setting} {s : State} (conn number : ℕ) (f : Frame) (references : List ForeignId) → AllOf (Foreign g) references → Away g s → Away g (ParkedFrames.park_frame g conn number f references s)
unfolding ParkedFrames.park_frame
park_frame_away conn number f references a h = go_all_away (hold_ids_away references a (quiet _ refl h))

fail_parked_away : {g : Setting} {s : State} (p : ParkedFrame) → Away g s → Away g (ParkedFrames.fail_parked g s p)
unfolding ParkedFrames.fail_parked
fail_parked_away {g} {s = s} p h = frame p.frame (let_go_away p s.parked (quiet _ refl h))
  where
    frame : (f : Frame) {t : State} → Away g t → Away g (ParkedFrames.fail_frame g p f t)
    frame (CallFrame target method fuel arguments) k = send_away _ p.conn _ k
    frame (ReturnedFrame value fuel) k = answer_parked_away p (Throws g.classes.unmarshal) k

-- ---- endings

fail_dirty_away : {g : Setting} {s : State} (call : ℕ) (id : ForeignId) → Away g s → Away g (Endings.fail_dirty g call s id)
unfolding Endings.fail_dirty
fail_dirty_away {g} {s} call id h = if_away (lease.is_made (Holders.lease_now s id).dirty call && is_none (Holders.lease_now s id).lease) (each_away _ (filter (ParkedFrames.names id) s.parked) (λ t p k. fail_parked_away p k) failed) failed
  where
    failed : Away g (record s { leases = On id (DirtyFailed call) ∷ s.leases })
    failed = told _ (On id (DirtyFailed call) ∷ s.leases) refl ((λ e. absurd (true≢false (sym e))), h.parts.leases) h

fail_group_away : {g : Setting} {s : State} (kind : Due) (b : Group) (call : ℕ) → Away g s → Away g (Endings.fail_group g kind b call s)
fail_group_away due.Dirty b call h = each_away _ _ (λ t x k. fail_dirty_away call x k) h
fail_group_away (due.Clean strong) b call h = each_away (Endings.fail_clean call) _ (λ t x k. told (Endings.fail_clean call t x) (On x (lease_events.CleanFailed call) ∷ t.leases) refl ((λ e. absurd (true≢false (sym e))), k.parts.leases) k) h

end_asked_away : {g : Setting} {s : State} (class : ClassId) (asked : Asked) → Away g s → Away g (Endings.end_asked g class asked s)
end_asked_away class (Calls number task lent kind m) h = reply_to_away (Calls number task lent kind m) (Throws class) h
end_asked_away class (LooksUp number task name) h = reply_to_away (LooksUp number task name) (Throws class) h
end_asked_away class (Tells call group) h = fail_group_away group.kind group call h

end_requests_away : {g : Setting} {s : State} (is : Request → Bool) (why : Asked → ClassId) → Away g s → Away g (Endings.end_requests g is why s)
unfolding Endings.end_requests
end_requests_away is why h = each_away _ _ (λ t q k. end_asked_away (why q.asked) q.asked k) (each_away _ _ (λ t q k. end_asked_away (why q.asked) q.asked k) (quiet _ refl h))

let_connection_go_away : {g : Setting} {s : State} (conn : ℕ) → Away g s → Away g (Endings.let_connection_go conn s)
let_connection_go_away {g} {s} conn h = each_away _ _ (λ t p k. let_go_away p t.parked (quiet _ refl k))
    (lined {s = s} (Endings.without_connection conn s) _ s.dialling refl (all-filter (Lines g) (λ (c : Connection). not (c.number == conn)) s.connections h.parts.lines) h.parts.dialling h)

end_connection_away : {g : Setting} {s : State} (why : Asked → ClassId) (conn : ℕ) → Away g s → Away g (Endings.end_connection g why conn s)
unfolding Endings.end_connection
end_connection_away {s = s} why conn h = some_away (connection_at s conn) _ h (λ c is. end_requests_away _ why (let_connection_go_away conn h))

close_away : {g : Setting} {s : State} (class : ClassId) (conn : ℕ) → Away g s → Away g (Endings.close g class conn s)
unfolding Endings.close
close_away class conn h = noted _ (Close conn) refl tt (end_connection_away _ conn h)

redial_away : {g : Setting} {s : State} (peer : Uuid) (conn : ℕ) → bytes_eq peer g.id ≡ false → Away g s → Away g (Endings.redial peer conn s)
unfolding Endings.redial
redial_away {s = s} peer conn e h = dial_away peer e (noted _ (Close conn) refl tt (let_connection_go_away {s = Endings.note_peer peer s} conn (quiet _ refl h)))

-- ---- frames that come

say_hello_away : {g : Setting} {s : State} (version conn : ℕ) → Away g s → Away g (Frames.say_hello g version conn s)
say_hello_away {g} version conn h = row_away conn (λ (c : Connection). record c { version = version }) (λ c. refl) (send_away Rattle.sp_rules.specs.Events.Hellos conn (message.Hello version g.id g.digest) h)

greeted_away : {g : Setting} {s : State} (space : Uuid) (conn : ℕ) → Away g s → Away g (Frames.greeted space conn s)
greeted_away space conn h = row_away conn (λ (c : Connection). record c { peer = Some space }) (λ c. refl) h

-- the connection on which a Hello comes is another space's, if this space dialled it
line-of : (g : Setting) (s : State) (c : Connection) (peer : Uuid) → connection_at s c.number ≡ Some c → c.dialled ≡ Some peer → Away g s → bytes_eq peer g.id ≡ false
line-of g s c peer is e h = subst (OtherLine g) e (all-found (Lines g) (λ (d : Connection). d.number == c.number) s.connections c is h.parts.lines)

first_away : {g : Setting} {s : State} (c : Connection) (m : Message) → connection_at s c.number ≡ Some c → Away g s → Away g (Frames.first_frame g c m s)
unfolding Frames.first_frame
first_away {g} {s} c (message.Hello version space digest) at h = some_away c.dialled _
    (if_away (bytes_eq digest g.digest && nat_le version g.version) (if_away (nat_le 2 g.version) (say_hello_away _ c.number (greeted_away space c.number h)) (greeted_away space c.number h)) (close_away _ c.number h))
    (λ peer is. if_away (bytes_eq digest g.digest && bytes_eq space peer)
    (if_away (version == c.version) (flush_away peer c.number (greeted_away space c.number h)) (if_away (nat_le 2 c.version && version == 1) (redial_away peer c.number (line-of g s c peer at is h) h) (close_away _ c.number h)))
    (close_away _ c.number h))
first_away c _ at h = close_away _ c.number h

call_of_away : {g : Setting} {s : State} (conn number : ℕ) (o : Object) (method fuel : ℕ) (arguments : List Value) → Away g s → Away g (Frames.call_of g conn number o method fuel arguments s)
call_of_away {g} {s = s} conn number o method fuel arguments h =
    if_away (not (g.classes.may_call o.class method) || (not (fit_kinds (g.classes.parameters method) arguments) || list_any (Holders.is_refused g s) (references_of arguments))) (send_away _ conn _ h)
    (if_away (Frames.is_busy s) (send_away _ conn _ h) (park_frame_away conn number (CallFrame o.id method fuel arguments) _ (fold-all (Foreign g) [] (foreign_ids g.id (references_of arguments)) tt (foreign-all g (references_of arguments))) h))

found_away : {g : Setting} {s : State} (conn number : ℕ) (o : Option Object) → Away g s → Away g (Frames.found g conn number o s)
found_away conn number None h = send_away _ conn _ h
found_away {g} conn number (Some o) h = send_away _ conn _ (keep_away (state.Acked conn number) (Some (values.Ref (record { space = g.id; id = o.id; class = o.class }))) h)

counted_away : {g : Setting} {s : State} (conn number : ℕ) → Away g s → Away g (Frames.counted conn number s)
counted_away conn number h = row_away conn (λ (c : Connection). record c { last = number }) (λ c. refl) h

got_call_away : {g : Setting} {s : State} (c : Connection) (number : ℕ) (target : ObjId) (method fuel : ℕ) (arguments : List Value) → Away g s → Away g (Frames.got_call g c number target method fuel arguments s)
unfolding Frames.got_call
got_call_away {g} {s} c number target method fuel arguments h = if_away (nat_le number c.last) (close_away _ c.number h) (on (object_at s target))
  where
    on : (o : Option Object) → Away g (Frames.call_on g c.number number o method fuel arguments (Frames.counted c.number number s))
    on None = send_away Rattle.sp_rules.specs.Events.Replies c.number (message.Threw number g.classes.no_such_object) (counted_away c.number number h)
    on (Some o) = call_of_away c.number number o method fuel arguments (counted_away c.number number h)

got_lookup_away : {g : Setting} {s : State} (c : Connection) (number : ℕ) (name : List ℕ) → Away g s → Away g (Frames.got_lookup g c number name s)
unfolding Frames.got_lookup
got_lookup_away {g} {s} c number name h = if_away (nat_le number c.last) (close_away _ c.number h) (found_away c.number number (Frames.object_of s (registry.lookup s.owner.names name)) (counted_away c.number number h))

release_away : {g : Setting} {s : State} (is : KeptResult → Bool) → Away g s → Away g (Frames.release g is s)
unfolding Frames.release
release_away is h = each_away _ _ (λ t r k. drop_away _ k) (quiet _ refl h)

got_ack_away : {g : Setting} {s : State} (c : Connection) (number : ℕ) → Away g s → Away g (Frames.got_ack g c number s)
unfolding Frames.got_ack
got_ack_away {s = s} c number h = if_away (list_any (Frames.is_acked_by c.number number) s.results) (release_away _ h) (close_away _ c.number h)

returned_away : {g : Setting} {s : State} (c : Connection) (number fuel : ℕ) (value : Option Value) (asked : Asked) → Away g s → Away g (Frames.returned_for g c number fuel value asked s)
returned_away {g} {s = s} c number fuel value asked h = if_away _ (reply_to_away asked _ (send_away _ c.number _ (quiet _ refl h))) (park_frame_away c.number number _ _ (foreign-all g (references_in value)) (quiet _ refl h))

answered_by_away : {g : Setting} {s : State} (c : Connection) (number : ℕ) (next : Asked → State → State) → ((asked : Asked) → Away g (next asked s)) → Away g s → Away g (Frames.answered_by g c number next s)
unfolding Frames.answered_by
answered_by_away {s = s} c number next k h = some_away (find (ParkedFrames.is_asked_on c.number number) s.requests) _ (close_away _ c.number h) (λ q is. k q.asked)

ends_as_away : {g : Setting} {s : State} (c : Connection) (number : ℕ) (reply : Asked → Reply) (asked : Asked) → Away g s → Away g (Frames.ends_as g c number reply asked s)
ends_as_away c number reply asked h = reply_to_away asked _ (quiet _ refl h)

told_by_away : {g : Setting} {s : State} (c : Connection) (dirty : Bool) (sequence : ℕ) (event : ℕ → lease_events.Event) → ((call : ℕ) → client.is_hold (event call) ≡ false) → Away g s → Away g (Frames.told_by g c dirty sequence event s)
unfolding Frames.told_by
told_by_away {g} {s = s} c dirty sequence event e h = some_away (find (Frames.tells_on dirty c.number sequence) s.requests) _ (close_away _ c.number h) (λ q is. go_all_away (tells q.asked (quiet _ refl h)))
  where
    tells : (asked : Asked) {t : State} → Away g t → Away g (Frames.group_told event asked t)
    tells (Calls n task lent kind m) k = k
    tells (LooksUp n task name) k = k
    tells (Tells call group) {t = t} k = told _ (client.told group (event call) t.leases) refl (on-each g (client.references_at group.peer group.ids) (event call) t.leases (e call) k.parts.leases) k

got_away : {g : Setting} {s : State} (c : Connection) (m : Message) → Away g s → Away g (Frames.got g c m s)
unfolding Frames.got Frames.got_dirty Frames.got_clean
got_away c (message.Hello version space digest) h = close_away _ c.number h
got_away c (message.Call number object method fuel arguments) h = got_call_away c number object method fuel arguments h
got_away c (message.Returned number fuel value) h = answered_by_away c number _ (λ asked. returned_away c number fuel value asked h) h
got_away {g} c (message.Threw number class) h = answered_by_away c number _ (λ asked. ends_as_away c number (λ a. Frames.thrown_reply g class) asked h) h
got_away {g} c (message.Spent number) h = answered_by_away c number _ (λ asked. ends_as_away c number (Frames.spent_reply g) asked h) h
got_away c (message.Ack number) h = got_ack_away c number h
got_away c (message.Dirty sequence period objects) h = if_away (Frames.fit_frame c objects) (send_away _ c.number _ (quiet _ refl h)) (close_away _ c.number h)
got_away c (message.Lease sequence period) h = told_by_away c true sequence _ (λ call. refl) h
got_away c (message.Clean sequence strong objects) h = if_away (Frames.fit_frame c objects) (send_away _ c.number _ (quiet _ refl h)) (close_away _ c.number h)
got_away c (message.Cleaned sequence) h = told_by_away c false sequence _ (λ call. refl) h
got_away c (message.Lookup number name) h = got_lookup_away c number name h

received_away : {g : Setting} {s : State} (conn : ℕ) (c : Option Connection) (m : Message) → connection_at s conn ≡ c → Away g s → Away g (OwnEvents.received_on g c m s)
unfolding Frames.receive
received_away conn None m at h = h
received_away {s = s} conn (Some c) m at h = if_away (is_none c.peer) (first_away c m (subst (λ n. connection_at s n ≡ Some c) (sym (eqb-true c.number conn (found-is (λ (d : Connection). d.number == conn) s.connections c at))) at) h)
    (if_away _ (close_away _ c.number h) (got_away c m h))

-- ---- own events

moment_away : {g : Setting} {s : State} (moment : ℕ) → Away g s → Away g (OwnEvents.on_moment g moment s)
unfolding OwnEvents.on_moment
moment_away {s = s} moment h = if_away (nat_lt moment s.moment) h (release_away _ (told _ (At moment ∷ s.leases) refl (tt, h.parts.leases) h))

sweep_away : {g : Setting} {s : State} → Away g s → Away g (OwnEvents.on_sweep g s)
unfolding OwnEvents.on_sweep
sweep_away {g} {s = s} h = sweeps (OwnEvents.without_reason g s)
  where
    sweeps : (gone : List Object) → Away g (OwnEvents.sweep_of g s gone)
    sweeps [] = h
    sweeps (o ∷ os) = noted _ _ refl tt (each_away _ (o ∷ os) (λ t p k. drop_away _ k) (each_away _ _ (λ t id k. quiet _ refl k) (quiet _ refl h)))

names_away : {g : Setting} {s : State} (r : Result (List Binding) RegistryFault) → Away g s → Away g (OwnEvents.set_names r s)
unfolding OwnEvents.set_names
names_away (Ok names) h = quiet _ refl h
names_away (Err why) h = noted _ (Denied why) refl tt h

lookup_away : {g : Setting} {s : State} (peer : Uuid) (name : List ℕ) → bytes_eq peer g.id ≡ false → Away g s → Away g (OwnEvents.on_lookup g peer name s)
unfolding OwnEvents.on_lookup
lookup_away {g} {s = s} peer name e h = if_away (is_name name) (noted _ (Started (s.tasks_made + 1)) refl tt (fresh_away {s = s} asked (record { peer = peer; asked = LooksUp (s.calls_made + 1) (s.tasks_made + 1) name; stage = state.Waits } ∷ []) refl (e, tt) h)) (noted _ _ refl tt h)
  where
    asked : State
    asked = record s {
      tasks_made = s.tasks_made + 1;
      calls_made = s.calls_made + 1;
      fresh = record { peer = peer; asked = LooksUp (s.calls_made + 1) (s.tasks_made + 1) name; stage = state.Waits } ∷ [];
    }

opened_away : {g : Setting} {s : State} (conn : ℕ) (dialled : Option Uuid) → Refusals.was_asked s dialled ≡ true → Away g s → Away g (OwnEvents.on_opened g conn dialled s)
unfolding OwnEvents.on_opened
opened_away {g} {s} conn None asked h = if_away (nat_le 2 g.version) row (say_hello_away 1 conn row)
  where
    row : Away g (OwnEvents.add_connection conn None s)
    row = lined {s = s} _ _ s.dialling refl (all-more (Lines g) s.connections (record { number = conn; dialled = None; peer = None; version = 1; last = 0; sent = [] }) h.parts.lines tt) h.parts.dialling h
opened_away {g} {s} conn (Some peer) asked h = say_hello_away _ conn row
  where
    row : Away g (OwnEvents.dialled_no_more (Some peer) (OwnEvents.add_connection conn (Some peer) s))
    row = lined {s = s} _ _ _ refl (all-more (Lines g) s.connections (record { number = conn; dialled = Some peer; peer = None; version = 1; last = 0; sent = [] }) h.parts.lines (other-of s.dialling asked h.parts.dialling))
        (all-filter (OtherPeer g) (λ p. not (bytes_eq peer p)) s.dialling h.parts.dialling) h
      where
        other-of : (ps : List Uuid) → list_any (bytes_eq peer) ps ≡ true → AllOf (OtherPeer g) ps → OtherPeer g peer
        other-of [] e a = absurd (true≢false (sym e))
        other-of (p ∷ ps) e a = pick (bytes_eq peer p) refl e (λ f. other-of ps f a.1)
          where
            pick : (b : Bool) → bytes_eq peer p ≡ b → b || list_any (bytes_eq peer) ps ≡ true → (list_any (bytes_eq peer) ps ≡ true → OtherPeer g peer) → OtherPeer g peer
            pick true t f rest = subst (OtherPeer g) (sym (one-peer peer p t)) a.0
            pick false t f rest = rest f

refused_away : {g : Setting} {s : State} (peer : Uuid) → Away g s → Away g (OwnEvents.on_refused g peer s)
unfolding OwnEvents.on_refused
refused_away {g} {s} peer h = end_requests_away (Requests.waits_for peer) _ (lined {s = s} _ s.connections _ refl h.parts.lines (all-filter (OtherPeer g) (λ p. not (bytes_eq peer p)) s.dialling h.parts.dialling) h)

-- ---- events

-- a call and a lookup that a space takes are of another space
abbrev Asks : Setting → State → Event → Type 0
Asks g s (Parked id k) = (t : Living) (target : Ref) (method : ℕ) (arguments : List Value) → ready_at s id ≡ Some t → stand (steps k t.task) ≡ AsksFor (Call target method arguments) → bytes_eq target.space g.id ≡ false
Asks g s (Lookup peer name) = bytes_eq peer g.id ≡ false
Asks g s (Opened conn dialled) = Refusals.was_asked s dialled ≡ true
Asks g s _ = Unit {0}

happen_away : {g : Setting} {s : State} (e : Event) → Asks g s e → Away g s → Away g (Space.happen g e s)
unfolding Space.happen Endings.fail_write
happen_away (Moment moment) o h = moment_away moment h
happen_away Sweep o h = sweep_away h
happen_away (Root method arguments fuel) o h = add_task_away OfRoot method arguments fuel h
happen_away (RootAck task) o h = release_away _ h
happen_away (Bind name value) o h = names_away _ h
happen_away (Rebind name value) o h = names_away _ h
happen_away (Unbind name) o h = names_away _ h
happen_away {g} (Lookup peer name) o h = lookup_away {g = g} peer name o h
happen_away (Opened conn dialled) o h = opened_away conn dialled o h
happen_away (Refused peer) o h = refused_away peer h
happen_away {s = s} (Received conn m) o h = received_away conn (connection_at s conn) m refl h
happen_away (Closed conn) o h = end_connection_away _ conn h
happen_away (ReadFailed conn) o h = end_connection_away _ conn h
happen_away (Bad conn) o h = end_connection_away _ conn h
happen_away (WriteFailed conn unsent) o h = end_connection_away _ conn h
happen_away (Committed task k op) o h = commit_away task k op h
happen_away (Parked task k) o h = park_away task k o h
happen_away {g} (GivenBack task k) o h = give_back_away {g = g} task k h
happen_away (Finished task k) o h = finish_away task k h

sent_away : {g : Setting} {s : State} (o : Output) → Away g s → Away g (Space.record_sent s o)
sent_away (Started task) h = h
sent_away (Ended task outcome) h = h
sent_away (Withdrawn ids) h = h
sent_away (Denied why) h = h
sent_away (Send conn m) h = row_away conn (λ (c : Connection). record c { sent = m ∷ c.sent }) (λ c. refl) h
sent_away (Dial peer) h = h
sent_away (Close conn) h = h
sent_away (Ready task) h = h

-- what is noted is answered
ranked : (g : Setting) (notes : List Note) (k : ℕ) → AllOf (Notes g) notes → AllOf (IsToOther g) (of_ranks k notes)
ranked g notes zero a = tt
ranked g notes (suc k) a = all-append (IsToOther g) (of_ranks k notes) (of_rank notes k) (ranked g notes k a)
    (all-map (Notes g) (IsToOther g) output_of (filter (λ n. rank n == k) notes) (λ n x. x) (all-filter (Notes g) (λ n. rank n == k) notes a))

ordered : (g : Setting) (notes : List Note) → AllOf (Notes g) notes → AllOf (IsToOther g) (in_order notes)
unfolding in_order
ordered g notes a = ranked g notes ranks a

-- Of a state and of what is answered: what is asked is asked of others.
pub record AsksOthers (g : Setting) (x : State × List Output) : Type 0 where
  pub state : Away g x.0
  pub outputs : AllOf (IsToOther g) x.1

finish_event_away : {g : Setting} {s : State} (answers : Bool) → Away g s → AsksOthers g (Space.finish_event answers s)
finish_event_away {g} {s} true h = record {
  state = each_away _ _ (λ u o j. sent_away o j) (unnoted (Requests.settle s) (settle_away h));
  outputs = ordered g (Requests.settle s).notes (settle_away h).parts.notes;
}
  where
    unnoted : (t : State) → Away g t → Away g (record t { notes = [] })
    unnoted t k = record { parts = record { leases = k.parts.leases; fresh = k.parts.fresh; notes = tt; lines = k.parts.lines; dialling = k.parts.dialling } }
finish_event_away false h = record { state = h; outputs = tt }

-- a call that is parked is of another space
parks-other : (g : Setting) (lent : List ℕ) (s : State) (id k : ℕ) → first_refusal (checks g lent s (Parked id k)) ≡ None → Asks g s (Parked id k)
parks-other g lent s id k e t target method arguments is stands = at (subst (λ (x : Stand). first_refusal (Refusals.check_parked g (Some t) (Some x)) ≡ None) stands checked)
  where
    checked : first_refusal (Refusals.check_parked g (Some t) (Some (stand (steps k t.task)))) ≡ None
    checked = subst (λ x. first_refusal (Refusals.check_parked g x (Refusals.stand_after k x)) ≡ None) (ready-is (task_at s id) t is).0 (later (Refusals.refuse_if (not (Refusals.is_in_hand lent s id)) Refusals.NotLent) (Refusals.check_parked g (task_at s id) (Refusals.stand_after k (task_at s id))) e)

    not-true : (b : Bool) → not b ≡ true → b ≡ false
    not-true true f = absurd (true≢false (sym f))
    not-true false f = refl

    at : first_refusal (Refusals.check_parked g (Some t) (Some (AsksFor (Call target method arguments)))) ≡ None → bytes_eq target.space g.id ≡ false
    at c =
        let fits : not (Refusals.fits_call g (Call target method arguments)) ≡ false = (first-of (not (Refusals.fits_call g (Call target method arguments))) Refusals.WrongKind [] (later (Refusals.refuse_if (not (Refusals.holds_op g (Some t) (Call target method arguments))) Refusals.NotHeld) (Refusals.refuse_if (not (Refusals.fits_call g (Call target method arguments))) Refusals.WrongKind) c)).0 in
        not-true (bytes_eq target.space g.id) (and-left (not (bytes_eq target.space g.id)) (fit_kinds (g.classes.parameters method) arguments) (not-false (Refusals.fits_call g (Call target method arguments)) fits))

asks : (g : Setting) (lent : List ℕ) (s : State) (e : Event) → first_refusal (checks g lent s e) ≡ None → Asks g s e
asks g lent s (Parked task k) t = parks-other g lent s task k t
asks g lent s (Lookup peer name) t = (first-of (bytes_eq peer g.id) Refusals.Strange [] t).0
asks g lent s (Moment moment) t = tt
asks g lent s Sweep t = tt
asks g lent s (Root method arguments fuel) t = tt
asks g lent s (RootAck task) t = tt
asks g lent s (Bind name value) t = tt
asks g lent s (Rebind name value) t = tt
asks g lent s (Unbind name) t = tt
asks g lent s (Opened conn dialled) t = not-not (Refusals.was_asked s dialled) (or-none (is_open s conn) (not (Refusals.was_asked s dialled)) (first-of (is_open s conn || not (Refusals.was_asked s dialled)) Refusals.Strange [] t).0).1
  where
    not-not : (b : Bool) → not b ≡ false → b ≡ true
    not-not true e = refl
    not-not false e = absurd (true≢false e)
asks g lent s (Refused peer) t = tt
asks g lent s (Received conn m) t = tt
asks g lent s (Closed conn) t = tt
asks g lent s (ReadFailed conn) t = tt
asks g lent s (Bad conn) t = tt
asks g lent s (WriteFailed conn unsent) t = tt
asks g lent s (Committed task k op) t = tt
asks g lent s (GivenBack task k) t = tt
asks g lent s (Finished task k) t = tt

pub on_away : (g : Setting) (lent : List ℕ) (s : State) (e : Event) → refusal g lent s e ≡ None → Away g s → AsksOthers g (Space.on g e s)
unfolding Space.on
on_away g lent s e t h = finish_event_away (Space.answers_outputs e) (happen_away e (asks g lent s e (unrefused g lent s e t)) h)

pub new-away : (g : Setting) → Away g opening
unfolding opening
new-away g = record { parts = record { leases = tt; fresh = tt; notes = tt; lines = tt; dialling = tt } }

away-of : (g : Setting) (h : List Event) → IsTaken g h → Away g (Space.state_of g h)
unfolding Space.state_of
away-of g [] t = new-away g
away-of g (e ∷ h) t = (on_away g t.0.0 (Space.state_of g h) e t.0.1 (away-of g h t.1)).state

pub others_are_dialled : OthersAreDialled
unfolding Space.outputs_of
others_are_dialled g h lent e t r = (on_away g lent (Space.state_of g h) e r (away-of g h t)).outputs
