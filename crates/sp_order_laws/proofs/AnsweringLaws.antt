-- A space answers no more than it was asked, after every history.
use mathlib.Core.Path.{sym, ap, subst, ◌∙◌}
use Rattle.std.proofs.Common.{arith}
use Rattle.std.proofs.lemmas.Bool.{true≢false, eqb-true, eq-eqb, ltb-true, ltb-false}
use Rattle.std.specs.List.{flat_map}
use Rattle.std.specs.Prelude.{◌≡◌, ◌≤◌, ◌<◌, refl, cond, ℕ, zero, suc, ◌+◌, ◌==◌, ◌||◌, nat_lt, is_some, Bool, true, false, List, [], ◌∷◌, ◌++◌, Option, None, Some, filter, map, if◌then◌else◌}
use Rattle.uuid.specs.declared.Uuid.{Uuid}
use Rattle.space_ids.specs.declared.ids.ObjId.{ObjId}
use Rattle.dgc_client.specs.Groups as groups
use Rattle.dgc_client.specs.Table as client
use Rattle.dgc_client.specs.Table.{numbers_of}
use Rattle.dgc_client.specs.declared.groups.Group.{Group}
use Rattle.dgc_client.specs.declared.lease.Due.{Due}
use Rattle.dgc_client.specs.declared.lease.Due.TheVariants as due
use Rattle.net_message.specs.declared.message.Message.TheVariants as message
use Rattle.net_message.specs.declared.message.Message.{Message}
use Rattle.sp_rules.specs.Classes.{Setting}
use Rattle.sp_rules.specs.Events.{Turn, Waited, Note, Says, Sends, rank, output_of, of_rank, of_ranks, in_order, Output, Event, Moment, Sweep, Root, RootAck, Bind, Rebind, Unbind, Lookup, Opened, Refused, Received, Closed, ReadFailed, Bad, WriteFailed, Committed, Parked, GivenBack, Finished, Started, Ended, Withdrawn, Denied, Send, Dial, Close, Ready}
use Rattle.sp_rules.specs.Frames
use Rattle.sp_rules.specs.Lists.{each, with_some, total}
use Rattle.sp_rules.specs.Laws.{AllOf}
use Rattle.sp_rules.specs.Origins.{IsTaken}
use Rattle.sp_rules.specs.Refusals.{refusal}
use Rattle.sp_rules.specs.Requests
use Rattle.sp_rules.specs.Space
use Rattle.sp_rules.specs.State as state
use Rattle.sp_rules.specs.State.{State, Living, Request, Asked, Calls, LooksUp, Tells, Waits, Out, Connection, connection_at, connection_to, is_open, send, opening}
use Rattle.sp_rules.proofs.FuelOfSpaces.{total-append}
use Rattle.sp_rules.proofs.AllLemmas.{all-filter}
use Rattle.sp_laws.specs.Inbound.{opens, OpensOnce}
use Rattle.sp_laws.specs.Directions.{FramesGoTheirWay}
use Rattle.sp_order_laws.specs.Delivered.{came_on, frame_of, frame_in, sent_on}
use Rattle.sp_order_laws.specs.Answering.{Exchange, CallReply, GroupReply, ResultAck, asked_in, answered_in, times, times_asked, times_answered, parked_for, task_for, under_way, FramesAreAnsweredOnce}
use Rattle.sp_order_laws.proofs.NoteLemmas.{flat-append}
use Rattle.sp_order_laws.proofs.RisingHistories.{keep_each}
use Rattle.sp_order_laws.proofs.RisingLaws.{Risen, risen-of, rising_begins, never-opened}
use Rattle.sp_order_laws.proofs.RisingMoves.{IsSaid, IsFresh, Rising, rising_walks, line_parts, times-append}
use Rattle.sp_order_laws.proofs.WalkRules.{owed_by, Begins, happen_walk}
use Rattle.sp_order_laws.proofs.AnsweringMoves.{here, owed_of, noted, weight, every, brought-is, Owing, owing_moves, owing_walks}

-- ---- requests answer nothing

-- A frame answers nothing.
abbrev AnswersNothing : Message → Type 0
AnswersNothing m = (x : Exchange) → answered_in x m ≡ []

group-answers : (kind : Due) (sequence : ℕ) (ids : List ObjId) → AnswersNothing (Requests.group_frame kind sequence ids)
group-answers due.Dirty sequence ids CallReply = refl
group-answers due.Dirty sequence ids GroupReply = refl
group-answers due.Dirty sequence ids ResultAck = refl
group-answers (due.Clean strong) sequence ids CallReply = refl
group-answers (due.Clean strong) sequence ids GroupReply = refl
group-answers (due.Clean strong) sequence ids ResultAck = refl

lookup-answers : (number : ℕ) (name : List ℕ) → AnswersNothing (message.Lookup number name)
lookup-answers number name CallReply = refl
lookup-answers number name GroupReply = refl
lookup-answers number name ResultAck = refl

call-answers : (number task lent : ℕ) (kind : Rattle.sp_rules.specs.Classes.Kind) (m : Message) → IsSaid (Calls number task lent kind m) → AnswersNothing m
call-answers number task lent kind m said x = ap (answered_in x) said.1.1.1.1 ∙ none x
  where
    none : (y : Exchange) → answered_in y (message.Call number said.0 said.1.0 said.1.1.0 said.1.1.1.0) ≡ []
    none CallReply = refl
    none GroupReply = refl
    none ResultAck = refl

-- what is kept beside nothing that is owed
abbrev pub Kept : Exchange → ℕ → ℕ → ℕ → ℕ → State → Type 0
Kept x conn k sent bound s = Owing x conn k sent bound every [] s

send_kept : (x : Exchange) (conn k sent bound : ℕ) (s : State) (turn : Turn) (n : ℕ) (m : Message) → AnswersNothing m → Kept x conn k sent bound s → Kept x conn k sent bound (send turn n m s)
unfolding send
send_kept x conn k sent bound s turn n m none h = by (is_open s n)
  where
    quiet : (b : Bool) → here b (times k (answered_in x m)) ≡ 0
    quiet true = ap (times k) (none x)
    quiet false = refl

    by : (b : Bool) → Kept x conn k sent bound (if b then record s { notes = s.notes ++ Sends turn n m ∷ [] } else s)
    by true = record {
      holds =
          let a : sent + (total (noted x conn k) s.notes + (total (weight x conn k every) s.parked + (total (λ (t : Living). task_for x conn k t.origin) s.tasks + 0))) ≤ bound = h.holds in
          let b : total (noted x conn k) (s.notes ++ Sends turn n m ∷ []) ≡ total (noted x conn k) s.notes + here (n == conn) (times k (answered_in x m)) = Rattle.sp_rules.proofs.FuelSums.total-snoc (noted x conn k) s.notes (Sends turn n m) in
          let c : here (n == conn) (times k (answered_in x m)) ≡ 0 = quiet (n == conn) in omega arith;
    }
    by false = h

part_kept : (x : Exchange) (conn k sent bound : ℕ) (s : State) (turn : Turn) (n call : ℕ) (part : Group) → Kept x conn k sent bound s → Kept x conn k sent bound (Requests.part_goes_out turn n call s part)
unfolding Requests.part_goes_out
part_kept x conn k sent bound s turn n call part h = send_kept x conn k sent bound _ turn n _ (group-answers part.kind (numbers_of s.leases + 1) part.ids) h

go_out_kept : (x : Exchange) (conn k sent bound : ℕ) (s : State) (turn : Turn) (n : ℕ) (q : Request) → IsSaid q.asked → Kept x conn k sent bound s → Kept x conn k sent bound (Requests.go_out turn n q s)
unfolding Requests.go_out
go_out_kept x conn k sent bound s turn n q said h = goes q.asked said
  where
    goes : (asked : Asked) → IsSaid asked → Kept x conn k sent bound (Requests.goes_out turn n q.peer asked s)
    goes (Calls number task lent kind m) is = send_kept x conn k sent bound _ turn n m (call-answers number task lent kind m is) h
    goes (LooksUp number task name) is = send_kept x conn k sent bound _ turn n _ (lookup-answers number name) h
    goes (Tells call group) is = keep_each (Kept x conn k sent bound) (Requests.part_goes_out turn n call) (groups.parts_of (Requests.most_on s n) group) (λ t part j. part_kept x conn k sent bound t turn n call part j) h

dial_kept : (x : Exchange) (conn k sent bound : ℕ) (s : State) (peer : Uuid) → Kept x conn k sent bound s → Kept x conn k sent bound (Requests.dial peer s)
unfolding Requests.dial
dial_kept x conn k sent bound s peer h = by (is_some (connection_to s peer) || state.is_dialling s peer)
  where
    dialled : State
    dialled = record s { dialling = s.dialling ++ peer ∷ [] }

    by : (b : Bool) → Kept x conn k sent bound (if b then s else state.say (Dial peer) dialled)
    by true = h
    by false = record {
      holds =
          let a : sent + (total (noted x conn k) s.notes + (total (weight x conn k every) s.parked + (total (λ (t : Living). task_for x conn k t.origin) s.tasks + 0))) ≤ bound = h.holds in
          let b : total (noted x conn k) (s.notes ++ Says (Dial peer) ∷ []) ≡ total (noted x conn k) s.notes + 0 = Rattle.sp_rules.proofs.FuelSums.total-snoc (noted x conn k) s.notes (Says (Dial peer)) in omega arith;
    }

ask_kept : (x : Exchange) (conn k sent bound : ℕ) (s : State) (q : Request) → IsSaid q.asked → Kept x conn k sent bound s → Kept x conn k sent bound (Requests.ask s q)
unfolding Requests.ask
ask_kept x conn k sent bound s q said h = by (Requests.hello_came (connection_to s q.peer))
  where
    by : (o : Option ℕ) → Kept x conn k sent bound (with_some o (Requests.dial q.peer (Requests.add_request q s)) (λ n. Requests.go_out (Requests.turn_asked q.asked) n q s))
    by None = dial_kept x conn k sent bound (Requests.add_request q s) q.peer h
    by (Some n) = go_out_kept x conn k sent bound s (Requests.turn_asked q.asked) n q said h

group_kept : (x : Exchange) (conn k sent bound : ℕ) (s : State) (b : Group) → Kept x conn k sent bound s → Kept x conn k sent bound (Requests.make_group s b)
unfolding Requests.make_group
group_kept x conn k sent bound s b h = ask_kept x conn k sent bound (record s { groups_made = s.groups_made + 1; leases = client.made b (s.groups_made + 1) s.leases }) (record { peer = b.peer; asked = Tells (s.groups_made + 1) b; stage = Waits }) tt h

each_kept : (x : Exchange) (conn k sent bound : ℕ) (s : State) (turn : Turn) (n : ℕ) (rs : List Request) → AllOf (λ (q : Request). IsSaid q.asked) rs → Kept x conn k sent bound s → Kept x conn k sent bound (each (λ t q. Requests.go_out turn n q t) rs s)
unfolding each
each_kept x conn k sent bound s turn n [] a h = h
each_kept x conn k sent bound s turn n (q ∷ rs) a h = each_kept x conn k sent bound (Requests.go_out turn n q s) turn n rs a.1 (go_out_kept x conn k sent bound s turn n q a.0 h)

asks_kept : (x : Exchange) (conn k sent bound : ℕ) (s : State) (rs : List Request) → AllOf (λ (q : Request). IsSaid q.asked) rs → Kept x conn k sent bound s → Kept x conn k sent bound (each Requests.ask rs s)
unfolding each
asks_kept x conn k sent bound s [] a h = h
asks_kept x conn k sent bound s (q ∷ rs) a h = asks_kept x conn k sent bound (Requests.ask s q) rs a.1 (ask_kept x conn k sent bound s q a.0 h)

flush_kept : (x : Exchange) (conn k sent bound : ℕ) (s : State) (peer : Uuid) (n : ℕ) → AllOf (λ (q : Request). IsSaid q.asked) s.requests → Kept x conn k sent bound s → Kept x conn k sent bound (Requests.flush_waiting peer n s)
unfolding Requests.flush_waiting
flush_kept x conn k sent bound s peer n said h = each_kept x conn k sent bound (Requests.without_waiting peer s) Waited n (filter (Requests.waits_for peer) s.requests) (all-filter (λ (q : Request). IsSaid q.asked) (Requests.waits_for peer) s.requests said) h

-- the calls that are made in an event are said
fresh-said : (top made : ℕ) (fresh : List Request) → IsFresh top made fresh → AllOf (λ (q : Request). IsSaid q.asked) fresh
fresh-said top made [] f = tt
fresh-said top made (q ∷ rest) f = (f.1.1.0, subst (AllOf (λ (p : Request). IsSaid p.asked)) (sym f.1.0) tt)

-- the groups that are made do not touch the calls
due_fresh : (s : State) → (Requests.make_due s).fresh ≡ s.fresh
unfolding Requests.make_due
due_fresh s = keep_each (λ t. t.fresh ≡ s.fresh) Requests.make_group (Requests.due_groups s.leases) (λ t b e. made t b e) refl
  where
    made : (t : State) (b : Group) → t.fresh ≡ s.fresh → (Requests.make_group t b).fresh ≡ s.fresh
    made t b e = Rattle.sp_order_laws.proofs.RisingLaws.group_fresh t b ∙ e

settle_kept : (x : Exchange) (conn k sent bound top : ℕ) (s : State) → IsFresh top s.calls_made s.fresh → Kept x conn k sent bound s → Kept x conn k sent bound (Requests.settle s)
unfolding Requests.settle Requests.ask_fresh Requests.make_due
settle_kept x conn k sent bound top s fresh h = asks_kept x conn k sent bound (record (Requests.make_due s) { fresh = [] }) (Requests.make_due s).fresh (subst (AllOf (λ (q : Request). IsSaid q.asked)) (sym (due_fresh s)) (fresh-said top s.calls_made s.fresh fresh)) (dues h)
  where
    dues : Kept x conn k sent bound s → Kept x conn k sent bound (Requests.make_due s)
    dues j = keep_each (Kept x conn k sent bound) Requests.make_group (Requests.due_groups s.leases) (λ t b i. group_kept x conn k sent bound t b i) j

-- ---- notes are answered once

unfoldable pub value : Exchange → ℕ → ℕ → Output → ℕ
value x conn k o = times k (flat_map (answered_in x) (frame_in conn o))

below : Exchange → ℕ → ℕ → ℕ → Note → ℕ
below x conn k r n = if nat_lt (rank n) r then value x conn k (output_of n) else 0

rank-total : (x : Exchange) (conn k r : ℕ) (notes : List Note) → total (value x conn k) (of_rank notes r) + total (below x conn k r) notes ≡ total (below x conn k (suc r)) notes
unfolding below
rank-total x conn k r [] = refl
rank-total x conn k r (n ∷ notes) = pick (rank n == r) refl (nat_lt (rank n) r) refl (nat_lt (rank n) (suc r)) refl (rank-total x conn k r notes)
  where
    v : ℕ
    v = value x conn k (output_of n)

    pick : (a : Bool) → (rank n == r) ≡ a → (b : Bool) → nat_lt (rank n) r ≡ b → (c : Bool) → nat_lt (rank n) (suc r) ≡ c → total (value x conn k) (of_rank notes r) + total (below x conn k r) notes ≡ total (below x conn k (suc r)) notes
        → total (value x conn k) (map output_of (cond a (n ∷ filter (λ y. rank y == r) notes) (filter (λ y. rank y == r) notes))) + ((if b then v else 0) + total (below x conn k r) notes) ≡ (if c then v else 0) + total (below x conn k (suc r)) notes
    pick true e true f c g rest = let p : rank n ≡ r = eqb-true (rank n) r e in let q : rank n < r = ltb-true (rank n) r f in absurd (omega (arith, p, q))
    pick true e false f true g rest = omega arith
    pick true e false f false g rest = let p : rank n ≡ r = eqb-true (rank n) r e in let q : suc r ≤ rank n = ltb-false (rank n) (suc r) g in absurd (omega (arith, p, q))
    pick false e true f true g rest = omega arith
    pick false e true f false g rest = let p : rank n < r = ltb-true (rank n) r f in let q : suc r ≤ rank n = ltb-false (rank n) (suc r) g in absurd (omega (arith, p, q))
    pick false e false f true g rest = let p : r ≤ rank n = ltb-false (rank n) r f in let q : rank n < suc r = ltb-true (rank n) (suc r) g in absurd (true≢false (sym (eq-eqb (rank n) r (omega arith)) ∙ e))
    pick false e false f false g rest = omega arith

ranks-total : (x : Exchange) (conn k r : ℕ) (notes : List Note) → total (value x conn k) (of_ranks r notes) ≡ total (below x conn k r) notes
unfolding below
ranks-total x conn k zero notes = sym (zeros notes)
  where
    none : (n : Note) (b : Bool) → nat_lt (rank n) zero ≡ b → (if b then value x conn k (output_of n) else 0) ≡ 0
    none n true e = let p : rank n < zero = ltb-true (rank n) zero e in absurd (omega (arith, p))
    none n false e = refl

    zeros : (ns : List Note) → total (below x conn k zero) ns ≡ 0
    zeros [] = refl
    zeros (n ∷ ns) = let a : below x conn k zero n ≡ 0 = none n (nat_lt (rank n) zero) refl in let b : total (below x conn k zero) ns ≡ 0 = zeros ns in omega arith
ranks-total x conn k (suc r) notes =
    let a : total (value x conn k) (of_ranks r notes ++ of_rank notes r) ≡ total (value x conn k) (of_ranks r notes) + total (value x conn k) (of_rank notes r) = total-append (value x conn k) (of_ranks r notes) (of_rank notes r) in
    let b : total (value x conn k) (of_ranks r notes) ≡ total (below x conn k r) notes = ranks-total x conn k r notes in
    let c : total (value x conn k) (of_rank notes r) + total (below x conn k r) notes ≡ total (below x conn k (suc r)) notes = rank-total x conn k r notes in omega arith

total-le : (f g : Note → ℕ) → ((n : Note) → f n ≤ g n) → (notes : List Note) → total f notes ≤ total g notes
total-le f g le [] = omega arith
total-le f g le (n ∷ notes) = let a : f n ≤ g n = le n in let b : total f notes ≤ total g notes = total-le f g le notes in omega arith

note-below : (x : Exchange) (conn k : ℕ) (n : Note) → below x conn k 14 n ≤ noted x conn k n
unfolding below value
note-below x conn k (Says (Started task)) = omega arith
note-below x conn k (Says (Ended task outcome)) = omega arith
note-below x conn k (Says (Withdrawn ids)) = omega arith
note-below x conn k (Says (Denied why)) = omega arith
note-below x conn k (Says (Send n m)) = omega arith
note-below x conn k (Says (Dial peer)) = omega arith
note-below x conn k (Says (Close n)) = omega arith
note-below x conn k (Says (Ready task)) = omega arith
note-below x conn k (Sends turn n m) = first (nat_lt (Rattle.sp_rules.specs.Events.turn_rank turn) 14) (n == conn)
  where
    first : (b c : Bool) → (if b then times k (flat_map (answered_in x) (if c then m ∷ [] else [])) else 0) ≤ here c (times k (answered_in x m))
    first true true = let a : times k (answered_in x m ++ []) ≡ times k (answered_in x m) + 0 = times-append k (answered_in x m) [] in omega arith
    first true false = omega arith
    first false c = omega arith

in-order : (x : Exchange) (conn k : ℕ) (notes : List Note) → total (value x conn k) (in_order notes) ≤ total (noted x conn k) notes
unfolding in_order
in-order x conn k notes = let a : total (value x conn k) (of_ranks 14 notes) ≡ total (below x conn k 14) notes = ranks-total x conn k 14 notes in let b : total (below x conn k 14) notes ≤ total (noted x conn k) notes = total-le (below x conn k 14) (noted x conn k) (note-below x conn k) notes in omega arith

-- ---- an event

finish_kept : (x : Exchange) (conn k bound top : ℕ) (outs : List Output) (s : State) (answers : Bool) → IsFresh top s.calls_made s.fresh → Kept x conn k (total (value x conn k) outs) bound s → Kept x conn k (total (value x conn k) (outs ++ (Space.finish_event answers s).1)) bound (Space.finish_event answers s).0
finish_kept x conn k bound top outs s true fresh h = keep_each (Kept x conn k (total (value x conn k) (outs ++ in_order t.notes)) bound) Space.record_sent (in_order t.notes) (λ u o j. sent_kept u o j) (record {
  holds =
      let a : total (value x conn k) outs + (total (noted x conn k) t.notes + (total (weight x conn k every) t.parked + (total (λ (l : Living). task_for x conn k l.origin) t.tasks + 0))) ≤ bound = (settle_kept x conn k (total (value x conn k) outs) bound top s fresh h).holds in
      let b : total (value x conn k) (outs ++ in_order t.notes) ≡ total (value x conn k) outs + total (value x conn k) (in_order t.notes) = total-append (value x conn k) outs (in_order t.notes) in
      let c : total (value x conn k) (in_order t.notes) ≤ total (noted x conn k) t.notes = in-order x conn k t.notes in omega arith;
})
  where
    t : State
    t = Requests.settle s

    sent_kept : (u : State) (o : Output) → Kept x conn k (total (value x conn k) (outs ++ in_order t.notes)) bound u → Kept x conn k (total (value x conn k) (outs ++ in_order t.notes)) bound (Space.record_sent u o)
    sent_kept u (Started task) j = j
    sent_kept u (Ended task outcome) j = j
    sent_kept u (Withdrawn ids) j = j
    sent_kept u (Denied why) j = j
    sent_kept u (Send n m) j = j
    sent_kept u (Dial peer) j = j
    sent_kept u (Close n) j = j
    sent_kept u (Ready task) j = j
finish_kept x conn k bound top outs s false fresh h = subst (λ n. Kept x conn k n bound s) (sym (total-append (value x conn k) outs [] ∙ plus (total (value x conn k) outs))) h
  where
    plus : (n : ℕ) → n + 0 ≡ n
    plus n = omega arith

owing_begins : (g : Setting) (x : Exchange) (conn k sent bound : ℕ) (s : State) (e : Event) → AllOf (λ (q : Request). IsSaid q.asked) s.requests → Begins g (Owing x conn k sent bound every) s e
owing_begins g x conn k sent bound s e said = record {
  opens = λ n dialled is h. h;
  greets = λ c space is h. h;
  flushes = λ c space peer is shut h. flush_kept x conn k sent bound (Frames.greeted space c.number s) peer c.number said h;
  asks = λ id n t target method arguments is h. (owing_moves g x conn k sent bound every).works [] s id (Rattle.sp_rules.specs.LivingTasks.waiting n) (record { id = λ u. refl; origin = λ u. refl }) h;
  looks = λ peer name is h. h;
}

pub on_kept : (g : Setting) (lent : List ℕ) (x : Exchange) (conn k bound : ℕ) (outs : List Output) (s : State) (e : Event) → refusal g lent s e ≡ None → ((n : ℕ) → opens n e ≡ true → flat_map (Rattle.sp_order_laws.proofs.RisingMoves.calls_at n) outs ≡ []) → Risen outs s
    → Owing x conn k (total (value x conn k) outs) bound every (owed_by e) s → Kept x conn k (total (value x conn k) (outs ++ (Space.on g e s).1)) bound (Space.on g e s).0
unfolding Space.on
on_kept g lent x conn k bound outs s e taken none r h = finish_kept x conn k bound s.calls_made outs (Space.happen g e s) (Space.answers_outputs e) (happen_walk (rising_walks g outs s.calls_made) e (rising_begins g lent outs s e taken r.rested none) r.rising).fresh
    (happen_walk (owing_walks g x conn k (total (value x conn k) outs) bound) e (owing_begins g x conn k (total (value x conn k) outs) bound s e r.rising.said) h)

-- ---- histories

-- what comes with an event is owed
pub came-more : (x : Exchange) (conn k : ℕ) (e : Event) (h : List Event) → times_asked x k (came_on conn (e ∷ h)) ≡ times_asked x k (came_on conn h) + owed_of x conn k (owed_by e)
came-more x conn k e h =
    let a : times k (flat_map (asked_in x) (came_on conn h ++ frame_of conn e)) ≡ times k (flat_map (asked_in x) (came_on conn h) ++ flat_map (asked_in x) (frame_of conn e)) = ap (times k) (flat-append (asked_in x) (came_on conn h) (frame_of conn e)) in
    let b : times k (flat_map (asked_in x) (came_on conn h) ++ flat_map (asked_in x) (frame_of conn e)) ≡ times_asked x k (came_on conn h) + times k (flat_map (asked_in x) (frame_of conn e)) = times-append k (flat_map (asked_in x) (came_on conn h)) (flat_map (asked_in x) (frame_of conn e)) in
    let c : times k (flat_map (asked_in x) (frame_of conn e)) ≡ owed_of x conn k (owed_by e) = now e in omega arith
  where
    on-it : (n : ℕ) (m : Message) (b : Bool) → times k (flat_map (asked_in x) (if b then m ∷ [] else [])) ≡ here b (times k (asked_in x m))
    on-it n m true = let a : times k (asked_in x m ++ []) ≡ times k (asked_in x m) + 0 = times-append k (asked_in x m) [] in omega arith
    on-it n m false = refl

    now : (d : Event) → times k (flat_map (asked_in x) (frame_of conn d)) ≡ owed_of x conn k (owed_by d)
    now (Received n m) = on-it n m (n == conn) ∙ sym (brought-is conn k x n m)
    now (Moment moment) = refl
    now Sweep = refl
    now (Root method arguments fuel) = refl
    now (RootAck task) = refl
    now (Bind name v) = refl
    now (Rebind name v) = refl
    now (Unbind name) = refl
    now (Lookup peer name) = refl
    now (Opened n dialled) = refl
    now (Refused peer) = refl
    now (Closed n) = refl
    now (ReadFailed n) = refl
    now (Bad n) = refl
    now (WriteFailed n unsent) = refl
    now (Committed task n op) = refl
    now (Parked task n) = refl
    now (GivenBack task n) = refl
    now (Finished task n) = refl

owing-of : FramesGoTheirWay → (g : Setting) (h : List Event) (x : Exchange) (conn k : ℕ) → IsTaken g h → OpensOnce h → Kept x conn k (total (value x conn k) (Space.all_outputs g h)) (times_asked x k (came_on conn h)) (Space.state_of g h)
unfolding Space.state_of Space.outputs_of opening
owing-of ways g [] x conn k taken once = record { holds = omega arith }
owing-of ways g (e ∷ h) x conn k taken once = on_kept g taken.0.0 x conn k (times_asked x k (came_on conn (e ∷ h))) (Space.all_outputs g h) (Space.state_of g h) e taken.0.1 (λ n is. never-opened ways g h n (once.0 n is)) (risen-of ways g h taken.1 once.1)
    (more (Space.state_of g h) (owing-of ways g h x conn k taken.1 once.1))
  where
    more : (s : State) → Kept x conn k (total (value x conn k) (Space.all_outputs g h)) (times_asked x k (came_on conn h)) s → Owing x conn k (total (value x conn k) (Space.all_outputs g h)) (times_asked x k (came_on conn (e ∷ h))) every (owed_by e) s
    more s j = record {
      holds =
          let a : total (value x conn k) (Space.all_outputs g h) + (total (noted x conn k) s.notes + (total (weight x conn k every) s.parked + (total (λ (t : Living). task_for x conn k t.origin) s.tasks + 0))) ≤ times_asked x k (came_on conn h) = j.holds in
          let b : times_asked x k (came_on conn (e ∷ h)) ≡ times_asked x k (came_on conn h) + owed_of x conn k (owed_by e) = came-more x conn k e h in omega arith;
    }

-- ---- as the law says it

answered-on : (x : Exchange) (conn k : ℕ) (os : List Output) → times_answered x k (sent_on conn os) ≡ total (value x conn k) os
unfolding value
answered-on x conn k [] = refl
answered-on x conn k (o ∷ os) =
    let a : times k (flat_map (answered_in x) (frame_in conn o ++ sent_on conn os)) ≡ times k (flat_map (answered_in x) (frame_in conn o) ++ flat_map (answered_in x) (sent_on conn os)) = ap (times k) (flat-append (answered_in x) (frame_in conn o) (sent_on conn os)) in
    let b : times k (flat_map (answered_in x) (frame_in conn o) ++ flat_map (answered_in x) (sent_on conn os)) ≡ times k (flat_map (answered_in x) (frame_in conn o)) + times_answered x k (sent_on conn os) = times-append k (flat_map (answered_in x) (frame_in conn o)) (flat_map (answered_in x) (sent_on conn os)) in
    let c : times_answered x k (sent_on conn os) ≡ total (value x conn k) os = answered-on x conn k os in omega arith

pub frames_are_answered_once : FramesGoTheirWay → FramesAreAnsweredOnce
frames_are_answered_once ways g h x conn k taken once = by (Space.state_of g h) (owing-of ways g h x conn k taken once)
  where
    by : (s : State) → Kept x conn k (total (value x conn k) (Space.all_outputs g h)) (times_asked x k (came_on conn h)) s → under_way x conn k s + times_answered x k (sent_on conn (Space.all_outputs g h)) ≤ times_asked x k (came_on conn h)
    by s j =
        let a : total (value x conn k) (Space.all_outputs g h) + (total (noted x conn k) s.notes + (total (parked_for x conn k) s.parked + (total (λ (t : Living). task_for x conn k t.origin) s.tasks + 0))) ≤ times_asked x k (came_on conn h) = j.holds in
        let b : times_answered x k (sent_on conn (Space.all_outputs g h)) ≡ total (value x conn k) (Space.all_outputs g h) = answered-on x conn k (Space.all_outputs g h) in omega arith
