-- Numbers of calls and of dirty and clean calls rise, as requests go out and through the end of an event.
use mathlib.Core.Path.{sym, ap, subst, ◌∙◌}
use Rattle.std.proofs.Common.{arith, inr}
use Rattle.std.proofs.lemmas.Bool.{true≢false, eqb-true, eq-eqb}
use Rattle.std.specs.List.{flat_map}
use Rattle.std.specs.Prelude.{◌≡◌, ◌≤◌, ◌<◌, refl, cond, ℕ, ◌+◌, ◌==◌, ◌&&◌, not, nat_le, is_none, Bool, true, false, List, [], ◌∷◌, ◌++◌, Some, filter, if◌then◌else◌}
use Rattle.std.specs.Str.{bytes_eq}
use Rattle.space_ids.specs.declared.ids.ObjId.{ObjId}
use Rattle.uuid.specs.declared.Uuid.{Uuid}
use Rattle.dgc_client.specs.Table as client
use Rattle.dgc_client.specs.Table.{numbers_of, Told}
use Rattle.dgc_client.specs.declared.groups.Group.{Group}
use Rattle.dgc_client.specs.declared.lease.Due.{Due}
use Rattle.dgc_client.specs.declared.lease.Due.TheVariants as due
use Rattle.net_message.specs.declared.message.Message.TheVariants as message
use Rattle.net_message.specs.declared.message.Message.{Message}
use Rattle.sp_rules.specs.Endings.{call_number_in}
use Rattle.sp_rules.specs.Events.{Turn, Waited, Note, Sends, turn_rank, Output, Send}
use Rattle.sp_rules.specs.Frames
use Rattle.sp_rules.specs.Frames.{is_dirty_kind}
use Rattle.sp_rules.specs.Laws.{AllOf, RisesWithin}
use Rattle.sp_rules.specs.Lists.{each, at_first}
use Rattle.sp_rules.specs.Requests
use Rattle.sp_rules.specs.Requests.{is_waiting, waits_for, group_frame}
use Rattle.sp_rules.specs.State.{State, Request, Asked, Calls, LooksUp, Tells, Out, Connection, connection_at, is_open, send}
use Rattle.sp_rules.proofs.AllLemmas.{some-none, all-weaken, all-more, all-filter, all-found, found-is}
use Rattle.sp_rules.proofs.LineLemmas.{AreNumbered}
use Rattle.sp_laws.specs.Waiting.{count}
use Rattle.sp_order_laws.specs.Rising.{sequence_in}
use Rattle.sp_order_laws.proofs.NoteLemmas.{append-none, append-after, flat-last, rises-top, rises-last, rises-first, rises-after, rises-from, rises-some, sent, sent-quiet, sent-last}
use Rattle.sp_order_laws.proofs.WalkRules.{numbers-told}
use Rattle.sp_order_laws.proofs.RisingMoves.{calls_at, calls_in, sequences_in, number_of, waiting_number, IsSaid, times, times-append, IsInTurn, at-connection, calls-below, all-below, sequences-below, LineParts, line_parts, IsShut, Rising, fewer_rising, adds_rising, first_rising}

-- ---- one number more

-- the frame of a dirty or clean call, which has the next sequence number
tells_rising : {outs : List Output} {top r : ℕ} {rest : List Request} {x : LineParts} (turn : Turn) (conn : ℕ) (m : Message) → turn_rank turn ≡ r → r < 14 → call_number_in m ≡ [] → sequence_in m ≡ (x.numbers + 1) ∷ []
    → Rising outs top r rest x → Rising outs top r rest (record x { numbers = x.numbers + 1; notes = x.notes ++ Sends turn conn m ∷ [] })
tells_rising {outs} {top} {r} {rest} {x} turn conn m now low call sequence h = record {
  said = h.said;
  fresh = h.fresh;
  line = h.line;
  rows = h.rows;
  shut = all-weaken (IsShut outs x.notes) _ x.connections (λ c k e. sent-quiet (calls_at c.number) outs x.notes n (at-connection call_number_in conn c.number m call) ∙ k e) h.shut;
  calls = λ c. subst (RisesWithin 0 top) (sym (sent-quiet (calls_at c) outs x.notes n (at-connection call_number_in conn c m call))) (h.calls c);
  sequences = subst (RisesWithin 0 (x.numbers + 1)) (sym (sent-last sequences_in outs x.notes n (omega (arith, now, low)) (sequences-below (turn_rank turn) x.notes (subst (λ k. AllOf (IsInTurn k) x.notes) (sym now) h.turns)) ∙ ap (λ (l : List ℕ). sent sequences_in outs x.notes ++ (l ++ [])) sequence))
      (rises-last 0 x.numbers (x.numbers + 1) (x.numbers + 1) (sent sequences_in outs x.notes) (omega arith) (omega arith) h.sequences);
  turns = all-more (IsInTurn r) x.notes n h.turns (inr (omega (arith, now)));
  once = λ k. subst (λ l. times k l + (times k (flat_map waiting_number x.requests) + times k (flat_map number_of rest)) ≤ count (nat_le k top)) (sym (sent-quiet calls_in outs x.notes n (ap (λ (l : List ℕ). l ++ []) call))) (h.once k);
}
  where
    n : Note
    n = Sends turn conn m

-- a number is given whose frame is not sent
skips_rising : {outs : List Output} {top r : ℕ} {rest : List Request} {x : LineParts} → Rising outs top r rest x → Rising outs top r rest (record x { numbers = x.numbers + 1 })
skips_rising {outs} {x = x} h = record { said = h.said; fresh = h.fresh; line = h.line; rows = h.rows; shut = h.shut; calls = h.calls; sequences = rises-top 0 x.numbers (x.numbers + 1) (sent sequences_in outs x.notes) (omega arith) h.sequences; turns = h.turns; once = h.once }

numbers-sent : (part : Group) (call : ℕ) (h : List Told) → numbers_of (client.sent part call h) ≡ numbers_of h + 1
numbers-sent part call h = kinds part.kind
  where
    kinds : (kind : Due) → numbers_of (client.sent_as kind part call h) + 1 ≡ numbers_of h + 1
    kinds due.Dirty = ap (λ n. n + 1) (numbers-told (client.references_at part.peer part.ids) _ h)
    kinds (due.Clean strong) = refl

group-calls : (kind : Due) (sequence : ℕ) (ids : List ObjId) → call_number_in (group_frame kind sequence ids) ≡ []
group-calls due.Dirty sequence ids = refl
group-calls (due.Clean strong) sequence ids = refl

group-sequence : (kind : Due) (sequence : ℕ) (ids : List ObjId) → sequence_in (group_frame kind sequence ids) ≡ sequence ∷ []
group-sequence due.Dirty sequence ids = refl
group-sequence (due.Clean strong) sequence ids = refl

pub part_rising : {outs : List Output} {top r : ℕ} {rest : List Request} (s : State) (turn : Turn) (conn call : ℕ) (part : Group) → turn_rank turn ≡ r → r < 14 → Rising outs top r rest (line_parts s) → Rising outs top r rest (line_parts (Requests.part_goes_out turn conn call s part))
unfolding Requests.part_goes_out send
part_rising {outs} {top} {r} {rest} s turn conn call part now low h = by (is_open s conn)
  where
    q : Request
    q = record { peer = part.peer; asked = Tells call part; stage = Out conn (numbers_of s.leases + 1) }

    m : Message
    m = group_frame part.kind (numbers_of s.leases + 1) part.ids

    added : Rising outs top r rest (record { calls_made = s.calls_made; numbers = numbers_of s.leases; requests = s.requests ++ q ∷ []; fresh = s.fresh; connections = s.connections; notes = s.notes })
    added = adds_rising q tt refl h

    told : State
    told = record s { leases = client.sent part call s.leases; requests = s.requests ++ q ∷ [] }

    by : (b : Bool) → Rising outs top r rest (line_parts (if b then record told { notes = s.notes ++ Sends turn conn m ∷ [] } else told))
    by true = subst (λ n. Rising outs top r rest (record { calls_made = s.calls_made; numbers = n; requests = s.requests ++ q ∷ []; fresh = s.fresh; connections = s.connections; notes = s.notes ++ Sends turn conn m ∷ [] })) (sym (numbers-sent part call s.leases))
        (tells_rising turn conn m now low (group-calls part.kind (numbers_of s.leases + 1) part.ids) (group-sequence part.kind (numbers_of s.leases + 1) part.ids) added)
    by false = subst (λ n. Rising outs top r rest (record { calls_made = s.calls_made; numbers = n; requests = s.requests ++ q ∷ []; fresh = s.fresh; connections = s.connections; notes = s.notes })) (sym (numbers-sent part call s.leases)) (skips_rising added)

-- ---- requests go out

-- Requests are on their way to a connection whose Hello came: the numbers of their calls come after those that were sent there.
pub record Going (outs : List Output) (top r conn : ℕ) (rest : List Request) (s : State) : Type 0 where
  pub rising : Rising outs top r rest (line_parts s)
  pub next : RisesWithin 0 top (sent (calls_at conn) outs s.notes ++ flat_map number_of rest)
  pub greeted : AllOf (λ (c : Connection). is_none c.peer ≡ true → (c.number == conn) ≡ false) s.connections
  pub asked : AllOf (λ (q : Request). IsSaid q.asked) rest

part_going : {outs : List Output} {top r conn : ℕ} {rest : List Request} {s : State} (turn : Turn) (call : ℕ) (part : Group) → turn_rank turn ≡ r → r < 14 → Going outs top r conn rest s → Going outs top r conn rest (Requests.part_goes_out turn conn call s part)
unfolding Requests.part_goes_out send
part_going {outs} {top} {r} {conn} {rest} {s} turn call part now low k = by (is_open s conn) (part_rising s turn conn call part now low k.rising)
  where
    q : Request
    q = record { peer = part.peer; asked = Tells call part; stage = Out conn (numbers_of s.leases + 1) }

    m : Message
    m = group_frame part.kind (numbers_of s.leases + 1) part.ids

    told : State
    told = record s { leases = client.sent part call s.leases; requests = s.requests ++ q ∷ [] }

    by : (b : Bool) → Rising outs top r rest (line_parts (if b then record told { notes = s.notes ++ Sends turn conn m ∷ [] } else told)) → Going outs top r conn rest (if b then record told { notes = s.notes ++ Sends turn conn m ∷ [] } else told)
    by true j = record {
      rising = j;
      next = subst (λ (l : List ℕ). RisesWithin 0 top (l ++ flat_map number_of rest)) (sym (sent-quiet (calls_at conn) outs s.notes (Sends turn conn m) (at-connection call_number_in conn conn m (group-calls part.kind (numbers_of s.leases + 1) part.ids)))) k.next;
      greeted = k.greeted;
      asked = k.asked;
    }
    by false j = record { rising = j; next = k.next; greeted = k.greeted; asked = k.asked }

-- one that is not sent as its connection is not open
skip_going : {outs : List Output} {top r conn : ℕ} {rest : List Request} {s : State} (q : Request) → Going outs top r conn (q ∷ rest) s → Going outs top r conn rest s
skip_going {outs} {top} {r} {conn} {rest} {s} q k = record {
  rising = record {
    said = k.rising.said;
    fresh = k.rising.fresh;
    line = k.rising.line;
    rows = k.rising.rows;
    shut = k.rising.shut;
    calls = k.rising.calls;
    sequences = k.rising.sequences;
    turns = k.rising.turns;
    once = λ n. let a : times n (sent calls_in outs s.notes) + (times n (flat_map waiting_number s.requests) + times n (number_of q ++ flat_map number_of rest)) ≤ count (nat_le n top) = k.rising.once n in
        let b : times n (number_of q ++ flat_map number_of rest) ≡ times n (number_of q) + times n (flat_map number_of rest) = times-append n (number_of q) (flat_map number_of rest) in omega arith;
  };
  next = rises-after 0 top (sent (calls_at conn) outs s.notes) (number_of q ++ flat_map number_of rest) (flat_map number_of rest) (λ m j. Rattle.sp_order_laws.proofs.NoteLemmas.rises-rest m top (number_of q) (flat_map number_of rest) j) k.next;
  greeted = k.greeted;
  asked = k.asked.1;
}

-- a call or lookup is sent
call_going : {outs : List Output} {top r conn : ℕ} {rest : List Request} {s : State} (turn : Turn) (q : Request) (number : ℕ) (m : Message) → turn_rank turn ≡ r → r < 14 → number_of q ≡ number ∷ [] → call_number_in m ≡ number ∷ [] → sequence_in m ≡ []
    → Going outs top r conn (q ∷ rest) s → Going outs top r conn rest (record s { notes = s.notes ++ Sends turn conn m ∷ [] })
call_going {outs} {top} {r} {conn} {rest} {s} turn q number m now low is call sequence k = record {
  rising = record {
    said = k.rising.said;
    fresh = k.rising.fresh;
    line = k.rising.line;
    rows = k.rising.rows;
    shut = Rattle.sp_rules.proofs.AllLemmas.all-with _ _ (IsShut outs (s.notes ++ n ∷ [])) s.connections (λ c a b e. sent-quiet (calls_at c.number) outs s.notes n (elsewhere c.number (b e)) ∙ a e) k.rising.shut k.greeted;
    calls = λ c. pick c (conn == c) refl;
    sequences = subst (RisesWithin 0 (numbers_of s.leases)) (sym (sent-quiet sequences_in outs s.notes n (ap (λ (l : List ℕ). l ++ []) sequence))) k.rising.sequences;
    turns = all-more (IsInTurn r) s.notes n k.rising.turns (inr (omega (arith, now)));
    once = λ j. let a : times j (sent calls_in outs s.notes) + (times j (flat_map waiting_number s.requests) + times j (number_of q ++ flat_map number_of rest)) ≤ count (nat_le j top) = k.rising.once j in
        let b : times j (number_of q ++ flat_map number_of rest) ≡ times j (number_of q) + times j (flat_map number_of rest) = times-append j (number_of q) (flat_map number_of rest) in
        let c : times j (sent calls_in outs (s.notes ++ n ∷ [])) ≡ times j (sent calls_in outs s.notes) + times j (number_of q) = ap (times j) (any ∙ ap (λ (l : List ℕ). sent calls_in outs s.notes ++ l) (sym is)) ∙ times-append j (sent calls_in outs s.notes) (number_of q) in omega arith;
  };
  next = subst (RisesWithin 0 top) (sym (ap (λ (l : List ℕ). l ++ flat_map number_of rest) here ∙ append-after (sent (calls_at conn) outs s.notes) (number ∷ []) (flat_map number_of rest))) rises;
  greeted = k.greeted;
  asked = k.asked.1;
}
  where
    n : Note
    n = Sends turn conn m

    turned : AllOf (IsInTurn (turn_rank turn)) s.notes
    turned = subst (λ j. AllOf (IsInTurn j) s.notes) (sym now) k.rising.turns

    said-here : calls_at conn (Send conn m) ≡ number ∷ []
    said-here = ap (λ (b : Bool). flat_map call_number_in (if b then m ∷ [] else [])) (eq-eqb conn conn refl) ∙ ap (λ (l : List ℕ). l ++ []) call

    here : sent (calls_at conn) outs (s.notes ++ n ∷ []) ≡ sent (calls_at conn) outs s.notes ++ number ∷ []
    here = sent-last (calls_at conn) outs s.notes n (omega (arith, now, low)) (calls-below conn (turn_rank turn) s.notes turned) ∙ ap (λ (l : List ℕ). sent (calls_at conn) outs s.notes ++ l) said-here

    any : sent calls_in outs (s.notes ++ n ∷ []) ≡ sent calls_in outs s.notes ++ number ∷ []
    any = sent-last calls_in outs s.notes n (omega (arith, now, low)) (all-below (turn_rank turn) s.notes turned) ∙ ap (λ (l : List ℕ). sent calls_in outs s.notes ++ (l ++ [])) call

    rises : RisesWithin 0 top (sent (calls_at conn) outs s.notes ++ (number ∷ flat_map number_of rest))
    rises = subst (λ (l : List ℕ). RisesWithin 0 top (sent (calls_at conn) outs s.notes ++ (l ++ flat_map number_of rest))) is k.next

    elsewhere : (c : ℕ) → (c == conn) ≡ false → calls_at c (Send conn m) ≡ []
    elsewhere c e = by (conn == c) refl
      where
        by : (b : Bool) → (conn == c) ≡ b → flat_map call_number_in (if b then m ∷ [] else []) ≡ []
        by true f = absurd (true≢false (sym (eq-eqb c conn (sym (eqb-true conn c f))) ∙ e))
        by false f = refl

    pick : (c : ℕ) (b : Bool) → (conn == c) ≡ b → RisesWithin 0 top (sent (calls_at c) outs (s.notes ++ n ∷ []))
    pick c true e = subst (λ j. RisesWithin 0 top (sent (calls_at j) outs (s.notes ++ n ∷ []))) (eqb-true conn c e)
        (subst (RisesWithin 0 top) (sym here) (rises-first 0 top (sent (calls_at conn) outs s.notes ++ number ∷ []) (flat_map number_of rest) (subst (RisesWithin 0 top) (sym (append-after (sent (calls_at conn) outs s.notes) (number ∷ []) (flat_map number_of rest))) rises)))
    pick c false e = subst (RisesWithin 0 top) (sym (sent-quiet (calls_at c) outs s.notes n (ap (λ (b : Bool). flat_map call_number_in (if b then m ∷ [] else [])) e))) (k.rising.calls c)

adds_going : {outs : List Output} {top r conn : ℕ} {rest : List Request} {s : State} (q : Request) → IsSaid q.asked → waiting_number q ≡ [] → Going outs top r conn rest s → Going outs top r conn rest (Requests.add_request q s)
adds_going q said e k = record { rising = adds_rising q said e k.rising; next = k.next; greeted = k.greeted; asked = k.asked }

each_going : {outs : List Output} {top r conn : ℕ} {rest : List Request} {A : Type 0} {s : State} (f : State → A → State) (xs : List A) → ((t : State) (x : A) → Going outs top r conn rest t → Going outs top r conn rest (f t x)) → Going outs top r conn rest s → Going outs top r conn rest (each f xs s)
unfolding each
each_going f [] k h = h
each_going {s = s} f (x ∷ xs) k h = each_going f xs k (k s x h)

pub go_out_going : {outs : List Output} {top r conn : ℕ} {rest : List Request} {s : State} (turn : Turn) (q : Request) → turn_rank turn ≡ r → r < 14 → Going outs top r conn (q ∷ rest) s → Going outs top r conn rest (Requests.go_out turn conn q s)
unfolding Requests.go_out send
go_out_going {outs} {top} {r} {conn} {rest} {s} turn q now low k = goes q.asked refl k.asked.0
  where
    sends : (m : Message) (p : Request) (number : ℕ) → number_of q ≡ number ∷ [] → call_number_in m ≡ number ∷ [] → sequence_in m ≡ [] → Going outs top r conn (q ∷ rest) (Requests.add_request p s)
        → (b : Bool) → Going outs top r conn rest (if b then record s { requests = s.requests ++ p ∷ []; notes = s.notes ++ Sends turn conn m ∷ [] } else Requests.add_request p s)
    sends m p number is call sequence j true = call_going {s = Requests.add_request p s} turn q number m now low is call sequence j
    sends m p number is call sequence j false = skip_going q j

    goes : (asked : Asked) → q.asked ≡ asked → IsSaid asked → Going outs top r conn rest (Requests.goes_out turn conn q.peer asked s)
    goes (Calls number task lent kind m) e said = sends m (record { peer = q.peer; asked = Calls number task lent kind m; stage = Out conn 0 }) number (ap (λ a. number_of (record { peer = q.peer; asked = a; stage = q.stage })) e)
        (ap call_number_in said.1.1.1.1) (ap sequence_in said.1.1.1.1) (adds_going (record { peer = q.peer; asked = Calls number task lent kind m; stage = Out conn 0 }) said refl k) (is_open s conn)
    goes (LooksUp number task name) e said = sends (message.Lookup number name) (record { peer = q.peer; asked = LooksUp number task name; stage = Out conn 0 }) number (ap (λ a. number_of (record { peer = q.peer; asked = a; stage = q.stage })) e)
        refl refl (adds_going (record { peer = q.peer; asked = LooksUp number task name; stage = Out conn 0 }) said refl k) (is_open s conn)
    goes (Tells call group) e said = each_going _ _ (λ t part j. part_going turn call part now low j) (skip_going q k)

-- all that wait for a Hello
flush_going : {outs : List Output} {top r conn : ℕ} {s : State} (turn : Turn) (rs : List Request) → turn_rank turn ≡ r → r < 14 → Going outs top r conn rs s → Going outs top r conn [] (each (λ t q. Requests.go_out turn conn q t) rs s)
unfolding each
flush_going turn [] now low k = k
flush_going {conn = conn} {s = s} turn (q ∷ rs) now low k = flush_going {conn = conn} {s = Requests.go_out turn conn q s} turn rs now low (go_out_going {s = s} turn q now low k)

-- ---- the line of a peer

-- one that waits has its number
as-waits : (peer : Uuid) (q : Request) → waits_for peer q ≡ true → waiting_number q ≡ number_of q
as-waits peer q e = ap (λ (b : Bool). if b then number_of q else []) (right (bytes_eq q.peer peer) (is_waiting q.stage) e)
  where
    right : (a b : Bool) → a && b ≡ true → b ≡ true
    right true b e = e
    right false b e = absurd (true≢false (sym e))

-- those that wait and the others
times-parts : (k : ℕ) (peer : Uuid) (rs : List Request) → times k (flat_map waiting_number (filter (λ q. not (waits_for peer q)) rs)) + times k (flat_map number_of (filter (waits_for peer) rs)) ≡ times k (flat_map waiting_number rs)
times-parts k peer [] = refl
times-parts k peer (q ∷ rs) = pick (waits_for peer q) refl (times-parts k peer rs)
  where
    others : List Request
    others = filter (λ p. not (waits_for peer p)) rs

    pick : (b : Bool) → waits_for peer q ≡ b → times k (flat_map waiting_number others) + times k (flat_map number_of (filter (waits_for peer) rs)) ≡ times k (flat_map waiting_number rs)
        → times k (flat_map waiting_number (cond (not b) (q ∷ others) others)) + times k (flat_map number_of (cond b (q ∷ filter (waits_for peer) rs) (filter (waits_for peer) rs))) ≡ times k (waiting_number q ++ flat_map waiting_number rs)
    pick true e rest =
        let a : times k (waiting_number q ++ flat_map waiting_number rs) ≡ times k (waiting_number q) + times k (flat_map waiting_number rs) = times-append k (waiting_number q) (flat_map waiting_number rs) in
        let b : times k (number_of q ++ flat_map number_of (filter (waits_for peer) rs)) ≡ times k (number_of q) + times k (flat_map number_of (filter (waits_for peer) rs)) = times-append k (number_of q) (flat_map number_of (filter (waits_for peer) rs)) in
        let c : times k (waiting_number q) ≡ times k (number_of q) = ap (times k) (as-waits peer q e) in omega arith
    pick false e rest =
        let a : times k (waiting_number q ++ flat_map waiting_number rs) ≡ times k (waiting_number q) + times k (flat_map waiting_number rs) = times-append k (waiting_number q) (flat_map waiting_number rs) in
        let b : times k (waiting_number q ++ flat_map waiting_number others) ≡ times k (waiting_number q) + times k (flat_map waiting_number others) = times-append k (waiting_number q) (flat_map waiting_number others) in omega arith

same-line : (peer : Uuid) (rs : List Request) → flat_map waiting_number (filter (waits_for peer) rs) ≡ flat_map number_of (filter (waits_for peer) rs)
same-line peer [] = refl
same-line peer (q ∷ rs) = pick (waits_for peer q) refl (same-line peer rs)
  where
    pick : (b : Bool) → waits_for peer q ≡ b → flat_map waiting_number (filter (waits_for peer) rs) ≡ flat_map number_of (filter (waits_for peer) rs)
        → flat_map waiting_number (cond b (q ∷ filter (waits_for peer) rs) (filter (waits_for peer) rs)) ≡ flat_map number_of (cond b (q ∷ filter (waits_for peer) rs) (filter (waits_for peer) rs))
    pick true e rest = ap (λ (l : List ℕ). l ++ flat_map waiting_number (filter (waits_for peer) rs)) (as-waits peer q e) ∙ ap (λ (l : List ℕ). number_of q ++ l) rest
    pick false e rest = rest

-- after a Hello the rows of a number are greeted
greeted-open : (space : Uuid) (conn : ℕ) (cs : List Connection) → AreNumbered cs → AllOf (λ (c : Connection). is_none c.peer ≡ true → (c.number == conn) ≡ false) (at_first (λ (c : Connection). c.number == conn) (λ (d : Connection). record d { peer = Some space }) cs)
greeted-open space conn [] a = tt
greeted-open space conn (d ∷ cs) a = pick (d.number == conn) refl (greeted-open space conn cs a.1)
  where
    Is : Connection → Type 0
    Is c = is_none c.peer ≡ true → (c.number == conn) ≡ false

    pick : (b : Bool) → (d.number == conn) ≡ b → AllOf Is (at_first (λ (c : Connection). c.number == conn) (λ (x : Connection). record x { peer = Some space }) cs)
        → AllOf Is (if b then record d { peer = Some space } ∷ cs else d ∷ at_first (λ (c : Connection). c.number == conn) (λ (x : Connection). record x { peer = Some space }) cs)
    pick true e rest = ((λ f. absurd (true≢false (sym f))), all-weaken (λ (c : Connection). (c.number == d.number) ≡ false) Is cs (λ c f g. subst (λ n. (c.number == n) ≡ false) (eqb-true d.number conn e) f) a.0)
    pick false e rest = ((λ f. e), rest)

pub greet_rising : {outs : List Output} {top r : ℕ} {rest : List Request} (s : State) (conn : ℕ) (space : Uuid) → Rising outs top r rest (line_parts s) → Rising outs top r rest (line_parts (Frames.greeted space conn s))
greet_rising s conn space h = first_rising conn (λ (d : Connection). record d { peer = Some space }) (λ c. refl) (λ c. refl) (λ c e. absurd (true≢false (sym e))) h

pub flush_rising : {outs : List Output} {top : ℕ} (s : State) (c : Connection) (space peer : Uuid) → connection_at s c.number ≡ Some c → is_none c.peer ≡ true → Rising outs top 6 [] (line_parts s) → Rising outs top 6 [] (line_parts (Requests.flush_waiting peer c.number (Frames.greeted space c.number s)))
unfolding Requests.flush_waiting
flush_rising {outs} {top} s c space peer is shut h = (flush_going Waited (filter (waits_for peer) s.requests) refl (omega arith) (record {
  rising = record {
    said = less.said;
    fresh = less.fresh;
    line = less.line;
    rows = less.rows;
    shut = less.shut;
    calls = less.calls;
    sequences = less.sequences;
    turns = less.turns;
    once = λ k. let a : times k (sent calls_in outs s.notes) + (times k (flat_map waiting_number s.requests) + 0) ≤ count (nat_le k top) = h.once k in
        let b : times k (flat_map waiting_number (filter (λ q. not (waits_for peer q)) s.requests)) + times k (flat_map number_of (filter (waits_for peer) s.requests)) ≡ times k (flat_map waiting_number s.requests) = times-parts k peer s.requests in omega arith;
  };
  next = subst (λ (l : List ℕ). RisesWithin 0 top (l ++ flat_map number_of (filter (waits_for peer) s.requests))) (sym none) (subst (RisesWithin 0 top) (same-line peer s.requests) (rises-some waiting_number (waits_for peer) 0 top s.requests h.line));
  greeted = greeted-open space c.number s.connections h.rows;
  asked = all-filter (λ (q : Request). IsSaid q.asked) (waits_for peer) s.requests h.said;
})).rising
  where
    less : Rising outs top 6 [] (line_parts (Requests.without_waiting peer (Frames.greeted space c.number s)))
    less = fewer_rising (λ q. not (waits_for peer q)) (greet_rising s c.number space h)

    none : sent (calls_at c.number) outs s.notes ≡ []
    none = all-found (IsShut outs s.notes) (λ (d : Connection). d.number == c.number) s.connections c is h.shut shut
