-- Each event keeps requests and parked frames in place: frames that come, connections as they open and end, a space's own events.
use mathlib.Core.Path.{sym, ap, subst, ◌∙◌}
use Rattle.std.proofs.Common.{arith}
use Rattle.std.proofs.lemmas.Bool.{true≢false, eqb-true}
use Rattle.std.specs.List.{list_any}
use Rattle.std.specs.Prelude.{if◌then◌else◌, ◌≡◌, refl, ℕ, ◌+◌, ◌≤◌, ◌==◌, ◌&&◌, ◌||◌, not, nat_le, is_some, Bool, true, false, List, [], ◌∷◌, ◌++◌, Option, None, Some, find, map, nat_lt, is_none, Result, Ok, Err, filter}
use Rattle.std.specs.Str.{bytes_eq}
use Rattle.dgc_client.specs.History as lease_events
use Rattle.net_message.specs.declared.message.Message.TheVariants as message
use Rattle.net_message.specs.declared.message.Message.{Message}
use Rattle.sp_registry.specs.Bindings as registry
use Rattle.sp_registry.specs.Names.{is_name}
use Rattle.sp_registry.specs.declared.fault.RegistryFault.{RegistryFault}
use Rattle.sp_registry.specs.declared.registry.Binding.{Binding}
use Rattle.uuid.specs.declared.Uuid.{Uuid}
use Rattle.space_ids.specs.declared.ids.ObjId.{ObjId}
use Rattle.space_ids.specs.declared.value.Value.TheVariants as values
use Rattle.space_ids.specs.declared.value.Value.{Value}
use Rattle.sp_rules.proofs.AllLemmas.{some-none, or-right, all-weaken, all-map, all-first, all-more, all-both-filter, none-found, found-is}
use Rattle.sp_rules.proofs.FuelSums.{total-snoc}
use Rattle.sp_rules.proofs.LineLemmas.{one-peer, same-peer, none-of, or-none, row-numbers}
use Rattle.sp_rules.proofs.OwnLemmas.{unrefused}
use Rattle.sp_rules.specs.Behaviours.{Reply, Throws}
use Rattle.sp_rules.specs.Classes.{Setting, fit_kinds}
use Rattle.sp_rules.specs.Endings
use Rattle.sp_rules.specs.Events.{Started, Ended, Dial, Ready, Event, Moment, Sweep, Root, RootAck, Bind, Rebind, Unbind, Lookup, Opened, Refused, Received, Closed, ReadFailed, Bad, WriteFailed, Committed, Parked, GivenBack, Finished, Output, Withdrawn, Denied, Send, Close, Waited}
use Rattle.sp_rules.specs.Frames
use Rattle.sp_rules.specs.Frames.{is_call_frame}
use Rattle.sp_rules.specs.Holders
use Rattle.sp_rules.specs.Laws.{AllOf}
use Rattle.sp_rules.specs.Lists.{with_some, at_first, total}
use Rattle.sp_rules.specs.Origins.{IsTaken}
use Rattle.sp_rules.specs.OwnEvents
use Rattle.sp_rules.specs.ParkedFrames
use Rattle.sp_rules.specs.ParkedFrames.{has_number, is_asked_on, is_call_on, is_out_on, is_unanswered_on}
use Rattle.sp_rules.specs.References.{references_of, references_in, foreign_ids}
use Rattle.sp_rules.specs.Refusals
use Rattle.sp_rules.specs.Refusals.{first_refusal, checks, refusal}
use Rattle.sp_rules.specs.Requests
use Rattle.sp_rules.specs.Space
use Rattle.sp_rules.specs.State as state
use Rattle.sp_rules.specs.State.{State, Object, OfRoot, Request, Asked, Calls, LooksUp, Tells, Stage, Waits, Out, Answered, Connection, KeptResult, ReturnedFrame, ParkedFrame, object_at, connection_at, is_open, set_connection, is_to, opening, send}
use Rattle.sp_laws.specs.Answered.{HasTakenNone, IsDialledTo, IsGreeted, StandsOn, GoesTo, CameOn, is_answered_on, answers_of, results_of, AreInPlace, AnswersAreParked}
use Rattle.sp_laws.specs.Waiting.{count, calls_numbered}
use Rattle.sp_laws.proofs.InboundLemmas.{counted-row}
use Rattle.sp_laws.proofs.PlaceLemmas.{both-left, both-right, all-first-found, numbered-all, IsKeptRow, StillThere, still-stands, still-greeted, still-row, still-more, none, total-found, is_answer, is_result, is_at, out-and-answers, answers-made, answers-others}
use Rattle.sp_laws.proofs.WaitHistories.{waiting_tasks_have_one_call}
use Rattle.sp_laws.proofs.PlaceRules.{Place, quiet, if_place, some_place, each_place, send_place, hold_place, drop_place, each_with, fewer_place, waiting-open, Going, go_out_going, fresh_place, settle_place, add_task_place, keep_place, reply_to_place, commit_place, park_place, give_back_place, finish_place, call_gone, go_all_place, park_call_place, end_requests_place, end_connection_place, close_place, redial_place}

-- ---- rows of connections

row_place : {g : Setting} {ps : List ParkedFrame} {s : State} (conn : ℕ) (f : Connection → Connection) → IsKeptRow f → AllOf HasTakenNone (at_first (λ (d : Connection). d.number == conn) f s.connections) → Place g ps s → Place g ps (set_connection f conn s)
row_place {g} {ps} {s} conn f k u h = record {
  parts = record {
    numbers = row-numbers (λ (d : Connection). d.number == conn) f (record { number = k.number; dialled = k.dialled }) s.connections h.parts.numbers;
    requests = all-weaken (λ (q : Request). StandsOn s.connections q.peer q.stage × GoesTo q.peer q.asked) _ s.requests (λ q x. (still-stands s.connections _ there q.peer q.stage x.0, x.1)) h.parts.requests;
    fresh = h.parts.fresh;
    parked = all-weaken (CameOn s.connections) _ s.parked (λ q x. still-greeted s.connections _ none there q.conn (not (is_call_frame q.frame)) refl x) h.parts.parked;
    answered = h.parts.answered;
    also = all-weaken (CameOn s.connections) _ ps (λ q x. still-greeted s.connections _ none there q.conn (not (is_call_frame q.frame)) refl x) h.parts.also;
    unasked = u;
  };
}
  where
    there : StillThere s.connections (at_first (λ (d : Connection). d.number == conn) f s.connections) none
    there = still-row conn f k s.connections

more_place : {g : Setting} {ps : List ParkedFrame} {s : State} (conn : ℕ) (dialled : Option Uuid) → is_open s conn ≡ false → Place g ps s → Place g ps (OwnEvents.add_connection conn dialled s)
more_place {g} {ps} {s} conn dialled shut h = record {
  parts = record {
    numbers = numbered-all s.connections (record { number = conn; dialled = dialled; peer = None; version = 1; last = 0; sent = [] }) h.parts.numbers (none-found (λ (c : Connection). c.number == conn) s.connections (none-of _ shut));
    requests = all-weaken (λ (q : Request). StandsOn s.connections q.peer q.stage × GoesTo q.peer q.asked) _ s.requests (λ q x. (still-stands s.connections _ there q.peer q.stage x.0, x.1)) h.parts.requests;
    fresh = h.parts.fresh;
    parked = all-weaken (CameOn s.connections) _ s.parked (λ q x. still-greeted s.connections _ none there q.conn (not (is_call_frame q.frame)) refl x) h.parts.parked;
    answered = h.parts.answered;
    also = all-weaken (CameOn s.connections) _ ps (λ q x. still-greeted s.connections _ none there q.conn (not (is_call_frame q.frame)) refl x) h.parts.also;
    unasked = all-more HasTakenNone s.connections (record { number = conn; dialled = dialled; peer = None; version = 1; last = 0; sent = [] }) h.parts.unasked (λ e. refl);
  };
}
  where
    there : StillThere s.connections (s.connections ++ record { number = conn; dialled = dialled; peer = None; version = 1; last = 0; sent = [] } ∷ []) none
    there = still-more s.connections (record { number = conn; dialled = dialled; peer = None; version = 1; last = 0; sent = [] })

-- ---- frames that come

greets : (space : Uuid) → IsKeptRow (λ (c : Connection). record c { peer = Some space })
greets space = record { number = λ c. refl; dialled = λ c. refl; greeted = λ c e. refl }

greeted_place : {g : Setting} {s : State} (space : Uuid) (conn : ℕ) → Place g [] s → Place g [] (Frames.greeted space conn s)
greeted_place {s = s} space conn h = row_place conn _ (greets space) (all-first HasTakenNone (λ (d : Connection). d.number == conn) (λ (d : Connection). record d { peer = Some space }) s.connections (λ d x e. x (or-right (is_none d.peer) _ e)) h.parts.unasked) h

flush_place : {g : Setting} {s : State} (space peer : Uuid) (c : Connection) → connection_at s c.number ≡ Some c → c.dialled ≡ Some peer → Place g [] s → Place g [] (Requests.flush_waiting peer c.number (Frames.greeted space c.number s))
unfolding Requests.flush_waiting
flush_place {g} {s} space peer c is e h = (each_with (Going g [] c.number peer) (λ (r : Request). (bytes_eq r.peer peer ≡ true) × GoesTo r.peer r.asked) (λ t r. Requests.go_out Waited c.number r t) (filter (Requests.waits_for peer) s.requests)
    (all-weaken (λ (q : Request). (StandsOn s.connections q.peer q.stage × GoesTo q.peer q.asked) × (Requests.waits_for peer q ≡ true)) _ _ (λ q x. (both-left (bytes_eq q.peer peer) _ x.1, x.0.1)) (all-both-filter (λ (q : Request). StandsOn s.connections q.peer q.stage × GoesTo q.peer q.asked) (Requests.waits_for peer) s.requests h.parts.requests))
    (λ t r x k. goes t r (one-peer r.peer peer x.0) x.1 k) start).place
  where
    start : Going g [] c.number peer (Requests.without_waiting peer (Frames.greeted space c.number s))
    start = record {
      place = fewer_place (Requests.waits_for peer) (waiting-open peer) (greeted_place space c.number h);
      dialled = record {
        row = record c { peer = Some space };
        found = counted-row c.number (λ (d : Connection). record d { peer = Some space }) (λ d. refl) s.connections c is;
        dialled = ap (is_to peer) e ∙ same-peer peer;
        greeted = refl;
      };
    }

    goes : (t : State) (r : Request) → r.peer ≡ peer → GoesTo r.peer r.asked → Going g [] c.number peer t → Going g [] c.number peer (Requests.go_out Waited c.number r t)
    goes t r same to k = subst (λ p. Going g [] c.number p (Requests.go_out Waited c.number r t)) same (go_out_going Waited r to (subst (λ p. Going g [] c.number p t) (sym same) k))

versions : (version : ℕ) → IsKeptRow (λ (c : Connection). record c { version = version })
versions version = record { number = λ c. refl; dialled = λ c. refl; greeted = λ c e. e }

say_hello_place : {g : Setting} {s : State} (version conn : ℕ) → Place g [] s → Place g [] (Frames.say_hello g version conn s)
say_hello_place {g} {s} version conn h = said (send Rattle.sp_rules.specs.Events.Hellos conn (message.Hello version g.id g.digest) s) (send_place Rattle.sp_rules.specs.Events.Hellos conn (message.Hello version g.id g.digest) h)
  where
    said : (t : State) → Place g [] t → Place g [] (Frames.of_version version conn t)
    said t k = row_place conn _ (versions version) (all-first HasTakenNone (λ (d : Connection). d.number == conn) (λ (d : Connection). record d { version = version }) t.connections (λ d x e. x e) k.parts.unasked) k

first_place : {g : Setting} {s : State} (c : Connection) (m : Message) → connection_at s c.number ≡ Some c → is_none c.peer ≡ true → Place g [] s → Place g [] (Frames.first_frame g c m s)
unfolding Frames.first_frame
first_place {g} {s} c (message.Hello version space digest) is none h = pick c.dialled refl
  where
    pick : (o : Option Uuid) → c.dialled ≡ o
        → Place g [] (with_some o (if bytes_eq digest g.digest && nat_le version g.version then Frames.answer_hello g version c.number (Frames.greeted space c.number s) else Endings.close g g.classes.unmarshal c.number s)
        (λ peer. if bytes_eq digest g.digest && bytes_eq space peer then Frames.answered_hello g c peer version space s else Endings.close g g.classes.connect c.number s))
    pick None e = if_place (bytes_eq digest g.digest && nat_le version g.version)
        (if_place (nat_le 2 g.version) (say_hello_place _ c.number (greeted_place space c.number h)) (greeted_place space c.number h)) (close_place _ c.number h)
    pick (Some peer) e = if_place (bytes_eq digest g.digest && bytes_eq space peer)
        (if_place (version == c.version) (flush_place space peer c is e h) (if_place (nat_le 2 c.version && version == 1) (redial_place peer c.number c is none h) (close_place _ c.number h)))
        (close_place _ c.number h)
first_place c _ is none h = close_place _ c.number h

-- a call is taken on a connection on which somebody asks
counted_place : {g : Setting} {s : State} (conn number : ℕ) → IsGreeted s.connections conn false → Place g [] s → Place g [] (Frames.counted conn number s)
counted_place {s = s} conn number came h = row_place conn _ (record { number = λ c. refl; dialled = λ c. refl; greeted = λ c e. e })
    (all-first-found HasTakenNone (λ (d : Connection). d.number == conn) (λ (d : Connection). record d { last = number }) s.connections came.row came.found (λ e. absurd (asked came.row.peer came.row.dialled came.greeted came.end e)) h.parts.unasked) h
  where
    asked : (p d : Option Uuid) → is_some p ≡ true → is_some d ≡ false → is_none p || is_some d ≡ true → ⊥
    asked None d e f t = true≢false (sym e)
    asked (Some x) d e f t = true≢false (sym t ∙ f)

-- the connection on which a frame of the right direction came
still-came : (s : State) (conn number : ℕ) (dialled : Bool) → IsGreeted s.connections conn dialled → IsGreeted (Frames.counted conn number s).connections conn dialled
still-came s conn number dialled k = still-greeted s.connections _ none (still-row conn (λ (c : Connection). record c { last = number }) (record { number = λ c. refl; dialled = λ c. refl; greeted = λ c e. e }) s.connections) conn dialled refl k

call_of_place : {g : Setting} {s : State} (conn number : ℕ) (o : Object) (method fuel : ℕ) (arguments : List Value) → IsGreeted s.connections conn false → Place g [] s → Place g [] (Frames.call_of g conn number o method fuel arguments s)
call_of_place {g} {s = s} conn number o method fuel arguments came h =
    if_place (not (g.classes.may_call o.class method) || (not (fit_kinds (g.classes.parameters method) arguments) || list_any (Holders.is_refused g s) (references_of arguments))) (send_place _ conn _ h)
    (if_place (Frames.is_busy s) (send_place _ conn _ h) (park_call_place conn number o.id method fuel arguments _ came h))

got_call_place : {g : Setting} {s : State} (c : Connection) (number : ℕ) (target : ObjId) (method fuel : ℕ) (arguments : List Value) → IsGreeted s.connections c.number false → Place g [] s → Place g [] (Frames.got_call g c number target method fuel arguments s)
unfolding Frames.got_call
got_call_place {g} {s} c number target method fuel arguments came h = if_place (nat_le number c.last) (close_place _ c.number h) (on (object_at s target))
  where
    on : (o : Option Object) → Place g [] (Frames.call_on g c.number number o method fuel arguments (Frames.counted c.number number s))
    on None = send_place Rattle.sp_rules.specs.Events.Replies c.number (message.Threw number g.classes.no_such_object) (counted_place c.number number came h)
    on (Some o) = call_of_place c.number number o method fuel arguments (still-came s c.number number false came) (counted_place c.number number came h)

found_place : {g : Setting} {s : State} (conn number : ℕ) (o : Option Object) → Place g [] s → Place g [] (Frames.found g conn number o s)
found_place conn number None h = send_place _ conn _ h
found_place {g} conn number (Some o) h = send_place _ conn _ (keep_place (state.Acked conn number) (Some (values.Ref (record { space = g.id; id = o.id; class = o.class }))) h)

got_lookup_place : {g : Setting} {s : State} (c : Connection) (number : ℕ) (name : List ℕ) → IsGreeted s.connections c.number false → Place g [] s → Place g [] (Frames.got_lookup g c number name s)
unfolding Frames.got_lookup
got_lookup_place {g} {s} c number name came h = if_place (nat_le number c.last) (close_place _ c.number h) (found_place c.number number (Frames.object_of s (registry.lookup s.owner.names name)) (counted_place c.number number came h))

release_place : {g : Setting} {s : State} (is : KeptResult → Bool) → Place g [] s → Place g [] (Frames.release g is s)
unfolding Frames.release
release_place is h = each_place _ _ (λ t r k. drop_place _ k) (quiet _ refl h)

got_ack_place : {g : Setting} {s : State} (c : Connection) (number : ℕ) → Place g [] s → Place g [] (Frames.got_ack g c number s)
unfolding Frames.got_ack
got_ack_place {s = s} c number h = if_place (list_any (Frames.is_acked_by c.number number) s.results) (release_place _ h) (close_place _ c.number h)

-- Each call and lookup has a number of its own.
abbrev Once : State → Type 0
Once s = (k : ℕ) → calls_numbered k s.requests ≤ 1

-- the one of a number that is out and not answered is the only one
alone : (s : State) (conn number : ℕ) (q : Request) → Once s → find (is_asked_on conn number) s.requests ≡ Some q → (total (λ (r : Request). count (is_asked_on conn number r)) s.requests + answers_of conn number s.requests ≡ 1) × (answers_of conn number s.requests ≡ 0)
alone s conn number q once is =
    let a : 1 ≤ total (λ (r : Request). count (is_asked_on conn number r)) s.requests = total-found (is_asked_on conn number) s.requests q is in
    let b : total (λ (r : Request). count (is_asked_on conn number r)) s.requests + answers_of conn number s.requests ≤ calls_numbered number s.requests = out-and-answers conn number s.requests in
    let c : calls_numbered number s.requests ≤ 1 = once number in (omega arith, omega arith)

answered-stands : (cs : List Connection) (conn number : ℕ) (q : Request) → StandsOn cs q.peer q.stage × GoesTo q.peer q.asked → StandsOn cs (Frames.answered_on conn number q).peer (Frames.answered_on conn number q).stage × GoesTo (Frames.answered_on conn number q).peer (Frames.answered_on conn number q).asked
answered-stands cs conn number q x = pick (is_call_on conn number q) refl
  where
    on : (stage : Stage) → StandsOn cs q.peer stage → is_out_on conn stage ≡ true → IsDialledTo cs conn q.peer
    on Waits y e = absurd (true≢false (sym e))
    on (Out n sequence) y e = subst (λ m. IsDialledTo cs m q.peer) (eqb-true n conn e) y
    on (Answered n) y e = subst (λ m. IsDialledTo cs m q.peer) (eqb-true n conn e) y

    pick : (b : Bool) → is_call_on conn number q ≡ b → StandsOn cs (if b then record q { stage = Answered conn } else q).peer (if b then record q { stage = Answered conn } else q).stage × GoesTo (if b then record q { stage = Answered conn } else q).peer (if b then record q { stage = Answered conn } else q).asked
    pick true e = (on q.stage x.0 (both-left (is_out_on conn q.stage) _ e), x.1)
    pick false e = x

returned_place : {g : Setting} {s : State} (c : Connection) (number fuel : ℕ) (value : Option Value) (q : Request) → Once s → find (is_asked_on c.number number) s.requests ≡ Some q → IsGreeted s.connections c.number true → Place g [] s → Place g [] (Frames.returned_for g c number fuel value q.asked s)
unfolding ParkedFrames.park_frame
returned_place {g} {s} c number fuel value q once is came h = if_place _ (reply_to_place q.asked (Throws g.classes.unmarshal) (send_place _ c.number _ (call_gone c.number number (alone s c.number number q once is).1 h)))
    (go_all_place (hold_place (foreign_ids g.id (references_in value)) parks))
  where
    frame : ParkedFrame
    frame = record { conn = c.number; number = number; frame = ReturnedFrame value fuel; references = foreign_ids g.id (references_in value) }

    matched : (conn k : ℕ) (b : Bool) → is_at conn k c.number number ≡ b → answers_of conn k (map (Frames.answered_on c.number number) s.requests) ≡ results_of conn k s.parked + count b
    matched conn k true e =
        let x : answers_of c.number number (map (Frames.answered_on c.number number) s.requests) ≡ total (λ (r : Request). count (is_asked_on c.number number r)) s.requests + answers_of c.number number s.requests = answers-made c.number number s.requests in
        let y : total (λ (r : Request). count (is_asked_on c.number number r)) s.requests + answers_of c.number number s.requests ≡ 1 = (alone s c.number number q once is).0 in
        let z : answers_of c.number number s.requests ≡ 0 = (alone s c.number number q once is).1 in
        let r : answers_of c.number number s.requests ≡ results_of c.number number s.parked = h.parts.answered c.number number in
        let all : answers_of c.number number (map (Frames.answered_on c.number number) s.requests) ≡ results_of c.number number s.parked + 1 = omega arith in
        subst (λ n. answers_of n k (map (Frames.answered_on c.number number) s.requests) ≡ results_of n k s.parked + 1) (eqb-true c.number conn (both-left (c.number == conn) _ e))
        (subst (λ n. answers_of c.number n (map (Frames.answered_on c.number number) s.requests) ≡ results_of c.number n s.parked + 1) (eqb-true number k (both-right (c.number == conn) _ e)) all)
    matched conn k false e =
        let a : answers_of conn k (map (Frames.answered_on c.number number) s.requests) ≡ answers_of conn k s.requests = answers-others conn k c.number number s.requests e in
        let b : answers_of conn k s.requests ≡ results_of conn k s.parked = h.parts.answered conn k in omega arith

    parks : Place g [] (record (record s { requests = map (Frames.answered_on c.number number) s.requests }) { parked = s.parked ++ frame ∷ [] })
    parks = record {
      parts = record {
        numbers = h.parts.numbers;
        requests = all-map (λ (r : Request). StandsOn s.connections r.peer r.stage × GoesTo r.peer r.asked) (λ (r : Request). StandsOn s.connections r.peer r.stage × GoesTo r.peer r.asked) (Frames.answered_on c.number number) s.requests (λ r x. answered-stands s.connections c.number number r x) h.parts.requests;
        fresh = h.parts.fresh;
        parked = all-more (CameOn s.connections) s.parked frame h.parts.parked came;
        answered = λ conn k.
            let a : results_of conn k (s.parked ++ frame ∷ []) ≡ results_of conn k s.parked + count (is_at conn k c.number number) = total-snoc (λ (p : ParkedFrame). count (is_result conn k p)) s.parked frame in
            let b : answers_of conn k (map (Frames.answered_on c.number number) s.requests) ≡ results_of conn k s.parked + count (is_at conn k c.number number) = matched conn k (is_at conn k c.number number) refl in omega arith;
        also = tt;
        unasked = h.parts.unasked;
      };
    }

answered_by_place : {g : Setting} {s : State} (c : Connection) (number : ℕ) (next : Asked → State → State) → ((q : Request) → find (is_asked_on c.number number) s.requests ≡ Some q → Place g [] (next q.asked s)) → Place g [] s → Place g [] (Frames.answered_by g c number next s)
unfolding Frames.answered_by
answered_by_place {s = s} c number next k h = some_place (find (is_asked_on c.number number) s.requests) _ (close_place _ c.number h) (λ q is. k q is)

ends_as_place : {g : Setting} {s : State} (c : Connection) (number : ℕ) (reply : Asked → Reply) (q : Request) → Once s → find (is_asked_on c.number number) s.requests ≡ Some q → Place g [] s → Place g [] (Frames.ends_as g c number reply q.asked s)
ends_as_place {s = s} c number reply q once is h = reply_to_place q.asked _ (call_gone c.number number (alone s c.number number q once is).1 h)

tells-open : (dirty : Bool) (at sequence : ℕ) (q : Request) → Frames.tells_on dirty at sequence q ≡ true → (conn k : ℕ) → is_answer conn k q ≡ false
tells-open dirty at sequence q e conn k = ap (λ b. b && has_number k q.asked) (unanswered q.stage (both-left (is_unanswered_on at q.stage) _ e))
  where
    unanswered : (stage : Stage) → is_unanswered_on at stage ≡ true → is_answered_on conn stage ≡ false
    unanswered Waits f = refl
    unanswered (Out n m) f = refl
    unanswered (Answered n) f = absurd (true≢false (sym f))

told_by_place : {g : Setting} {s : State} (c : Connection) (dirty : Bool) (sequence : ℕ) (event : ℕ → lease_events.Event) → Place g [] s → Place g [] (Frames.told_by g c dirty sequence event s)
unfolding Frames.told_by
told_by_place {g} {s = s} c dirty sequence event h = some_place (find (Frames.tells_on dirty c.number sequence) s.requests) _ (close_place _ c.number h) (λ q is. go_all_place (tells q.asked (fewer_place _ (tells-open dirty c.number sequence) h)))
  where
    tells : (asked : Asked) {t : State} → Place g [] t → Place g [] (Frames.group_told event asked t)
    tells (Calls n task lent kind m) k = k
    tells (LooksUp n task name) k = k
    tells (Tells call group) k = quiet _ refl k

got_place : {g : Setting} {s : State} (c : Connection) (m : Message) → Once s → connection_at s c.number ≡ Some c → is_some c.peer ≡ true → Frames.is_wrong_way (Frames.is_asking m) (is_some c.dialled) ≡ false → Place g [] s → Place g [] (Frames.got g c m s)
unfolding Frames.got Frames.got_dirty Frames.got_clean
got_place c (message.Hello version space digest) once is spoke way h = close_place _ c.number h
got_place c (message.Call number object method fuel arguments) once is spoke way h = got_call_place c number object method fuel arguments (record { row = c; found = is; end = way; greeted = spoke }) h
got_place c (message.Returned number fuel value) once is spoke way h = answered_by_place c number _ (λ q asked. returned_place c number fuel value q once asked (record { row = c; found = is; end = dialled (is_some c.dialled) way; greeted = spoke }) h) h
  where
    dialled : (b : Bool) → not b ≡ false → b ≡ true
    dialled true e = refl
    dialled false e = absurd (true≢false e)
got_place {g} c (message.Threw number class) once is spoke way h = answered_by_place c number _ (λ q asked. ends_as_place c number (λ a. Frames.thrown_reply g class) q once asked h) h
got_place {g} c (message.Spent number) once is spoke way h = answered_by_place c number _ (λ q asked. ends_as_place c number (Frames.spent_reply g) q once asked h) h
got_place c (message.Ack number) once is spoke way h = got_ack_place c number h
got_place c (message.Dirty sequence period objects) once is spoke way h = if_place (Frames.fit_frame c objects) (send_place _ c.number _ (quiet _ refl h)) (close_place _ c.number h)
got_place c (message.Lease sequence period) once is spoke way h = told_by_place c true sequence _ h
got_place c (message.Clean sequence strong objects) once is spoke way h = if_place (Frames.fit_frame c objects) (send_place _ c.number _ (quiet _ refl h)) (close_place _ c.number h)
got_place c (message.Cleaned sequence) once is spoke way h = told_by_place c false sequence _ h
got_place c (message.Lookup number name) once is spoke way h = got_lookup_place c number name (record { row = c; found = is; end = way; greeted = spoke }) h

received_place : {g : Setting} {s : State} (conn : ℕ) (c : Option Connection) (m : Message) → Once s → connection_at s conn ≡ c → Place g [] s → Place g [] (OwnEvents.received_on g c m s)
unfolding Frames.receive
received_place conn None m once e h = h
received_place {g} {s} conn (Some c) m once e h = first (is_none c.peer) refl
  where
    is : connection_at s c.number ≡ Some c
    is = subst (λ n. connection_at s n ≡ Some c) (sym (eqb-true c.number conn (found-is (λ (d : Connection). d.number == conn) s.connections c e))) e

    spoke : (o : Option Uuid) → is_none o ≡ false → is_some o ≡ true
    spoke None f = absurd (true≢false f)
    spoke (Some p) f = refl

    way : is_none c.peer ≡ false → (b : Bool) → Frames.is_wrong_way (Frames.is_asking m) (is_some c.dialled) ≡ b → Place g [] (if b then Endings.close g g.classes.unmarshal c.number s else Frames.got g c m s)
    way f true w = close_place _ c.number h
    way f false w = got_place c m once is (spoke c.peer f) w h

    first : (b : Bool) → is_none c.peer ≡ b → Place g [] (if b then Frames.first_frame g c m s else (if Frames.is_wrong_way (Frames.is_asking m) (is_some c.dialled) then Endings.close g g.classes.unmarshal c.number s else Frames.got g c m s))
    first true f = first_place c m is f h
    first false f = way f _ refl

-- ---- own events

moment_place : {g : Setting} {s : State} (moment : ℕ) → Place g [] s → Place g [] (OwnEvents.on_moment g moment s)
unfolding OwnEvents.on_moment
moment_place {s = s} moment h = if_place (nat_lt moment s.moment) h (release_place _ (quiet _ refl h))

sweep_place : {g : Setting} {s : State} → Place g [] s → Place g [] (OwnEvents.on_sweep g s)
unfolding OwnEvents.on_sweep
sweep_place {g} {s = s} h = sweeps (OwnEvents.without_reason g s)
  where
    sweeps : (gone : List Object) → Place g [] (OwnEvents.sweep_of g s gone)
    sweeps [] = h
    sweeps (o ∷ os) = quiet _ refl (each_place _ (o ∷ os) (λ t p k. drop_place _ k) (each_place _ _ (λ t id k. quiet _ refl k) (quiet _ refl h)))

names_place : {g : Setting} {s : State} (r : Result (List Binding) RegistryFault) → Place g [] s → Place g [] (OwnEvents.set_names r s)
unfolding OwnEvents.set_names
names_place (Ok names) h = quiet _ refl h
names_place (Err why) h = quiet _ refl h

lookup_place : {g : Setting} {s : State} (peer : Uuid) (name : List ℕ) → Place g [] s → Place g [] (OwnEvents.on_lookup g peer name s)
unfolding OwnEvents.on_lookup
lookup_place {s = s} peer name h = if_place (is_name name) (fresh_place {s = s} _ _ refl ((refl, tt), tt) h) (quiet _ refl h)

opened_place : {g : Setting} {s : State} (conn : ℕ) (dialled : Option Uuid) → is_open s conn ≡ false → Place g [] s → Place g [] (OwnEvents.on_opened g conn dialled s)
unfolding OwnEvents.on_opened
opened_place {g} conn None shut h = if_place (nat_le 2 g.version) (more_place conn None shut h) (say_hello_place 1 conn (more_place conn None shut h))
opened_place {g} {s} conn (Some peer) shut h = say_hello_place {s = OwnEvents.dialled_no_more (Some peer) (OwnEvents.add_connection conn (Some peer) s)} _ conn (quiet _ refl (more_place conn (Some peer) shut h))

refused_place : {g : Setting} {s : State} (peer : Uuid) → Place g [] s → Place g [] (OwnEvents.on_refused g peer s)
unfolding OwnEvents.on_refused
refused_place peer h = end_requests_place _ (Requests.waits_for peer) _ (fewer_place (Requests.waits_for peer) (waiting-open peer) (quiet _ refl h))

-- ---- events

-- an Opened that a space takes is of no open connection
abbrev Opens : State → Event → Type 0
Opens s (Opened conn dialled) = is_open s conn ≡ false
Opens s _ = Unit {0}

happen_place : {g : Setting} {s : State} (e : Event) → Opens s e → Once s → Place g [] s → Place g [] (Space.happen g e s)
unfolding Space.happen Endings.fail_write
happen_place (Moment moment) o once h = moment_place moment h
happen_place Sweep o once h = sweep_place h
happen_place (Root method arguments fuel) o once h = add_task_place OfRoot method arguments fuel h
happen_place (RootAck task) o once h = release_place _ h
happen_place (Bind name value) o once h = names_place _ h
happen_place (Rebind name value) o once h = names_place _ h
happen_place (Unbind name) o once h = names_place _ h
happen_place {g} (Lookup peer name) o once h = lookup_place {g = g} peer name h
happen_place (Opened conn dialled) o once h = opened_place conn dialled o h
happen_place (Refused peer) o once h = refused_place peer h
happen_place {s = s} (Received conn m) o once h = received_place conn (connection_at s conn) m once refl h
happen_place (Closed conn) o once h = end_connection_place _ conn h
happen_place (ReadFailed conn) o once h = end_connection_place _ conn h
happen_place (Bad conn) o once h = end_connection_place _ conn h
happen_place (WriteFailed conn unsent) o once h = end_connection_place _ conn h
happen_place (Committed task k op) o once h = commit_place task k op h
happen_place (Parked task k) o once h = park_place task k h
happen_place {g} (GivenBack task k) o once h = give_back_place {g = g} task k h
happen_place (Finished task k) o once h = finish_place task k h

sent_place : {g : Setting} {s : State} (o : Output) → Place g [] s → Place g [] (Space.record_sent s o)
sent_place (Started task) h = h
sent_place (Ended task outcome) h = h
sent_place (Withdrawn ids) h = h
sent_place (Denied why) h = h
sent_place {s = s} (Send conn m) h = row_place conn _ (record { number = λ c. refl; dialled = λ c. refl; greeted = λ c e. e }) (all-first HasTakenNone (λ (d : Connection). d.number == conn) (λ (d : Connection). record d { sent = m ∷ d.sent }) s.connections (λ d x e. x e) h.parts.unasked) h
sent_place (Dial peer) h = h
sent_place (Close conn) h = h
sent_place (Ready task) h = h

finish_event_place : {g : Setting} {s : State} (answers : Bool) → Place g [] s → Place g [] (Space.finish_event answers s).0
finish_event_place true h = each_place _ _ (λ u o j. sent_place o j) (quiet _ refl (settle_place h))
finish_event_place false h = h

opens : (g : Setting) (lent : List ℕ) (s : State) (e : Event) → first_refusal (checks g lent s e) ≡ None → Opens s e
opens g lent s (Opened conn dialled) t = (or-none (is_open s conn) (not (Refusals.was_asked s dialled)) (first-false (is_open s conn || not (Refusals.was_asked s dialled)) t)).0
  where
    first-false : (b : Bool) → (if b then Some Refusals.Strange else None) ≡ None → b ≡ false
    first-false true e = absurd (some-none Refusals.Strange e)
    first-false false e = refl
opens g lent s (Moment moment) t = tt
opens g lent s Sweep t = tt
opens g lent s (Root method arguments fuel) t = tt
opens g lent s (RootAck task) t = tt
opens g lent s (Bind name value) t = tt
opens g lent s (Rebind name value) t = tt
opens g lent s (Unbind name) t = tt
opens g lent s (Lookup peer name) t = tt
opens g lent s (Refused peer) t = tt
opens g lent s (Received conn m) t = tt
opens g lent s (Closed conn) t = tt
opens g lent s (ReadFailed conn) t = tt
opens g lent s (Bad conn) t = tt
opens g lent s (WriteFailed conn unsent) t = tt
opens g lent s (Committed task k op) t = tt
opens g lent s (Parked task k) t = tt
opens g lent s (GivenBack task k) t = tt
opens g lent s (Finished task k) t = tt

on_place : (g : Setting) (lent : List ℕ) (s : State) (e : Event) → refusal g lent s e ≡ None → Once s → Place g [] s → Place g [] (Space.on g e s).0
unfolding Space.on
on_place g lent s e t once h = finish_event_place (Space.answers_outputs e) (happen_place e (opens g lent s e (unrefused g lent s e t)) once h)

once-of : (g : Setting) (h : List Event) → Once (Space.state_of g h)
once-of g h = (waiting_tasks_have_one_call g h).once

places-of : (g : Setting) (h : List Event) → IsTaken g h → Place g [] (Space.state_of g h)
unfolding Space.state_of opening
places-of g [] t = record { parts = record { numbers = tt; requests = tt; fresh = tt; parked = tt; answered = λ conn k. refl; also = tt; unasked = tt } }
places-of g (e ∷ h) t = on_place g t.0.0 (Space.state_of g h) e t.0.1 (once-of g h) (places-of g h t.1)

pub answers_are_parked : AnswersAreParked
answers_are_parked g h t = by (Space.state_of g h) (once-of g h) (places-of g h t)
  where
    by : (s : State) → Once s → Place g [] s → AreInPlace s
    by s once p = record {
      requests = p.parts.requests;
      parked = p.parts.parked;
      unasked = p.parts.unasked;
      answered = p.parts.answered;
      once = λ conn k.
          let a : answers_of conn k s.requests ≡ results_of conn k s.parked = p.parts.answered conn k in
          let b : total (λ (r : Request). count (is_asked_on conn k r)) s.requests + answers_of conn k s.requests ≤ calls_numbered k s.requests = out-and-answers conn k s.requests in
          let c : calls_numbered k s.requests ≤ 1 = once k in omega arith;
    }
