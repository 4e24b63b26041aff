-- Each rule of a space keeps requests and parked frames in place: each stands with its connection, and a call or lookup is answered while its result is parked.
use mathlib.Core.Path.{sym, ap, subst, ◌∙◌}
use Rattle.std.proofs.Common.{arith}
use Rattle.std.proofs.lemmas.Bool.{true≢false, eq-eqb, eqb-true}
use Rattle.std.specs.List.{list_any}
use Rattle.std.specs.Prelude.{if◌then◌else◌, ◌≡◌, refl, ℕ, ◌+◌, ◌≤◌, ◌==◌, ◌&&◌, ◌||◌, not, is_some, Bool, true, false, cond, List, [], ◌∷◌, ◌++◌, Option, None, Some, find, map, is_none, filter}
use Rattle.std.specs.Str.{bytes_eq}
use Rattle.space_ids.specs.declared.ids.ClassId.{ClassId}
use Rattle.dgc_client.specs.Groups as groups
use Rattle.dgc_client.specs.Lease as lease
use Rattle.dgc_client.specs.Table as client
use Rattle.dgc_client.specs.declared.groups.Group.{Group}
use Rattle.dgc_client.specs.declared.lease.Due.TheVariants as due
use Rattle.dgc_client.specs.declared.lease.Due.{Due}
use Rattle.space_ids.specs.declared.ids.ForeignId.{ForeignId}
use Rattle.net_message.specs.declared.message.Message.TheVariants as message
use Rattle.net_message.specs.declared.message.Message.{Message}
use Rattle.uuid.specs.declared.Uuid.{Uuid}
use Rattle.space_ids.specs.declared.ids.ObjId.{ObjId}
use Rattle.space_ids.specs.declared.ids.Ref.{Ref}
use Rattle.space_ids.specs.declared.value.Value.{Value}
use Rattle.sp_rules.proofs.AllLemmas.{some-none, or-left, or-right, all-weaken, all-filter, all-more, all-found, all-both-filter, found-is}
use Rattle.sp_rules.proofs.FuelSums.{total-snoc}
use Rattle.sp_rules.proofs.LineLemmas.{AreNumbered, numbers-filter}
use Rattle.sp_rules.proofs.OwnLemmas.{some-same}
use Rattle.sp_rules.specs.Behaviours.{Outcome, Returned, Threw, Spent, Op, Create, Get, Put, Call, Reply, GivesBack, Throws}
use Rattle.sp_rules.specs.Classes.{Setting}
use Rattle.sp_rules.specs.Endings
use Rattle.sp_rules.specs.Events.{Turn}
use Rattle.sp_rules.specs.Frames.{is_call_frame}
use Rattle.sp_rules.specs.Holders
use Rattle.sp_rules.specs.Holders.{hold_ids, drop_ids}
use Rattle.sp_rules.specs.Laws.{AllOf}
use Rattle.sp_rules.specs.Lists.{each, with_some, total}
use Rattle.sp_rules.specs.LivingTasks
use Rattle.sp_rules.specs.ParkedFrames
use Rattle.sp_rules.specs.ParkedFrames.{has_number, is_parked_at, is_call_on, is_out_on}
use Rattle.sp_rules.specs.Requests
use Rattle.sp_rules.specs.State as state
use Rattle.sp_rules.specs.State.{State, Living, Origin, OfRoot, OfCall, Until, Request, Asked, Calls, LooksUp, Tells, Stage, Waits, Out, Answered, Connection, Frame, CallFrame, ReturnedFrame, ParkedFrame, task_at, ready_at, object_at, connection_at, connection_to, is_open, send, is_to}
use Rattle.sp_rules.specs.Tasks.{Stand, Runs, AsksFor, HasEnded, stand, steps}
use Rattle.sp_laws.specs.Answered.{numbered, HasTakenNone, IsDialledTo, IsGreeted, StandsOn, GoesTo, CameOn, is_answered_on, answers_of, results_of}
use Rattle.sp_laws.specs.Waiting.{count}
use Rattle.sp_laws.proofs.InboundLemmas.{closed-row}
use Rattle.sp_laws.proofs.PlaceLemmas.{both-left, both-right, not-same, other-order, by-number, StillThere, still-dialled, still-greeted, still-less, no-both, total-none, total-kept, total-absent, total-less, is_answer, is_result, answer-out, is_at, count-false, answers-elsewhere, answers-gone, results-elsewhere, results-gone}

-- ---- what is kept

pub record PlaceParts : Type 0 where
  pub requests : List Request
  pub fresh : List Request
  pub connections : List Connection
  pub parked : List ParkedFrame

abbrev pub place_parts : State → PlaceParts
place_parts s = record { requests = s.requests; fresh = s.fresh; connections = s.connections; parked = s.parked }

-- Requests and parked frames stand with their connections, and so do these frames besides.
pub record InPlace (ps : List ParkedFrame) (x : PlaceParts) : Type 0 where
  pub numbers : AreNumbered x.connections
  pub requests : AllOf (λ (q : Request). StandsOn x.connections q.peer q.stage × GoesTo q.peer q.asked) x.requests
  pub fresh : AllOf (λ (q : Request). (Requests.is_waiting q.stage ≡ true) × GoesTo q.peer q.asked) x.fresh
  pub parked : AllOf (CameOn x.connections) x.parked
  pub answered : (conn k : ℕ) → answers_of conn k x.requests ≡ results_of conn k x.parked
  pub also : AllOf (CameOn x.connections) ps
  pub unasked : AllOf HasTakenNone x.connections

pub record Place (g : Setting) (ps : List ParkedFrame) (s : State) : Type 0 where
  pub parts : InPlace ps (place_parts s)

-- ---- small steps

pub quiet : {g : Setting} {ps : List ParkedFrame} {s : State} (t : State) → place_parts t ≡ place_parts s → Place g ps s → Place g ps t
quiet {ps = ps} t e h = record { parts = subst (InPlace ps) (sym e) h.parts }

pub if_place : {g : Setting} {ps : List ParkedFrame} {t u : State} (b : Bool) → Place g ps t → Place g ps u → Place g ps (if b then t else u)
if_place true h k = h
if_place false h k = k

pub some_place : {g : Setting} {ps : List ParkedFrame} {A : Type 0} {t : State} (x : Option A) (f : A → State) → Place g ps t → ((a : A) → x ≡ Some a → Place g ps (f a)) → Place g ps (with_some x t f)
some_place None f h k = h
some_place (Some a) f h k = k a refl

pub each_place : {g : Setting} {ps : List ParkedFrame} {A : Type 0} {s : State} (f : State → A → State) (xs : List A) → ((t : State) (x : A) → Place g ps t → Place g ps (f t x)) → Place g ps s → Place g ps (each f xs s)
unfolding each
each_place f [] k h = h
each_place {s = s} f (x ∷ xs) k h = each_place f xs k (k s x h)

pub send_place : {g : Setting} {ps : List ParkedFrame} {s : State} (turn : Turn) (conn : ℕ) (m : Message) → Place g ps s → Place g ps (send turn conn m s)
unfolding send
send_place {s = s} turn conn m h = if_place (is_open s conn) (quiet _ refl h) h

pub hold_place : {g : Setting} {ps : List ParkedFrame} {s : State} (ids : List ForeignId) → Place g ps s → Place g ps (hold_ids ids s)
unfolding hold_ids
hold_place ids h = each_place Holders.holder_comes ids (λ t x k. quiet _ refl k) h

pub drop_place : {g : Setting} {ps : List ParkedFrame} {s : State} (ids : List ForeignId) → Place g ps s → Place g ps (drop_ids ids s)
unfolding drop_ids
drop_place ids h = each_place Holders.holder_goes ids (λ t x k. quiet _ refl k) h

let_go_place : {g : Setting} {ps : List ParkedFrame} {s : State} (p : ParkedFrame) (parked : List ParkedFrame) → Place g ps s → Place g ps (ParkedFrames.let_go_parked p parked s)
let_go_place p parked h = each_place _ (filter (ParkedFrames.is_parked_at p.conn p.number) parked) (λ t q k. drop_place q.references k) h

-- each of these is known to be so
pub each_with : {A : Type 0} {s : State} (P : State → Type 0) (Q : A → Type 0) (f : State → A → State) (xs : List A) → AllOf Q xs → ((t : State) (x : A) → Q x → P t → P (f t x)) → P s → P (each f xs s)
unfolding each
each_with P Q f [] a k h = h
each_with {s = s} P Q f (x ∷ xs) a k h = each_with P Q f xs a.1 k (k s x a.0 h)

-- what leaves the parts as they are
each-parts : {A : Type 0} (f : State → A → State) (xs : List A) → ((t : State) (x : A) → place_parts (f t x) ≡ place_parts t) → (s : State) → place_parts (each f xs s) ≡ place_parts s
unfolding each
each-parts f [] k s = refl
each-parts f (x ∷ xs) k s = each-parts f xs k (f s x) ∙ k s x

drop-parts : (ids : List ForeignId) (s : State) → place_parts (drop_ids ids s) ≡ place_parts s
unfolding drop_ids
drop-parts ids s = each-parts Holders.holder_goes ids (λ t x. refl) s

let-go-parts : (p : ParkedFrame) (parked : List ParkedFrame) (s : State) → place_parts (ParkedFrames.let_go_parked p parked s) ≡ place_parts s
let-go-parts p parked s = each-parts (λ t (q : ParkedFrame). drop_ids q.references t) (filter (is_parked_at p.conn p.number) parked) (λ t q. drop-parts q.references t) s

send-parts : (turn : Turn) (conn : ℕ) (m : Message) (s : State) → place_parts (send turn conn m s) ≡ place_parts s
unfolding send
send-parts turn conn m s = pick (is_open s conn)
  where
    pick : (b : Bool) → place_parts (if b then record s { notes = s.notes ++ Rattle.sp_rules.specs.Events.Sends turn conn m ∷ [] } else s) ≡ place_parts s
    pick true = refl
    pick false = refl

-- ---- requests

add_place : {g : Setting} {ps : List ParkedFrame} {s : State} (r : Request) → StandsOn s.connections r.peer r.stage × GoesTo r.peer r.asked → ((conn : ℕ) → is_answered_on conn r.stage ≡ false) → Place g ps s → Place g ps (Requests.add_request r s)
add_place {g} {ps} {s} r ok unanswered h = record {
  parts = record {
    numbers = h.parts.numbers;
    requests = all-more (λ (q : Request). StandsOn s.connections q.peer q.stage × GoesTo q.peer q.asked) s.requests r h.parts.requests ok;
    fresh = h.parts.fresh;
    parked = h.parts.parked;
    answered = λ conn k.
        let a : answers_of conn k (s.requests ++ r ∷ []) ≡ answers_of conn k s.requests + count (is_answer conn k r) = total-snoc (λ (q : Request). count (is_answer conn k q)) s.requests r in
        let z : count (is_answer conn k r) ≡ 0 = ap (λ b. count (b && has_number k r.asked)) (unanswered conn) in
        let b : answers_of conn k s.requests ≡ results_of conn k s.parked = h.parts.answered conn k in omega arith;
    also = h.parts.also;
    unasked = h.parts.unasked;
  };
}

-- requests go that are not answered
pub fewer_place : {g : Setting} {ps : List ParkedFrame} {s : State} (is : Request → Bool) → ((q : Request) → is q ≡ true → (conn k : ℕ) → is_answer conn k q ≡ false) → Place g ps s → Place g ps (record s { requests = filter (λ q. not (is q)) s.requests })
fewer_place {g} {ps} {s} is unanswered h = record {
  parts = record {
    numbers = h.parts.numbers;
    requests = all-filter (λ (q : Request). StandsOn s.connections q.peer q.stage × GoesTo q.peer q.asked) (λ q. not (is q)) s.requests h.parts.requests;
    fresh = h.parts.fresh;
    parked = h.parts.parked;
    answered = λ conn k. total-kept (λ (q : Request). count (is_answer conn k q)) is s.requests (λ q i. ap count (unanswered q i conn k)) ∙ h.parts.answered conn k;
    also = h.parts.also;
    unasked = h.parts.unasked;
  };
}

waits-stands : (cs : List Connection) (peer : Uuid) (stage : Stage) → Requests.is_waiting stage ≡ true → StandsOn cs peer stage
waits-stands cs peer Waits e = tt
waits-stands cs peer (Out conn sequence) e = absurd (true≢false (sym e))
waits-stands cs peer (Answered conn) e = absurd (true≢false (sym e))

waits-open : (stage : Stage) → Requests.is_waiting stage ≡ true → (conn : ℕ) → is_answered_on conn stage ≡ false
waits-open Waits e conn = refl
waits-open (Out c sequence) e conn = absurd (true≢false (sym e))
waits-open (Answered c) e conn = absurd (true≢false (sym e))

pub waiting-open : (peer : Uuid) (q : Request) → Requests.waits_for peer q ≡ true → (conn k : ℕ) → is_answer conn k q ≡ false
waiting-open peer q e conn k = ap (λ b. b && has_number k q.asked) (waits-open q.stage (both-right (bytes_eq q.peer peer) _ e) conn)

-- a connection to a peer whose Hello came
hello-dialled : (cs : List Connection) (peer : Uuid) (conn : ℕ) → AreNumbered cs → Requests.hello_came (find (λ (c : Connection). is_to peer c.dialled) cs) ≡ Some conn → IsDialledTo cs conn peer
hello-dialled cs peer conn numbers e = pick (find (λ (c : Connection). is_to peer c.dialled) cs) refl e
  where
    pick : (o : Option Connection) → find (λ (c : Connection). is_to peer c.dialled) cs ≡ o → Requests.hello_came o ≡ Some conn → IsDialledTo cs conn peer
    pick None is f = absurd (some-none conn (sym f))
    pick (Some c) is f = greets (is_some c.peer) refl f
      where
        greets : (b : Bool) → is_some c.peer ≡ b → (if b then Some c.number else None) ≡ Some conn → IsDialledTo cs conn peer
        greets true t n = record {
          row = c;
          found = subst (λ m. numbered cs m ≡ Some c) (some-same n) (by-number (λ (d : Connection). is_to peer d.dialled) cs c numbers is);
          dialled = found-is (λ (d : Connection). is_to peer d.dialled) cs c is;
          greeted = t;
        }
        greets false t n = absurd (some-none conn (sym n))

-- requests go out on this connection to this peer
pub record Going (g : Setting) (ps : List ParkedFrame) (conn : ℕ) (peer : Uuid) (s : State) : Type 0 where
  pub place : Place g ps s
  pub dialled : IsDialledTo s.connections conn peer

sent_going : {g : Setting} {ps : List ParkedFrame} {conn : ℕ} {peer : Uuid} (turn : Turn) (m : Message) (s : State) → Place g ps s → IsDialledTo s.connections conn peer → Going g ps conn peer (send turn conn m s)
sent_going {g} {ps} {conn} {peer} turn m s h d = record {
  place = send_place turn conn m h;
  dialled = subst (λ (x : PlaceParts). IsDialledTo x.connections conn peer) (sym (send-parts turn conn m s)) d;
}

part_going : {g : Setting} {ps : List ParkedFrame} {conn : ℕ} {peer : Uuid} {s : State} (turn : Turn) (call : ℕ) (part : Group) → part.peer ≡ peer → Going g ps conn peer s → Going g ps conn peer (Requests.part_goes_out turn conn call s part)
unfolding Requests.part_goes_out
part_going {g} {ps} {conn} {peer} {s} turn call part to k = sent_going turn _ _ (add_place _ (subst (λ p. IsDialledTo s.connections conn p) (sym to) k.dialled, refl) (λ c. refl) (quiet (record s { leases = client.sent part call s.leases }) refl k.place)) k.dialled

own-parts : (group : Group) (pieces : List (List ObjId)) → AllOf (λ (part : Group). part.peer ≡ group.peer) (map (groups.part_of group) pieces)
own-parts group [] = tt
own-parts group (ids ∷ pieces) = (refl, own-parts group pieces)

pub go_out_going : {g : Setting} {ps : List ParkedFrame} {conn : ℕ} {s : State} (turn : Turn) (r : Request) → GoesTo r.peer r.asked → Going g ps conn r.peer s → Going g ps conn r.peer (Requests.go_out turn conn r s)
unfolding Requests.go_out
go_out_going {g} {ps} {conn} {s} turn r to k = goes r.asked to
  where
    goes : (asked : Asked) → GoesTo r.peer asked → Going g ps conn r.peer (Requests.goes_out turn conn r.peer asked s)
    goes (Calls number task lent kind m) e = sent_going turn m _ (add_place _ (k.dialled, tt) (λ c. refl) k.place) k.dialled
    goes (LooksUp number task name) e = sent_going turn _ _ (add_place _ (k.dialled, tt) (λ c. refl) k.place) k.dialled
    goes (Tells call group) e = each_with (Going g ps conn r.peer) (λ (part : Group). part.peer ≡ group.peer) (Requests.part_goes_out turn conn call) (groups.parts_of (Requests.most_on s conn) group) (own-parts group _) (λ t part f j. part_going turn call part (f ∙ e) j) k

pub dial_place : {g : Setting} {ps : List ParkedFrame} {s : State} (peer : Uuid) → Place g ps s → Place g ps (Requests.dial peer s)
unfolding Requests.dial
dial_place {s = s} peer h = if_place (is_some (connection_to s peer) || state.is_dialling s peer) h (quiet _ refl h)

ask_place : {g : Setting} {ps : List ParkedFrame} {s : State} (r : Request) → Requests.is_waiting r.stage ≡ true → GoesTo r.peer r.asked → Place g ps s → Place g ps (Requests.ask s r)
unfolding Requests.ask
ask_place {g} {ps} {s} r waits to h = pick (Requests.hello_came (connection_to s r.peer)) refl
  where
    pick : (o : Option ℕ) → Requests.hello_came (connection_to s r.peer) ≡ o → Place g ps (with_some o (Requests.dial r.peer (Requests.add_request r s)) (λ conn. Requests.go_out (Requests.turn_asked r.asked) conn r s))
    pick None e = dial_place r.peer (add_place r (waits-stands s.connections r.peer r.stage waits, to) (waits-open r.stage waits) h)
    pick (Some conn) e = (go_out_going (Requests.turn_asked r.asked) r to (record { place = h; dialled = hello-dialled s.connections r.peer conn h.parts.numbers e })).place

make_group_place : {g : Setting} {ps : List ParkedFrame} {s : State} (b : Group) → Place g ps s → Place g ps (Requests.make_group s b)
unfolding Requests.make_group
make_group_place {s = s} b h = ask_place _ refl refl (quiet (record s { groups_made = s.groups_made + 1; leases = client.made b (s.groups_made + 1) s.leases }) refl h)

-- the call or lookup of the event waits to be asked
pub fresh_place : {g : Setting} {ps : List ParkedFrame} {s : State} (t : State) (rs : List Request) → place_parts t ≡ record { requests = s.requests; fresh = rs; connections = s.connections; parked = s.parked } → AllOf (λ (q : Request). (Requests.is_waiting q.stage ≡ true) × GoesTo q.peer q.asked) rs → Place g ps s → Place g ps t
fresh_place {g} {ps} {s} t rs e ok h = record {
  parts = subst (InPlace ps) (sym e) (record { numbers = h.parts.numbers; requests = h.parts.requests; fresh = ok; parked = h.parts.parked; answered = h.parts.answered; also = h.parts.also; unasked = h.parts.unasked });
}

pub settle_place : {g : Setting} {ps : List ParkedFrame} {s : State} → Place g ps s → Place g ps (Requests.settle s)
unfolding Requests.settle Requests.make_due Requests.ask_fresh
settle_place {g} {ps} {s = s} h = asks (Requests.make_due s) (each_place _ _ (λ t b k. make_group_place b k) h)
  where
    asks : (t : State) → Place g ps t → Place g ps (each Requests.ask t.fresh (record t { fresh = [] }))
    asks t k = each_with (Place g ps) (λ (q : Request). (Requests.is_waiting q.stage ≡ true) × GoesTo q.peer q.asked) Requests.ask t.fresh k.parts.fresh (λ u r ok j. ask_place r ok.0 ok.1 j) (fresh_place {s = t} (record t { fresh = [] }) [] refl tt k)

-- ---- tasks

pub add_task_place : {g : Setting} {ps : List ParkedFrame} {s : State} (origin : Origin) (method : ℕ) (arguments : List Value) (fuel : ℕ) → Place g ps s → Place g ps (LivingTasks.add_task g origin method arguments fuel s)
unfolding LivingTasks.add_task
add_task_place origin method arguments fuel h = quiet _ refl (hold_place _ (quiet _ refl h))

pub keep_place : {g : Setting} {ps : List ParkedFrame} {s : State} (until : Until) (value : Option Value) → Place g ps s → Place g ps (LivingTasks.keep g until value s)
keep_place until value h = hold_place _ (quiet _ refl h)

keep_result_place : {g : Setting} {ps : List ParkedFrame} {s : State} (until : Until) (outcome : Outcome) → Place g ps s → Place g ps (LivingTasks.keep_result g until outcome s)
keep_result_place until (Returned value) h = keep_place until value h
keep_result_place until (Threw class) h = h
keep_result_place until Spent h = h

report_place : {g : Setting} {ps : List ParkedFrame} {s : State} (origin : Origin) (id fuel : ℕ) (outcome : Outcome) → Place g ps s → Place g ps (LivingTasks.report g origin id fuel outcome s)
report_place OfRoot id fuel outcome h = keep_result_place _ outcome h
report_place {s = s} (OfCall conn number) id fuel outcome h = if_place (is_open s conn) (send_place _ conn _ (keep_result_place _ outcome h)) h

end_with_place : {g : Setting} {ps : List ParkedFrame} {s : State} (id : ℕ) (t : Living) (outcome : Outcome) → Place g ps s → Place g ps (LivingTasks.end_with g id t outcome s)
end_with_place id t outcome h = drop_place _ (report_place t.origin id t.task.fuel outcome (quiet _ refl h))

reply_task_place : {g : Setting} {ps : List ParkedFrame} {s : State} (id : ℕ) (reply : Reply) → Place g ps s → Place g ps (LivingTasks.reply_task g id reply s)
unfolding LivingTasks.reply_task
reply_task_place {s = s} id reply h = some_place (task_at s id) _ h (λ t is. quiet _ refl (hold_place _ (quiet _ refl h)))

pub reply_to_place : {g : Setting} {ps : List ParkedFrame} {s : State} (asked : Asked) (reply : Reply) → Place g ps s → Place g ps (LivingTasks.reply_to g asked reply s)
unfolding LivingTasks.reply_to
reply_to_place (Calls number task lent kind m) reply h = reply_task_place task reply h
reply_to_place (LooksUp number task name) reply h = keep_result_place (state.RootAcked task) (LivingTasks.outcome_of reply) (quiet _ refl h)
reply_to_place (Tells call group) reply h = h

after_op_place : {g : Setting} {ps : List ParkedFrame} {s : State} (op : Op) → Place g ps s → Place g ps (LivingTasks.after_op g op s)
unfolding LivingTasks.after_op
after_op_place {s = s} (Create class) h = if_place (LivingTasks.is_full s) h (quiet _ refl h)
after_op_place (Get id slot) h = h
after_op_place (Put id slot value) h = drop_place _ (hold_place _ (quiet _ refl h))
after_op_place (Call target method arguments) h = h

pub commit_place : {g : Setting} {ps : List ParkedFrame} {s : State} (id k : ℕ) (op : Op) → Place g ps s → Place g ps (LivingTasks.commit g id k op s)
unfolding LivingTasks.commit
commit_place {s = s} id k op h = some_place (ready_at s id) _ h (λ t is. after_op_place op (hold_place _ (quiet _ refl h)))

pub park_place : {g : Setting} {ps : List ParkedFrame} {s : State} (id k : ℕ) → Place g ps s → Place g ps (LivingTasks.park_call g id k s)
unfolding LivingTasks.park_call
park_place {g} {ps} {s = s} id k h = some_place (ready_at s id) _ h (λ t is. at t (stand (steps k t.task)))
  where
    parks : (t : Living) (op : Op) → Place g ps (LivingTasks.park_op g id k t op s)
    parks t (Create class) = h
    parks t (Get o slot) = h
    parks t (Put o slot value) = h
    parks t (Call target method arguments) = fresh_place {s = s} _ _ refl ((refl, tt), tt) h

    at : (t : Living) (stands : Stand) → Place g ps (LivingTasks.park_at g id k t stands s)
    at t Runs = h
    at t (AsksFor op) = parks t op
    at t (HasEnded outcome) = h

pub give_back_place : {g : Setting} {ps : List ParkedFrame} {s : State} (id k : ℕ) → Place g ps s → Place g ps (LivingTasks.give_back id k s)
unfolding LivingTasks.give_back
give_back_place {s = s} id k h = some_place (ready_at s id) _ h (λ t is. quiet _ refl h)

pub finish_place : {g : Setting} {ps : List ParkedFrame} {s : State} (id k : ℕ) → Place g ps s → Place g ps (LivingTasks.finish_task g id k s)
unfolding LivingTasks.finish_task
finish_place {g} {ps} {s = s} id k h = some_place (ready_at s id) _ h (λ t is. at (LivingTasks.after_steps k t) (stand (steps k t.task)))
  where
    at : (t : Living) (stands : Stand) → Place g ps (LivingTasks.end_at g id t stands s)
    at t Runs = h
    at t (AsksFor op) = h
    at t (HasEnded outcome) = end_with_place {g = g} id t outcome h

start_call_place : {g : Setting} {ps : List ParkedFrame} {s : State} (p : ParkedFrame) (target : ObjId) (method fuel : ℕ) (arguments : List Value) → Place g ps s → Place g ps (ParkedFrames.start_call g p target method fuel arguments s)
unfolding ParkedFrames.start_call
start_call_place {g} {ps} {s = s} p target method fuel arguments h = some_place (object_at s target) _ h (λ o is. selected (record { space = g.id; id = target; class = o.class }) (g.classes.selected o.class method))
  where
    selected : (receiver : Ref) (found : Option ℕ) → Place g ps (ParkedFrames.start_selected g p.conn p.number receiver found fuel arguments s)
    selected receiver None = send_place _ p.conn _ h
    selected receiver (Some m) = add_task_place _ m _ fuel h

-- ---- answers go with their results

answers-gone-at : (conn k at n : ℕ) (rs : List Request) → is_at conn k at n ≡ true → answers_of conn k (filter (λ q. not (is_call_on at n q)) rs) ≡ 0
answers-gone-at conn k at n rs e = subst (λ a. answers_of conn k (filter (λ q. not (is_call_on a n q)) rs) ≡ 0) (sym (eqb-true at conn (both-left (at == conn) _ e)))
    (subst (λ m. answers_of conn k (filter (λ q. not (is_call_on conn m q)) rs) ≡ 0) (sym (eqb-true n k (both-right (at == conn) _ e))) (answers-gone conn k rs))

results-gone-at : (conn k at n : ℕ) (ps : List ParkedFrame) → is_at conn k at n ≡ true → results_of conn k (filter (λ p. not (is_parked_at at n p)) ps) ≡ 0
results-gone-at conn k at n ps e = subst (λ a. results_of conn k (filter (λ p. not (is_parked_at a n p)) ps) ≡ 0) (sym (eqb-true at conn (both-left (at == conn) _ e)))
    (subst (λ m. results_of conn k (filter (λ p. not (is_parked_at conn m p)) ps) ≡ 0) (sym (eqb-true n k (both-right (at == conn) _ e))) (results-gone conn k ps))

answers-none-at : (conn k at n : ℕ) (rs : List Request) → is_at conn k at n ≡ true → answers_of at n rs ≡ 0 → answers_of conn k rs ≡ 0
answers-none-at conn k at n rs e z = subst (λ a. answers_of a k rs ≡ 0) (eqb-true at conn (both-left (at == conn) _ e)) (subst (λ m. answers_of at m rs ≡ 0) (eqb-true n k (both-right (at == conn) _ e)) z)

-- the calls of a number go, of which none is answered
pub call_gone : {g : Setting} {ps : List ParkedFrame} {s : State} (at n : ℕ) → answers_of at n s.requests ≡ 0 → Place g ps s → Place g ps (ParkedFrames.remove_requests (is_call_on at n) s)
call_gone {g} {ps} {s} at n zero h = record {
  parts = record {
    numbers = h.parts.numbers;
    requests = all-filter (λ (q : Request). StandsOn s.connections q.peer q.stage × GoesTo q.peer q.asked) (λ q. not (is_call_on at n q)) s.requests h.parts.requests;
    fresh = h.parts.fresh;
    parked = h.parts.parked;
    answered = λ conn k. pick conn k (is_at conn k at n) refl;
    also = h.parts.also;
    unasked = h.parts.unasked;
  };
}
  where
    pick : (conn k : ℕ) (b : Bool) → is_at conn k at n ≡ b → answers_of conn k (filter (λ q. not (is_call_on at n q)) s.requests) ≡ results_of conn k s.parked
    pick conn k true e = answers-gone-at conn k at n s.requests e ∙ sym (answers-none-at conn k at n s.requests e zero) ∙ h.parts.answered conn k
    pick conn k false e = answers-elsewhere conn k at n s.requests e ∙ h.parts.answered conn k

-- the frames of a number go, of which none is an answer
take_none : {g : Setting} {ps : List ParkedFrame} {s : State} (p : ParkedFrame) → answers_of p.conn p.number s.requests ≡ 0 → Place g ps s → Place g ps (ParkedFrames.take_parked p s)
take_none {g} {ps} {s} p zero h = record {
  parts = record {
    numbers = h.parts.numbers;
    requests = h.parts.requests;
    fresh = h.parts.fresh;
    parked = all-filter (CameOn s.connections) (λ q. not (is_parked_at p.conn p.number q)) s.parked h.parts.parked;
    answered = λ conn k. pick conn k (is_at conn k p.conn p.number) refl;
    also = h.parts.also;
    unasked = h.parts.unasked;
  };
}
  where
    pick : (conn k : ℕ) (b : Bool) → is_at conn k p.conn p.number ≡ b → answers_of conn k s.requests ≡ results_of conn k (filter (λ q. not (is_parked_at p.conn p.number q)) s.parked)
    pick conn k true e = answers-none-at conn k p.conn p.number s.requests e zero ∙ sym (results-gone-at conn k p.conn p.number s.parked e)
    pick conn k false e = h.parts.answered conn k ∙ sym (results-elsewhere conn k p.conn p.number s.parked e)

abbrev without_call : ℕ → ℕ → PlaceParts → PlaceParts
without_call at n x = record x { requests = filter (λ q. not (is_call_on at n q)) x.requests }

-- an answer and its result go together
take_both : {g : Setting} {ps : List ParkedFrame} {s : State} (p : ParkedFrame) (at n : ℕ) → at ≡ p.conn → n ≡ p.number → Place g ps s → InPlace ps (without_call at n (place_parts (ParkedFrames.take_parked p s)))
take_both {g} {ps} {s} p at n same-conn same-number h = record {
  numbers = h.parts.numbers;
  requests = all-filter (λ (q : Request). StandsOn s.connections q.peer q.stage × GoesTo q.peer q.asked) (λ q. not (is_call_on at n q)) s.requests h.parts.requests;
  fresh = h.parts.fresh;
  parked = all-filter (CameOn s.connections) (λ q. not (is_parked_at p.conn p.number q)) s.parked h.parts.parked;
  answered = λ conn k. pick conn k (is_at conn k at n) refl (is_at conn k p.conn p.number) refl;
  also = h.parts.also;
  unasked = h.parts.unasked;
}
  where
    alike : (conn k : ℕ) → is_at conn k at n ≡ is_at conn k p.conn p.number
    alike conn k = ap (λ a. a == conn && n == k) same-conn ∙ ap (λ m. p.conn == conn && m == k) same-number

    pick : (conn k : ℕ) (b : Bool) → is_at conn k at n ≡ b → (d : Bool) → is_at conn k p.conn p.number ≡ d → answers_of conn k (filter (λ q. not (is_call_on at n q)) s.requests) ≡ results_of conn k (filter (λ q. not (is_parked_at p.conn p.number q)) s.parked)
    pick conn k true e true f = answers-gone-at conn k at n s.requests e ∙ sym (results-gone-at conn k p.conn p.number s.parked f)
    pick conn k true e false f = absurd (true≢false (sym e ∙ alike conn k ∙ f))
    pick conn k false e true f = absurd (true≢false (sym f ∙ sym (alike conn k) ∙ e))
    pick conn k false e false f = answers-elsewhere conn k at n s.requests e ∙ h.parts.answered conn k ∙ sym (results-elsewhere conn k p.conn p.number s.parked f)

-- on a connection that a peer dialled nothing is answered
none-answered : (cs : List Connection) (conn k : ℕ) (rs : List Request) → IsGreeted cs conn false → AllOf (λ (q : Request). StandsOn cs q.peer q.stage × GoesTo q.peer q.asked) rs → answers_of conn k rs ≡ 0
none-answered cs conn k rs came a = total-none (λ (q : Request). count (is_answer conn k q)) rs (all-weaken (λ (q : Request). StandsOn cs q.peer q.stage × GoesTo q.peer q.asked) (λ (q : Request). count (is_answer conn k q) ≡ 0) rs
    (λ q x. count-false (is_answer conn k q) (λ t. at q.peer q.stage x.0 (both-left (is_answered_on conn q.stage) _ t))) a)
  where
    at : (peer : Uuid) (stage : Stage) → StandsOn cs peer stage → is_answered_on conn stage ≡ true → ⊥
    at peer Waits x t = true≢false (sym t)
    at peer (Out c sequence) x t = true≢false (sym t)
    at peer (Answered c) x t = no-both (subst (λ n. IsDialledTo cs n peer) (eqb-true c conn t) x) came

-- a parked call came on a connection that a peer dialled
call-came : (cs : List Connection) (p : ParkedFrame) → is_call_frame p.frame ≡ true → CameOn cs p → IsGreeted cs p.conn false
call-came cs p e c = subst (λ b. IsGreeted cs p.conn (not b)) e c

answer_parked_place : {g : Setting} {ps : List ParkedFrame} {s : State} (p q : ParkedFrame) (reply : Reply) → q.conn ≡ p.conn → q.number ≡ p.number → Place g ps s → (u : State) → place_parts u ≡ place_parts (ParkedFrames.take_parked p s) → Place g ps (ParkedFrames.answer_parked g q reply u)
unfolding ParkedFrames.answer_parked
answer_parked_place {g} {ps} {s} p q reply same-conn same-number h u e = pick (find (is_call_on q.conn q.number) u.requests) refl
  where
    requests : u.requests ≡ s.requests
    requests = ap (λ (x : PlaceParts). x.requests) e

    none-out : find (is_call_on q.conn q.number) u.requests ≡ None → answers_of q.conn q.number s.requests ≡ 0
    none-out f =
        let a : total (λ (r : Request). count (is_call_on q.conn q.number r)) u.requests ≡ 0 = total-absent (is_call_on q.conn q.number) u.requests f in
        let b : answers_of q.conn q.number u.requests ≤ total (λ (r : Request). count (is_call_on q.conn q.number r)) u.requests = total-less (λ (r : Request). count (is_answer q.conn q.number r)) (λ (r : Request). count (is_call_on q.conn q.number r)) u.requests (λ r. implies (is_answer q.conn q.number r) (is_call_on q.conn q.number r) (answer-out q.conn q.number r)) in
        let c : answers_of q.conn q.number u.requests ≡ answers_of q.conn q.number s.requests = ap (answers_of q.conn q.number) requests in omega arith
      where
        implies : (a b : Bool) → (a ≡ true → b ≡ true) → count a ≤ count b
        implies true b f = let x : count b ≡ 1 = ap count (f refl) in omega arith
        implies false b f = omega arith

    pick : (o : Option Request) → find (is_call_on q.conn q.number) u.requests ≡ o
        → Place g ps (with_some o u (λ r. LivingTasks.reply_to g r.asked reply (send Rattle.sp_rules.specs.Events.Acks q.conn (message.Ack q.number) (ParkedFrames.remove_requests (is_call_on q.conn q.number) u))))
    pick None f = quiet u e (take_none p (subst (λ c. answers_of c p.number s.requests ≡ 0) same-conn (subst (λ n. answers_of q.conn n s.requests ≡ 0) same-number (none-out f))) h)
    pick (Some r) f = reply_to_place r.asked reply (send_place _ q.conn _ (record { parts = subst (InPlace ps) (sym (ap (without_call q.conn q.number) e)) (take_both p q.conn q.number same-conn same-number h) }))

-- ---- parked frames

go_place : {g : Setting} {ps : List ParkedFrame} {s : State} (p : ParkedFrame) → Place g ps s → Place g ps (ParkedFrames.go g s p)
unfolding ParkedFrames.go
go_place {g} {ps} {s} p h = some_place (find (is_parked_at p.conn p.number) s.parked) _ h (λ q is. let_go_place p s.parked (frame q is q.frame refl))
  where
    same-conn : (q : ParkedFrame) → find (is_parked_at p.conn p.number) s.parked ≡ Some q → q.conn ≡ p.conn
    same-conn q is = eqb-true q.conn p.conn (both-left (q.conn == p.conn) _ (found-is (is_parked_at p.conn p.number) s.parked q is))

    same-number : (q : ParkedFrame) → find (is_parked_at p.conn p.number) s.parked ≡ Some q → q.number ≡ p.number
    same-number q is = eqb-true q.number p.number (both-right (q.conn == p.conn) _ (found-is (is_parked_at p.conn p.number) s.parked q is))

    frame : (q : ParkedFrame) → find (is_parked_at p.conn p.number) s.parked ≡ Some q → (f : Frame) → q.frame ≡ f → Place g ps (ParkedFrames.go_frame g q f (ParkedFrames.take_parked p s))
    frame q is (CallFrame target method fuel arguments) e = start_call_place q target method fuel arguments (take_none p
        (none-answered s.connections p.conn p.number s.requests (subst (λ c. IsGreeted s.connections c false) (same-conn q is) (call-came s.connections q (ap is_call_frame e) (all-found (CameOn s.connections) (is_parked_at p.conn p.number) s.parked q is h.parts.parked))) h.parts.requests) h)
    frame q is (ReturnedFrame value fuel) e = answer_parked_place p q (GivesBack value fuel) (same-conn q is) (same-number q is) h (ParkedFrames.take_parked p s) refl

pub go_all_place : {g : Setting} {ps : List ParkedFrame} {s : State} → Place g ps s → Place g ps (ParkedFrames.go_all g s)
unfolding ParkedFrames.go_all
go_all_place h = each_place _ _ (λ t p k. go_place p k) h

pub park_call_place : {g : Setting} {ps : List ParkedFrame} {s : State} (conn number : ℕ) (target : ObjId) (method fuel : ℕ) (arguments : List Value) (references : List ForeignId) → IsGreeted s.connections conn false → Place g ps s → Place g ps (ParkedFrames.park_frame g conn number (CallFrame target method fuel arguments) references s)
unfolding ParkedFrames.park_frame
park_call_place {g} {ps} {s} conn number target method fuel arguments references came h = go_all_place (hold_place references (record {
  parts = record {
    numbers = h.parts.numbers;
    requests = h.parts.requests;
    fresh = h.parts.fresh;
    parked = all-more (CameOn s.connections) s.parked (record { conn = conn; number = number; frame = CallFrame target method fuel arguments; references = references }) h.parts.parked came;
    answered = λ c k.
        let a : results_of c k (s.parked ++ record { conn = conn; number = number; frame = CallFrame target method fuel arguments; references = references } ∷ []) ≡ results_of c k s.parked + 0 = total-snoc (λ (p : ParkedFrame). count (is_result c k p)) s.parked (record { conn = conn; number = number; frame = CallFrame target method fuel arguments; references = references }) in
        let b : answers_of c k s.requests ≡ results_of c k s.parked = h.parts.answered c k in omega arith;
    also = h.parts.also;
    unasked = h.parts.unasked;
  };
}))

-- the frames that are still to come
rest_place : {g : Setting} {s : State} (p : ParkedFrame) (ps : List ParkedFrame) → Place g (p ∷ ps) s → Place g ps s
rest_place p ps h = record { parts = record { numbers = h.parts.numbers; requests = h.parts.requests; fresh = h.parts.fresh; parked = h.parts.parked; answered = h.parts.answered; also = h.parts.also.1; unasked = h.parts.unasked } }

fail_parked_place : {g : Setting} {ps : List ParkedFrame} {s : State} (p : ParkedFrame) → CameOn s.connections p → Place g ps s → Place g ps (ParkedFrames.fail_parked g s p)
unfolding ParkedFrames.fail_parked
fail_parked_place {g} {ps} {s} p came h = frame p.frame refl
  where
    frame : (f : Frame) → p.frame ≡ f → Place g ps (ParkedFrames.fail_frame g p f (ParkedFrames.let_go_parked p s.parked (ParkedFrames.take_parked p s)))
    frame (CallFrame target method fuel arguments) e = send_place _ p.conn _ (let_go_place p s.parked (take_none p (none-answered s.connections p.conn p.number s.requests (call-came s.connections p (ap is_call_frame e) came) h.parts.requests) h))
    frame (ReturnedFrame value fuel) e = answer_parked_place p p (Throws g.classes.unmarshal) refl refl h _ (let-go-parts p s.parked (ParkedFrames.take_parked p s))

fails_place : {g : Setting} {s : State} (ps : List ParkedFrame) → Place g ps s → Place g [] (each (ParkedFrames.fail_parked g) ps s)
unfolding each
fails_place [] h = h
fails_place {g} {s} (p ∷ ps) h = fails_place {g = g} {s = ParkedFrames.fail_parked g s p} ps (rest_place p ps (fail_parked_place p h.parts.also.0 h))

-- ---- endings

fail_dirty_place : {g : Setting} {s : State} (call : ℕ) (id : ForeignId) → Place g [] s → Place g [] (Endings.fail_dirty g call s id)
unfolding Endings.fail_dirty
fail_dirty_place {g} {s} call id h = if_place (lease.is_made (Holders.lease_now s id).dirty call && is_none (Holders.lease_now s id).lease)
    (fails_place (filter (ParkedFrames.names id) s.parked) (record {
      parts = record {
        numbers = h.parts.numbers;
        requests = h.parts.requests;
        fresh = h.parts.fresh;
        parked = h.parts.parked;
        answered = h.parts.answered;
        also = all-filter (CameOn s.connections) (ParkedFrames.names id) s.parked h.parts.parked;
        unasked = h.parts.unasked;
      };
    })) (quiet _ refl h)

fail_group_place : {g : Setting} {s : State} (kind : Due) (b : Group) (call : ℕ) → Place g [] s → Place g [] (Endings.fail_group g kind b call s)
fail_group_place due.Dirty b call h = each_place _ _ (λ t x k. fail_dirty_place call x k) h
fail_group_place (due.Clean strong) b call h = each_place _ _ (λ t x k. quiet _ refl k) h

end_asked_place : {g : Setting} {s : State} (class : ClassId) (asked : Asked) → Place g [] s → Place g [] (Endings.end_asked g class asked s)
end_asked_place class (Calls number task lent kind m) h = reply_to_place (Calls number task lent kind m) (Throws class) h
end_asked_place class (LooksUp number task name) h = reply_to_place (LooksUp number task name) (Throws class) h
end_asked_place class (Tells call group) h = fail_group_place group.kind group call h

pub end_requests_place : {g : Setting} (s : State) (is : Request → Bool) (why : Asked → ClassId) → Place g [] (ParkedFrames.remove_requests is s) → Place g [] (Endings.end_requests g is why s)
unfolding Endings.end_requests
end_requests_place s is why h = each_place _ _ (λ t q k. end_asked_place (why q.asked) q.asked k) (each_place _ _ (λ t q k. end_asked_place (why q.asked) q.asked k) h)

-- ---- the end of a connection

abbrev less : ℕ → List Connection → List Connection
less conn cs = filter (λ (d : Connection). not (d.number == conn)) cs

-- Of a state in which a connection ends: what is parked on it goes, and nothing else.
record Unparks (s : State) (conn : ℕ) (ps : List ParkedFrame) (t : State) : Type 0 where
  same : place_parts t ≡ record { requests = s.requests; fresh = s.fresh; connections = less conn s.connections; parked = t.parked }
  came : AllOf (CameOn s.connections) t.parked
  left : AllOf (λ (q : ParkedFrame). (q.conn == conn) ≡ true → list_any (λ (p : ParkedFrame). is_parked_at p.conn p.number q) ps ≡ true) t.parked
  others : (c k : ℕ) → (conn == c) ≡ false → results_of c k t.parked ≡ results_of c k s.parked

abbrev without_frames : ParkedFrame → PlaceParts → PlaceParts
without_frames p x = record x { parked = filter (λ q. not (is_parked_at p.conn p.number q)) x.parked }

or-second : (a b : Bool) → a ≡ false → a || b ≡ true → b ≡ true
or-second true b e f = absurd (true≢false e)
or-second false b e f = f

is-not : (b : Bool) → not b ≡ true → b ≡ false
is-not true e = absurd (true≢false (sym e))
is-not false e = refl

unparks-one : (s : State) (conn : ℕ) (p : ParkedFrame) (ps : List ParkedFrame) (t : State) → (p.conn == conn) ≡ true → Unparks s conn (p ∷ ps) t → Unparks s conn ps (Endings.unpark t p)
unparks-one s conn p ps t at k = record {
  same = parts ∙ ap (without_frames p) k.same ∙ sym (ap (λ (y : List ParkedFrame). record { requests = s.requests; fresh = s.fresh; connections = less conn s.connections; parked = y }) parked);
  came = subst (AllOf (CameOn s.connections)) (sym parked) (all-filter (CameOn s.connections) (λ q. not (is_parked_at p.conn p.number q)) t.parked k.came);
  left = subst (AllOf (λ (q : ParkedFrame). (q.conn == conn) ≡ true → list_any (λ (x : ParkedFrame). is_parked_at x.conn x.number q) ps ≡ true)) (sym parked)
      (all-weaken (λ (q : ParkedFrame). ((q.conn == conn) ≡ true → list_any (λ (x : ParkedFrame). is_parked_at x.conn x.number q) (p ∷ ps) ≡ true) × (not (is_parked_at p.conn p.number q) ≡ true)) (λ (q : ParkedFrame). (q.conn == conn) ≡ true → list_any (λ (x : ParkedFrame). is_parked_at x.conn x.number q) ps ≡ true) _
      (λ q x e. or-second (is_parked_at p.conn p.number q) _ (is-not (is_parked_at p.conn p.number q) x.1) (x.0 e))
      (all-both-filter (λ (q : ParkedFrame). (q.conn == conn) ≡ true → list_any (λ (x : ParkedFrame). is_parked_at x.conn x.number q) (p ∷ ps) ≡ true) (λ q. not (is_parked_at p.conn p.number q)) t.parked k.left));
  others = λ c n apart. ap (results_of c n) parked ∙ results-elsewhere c n p.conn p.number t.parked (ap (λ a. a == c && p.number == n) (eqb-true p.conn conn at) ∙ ap (λ b. b && p.number == n) apart) ∙ k.others c n apart;
}
  where
    parts : place_parts (Endings.unpark t p) ≡ without_frames p (place_parts t)
    parts = let-go-parts p t.parked (ParkedFrames.take_parked p t)

    parked : (Endings.unpark t p).parked ≡ filter (λ q. not (is_parked_at p.conn p.number q)) t.parked
    parked = ap (λ (x : PlaceParts). x.parked) parts

unparks-all : (s : State) (conn : ℕ) (ps : List ParkedFrame) (t : State) → AllOf (λ (p : ParkedFrame). (p.conn == conn) ≡ true) ps → Unparks s conn ps t → Unparks s conn [] (each Endings.unpark ps t)
unfolding each
unparks-all s conn [] t a k = k
unparks-all s conn (p ∷ ps) t a k = unparks-all s conn ps (Endings.unpark t p) a.1 (unparks-one s conn p ps t a.0 k)

-- each frame of the connection is among those that go
self-left : (conn : ℕ) (ps : List ParkedFrame) → AllOf (λ (q : ParkedFrame). (q.conn == conn) ≡ true → list_any (λ (p : ParkedFrame). is_parked_at p.conn p.number q) (filter (λ (p : ParkedFrame). p.conn == conn) ps) ≡ true) ps
self-left conn [] = tt
self-left conn (x ∷ ps) = (
  (λ e. first (x.conn == conn) e),
  all-weaken (λ (q : ParkedFrame). (q.conn == conn) ≡ true → list_any (λ (p : ParkedFrame). is_parked_at p.conn p.number q) (filter (λ (p : ParkedFrame). p.conn == conn) ps) ≡ true) _ ps (λ q f e. later q (x.conn == conn) (f e)) (self-left conn ps),
)
  where
    self : is_parked_at x.conn x.number x ≡ true
    self = both (x.conn == x.conn) (x.number == x.number) (eq-eqb x.conn x.conn refl) (eq-eqb x.number x.number refl)
      where
        both : (a b : Bool) → a ≡ true → b ≡ true → a && b ≡ true
        both true b e f = f
        both false b e f = absurd (true≢false (sym e))

    first : (b : Bool) → b ≡ true → list_any (λ (p : ParkedFrame). is_parked_at p.conn p.number x) (cond b (x ∷ filter (λ (p : ParkedFrame). p.conn == conn) ps) (filter (λ (p : ParkedFrame). p.conn == conn) ps)) ≡ true
    first true e = or-left (is_parked_at x.conn x.number x) _ self
    first false e = absurd (true≢false (sym e))

    later : (q : ParkedFrame) (b : Bool) → list_any (λ (p : ParkedFrame). is_parked_at p.conn p.number q) (filter (λ (p : ParkedFrame). p.conn == conn) ps) ≡ true → list_any (λ (p : ParkedFrame). is_parked_at p.conn p.number q) (cond b (x ∷ filter (λ (p : ParkedFrame). p.conn == conn) ps) (filter (λ (p : ParkedFrame). p.conn == conn) ps)) ≡ true
    later q true f = or-right (is_parked_at x.conn x.number q) _ f
    later q false f = f

-- nothing stands on a connection that is not open
not-open : (cs : List Connection) (conn : ℕ) (c : Connection) → numbered cs conn ≡ None → numbered cs conn ≡ Some c → ⊥
not-open cs conn c e f = some-none c (sym f ∙ e)

-- Requests that go with a connection: all that went out on it, and of those that are answered no other.
record GoWith (s : State) (conn : ℕ) (go : Request → Bool) : Type 0 where
  out : (q : Request) (n : ℕ) → is_out_on conn q.stage ≡ (n == conn) → IsDialledTo s.connections n q.peer → not (go q) ≡ true → (conn == n) ≡ false
  only : (n : ℕ) (q : Request) → (conn == n) ≡ false → go q ≡ true → is_answered_on n q.stage ≡ true → ⊥

shut_place : {g : Setting} (s t : State) (conn : ℕ) (go : Request → Bool) → GoWith s conn go → Place g [] s → Unparks s conn [] t → Place g [] (ParkedFrames.remove_requests go t)
shut_place {g} s t conn go W h u = record { parts = subst (InPlace []) (sym (ap (λ (x : PlaceParts). record x { requests = filter (λ q. not (go q)) x.requests }) u.same)) placed }
  where
    keeps : Request → Bool
    keeps q = not (go q)

    there : StillThere s.connections (less conn s.connections) (λ n. conn == n)
    there = still-less conn s.connections

    closed : numbered (less conn s.connections) conn ≡ None
    closed = closed-row conn s.connections

    stands : (q : Request) (stage : Stage) → q.stage ≡ stage → StandsOn s.connections q.peer stage → keeps q ≡ true → StandsOn (less conn s.connections) q.peer stage
    stands q Waits e d stays = tt
    stands q (Out n sequence) e d stays = still-dialled s.connections (less conn s.connections) (λ m. conn == m) there n q.peer (W.out q n (ap (is_out_on conn) e) d stays) d
    stands q (Answered n) e d stays = still-dialled s.connections (less conn s.connections) (λ m. conn == m) there n q.peer (W.out q n (ap (is_out_on conn) e) d stays) d

    requests : AllOf (λ (q : Request). StandsOn (less conn s.connections) q.peer q.stage × GoesTo q.peer q.asked) (filter keeps s.requests)
    requests = all-weaken (λ (q : Request). (StandsOn s.connections q.peer q.stage × GoesTo q.peer q.asked) × (keeps q ≡ true)) _ _ (λ q x. (stands q q.stage refl x.0.0 x.1, x.0.1)) (all-both-filter (λ (q : Request). StandsOn s.connections q.peer q.stage × GoesTo q.peer q.asked) keeps s.requests h.parts.requests)

    apart : (q : ParkedFrame) → ((q.conn == conn) ≡ true → false ≡ true) → (conn == q.conn) ≡ false
    apart q f = pick (q.conn == conn) refl
      where
        pick : (b : Bool) → (q.conn == conn) ≡ b → (conn == q.conn) ≡ false
        pick true e = absurd (true≢false (sym (f e)))
        pick false e = other-order q.conn conn e

    parked : AllOf (CameOn (less conn s.connections)) t.parked
    parked = Rattle.sp_rules.proofs.AllLemmas.all-with (CameOn s.connections) (λ (q : ParkedFrame). (q.conn == conn) ≡ true → false ≡ true) (CameOn (less conn s.connections)) t.parked
        (λ q came left. still-greeted s.connections (less conn s.connections) (λ m. conn == m) there q.conn (not (is_call_frame q.frame)) (apart q left) came) u.came u.left

    no-answers : (k : ℕ) → answers_of conn k (filter keeps s.requests) ≡ 0
    no-answers k = total-none (λ (q : Request). count (is_answer conn k q)) (filter keeps s.requests) (all-weaken (λ (q : Request). StandsOn (less conn s.connections) q.peer q.stage × GoesTo q.peer q.asked) (λ (q : Request). count (is_answer conn k q) ≡ 0) _
        (λ q x. count-false (is_answer conn k q) (λ a. at q.peer q.stage x.0 (both-left (is_answered_on conn q.stage) _ a))) requests)
      where
        at : (peer : Uuid) (stage : Stage) → StandsOn (less conn s.connections) peer stage → is_answered_on conn stage ≡ true → ⊥
        at peer Waits x e = true≢false (sym e)
        at peer (Out n sequence) x e = true≢false (sym e)
        at peer (Answered n) x e = not-open (less conn s.connections) conn x.row closed (subst (λ m. numbered (less conn s.connections) m ≡ Some x.row) (eqb-true n conn e) x.found)

    no-results : (k : ℕ) → results_of conn k t.parked ≡ 0
    no-results k = total-none (λ (q : ParkedFrame). count (is_result conn k q)) t.parked (all-weaken (CameOn (less conn s.connections)) (λ (q : ParkedFrame). count (is_result conn k q) ≡ 0) t.parked
        (λ q x. count-false (is_result conn k q) (λ a. not-open (less conn s.connections) conn x.row closed (subst (λ m. numbered (less conn s.connections) m ≡ Some x.row) (eqb-true q.conn conn (both-left (q.conn == conn) _ (both-right (not (is_call_frame q.frame)) _ a))) x.found))) parked)

    -- what goes was answered on no other connection
    other-answers : (n k : ℕ) → (conn == n) ≡ false → (q : Request) → go q ≡ true → count (is_answer n k q) ≡ 0
    other-answers n k apart-from q goes = count-false (is_answer n k q) (λ a. W.only n q apart-from goes (both-left (is_answered_on n q.stage) _ a))

    matched : (n k : ℕ) (b : Bool) → (conn == n) ≡ b → answers_of n k (filter keeps s.requests) ≡ results_of n k t.parked
    matched n k true e = subst (λ m. answers_of m k (filter keeps s.requests) ≡ results_of m k t.parked) (eqb-true conn n e) (no-answers k ∙ sym (no-results k))
    matched n k false e = total-kept (λ (q : Request). count (is_answer n k q)) go s.requests (other-answers n k e) ∙ h.parts.answered n k ∙ sym (u.others n k e)

    placed : InPlace [] (record { requests = filter keeps s.requests; fresh = s.fresh; connections = less conn s.connections; parked = t.parked })
    placed = record {
      numbers = numbers-filter (λ (d : Connection). not (d.number == conn)) s.connections h.parts.numbers;
      requests = requests;
      fresh = h.parts.fresh;
      parked = parked;
      answered = λ n k. matched n k (conn == n) refl;
      also = tt;
      unasked = all-filter HasTakenNone (λ (d : Connection). not (d.number == conn)) s.connections h.parts.unasked;
    }

-- all that was asked of the peer of a connection that was dialled goes with it
ends-with : (s : State) (conn : ℕ) (c : Connection) → connection_at s conn ≡ Some c → GoWith s conn (Endings.is_of_connection conn c.dialled)
ends-with s conn c is = record { out = elsewhere; only = λ n q apart goes a. at n q apart q.stage refl a c.dialled goes }
  where
    -- a request that stays went on another connection
    elsewhere : (q : Request) (n : ℕ) → is_out_on conn q.stage ≡ (n == conn) → IsDialledTo s.connections n q.peer → not (Endings.is_of_connection conn c.dialled q) ≡ true → (conn == n) ≡ false
    elsewhere q n out d stays = pick (conn == n) refl
      where
        dialled : conn ≡ n → (o : Option Uuid) → c.dialled ≡ o → ⊥
        dialled e None f = true≢false (sym d.dialled ∙ ap (is_to q.peer) (ap (λ (x : Connection). x.dialled) (some-same (sym d.found ∙ subst (λ m. numbered s.connections m ≡ Some c) e is)) ∙ f))
        dialled e (Some p) f = true≢false (sym (or-left (is_out_on conn q.stage) _ (out ∙ eq-eqb n conn (sym e))) ∙ sym (ap (λ o. Endings.is_of_connection conn o q) f) ∙ is-not _ stays)

        pick : (b : Bool) → (conn == n) ≡ b → b ≡ false
        pick true e = absurd (dialled (eqb-true conn n e) c.dialled refl)
        pick false e = refl

    at : (n : ℕ) (q : Request) → (conn == n) ≡ false → (stage : Stage) → q.stage ≡ stage → is_answered_on n stage ≡ true → (o : Option Uuid) → Endings.is_of_connection conn o q ≡ true → ⊥
    at n q apart-from Waits e a o f = true≢false (sym a)
    at n q apart-from (Out m sequence) e a o f = true≢false (sym a)
    at n q apart-from (Answered m) e a None f = true≢false (sym f)
    at n q apart-from (Answered m) e a (Some p) f = not-same conn n apart-from (sym (eqb-true m conn out) ∙ eqb-true m n a)
      where
        waits-no : Requests.waits_for p q ≡ false
        waits-no = ap (λ y. bytes_eq q.peer p && Requests.is_waiting y) e ∙ and-false (bytes_eq q.peer p)
          where
            and-false : (b : Bool) → b && false ≡ false
            and-false true = refl
            and-false false = refl

        out : (m == conn) ≡ true
        out = sym (ap (is_out_on conn) e) ∙ first (is_out_on conn q.stage) (Requests.waits_for p q) waits-no f
          where
            first : (x y : Bool) → y ≡ false → x || y ≡ true → x ≡ true
            first true y z g = refl
            first false y z g = absurd (true≢false (sym g ∙ z))

-- what was parked of a connection goes with it
goes-unparked : {g : Setting} {s : State} (conn : ℕ) → Place g [] s → Unparks s conn [] (Endings.let_connection_go conn s)
goes-unparked {g} {s} conn h =
    unparks-all s conn (filter (λ (p : ParkedFrame). p.conn == conn) s.parked) (Endings.without_connection conn s) (all-weaken (λ (p : ParkedFrame). CameOn s.connections p × ((p.conn == conn) ≡ true)) _ _ (λ p x. x.1) (all-both-filter (CameOn s.connections) (λ (p : ParkedFrame). p.conn == conn) s.parked h.parts.parked))
    (record { same = refl; came = h.parts.parked; left = self-left conn s.parked; others = λ c k apart. refl })

-- On a connection whose Hello has not come nothing is out.
leaves-none : (s : State) (conn : ℕ) (c : Connection) → connection_at s conn ≡ Some c → is_none c.peer ≡ true → GoWith s conn (λ q. false)
leaves-none s conn c is none = record { out = elsewhere; only = λ n q apart goes a. true≢false (sym goes) }
  where
    elsewhere : (q : Request) (n : ℕ) → is_out_on conn q.stage ≡ (n == conn) → IsDialledTo s.connections n q.peer → not false ≡ true → (conn == n) ≡ false
    elsewhere q n out d stays = pick (conn == n) refl
      where
        spoke : (o : Option Uuid) → is_none o ≡ true → is_some o ≡ true → ⊥
        spoke None e f = true≢false (sym f)
        spoke (Some p) e f = true≢false (sym e)

        pick : (b : Bool) → (conn == n) ≡ b → b ≡ false
        pick true e = absurd (spoke c.peer none (subst (λ (x : Connection). is_some x.peer ≡ true) (some-same (sym d.found ∙ subst (λ m. numbered s.connections m ≡ Some c) (eqb-true conn n e) is)) d.greeted))
        pick false e = refl

filter-whole : (rs : List Request) → filter (λ (q : Request). not false) rs ≡ rs
filter-whole [] = refl
filter-whole (q ∷ rs) = ap (λ l. q ∷ l) (filter-whole rs)

-- so it goes alone
let_connection_go_place : {g : Setting} {s : State} (conn : ℕ) (c : Connection) → connection_at s conn ≡ Some c → is_none c.peer ≡ true → Place g [] s → Place g [] (Endings.let_connection_go conn s)
let_connection_go_place {g} {s} conn c is none h = record {
  parts = subst (λ rs. InPlace [] (record (place_parts (Endings.let_connection_go conn s)) { requests = rs })) (filter-whole (Endings.let_connection_go conn s).requests)
      (shut_place s (Endings.let_connection_go conn s) conn (λ q. false) (leaves-none s conn c is none) h (goes-unparked conn h)).parts;
}

pub redial_place : {g : Setting} {s : State} (peer : Uuid) (conn : ℕ) (c : Connection) → connection_at s conn ≡ Some c → is_none c.peer ≡ true → Place g [] s → Place g [] (Endings.redial peer conn s)
unfolding Endings.redial
redial_place {g} {s} peer conn c is none h = dial_place peer (quiet _ refl (let_connection_go_place {s = Endings.note_peer peer s} conn c is none (quiet _ refl h)))

pub end_connection_place : {g : Setting} {s : State} (why : Asked → ClassId) (conn : ℕ) → Place g [] s → Place g [] (Endings.end_connection g why conn s)
unfolding Endings.end_connection
end_connection_place {g} {s} why conn h = some_place (connection_at s conn) _ h (λ c is. end_requests_place _ (Endings.is_of_connection conn c.dialled) why
    (shut_place s (Endings.let_connection_go conn s) conn (Endings.is_of_connection conn c.dialled) (ends-with s conn c is) h (goes-unparked conn h)))

pub close_place : {g : Setting} {s : State} (class : ClassId) (conn : ℕ) → Place g [] s → Place g [] (Endings.close g class conn s)
unfolding Endings.close
close_place class conn h = quiet _ refl (end_connection_place _ conn h)
