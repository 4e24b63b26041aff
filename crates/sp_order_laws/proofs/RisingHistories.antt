-- Numbers of calls and of dirty and clean calls rise after every history of a space.
use mathlib.Core.Path.{sym, ap, subst, ◌∙◌}
use Rattle.std.proofs.Common.{arith}
use Rattle.std.proofs.lemmas.Bool.{true≢false, eqb-true, eq-eqb, leb-true, leb-false}
use Rattle.std.specs.List.{flat_map}
use Rattle.std.specs.Prelude.{◌≡◌, ◌≤◌, ◌<◌, refl, cond, ℕ, ◌+◌, ◌==◌, ◌||◌, nat_le, is_some, is_none, Bool, true, false, List, [], ◌∷◌, ◌++◌, Option, None, Some, find, if◌then◌else◌}
use Rattle.space_ids.specs.declared.ids.ForeignId.{ForeignId}
use Rattle.uuid.specs.declared.Uuid.{Uuid}
use Rattle.dgc_client.specs.Groups as groups
use Rattle.dgc_client.specs.Table as client
use Rattle.dgc_client.specs.Table.{numbers_of}
use Rattle.dgc_client.specs.declared.groups.Group.{Group}
use Rattle.dgc_client.specs.declared.lease.Due.{Due}
use Rattle.dgc_client.specs.declared.lease.Due.TheVariants as due
use Rattle.sp_rules.specs.Behaviours.{Op, Create, Get, Put, Call}
use Rattle.sp_rules.specs.Classes.{Setting}
use Rattle.sp_rules.specs.Events.{turn_rank, in_order, Output, Event, Moment, Sweep, Root, RootAck, Bind, Rebind, Unbind, Lookup, Opened, Refused, Received, Closed, ReadFailed, Bad, WriteFailed, Committed, Parked, GivenBack, Finished, Started, Ended, Withdrawn, Denied, Send, Dial, Close, Ready}
use Rattle.sp_rules.specs.Frames.{is_dirty_kind}
use Rattle.sp_rules.specs.Holders
use Rattle.sp_rules.specs.Holders.{hold_ids, drop_ids}
use Rattle.sp_rules.specs.Laws.{AllOf, RisesWithin}
use Rattle.sp_rules.specs.Lists.{each, with_some}
use Rattle.sp_rules.specs.LivingTasks
use Rattle.sp_rules.specs.Requests
use Rattle.sp_rules.specs.Requests.{is_waiting}
use Rattle.sp_rules.specs.Space
use Rattle.sp_rules.specs.State as state
use Rattle.sp_rules.specs.State.{State, Living, Request, Asked, Calls, LooksUp, Tells, Stage, Waits, Out, Answered, Connection, connection_at, connection_to, is_open, is_to, ready_at, opening}
use Rattle.sp_rules.proofs.AllLemmas.{some-none, all-weaken, all-found, none-found, found-is}
use Rattle.sp_rules.proofs.OwnLemmas.{some-same}
use Rattle.sp_rules.proofs.LineLemmas.{AreNumbered}
use Rattle.sp_laws.specs.Waiting.{count}
use Rattle.sp_order_laws.proofs.NoteLemmas.{append-none, flat-last, rises-top, rises-last, sent, sent-none, sent-all}
use Rattle.sp_order_laws.proofs.WalkRules.{numbers-told}
use Rattle.sp_order_laws.proofs.RisingMoves.{calls_at, calls_in, sequences_in, number_of, waiting_number, IsSaid, times, times-append, later-turn, LineParts, line_parts, IsFresh, IsShut, Rising, says_rising, adds_rising, first_rising}
use Rattle.sp_order_laws.proofs.RisingRules.{Going, go_out_going, part_rising}
use Rattle.sp_order_laws.proofs.GroupOrder.{CleansFirst, IsDirty, cleans-first}

-- ---- small steps

pub keep_each : (Q : State → Type 0) {A : Type 0} {s : State} (f : State → A → State) (xs : List A) → ((t : State) (x : A) → Q t → Q (f t x)) → Q s → Q (each f xs s)
unfolding each
keep_each Q f [] k h = h
keep_each Q {s = s} f (x ∷ xs) k h = keep_each Q f xs k (k s x h)

raised : {outs : List Output} {top r : ℕ} {rest : List Request} {x : LineParts} (l : ℕ) → r ≤ l → Rising outs top r rest x → Rising outs top l rest x
raised {r = r} {x = x} l le h = record { said = h.said; fresh = h.fresh; line = h.line; rows = h.rows; shut = h.shut; calls = h.calls; sequences = h.sequences; turns = later-turn r l x.notes le h.turns; once = h.once }

-- the row of a connection whose Hello came
record HelloRow (o : Option Connection) (conn : ℕ) : Type 0 where
  row : Connection
  found : o ≡ Some row
  number : row.number ≡ conn
  greeted : is_some row.peer ≡ true

hello-row : (o : Option Connection) (conn : ℕ) → Requests.hello_came o ≡ Some conn → HelloRow o conn
hello-row None conn e = absurd (some-none conn (sym e))
hello-row (Some c) conn e = pick (is_some c.peer) refl e
  where
    pick : (b : Bool) → is_some c.peer ≡ b → (if b then Some c.number else None) ≡ Some conn → HelloRow (Some c) conn
    pick true g f = record { row = c; found = refl; number = some-same f; greeted = g }
    pick false g f = absurd (some-none conn (sym f))

pub other-order : (a b : ℕ) → (a == b) ≡ false → (b == a) ≡ false
other-order a b e = pick (b == a) refl
  where
    pick : (x : Bool) → (b == a) ≡ x → x ≡ false
    pick true f = absurd (true≢false (sym (eq-eqb a b (sym (eqb-true b a f))) ∙ e))
    pick false f = refl

-- other rows have other numbers
open-there : (is : Connection → Bool) (cs : List Connection) (c : Connection) → AreNumbered cs → find is cs ≡ Some c → is_some c.peer ≡ true → AllOf (λ (d : Connection). is_none d.peer ≡ true → (d.number == c.number) ≡ false) cs
open-there is [] c a e g = tt
open-there is (d ∷ cs) c a e g = pick (is d) e (λ f. open-there is cs c a.1 f g)
  where
    Is : Connection → Type 0
    Is x = is_none x.peer ≡ true → (x.number == c.number) ≡ false

    both : (o : Option Uuid) → is_some o ≡ true → is_none o ≡ true → ⊥
    both None x y = true≢false (sym x)
    both (Some p) x y = true≢false (sym y)

    pick : (b : Bool) → cond b (Some d) (find is cs) ≡ Some c → (find is cs ≡ Some c → AllOf Is cs) → AllOf Is (d ∷ cs)
    pick true f rest = ((λ n. absurd (both c.peer g (ap (λ (x : Connection). is_none x.peer) (sym (some-same f)) ∙ n))), all-weaken (λ (x : Connection). (x.number == d.number) ≡ false) Is cs (λ x k n. ap (λ (y : Connection). x.number == y.number) (sym (some-same f)) ∙ k) a.0)
    pick false f rest = ((λ n. other-order c.number d.number (all-found (λ (x : Connection). (x.number == d.number) ≡ false) is cs c f a.0)), rest f)

dial_rising : {outs : List Output} {top r : ℕ} {rest : List Request} (s : State) (peer : Uuid) → Rising outs top r rest (line_parts s) → Rising outs top r rest (line_parts (Requests.dial peer s))
unfolding Requests.dial
dial_rising {outs} {top} {r} {rest} s peer h = by (is_some (connection_to s peer) || state.is_dialling s peer)
  where
    by : (b : Bool) → Rising outs top r rest (line_parts (if b then s else state.say (Dial peer) (record s { dialling = s.dialling ++ peer ∷ [] })))
    by true = h
    by false = says_rising (Dial peer) refl h

-- ---- groups

group_rising : {outs : List Output} {top r : ℕ} {rest : List Request} (s : State) (b : Group) → turn_rank (Requests.turn_of b.kind) ≡ r → r < 14 → Rising outs top r rest (line_parts s) → Rising outs top r rest (line_parts (Requests.make_group s b))
unfolding Requests.make_group Requests.ask Requests.go_out
group_rising {outs} {top} {r} {rest} s b now low h = by (Requests.hello_came (connection_to made b.peer))
  where
    call : ℕ
    call = s.groups_made + 1

    made : State
    made = record s { groups_made = call; leases = client.made b call s.leases }

    q : Request
    q = record { peer = b.peer; asked = Tells call b; stage = Waits }

    kept : Rising outs top r rest (line_parts made)
    kept = subst (λ n. Rising outs top r rest (record { calls_made = s.calls_made; numbers = n; requests = s.requests; fresh = s.fresh; connections = s.connections; notes = s.notes }))
        (sym (numbers-told (client.references_at b.peer b.ids) (client.making b.kind call) s.leases)) h

    by : (o : Option ℕ) → Rising outs top r rest (line_parts (with_some o (Requests.dial b.peer (Requests.add_request q made)) (λ conn. each (Requests.part_goes_out (Requests.turn_of b.kind) conn call) (groups.parts_of (Requests.most_on made conn) b) made)))
    by None = dial_rising (Requests.add_request q made) b.peer (adds_rising q tt refl kept)
    by (Some conn) = keep_each (λ t. Rising outs top r rest (line_parts t)) _ (groups.parts_of (Requests.most_on made conn) b) (λ t part k. part_rising t (Requests.turn_of b.kind) conn call part now low k) kept

dirty-turn : (kind : Due) → is_dirty_kind kind ≡ true → turn_rank (Requests.turn_of kind) ≡ 8
dirty-turn due.Dirty e = refl
dirty-turn (due.Clean strong) e = absurd (true≢false (sym e))

clean-turn : (kind : Due) → is_dirty_kind kind ≡ false → turn_rank (Requests.turn_of kind) ≡ 7
clean-turn due.Dirty e = absurd (true≢false e)
clean-turn (due.Clean strong) e = refl

dirties_rising : {outs : List Output} {top : ℕ} {rest : List Request} (s : State) (bs : List Group) → AllOf IsDirty bs → Rising outs top 8 rest (line_parts s) → Rising outs top 8 rest (line_parts (each Requests.make_group bs s))
unfolding each
dirties_rising s [] a h = h
dirties_rising s (b ∷ bs) a h = dirties_rising (Requests.make_group s b) bs a.1 (group_rising s b (dirty-turn b.kind a.0) (omega arith) h)

groups_rising : {outs : List Output} {top : ℕ} {rest : List Request} (s : State) (bs : List Group) → CleansFirst bs → Rising outs top 7 rest (line_parts s) → Rising outs top 8 rest (line_parts (each Requests.make_group bs s))
unfolding each
groups_rising s [] a h = raised 8 (omega arith) h
groups_rising {outs} {top} {rest} s (b ∷ bs) a h = pick (is_dirty_kind b.kind) refl (λ k. groups_rising (Requests.make_group s b) bs a.1 k)
  where
    pick : (x : Bool) → is_dirty_kind b.kind ≡ x → (Rising outs top 7 rest (line_parts (Requests.make_group s b)) → Rising outs top 8 rest (line_parts (each Requests.make_group bs (Requests.make_group s b)))) → Rising outs top 8 rest (line_parts (each Requests.make_group bs (Requests.make_group s b)))
    pick true e next = dirties_rising (Requests.make_group s b) bs (a.0 e) (group_rising s b (dirty-turn b.kind e) (omega arith) (raised 8 (omega arith) h))
    pick false e next = next (group_rising s b (clean-turn b.kind e) (omega arith) h)

-- ---- the call of the event

given-next : (k top : ℕ) → count (nat_le k top) + count ((top + 1) == k) ≤ count (nat_le k (top + 1))
given-next k top = pick (nat_le k top) refl (nat_le k (top + 1)) refl ((top + 1) == k) refl
  where
    pick : (a : Bool) → nat_le k top ≡ a → (b : Bool) → nat_le k (top + 1) ≡ b → (c : Bool) → ((top + 1) == k) ≡ c → count a + count c ≤ count b
    pick true x true y true z = let e : k ≤ top = leb-true k top x in let f : top + 1 ≡ k = eqb-true (top + 1) k z in absurd (omega (arith, e, f))
    pick true x true y false z = omega arith
    pick true x false y c z = let e : k ≤ top = leb-true k top x in let f : top + 1 < k = leb-false k (top + 1) y in absurd (omega (arith, e, f))
    pick false x true y true z = omega arith
    pick false x true y false z = omega arith
    pick false x false y true z = let f : top + 1 < k = leb-false k (top + 1) y in let g : top + 1 ≡ k = eqb-true (top + 1) k z in absurd (omega (arith, f, g))
    pick false x false y false z = omega arith

call-turn : (asked : Asked) (number : ℕ) (peer : Uuid) (stage : Stage) → number_of (record { peer = peer; asked = asked; stage = stage }) ≡ number ∷ [] → turn_rank (Requests.turn_asked asked) ≡ 9
call-turn (Calls n task lent kind m) number peer stage e = refl
call-turn (LooksUp n task name) number peer stage e = refl
call-turn (Tells call group) number peer stage e = absurd (none e)
  where
    some : List ℕ → Bool
    some [] = false
    some (x ∷ xs) = true

    none : [] ≡ number ∷ [] → ⊥
    none f = true≢false (sym (ap some f))

ask_rising : {outs : List Output} (top : ℕ) (s : State) (q : Request) → s.calls_made ≡ top + 1 → s.fresh ≡ [] → IsSaid q.asked → number_of q ≡ (top + 1) ∷ [] → RisesWithin 0 top (flat_map waiting_number s.requests) → ((conn : ℕ) → RisesWithin 0 top (sent (calls_at conn) outs s.notes))
    → Rising outs (top + 1) 9 (q ∷ []) (line_parts s) → Rising outs (top + 1) 9 [] (line_parts (Requests.ask s q))
unfolding Requests.ask
ask_rising {outs} top s q made none said number line calls h = by (Requests.hello_came (connection_to s q.peer)) refl
  where
    lined : (b : Bool) → RisesWithin 0 (top + 1) (flat_map waiting_number s.requests ++ (if b then number_of q else []))
    lined true = subst (λ (l : List ℕ). RisesWithin 0 (top + 1) (flat_map waiting_number s.requests ++ l)) (sym number) (rises-last 0 top (top + 1) (top + 1) (flat_map waiting_number s.requests) (omega arith) (omega arith) line)
    lined false = subst (RisesWithin 0 (top + 1)) (sym (append-none (flat_map waiting_number s.requests))) (rises-top 0 top (top + 1) (flat_map waiting_number s.requests) (omega arith) line)

    fewer : (k : ℕ) (b : Bool) → times k (if b then number_of q else []) ≤ times k (number_of q)
    fewer k true = omega arith
    fewer k false = omega arith

    waits : Rising outs (top + 1) 9 [] (line_parts (Requests.add_request q s))
    waits = record {
      said = Rattle.sp_rules.proofs.AllLemmas.all-more (λ (p : Request). IsSaid p.asked) s.requests q h.said said;
      fresh = h.fresh;
      line = subst (RisesWithin 0 (top + 1)) (sym (flat-last waiting_number s.requests q)) (lined (is_waiting q.stage));
      rows = h.rows;
      shut = h.shut;
      calls = h.calls;
      sequences = h.sequences;
      turns = h.turns;
      once = λ k. let a : times k (sent calls_in outs s.notes) + (times k (flat_map waiting_number s.requests) + times k (number_of q ++ [])) ≤ count (nat_le k (top + 1)) = h.once k in
          let b : times k (number_of q ++ []) ≡ times k (number_of q) = ap (times k) (append-none (number_of q)) in
          let c : times k (waiting_number q) ≤ times k (number_of q) = fewer k (is_waiting q.stage) in
          let d : times k (flat_map waiting_number (s.requests ++ q ∷ [])) ≡ times k (flat_map waiting_number s.requests) + times k (waiting_number q) = ap (times k) (flat-last waiting_number s.requests q) ∙ times-append k (flat_map waiting_number s.requests) (waiting_number q) in omega arith;
    }

    goes : (conn : ℕ) → HelloRow (connection_to s q.peer) conn → Going outs (top + 1) 9 conn (q ∷ []) s
    goes conn x = record {
      rising = h;
      next = subst (λ (l : List ℕ). RisesWithin 0 (top + 1) (sent (calls_at conn) outs s.notes ++ l)) (sym (append-none (number_of q) ∙ number)) (rises-last 0 top (top + 1) (top + 1) (sent (calls_at conn) outs s.notes) (omega arith) (omega arith) (calls conn));
      greeted = subst (λ n. AllOf (λ (c : Connection). is_none c.peer ≡ true → (c.number == n) ≡ false) s.connections) x.number (open-there (λ (c : Connection). is_to q.peer c.dialled) s.connections x.row h.rows x.found x.greeted);
      asked = (said, tt);
    }

    by : (o : Option ℕ) → Requests.hello_came (connection_to s q.peer) ≡ o → Rising outs (top + 1) 9 [] (line_parts (with_some o (Requests.dial q.peer (Requests.add_request q s)) (λ conn. Requests.go_out (Requests.turn_asked q.asked) conn q s)))
    by None e = dial_rising (Requests.add_request q s) q.peer waits
    by (Some conn) e = (go_out_going {s = s} (Requests.turn_asked q.asked) q (call-turn q.asked (top + 1) q.peer q.stage number) (omega arith) (goes conn (hello-row (connection_to s q.peer) conn e))).rising

fresh_rising : {outs : List Output} {top : ℕ} (s : State) (fresh : List Request) → IsFresh top s.calls_made fresh → Rising outs top 8 [] (line_parts s) → Rising outs s.calls_made 9 [] (line_parts (each Requests.ask fresh (record s { fresh = [] })))
unfolding each
fresh_rising {outs} {top} s [] made h = subst (λ n. Rising outs n 9 [] (line_parts (record s { fresh = [] }))) (sym made)
    (record { said = h.said; fresh = made; line = h.line; rows = h.rows; shut = h.shut; calls = h.calls; sequences = h.sequences; turns = later-turn 8 9 s.notes (omega arith) h.turns; once = h.once })
fresh_rising {outs} {top} s (q ∷ rest) f h = subst (λ (l : List Request). Rising outs s.calls_made 9 [] (line_parts (each Requests.ask l (Requests.ask (record s { fresh = [] }) q)))) (sym f.1.0)
    (subst (λ n. Rising outs n 9 [] (line_parts (Requests.ask (record s { fresh = [] }) q))) (sym f.0) (ask_rising top (record s { fresh = [] }) q f.0 refl f.1.1.0 f.1.1.1 h.line h.calls (record {
      said = h.said;
      fresh = f.0;
      line = rises-top 0 top (top + 1) (flat_map waiting_number s.requests) (omega arith) h.line;
      rows = h.rows;
      shut = h.shut;
      calls = λ conn. rises-top 0 top (top + 1) (sent (calls_at conn) outs s.notes) (omega arith) (h.calls conn);
      sequences = h.sequences;
      turns = later-turn 8 9 s.notes (omega arith) h.turns;
      once = λ k. let a : times k (sent calls_in outs s.notes) + (times k (flat_map waiting_number s.requests) + 0) ≤ count (nat_le k top) = h.once k in
          let b : times k (number_of q ++ []) ≡ count ((top + 1) == k) + 0 = ap (times k) (append-none (number_of q) ∙ f.1.1.1) in
          let c : count (nat_le k top) + count ((top + 1) == k) ≤ count (nat_le k (top + 1)) = given-next k top in omega arith;
    })))

pub settle_rising : {outs : List Output} {top : ℕ} (s : State) → Rising outs top 6 [] (line_parts s) → Rising outs (Requests.make_due s).calls_made 9 [] (line_parts (Requests.settle s))
unfolding Requests.settle Requests.make_due Requests.ask_fresh
settle_rising s h = let k = groups_rising s (Requests.due_groups s.leases) (cleans-first s.leases) (raised 7 (omega arith) h) in fresh_rising (each Requests.make_group (Requests.due_groups s.leases) s) (each Requests.make_group (Requests.due_groups s.leases) s).fresh k.fresh k

-- ---- the end of an event

-- what is noted is answered
pub answered_rising : {outs : List Output} {top : ℕ} (t : State) → Rising outs top 9 [] (line_parts t) → Rising (outs ++ in_order t.notes) top 6 [] (line_parts (record t { notes = [] }))
answered_rising {outs} {top} t h = record {
  said = h.said;
  fresh = h.fresh;
  line = h.line;
  rows = h.rows;
  shut = all-weaken (IsShut outs t.notes) (IsShut (outs ++ in_order t.notes) []) t.connections (λ c k e. same (calls_at c.number) ∙ k e) h.shut;
  calls = λ conn. subst (RisesWithin 0 top) (sym (same (calls_at conn))) (h.calls conn);
  sequences = subst (RisesWithin 0 (numbers_of t.leases)) (sym (same sequences_in)) h.sequences;
  turns = tt;
  once = λ k. subst (λ l. times k l + (times k (flat_map waiting_number t.requests) + 0) ≤ count (nat_le k top)) (sym (same calls_in)) (h.once k);
}
  where
    same : (f : Output → List ℕ) → sent f (outs ++ in_order t.notes) [] ≡ sent f outs t.notes
    same f = sent-none f (outs ++ in_order t.notes) ∙ sym (sent-all f outs t.notes)

pub sent_rising : {outs : List Output} {top r : ℕ} (s : State) (o : Output) → Rising outs top r [] (line_parts s) → Rising outs top r [] (line_parts (Space.record_sent s o))
sent_rising s (Started task) h = h
sent_rising s (Ended task outcome) h = h
sent_rising s (Withdrawn ids) h = h
sent_rising s (Denied why) h = h
sent_rising s (Send conn m) h = first_rising conn (λ (c : Connection). record c { sent = m ∷ c.sent }) (λ c. refl) (λ c. refl) (λ c e. e) h
sent_rising s (Dial peer) h = h
sent_rising s (Close conn) h = h
sent_rising s (Ready task) h = h

-- nothing is noted, and no call is under way to be made
pub record Rested (s : State) : Type 0 where
  pub notes : s.notes ≡ []
  pub fresh : s.fresh ≡ []

hold_rested : {s : State} (ids : List ForeignId) → Rested s → Rested (hold_ids ids s)
unfolding hold_ids
hold_rested ids h = keep_each Rested Holders.holder_comes ids (λ t x k. record { notes = k.notes; fresh = k.fresh }) h

drop_rested : {s : State} (ids : List ForeignId) → Rested s → Rested (drop_ids ids s)
unfolding drop_ids
drop_rested ids h = keep_each Rested Holders.holder_goes ids (λ t x k. record { notes = k.notes; fresh = k.fresh }) h

some_rested : {A : Type 0} {t : State} (x : Option A) (f : A → State) → Rested t → ((a : A) → Rested (f a)) → Rested (with_some x t f)
some_rested None f h k = h
some_rested (Some a) f h k = k a

after_op_rested : (g : Setting) (s : State) (op : Op) → Rested s → Rested (LivingTasks.after_op g op s)
unfolding LivingTasks.after_op
after_op_rested g s (Create class) h = by (LivingTasks.is_full s)
  where
    by : (b : Bool) → Rested (if b then s else record s { objects_made = s.objects_made + 1; store = state.Made (LivingTasks.next_object s) class ∷ s.store })
    by true = h
    by false = record { notes = h.notes; fresh = h.fresh }
after_op_rested g s (Get id slot) h = h
after_op_rested g s (Put id slot value) h = drop_rested _ (hold_rested _ (record { notes = h.notes; fresh = h.fresh }))
after_op_rested g s (Call target method arguments) h = h

-- an event that answers nothing
pub quiet_rested : (g : Setting) (s : State) (e : Event) → Space.answers_outputs e ≡ false → Rested s → Rested (Space.happen g e s)
unfolding Space.happen LivingTasks.commit LivingTasks.give_back
quiet_rested g s (Committed task k op) is h = some_rested (ready_at s task) _ h (λ t. after_op_rested g _ op (hold_rested _ (record { notes = h.notes; fresh = h.fresh })))
quiet_rested g s (GivenBack task k) is h = some_rested (ready_at s task) _ h (λ t. record { notes = h.notes; fresh = h.fresh })
quiet_rested g s (Moment moment) is h = absurd (true≢false is)
quiet_rested g s Sweep is h = absurd (true≢false is)
quiet_rested g s (Root method arguments fuel) is h = absurd (true≢false is)
quiet_rested g s (RootAck task) is h = absurd (true≢false is)
quiet_rested g s (Bind name value) is h = absurd (true≢false is)
quiet_rested g s (Rebind name value) is h = absurd (true≢false is)
quiet_rested g s (Unbind name) is h = absurd (true≢false is)
quiet_rested g s (Lookup peer name) is h = absurd (true≢false is)
quiet_rested g s (Opened conn dialled) is h = absurd (true≢false is)
quiet_rested g s (Refused peer) is h = absurd (true≢false is)
quiet_rested g s (Received conn m) is h = absurd (true≢false is)
quiet_rested g s (Closed conn) is h = absurd (true≢false is)
quiet_rested g s (ReadFailed conn) is h = absurd (true≢false is)
quiet_rested g s (Bad conn) is h = absurd (true≢false is)
quiet_rested g s (WriteFailed conn unsent) is h = absurd (true≢false is)
quiet_rested g s (Parked task k) is h = absurd (true≢false is)
quiet_rested g s (Finished task k) is h = absurd (true≢false is)
