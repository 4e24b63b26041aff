-- Numbers of calls and of dirty and clean calls rise after every history of a space.
use mathlib.Core.Path.{sym, ap, subst, ◌∙◌}
use Rattle.std.proofs.Common.{arith}
use Rattle.std.proofs.lemmas.Bool.{true≢false, eqb-true, eq-eqb}
use Rattle.std.specs.List.{flat_map}
use Rattle.std.specs.Prelude.{◌≡◌, ◌≤◌, ◌⊎◌, refl, ℕ, ◌+◌, ◌==◌, ◌&&◌, ◌||◌, not, is_some, is_none, Bool, true, false, List, [], ◌∷◌, ◌++◌, Option, None, Some, find, if◌then◌else◌}
use Rattle.uuid.specs.declared.Uuid.{Uuid}
use Rattle.dgc_client.specs.Groups as groups
use Rattle.dgc_client.specs.Table.{numbers_of}
use Rattle.dgc_client.specs.declared.groups.Group.{Group}
use Rattle.net_message.specs.declared.message.Message.TheVariants as message
use Rattle.net_message.specs.declared.message.Message.{Message}
use Rattle.sp_rules.specs.Classes.{Setting}
use Rattle.sp_rules.specs.Endings.{call_number_in}
use Rattle.sp_rules.specs.Events.{Turn, in_order, Output, Event, Opened, Started, Ended, Withdrawn, Denied, Send, Dial, Close, Ready}
use Rattle.sp_rules.specs.Laws.{AllOf, RisesWithin}
use Rattle.sp_rules.specs.Lists.{each, with_some}
use Rattle.sp_rules.specs.Origins.{IsTaken}
use Rattle.sp_rules.specs.Refusals
use Rattle.sp_rules.specs.Refusals.{refusal, first_refusal}
use Rattle.sp_rules.specs.Requests
use Rattle.sp_rules.specs.Space
use Rattle.sp_rules.specs.State as state
use Rattle.sp_rules.specs.State.{State, Living, Request, Asked, Calls, LooksUp, Tells, Stage, Waits, Out, Connection, connection_at, connection_to, is_open, opening}
use Rattle.sp_rules.proofs.AllLemmas.{some-none, all-more, none-found}
use Rattle.sp_rules.proofs.OwnLemmas.{unrefused}
use Rattle.sp_rules.proofs.LineLemmas.{AreNumbered, none-of, or-none}
use Rattle.sp_laws.specs.Inbound.{opens, opened, OpensOnce}
use Rattle.sp_laws.specs.Directions.{opens_end, was_opened, HasOpened, GoesItsWay, FramesGoTheirWay}
use Rattle.sp_laws.specs.CallSent.{MaySend}
use Rattle.sp_order_laws.specs.Delivered.{frame_in, sent_on}
use Rattle.sp_order_laws.specs.Rising.{sequence_in, frame, frames_in, call_numbers, sequence_numbers, CallNumbersRise, SequenceNumbersRise}
use Rattle.sp_order_laws.proofs.NoteLemmas.{append-none, flat-append, sent, sent-none}
use Rattle.sp_order_laws.proofs.WalkRules.{Begins, happen_walk}
use Rattle.sp_order_laws.proofs.RisingMoves.{calls_at, calls_in, sequences_in, IsInTurn, line_parts, IsFresh, Rising, Rises, opens_rising, rising_walks}
use Rattle.sp_order_laws.proofs.RisingRules.{flush_rising, greet_rising}
use Rattle.sp_order_laws.proofs.RisingHistories.{keep_each, other-order, settle_rising, answered_rising, sent_rising, Rested, quiet_rested}

-- ---- no call is left to be made

if_fresh : (s t : State) (b : Bool) → s.fresh ≡ [] → t.fresh ≡ [] → (if b then s else t).fresh ≡ []
if_fresh s t true e f = e
if_fresh s t false e f = f

part_fresh : (s : State) (turn : Turn) (conn call : ℕ) (part : Group) → s.fresh ≡ [] → (Requests.part_goes_out turn conn call s part).fresh ≡ []
unfolding Requests.part_goes_out state.send
part_fresh s turn conn call part e = if_fresh _ _ (is_open s conn) e e

ask_fresh : (s : State) (q : Request) → s.fresh ≡ [] → (Requests.ask s q).fresh ≡ []
unfolding Requests.ask Requests.dial Requests.go_out state.send
ask_fresh s q e = by (Requests.hello_came (connection_to s q.peer))
  where
    goes : (turn : Turn) (conn : ℕ) (asked : Asked) → (Requests.goes_out turn conn q.peer asked s).fresh ≡ []
    goes turn conn (Calls number task lent kind m) = if_fresh _ _ (is_open s conn) e e
    goes turn conn (LooksUp number task name) = if_fresh _ _ (is_open s conn) e e
    goes turn conn (Tells call group) = keep_each (λ t. t.fresh ≡ []) (Requests.part_goes_out turn conn call) (groups.parts_of (Requests.most_on s conn) group) (λ t part k. part_fresh t turn conn call part k) e

    by : (o : Option ℕ) → (with_some o (Requests.dial q.peer (Requests.add_request q s)) (λ conn. Requests.go_out (Requests.turn_asked q.asked) conn q s)).fresh ≡ []
    by None = if_fresh _ _ (is_some (connection_to s q.peer) || state.is_dialling s q.peer) e e
    by (Some conn) = goes (Requests.turn_asked q.asked) conn q.asked

pub group_fresh : (s : State) (b : Group) → (Requests.make_group s b).fresh ≡ s.fresh
unfolding Requests.make_group Requests.ask Requests.dial Requests.go_out Requests.part_goes_out state.send
group_fresh s b = by (Requests.hello_came (connection_to made b.peer))
  where
    made : State
    made = record s { groups_made = s.groups_made + 1; leases = Rattle.dgc_client.specs.Table.made b (s.groups_made + 1) s.leases }

    q : Request
    q = record { peer = b.peer; asked = Tells (s.groups_made + 1) b; stage = state.Waits }

    either : (t u : State) (x : Bool) → t.fresh ≡ s.fresh → u.fresh ≡ s.fresh → (if x then t else u).fresh ≡ s.fresh
    either t u true e f = e
    either t u false e f = f

    part : (turn : Turn) (conn call : ℕ) (t : State) (p : Group) → t.fresh ≡ s.fresh → (Requests.part_goes_out turn conn call t p).fresh ≡ s.fresh
    part turn conn call t p e = either _ _ (is_open t conn) e e

    by : (o : Option ℕ) → (with_some o (Requests.dial b.peer (Requests.add_request q made)) (λ conn. each (Requests.part_goes_out (Requests.turn_of b.kind) conn (s.groups_made + 1)) (groups.parts_of (Requests.most_on made conn) b) made)).fresh ≡ s.fresh
    by None = either _ _ (is_some (connection_to made b.peer) || state.is_dialling made b.peer) refl refl
    by (Some conn) = keep_each (λ t. t.fresh ≡ s.fresh) (Requests.part_goes_out (Requests.turn_of b.kind) conn (s.groups_made + 1)) (groups.parts_of (Requests.most_on made conn) b) (λ t p k. part (Requests.turn_of b.kind) conn (s.groups_made + 1) t p k) refl

pub settle_fresh : (s : State) → (Requests.settle s).fresh ≡ []
unfolding Requests.settle Requests.ask_fresh
settle_fresh s = keep_each (λ t. t.fresh ≡ []) Requests.ask (Requests.make_due s).fresh (λ t q k. ask_fresh t q k) refl

-- ---- an event

-- with no call left to be made the last number is that of the state
settled : {outs : List Output} {top r : ℕ} (s : State) → s.fresh ≡ [] → Rising outs top r [] (line_parts s) → Rising outs s.calls_made r [] (line_parts s)
settled {outs} {top} {r} s none h = subst (λ n. Rising outs n r [] (line_parts s)) (sym made) h
  where
    made : s.calls_made ≡ top
    made = subst (IsFresh top s.calls_made) none h.fresh

pub sent_rested : (s : State) (o : Output) → Rested s → Rested (Space.record_sent s o)
sent_rested s (Started task) h = h
sent_rested s (Ended task outcome) h = h
sent_rested s (Withdrawn ids) h = h
sent_rested s (Denied why) h = h
sent_rested s (Send conn m) h = record { notes = h.notes; fresh = h.fresh }
sent_rested s (Dial peer) h = h
sent_rested s (Close conn) h = h
sent_rested s (Ready task) h = h

-- What was sent rises, and nothing is under way.
pub record Risen (outs : List Output) (s : State) : Type 0 where
  pub rising : Rising outs s.calls_made 6 [] (line_parts s)
  pub rested : Rested s

finish_risen : {outs : List Output} {top : ℕ} (s : State) (answers : Bool) → (answers ≡ false → Rested s) → Rising outs top 6 [] (line_parts s) → Risen (outs ++ (Space.finish_event answers s).1) (Space.finish_event answers s).0
finish_risen {outs} {top} s true rests h = record { rising = settled done rested.fresh rises; rested = rested }
  where
    done : State
    done = (Space.finish_event true s).0

    rested : Rested done
    rested = keep_each Rested Space.record_sent (in_order (Requests.settle s).notes) (λ t o k. sent_rested t o k) (record { notes = refl; fresh = settle_fresh s })

    rises : Rising (outs ++ in_order (Requests.settle s).notes) (Requests.make_due s).calls_made 6 [] (line_parts done)
    rises = keep_each (λ t. Rising (outs ++ in_order (Requests.settle s).notes) (Requests.make_due s).calls_made 6 [] (line_parts t)) Space.record_sent (in_order (Requests.settle s).notes) (λ t o k. sent_rising t o k) (answered_rising (Requests.settle s) (settle_rising s h))
finish_risen {outs} s false rests h = record { rising = subst (λ os. Rising os s.calls_made 6 [] (line_parts s)) (sym (append-none outs)) (settled s (rests refl).fresh h); rested = rests refl }

-- a number of which no connection is open
new-numbers : (cs : List Connection) (row : Connection) → AreNumbered cs → AllOf (λ (d : Connection). (d.number == row.number) ≡ false) cs → AreNumbered (cs ++ row ∷ [])
new-numbers [] row a e = (tt, tt)
new-numbers (d ∷ cs) row a e = (all-more (λ (x : Connection). (x.number == d.number) ≡ false) cs row a.0 (other-order d.number row.number e.0), new-numbers cs row a.1 e.1)

-- what a space takes as opened is not open
shut-before : (g : Setting) (lent : List ℕ) (s : State) (conn : ℕ) (dialled : Option Uuid) → refusal g lent s (Opened conn dialled) ≡ None → is_open s conn ≡ false
shut-before g lent s conn dialled e = (or-none (is_open s conn) (not (Refusals.was_asked s dialled)) (first-false (is_open s conn || not (Refusals.was_asked s dialled)) (unrefused g lent s (Opened conn dialled) e))).0
  where
    first-false : (b : Bool) → (if b then Some Refusals.Strange else None) ≡ None → b ≡ false
    first-false true f = absurd (some-none Refusals.Strange f)
    first-false false f = refl

pub rising_begins : (g : Setting) (lent : List ℕ) (outs : List Output) (s : State) (e : Event) → refusal g lent s e ≡ None → Rested s → ((conn : ℕ) → opens conn e ≡ true → flat_map (calls_at conn) outs ≡ []) → Begins g (Rises outs s.calls_made) s e
rising_begins g lent outs s e taken rested none = record {
  opens = λ conn dialled is h. opens_rising (record { number = conn; dialled = dialled; peer = None; version = 1; last = 0; sent = [] })
      (new-numbers s.connections (record { number = conn; dialled = dialled; peer = None; version = 1; last = 0; sent = [] }) h.rows (none-found (λ (c : Connection). c.number == conn) s.connections (none-of _ (shut-before g lent s conn dialled (subst (λ d. refusal g lent s d ≡ None) is taken)))))
      (subst (λ notes. sent (calls_at conn) outs notes ≡ []) (sym rested.notes) (sent-none (calls_at conn) outs ∙ none conn (ap (opens conn) is ∙ eq-eqb conn conn refl))) h;
  greets = λ c space is h. greet_rising s c.number space h;
  flushes = λ c space peer is shut h. flush_rising s c space peer is shut h;
  asks = λ id k t target method arguments is h. record { said = h.said; fresh = (refl, (refl, ((target.id, (method, (_, (arguments, refl)))), refl))); line = h.line; rows = h.rows; shut = h.shut; calls = h.calls; sequences = h.sequences; turns = h.turns; once = h.once };
  looks = λ peer name is h. record { said = h.said; fresh = (refl, (refl, (tt, refl))); line = h.line; rows = h.rows; shut = h.shut; calls = h.calls; sequences = h.sequences; turns = h.turns; once = h.once };
}

on_risen : (g : Setting) (lent : List ℕ) (outs : List Output) (s : State) (e : Event) → refusal g lent s e ≡ None → ((conn : ℕ) → opens conn e ≡ true → flat_map (calls_at conn) outs ≡ []) → Risen outs s → Risen (outs ++ (Space.on g e s).1) (Space.on g e s).0
unfolding Space.on
on_risen g lent outs s e taken none h = finish_risen (Space.happen g e s) (Space.answers_outputs e) (λ quiet. quiet_rested g s e quiet h.rested)
    (happen_walk (rising_walks g outs s.calls_made) e (rising_begins g lent outs s e taken h.rested none) h.rising)

-- ---- a connection that was never opened

opens-now : (conn : ℕ) (e : Event) → opens_end conn true e ≡ true → opens conn e ≡ true
opens-now conn (Opened c dialled) is = left (c == conn) (is_some dialled) is
  where
    left : (a b : Bool) → a && b ≡ true → a ≡ true
    left true b f = refl
    left false b f = absurd (true≢false (sym f))
opens-now conn _ is = absurd (true≢false (sym is))

was-opened : (conn : ℕ) (h : List Event) → was_opened h conn true ≡ true → opened conn h ≡ true
was-opened conn [] is = absurd (true≢false (sym is))
was-opened conn (e ∷ h) is = pick (opens_end conn true e) refl is (was-opened conn h)
  where
    or-is : (a b : Bool) → a ≡ true → a || b ≡ true
    or-is true b f = refl
    or-is false b f = absurd (true≢false (sym f))

    or-else : (a b : Bool) → b ≡ true → a || b ≡ true
    or-else true b f = refl
    or-else false b f = f

    pick : (b : Bool) → opens_end conn true e ≡ b → b || was_opened h conn true ≡ true → (was_opened h conn true ≡ true → opened conn h ≡ true) → opens conn e || opened conn h ≡ true
    pick true f g rest = or-is (opens conn e) (opened conn h) (opens-now conn e f)
    pick false f g rest = or-else (opens conn e) (opened conn h) (rest g)

-- no call is sent there
no-calls : (h : List Event) (conn : ℕ) (os : List Output) → (HasOpened h conn true → ⊥) → AllOf (GoesItsWay h) os → flat_map (calls_at conn) os ≡ []
no-calls h conn [] never a = refl
no-calls h conn (o ∷ os) never a = ap (λ (l : List ℕ). l ++ flat_map (calls_at conn) os) (one o a.0) ∙ no-calls h conn os never a.1
  where
    none : (c : ℕ) (m : Message) → (c == conn) ≡ true → MaySend (HasOpened h) c m → call_number_in m ≡ []
    none c (message.Hello version space digest) is k = refl
    none c (message.Call number object method fuel arguments) is k = absurd (never (subst (λ n. HasOpened h n true) (eqb-true c conn is) k))
    none c (message.Returned number fuel value) is k = refl
    none c (message.Threw number class) is k = refl
    none c (message.Spent number) is k = refl
    none c (message.Ack number) is k = refl
    none c (message.Dirty sequence period objects) is k = refl
    none c (message.Lease sequence period) is k = refl
    none c (message.Clean sequence strong objects) is k = refl
    none c (message.Cleaned sequence) is k = refl
    none c (message.Lookup number name) is k = absurd (never (subst (λ n. HasOpened h n true) (eqb-true c conn is) k))

    one : (o : Output) → GoesItsWay h o → calls_at conn o ≡ []
    one (Started task) k = refl
    one (Ended task outcome) k = refl
    one (Withdrawn ids) k = refl
    one (Denied why) k = refl
    one (Send c m) k = pick (c == conn) refl
      where
        pick : (b : Bool) → (c == conn) ≡ b → flat_map call_number_in (if b then m ∷ [] else []) ≡ []
        pick true is = ap (λ (l : List ℕ). l ++ []) (none c m is k)
        pick false is = refl
    one (Dial peer) k = refl
    one (Close c) k = refl
    one (Ready task) k = refl

pub never-opened : FramesGoTheirWay → (g : Setting) (h : List Event) (conn : ℕ) → opened conn h ≡ false → flat_map (calls_at conn) (Space.all_outputs g h) ≡ []
never-opened ways g [] conn shut = refl
never-opened ways g (e ∷ h) conn shut = flat-append (calls_at conn) (Space.all_outputs g h) (Space.outputs_of g h e)
    ∙ (ap (λ (l : List ℕ). l ++ flat_map (calls_at conn) (Space.outputs_of g h e)) (never-opened ways g h conn (or-none (opens conn e) (opened conn h) shut).1)
    ∙ no-calls (e ∷ h) conn (Space.outputs_of g h e) (λ was. true≢false (sym (was-opened conn (e ∷ h) was) ∙ shut)) (ways g h e))

-- ---- histories

pub risen-of : FramesGoTheirWay → (g : Setting) (h : List Event) → IsTaken g h → OpensOnce h → Risen (Space.all_outputs g h) (Space.state_of g h)
unfolding Space.state_of Space.outputs_of opening
risen-of ways g [] taken once = record {
  rising = record {
    said = tt;
    fresh = refl;
    line = omega arith;
    rows = tt;
    shut = tt;
    calls = λ conn. subst (RisesWithin 0 0) (sym (sent-none (calls_at conn) [])) (omega arith);
    sequences = subst (RisesWithin 0 0) (sym (sent-none sequences_in [])) (omega arith);
    turns = tt;
    once = λ k. subst (λ l. Rattle.sp_order_laws.proofs.RisingMoves.times k l + (0 + 0) ≤ Rattle.sp_laws.specs.Waiting.count (Rattle.std.specs.Prelude.nat_le k 0)) (sym (sent-none calls_in [])) (omega arith);
  };
  rested = record { notes = refl; fresh = refl };
}
risen-of ways g (e ∷ h) taken once = on_risen g taken.0.0 (Space.all_outputs g h) (Space.state_of g h) e taken.0.1 (λ conn is. never-opened ways g h conn (once.0 conn is)) (risen-of ways g h taken.1 once.1)

-- ---- as the laws say it

pub calls-on : (conn : ℕ) (os : List Output) → call_numbers (sent_on conn os) ≡ flat_map (calls_at conn) os
calls-on conn [] = refl
calls-on conn (o ∷ os) = flat-append call_number_in (frame_in conn o) (sent_on conn os) ∙ ap (λ (l : List ℕ). calls_at conn o ++ l) (calls-on conn os)

sequences-of : (os : List Output) → sequence_numbers (frames_in os) ≡ flat_map sequences_in os
sequences-of [] = refl
sequences-of (o ∷ os) = flat-append sequence_in (frame o) (frames_in os) ∙ ap (λ (l : List ℕ). sequences_in o ++ l) (sequences-of os)

pub call_numbers_rise : FramesGoTheirWay → CallNumbersRise
call_numbers_rise ways g h conn taken once = by (Space.state_of g h) (risen-of ways g h taken once)
  where
    by : (s : State) → Risen (Space.all_outputs g h) s → RisesWithin 0 s.calls_made (call_numbers (sent_on conn (Space.all_outputs g h)))
    by s k = subst (RisesWithin 0 s.calls_made) (sym (calls-on conn (Space.all_outputs g h) ∙ sym (sent-none (calls_at conn) (Space.all_outputs g h))))
        (subst (λ notes. RisesWithin 0 s.calls_made (sent (calls_at conn) (Space.all_outputs g h) notes)) k.rested.notes (k.rising.calls conn))

pub sequence_numbers_rise : FramesGoTheirWay → SequenceNumbersRise
sequence_numbers_rise ways g h taken once = by (Space.state_of g h) (risen-of ways g h taken once)
  where
    by : (s : State) → Risen (Space.all_outputs g h) s → RisesWithin 0 (numbers_of s.leases) (sequence_numbers (frames_in (Space.all_outputs g h)))
    by s k = subst (RisesWithin 0 (numbers_of s.leases)) (sym (sequences-of (Space.all_outputs g h) ∙ sym (sent-none sequences_in (Space.all_outputs g h))))
        (subst (λ notes. RisesWithin 0 (numbers_of s.leases) (sent sequences_in (Space.all_outputs g h) notes)) k.rested.notes k.rising.sequences)
