-- What is asked stands among the requests, after every history; and welcome frames close nothing.
use mathlib.Core.Path.{sym, ap, subst, ◌∙◌}
use Rattle.std.proofs.Common.{arith, inl, inr}
use Rattle.std.proofs.lemmas.Bool.{true≢false, eqb-true, eq-eqb, ltb-true, ltb-false}
use Rattle.std.specs.Prelude.{◌≡◌, ◌≤◌, ◌<◌, refl, cond, ℕ, zero, suc, ◌+◌, ◌==◌, ◌&&◌, ◌||◌, nat_lt, is_some, Bool, true, false, List, [], ◌∷◌, ◌++◌, Option, None, Some, filter, find, map, if◌then◌else◌}
use Rattle.uuid.specs.declared.Uuid.{Uuid}
use Rattle.net_message.specs.declared.message.Message.{Message}
use Rattle.net_message.specs.declared.message.Message.TheVariants as message
use Rattle.sp_rules.specs.Classes.{Setting}
use Rattle.sp_rules.specs.Events.{Note, Says, Sends, rank, ranks, turn_rank, output_of, of_rank, of_ranks, in_order, Output, Started, Ended, Withdrawn, Denied, Send, Dial, Close, Ready, Event, Opened, Received}
use Rattle.sp_rules.specs.Laws.{AllOf}
use Rattle.sp_rules.specs.Lists.{total}
use Rattle.sp_rules.specs.Origins.{IsTaken}
use Rattle.sp_rules.specs.OwnEvents
use Rattle.sp_rules.specs.Requests
use Rattle.sp_rules.specs.Space
use Rattle.sp_rules.specs.State.{State, Request, Connection, Frame, CallFrame, ReturnedFrame, ParkedFrame, connection_at, is_open, opening}
use Rattle.sp_rules.proofs.AllLemmas.{ranks-all, all-weaken}
use Rattle.sp_rules.proofs.FuelOfSpaces.{total-append}
use Rattle.sp_laws.specs.Inbound.{opens, opened, OpensOnce}
use Rattle.sp_laws.specs.Waiting.{count}
use Rattle.sp_laws.specs.Directions.{FramesGoTheirWay}
use Rattle.sp_laws.specs.Open.{ConnectionsEnd}
use Rattle.sp_laws.proofs.ShutLemmas.{connections_end, ends-so}
use Rattle.sp_laws.proofs.SilentLemmas.{ended_connections_are_silent}
use Rattle.sp_order_laws.specs.Delivered.{came_on, frame_of, frame_in, sent_on}
use Rattle.sp_order_laws.specs.Ends.{IsOneOf, CameAs, ParkedResultsCame}
use Rattle.sp_order_laws.proofs.RisingLaws.{Risen, risen-of}
use Rattle.sp_order_laws.proofs.RisingMoves.{IsSaid}
use Rattle.sp_order_laws.specs.Asked.{is_request, out_on, asks_for, AnswersNone, WhatIsAskedStands}
use Rattle.sp_order_laws.specs.Told.{AnswersTold, LeasesAnswerDirtyCalls}
use Rattle.sp_laws.specs.CallSent.{is_send}
use Rattle.sp_order_laws.specs.Welcome.{is_welcome, WelcomeFramesCloseNothing}
use Rattle.sp_order_laws.proofs.StayMoves.{Aim, P, NoteMay, is_told, noted, has_row, SparesParked, SparesFrame, first_s, opens_s}
use Rattle.sp_order_laws.proofs.StayRules.{each_s, settle_s}
use Rattle.sp_order_laws.proofs.StayFrames.{Ends, Leaves, Beside, MayTell, is_on, is_opening, receive_s, happen_s}

-- ---- notes are answered once

-- an aim that asks nothing of answers
abbrev pub aim : ℕ → (Message → Bool) → ℕ → Aim
aim conn is sent = record { conn = conn; is = is; sent = sent; live = true; May = λ n m. Unit {0}; plain = λ n m e. tt; Frame = λ p. Unit {0} }

pub value : Aim → Output → ℕ
value A o = total (asks_for A.is) (frame_in A.conn o)

below : (Output → ℕ) → ℕ → Note → ℕ
below f r n = if nat_lt (rank n) r then f (output_of n) else 0

rank-total : (f : Output → ℕ) (r : ℕ) (notes : List Note) → total f (of_rank notes r) + total (below f r) notes ≡ total (below f (suc r)) notes
unfolding below
rank-total f r [] = refl
rank-total f r (n ∷ notes) = pick (rank n == r) refl (nat_lt (rank n) r) refl (nat_lt (rank n) (suc r)) refl (rank-total f r notes)
  where
    v : ℕ
    v = f (output_of n)

    pick : (a : Bool) → (rank n == r) ≡ a → (b : Bool) → nat_lt (rank n) r ≡ b → (c : Bool) → nat_lt (rank n) (suc r) ≡ c → total f (of_rank notes r) + total (below f r) notes ≡ total (below f (suc r)) notes
        → total f (map output_of (cond a (n ∷ filter (λ y. rank y == r) notes) (filter (λ y. rank y == r) notes))) + ((if b then v else 0) + total (below f r) notes) ≡ (if c then v else 0) + total (below f (suc r)) notes
    pick true e true d c g rest = let p : rank n ≡ r = eqb-true (rank n) r e in let q : rank n < r = ltb-true (rank n) r d in absurd (omega (arith, p, q))
    pick true e false d true g rest = omega arith
    pick true e false d false g rest = let p : rank n ≡ r = eqb-true (rank n) r e in let q : suc r ≤ rank n = ltb-false (rank n) (suc r) g in absurd (omega (arith, p, q))
    pick false e true d true g rest = omega arith
    pick false e true d false g rest = let p : rank n < r = ltb-true (rank n) r d in let q : suc r ≤ rank n = ltb-false (rank n) (suc r) g in absurd (omega (arith, p, q))
    pick false e false d true g rest = let p : r ≤ rank n = ltb-false (rank n) r d in let q : rank n < suc r = ltb-true (rank n) (suc r) g in absurd (true≢false (sym (eq-eqb (rank n) r (omega arith)) ∙ e))
    pick false e false d false g rest = omega arith

ranks-total : (f : Output → ℕ) (r : ℕ) (notes : List Note) → total f (of_ranks r notes) ≡ total (below f r) notes
unfolding below
ranks-total f zero notes = sym (zeros notes)
  where
    none : (n : Note) (b : Bool) → nat_lt (rank n) zero ≡ b → (if b then f (output_of n) else 0) ≡ 0
    none n true e = let p : rank n < zero = ltb-true (rank n) zero e in absurd (omega (arith, p))
    none n false e = refl

    zeros : (ns : List Note) → total (below f zero) ns ≡ 0
    zeros [] = refl
    zeros (n ∷ ns) = let a : below f zero n ≡ 0 = none n (nat_lt (rank n) zero) refl in let b : total (below f zero) ns ≡ 0 = zeros ns in omega arith
ranks-total f (suc r) notes =
    let a : total f (of_ranks r notes ++ of_rank notes r) ≡ total f (of_ranks r notes) + total f (of_rank notes r) = total-append f (of_ranks r notes) (of_rank notes r) in
    let b : total f (of_ranks r notes) ≡ total (below f r) notes = ranks-total f r notes in
    let c : total f (of_rank notes r) + total (below f r) notes ≡ total (below f (suc r)) notes = rank-total f r notes in omega arith

total-le : (f g : Note → ℕ) → ((n : Note) → f n ≤ g n) → (notes : List Note) → total f notes ≤ total g notes
total-le f g le [] = omega arith
total-le f g le (n ∷ notes) = let a : f n ≤ g n = le n in let b : total f notes ≤ total g notes = total-le f g le notes in omega arith

note-below : (A : Aim) (n : Note) → below (value A) 14 n ≤ noted A n
unfolding below value
note-below A (Says (Started task)) = omega arith
note-below A (Says (Ended task outcome)) = omega arith
note-below A (Says (Withdrawn ids)) = omega arith
note-below A (Says (Denied why)) = omega arith
note-below A (Says (Send n m)) = omega arith
note-below A (Says (Dial peer)) = omega arith
note-below A (Says (Close n)) = omega arith
note-below A (Says (Ready task)) = omega arith
note-below A (Sends turn n m) = first (nat_lt (turn_rank turn) 14) (n == A.conn)
  where
    first : (b c : Bool) → (if b then total (asks_for A.is) (if c then m ∷ [] else []) else 0) ≤ count (c && (is_request m && A.is m))
    first true true = omega arith
    first true false = omega arith
    first false c = omega arith

in-order : (A : Aim) (notes : List Note) → total (value A) (in_order notes) ≤ total (noted A) notes
unfolding in_order
in-order A notes = let a : total (value A) (of_ranks 14 notes) ≡ total (below (value A) 14) notes = ranks-total (value A) 14 notes in let b : total (below (value A) 14) notes ≤ total (noted A) notes = total-le (below (value A) 14) (noted A) (note-below A) notes in omega arith

sent-is : (A : Aim) (os : List Output) → total (asks_for A.is) (sent_on A.conn os) ≡ total (value A) os
unfolding value
sent-is A [] = refl
sent-is A (o ∷ os) =
    let a : total (asks_for A.is) (frame_in A.conn o ++ sent_on A.conn os) ≡ total (asks_for A.is) (frame_in A.conn o) + total (asks_for A.is) (sent_on A.conn os) = total-append (asks_for A.is) (frame_in A.conn o) (sent_on A.conn os) in
    let b : total (asks_for A.is) (sent_on A.conn os) ≡ total (value A) os = sent-is A os in omega arith

-- ---- the end of an event

sent_s : {A : Aim} (s : State) (o : Output) → P A s → P A (Space.record_sent s o)
sent_s s (Started task) h = h
sent_s s (Ended task outcome) h = h
sent_s s (Withdrawn ids) h = h
sent_s s (Denied why) h = h
sent_s s (Send n m) h = record { stays = first_s n (λ (c : Connection). record c { sent = m ∷ c.sent }) (λ c. refl) h.stays }
sent_s s (Dial peer) h = h
sent_s s (Close n) h = h
sent_s s (Ready task) h = h

-- with what an event sends
pub record Done (A : Aim) (t : State) (outputs : List Output) : Type 0 where
  pub extra : ℕ
  pub left : P (record A { sent = A.sent + extra }) t
  pub said : total (value A) outputs ≤ extra

pub done-of : (A : Aim) (s : State) (answers : Bool) → P A s → Done A (Space.finish_event answers s).0 (Space.finish_event answers s).1
done-of A s true h = record {
  extra = total (noted A) t.notes;
  left = each_s Space.record_sent (in_order t.notes) (λ u o k. sent_s u o k) (record {
    stays = record {
      holds = let a : A.sent + total (noted A) t.notes ≤ total (out_on A.conn A.is) t.requests = k.stays.holds in omega arith;
      said = k.stays.said;
      fresh = k.stays.fresh;
      parked = k.stays.parked;
      row = k.stays.row;
      known = tt;
      frames = k.stays.frames;
    };
  });
  said = in-order A t.notes;
}
  where
    t : State
    t = Requests.settle s

    k : P A t
    k = settle_s h
done-of A s false h = record {
  extra = 0;
  left = record {
    stays = record {
      holds = let a : A.sent + total (noted A) s.notes ≤ total (out_on A.conn A.is) s.requests = h.stays.holds in omega (arith, same s.notes);
      said = h.stays.said;
      fresh = h.stays.fresh;
      parked = h.stays.parked;
      row = h.stays.row;
      known = all-weaken (NoteMay A) (NoteMay (record A { sent = A.sent + 0 })) s.notes known h.stays.known;
      frames = h.stays.frames;
    };
  };
  said = omega arith;
}
  where
    known : (n : Note) → NoteMay A n → NoteMay (record A { sent = A.sent + 0 }) n
    known (Says o) k = k
    known (Sends turn c m) k = k

    same : (ns : List Note) → total (noted (record A { sent = A.sent + 0 })) ns ≡ total (noted A) ns
    same [] = refl
    same (n ∷ ns) = let a : noted (record A { sent = A.sent + 0 }) n ≡ noted A n = one n in let b : total (noted (record A { sent = A.sent + 0 })) ns ≡ total (noted A) ns = same ns in omega arith
      where
        one : (x : Note) → noted (record A { sent = A.sent + 0 }) x ≡ noted A x
        one (Says o) = refl
        one (Sends turn c m) = refl

-- ---- histories

pub all-first : {A : Type 0} (Is : A → Type 0) (xs ys : List A) → AllOf Is (xs ++ ys) → AllOf Is xs
all-first Is [] ys a = tt
all-first Is (x ∷ xs) ys a = (a.0, all-first Is xs ys a.1)

pub all-last : {A : Type 0} (Is : A → Type 0) (xs ys : List A) → AllOf Is (xs ++ ys) → AllOf Is ys
all-last Is [] ys a = a
all-last Is (x ∷ xs) ys a = all-last Is xs ys a.1

pub all-one : {A : Type 0} (Is : A → Type 0) (xs : List A) (x : A) → IsOneOf x xs → AllOf Is xs → Is x
all-one Is [] x o a = absurd o
all-one Is (y ∷ ys) x (inl e) a = subst Is (sym e) a.0
all-one Is (y ∷ ys) x (inr o) a = all-one Is ys x o a.1

-- nothing was sent on a connection that did not open
pub nothing-sent : (g : Setting) (h : List Event) (A : Aim) → opened A.conn h ≡ false → (is_open (Space.state_of g h) A.conn ≡ false) × (total (value A) (Space.all_outputs g h) ≡ 0)
unfolding Space.state_of Space.outputs_of opening value
nothing-sent g [] A shut = (refl, refl)
nothing-sent g (e ∷ h) A shut =
    let x = nothing-sent g h A (either (opens A.conn e) (opened A.conn h) shut).1 in
    let o : opens A.conn e ≡ false = (either (opens A.conn e) (opened A.conn h) shut).0 in
    let a : total (value A) (Space.all_outputs g h ++ (Space.on g e (Space.state_of g h)).1) ≡ total (value A) (Space.all_outputs g h) + total (value A) (Space.on g e (Space.state_of g h)).1 = total-append (value A) (Space.all_outputs g h) (Space.on g e (Space.state_of g h)).1 in
    let b : total (value A) (Space.all_outputs g h) ≡ 0 = x.1 in
    let c : total (value A) (Space.on g e (Space.state_of g h)).1 ≡ 0 = silent (Space.on g e (Space.state_of g h)).1 ((ended_connections_are_silent g h e A.conn).shut x.0 o) in
    ((connections_end g (Space.state_of g h) e A.conn).stays x.0 o, omega arith)
  where
    either : (a b : Bool) → a || b ≡ false → (a ≡ false) × (b ≡ false)
    either true b f = absurd (true≢false f)
    either false b f = (refl, f)

    silent : (os : List Output) → AllOf (λ (o : Output). Rattle.sp_laws.specs.Open.is_sent_on A.conn o ≡ false) os → total (value A) os ≡ 0
    silent [] k = refl
    silent (o ∷ os) k = let a : value A o ≡ 0 = one o k.0 in let b : total (value A) os ≡ 0 = silent os k.1 in omega arith
      where
        one : (p : Output) → Rattle.sp_laws.specs.Open.is_sent_on A.conn p ≡ false → value A p ≡ 0
        one (Started task) q = refl
        one (Ended task outcome) q = refl
        one (Withdrawn ids) q = refl
        one (Denied why) q = refl
        one (Send n m) q = ap (λ b. total (asks_for A.is) (if b then m ∷ [] else [])) q
        one (Dial peer) q = refl
        one (Close n) q = refl
        one (Ready task) q = refl

-- a parked result came, and is no answer
spared : (A : Aim) (h : List Event) → AllOf (AnswersNone A.is) (came_on A.conn h) → (p : ParkedFrame) → CameAs h p p.frame → SparesParked A p
spared A h none p came = by p.frame came
  where
    by : (f : Frame) → CameAs h p f → SparesFrame A p.conn p.number f
    by (CallFrame target method fuel arguments) k = tt
    by (ReturnedFrame v fuel) k = λ at m is. all-one (AnswersNone A.is) (came_on A.conn h) (message.Returned p.number fuel v) (subst (λ n. IsOneOf (message.Returned p.number fuel v) (came_on n h)) (eqb-true p.conn A.conn at) k) none m is

pub all-unit : {A : Type 0} (xs : List A) → AllOf (λ (x : A). Unit {0}) xs
all-unit [] = tt
all-unit (x ∷ xs) = (tt, all-unit xs)

-- what is known as an event begins
pub start-of : FramesGoTheirWay → ParkedResultsCame → (g : Setting) (h : List Event) (A : Aim) → IsTaken g h → OpensOnce h → AllOf (AnswersNone A.is) (came_on A.conn h) → (rows : List Connection) → (A.live ≡ true → has_row A.conn rows ≡ true) → A.sent ≤ total (out_on A.conn A.is) (Space.state_of g h).requests → AllOf A.Frame (Space.state_of g h).parked
    → P A (record (Space.state_of g h) { connections = rows })
start-of ways results g h A taken once none rows row le frames = record {
  stays = record {
    holds = subst (λ (ns : List Note). A.sent + total (noted A) ns ≤ total (out_on A.conn A.is) (Space.state_of g h).requests) (sym r.rested.notes) (omega (arith, le));
    said = r.rising.said;
    fresh = subst (AllOf (λ (q : Request). IsSaid q.asked)) (sym r.rested.fresh) tt;
    parked = all-weaken (λ (p : ParkedFrame). CameAs h p p.frame) (SparesParked A) (Space.state_of g h).parked (λ p k. spared A h none p k) (results g h);
    row = row;
    known = subst (AllOf (NoteMay A)) (sym r.rested.notes) tt;
    frames = frames;
  };
}
  where
    r : Risen (Space.all_outputs g h) (Space.state_of g h)
    r = risen-of ways g h taken once

pub row-last : (conn : ℕ) (rows : List Connection) (c : Connection) → (c.number == conn) ≡ true → has_row conn (rows ++ c ∷ []) ≡ true
row-last conn [] c e = ap (λ b. is_some (cond b (Some c) None)) e
row-last conn (d ∷ rows) c e = by (d.number == conn) (row-last conn rows c e)
  where
    by : (b : Bool) → has_row conn (rows ++ c ∷ []) ≡ true → is_some (cond b (Some d) (find (λ (x : Connection). x.number == conn) (rows ++ c ∷ []))) ≡ true
    by true k = refl
    by false k = k

-- which events open this connection
opening-of : (conn : ℕ) (e : Event) → opens conn e ≡ true → is_opening e ≡ true
opening-of conn (Opened n dialled) is = refl
opening-of conn _ is = absurd (true≢false (sym is))

asked-of : FramesGoTheirWay → ParkedResultsCame → (g : Setting) (h : List Event) (conn : ℕ) (is : Message → Bool) → IsTaken g h → OpensOnce h → is_open (Space.state_of g h) conn ≡ true → AllOf (AnswersNone is) (came_on conn h)
    → total (value (aim conn is 0)) (Space.all_outputs g h) ≤ total (out_on conn is) (Space.state_of g h).requests
unfolding Space.state_of Space.outputs_of opening Space.on value
asked-of ways results g [] conn is taken once live none = omega arith
asked-of ways results g (e ∷ h) conn is taken once live none = left (happen_s g s e (beside e (all-last (AnswersNone is) (came_on conn h) (frame_of conn e) none)) (opens-it (opens conn e) refl (λ o. asked-of ways results g h conn is taken.1 once.1 o (all-first (AnswersNone is) (came_on conn h) (frame_of conn e) none))) (kept (opens conn e) refl (λ o. asked-of ways results g h conn is taken.1 once.1 o (all-first (AnswersNone is) (came_on conn h) (frame_of conn e) none))))
  where
    s : State
    s = Space.state_of g h

    before : AllOf (AnswersNone is) (came_on conn h)
    before = all-first (AnswersNone is) (came_on conn h) (frame_of conn e) none

    A : Aim
    A = aim conn is (total (value (aim conn is 0)) (Space.all_outputs g h))

    was-live : opens conn e ≡ false → is_open s conn ≡ true
    was-live apart = by (is_open s conn) refl
      where
        by : (b : Bool) → is_open s conn ≡ b → b ≡ true
        by true f = refl
        by false f = absurd (true≢false (sym live ∙ (connections_end g s e conn).stays f apart))

    kept : (b : Bool) → opens conn e ≡ b → (is_open s conn ≡ true → A.sent ≤ total (out_on conn is) s.requests) → is_opening e ≡ false → P A s
    kept true f earlier quiet = absurd (true≢false (sym (opening-of conn e f) ∙ quiet))
    kept false f earlier quiet = start-of ways results g h A taken.1 once.1 before s.connections (λ x. was-live f) (earlier (was-live f)) (all-unit s.parked)

    row : ℕ → Option Uuid → Connection
    row n dialled = record { number = n; dialled = dialled; peer = None; version = 1; last = 0; sent = [] }

    opens-it : (b : Bool) → opens conn e ≡ b → (is_open s conn ≡ true → A.sent ≤ total (out_on conn is) s.requests) → (n : ℕ) (dialled : Option Uuid) → e ≡ Opened n dialled → P A (OwnEvents.add_connection n dialled s)
    opens-it true f earlier n dialled same =
        let none-yet : A.sent ≡ 0 = (nothing-sent g h (aim conn is 0) (once.0 conn f)).1 in
        start-of ways results g h A taken.1 once.1 before (s.connections ++ row n dialled ∷ []) (λ x. row-last conn s.connections (row n dialled) (subst (λ d. opens conn d ≡ true) same f)) (omega (arith, none-yet)) (all-unit s.parked)
    opens-it false f earlier n dialled same = record { stays = opens_s (row n dialled) (start-of ways results g h A taken.1 once.1 before s.connections (λ x. was-live f) (earlier (was-live f)) (all-unit s.parked)).stays }

    nothing-known : (n : ℕ) (x : Message) → MayTell A n x
    nothing-known n (message.Dirty sequence period objects) = tt
    nothing-known n (message.Clean sequence strong objects) = tt
    nothing-known n (message.Call number object method fuel arguments) = λ id references e. tt
    nothing-known n (message.Returned number fuel v) = λ references. tt
    nothing-known n _ = tt

    beside : (d : Event) → AllOf (AnswersNone is) (frame_of conn d) → Beside A d
    beside (Received n m) k = (λ at. (subst (λ b. AllOf (AnswersNone is) (if b then m ∷ [] else [])) at k).0, nothing-known n m)
    beside _ k = tt

    left : Leaves A e (Space.happen g e s) → total (value (aim conn is 0)) (Space.all_outputs g h ++ (Space.finish_event (Space.answers_outputs e) (Space.happen g e s)).1) ≤ total (out_on conn is) (Space.finish_event (Space.answers_outputs e) (Space.happen g e s)).0.requests
    left (inl k) = within (done-of A (Space.happen g e s) (Space.answers_outputs e) k)
      where
        within : Done A (Space.finish_event (Space.answers_outputs e) (Space.happen g e s)).0 (Space.finish_event (Space.answers_outputs e) (Space.happen g e s)).1
            → total (value (aim conn is 0)) (Space.all_outputs g h ++ (Space.finish_event (Space.answers_outputs e) (Space.happen g e s)).1) ≤ total (out_on conn is) (Space.finish_event (Space.answers_outputs e) (Space.happen g e s)).0.requests
        within d =
            let a : total (value (aim conn is 0)) (Space.all_outputs g h ++ (Space.finish_event (Space.answers_outputs e) (Space.happen g e s)).1)
            ≡ total (value (aim conn is 0)) (Space.all_outputs g h) + total (value (aim conn is 0)) (Space.finish_event (Space.answers_outputs e) (Space.happen g e s)).1 =
            total-append (value (aim conn is 0)) (Space.all_outputs g h) (Space.finish_event (Space.answers_outputs e) (Space.happen g e s)).1 in
            let b : total (value (aim conn is 0)) (Space.finish_event (Space.answers_outputs e) (Space.happen g e s)).1 ≤ d.extra = d.said in
            let c : (total (value (aim conn is 0)) (Space.all_outputs g h) + d.extra) + total (noted (record A { sent = A.sent + d.extra })) (Space.finish_event (Space.answers_outputs e) (Space.happen g e s)).0.notes ≤ total (out_on conn is) (Space.finish_event (Space.answers_outputs e) (Space.happen g e s)).0.requests = d.left.stays.holds in omega arith
    left (inr shut) = absurd (true≢false (sym live ∙ shut-after shut.1 (Space.answers_outputs e)))
      where
        shut-after : is_open (Space.happen g e s) conn ≡ false → (b : Bool) → is_open (Space.finish_event b (Space.happen g e s)).0 conn ≡ false
        shut-after k true = ends-so g conn (Space.happen g e s) k
        shut-after k false = k

pub what_is_asked_stands : FramesGoTheirWay → ParkedResultsCame → WhatIsAskedStands
what_is_asked_stands ways results g h conn is taken once live none = subst (λ n. n ≤ total (out_on conn is) (Space.state_of g h).requests) (sym (sent-is (aim conn is 0) (Space.all_outputs g h))) (asked-of ways results g h conn is taken once live none)

-- ---- welcome frames

pub welcome_frames_close_nothing : FramesGoTheirWay → ParkedResultsCame → WelcomeFramesCloseNothing
unfolding Space.on Space.happen
welcome_frames_close_nothing ways results g h conn c m taken once there welcome other live = by (connection_at s conn) there
  where
    s : State
    s = Space.state_of g h

    A : Aim
    A = aim other (λ x. false) 0

    nothing : (ms : List Message) → AllOf (AnswersNone A.is) ms
    nothing [] = tt
    nothing (x ∷ ms) = ((λ y e. refl), nothing ms)

    begun : P A s
    begun = start-of ways results g h A taken once (nothing (came_on other h)) s.connections (λ x. live) (omega arith) (all-unit s.parked)

    nothing-known : (x : Message) → MayTell A c.number x
    nothing-known (message.Dirty sequence period objects) = tt
    nothing-known (message.Clean sequence strong objects) = tt
    nothing-known (message.Call number object method fuel arguments) = λ id references e. tt
    nothing-known (message.Returned number fuel v) = λ references. tt
    nothing-known _ = tt

    done : P A (Rattle.sp_rules.specs.Frames.receive g c m s) → is_open (Space.finish_event true (Rattle.sp_rules.specs.Frames.receive g c m s)).0 other ≡ true
    done k = (done-of A (Rattle.sp_rules.specs.Frames.receive g c m s) true k).left.stays.row refl

    kept : Ends A c.number (is_welcome g s c m) (Rattle.sp_rules.specs.Frames.receive g c m s) → P A (Rattle.sp_rules.specs.Frames.receive g c m s)
    kept (inl k) = k
    kept (inr k) = absurd (true≢false (sym welcome ∙ k.0))

    by : (o : Option Connection) → o ≡ Some c → is_open (Space.finish_event true (OwnEvents.received_on g o m s)).0 other ≡ true
    by o e = subst (λ x. is_open (Space.finish_event true (OwnEvents.received_on g x m s)).0 other ≡ true) (sym e) (done (kept (receive_s g c m (λ at x is. refl) (nothing-known m) begun)))

-- ---- a Lease answers a dirty call

abbrev TellsOf : Event → ℕ → Message → Type 0
TellsOf e n m = AnswersTold e (Send n m)

tells-plain : (e : Event) (n : ℕ) (m : Message) → is_told m ≡ false → TellsOf e n m
tells-plain e n (message.Lease sequence period) is = absurd (true≢false is)
tells-plain e n (message.Cleaned sequence) is = absurd (true≢false is)
tells-plain e n (message.Hello version space digest) is = tt
tells-plain e n (message.Call number object method fuel arguments) is = tt
tells-plain e n (message.Returned number fuel v) is = tt
tells-plain e n (message.Threw number class) is = tt
tells-plain e n (message.Spent number) is = tt
tells-plain e n (message.Ack number) is = tt
tells-plain e n (message.Dirty sequence period objects) is = tt
tells-plain e n (message.Clean sequence strong objects) is = tt
tells-plain e n (message.Lookup number name) is = tt

-- a connection to which nothing happens with the event
abbrev pub elsewhere : Event → ℕ
elsewhere (Received n m) = n + 1
elsewhere (Rattle.sp_rules.specs.Events.Closed n) = n + 1
elsewhere (Rattle.sp_rules.specs.Events.ReadFailed n) = n + 1
elsewhere (Rattle.sp_rules.specs.Events.Bad n) = n + 1
elsewhere (Rattle.sp_rules.specs.Events.WriteFailed n unsent) = n + 1
elsewhere _ = 0

apart-next : (n : ℕ) → (n == n + 1) ≡ true → ⊥
apart-next n e = let f : n ≡ n + 1 = eqb-true n (n + 1) e in omega (arith, f)

pub is-elsewhere : (e : Event) → is_on (elsewhere e) e ≡ true → ⊥
is-elsewhere (Received n m) f = apart-next n f
is-elsewhere (Rattle.sp_rules.specs.Events.Closed n) f = apart-next n f
is-elsewhere (Rattle.sp_rules.specs.Events.ReadFailed n) f = apart-next n f
is-elsewhere (Rattle.sp_rules.specs.Events.Bad n) f = apart-next n f
is-elsewhere (Rattle.sp_rules.specs.Events.WriteFailed n unsent) f = apart-next n f
is-elsewhere (Rattle.sp_rules.specs.Events.Moment moment) f = true≢false (sym f)
is-elsewhere Rattle.sp_rules.specs.Events.Sweep f = true≢false (sym f)
is-elsewhere (Rattle.sp_rules.specs.Events.Root method arguments fuel) f = true≢false (sym f)
is-elsewhere (Rattle.sp_rules.specs.Events.RootAck task) f = true≢false (sym f)
is-elsewhere (Rattle.sp_rules.specs.Events.Bind name v) f = true≢false (sym f)
is-elsewhere (Rattle.sp_rules.specs.Events.Rebind name v) f = true≢false (sym f)
is-elsewhere (Rattle.sp_rules.specs.Events.Unbind name) f = true≢false (sym f)
is-elsewhere (Rattle.sp_rules.specs.Events.Lookup peer name) f = true≢false (sym f)
is-elsewhere (Opened conn dialled) f = true≢false (sym f)
is-elsewhere (Rattle.sp_rules.specs.Events.Refused peer) f = true≢false (sym f)
is-elsewhere (Rattle.sp_rules.specs.Events.Committed task k op) f = true≢false (sym f)
is-elsewhere (Rattle.sp_rules.specs.Events.Parked task k) f = true≢false (sym f)
is-elsewhere (Rattle.sp_rules.specs.Events.GivenBack task k) f = true≢false (sym f)
is-elsewhere (Rattle.sp_rules.specs.Events.Finished task k) f = true≢false (sym f)

pub leases_answer_dirty_calls : FramesGoTheirWay → ParkedResultsCame → LeasesAnswerDirtyCalls
unfolding Space.outputs_of Space.on in_order
leases_answer_dirty_calls ways results g h e taken once = answers (Space.answers_outputs e) (happen_s g s e (beside e refl) (λ n dialled same. begun (s.connections ++ record { number = n; dialled = dialled; peer = None; version = 1; last = 0; sent = [] } ∷ [])) (λ quiet. begun s.connections))
  where
    s : State
    s = Space.state_of g h

    A : Aim
    A = record { conn = elsewhere e; is = λ m. false; sent = 0; live = false; May = TellsOf e; plain = tells-plain e; Frame = λ p. Unit {0} }

    nothing : (ms : List Message) → AllOf (AnswersNone A.is) ms
    nothing [] = tt
    nothing (x ∷ ms) = ((λ y f. refl), nothing ms)

    begun : (rows : List Connection) → P A (record s { connections = rows })
    begun rows = start-of ways results g h A taken once (nothing (came_on A.conn h)) rows (λ f. absurd (true≢false (sym f))) (omega arith) (all-unit s.parked)

    tells : (n : ℕ) (m : Message) → e ≡ Received n m → MayTell A n m
    tells n (message.Dirty sequence period objects) same = (period, (objects, (same, refl)))
    tells n (message.Clean sequence strong objects) same = (strong, (objects, same))
    tells n (message.Call number object method fuel arguments) same = λ id references f. tt
    tells n (message.Returned number fuel v) same = λ references. tt
    tells n _ same = tt

    beside : (d : Event) → e ≡ d → Beside A d
    beside (Received n m) same = ((λ at y f. refl), tells n m same)
    beside _ same = tt

    said-tells : (o : Output) → is_send o ≡ false → AnswersTold e o
    said-tells (Started task) k = tt
    said-tells (Ended task outcome) k = tt
    said-tells (Withdrawn ids) k = tt
    said-tells (Denied why) k = tt
    said-tells (Send n m) k = absurd (true≢false k)
    said-tells (Dial peer) k = tt
    said-tells (Close n) k = tt
    said-tells (Ready task) k = tt

    noted-tells : (n : Note) → NoteMay A n → AnswersTold e (output_of n)
    noted-tells (Sends turn n m) k = k
    noted-tells (Says o) k = said-tells o k

    answers : (b : Bool) → Leaves A e (Space.happen g e s) → AllOf (AnswersTold e) (Space.finish_event b (Space.happen g e s)).1
    answers true (inl k) = ranks-all (AnswersTold e) ranks (Requests.settle (Space.happen g e s)).notes (all-weaken (NoteMay A) (λ (n : Note). AnswersTold e (output_of n)) (Requests.settle (Space.happen g e s)).notes noted-tells (settle_s k).stays.known)
    answers true (inr k) = absurd (is-elsewhere e k.0)
    answers false k = tt
