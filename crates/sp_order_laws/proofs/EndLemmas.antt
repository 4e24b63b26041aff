-- Calls end by what their callees answered, or by a failure.
use mathlib.Core.Path.{sym, ap, subst, ◌∙◌}
use Rattle.std.proofs.Common.{arith, inl, inr}
use Rattle.std.proofs.lemmas.Bool.{true≢false, eqb-true, eq-eqb}
use Rattle.std.specs.List.{list_any}
use Rattle.std.specs.Prelude.{◌≡◌, ◌⊎◌, refl, ℕ, zero, suc, ◌+◌, ◌≤◌, ◌==◌, ◌&&◌, ◌||◌, not, Bool, true, false, List, [], ◌∷◌, ◌++◌, Option, None, Some, slice_get, if◌then◌else◌}
use Rattle.net_message.specs.declared.message.Message.{Message}
use Rattle.net_message.specs.declared.message.Message.TheVariants as message
use Rattle.space_ids.specs.declared.value.Value.{Value}
use Rattle.sp_rules.specs.Behaviours.{Reply, Gives, GivesBack, Throws, RunsOut}
use Rattle.sp_rules.specs.Classes.{Setting}
use Rattle.sp_rules.specs.Events.{Event, Received, Output, Send}
use Rattle.sp_rules.specs.Frames
use Rattle.sp_rules.specs.Laws.{AllOf, HasHistory}
use Rattle.sp_rules.specs.Lists.{total}
use Rattle.sp_rules.specs.Origins.{IsTaken, HasTaken}
use Rattle.sp_rules.specs.ParkedFrames
use Rattle.sp_rules.specs.Space
use Rattle.sp_rules.specs.State.{State, Living, Stage, Waits, Out, Answered, Request, Frame, ReturnedFrame, ParkedFrame}
use Rattle.sp_rules.specs.Worlds.{World, Space, End, Dialler, Accepter, Pipe, side, other, grown, run, new_world, new_space, WorldEvent}
use Rattle.sp_rules.proofs.AllLemmas.{some-none, or-left, or-right}
use Rattle.sp_rules.proofs.OwnLemmas.{histories_are_taken, and-right}
use Rattle.sp_rules.proofs.WorldLemmas.{all_hold}
use Rattle.sp_laws.specs.Answered.{answers_of, results_of, is_answered_on}
use Rattle.sp_laws.specs.Waiting.{count}
use Rattle.sp_laws.proofs.PlaceEvents.{answers_are_parked}
use Rattle.sp_laws.specs.Answers.{IsAnswer, Answers, SendsAnswer}
use Rattle.sp_laws.specs.CallEnds.{IsOutOn, IsParkedIn, MayEndWith, WaitsOn, IsGiven, WaitsOrEnds}
use Rattle.sp_laws.proofs.AnswerLemmas.{answers_are_outcomes}
use Rattle.sp_laws.proofs.CallEndLemmas.{calls_end_as_named}
use Rattle.sp_laws.proofs.EventRules.{asked-out}
use Rattle.sp_order_laws.specs.Delivered.{frame_of, came_on, frame_in, sent_on, outputs_in, outputs_at, AreSomeOf, is_event_on, has_event_on, IsEnd, Delivers}
use Rattle.sp_order_laws.specs.Ends.{IsOneOf, CameAs, IsReply, IsAnswered, AnswersCameFromCallees, Says, IsToldBy, IsOfFailure, CallsEndByCallees}
use Rattle.sp_order_laws.proofs.CameLemmas.{one-left, one-right, parked_results_came}
use Rattle.sp_order_laws.proofs.DeliveryLemmas.{sent-append, what_comes_was_sent}

-- ---- one of a list

one-of-all : {A : Type 0} (P : A → Type 0) (x : A) (xs : List A) → IsOneOf x xs → AllOf P xs → P x
one-of-all P x [] i a = absurd i
one-of-all P x (y ∷ ys) (inl e) a = subst P (sym e) a.0
one-of-all P x (y ∷ ys) (inr i) a = one-of-all P x ys i a.1

one-of-both : {A : Type 0} (x : A) (xs ys : List A) → IsOneOf x (xs ++ ys) → IsOneOf x xs ⊎ IsOneOf x ys
one-of-both x [] ys i = inr i
one-of-both x (z ∷ zs) ys (inl e) = inl (inl e)
one-of-both x (z ∷ zs) ys (inr i) = next (one-of-both x zs ys i)
  where
    next : IsOneOf x zs ⊎ IsOneOf x ys → IsOneOf x (z ∷ zs) ⊎ IsOneOf x ys
    next (inl a) = inl (inr a)
    next (inr b) = inr b

one-of-some : (m : Message) (xs ys : List Message) → IsOneOf m xs → AreSomeOf xs ys → IsOneOf m ys
one-of-some m [] ys i a = absurd i
one-of-some m (x ∷ xs) [] i a = absurd a
one-of-some m (x ∷ xs) (y ∷ ys) (inl e) (inl a) = inl (e ∙ a.0)
one-of-some m (x ∷ xs) (y ∷ ys) (inr i) (inl a) = inr (one-of-some m xs ys i a.1)
one-of-some m (x ∷ xs) (y ∷ ys) i (inr a) = inr (one-of-some m (x ∷ xs) ys i a)

one-total : {A : Type 0} (f : A → ℕ) (x : A) (xs : List A) → IsOneOf x xs → f x ≤ total f xs
one-total f x [] i = absurd i
one-total f x (y ∷ ys) (inl e) = let a : f x ≡ f y = ap f e in omega (arith, a)
one-total f x (y ∷ ys) (inr i) = let a : f x ≤ total f ys = one-total f x ys i in omega (arith, a)

-- ---- what came, and what was sent

came-event : (conn : ℕ) (m : Message) (h : List Event) → IsOneOf m (came_on conn h) → has_event_on conn h ≡ true
came-event conn m [] i = absurd i
came-event conn m (e ∷ h) i = by (one-of-both m (came_on conn h) (frame_of conn e) i) (λ a. came-event conn m h a)
  where
    of-event : (d : Event) → IsOneOf m (frame_of conn d) → is_event_on conn d ≡ true
    of-event (Received c n) j = pick (c == conn) j
      where
        pick : (b : Bool) → IsOneOf m (if b then n ∷ [] else []) → b ≡ true
        pick true k = refl
        pick false k = absurd k
    of-event _ j = absurd j

    by : IsOneOf m (came_on conn h) ⊎ IsOneOf m (frame_of conn e) → (IsOneOf m (came_on conn h) → has_event_on conn h ≡ true) → is_event_on conn e || has_event_on conn h ≡ true
    by (inl a) rest = or-right (is_event_on conn e) (has_event_on conn h) (rest a)
    by (inr b) rest = or-left (is_event_on conn e) (has_event_on conn h) (of-event e b)

came-later : (conn : ℕ) (m : Message) (h later : List Event) → IsOneOf m (came_on conn h) → IsOneOf m (came_on conn (later ++ h))
came-later conn m h [] i = i
came-later conn m h (e ∷ later) i = one-left m (came_on conn (later ++ h)) (frame_of conn e) (came-later conn m h later i)

came-now : (conn : ℕ) (m : Message) (e : Event) (h : List Event) → e ≡ Received conn m → IsOneOf m (came_on conn (e ∷ h))
came-now conn m e h is = one-right m (came_on conn h) (frame_of conn e) (subst (λ d. IsOneOf m (frame_of conn d)) (sym is) (here (conn == conn) (eq-eqb conn conn refl)))
  where
    here : (b : Bool) → b ≡ true → IsOneOf m (if b then m ∷ [] else [])
    here true f = inl refl
    here false f = absurd (true≢false (sym f))

one-sent : (conn : ℕ) (m : Message) (os : List Output) → IsOneOf m (sent_on conn os) → IsOneOf (Send conn m) os
one-sent conn m [] i = absurd i
one-sent conn m (o ∷ os) i = by (one-of-both m (frame_in conn o) (sent_on conn os) i) (λ b. one-sent conn m os b)
  where
    of-output : (p : Output) → IsOneOf m (frame_in conn p) → Send conn m ≡ p
    of-output (Send c n) j = pick (c == conn) refl j
      where
        pick : (b : Bool) → (c == conn) ≡ b → IsOneOf m (if b then n ∷ [] else []) → Send conn m ≡ Send c n
        pick true f (inl e) = ap (λ k. Send k m) (sym (eqb-true c conn f)) ∙ ap (Send c) e
        pick true f (inr k) = absurd k
        pick false f k = absurd k
    of-output _ j = absurd j

    by : IsOneOf m (frame_in conn o) ⊎ IsOneOf m (sent_on conn os) → (IsOneOf m (sent_on conn os) → IsOneOf (Send conn m) os) → IsOneOf (Send conn m) (o ∷ os)
    by (inl a) rest = inl (of-output o a)
    by (inr b) rest = inr (rest b)

-- an event of a history with which a frame was sent
abbrev SentIn : Setting → List Event → ℕ → Message → Type 0
SentIn g h conn m = (later : List Event) × ((event : Event) × ((before : List Event) × ((later ++ event ∷ before ≡ h) × IsOneOf (Send conn m) (Space.outputs_of g before event))))

sent-in : (g : Setting) (conn : ℕ) (m : Message) (h : List Event) → IsOneOf m (sent_on conn (Space.all_outputs g h)) → SentIn g h conn m
sent-in g conn m [] i = absurd i
sent-in g conn m (e ∷ h) i = by (one-of-both m (sent_on conn (Space.all_outputs g h)) (sent_on conn (Space.outputs_of g h e)) (subst (IsOneOf m) (sent-append conn (Space.all_outputs g h) (Space.outputs_of g h e)) i)) (λ a. sent-in g conn m h a)
  where
    by : IsOneOf m (sent_on conn (Space.all_outputs g h)) ⊎ IsOneOf m (sent_on conn (Space.outputs_of g h e)) → (IsOneOf m (sent_on conn (Space.all_outputs g h)) → SentIn g h conn m) → SentIn g (e ∷ h) conn m
    by (inl a) rest = let x = rest a in (e ∷ x.0, (x.1.0, (x.1.1.0, (ap {A = List Event} {B = List Event} (λ l. e ∷ l) x.1.1.1.0, x.1.1.1.1))))
    by (inr b) rest = ([], (e, (h, (refl, one-sent conn m (Space.outputs_of g h e) b))))

-- ---- what spaces of worlds answered

-- what a space answered is what its history answers
record Told (s : Space) : Type 0 where
  state : HasHistory s
  outputs : s.outputs ≡ Space.all_outputs s.setting s.history

told-grows : (e : Event) (s : Space) → Told s → Told (grown e s)
unfolding Space.state_of Space.outputs_of
told-grows e s k = record {
  state = ap (λ t. (Space.on s.setting e t).0) k.state;
  outputs = ap (λ (os : List Output). os ++ (Space.on s.setting e s.state).1) k.outputs ∙ ap (λ (t : State). Space.all_outputs s.setting s.history ++ (Space.on s.setting e t).1) k.state;
}

told-new : (g : Setting) → Told (new_space g)
unfolding Space.state_of
told-new g = record { state = refl; outputs = refl }

all-told : (settings : List Setting) (events : List WorldEvent) → AllOf Told (run (new_world settings) events).spaces
all-told settings events = all_hold {P = Told} (record { grows = λ e s lent t k. told-grows e s k }) told-new settings events

at-all : (P : Space → Type 0) (n : ℕ) (xs : List Space) (x : Space) → slice_get xs n ≡ Some x → AllOf P xs → P x
at-all P n [] x e a = absurd (some-none x (sym e))
at-all P zero (y ∷ xs) x e a = subst P (Rattle.sp_rules.proofs.OwnLemmas.some-same e) a.0
at-all P (suc n) (y ∷ xs) x e a = at-all P n xs x e a.1

reply-answers : (g : Setting) (s : State) (e : Event) (conn : ℕ) (m : Message) → IsReply m → Answers g s e conn m → IsAnswer g s e conn m
reply-answers g s e conn (message.Returned number fuel value) is a = a
reply-answers g s e conn (message.Threw number class) is a = a
reply-answers g s e conn (message.Spent number) is a = a
reply-answers g s e conn (message.Hello version space digest) is a = absurd is
reply-answers g s e conn (message.Call number object method fuel arguments) is a = absurd is
reply-answers g s e conn (message.Ack number) is a = absurd is
reply-answers g s e conn (message.Dirty sequence period objects) is a = absurd is
reply-answers g s e conn (message.Lease sequence period) is a = absurd is
reply-answers g s e conn (message.Clean sequence strong objects) is a = absurd is
reply-answers g s e conn (message.Cleaned sequence) is a = absurd is
reply-answers g s e conn (message.Lookup number name) is a = absurd is

pub answers_came_from_callees : AnswersCameFromCallees
answers_came_from_callees settings events i conn s m at is came = answered (run (new_world settings) events) (what_comes_was_sent settings events) (all-told settings events) at
  where
    answered : (w : World) → Delivers w → AllOf Told w.spaces → slice_get w.spaces i ≡ Some s → IsAnswered w i conn m
    answered w d told at = joined (slice_get w.pipes conn) refl (d.ends i conn s at (came-event conn m s.history came))
      where
        from : (p : Pipe) → slice_get w.pipes conn ≡ Some p → (end : End) → (side end p).space ≡ i → IsAnswered w i conn m
        from p joined end here = callee (slice_get w.spaces (side (other end) p).space) refl
            (one-of-some m (came_on conn s.history ++ (side end p).queue) (sent_on conn (outputs_at w.spaces (side (other end) p).space)) (one-left m (came_on conn s.history) (side end p).queue came)
            (d.brings conn p end joined s (subst (λ n. slice_get w.spaces n ≡ Some s) (sym here) at)))
          where
            callee : (o : Option Space) → slice_get w.spaces (side (other end) p).space ≡ o → IsOneOf m (sent_on conn (outputs_in o)) → IsAnswered w i conn m
            callee None there sent = absurd sent
            callee (Some t) there sent =
                let x = sent-in t.setting conn m t.history (subst (λ (os : List Output). IsOneOf m (sent_on conn os)) (at-all Told (side (other end) p).space w.spaces t there told).outputs sent) in
                record {
                  pipe = p;
                  end = end;
                  joins = joined;
                  here = here;
                  callee = t;
                  there = there;
                  later = x.0;
                  event = x.1.0;
                  before = x.1.1.0;
                  part = x.1.1.1.0;
                  sent = x.1.1.1.1;
                  answer = reply-answers t.setting (Space.state_of t.setting x.1.1.0) x.1.0 conn m is
                      (one-of-all (SendsAnswer t.setting (Space.state_of t.setting x.1.1.0) x.1.0) (Send conn m) (Space.outputs_of t.setting x.1.1.0 x.1.0) x.1.1.1.1 (answers_are_outcomes t.setting x.1.1.0 x.1.0));
                }

        joined : (o : Option Pipe) → slice_get w.pipes conn ≡ o → IsEnd i o → IsAnswered w i conn m
        joined None eq end = absurd end
        joined (Some p) eq (inl here) = from p eq Dialler here
        joined (Some p) eq (inr here) = from p eq Accepter here

-- ---- calls

out-there : (conn number : ℕ) (rs : List Request) → IsOutOn conn number rs → list_any (ParkedFrames.is_call_on conn number) rs ≡ true
out-there conn number [] e = e
out-there conn number (q ∷ rs) e = pick (ParkedFrames.is_asked_on conn number q) refl e (out-there conn number rs)
  where
    pick : (b : Bool) → ParkedFrames.is_asked_on conn number q ≡ b → b || list_any (ParkedFrames.is_asked_on conn number) rs ≡ true → (list_any (ParkedFrames.is_asked_on conn number) rs ≡ true → list_any (ParkedFrames.is_call_on conn number) rs ≡ true) → list_any (ParkedFrames.is_call_on conn number) (q ∷ rs) ≡ true
    pick true f g rest = or-left (ParkedFrames.is_call_on conn number q) (list_any (ParkedFrames.is_call_on conn number) rs) (asked-out conn number q f)
    pick false f g rest = or-right (ParkedFrames.is_call_on conn number q) (list_any (ParkedFrames.is_call_on conn number) rs) (rest g)

-- what is answered is out
answered-there : (conn number : ℕ) (rs : List Request) → 1 ≤ answers_of conn number rs → list_any (ParkedFrames.is_call_on conn number) rs ≡ true
answered-there conn number [] le = absurd (omega (arith, le))
answered-there conn number (q ∷ rs) le = pick (is_answered_on conn q.stage && ParkedFrames.has_number number q.asked) refl le (λ more. answered-there conn number rs more)
  where
    stays : (stage : Stage) → is_answered_on conn stage && ParkedFrames.has_number number q.asked ≡ true → ParkedFrames.is_out_on conn stage && ParkedFrames.has_number number q.asked ≡ true
    stays Waits e = e
    stays (Out c sequence) e = absurd (true≢false (sym e))
    stays (Answered c) e = e

    pick : (b : Bool) → (is_answered_on conn q.stage && ParkedFrames.has_number number q.asked) ≡ b → 1 ≤ count b + answers_of conn number rs → (1 ≤ answers_of conn number rs → list_any (ParkedFrames.is_call_on conn number) rs ≡ true) → list_any (ParkedFrames.is_call_on conn number) (q ∷ rs) ≡ true
    pick true f g rest = or-left (ParkedFrames.is_call_on conn number q) (list_any (ParkedFrames.is_call_on conn number) rs) (stays q.stage f)
    pick false f g rest = or-right (ParkedFrames.is_call_on conn number q) (list_any (ParkedFrames.is_call_on conn number) rs) (rest (omega (arith, g)))

-- the frame that waited
parked-one : (number : ℕ) (value : Option Value) (fuel : ℕ) (ps : List ParkedFrame) → IsParkedIn number value fuel ps → (p : ParkedFrame) × (IsOneOf p ps × ((p.number ≡ number) × (p.frame ≡ ReturnedFrame value fuel)))
parked-one number value fuel [] i = absurd i
parked-one number value fuel (p ∷ ps) (inl a) = (p, (inl refl, a))
parked-one number value fuel (p ∷ ps) (inr b) = let x = parked-one number value fuel ps b in (x.0, (inr x.1.0, x.1.1))

result-counts : (p : ParkedFrame) (value : Option Value) (fuel : ℕ) → p.frame ≡ ReturnedFrame value fuel → count (not (Frames.is_call_frame p.frame) && ParkedFrames.is_parked_at p.conn p.number p) ≡ 1
result-counts p value fuel is = ap (λ (f : Frame). count (not (Frames.is_call_frame f) && (p.conn == p.conn && p.number == p.number))) is
    ∙ (ap (λ (b : Bool). count (b && p.number == p.number)) (eq-eqb p.conn p.conn refl) ∙ ap count (eq-eqb p.number p.number refl))

shorter : (g : Setting) (later h : List Event) → IsTaken g (later ++ h) → IsTaken g h
shorter g [] h t = t
shorter g (e ∷ later) h t = shorter g later h t.1

pub calls_end_by_callees : CallsEndByCallees
calls_end_by_callees settings events i s later e h at part number task lent kind m q t found asked lives =
    let x = calls_end_as_named s.setting h e number task lent kind m q t found asked lives in (x.0, (x.1.0, by x.1.1))
  where
    Told-by : Reply → Type 0
    Told-by reply = IsToldBy (run (new_world settings) events) i s.setting (Space.state_of s.setting h).requests number reply ⊎ IsOfFailure s.setting e reply

    taken : IsTaken s.setting h
    taken = (shorter s.setting later (e ∷ h) (subst (IsTaken s.setting) (sym part) (at-all HasTaken i (run (new_world settings) events).spaces s at (histories_are_taken settings events)))).1

    came : (conn : ℕ) (frame : Message) → IsOneOf frame (came_on conn (e ∷ h)) → IsOneOf frame (came_on conn s.history)
    came conn frame a = subst (λ (l : List Event). IsOneOf frame (came_on conn l)) part (came-later conn frame (e ∷ h) later a)

    now : (conn : ℕ) (frame : Message) (reply : Reply) → IsOutOn conn number (Space.state_of s.setting h).requests → e ≡ Received conn frame → Says s.setting number frame reply → IsReply frame → Told-by reply
    now conn frame reply out is says a = inl (record {
      conn = conn;
      frame = frame;
      out = out-there conn number (Space.state_of s.setting h).requests out;
      says = says;
      answered = answers_came_from_callees settings events i conn s frame at a (came conn frame (came-now conn frame e h is));
    })

    waited : (value : Option Value) (fuel : ℕ) (p : ParkedFrame) → IsOneOf p (Space.state_of s.setting h).parked → p.number ≡ number → p.frame ≡ ReturnedFrame value fuel → Told-by (GivesBack value fuel)
    waited value fuel p there same frame = inl (record {
      conn = p.conn;
      frame = message.Returned p.number fuel value;
      out = subst (λ n. list_any (ParkedFrames.is_call_on p.conn n) (Space.state_of s.setting h).requests ≡ true) same (answered-there p.conn p.number (Space.state_of s.setting h).requests
          (let a : answers_of p.conn p.number (Space.state_of s.setting h).requests ≡ results_of p.conn p.number (Space.state_of s.setting h).parked = (answers_are_parked s.setting h taken).answered p.conn p.number in
          let b : count (not (Frames.is_call_frame p.frame) && ParkedFrames.is_parked_at p.conn p.number p) ≤ results_of p.conn p.number (Space.state_of s.setting h).parked
          = one-total (λ (x : ParkedFrame). count (not (Frames.is_call_frame x.frame) && ParkedFrames.is_parked_at p.conn p.number x)) p (Space.state_of s.setting h).parked there in
          let c : count (not (Frames.is_call_frame p.frame) && ParkedFrames.is_parked_at p.conn p.number p) ≡ 1 = result-counts p value fuel frame in
          omega (arith, a, b, c)));
      says = (same, refl);
      answered = answers_came_from_callees settings events i p.conn s (message.Returned p.number fuel value) at tt (came p.conn (message.Returned p.number fuel value) (one-left (message.Returned p.number fuel value) (came_on p.conn h) (frame_of p.conn e)
          (subst (CameAs h p) frame (one-of-all (λ (y : ParkedFrame). CameAs h y y.frame) p (Space.state_of s.setting h).parked there (parked_results_came s.setting h)))));
    })

    ends : (reply : Reply) → MayEndWith s.setting (Space.state_of s.setting h) e number reply → Told-by reply
    ends (Gives value) a = absurd a
    ends (GivesBack value fuel) (inl a) = now a.0 (message.Returned number fuel value) (GivesBack value fuel) a.1.0 a.1.1 (refl, refl) tt
    ends (GivesBack value fuel) (inr b) = let x = parked-one number value fuel (Space.state_of s.setting h).parked b in waited value fuel x.0 x.1.0 x.1.1.0 x.1.1.1
    ends (Throws class) (inl a) = now a.conn (message.Threw number a.thrown) (Throws class) a.out a.came (refl, ap Throws a.told) tt
    ends (Throws class) (inr b) = inr (class, (refl, b))
    ends RunsOut a = now a.0 (message.Spent number) RunsOut a.1.0 a.1.1 (refl, refl) tt

    by : {u : Living} → WaitsOrEnds s.setting (Space.state_of s.setting h) e number t u → WaitsOn t u ⊎ ((reply : Reply) × (IsGiven reply t u × Told-by reply))
    by (inl a) = inl a
    by (inr b) = inr (b.0, (b.1.0, ends b.0 b.1.1))
