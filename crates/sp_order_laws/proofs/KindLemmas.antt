-- Under the number of a call that a space made it sends no look-up, through every event.
use mathlib.Core.Path.{sym, ap, subst, ◌∙◌}
use Rattle.std.proofs.Common.{arith, inl, inr}
use Rattle.std.proofs.lemmas.Bool.{true≢false, eqb-true, eq-eqb, leb-true, leb-false}
use Rattle.std.specs.List.{flat_map}
use Rattle.std.specs.Prelude.{◌≡◌, ◌≤◌, ◌<◌, refl, ℕ, ◌+◌, ◌==◌, not, nat_le, Bool, true, false, List, [], ◌∷◌, ◌++◌, filter, if◌then◌else◌}
use Rattle.net_message.specs.declared.message.Message.TheVariants as message
use Rattle.net_message.specs.declared.message.Message.{Message}
use Rattle.uuid.specs.declared.Uuid.{Uuid}
use Rattle.sp_rules.specs.Classes.{Setting, Kind}
use Rattle.sp_rules.specs.Endings.{call_number_in}
use Rattle.sp_rules.specs.Events.{Event, Lookup, Output, Started, Ended, Withdrawn, Denied, Send, Dial, Close, Ready, Note, Says, Sends, output_of, in_order, ranks}
use Rattle.sp_rules.specs.Frames
use Rattle.sp_rules.specs.Laws.{AllOf}
use Rattle.sp_rules.specs.LivingTasks
use Rattle.sp_rules.specs.Origins.{IsTaken}
use Rattle.sp_rules.specs.ParkedFrames.{has_number, is_call_on}
use Rattle.sp_rules.specs.Requests
use Rattle.sp_rules.specs.Space
use Rattle.sp_rules.specs.State as state
use Rattle.sp_rules.specs.State.{State, Living, Origin, OfRoot, OfCall, Until, RootAcked, Acked, Passed, Request, Asked, Calls, LooksUp, Tells}
use Rattle.sp_rules.proofs.AllLemmas.{all-more, all-filter, all-map, all-found, all-append, ranks-all}
use Rattle.sp_rules.proofs.OwnLemmas.{fresh-of}
use Rattle.sp_laws.specs.CallSent.{is_send}
use Rattle.sp_laws.specs.Directions.{FramesGoTheirWay}
use Rattle.sp_laws.specs.Inbound.{OpensOnce}
use Rattle.sp_laws.specs.Waiting.{count, calls_numbered, WaitingTasksHaveOneCall}
use Rattle.sp_laws.proofs.CallEvents.{Goes, IsAsked, Was, was-all, call_flow, call-begin, call-start}
use Rattle.sp_laws.proofs.DirectionLemmas.{IsCall, AsksByCall, directed-of}
use Rattle.sp_laws.proofs.EventRules.{View, Flows, Begins, EventParts, event_parts, CanSend, IsFrom, on_flow, happen_settles}
use Rattle.sp_laws.proofs.FittedLemmas.{fitted-of}
use Rattle.sp_laws.proofs.FlowRules.{Owed, Removed, Inbound, removed, of_origin, of_until}
use Rattle.sp_laws.proofs.WaitHistories.{no-fresh, waits-of}
use Rattle.sp_order_laws.specs.Rising.{frame}
use Rattle.sp_order_laws.proofs.NoteLemmas.{sent, sent-none}
use Rattle.sp_order_laws.proofs.RisingLaws.{Risen, risen-of}
use Rattle.sp_order_laws.proofs.RisingMoves.{calls_in, times, times-append, waiting_number, number_of}

-- ---- what is kept

-- It is no look-up of the number, and a call asks by a Call.
abbrev IsOther : ℕ → Asked → Type 0
IsOther k (Calls number task lent kind m) = IsCall m
IsOther k (LooksUp number task name) = (number == k) ≡ false
IsOther k (Tells call group) = Unit {0}

-- no Lookup of the number
abbrev Plain : ℕ → Message → Type 0
Plain k (message.Lookup number name) = (number == k) ≡ false
Plain k _ = Unit {0}

abbrev pub LooksUpNone : ℕ → Output → Type 0
LooksUpNone k (Send conn m) = Plain k m
LooksUpNone k _ = Unit {0}

abbrev OwedOther : ℕ → Owed → Type 0
OwedOther k (Removed peer asked) = IsOther k asked
OwedOther k (Inbound conn number) = Unit {0}

abbrev Others : ℕ → List Request → Type 0
Others k rs = AllOf (λ (q : Request). IsOther k q.asked) rs

abbrev Noted : ℕ → Note → Type 0
Noted k n = LooksUpNone k (output_of n)

record Apart (k : ℕ) (l : List Owed) (rs fresh : List Request) (notes : List Note) : Type 0 where
  requests : Others k rs
  made : Others k fresh
  owed : AllOf (OwedOther k) l
  noted : AllOf (Noted k) notes

abbrev Keeps : ℕ → List Owed → State → Type 0
Keeps k l s = Apart k l s.requests s.fresh s.notes

abbrev view : Setting → Event → ℕ → View
view g e k = record {
  setting = g;
  event = e;
  Dialled = λ c d. Unit {0};
  Answers = λ c m. Unit {0};
  Known = λ p. Unit {0};
  Fails = λ c. Unit {0};
  Ends = λ a r. Unit {0};
  Starts = λ o n a. Unit {0};
  Speaks = λ c version. Unit {0};
  Fits = λ c ids. Unit {0};
  Keeps = Keeps k;
}

-- ---- the moves

all-removed : (k : ℕ) (rs : List Request) (l : List Owed) → Others k rs → AllOf (OwedOther k) l → AllOf (OwedOther k) (removed rs ++ l)
all-removed k [] l a b = b
all-removed k (q ∷ rs) l a b = (a.0, all-removed k rs l a.1 b)

of-removed : (k : ℕ) (rs : List Request) (l : List Owed) → AllOf (OwedOther k) (removed rs ++ l) → Others k rs × AllOf (OwedOther k) l
of-removed k [] l a = (tt, a)
of-removed k (q ∷ rs) l a = let rest = of-removed k rs l a.1 in ((a.0, rest.0), rest.1)

from-owed : (k : ℕ) (o : Origin) (l : List Owed) → AllOf (OwedOther k) (of_origin o ++ l) → AllOf (OwedOther k) l
from-owed k OfRoot l a = a
from-owed k (OfCall conn n) l a = a.1

to-owed : (k : ℕ) (o : Origin) (l : List Owed) → AllOf (OwedOther k) l → AllOf (OwedOther k) (of_origin o ++ l)
to-owed k OfRoot l a = a
to-owed k (OfCall conn n) l a = (tt, a)

until-owed : (k : ℕ) (u : Until) (l : List Owed) → AllOf (OwedOther k) (of_until u ++ l) → AllOf (OwedOther k) l
until-owed k (RootAcked task) l a = a
until-owed k (Acked conn n) l a = a.1
until-owed k (Passed moment) l a = a

owes : {k : ℕ} {l m : List Owed} {rs fresh : List Request} {notes : List Note} → AllOf (OwedOther k) m → Apart k l rs fresh notes → Apart k m rs fresh notes
owes a h = record { requests = h.requests; made = h.made; owed = a; noted = h.noted }

asks : {k : ℕ} {l m : List Owed} {rs ps fresh : List Request} {notes : List Note} → Others k ps → AllOf (OwedOther k) m → Apart k l rs fresh notes → Apart k m ps fresh notes
asks b a h = record { requests = b; made = h.made; owed = a; noted = h.noted }

notes-more : {k : ℕ} {l : List Owed} {rs fresh : List Request} {notes : List Note} (n : Note) → Noted k n → Apart k l rs fresh notes → Apart k l rs fresh (notes ++ n ∷ [])
notes-more {k} {notes = notes} n is h = record { requests = h.requests; made = h.made; owed = h.owed; noted = all-more (Noted k) notes n h.noted is }

said : (k : ℕ) (output : Output) → is_send output ≡ false → LooksUpNone k output
said k (Started task) is = tt
said k (Ended task outcome) is = tt
said k (Withdrawn ids) is = tt
said k (Denied why) is = tt
said k (Send conn m) is = absurd (true≢false is)
said k (Dial peer) is = tt
said k (Close conn) is = tt
said k (Ready task) is = tt

can-go : (g : Setting) (e : Event) (k conn : ℕ) (m : Message) → CanSend (view g e k) conn m → Plain k m
can-go g e k conn (message.Lookup number name) a = absurd a
can-go g e k conn (message.Hello version space digest) a = tt
can-go g e k conn (message.Call number object method fuel arguments) a = tt
can-go g e k conn (message.Ack number) a = tt
can-go g e k conn (message.Dirty sequence period objects) a = tt
can-go g e k conn (message.Clean sequence strong objects) a = tt
can-go g e k conn (message.Returned number fuel value) a = tt
can-go g e k conn (message.Threw number class) a = tt
can-go g e k conn (message.Spent number) a = tt
can-go g e k conn (message.Lease sequence period) a = tt
can-go g e k conn (message.Cleaned sequence) a = tt

call-goes : (k : ℕ) (m : Message) → IsCall m → Plain k m
call-goes k (message.Call number object method fuel arguments) a = tt
call-goes k (message.Lookup number name) a = absurd a
call-goes k (message.Hello version space digest) a = tt
call-goes k (message.Ack number) a = tt
call-goes k (message.Dirty sequence period objects) a = tt
call-goes k (message.Clean sequence strong objects) a = tt
call-goes k (message.Returned number fuel value) a = tt
call-goes k (message.Threw number class) a = tt
call-goes k (message.Spent number) a = tt
call-goes k (message.Lease sequence period) a = tt
call-goes k (message.Cleaned sequence) a = tt

all-unit : {A : Type 0} (xs : List A) → AllOf (λ (x : A). Unit {0}) xs
all-unit [] = tt
all-unit (x ∷ xs) = (tt, all-unit xs)

all-from : (g : Setting) (e : Event) (k : ℕ) (ts : List Living) → AllOf (λ (t : Living). IsFrom (view g e k) t.origin) ts
all-from g e k [] = tt
all-from g e k (t ∷ ts) = (one t.origin, all-from g e k ts)
  where
    one : (o : Origin) → IsFrom (view g e k) o
    one OfRoot = tt
    one (OfCall c n) = tt

apart_flow : (g : Setting) (e : Event) (k : ℕ) → Flows (view g e k)
apart_flow g e k = record {
  known = λ l s h. all-unit s.parked;
  dialled = λ l s h. all-unit s.connections;
  origins = λ l s h. all-from g e k s.tasks;
  sided = λ p a. tt;
  fails = λ asked class a. tt;
  starts = λ l s p target method fuel arguments o n going h known is stands finds. tt;
  gives = λ p value fuel asked is a b c. tt;
  refuses = λ c n class is. tt;
  finds = λ c n name r is own. tt;
  speaks = λ c version. tt;
  fits = λ c ids. tt;
  quiet = λ l s t eq h. subst (λ (c : EventParts). Apart k l c.requests c.fresh c.notes) (sym eq) h;
  says = λ l s output is so h. notes-more (Says output) (said k output is) h;
  sends = λ l s turn c m may held h. notes-more (Sends turn c m) (can-go g e k c m may) h;
  clears = λ s h. record { requests = h.requests; made = h.made; owed = h.owed; noted = tt };
  stores = λ l s store is h. h;
  adds = λ l s q h. asks (all-more (λ (p : Request). IsOther k p.asked) s.requests q h.requests h.owed.0) h.owed.1 h;
  calls_out = λ l s turn c peer n id lent kind m there h. notes-more (Sends turn c m) (call-goes k m h.owed.0)
      (asks (all-more (λ (p : Request). IsOther k p.asked) s.requests (record { peer = peer; asked = Calls n id lent kind m; stage = state.Out c 0 }) h.requests h.owed.0) h.owed.1 h);
  looks_out = λ l s turn c peer n id name there h. notes-more (Sends turn c (message.Lookup n name)) h.owed.0
      (asks (all-more (λ (p : Request). IsOther k p.asked) s.requests (record { peer = peer; asked = LooksUp n id name; stage = state.Out c 0 }) h.requests h.owed.0) h.owed.1 h);
  tells = λ l s q call group eq h. asks (all-more (λ (p : Request). IsOther k p.asked) s.requests q h.requests (subst (IsOther k) (sym eq) tt)) h.owed h;
  told = λ l s peer call group h. owes h.owed.1 h;
  unfresh = λ l s h. record { requests = h.requests; made = tt; owed = all-removed k s.fresh l h.made h.owed; noted = h.noted };
  removes = λ l s is h. asks (all-filter (λ (p : Request). IsOther k p.asked) (λ q. not (is q)) s.requests h.requests) (all-removed k (filter is s.requests) l (all-filter (λ (p : Request). IsOther k p.asked) is s.requests h.requests) h.owed) h;
  sorts = λ l s is rs h.
      let x = of-removed k rs l h.owed in
      owes (all-removed k (filter (λ q. not (is q)) rs) (removed (filter is rs) ++ l) (all-filter (λ (p : Request). IsOther k p.asked) (λ q. not (is q)) rs x.0)
      (all-removed k (filter is rs) l (all-filter (λ (p : Request). IsOther k p.asked) is rs x.0) x.1)) h;
  removes_one = λ l s finds is n q eq passes has h. asks (all-filter (λ (p : Request). IsOther k p.asked) (λ p. not (is p)) s.requests h.requests) (all-found (λ (p : Request). IsOther k p.asked) finds s.requests q eq h.requests, h.owed) h;
  removes_told = λ l s dirty c sequence h. asks (all-filter (λ (p : Request). IsOther k p.asked) (λ q. not (Frames.tells_on dirty c sequence q)) s.requests h.requests) h.owed h;
  answers = λ l s c n h. asks (all-map (λ (p : Request). IsOther k p.asked) (λ (p : Request). IsOther k p.asked) (Frames.answered_on c n) s.requests (λ q a. answered c n q a (is_call_on c n q)) h.requests) h.owed h;
  begins = λ l s origin method arguments fuel going at h. owes (from-owed k origin l h.owed) h;
  ends = λ l s id t over is h. owes (to-owed k t.origin l h.owed) h;
  replies = λ l s peer number task lent kind m reply t may is h. owes h.owed.1 h;
  replies_none = λ l s peer number task lent kind m is h. owes h.owed.1 h;
  looked_up = λ l s peer number task name reply may h. notes-more (Says (Ended task (LivingTasks.outcome_of reply))) tt (owes h.owed.1 h);
  works = λ l s id t f lent row ready is h. h;
  keeps = λ l s until value h. owes (until-owed k until l h.owed) h;
  results_go = λ l s is goes h. h;
  falls = λ l s c n h. owes h.owed.1 h;
  row = λ l s c f num last dialled h. h;
  counts = λ l s c n d there is low h. owes (tt, h.owed) h;
  parks_call = λ l s p going known is h. owes h.owed.1 h;
  parks_result = λ l s p known is h. h;
  takes = λ l s p h. h;
  takes_call = λ l s p q is call h. owes (tt, h.owed) h;
  closes = λ l s c why h. h;
}
  where
    answered : (c n : ℕ) (q : Request) → IsOther k q.asked → (b : Bool) → IsOther k (if◌then◌else◌ {A = Request} b (record q { stage = state.Answered c }) q).asked
    answered c n q a true = a
    answered c n q a false = a

-- an event makes no look-up of the number
abbrev MakesOther : ℕ → State → Event → Type 0
MakesOther k s e = (peer : Uuid) (name : List ℕ) → e ≡ Lookup peer name → (s.calls_made + 1 == k) ≡ false

apart-begin : (g : Setting) (s : State) (e : Event) (k : ℕ) → MakesOther k s e → Begins (view g e k) s
apart-begin g s e k other = record {
  opens = λ c dialled is h. h;
  parks = λ id n t target method arguments is ready stands h. record { requests = h.requests; made = (tt, tt); owed = h.owed; noted = h.noted };
  looks = λ peer name is h. record { requests = h.requests; made = (other peer name is, tt); owed = h.owed; noted = h.noted };
  roots = λ method arguments fuel is. tt;
  unmarshal = λ is. tt;
  connect = λ is. tt;
  marshal = λ is. tt;
  threw = λ c n class is q found has. tt;
  spent = λ c n is q found has. tt;
  finished = λ id n t outcome c m is ready stands origin. tt;
  call_came = λ p target o method passed arguments is there stands may fit names. tt;
  result_came = λ p value fuel is frame there q found fits names. tt;
}

-- ---- histories

-- after a history: no request is a look-up of the number, and none was sent
record Stays (g : Setting) (k : ℕ) (h : List Event) : Type 0 where
  kept : Keeps k [] (Space.state_of g h)
  outs : AllOf (LooksUpNone k) (Space.all_outputs g h)

on-apart : (g : Setting) (k : ℕ) (h : List Event) (e : Event) → MakesOther k (Space.state_of g h) e → Stays g k h → Stays g k (e ∷ h)
unfolding Space.state_of Space.outputs_of Space.on in_order
on-apart g k h e other x = record {
  kept = on_flow (apart_flow g e k) s (apart-begin g s e k other) x.kept;
  outs = all-append (LooksUpNone k) (Space.all_outputs g h) (Space.outputs_of g h e) x.outs (by (Space.answers_outputs e));
}
  where
    s : State
    s = Space.state_of g h

    by : (b : Bool) → AllOf (LooksUpNone k) (Space.finish_event b (Space.happen g e s)).1
    by true = ranks-all (LooksUpNone k) ranks (Requests.settle (Space.happen g e s)).notes (happen_settles (apart_flow g e k) s (apart-begin g s e k other) x.kept).noted
    by false = tt

-- a number that was not given yet
none-numbered : (k : ℕ) (rs : List Request) → calls_numbered k rs ≡ 0 → AllOf (λ (q : Request). AsksByCall q.asked) rs → Others k rs
none-numbered k [] none a = tt
none-numbered k (q ∷ rs) none a = (by q.asked a.0 (omega (arith, none)), none-numbered k rs (omega (arith, none)) a.1)
  where
    no : (b : Bool) → count b ≡ 0 → b ≡ false
    no true e = absurd (omega (arith, e))
    no false e = refl

    by : (asked : Asked) → AsksByCall asked → count (has_number k asked) ≡ 0 → IsOther k asked
    by (Calls number task lent kind m) c e = c
    by (LooksUp number task name) c e = no (number == k) e
    by (Tells call group) c e = tt

none-sent : (k : ℕ) (os : List Output) → times k (flat_map calls_in os) ≡ 0 → AllOf (LooksUpNone k) os
none-sent k [] none = tt
none-sent k (o ∷ os) none =
    let a : times k (flat_map calls_in (o ∷ os)) ≡ times k (calls_in o) + times k (flat_map calls_in os) = times-append k (calls_in o) (flat_map calls_in os) in
    (one o (omega (arith, a, none)), none-sent k os (omega (arith, a, none)))
  where
    no : (b : Bool) → count b ≡ 0 → b ≡ false
    no true e = absurd (omega (arith, e))
    no false e = refl

    plain : (m : Message) → times k (flat_map call_number_in (m ∷ [])) ≡ 0 → Plain k m
    plain (message.Lookup number name) e = no (number == k) (omega (arith, e))
    plain (message.Hello version space digest) e = tt
    plain (message.Call number object method fuel arguments) e = tt
    plain (message.Ack number) e = tt
    plain (message.Dirty sequence period objects) e = tt
    plain (message.Clean sequence strong objects) e = tt
    plain (message.Returned number fuel value) e = tt
    plain (message.Threw number class) e = tt
    plain (message.Spent number) e = tt
    plain (message.Lease sequence period) e = tt
    plain (message.Cleaned sequence) e = tt

    one : (p : Output) → times k (calls_in p) ≡ 0 → LooksUpNone k p
    one (Send conn m) e = plain m e
    one (Started task) e = tt
    one (Ended task outcome) e = tt
    one (Withdrawn ids) e = tt
    one (Denied why) e = tt
    one (Dial peer) e = tt
    one (Close conn) e = tt
    one (Ready task) e = tt

ungiven : FramesGoTheirWay → WaitingTasksHaveOneCall → (g : Setting) (k : ℕ) (h : List Event) → IsTaken g h → OpensOnce h → (Space.state_of g h).calls_made + 1 ≤ k → Stays g k h
ungiven ways waits g k h taken once high = record {
  kept = record {
    requests = none-numbered k s.requests ((waits g h).given k high) (directed-of g h).requests;
    made = subst (Others k) (sym (no-fresh g h)) tt;
    owed = tt;
    noted = subst (AllOf (Noted k)) (sym r.rested.notes) tt;
  };
  outs = none-sent k (Space.all_outputs g h) none;
}
  where
    s : State
    s = Space.state_of g h

    r : Risen (Space.all_outputs g h) (Space.state_of g h)
    r = risen-of ways g h taken once

    above : (b : Bool) → nat_le k s.calls_made ≡ b → count b ≡ 0
    above true e = let a : k ≤ s.calls_made = leb-true k s.calls_made e in absurd (omega (arith, a, high))
    above false e = refl

    none : times k (flat_map calls_in (Space.all_outputs g h)) ≡ 0
    none =
        let a : times k (sent calls_in (Space.all_outputs g h) s.notes) + (times k (flat_map waiting_number s.requests) + times k (flat_map number_of [])) ≤ count (nat_le k s.calls_made) = r.rising.once k in
        let b : times k (sent calls_in (Space.all_outputs g h) s.notes) ≡ times k (flat_map calls_in (Space.all_outputs g h)) =
        ap (λ (ns : List Note). times k (sent calls_in (Space.all_outputs g h) ns)) r.rested.notes ∙ ap (times k) (sent-none calls_in (Space.all_outputs g h)) in
        let c : count (nat_le k s.calls_made) ≡ 0 = above (nat_le k s.calls_made) refl in omega (arith, a, b, c)

-- a number that was given makes no more look-ups
given-other : (k : ℕ) (s : State) (e : Event) → k ≤ s.calls_made → MakesOther k s e
given-other k s e low peer name is = by (s.calls_made + 1 == k) refl
  where
    by : (b : Bool) → (s.calls_made + 1 == k) ≡ b → b ≡ false
    by true f = let a : s.calls_made + 1 ≡ k = eqb-true (s.calls_made + 1) k f in absurd (omega (arith, a, low))
    by false f = refl

-- ---- the number of a call

-- a call of the number is among these requests
abbrev HasCall : ℕ → List Request → Type 0
HasCall k rs = (task : ℕ) × ((lent : ℕ) × ((kind : Kind) × ((m : Message) × Was rs (Calls k task lent kind m))))

was-counts : (k : ℕ) (rs : List Request) (asked : Asked) → has_number k asked ≡ true → Was rs asked → 1 ≤ calls_numbered k rs
was-counts k [] asked is was = absurd was
was-counts k (q ∷ rs) asked is (inl same) =
    let a : count (has_number k q.asked) ≡ 1 = ap (λ (x : Asked). count (has_number k x)) same ∙ ap count is in omega (arith, a)
was-counts k (q ∷ rs) asked is (inr was) = let a : 1 ≤ calls_numbered k rs = was-counts k rs asked is was in omega (arith, a)

-- then the number was given
was-given : WaitingTasksHaveOneCall → (g : Setting) (k : ℕ) (h : List Event) → HasCall k (Space.state_of g h).requests → k ≤ (Space.state_of g h).calls_made
was-given waits g k h x = by (nat_le k s.calls_made) refl
  where
    s : State
    s = Space.state_of g h

    by : (b : Bool) → nat_le k s.calls_made ≡ b → k ≤ s.calls_made
    by true e = leb-true k s.calls_made e
    by false e =
        let a : s.calls_made < k = leb-false k s.calls_made e in
        let b : calls_numbered k s.requests ≡ 0 = (waits g h).given k (omega (arith, a)) in
        let c : 1 ≤ calls_numbered k s.requests = was-counts k s.requests (Calls k x.0 x.1.0 x.1.1.0 x.1.1.1.0) (eq-eqb k k refl) x.1.1.1.1 in absurd (omega (arith, b, c))

-- what an event asks for stood, or is new
goes-of : (g : Setting) (h : List Event) (e : Event) → Goes g (Space.state_of g h) e [] (event_parts (Space.state_of g (e ∷ h)))
unfolding Space.state_of
goes-of g h e =
    let s : State = Space.state_of g h in
    (on_flow (call_flow g s e) s (call-begin g s e (no-fresh g h) (waits-of g h) (fresh-of g h)) (call-start g s e (no-fresh g h) (waits-of g h) (fitted-of g h).parked)).1

abbrev is_lookup : Event → Bool
is_lookup (Lookup peer name) = true
is_lookup _ = false

none-asked : (g : Setting) (asked : Asked) → Was (Space.state_of g []).requests asked → ⊥
unfolding Space.state_of state.opening
none-asked g asked was = was

was-called : FramesGoTheirWay → WaitingTasksHaveOneCall → (g : Setting) (k : ℕ) (h : List Event) → IsTaken g h → OpensOnce h → HasCall k (Space.state_of g h).requests → Stays g k h
was-called ways waits g k [] taken once x = absurd (none-asked g (Calls k x.0 x.1.0 x.1.1.0 x.1.1.1.0) x.1.1.1.1)
was-called ways waits g k (e ∷ h) taken once x = by (was-all (IsAsked g s e) (Space.state_of g (e ∷ h)).requests (Calls k x.0 x.1.0 x.1.1.0 x.1.1.1.0) (goes-of g h e).requests x.1.1.1.1) (λ y. was-called ways waits g k h taken.1 once.1 y)
  where
    s : State
    s = Space.state_of g h

    by : IsAsked g s e (Calls k x.0 x.1.0 x.1.1.0 x.1.1.1.0) → (HasCall k (Space.state_of g h).requests → Stays g k h) → Stays g k (e ∷ h)
    by (inl was) rest =
        let y : HasCall k s.requests = (x.0, (x.1.0, (x.1.1.0, (x.1.1.1.0, was)))) in
        on-apart g k h e (given-other k s e (was-given waits g k h y)) (rest y)
    by (inr new) rest = on-apart g k h e (λ peer name is. absurd (true≢false (sym (ap is_lookup is) ∙ ap is_lookup new.1.is))) (ungiven ways waits g k h taken.1 once.1 new.0)

-- Under the number of a call that is among the requests after a history no look-up is sent, before or later.
pub calls-look-up-none : FramesGoTheirWay → WaitingTasksHaveOneCall → (g : Setting) (k task lent : ℕ) (kind : Kind) (m : Message) (h more : List Event) → IsTaken g h → OpensOnce h → Was (Space.state_of g h).requests (Calls k task lent kind m) → AllOf (LooksUpNone k) (Space.all_outputs g (more ++ h))
calls-look-up-none ways waits g k task lent kind m h more taken once was = (later more).0.outs
  where
    x : HasCall k (Space.state_of g h).requests
    x = (task, (lent, (kind, (m, was))))

    later : (es : List Event) → Stays g k (es ++ h) × (k ≤ (Space.state_of g (es ++ h)).calls_made)
    later [] = (was-called ways waits g k h taken once x, was-given waits g k h x)
    later (e ∷ es) =
        let r = later es in
        let a : (Space.state_of g (es ++ h)).calls_made ≤ (Space.state_of g (e ∷ (es ++ h))).calls_made = (goes-of g (es ++ h) e).given in
        let b : k ≤ (Space.state_of g (es ++ h)).calls_made = r.1 in
        (on-apart g k (es ++ h) e (given-other k (Space.state_of g (es ++ h)) e r.1) r.0, omega (arith, a, b))
