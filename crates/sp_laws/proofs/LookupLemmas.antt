-- A lookup ends as it is named, through every event.
use mathlib.Core.Path.{sym, ap, subst, ◌∙◌}
use Rattle.std.proofs.Common.{inl, inr}
use Rattle.std.proofs.lemmas.Bool.{true≢false}
use Rattle.std.specs.Prelude.{◌≡◌, refl, ℕ, not, Bool, true, false, List, [], ◌∷◌, ◌++◌, Option, filter, if◌then◌else◌}
use Rattle.net_message.specs.declared.message.Message.TheVariants as message
use Rattle.space_ids.specs.declared.ids.ClassId.{ClassId}
use Rattle.space_ids.specs.declared.value.Value.{Value}
use Rattle.sp_rules.specs.Behaviours.{Reply, GivesBack, Throws}
use Rattle.sp_rules.specs.Classes.{Setting}
use Rattle.sp_rules.specs.Events.{Event, Received, Output, Started, Ended, Withdrawn, Denied, Send, Dial, Close, Ready, Note, Says, Sends, output_of, in_order, ranks}
use Rattle.sp_rules.specs.Frames
use Rattle.sp_rules.specs.Laws.{AllOf}
use Rattle.sp_rules.specs.LivingTasks
use Rattle.sp_rules.specs.ParkedFrames
use Rattle.sp_rules.specs.Requests
use Rattle.sp_rules.specs.Space
use Rattle.sp_rules.specs.State.{State, Living, Origin, OfRoot, OfCall, Request, Asked, Calls, LooksUp, Tells, Answered, ParkedFrame}
use Rattle.sp_rules.proofs.AllLemmas.{all-more, all-filter, all-map, all-found, ranks-all}
use Rattle.sp_laws.proofs.FlowRules.{Owed, Removed, Inbound, removed, of_origin, of_until}
use Rattle.sp_laws.proofs.WaitHistories.{no-fresh}
use Rattle.sp_laws.specs.CallEnds.{IsFailure, MayEndWith}
use Rattle.sp_laws.specs.LookupEnds.{IsAmong, MayEndAs, IsEndOfLookup, EndsAsNamed, LookupsEndAsNamed}
use Rattle.sp_laws.proofs.AnswerLemmas.{no-notes}
use Rattle.sp_laws.proofs.CallEndLemmas.{IsKnown, failing-ends, fails-unmarshal, fails-connect, fails-marshal, asked-on, same-number, parked-known, answer-of}
use Rattle.sp_laws.proofs.EventRules.{View, Flows, Begins, EventParts, event_parts, IsFrom, IsSaid, is_ending, happen_settles}

-- ---- what is kept

-- a lookup that may end stood among the requests as the event began
abbrev Stood : State → Event → Asked → Type 0
Stood before e (Calls number task lent kind m) = Unit {0}
Stood before e (LooksUp number task name) = is_ending e ≡ true → (q : Request) × (IsAmong q before.requests × (q.asked ≡ LooksUp number task name))
Stood before e (Tells call group) = Unit {0}

abbrev StoodBefore : State → Event → Request → Type 0
StoodBefore before e q = Stood before e q.asked

abbrev OwedStood : State → Event → Owed → Type 0
OwedStood before e (Removed peer asked) = Stood before e asked
OwedStood before e (Inbound conn k) = Unit {0}

abbrev Named : Setting → State → Event → Note → Type 0
Named g before e n = EndsAsNamed g before e (output_of n)

-- what a lookup ends with
abbrev EndsLookup : Setting → State → Event → Asked → ℕ → Reply → Type 0
EndsLookup g before e (Calls number task lent kind m) n reply = Unit {0}
EndsLookup g before e (LooksUp number task name) n reply = MayEndAs g before e n (LivingTasks.outcome_of reply)
EndsLookup g before e (Tells call group) n reply = Unit {0}

record Looks (g : Setting) (before : State) (e : Event) (l : List Owed) (s : EventParts) : Type 0 where
  requests : AllOf (StoodBefore before e) s.requests
  fresh : AllOf (StoodBefore before e) s.fresh
  owed : AllOf (OwedStood before e) l
  frames : AllOf (IsKnown g before e) s.parked
  notes : AllOf (Named g before e) s.notes

all-removed : (before : State) (e : Event) (rs : List Request) (l : List Owed) → AllOf (StoodBefore before e) rs → AllOf (OwedStood before e) l → AllOf (OwedStood before e) (removed rs ++ l)
all-removed before e [] l a b = b
all-removed before e (q ∷ rs) l a b = (a.0, all-removed before e rs l a.1 b)

of-removed : (before : State) (e : Event) (rs : List Request) (l : List Owed) → AllOf (OwedStood before e) (removed rs ++ l) → AllOf (StoodBefore before e) rs × AllOf (OwedStood before e) l
of-removed before e [] l a = (tt, a)
of-removed before e (q ∷ rs) l a = let rest = of-removed before e rs l a.1 in ((a.0, rest.0), rest.1)

from-owed : (before : State) (e : Event) (o : Origin) (l : List Owed) → AllOf (OwedStood before e) (of_origin o ++ l) → AllOf (OwedStood before e) l
from-owed before e OfRoot l a = a
from-owed before e (OfCall conn k) l a = a.1

to-owed : (before : State) (e : Event) (o : Origin) (l : List Owed) → AllOf (OwedStood before e) l → AllOf (OwedStood before e) (of_origin o ++ l)
to-owed before e OfRoot l a = a
to-owed before e (OfCall conn k) l a = (tt, a)

until-owed : (before : State) (e : Event) (u : Rattle.sp_rules.specs.State.Until) (l : List Owed) → AllOf (OwedStood before e) (of_until u ++ l) → AllOf (OwedStood before e) l
until-owed before e (Rattle.sp_rules.specs.State.RootAcked id) l a = a
until-owed before e (Rattle.sp_rules.specs.State.Acked conn k) l a = a.1
until-owed before e (Rattle.sp_rules.specs.State.Passed moment) l a = a

owes : {g : Setting} {before : State} {e : Event} {l m : List Owed} {s : EventParts} → AllOf (OwedStood before e) m → Looks g before e l s → Looks g before e m s
owes a k = record { requests = k.requests; fresh = k.fresh; owed = a; frames = k.frames; notes = k.notes }

requests-are : {g : Setting} {before : State} {e : Event} {l : List Owed} (s : State) (rs : List Request) → AllOf (StoodBefore before e) rs → Looks g before e l (event_parts s) → Looks g before e l (event_parts (record s { requests = rs }))
requests-are s rs a k = record { requests = a; fresh = k.fresh; owed = k.owed; frames = k.frames; notes = k.notes }

frames-are : {g : Setting} {before : State} {e : Event} {l : List Owed} (s : State) (ps : List ParkedFrame) → AllOf (IsKnown g before e) ps → Looks g before e l (event_parts s) → Looks g before e l (event_parts (record s { parked = ps }))
frames-are s ps a k = record { requests = k.requests; fresh = k.fresh; owed = k.owed; frames = a; notes = k.notes }

notes-more : {g : Setting} {before : State} {e : Event} {l : List Owed} (s : State) (n : Note) → Named g before e n → Looks g before e l (event_parts s) → Looks g before e l (event_parts (record s { notes = s.notes ++ n ∷ [] }))
notes-more {g} {before} {e} s n a k = record { requests = k.requests; fresh = k.fresh; owed = k.owed; frames = k.frames; notes = all-more (Named g before e) s.notes n k.notes a }

still : {g : Setting} {before : State} {e : Event} {l : List Owed} {s : EventParts} (u : EventParts) → u.requests ≡ s.requests → u.fresh ≡ s.fresh → u.parked ≡ s.parked → u.notes ≡ s.notes → Looks g before e l s → Looks g before e l u
still {g} {before} {e} u a b c d k = record {
  requests = subst (AllOf (StoodBefore before e)) (sym a) k.requests;
  fresh = subst (AllOf (StoodBefore before e)) (sym b) k.fresh;
  owed = k.owed;
  frames = subst (AllOf (IsKnown g before e)) (sym c) k.frames;
  notes = subst (AllOf (Named g before e)) (sym d) k.notes;
}

-- ---- through the rules

abbrev view : Setting → State → Event → View
view g before e = record {
  setting = g;
  event = e;
  Dialled = λ c d. Unit {0};
  Answers = λ c m. Unit {0};
  Known = IsKnown g before e;
  Fails = IsFailure g e;
  Ends = λ asked reply. (is_ending e ≡ true) × ((n : ℕ) → ParkedFrames.has_number n asked ≡ true → EndsLookup g before e asked n reply);
  Starts = λ o n a. Unit {0};
  Speaks = λ c version. Unit {0};
  Fits = λ c ids. Unit {0};
  Keeps = λ l s. Looks g before e l (event_parts s);
}

all-unit : {A : Type 0} (xs : List A) → AllOf (λ (x : A). Unit {0}) xs
all-unit [] = tt
all-unit (x ∷ xs) = (tt, all-unit xs)

all-from : (g : Setting) (before : State) (e : Event) (ts : List Living) → AllOf (λ (t : Living). IsFrom (view g before e) t.origin) ts
all-from g before e [] = tt
all-from g before e (t ∷ ts) = (one t.origin, all-from g before e ts)
  where
    one : (o : Origin) → IsFrom (view g before e) o
    one OfRoot = tt
    one (OfCall c n) = tt

said : (g : Setting) (before : State) (e : Event) (output : Output) → IsSaid (view g before e) output → EndsAsNamed g before e output
said g before e (Ended task outcome) so = inl so
said g before e (Started task) so = tt
said g before e (Withdrawn ids) so = tt
said g before e (Denied why) so = tt
said g before e (Send conn m) so = tt
said g before e (Dial peer) so = tt
said g before e (Close conn) so = tt
said g before e (Ready task) so = tt

failing : (g : Setting) (before : State) (e : Event) (asked : Asked) (class : ClassId) → IsFailure g e class → (n : ℕ) → EndsLookup g before e asked n (Throws class)
failing g before e (Calls number task lent kind m) class a n = tt
failing g before e (LooksUp number task name) class a n = inr a
failing g before e (Tells call group) class a n = tt

giving : (g : Setting) (before : State) (e : Event) (asked : Asked) (value : Option Value) (fuel n : ℕ) → MayEndWith g before e n (GivesBack value fuel) → EndsLookup g before e asked n (GivesBack value fuel)
giving g before e (Calls number task lent kind m) value fuel n a = tt
giving g before e (LooksUp number task name) value fuel n a = (fuel, a)
giving g before e (Tells call group) value fuel n a = tt

throwing : (g : Setting) (before : State) (e : Event) (asked : Asked) (class : ClassId) (n : ℕ) → MayEndWith g before e n (Throws class) → EndsLookup g before e asked n (Throws class)
throwing g before e (Calls number task lent kind m) class n a = tt
throwing g before e (LooksUp number task name) class n a = a
throwing g before e (Tells call group) class n a = tt

ends_lookup : (g : Setting) (before : State) (e : Event) (number task : ℕ) (name : List ℕ) (reply : Reply) → Stood before e (LooksUp number task name)
    → (is_ending e ≡ true) × ((n : ℕ) → ParkedFrames.has_number n (LooksUp number task name) ≡ true → MayEndAs g before e n (LivingTasks.outcome_of reply)) → IsEndOfLookup g before e task (LivingTasks.outcome_of reply)
ends_lookup g before e number task name reply stood may = let x = stood may.0 in record {
  number = number;
  name = name;
  request = x.0;
  stood = x.1.0;
  asked = x.1.1;
  named = may.1 number (Rattle.std.proofs.lemmas.Bool.eq-eqb number number refl);
}

lookups_flow : (g : Setting) (before : State) (e : Event) → Flows (view g before e)
lookups_flow g before e = record {
  known = λ l s k. k.frames;
  dialled = λ l s k. all-unit s.connections;
  origins = λ l s k. all-from g before e s.tasks;
  sided = λ p a. tt;
  fails = λ asked class a. (failing-ends g e class a, λ n has. failing g before e asked class a n);
  starts = λ l s p target method fuel arguments o n going k known is stands finds. tt;
  gives = λ p value fuel asked is known eq has. (is, λ n also. giving g before e asked value fuel n (subst (λ x. MayEndWith g before e x (GivesBack value fuel)) (same-number p.number n asked has also) (known value fuel eq)));
  refuses = λ c n class is. tt;
  finds = λ c n name r is own. tt;
  speaks = λ c version. tt;
  fits = λ c ids. tt;
  quiet = λ l s u eq k. subst (Looks g before e l) (sym eq) k;
  says = λ l s output is so k. notes-more s (Says output) (said g before e output so) k;
  sends = λ l s turn c m may held k. notes-more s (Sends turn c m) tt k;
  clears = λ s k. record { requests = k.requests; fresh = k.fresh; owed = k.owed; frames = k.frames; notes = tt };
  stores = λ l s store is k. still _ refl refl refl refl k;
  adds = λ l s q k. owes k.owed.1 (requests-are s _ (all-more (StoodBefore before e) s.requests q k.requests k.owed.0) k);
  calls_out = λ l s turn c peer n id lent kind m there k.
      let q : Request = record { peer = peer; asked = Calls n id lent kind m; stage = Rattle.sp_rules.specs.State.Out c 0 } in
      notes-more (record s { requests = s.requests ++ q ∷ [] }) (Sends turn c m) tt (owes k.owed.1 (requests-are s _ (all-more (StoodBefore before e) s.requests q k.requests tt) k));
  looks_out = λ l s turn c peer n id name there k.
      let q : Request = record { peer = peer; asked = LooksUp n id name; stage = Rattle.sp_rules.specs.State.Out c 0 } in
      notes-more (record s { requests = s.requests ++ q ∷ [] }) (Sends turn c (message.Lookup n name)) tt (owes k.owed.1 (requests-are s _ (all-more (StoodBefore before e) s.requests q k.requests k.owed.0) k));
  tells = λ l s q call group eq k. requests-are s _ (all-more (StoodBefore before e) s.requests q k.requests (subst (Stood before e) (sym eq) tt)) k;
  told = λ l s peer call group k. owes k.owed.1 k;
  unfresh = λ l s k. record { requests = k.requests; fresh = tt; owed = all-removed before e s.fresh l k.fresh k.owed; frames = k.frames; notes = k.notes };
  removes = λ l s is k. owes (all-removed before e (filter is s.requests) l (all-filter (StoodBefore before e) is s.requests k.requests) k.owed) (requests-are s _ (all-filter (StoodBefore before e) (λ q. not (is q)) s.requests k.requests) k);
  sorts = λ l s is rs k.
      let x = of-removed before e rs l k.owed in
      owes (all-removed before e (filter (λ q. not (is q)) rs) (removed (filter is rs) ++ l) (all-filter (StoodBefore before e) (λ q. not (is q)) rs x.0) (all-removed before e (filter is rs) l (all-filter (StoodBefore before e) is rs x.0) x.1)) k;
  removes_one = λ l s finds is n q eq passes has k. owes (all-found (StoodBefore before e) finds s.requests q eq k.requests, k.owed) (requests-are s _ (all-filter (StoodBefore before e) (λ p. not (is p)) s.requests k.requests) k);
  removes_told = λ l s dirty c sequence k. requests-are s _ (all-filter (StoodBefore before e) (λ q. not (Frames.tells_on dirty c sequence q)) s.requests k.requests) k;
  answers = λ l s c n k. requests-are s _ (all-map (StoodBefore before e) (StoodBefore before e) (Frames.answered_on c n) s.requests (λ q a. answered c q a (ParkedFrames.is_call_on c n q)) k.requests) k;
  begins = λ l s origin method arguments fuel going at k. still _ refl refl refl refl (owes (from-owed before e origin l k.owed) k);
  ends = λ l s id v over is k. still _ refl refl refl refl (owes (to-owed before e v.origin l k.owed) k);
  replies = λ l s peer n id lent kind m reply v may is k. still _ refl refl refl refl (owes k.owed.1 k);
  replies_none = λ l s peer n id lent kind m is k. owes k.owed.1 k;
  looked_up = λ l s peer n id name reply may k. notes-more s (Says (Ended id (LivingTasks.outcome_of reply))) (inr (ends_lookup g before e n id name reply k.owed.0 may)) (owes k.owed.1 k);
  works = λ l s id v f lent row ready is k. still _ refl refl refl refl k;
  keeps = λ l s until value k. still _ refl refl refl refl (owes (until-owed before e until l k.owed) k);
  results_go = λ l s is goes k. still _ refl refl refl refl k;
  falls = λ l s c n k. owes k.owed.1 k;
  row = λ l s c f a b d k. still _ refl refl refl refl k;
  counts = λ l s c n d there is low k. still _ refl refl refl refl (owes (tt, k.owed) k);
  parks_call = λ l s p going known is k. owes k.owed.1 (frames-are s _ (all-more (IsKnown g before e) s.parked p k.frames known) k);
  parks_result = λ l s p known is k. frames-are s _ (all-more (IsKnown g before e) s.parked p k.frames known) k;
  takes = λ l s p k. frames-are s _ (all-filter (IsKnown g before e) (λ q. not (ParkedFrames.is_parked_at p.conn p.number q)) s.parked k.frames) k;
  takes_call = λ l s p q is call k. owes (tt, k.owed) (frames-are s _ (all-filter (IsKnown g before e) (λ x. not (ParkedFrames.is_parked_at p.conn p.number x)) s.parked k.frames) k);
  closes = λ l s c why k. still _ refl refl refl refl k;
}
  where
    answered : (c : ℕ) (q : Request) → StoodBefore before e q → (b : Bool) → StoodBefore before e (if◌then◌else◌ {A = Request} b (record q { stage = Answered c }) q)
    answered c q a true = a
    answered c q a false = a

lookups-begin : (g : Setting) (s : State) (e : Event) → Begins (view g s e) s
lookups-begin g s e = record {
  opens = λ c dialled is k. still _ refl refl refl refl k;
  parks = λ id n v target method arguments is ready stands k. record { requests = k.requests; fresh = (tt, tt); owed = tt; frames = k.frames; notes = k.notes };
  looks = λ peer name is k. record { requests = k.requests; fresh = ((λ ends. absurd (true≢false (sym ends ∙ ap is_ending is))), tt); owed = tt; frames = k.frames; notes = k.notes };
  roots = λ method arguments fuel is. tt;
  unmarshal = λ is. fails-unmarshal g e is;
  connect = λ is. fails-connect g e is;
  marshal = λ is. fails-marshal g e is;
  threw = λ c n class is q found has. (
    ap is_ending is,
    λ k also. throwing g s e q.asked _ k
        (inl (record { conn = c; thrown = class; out = asked-on c n k s.requests q found (same-number n k q.asked has also); came = subst (λ x. e ≡ Received c (message.Threw x class)) (same-number n k q.asked has also) is; told = refl })),
  );
  spent = λ c n is q found has. (ap is_ending is, λ k also. spends q.asked k (ap is_ending is));
  finished = λ id n v outcome c m is ready stands origin. tt;
  call_came = λ p target o method passed arguments is there stands may fit names. λ value fuel eq. absurd (true≢false (sym (ap Frames.is_call_frame is) ∙ ap Frames.is_call_frame eq));
  result_came = λ p value fuel is frame there q found fits names. λ v f eq.
      let x : (value, fuel) ≡ (v, f) = ap answer-of (sym frame ∙ eq) in
      inl (p.conn, (asked-on p.conn p.number p.number s.requests q found refl, subst (λ (y : Option Value × ℕ). e ≡ Received p.conn (message.Returned p.number y.1 y.0)) x is));
}
  where
    spends : (asked : Asked) (k : ℕ) → is_ending e ≡ true → EndsLookup g s e asked k (Frames.spent_reply g asked)
    spends (Calls number task lent kind m) k is = tt
    spends (LooksUp number task name) k is = inr (fails-unmarshal g e is)
    spends (Tells call group) k is = tt

-- all that stand as the event begins
all-stood : (s : State) (e : Event) → AllOf (StoodBefore s e) s.requests
all-stood s e = all s.requests (λ q i. i)
  where
    all : (rs : List Request) → ((q : Request) → IsAmong q rs → IsAmong q s.requests) → AllOf (StoodBefore s e) rs
    all [] there = tt
    all (q ∷ rs) there = (one q.asked refl, all rs (λ p i. there p (inr i)))
      where
        one : (asked : Asked) → q.asked ≡ asked → Stood s e asked
        one (Calls number task lent kind m) is = tt
        one (LooksUp number task name) is = λ ends. (q, (there q (inl refl), is))
        one (Tells call group) is = tt

pub lookups_end_as_named : LookupsEndAsNamed
unfolding Space.outputs_of Space.on in_order
lookups_end_as_named g h e = by (Space.answers_outputs e)
  where
    s : State
    s = Space.state_of g h

    before : Looks g s e [] (event_parts s)
    before = record {
      requests = all-stood s e;
      fresh = subst (AllOf (StoodBefore s e)) (sym (no-fresh g h)) tt;
      owed = tt;
      frames = parked-known g s e;
      notes = subst (AllOf (Named g s e)) (sym (no-notes g h)) tt;
    }

    by : (b : Bool) → AllOf (EndsAsNamed g s e) (Space.finish_event b (Space.happen g e s)).1
    by true = ranks-all (EndsAsNamed g s e) ranks (Requests.settle (Space.happen g e s)).notes (happen_settles (lookups_flow g s e) s (lookups-begin g s e) before).notes
    by false = tt
