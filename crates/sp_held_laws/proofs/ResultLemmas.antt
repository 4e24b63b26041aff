-- The result of a call is held until its Ack, through every event.
use mathlib.Core.Path.{sym, ap, subst, ◌∙◌}
use Rattle.std.proofs.Common.{inl, inr}
use Rattle.std.proofs.lemmas.Bool.{true≢false}
use Rattle.std.specs.Prelude.{◌≡◌, ◌⊎◌, refl, ℕ, ◌+◌, ◌==◌, cond, Bool, true, false, List, [], ◌∷◌, ◌++◌, Option, filter, map, if◌then◌else◌}
use Rattle.net_message.specs.declared.message.Message.{Message}
use Rattle.net_message.specs.declared.message.Message.TheVariants as message
use Rattle.space_ids.specs.declared.value.Value.{Value}
use Rattle.sp_rules.specs.Behaviours.{Outcome, Returned, Threw, Spent}
use Rattle.sp_rules.specs.Classes.{Setting}
use Rattle.sp_rules.specs.Endings
use Rattle.sp_rules.specs.Events.{Event, Moment, Refused, Received, WriteFailed, Finished, Output, Started, Ended, Withdrawn, Denied, Send, Dial, Close, Ready, Note, Says, Sends, output_of, in_order, ranks}
use Rattle.sp_rules.specs.Laws.{AllOf}
use Rattle.sp_rules.specs.Lists.{each}
use Rattle.sp_rules.specs.LivingTasks
use Rattle.sp_rules.specs.Requests
use Rattle.sp_rules.specs.Space
use Rattle.sp_rules.specs.State.{State, Living, Origin, OfRoot, OfCall, Acked, Passed, KeptResult}
use Rattle.sp_rules.proofs.AllLemmas.{all-weaken, all-more, ranks-all}
use Rattle.sp_laws.specs.CallSent.{is_send}
use Rattle.sp_laws.specs.Directions.{HasOpened}
use Rattle.sp_laws.proofs.AnswerLemmas.{no-notes}
use Rattle.sp_laws.proofs.DirectionLemmas.{Directed, IsCall, Frames-in, view, directed_flow, directed-begin, directed-of, wider, Finishes}
use Rattle.sp_laws.proofs.EventRules.{View, Flows, Begins, EventParts, event_parts, IsFrom, CanSend, IsKeptIn, IsHeldFor, IsReleased, is_ending, is_unreached, is_unwritten, on_flow, happen_settles}
use Rattle.sp_held_laws.specs.HeldResults.{IsKept, IsHeld, HoldsWhatItSends, ResultsAreHeld, ResultsStayHeld}

-- ---- a result among others

abbrev of-call : ℕ → ℕ → Option Value → KeptResult
of-call conn number value = record { until = Acked conn number; value = value }

-- held until its Ack, or, where an event ended the connection, until a moment
abbrev Held : Event → ℕ → ℕ → Option Value → List KeptResult → Type 0
Held e conn number value results = IsKept (record { until = Acked conn number; value = value }) results ⊎ ((is_ending e ≡ true) × ((moment : ℕ) × IsKept (record { until = Passed moment; value = value }) results))

to-held : (e : Event) (conn number : ℕ) (value : Option Value) (results : List KeptResult) → Held e conn number value results → IsHeld conn number value results
to-held e conn number value results (inl a) = inl a
to-held e conn number value results (inr b) = inr b.1

same-kept : (k : KeptResult) (xs : List KeptResult) → IsKeptIn k xs → IsKept k xs
same-kept k [] a = absurd a
same-kept k (x ∷ xs) (inl e) = inl e
same-kept k (x ∷ xs) (inr a) = inr (same-kept k xs a)

kept-more : (k x : KeptResult) (xs : List KeptResult) → IsKept k xs → IsKept k (xs ++ x ∷ [])
kept-more k x [] a = absurd a
kept-more k x (y ∷ xs) (inl e) = inl e
kept-more k x (y ∷ xs) (inr a) = inr (kept-more k x xs a)

kept-left : (k : KeptResult) (is : KeptResult → Bool) (xs : List KeptResult) → is k ≡ true → IsKept k xs → IsKept k (filter is xs)
kept-left k is [] e a = absurd a
kept-left k is (x ∷ xs) e (inl same) = by (is x) (sym (ap is same) ∙ e)
  where
    by : (b : Bool) → b ≡ true → IsKept k (cond b (x ∷ filter is xs) (filter is xs))
    by true f = inl same
    by false f = absurd (true≢false (sym f))
kept-left k is (x ∷ xs) e (inr a) = by (is x) (kept-left k is xs e a)
  where
    by : (b : Bool) → IsKept k (filter is xs) → IsKept k (cond b (x ∷ filter is xs) (filter is xs))
    by true r = inr r
    by false r = r

kept-mapped : (f : KeptResult → KeptResult) (k : KeptResult) (xs : List KeptResult) → IsKept k xs → IsKept (f k) (map f xs)
kept-mapped f k [] a = absurd a
kept-mapped f k (x ∷ xs) (inl e) = inl (ap f e)
kept-mapped f k (x ∷ xs) (inr a) = inr (kept-mapped f k xs a)

no-moment : (e : Event) (moment : ℕ) → e ≡ Moment moment → is_ending e ≡ true → ⊥
no-moment e moment same ends = true≢false (sym ends ∙ ap is_ending same)

held-more : (e : Event) (conn number : ℕ) (value : Option Value) (x : KeptResult) (xs : List KeptResult) → Held e conn number value xs → Held e conn number value (xs ++ x ∷ [])
held-more e conn number value x xs (inl a) = inl (kept-more (of-call conn number value) x xs a)
held-more e conn number value x xs (inr b) = inr (b.0, (b.1.0, kept-more (record { until = Passed b.1.0; value = value }) x xs b.1.1))

-- results are let go: this one only by its Ack
held-left : (e : Event) (conn number : ℕ) (value : Option Value) (is : KeptResult → Bool) (xs : List KeptResult) → ((k : KeptResult) → is k ≡ false → IsReleased e k.until) → Held e conn number value xs
    → Held e conn number value (filter is xs) ⊎ (e ≡ Received conn (message.Ack number))
held-left e conn number value is xs goes (inl a) = by (is (of-call conn number value)) refl
  where
    by : (b : Bool) → is (of-call conn number value) ≡ b → Held e conn number value (filter is xs) ⊎ (e ≡ Received conn (message.Ack number))
    by true f = inl (inl (kept-left (of-call conn number value) is xs f a))
    by false f = inr (goes (of-call conn number value) f)
held-left e conn number value is xs goes (inr b) = by (is (record { until = Passed b.1.0; value = value })) refl
  where
    by : (c : Bool) → is (record { until = Passed b.1.0; value = value }) ≡ c → Held e conn number value (filter is xs) ⊎ (e ≡ Received conn (message.Ack number))
    by true f = inl (inr (b.0, (b.1.0, kept-left (record { until = Passed b.1.0; value = value }) is xs f b.1.1)))
    by false f = let x = goes (record { until = Passed b.1.0; value = value }) f in absurd (no-moment e x.0 x.1.0 b.0)

-- a connection ends
held-orphaned : (e : Event) (conn number : ℕ) (value : Option Value) (c moment : ℕ) (xs : List KeptResult) → is_ending e ≡ true → Held e conn number value xs → Held e conn number value (map (Endings.orphan c moment) xs)
held-orphaned e conn number value c moment xs ends (inl a) = by (conn == c) (kept-mapped (Endings.orphan c moment) (of-call conn number value) xs a)
  where
    by : (b : Bool) → IsKept (if b then record { until = Passed (moment + 600000); value = value } else record { until = Acked conn number; value = value }) (map (Endings.orphan c moment) xs) → Held e conn number value (map (Endings.orphan c moment) xs)
    by true k = inr (ends, (moment + 600000, k))
    by false k = inl k
held-orphaned e conn number value c moment xs ends (inr b) = inr (b.0, (b.1.0, kept-mapped (Endings.orphan c moment) (record { until = Passed b.1.0; value = value }) xs b.1.1))

-- ---- one result, through the rules

-- it is held, or its Ack came
abbrev Stays : Event → ℕ → ℕ → Option Value → List KeptResult → Type 0
Stays e conn number value results = Held e conn number value results ⊎ (e ≡ Received conn (message.Ack number))

abbrev stay_view : Setting → Event → ℕ → ℕ → Option Value → View
stay_view g e conn number value = record {
  setting = g;
  event = e;
  Dialled = λ c d. Unit {0};
  Answers = λ c m. Unit {0};
  Known = λ p. Unit {0};
  Fails = λ c. is_ending e ≡ true;
  Ends = λ a r. Unit {0};
  Starts = λ o n a. Unit {0};
  Speaks = λ c version. Unit {0};
  Fits = λ c ids. Unit {0};
  Keeps = λ l s. Stays e conn number value s.results;
}

all-unit : {A : Type 0} (xs : List A) → AllOf (λ (x : A). Unit {0}) xs
all-unit [] = tt
all-unit (x ∷ xs) = (tt, all-unit xs)

all-from : (g : Setting) (e : Event) (conn number : ℕ) (value : Option Value) (ts : List Living) → AllOf (λ (t : Living). IsFrom (stay_view g e conn number value) t.origin) ts
all-from g e conn number value [] = tt
all-from g e conn number value (t ∷ ts) = (one t.origin, all-from g e conn number value ts)
  where
    one : (o : Origin) → IsFrom (stay_view g e conn number value) o
    one OfRoot = tt
    one (OfCall c n) = tt

stay_flow : (g : Setting) (e : Event) (conn number : ℕ) (value : Option Value) → Flows (stay_view g e conn number value)
stay_flow g e conn number value = record {
  known = λ l s k. all-unit s.parked;
  dialled = λ l s k. all-unit s.connections;
  origins = λ l s k. all-from g e conn number value s.tasks;
  sided = λ p a. tt;
  fails = λ asked class a. tt;
  starts = λ l s p target method fuel arguments o n going k known is stands finds. tt;
  gives = λ p v fuel asked is a b c. tt;
  refuses = λ c n class is. tt;
  finds = λ c n name r is own. tt;
  speaks = λ c version. tt;
  fits = λ c ids. tt;
  quiet = λ l s t eq k. subst (λ (c : EventParts). Stays e conn number value c.results) (sym eq) k;
  says = λ l s output is so k. k;
  sends = λ l s turn c m may held k. k;
  clears = λ s k. k;
  stores = λ l s store is k. k;
  adds = λ l s q k. k;
  calls_out = λ l s turn c peer n task lent kind m there k. k;
  looks_out = λ l s turn c peer n task name there k. k;
  tells = λ l s q call group eq k. k;
  told = λ l s peer call group k. k;
  unfresh = λ l s k. k;
  removes = λ l s is k. k;
  sorts = λ l s is rs k. k;
  removes_one = λ l s finds is n q eq passes has k. k;
  removes_told = λ l s dirty c sequence k. k;
  answers = λ l s c n k. k;
  begins = λ l s origin method arguments fuel going at k. k;
  ends = λ l s id t over is k. k;
  replies = λ l s peer n task lent kind m reply t may is k. k;
  replies_none = λ l s peer n task lent kind m is k. k;
  looked_up = λ l s peer n task name reply may k. k;
  works = λ l s id t f lent row ready is k. k;
  keeps = λ l s until v k. more (record { until = until; value = v }) s.results k;
  results_go = λ l s is goes k. left is s.results goes k;
  falls = λ l s c n k. k;
  row = λ l s at f num last dialled k. k;
  counts = λ l s at n c there is low k. k;
  parks_call = λ l s p going known is k. k;
  parks_result = λ l s p known is k. k;
  takes = λ l s p k. k;
  takes_call = λ l s p q is call k. k;
  closes = λ l s at why k. orphaned at s.moment s.results why k;
}
  where
    more : (x : KeptResult) (xs : List KeptResult) → Stays e conn number value xs → Stays e conn number value (xs ++ x ∷ [])
    more x xs (inl a) = inl (held-more e conn number value x xs a)
    more x xs (inr b) = inr b

    left : (is : KeptResult → Bool) (xs : List KeptResult) → ((k : KeptResult) → is k ≡ false → IsReleased e k.until) → Stays e conn number value xs → Stays e conn number value (filter is xs)
    left is xs goes (inl a) = held-left e conn number value is xs goes a
    left is xs goes (inr b) = inr b

    orphaned : (c moment : ℕ) (xs : List KeptResult) → is_ending e ≡ true → Stays e conn number value xs → Stays e conn number value (map (Endings.orphan c moment) xs)
    orphaned c moment xs why (inl a) = inl (held-orphaned e conn number value c moment xs why a)
    orphaned c moment xs why (inr b) = inr b

unreached-ends : (d : Event) → is_unreached d ≡ true → is_ending d ≡ true
unreached-ends (Refused peer) is = refl
unreached-ends (Received c m) is = refl
unreached-ends _ is = absurd (true≢false (sym is))

unwritten-ends : (d : Event) → is_unwritten d ≡ true → is_ending d ≡ true
unwritten-ends (WriteFailed c lost) is = refl
unwritten-ends _ is = absurd (true≢false (sym is))

stay-begin : (g : Setting) (s : State) (e : Event) (conn number : ℕ) (value : Option Value) → Begins (stay_view g e conn number value) s
stay-begin g s e conn number value = record {
  opens = λ c dialled is k. k;
  parks = λ id n t target method arguments is ready stands k. k;
  looks = λ peer name is k. k;
  roots = λ method arguments fuel is. tt;
  unmarshal = λ is. is;
  connect = λ is. unreached-ends e is;
  marshal = λ is. unwritten-ends e is;
  threw = λ c n class is q found has. tt;
  spent = λ c n is q found has. tt;
  finished = λ id n t outcome c m is ready stands origin. tt;
  call_came = λ p target o method passed arguments is there stands may fit names. tt;
  result_came = λ p v fuel is frame there q found fits names. tt;
}

pub results_stay_held : ResultsStayHeld
results_stay_held g h e conn number value a = by (on_flow (stay_flow g e conn number value) (Space.state_of g h) (stay-begin g (Space.state_of g h) e conn number value) (inl (inl a)))
  where
    by : Stays e conn number value (Space.on g e (Space.state_of g h)).0.results → IsHeld conn number value (Space.on g e (Space.state_of g h)).0.results ⊎ (e ≡ Received conn (message.Ack number))
    by (inl b) = inl (to-held e conn number value (Space.on g e (Space.state_of g h)).0.results b)
    by (inr b) = inr b

-- ---- results that are sent

-- no Ack comes with the event
abbrev is_ack : Event → Bool
is_ack (Received conn (message.Ack number)) = true
is_ack _ = false

abbrev Sent : Event → List KeptResult → Note → Type 0
Sent e results (Sends turn conn (message.Returned number fuel value)) = (is_ack e ≡ false) × Held e conn number value results
Sent e results (Sends turn conn m) = Unit {0}
Sent e results (Says output) = is_send output ≡ false

abbrev NoAck : Event → ℕ → Message → Type 0
NoAck e conn (message.Returned number fuel value) = is_ack e ≡ false
NoAck e conn _ = Unit {0}

abbrev sent_view : Setting → Event → List Event → View
sent_view g e h = record {
  setting = g;
  event = e;
  Dialled = HasOpened (e ∷ h);
  Answers = NoAck e;
  Known = Frames-in (e ∷ h);
  Fails = λ c. is_ending e ≡ true;
  Ends = λ a r. Unit {0};
  Starts = λ o n a. Unit {0};
  Speaks = λ c version. Unit {0};
  Fits = λ c ids. Unit {0};
  Keeps = λ l s. Directed (e ∷ h) l (event_parts s) × AllOf (Sent e s.results) s.notes;
}

-- what is known of one note follows it as results change
sent-as : (e : Event) (xs ys : List KeptResult) → ((conn number : ℕ) (value : Option Value) → is_ack e ≡ false → Held e conn number value xs → Held e conn number value ys) → (n : Note) → Sent e xs n → Sent e ys n
sent-as e xs ys f (Sends turn conn (message.Returned number fuel value)) a = (a.0, f conn number value a.0 a.1)
sent-as e xs ys f (Sends turn conn (message.Hello version space digest)) a = tt
sent-as e xs ys f (Sends turn conn (message.Call number object method fuel arguments)) a = tt
sent-as e xs ys f (Sends turn conn (message.Threw number class)) a = tt
sent-as e xs ys f (Sends turn conn (message.Spent number)) a = tt
sent-as e xs ys f (Sends turn conn (message.Ack number)) a = tt
sent-as e xs ys f (Sends turn conn (message.Dirty sequence period objects)) a = tt
sent-as e xs ys f (Sends turn conn (message.Lease sequence period)) a = tt
sent-as e xs ys f (Sends turn conn (message.Clean sequence strong objects)) a = tt
sent-as e xs ys f (Sends turn conn (message.Cleaned sequence)) a = tt
sent-as e xs ys f (Sends turn conn (message.Lookup number name)) a = tt
sent-as e xs ys f (Says output) a = a

all-as : (e : Event) (xs ys : List KeptResult) → ((conn number : ℕ) (value : Option Value) → is_ack e ≡ false → Held e conn number value xs → Held e conn number value ys) → (notes : List Note) → AllOf (Sent e xs) notes → AllOf (Sent e ys) notes
all-as e xs ys f notes a = all-weaken (Sent e xs) (Sent e ys) notes (sent-as e xs ys f) a

sends-it : (g : Setting) (e : Event) (h : List Event) (results : List KeptResult) (turn : Rattle.sp_rules.specs.Events.Turn) (conn : ℕ) (m : Message) → CanSend (sent_view g e h) conn m → IsHeldFor results conn m → Sent e results (Sends turn conn m)
sends-it g e h results turn conn (message.Returned number fuel value) may held = (may.1, inl (same-kept (record { until = Acked conn number; value = value }) results held))
sends-it g e h results turn conn (message.Hello version space digest) may held = tt
sends-it g e h results turn conn (message.Call number object method fuel arguments) may held = tt
sends-it g e h results turn conn (message.Threw number class) may held = tt
sends-it g e h results turn conn (message.Spent number) may held = tt
sends-it g e h results turn conn (message.Ack number) may held = tt
sends-it g e h results turn conn (message.Dirty sequence period objects) may held = tt
sends-it g e h results turn conn (message.Lease sequence period) may held = tt
sends-it g e h results turn conn (message.Clean sequence strong objects) may held = tt
sends-it g e h results turn conn (message.Cleaned sequence) may held = tt
sends-it g e h results turn conn (message.Lookup number name) may held = tt

-- a Call is no result
calls-it : (e : Event) (results : List KeptResult) (turn : Rattle.sp_rules.specs.Events.Turn) (conn : ℕ) (m : Message) → IsCall m → Sent e results (Sends turn conn m)
calls-it e results turn conn (message.Call number object method fuel arguments) a = tt
calls-it e results turn conn (message.Returned number fuel value) a = absurd a
calls-it e results turn conn (message.Hello version space digest) a = absurd a
calls-it e results turn conn (message.Threw number class) a = absurd a
calls-it e results turn conn (message.Spent number) a = absurd a
calls-it e results turn conn (message.Ack number) a = absurd a
calls-it e results turn conn (message.Dirty sequence period objects) a = absurd a
calls-it e results turn conn (message.Lease sequence period) a = absurd a
calls-it e results turn conn (message.Clean sequence strong objects) a = absurd a
calls-it e results turn conn (message.Cleaned sequence) a = absurd a
calls-it e results turn conn (message.Lookup number name) a = absurd a

directed : (g : Setting) (e : Event) (h : List Event) → Flows (view g e h (NoAck e))
directed g e h = directed_flow g e h (NoAck e) (λ conn number class is. tt) (λ conn number name r is own. ap is_ack is)

sent_flow : (g : Setting) (e : Event) (h : List Event) → Flows (sent_view g e h)
sent_flow g e h = record {
  known = λ l s k. D.known l s k.0;
  dialled = λ l s k. D.dialled l s k.0;
  origins = λ l s k. D.origins l s k.0;
  sided = D.sided;
  fails = λ asked class a. tt;
  starts = λ l s p target method fuel arguments o n going k known is stands finds. tt;
  gives = D.gives;
  refuses = D.refuses;
  finds = D.finds;
  speaks = λ c version. tt;
  fits = λ c ids. tt;
  quiet = λ l s t eq k. (D.quiet l s t eq k.0, subst (λ (c : EventParts). AllOf (Sent e c.results) c.notes) (sym eq) k.1);
  says = λ l s output is so k. (D.says l s output is so k.0, all-more (Sent e s.results) s.notes (Says output) k.1 is);
  sends = λ l s turn c m may held k. (D.sends l s turn c m may held k.0, all-more (Sent e s.results) s.notes (Sends turn c m) k.1 (sends-it g e h s.results turn c m may held));
  clears = λ s k. (D.clears s k.0, tt);
  stores = λ l s store is k. (D.stores l s store is k.0, k.1);
  adds = λ l s q k. (D.adds l s q k.0, k.1);
  calls_out = λ l s turn c peer n id lent kind m there k. (D.calls_out l s turn c peer n id lent kind m there k.0, all-more (Sent e s.results) s.notes (Sends turn c m) k.1 (calls-it e s.results turn c m k.0.owed.0));
  looks_out = λ l s turn c peer n id name there k. (D.looks_out l s turn c peer n id name there k.0, all-more (Sent e s.results) s.notes (Sends turn c (message.Lookup n name)) k.1 tt);
  tells = λ l s q call group eq k. (D.tells l s q call group eq k.0, k.1);
  told = λ l s peer call group k. (D.told l s peer call group k.0, k.1);
  unfresh = λ l s k. (D.unfresh l s k.0, k.1);
  removes = λ l s is k. (D.removes l s is k.0, k.1);
  sorts = λ l s is rs k. (D.sorts l s is rs k.0, k.1);
  removes_one = λ l s finds is n q eq passes has k. (D.removes_one l s finds is n q eq passes has k.0, k.1);
  removes_told = λ l s dirty c sequence k. (D.removes_told l s dirty c sequence k.0, k.1);
  answers = λ l s c n k. (D.answers l s c n k.0, k.1);
  begins = λ l s origin method arguments fuel going at k. (D.begins l s origin method arguments fuel going at k.0, k.1);
  ends = λ l s id t over is k. (D.ends l s id t over is k.0, k.1);
  replies = λ l s peer n id lent kind m reply t may is k. (D.replies l s peer n id lent kind m reply t may is k.0, k.1);
  replies_none = λ l s peer n id lent kind m is k. (D.replies_none l s peer n id lent kind m is k.0, k.1);
  looked_up = λ l s peer n id name reply may k. (D.looked_up l s peer n id name reply may k.0, all-more (Sent e s.results) s.notes (Says (Ended id (LivingTasks.outcome_of reply))) k.1 refl);
  works = λ l s id t f lent row ready is k. (D.works l s id t f lent row ready is k.0, k.1);
  keeps = λ l s until value k. (D.keeps l s until value k.0, all-as e s.results (s.results ++ record { until = until; value = value } ∷ []) (λ c n v quiet a. held-more e c n v (record { until = until; value = value }) s.results a) s.notes k.1);
  results_go = λ l s is goes k. (D.results_go l s is goes k.0, all-as e s.results (filter is s.results) (λ c n v quiet a. left is s.results goes c n v quiet a) s.notes k.1);
  falls = λ l s c n k. (D.falls l s c n k.0, k.1);
  row = λ l s c f num last dialled k. (D.row l s c f num last dialled k.0, k.1);
  counts = λ l s c n d there is low k. (D.counts l s c n d there is low k.0, k.1);
  parks_call = λ l s p going known is k. (D.parks_call l s p going known is k.0, k.1);
  parks_result = λ l s p known is k. (D.parks_result l s p known is k.0, k.1);
  takes = λ l s p k. (D.takes l s p k.0, k.1);
  takes_call = λ l s p q is call k. (D.takes_call l s p q is call k.0, k.1);
  closes = λ l s c why k. (D.closes l s c tt k.0, all-as e s.results (map (Endings.orphan c s.moment) s.results) (λ d n v quiet a. held-orphaned e d n v c s.moment s.results why a) s.notes k.1);
}
  where
    D : Flows (view g e h (NoAck e))
    D = directed g e h

    left : (is : KeptResult → Bool) (xs : List KeptResult) → ((k : KeptResult) → is k ≡ false → IsReleased e k.until) → (conn number : ℕ) (value : Option Value) → is_ack e ≡ false → Held e conn number value xs → Held e conn number value (filter is xs)
    left is xs goes conn number value quiet a = by (held-left e conn number value is xs goes a)
      where
        by : Held e conn number value (filter is xs) ⊎ (e ≡ Received conn (message.Ack number)) → Held e conn number value (filter is xs)
        by (inl b) = b
        by (inr b) = absurd (true≢false (sym (ap is_ack b) ∙ quiet))

finishes : (g : Setting) (s : State) (e : Event) → Finishes g s e (NoAck e)
finishes g s e id k t outcome conn number is ready stands origin = by outcome
  where
    by : (o : Outcome) → NoAck e conn (LivingTasks.reply_frame g number (Rattle.sp_rules.specs.Tasks.steps k t.task).fuel o)
    by (Returned value) = ap is_ack is
    by (Threw class) = tt
    by Spent = tt

sent-begin : (g : Setting) (e : Event) (h : List Event) (s : State) → Begins (sent_view g e h) s
sent-begin g e h s = record {
  opens = λ c dialled is k. (B.opens c dialled is k.0, k.1);
  parks = λ id n t target method arguments is ready stands k. (B.parks id n t target method arguments is ready stands k.0, k.1);
  looks = λ peer name is k. (B.looks peer name is k.0, k.1);
  roots = λ method arguments fuel is. tt;
  unmarshal = λ is. is;
  connect = λ is. unreached-ends e is;
  marshal = λ is. unwritten-ends e is;
  threw = B.threw;
  spent = B.spent;
  finished = B.finished;
  call_came = B.call_came;
  result_came = B.result_came;
}
  where
    B : Begins (view g e h (NoAck e)) s
    B = directed-begin g s e h (NoAck e) (finishes g s e)

-- what is recorded as sent changes no result
same-results : (os : List Output) (s : State) → (each Space.record_sent os s).results ≡ s.results
unfolding each
same-results [] s = refl
same-results (o ∷ os) s = same-results os (Space.record_sent s o) ∙ one o
  where
    one : (o : Output) → (Space.record_sent s o).results ≡ s.results
    one (Started task) = refl
    one (Ended task outcome) = refl
    one (Withdrawn ids) = refl
    one (Denied why) = refl
    one (Send conn m) = refl
    one (Dial peer) = refl
    one (Close conn) = refl
    one (Ready task) = refl

-- each output was noted, and the results are those of the end of the event
pub results_are_held : ResultsAreHeld
unfolding Space.outputs_of Space.on in_order
results_are_held g h e = by (Space.answers_outputs e)
  where
    s : State
    s = Space.state_of g h

    noted : (results : List KeptResult) (n : Note) → Sent e results n → HoldsWhatItSends results (output_of n)
    noted results (Sends turn conn (message.Returned number fuel value)) a = to-held e conn number value results a.1
    noted results (Sends turn conn (message.Hello version space digest)) a = tt
    noted results (Sends turn conn (message.Call number object method fuel arguments)) a = tt
    noted results (Sends turn conn (message.Threw number class)) a = tt
    noted results (Sends turn conn (message.Spent number)) a = tt
    noted results (Sends turn conn (message.Ack number)) a = tt
    noted results (Sends turn conn (message.Dirty sequence period objects)) a = tt
    noted results (Sends turn conn (message.Lease sequence period)) a = tt
    noted results (Sends turn conn (message.Clean sequence strong objects)) a = tt
    noted results (Sends turn conn (message.Cleaned sequence)) a = tt
    noted results (Sends turn conn (message.Lookup number name)) a = tt
    noted results (Says (Send conn m)) a = absurd (true≢false a)
    noted results (Says (Started task)) a = tt
    noted results (Says (Ended task outcome)) a = tt
    noted results (Says (Withdrawn ids)) a = tt
    noted results (Says (Denied why)) a = tt
    noted results (Says (Dial peer)) a = tt
    noted results (Says (Close conn)) a = tt
    noted results (Says (Ready task)) a = tt

    ended : State
    ended = Requests.settle (Space.happen g e s)

    kept : AllOf (Sent e ended.results) ended.notes
    kept = (happen_settles (sent_flow g e h) s (sent-begin g e h s) (wider e h s (directed-of g h), subst (AllOf (Sent e s.results)) (sym (no-notes g h)) tt)).1

    by : (b : Bool) → AllOf (HoldsWhatItSends (Space.finish_event b (Space.happen g e s)).0.results) (Space.finish_event b (Space.happen g e s)).1
    by true = subst (λ (rs : List KeptResult). AllOf (HoldsWhatItSends rs) (in_order ended.notes)) (sym (same-results (in_order ended.notes) (record ended { notes = [] })))
        (ranks-all (HoldsWhatItSends ended.results) ranks ended.notes (all-weaken (Sent e ended.results) (λ (n : Note). HoldsWhatItSends ended.results (output_of n)) ended.notes (noted ended.results) kept))
    by false = tt
