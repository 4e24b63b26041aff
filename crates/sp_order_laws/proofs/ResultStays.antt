-- A result is held until its Ack comes, through every event, while its connection is open.
use mathlib.Core.Path.{sym, ap, subst, ◌∙◌}
use Rattle.std.proofs.Common.{inl, inr}
use Rattle.std.proofs.lemmas.Bool.{true≢false, eqb-true, eq-eqb}
use Rattle.std.specs.Prelude.{◌≡◌, ◌⊎◌, refl, ℕ, ◌+◌, ◌==◌, ◌||◌, cond, not, Bool, true, false, List, [], ◌∷◌, ◌++◌, Option, None, filter, map, if◌then◌else◌}
use Rattle.uuid.specs.declared.Uuid.{Uuid}
use Rattle.net_message.specs.declared.message.Message.{Message}
use Rattle.net_message.specs.declared.message.Message.TheVariants as message
use Rattle.space_ids.specs.declared.value.Value.{Value}
use Rattle.sp_rules.specs.Classes.{Setting}
use Rattle.sp_rules.specs.Endings
use Rattle.sp_rules.specs.Events.{Event, Refused, Received, WriteFailed, Opened, Output, Started, Ended, Withdrawn, Denied, Send, Dial, Close, Ready, Note, Says, Sends, Turn, output_of, in_order, ranks}
use Rattle.sp_rules.specs.Laws.{AllOf}
use Rattle.sp_rules.specs.Lists.{each}
use Rattle.sp_rules.specs.LivingTasks
use Rattle.sp_rules.specs.Requests
use Rattle.sp_rules.specs.Space
use Rattle.sp_rules.specs.State.{State, Acked, Passed, KeptResult, Connection, is_open, opening}
use Rattle.sp_rules.proofs.AllLemmas.{all-weaken, all-more, ranks-all}
use Rattle.sp_laws.specs.Inbound.{opens, opened, OpensOnce}
use Rattle.sp_laws.specs.Sent.{is_send}
use Rattle.sp_laws.proofs.FrameFlows.{View, EventParts, event_parts, IsKeptIn, IsHeldFor, IsReleased, is_ending, is_unreached, is_unwritten}
use Rattle.sp_laws.specs.Directions.{HasOpened}
use Rattle.sp_laws.proofs.AnswerLemmas.{no-notes}
use Rattle.sp_laws.proofs.DirectionLemmas.{Directed, IsCall, Frames-in, view, directed_flow, directed-begin, directed-of, wider}
use Rattle.sp_laws.proofs.EventRules.{Flows, Begins, on_flow, happen_settles}
use Rattle.sp_laws.proofs.ShutLemmas.{connections_end, has_row, row-stays, row-gone, row-ends, row-comes}
use Rattle.sp_laws.proofs.SilentLemmas.{ended_connections_are_silent}
use Rattle.sp_laws.specs.Open.{is_sent_on, IsSilent}
use Rattle.sp_order_laws.specs.Delivered.{came_on, frame_of, frame_in, sent_on}
use Rattle.sp_order_laws.specs.Ends.{IsOneOf}
use Rattle.sp_order_laws.proofs.NoteLemmas.{append-after}
use Rattle.sp_order_laws.specs.Results.{IsNoAck, ResultsWaitForAcks}
use Rattle.sp_order_laws.proofs.StayLaws.{all-first, all-last}

-- ---- one result

-- A connection, a number and a value.
pub record Result : Type 0 where
  pub conn : ℕ
  pub number : ℕ
  pub value : Option Value

abbrev of-call : Result → KeptResult
of-call R = record { until = Acked R.conn R.number; value = R.value }

abbrev Kept : Result → List KeptResult → Type 0
Kept R results = IsOneOf (record { until = Acked R.conn R.number; value = R.value }) results

-- a note that says it
abbrev Noted : Result → List KeptResult → Note → Type 0
Noted R results (Sends turn n (message.Returned number fuel value)) = (n == R.conn) ≡ true → number ≡ R.number → value ≡ R.value → Kept R results
Noted R results (Sends turn n m) = Unit {0}
Noted R results (Says output) = is_send output ≡ false

-- It is held if it was sent before, and if it is noted.
pub record IsHeld (Old : Type 0) (R : Result) (results : List KeptResult) (notes : List Note) : Type 0 where
  pub old : Old → Kept R results
  pub new : AllOf (Noted R results) notes

-- The connection is not open, and the event does not open it; or it is held.
abbrev pub KeepsIn : Type 0 → Result → Event → List Connection → List KeptResult → List Note → Type 0
KeepsIn Old R e rows results notes = ((has_row R.conn rows ≡ false) × (opens R.conn e ≡ false)) ⊎ IsHeld Old R results notes

abbrev pub Keeps : Type 0 → Result → Event → State → Type 0
Keeps Old R e s = KeepsIn Old R e s.connections s.results s.notes

-- ---- lists

same-kept : (R : Result) (xs : List KeptResult) → IsKeptIn (of-call R) xs → Kept R xs
same-kept R [] a = absurd a
same-kept R (x ∷ xs) (inl e) = inl e
same-kept R (x ∷ xs) (inr a) = inr (same-kept R xs a)

kept-more : (R : Result) (x : KeptResult) (xs : List KeptResult) → Kept R xs → Kept R (xs ++ x ∷ [])
kept-more R x [] a = absurd a
kept-more R x (y ∷ xs) (inl e) = inl e
kept-more R x (y ∷ xs) (inr a) = inr (kept-more R x xs a)

kept-left : (R : Result) (is : KeptResult → Bool) (xs : List KeptResult) → is (of-call R) ≡ true → Kept R xs → Kept R (filter is xs)
kept-left R is [] e a = absurd a
kept-left R is (x ∷ xs) e (inl same) = by (is x) (sym (ap is same) ∙ e)
  where
    by : (b : Bool) → b ≡ true → Kept R (cond b (x ∷ filter is xs) (filter is xs))
    by true f = inl same
    by false f = absurd (true≢false (sym f))
kept-left R is (x ∷ xs) e (inr a) = by (is x) (kept-left R is xs e a)
  where
    by : (b : Bool) → Kept R (filter is xs) → Kept R (cond b (x ∷ filter is xs) (filter is xs))
    by true r = inr r
    by false r = r

kept-orphaned : (R : Result) (c moment : ℕ) → (R.conn == c) ≡ false → (xs : List KeptResult) → Kept R xs → Kept R (map (Endings.orphan c moment) xs)
kept-orphaned R c moment apart [] a = absurd a
kept-orphaned R c moment apart (x ∷ xs) (inl e) = inl (sym (ap (λ (b : Bool). if b then record { until = Passed (moment + 600000); value = R.value } else of-call R) apart) ∙ ap (Endings.orphan c moment) e)
kept-orphaned R c moment apart (x ∷ xs) (inr a) = inr (kept-orphaned R c moment apart xs a)

noted-as : (R : Result) (xs ys : List KeptResult) → (Kept R xs → Kept R ys) → (n : Note) → Noted R xs n → Noted R ys n
noted-as R xs ys f (Sends turn conn (message.Returned number fuel value)) a = λ at number-is value-is. f (a at number-is value-is)
noted-as R xs ys f (Sends turn conn (message.Hello version space digest)) a = tt
noted-as R xs ys f (Sends turn conn (message.Call number object method fuel arguments)) a = tt
noted-as R xs ys f (Sends turn conn (message.Threw number class)) a = tt
noted-as R xs ys f (Sends turn conn (message.Spent number)) a = tt
noted-as R xs ys f (Sends turn conn (message.Ack number)) a = tt
noted-as R xs ys f (Sends turn conn (message.Dirty sequence period objects)) a = tt
noted-as R xs ys f (Sends turn conn (message.Lease sequence period)) a = tt
noted-as R xs ys f (Sends turn conn (message.Clean sequence strong objects)) a = tt
noted-as R xs ys f (Sends turn conn (message.Cleaned sequence)) a = tt
noted-as R xs ys f (Sends turn conn (message.Lookup number name)) a = tt
noted-as R xs ys f (Says output) a = a

sends-it : (R : Result) (results : List KeptResult) (turn : Turn) (conn : ℕ) (m : Message) → IsHeldFor results conn m → Noted R results (Sends turn conn m)
sends-it R results turn conn (message.Returned number fuel value) held = λ at number-is value-is. same-kept R results (subst (λ (x : ℕ). IsKeptIn (record { until = Acked x R.number; value = R.value }) results) (eqb-true conn R.conn at)
    (subst (λ (x : ℕ). IsKeptIn (record { until = Acked conn x; value = R.value }) results) number-is (subst (λ (x : Option Value). IsKeptIn (record { until = Acked conn number; value = x }) results) value-is held)))
sends-it R results turn conn (message.Hello version space digest) held = tt
sends-it R results turn conn (message.Call number object method fuel arguments) held = tt
sends-it R results turn conn (message.Threw number class) held = tt
sends-it R results turn conn (message.Spent number) held = tt
sends-it R results turn conn (message.Ack number) held = tt
sends-it R results turn conn (message.Dirty sequence period objects) held = tt
sends-it R results turn conn (message.Lease sequence period) held = tt
sends-it R results turn conn (message.Clean sequence strong objects) held = tt
sends-it R results turn conn (message.Cleaned sequence) held = tt
sends-it R results turn conn (message.Lookup number name) held = tt

-- ---- through the rules

-- nothing is asked of answers
abbrev Any : ℕ → Message → Type 0
Any conn m = Unit {0}

abbrev stay_view : Setting → Event → List Event → Type 0 → Result → View
stay_view g e h Old R = record {
  setting = g;
  event = e;
  Dialled = HasOpened (e ∷ h);
  Answers = Any;
  Known = Frames-in (e ∷ h);
  Fails = λ c. is_ending e ≡ true;
  Ends = λ a r. Unit {0};
  Starts = λ o n a. Unit {0};
  Speaks = λ c version. Unit {0};
  Fits = λ c ids. Unit {0};
  Keeps = λ l s. Directed (e ∷ h) l (event_parts s) × Keeps Old R e s;
}

directed : (g : Setting) (e : Event) (h : List Event) → Flows (view g e h Any)
directed g e h = directed_flow g e h Any (λ conn number class is. tt) (λ conn number name r is own. tt)

-- a Call is no result
calls-it : (R : Result) (results : List KeptResult) (turn : Turn) (conn : ℕ) (m : Message) → IsCall m → Noted R results (Sends turn conn m)
calls-it R results turn conn (message.Call number object method fuel arguments) a = tt
calls-it R results turn conn (message.Returned number fuel value) a = absurd a
calls-it R results turn conn (message.Hello version space digest) a = absurd a
calls-it R results turn conn (message.Threw number class) a = absurd a
calls-it R results turn conn (message.Spent number) a = absurd a
calls-it R results turn conn (message.Ack number) a = absurd a
calls-it R results turn conn (message.Dirty sequence period objects) a = absurd a
calls-it R results turn conn (message.Lease sequence period) a = absurd a
calls-it R results turn conn (message.Clean sequence strong objects) a = absurd a
calls-it R results turn conn (message.Cleaned sequence) a = absurd a
calls-it R results turn conn (message.Lookup number name) a = absurd a

-- a note more, and other results
one-more : (Old : Type 0) (R : Result) (e : Event) (s : State) (n : Note) → Noted R s.results n → Keeps Old R e s → Keeps Old R e (record s { notes = s.notes ++ n ∷ [] })
one-more Old R e s n a (inl shut) = inl (shut.0, shut.1)
one-more Old R e s n a (inr k) = inr (record { old = k.old; new = all-more (Noted R s.results) s.notes n k.new a })

others : (Old : Type 0) (R : Result) (e : Event) (s : State) (results : List KeptResult) → (Kept R s.results → Kept R results) → Keeps Old R e s → Keeps Old R e (record s { results = results })
others Old R e s results f (inl shut) = inl (shut.0, shut.1)
others Old R e s results f (inr k) = inr (record { old = λ o. f (k.old o); new = all-weaken (Noted R s.results) (Noted R results) s.notes (noted-as R s.results results f) k.new })

-- other rows
rows-as : (Old : Type 0) (R : Result) (e : Event) (s : State) (rows : List Connection) → (has_row R.conn s.connections ≡ false → has_row R.conn rows ≡ false) → Keeps Old R e s → Keeps Old R e (record s { connections = rows })
rows-as Old R e s rows f (inl shut) = inl (f shut.0, shut.1)
rows-as Old R e s rows f (inr k) = inr (record { old = k.old; new = k.new })

stay-closes : (Old : Type 0) (R : Result) (e : Event) (s : State) (c : ℕ) → is_ending e ≡ true → Keeps Old R e s → Keeps Old R e (Endings.without_connection c s)
stay-closes Old R e s c why (inl shut) = inl (row-gone _ (λ (d : Connection). not (d.number == c)) s.connections shut.0, shut.1)
stay-closes Old R e s c why (inr k) = by (R.conn == c) refl
  where
    no-opening : (d : Event) → is_ending d ≡ true → opens R.conn d ≡ false
    no-opening (Opened n dialled) is = absurd (true≢false (sym is))
    no-opening _ is = refl

    by : (b : Bool) → (R.conn == c) ≡ b → Keeps Old R e (Endings.without_connection c s)
    by true f = inl (subst (λ n. has_row R.conn (filter (λ (d : Connection). not (d.number == n)) s.connections) ≡ false) (eqb-true R.conn c f) (row-ends R.conn s.connections), no-opening e why)
    by false f = inr (record {
      old = λ o. kept-orphaned R c s.moment f s.results (k.old o);
      new = all-weaken (Noted R s.results) (Noted R (map (Endings.orphan c s.moment) s.results)) s.notes (noted-as R s.results (map (Endings.orphan c s.moment) s.results) (λ a. kept-orphaned R c s.moment f s.results a)) k.new;
    })

stay_flow : (g : Setting) (e : Event) (h : List Event) (Old : Type 0) (R : Result) → (e ≡ Received R.conn (message.Ack R.number) → ⊥) → Flows (stay_view g e h Old R)
stay_flow g e h Old R no-ack = record {
  known = λ l s k. D.known l s k.0;
  dialled = λ l s k. D.dialled l s k.0;
  origins = λ l s k. D.origins l s k.0;
  sided = D.sided;
  fails = λ asked class a. tt;
  starts = λ l s p target method fuel arguments o n going k known is stands finds. tt;
  gives = D.gives;
  refuses = D.refuses;
  finds = D.finds;
  speaks = λ c version. tt;
  fits = λ c ids. tt;
  quiet = λ l s t eq k. (D.quiet l s t eq k.0, same s t eq k.1);
  says = λ l s output is so k. (D.says l s output is so k.0, one-more Old R e s (Says output) is k.1);
  sends = λ l s turn c m may held k. (D.sends l s turn c m may held k.0, one-more Old R e s (Sends turn c m) (sends-it R s.results turn c m held) k.1);
  clears = λ s k. (D.clears s k.0, cleared s k.1);
  stores = λ l s store is k. (D.stores l s store is k.0, k.1);
  adds = λ l s q k. (D.adds l s q k.0, k.1);
  calls_out = λ l s turn c peer n id lent kind m there k. (D.calls_out l s turn c peer n id lent kind m there k.0, one-more Old R e s (Sends turn c m) (calls-it R s.results turn c m k.0.owed.0) k.1);
  looks_out = λ l s turn c peer n id name there k. (D.looks_out l s turn c peer n id name there k.0, one-more Old R e s (Sends turn c (message.Lookup n name)) tt k.1);
  tells = λ l s q call group eq k. (D.tells l s q call group eq k.0, k.1);
  told = λ l s peer call group k. (D.told l s peer call group k.0, k.1);
  unfresh = λ l s k. (D.unfresh l s k.0, k.1);
  removes = λ l s is k. (D.removes l s is k.0, k.1);
  sorts = λ l s is rs k. (D.sorts l s is rs k.0, k.1);
  removes_one = λ l s finds is n q eq passes has k. (D.removes_one l s finds is n q eq passes has k.0, k.1);
  removes_told = λ l s dirty c sequence k. (D.removes_told l s dirty c sequence k.0, k.1);
  answers = λ l s c n k. (D.answers l s c n k.0, k.1);
  begins = λ l s origin method arguments fuel going at k. (D.begins l s origin method arguments fuel going at k.0, k.1);
  ends = λ l s id t over is k. (D.ends l s id t over is k.0, k.1);
  replies = λ l s peer n id lent kind m reply t may is k. (D.replies l s peer n id lent kind m reply t may is k.0, k.1);
  replies_none = λ l s peer n id lent kind m is k. (D.replies_none l s peer n id lent kind m is k.0, k.1);
  looked_up = λ l s peer n id name reply may k. (D.looked_up l s peer n id name reply may k.0, one-more Old R e s (Says (Ended id (LivingTasks.outcome_of reply))) refl k.1);
  works = λ l s id t f lent row ready is k. (D.works l s id t f lent row ready is k.0, k.1);
  keeps = λ l s until value k. (D.keeps l s until value k.0, others Old R e s (s.results ++ record { until = until; value = value } ∷ []) (λ a. kept-more R (record { until = until; value = value }) s.results a) k.1);
  results_go = λ l s is goes k. (D.results_go l s is goes k.0, others Old R e s (filter is s.results) (λ a. stays is s.results goes a) k.1);
  falls = λ l s c n k. (D.falls l s c n k.0, k.1);
  row = λ l s c f num last dialled k. (D.row l s c f num last dialled k.0, rows-as Old R e s _ (λ a. row-stays R.conn c f num s.connections a) k.1);
  counts = λ l s c n d there is low k. (D.counts l s c n d there is low k.0, rows-as Old R e s _ (λ a. row-stays R.conn c (λ (x : Connection). record x { last = n }) (λ x. refl) s.connections a) k.1);
  parks_call = λ l s p going known is k. (D.parks_call l s p going known is k.0, k.1);
  parks_result = λ l s p known is k. (D.parks_result l s p known is k.0, k.1);
  takes = λ l s p k. (D.takes l s p k.0, k.1);
  takes_call = λ l s p q is call k. (D.takes_call l s p q is call k.0, k.1);
  closes = λ l s c why k. (D.closes l s c tt k.0, stay-closes Old R e s c why k.1);
}
  where
    D : Flows (view g e h Any)
    D = directed g e h

    same : (s t : State) → event_parts t ≡ event_parts s → Keeps Old R e s → Keeps Old R e t
    same s t eq k = subst (λ (x : EventParts). KeepsIn Old R e x.connections x.results x.notes) (sym eq) k

    cleared : (s : State) → Keeps Old R e s → Keeps Old R e (record s { notes = [] })
    cleared s (inl shut) = inl (shut.0, shut.1)
    cleared s (inr k) = inr (record { old = k.old; new = tt })

    stays : (is : KeptResult → Bool) (xs : List KeptResult) → ((k : KeptResult) → is k ≡ false → IsReleased e k.until) → Kept R xs → Kept R (filter is xs)
    stays is xs goes a = by (is (of-call R)) refl
      where
        by : (b : Bool) → is (of-call R) ≡ b → Kept R (filter is xs)
        by true f = kept-left R is xs f a
        by false f = absurd (no-ack (goes (of-call R) f))

stay-begin : (g : Setting) (s : State) (e : Event) (h : List Event) (Old : Type 0) (R : Result) → Begins (stay_view g e h Old R) s
stay-begin g s e h Old R = record {
  opens = λ c dialled is k. (B.opens c dialled is k.0, opened-row c dialled is k.1);
  parks = λ id n t target method arguments is ready stands k. (B.parks id n t target method arguments is ready stands k.0, k.1);
  looks = λ peer name is k. (B.looks peer name is k.0, k.1);
  roots = λ method arguments fuel is. tt;
  unmarshal = λ is. is;
  connect = λ is. unreached-ends e is;
  marshal = λ is. unwritten-ends e is;
  threw = B.threw;
  spent = B.spent;
  finished = B.finished;
  call_came = B.call_came;
  result_came = B.result_came;
}
  where
    B : Begins (view g e h Any) s
    B = directed-begin g s e h Any (λ id n t outcome c m is ready stands origin. tt)

    opened-row : (c : ℕ) (dialled : Option Uuid) → e ≡ Opened c dialled → Keeps Old R e s → Keeps Old R e (Rattle.sp_rules.specs.OwnEvents.add_connection c dialled s)
    opened-row c dialled is (inl shut) = inl (row-comes R.conn s.connections (record { number = c; dialled = dialled; peer = None; version = 1; last = 0; sent = [] }) (subst (λ d. opens R.conn d ≡ false) is shut.1) shut.0, shut.1)
    opened-row c dialled is (inr k) = inr k

    unreached-ends : (d : Event) → is_unreached d ≡ true → is_ending d ≡ true
    unreached-ends (Refused peer) is = refl
    unreached-ends (Received c m) is = refl
    unreached-ends _ is = absurd (true≢false (sym is))

    unwritten-ends : (d : Event) → is_unwritten d ≡ true → is_ending d ≡ true
    unwritten-ends (WriteFailed c lost) is = refl
    unwritten-ends _ is = absurd (true≢false (sym is))

-- ---- histories

-- what an output says is held
abbrev SaysHeld : Result → List KeptResult → Output → Type 0
SaysHeld R results (Send n (message.Returned number fuel value)) = (n == R.conn) ≡ true → number ≡ R.number → value ≡ R.value → Kept R results
SaysHeld R results _ = Unit {0}

noted-says : (R : Result) (results : List KeptResult) (n : Note) → Noted R results n → SaysHeld R results (output_of n)
noted-says R results (Sends turn conn (message.Returned number fuel value)) a = a
noted-says R results (Sends turn conn (message.Hello version space digest)) a = tt
noted-says R results (Sends turn conn (message.Call number object method fuel arguments)) a = tt
noted-says R results (Sends turn conn (message.Threw number class)) a = tt
noted-says R results (Sends turn conn (message.Spent number)) a = tt
noted-says R results (Sends turn conn (message.Ack number)) a = tt
noted-says R results (Sends turn conn (message.Dirty sequence period objects)) a = tt
noted-says R results (Sends turn conn (message.Lease sequence period)) a = tt
noted-says R results (Sends turn conn (message.Clean sequence strong objects)) a = tt
noted-says R results (Sends turn conn (message.Cleaned sequence)) a = tt
noted-says R results (Sends turn conn (message.Lookup number name)) a = tt
noted-says R results (Says (Send conn m)) a = absurd (true≢false a)
noted-says R results (Says (Started task)) a = tt
noted-says R results (Says (Ended task outcome)) a = tt
noted-says R results (Says (Withdrawn ids)) a = tt
noted-says R results (Says (Denied why)) a = tt
noted-says R results (Says (Dial peer)) a = tt
noted-says R results (Says (Close conn)) a = tt
noted-says R results (Says (Ready task)) a = tt

-- a result that is among these outputs
said-held : (R : Result) (fuel : ℕ) (results : List KeptResult) (os : List Output) → AllOf (SaysHeld R results) os → IsOneOf (message.Returned R.number fuel R.value) (sent_on R.conn os) → Kept R results
said-held R fuel results [] a o = absurd o
said-held R fuel results (x ∷ os) a o = by x a.0 (λ i. said-held R fuel results os a.1 i) o
  where
    -- the frame is this result
    this : (n : ℕ) (m : Message) → (n == R.conn) ≡ true → SaysHeld R results (Send n m) → message.Returned R.number fuel R.value ≡ m → Kept R results
    this n m at k e = (subst (λ y. SaysHeld R results (Send n y)) (sym e) k) at refl refl

    sent : (n : ℕ) (m : Message) (b : Bool) → (n == R.conn) ≡ b → SaysHeld R results (Send n m) → (IsOneOf (message.Returned R.number fuel R.value) (sent_on R.conn os) → Kept R results) → IsOneOf (message.Returned R.number fuel R.value) ((if b then m ∷ [] else []) ++ sent_on R.conn os) → Kept R results
    sent n m true at k rest (inl e) = this n m at k e
    sent n m true at k rest (inr i) = rest i
    sent n m false at k rest i = rest i

    by : (y : Output) → SaysHeld R results y → (IsOneOf (message.Returned R.number fuel R.value) (sent_on R.conn os) → Kept R results) → IsOneOf (message.Returned R.number fuel R.value) (frame_in R.conn y ++ sent_on R.conn os) → Kept R results
    by (Started task) k rest i = rest i
    by (Ended task outcome) k rest i = rest i
    by (Withdrawn ids) k rest i = rest i
    by (Denied why) k rest i = rest i
    by (Send n m) k rest i = sent n m (n == R.conn) refl k rest i
    by (Dial peer) k rest i = rest i
    by (Close n) k rest i = rest i
    by (Ready task) k rest i = rest i

one-of-either : {A : Type 0} (x : A) (xs ys : List A) → IsOneOf x (xs ++ ys) → IsOneOf x xs ⊎ IsOneOf x ys
one-of-either x [] ys i = inr i
one-of-either x (z ∷ xs) ys (inl e) = inl (inl e)
one-of-either x (z ∷ xs) ys (inr i) = by (one-of-either x xs ys i)
  where
    by : IsOneOf x xs ⊎ IsOneOf x ys → IsOneOf x (z ∷ xs) ⊎ IsOneOf x ys
    by (inl k) = inl (inr k)
    by (inr k) = inr k

sent-append : (conn : ℕ) (os ps : List Output) → sent_on conn (os ++ ps) ≡ sent_on conn os ++ sent_on conn ps
sent-append conn [] ps = refl
sent-append conn (o ∷ os) ps = ap (λ (l : List Message). frame_in conn o ++ l) (sent-append conn os ps) ∙ sym (append-after (frame_in conn o) (sent_on conn os) (sent_on conn ps))

-- nothing was sent on a connection that did not open
unsent : (g : Setting) (h : List Event) (conn : ℕ) → opened conn h ≡ false → (is_open (Space.state_of g h) conn ≡ false) × (sent_on conn (Space.all_outputs g h) ≡ [])
unfolding Space.state_of Space.outputs_of opening
unsent g [] conn shut = (refl, refl)
unsent g (e ∷ h) conn shut =
    let x = unsent g h conn (either (opens conn e) (opened conn h) shut).1 in
    let o : opens conn e ≡ false = (either (opens conn e) (opened conn h) shut).0 in
    ((connections_end g (Space.state_of g h) e conn).stays x.0 o, sent-append conn (Space.all_outputs g h) (Space.on g e (Space.state_of g h)).1 ∙ (ap (λ (l : List Message). l ++ sent_on conn (Space.on g e (Space.state_of g h)).1) x.1 ∙ silent (Space.on g e (Space.state_of g h)).1 ((ended_connections_are_silent g h e conn).shut x.0 o)))
  where
    either : (a b : Bool) → a || b ≡ false → (a ≡ false) × (b ≡ false)
    either true b f = absurd (true≢false f)
    either false b f = (refl, f)

    silent : (os : List Output) → IsSilent conn os → sent_on conn os ≡ []
    silent [] k = refl
    silent (o ∷ os) k = ap (λ (l : List Message). l ++ sent_on conn os) (one o k.0) ∙ silent os k.1
      where
        one : (p : Output) → is_sent_on conn p ≡ false → frame_in conn p ≡ []
        one (Started task) q = refl
        one (Ended task outcome) q = refl
        one (Withdrawn ids) q = refl
        one (Denied why) q = refl
        one (Send n m) q = ap (λ b. if b then m ∷ [] else []) q
        one (Dial peer) q = refl
        one (Close n) q = refl
        one (Ready task) q = refl

-- what is recorded as sent changes no result and no row
same-results : (os : List Output) (s : State) → (each Space.record_sent os s).results ≡ s.results
unfolding each
same-results [] s = refl
same-results (o ∷ os) s = same-results os (Space.record_sent s o) ∙ one o
  where
    one : (o : Output) → (Space.record_sent s o).results ≡ s.results
    one (Started task) = refl
    one (Ended task outcome) = refl
    one (Withdrawn ids) = refl
    one (Denied why) = refl
    one (Send conn m) = refl
    one (Dial peer) = refl
    one (Close conn) = refl
    one (Ready task) = refl

recorded : (conn : ℕ) (os : List Output) (s : State) → is_open s conn ≡ false → is_open (each Space.record_sent os s) conn ≡ false
unfolding each
recorded conn [] s e = e
recorded conn (o ∷ os) s e = recorded conn os (Space.record_sent s o) (one o)
  where
    one : (p : Output) → is_open (Space.record_sent s p) conn ≡ false
    one (Started task) = e
    one (Ended task outcome) = e
    one (Withdrawn ids) = e
    one (Denied why) = e
    one (Send n m) = row-stays conn n (λ (c : Connection). record c { sent = m ∷ c.sent }) (λ c. refl) s.connections e
    one (Dial peer) = e
    one (Close n) = e
    one (Ready task) = e

-- one event
event-keeps : (g : Setting) (e : Event) (h : List Event) (R : Result) (fuel : ℕ) (Old : Type 0) → (e ≡ Received R.conn (message.Ack R.number) → ⊥) → (Old → Kept R (Space.state_of g h).results) → is_open (Space.on g e (Space.state_of g h)).0 R.conn ≡ true
    → (Old → Kept R (Space.on g e (Space.state_of g h)).0.results) × AllOf (SaysHeld R (Space.on g e (Space.state_of g h)).0.results) (Space.on g e (Space.state_of g h)).1
unfolding Space.on in_order
event-keeps g e h R fuel Old no-ack old live = by (Space.answers_outputs e) kept live
  where
    s : State
    s = Space.state_of g h

    V : View
    V = stay_view g e h Old R

    begun : V.Keeps [] s
    begun = (wider e h s (directed-of g h), inr (record { old = old; new = subst (AllOf (Noted R s.results)) (sym (no-notes g h)) tt }))

    t : State
    t = Requests.settle (Space.happen g e s)

    settled : V.Keeps [] t
    settled = happen_settles (stay_flow g e h Old R no-ack) s (stay-begin g s e h Old R) begun

    kept : V.Keeps [] (Space.finish_event (Space.answers_outputs e) (Space.happen g e s)).0
    kept = on_flow (stay_flow g e h Old R no-ack) s (stay-begin g s e h Old R) begun

    held : Keeps Old R e t → is_open (Space.finish_event true (Space.happen g e s)).0 R.conn ≡ true → IsHeld Old R t.results t.notes
    held (inl shut) o = absurd (true≢false (sym o ∙ recorded R.conn (in_order t.notes) (record t { notes = [] }) shut.0))
    held (inr k) o = k

    by : (b : Bool) → V.Keeps [] (Space.finish_event b (Space.happen g e s)).0 → is_open (Space.finish_event b (Space.happen g e s)).0 R.conn ≡ true → (Old → Kept R (Space.finish_event b (Space.happen g e s)).0.results) × AllOf (SaysHeld R (Space.finish_event b (Space.happen g e s)).0.results) (Space.finish_event b (Space.happen g e s)).1
    by true after o = (
      λ x. subst (Kept R) (sym (same-results (in_order t.notes) (record t { notes = [] }))) ((held settled.1 o).old x),
      subst (λ (rs : List KeptResult). AllOf (SaysHeld R rs) (in_order t.notes)) (sym (same-results (in_order t.notes) (record t { notes = [] })))
          (ranks-all (SaysHeld R t.results) ranks t.notes (all-weaken (Noted R t.results) (λ (n : Note). SaysHeld R t.results (output_of n)) t.notes (noted-says R t.results) (held settled.1 o).new)),
    )
    by false after o = (λ x. (quiet after.1 o).old x, tt)
      where
        quiet : Keeps Old R e (Space.happen g e s) → is_open (Space.happen g e s) R.conn ≡ true → IsHeld Old R (Space.happen g e s).results (Space.happen g e s).notes
        quiet (inl shut) p = absurd (true≢false (sym p ∙ shut.0))
        quiet (inr k) p = k

results-of : (g : Setting) (h : List Event) (R : Result) (fuel : ℕ) → OpensOnce h → is_open (Space.state_of g h) R.conn ≡ true → IsOneOf (message.Returned R.number fuel R.value) (sent_on R.conn (Space.all_outputs g h)) → AllOf (IsNoAck R.number) (came_on R.conn h) → Kept R (Space.state_of g h).results
unfolding Space.state_of Space.outputs_of opening
results-of g [] R fuel once live sent none = absurd sent
results-of g (e ∷ h) R fuel once live sent none = finish (event-keeps g e h R fuel Old no-ack (before (λ o i. results-of g h R fuel once.1 o i (all-first (IsNoAck R.number) (came_on R.conn h) (frame_of R.conn e) none))) live)
  where
    s : State
    s = Space.state_of g h

    Old : Type 0
    Old = IsOneOf (message.Returned R.number fuel R.value) (sent_on R.conn (Space.all_outputs g h))

    no-ack : e ≡ Received R.conn (message.Ack R.number) → ⊥
    no-ack is = (subst (λ b. AllOf (IsNoAck R.number) (if b then message.Ack R.number ∷ [] else [])) (eq-eqb R.conn R.conn refl)
        (subst (λ d. AllOf (IsNoAck R.number) (frame_of R.conn d)) is (all-last (IsNoAck R.number) (came_on R.conn h) (frame_of R.conn e) none))).0 refl

    before : (is_open s R.conn ≡ true → Old → Kept R s.results) → Old → Kept R s.results
    before earlier i = by (opens R.conn e) refl
      where
        was : opens R.conn e ≡ false → (b : Bool) → is_open s R.conn ≡ b → b ≡ true
        was apart true f = refl
        was apart false f = absurd (true≢false (sym live ∙ (connections_end g s e R.conn).stays f apart))

        by : (b : Bool) → opens R.conn e ≡ b → Kept R s.results
        by true f = absurd (subst (IsOneOf (message.Returned R.number fuel R.value)) (unsent g h R.conn (once.0 R.conn f)).1 i)
        by false f = earlier (was f (is_open s R.conn) refl) i

    finish : (Old → Kept R (Space.on g e s).0.results) × AllOf (SaysHeld R (Space.on g e s).0.results) (Space.on g e s).1 → Kept R (Space.on g e s).0.results
    finish k = by (one-of-either (message.Returned R.number fuel R.value) (sent_on R.conn (Space.all_outputs g h)) (sent_on R.conn (Space.on g e s).1) (subst (IsOneOf (message.Returned R.number fuel R.value)) (sent-append R.conn (Space.all_outputs g h) (Space.on g e s).1) sent))
      where
        by : Old ⊎ IsOneOf (message.Returned R.number fuel R.value) (sent_on R.conn (Space.on g e s).1) → Kept R (Space.on g e s).0.results
        by (inl o) = k.0 o
        by (inr i) = said-held R fuel (Space.on g e s).0.results (Space.on g e s).1 k.1 i

pub results_wait_for_acks : ResultsWaitForAcks
results_wait_for_acks g h conn number fuel value once live sent none = results-of g h (record { conn = conn; number = number; value = value }) fuel once live sent none
