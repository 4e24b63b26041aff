-- Numbers of calls and of dirty and clean calls rise, through each move of the rules.
use mathlib.Core.Path.{sym, ap, subst, ◌∙◌}
use Rattle.std.proofs.Common.{arith, inl, inr}
use Rattle.std.proofs.lemmas.Bool.{true≢false}
use Rattle.std.specs.List.{flat_map}
use Rattle.std.specs.Prelude.{◌≡◌, ◌≤◌, ◌⊎◌, refl, cond, ℕ, ◌+◌, ◌==◌, ◌&&◌, not, nat_le, is_none, Bool, true, false, List, [], ◌∷◌, ◌++◌, filter, map, if◌then◌else◌}
use Rattle.space_ids.specs.declared.ids.ObjId.{ObjId}
use Rattle.space_ids.specs.declared.value.Value.{Value}
use Rattle.dgc_client.specs.Table.{numbers_of}
use Rattle.net_message.specs.declared.message.Message.TheVariants as message
use Rattle.net_message.specs.declared.message.Message.{Message}
use Rattle.sp_rules.specs.Classes.{Setting}
use Rattle.sp_rules.specs.Endings.{call_number_in}
use Rattle.sp_rules.specs.Events.{Turn, Note, Says, Sends, rank, turn_rank, output_of, Output, Started, Ended, Withdrawn, Denied, Send, Dial, Close, Ready}
use Rattle.sp_rules.specs.Frames
use Rattle.sp_rules.specs.Laws.{AllOf, RisesWithin}
use Rattle.sp_rules.specs.Lists.{at_first, total}
use Rattle.sp_rules.specs.ParkedFrames.{is_out_on, has_number, is_call_on}
use Rattle.sp_rules.specs.Requests.{is_waiting}
use Rattle.sp_rules.specs.State.{State, Request, Asked, Calls, LooksUp, Tells, Stage, Waits, Out, Answered, Connection}
use Rattle.sp_rules.proofs.AllLemmas.{all-weaken, all-more, all-filter, all-map, all-first}
use Rattle.sp_rules.proofs.LineLemmas.{AreNumbered, numbers-filter, row-numbers}
use Rattle.sp_laws.specs.Waiting.{count}
use Rattle.sp_laws.specs.CallSent.{is_send}
use Rattle.sp_order_laws.specs.Delivered.{frame_in}
use Rattle.sp_order_laws.specs.Rising.{sequence_in, frame}
use Rattle.sp_order_laws.proofs.NoteLemmas.{append-none, flat-last, rises-some, AreBelow, sent, sent-quiet}
use Rattle.sp_order_laws.proofs.WalkRules.{Owed, is_numbered, WalkParts, walk_parts, Moves, Walks, fail_parked_walk, each_walk}

-- ---- numbers

-- the numbers of calls and lookups in an output on a connection, and on any
abbrev pub calls_at : ℕ → Output → List ℕ
calls_at conn o = flat_map call_number_in (frame_in conn o)

abbrev pub calls_in : Output → List ℕ
calls_in o = flat_map call_number_in (frame o)

abbrev pub sequences_in : Output → List ℕ
sequences_in o = flat_map sequence_in (frame o)

abbrev pub number_of : Request → List ℕ
number_of q = asked_number q.asked
  where
    asked_number : Asked → List ℕ
    asked_number (Calls number task lent kind m) = number ∷ []
    asked_number (LooksUp number task name) = number ∷ []
    asked_number (Tells call group) = []

-- the number of a call or lookup that waits for a Hello
abbrev pub waiting_number : Request → List ℕ
waiting_number q = if is_waiting q.stage then number_of q else []

-- the frame of a call is a Call of its number
abbrev pub IsSaid : Asked → Type 0
IsSaid (Calls number task lent kind m) = (target : ObjId) × ((method : ℕ) × ((fuel : ℕ) × ((arguments : List Value) × (m ≡ message.Call number target method fuel arguments))))
IsSaid (LooksUp number task name) = Unit {0}
IsSaid (Tells call group) = Unit {0}

abbrev pub times : ℕ → List ℕ → ℕ
times k ns = total (λ n. count (n == k)) ns

pub times-append : (k : ℕ) (xs ys : List ℕ) → times k (xs ++ ys) ≡ times k xs + times k ys
times-append k [] ys = omega arith
times-append k (x ∷ xs) ys = let e : times k (xs ++ ys) ≡ times k xs + times k ys = times-append k xs ys in omega arith

-- ---- notes in their turns

-- A note is no frame with a number, or its turn has come.
abbrev pub IsInTurn : ℕ → Note → Type 0
IsInTurn r (Says o) = is_send o ≡ false
IsInTurn r (Sends turn conn m) = (is_numbered m ≡ false) ⊎ (turn_rank turn ≤ r)

-- what is gathered of outputs is of frames with numbers
record Gathers (f : Output → List ℕ) : Type 0 where
  others : (o : Output) → is_send o ≡ false → f o ≡ []
  unnumbered : (conn : ℕ) (m : Message) → is_numbered m ≡ false → f (Send conn m) ≡ []

no-call : (m : Message) → is_numbered m ≡ false → call_number_in m ≡ []
no-call (message.Hello version space digest) e = refl
no-call (message.Call number object method fuel arguments) e = absurd (true≢false e)
no-call (message.Returned number fuel value) e = refl
no-call (message.Threw number class) e = refl
no-call (message.Spent number) e = refl
no-call (message.Ack number) e = refl
no-call (message.Dirty sequence period objects) e = refl
no-call (message.Lease sequence period) e = refl
no-call (message.Clean sequence strong objects) e = refl
no-call (message.Cleaned sequence) e = refl
no-call (message.Lookup number name) e = absurd (true≢false e)

no-sequence : (m : Message) → is_numbered m ≡ false → sequence_in m ≡ []
no-sequence (message.Hello version space digest) e = refl
no-sequence (message.Call number object method fuel arguments) e = refl
no-sequence (message.Returned number fuel value) e = refl
no-sequence (message.Threw number class) e = refl
no-sequence (message.Spent number) e = refl
no-sequence (message.Ack number) e = refl
no-sequence (message.Dirty sequence period objects) e = absurd (true≢false e)
no-sequence (message.Lease sequence period) e = refl
no-sequence (message.Clean sequence strong objects) e = absurd (true≢false e)
no-sequence (message.Cleaned sequence) e = refl
no-sequence (message.Lookup number name) e = refl

-- what a frame says on a connection
pub at-connection : (f : Message → List ℕ) (c conn : ℕ) (m : Message) → f m ≡ [] → flat_map f (frame_in conn (Send c m)) ≡ []
at-connection f c conn m e = pick (c == conn)
  where
    pick : (b : Bool) → flat_map f (if b then m ∷ [] else []) ≡ []
    pick true = ap (λ (l : List ℕ). l ++ []) e
    pick false = refl

at-gathers : (conn : ℕ) → Gathers (calls_at conn)
at-gathers conn = record { others = others; unnumbered = λ c m e. at-connection call_number_in c conn m (no-call m e) }
  where
    others : (o : Output) → is_send o ≡ false → calls_at conn o ≡ []
    others (Started task) e = refl
    others (Ended task outcome) e = refl
    others (Withdrawn ids) e = refl
    others (Denied why) e = refl
    others (Send c m) e = absurd (true≢false e)
    others (Dial peer) e = refl
    others (Close c) e = refl
    others (Ready task) e = refl

any-gathers : (f : Message → List ℕ) → ((m : Message) → is_numbered m ≡ false → f m ≡ []) → Gathers (λ o. flat_map f (frame o))
any-gathers f none = record { others = others; unnumbered = λ c m e. ap (λ (l : List ℕ). l ++ []) (none m e) }
  where
    others : (o : Output) → is_send o ≡ false → flat_map f (frame o) ≡ []
    others (Started task) e = refl
    others (Ended task outcome) e = refl
    others (Withdrawn ids) e = refl
    others (Denied why) e = refl
    others (Send c m) e = absurd (true≢false e)
    others (Dial peer) e = refl
    others (Close c) e = refl
    others (Ready task) e = refl

in-turn : (f : Output → List ℕ) → Gathers f → (r : ℕ) (n : Note) → IsInTurn r n → (f (output_of n) ≡ []) ⊎ (rank n ≤ r)
in-turn f G r (Says o) e = inl (G.others o e)
in-turn f G r (Sends turn conn m) (inl e) = inl (G.unnumbered conn m e)
in-turn f G r (Sends turn conn m) (inr e) = inr e

-- the notes of a turn
pub calls-below : (conn r : ℕ) (notes : List Note) → AllOf (IsInTurn r) notes → AreBelow (calls_at conn) r notes
calls-below conn r notes a = all-weaken (IsInTurn r) _ notes (λ n k. in-turn (calls_at conn) (at-gathers conn) r n k) a

pub all-below : (r : ℕ) (notes : List Note) → AllOf (IsInTurn r) notes → AreBelow calls_in r notes
all-below r notes a = all-weaken (IsInTurn r) _ notes (λ n k. in-turn calls_in (any-gathers call_number_in no-call) r n k) a

pub sequences-below : (r : ℕ) (notes : List Note) → AllOf (IsInTurn r) notes → AreBelow sequences_in r notes
sequences-below r notes a = all-weaken (IsInTurn r) _ notes (λ n k. in-turn sequences_in (any-gathers sequence_in no-sequence) r n k) a

pub later-turn : (r l : ℕ) (notes : List Note) → r ≤ l → AllOf (IsInTurn r) notes → AllOf (IsInTurn l) notes
later-turn r l notes le a = all-weaken (IsInTurn r) (IsInTurn l) notes one a
  where
    one : (n : Note) → IsInTurn r n → IsInTurn l n
    one (Says o) k = k
    one (Sends turn conn m) (inl k) = inl k
    one (Sends turn conn m) (inr k) = inr (omega arith)

-- ---- what is kept

pub record LineParts : Type 0 where
  pub calls_made : ℕ
  pub numbers : ℕ
  pub requests : List Request
  pub fresh : List Request
  pub connections : List Connection
  pub notes : List Note

abbrev pub line_parts : State → LineParts
line_parts s = record { calls_made = s.calls_made; numbers = numbers_of s.leases; requests = s.requests; fresh = s.fresh; connections = s.connections; notes = s.notes }

-- A call or lookup that was made in the event has the next number.
abbrev pub IsFresh : ℕ → ℕ → List Request → Type 0
IsFresh top made [] = made ≡ top
IsFresh top made (q ∷ rest) = (made ≡ top + 1) × ((rest ≡ []) × (IsSaid q.asked × (number_of q ≡ (top + 1) ∷ [])))

-- Nothing that asks under a number was sent before the Hello.
abbrev pub IsShut : List Output → List Note → Connection → Type 0
IsShut outs notes c = is_none c.peer ≡ true → sent (calls_at c.number) outs notes ≡ []

-- What was sent in the history and is noted in the event, in turns up to this one, and what waits; some requests are on their way from one to the other.
pub record Rising (outs : List Output) (top r : ℕ) (rest : List Request) (x : LineParts) : Type 0 where
  pub said : AllOf (λ (q : Request). IsSaid q.asked) x.requests
  pub fresh : IsFresh top x.calls_made x.fresh
  pub line : RisesWithin 0 top (flat_map waiting_number x.requests)
  pub rows : AreNumbered x.connections
  pub shut : AllOf (IsShut outs x.notes) x.connections
  pub calls : (conn : ℕ) → RisesWithin 0 top (sent (calls_at conn) outs x.notes)
  pub sequences : RisesWithin 0 x.numbers (sent sequences_in outs x.notes)
  pub turns : AllOf (IsInTurn r) x.notes
  pub once : (k : ℕ) → times k (sent calls_in outs x.notes) + (times k (flat_map waiting_number x.requests) + times k (flat_map number_of rest)) ≤ count (nat_le k top)

-- ---- moves

-- a note without a number
pub unnumbered : {outs : List Output} {top r : ℕ} {rest : List Request} {x : LineParts} (n : Note) → IsInTurn r n → ((conn : ℕ) → calls_at conn (output_of n) ≡ []) → calls_in (output_of n) ≡ [] → sequences_in (output_of n) ≡ []
    → Rising outs top r rest x → Rising outs top r rest (record x { notes = x.notes ++ n ∷ [] })
unnumbered {outs} {top} {r} {rest} {x} n turn at any sequence h = record {
  said = h.said;
  fresh = h.fresh;
  line = h.line;
  rows = h.rows;
  shut = all-weaken (IsShut outs x.notes) _ x.connections (λ c k e. sent-quiet (calls_at c.number) outs x.notes n (at c.number) ∙ k e) h.shut;
  calls = λ conn. subst (RisesWithin 0 top) (sym (sent-quiet (calls_at conn) outs x.notes n (at conn))) (h.calls conn);
  sequences = subst (RisesWithin 0 x.numbers) (sym (sent-quiet sequences_in outs x.notes n sequence)) h.sequences;
  turns = all-more (IsInTurn r) x.notes n h.turns turn;
  once = λ k. subst (λ l. times k l + (times k (flat_map waiting_number x.requests) + times k (flat_map number_of rest)) ≤ count (nat_le k top)) (sym (sent-quiet calls_in outs x.notes n any)) (h.once k);
}

pub says_rising : {outs : List Output} {top r : ℕ} {rest : List Request} {x : LineParts} (o : Output) → is_send o ≡ false → Rising outs top r rest x → Rising outs top r rest (record x { notes = x.notes ++ Says o ∷ [] })
says_rising o e h = unnumbered (Says o) e (λ conn. (at-gathers conn).others o e) ((any-gathers call_number_in no-call).others o e) ((any-gathers sequence_in no-sequence).others o e) h

pays_rising : {outs : List Output} {top r : ℕ} {rest : List Request} {x : LineParts} (turn : Turn) (conn : ℕ) (m : Message) → is_numbered m ≡ false → Rising outs top r rest x → Rising outs top r rest (record x { notes = x.notes ++ Sends turn conn m ∷ [] })
pays_rising turn conn m e h = unnumbered (Sends turn conn m) (inl e) (λ c. (at-gathers c).unnumbered conn m e) ((any-gathers call_number_in no-call).unnumbered conn m e) ((any-gathers sequence_in no-sequence).unnumbered conn m e) h

-- how often a number stands among some of a list
pub times-some : (k : ℕ) (f : Request → List ℕ) (is : Request → Bool) (rs : List Request) → times k (flat_map f (filter is rs)) ≤ times k (flat_map f rs)
times-some k f is [] = omega arith
times-some k f is (q ∷ rs) = pick (is q) (times-some k f is rs)
  where
    pick : (b : Bool) → times k (flat_map f (filter is rs)) ≤ times k (flat_map f rs) → times k (flat_map f (cond b (q ∷ filter is rs) (filter is rs))) ≤ times k (f q ++ flat_map f rs)
    pick true le =
        let a : times k (f q ++ flat_map f (filter is rs)) ≡ times k (f q) + times k (flat_map f (filter is rs)) = times-append k (f q) (flat_map f (filter is rs)) in
        let b : times k (f q ++ flat_map f rs) ≡ times k (f q) + times k (flat_map f rs) = times-append k (f q) (flat_map f rs) in omega arith
    pick false le = let b : times k (f q ++ flat_map f rs) ≡ times k (f q) + times k (flat_map f rs) = times-append k (f q) (flat_map f rs) in omega arith

pub fewer_rising : {outs : List Output} {top r : ℕ} {rest : List Request} {x : LineParts} (is : Request → Bool) → Rising outs top r rest x → Rising outs top r rest (record x { requests = filter is x.requests })
fewer_rising {outs} {top} {r} {rest} {x} is h = record {
  said = all-filter (λ (q : Request). IsSaid q.asked) is x.requests h.said;
  fresh = h.fresh;
  line = rises-some waiting_number is 0 top x.requests h.line;
  rows = h.rows;
  shut = h.shut;
  calls = h.calls;
  sequences = h.sequences;
  turns = h.turns;
  once = λ k. let a : times k (sent calls_in outs x.notes) + (times k (flat_map waiting_number x.requests) + times k (flat_map number_of rest)) ≤ count (nat_le k top) = h.once k in
      let b : times k (flat_map waiting_number (filter is x.requests)) ≤ times k (flat_map waiting_number x.requests) = times-some k waiting_number is x.requests in omega arith;
}

-- a request that does not wait
pub adds_rising : {outs : List Output} {top r : ℕ} {rest : List Request} {x : LineParts} (q : Request) → IsSaid q.asked → waiting_number q ≡ [] → Rising outs top r rest x → Rising outs top r rest (record x { requests = x.requests ++ q ∷ [] })
adds_rising {outs} {top} {r} {rest} {x} q said e h = record {
  said = all-more (λ (p : Request). IsSaid p.asked) x.requests q h.said said;
  fresh = h.fresh;
  line = subst (RisesWithin 0 top) (sym same) h.line;
  rows = h.rows;
  shut = h.shut;
  calls = h.calls;
  sequences = h.sequences;
  turns = h.turns;
  once = λ k. subst (λ l. times k (sent calls_in outs x.notes) + (times k l + times k (flat_map number_of rest)) ≤ count (nat_le k top)) (sym same) (h.once k);
}
  where
    same : flat_map waiting_number (x.requests ++ q ∷ []) ≡ flat_map waiting_number x.requests
    same = flat-last waiting_number x.requests q ∙ (ap (λ (l : List ℕ). flat_map waiting_number x.requests ++ l) e ∙ append-none (flat_map waiting_number x.requests))

-- a call that is answered does not wait for a Hello
waits-same : (conn number : ℕ) (q : Request) → waiting_number (Frames.answered_on conn number q) ≡ waiting_number q
waits-same conn number q = pick (is_call_on conn number q) refl
  where
    not-waiting : (stage : Stage) → is_out_on conn stage ≡ true → is_waiting stage ≡ false
    not-waiting Waits e = absurd (true≢false (sym e))
    not-waiting (Out c sequence) e = refl
    not-waiting (Answered c) e = refl

    left : (a b : Bool) → a && b ≡ true → a ≡ true
    left true b e = refl
    left false b e = absurd (true≢false (sym e))

    pick : (b : Bool) → is_call_on conn number q ≡ b → waiting_number (if b then record q { stage = Answered conn } else q) ≡ waiting_number q
    pick true e = sym (ap (λ (b : Bool). if b then number_of q else []) (not-waiting q.stage (left (is_out_on conn q.stage) (has_number number q.asked) e)))
    pick false e = refl

answers-same : (conn number : ℕ) (rs : List Request) → flat_map waiting_number (map (Frames.answered_on conn number) rs) ≡ flat_map waiting_number rs
answers-same conn number [] = refl
answers-same conn number (q ∷ rs) = ap (λ (l : List ℕ). l ++ flat_map waiting_number (map (Frames.answered_on conn number) rs)) (waits-same conn number q) ∙ ap (λ (l : List ℕ). waiting_number q ++ l) (answers-same conn number rs)

answered_rising : {outs : List Output} {top r : ℕ} {rest : List Request} {x : LineParts} (conn number : ℕ) → Rising outs top r rest x → Rising outs top r rest (record x { requests = map (Frames.answered_on conn number) x.requests })
answered_rising {outs} {top} {r} {rest} {x} conn number h = record {
  said = all-map (λ (q : Request). IsSaid q.asked) (λ (q : Request). IsSaid q.asked) (Frames.answered_on conn number) x.requests (λ q k. one q (is_call_on conn number q) k) h.said;
  fresh = h.fresh;
  line = subst (RisesWithin 0 top) (sym (answers-same conn number x.requests)) h.line;
  rows = h.rows;
  shut = h.shut;
  calls = h.calls;
  sequences = h.sequences;
  turns = h.turns;
  once = λ k. subst (λ l. times k (sent calls_in outs x.notes) + (times k l + times k (flat_map number_of rest)) ≤ count (nat_le k top)) (sym (answers-same conn number x.requests)) (h.once k);
}
  where
    one : (q : Request) (b : Bool) → IsSaid q.asked → IsSaid (if b then record q { stage = Answered conn } else q).asked
    one q true k = k
    one q false k = k

-- the rows of connections change
rows_rising : {outs : List Output} {top r : ℕ} {rest : List Request} {x : LineParts} (cs : List Connection) → AreNumbered cs → AllOf (IsShut outs x.notes) cs → Rising outs top r rest x → Rising outs top r rest (record x { connections = cs })
rows_rising cs numbered shut h = record { said = h.said; fresh = h.fresh; line = h.line; rows = numbered; shut = shut; calls = h.calls; sequences = h.sequences; turns = h.turns; once = h.once }

-- a row is changed that keeps its number, and stays without a Hello only if it had none
pub first_rising : {outs : List Output} {top r : ℕ} {rest : List Request} {x : LineParts} (conn : ℕ) (f : Connection → Connection) → ((c : Connection) → (f c).number ≡ c.number) → ((c : Connection) → (f c).dialled ≡ c.dialled) → ((c : Connection) → is_none (f c).peer ≡ true → is_none c.peer ≡ true)
    → Rising outs top r rest x → Rising outs top r rest (record x { connections = at_first (λ (c : Connection). c.number == conn) f x.connections })
first_rising {outs} {x = x} conn f number dialled peer h = rows_rising _ (row-numbers (λ (c : Connection). c.number == conn) f (record { number = number; dialled = dialled }) x.connections h.rows)
    (all-first (IsShut outs x.notes) (λ (c : Connection). c.number == conn) f x.connections (λ c k e. ap (λ n. sent (calls_at n) outs x.notes) (number c) ∙ k (peer c e)) h.shut) h

pub closes_rising : {outs : List Output} {top r : ℕ} {rest : List Request} {x : LineParts} (is : Connection → Bool) → Rising outs top r rest x → Rising outs top r rest (record x { connections = filter is x.connections })
closes_rising {outs} {x = x} is h = rows_rising _ (numbers-filter is x.connections h.rows) (all-filter (IsShut outs x.notes) is x.connections h.shut) h

pub opens_rising : {outs : List Output} {top r : ℕ} {rest : List Request} {x : LineParts} (c : Connection) → AreNumbered (x.connections ++ c ∷ []) → sent (calls_at c.number) outs x.notes ≡ [] → Rising outs top r rest x → Rising outs top r rest (record x { connections = x.connections ++ c ∷ [] })
opens_rising {outs} {x = x} c numbered none h = rows_rising _ numbered (all-more (IsShut outs x.notes) x.connections c h.shut (λ e. none)) h

-- ---- all moves

abbrev pub Rises : List Output → ℕ → List Owed → State → Type 0
Rises outs top l s = Rising outs top 6 [] (line_parts s)

to_line : WalkParts → LineParts
to_line w = record { calls_made = w.calls_made; numbers = w.numbers; requests = w.requests; fresh = w.fresh; connections = w.connections; notes = w.notes }

rising-quiet : {outs : List Output} {top : ℕ} (s t : State) → walk_parts t ≡ walk_parts s → Rising outs top 6 [] (line_parts s) → Rising outs top 6 [] (line_parts t)
unfolding to_line
rising-quiet {outs} {top} s t e h = subst (Rising outs top 6 []) (sym (ap to_line e)) h

pub rising_moves : (g : Setting) (outs : List Output) (top : ℕ) → Moves g (Rises outs top)
rising_moves g outs top = record {
  quiet = λ l s t e h. rising-quiet s t e h;
  says = λ l s output is h. says_rising output is h;
  pays = λ l s turn conn m is h. pays_rising turn conn m is h;
  falls = λ l s o h. h;
  fewer = λ l s is h. fewer_rising (λ q. not (is q)) h;
  answered = λ l s conn number h. answered_rising conn number h;
  begins = λ l s origin method arguments fuel h. h;
  ends = λ l s id t is h. h;
  works = λ l s id f same h. h;
  parks = λ l s p h. h;
  takes = λ l s p h. h;
  counts = λ l s conn number h. first_rising conn (λ (c : Connection). record c { last = number }) (λ c. refl) (λ c. refl) (λ c e. e) h;
  versions = λ l s conn version h. first_rising conn (λ (c : Connection). record c { version = version }) (λ c. refl) (λ c. refl) (λ c e. e) h;
  closes = λ l s conn h. closes_rising (λ (c : Connection). not (c.number == conn)) h;
}

pub rising_walks : (g : Setting) (outs : List Output) (top : ℕ) → Walks g (Rises outs top)
rising_walks g outs top = record {
  moves = rising_moves g outs top;
  frees = λ l s p q is h. h;
  fails = λ l s id h. each_walk (rising_moves g outs top) {l = l} _ _ (λ t p k. fail_parked_walk (rising_moves g outs top) {l = l} p k) h;
}
