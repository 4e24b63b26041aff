-- In every run of every world connections have two ends, and no space opens one twice.
use mathlib.Core.Path.{sym, ap, subst, ◌∙◌}
use Rattle.std.proofs.Common.{arith, inl, inr}
use Rattle.std.proofs.lemmas.Bool.{true≢false, eqb-true}
use Rattle.std.specs.List.{list_any, prefix_len}
use Rattle.std.specs.Prelude.{if◌then◌else◌, ◌≡◌, ◌⊎◌, refl, ℕ, zero, suc, ◌+◌, ◌==◌, ◌&&◌, ◌||◌, not, nat_lt, cond, length, Bool, true, false, List, [], ◌∷◌, ◌++◌, Option, None, Some, position, slice_get, map}
use Rattle.std.specs.Str.{bytes_eq}
use Rattle.net_message.specs.declared.message.Message.{Message}
use Rattle.uuid.specs.declared.Uuid.{Uuid}
use Rattle.sp_rules.specs.Behaviours.{Op, Create, Get, Put, Call}
use Rattle.sp_rules.specs.Classes.{Setting}
use Rattle.sp_rules.specs.Events.{Event, Moment, Sweep, Root, RootAck, Bind, Rebind, Unbind, Lookup, Opened, Refused, Received, Closed, ReadFailed, Bad, WriteFailed, Committed, Parked, GivenBack, Finished, Output, Started, Ended, Withdrawn, Denied, Send, Dial, Close, Ready}
use Rattle.sp_rules.specs.Laws.{AllOf, HasHistory}
use Rattle.sp_rules.specs.Lists.{each, with_some, at_index}
use Rattle.sp_rules.specs.Refusals.{Refusal, refusal}
use Rattle.sp_rules.specs.Space
use Rattle.sp_rules.specs.State.{task_at}
use Rattle.sp_rules.specs.Tasks.{Task, Stand, Runs, AsksFor, HasEnded, is_at_end, stand, step}
use Rattle.sp_rules.specs.Worlds
use Rattle.sp_rules.specs.Worlds.{World, Space, End, Dialler, Accepter, Side, Pipe, Phase, Unopened, Live, Over, grown, put, acts, take_event, after, happens, run, new_space, new_world, WorldEvent, Own, Step, Open, Refuse, Accept, Deliver, ReadFails, WriteFails}
use Rattle.sp_rules.proofs.AllLemmas.{some-none, all-weaken, all-more, all-with}
use Rattle.sp_rules.proofs.LineLemmas.{other-way}
use Rattle.sp_rules.proofs.OwnLemmas.{some-same}
use Rattle.sp_rules.proofs.WorldLemmas.{states_are_histories}
use Rattle.sp_laws.specs.Inbound.{opens, opened, OpensOnce}
use Rattle.sp_laws.specs.Others.{IsToOther, HasTwoEnds, IsOpenedOnce, OpensConnectionsOnce, ConnectionsAreOpenedOnce}
use Rattle.sp_laws.proofs.AwayRules.{Away, on_away, new-away}
use Rattle.sp_laws.proofs.InboundLemmas.{calls_that_come_are_once}

-- ---- rows of lists

index-all : {A : Type 0} (P : A → Type 0) (f : A → A) (n : ℕ) (xs : List A) → ((x : A) → P x → P (f x)) → AllOf P xs → AllOf P (at_index f n xs)
index-all P f n [] h a = tt
index-all P f zero (x ∷ xs) h a = (h x a.0, a.1)
index-all P f (suc n) (x ∷ xs) h a = (a.0, index-all P f n xs h a.1)

all-at : {A : Type 0} (P : A → Type 0) (n : ℕ) (xs : List A) (x : A) → slice_get xs n ≡ Some x → AllOf P xs → P x
all-at P n [] x e a = absurd (some-none x (sym e))
all-at P zero (y ∷ xs) x e a = subst P (some-same e) a.0
all-at P (suc n) (y ∷ xs) x e a = all-at P n xs x e a.1

-- the row of a number is changed
index-at : {A : Type 0} (f : A → A) (n : ℕ) (xs : List A) (x : A) → slice_get xs n ≡ Some x → slice_get (at_index f n xs) n ≡ Some (f x)
index-at f n [] x e = absurd (some-none x (sym e))
index-at {A} f zero (y ∷ xs) x e = ap {A = Option A} {B = Option A} (λ o. Rattle.std.specs.Prelude.option_map f o) e
index-at f (suc n) (y ∷ xs) x e = index-at f n xs x e

past-end : {A : Type 0} (xs : List A) → slice_get xs (length xs) ≡ None
past-end [] = refl
past-end (x ∷ xs) = past-end xs

last-at : {A : Type 0} (xs : List A) (x : A) → slice_get (xs ++ x ∷ []) (length xs) ≡ Some x
last-at [] x = refl
last-at (y ∷ xs) x = last-at xs x

-- what is at a position passes the test
prefix-passes : {A : Type 0} (is : A → Bool) (xs : List A) (x : A) → slice_get xs (prefix_len (λ y. not (is y)) xs) ≡ Some x → is x ≡ true
prefix-passes is [] x e = absurd (some-none x (sym e))
prefix-passes {A} is (y ∷ xs) x e = pick (is y) refl e (prefix-passes is xs x)
  where
    pick : (b : Bool) → is y ≡ b → slice_get (y ∷ xs) (cond (not b) (1 + prefix_len (λ z. not (is z)) xs) 0) ≡ Some x → (slice_get xs (prefix_len (λ z. not (is z)) xs) ≡ Some x → is x ≡ true) → is x ≡ true
    pick true t f rest = subst (λ z. is z ≡ true) (some-same f) t
    pick false t f rest = rest (subst (λ n. slice_get (y ∷ xs) n ≡ Some x) (next (prefix_len (λ z. not (is z)) xs)) f)
      where
        next : (n : ℕ) → 1 + n ≡ suc n
        next n = omega arith

position-passes : {A : Type 0} (is : A → Bool) (xs : List A) (j : ℕ) (x : A) → position is xs ≡ Some j → slice_get xs j ≡ Some x → is x ≡ true
position-passes {A} is xs j x e at = pick (nat_lt (prefix_len (λ y. not (is y)) xs) (length xs)) e
  where
    pick : (b : Bool) → cond b (Some (prefix_len (λ y. not (is y)) xs)) None ≡ Some j → is x ≡ true
    pick true f = prefix-passes is xs x (subst (λ n. slice_get xs n ≡ Some x) (sym (some-same f)) at)
    pick false f = absurd (some-none j (sym f))

-- ---- ends of connections

-- A space is an end of a connection that was opened there.
abbrev pub HasEnd : ℕ → Option Pipe → Type 0
HasEnd i None = ⊥
HasEnd i (Some p) = (p.dialler.space ≡ i) ⊎ ((p.accepter.space ≡ i) × (Worlds.is_unopened p.accepter.phase ≡ false))

-- A side that is changed stays its space's, and open if it was opened.
record IsKeptSide (f : Side → Side) : Type 0 where
  space : (s : Side) → (f s).space ≡ s.space
  phase : (s : Side) → Worlds.is_unopened s.phase ≡ false → Worlds.is_unopened (f s).phase ≡ false

two-sides : (f : Side → Side) → IsKeptSide f → (e : End) (p : Pipe) → HasTwoEnds p → HasTwoEnds (Worlds.set_side f e p)
two-sides f k Dialler p h = λ x. h (sym (k.space p.dialler) ∙ x)
two-sides f k Accepter p h = λ x. h (x ∙ k.space p.accepter)

end-side : (f : Side → Side) → IsKeptSide f → (e : End) (i : ℕ) (p : Pipe) → HasEnd i (Some p) → HasEnd i (Some (Worlds.set_side f e p))
end-side f k Dialler i p (inl d) = inl (k.space p.dialler ∙ d)
end-side f k Dialler i p (inr a) = inr a
end-side f k Accepter i p (inl d) = inl d
end-side f k Accepter i p (inr a) = inr (k.space p.accepter ∙ a.0, k.phase p.accepter a.1)

ends-index : (f : Pipe → Pipe) → ((i : ℕ) (p : Pipe) → HasEnd i (Some p) → HasEnd i (Some (f p))) → (i n conn : ℕ) (ps : List Pipe) → HasEnd i (slice_get ps n) → HasEnd i (slice_get (at_index f conn ps) n)
ends-index f k i n conn [] h = h
ends-index f k i zero zero (p ∷ ps) h = k i p h
ends-index f k i zero (suc conn) (p ∷ ps) h = h
ends-index f k i (suc n) zero (p ∷ ps) h = h
ends-index f k i (suc n) (suc conn) (p ∷ ps) h = ends-index f k i n conn ps h

ends-more : (i n : ℕ) (ps : List Pipe) (q : Pipe) → HasEnd i (slice_get ps n) → HasEnd i (slice_get (ps ++ q ∷ []) n)
ends-more i n [] q h = absurd h
ends-more i zero (p ∷ ps) q h = h
ends-more i (suc n) (p ∷ ps) q h = ends-more i n ps q h

-- ---- what is kept

abbrev pub Apart : ℕ × ℕ → Type 0
Apart p = p.0 ≡ p.1 → ⊥

abbrev pub Opening : Space → Type 0
Opening s = OpensOnce s.history

abbrev pub SpaceAway : Space → Type 0
SpaceAway s = Away s.setting s.state

pub record OnceFor (all : List Space) (w : World) : Type 0 where
  pub same : w.spaces ≡ all
  pub asked : AllOf Apart w.asked
  pub pipes : AllOf HasTwoEnds w.pipes
  pub ends : (i n : ℕ) (s : Space) → slice_get all i ≡ Some s → opened n s.history ≡ true → HasEnd i (slice_get w.pipes n)
  pub once : AllOf Opening all
  pub away : AllOf SpaceAway all

abbrev pub Once : World → Type 0
Once w = OnceFor w.spaces w

once-for : (all : List Space) (w : World) → OnceFor all w → Once w
once-for all w h = subst (λ ss. OnceFor ss w) (sym h.same) h

-- ---- what a space answers goes into the world

-- a Dial of a space finds another one
abbrev FindsOther : List Space → ℕ → Output → Type 0
FindsOther all i (Dial peer) = (j : ℕ) → Worlds.number_of all peer ≡ Some j → i ≡ j → ⊥
FindsOther all i _ = Unit {0}

pipes-once : {all : List Space} {w : World} (conn : ℕ) (f : Pipe → Pipe) → ((p : Pipe) → HasTwoEnds p → HasTwoEnds (f p)) → ((i : ℕ) (p : Pipe) → HasEnd i (Some p) → HasEnd i (Some (f p))) → OnceFor all w → OnceFor all (Worlds.on_pipe f conn w)
pipes-once {all} {w} conn f two k h = record {
  same = h.same;
  asked = h.asked;
  pipes = index-all HasTwoEnds f conn w.pipes two h.pipes;
  ends = λ i n s is t. ends-index f k i n conn w.pipes (h.ends i n s is t);
  once = h.once;
  away = h.away;
}

queue-kept : (m : Message) → IsKeptSide (Worlds.queue_up m)
queue-kept m = record { space = λ s. refl; phase = λ s e. e }

ends-kept : IsKeptSide Worlds.ends
ends-kept = record { space = λ s. refl; phase = λ s e. refl }

put-once : {all : List Space} {w : World} (i : ℕ) (o : Output) → FindsOther all i o → OnceFor all w → OnceFor all (put i w o)
put-once i (Started task) a h = h
put-once i (Ended task outcome) a h = h
put-once i (Withdrawn ids) a h = h
put-once i (Denied why) a h = h
put-once i (Send conn m) a h = pipes-once conn _ (λ p k. two-sides (Worlds.queue_up m) (queue-kept m) (Worlds.other (Worlds.end_of i p)) p k) (λ j p k. end-side (Worlds.queue_up m) (queue-kept m) (Worlds.other (Worlds.end_of i p)) j p k) h
put-once {all} {w} i (Dial peer) a h = asks (Worlds.number_of w.spaces peer) refl
  where
    asks : (j : Option ℕ) → Worlds.number_of w.spaces peer ≡ j → OnceFor all (Worlds.asks_for i j w)
    asks None e = h
    asks (Some j) e = record {
      same = h.same;
      asked = all-more Apart w.asked (i, j) h.asked (a j (subst (λ ss. Worlds.number_of ss peer ≡ Some j) h.same e));
      pipes = h.pipes;
      ends = h.ends;
      once = h.once;
      away = h.away;
    }
put-once i (Close conn) a h = pipes-once conn _ (λ p k. two-sides Worlds.ends ends-kept (Worlds.end_of i p) p k) (λ j p k. end-side Worlds.ends ends-kept (Worlds.end_of i p) j p k) h
put-once i (Ready task) a h = h

puts-once : {all : List Space} (i : ℕ) (outputs : List Output) (w : World) → AllOf (FindsOther all i) outputs → OnceFor all w → OnceFor all (each (put i) outputs w)
unfolding each
puts-once i [] w a h = h
puts-once i (o ∷ outputs) w a h = puts-once i outputs (put i w o) a.1 (put-once i o a.0 h)

-- ---- an event comes to a space

-- If an event opens a connection, it was not opened there, and the space is an end of it.
abbrev IsNew : List Pipe → ℕ → Event → Space → Type 0
IsNew ps i e s = (n : ℕ) → opens n e ≡ true → (opened n s.history ≡ false) × HasEnd i (slice_get ps n)

-- a row of the spaces after one of them grew
grown-at : (e : Event) (i j : ℕ) (ss : List Space) (t : Space) → slice_get (at_index (grown e) i ss) j ≡ Some t → (u : Space) × ((slice_get ss j ≡ Some u) × ((t ≡ u) ⊎ ((i ≡ j) × (t ≡ grown e u))))
grown-at e i j [] t is = absurd (some-none t (sym is))
grown-at e zero zero (s ∷ ss) t is = (s, (refl, inr (refl, sym (some-same is))))
grown-at e zero (suc j) (s ∷ ss) t is = (t, (is, inl refl))
grown-at e (suc i) zero (s ∷ ss) t is = (s, (refl, inl (sym (some-same is))))
grown-at e (suc i) (suc j) (s ∷ ss) t is = let x = grown-at e i j ss t is in (x.0, (x.1.0, next x.1.1))
  where
    next : {u : Space} → (t ≡ u) ⊎ ((i ≡ j) × (t ≡ grown e u)) → (t ≡ u) ⊎ ((suc i ≡ suc j) × (t ≡ grown e u))
    next (inl e) = inl e
    next (inr x) = inr (ap suc x.0, x.1)

grown-once : (e : Event) (i : ℕ) (ss : List Space) (s : Space) → slice_get ss i ≡ Some s → ((n : ℕ) → opens n e ≡ true → opened n s.history ≡ false) → AllOf Opening ss → AllOf Opening (at_index (grown e) i ss)
grown-once e i [] s is new a = tt
grown-once e zero (t ∷ ss) s is new a = (((λ n o. subst (λ (u : Space). opened n u.history ≡ false) (sym (some-same is)) (new n o)), a.0), a.1)
grown-once e (suc i) (t ∷ ss) s is new a = (a.0, grown-once e i ss s is new a.1)

grown-away : (e : Event) (i : ℕ) (ss : List Space) (s : Space) → slice_get ss i ≡ Some s → Away s.setting (Space.on s.setting e s.state).0 → AllOf SpaceAway ss → AllOf SpaceAway (at_index (grown e) i ss)
grown-away e i [] s is k a = tt
grown-away e zero (t ∷ ss) s is k a = (subst (λ (u : Space). Away u.setting (Space.on u.setting e u.state).0) (sym (some-same is)) k, a.1)
grown-away e (suc i) (t ∷ ss) s is k a = (a.0, grown-away e i ss s is k a.1)

finds : (e : Event) (i : ℕ) (ss : List Space) (s : Space) → slice_get ss i ≡ Some s → (o : Output) → IsToOther s.setting o → FindsOther (at_index (grown e) i ss) i o
finds e i ss s is (Dial peer) a = λ j found same. true≢false (sym (position-passes (λ (t : Space). bytes_eq t.setting.id peer) (at_index (grown e) i ss) j (grown e s) found (subst (λ n. slice_get (at_index (grown e) i ss) n ≡ Some (grown e s)) same (index-at (grown e) i ss s is))) ∙ other-way peer s.setting.id a)
finds e i ss s is (Started task) a = tt
finds e i ss s is (Ended task outcome) a = tt
finds e i ss s is (Withdrawn ids) a = tt
finds e i ss s is (Denied why) a = tt
finds e i ss s is (Send conn m) a = tt
finds e i ss s is (Close conn) a = tt
finds e i ss s is (Ready task) a = tt

take-once : (i : ℕ) (e : Event) (s : Space) (lent : List ℕ) (w : World) → slice_get w.spaces i ≡ Some s → refusal s.setting lent s.state e ≡ None → IsNew w.pipes i e s → Once w → Once (take_event i e s w)
unfolding take_event
take-once i e s lent w is t new h = once-for (at_index (grown e) i w.spaces) _ (puts-once i _ _ (all-weaken (IsToOther s.setting) (FindsOther (at_index (grown e) i w.spaces) i) _ (finds e i w.spaces s is) answers.outputs) (record {
  same = refl;
  asked = h.asked;
  pipes = h.pipes;
  ends = λ j n u at o. grows j n u (grown-at e i j w.spaces u at) o;
  once = grown-once e i w.spaces s is (λ n o. (new n o).0) h.once;
  away = grown-away e i w.spaces s is answers.state h.away;
}))
  where
    answers : Rattle.sp_laws.proofs.AwayRules.AsksOthers s.setting (Space.on s.setting e s.state)
    answers = on_away s.setting lent s.state e t (all-at SpaceAway i w.spaces s is h.away)

    grows : (j n : ℕ) (u : Space) → (v : Space) × ((slice_get w.spaces j ≡ Some v) × ((u ≡ v) ⊎ ((i ≡ j) × (u ≡ grown e v)))) → opened n u.history ≡ true → HasEnd j (slice_get w.pipes n)
    grows j n u x o = pick x.1.1
      where
        before : opens n e || opened n x.0.history ≡ true → i ≡ j → HasEnd j (slice_get w.pipes n)
        before f same = by (opens n e) refl f
          where
            by : (b : Bool) → opens n e ≡ b → b || opened n x.0.history ≡ true → HasEnd j (slice_get w.pipes n)
            by true g k = subst (λ m. HasEnd m (slice_get w.pipes n)) same (new n g).1
            by false g k = h.ends j n x.0 x.1.0 k

        pick : (u ≡ x.0) ⊎ ((i ≡ j) × (u ≡ grown e x.0)) → HasEnd j (slice_get w.pipes n)
        pick (inl q) = h.ends j n x.0 x.1.0 (subst (λ (y : Space). opened n y.history ≡ true) q o)
        pick (inr q) = before (subst (λ (y : Space). opened n y.history ≡ true) q.1 o) q.0

-- an event that opens nothing
abbrev Silent : Event → Type 0
Silent e = (n : ℕ) → opens n e ≡ false

abbrev AllNew : World → ℕ → List Event → Type 0
AllNew w i [] = Unit {0}
AllNew w i (e ∷ es) = ((s : Space) → slice_get w.spaces i ≡ Some s → IsNew w.pipes i e s) × AllOf Silent es

silent-new : (w : World) (i : ℕ) (es : List Event) → AllOf Silent es → AllNew w i es
silent-new w i [] q = tt
silent-new w i (e ∷ es) q = ((λ s is n o. absurd (true≢false (sym o ∙ q.0 n))), q.1)

some-once : {A : Type 0} {t : World} (x : Option A) (f : A → World) → Once t → ((a : A) → x ≡ Some a → Once (f a)) → Once (with_some x t f)
some-once None f e h = e
some-once (Some a) f e h = h a refl

refused-once : {w : World} (x : Option Refusal) (f : Refusal → World) → (x ≡ None → Once w) → ((a : Refusal) → Once (f a)) → Once (with_some x w f)
refused-once None f e h = e refl
refused-once (Some a) f e h = h a

if-once : {t u : World} (b : Bool) → (b ≡ true → Once t) → Once u → Once (if b then t else u)
if-once true h k = h refl
if-once false h k = k

same-once : {w : World} (v : World) → v.spaces ≡ w.spaces → AllOf Apart v.asked → AllOf HasTwoEnds v.pipes → ((i n : ℕ) → HasEnd i (slice_get w.pipes n) → HasEnd i (slice_get v.pipes n)) → Once w → Once v
same-once {w} v e a p k h = once-for w.spaces v (record { same = e; asked = a; pipes = p; ends = λ i n s is t. k i n (h.ends i n s is t); once = h.once; away = h.away })

why-once : {w : World} (why : Option Refusal) → Once w → Once (record w { refused = why })
why-once {w} why h = same-once (record w { refused = why }) refl h.asked h.pipes (λ i n x. x) h

acts-once : (before : World) (i : ℕ) (es : List Event) (w : World) → AllNew w i es → Once before → Once w → Once (acts before i es w)
unfolding acts
acts-once before i [] w b old now = now
acts-once before i (e ∷ es) w b old now = some-once (slice_get w.spaces i) _ old (λ s is. refused-once (refusal s.setting (Worlds.lent_for e) s.state e) _
    (λ none. acts-once before i es (take_event i e s w) (silent-new (take_event i e s w) i es b.1) old (take-once i e s (Worlds.lent_for e) w is none (b.0 s is) now))
    (λ why. why-once (Some why) old))

-- ---- all events of a world

side-once : {w : World} (f : Side → Side) (conn : ℕ) (end : End) → IsKeptSide f → Once w → Once (Worlds.on_side f conn end w)
side-once {w} f conn end k h = pipes-once conn (Worlds.set_side f end) (λ p x. two-sides f k end p x) (λ i p x. end-side f k end i p x) h

lent-silent : (id : ℕ) (task : Task) → AllOf Silent (Worlds.step_events id task)
lent-silent id task = at (stand task)
  where
    after-one : (over : Bool) → AllOf Silent (Worlds.events_after id over)
    after-one true = ((λ n. refl), tt)
    after-one false = ((λ n. refl), tt)

    of-op : (op : Op) → AllOf Silent (Worlds.events_of_op id op)
    of-op (Create class) = ((λ n. refl), ((λ n. refl), tt))
    of-op (Get object slot) = ((λ n. refl), ((λ n. refl), tt))
    of-op (Put object slot value) = ((λ n. refl), ((λ n. refl), tt))
    of-op (Call target method arguments) = ((λ n. refl), tt)

    at : (stands : Stand) → AllOf Silent (Worlds.events_at id task stands)
    at Runs = after-one (is_at_end (step task).behaviour)
    at (AsksFor op) = of-op op
    at (HasEnded outcome) = ((λ n. refl), tt)

own-silent : (e : Event) → Worlds.is_own e ≡ true → Silent e
own-silent (Opened conn dialled) own = absurd (true≢false (sym own))
own-silent (Moment moment) own = λ n. refl
own-silent Sweep own = λ n. refl
own-silent (Root method arguments fuel) own = λ n. refl
own-silent (RootAck task) own = λ n. refl
own-silent (Bind name value) own = λ n. refl
own-silent (Rebind name value) own = λ n. refl
own-silent (Unbind name) own = λ n. refl
own-silent (Lookup peer name) own = λ n. refl
own-silent (Refused peer) own = λ n. refl
own-silent (Received conn m) own = λ n. refl
own-silent (Closed conn) own = λ n. refl
own-silent (ReadFailed conn) own = λ n. refl
own-silent (Bad conn) own = λ n. refl
own-silent (WriteFailed conn unsent) own = λ n. refl
own-silent (Committed task k op) own = λ n. refl
own-silent (Parked task k) own = λ n. refl
own-silent (GivenBack task k) own = λ n. refl
own-silent (Finished task k) own = λ n. refl

one-once : (before : World) (i : ℕ) (e : Event) (w : World) → Silent e → Once before → Once w → Once (acts before i (e ∷ []) w)
one-once before i e w q old now = acts-once before i (e ∷ []) w (silent-new w i (e ∷ []) (q, tt)) old now

step-once : (i task : ℕ) (w : World) → Once w → Once (Worlds.step_task i task w)
unfolding Worlds.step_task
step-once i task w h = some-once (slice_get w.spaces i) _ h (λ s is. some-once (task_at s.state task) _ (why-once _ h)
    (λ t found. if-once t.waits (λ e. why-once _ h) (acts-once w i (Worlds.step_events task t.task) w (silent-new w i _ (lent-silent task t.task)) h h)))

pub pair-apart : (a b : ℕ) (ps : List (ℕ × ℕ)) → AllOf Apart ps → list_any (Worlds.is_pair a b) ps ≡ true → a ≡ b → ⊥
pair-apart a b [] k e same = true≢false (sym e)
pair-apart a b (p ∷ ps) k e same = pick (Worlds.is_pair a b p) refl e (pair-apart a b ps k.1)
  where
    left : (x y : Bool) → x && y ≡ true → x ≡ true
    left true y f = refl
    left false y f = absurd (true≢false (sym f))

    right : (x y : Bool) → x && y ≡ true → y ≡ true
    right true y f = f
    right false y f = absurd (true≢false (sym f))

    pick : (t : Bool) → Worlds.is_pair a b p ≡ t → t || list_any (Worlds.is_pair a b) ps ≡ true → (list_any (Worlds.is_pair a b) ps ≡ true → a ≡ b → ⊥) → ⊥
    pick true is f rest = k.0 (eqb-true p.0 a (left (p.0 == a) (p.1 == b) is) ∙ same ∙ sym (eqb-true p.1 b (right (p.0 == a) (p.1 == b) is)))
    pick false is f rest = rest f same

fewer-apart : (a b : ℕ) (ps : List (ℕ × ℕ)) → AllOf Apart ps → AllOf Apart (Worlds.without_pair a b ps)
fewer-apart a b [] k = tt
fewer-apart a b (p ∷ ps) k = pick (Worlds.is_pair a b p) (fewer-apart a b ps k.1)
  where
    pick : (t : Bool) → AllOf Apart (Worlds.without_pair a b ps) → AllOf Apart (if t then ps else p ∷ Worlds.without_pair a b ps)
    pick true rest = k.1
    pick false rest = (k.0, rest)

front-kept : IsKeptSide Worlds.take_front
front-kept = record { space = λ s. refl; phase = λ s e. e }

cut-kept : (n : ℕ) → IsKeptSide (Worlds.cut_end n)
cut-kept n = record { space = λ s. refl; phase = λ s e. e }

begin-kept : IsKeptSide Worlds.begin_side
begin-kept = record { space = λ s. refl; phase = λ s e. refl }

open-once : (a b : ℕ) (w : World) → Once w → Once (Worlds.open_pipe a b w)
unfolding Worlds.open_pipe
open-once a b w h = if-once (Worlds.is_asked a b w) (λ asked. acts-once w a (Opened (length w.pipes) (Worlds.id_at b w) ∷ []) ready ((λ s is n o. new s is n (eqb-true (length w.pipes) n o)), tt) h
    (same-once ready refl (fewer-apart a b w.asked h.asked) (all-more HasTwoEnds w.pipes (Worlds.new_pipe a b) h.pipes (pair-apart a b w.asked h.asked asked)) (λ i n x. ends-more i n w.pipes (Worlds.new_pipe a b) x) h)) h
  where
    ready : World
    ready = record w { asked = Worlds.without_pair a b w.asked; pipes = w.pipes ++ Worlds.new_pipe a b ∷ [] }

    shut : (s : Space) → slice_get w.spaces a ≡ Some s → opened (length w.pipes) s.history ≡ false
    shut s is = pick (opened (length w.pipes) s.history) refl
      where
        pick : (t : Bool) → opened (length w.pipes) s.history ≡ t → t ≡ false
        pick true e = absurd (subst (HasEnd a) (past-end w.pipes) (h.ends a (length w.pipes) s is e))
        pick false e = refl

    new : (s : Space) → slice_get w.spaces a ≡ Some s → (n : ℕ) → length w.pipes ≡ n → (opened n s.history ≡ false) × HasEnd a (slice_get (w.pipes ++ Worlds.new_pipe a b ∷ []) n)
    new s is n e = (subst (λ m. opened m s.history ≡ false) e (shut s is), subst (λ m. HasEnd a (slice_get (w.pipes ++ Worlds.new_pipe a b ∷ []) m)) e (subst (HasEnd a) (sym (last-at w.pipes (Worlds.new_pipe a b))) (inl refl)))

accept-once : (conn : ℕ) (w : World) → Once w → Once (Worlds.accept conn w)
unfolding Worlds.accept
accept-once conn w h = some-once (slice_get w.pipes conn) _ h (λ p is. at p is p.accepter.phase refl)
  where
    at : (p : Pipe) → slice_get w.pipes conn ≡ Some p → (phase : Phase) → p.accepter.phase ≡ phase → Once (Worlds.accept_at conn w p.accepter.space phase)
    at p is Live e = h
    at p is Over e = h
    at p is Unopened e = acts-once w p.accepter.space (Opened conn None ∷ []) (Worlds.on_side Worlds.begin_side conn Accepter w) ((λ s found n o. new s found n (eqb-true conn n o)), tt) h (side-once Worlds.begin_side conn Accepter begin-kept h)
      where
        shut : (s : Space) → slice_get w.spaces p.accepter.space ≡ Some s → opened conn s.history ≡ false
        shut s found = pick (opened conn s.history) refl
          where
            not-both : HasEnd p.accepter.space (Some p) → ⊥
            not-both (inl d) = all-at HasTwoEnds conn w.pipes p is h.pipes d
            not-both (inr a) = true≢false (sym (ap Worlds.is_unopened e) ∙ a.1)

            pick : (t : Bool) → opened conn s.history ≡ t → t ≡ false
            pick true o = absurd (not-both (subst (HasEnd p.accepter.space) is (h.ends p.accepter.space conn s found o)))
            pick false o = refl

        new : (s : Space) → slice_get w.spaces p.accepter.space ≡ Some s → (n : ℕ) → conn ≡ n → (opened n s.history ≡ false) × HasEnd p.accepter.space (slice_get (at_index (Worlds.set_side Worlds.begin_side Accepter) conn w.pipes) n)
        new s found n same = (
          subst (λ m. opened m s.history ≡ false) same (shut s found),
          subst (λ m. HasEnd p.accepter.space (slice_get (at_index (Worlds.set_side Worlds.begin_side Accepter) conn w.pipes) m)) same
              (subst (HasEnd p.accepter.space) (sym (index-at (Worlds.set_side Worlds.begin_side Accepter) conn w.pipes p is)) (inr (refl, refl))),
        )

happens-once : (e : WorldEvent) (w : World) → Once w → Once (happens e w)
unfolding Worlds.refuse Worlds.deliver Worlds.read_fails Worlds.write_fails
happens-once (Own i e) w h = if-once (Worlds.is_own e) (λ own. one-once w i e w (own-silent e own) h h) h
happens-once (Step i task) w h = step-once i task w h
happens-once (Open a c) w h = open-once a c w h
happens-once (Refuse a c) w h = if-once (Worlds.is_asked a c w) (λ asked. to (Worlds.id_at c w)) h
  where
    to : (peer : Option Uuid) → Once (Worlds.refuse_to w a peer (record w { asked = Worlds.without_pair a c w.asked }))
    to None = h
    to (Some peer) = one-once w a (Refused peer) (record w { asked = Worlds.without_pair a c w.asked }) (λ n. refl) h (same-once (record w { asked = Worlds.without_pair a c w.asked }) refl (fewer-apart a c w.asked h.asked) h.pipes (λ i n x. x) h)
happens-once (Accept conn) w h = accept-once conn w h
happens-once (Deliver conn end) w h = some-once (slice_get w.pipes conn) _ h (λ p is. if-once (Worlds.is_live (Worlds.side end p).phase) (λ live. first (Worlds.side end p).space (Worlds.is_ended (Worlds.side (Worlds.other end) p).phase) (Worlds.side end p).queue) h)
  where
    first : (space : ℕ) (over : Bool) (queue : List Message) → Once (Worlds.deliver_first conn end w space over queue)
    first space over (m ∷ ms) = one-once w space (Received conn m) (Worlds.on_side Worlds.take_front conn end w) (λ n. refl) h (side-once Worlds.take_front conn end front-kept h)
    first space true [] = one-once w space (Closed conn) (Worlds.on_side Worlds.ends conn end w) (λ n. refl) h (side-once Worlds.ends conn end ends-kept h)
    first space false [] = h
happens-once (ReadFails conn end) w h = some-once (slice_get w.pipes conn) _ h (λ p is.
    if-once (Worlds.is_live (Worlds.side end p).phase) (λ live. one-once w (Worlds.side end p).space (ReadFailed conn) (Worlds.on_side Worlds.ends conn end w) (λ n. refl) h (side-once Worlds.ends conn end ends-kept h)) h)
happens-once (WriteFails conn end unsent) w h = some-once (slice_get w.pipes conn) _ h (λ p is.
    if-once (Worlds.is_live (Worlds.side end p).phase) (λ live. one-once w (Worlds.side end p).space (WriteFailed conn (Worlds.lost unsent end p)) _ (λ n. refl) h
    (side-once {w = Worlds.on_side (Worlds.cut_end (Worlds.lost unsent end p)) conn (Worlds.other end) w} Worlds.ends conn end ends-kept (side-once {w = w} (Worlds.cut_end (Worlds.lost unsent end p)) conn (Worlds.other end) (cut-kept (Worlds.lost unsent end p)) h))) h)

run-once : (events : List WorldEvent) (w : World) → Once w → Once (run w events)
unfolding run after
run-once [] w h = h
run-once (e ∷ es) w h = run-once es (happens e (record w { refused = None })) (happens-once e (record w { refused = None }) (why-once {w = w} None h))

-- ---- a new world

news : (settings : List Setting) → AllOf Opening (map new_space settings) × AllOf SpaceAway (map new_space settings)
news [] = (tt, tt)
news (g ∷ gs) = let rest = news gs in ((tt, rest.0), (new-away g, rest.1))

not-opened : (settings : List Setting) (i n : ℕ) (s : Space) → slice_get (map new_space settings) i ≡ Some s → opened n s.history ≡ true → ⊥
not-opened [] i n s is o = some-none s (sym is)
not-opened (g ∷ gs) zero n s is o = true≢false (sym o ∙ sym (ap (λ (u : Space). opened n u.history) (some-same is)))
not-opened (g ∷ gs) (suc i) n s is o = not-opened gs i n s is o

pub once_run : (settings : List Setting) (events : List WorldEvent) → Once (run (new_world settings) events)
unfolding new_world
once_run settings events = run-once events (new_world settings) (record {
  same = refl;
  asked = tt;
  pipes = tt;
  ends = λ i n s is o. absurd (not-opened settings i n s is o);
  once = (news settings).0;
  away = (news settings).1;
})

pub connections_are_opened_once : ConnectionsAreOpenedOnce
connections_are_opened_once settings events = ends (run (new_world settings) events) (states_are_histories settings events) (once_run settings events)
  where
    came : (s : Space) → HasHistory s → Opening s → IsOpenedOnce s
    came s e o = (o, subst Rattle.sp_laws.specs.Inbound.CallsCameOnce (sym e) (calls_that_come_are_once s.setting s.history o))

    ends : (w : World) → AllOf HasHistory w.spaces → Once w → OpensConnectionsOnce w
    ends w hs h = record { spaces = all-with HasHistory Opening IsOpenedOnce w.spaces came hs h.once; pipes = h.pipes }
