-- In every run of every world each root has its tree.
use mathlib.Core.Path.{sym, ap, subst, ◌∙◌}
use Rattle.std.specs.Prelude.{◌≡◌, refl, zero, suc, ℕ, ◌+◌, ◌≤◌, ◌==◌, ◌&&◌, Bool, true, false, List, [], ◌∷◌, ◌++◌, length, map, slice_get, Option, None, Some, if◌then◌else◌}
use Rattle.std.proofs.Common.{arith}
use Rattle.std.proofs.lemmas.Bool.{true≢false, eqb-true, eq-eqb}
use Rattle.net_message.specs.declared.message.Message.{Message}
use Rattle.uuid.specs.declared.Uuid.{Uuid}
use Rattle.sp_rules.specs.Behaviours
use Rattle.sp_rules.specs.Classes.{Setting}
use Rattle.sp_rules.specs.Events.{Event, Output, Started, Ended, Withdrawn, Denied, Send, Dial, Close, Ready, Moment, Sweep, Root, RootAck, Bind, Rebind, Unbind, Lookup, Opened, Refused, Received, Closed, ReadFailed, Bad, WriteFailed, Committed, Parked, GivenBack, Finished}
use Rattle.sp_rules.specs.Laws.{AllOf, HasHistory}
use Rattle.sp_rules.specs.Lists.{with_some, each, at_index}
use Rattle.sp_rules.specs.Refusals
use Rattle.sp_rules.specs.Space
use Rattle.sp_rules.specs.State.{State, Living, task_at, ready_at, that_is_ready}
use Rattle.sp_rules.specs.Tasks
use Rattle.sp_rules.specs.Tasks.{Stand, Runs, AsksFor, HasEnded, stand, steps}
use Rattle.sp_rules.specs.Worlds
use Rattle.sp_rules.specs.Worlds.{World, Space, Side, End, Dialler, Accepter, Pipe, grown, put, acts, take_event, after, happens, run, new_space, new_world, set_side, on_side, on_pipe, WorldEvent, Own, Step, Open, Refuse, Accept, Deliver, ReadFails, WriteFails}
use Rattle.sp_rules.proofs.AllLemmas.{some-none}
use Rattle.sp_rules.proofs.OwnLemmas.{some-same}
use Rattle.sp_laws.specs.Roots.{with_call, with_calls, call_of, calls_after, calls_of_run, dialler_in, root_alone, tree_of, RootsHaveTrees, RootsSpendTheirFuel}
use Rattle.sp_laws.specs.Trees.{Tree, part_of, has_task, stands_at_call, DialsOwn, FitsTree, FitsHistory, AllFrom}
use Rattle.sp_laws.proofs.CallNumbers.{call-made}
use Rattle.sp_laws.proofs.GrownTrees.{calls_in, KnownOrigin, DialledBy, KnownEvent, Known, Quiet, quiet-known, quiet-fits, origin-more, AgreesOn, origin-agrees, late, fresh-origin, Grown, noted, calls-grow, calls-here, calls-set, past, take-grown}
use Rattle.sp_laws.proofs.TreeOfWorlds.{Holds, all-at, happens_holds, plain, begins, fuel_is_bounded_in_trees}

-- ---- who dialled

-- Each connection of the world was dialled by this space.
abbrev IsDialled : (ℕ → ℕ) → World → Type 0
IsDialled dialler w = (conn : ℕ) (p : Pipe) → slice_get w.pipes conn ≡ Some p → p.dialler.space ≡ dialler conn

-- a connection that is changed, and was dialled by the same space
index-some : (f : Pipe → Pipe) → ((p : Pipe) → (f p).dialler.space ≡ p.dialler.space) → (conn n : ℕ) (ps : List Pipe) (p : Pipe) → slice_get ps n ≡ Some p → (q : Pipe) × ((slice_get (at_index f conn ps) n ≡ Some q) × (q.dialler.space ≡ p.dialler.space))
index-some f same conn n [] p is = absurd (some-none p (sym is))
index-some f same zero zero (x ∷ ps) p is = (f x, (refl, same x ∙ ap (λ (y : Pipe). y.dialler.space) (some-same is)))
index-some f same zero (suc n) (x ∷ ps) p is = (p, (is, refl))
index-some f same (suc conn) zero (x ∷ ps) p is = (p, (is, refl))
index-some f same (suc conn) (suc n) (x ∷ ps) p is = index-some f same conn n ps p is

on-pipe-dialled : (dialler : ℕ → ℕ) (f : Pipe → Pipe) → ((p : Pipe) → (f p).dialler.space ≡ p.dialler.space) → (conn : ℕ) (w : World) → IsDialled dialler (on_pipe f conn w) → IsDialled dialler w
on-pipe-dialled dialler f same conn w r = λ n p is. let q : (q : Pipe) × ((slice_get (at_index f conn w.pipes) n ≡ Some q) × (q.dialler.space ≡ p.dialler.space)) = index-some f same conn n w.pipes p is in sym q.1.1 ∙ r n q.0 q.1.0

side-same : (f : Side → Side) → ((s : Side) → (f s).space ≡ s.space) → (end : End) (p : Pipe) → (set_side f end p).dialler.space ≡ p.dialler.space
side-same f same Dialler p = same p.dialler
side-same f same Accepter p = refl

on-side-dialled : (dialler : ℕ → ℕ) (f : Side → Side) → ((s : Side) → (f s).space ≡ s.space) → (conn : ℕ) (end : End) (w : World) → IsDialled dialler (on_side f conn end w) → IsDialled dialler w
on-side-dialled dialler f same conn end w r = on-pipe-dialled dialler (set_side f end) (side-same f same end) conn w r

asks-dialled : (dialler : ℕ → ℕ) (i : ℕ) (j : Option ℕ) (w : World) → IsDialled dialler (Worlds.asks_for i j w) → IsDialled dialler w
asks-dialled dialler i None w r = r
asks-dialled dialler i (Some j) w r = r

put-dialled : (dialler : ℕ → ℕ) (i : ℕ) (w : World) (o : Output) → IsDialled dialler (put i w o) → IsDialled dialler w
put-dialled dialler i w (Started task) r = r
put-dialled dialler i w (Ended task outcome) r = r
put-dialled dialler i w (Withdrawn ids) r = r
put-dialled dialler i w (Denied why) r = r
put-dialled dialler i w (Send conn m) r = on-pipe-dialled dialler _ (λ p. side-same (Worlds.queue_up m) (λ s. refl) (Worlds.other (Worlds.end_of i p)) p) conn w r
put-dialled dialler i w (Dial peer) r = asks-dialled dialler i (Worlds.number_of w.spaces peer) w r
put-dialled dialler i w (Close conn) r = on-pipe-dialled dialler _ (λ p. side-same Worlds.ends (λ s. refl) (Worlds.end_of i p) p) conn w r
put-dialled dialler i w (Ready task) r = r

each-dialled : (dialler : ℕ → ℕ) (i : ℕ) (os : List Output) (w : World) → IsDialled dialler (each (put i) os w) → IsDialled dialler w
unfolding each
each-dialled dialler i [] w r = r
each-dialled dialler i (o ∷ os) w r = put-dialled dialler i w o (each-dialled dialler i os (put i w o) r)

asks-spaces : (i : ℕ) (j : Option ℕ) (w : World) → (Worlds.asks_for i j w).spaces ≡ w.spaces
asks-spaces i None w = refl
asks-spaces i (Some j) w = refl

put-spaces : (i : ℕ) (w : World) (o : Output) → (put i w o).spaces ≡ w.spaces
put-spaces i w (Started task) = refl
put-spaces i w (Ended task outcome) = refl
put-spaces i w (Withdrawn ids) = refl
put-spaces i w (Denied why) = refl
put-spaces i w (Send conn m) = refl
put-spaces i w (Dial peer) = asks-spaces i (Worlds.number_of w.spaces peer) w
put-spaces i w (Close conn) = refl
put-spaces i w (Ready task) = refl

each-spaces : (i : ℕ) (os : List Output) (w : World) → (each (put i) os w).spaces ≡ w.spaces
unfolding each
each-spaces i [] w = refl
each-spaces i (o ∷ os) w = each-spaces i os (put i w o) ∙ put-spaces i w o

-- ---- events

-- if the diallers are right, the calls are those of a tree
abbrev Goes : Tree → (ℕ → ℕ → Bool) → World → Type 0
Goes tree has w = IsDialled tree.dialler w → Grown tree has w.spaces

take-dialled : (dialler : ℕ → ℕ) (i : ℕ) (e : Event) (s : Space) (w : World) → IsDialled dialler (take_event i e s w) → IsDialled dialler w
unfolding take_event
take-dialled dialler i e s w r = each-dialled dialler i (Space.on s.setting e s.state).1 (record w { spaces = at_index (grown e) i w.spaces }) r

-- what an event needs
abbrev IsReady : Tree → (ℕ → ℕ → Bool) → World → ℕ → Event → Type 0
IsReady tree has w i e = (s : Space) → slice_get w.spaces i ≡ Some s → IsDialled tree.dialler (take_event i e s w) → Grown tree has w.spaces
    → FitsTree (part_of (with_calls tree has) i) (past s) e × KnownEvent (calls_in (at_index (grown e) i w.spaces)) tree.dialler i (past s) e

abbrev AllReady : Tree → (ℕ → ℕ → Bool) → World → ℕ → List Event → Type 0
AllReady tree has w i [] = Unit {0}
AllReady tree has w i (e ∷ es) = IsReady tree has w i e × AllOf Quiet es

quiet-ready : (tree : Tree) (has : ℕ → ℕ → Bool) (w : World) (i : ℕ) (es : List Event) → AllOf Quiet es → AllReady tree has w i es
quiet-ready tree has w i [] q = tt
quiet-ready tree has w i (e ∷ es) q = ((λ s is r h. (quiet-fits (part_of (with_calls tree has) i) (past s) e q.0, quiet-known (calls_in (at_index (grown e) i w.spaces)) tree.dialler i (past s) e q.0)), q.1)

some-goes : {A : Type 0} (tree : Tree) (has : ℕ → ℕ → Bool) (t : World) (x : Option A) (f : A → World) → Goes tree has t → ((a : A) → x ≡ Some a → Goes tree has (f a)) → Goes tree has (with_some x t f)
some-goes tree has t None f h k = h
some-goes tree has t (Some a) f h k = k a refl

if-goes : (tree : Tree) (has : ℕ → ℕ → Bool) (t u : World) (b : Bool) → (b ≡ true → Goes tree has t) → Goes tree has u → Goes tree has (if b then t else u)
if-goes tree has t u true h k = h refl
if-goes tree has t u false h k = k

take-goes : (tree : Tree) (has : ℕ → ℕ → Bool) (i : ℕ) (e : Event) (s : Space) (w : World) → slice_get w.spaces i ≡ Some s → IsReady tree has w i e → Goes tree has w → Goes tree has (take_event i e s w)
unfolding take_event
take-goes tree has i e s w is ready h = λ r.
    let before : Grown tree has w.spaces = h (take-dialled tree.dialler i e s w r) in
    let fit : FitsTree (part_of (with_calls tree has) i) (past s) e × KnownEvent (calls_in (at_index (grown e) i w.spaces)) tree.dialler i (past s) e = ready s is r before in
    subst (Grown tree has) (sym (each-spaces i (Space.on s.setting e s.state).1 (record w { spaces = at_index (grown e) i w.spaces }))) (take-grown i e s is fit.0 fit.1 before)

acts-goes : (tree : Tree) (has : ℕ → ℕ → Bool) (before : World) (i : ℕ) (es : List Event) (w : World) → AllReady tree has w i es → Goes tree has before → Goes tree has w → Goes tree has (acts before i es w)
unfolding acts
acts-goes tree has before i [] w ready old h = h
acts-goes tree has before i (e ∷ es) w ready old h = some-goes tree has before (slice_get w.spaces i) _ old (λ s is.
    none-goes s (Refusals.refusal s.setting (Worlds.lent_for e) s.state e) (acts-goes tree has before i es (take_event i e s w) (quiet-ready tree has (take_event i e s w) i es ready.1) old (take-goes tree has i e s w is ready.0 h)))
  where
    none-goes : (s : Space) (x : Option Refusals.Refusal) → Goes tree has (acts before i es (take_event i e s w)) → Goes tree has (with_some x (acts before i es (take_event i e s w)) (λ why. record before { refused = Some why }))
    none-goes s None k = k
    none-goes s (Some why) k = old

-- ---- a step

with-here : (i n : ℕ) (b : Bool) (has : ℕ → ℕ → Bool) → with_call i n b has i n ≡ b
with-here i n b has = ap (λ x. if x && n == n then b else has i n) (eq-eqb i i refl) ∙ ap (λ x. if x then b else has i n) (eq-eqb n n refl)

with-agrees : (spaces : List Space) (i : ℕ) (b : Bool) (has : ℕ → ℕ → Bool) (c : ℕ) → calls_in spaces i ≡ c → AgreesOn (calls_in spaces) has (with_call i (c + 1) b has)
unfolding AgreesOn
with-agrees spaces i b has c same = λ a n le. pick a n le (a == i) refl (n == c + 1) refl
  where
    pick : (a n : ℕ) → n ≤ calls_in spaces a → (x : Bool) → (a == i) ≡ x → (y : Bool) → (n == c + 1) ≡ y → (if x && y then b else has a n) ≡ has a n
    pick a n le true e true f =
        let p : a ≡ i = eqb-true a i e in
        let q : n ≡ c + 1 = eqb-true n (c + 1) f in
        let here : calls_in spaces a ≡ calls_in spaces i = ap (calls_in spaces) p in absurd (omega (arith, le, same))
    pick a n le true e false f = refl
    pick a n le false e y f = refl

step-goes : (tree : Tree) (has : ℕ → ℕ → Bool) (i task : ℕ) (w : World) → ((t : Tree) → Holds t 0 w) → Goes tree has w → Goes tree (calls_after tree w (Step i task) has) (Worlds.step_task i task w)
unfolding Worlds.step_task
step-goes tree has i task w law h = at-space (slice_get w.spaces i) refl
  where
    refused : World
    refused = record w { refused = Some Refusals.NotLent }

    made : ℕ → ℕ
    made = calls_in w.spaces

    -- a call is made
    calls-goes : (s : Space) → slice_get w.spaces i ≡ Some s → (t : Living) → task_at s.state task ≡ Some t → t.waits ≡ false → stands_at_call (stand t.task) ≡ true
        → Goes tree (with_call i (s.state.calls_made + 1) (has_task (part_of (with_calls tree has) i) t) has) (acts w i (Parked task 0 ∷ []) w)
    calls-goes s is t there quiet calls = acts-goes tree other w i (Parked task 0 ∷ []) w (ready, tt) now now
      where
        b : Bool
        b = has_task (part_of (with_calls tree has) i) t

        other : ℕ → ℕ → Bool
        other = with_call i (s.state.calls_made + 1) b has

        agree : AgreesOn made has other
        agree = with-agrees w.spaces i b has s.state.calls_made (calls-here i w.spaces s is)

        now : Goes tree other w
        now = λ r. noted other agree (h r)

        more : List Space
        more = at_index (grown (Parked task 0)) i w.spaces

        here : (r : Grown tree other w.spaces) → FitsTree (part_of (with_calls tree other) i) (past s) (Parked task 0) × KnownEvent (calls_in more) tree.dialler i (past s) (Parked task 0)
        here r = (
          (λ u found stands. ap (λ (x : State). other i (x.calls_made + 1)) (sym history) ∙ with-here i (s.state.calls_made + 1) b has ∙ sym (origin-agrees tree made has other agree i t.id t.origin fresh) ∙ ap (has_task (part_of (with_calls tree other) i)) (same u found)),
          (λ u found stands. (
            subst (λ n. (past s).calls_made + 1 ≤ n) (sym (calls-set (Parked task 0) i w.spaces s is ∙ ap (λ x. (Space.on s.setting (Parked task 0) x).0.calls_made) history)) (call-made s.setting s.history task 0 u found stands),
            subst (λ (x : Living). KnownOrigin (calls_in more) tree.dialler x.origin) (same u found) (origin-more made (calls_in more) tree.dialler (calls-grow (Parked task 0) i w.spaces r.histories) t.origin fresh),
          )),
        )
          where
            history : s.state ≡ past s
            history = all-at HasHistory i w.spaces s is r.histories

            fresh : KnownOrigin made tree.dialler t.origin
            fresh = fresh-origin tree.dialler w i task s t (law (late made tree.dialler)) r.known is there calls

            is-ready : ready_at s.state task ≡ Some t
            is-ready = ap that_is_ready there ∙ ap (λ x. if x then None else Some t) quiet

            same : (u : Living) → ready_at (past s) task ≡ Some u → t ≡ u
            same u found = some-same (sym (subst (λ x. ready_at x task ≡ Some t) history is-ready) ∙ found)

        ready : IsReady tree other w i (Parked task 0)
        ready = λ v found r grows. subst (λ (x : Space). FitsTree (part_of (with_calls tree other) i) (past x) (Parked task 0) × KnownEvent (calls_in more) tree.dialler i (past x) (Parked task 0)) (some-same (sym is ∙ found)) (here grows)

    quiet-goes : (es : List Event) → AllOf Quiet es → Goes tree has (acts w i es w)
    quiet-goes es q = acts-goes tree has w i es w (quiet-ready tree has w i es q) h h

    after-quiet : (over : Bool) → AllOf Quiet (Worlds.events_after task over)
    after-quiet true = (tt, tt)
    after-quiet false = (tt, tt)

    at-stand : (s : Space) → slice_get w.spaces i ≡ Some s → (t : Living) → task_at s.state task ≡ Some t → t.waits ≡ false → (stands : Stand) → stand t.task ≡ stands
        → Goes tree (if stands_at_call stands then with_call i (s.state.calls_made + 1) (has_task (part_of (with_calls tree has) i) t) has else has) (acts w i (Worlds.events_at task t.task stands) w)
    at-stand s is t there quiet Runs e = quiet-goes (Worlds.events_after task (Tasks.is_at_end (Tasks.step t.task).behaviour)) (after-quiet (Tasks.is_at_end (Tasks.step t.task).behaviour))
    at-stand s is t there quiet (AsksFor (Behaviours.Create class)) e = quiet-goes _ (tt, (tt, tt))
    at-stand s is t there quiet (AsksFor (Behaviours.Get object slot)) e = quiet-goes _ (tt, (tt, tt))
    at-stand s is t there quiet (AsksFor (Behaviours.Put object slot value)) e = quiet-goes _ (tt, (tt, tt))
    at-stand s is t there quiet (AsksFor (Behaviours.Call target method arguments)) e = calls-goes s is t there quiet (ap stands_at_call e)
    at-stand s is t there quiet (HasEnded outcome) e = quiet-goes _ (tt, tt)

    at-wait : (s : Space) → slice_get w.spaces i ≡ Some s → (t : Living) → task_at s.state task ≡ Some t → (b : Bool) → t.waits ≡ b
        → Goes tree (with_some (if b then None else Some t) has (λ u. call_of tree i s u has)) (if b then refused else acts w i (Worlds.step_events task t.task) w)
    at-wait s is t there true e = h
    at-wait s is t there false e = at-stand s is t there e (stand t.task) refl

    at-task : (s : Space) → slice_get w.spaces i ≡ Some s → (o : Option Living) → task_at s.state task ≡ o
        → Goes tree (with_some (that_is_ready o) has (λ u. call_of tree i s u has)) (with_some o refused (λ t. if t.waits then refused else acts w i (Worlds.step_events task t.task) w))
    at-task s is None e = h
    at-task s is (Some t) e = at-wait s is t e t.waits refl

    at-space : (o : Option Space) → slice_get w.spaces i ≡ o
        → Goes tree (with_some o has (λ s. with_some (ready_at s.state task) has (λ t. call_of tree i s t has)))
        (with_some o w (λ s. with_some (task_at s.state task) refused (λ t. if t.waits then refused else acts w i (Worlds.step_events task t.task) w)))
    at-space None e = h
    at-space (Some s) e = at-task s e (task_at s.state task) refl

-- ---- all events of a world

own-quiet : (e : Event) → Worlds.is_own e ≡ true → Quiet e
own-quiet (Moment moment) own = tt
own-quiet Sweep own = tt
own-quiet (Root method arguments fuel) own = tt
own-quiet (RootAck task) own = tt
own-quiet (Bind name value) own = tt
own-quiet (Rebind name value) own = tt
own-quiet (Unbind name) own = tt
own-quiet (Lookup peer name) own = tt
own-quiet (Opened conn dialled) own = absurd (true≢false (sym own))
own-quiet (Refused peer) own = tt
own-quiet (Received conn m) own = tt
own-quiet (Closed conn) own = tt
own-quiet (ReadFailed conn) own = tt
own-quiet (Bad conn) own = tt
own-quiet (WriteFailed conn unsent) own = tt
own-quiet (Committed task k op) own = tt
own-quiet (Parked task k) own = absurd (true≢false (sym own))
own-quiet (GivenBack task k) own = tt
own-quiet (Finished task k) own = tt

-- a quiet event in a world that is made ready
one-goes : (tree : Tree) (has : ℕ → ℕ → Bool) (before : World) (i : ℕ) (e : Event) (w : World) → Quiet e → Goes tree has before → Goes tree has w → Goes tree has (acts before i (e ∷ []) w)
one-goes tree has before i e w q old h = acts-goes tree has before i (e ∷ []) w (quiet-ready tree has w i (e ∷ []) (q, tt)) old h

some-more : (ps : List Pipe) (y : Pipe) (n : ℕ) (p : Pipe) → slice_get ps n ≡ Some p → slice_get (ps ++ y ∷ []) n ≡ Some p
some-more [] y n p is = absurd (some-none p (sym is))
some-more (x ∷ ps) y zero p is = is
some-more (x ∷ ps) y (suc n) p is = some-more ps y n p is

last-one : (ps : List Pipe) (y : Pipe) → slice_get (ps ++ y ∷ []) (length ps) ≡ Some y
last-one [] y = refl
last-one (x ∷ ps) y = last-one ps y

open-goes : (tree : Tree) (has : ℕ → ℕ → Bool) (a b : ℕ) (w : World) → Goes tree has w → Goes tree has (Worlds.open_pipe a b w)
unfolding Worlds.open_pipe
open-goes tree has a b w h = if-goes tree has _ w (Worlds.is_asked a b w) (λ asked. acts-goes tree has w a (Opened (length w.pipes) (Worlds.id_at b w) ∷ []) opened ((λ s is r grows. dials (Worlds.id_at b w) (take-dialled tree.dialler a (Opened (length w.pipes) (Worlds.id_at b w)) s opened r (length w.pipes) (Worlds.new_pipe a b) (last-one w.pipes (Worlds.new_pipe a b)))), tt) h
    (λ r. h (λ n p is. r n p (some-more w.pipes (Worlds.new_pipe a b) n p is)))) h
  where
    opened : World
    opened = record w { asked = Worlds.without_pair a b w.asked; pipes = w.pipes ++ Worlds.new_pipe a b ∷ [] }

    dials : (peer : Option Uuid) → a ≡ tree.dialler (length w.pipes) → DialsOwn (part_of (with_calls tree has) a) (length w.pipes) peer × DialledBy tree.dialler a (length w.pipes) peer
    dials None own = (tt, tt)
    dials (Some peer) own = ((λ number. ap (λ x. has x number) (sym own)), sym own)

accept-goes : (tree : Tree) (has : ℕ → ℕ → Bool) (conn : ℕ) (w : World) → Goes tree has w → Goes tree has (Worlds.accept conn w)
unfolding Worlds.accept
accept-goes tree has conn w h = some-goes tree has w (slice_get w.pipes conn) _ h (λ p is. at p.accepter.space p.accepter.phase)
  where
    at : (space : ℕ) (phase : Worlds.Phase) → Goes tree has (Worlds.accept_at conn w space phase)
    at space Worlds.Unopened = acts-goes tree has w space (Opened conn None ∷ []) (on_side Worlds.begin_side conn Accepter w) ((λ s is r grows. (tt, tt)), tt) h (λ r. h (on-side-dialled tree.dialler Worlds.begin_side (λ s. refl) conn Accepter w r))
    at space Worlds.Live = h
    at space Worlds.Over = h

happens-goes : (tree : Tree) (has : ℕ → ℕ → Bool) (e : WorldEvent) (w : World) → ((t : Tree) → Holds t 0 w) → Goes tree has w → Goes tree (calls_after tree w e has) (happens e w)
unfolding Worlds.refuse Worlds.deliver Worlds.read_fails Worlds.write_fails
happens-goes tree has (Own i e) w law h = if-goes tree has _ w (Worlds.is_own e) (λ own. one-goes tree has w i e w (own-quiet e own) h h) h
happens-goes tree has (Step i task) w law h = step-goes tree has i task w law h
happens-goes tree has (Open a b) w law h = open-goes tree has a b w h
happens-goes tree has (Refuse a b) w law h = if-goes tree has _ w (Worlds.is_asked a b w) (λ asked. to (Worlds.id_at b w)) h
  where
    to : (peer : Option Uuid) → Goes tree has (Worlds.refuse_to w a peer (record w { asked = Worlds.without_pair a b w.asked }))
    to None = h
    to (Some peer) = one-goes tree has w a (Refused peer) (record w { asked = Worlds.without_pair a b w.asked }) tt h h
happens-goes tree has (Accept conn) w law h = accept-goes tree has conn w h
happens-goes tree has (Deliver conn to) w law h = some-goes tree has w (slice_get w.pipes conn) _ h (λ p is. if-goes tree has _ w (Worlds.is_live (Worlds.side to p).phase) (λ live. first (Worlds.side to p).space (Worlds.is_ended (Worlds.side (Worlds.other to) p).phase) (Worlds.side to p).queue) h)
  where
    first : (space : ℕ) (over : Bool) (queue : List Message) → Goes tree has (Worlds.deliver_first conn to w space over queue)
    first space over (m ∷ ms) = one-goes tree has w space (Received conn m) (on_side Worlds.take_front conn to w) tt h (λ r. h (on-side-dialled tree.dialler Worlds.take_front (λ s. refl) conn to w r))
    first space true [] = one-goes tree has w space (Closed conn) (on_side Worlds.ends conn to w) tt h (λ r. h (on-side-dialled tree.dialler Worlds.ends (λ s. refl) conn to w r))
    first space false [] = h
happens-goes tree has (ReadFails conn at) w law h = some-goes tree has w (slice_get w.pipes conn) _ h (λ p is.
    if-goes tree has _ w (Worlds.is_live (Worlds.side at p).phase) (λ live. one-goes tree has w (Worlds.side at p).space (ReadFailed conn) (on_side Worlds.ends conn at w) tt h (λ r. h (on-side-dialled tree.dialler Worlds.ends (λ s. refl) conn at w r))) h)
happens-goes tree has (WriteFails conn at unsent) w law h = some-goes tree has w (slice_get w.pipes conn) _ h (λ p is.
    if-goes tree has _ w (Worlds.is_live (Worlds.side at p).phase) (λ live. one-goes tree has w (Worlds.side at p).space (WriteFailed conn (Worlds.lost unsent at p)) _ tt h
    (λ r. h (on-side-dialled tree.dialler (Worlds.cut_end (Worlds.lost unsent at p)) (λ s. refl) conn (Worlds.other at) w (on-side-dialled tree.dialler Worlds.ends (λ s. refl) conn at (on_side (Worlds.cut_end (Worlds.lost unsent at p)) conn (Worlds.other at) w) r)))) h)

run-goes : (tree : Tree) (events : List WorldEvent) (w : World) (has : ℕ → ℕ → Bool) → ((t : Tree) → Holds t 0 w) → Goes tree has w → Goes tree (calls_of_run tree w events has) (run w events)
unfolding run after calls_of_run
run-goes tree [] w has law h = h
run-goes tree (e ∷ es) w has law h =
    let ready : World = record w { refused = None } in
    run-goes tree es (happens e ready) (calls_after tree ready e has) (λ t. happens_holds e ready (plain (law t))) (happens-goes tree has e ready (λ t. plain (law t)) h)

nothing-fits : (tree : Tree) (has : ℕ → ℕ → Bool) (j : ℕ) (settings : List Setting) → AllFrom (λ i (s : Space). FitsHistory (part_of (with_calls tree has) i) s.setting s.history) j (map new_space settings)
nothing-fits tree has j [] = tt
nothing-fits tree has j (g ∷ gs) = (tt, nothing-fits tree has (suc j) gs)

nothing-known : (made dialler : ℕ → ℕ) (j : ℕ) (settings : List Setting) → AllFrom (λ i (s : Space). Known made dialler i s.setting s.history) j (map new_space settings)
nothing-known made dialler j [] = tt
nothing-known made dialler j (g ∷ gs) = (tt, nothing-known made dialler (suc j) gs)

start-goes : (tree : Tree) (has : ℕ → ℕ → Bool) (settings : List Setting) → Goes tree has (new_world settings)
unfolding new_world
start-goes tree has settings = λ r. record { fits = nothing-fits tree has 0 settings; known = nothing-known (calls_in (map new_space settings)) tree.dialler 0 settings; histories = (begins tree settings).histories }

dialled-by : (w : World) → IsDialled (dialler_in w) w
dialled-by w = λ conn p is. sym (ap (λ (o : Option Pipe). with_some o 0 (λ (q : Pipe). q.dialler.space)) is)

pub roots_have_trees : RootsHaveTrees
roots_have_trees settings events space task =
    let w : World = run (new_world settings) events in
    let tree : Tree = root_alone space task w in
    (run-goes tree events (new_world settings) (λ i number. false) (λ t. begins t settings) (start-goes tree (λ i number. false) settings) (dialled-by w)).fits

pub roots_spend_their_fuel : RootsSpendTheirFuel
roots_spend_their_fuel settings events space task = fuel_is_bounded_in_trees settings events (tree_of settings events space task) (roots_have_trees settings events space task)
