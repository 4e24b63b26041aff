-- Each unit of fuel is counted once over a whole world.
use mathlib.Core.Path.{sym}
use Rattle.std.specs.Prelude.{◌≡◌, refl, zero, suc, ℕ, ◌+◌, ◌-◌, ◌≤◌, Bool, true, false, List, [], ◌∷◌, ◌++◌, length, take, map, slice_get, Option, None, Some, if◌then◌else◌}
use Rattle.std.proofs.Common.{arith}
use Rattle.std.proofs.lemmas.Bool.{true≢false}
use Rattle.net_message.specs.declared.message.Message.{Message}
use Rattle.sp_rules.specs.Behaviours
use Rattle.sp_rules.specs.Classes.{Setting}
use Rattle.sp_rules.specs.Events.{Event, Output, Started, Ended, Withdrawn, Denied, Send, Dial, Close, Ready, Moment, Sweep, Root, RootAck, Bind, Rebind, Unbind, Lookup, Opened, Refused, Received, Closed, ReadFailed, Bad, WriteFailed, Committed, Parked, GivenBack, Finished}
use Rattle.sp_rules.specs.Fuel.{output_units, message_units, event_units, root_units, roots_of, space_units, pipe_units, world_units, world_roots}
use Rattle.sp_rules.specs.Laws.{FuelIsBounded}
use Rattle.sp_rules.specs.Lists.{with_some, each, at_index, total}
use Rattle.sp_rules.specs.Refusals
use Rattle.sp_rules.specs.Space
use Rattle.sp_rules.specs.State.{opening, task_at}
use Rattle.sp_rules.specs.Tasks
use Rattle.sp_rules.specs.Worlds
use Rattle.sp_rules.specs.Worlds.{World, Space, Side, End, Dialler, Accepter, Pipe, grown, put, acts, act, take_event, after, happens, run, new_space, new_world, set_side, on_side, on_pipe, WorldEvent, Own, Step, Open, Refuse, Accept, Deliver, ReadFails, WriteFails}
use Rattle.sp_rules.proofs.FuelOfSpaces.{on-units, total-append}
use Rattle.sp_rules.proofs.FuelSums.{value_in, found-value}

-- ---- lists

-- one element is changed: what it was goes out of the sum, and what it is comes in
changed : {A : Type 0} (f : A → ℕ) (g : A → A) (i : ℕ) (xs : List A)
    → total f (at_index g i xs) + value_in f (slice_get xs i) ≡ total f xs + value_in (λ a. f (g a)) (slice_get xs i)
unfolding value_in
changed f g i [] = refl
changed f g zero (x ∷ xs) = omega arith
changed f g (suc i) (x ∷ xs) = let h : total f (at_index g i xs) + value_in f (slice_get xs i) ≡ total f xs + value_in (λ a. f (g a)) (slice_get xs i) = changed f g i xs in omega arith

-- if `g` adds no more than k to an element, it adds no more than k to the sum
grows : {A : Type 0} (f : A → ℕ) (g : A → A) (k i : ℕ) (xs : List A) → ((x : A) → f (g x) ≤ f x + k) → total f (at_index g i xs) ≤ total f xs + k
grows f g k i [] le = omega arith
grows f g k zero (x ∷ xs) le = let a : f (g x) ≤ f x + k = le x in omega arith
grows f g k (suc i) (x ∷ xs) le = let h : total f (at_index g i xs) ≤ total f xs + k = grows f g k i xs le in omega arith

taken : {A : Type 0} (f : A → ℕ) (n : ℕ) (xs : List A) → total f (take n xs) ≤ total f xs
taken f zero xs = omega arith
taken f (suc n) [] = omega arith
taken f (suc n) (x ∷ xs) = let h : total f (take n xs) ≤ total f xs = taken f n xs in omega arith

-- ---- a world with fuel in hand

-- what is in the world, with this much more in hand, is no more than the roots' fuel
record Holds (k : ℕ) (w : World) : Type 0 where
  pub bound : world_units w + k ≤ world_roots w

if_holds : {k : ℕ} {t u : World} (b : Bool) → Holds k t → Holds k u → Holds k (if b then t else u)
if_holds true e f = e
if_holds false e f = f

some_holds : {A : Type 0} {k : ℕ} {t : World} (x : Option A) (f : A → World) → Holds k t → ((a : A) → x ≡ Some a → Holds k (f a)) → Holds k (with_some x t f)
some_holds None f e g = e
some_holds (Some a) f e g = g a refl

drop-zero : {m : ℕ} {w : World} → Holds (0 + m) w → Holds m w
drop-zero {m} {w} e = let b : world_units w + (0 + m) ≤ world_roots w = e.bound in record { bound = omega arith }

each_holds : {A : Type 0} (f : World → A → World) (v : A → ℕ) (xs : List A) (k : ℕ) (w : World)
    → ((m : ℕ) (t : World) (x : A) → Holds (v x + m) t → Holds m (f t x)) → Holds (total v xs + k) w → Holds k (each f xs w)
unfolding each
each_holds f v [] k w g e = drop-zero e
each_holds f v (x ∷ xs) k w g e =
    let b : world_units w + (v x + total v xs + k) ≤ world_roots w = e.bound in
    each_holds f v xs k (f w x) g (g (total v xs + k) w x (record { bound = omega arith }))

-- ---- outputs

on_pipe_holds : {m : ℕ} (k conn : ℕ) (f : Pipe → Pipe) (w : World) → ((p : Pipe) → pipe_units (f p) ≤ pipe_units p + k) → Holds (k + m) w → Holds m (on_pipe f conn w)
on_pipe_holds {m} k conn f w le e =
    let b : world_units w + (k + m) ≤ world_roots w = e.bound in
    let h : total pipe_units (at_index f conn w.pipes) ≤ total pipe_units w.pipes + k = grows pipe_units f k conn w.pipes le in
    record { bound = omega arith }

queued : (m : Message) (end : End) (p : Pipe) → pipe_units (set_side (Worlds.queue_up m) end p) ≤ pipe_units p + message_units m
queued m Dialler p = let e : total message_units (p.dialler.queue ++ m ∷ []) ≡ total message_units p.dialler.queue + (message_units m + 0) = total-append message_units p.dialler.queue (m ∷ []) in omega arith
queued m Accepter p = let e : total message_units (p.accepter.queue ++ m ∷ []) ≡ total message_units p.accepter.queue + (message_units m + 0) = total-append message_units p.accepter.queue (m ∷ []) in omega arith

ended : (end : End) (p : Pipe) → pipe_units (set_side Worlds.ends end p) ≤ pipe_units p + 0
ended Dialler p = omega arith
ended Accepter p = omega arith

asks_holds : {m : ℕ} {w : World} (i : ℕ) (j : Option ℕ) → Holds m w → Holds m (Worlds.asks_for i j w)
asks_holds i None e = e
asks_holds i (Some j) e = record { bound = e.bound }

put_holds : (i : ℕ) (m : ℕ) (w : World) (o : Output) → Holds (output_units o + m) w → Holds m (put i w o)
put_holds i m w (Started task) e = drop-zero e
put_holds i m w (Ended task outcome) e = drop-zero e
put_holds i m w (Withdrawn ids) e = drop-zero e
put_holds i m w (Denied why) e = drop-zero e
put_holds i m w (Send conn f) e = on_pipe_holds (message_units f) conn _ w (λ p. queued f (Worlds.other (Worlds.end_of i p)) p) e
put_holds i m w (Dial peer) e = asks_holds i (Worlds.number_of w.spaces peer) (drop-zero e)
put_holds i m w (Close conn) e = on_pipe_holds 0 conn _ w (λ p. ended (Worlds.end_of i p) p) e
put_holds i m w (Ready task) e = drop-zero e

-- ---- events of spaces

-- the fuel of a frame that is delivered: it is in hand
in_hand : Event → ℕ
in_hand (Received conn m) = message_units m
in_hand _ = 0

split : (e : Event) → event_units e ≡ in_hand e + root_units e
unfolding in_hand
split (Moment moment) = omega arith
split Sweep = omega arith
split (Root method arguments fuel) = omega arith
split (RootAck task) = omega arith
split (Bind name value) = omega arith
split (Rebind name value) = omega arith
split (Unbind name) = omega arith
split (Lookup peer name) = omega arith
split (Opened conn dialled) = omega arith
split (Refused peer) = omega arith
split (Received conn m) = omega arith
split (Closed conn) = omega arith
split (ReadFailed conn) = omega arith
split (Bad conn) = omega arith
split (WriteFailed conn unsent) = omega arith
split (Committed task k op) = omega arith
split (Parked task k) = omega arith
split (GivenBack task k) = omega arith
split (Finished task k) = omega arith

outputs-of : (s : Space) (e : Event) → List Output
outputs-of s e = (Space.on s.setting e s.state).1

grown-units : (e : Event) (s : Space) → space_units (grown e s) + total output_units (outputs-of s e) ≤ space_units s + event_units e
unfolding outputs-of
grown-units e s = on-units s.setting e s.state

take_holds : {v : World} (i : ℕ) (e : Event) (s : Space) → slice_get v.spaces i ≡ Some s → Holds (in_hand e) v → Holds 0 (take_event i e s v)
unfolding take_event outputs-of
take_holds {v} i e s is now =
    each_holds (put i) output_units (outputs-of s e) 0 _ (λ m w o h. put_holds i m w o h)
    (let b : world_units v + in_hand e ≤ world_roots v = now.bound in
    let us : value_in space_units (slice_get v.spaces i) ≡ space_units s = found-value space_units (slice_get v.spaces i) s is in
    let ug : value_in (λ x. space_units (grown e x)) (slice_get v.spaces i) ≡ space_units (grown e s) = found-value (λ x. space_units (grown e x)) (slice_get v.spaces i) s is in
    let rs : value_in roots_of (slice_get v.spaces i) ≡ roots_of s = found-value roots_of (slice_get v.spaces i) s is in
    let rg : value_in (λ x. roots_of (grown e x)) (slice_get v.spaces i) ≡ roots_of (grown e s) = found-value (λ x. roots_of (grown e x)) (slice_get v.spaces i) s is in
    let u : total space_units (at_index (grown e) i v.spaces) + value_in space_units (slice_get v.spaces i) ≡ total space_units v.spaces + value_in (λ x. space_units (grown e x)) (slice_get v.spaces i) = changed space_units (grown e) i v.spaces in
    let r : total roots_of (at_index (grown e) i v.spaces) + value_in roots_of (slice_get v.spaces i) ≡ total roots_of v.spaces + value_in (λ x. roots_of (grown e x)) (slice_get v.spaces i) = changed roots_of (grown e) i v.spaces in
    let g : space_units (grown e s) + total output_units (outputs-of s e) ≤ space_units s + event_units e = grown-units e s in
    let p : event_units e ≡ in_hand e + root_units e = split e in
    record { bound = omega arith })

act_holds : {before v : World} (i : ℕ) (e : Event) → Holds 0 before → Holds (in_hand e) v → Holds 0 (act before i e v)
unfolding acts
act_holds {before} {v} i e old now = some_holds (slice_get v.spaces i) _ old (λ s is.
    some_holds (Refusals.refusal s.setting (Worlds.lent_for e) s.state e) _ (take_holds i e s is now) (λ why no. record { bound = old.bound }))

-- ---- what may happen

plain : {w : World} → Holds 0 w → Holds 0 (record w { refused = None })
plain e = record { bound = e.bound }

on_side_holds : {m : ℕ} (k conn : ℕ) (end : End) (f : Side → Side) (w : World) → ((s : Side) → total message_units (f s).queue ≤ total message_units s.queue + k)
    → Holds (k + m) w → Holds m (on_side f conn end w)
on_side_holds k conn Dialler f w le e = on_pipe_holds k conn (set_side f Dialler) w (λ p. let a : total message_units (f p.dialler).queue ≤ total message_units p.dialler.queue + k = le p.dialler in omega arith) e
on_side_holds k conn Accepter f w le e = on_pipe_holds k conn (set_side f Accepter) w (λ p. let a : total message_units (f p.accepter).queue ≤ total message_units p.accepter.queue + k = le p.accepter in omega arith) e

ends_holds : (conn : ℕ) (end : End) (w : World) → Holds 0 w → Holds 0 (on_side Worlds.ends conn end w)
ends_holds conn end w e = on_side_holds 0 conn end Worlds.ends w (λ s. omega arith) e

read_fails_holds : (conn : ℕ) (at : End) (w : World) → Holds 0 w → Holds 0 (Worlds.read_fails conn at w)
unfolding Worlds.read_fails in_hand
read_fails_holds conn at w e = some_holds (slice_get w.pipes conn) _ e (λ p is.
    if_holds (Worlds.is_live (Worlds.side at p).phase) (act_holds (Worlds.side at p).space (ReadFailed conn) e (ends_holds conn at w e)) e)

cut-units : (n : ℕ) (s : Side) → total message_units (Worlds.cut_end n s).queue ≤ total message_units s.queue + 0
cut-units n s = let a : total message_units (take (length s.queue - n) s.queue) ≤ total message_units s.queue = taken message_units (length s.queue - n) s.queue in omega arith

write_fails_holds : (conn : ℕ) (at : End) (unsent : ℕ) (w : World) → Holds 0 w → Holds 0 (Worlds.write_fails conn at unsent w)
unfolding Worlds.write_fails in_hand
write_fails_holds conn at unsent w e = some_holds (slice_get w.pipes conn) _ e (λ p is.
    if_holds (Worlds.is_live (Worlds.side at p).phase)
    (act_holds (Worlds.side at p).space (WriteFailed conn (Worlds.lost unsent at p)) e
    (ends_holds conn at _ (on_side_holds 0 conn (Worlds.other at) (Worlds.cut_end (Worlds.lost unsent at p)) w (cut-units (Worlds.lost unsent at p)) e))) e)

accept_holds : (conn : ℕ) (w : World) → Holds 0 w → Holds 0 (Worlds.accept conn w)
unfolding Worlds.accept in_hand
accept_holds conn w e = some_holds (slice_get w.pipes conn) _ e (λ p is. at p.accepter.space p.accepter.phase)
  where
    at : (space : ℕ) (phase : Worlds.Phase) → Holds 0 (Worlds.accept_at conn w space phase)
    at space Worlds.Unopened = act_holds space (Opened conn None) e (on_side_holds 0 conn Accepter Worlds.begin_side w (λ s. omega arith) e)
    at space Worlds.Live = e
    at space Worlds.Over = e

open_holds : (a b : ℕ) (w : World) → Holds 0 w → Holds 0 (Worlds.open_pipe a b w)
unfolding Worlds.open_pipe in_hand
open_holds a b w e =
    let n : total pipe_units (w.pipes ++ Worlds.new_pipe a b ∷ []) ≡ total pipe_units w.pipes + (0 + 0 + 0) = total-append pipe_units w.pipes (Worlds.new_pipe a b ∷ []) in
    let h : world_units w + 0 ≤ world_roots w = e.bound in
    let opened : World = record w { asked = Worlds.without_pair a b w.asked; pipes = w.pipes ++ Worlds.new_pipe a b ∷ [] } in
    let now : Holds 0 opened = record { bound = omega arith } in
    if_holds (Worlds.is_asked a b w) (act_holds a (Opened (length w.pipes) (Worlds.id_at b w)) e now) e

refuse_to_holds : {before v : World} (a : ℕ) (peer : Option Rattle.uuid.specs.declared.Uuid.Uuid) → Holds 0 before → Holds 0 v → Holds 0 (Worlds.refuse_to before a peer v)
unfolding in_hand
refuse_to_holds a None old now = old
refuse_to_holds a (Some peer) old now = act_holds a (Refused peer) old now

refuse_holds : (a b : ℕ) (w : World) → Holds 0 w → Holds 0 (Worlds.refuse a b w)
unfolding Worlds.refuse
refuse_holds a b w e = if_holds (Worlds.is_asked a b w) (refuse_to_holds a (Worlds.id_at b w) e (record { bound = e.bound })) e

-- a frame is taken off a queue: its fuel is in hand
front : (conn : ℕ) (to : End) (p : Pipe) (ps : List Pipe) (m : Message) (ms : List Message) → slice_get ps conn ≡ Some p → (Worlds.side to p).queue ≡ m ∷ ms
    → total pipe_units (at_index (set_side Worlds.take_front to) conn ps) + message_units m ≤ total pipe_units ps
unfolding value_in
front conn to p ps m ms is q =
    let c : total pipe_units (at_index (set_side Worlds.take_front to) conn ps) + value_in pipe_units (slice_get ps conn) ≡ total pipe_units ps + value_in (λ x. pipe_units (set_side Worlds.take_front to x)) (slice_get ps conn) = changed pipe_units (set_side Worlds.take_front to) conn ps in
    let a : value_in pipe_units (slice_get ps conn) ≡ pipe_units p = found-value pipe_units (slice_get ps conn) p is in
    let b : value_in (λ x. pipe_units (set_side Worlds.take_front to x)) (slice_get ps conn) ≡ pipe_units (set_side Worlds.take_front to p) = found-value (λ x. pipe_units (set_side Worlds.take_front to x)) (slice_get ps conn) p is in
    let d : pipe_units (set_side Worlds.take_front to p) + message_units m ≤ pipe_units p = one to p q in
    omega arith
  where
    less : (queue : List Message) → queue ≡ m ∷ ms → total message_units (Worlds.without_front queue) + message_units m ≤ total message_units queue
    less queue e = rw e (omega arith)

    one : (to : End) (p : Pipe) → (Worlds.side to p).queue ≡ m ∷ ms → pipe_units (set_side Worlds.take_front to p) + message_units m ≤ pipe_units p
    one Dialler p e = let l : total message_units (Worlds.without_front p.dialler.queue) + message_units m ≤ total message_units p.dialler.queue = less p.dialler.queue e in omega arith
    one Accepter p e = let l : total message_units (Worlds.without_front p.accepter.queue) + message_units m ≤ total message_units p.accepter.queue = less p.accepter.queue e in omega arith

deliver_holds : (conn : ℕ) (to : End) (w : World) → Holds 0 w → Holds 0 (Worlds.deliver conn to w)
unfolding Worlds.deliver in_hand
deliver_holds conn to w e = some_holds (slice_get w.pipes conn) _ e (λ p is.
    if_holds (Worlds.is_live (Worlds.side to p).phase) (first p is (Worlds.is_ended (Worlds.side (Worlds.other to) p).phase) (Worlds.side to p).queue refl) e)
  where
    b : world_units w + 0 ≤ world_roots w
    b = e.bound

    first : (p : Pipe) → slice_get w.pipes conn ≡ Some p → (over : Bool) (queue : List Message) → (Worlds.side to p).queue ≡ queue
        → Holds 0 (Worlds.deliver_first conn to w (Worlds.side to p).space over queue)
    first p is over (m ∷ ms) q =
        let l : total pipe_units (at_index (set_side Worlds.take_front to) conn w.pipes) + message_units m ≤ total pipe_units w.pipes = front conn to p w.pipes m ms is q in
        act_holds (Worlds.side to p).space (Received conn m) e (record { bound = omega (arith, b) })
    first p is true [] q = act_holds (Worlds.side to p).space (Closed conn) e (ends_holds conn to w e)
    first p is false [] q = e

-- an event that is no frame brings nothing in hand
in-hand : {w : World} (e : Event) → in_hand e ≡ 0 → Holds 0 w → Holds (in_hand e) w
in-hand {w} e z h = let b : world_units w + 0 ≤ world_roots w = h.bound in record { bound = omega arith }

own_holds : (i : ℕ) (e : Event) (w : World) → in_hand e ≡ 0 → Holds 0 w → Holds 0 (act w i e w)
own_holds i e w z h = act_holds i e h (in-hand e z h)

-- own events
own-hand : (e : Event) → Worlds.is_own e ≡ true → in_hand e ≡ 0
unfolding in_hand
own-hand (Moment moment) own = refl
own-hand Sweep own = refl
own-hand (Root method arguments fuel) own = refl
own-hand (RootAck task) own = refl
own-hand (Bind name value) own = refl
own-hand (Rebind name value) own = refl
own-hand (Unbind name) own = refl
own-hand (Lookup peer name) own = refl
own-hand (Opened conn dialled) own = refl
own-hand (Refused peer) own = refl
own-hand (Received conn m) own = absurd (true≢false (sym own))
own-hand (Closed conn) own = refl
own-hand (ReadFailed conn) own = refl
own-hand (Bad conn) own = refl
own-hand (WriteFailed conn unsent) own = refl
own-hand (Committed task k op) own = refl
own-hand (Parked task k) own = refl
own-hand (GivenBack task k) own = refl
own-hand (Finished task k) own = refl

own_event_holds : (i : ℕ) (e : Event) (w : World) → Holds 0 w → Holds 0 (if Worlds.is_own e then act w i e w else w)
own_event_holds i e w h = pick (Worlds.is_own e) refl
  where
    pick : (b : Bool) → Worlds.is_own e ≡ b → Holds 0 (if b then act w i e w else w)
    pick true own = own_holds i e w (own-hand e own) h
    pick false own = h

-- none of these is a frame
AreNoFrames : List Event → Type 0
AreNoFrames [] = Unit {0}
AreNoFrames (e ∷ es) = (in_hand e ≡ 0) × AreNoFrames es

acts_hold : (before : World) (i : ℕ) (es : List Event) (w : World) → AreNoFrames es → Holds 0 before → Holds 0 w → Holds 0 (acts before i es w)
unfolding acts AreNoFrames
acts_hold before i [] w none old h = h
acts_hold before i (e ∷ es) w none old h = some_holds (slice_get w.spaces i) _ old (λ s is.
    some_holds (Refusals.refusal s.setting (Worlds.lent_for e) s.state e) _
    (acts_hold before i es (take_event i e s w) none.1 old (take_holds i e s is (in-hand e none.0 h)))
    (λ why no. record { bound = old.bound }))

after-no-frames : (id : ℕ) (over : Bool) → AreNoFrames (Worlds.events_after id over)
unfolding AreNoFrames in_hand
after-no-frames id true = (refl, tt)
after-no-frames id false = (refl, tt)

op-no-frames : (id : ℕ) (op : Behaviours.Op) → AreNoFrames (Worlds.events_of_op id op)
unfolding AreNoFrames in_hand
op-no-frames id (Behaviours.Create class) = (refl, (refl, tt))
op-no-frames id (Behaviours.Get object slot) = (refl, (refl, tt))
op-no-frames id (Behaviours.Put object slot value) = (refl, (refl, tt))
op-no-frames id (Behaviours.Call target method arguments) = (refl, tt)

steps-no-frames : (id : ℕ) (task : Tasks.Task) (s : Tasks.Stand) → AreNoFrames (Worlds.events_at id task s)
unfolding AreNoFrames in_hand
steps-no-frames id task Tasks.Runs = after-no-frames id _
steps-no-frames id task (Tasks.AsksFor op) = op-no-frames id op
steps-no-frames id task (Tasks.HasEnded outcome) = (refl, tt)

step_holds : (i id : ℕ) (w : World) → Holds 0 w → Holds 0 (Worlds.step_task i id w)
unfolding Worlds.step_task
step_holds i id w h = some_holds (slice_get w.spaces i) _ h (λ s is.
    some_holds (task_at s.state id) _ (record { bound = h.bound }) (λ t here.
    if_holds t.waits (record { bound = h.bound }) (acts_hold w i _ w (steps-no-frames id t.task (Tasks.stand t.task)) h h)))

happens_holds : (e : WorldEvent) (w : World) → Holds 0 w → Holds 0 (happens e w)
happens_holds (Own i e) w h = own_event_holds i e w h
happens_holds (Step i task) w h = step_holds i task w h
happens_holds (Open a b) w h = open_holds a b w h
happens_holds (Refuse a b) w h = refuse_holds a b w h
happens_holds (Accept conn) w h = accept_holds conn w h
happens_holds (Deliver conn to) w h = deliver_holds conn to w h
happens_holds (ReadFails conn at) w h = read_fails_holds conn at w h
happens_holds (WriteFails conn at unsent) w h = write_fails_holds conn at unsent w h

run_holds : (events : List WorldEvent) (w : World) → Holds 0 w → Holds 0 (run w events)
unfolding run after
run_holds [] w h = h
run_holds (e ∷ es) w h = run_holds es _ (happens_holds e _ (plain h))

nothing-yet : (settings : List Setting) → total space_units (map new_space settings) ≡ 0
unfolding opening
nothing-yet [] = refl
nothing-yet (g ∷ gs) = let e : total space_units (map new_space gs) ≡ 0 = nothing-yet gs in omega arith

begins : (settings : List Setting) → Holds 0 (new_world settings)
unfolding new_world
begins settings = let e : total space_units (map new_space settings) ≡ 0 = nothing-yet settings in record { bound = omega arith }

pub fuel_is_bounded : FuelIsBounded
fuel_is_bounded settings events = let b : world_units (run (new_world settings) events) + 0 ≤ world_roots (run (new_world settings) events) = (run_holds events (new_world settings) (begins settings)).bound in omega arith
