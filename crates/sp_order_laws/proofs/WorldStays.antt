-- Where nothing fails no connection closes but those that tried a version in vain: through every event of a world.
use mathlib.Core.Path.{sym, ap, subst, ◌∙◌}
use Rattle.std.proofs.Common.{arith, inl, inr, get_or}
use Rattle.std.proofs.lemmas.Bool.{true≢false, eq-eqb, eqb-true}
use Rattle.std.proofs.lemmas.List.Quantifiers.{position-Some}
use Rattle.std.proofs.lemmas.Option.{slice_get_cases}
use Rattle.std.specs.Str.{bytes_eq}
use Rattle.std.specs.Prelude.{◌≡◌, ◌≤◌, ◌<◌, ◌⊎◌, refl, ℕ, zero, suc, ◌==◌, ◌&&◌, ◌||◌, not, is_some, Bool, true, false, List, [], ◌∷◌, ◌++◌, Option, None, Some, map, length, slice_get, option_map, if◌then◌else◌}
use Rattle.uuid.specs.declared.Uuid.{Uuid}
use Rattle.net_message.specs.declared.message.Message.{Message}
use Rattle.net_message.specs.declared.message.Message.TheVariants as message
use Rattle.sp_rules.specs.Behaviours.{Op, Create, Get, Put, Call}
use Rattle.sp_rules.specs.Classes.{Setting}
use Rattle.sp_rules.specs.Events.{Event, Moment, Sweep, Root, RootAck, Bind, Rebind, Unbind, Lookup, Opened, Refused, Received, Closed, ReadFailed, Bad, WriteFailed, Committed, Parked, GivenBack, Finished, Output, Started, Ended, Withdrawn, Denied, Send, Dial, Close, Ready}
use Rattle.sp_rules.specs.Laws.{AllOf}
use Rattle.sp_rules.specs.Lists.{each, at_index, with_some}
use Rattle.sp_rules.specs.Refusals
use Rattle.sp_rules.specs.Refusals.{Refusal, refusal, NotLent}
use Rattle.sp_rules.specs.Space
use Rattle.sp_rules.specs.State.{State, Connection, connection_at, is_open, task_at}
use Rattle.sp_rules.specs.Tasks.{Task, Stand, Runs, AsksFor, HasEnded, is_at_end, stand, step}
use Rattle.sp_rules.specs.Worlds
use Rattle.sp_rules.specs.Worlds.{World, Space, Pipe, Side, Phase, Unopened, Live, Over, End, Dialler, Accepter, WorldEvent, Own, Step, Open, Refuse, Accept, Deliver, ReadFails, WriteFails, side, other, end_of, id_in, grown, put, take_event, acts, happens, after, run, new_space, new_world}
use Rattle.sp_rules.proofs.AllLemmas.{some-none, all-weaken, all-more}
use Rattle.sp_rules.proofs.OwnLemmas.{some-same, unrefused, first-of, not-false}
use Rattle.sp_laws.specs.Inbound.{opens, OpensOnce}
use Rattle.sp_laws.specs.Others.{IsOpenedOnce}
use Rattle.sp_laws.specs.Directions.{FramesGoTheirWay}
use Rattle.sp_laws.specs.Open.{GoesWhereOpen}
use Rattle.sp_laws.proofs.OpenLemmas.{frames_go_where_open}
use Rattle.sp_order_laws.specs.Ends.{IsOneOf, ParkedResultsCame}
use Rattle.sp_order_laws.proofs.WorldFacts.{Known, at-all}
use Rattle.sp_order_laws.specs.Delivered.{sent_on}
use Rattle.sp_order_laws.specs.Unbroken.{ends_at, IsJoined, IsProbe}
use Rattle.sp_order_laws.proofs.DeliveryLemmas.{sent-append}
use Rattle.sp_order_laws.proofs.ListLemmas.{one-left}
use Rattle.sp_order_laws.specs.Welcome.{is_welcome}
use Rattle.sp_order_laws.proofs.RowStays.{stays-open, opens-open}
use Rattle.sp_order_laws.proofs.StayFrames.{is_on}
use Rattle.sp_order_laws.proofs.StayLaws.{welcome_frames_close_nothing}

-- ---- rows

-- which row it was
index-row : {A : Type 0} (f : A → A) (n i : ℕ) (xs : List A) (x : A) → slice_get (at_index f n xs) i ≡ Some x → (slice_get xs i ≡ Some x) ⊎ ((i ≡ n) × ((y : A) × ((slice_get xs n ≡ Some y) × (x ≡ f y))))
index-row f n i [] x e = inl e
index-row f zero zero (y ∷ xs) x e = inr (refl, (y, (refl, some-same (sym e))))
index-row f zero (suc i) (y ∷ xs) x e = inl e
index-row f (suc n) zero (y ∷ xs) x e = inl e
index-row f (suc n) (suc i) (y ∷ xs) x e = by (index-row f n i xs x e)
  where
    by : (slice_get xs i ≡ Some x) ⊎ ((i ≡ n) × ((z : _) × ((slice_get xs n ≡ Some z) × (x ≡ f z)))) → (slice_get xs i ≡ Some x) ⊎ ((suc i ≡ suc n) × ((z : _) × ((slice_get xs n ≡ Some z) × (x ≡ f z))))
    by (inl k) = inl k
    by (inr k) = inr (ap suc k.0, k.1)

-- what a row has that does not change
index-same : {A B : Type 0} (v : A → B) (f : A → A) → ((x : A) → v (f x) ≡ v x) → (n i : ℕ) (xs : List A) → option_map v (slice_get (at_index f n xs) i) ≡ option_map v (slice_get xs i)
index-same v f keeps n i [] = refl
index-same v f keeps zero zero (x ∷ xs) = ap Some (keeps x)
index-same v f keeps zero (suc i) (x ∷ xs) = refl
index-same v f keeps (suc n) zero (x ∷ xs) = refl
index-same v f keeps (suc n) (suc i) (x ∷ xs) = index-same v f keeps n i xs

map-same : {A B : Type 0} (v : A → B) (f : A → A) → ((x : A) → v (f x) ≡ v x) → (n : ℕ) (xs : List A) → map v (at_index f n xs) ≡ map v xs
map-same v f keeps n [] = refl
map-same {B = B} v f keeps zero (x ∷ xs) = ap (λ (y : B). y ∷ map v xs) (keeps x)
map-same {B = B} v f keeps (suc n) (x ∷ xs) = ap (λ (l : List B). v x ∷ l) (map-same v f keeps n xs)

all-index : {A : Type 0} (P : A → Type 0) (f : A → A) → ((x : A) → P x → P (f x)) → (n : ℕ) (xs : List A) → AllOf P xs → AllOf P (at_index f n xs)
all-index P f keeps n [] a = tt
all-index P f keeps zero (x ∷ xs) a = (keeps x a.0, a.1)
all-index P f keeps (suc n) (x ∷ xs) a = (a.0, all-index P f keeps n xs a.1)

-- a row more
more-row : {A B : Type 0} (v : A → B) (xs : List A) (x : A) (i : ℕ) (b : B) → option_map v (slice_get xs i) ≡ Some b → option_map v (slice_get (xs ++ x ∷ []) i) ≡ Some b
more-row v [] x i b e = absurd (some-none b (sym e))
more-row v (y ∷ xs) x zero b e = e
more-row v (y ∷ xs) x (suc i) b e = more-row v xs x i b e

last-row : {A : Type 0} (xs : List A) (x : A) → slice_get (xs ++ x ∷ []) (length xs) ≡ Some x
last-row [] x = refl
last-row (y ∷ xs) x = last-row xs x

all-row : {A : Type 0} (P : A → Type 0) (n : ℕ) (f : A → A) (xs : List A) → ((x : A) → slice_get xs n ≡ Some x → P (f x)) → AllOf P xs → AllOf P (at_index f n xs)
all-row P n f [] k a = tt
all-row P zero f (x ∷ xs) k a = (k x refl, a.1)
all-row P (suc n) f (x ∷ xs) k a = (a.0, all-row P n f xs k a.1)

-- ---- what is kept

abbrev Alive : Pipe → Type 0
Alive p = (Worlds.is_ended p.dialler.phase ≡ false) × (Worlds.is_ended p.accepter.phase ≡ false)

abbrev id_of : List Space → ℕ → Option Uuid
id_of spaces i = option_map (λ (s : Space). s.setting.id) (slice_get spaces i)

-- that a space opened a connection so
abbrev Joined : List Space → ℕ → Option Uuid → Option (ℕ × ℕ) → Type 0
Joined spaces i dialled None = ⊥
Joined spaces i None (Some ends) = ends.1 ≡ i
Joined spaces i (Some peer) (Some ends) = (ends.0 ≡ i) × (id_of spaces ends.1 ≡ Some peer)

-- a connection that tried version 2 in vain: the space that dialled said it, the other is of version 1
abbrev SaidTwo : ℕ → Option Space → Type 0
SaidTwo conn None = ⊥
SaidTwo conn (Some s) = IsOneOf (message.Hello 2 s.setting.id s.setting.digest) (sent_on conn s.outputs) × (s.setting.version ≡ 2)

abbrev IsLower : Option Space → Type 0
IsLower None = ⊥
IsLower (Some s) = s.setting.version ≡ 1

abbrev Tried : List Space → ℕ → Option (ℕ × ℕ) → Type 0
Tried spaces conn None = ⊥
Tried spaces conn (Some ends) = SaidTwo conn (slice_get spaces ends.0) × IsLower (slice_get spaces ends.1)

abbrev pub InVain : World → ℕ → Type 0
InVain w conn = Tried w.spaces conn (ends_at w.pipes conn)

pub to-probe : (w : World) (conn : ℕ) → InVain w conn → IsProbe w conn
to-probe w conn k = by (slice_get w.pipes conn) refl k
  where
    by : (o : Option Pipe) → slice_get w.pipes conn ≡ o → Tried w.spaces conn (option_map (λ (p : Pipe). (p.dialler.space, p.accepter.space)) o) → IsProbe w conn
    by None e t = absurd t
    by (Some p) e t = at (slice_get w.spaces p.dialler.space) refl (slice_get w.spaces p.accepter.space) refl t.0 t.1
      where
        at : (a : Option Space) → slice_get w.spaces p.dialler.space ≡ a → (b : Option Space) → slice_get w.spaces p.accepter.space ≡ b → SaidTwo conn a → IsLower b → IsProbe w conn
        at None f b g said lower = absurd said
        at (Some a) f None g said lower = absurd lower
        at (Some a) f (Some b) g said lower = record { pipe = p; from = a; to = b; between = record { pipe = e; dialled = f; accepted = g }; said = said.0; higher = said.1; lower = lower }

pub of-probe : (w : World) (conn : ℕ) → IsProbe w conn → InVain w conn
of-probe w conn P = subst (λ (o : Option Pipe). Tried w.spaces conn (option_map (λ (p : Pipe). (p.dialler.space, p.accepter.space)) o)) (sym P.between.pipe)
    (subst (SaidTwo conn) (sym P.between.dialled) (P.said, P.higher), subst IsLower (sym P.between.accepted) P.lower)

pub record Standing (settings : List Setting) (w : World) : Type 0 where
  pub settings_are : map (λ (s : Space). s.setting) w.spaces ≡ settings
  pub live : (conn : ℕ) (p : Pipe) → slice_get w.pipes conn ≡ Some p → Alive p ⊎ InVain w conn
  pub joins : (i : ℕ) (s : Space) → slice_get w.spaces i ≡ Some s → (conn : ℕ) (dialled : Option Uuid) → IsOneOf (Opened conn dialled) s.history → Joined w.spaces i dialled (ends_at w.pipes conn)
  pub stays : (i : ℕ) (s : Space) → slice_get w.spaces i ≡ Some s → (conn : ℕ) (dialled : Option Uuid) → IsOneOf (Opened conn dialled) s.history → (is_open s.state conn ≡ true) ⊎ InVain w conn
  pub asked : AllOf (λ (x : ℕ × ℕ). is_some (id_of w.spaces x.1) ≡ true) w.asked
  pub known : AllOf Known w.spaces

id-same : (spaces : List Space) (i : ℕ) → id_in (slice_get spaces i) ≡ id_of spaces i
id-same spaces i = by (slice_get spaces i)
  where
    by : (o : Option Space) → id_in o ≡ option_map (λ (s : Space). s.setting.id) o
    by None = refl
    by (Some s) = refl

pub to-joined : (spaces : List Space) (i : ℕ) (dialled : Option Uuid) (ends : Option (ℕ × ℕ)) → Joined spaces i dialled ends → IsJoined spaces i dialled ends
to-joined spaces i dialled None j = absurd j
to-joined spaces i None (Some ends) j = j
to-joined spaces i (Some peer) (Some ends) j = (j.0, id-same spaces ends.1 ∙ j.1)

-- as spaces and pipes change
joined-as : (xs ys : List Space) → ((i : ℕ) → id_of ys i ≡ id_of xs i) → (i : ℕ) (dialled : Option Uuid) (ends : Option (ℕ × ℕ)) → Joined xs i dialled ends → Joined ys i dialled ends
joined-as xs ys same i dialled None j = j
joined-as xs ys same i None (Some ends) j = j
joined-as xs ys same i (Some peer) (Some ends) j = (j.0, same ends.1 ∙ j.1)

joined-more : (xs : List Space) (i : ℕ) (dialled : Option Uuid) (ps : List Pipe) (q : Pipe) (conn : ℕ) → Joined xs i dialled (ends_at ps conn) → Joined xs i dialled (ends_at (ps ++ q ∷ []) conn)
joined-more xs i dialled ps q conn j = by (ends_at ps conn) refl j
  where
    by : (o : Option (ℕ × ℕ)) → ends_at ps conn ≡ o → Joined xs i dialled o → Joined xs i dialled (ends_at (ps ++ q ∷ []) conn)
    by None e k = absurd k
    by (Some ends) e k = subst (Joined xs i dialled) (sym (more-row (λ (p : Pipe). (p.dialler.space, p.accepter.space)) ps q conn ends e)) k

-- a connection that tried a version in vain stays one, as pipes change or come, and as a space grows
vain-more : (w : World) (q : Pipe) (asked : List (ℕ × ℕ)) (conn : ℕ) → InVain w conn → InVain (record w { asked = asked; pipes = w.pipes ++ q ∷ [] }) conn
vain-more w q asked conn k = by (ends_at w.pipes conn) refl k
  where
    by : (o : Option (ℕ × ℕ)) → ends_at w.pipes conn ≡ o → Tried w.spaces conn o → Tried w.spaces conn (ends_at (w.pipes ++ q ∷ []) conn)
    by None e t = absurd t
    by (Some ends) e t = subst (Tried w.spaces conn) (sym (more-row (λ (p : Pipe). (p.dialler.space, p.accepter.space)) w.pipes q conn ends e)) t

vain-pipe : (f : Pipe → Pipe) → ((p : Pipe) → (f p).dialler.space ≡ p.dialler.space) → ((p : Pipe) → (f p).accepter.space ≡ p.accepter.space) → (n : ℕ) (w : World) (conn : ℕ) → InVain w conn → InVain (Worlds.on_pipe f n w) conn
vain-pipe f d a n w conn k = subst (Tried w.spaces conn) (sym (index-same (λ (p : Pipe). (p.dialler.space, p.accepter.space)) f (λ p. both (d p) (a p)) n conn w.pipes)) k
  where
    both : {x y u v : ℕ} → x ≡ y → u ≡ v → ◌≡◌ {A = ℕ × ℕ} (x, u) (y, v)
    both {x} {y} {u} {v} e g = ap (λ z. pair z u) e ∙ ap (λ z. pair y z) g
      where
        pair : ℕ → ℕ → ℕ × ℕ
        pair m n = (m, n)

at-grows : {A : Type 0} (P : Option A → Type 0) (f : A → A) → ((x : A) → P (Some x) → P (Some (f x))) → (n i : ℕ) (xs : List A) → P (slice_get xs i) → P (slice_get (at_index f n xs) i)
at-grows P f k n i [] a = a
at-grows P f k zero zero (x ∷ xs) a = k x a
at-grows P f k zero (suc i) (x ∷ xs) a = a
at-grows P f k (suc n) zero (x ∷ xs) a = a
at-grows P f k (suc n) (suc i) (x ∷ xs) a = at-grows P f k n i xs a

vain-grown : (e : Event) (i : ℕ) (r : World) (conn : ℕ) → InVain r conn → InVain (record r { spaces = at_index (grown e) i r.spaces }) conn
vain-grown e i r conn k = by (ends_at r.pipes conn) k
  where
    by : (o : Option (ℕ × ℕ)) → Tried r.spaces conn o → Tried (at_index (grown e) i r.spaces) conn o
    by None t = absurd t
    by (Some ends) t = (
      at-grows (SaidTwo conn) (grown e) (λ s o. (subst (IsOneOf (message.Hello 2 s.setting.id s.setting.digest)) (sym (sent-append conn s.outputs (Space.on s.setting e s.state).1)) (one-left (message.Hello 2 s.setting.id s.setting.digest) (sent_on conn s.outputs) (sent_on conn (Space.on s.setting e s.state).1) o.0), o.1)) i ends.0 r.spaces t.0,
      at-grows IsLower (grown e) (λ s o. o) i ends.1 r.spaces t.1,
    )

-- ---- what is answered goes into the world

-- a connection that is closed tried a version in vain
abbrev ClosesInVain : World → Output → Type 0
ClosesInVain w (Close conn) = InVain w conn
ClosesInVain w _ = Unit {0}

pipes-standing : (settings : List Setting) (f : Pipe → Pipe) → ((p : Pipe) → (f p).dialler.space ≡ p.dialler.space) → ((p : Pipe) → (f p).accepter.space ≡ p.accepter.space) → (conn : ℕ) (w : World) → ((p : Pipe) → Alive p → Alive (f p)) ⊎ InVain w conn → Standing settings w → Standing settings (Worlds.on_pipe f conn w)
pipes-standing settings f d a conn w alive h = record {
  settings_are = h.settings_are;
  live = λ n p at. live n p (index-row f conn n w.pipes p at) alive;
  joins = λ i s at n dialled o. subst (Joined w.spaces i dialled) (sym (index-same (λ (p : Pipe). (p.dialler.space, p.accepter.space)) f (λ p. both (d p) (a p)) conn n w.pipes)) (h.joins i s at n dialled o);
  stays = λ i s at n dialled o. stays n (h.stays i s at n dialled o);
  asked = h.asked;
  known = h.known;
}
  where
    both : {x y u v : ℕ} → x ≡ y → u ≡ v → ◌≡◌ {A = ℕ × ℕ} (x, u) (y, v)
    both {x} {y} {u} {v} e g = ap (λ z. pair z u) e ∙ ap (λ z. pair y z) g
      where
        pair : ℕ → ℕ → ℕ × ℕ
        pair m n = (m, n)

    stays : {A : Type 0} (n : ℕ) → A ⊎ InVain w n → A ⊎ InVain (Worlds.on_pipe f conn w) n
    stays n (inl x) = inl x
    stays n (inr x) = inr (vain-pipe f d a conn w n x)

    live : (n : ℕ) (p : Pipe) → (slice_get w.pipes n ≡ Some p) ⊎ ((n ≡ conn) × ((q : Pipe) × ((slice_get w.pipes conn ≡ Some q) × (p ≡ f q)))) → ((q : Pipe) → Alive q → Alive (f q)) ⊎ InVain w conn → Alive p ⊎ InVain (Worlds.on_pipe f conn w) n
    live n p (inl at) k = stays n (h.live n p at)
    live n p (inr x) (inr vain) = inr (vain-pipe f d a conn w n (subst (InVain w) (sym x.0) vain))
    live n p (inr x) (inl k) = by (h.live conn x.1.0 x.1.1.0)
      where
        by : Alive x.1.0 ⊎ InVain w conn → Alive p ⊎ InVain (Worlds.on_pipe f conn w) n
        by (inl l) = inl (subst Alive (sym x.1.1.1) (k x.1.0 l))
        by (inr vain) = inr (vain-pipe f d a conn w n (subst (InVain w) (sym x.0) vain))

finds-space : (spaces : List Space) (peer : Uuid) (j : ℕ) → Worlds.number_of spaces peer ≡ Some j → is_some (id_of spaces j) ≡ true
finds-space [] peer j e = absurd (some-none j (sym e))
finds-space (s ∷ ss) peer j e = by (slice_get_cases (s ∷ ss) j).1
  where
    within : j < length (s ∷ ss)
    within = (position-Some (λ (t : Space). bytes_eq t.setting.id peer) (s ∷ ss) j s e).0

    at : (x : Space) → slice_get (s ∷ ss) j ≡ Some x → is_some (id_of (s ∷ ss) j) ≡ true
    at x e = ap (λ (o : Option Space). is_some (option_map (λ (t : Space). t.setting.id) o)) e

    by : ((x : Space) × (j < length (s ∷ ss)) × (slice_get (s ∷ ss) j ≡ Some x) × (get_or (s ∷ ss) j x ≡ x)) ⊎ ((length (s ∷ ss) ≤ j) × (slice_get (s ∷ ss) j ≡ None)) → is_some (id_of (s ∷ ss) j) ≡ true
    by (inl x) = at x.0 x.2
    by (inr x) = absurd (omega (arith, within, x.0))

-- which space a connection's ends are of stays
set-dialler : (g : Worlds.Side → Worlds.Side) → ((x : Worlds.Side) → (g x).space ≡ x.space) → (end : End) (p : Pipe) → (Worlds.set_side g end p).dialler.space ≡ p.dialler.space
set-dialler g keeps Dialler p = keeps p.dialler
set-dialler g keeps Accepter p = refl

set-accepter : (g : Worlds.Side → Worlds.Side) → ((x : Worlds.Side) → (g x).space ≡ x.space) → (end : End) (p : Pipe) → (Worlds.set_side g end p).accepter.space ≡ p.accepter.space
set-accepter g keeps Dialler p = refl
set-accepter g keeps Accepter p = keeps p.accepter

put-vain : (i : ℕ) (w : World) (o : Output) (conn : ℕ) → InVain w conn → InVain (put i w o) conn
put-vain i w (Started task) conn k = k
put-vain i w (Ended task outcome) conn k = k
put-vain i w (Withdrawn ids) conn k = k
put-vain i w (Denied why) conn k = k
put-vain i w (Send n m) conn k = vain-pipe (λ p. Worlds.set_side (Worlds.queue_up m) (other (end_of i p)) p) (λ p. set-dialler (Worlds.queue_up m) (λ x. refl) (other (end_of i p)) p) (λ p. set-accepter (Worlds.queue_up m) (λ x. refl) (other (end_of i p)) p) n w conn k
put-vain i w (Dial peer) conn k = by (Worlds.number_of w.spaces peer)
  where
    by : (o : Option ℕ) → InVain (Worlds.asks_for i o w) conn
    by None = k
    by (Some j) = k
put-vain i w (Close n) conn k = vain-pipe (λ p. Worlds.set_side Worlds.ends (end_of i p) p) (λ p. set-dialler Worlds.ends (λ x. refl) (end_of i p) p) (λ p. set-accepter Worlds.ends (λ x. refl) (end_of i p) p) n w conn k
put-vain i w (Ready task) conn k = k

put-standing : (settings : List Setting) (i : ℕ) (w : World) (o : Output) → ClosesInVain w o → Standing settings w → Standing settings (put i w o)
put-standing settings i w (Started task) vain h = h
put-standing settings i w (Ended task outcome) vain h = h
put-standing settings i w (Withdrawn ids) vain h = h
put-standing settings i w (Denied why) vain h = h
put-standing settings i w (Send conn m) vain h = pipes-standing settings (λ p. Worlds.set_side (Worlds.queue_up m) (other (end_of i p)) p) (λ p. set-dialler (Worlds.queue_up m) (λ x. refl) (other (end_of i p)) p) (λ p. set-accepter (Worlds.queue_up m) (λ x. refl) (other (end_of i p)) p) conn w (inl (λ p k. alive (other (end_of i p)) p k)) h
  where
    alive : (end : End) (p : Pipe) → Alive p → Alive (Worlds.set_side (Worlds.queue_up m) end p)
    alive Dialler p k = k
    alive Accepter p k = k
put-standing settings i w (Dial peer) vain h = by (Worlds.number_of w.spaces peer) refl
  where
    by : (o : Option ℕ) → Worlds.number_of w.spaces peer ≡ o → Standing settings (Worlds.asks_for i o w)
    by None e = h
    by (Some j) e = record {
      settings_are = h.settings_are;
      live = h.live;
      joins = h.joins;
      stays = h.stays;
      asked = all-more (λ (x : ℕ × ℕ). is_some (id_of w.spaces x.1) ≡ true) w.asked (i, j) h.asked (finds-space w.spaces peer j e);
      known = h.known;
    }
put-standing settings i w (Close conn) vain h = pipes-standing settings (λ p. Worlds.set_side Worlds.ends (end_of i p) p) (λ p. set-dialler Worlds.ends (λ x. refl) (end_of i p) p) (λ p. set-accepter Worlds.ends (λ x. refl) (end_of i p) p) conn w (inr vain) h
put-standing settings i w (Ready task) vain h = h

puts-standing : (settings : List Setting) (i : ℕ) (os : List Output) (w : World) → AllOf (ClosesInVain w) os → Standing settings w → Standing settings (each (put i) os w)
unfolding each
puts-standing settings i [] w a h = h
puts-standing settings i (o ∷ os) w a h = puts-standing settings i os (put i w o) (all-weaken (ClosesInVain w) (ClosesInVain (put i w o)) os (λ p k. later p k) a.1) (put-standing settings i w o a.0 h)
  where
    later : (p : Output) → ClosesInVain w p → ClosesInVain (put i w o) p
    later (Close conn) k = put-vain i w o conn k
    later (Started task) k = tt
    later (Ended task outcome) k = tt
    later (Withdrawn ids) k = tt
    later (Denied why) k = tt
    later (Send conn m) k = tt
    later (Dial peer) k = tt
    later (Ready task) k = tt

-- ---- an event comes to a space

-- A frame that comes with the event is welcome.
pub record Welcomed (s : Space) (e : Event) : Type 0 where
  pub conn : ℕ
  pub m : Message
  pub row : Connection
  pub same : e ≡ Received conn m
  pub there : connection_at s.state conn ≡ Some row
  pub welcome : is_welcome s.setting s.state row m ≡ true

-- The event is of a connection that tried a version in vain, and of no other.
pub record OfVain (w : World) (e : Event) : Type 0 where
  pub conn : ℕ
  pub vain : InVain w conn
  pub others : (n : ℕ) → (n ≡ conn → ⊥) → is_on n e ≡ false

-- No frame comes with the event, and it ends no connection; or the frame that comes is welcome; or it is of a connection that tried a version in vain.
pub Calm : World → Space → Event → Type 0
Calm w s e = ((conn : ℕ) → is_on conn e ≡ false) ⊎ (Welcomed s e ⊎ OfVain w e)

same-or : (n m : ℕ) → (n ≡ m) ⊎ (n ≡ m → ⊥)
same-or n m = by (n == m) refl
  where
    by : (b : Bool) → (n == m) ≡ b → (n ≡ m) ⊎ (n ≡ m → ⊥)
    by true e = inl (eqb-true n m e)
    by false e = inr (λ same. true≢false (sym (eq-eqb n m same) ∙ e))

open-stays : FramesGoTheirWay → ParkedResultsCame → (w : World) (s : Space) → Known s → (e : Event) → Calm w s e → (conn : ℕ) → is_open s.state conn ≡ true → (is_open (Space.on s.setting e s.state).0 conn ≡ true) ⊎ InVain w conn
unfolding Calm
open-stays ways results w s k e (inl off) conn live = inl (subst (λ (t : State). is_open (Space.on s.setting e t).0 conn ≡ true) (sym k.state) (stays-open ways results s.setting s.history e conn k.taken k.once (off conn) (subst (λ (t : State). is_open t conn ≡ true) k.state live)))
open-stays ways results w s k e (inr (inl c)) conn live = inl (subst (λ (d : Event). is_open (Space.on s.setting d s.state).0 conn ≡ true) (sym c.same) (subst (λ (t : State). is_open (Space.on s.setting (Received c.conn c.m) t).0 conn ≡ true) (sym k.state)
    (welcome_frames_close_nothing ways results s.setting s.history c.conn c.row c.m k.taken k.once (subst (λ (t : State). connection_at t c.conn ≡ Some c.row) k.state c.there) (subst (λ (t : State). is_welcome s.setting t c.row c.m ≡ true) k.state c.welcome) conn (subst (λ (t : State). is_open t conn ≡ true) k.state live))))
open-stays ways results w s k e (inr (inr c)) conn live = by (same-or conn c.conn)
  where
    by : (conn ≡ c.conn) ⊎ (conn ≡ c.conn → ⊥) → (is_open (Space.on s.setting e s.state).0 conn ≡ true) ⊎ InVain w conn
    by (inl same) = inr (subst (InVain w) (sym same) c.vain)
    by (inr apart) = inl (subst (λ (t : State). is_open (Space.on s.setting e t).0 conn ≡ true) (sym k.state) (stays-open ways results s.setting s.history e conn k.taken k.once (c.others conn apart) (subst (λ (t : State). is_open t conn ≡ true) k.state live)))

-- what a space took as a frame comes on an open connection
taken-open : (g : Setting) (lent : List ℕ) (s : State) (conn : ℕ) (m : Message) → refusal g lent s (Received conn m) ≡ None → is_open s conn ≡ true
taken-open g lent s conn m t = not-false (is_open s conn) (first-of (not (is_open s conn)) Refusals.Strange [] (unrefused g lent s (Received conn m) t)).0

closes-vain : FramesGoTheirWay → ParkedResultsCame → (w : World) (s : Space) → Known s → (lent : List ℕ) (e : Event) → refusal s.setting lent s.state e ≡ None → Calm w s e → AllOf (ClosesInVain w) (Space.on s.setting e s.state).1
unfolding Space.outputs_of
closes-vain ways results w s k lent e t calm = all-weaken (GoesWhereOpen s.state e (Space.on s.setting e s.state).0) (ClosesInVain w) (Space.on s.setting e s.state).1 one
    (subst (λ (u : State). AllOf (GoesWhereOpen u e (Space.on s.setting e u).0) (Space.on s.setting e u).1) (sym k.state) (frames_go_where_open s.setting s.history e))
  where
    one : (o : Output) → GoesWhereOpen s.state e (Space.on s.setting e s.state).0 o → ClosesInVain w o
    one (Close conn) a = by (open-stays ways results w s k e calm conn (taken-open s.setting lent s.state conn a.0.0 (subst (λ d. refusal s.setting lent s.state d ≡ None) a.0.1 t)))
      where
        by : (is_open (Space.on s.setting e s.state).0 conn ≡ true) ⊎ InVain w conn → InVain w conn
        by (inl live) = absurd (true≢false (sym live ∙ a.1))
        by (inr vain) = vain
    one (Started task) a = tt
    one (Ended task outcome) a = tt
    one (Withdrawn ids) a = tt
    one (Denied why) a = tt
    one (Send conn m) a = tt
    one (Dial peer) a = tt
    one (Ready task) a = tt

grown-known : (lent : List ℕ) (e : Event) (s : Space) → refusal s.setting lent s.state e ≡ None → OpensOnce (e ∷ s.history) → Known s → Known (grown e s)
unfolding Space.state_of Space.outputs_of
grown-known lent e s t once k = record {
  state = ap (λ u. (Space.on s.setting e u).0) k.state;
  outputs = ap (λ (os : List Output). os ++ (Space.on s.setting e s.state).1) k.outputs ∙ ap (λ (u : State). Space.all_outputs s.setting s.history ++ (Space.on s.setting e u).1) k.state;
  taken = ((lent, subst (λ (u : State). refusal s.setting lent u e ≡ None) k.state t), k.taken);
  once = once;
}

take-standing : FramesGoTheirWay → ParkedResultsCame → (settings : List Setting) (lent : List ℕ) (i : ℕ) (e : Event) (s : Space) (r : World) → slice_get r.spaces i ≡ Some s → refusal s.setting lent s.state e ≡ None → Calm r s e → OpensOnce (e ∷ s.history)
    → ((conn : ℕ) (dialled : Option Uuid) → e ≡ Opened conn dialled → Joined r.spaces i dialled (ends_at r.pipes conn)) → Standing settings r → Standing settings (take_event i e s r)
unfolding take_event
take-standing ways results settings lent i e s r at t calm once opening h = puts-standing settings i (Space.on s.setting e s.state).1 (record r { spaces = at_index (grown e) i r.spaces }) (all-weaken (ClosesInVain r) (ClosesInVain (record r { spaces = at_index (grown e) i r.spaces })) (Space.on s.setting e s.state).1 later (closes-vain ways results r s k lent e t calm)) (record {
  settings_are = map-same (λ (x : Space). x.setting) (grown e) (λ x. refl) i r.spaces ∙ h.settings_are;
  live = λ n p found. vain n (h.live n p found);
  joins = λ j x found conn dialled o. joined-as r.spaces (at_index (grown e) i r.spaces) ids j dialled (ends_at r.pipes conn) (joins j x conn dialled o (index-row (grown e) i j r.spaces x found));
  stays = λ j x found conn dialled o. vain conn (stays j x conn dialled o (index-row (grown e) i j r.spaces x found));
  asked = all-weaken (λ (x : ℕ × ℕ). is_some (id_of r.spaces x.1) ≡ true) (λ (x : ℕ × ℕ). is_some (id_of (at_index (grown e) i r.spaces) x.1) ≡ true) r.asked (λ x a. ap is_some (ids x.1) ∙ a) h.asked;
  known = all-row Known i (grown e) r.spaces (λ x found. subst (λ (y : Space). Known (grown e y)) (some-same (sym at ∙ found)) (grown-known lent e s t once k)) h.known;
})
  where
    k : Known s
    k = at-all Known i r.spaces s at h.known

    ids : (j : ℕ) → id_of (at_index (grown e) i r.spaces) j ≡ id_of r.spaces j
    ids j = index-same (λ (x : Space). x.setting.id) (grown e) (λ x. refl) i j r.spaces

    vain : {A : Type 0} (n : ℕ) → A ⊎ InVain r n → A ⊎ InVain (record r { spaces = at_index (grown e) i r.spaces }) n
    vain n (inl x) = inl x
    vain n (inr x) = inr (vain-grown e i r n x)

    later : (o : Output) → ClosesInVain r o → ClosesInVain (record r { spaces = at_index (grown e) i r.spaces }) o
    later (Close conn) a = vain-grown e i r conn a
    later (Started task) a = tt
    later (Ended task outcome) a = tt
    later (Withdrawn ids) a = tt
    later (Denied why) a = tt
    later (Send conn m) a = tt
    later (Dial peer) a = tt
    later (Ready task) a = tt

    joins : (j : ℕ) (x : Space) (conn : ℕ) (dialled : Option Uuid) → IsOneOf (Opened conn dialled) x.history → (slice_get r.spaces j ≡ Some x) ⊎ ((j ≡ i) × ((y : Space) × ((slice_get r.spaces i ≡ Some y) × (x ≡ grown e y)))) → Joined r.spaces j dialled (ends_at r.pipes conn)
    joins j x conn dialled o (inl found) = h.joins j x found conn dialled o
    joins j x conn dialled o (inr z) = subst (λ n. Joined r.spaces n dialled (ends_at r.pipes conn)) (sym z.0) (by (subst (λ (y : Space). IsOneOf (Opened conn dialled) y.history) z.1.1.1 o))
      where
        by : IsOneOf (Opened conn dialled) (e ∷ z.1.0.history) → Joined r.spaces i dialled (ends_at r.pipes conn)
        by (inl same) = opening conn dialled (sym same)
        by (inr o) = h.joins i z.1.0 z.1.1.0 conn dialled o

    stays : (j : ℕ) (x : Space) (conn : ℕ) (dialled : Option Uuid) → IsOneOf (Opened conn dialled) x.history → (slice_get r.spaces j ≡ Some x) ⊎ ((j ≡ i) × ((y : Space) × ((slice_get r.spaces i ≡ Some y) × (x ≡ grown e y)))) → (is_open x.state conn ≡ true) ⊎ InVain r conn
    stays j x conn dialled o (inl found) = h.stays j x found conn dialled o
    stays j x conn dialled o (inr z) = subst (λ (y : Space). (is_open y.state conn ≡ true) ⊎ InVain r conn) (sym (z.1.1.1 ∙ ap (grown e) row)) (by (subst (λ (y : Space). IsOneOf (Opened conn dialled) y.history) (z.1.1.1 ∙ ap (grown e) row) o))
      where
        row : z.1.0 ≡ s
        row = some-same (sym z.1.1.0 ∙ at)

        now : Opened conn dialled ≡ e → is_open (Space.on s.setting e s.state).0 conn ≡ true
        now same = subst (λ d. is_open (Space.on s.setting d s.state).0 conn ≡ true) same (subst (λ (u : State). is_open (Space.on s.setting (Opened conn dialled) u).0 conn ≡ true) (sym k.state) (opens-open ways results s.setting s.history conn dialled k.taken k.once))

        before : (is_open s.state conn ≡ true) ⊎ InVain r conn → (is_open (Space.on s.setting e s.state).0 conn ≡ true) ⊎ InVain r conn
        before (inl live) = open-stays ways results r s k e calm conn live
        before (inr x) = inr x

        by : IsOneOf (Opened conn dialled) (e ∷ s.history) → (is_open (Space.on s.setting e s.state).0 conn ≡ true) ⊎ InVain r conn
        by (inl same) = inl (now same)
        by (inr o) = before (h.stays i s at conn dialled o)

-- ---- events reach a space

why-standing : (settings : List Setting) (w : World) (why : Option Refusal) → Standing settings w → Standing settings (record w { refused = why })
why-standing settings w why h = record { settings_are = h.settings_are; live = h.live; joins = h.joins; stays = h.stays; asked = h.asked; known = h.known }

some-standing : {A : Type 0} (settings : List Setting) (t : World) (x : Option A) (f : A → World) → (x ≡ None → Standing settings t) → ((a : A) → x ≡ Some a → Standing settings (f a)) → Standing settings (with_some x t f)
some-standing settings t None f h k = h refl
some-standing settings t (Some a) f h k = k a refl

if-standing : (settings : List Setting) (t u : World) (b : Bool) → (b ≡ true → Standing settings t) → (b ≡ false → Standing settings u) → Standing settings (if b then t else u)
if-standing settings t u true h k = h refl
if-standing settings t u false h k = k refl

act-standing : FramesGoTheirWay → ParkedResultsCame → (settings : List Setting) (before : World) (i : ℕ) (e : Event) (r : World) → Standing settings before → Standing settings r → ((s : Space) → slice_get r.spaces i ≡ Some s → refusal s.setting (Worlds.lent_for e) s.state e ≡ None → Calm r s e)
    → ((s : Space) → slice_get r.spaces i ≡ Some s → refusal s.setting (Worlds.lent_for e) s.state e ≡ None → OpensOnce (e ∷ s.history))
    → ((conn : ℕ) (dialled : Option Uuid) → e ≡ Opened conn dialled → Joined r.spaces i dialled (ends_at r.pipes conn)) → Standing settings (acts before i (e ∷ []) r)
unfolding acts
act-standing ways results settings before i e r old h calm once opening = some-standing settings before (slice_get r.spaces i) _ (λ none. old) (λ s at. some-standing settings (take_event i e s r) (refusal s.setting (Worlds.lent_for e) s.state e) _
    (λ t. take-standing ways results settings (Worlds.lent_for e) i e s r at t (calm s at t) (once s at t) opening h) (λ why refused. why-standing settings before (Some why) old))

-- an event that opens no connection opens none twice
once-more : (e : Event) → ((conn : ℕ) (dialled : Option Uuid) → e ≡ Opened conn dialled → ⊥) → (h : List Event) → OpensOnce h → OpensOnce (e ∷ h)
once-more e closed h once = (λ conn is. absurd (by e conn is closed), once)
  where
    by : (d : Event) (conn : ℕ) → opens conn d ≡ true → ((n : ℕ) (dialled : Option Uuid) → d ≡ Opened n dialled → ⊥) → ⊥
    by (Opened n dialled) conn is none = none n dialled refl
    by _ conn is none = true≢false (sym is)

put-spaces : (i : ℕ) (w : World) (o : Output) → (put i w o).spaces ≡ w.spaces
put-spaces i w (Started task) = refl
put-spaces i w (Ended task outcome) = refl
put-spaces i w (Withdrawn ids) = refl
put-spaces i w (Denied why) = refl
put-spaces i w (Send conn m) = refl
put-spaces i w (Dial peer) = by (Worlds.number_of w.spaces peer)
  where
    by : (o : Option ℕ) → (Worlds.asks_for i o w).spaces ≡ w.spaces
    by None = refl
    by (Some j) = refl
put-spaces i w (Close conn) = refl
put-spaces i w (Ready task) = refl

puts-spaces : (i : ℕ) (os : List Output) (w : World) → (each (put i) os w).spaces ≡ w.spaces
unfolding each
puts-spaces i [] w = refl
puts-spaces i (o ∷ os) w = puts-spaces i os (put i w o) ∙ put-spaces i w o

-- as an event is taken, the space that took it is there
acts-takes : (before : World) (i : ℕ) (e : Event) (r : World) (s : Space) → slice_get r.spaces i ≡ Some s → refusal s.setting (Worlds.lent_for e) s.state e ≡ None → slice_get (acts before i (e ∷ []) r).spaces i ≡ Some (grown e s)
unfolding acts take_event
acts-takes before i e r s at t = subst (λ (o : Option Space). slice_get (with_some o before (λ x. with_some (refusal x.setting (Worlds.lent_for e) x.state e) (take_event i e x r) (λ why. record before { refused = Some why }))).spaces i ≡ Some (grown e s)) (sym at)
    (subst (λ (o : Option Refusal). slice_get (with_some o (take_event i e s r) (λ why. record before { refused = Some why })).spaces i ≡ Some (grown e s)) (sym t)
    (ap (λ (xs : List Space). slice_get xs i) (puts-spaces i (Space.on s.setting e s.state).1 (record r { spaces = at_index (grown e) i r.spaces })) ∙ here i r.spaces at))
  where
    here : (n : ℕ) (xs : List Space) → slice_get xs n ≡ Some s → slice_get (at_index (grown e) n xs) n ≡ Some (grown e s)
    here n [] f = absurd (some-none s (sym f))
    here zero (x ∷ xs) f = ap (λ (y : Space). Some (grown e y)) (some-same f)
    here (suc n) (x ∷ xs) f = here n xs f

abbrev Quiet : Event → Type 0
Quiet e = ((conn : ℕ) → is_on conn e ≡ false) × ((conn : ℕ) (dialled : Option Uuid) → e ≡ Opened conn dialled → ⊥)

quiet-standing : FramesGoTheirWay → ParkedResultsCame → (settings : List Setting) (before : World) (i : ℕ) (es : List Event) (r : World) → AllOf Quiet es → Standing settings before → Standing settings r → Standing settings (acts before i es r)
unfolding acts Calm
quiet-standing ways results settings before i [] r a old h = h
quiet-standing ways results settings before i (e ∷ es) r a old h = some-standing settings before (slice_get r.spaces i) _ (λ none. old) (λ s at. some-standing settings (acts before i es (take_event i e s r)) (refusal s.setting (Worlds.lent_for e) s.state e) _
    (λ t. quiet-standing ways results settings before i es (take_event i e s r) a.1 old (take-standing ways results settings (Worlds.lent_for e) i e s r at t (inl a.0.0) (once-more e a.0.1 s.history (at-all Known i r.spaces s at h.known).once) (λ conn dialled same. absurd (a.0.1 conn dialled same)) h)) (λ why refused. why-standing settings before (Some why) old))

own-quiet : (e : Event) → Worlds.is_own e ≡ true → Quiet e
own-quiet e own = (no-frame e own, λ conn dialled same. true≢false (sym own ∙ ap Worlds.is_own same))
  where
    no-frame : (d : Event) → Worlds.is_own d ≡ true → (conn : ℕ) → is_on conn d ≡ false
    no-frame (Received n m) own conn = absurd (true≢false (sym own))
    no-frame (Closed n) own conn = absurd (true≢false (sym own))
    no-frame (ReadFailed n) own conn = absurd (true≢false (sym own))
    no-frame (Bad n) own conn = absurd (true≢false (sym own))
    no-frame (WriteFailed n unsent) own conn = absurd (true≢false (sym own))
    no-frame (Moment moment) own conn = refl
    no-frame Sweep own conn = refl
    no-frame (Root method arguments fuel) own conn = refl
    no-frame (RootAck task) own conn = refl
    no-frame (Bind name value) own conn = refl
    no-frame (Rebind name value) own conn = refl
    no-frame (Unbind name) own conn = refl
    no-frame (Lookup peer name) own conn = refl
    no-frame (Opened n dialled) own conn = refl
    no-frame (Refused peer) own conn = refl
    no-frame (Committed task k op) own conn = refl
    no-frame (Parked task k) own conn = refl
    no-frame (GivenBack task k) own conn = refl
    no-frame (Finished task k) own conn = refl

abbrev is_opened : Event → Bool
is_opened (Opened conn dialled) = true
is_opened _ = false

lent-quiet : (id : ℕ) (task : Task) → AllOf Quiet (Worlds.step_events id task)
lent-quiet id task = at (stand task)
  where
    committed : (op : Op) → Quiet (Committed id 0 op)
    committed op = ((λ conn. refl), (λ conn dialled same. true≢false (sym (ap is_opened same))))

    given : (k : ℕ) → Quiet (GivenBack id k)
    given k = ((λ conn. refl), (λ conn dialled same. true≢false (sym (ap is_opened same))))

    finished : (k : ℕ) → Quiet (Finished id k)
    finished k = ((λ conn. refl), (λ conn dialled same. true≢false (sym (ap is_opened same))))

    parked : Quiet (Parked id 0)
    parked = ((λ conn. refl), (λ conn dialled same. true≢false (sym (ap is_opened same))))

    after-one : (over : Bool) → AllOf Quiet (Worlds.events_after id over)
    after-one true = (finished 1, tt)
    after-one false = (given 1, tt)

    of-op : (op : Op) → AllOf Quiet (Worlds.events_of_op id op)
    of-op (Create class) = (committed (Create class), (given 0, tt))
    of-op (Get object slot) = (committed (Get object slot), (given 0, tt))
    of-op (Put object slot value) = (committed (Put object slot value), (given 0, tt))
    of-op (Call target method arguments) = (parked, tt)

    at : (stands : Stand) → AllOf Quiet (Worlds.events_at id task stands)
    at Runs = after-one (is_at_end (step task).behaviour)
    at (AsksFor op) = of-op op
    at (HasEnded outcome) = (finished 0, tt)

-- ---- events of a world

-- whether an event is a failure
abbrev fails : WorldEvent → Bool
fails e = Rattle.sp_order_laws.specs.Unbroken.is_failure e

-- each frame that is first in its queue is welcome, but on a connection that tried a version in vain
abbrev pub AllWelcome : World → Type 0
AllWelcome w = (conn : ℕ) (p : Pipe) (to : End) (m : Message) (ms : List Message) (s : Space) (c : Connection) → slice_get w.pipes conn ≡ Some p → (side to p).queue ≡ m ∷ ms → slice_get w.spaces (side to p).space ≡ Some s → connection_at s.state conn ≡ Some c
    → (is_welcome s.setting s.state c m ≡ true) ⊎ InVain w conn

pub happens-standing : FramesGoTheirWay → ParkedResultsCame → (settings : List Setting) (e : WorldEvent) (w : World) → fails e ≡ false → AllWelcome w → AllOf IsOpenedOnce (happens e w).spaces → Standing settings w → Standing settings (happens e w)
unfolding Worlds.open_pipe Worlds.accept Worlds.deliver Worlds.step_task Calm
happens-standing ways results settings (Own i e) w fine welcome later h = if-standing settings (Worlds.act w i e w) w (Worlds.is_own e) (λ own. quiet-standing ways results settings w i (e ∷ []) w (own-quiet e own, tt) h h) (λ foreign. h)
happens-standing ways results settings (Step i task) w fine welcome later h = some-standing settings w (slice_get w.spaces i) _ (λ none. h) (λ s at. some-standing settings (record w { refused = Some NotLent }) (task_at s.state task) _ (λ none. why-standing settings w (Some NotLent) h)
    (λ t found. if-standing settings (record w { refused = Some NotLent }) (acts w i (Worlds.step_events task t.task) w) t.waits (λ waits. why-standing settings w (Some NotLent) h) (λ ready. quiet-standing ways results settings w i (Worlds.step_events task t.task) w (lent-quiet task t.task) h h)))
happens-standing ways results settings (Open a b) w fine welcome later h = if-standing settings (acts w a (Opened (length w.pipes) (Worlds.id_at b w) ∷ []) made) w (Worlds.is_asked a b w) (λ asked. act-standing ways results settings w a (Opened (length w.pipes) (Worlds.id_at b w)) made h ready (λ s at t. calm s) (once asked) (opening asked)) (λ not-asked. h)
  where
    made : World
    made = record w { asked = Worlds.without_pair a b w.asked; pipes = w.pipes ++ Worlds.new_pipe a b ∷ [] }

    fewer : (xs : List (ℕ × ℕ)) → AllOf (λ (x : ℕ × ℕ). is_some (id_of w.spaces x.1) ≡ true) xs → AllOf (λ (x : ℕ × ℕ). is_some (id_of w.spaces x.1) ≡ true) (Worlds.without_pair a b xs)
    fewer [] k = tt
    fewer (x ∷ xs) k = pick (Worlds.is_pair a b x) (fewer xs k.1)
      where
        pick : (c : Bool) → AllOf (λ (y : ℕ × ℕ). is_some (id_of w.spaces y.1) ≡ true) (Worlds.without_pair a b xs) → AllOf (λ (y : ℕ × ℕ). is_some (id_of w.spaces y.1) ≡ true) (if c then xs else x ∷ Worlds.without_pair a b xs)
        pick true rest = k.1
        pick false rest = (k.0, rest)

    ready : Standing settings made
    ready = record {
      settings_are = h.settings_are;
      live = λ n p at. live n p at (slice_get w.pipes n) refl;
      joins = λ i s at conn dialled o. joined-more w.spaces i dialled w.pipes (Worlds.new_pipe a b) conn (h.joins i s at conn dialled o);
      stays = λ i s at conn dialled o. vain conn (h.stays i s at conn dialled o);
      asked = fewer w.asked h.asked;
      known = h.known;
    }
      where
        vain : {A : Type 0} (n : ℕ) → A ⊎ InVain w n → A ⊎ InVain made n
        vain n (inl x) = inl x
        vain n (inr x) = inr (vain-more w (Worlds.new_pipe a b) (Worlds.without_pair a b w.asked) n x)

        last : (n : ℕ) (xs : List Pipe) (p : Pipe) → slice_get xs n ≡ None → slice_get (xs ++ Worlds.new_pipe a b ∷ []) n ≡ Some p → p ≡ Worlds.new_pipe a b
        last zero [] p e at = some-same (sym at)
        last (suc n) [] p e at = absurd (some-none p (sym at))
        last zero (x ∷ xs) p e at = absurd (some-none x e)
        last (suc n) (x ∷ xs) p e at = last n xs p e at

        live : (n : ℕ) (p : Pipe) → slice_get (w.pipes ++ Worlds.new_pipe a b ∷ []) n ≡ Some p → (o : Option Pipe) → slice_get w.pipes n ≡ o → Alive p ⊎ InVain made n
        live n p at None e = inl (subst Alive (sym (last n w.pipes p e at)) (refl, refl))
        live n p at (Some q) e = subst (λ (x : Pipe). Alive x ⊎ InVain made n) (some-same (sym (was-row n w.pipes q e) ∙ at)) (vain n (h.live n q e))
          where
            was-row : (m : ℕ) (xs : List Pipe) (x : Pipe) → slice_get xs m ≡ Some x → slice_get (xs ++ Worlds.new_pipe a b ∷ []) m ≡ Some x
            was-row m [] x f = absurd (some-none x (sym f))
            was-row zero (y ∷ ys) x f = f
            was-row (suc m) (y ∷ ys) x f = was-row m ys x f

    once : Worlds.is_asked a b w ≡ true → (s : Space) → slice_get made.spaces a ≡ Some s → refusal s.setting (Worlds.lent_for (Opened (length w.pipes) (Worlds.id_at b w))) s.state (Opened (length w.pipes) (Worlds.id_at b w)) ≡ None → OpensOnce (Opened (length w.pipes) (Worlds.id_at b w) ∷ s.history)
    once asked s at t = (at-all IsOpenedOnce a (acts w a (Opened (length w.pipes) (Worlds.id_at b w) ∷ []) made).spaces (grown (Opened (length w.pipes) (Worlds.id_at b w)) s) (acts-takes w a (Opened (length w.pipes) (Worlds.id_at b w)) made s at t)
        (subst (λ (x : Bool). AllOf IsOpenedOnce (if x then acts w a (Opened (length w.pipes) (Worlds.id_at b w) ∷ []) made else w).spaces) asked later)).0

    calm : (s : Space) → Calm made s (Opened (length w.pipes) (Worlds.id_at b w))
    calm s = inl (λ conn. refl)

    asked-there : (xs : List (ℕ × ℕ)) → AllOf (λ (x : ℕ × ℕ). is_some (id_of w.spaces x.1) ≡ true) xs → Rattle.std.specs.List.list_any (Worlds.is_pair a b) xs ≡ true → is_some (id_of w.spaces b) ≡ true
    asked-there [] k e = absurd (true≢false (sym e))
    asked-there (x ∷ xs) k e = pick (Worlds.is_pair a b x) refl e (asked-there xs k.1)
      where
        pick : (c : Bool) → Worlds.is_pair a b x ≡ c → c || Rattle.std.specs.List.list_any (Worlds.is_pair a b) xs ≡ true → (Rattle.std.specs.List.list_any (Worlds.is_pair a b) xs ≡ true → is_some (id_of w.spaces b) ≡ true) → is_some (id_of w.spaces b) ≡ true
        pick true f g rest = subst (λ n. is_some (id_of w.spaces n) ≡ true) (eqb-true x.1 b (right (x.0 == a) (x.1 == b) f)) k.0
          where
            right : (c d : Bool) → c && d ≡ true → d ≡ true
            right true d z = z
            right false d z = absurd (true≢false (sym z))
        pick false f g rest = rest g

    conn-of : Event → ℕ
    conn-of (Opened conn dialled) = conn
    conn-of _ = 0

    dialled-of : Event → Option Uuid
    dialled-of (Opened conn dialled) = dialled
    dialled-of _ = None

    opening : Worlds.is_asked a b w ≡ true → (conn : ℕ) (dialled : Option Uuid) → Opened (length w.pipes) (Worlds.id_at b w) ≡ Opened conn dialled → Joined w.spaces a dialled (ends_at (w.pipes ++ Worlds.new_pipe a b ∷ []) conn)
    opening asked conn dialled same = subst (λ n. Joined w.spaces a dialled (ends_at (w.pipes ++ Worlds.new_pipe a b ∷ []) n)) (ap conn-of same) (subst (Joined w.spaces a dialled) (sym (ap (λ (o : Option Pipe). option_map (λ (p : Pipe). (p.dialler.space, p.accepter.space)) o) (last-row w.pipes (Worlds.new_pipe a b)))) (at dialled (sym (id-same w.spaces b) ∙ ap dialled-of same)))
      where
        at : (d : Option Uuid) → id_of w.spaces b ≡ d → Joined w.spaces a d (Some (a, b))
        at None e = absurd (true≢false (sym (asked-there w.asked h.asked asked) ∙ ap is_some e))
        at (Some peer) e = (refl, e)
happens-standing ways results settings (Refuse a b) w fine welcome later h = absurd (true≢false fine)
happens-standing ways results settings (Accept conn) w fine welcome later h = some-standing settings w (slice_get w.pipes conn) _ (λ none. h) (λ p is. at p is p.accepter.phase refl)
  where
    alive : (p : Pipe) → Alive p → Alive (Worlds.set_side Worlds.begin_side Accepter p)
    alive p k = (k.0, refl)

    ready : Standing settings (Worlds.on_side Worlds.begin_side conn Accepter w)
    ready = pipes-standing settings (Worlds.set_side Worlds.begin_side Accepter) (λ p. refl) (λ p. refl) conn w (inl alive) h

    calm : (s : Space) → Calm (Worlds.on_side Worlds.begin_side conn Accepter w) s (Opened conn None)
    calm s = inl (λ n. refl)

    conn-of : Event → ℕ
    conn-of (Opened n dialled) = n
    conn-of _ = 0

    dialled-of : Event → Option Uuid
    dialled-of (Opened n dialled) = dialled
    dialled-of _ = None

    opening : (p : Pipe) → slice_get w.pipes conn ≡ Some p → (n : ℕ) (dialled : Option Uuid) → Opened conn None ≡ Opened n dialled → Joined w.spaces p.accepter.space dialled (ends_at (at_index (Worlds.set_side Worlds.begin_side Accepter) conn w.pipes) n)
    opening p is n dialled same = subst (λ m. Joined w.spaces p.accepter.space dialled (ends_at (at_index (Worlds.set_side Worlds.begin_side Accepter) conn w.pipes) m)) (ap conn-of same)
        (subst (λ d. Joined w.spaces p.accepter.space d (ends_at (at_index (Worlds.set_side Worlds.begin_side Accepter) conn w.pipes) conn)) (ap dialled-of same)
        (subst (Joined w.spaces p.accepter.space None) (sym (index-same (λ (q : Pipe). (q.dialler.space, q.accepter.space)) (Worlds.set_side Worlds.begin_side Accepter) (λ q. refl) conn conn w.pipes ∙ ap (λ (o : Option Pipe). option_map (λ (q : Pipe). (q.dialler.space, q.accepter.space)) o) is)) refl))

    once : (p : Pipe) → slice_get w.pipes conn ≡ Some p → p.accepter.phase ≡ Unopened → (s : Space) → slice_get w.spaces p.accepter.space ≡ Some s → refusal s.setting (Worlds.lent_for (Opened conn None)) s.state (Opened conn None) ≡ None → OpensOnce (Opened conn None ∷ s.history)
    once p is unopened s at t = (at-all IsOpenedOnce p.accepter.space (acts w p.accepter.space (Opened conn None ∷ []) (Worlds.on_side Worlds.begin_side conn Accepter w)).spaces (grown (Opened conn None) s) (acts-takes w p.accepter.space (Opened conn None) (Worlds.on_side Worlds.begin_side conn Accepter w) s at t)
        (subst (λ (x : Phase). AllOf IsOpenedOnce (Worlds.accept_at conn w p.accepter.space x).spaces) unopened (subst (λ (o : Option Pipe). AllOf IsOpenedOnce (with_some o w (λ (q : Pipe). Worlds.accept_at conn w q.accepter.space q.accepter.phase)).spaces) is later))).0

    at : (p : Pipe) → slice_get w.pipes conn ≡ Some p → (phase : Phase) → p.accepter.phase ≡ phase → Standing settings (Worlds.accept_at conn w p.accepter.space phase)
    at p is Unopened unopened = act-standing ways results settings w p.accepter.space (Opened conn None) (Worlds.on_side Worlds.begin_side conn Accepter w) h ready (λ s found t. calm s) (once p is unopened) (opening p is)
    at p is Live unopened = h
    at p is Over unopened = h
happens-standing ways results settings (Deliver conn to) w fine welcome later h = some-standing settings w (slice_get w.pipes conn) _ (λ none. h) (λ p is. if-standing settings _ w (Worlds.is_live (side to p).phase) (λ live. first p is (Worlds.is_ended (side (other to) p).phase) refl (side to p).queue refl) (λ not-live. h))
  where
    alive : (end : End) (p : Pipe) → Alive p → Alive (Worlds.set_side Worlds.take_front end p)
    alive Dialler p k = k
    alive Accepter p k = k

    d : (end : End) (p : Pipe) → (Worlds.set_side Worlds.take_front end p).dialler.space ≡ p.dialler.space
    d Dialler p = refl
    d Accepter p = refl

    a : (end : End) (p : Pipe) → (Worlds.set_side Worlds.take_front end p).accepter.space ≡ p.accepter.space
    a Dialler p = refl
    a Accepter p = refl

    ready : Standing settings (Worlds.on_side Worlds.take_front conn to w)
    ready = pipes-standing settings (Worlds.set_side Worlds.take_front to) (d to) (a to) conn w (inl (alive to)) h

    ended : (end : End) (p : Pipe) → Alive p → Worlds.is_ended (side end p).phase ≡ false
    ended Dialler p k = k.0
    ended Accepter p k = k.1

    no-opening : (m : Message) (n : ℕ) (dialled : Option Uuid) → Received conn m ≡ Opened n dialled → ⊥
    no-opening m n dialled same = true≢false (sym (ap is_opened same))

    apart : (n : ℕ) → (n ≡ conn → ⊥) → (conn == n) ≡ false
    apart n away = by (conn == n) refl
      where
        by : (b : Bool) → (conn == n) ≡ b → b ≡ false
        by true e = absurd (away (sym (eqb-true conn n e)))
        by false e = refl

    calm : (p : Pipe) → slice_get w.pipes conn ≡ Some p → (m : Message) (ms : List Message) → (side to p).queue ≡ m ∷ ms → (s : Space) → slice_get w.spaces (side to p).space ≡ Some s → refusal s.setting [] s.state (Received conn m) ≡ None → Calm (Worlds.on_side Worlds.take_front conn to w) s (Received conn m)
    calm p is m ms queue s at t = by (connection_at s.state conn) refl (taken-open s.setting [] s.state conn m t)
      where
        by : (o : Option Connection) → connection_at s.state conn ≡ o → is_some o ≡ true → ((n : ℕ) → is_on n (Received conn m) ≡ false) ⊎ (Welcomed s (Received conn m) ⊎ OfVain (Worlds.on_side Worlds.take_front conn to w) (Received conn m))
        by None e f = absurd (true≢false (sym f))
        by (Some c) e f = inr (which (welcome conn p to m ms s c is queue at e))
          where
            which : (is_welcome s.setting s.state c m ≡ true) ⊎ InVain w conn → Welcomed s (Received conn m) ⊎ OfVain (Worlds.on_side Worlds.take_front conn to w) (Received conn m)
            which (inl x) = inl (record { conn = conn; m = m; row = c; same = refl; there = e; welcome = x })
            which (inr x) = inr (record { conn = conn; vain = vain-pipe (Worlds.set_side Worlds.take_front to) (d to) (a to) conn w conn x; others = apart })

    first : (p : Pipe) → slice_get w.pipes conn ≡ Some p → (over : Bool) → Worlds.is_ended (side (other to) p).phase ≡ over → (queue : List Message) → (side to p).queue ≡ queue → Standing settings (Worlds.deliver_first conn to w (side to p).space over queue)
    first p is over e (m ∷ ms) q = act-standing ways results settings w (side to p).space (Received conn m) (Worlds.on_side Worlds.take_front conn to w) h ready (λ s at t. calm p is m ms q s at t)
        (λ s at t. once-more (Received conn m) (no-opening m) s.history (at-all Known (side to p).space w.spaces s at h.known).once) (λ n dialled same. absurd (no-opening m n dialled same))
    first p is true e [] q = closed (h.live conn p is)
      where
        closes : (n : ℕ) (dialled : Option Uuid) → Closed conn ≡ Opened n dialled → ⊥
        closes n dialled same = true≢false (sym (ap is_opened same))

        closed : Alive p ⊎ InVain w conn → Standing settings (acts w (side to p).space (Closed conn ∷ []) (Worlds.on_side Worlds.ends conn to w))
        closed (inl k) = absurd (true≢false (sym e ∙ ended (other to) p k))
        closed (inr vain) = act-standing ways results settings w (side to p).space (Closed conn) (Worlds.on_side Worlds.ends conn to w) h
            (pipes-standing settings (Worlds.set_side Worlds.ends to) (λ p. set-dialler Worlds.ends (λ x. refl) to p) (λ p. set-accepter Worlds.ends (λ x. refl) to p) conn w (inr vain) h)
            (λ s at t. inr (inr (record { conn = conn; vain = vain-pipe (Worlds.set_side Worlds.ends to) (λ p. set-dialler Worlds.ends (λ x. refl) to p) (λ p. set-accepter Worlds.ends (λ x. refl) to p) conn w conn vain; others = apart })))
            (λ s at t. once-more (Closed conn) closes s.history (at-all Known (side to p).space w.spaces s at h.known).once) (λ n dialled same. absurd (closes n dialled same))
    first p is false e [] q = h
happens-standing ways results settings (ReadFails conn at) w fine welcome later h = absurd (true≢false fine)
happens-standing ways results settings (WriteFails conn at unsent) w fine welcome later h = absurd (true≢false fine)
