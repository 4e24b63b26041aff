-- What comes was sent, and nothing comes after what was lost, through every event of a world.
use mathlib.Core.Path.{sym, ap, subst, ◌∙◌}
use Rattle.std.proofs.Common.{inl, inr}
use Rattle.std.proofs.lemmas.Bool.{true≢false, eqb-true, eq-eqb}
use Rattle.std.specs.Prelude.{if◌then◌else◌, ◌≡◌, ◌⊎◌, refl, ℕ, zero, suc, ◌==◌, ◌||◌, length, Bool, true, false, List, [], ◌∷◌, ◌++◌, Option, None, Some, slice_get, map}
use Rattle.net_message.specs.declared.message.Message.{Message}
use Rattle.net_message.specs.declared.message.Message.TheVariants as message
use Rattle.uuid.specs.declared.Uuid.{Uuid}
use Rattle.sp_rules.specs.Behaviours.{Op, Create, Get, Put, Call}
use Rattle.sp_rules.specs.Classes.{Setting}
use Rattle.sp_rules.specs.Events.{Event, Opened, Refused, Received, Closed, ReadFailed, WriteFailed, Output, Started, Ended, Withdrawn, Denied, Send, Dial, Close, Ready}
use Rattle.sp_rules.specs.Laws.{AllOf, HasHistory}
use Rattle.sp_rules.specs.Lists.{with_some, at_index}
use Rattle.sp_rules.specs.Refusals.{Refusal, refusal}
use Rattle.sp_rules.specs.Space
use Rattle.sp_rules.specs.State.{State, task_at, is_open}
use Rattle.sp_rules.specs.Tasks.{Task, Stand, Runs, AsksFor, HasEnded, is_at_end, stand, step}
use Rattle.sp_rules.specs.Worlds
use Rattle.sp_rules.specs.Worlds.{World, Space, End, Dialler, Accepter, Side, Pipe, Phase, Unopened, Live, Over, side, other, grown, put, acts, take_event, after, happens, run, new_space, new_world, WorldEvent, Own, Step, Open, Refuse, Accept, Deliver, ReadFails, WriteFails}
use Rattle.sp_rules.proofs.AllLemmas.{some-none, or-left, or-right, all-with}
use Rattle.sp_rules.proofs.OwnLemmas.{some-same, and-left}
use Rattle.sp_laws.specs.Inbound.{opens}
use Rattle.sp_laws.specs.Others.{HasTwoEnds}
use Rattle.sp_laws.proofs.OnceRules.{Apart, pair-apart, once_run}
use Rattle.sp_laws.specs.Open.{ends_on, is_sent_on, IsSilent, GoesWhereOpen}
use Rattle.sp_laws.proofs.OpenLemmas.{frames_go_where_open}
use Rattle.sp_laws.proofs.ShutLemmas.{connections_end}
use Rattle.sp_laws.proofs.SilentLemmas.{ended_connections_are_silent}
use Rattle.sp_laws.specs.Directions.{opens_end, was_opened, HasOpened, GoesItsWay, HasDirections}
use Rattle.sp_laws.specs.CallSent.{MaySend}
use Rattle.sp_laws.proofs.DirectionLemmas.{frames_go_their_way, spaces_have_directions}
use Rattle.sp_order_laws.specs.Delivered.{frame_of, came_on, frame_in, sent_on, outputs_in, outputs_at, AreSomeOf, is_event_on, has_event_on, IsEnd, WhatComesWasSent}
use Rattle.sp_order_laws.specs.InOrder.{AreInOrder, LostFramesComeLast}
use Rattle.sp_order_laws.proofs.ListLemmas.{WasRow, row-of, row-more, row-last, row-past, some-all, some-more, append-after, append-none}
use Rattle.sp_order_laws.proofs.QueueLemmas.{sent-append, still, still-none, IsEndOf, Brought, Carries, KeepsSpaces, keeps-side, set-keeps, set-phase, two-row, ends-index, ends-more, puts-carry, KeepsOrder, ends-order, cut, cut-order, cut-keeps, at-twice, ends-phases, cut-phases}
pub use Rattle.sp_order_laws.proofs.QueueLemmas.{sent-append}

-- ---- an event comes to a space

-- a world in which what comes was sent, in its order
record Held (w : World) : Type 0 where
  comes : (conn : ℕ) (p : Pipe) (to : End) → slice_get w.pipes conn ≡ Some p → (s : Space) → slice_get w.spaces (side to p).space ≡ Some s
      → AreInOrder (came_on conn s.history) (side to p).queue (sent_on conn (outputs_at w.spaces (side (other to) p).space)) (side (other to) p).phase
  ends : (i conn : ℕ) (s : Space) → slice_get w.spaces i ≡ Some s → has_event_on conn s.history ≡ true → IsEnd i (slice_get w.pipes conn)
  two : (conn : ℕ) (p : Pipe) → slice_get w.pipes conn ≡ Some p → HasTwoEnds p
  histories : AllOf HasHistory w.spaces

-- at an end that is over the connection is not open
abbrev IsShut : World → Type 0
IsShut w = (conn : ℕ) (p : Pipe) (end : End) → slice_get w.pipes conn ≡ Some p → (side end p).phase ≡ Over → (s : Space) → slice_get w.spaces (side end p).space ≡ Some s → is_open s.state conn ≡ false

record Sound (w : World) : Type 0 where
  held : Held w
  over : IsShut w

-- In a world that is made ready for an event, an end that is over is one that the event ends, or the connection is not open there and the event does not open it.
abbrev ShutFor : World → ℕ → Event → Type 0
ShutFor r i e = (conn : ℕ) (p : Pipe) (end : End) → slice_get r.pipes conn ≡ Some p → (side end p).phase ≡ Over → (s : Space) → slice_get r.spaces (side end p).space ≡ Some s
    → ((is_open s.state conn ≡ false) × (i ≡ (side end p).space → opens conn e ≡ false)) ⊎ ((i ≡ (side end p).space) × (ends_on conn e ≡ true))

-- A world is made ready for an event that comes to a space: with it what came is still the first of what was sent.
record IsReady (r : World) (i : ℕ) (e : Event) : Type 0 where
  came : (conn : ℕ) (p : Pipe) (to : End) → slice_get r.pipes conn ≡ Some p → (s : Space) → slice_get r.spaces (side to p).space ≡ Some s
      → ((i ≡ (side to p).space → ⊥) × AreInOrder (came_on conn s.history) (side to p).queue (sent_on conn (outputs_at r.spaces (side (other to) p).space)) (side (other to) p).phase)
      ⊎ ((i ≡ (side to p).space) × AreInOrder (came_on conn (e ∷ s.history)) (side to p).queue (sent_on conn (outputs_at r.spaces (side (other to) p).space)) (side (other to) p).phase)
  ends : (j conn : ℕ) (s : Space) → slice_get r.spaces j ≡ Some s → has_event_on conn s.history ≡ true → IsEnd j (slice_get r.pipes conn)
  there : (conn : ℕ) → is_event_on conn e ≡ true → IsEnd i (slice_get r.pipes conn)
  two : (conn : ℕ) (p : Pipe) → slice_get r.pipes conn ≡ Some p → HasTwoEnds p
  over : ShutFor r i e
  histories : AllOf HasHistory r.spaces

-- a connection that was opened has an event on it
opened-on : (conn : ℕ) (end : Bool) (h : List Event) → HasOpened h conn end → has_event_on conn h ≡ true
opened-on conn end [] o = absurd (true≢false (sym o))
opened-on conn end (e ∷ h) o = by (opens_end conn end e) refl o (opened-on conn end h)
  where
    opens-it : (e : Event) (end : Bool) → opens_end conn end e ≡ true → is_event_on conn e ≡ true
    opens-it (Opened c dialled) true f = and-left (c == conn) _ f
    opens-it (Opened c dialled) false f = and-left (c == conn) _ f
    opens-it _ true f = absurd (true≢false (sym f))
    opens-it _ false f = absurd (true≢false (sym f))

    by : (b : Bool) → opens_end conn end e ≡ b → b || was_opened h conn end ≡ true → (HasOpened h conn end → has_event_on conn h ≡ true) → is_event_on conn e || has_event_on conn h ≡ true
    by true f g rest = or-left (is_event_on conn e) (has_event_on conn h) (opens-it e end f)
    by false f g rest = or-right (is_event_on conn e) (has_event_on conn h) (rest g)

sends-on : (h : List Event) (conn : ℕ) (m : Message) → MaySend (HasOpened h) conn m → has_event_on conn h ≡ true
sends-on h conn (message.Hello version space digest) (inl a) = opened-on conn true h a
sends-on h conn (message.Hello version space digest) (inr a) = opened-on conn false h a
sends-on h conn (message.Call number object method fuel arguments) a = opened-on conn true h a
sends-on h conn (message.Lookup number name) a = opened-on conn true h a
sends-on h conn (message.Ack number) a = opened-on conn true h a
sends-on h conn (message.Dirty sequence period objects) a = opened-on conn true h a
sends-on h conn (message.Clean sequence strong objects) a = opened-on conn true h a
sends-on h conn (message.Returned number fuel value) a = opened-on conn false h a
sends-on h conn (message.Threw number class) a = opened-on conn false h a
sends-on h conn (message.Spent number) a = opened-on conn false h a
sends-on h conn (message.Lease sequence period) a = opened-on conn false h a
sends-on h conn (message.Cleaned sequence) a = opened-on conn false h a

-- what is known of outputs says where they go
output-end : (all : List Space) (i : ℕ) (pipes : List Pipe) (s : Space) (e : Event) (t : State) → ((conn : ℕ) → has_event_on conn (e ∷ s.history) ≡ true → IsEnd i (slice_get pipes conn)) → ((conn : ℕ) → is_event_on conn e ≡ true → IsEnd i (slice_get pipes conn))
    → ((u : Space) → slice_get all i ≡ Some u → u.state ≡ t) → (o : Output) → GoesItsWay (e ∷ s.history) o → GoesWhereOpen s.state e t o → IsEndOf all i pipes o
unfolding IsEndOf
output-end all i pipes s e t ends there now (Send conn m) a b = ends conn (sends-on (e ∷ s.history) conn m a)
output-end all i pipes s e t ends there now (Close conn) a b = (
  there conn (subst (λ d. is_event_on conn d ≡ true) (sym b.0.1) (eq-eqb conn conn refl)),
  λ u at. ap (λ (v : State). is_open v conn) (now u at) ∙ b.1,
)
output-end all i pipes s e t ends there now (Started task) a b = tt
output-end all i pipes s e t ends there now (Ended task outcome) a b = tt
output-end all i pipes s e t ends there now (Withdrawn ids) a b = tt
output-end all i pipes s e t ends there now (Denied why) a b = tt
output-end all i pipes s e t ends there now (Dial peer) a b = tt
output-end all i pipes s e t ends there now (Ready task) a b = tt

ways : (e : Event) (s : Space) → HasHistory s → AllOf (GoesItsWay (e ∷ s.history)) (Space.on s.setting e s.state).1
unfolding Space.outputs_of
ways e s eq = subst (λ t. AllOf (GoesItsWay (e ∷ s.history)) (Space.on s.setting e t).1) (sym eq) (frames_go_their_way s.setting s.history e)

places : (e : Event) (s : Space) → HasHistory s → AllOf (GoesWhereOpen s.state e (Space.on s.setting e s.state).0) (Space.on s.setting e s.state).1
unfolding Space.outputs_of
places e s eq = subst (λ t. AllOf (GoesWhereOpen t e (Space.on s.setting e t).0) (Space.on s.setting e t).1) (sym eq) (frames_go_where_open s.setting s.history e)

-- nothing is sent where it was not open, nor where the event ends it
silent-sent : (conn : ℕ) (os : List Output) → IsSilent conn os → sent_on conn os ≡ []
silent-sent conn [] a = refl
silent-sent conn (o ∷ os) a = ap (λ (l : List Message). l ++ sent_on conn os) (one o a.0) ∙ silent-sent conn os a.1
  where
    one : (o : Output) → is_sent_on conn o ≡ false → frame_in conn o ≡ []
    one (Send c m) e = ap (λ (b : Bool). if b then m ∷ [] else []) e
    one (Started task) e = refl
    one (Ended task outcome) e = refl
    one (Withdrawn ids) e = refl
    one (Denied why) e = refl
    one (Dial peer) e = refl
    one (Close c) e = refl
    one (Ready task) e = refl

silences : (e : Event) (conn : ℕ) (s : Space) → HasHistory s → ((is_open s.state conn ≡ false) × (opens conn e ≡ false)) ⊎ (ends_on conn e ≡ true) → sent_on conn (Space.on s.setting e s.state).1 ≡ []
unfolding Space.outputs_of
silences e conn s eq = subst (λ (t : State). ((is_open t conn ≡ false) × (opens conn e ≡ false)) ⊎ (ends_on conn e ≡ true) → sent_on conn (Space.on s.setting e t).1 ≡ []) (sym eq) by
  where
    by : ((is_open (Space.state_of s.setting s.history) conn ≡ false) × (opens conn e ≡ false)) ⊎ (ends_on conn e ≡ true) → sent_on conn (Space.on s.setting e (Space.state_of s.setting s.history)).1 ≡ []
    by (inl x) = silent-sent conn (Space.on s.setting e (Space.state_of s.setting s.history)).1 ((ended_connections_are_silent s.setting s.history e conn).shut x.0 x.1)
    by (inr x) = silent-sent conn (Space.on s.setting e (Space.state_of s.setting s.history)).1 ((ended_connections_are_silent s.setting s.history e conn).ended x)

history-at : (n : ℕ) (xs : List Space) (x : Space) → slice_get xs n ≡ Some x → AllOf HasHistory xs → HasHistory x
history-at n [] x e a = absurd (some-none x (sym e))
history-at zero (y ∷ xs) x e a = subst HasHistory (some-same e) a.0
history-at (suc n) (y ∷ xs) x e a = history-at n xs x e a.1

histories-grow : (e : Event) (i : ℕ) (xs : List Space) → AllOf HasHistory xs → AllOf HasHistory (at_index (grown e) i xs)
unfolding Space.state_of
histories-grow e i [] a = tt
histories-grow e zero (s ∷ xs) a = (ap (λ t. (Space.on s.setting e t).0) a.0, a.1)
histories-grow e (suc i) (s ∷ xs) a = (a.0, histories-grow e i xs a.1)

-- what the space to which an event comes has answered
outputs-grow : (e : Event) (i j : ℕ) (xs : List Space) (s : Space) → i ≡ j → slice_get xs i ≡ Some s → outputs_at (at_index (grown e) i xs) j ≡ outputs_at xs j ++ (Space.on s.setting e s.state).1
outputs-grow e i j xs s same at = subst (λ k. outputs_at (at_index (grown e) i xs) k ≡ outputs_at xs k ++ (Space.on s.setting e s.state).1) same (here i xs at)
  where
    here : (n : ℕ) (ys : List Space) → slice_get ys n ≡ Some s → outputs_at (at_index (grown e) n ys) n ≡ outputs_at ys n ++ (Space.on s.setting e s.state).1
    here n [] f = absurd (some-none s (sym f))
    here zero (y ∷ ys) f = ap (λ (z : Space). y.outputs ++ (Space.on z.setting e z.state).1) (some-same f)
    here (suc n) (y ∷ ys) f = here n ys f

-- what any other has answered
outputs-stay : (e : Event) (i j : ℕ) (xs : List Space) → (i ≡ j → ⊥) → outputs_at (at_index (grown e) i xs) j ≡ outputs_at xs j
outputs-stay e i j [] apart = refl
outputs-stay e zero zero (x ∷ xs) apart = absurd (apart refl)
outputs-stay e zero (suc j) (x ∷ xs) apart = refl
outputs-stay e (suc i) zero (x ∷ xs) apart = refl
outputs-stay e (suc i) (suc j) (x ∷ xs) apart = outputs-stay e i j xs (λ q. apart (ap suc q))

grows-carries : (i : ℕ) (e : Event) (s : Space) (r : World) → slice_get r.spaces i ≡ Some s → IsReady r i e → Carries (at_index (grown e) i r.spaces) i (Space.on s.setting e s.state).1 (record r { spaces = at_index (grown e) i r.spaces })
grows-carries i e s r at h = record {
  same = refl;
  brings = λ conn p to is. record { toward = λ u to-u. toward conn p to is u (row-of (grown e) i (side to p).space r.spaces u to-u) };
  ends = λ j conn u is has. ends j conn u has (row-of (grown e) i j r.spaces u is);
  two = h.two;
  over = λ conn p end is phase u at-u. shut conn p end is phase u (row-of (grown e) i (side end p).space r.spaces u at-u);
}
  where
    os : List Output
    os = (Space.on s.setting e s.state).1

    ends : (j conn : ℕ) (u : Space) → has_event_on conn u.history ≡ true → WasRow (grown e) i j r.spaces u → IsEnd j (slice_get r.pipes conn)
    ends j conn u has x = by x.1.1
      where
        now : i ≡ j → (b : Bool) → is_event_on conn e ≡ b → b || has_event_on conn x.0.history ≡ true → IsEnd j (slice_get r.pipes conn)
        now same true f g = subst (λ k. IsEnd k (slice_get r.pipes conn)) same (h.there conn f)
        now same false f g = h.ends j conn x.0 x.1.0 g

        by : ((i ≡ j → ⊥) × (u ≡ x.0)) ⊎ ((i ≡ j) × (u ≡ grown e x.0)) → IsEnd j (slice_get r.pipes conn)
        by (inl y) = h.ends j conn x.0 x.1.0 (subst (λ (v : Space). has_event_on conn v.history ≡ true) y.1 has)
        by (inr y) = now y.0 (is_event_on conn e) refl (subst (λ (v : Space). has_event_on conn v.history ≡ true) y.1 has)

    -- an end that is over has the connection no longer open
    shut : (conn : ℕ) (p : Pipe) (end : End) → slice_get r.pipes conn ≡ Some p → (side end p).phase ≡ Over → (u : Space) → WasRow (grown e) i (side end p).space r.spaces u → is_open u.state conn ≡ false
    shut conn p end is phase u x = by x.1.1 (h.over conn p end is phase x.0 x.1.0)
      where
        by : ((i ≡ (side end p).space → ⊥) × (u ≡ x.0)) ⊎ ((i ≡ (side end p).space) × (u ≡ grown e x.0))
            → ((is_open x.0.state conn ≡ false) × (i ≡ (side end p).space → opens conn e ≡ false)) ⊎ ((i ≡ (side end p).space) × (ends_on conn e ≡ true)) → is_open u.state conn ≡ false
        by (inl a) (inl b) = ap (λ (v : Space). is_open v.state conn) a.1 ∙ b.0
        by (inl a) (inr b) = absurd (a.0 b.0)
        by (inr a) (inl b) = ap (λ (v : Space). is_open v.state conn) a.1 ∙ (connections_end x.0.setting x.0.state e conn).stays b.0 (b.1 a.0)
        by (inr a) (inr b) = ap (λ (v : Space). is_open v.state conn) a.1 ∙ (connections_end x.0.setting x.0.state e conn).ends b.1

    -- what the other end has put, and has still to put, is what it sent
    sends : (conn j : ℕ) → sent_on conn (outputs_at r.spaces j) ++ still i os j conn ≡ sent_on conn (outputs_at (at_index (grown e) i r.spaces) j)
    sends conn j = by (i == j) refl
      where
        by : (b : Bool) → (i == j) ≡ b → sent_on conn (outputs_at r.spaces j) ++ (if b then sent_on conn os else []) ≡ sent_on conn (outputs_at (at_index (grown e) i r.spaces) j)
        by true f = sym (ap (sent_on conn) (outputs-grow e i j r.spaces s (eqb-true i j f) at) ∙ sent-append conn (outputs_at r.spaces j) os)
        by false f = append-none (sent_on conn (outputs_at r.spaces j)) ∙ ap (sent_on conn) (sym (outputs-stay e i j r.spaces (λ q. true≢false (sym (eq-eqb i j q) ∙ f))))

    -- an end that is over has nothing to put
    nothing : (conn : ℕ) (p : Pipe) (end : End) → slice_get r.pipes conn ≡ Some p → (side end p).phase ≡ Over → still i os (side end p).space conn ≡ []
    nothing conn p end is phase = by (i == (side end p).space) refl
      where
        here : i ≡ (side end p).space → sent_on conn os ≡ []
        here same = pick (h.over conn p end is phase s (subst (λ j. slice_get r.spaces j ≡ Some s) same at))
          where
            pick : ((is_open s.state conn ≡ false) × (i ≡ (side end p).space → opens conn e ≡ false)) ⊎ ((i ≡ (side end p).space) × (ends_on conn e ≡ true)) → sent_on conn os ≡ []
            pick (inl x) = silences e conn s (history-at i r.spaces s at h.histories) (inl (x.0, x.1 same))
            pick (inr x) = silences e conn s (history-at i r.spaces s at h.histories) (inr x.1)

        by : (b : Bool) → (i == (side end p).space) ≡ b → (if b then sent_on conn os else []) ≡ []
        by true f = here (eqb-true i (side end p).space f)
        by false f = refl

    toward : (conn : ℕ) (p : Pipe) (to : End) → slice_get r.pipes conn ≡ Some p → (u : Space) → WasRow (grown e) i (side to p).space r.spaces u
        → (done : List Message) × ((done ++ still i os (side (other to) p).space conn ≡ sent_on conn (outputs_at (at_index (grown e) i r.spaces) (side (other to) p).space))
        × Brought (came_on conn u.history) (side to p).queue done (still i os (side (other to) p).space conn) (side (other to) p).phase)
    toward conn p to is u x = (sent, (sends conn (side (other to) p).space, brought (some x.1.1 (h.came conn p to is x.0 x.1.0))))
      where
        sent : List Message
        sent = sent_on conn (outputs_at r.spaces (side (other to) p).space)

        brought : AreInOrder (came_on conn u.history) (side to p).queue sent (side (other to) p).phase → Brought (came_on conn u.history) (side to p).queue sent (still i os (side (other to) p).space conn) (side (other to) p).phase
        brought a = record { lost = a.lost; all = a.all; ended = by a.ended }
          where
            by : (a.lost ≡ []) ⊎ ((side (other to) p).phase ≡ Over) → (a.lost ≡ []) ⊎ (((side (other to) p).phase ≡ Over) × (still i os (side (other to) p).space conn ≡ []))
            by (inl none) = inl none
            by (inr over) = inr (over, nothing conn p (other to) is over)

        some : ((i ≡ (side to p).space → ⊥) × (u ≡ x.0)) ⊎ ((i ≡ (side to p).space) × (u ≡ grown e x.0))
            → ((i ≡ (side to p).space → ⊥) × AreInOrder (came_on conn x.0.history) (side to p).queue sent (side (other to) p).phase) ⊎ ((i ≡ (side to p).space) × AreInOrder (came_on conn (e ∷ x.0.history)) (side to p).queue sent (side (other to) p).phase)
            → AreInOrder (came_on conn u.history) (side to p).queue sent (side (other to) p).phase
        some (inl a) (inl b) = subst (λ (z : Space). AreInOrder (came_on conn z.history) (side to p).queue sent (side (other to) p).phase) (sym a.1) b.1
        some (inl a) (inr b) = absurd (a.0 b.0)
        some (inr a) (inl b) = absurd (b.0 a.0)
        some (inr a) (inr b) = subst (λ (z : Space). AreInOrder (came_on conn z.history) (side to p).queue sent (side (other to) p).phase) (sym a.1) b.1

-- all is put
settled : {all : List Space} {i : ℕ} {w : World} → AllOf HasHistory all → Carries all i [] w → Sound w
settled {all} {i} {w} hs h = record {
  held = record {
    comes = λ conn p to is s at. whole conn p to s ((h.brings conn p to is).toward s (subst (λ (ss : List Space). slice_get ss (side to p).space ≡ Some s) h.same at));
    ends = λ j conn s is has. h.ends j conn s (subst (λ (ss : List Space). slice_get ss j ≡ Some s) h.same is) has;
    two = h.two;
    histories = subst (AllOf HasHistory) (sym h.same) hs;
  };
  over = λ conn p end is phase s at. h.over conn p end is phase s (subst (λ (ss : List Space). slice_get ss (side end p).space ≡ Some s) h.same at);
}
  where
    whole : (conn : ℕ) (p : Pipe) (to : End) (s : Space) → (done : List Message) × ((done ++ still i [] (side (other to) p).space conn ≡ sent_on conn (outputs_at all (side (other to) p).space)) × Brought (came_on conn s.history) (side to p).queue done (still i [] (side (other to) p).space conn) (side (other to) p).phase)
        → AreInOrder (came_on conn s.history) (side to p).queue (sent_on conn (outputs_at w.spaces (side (other to) p).space)) (side (other to) p).phase
    whole conn p to s x = subst (λ (l : List Message). AreInOrder (came_on conn s.history) (side to p).queue l (side (other to) p).phase)
        (sym (append-none x.0) ∙ (ap (λ (l : List Message). x.0 ++ l) (sym (still-none i (side (other to) p).space conn)) ∙ (x.1.0 ∙ ap (λ (ss : List Space). sent_on conn (outputs_at ss (side (other to) p).space)) (sym h.same))))
        (record { lost = x.1.1.lost; all = x.1.1.all; ended = by x.1.1.ended })
      where
        by : (x.1.1.lost ≡ []) ⊎ (((side (other to) p).phase ≡ Over) × (still i [] (side (other to) p).space conn ≡ [])) → (x.1.1.lost ≡ []) ⊎ ((side (other to) p).phase ≡ Over)
        by (inl none) = inl none
        by (inr y) = inr y.0

take-sound : (i : ℕ) (e : Event) (s : Space) (r : World) → slice_get r.spaces i ≡ Some s → IsReady r i e → Sound (take_event i e s r)
unfolding take_event
take-sound i e s r at h = settled (histories-grow e i r.spaces h.histories) (puts-carry i (Space.on s.setting e s.state).1 (record r { spaces = at_index (grown e) i r.spaces })
    (all-with (GoesItsWay (e ∷ s.history)) (GoesWhereOpen s.state e (Space.on s.setting e s.state).0) (IsEndOf (at_index (grown e) i r.spaces) i r.pipes) (Space.on s.setting e s.state).1
    (λ o a b. output-end (at_index (grown e) i r.spaces) i r.pipes s e (Space.on s.setting e s.state).0 there h.there now o a b) (ways e s (history-at i r.spaces s at h.histories)) (places e s (history-at i r.spaces s at h.histories))) (grows-carries i e s r at h))
  where
    there : (conn : ℕ) → is_event_on conn e || has_event_on conn s.history ≡ true → IsEnd i (slice_get r.pipes conn)
    there conn f = by (is_event_on conn e) refl f
      where
        by : (b : Bool) → is_event_on conn e ≡ b → b || has_event_on conn s.history ≡ true → IsEnd i (slice_get r.pipes conn)
        by true f g = h.there conn f
        by false f g = h.ends i conn s at g

    now : (u : Space) → slice_get (at_index (grown e) i r.spaces) i ≡ Some u → u.state ≡ (Space.on s.setting e s.state).0
    now u found = let x = row-of (grown e) i i r.spaces u found in by x.0 x.1.0 x.1.1
      where
        by : (v : Space) → slice_get r.spaces i ≡ Some v → ((i ≡ i → ⊥) × (u ≡ v)) ⊎ ((i ≡ i) × (u ≡ grown e v)) → u.state ≡ (Space.on s.setting e s.state).0
        by v is (inl a) = absurd (a.0 refl)
        by v is (inr a) = ap (λ (z : Space). z.state) a.1 ∙ ap (λ (z : Space). (Space.on z.setting e z.state).0) (some-same (sym is ∙ at))

-- ---- events of a world

-- nothing comes with an event
abbrev Plain : Event → Type 0
Plain e = (conn : ℕ) → (frame_of conn e ≡ []) × (is_event_on conn e ≡ false)

opens-on : (conn : ℕ) (e : Event) → is_event_on conn e ≡ false → opens conn e ≡ false
opens-on conn (Opened c dialled) is = is
opens-on conn _ is = refl

apart-of : (a b : ℕ) → (a == b) ≡ false → a ≡ b → ⊥
apart-of a b f e = true≢false (sym (eq-eqb a b e) ∙ f)

-- no frame comes with it
plain-ready : (i : ℕ) (e : Event) (w : World) → ((conn : ℕ) → frame_of conn e ≡ []) → ((conn : ℕ) → is_event_on conn e ≡ true → IsEnd i (slice_get w.pipes conn)) → ShutFor w i e → Held w → IsReady w i e
plain-ready i e w none there over h = record {
  came = λ conn p to is s at. by conn p to s (sent_on conn (outputs_at w.spaces (side (other to) p).space)) (h.comes conn p to is s at) (i == (side to p).space) refl;
  ends = h.ends;
  there = there;
  two = h.two;
  over = over;
  histories = h.histories;
}
  where
    by : (conn : ℕ) (p : Pipe) (to : End) (s : Space) (sent : List Message) → AreInOrder (came_on conn s.history) (side to p).queue sent (side (other to) p).phase → (b : Bool) → (i == (side to p).space) ≡ b
        → ((i ≡ (side to p).space → ⊥) × AreInOrder (came_on conn s.history) (side to p).queue sent (side (other to) p).phase)
        ⊎ ((i ≡ (side to p).space) × AreInOrder (came_on conn (e ∷ s.history)) (side to p).queue sent (side (other to) p).phase)
    by conn p to s sent a true f = inr (
      eqb-true i (side to p).space f,
      subst (λ (l : List Message). AreInOrder (came_on conn s.history ++ l) (side to p).queue sent (side (other to) p).phase) (sym (none conn))
          (subst (λ (l : List Message). AreInOrder l (side to p).queue sent (side (other to) p).phase) (sym (append-none (came_on conn s.history))) a),
    )
    by conn p to s sent a false f = inl (apart-of i (side to p).space f, a)

-- what was shut before stays so
still-shut : (w : World) (i : ℕ) (e : Event) → IsShut w → ((conn : ℕ) → opens conn e ≡ false) → ShutFor w i e
still-shut w i e over apart = λ conn p end is phase s at. inl (over conn p end is phase s at, λ same. apart conn)

some-sound : {A : Type 0} {t : World} (x : Option A) (f : A → World) → Sound t → ((a : A) → x ≡ Some a → Sound (f a)) → Sound (with_some x t f)
some-sound None f e h = e
some-sound (Some a) f e h = h a refl

taken-sound : {A : Type 0} {t : World} (x : Option A) (f : A → World) → Sound t → ((a : A) → Sound (f a)) → Sound (with_some x t f)
taken-sound None f e h = e
taken-sound (Some a) f e h = h a

if-sound : {t u : World} (b : Bool) → Sound t → Sound u → Sound (if b then t else u)
if-sound true h k = h
if-sound false h k = k

asked-held : {w : World} (v : World) → v.spaces ≡ w.spaces → v.pipes ≡ w.pipes → Held w → Held v
asked-held {w} v e q h = record {
  comes = λ conn p to is s at. subst (λ (ss : List Space). AreInOrder (came_on conn s.history) (side to p).queue (sent_on conn (outputs_at ss (side (other to) p).space)) (side (other to) p).phase) (sym e)
      (h.comes conn p to (subst (λ rows. slice_get rows conn ≡ Some p) q is) s (subst (λ (ss : List Space). slice_get ss (side to p).space ≡ Some s) e at));
  ends = λ j conn s is has. subst (λ rows. IsEnd j (slice_get rows conn)) (sym q) (h.ends j conn s (subst (λ (ss : List Space). slice_get ss j ≡ Some s) e is) has);
  two = λ conn p is. h.two conn p (subst (λ rows. slice_get rows conn ≡ Some p) q is);
  histories = subst (AllOf HasHistory) (sym e) h.histories;
}

why-sound : (w : World) (why : Option Refusal) → Sound w → Sound (record w { refused = why })
why-sound w why h = record { held = asked-held (record w { refused = why }) refl refl h.held; over = λ conn p end is phase s at. h.over conn p end is phase s at }

one-sound : (before : World) (i : ℕ) (e : Event) (r : World) → Sound before → IsReady r i e → Sound (acts before i (e ∷ []) r)
unfolding acts
one-sound before i e r old h = some-sound (slice_get r.spaces i) _ old (λ s at. taken-sound (refusal s.setting (Worlds.lent_for e) s.state e) _ (take-sound i e s r at h) (λ why. why-sound before (Some why) old))

plain-sound : (before : World) (i : ℕ) (es : List Event) (w : World) → AllOf Plain es → Sound before → Sound w → Sound (acts before i es w)
unfolding acts
plain-sound before i [] w a old now = now
plain-sound before i (e ∷ es) w a old now = some-sound (slice_get w.spaces i) _ old (λ s at. taken-sound (refusal s.setting (Worlds.lent_for e) s.state e) _
    (plain-sound before i es (take_event i e s w) a.1 old (take-sound i e s w at (plain-ready i e w (λ conn. (a.0 conn).0) (λ conn f. absurd (true≢false (sym f ∙ (a.0 conn).1))) (still-shut w i e now.over (λ conn. opens-on conn e (a.0 conn).1)) now.held))) (λ why. why-sound before (Some why) old))

lent-plain : (id : ℕ) (task : Task) → AllOf Plain (Worlds.step_events id task)
lent-plain id task = at (stand task)
  where
    after-one : (over : Bool) → AllOf Plain (Worlds.events_after id over)
    after-one true = ((λ n. (refl, refl)), tt)
    after-one false = ((λ n. (refl, refl)), tt)

    of-op : (op : Op) → AllOf Plain (Worlds.events_of_op id op)
    of-op (Create class) = ((λ n. (refl, refl)), ((λ n. (refl, refl)), tt))
    of-op (Get object slot) = ((λ n. (refl, refl)), ((λ n. (refl, refl)), tt))
    of-op (Put object slot value) = ((λ n. (refl, refl)), ((λ n. (refl, refl)), tt))
    of-op (Call target method arguments) = ((λ n. (refl, refl)), tt)

    at : (stands : Stand) → AllOf Plain (Worlds.events_at id task stands)
    at Runs = after-one (is_at_end (step task).behaviour)
    at (AsksFor op) = of-op op
    at (HasEnded outcome) = ((λ n. (refl, refl)), tt)

own-plain : (e : Event) → Worlds.is_own e ≡ true → Plain e
own-plain (Opened conn dialled) own = absurd (true≢false (sym own))
own-plain (Received conn m) own = absurd (true≢false (sym own))
own-plain _ own = λ n. (refl, refl)

-- ---- a pipe is changed as no frame comes

pipes-held : {w : World} (n : ℕ) (f : Pipe → Pipe) → KeepsSpaces f → ((p : Pipe) → slice_get w.pipes n ≡ Some p → KeepsOrder p (f p)) → Held w → Held (Worlds.on_pipe f n w)
pipes-held {w} n f keeps k h = record {
  comes = λ conn p to is s found. comes conn p to s found (row-of f n conn w.pipes p is);
  ends = λ j conn s is has. ends-index f keeps j conn n w.pipes (h.ends j conn s is has);
  two = λ conn p is. two-row keeps n conn w.pipes p h.two (row-of f n conn w.pipes p is);
  histories = h.histories;
}
  where
    Order : Pipe → End → Space → ℕ → Type 0
    Order q to s conn = AreInOrder (came_on conn s.history) (side to q).queue (sent_on conn (outputs_at w.spaces (side (other to) q).space)) (side (other to) q).phase

    changed : (conn : ℕ) (p : Pipe) (to : End) (s : Space) → slice_get w.spaces (side to (f p)).space ≡ Some s → slice_get w.pipes conn ≡ Some p → n ≡ conn
        → AreInOrder (came_on conn s.history) (side to (f p)).queue (sent_on conn (outputs_at w.spaces (side (other to) (f p)).space)) (side (other to) (f p)).phase
    changed conn p to s found is same = subst (λ j. AreInOrder (came_on conn s.history) (side to (f p)).queue (sent_on conn (outputs_at w.spaces j)) (side (other to) (f p)).phase) (sym (keeps-side keeps (other to) p))
        (k p (subst (λ m. slice_get w.pipes m ≡ Some p) (sym same) is) to (came_on conn s.history) (sent_on conn (outputs_at w.spaces (side (other to) p).space)) (h.comes conn p to is s (subst (λ j. slice_get w.spaces j ≡ Some s) (keeps-side keeps to p) found)))

    comes : (conn : ℕ) (p : Pipe) (to : End) (s : Space) → slice_get w.spaces (side to p).space ≡ Some s → WasRow f n conn w.pipes p
        → AreInOrder (came_on conn s.history) (side to p).queue (sent_on conn (outputs_at w.spaces (side (other to) p).space)) (side (other to) p).phase
    comes conn p to s found r = by r.1.1
      where
        by : ((n ≡ conn → ⊥) × (p ≡ r.0)) ⊎ ((n ≡ conn) × (p ≡ f r.0)) → AreInOrder (came_on conn s.history) (side to p).queue (sent_on conn (outputs_at w.spaces (side (other to) p).space)) (side (other to) p).phase
        by (inl x) = subst (λ q. AreInOrder (came_on conn s.history) (side to q).queue (sent_on conn (outputs_at w.spaces (side (other to) q).space)) (side (other to) q).phase) (sym x.1)
            (h.comes conn r.0 to r.1.0 s (subst (λ q. slice_get w.spaces (side to q).space ≡ Some s) x.1 found))
        by (inr x) = subst (λ q. AreInOrder (came_on conn s.history) (side to q).queue (sent_on conn (outputs_at w.spaces (side (other to) q).space)) (side (other to) q).phase) (sym x.1)
            (changed conn r.0 to s (subst (λ q. slice_get w.spaces (side to q).space ≡ Some s) x.1 found) r.1.0 x.0)

-- Which ends are over after one was ended.
ended-row : (conn : ℕ) (end : End) (f : Pipe → Pipe) → KeepsSpaces f → ((p : Pipe) (e : End) → (side e (f p)).phase ≡ Over → ((side e p).phase ≡ Over) ⊎ (e ≡ end)) → (e : Event) (p : Pipe) (w : World) → slice_get w.pipes conn ≡ Some p
    → ends_on conn e ≡ true → ((n : ℕ) → opens n e ≡ false) → IsShut w → ShutFor (Worlds.on_pipe f conn w) (side end p).space e
ended-row conn end f keeps phases e p w at ends apart over = λ n q x is phase s found. by n q x phase s found (row-of f conn n w.pipes q is)
  where
    by : (n : ℕ) (q : Pipe) (x : End) → (side x q).phase ≡ Over → (s : Space) → slice_get w.spaces (side x q).space ≡ Some s → WasRow f conn n w.pipes q
        → ((is_open s.state n ≡ false) × ((side end p).space ≡ (side x q).space → opens n e ≡ false)) ⊎ (((side end p).space ≡ (side x q).space) × (ends_on n e ≡ true))
    by n q x phase s found r = pick r.1.1
      where
        now : (conn ≡ n) → (q ≡ f r.0) → ((side x r.0).phase ≡ Over) ⊎ (x ≡ end) → ((is_open s.state n ≡ false) × ((side end p).space ≡ (side x q).space → opens n e ≡ false)) ⊎ (((side end p).space ≡ (side x q).space) × (ends_on n e ≡ true))
        now same eq (inl was) = inl (over n r.0 x r.1.0 was s (subst (λ j. slice_get w.spaces j ≡ Some s) (keeps-side keeps x r.0) (subst (λ y. slice_get w.spaces (side x y).space ≡ Some s) eq found)), λ own. apart n)
        now same eq (inr is) =
            let row : r.0 ≡ p = some-same (sym r.1.0 ∙ subst (λ m. slice_get w.pipes m ≡ Some p) same at) in
            inr (sym (ap (λ y. (side x y).space) eq ∙ (keeps-side keeps x r.0 ∙ (ap (λ y. (side x y).space) row ∙ ap (λ y. (side y p).space) is))), subst (λ m. ends_on m e ≡ true) same ends)

        pick : ((conn ≡ n → ⊥) × (q ≡ r.0)) ⊎ ((conn ≡ n) × (q ≡ f r.0)) → ((is_open s.state n ≡ false) × ((side end p).space ≡ (side x q).space → opens n e ≡ false)) ⊎ (((side end p).space ≡ (side x q).space) × (ends_on n e ≡ true))
        pick (inl y) = inl (over n r.0 x r.1.0 (subst (λ z. (side x z).phase ≡ Over) y.1 phase) s (subst (λ z. slice_get w.spaces (side x z).space ≡ Some s) y.1 found), λ own. apart n)
        pick (inr y) = now y.0 y.1 (phases r.0 x (subst (λ z. (side x z).phase ≡ Over) y.1 phase))

-- an event that ends a connection comes to the space of the end
end-sound : (before : World) (conn : ℕ) (end : End) (f : Pipe → Pipe) → KeepsSpaces f → ((p : Pipe) (e : End) → (side e (f p)).phase ≡ Over → ((side e p).phase ≡ Over) ⊎ (e ≡ end)) → ((p : Pipe) → KeepsOrder p (f p)) → (e : Event) (p : Pipe)
    → slice_get before.pipes conn ≡ Some p → Plain e → ends_on conn e ≡ true → Sound before → Sound (Worlds.act before (side end p).space e (Worlds.on_pipe f conn before))
end-sound before conn end f keeps phases order e p at plain ends h = one-sound before (side end p).space e (Worlds.on_pipe f conn before) h
    (plain-ready (side end p).space e (Worlds.on_pipe f conn before) (λ n. (plain n).0) (λ n is. absurd (true≢false (sym is ∙ (plain n).1))) (ended-row conn end f keeps phases e p before at ends (λ n. opens-on n e (plain n).1) h.over) (pipes-held conn f keeps (λ q is. order q) h.held))

-- ---- the front of a queue is handed over

-- the frame moves from the front of the queue to the end of what came
moved : {came queue sent ms : List Message} {phase : Phase} (m : Message) → queue ≡ m ∷ ms → AreInOrder came queue sent phase → AreInOrder (came ++ m ∷ []) (Worlds.without_front queue) sent phase
moved {came} {queue} {sent} {ms} {phase} m eq a = record {
  lost = a.lost;
  all = ap (λ (l : List Message). (came ++ m ∷ []) ++ (Worlds.without_front l ++ a.lost)) eq ∙ (append-after came (m ∷ []) (ms ++ a.lost) ∙ (ap (λ (l : List Message). came ++ (l ++ a.lost)) (sym eq) ∙ a.all));
  ended = a.ended;
}

front-ready : (conn : ℕ) (to : End) (w : World) (p : Pipe) (m : Message) (ms : List Message) → slice_get w.pipes conn ≡ Some p → (side to p).queue ≡ m ∷ ms → Sound w
    → IsReady (Worlds.on_side Worlds.take_front conn to w) (side to p).space (Received conn m)
front-ready conn to w p m ms at queue sound = record {
  came = λ n q end is s here. came n q end s here (row-of (Worlds.set_side Worlds.take_front to) conn n w.pipes q is);
  ends = λ j n s is has. ends-index (Worlds.set_side Worlds.take_front to) keeps j n conn w.pipes (h.ends j n s is has);
  there = λ n is. ends-index (Worlds.set_side Worlds.take_front to) keeps (side to p).space n conn w.pipes (subst (λ k. IsEnd (side to p).space (slice_get w.pipes k)) (eqb-true conn n is) (subst (IsEnd (side to p).space) (sym at) (an-end to)));
  two = λ n q is. two-row keeps conn n w.pipes q h.two (row-of (Worlds.set_side Worlds.take_front to) conn n w.pipes q is);
  over = λ n q end is phase s found. inl (shut n q end phase s found (row-of (Worlds.set_side Worlds.take_front to) conn n w.pipes q is), λ own. refl);
  histories = h.histories;
}
  where
    h : Held w
    h = sound.held

    keeps : KeepsSpaces (Worlds.set_side Worlds.take_front to)
    keeps = set-keeps Worlds.take_front (λ s. refl) to

    an-end : (to : End) → IsEnd (side to p).space (Some p)
    an-end Dialler = inl refl
    an-end Accepter = inr refl

    shut : (n : ℕ) (q : Pipe) (end : End) → (side end q).phase ≡ Over → (s : Space) → slice_get w.spaces (side end q).space ≡ Some s → WasRow (Worlds.set_side Worlds.take_front to) conn n w.pipes q → is_open s.state n ≡ false
    shut n q end phase s found r = by r.1.1
      where
        by : ((conn ≡ n → ⊥) × (q ≡ r.0)) ⊎ ((conn ≡ n) × (q ≡ Worlds.set_side Worlds.take_front to r.0)) → is_open s.state n ≡ false
        by (inl x) = sound.over n r.0 end r.1.0 (subst (λ z. (side end z).phase ≡ Over) x.1 phase) s (subst (λ z. slice_get w.spaces (side end z).space ≡ Some s) x.1 found)
        by (inr x) = sound.over n r.0 end r.1.0 (sym (set-phase Worlds.take_front (λ s. refl) to end r.0) ∙ subst (λ z. (side end z).phase ≡ Over) x.1 phase) s
            (subst (λ j. slice_get w.spaces j ≡ Some s) (keeps-side keeps end r.0) (subst (λ z. slice_get w.spaces (side end z).space ≡ Some s) x.1 found))

    Came : ℕ → Pipe → End → Space → Type 0
    Came n q end s = (((side to p).space ≡ (side end q).space → ⊥) × AreInOrder (came_on n s.history) (side end q).queue (sent_on n (outputs_at w.spaces (side (other end) q).space)) (side (other end) q).phase)
        ⊎ (((side to p).space ≡ (side end q).space) × AreInOrder (came_on n (Received conn m ∷ s.history)) (side end q).queue (sent_on n (outputs_at w.spaces (side (other end) q).space)) (side (other end) q).phase)

    -- on another connection no frame comes
    elsewhere : (n : ℕ) (q : Pipe) (end : End) (s : Space) (all : List Message) → (conn ≡ n → ⊥) → AreInOrder (came_on n s.history) (side end q).queue all (side (other end) q).phase
        → (((side to p).space ≡ (side end q).space → ⊥) × AreInOrder (came_on n s.history) (side end q).queue all (side (other end) q).phase) ⊎ (((side to p).space ≡ (side end q).space) × AreInOrder (came_on n (Received conn m ∷ s.history)) (side end q).queue all (side (other end) q).phase)
    elsewhere n q end s all apart a = by ((side to p).space == (side end q).space) refl
      where
        none : (b : Bool) → (conn == n) ≡ b → (if b then m ∷ [] else []) ≡ []
        none true f = absurd (apart (eqb-true conn n f))
        none false f = refl

        by : (b : Bool) → ((side to p).space == (side end q).space) ≡ b
            → (((side to p).space ≡ (side end q).space → ⊥) × AreInOrder (came_on n s.history) (side end q).queue all (side (other end) q).phase) ⊎ (((side to p).space ≡ (side end q).space) × AreInOrder (came_on n (Received conn m ∷ s.history)) (side end q).queue all (side (other end) q).phase)
        by true f = inr (
          eqb-true (side to p).space (side end q).space f,
          subst (λ (l : List Message). AreInOrder (came_on n s.history ++ l) (side end q).queue all (side (other end) q).phase) (sym (none (conn == n) refl))
              (subst (λ (l : List Message). AreInOrder l (side end q).queue all (side (other end) q).phase) (sym (append-none (came_on n s.history))) a),
        )
        by false f = inl (apart-of (side to p).space (side end q).space f, a)

    arrives : (s : Space) (all queue : List Message) (phase : Phase) → queue ≡ m ∷ ms → AreInOrder (came_on conn s.history) queue all phase → AreInOrder (came_on conn (Received conn m ∷ s.history)) (Worlds.without_front queue) all phase
    arrives s all queue phase eq a = subst (λ (b : Bool). AreInOrder (came_on conn s.history ++ (if b then m ∷ [] else [])) (Worlds.without_front queue) all phase) (sym (eq-eqb conn conn refl)) (moved m eq a)

    -- on this one it comes to this end alone
    this-came : (to end : End) → (side to p).queue ≡ m ∷ ms → (s : Space) → slice_get w.spaces (side end (Worlds.set_side Worlds.take_front to p)).space ≡ Some s
        → (((side to p).space ≡ (side end (Worlds.set_side Worlds.take_front to p)).space → ⊥) × AreInOrder (came_on conn s.history) (side end (Worlds.set_side Worlds.take_front to p)).queue (sent_on conn (outputs_at w.spaces (side (other end) (Worlds.set_side Worlds.take_front to p)).space)) (side (other end) (Worlds.set_side Worlds.take_front to p)).phase)
        ⊎ (((side to p).space ≡ (side end (Worlds.set_side Worlds.take_front to p)).space) × AreInOrder (came_on conn (Received conn m ∷ s.history)) (side end (Worlds.set_side Worlds.take_front to p)).queue (sent_on conn (outputs_at w.spaces (side (other end) (Worlds.set_side Worlds.take_front to p)).space)) (side (other end) (Worlds.set_side Worlds.take_front to p)).phase)
    this-came Dialler Dialler eq s here = inr (refl, arrives s (sent_on conn (outputs_at w.spaces p.accepter.space)) p.dialler.queue p.accepter.phase eq (h.comes conn p Dialler at s here))
    this-came Accepter Accepter eq s here = inr (refl, arrives s (sent_on conn (outputs_at w.spaces p.dialler.space)) p.accepter.queue p.dialler.phase eq (h.comes conn p Accepter at s here))
    this-came Dialler Accepter eq s here = inl ((λ e. h.two conn p at e), h.comes conn p Accepter at s here)
    this-came Accepter Dialler eq s here = inl ((λ e. h.two conn p at (sym e)), h.comes conn p Dialler at s here)

    came : (n : ℕ) (q : Pipe) (end : End) (s : Space) → slice_get w.spaces (side end q).space ≡ Some s → WasRow (Worlds.set_side Worlds.take_front to) conn n w.pipes q → Came n q end s
    came n q end s here r = by r.1.1
      where
        by : ((conn ≡ n → ⊥) × (q ≡ r.0)) ⊎ ((conn ≡ n) × (q ≡ Worlds.set_side Worlds.take_front to r.0)) → Came n q end s
        by (inl x) = elsewhere n q end s (sent_on n (outputs_at w.spaces (side (other end) q).space)) x.0 (subst (λ z. AreInOrder (came_on n s.history) (side end z).queue (sent_on n (outputs_at w.spaces (side (other end) z).space)) (side (other end) z).phase) (sym x.1)
            (h.comes n r.0 end r.1.0 s (subst (λ z. slice_get w.spaces (side end z).space ≡ Some s) x.1 here)))
        by (inr x) =
            let same : r.0 ≡ p = some-same (sym r.1.0 ∙ subst (λ k. slice_get w.pipes k ≡ Some p) x.0 at) in
            let row : q ≡ Worlds.set_side Worlds.take_front to p = x.1 ∙ ap (Worlds.set_side Worlds.take_front to) same in
            subst (λ k. Came k q end s) x.0 (subst (λ z. Came conn z end s) (sym row) (this-came to end queue s (subst (λ z. slice_get w.spaces (side end z).space ≡ Some s) row here)))

-- ---- all events

step-sound : (i task : ℕ) (w : World) → Sound w → Sound (Worlds.step_task i task w)
unfolding Worlds.step_task
step-sound i task w h = some-sound (slice_get w.spaces i) _ h (λ s is. some-sound (task_at s.state task) _ (why-sound w _ h)
    (λ t found. if-sound t.waits (why-sound w _ h) (plain-sound w i (Worlds.step_events task t.task) w (lent-plain task t.task) h h)))

-- where no event was, no frame came
none-came : (conn : ℕ) (h : List Event) → (has_event_on conn h ≡ true → ⊥) → came_on conn h ≡ []
none-came conn [] never = refl
none-came conn (e ∷ h) never = ap (λ (l : List Message). l ++ frame_of conn e) (none-came conn h (λ x. never (or-right (is_event_on conn e) (has_event_on conn h) x))) ∙ of-event e (λ x. never (or-left (is_event_on conn e) (has_event_on conn h) x))
  where
    of-event : (e : Event) → (is_event_on conn e ≡ true → ⊥) → frame_of conn e ≡ []
    of-event (Received c m) n = by (c == conn) n
      where
        by : (b : Bool) → (b ≡ true → ⊥) → (if b then m ∷ [] else []) ≡ []
        by true n = absurd (n refl)
        by false n = refl
    of-event _ n = refl

-- and none was sent
none-sent : (conn : ℕ) (h : List Event) (os : List Output) → AllOf (GoesItsWay h) os → (has_event_on conn h ≡ true → ⊥) → sent_on conn os ≡ []
none-sent conn h [] a never = refl
none-sent conn h (o ∷ os) a never = ap (λ (l : List Message). l ++ sent_on conn os) (one o a.0) ∙ none-sent conn h os a.1 never
  where
    one : (o : Output) → GoesItsWay h o → frame_in conn o ≡ []
    one (Send c m) a = by (c == conn) refl
      where
        by : (b : Bool) → (c == conn) ≡ b → (if b then m ∷ [] else []) ≡ []
        by true e = absurd (never (subst (λ n. has_event_on n h ≡ true) (eqb-true c conn e) (sends-on h c m a)))
        by false e = refl
    one (Started task) a = refl
    one (Ended task outcome) a = refl
    one (Withdrawn ids) a = refl
    one (Denied why) a = refl
    one (Dial peer) a = refl
    one (Close c) a = refl
    one (Ready task) a = refl

direct-at : (n : ℕ) (xs : List Space) (x : Space) → slice_get xs n ≡ Some x → AllOf HasDirections xs → HasDirections x
direct-at n [] x e a = absurd (some-none x (sym e))
direct-at zero (y ∷ xs) x e a = subst HasDirections (some-same e) a.0
direct-at (suc n) (y ∷ xs) x e a = direct-at n xs x e a.1

-- a connection is new
open-sound : (a b : ℕ) (w : World) → (Worlds.is_asked a b w ≡ true → a ≡ b → ⊥) → AllOf HasDirections w.spaces → Sound w → Sound (Worlds.open_pipe a b w)
unfolding Worlds.open_pipe
open-sound a b w apart ways h = asked (Worlds.is_asked a b w) refl
  where
    ready : World
    ready = record w { asked = Worlds.without_pair a b w.asked; pipes = w.pipes ++ Worlds.new_pipe a b ∷ [] }

    new : ℕ → Event
    new n = Opened n (Worlds.id_at b w)

    never : (conn j : ℕ) (s : Space) → length w.pipes ≡ conn → slice_get w.spaces j ≡ Some s → has_event_on conn s.history ≡ true → ⊥
    never conn j s eq is has = subst (IsEnd j) (row-past w.pipes) (subst (λ n. IsEnd j (slice_get w.pipes n)) (sym eq) (h.held.ends j conn s is has))

    unsent : (conn j : ℕ) → length w.pipes ≡ conn → sent_on conn (outputs_at w.spaces j) ≡ []
    unsent conn j eq = by (slice_get w.spaces j) refl
      where
        by : (o : Option Space) → slice_get w.spaces j ≡ o → sent_on conn (outputs_in o) ≡ []
        by None is = refl
        by (Some s) is = none-sent conn s.history s.outputs (direct-at j w.spaces s is ways).sent (never conn j s eq is)

    empty : (to : End) → (side to (Worlds.new_pipe a b)).queue ≡ []
    empty Dialler = refl
    empty Accepter = refl

    comes : (conn : ℕ) (p : Pipe) (to : End) (s : Space) → slice_get w.spaces (side to p).space ≡ Some s → (slice_get w.pipes conn ≡ Some p) ⊎ ((length w.pipes ≡ conn) × (p ≡ Worlds.new_pipe a b))
        → AreInOrder (came_on conn s.history) (side to p).queue (sent_on conn (outputs_at w.spaces (side (other to) p).space)) (side (other to) p).phase
    comes conn p to s at (inl is) = h.held.comes conn p to is s at
    comes conn p to s at (inr x) = record {
      lost = [];
      all = ap (λ (l : List Message). l ++ ((side to p).queue ++ [])) (none-came conn s.history (never conn (side to p).space s x.0 at)) ∙ (ap (λ (q : Pipe). (side to q).queue ++ []) x.1 ∙ (ap (λ (l : List Message). l ++ []) (empty to) ∙ sym (unsent conn (side (other to) p).space x.0)));
      ended = inl refl;
    }

    -- of the new pipe no end is over
    begins : (end : End) → (side end (Worlds.new_pipe a b)).phase ≡ Over → ⊥
    begins Dialler e = true≢false (sym (ap Worlds.is_live (sym e)) ∙ refl)
    begins Accepter e = true≢false (ap Worlds.is_ended (sym e))

    shut : (conn : ℕ) (p : Pipe) (end : End) → (side end p).phase ≡ Over → (s : Space) → slice_get w.spaces (side end p).space ≡ Some s → (slice_get w.pipes conn ≡ Some p) ⊎ ((length w.pipes ≡ conn) × (p ≡ Worlds.new_pipe a b))
        → ((is_open s.state conn ≡ false) × (a ≡ (side end p).space → opens conn (new (length w.pipes)) ≡ false)) ⊎ ((a ≡ (side end p).space) × (ends_on conn (new (length w.pipes)) ≡ true))
    shut conn p end phase s at (inl is) = inl (h.over conn p end is phase s at, λ own. old (length w.pipes == conn) refl)
      where
        old : (d : Bool) → (length w.pipes == conn) ≡ d → d ≡ false
        old true e = absurd (some-none p (sym (subst (λ n. slice_get w.pipes n ≡ Some p) (sym (eqb-true (length w.pipes) conn e)) is) ∙ row-past w.pipes))
        old false e = refl
    shut conn p end phase s at (inr x) = absurd (begins end (subst (λ q. (side end q).phase ≡ Over) x.1 phase))

    two : (conn : ℕ) (p : Pipe) → (a ≡ b → ⊥) → (slice_get w.pipes conn ≡ Some p) ⊎ ((length w.pipes ≡ conn) × (p ≡ Worlds.new_pipe a b)) → HasTwoEnds p
    two conn p others (inl is) = h.held.two conn p is
    two conn p others (inr x) = subst HasTwoEnds (sym x.1) others

    held : (a ≡ b → ⊥) → Held ready
    held others = record {
      comes = λ conn p to is s at. comes conn p to s at (row-more conn w.pipes (Worlds.new_pipe a b) p is);
      ends = λ j conn s is has. ends-more j conn w.pipes (Worlds.new_pipe a b) (h.held.ends j conn s is has);
      two = λ conn p is. two conn p others (row-more conn w.pipes (Worlds.new_pipe a b) p is);
      histories = h.held.histories;
    }

    opened : (a ≡ b → ⊥) → Sound (Worlds.act w a (new (length w.pipes)) ready)
    opened others = one-sound w a (new (length w.pipes)) ready h
        (plain-ready a (new (length w.pipes)) ready (λ conn. refl) (λ conn is. subst (λ n. IsEnd a (slice_get (w.pipes ++ Worlds.new_pipe a b ∷ []) n)) (eqb-true (length w.pipes) conn is) (subst (IsEnd a) (sym (row-last w.pipes (Worlds.new_pipe a b))) (inl refl)))
        (λ conn p end is phase s at. shut conn p end phase s at (row-more conn w.pipes (Worlds.new_pipe a b) p is)) (held others))

    asked : (d : Bool) → Worlds.is_asked a b w ≡ d → Sound (if d then Worlds.act w a (new (length w.pipes)) ready else w)
    asked true is = opened (apart is)
    asked false is = h

-- the end that was dialled begins
accept-sound : (conn : ℕ) (w : World) → Sound w → Sound (Worlds.accept conn w)
unfolding Worlds.accept
accept-sound conn w h = some-sound (slice_get w.pipes conn) _ h (λ p is. at p is p.accepter.phase refl)
  where
    keeps : KeepsSpaces (Worlds.set_side Worlds.begin_side Accepter)
    keeps = set-keeps Worlds.begin_side (λ s. refl) Accepter

    at : (p : Pipe) → slice_get w.pipes conn ≡ Some p → (phase : Phase) → p.accepter.phase ≡ phase → Sound (Worlds.accept_at conn w p.accepter.space phase)
    at p is Live e = h
    at p is Over e = h
    at p is Unopened e = one-sound w p.accepter.space (Opened conn None) (Worlds.on_side Worlds.begin_side conn Accepter w) h (plain-ready p.accepter.space (Opened conn None) (Worlds.on_side Worlds.begin_side conn Accepter w) (λ n. refl)
        (λ n same. ends-index (Worlds.set_side Worlds.begin_side Accepter) keeps p.accepter.space n conn w.pipes (subst (λ k. IsEnd p.accepter.space (slice_get w.pipes k)) (eqb-true conn n same) (subst (IsEnd p.accepter.space) (sym is) (inr refl))))
        (λ n q end row phase s found. shut n q end phase s found (row-of (Worlds.set_side Worlds.begin_side Accepter) conn n w.pipes q row)) (pipes-held conn (Worlds.set_side Worlds.begin_side Accepter) keeps (λ q row. order q (some-same (sym is ∙ row))) h.held))
      where
        -- no end is over that was not yet open
        fresh : p.accepter.phase ≡ Over → ⊥
        fresh over = true≢false (ap Worlds.is_ended (sym over) ∙ ap Worlds.is_ended e)

        begun : {came queue sent : List Message} → AreInOrder came queue sent p.accepter.phase → AreInOrder came queue sent Live
        begun a = record { lost = a.lost; all = a.all; ended = by a.ended }
          where
            by : (a.lost ≡ []) ⊎ (p.accepter.phase ≡ Over) → (a.lost ≡ []) ⊎ (Live ≡ Over)
            by (inl none) = inl none
            by (inr over) = absurd (fresh over)

        order : (q : Pipe) → p ≡ q → KeepsOrder q (Worlds.set_side Worlds.begin_side Accepter q)
        order q same = subst (λ r. KeepsOrder r (Worlds.set_side Worlds.begin_side Accepter r)) same here
          where
            here : KeepsOrder p (Worlds.set_side Worlds.begin_side Accepter p)
            here Dialler came sent a = begun a
            here Accepter came sent a = a

        shut : (n : ℕ) (q : Pipe) (end : End) → (side end q).phase ≡ Over → (s : Space) → slice_get w.spaces (side end q).space ≡ Some s → WasRow (Worlds.set_side Worlds.begin_side Accepter) conn n w.pipes q
            → ((is_open s.state n ≡ false) × (p.accepter.space ≡ (side end q).space → opens n (Opened conn None) ≡ false)) ⊎ ((p.accepter.space ≡ (side end q).space) × (ends_on n (Opened conn None) ≡ true))
        shut n q end phase s found r = by r.1.1
          where
            apart : (conn ≡ n → ⊥) → (d : Bool) → (conn == n) ≡ d → d ≡ false
            apart others true f = absurd (others (eqb-true conn n f))
            apart others false f = refl

            this : conn ≡ n → r.0 ≡ p → (end : End) → (side end (Worlds.set_side Worlds.begin_side Accepter r.0)).phase ≡ Over → slice_get w.spaces (side end (Worlds.set_side Worlds.begin_side Accepter r.0)).space ≡ Some s
                → ((is_open s.state n ≡ false) × (p.accepter.space ≡ (side end (Worlds.set_side Worlds.begin_side Accepter r.0)).space → opens n (Opened conn None) ≡ false)) ⊎ ((p.accepter.space ≡ (side end (Worlds.set_side Worlds.begin_side Accepter r.0)).space) × (ends_on n (Opened conn None) ≡ true))
            this same row Dialler over there = inl (h.over n r.0 Dialler r.1.0 over s there, λ own. absurd (h.held.two conn p is (ap (λ (z : Pipe). z.dialler.space) (sym row) ∙ sym own)))
            this same row Accepter over there = absurd (true≢false (ap Worlds.is_ended (sym over)))

            by : ((conn ≡ n → ⊥) × (q ≡ r.0)) ⊎ ((conn ≡ n) × (q ≡ Worlds.set_side Worlds.begin_side Accepter r.0))
                → ((is_open s.state n ≡ false) × (p.accepter.space ≡ (side end q).space → opens n (Opened conn None) ≡ false)) ⊎ ((p.accepter.space ≡ (side end q).space) × (ends_on n (Opened conn None) ≡ true))
            by (inl x) = inl (h.over n r.0 end r.1.0 (subst (λ z. (side end z).phase ≡ Over) x.1 phase) s (subst (λ z. slice_get w.spaces (side end z).space ≡ Some s) x.1 found), λ own. apart x.0 (conn == n) refl)
            by (inr x) = subst (λ z. ((is_open s.state n ≡ false) × (p.accepter.space ≡ (side end z).space → opens n (Opened conn None) ≡ false)) ⊎ ((p.accepter.space ≡ (side end z).space) × (ends_on n (Opened conn None) ≡ true))) (sym x.1)
                (this x.0 (some-same (sym r.1.0 ∙ subst (λ k. slice_get w.pipes k ≡ Some p) x.0 is)) end (subst (λ z. (side end z).phase ≡ Over) x.1 phase) (subst (λ z. slice_get w.spaces (side end z).space ≡ Some s) x.1 found))

happens-sound : (e : WorldEvent) (w : World) → AllOf Apart w.asked → AllOf HasDirections w.spaces → Sound w → Sound (happens e w)
unfolding Worlds.refuse Worlds.deliver Worlds.read_fails Worlds.write_fails
happens-sound (Own i e) w apart ways h = own (Worlds.is_own e) (λ is. plain-sound w i (e ∷ []) w (own-plain e is, tt) h h)
  where
    own : (b : Bool) → (b ≡ true → Sound (Worlds.act w i e w)) → Sound (if b then Worlds.act w i e w else w)
    own true k = k refl
    own false k = h
happens-sound (Step i task) w apart ways h = step-sound i task w h
happens-sound (Open a c) w apart ways h = open-sound a c w (pair-apart a c w.asked apart) ways h
happens-sound (Refuse a c) w apart ways h = if-sound (Worlds.is_asked a c w) (to (Worlds.id_at c w)) h
  where
    to : (peer : Option Uuid) → Sound (Worlds.refuse_to w a peer (record w { asked = Worlds.without_pair a c w.asked }))
    to None = h
    to (Some peer) = plain-sound w a (Refused peer ∷ []) (record w { asked = Worlds.without_pair a c w.asked }) ((λ n. (refl, refl)), tt) h
        (record { held = asked-held (record w { asked = Worlds.without_pair a c w.asked }) refl refl h.held; over = λ conn p end is phase s at. h.over conn p end is phase s at })
happens-sound (Accept conn) w apart ways h = accept-sound conn w h
happens-sound (Deliver conn to) w apart ways h = some-sound (slice_get w.pipes conn) _ h (λ p is. if-sound (Worlds.is_live (side to p).phase) (first p is (Worlds.is_ended (side (other to) p).phase) (side to p).queue refl) h)
  where
    first : (p : Pipe) → slice_get w.pipes conn ≡ Some p → (over : Bool) (queue : List Message) → (side to p).queue ≡ queue → Sound (Worlds.deliver_first conn to w (side to p).space over queue)
    first p is over (m ∷ ms) eq = one-sound w (side to p).space (Received conn m) (Worlds.on_side Worlds.take_front conn to w) h (front-ready conn to w p m ms is eq h)
    first p is true [] eq = end-sound w conn to (Worlds.set_side Worlds.ends to) (set-keeps Worlds.ends (λ s. refl) to) (ends-phases to) (ends-order to) (Closed conn) p is (λ n. (refl, refl)) (eq-eqb conn conn refl) h
    first p is false [] eq = h
happens-sound (ReadFails conn end) w apart ways h = some-sound (slice_get w.pipes conn) _ h (λ p is.
    if-sound (Worlds.is_live (side end p).phase) (end-sound w conn end (Worlds.set_side Worlds.ends end) (set-keeps Worlds.ends (λ s. refl) end) (ends-phases end) (ends-order end) (ReadFailed conn) p is (λ n. (refl, refl)) (eq-eqb conn conn refl) h) h)
happens-sound (WriteFails conn end lost) w apart ways h = some-sound (slice_get w.pipes conn) _ h (λ p is. if-sound (Worlds.is_live (side end p).phase)
    (subst (λ (rows : List Pipe). Sound (Worlds.act w (side end p).space (WriteFailed conn (Worlds.lost lost end p)) (record w { pipes = rows }))) (sym (at-twice (Worlds.set_side Worlds.ends end) (Worlds.set_side (Worlds.cut_end (Worlds.lost lost end p)) (other end)) conn w.pipes))
    (end-sound w conn end (cut (Worlds.lost lost end p) end) (cut-keeps (Worlds.lost lost end p) end) (cut-phases (Worlds.lost lost end p) end) (cut-order (Worlds.lost lost end p) end) (WriteFailed conn (Worlds.lost lost end p)) p is (λ n. (refl, refl)) (eq-eqb conn conn refl) h)) h)

run-sound : (events : List WorldEvent) (w : World) → ((es : List WorldEvent) → AllOf Apart (run w es).asked) → ((es : List WorldEvent) → AllOf HasDirections (run w es).spaces) → Sound w → Sound (run w events)
unfolding run after
run-sound [] w apart ways h = h
run-sound (e ∷ es) w apart ways h = run-sound es (happens e (record w { refused = None })) (λ more. apart (e ∷ more)) (λ more. ways (e ∷ more)) (happens-sound e (record w { refused = None }) (apart []) (ways []) (why-sound w None h))

-- ---- a new world

new-histories : (settings : List Setting) → AllOf HasHistory (map new_space settings)
unfolding Space.state_of
new-histories [] = tt
new-histories (g ∷ gs) = (refl, new-histories gs)

no-event : (settings : List Setting) (i conn : ℕ) (s : Space) → slice_get (map new_space settings) i ≡ Some s → has_event_on conn s.history ≡ true → ⊥
no-event [] i conn s is has = some-none s (sym is)
no-event (g ∷ gs) zero conn s is has = true≢false (sym has ∙ sym (ap (λ (u : Space). has_event_on conn u.history) (some-same is)))
no-event (g ∷ gs) (suc i) conn s is has = no-event gs i conn s is has

sound-run : (settings : List Setting) (events : List WorldEvent) → Sound (run (new_world settings) events)
unfolding new_world
sound-run settings events = run-sound events (new_world settings) (λ es. (once_run settings es).asked) (λ es. spaces_have_directions settings es) (record {
  held = record {
    comes = λ conn p to is. absurd (some-none p (sym is));
    ends = λ j conn s is has. absurd (no-event settings j conn s is has);
    two = λ conn p is. absurd (some-none p (sym is));
    histories = new-histories settings;
  };
  over = λ conn p end is. absurd (some-none p (sym is));
})

-- ---- the laws

in-some : {came queue sent : List Message} {phase : Phase} → AreInOrder came queue sent phase → AreSomeOf (came ++ queue) sent
in-some {came} {queue} a = subst (AreSomeOf (came ++ queue)) (append-after came queue a.lost ∙ a.all) (some-more (came ++ queue) (came ++ queue) a.lost (some-all (came ++ queue)))

pub what_comes_was_sent : WhatComesWasSent
what_comes_was_sent settings events = let h = (sound-run settings events).held in record { brings = λ conn p to is s at. in-some (h.comes conn p to is s at); ends = h.ends }

pub lost_frames_come_last : LostFramesComeLast
lost_frames_come_last settings events = let h = sound-run settings events in record { comes = h.held.comes; over = h.over }
