-- What fits in a world of the rules of spaces, by what is seen of its connections and of the dials that wait.
use Rattle.std.proofs.Common.{◌≡◌, ◌∙◌, ℕ, ◌∷◌, ◌++◌, Bool, true, false, List, [], Option, None, Some, refl, sym, ap, subst, length}
use Rattle.std.specs.Prelude.{slice_get, if◌then◌else◌}
use Rattle.std.proofs.lemmas.Option.{none-some, same_Some}
use Rattle.net_message.specs.declared.message.Message.{Message}
use Rattle.uuid.specs.declared.Uuid.{Uuid}
use Rattle.sp_rules.specs.Events.{Event, Opened, Refused, Received, ReadFailed, WriteFailed}
use Rattle.sp_rules.specs.Lists.{with_some}
use Rattle.sp_rules.specs.Worlds.{World, Pipe, End, Accepter, Phase, Unopened, Live, Over, Own, act, accept, accept_at, begin_side, cut_end, deliver, deliver_first, ends, happens, id_at, is_asked, is_ended, is_live, is_own, is_unopened, lost, new_pipe, on_side, open_pipe, other, read_fails, refuse, refuse_to, side, take_front, without_pair, write_fails}
use Rattle.sp_pipes.specs.Connections.{comes_over, first_of, front_at, live_space, lost_at, unopened_space}
use Rattle.sp_world.specs.Waitings.{close_end, deliver_front, deliver_last, deliver_next}

-- ---- a space's own events

pub own-fits : (i : ℕ) (e : Event) (w : World) → is_own e ≡ true → happens (Own i e) w ≡ act w i e w
own-fits i e w own = ap (λ (b : Bool). if b then act w i e w else w) own

pub own-not : (i : ℕ) (e : Event) (w : World) → is_own e ≡ false → happens (Own i e) w ≡ w
own-not i e w own = ap (λ (b : Bool). if b then act w i e w else w) own

-- ---- dials

pub open-fits : (a b : ℕ) (w : World) → is_asked a b w ≡ true
    → open_pipe a b w ≡ act w a (Opened (length w.pipes) (id_at b w)) (record w { asked = without_pair a b w.asked; pipes = w.pipes ++ new_pipe a b ∷ [] })
unfolding open_pipe
open-fits a b w fits = ap (λ (x : Bool). if x then act w a (Opened (length w.pipes) (id_at b w)) (record w { asked = without_pair a b w.asked; pipes = w.pipes ++ new_pipe a b ∷ [] }) else w) fits

pub open-not : (a b : ℕ) (w : World) → is_asked a b w ≡ false → open_pipe a b w ≡ w
unfolding open_pipe
open-not a b w not = ap (λ (x : Bool). if x then act w a (Opened (length w.pipes) (id_at b w)) (record w { asked = without_pair a b w.asked; pipes = w.pipes ++ new_pipe a b ∷ [] }) else w) not

abbrev without : ℕ → ℕ → World → World
without a b w = record w { asked = without_pair a b w.asked }

pub refuse-asked : (a b : ℕ) (w : World) → is_asked a b w ≡ true → refuse a b w ≡ refuse_to w a (id_at b w) (without a b w)
unfolding refuse
refuse-asked a b w fits = ap (λ (x : Bool). if x then refuse_to w a (id_at b w) (without a b w) else w) fits

pub refuse-fits : (a b : ℕ) (w : World) (peer : Uuid) → id_at b w ≡ Some peer → refuse_to w a (id_at b w) (without a b w) ≡ act w a (Refused peer) (without a b w)
refuse-fits a b w peer is = ap (λ (o : Option Uuid). refuse_to w a o (without a b w)) is

pub refuse-nobody : (a b : ℕ) (w : World) → id_at b w ≡ None → refuse_to w a (id_at b w) (without a b w) ≡ w
refuse-nobody a b w is = ap (λ (o : Option Uuid). refuse_to w a o (without a b w)) is

pub refuse-not : (a b : ℕ) (w : World) → is_asked a b w ≡ false → refuse a b w ≡ w
unfolding refuse
refuse-not a b w not = ap (λ (x : Bool). if x then refuse_to w a (id_at b w) (without a b w) else w) not

-- ---- connections

pub accept-fits : (conn space : ℕ) (w : World) → unopened_space (slice_get w.pipes conn) ≡ Some space → accept conn w ≡ act w space (Opened conn None) (on_side begin_side conn Accepter w)
unfolding accept
accept-fits conn space w = by (slice_get w.pipes conn)
  where
    at : (s : ℕ) (x : Phase) → (if is_unopened x then Some s else None) ≡ Some space → accept_at conn w s x ≡ act w space (Opened conn None) (on_side begin_side conn Accepter w)
    at s Unopened e = ap (λ (n : ℕ). act w n (Opened conn None) (on_side begin_side conn Accepter w)) (same_Some s space e)
    at s Live e = absurd (none-some space e)
    at s Over e = absurd (none-some space e)

    by : (o : Option Pipe) → unopened_space o ≡ Some space → with_some o w (λ (p : Pipe). accept_at conn w p.accepter.space p.accepter.phase) ≡ act w space (Opened conn None) (on_side begin_side conn Accepter w)
    by None e = absurd (none-some space e)
    by (Some p) e = at p.accepter.space p.accepter.phase e

pub accept-not : (conn : ℕ) (w : World) → unopened_space (slice_get w.pipes conn) ≡ None → accept conn w ≡ w
unfolding accept
accept-not conn w = by (slice_get w.pipes conn)
  where
    at : (s : ℕ) (x : Phase) → (if is_unopened x then Some s else None) ≡ None → accept_at conn w s x ≡ w
    at s Unopened e = absurd (none-some s (sym e))
    at s Live e = refl
    at s Over e = refl

    by : (o : Option Pipe) → unopened_space o ≡ None → with_some o w (λ (p : Pipe). accept_at conn w p.accepter.space p.accepter.phase) ≡ w
    by None e = refl
    by (Some p) e = at p.accepter.space p.accepter.phase e

-- what happens at a live end of a connection
abbrev at_live : World → (Pipe → World) → End → Option Pipe → World
at_live w f end o = with_some o w (λ (p : Pipe). if is_live (side end p).phase then f p else w)

live-not : (w : World) (f : Pipe → World) (end : End) (o : Option Pipe) → live_space end o ≡ None → at_live w f end o ≡ w
live-not w f end None e = refl
live-not w f end (Some p) e = by (is_live (side end p).phase) e
  where
    by : (b : Bool) → (if b then Some (side end p).space else None) ≡ None → (if b then f p else w) ≡ w
    by true d = absurd (none-some (side end p).space (sym d))
    by false d = refl

live-fits : (w : World) (f : Pipe → World) (end : End) (o : Option Pipe) (space : ℕ) (v : World) → live_space end o ≡ Some space → ((p : Pipe) → o ≡ Some p → (side end p).space ≡ space → f p ≡ v) → at_live w f end o ≡ v
live-fits w f end None space v e k = absurd (none-some space e)
live-fits w f end (Some p) space v e k = by (is_live (side end p).phase) e
  where
    by : (b : Bool) → (if b then Some (side end p).space else None) ≡ Some space → (if b then f p else w) ≡ v
    by true d = k p refl (same_Some (side end p).space space d)
    by false d = absurd (none-some space d)

abbrev delivered : ℕ → End → World → Pipe → World
delivered conn to w p = deliver_first conn to w (side to p).space (is_ended (side (other to) p).phase) (side to p).queue

pub deliver-not : (conn : ℕ) (to : End) (w : World) → live_space to (slice_get w.pipes conn) ≡ None → deliver conn to w ≡ w
unfolding deliver
deliver-not conn to w e = live-not w (delivered conn to w) to (slice_get w.pipes conn) e

by-queue : (conn : ℕ) (to : End) (w : World) (space s : ℕ) (over : Bool) (queue : List Message) → s ≡ space
    → deliver_first conn to w s over queue ≡ with_some (first_of queue) (deliver_first conn to w space over []) (λ m. deliver_front conn to space m w)
by-queue conn to w space s over [] same = ap (λ (n : ℕ). deliver_first conn to w n over []) same
by-queue conn to w space s over (x ∷ queue) same = ap (λ (n : ℕ). act w n (Received conn x) (on_side take_front conn to w)) same

pub deliver-fits : (conn space : ℕ) (to : End) (w : World) → live_space to (slice_get w.pipes conn) ≡ Some space → deliver conn to w ≡ deliver_next conn to space w
unfolding deliver
deliver-fits conn space to w e = live-fits w (delivered conn to w) to (slice_get w.pipes conn) space (deliver_next conn to space w) e
    (λ p is same. by-queue conn to w space (side to p).space (is_ended (side (other to) p).phase) (side to p).queue same
    ∙ ap (λ (o : Option Pipe). with_some (front_at to o) (deliver_first conn to w space (comes_over (other to) o) []) (λ m. deliver_front conn to space m w)) (sym is))

pub next-frame : (conn space : ℕ) (to : End) (w : World) (m : Message) → front_at to (slice_get w.pipes conn) ≡ Some m → deliver_next conn to space w ≡ deliver_front conn to space m w
next-frame conn space to w m e = ap (λ (o : Option Message). with_some o (deliver_last conn to space w) (λ y. deliver_front conn to space y w)) e

pub next-end : (conn space : ℕ) (to : End) (w : World) → front_at to (slice_get w.pipes conn) ≡ None → deliver_next conn to space w ≡ deliver_last conn to space w
next-end conn space to w e = ap (λ (o : Option Message). with_some o (deliver_last conn to space w) (λ y. deliver_front conn to space y w)) e

pub last-fits : (conn space : ℕ) (to : End) (w : World) → comes_over (other to) (slice_get w.pipes conn) ≡ true → deliver_last conn to space w ≡ close_end conn to space w
last-fits conn space to w e = ap (λ (b : Bool). deliver_first conn to w space b []) e

pub last-not : (conn space : ℕ) (to : End) (w : World) → comes_over (other to) (slice_get w.pipes conn) ≡ false → deliver_last conn to space w ≡ w
last-not conn space to w e = ap (λ (b : Bool). deliver_first conn to w space b []) e

abbrev unread : ℕ → End → World → Pipe → World
unread conn end w p = act w (side end p).space (ReadFailed conn) (on_side ends conn end w)

pub read-not : (conn : ℕ) (end : End) (w : World) → live_space end (slice_get w.pipes conn) ≡ None → read_fails conn end w ≡ w
unfolding read_fails
read-not conn end w e = live-not w (unread conn end w) end (slice_get w.pipes conn) e

pub read-fits : (conn space : ℕ) (end : End) (w : World) → live_space end (slice_get w.pipes conn) ≡ Some space → read_fails conn end w ≡ act w space (ReadFailed conn) (on_side ends conn end w)
unfolding read_fails
read-fits conn space end w e = live-fits w (unread conn end w) end (slice_get w.pipes conn) space (act w space (ReadFailed conn) (on_side ends conn end w)) e
    (λ p is same. ap (λ (n : ℕ). act w n (ReadFailed conn) (on_side ends conn end w)) same)

-- a failed write, of which this many frames are lost
abbrev unwritten : ℕ → End → World → ℕ → ℕ → World
unwritten conn end w space n = act w space (WriteFailed conn n) (on_side ends conn end (on_side (cut_end n) conn (other end) w))

abbrev unwritten_at : ℕ → End → ℕ → World → Pipe → World
unwritten_at conn end unsent w p = unwritten conn end w (side end p).space (lost unsent end p)

pub write-not : (conn unsent : ℕ) (end : End) (w : World) → live_space end (slice_get w.pipes conn) ≡ None → write_fails conn end unsent w ≡ w
unfolding write_fails
write-not conn unsent end w e = live-not w (unwritten_at conn end unsent w) end (slice_get w.pipes conn) e

pub write-fits : (conn space unsent n : ℕ) (end : End) (w : World) → live_space end (slice_get w.pipes conn) ≡ Some space → lost_at unsent end (slice_get w.pipes conn) ≡ n
    → write_fails conn end unsent w ≡ act w space (WriteFailed conn n) (on_side ends conn end (on_side (cut_end n) conn (other end) w))
unfolding write_fails
write-fits conn space unsent n end w e f = live-fits w (unwritten_at conn end unsent w) end (slice_get w.pipes conn) space (unwritten conn end w space n) e
    (λ p is same. ap (λ (i : ℕ). unwritten conn end w i (lost unsent end p)) same ∙ ap (unwritten conn end w space) (subst (λ (o : Option Pipe). lost_at unsent end o ≡ n) is f))
