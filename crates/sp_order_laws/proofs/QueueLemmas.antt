-- What spaces answer goes into queues: toward each end, what came, what is on its way and what was lost are what was put.
use mathlib.Core.Path.{sym, ap, subst, ◌∙◌}
use Rattle.std.proofs.Common.{arith, inl, inr}
use Rattle.std.proofs.lemmas.Bool.{true≢false, eqb-true, eq-eqb}
use Rattle.std.specs.Prelude.{if◌then◌else◌, ◌≡◌, ◌⊎◌, refl, ℕ, zero, suc, ◌-◌, ◌==◌, length, take, Bool, true, false, List, [], ◌∷◌, ◌++◌, Option, None, Some, slice_get}
use Rattle.net_message.specs.declared.message.Message.{Message}
use Rattle.sp_rules.specs.Events.{Output, Started, Ended, Withdrawn, Denied, Send, Dial, Close, Ready}
use Rattle.sp_rules.specs.Laws.{AllOf}
use Rattle.sp_rules.specs.Lists.{each, at_index}
use Rattle.sp_rules.specs.State.{is_open}
use Rattle.sp_rules.specs.Worlds
use Rattle.sp_rules.specs.Worlds.{World, Space, End, Dialler, Accepter, Side, Pipe, Phase, Over, side, other, put}
use Rattle.sp_rules.proofs.AllLemmas.{all-weaken}
use Rattle.sp_laws.specs.Others.{HasTwoEnds}
use Rattle.sp_order_laws.specs.Delivered.{came_on, frame_in, sent_on, outputs_at, has_event_on, IsEnd}
use Rattle.sp_order_laws.specs.InOrder.{AreInOrder}
use Rattle.sp_order_laws.proofs.ListLemmas.{WasRow, row-of, append-after, append-none, first-of}

-- ---- what is sent

pub sent-append : (conn : ℕ) (xs ys : List Output) → sent_on conn (xs ++ ys) ≡ sent_on conn xs ++ sent_on conn ys
sent-append conn [] ys = refl
sent-append conn (x ∷ xs) ys = ap (λ (l : List Message). frame_in conn x ++ l) (sent-append conn xs ys) ∙ sym (append-after (frame_in conn x) (sent_on conn xs) (sent_on conn ys))

-- the frames that a space has still to put on a connection
abbrev pub still : ℕ → List Output → ℕ → ℕ → List Message
still i os j conn = if i == j then sent_on conn os else []

pub still-none : (i j conn : ℕ) → still i [] j conn ≡ []
still-none i j conn = by (i == j)
  where
    by : (b : Bool) → if◌then◌else◌ {A = List Message} b [] [] ≡ []
    by true = refl
    by false = refl

-- an output that is no frame of the connection
still-other : (i j conn : ℕ) (o : Output) (os : List Output) → frame_in conn o ≡ [] → still i (o ∷ os) j conn ≡ still i os j conn
still-other i j conn o os none = by (i == j)
  where
    by : (b : Bool) → (if b then frame_in conn o ++ sent_on conn os else []) ≡ (if b then sent_on conn os else [])
    by true = ap (λ (l : List Message). l ++ sent_on conn os) none
    by false = refl

-- a frame that the space puts first
still-first : (i j n : ℕ) (m : Message) (os : List Output) → i ≡ j → still i (Send n m ∷ os) j n ≡ m ∷ still i os j n
still-first i j n m os same = by (i == j) (eq-eqb i j same)
  where
    by : (b : Bool) → b ≡ true → (if b then (if n == n then m ∷ [] else []) ++ sent_on n os else []) ≡ m ∷ (if b then sent_on n os else [])
    by true e = ap (λ (b : Bool). (if b then m ∷ [] else []) ++ sent_on n os) (eq-eqb n n refl)
    by false e = absurd (true≢false (sym e))

-- another space puts nothing
pub still-apart : (i j conn : ℕ) (os : List Output) → (i ≡ j → ⊥) → still i os j conn ≡ []
still-apart i j conn os apart = by (i == j) refl
  where
    by : (b : Bool) → (i == j) ≡ b → (if b then sent_on conn os else []) ≡ []
    by true e = absurd (apart (eqb-true i j e))
    by false e = refl

-- ---- what is kept

-- an event of a connection is of a space that is an end of it, and so is a frame that is sent; a connection that is closed is not open there
unfoldable pub IsEndOf : List Space → ℕ → List Pipe → Output → Type 0
IsEndOf all i pipes (Send conn m) = IsEnd i (slice_get pipes conn)
IsEndOf all i pipes (Close conn) = IsEnd i (slice_get pipes conn) × ((s : Space) → slice_get all i ≡ Some s → is_open s.state conn ≡ false)
IsEndOf all i pipes _ = Unit {0}

-- What came, what is on its way and what was lost are what was put; something was lost only if the end that sent has ended, and has nothing more to put.
pub record Brought (came queue done next : List Message) (phase : Phase) : Type 0 where
  pub lost : List Message
  pub all : came ++ (queue ++ lost) ≡ done
  pub ended : (lost ≡ []) ⊎ ((phase ≡ Over) × (next ≡ []))

-- Toward an end what was put is all that the other end sent and has not still to put.
pub record Brings (all : List Space) (i : ℕ) (os : List Output) (conn : ℕ) (p : Pipe) (to : End) : Type 0 where
  pub toward : (s : Space) → slice_get all (side to p).space ≡ Some s
      → (done : List Message) × ((done ++ still i os (side (other to) p).space conn ≡ sent_on conn (outputs_at all (side (other to) p).space))
      × Brought (came_on conn s.history) (side to p).queue done (still i os (side (other to) p).space conn) (side (other to) p).phase)

pub record Carries (all : List Space) (i : ℕ) (os : List Output) (w : World) : Type 0 where
  pub same : w.spaces ≡ all
  pub brings : (conn : ℕ) (p : Pipe) (to : End) → slice_get w.pipes conn ≡ Some p → Brings all i os conn p to
  pub ends : (j conn : ℕ) (s : Space) → slice_get all j ≡ Some s → has_event_on conn s.history ≡ true → IsEnd j (slice_get w.pipes conn)
  pub two : (conn : ℕ) (p : Pipe) → slice_get w.pipes conn ≡ Some p → HasTwoEnds p
  pub over : (conn : ℕ) (p : Pipe) (end : End) → slice_get w.pipes conn ≡ Some p → (side end p).phase ≡ Over → (s : Space) → slice_get all (side end p).space ≡ Some s → is_open s.state conn ≡ false

-- ---- pipes

-- the spaces of a pipe stay as they are
pub record KeepsSpaces (f : Pipe → Pipe) : Type 0 where
  pub dialler : (p : Pipe) → (f p).dialler.space ≡ p.dialler.space
  pub accepter : (p : Pipe) → (f p).accepter.space ≡ p.accepter.space

pub keeps-side : {f : Pipe → Pipe} → KeepsSpaces f → (e : End) (p : Pipe) → (side e (f p)).space ≡ (side e p).space
keeps-side k Dialler p = k.dialler p
keeps-side k Accepter p = k.accepter p

pub set-keeps : (f : Side → Side) → ((s : Side) → (f s).space ≡ s.space) → (e : End) → KeepsSpaces (Worlds.set_side f e)
set-keeps f k Dialler = record { dialler = λ p. k p.dialler; accepter = λ p. refl }
set-keeps f k Accepter = record { dialler = λ p. refl; accepter = λ p. k p.accepter }

pub set-phase : (f : Side → Side) → ((s : Side) → (f s).phase ≡ s.phase) → (x end : End) (p : Pipe) → (side end (Worlds.set_side f x p)).phase ≡ (side end p).phase
set-phase f k Dialler Dialler p = k p.dialler
set-phase f k Dialler Accepter p = refl
set-phase f k Accepter Dialler p = refl
set-phase f k Accepter Accepter p = k p.accepter

pub two-keeps : {f : Pipe → Pipe} → KeepsSpaces f → (p : Pipe) → HasTwoEnds p → HasTwoEnds (f p)
two-keeps k p two = λ e. two (sym (k.dialler p) ∙ (e ∙ k.accepter p))

pub ends-index : (f : Pipe → Pipe) → KeepsSpaces f → (i n conn : ℕ) (ps : List Pipe) → IsEnd i (slice_get ps n) → IsEnd i (slice_get (at_index f conn ps) n)
ends-index f k i n conn [] h = h
ends-index f k i zero zero (p ∷ ps) (inl d) = inl (k.dialler p ∙ d)
ends-index f k i zero zero (p ∷ ps) (inr a) = inr (k.accepter p ∙ a)
ends-index f k i zero (suc conn) (p ∷ ps) h = h
ends-index f k i (suc n) zero (p ∷ ps) h = h
ends-index f k i (suc n) (suc conn) (p ∷ ps) h = ends-index f k i n conn ps h

pub ends-more : (i n : ℕ) (ps : List Pipe) (q : Pipe) → IsEnd i (slice_get ps n) → IsEnd i (slice_get (ps ++ q ∷ []) n)
ends-more i n [] q h = absurd h
ends-more i zero (p ∷ ps) q h = h
ends-more i (suc n) (p ∷ ps) q h = ends-more i n ps q h

-- a row of pipes after one was changed has two ends
pub two-row : {f : Pipe → Pipe} → KeepsSpaces f → (n conn : ℕ) (ps : List Pipe) (p : Pipe) → ((m : ℕ) (q : Pipe) → slice_get ps m ≡ Some q → HasTwoEnds q) → WasRow f n conn ps p → HasTwoEnds p
two-row {f} k n conn ps p two r = by r.1.1
  where
    by : ((n ≡ conn → ⊥) × (p ≡ r.0)) ⊎ ((n ≡ conn) × (p ≡ f r.0)) → HasTwoEnds p
    by (inl x) = subst HasTwoEnds (sym x.1) (two conn r.0 r.1.0)
    by (inr x) = subst HasTwoEnds (sym x.1) (two-keeps k r.0 (two conn r.0 r.1.0))

-- a pipe is changed, and what it brings with it
pipes-carry : {all : List Space} {i : ℕ} {os ps : List Output} {w : World} (n : ℕ) (f : Pipe → Pipe) → KeepsSpaces f
    → ((conn : ℕ) (p : Pipe) (to : End) → (n ≡ conn → ⊥) → Brings all i os conn p to → Brings all i ps conn p to)
    → ((p : Pipe) → slice_get w.pipes n ≡ Some p → (to : End) → Brings all i os n p to → Brings all i ps n (f p) to)
    → ((p : Pipe) → slice_get w.pipes n ≡ Some p → (end : End) → (side end (f p)).phase ≡ Over → ((side end p).phase ≡ Over) ⊎ ((s : Space) → slice_get all (side end p).space ≡ Some s → is_open s.state n ≡ false))
    → Carries all i os w → Carries all i ps (Worlds.on_pipe f n w)
pipes-carry {all} {i} {os} {ps} {w} n f keeps others this overs h = record {
  same = h.same;
  brings = λ conn p to is. at conn p to (row-of f n conn w.pipes p is);
  ends = λ j conn s is has. ends-index f keeps j conn n w.pipes (h.ends j conn s is has);
  two = λ conn p is. two-row keeps n conn w.pipes p h.two (row-of f n conn w.pipes p is);
  over = λ conn p end is phase s found. over conn p end (row-of f n conn w.pipes p is) phase s found;
}
  where
    at : (conn : ℕ) (p : Pipe) (to : End) → WasRow f n conn w.pipes p → Brings all i ps conn p to
    at conn p to r = by r.1.1
      where
        by : ((n ≡ conn → ⊥) × (p ≡ r.0)) ⊎ ((n ≡ conn) × (p ≡ f r.0)) → Brings all i ps conn p to
        by (inl x) = subst (λ q. Brings all i ps conn q to) (sym x.1) (others conn r.0 to x.0 (h.brings conn r.0 to r.1.0))
        by (inr x) = subst (λ q. Brings all i ps conn q to) (sym x.1) (subst (λ m. Brings all i ps m (f r.0) to) x.0
            (this r.0 (subst (λ m. slice_get w.pipes m ≡ Some r.0) (sym x.0) r.1.0) to (subst (λ m. Brings all i os m r.0 to) (sym x.0) (h.brings conn r.0 to r.1.0))))

    over : (conn : ℕ) (p : Pipe) (end : End) → WasRow f n conn w.pipes p → (side end p).phase ≡ Over → (s : Space) → slice_get all (side end p).space ≡ Some s → is_open s.state conn ≡ false
    over conn p end r phase s found = by r.1.1
      where
        pick : n ≡ conn → slice_get all (side end r.0).space ≡ Some s → ((side end r.0).phase ≡ Over) ⊎ ((t : Space) → slice_get all (side end r.0).space ≡ Some t → is_open t.state n ≡ false) → is_open s.state conn ≡ false
        pick same there (inl was) = h.over conn r.0 end r.1.0 was s there
        pick same there (inr shut) = subst (λ m. is_open s.state m ≡ false) same (shut s there)

        by : ((n ≡ conn → ⊥) × (p ≡ r.0)) ⊎ ((n ≡ conn) × (p ≡ f r.0)) → is_open s.state conn ≡ false
        by (inl x) = h.over conn r.0 end r.1.0 (subst (λ q. (side end q).phase ≡ Over) x.1 phase) s (subst (λ q. slice_get all (side end q).space ≡ Some s) x.1 found)
        by (inr x) = pick x.0 (subst (λ m. slice_get all m ≡ Some s) (keeps-side keeps end r.0) (subst (λ q. slice_get all (side end q).space ≡ Some s) x.1 found))
            (overs r.0 (subst (λ m. slice_get w.pipes m ≡ Some r.0) (sym x.0) r.1.0) end (subst (λ q. (side end q).phase ≡ Over) x.1 phase))

-- ---- ends that are over

-- Toward each end what is on its way stays, or is lost at the end of what an end that is over sent.
abbrev pub KeepsOrder : Pipe → Pipe → Type 0
KeepsOrder p q = (to : End) (came sent : List Message) → AreInOrder came (side to p).queue sent (side (other to) p).phase → AreInOrder came (side to q).queue sent (side (other to) q).phase

-- an end is over
pub order-over : {came queue sent : List Message} {phase : Phase} → AreInOrder came queue sent phase → AreInOrder came queue sent Over
order-over {came} {queue} {sent} {phase} a = record { lost = a.lost; all = a.all; ended = by a.ended }
  where
    by : (a.lost ≡ []) ⊎ (phase ≡ Over) → (a.lost ≡ []) ⊎ (Over ≡ Over)
    by (inl none) = inl none
    by (inr over) = inr refl

pub ends-order : (end : End) (p : Pipe) → KeepsOrder p (Worlds.set_side Worlds.ends end p)
ends-order Dialler p Dialler came sent a = a
ends-order Dialler p Accepter came sent a = order-over a
ends-order Accepter p Dialler came sent a = order-over a
ends-order Accepter p Accepter came sent a = a

-- the last frames of an end that is over are lost
pub order-cut : {came sent : List Message} {phase : Phase} (queue : List Message) (n : ℕ) → AreInOrder came queue sent phase → AreInOrder came (take n queue) sent Over
order-cut {came} queue n a = let r = first-of n queue in record {
  lost = r.0 ++ a.lost;
  all = ap (λ (l : List Message). came ++ l) (sym (append-after (take n queue) r.0 a.lost) ∙ ap (λ (l : List Message). l ++ a.lost) r.1) ∙ a.all;
  ended = inr refl;
}

-- a write failed: the frames that were not sent whole are lost, and the end is over
abbrev pub cut : ℕ → End → Pipe → Pipe
cut n end p = Worlds.set_side Worlds.ends end (Worlds.set_side (Worlds.cut_end n) (other end) p)

pub cut-order : (n : ℕ) (end : End) (p : Pipe) → KeepsOrder p (cut n end p)
cut-order n Dialler p Dialler came sent a = a
cut-order n Dialler p Accepter came sent a = order-cut p.accepter.queue (length p.accepter.queue - n) a
cut-order n Accepter p Dialler came sent a = order-cut p.dialler.queue (length p.dialler.queue - n) a
cut-order n Accepter p Accepter came sent a = a

pub cut-keeps : (n : ℕ) (end : End) → KeepsSpaces (cut n end)
cut-keeps n Dialler = record { dialler = λ p. refl; accepter = λ p. refl }
cut-keeps n Accepter = record { dialler = λ p. refl; accepter = λ p. refl }

pub at-twice : {A : Type 0} (f g : A → A) (n : ℕ) (xs : List A) → at_index f n (at_index g n xs) ≡ at_index (λ x. f (g x)) n xs
at-twice f g n [] = refl
at-twice f g zero (x ∷ xs) = refl
at-twice {A} f g (suc n) (x ∷ xs) = ap (λ (l : List A). x ∷ l) (at-twice f g n xs)

pub ends-phases : (end : End) (p : Pipe) (e : End) → (side e (Worlds.set_side Worlds.ends end p)).phase ≡ Over → ((side e p).phase ≡ Over) ⊎ (e ≡ end)
ends-phases Dialler p Dialler is = inr refl
ends-phases Dialler p Accepter is = inl is
ends-phases Accepter p Dialler is = inl is
ends-phases Accepter p Accepter is = inr refl

pub cut-phases : (n : ℕ) (end : End) (p : Pipe) (e : End) → (side e (cut n end p)).phase ≡ Over → ((side e p).phase ≡ Over) ⊎ (e ≡ end)
cut-phases n Dialler p Dialler is = inr refl
cut-phases n Dialler p Accepter is = inl is
cut-phases n Accepter p Dialler is = inl is
cut-phases n Accepter p Accepter is = inr refl

-- ---- what a space answers goes into the world

-- the same is still to be put
same-still : {all : List Space} {i : ℕ} {os ps : List Output} {conn : ℕ} {p : Pipe} {to : End} → ((j : ℕ) → still i os j conn ≡ still i ps j conn) → Brings all i os conn p to → Brings all i ps conn p to
same-still {all} {i} {os} {ps} {conn} {p} {to} eq b = record {
  toward = λ s is. subst (λ (l : List Message). (done : List Message) × ((done ++ l ≡ sent_on conn (outputs_at all (side (other to) p).space)) × Brought (came_on conn s.history) (side to p).queue done l (side (other to) p).phase))
      (eq (side (other to) p).space) (b.toward s is);
}

-- an output that is no frame puts nothing
unsent : {all : List Space} {i : ℕ} {os : List Output} {conn : ℕ} {p : Pipe} {to : End} (o : Output) → ((c : ℕ) → frame_in c o ≡ []) → Brings all i (o ∷ os) conn p to → Brings all i os conn p to
unsent {i = i} {os} {conn} o none b = same-still (λ j. still-other i j conn o os (none conn)) b

-- a frame of another connection puts nothing here
elsewhere : {all : List Space} {i : ℕ} {os : List Output} {conn : ℕ} {p : Pipe} {to : End} (n : ℕ) (m : Message) → (n ≡ conn → ⊥) → Brings all i (Send n m ∷ os) conn p to → Brings all i os conn p to
elsewhere {i = i} {os} {conn} n m apart b = same-still (λ j. still-other i j conn (Send n m) os (differs (n == conn) refl)) b
  where
    differs : (c : Bool) → (n == conn) ≡ c → (if c then m ∷ [] else []) ≡ []
    differs true e = absurd (apart (eqb-true n conn e))
    differs false e = refl

none-cons : (m : Message) (ms : List Message) → m ∷ ms ≡ [] → ⊥
none-cons m ms e = let l : suc (length ms) ≡ 0 = ap (λ (x : List Message). length x) e in omega (arith, l)

-- a frame that an end puts is on its way, and nothing was lost before it
brought-one : {came queue done next : List Message} {phase : Phase} (m : Message) → Brought came queue done (m ∷ next) phase → Brought came (queue ++ m ∷ []) (done ++ m ∷ []) next phase
brought-one {came} {queue} {done} {next} {phase} m b = by b.ended
  where
    by : (b.lost ≡ []) ⊎ ((phase ≡ Over) × (m ∷ next ≡ [])) → Brought came (queue ++ m ∷ []) (done ++ m ∷ []) next phase
    by (inl none) = record {
      lost = [];
      all = ap (λ (l : List Message). came ++ l) (append-none (queue ++ m ∷ [])) ∙ (sym (append-after came queue (m ∷ []))
          ∙ ap (λ (l : List Message). l ++ m ∷ []) (ap (λ (l : List Message). came ++ l) (sym (append-none queue)) ∙ (ap (λ (l : List Message). came ++ (queue ++ l)) (sym none) ∙ b.all)));
      ended = inl refl;
    }
    by (inr x) = absurd (none-cons m next x.1)

-- an end that ends loses nothing
brought-over : {came queue done next : List Message} {phase : Phase} → Brought came queue done next phase → Brought came queue done next Over
brought-over {came} {queue} {done} {next} {phase} b = record { lost = b.lost; all = b.all; ended = by b.ended }
  where
    by : (b.lost ≡ []) ⊎ ((phase ≡ Over) × (next ≡ [])) → (b.lost ≡ []) ⊎ ((Over ≡ Over) × (next ≡ []))
    by (inl none) = inl none
    by (inr x) = inr (refl, x.1)

-- the frame is on its way toward one end
pushed : {all : List Space} {i : ℕ} {os : List Output} {n : ℕ} (m : Message) (p : Pipe) → IsEnd i (Some p) → HasTwoEnds p → (to : End) → Brings all i (Send n m ∷ os) n p to → Brings all i os n (Worlds.set_side (Worlds.queue_up m) (other (Worlds.end_of i p)) p) to
pushed {all} {i} {os} {n} m p end two to b = by (p.dialler.space == i) refl to b
  where
    -- toward this end it is on its way, and the other end is the space's
    comes : (came queue : List Message) (j : ℕ) (phase : Phase) (sent : List Message) → i ≡ j
        → (done : List Message) × ((done ++ still i (Send n m ∷ os) j n ≡ sent) × Brought came queue done (still i (Send n m ∷ os) j n) phase)
        → (done : List Message) × ((done ++ still i os j n ≡ sent) × Brought came (queue ++ m ∷ []) done (still i os j n) phase)
    comes came queue j phase sent same x = put-now (subst (λ (l : List Message). (done : List Message) × ((done ++ l ≡ sent) × Brought came queue done l phase)) (still-first i j n m os same) x)
      where
        put-now : (done : List Message) × ((done ++ (m ∷ still i os j n) ≡ sent) × Brought came queue done (m ∷ still i os j n) phase)
            → (done : List Message) × ((done ++ still i os j n ≡ sent) × Brought came (queue ++ m ∷ []) done (still i os j n) phase)
        put-now y = (y.0 ++ m ∷ [], (append-after y.0 (m ∷ []) (still i os j n) ∙ y.1.0, brought-one m y.1.1))

    -- toward the other end nothing is put
    passes : (came queue : List Message) (j : ℕ) (phase : Phase) (sent : List Message) → (i ≡ j → ⊥)
        → (done : List Message) × ((done ++ still i (Send n m ∷ os) j n ≡ sent) × Brought came queue done (still i (Send n m ∷ os) j n) phase)
        → (done : List Message) × ((done ++ still i os j n ≡ sent) × Brought came queue done (still i os j n) phase)
    passes came queue j phase sent apart x = subst (λ (l : List Message). (done : List Message) × ((done ++ l ≡ sent) × Brought came queue done l phase)) (still-apart i j n (Send n m ∷ os) apart ∙ sym (still-apart i j n os apart)) x

    accepts : (p.dialler.space == i) ≡ false → IsEnd i (Some p) → i ≡ p.accepter.space
    accepts is (inl e) = absurd (true≢false (sym (eq-eqb p.dialler.space i e) ∙ is))
    accepts is (inr e) = sym e

    by : (d : Bool) → (p.dialler.space == i) ≡ d → (to : End) → Brings all i (Send n m ∷ os) n p to → Brings all i os n (Worlds.set_side (Worlds.queue_up m) (other (if d then Dialler else Accepter)) p) to
    by true is Accepter b = record { toward = λ s at. comes (came_on n s.history) p.accepter.queue p.dialler.space p.dialler.phase (sent_on n (outputs_at all p.dialler.space)) (sym (eqb-true p.dialler.space i is)) (b.toward s at) }
    by true is Dialler b = record { toward = λ s at. passes (came_on n s.history) p.dialler.queue p.accepter.space p.accepter.phase (sent_on n (outputs_at all p.accepter.space)) (λ e. two (eqb-true p.dialler.space i is ∙ e)) (b.toward s at) }
    by false is Dialler b = record { toward = λ s at. comes (came_on n s.history) p.dialler.queue p.accepter.space p.accepter.phase (sent_on n (outputs_at all p.accepter.space)) (accepts is end) (b.toward s at) }
    by false is Accepter b = record { toward = λ s at. passes (came_on n s.history) p.accepter.queue p.dialler.space p.dialler.phase (sent_on n (outputs_at all p.dialler.space)) (λ e. true≢false (sym (eq-eqb p.dialler.space i (sym e)) ∙ is)) (b.toward s at) }

same-carries : {all : List Space} {i : ℕ} {os ps : List Output} {w : World} (v : World) → v.spaces ≡ w.spaces → v.pipes ≡ w.pipes → ((conn : ℕ) (p : Pipe) (to : End) → Brings all i os conn p to → Brings all i ps conn p to) → Carries all i os w → Carries all i ps v
same-carries {all} {i} {os} {ps} {w} v e q f h = record {
  same = e ∙ h.same;
  brings = λ conn p to is. f conn p to (h.brings conn p to (subst (λ rows. slice_get rows conn ≡ Some p) q is));
  ends = λ j conn s is has. subst (λ rows. IsEnd j (slice_get rows conn)) (sym q) (h.ends j conn s is has);
  two = λ conn p is. h.two conn p (subst (λ rows. slice_get rows conn ≡ Some p) q is);
  over = λ conn p end is phase s at. h.over conn p end (subst (λ rows. slice_get rows conn ≡ Some p) q is) phase s at;
}

-- the end of a pipe at which a space is
end-space : (i : ℕ) (p : Pipe) → IsEnd i (Some p) → (side (Worlds.end_of i p) p).space ≡ i
end-space i p end = by (p.dialler.space == i) refl end
  where
    by : (d : Bool) → (p.dialler.space == i) ≡ d → IsEnd i (Some p) → (side (if d then Dialler else Accepter) p).space ≡ i
    by true is e = eqb-true p.dialler.space i is
    by false is (inl e) = absurd (true≢false (sym (eq-eqb p.dialler.space i e) ∙ is))
    by false is (inr e) = e

put-carries : {all : List Space} {i : ℕ} {os : List Output} {w : World} (o : Output) → IsEndOf all i w.pipes o → Carries all i (o ∷ os) w → Carries all i os (put i w o)
unfolding IsEndOf
put-carries {w = w} (Started task) a h = same-carries w refl refl (λ conn p to b. unsent (Started task) (λ c. refl) b) h
put-carries {w = w} (Ended task outcome) a h = same-carries w refl refl (λ conn p to b. unsent (Ended task outcome) (λ c. refl) b) h
put-carries {w = w} (Withdrawn ids) a h = same-carries w refl refl (λ conn p to b. unsent (Withdrawn ids) (λ c. refl) b) h
put-carries {w = w} (Denied why) a h = same-carries w refl refl (λ conn p to b. unsent (Denied why) (λ c. refl) b) h
put-carries {w = w} (Ready task) a h = same-carries w refl refl (λ conn p to b. unsent (Ready task) (λ c. refl) b) h
put-carries {all} {i} {os} {w} (Dial peer) a h = asks (Worlds.number_of w.spaces peer)
  where
    asks : (j : Option ℕ) → Carries all i os (Worlds.asks_for i j w)
    asks None = same-carries w refl refl (λ conn p to b. unsent (Dial peer) (λ c. refl) b) h
    asks (Some j) = same-carries (record w { asked = w.asked ++ (i, j) ∷ [] }) refl refl (λ conn p to b. unsent (Dial peer) (λ c. refl) b) h
put-carries {all} {i} {os} {w} (Close n) a h = pipes-carry n (λ p. Worlds.set_side Worlds.ends (Worlds.end_of i p) p)
    (record { dialler = λ p. (set-keeps Worlds.ends (λ s. refl) (Worlds.end_of i p)).dialler p; accepter = λ p. (set-keeps Worlds.ends (λ s. refl) (Worlds.end_of i p)).accepter p })
    (λ conn p to apart b. unsent (Close n) (λ c. refl) b) (λ p is to b. shut (Worlds.end_of i p) p to (unsent (Close n) (λ c. refl) b))
    (λ p is end phase. over p (Worlds.end_of i p) end (end-space i p (subst (IsEnd i) is a.0)) phase) h
  where
    shut : (e : End) (p : Pipe) (to : End) → Brings all i os n p to → Brings all i os n (Worlds.set_side Worlds.ends e p) to
    shut Dialler p Dialler b = record { toward = b.toward }
    shut Dialler p Accepter b = record { toward = λ s at. let x = b.toward s at in (x.0, (x.1.0, brought-over x.1.1)) }
    shut Accepter p Dialler b = record { toward = λ s at. let x = b.toward s at in (x.0, (x.1.0, brought-over x.1.1)) }
    shut Accepter p Accepter b = record { toward = b.toward }

    over : (p : Pipe) (e end : End) → (side e p).space ≡ i → (side end (Worlds.set_side Worlds.ends e p)).phase ≡ Over → ((side end p).phase ≡ Over) ⊎ ((s : Space) → slice_get all (side end p).space ≡ Some s → is_open s.state n ≡ false)
    over p Dialler Dialler own phase = inr (λ s at. a.1 s (subst (λ j. slice_get all j ≡ Some s) own at))
    over p Dialler Accepter own phase = inl phase
    over p Accepter Dialler own phase = inl phase
    over p Accepter Accepter own phase = inr (λ s at. a.1 s (subst (λ j. slice_get all j ≡ Some s) own at))
put-carries {all} {i} {os} {w} (Send n m) a h = pipes-carry n (λ p. Worlds.set_side (Worlds.queue_up m) (other (Worlds.end_of i p)) p)
    (record { dialler = λ p. (set-keeps (Worlds.queue_up m) (λ s. refl) (other (Worlds.end_of i p))).dialler p; accepter = λ p. (set-keeps (Worlds.queue_up m) (λ s. refl) (other (Worlds.end_of i p))).accepter p })
    (λ conn p to apart b. elsewhere n m apart b) (λ p is to b. pushed m p (subst (IsEnd i) is a) (h.two n p is) to b)
    (λ p is end phase. inl (sym (set-phase (Worlds.queue_up m) (λ s. refl) (other (Worlds.end_of i p)) end p) ∙ phase)) h

-- the ends of connections stay as outputs are put
put-ends : (i j : ℕ) (conn : ℕ) (o : Output) (w : World) → IsEnd j (slice_get w.pipes conn) → IsEnd j (slice_get (put i w o).pipes conn)
put-ends i j conn (Started task) w h = h
put-ends i j conn (Ended task outcome) w h = h
put-ends i j conn (Withdrawn ids) w h = h
put-ends i j conn (Denied why) w h = h
put-ends i j conn (Ready task) w h = h
put-ends i j conn (Dial peer) w h = asks (Worlds.number_of w.spaces peer)
  where
    asks : (k : Option ℕ) → IsEnd j (slice_get (Worlds.asks_for i k w).pipes conn)
    asks None = h
    asks (Some k) = h
put-ends i j conn (Close n) w h = ends-index (λ p. Worlds.set_side Worlds.ends (Worlds.end_of i p) p)
    (record { dialler = λ p. (set-keeps Worlds.ends (λ s. refl) (Worlds.end_of i p)).dialler p; accepter = λ p. (set-keeps Worlds.ends (λ s. refl) (Worlds.end_of i p)).accepter p }) j conn n w.pipes h
put-ends i j conn (Send n m) w h = ends-index (λ p. Worlds.set_side (Worlds.queue_up m) (other (Worlds.end_of i p)) p)
    (record { dialler = λ p. (set-keeps (Worlds.queue_up m) (λ s. refl) (other (Worlds.end_of i p))).dialler p; accepter = λ p. (set-keeps (Worlds.queue_up m) (λ s. refl) (other (Worlds.end_of i p))).accepter p }) j conn n w.pipes h

still-end : (all : List Space) (i : ℕ) (o p : Output) (w : World) → IsEndOf all i w.pipes p → IsEndOf all i (put i w o).pipes p
unfolding IsEndOf
still-end all i o (Send conn m) w h = put-ends i i conn o w h
still-end all i o (Close conn) w h = (put-ends i i conn o w h.0, h.1)
still-end all i o (Started task) w h = tt
still-end all i o (Ended task outcome) w h = tt
still-end all i o (Withdrawn ids) w h = tt
still-end all i o (Denied why) w h = tt
still-end all i o (Dial peer) w h = tt
still-end all i o (Ready task) w h = tt

pub puts-carry : {all : List Space} (i : ℕ) (os : List Output) (w : World) → AllOf (IsEndOf all i w.pipes) os → Carries all i os w → Carries all i [] (each (put i) os w)
unfolding each
puts-carry i [] w a h = h
puts-carry {all} i (o ∷ os) w a h = puts-carry i os (put i w o) (all-weaken (IsEndOf all i w.pipes) (IsEndOf all i (put i w o).pipes) os (λ p k. still-end all i o p w k) a.1) (put-carries o a.0 h)
