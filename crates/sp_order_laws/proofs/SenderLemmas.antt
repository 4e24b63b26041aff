-- Who sends a frame holds the references in it until the frame is done, where nothing fails.
use mathlib.Core.Path.{sym, ap, subst, ◌∙◌}
use Rattle.std.proofs.Common.{arith, inl, inr}
use Rattle.std.proofs.lemmas.Bool.{true≢false, eqb-true}
use Rattle.std.specs.Prelude.{◌≡◌, ◌≤◌, refl, ℕ, zero, suc, ◌+◌, ◌==◌, ◌&&◌, Bool, true, false, List, [], ◌∷◌, Option, None}
use Rattle.uuid.specs.declared.Uuid.{Uuid}
use Rattle.net_message.specs.declared.message.Message.{Message}
use Rattle.net_message.specs.declared.message.Message.TheVariants as message
use Rattle.space_ids.specs.declared.value.Value.{Value}
use Rattle.dgc_client.specs.declared.lease.Due.TheVariants as due
use Rattle.dgc_client.specs.declared.lease.Due.{Due}
use Rattle.sp_rules.specs.Classes.{Setting}
use Rattle.sp_rules.specs.Events.{Event, Received}
use Rattle.sp_rules.specs.Laws.{AllOf}
use Rattle.sp_rules.specs.Lists.{total}
use Rattle.sp_rules.specs.ParkedFrames.{is_out_on}
use Rattle.sp_rules.specs.Requests.{group_frame}
use Rattle.sp_rules.specs.Space
use Rattle.sp_rules.specs.State.{State, Request, Asked, Calls, LooksUp, Tells, Stage, Waits, Out, Answered, Connection, ParkedFrame, Frame, CallFrame, ReturnedFrame}
use Rattle.sp_laws.specs.Waiting.{count}
use Rattle.sp_order_laws.specs.Delivered.{came_on, sent_on, outputs_in, outputs_at, AreSomeOf, BringsWhatWasSent, Delivers}
use Rattle.sp_order_laws.specs.Ends.{IsOneOf}
use Rattle.sp_order_laws.proofs.RisingMoves.{IsSaid}
use Rattle.sp_order_laws.specs.Asked.{out_as, out_on, AnswersNone}
use Rattle.space_ids.specs.declared.ids.ObjId.{ObjId}
use Rattle.sp_rules.specs.State.{opening}
use Rattle.sp_rules.proofs.AllLemmas.{all-weaken}
use Rattle.sp_laws.specs.Directions.{FramesGoTheirWay}
use Rattle.sp_order_laws.specs.Ends.{ParkedResultsCame}
use Rattle.sp_order_laws.specs.Senders.{CameAsFrame, ParkedFramesCame}
use Rattle.sp_order_laws.proofs.StayFrames.{Leaves, Beside, MayTell, happen_s}
use Rattle.sp_order_laws.proofs.StayMoves.{Aim, P, opens_s}
use Rattle.sp_order_laws.proofs.StayLaws.{start-of, done-of, elsewhere, is-elsewhere}
use Rattle.sp_order_laws.proofs.UnbrokenLaws.{came-now}
use Rattle.sp_order_laws.proofs.WelcomeLemmas.{one-left, both-left, both-right}

-- ---- parked frames came

nothing : (ms : List Message) → AllOf (AnswersNone (λ m. false)) ms
nothing [] = tt
nothing (x ∷ ms) = ((λ y e. refl), nothing ms)

came-later : (e : Event) (h : List Event) (p : ParkedFrame) (f : Frame) → CameAsFrame h p f → CameAsFrame (e ∷ h) p f
came-later e h p (CallFrame target method fuel arguments) k = (k.0, (k.1.0, one-left (message.Call p.number k.0 method fuel arguments) (came_on p.conn h) (Rattle.sp_order_laws.specs.Delivered.frame_of p.conn e) k.1.1))
came-later e h p (ReturnedFrame value fuel) k = one-left (message.Returned p.number fuel value) (came_on p.conn h) (Rattle.sp_order_laws.specs.Delivered.frame_of p.conn e) k

pub parked_frames_came : FramesGoTheirWay → ParkedResultsCame → ParkedFramesCame
unfolding Space.state_of Space.on opening
parked_frames_came ways results g [] taken once = tt
parked_frames_came ways results g (e ∷ h) taken once = left (happen_s g s e (beside e refl) (λ n dialled same. record { stays = opens_s (row n dialled) (begun (parked_frames_came ways results g h taken.1 once.1)).stays }) (λ quiet. begun (parked_frames_came ways results g h taken.1 once.1)))
  where
    s : State
    s = Space.state_of g h

    A : Aim
    A = record { conn = elsewhere e; is = λ m. false; sent = 0; live = false; May = λ n m. Unit {0}; plain = λ n m f. tt; Frame = λ p. CameAsFrame (e ∷ h) p p.frame }

    row : ℕ → Option Uuid → Connection
    row n dialled = record { number = n; dialled = dialled; peer = None; version = 1; last = 0; sent = [] }

    begun : AllOf (λ (p : ParkedFrame). CameAsFrame h p p.frame) s.parked → P A s
    begun came = start-of ways results g h A taken.1 once.1 (nothing (came_on A.conn h)) s.connections (λ f. absurd (true≢false (sym f))) (omega arith) (all-weaken (λ (p : ParkedFrame). CameAsFrame h p p.frame) A.Frame s.parked (λ p k. came-later e h p p.frame k) came)

    tells : (n : ℕ) (m : Message) → e ≡ Received n m → MayTell A n m
    tells n (message.Call number object method fuel arguments) same = λ id references f. (object, (f, came-now n (message.Call number object method fuel arguments) e h same))
    tells n (message.Returned number fuel value) same = λ references. came-now n (message.Returned number fuel value) e h same
    tells n (message.Dirty sequence period objects) same = tt
    tells n (message.Clean sequence strong objects) same = tt
    tells n _ same = tt

    beside : (d : Event) → e ≡ d → Beside A d
    beside (Received n m) same = ((λ at y f. refl), tells n m same)
    beside _ same = tt

    left : Leaves A e (Space.happen g e s) → AllOf A.Frame (Space.finish_event (Space.answers_outputs e) (Space.happen g e s)).0.parked
    left (inl k) = (done-of A (Space.happen g e s) (Space.answers_outputs e) k).left.stays.frames
    left (inr k) = absurd (is-elsewhere e k.0)

-- ---- requests of a call

-- one that counts is there
pub counts-there : (f : Request → ℕ) (rs : List Request) → 1 ≤ total f rs → (q : Request) × (IsOneOf q rs × (1 ≤ f q))
counts-there f [] le = absurd (let a : 1 ≤ 0 = le in omega (arith, a))
counts-there f (q ∷ rs) le = by (f q) refl (λ a. counts-there f rs a)
  where
    by : (n : ℕ) → f q ≡ n → (1 ≤ total f rs → (p : Request) × (IsOneOf p rs × (1 ≤ f p))) → (p : Request) × (IsOneOf p (q ∷ rs) × (1 ≤ f p))
    by zero e rest = let a : 1 ≤ f q + total f rs = le in let x = rest (omega (arith, e)) in (x.0, (inr x.1.0, x.1.1))
    by (suc n) e rest = (q, (inl refl, omega (arith, e)))

count-true : (b : Bool) → 1 ≤ count b → b ≡ true
count-true true le = refl
count-true false le = absurd (let a : 1 ≤ 0 = le in omega (arith, a))

-- a call of this number that names this
abbrev pub names_as : ℕ → (ObjId → List Value → Bool) → Message → Bool
names_as k names (message.Call number target method fuel arguments) = (number == k) && names target arguments
names_as k names _ = false

-- it is a call that waits on the connection, of this number
pub record IsNaming (conn k : ℕ) (names : ObjId → List Value → Bool) (q : Request) : Type 0 where
  pub task : ℕ
  pub lent : ℕ
  pub kind : Rattle.sp_rules.specs.Classes.Kind
  pub target : ObjId
  pub method : ℕ
  pub fuel : ℕ
  pub arguments : List Value
  pub asked : q.asked ≡ Calls k task lent kind (message.Call k target method fuel arguments)
  pub named : names target arguments ≡ true
  pub stands : is_out_on conn q.stage ≡ true

pub naming-of : (conn k : ℕ) (names : ObjId → List Value → Bool) (q : Request) → IsSaid q.asked → 1 ≤ out_on conn (names_as k names) q → IsNaming conn k names q
naming-of conn k names q said le = by q.asked refl q.stage refl said le
  where
    group : (kind : Due) (sequence : ℕ) (ids : List ObjId) (d : Bool) → 1 ≤ count (d && names_as k names (group_frame kind sequence ids)) → ⊥
    group due.Dirty sequence ids true l = let a : 1 ≤ 0 = l in omega (arith, a)
    group due.Dirty sequence ids false l = let a : 1 ≤ 0 = l in omega (arith, a)
    group (due.Clean strong) sequence ids true l = let a : 1 ≤ 0 = l in omega (arith, a)
    group (due.Clean strong) sequence ids false l = let a : 1 ≤ 0 = l in omega (arith, a)

    none : (d : Bool) → 1 ≤ count (d && false) → ⊥
    none true l = let a : 1 ≤ 0 = l in omega (arith, a)
    none false l = let a : 1 ≤ 0 = l in omega (arith, a)

    called : (number task lent : ℕ) (kind : Rattle.sp_rules.specs.Classes.Kind) (m : Message) → q.asked ≡ Calls number task lent kind m → IsSaid (Calls number task lent kind m) → (d : Bool) → is_out_on conn q.stage ≡ d → 1 ≤ count (d && names_as k names m) → IsNaming conn k names q
    called number task lent kind m e s d at l =
        let hit : (d && ((number == k) && names s.0 s.1.1.1.0)) ≡ true = count-true _ (subst (λ (y : Message). 1 ≤ count (d && names_as k names y)) s.1.1.1.1 l) in
        let num : number ≡ k = eqb-true number k (both-left (number == k) (names s.0 s.1.1.1.0) (both-right d _ hit)) in
        record {
          task = task;
          lent = lent;
          kind = kind;
          target = s.0;
          method = s.1.0;
          fuel = s.1.1.0;
          arguments = s.1.1.1.0;
          asked = e ∙ (ap (λ (y : Message). Calls number task lent kind y) s.1.1.1.1 ∙ ap (λ n. Calls n task lent kind (message.Call n s.0 s.1.0 s.1.1.0 s.1.1.1.0)) num);
          named = both-right (number == k) (names s.0 s.1.1.1.0) (both-right d _ hit);
          stands = at ∙ both-left d _ hit;
        }

    by : (asked : Asked) → q.asked ≡ asked → (stage : Stage) → q.stage ≡ stage → IsSaid asked → 1 ≤ out_as conn (names_as k names) asked stage → IsNaming conn k names q
    by asked e Waits f s l = absurd (let a : 1 ≤ 0 = l in omega (arith, a))
    by (Calls number task lent kind m) e (Out d sequence) f s l = called number task lent kind m e s (d == conn) (ap (is_out_on conn) f) l
    by (Calls number task lent kind m) e (Answered d) f s l = called number task lent kind m e s (d == conn) (ap (is_out_on conn) f) l
    by (LooksUp number task name) e (Out d sequence) f s l = absurd (none (d == conn) l)
    by (LooksUp number task name) e (Answered d) f s l = absurd (none (d == conn) l)
    by (Tells call b) e (Out d sequence) f s l = absurd (group b.kind sequence b.ids (d == conn) l)
    by (Tells call b) e (Answered d) f s l = absurd (none (d == conn) l)
