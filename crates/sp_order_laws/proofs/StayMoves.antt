-- Requests that stay: what is kept as the parts of a space are changed, move by move.
use mathlib.Core.Path.{sym, ap, subst, ◌∙◌}
use Rattle.std.proofs.Common.{arith}
use Rattle.std.proofs.lemmas.Bool.{true≢false, eqb-true, eq-eqb}
use Rattle.std.specs.List.{list_any}
use Rattle.std.specs.Prelude.{◌≡◌, ◌≤◌, refl, cond, ℕ, ◌+◌, ◌==◌, ◌&&◌, ◌||◌, not, is_some, Bool, true, false, List, [], ◌∷◌, ◌++◌, Option, None, Some, filter, find, map, if◌then◌else◌}
use Rattle.uuid.specs.declared.Uuid.{Uuid}
use Rattle.dgc_client.specs.declared.lease.Due.{Due}
use Rattle.dgc_client.specs.declared.lease.Due.TheVariants as due
use Rattle.net_message.specs.declared.message.Message.TheVariants as message
use Rattle.net_message.specs.declared.message.Message.{Message}
use Rattle.sp_rules.specs.Endings
use Rattle.sp_rules.specs.Endings.{call_number_in}
use Rattle.sp_rules.specs.Events.{Turn, Note, Says, Sends}
use Rattle.sp_rules.specs.Frames
use Rattle.sp_rules.specs.Laws.{AllOf}
use Rattle.sp_rules.specs.Lists.{at_first, total}
use Rattle.sp_rules.specs.ParkedFrames
use Rattle.sp_rules.specs.ParkedFrames.{is_call_on, is_out_on, has_number}
use Rattle.sp_rules.specs.Requests
use Rattle.sp_rules.specs.State.{State, Request, Asked, Calls, LooksUp, Tells, Stage, Waits, Out, Answered, Connection, Frame, CallFrame, ReturnedFrame, ParkedFrame}
use Rattle.sp_rules.proofs.AllLemmas.{all-filter, all-more, all-map}
use Rattle.sp_rules.proofs.FuelSums.{total-snoc}
use Rattle.sp_laws.specs.Waiting.{count}
use Rattle.sp_laws.specs.CallSent.{is_send}
use Rattle.sp_order_laws.specs.Rising.{sequence_in}
use Rattle.sp_order_laws.proofs.RisingMoves.{IsSaid}
use Rattle.sp_order_laws.specs.Asked.{is_request, frame_of, out_as, out_on}

-- ---- what is kept

-- whether a frame answers a dirty or clean call
abbrev pub is_told : Message → Bool
is_told (message.Lease sequence period) = true
is_told (message.Cleaned sequence) = true
is_told _ = false

-- A connection, the frames that are looked for, and how many of them were sent there before.
pub record Aim : Type 1 where
  pub conn : ℕ
  pub is : Message → Bool
  pub sent : ℕ
  -- whether the connection is open
  pub live : Bool
  -- what is known of a frame that is sent on a connection; of one that answers no dirty or clean call that is nothing
  pub May : ℕ → Message → Type 0
  pub plain : (n : ℕ) (m : Message) → is_told m ≡ false → May n m
  -- what is known of a parked frame
  pub Frame : ParkedFrame → Type 0

abbrev pub has_row : ℕ → List Connection → Bool
has_row conn rows = is_some (find (λ (c : Connection). c.number == conn) rows)

-- such a frame that is noted
abbrev pub noted : Aim → Note → ℕ
noted A (Says output) = 0
noted A (Sends turn n m) = count (n == A.conn && (is_request m && A.is m))

-- what is known of a note
abbrev pub NoteMay : Aim → Note → Type 0
NoteMay A (Says output) = is_send output ≡ false
NoteMay A (Sends turn n m) = A.May n m

-- an answer under this number to a call on this connection is to none of them
abbrev pub Spares : Aim → ℕ → ℕ → Type 0
Spares A conn number = (conn == A.conn) ≡ true → (m : Message) → list_any (◌==◌ number) (call_number_in m) ≡ true → A.is m ≡ false

abbrev pub SparesFrame : Aim → ℕ → ℕ → Frame → Type 0
SparesFrame A conn number (CallFrame target method fuel arguments) = Unit {0}
SparesFrame A conn number (ReturnedFrame value fuel) = Spares A conn number

abbrev pub SparesParked : Aim → ParkedFrame → Type 0
SparesParked A p = SparesFrame A p.conn p.number p.frame

pub record StayParts : Type 0 where
  pub requests : List Request
  pub fresh : List Request
  pub connections : List Connection
  pub parked : List ParkedFrame
  pub notes : List Note

abbrev pub stay_parts : State → StayParts
stay_parts s = record { requests = s.requests; fresh = s.fresh; connections = s.connections; parked = s.parked; notes = s.notes }

-- What was sent and is noted stands among the requests, the connection is open, and no parked result answers it.
pub record Stays (A : Aim) (x : StayParts) : Type 0 where
  pub holds : A.sent + total (noted A) x.notes ≤ total (out_on A.conn A.is) x.requests
  pub said : AllOf (λ (q : Request). IsSaid q.asked) x.requests
  pub fresh : AllOf (λ (q : Request). IsSaid q.asked) x.fresh
  pub parked : AllOf (SparesParked A) x.parked
  pub row : A.live ≡ true → has_row A.conn x.connections ≡ true
  pub known : AllOf (NoteMay A) x.notes
  pub frames : AllOf A.Frame x.parked

pub record P (A : Aim) (s : State) : Type 0 where
  pub stays : Stays A (stay_parts s)

-- ---- notes

pub notes_s : {A : Aim} {x : StayParts} (n : Note) → noted A n ≡ 0 → NoteMay A n → Stays A x → Stays A (record x { notes = x.notes ++ n ∷ [] })
notes_s {A} {x} n none may h = record {
  holds =
      let a : A.sent + total (noted A) x.notes ≤ total (out_on A.conn A.is) x.requests = h.holds in
      let b : total (noted A) (x.notes ++ n ∷ []) ≡ total (noted A) x.notes + noted A n = total-snoc (noted A) x.notes n in omega (arith, none);
  said = h.said;
  fresh = h.fresh;
  parked = h.parked;
  row = h.row;
  known = all-more (NoteMay A) x.notes n h.known may;
  frames = h.frames;
}

pub quiet-note : (A : Aim) (turn : Turn) (n : ℕ) (m : Message) → is_request m ≡ false → noted A (Sends turn n m) ≡ 0
quiet-note A turn n m quiet = none (n == A.conn) (is_request m) quiet
  where
    none : (a b : Bool) → b ≡ false → count (a && (b && A.is m)) ≡ 0
    none true false e = refl
    none true true e = absurd (true≢false e)
    none false b e = refl

-- ---- requests

pub more_s : {A : Aim} {x : StayParts} (q : Request) → IsSaid q.asked → Stays A x → Stays A (record x { requests = x.requests ++ q ∷ [] })
more_s {A} {x} q said h = record {
  holds =
      let a : A.sent + total (noted A) x.notes ≤ total (out_on A.conn A.is) x.requests = h.holds in
      let b : total (out_on A.conn A.is) (x.requests ++ q ∷ []) ≡ total (out_on A.conn A.is) x.requests + out_on A.conn A.is q = total-snoc (out_on A.conn A.is) x.requests q in omega arith;
  said = all-more (λ (p : Request). IsSaid p.asked) x.requests q h.said said;
  fresh = h.fresh;
  parked = h.parked;
  row = h.row;
  known = h.known;
  frames = h.frames;
}

-- a request and its frame
pub out_s : {A : Aim} {x : StayParts} (q : Request) (n : Note) → IsSaid q.asked → noted A n ≤ out_on A.conn A.is q → NoteMay A n → Stays A x → Stays A (record x { requests = x.requests ++ q ∷ []; notes = x.notes ++ n ∷ [] })
out_s {A} {x} q n said le may h = record {
  holds =
      let a : A.sent + total (noted A) x.notes ≤ total (out_on A.conn A.is) x.requests = h.holds in
      let b : total (out_on A.conn A.is) (x.requests ++ q ∷ []) ≡ total (out_on A.conn A.is) x.requests + out_on A.conn A.is q = total-snoc (out_on A.conn A.is) x.requests q in
      let c : total (noted A) (x.notes ++ n ∷ []) ≡ total (noted A) x.notes + noted A n = total-snoc (noted A) x.notes n in omega (arith, le);
  said = all-more (λ (p : Request). IsSaid p.asked) x.requests q h.said said;
  fresh = h.fresh;
  parked = h.parked;
  row = h.row;
  known = all-more (NoteMay A) x.notes n h.known may;
  frames = h.frames;
}

-- those that go count for nothing
left-total : (f : Request → ℕ) (is : Request → Bool) (rs : List Request) → AllOf (λ (q : Request). is q ≡ true → f q ≡ 0) rs → total f (filter (λ q. not (is q)) rs) ≡ total f rs
left-total f is [] a = refl
left-total f is (q ∷ rs) a = pick (is q) refl (left-total f is rs a.1)
  where
    pick : (b : Bool) → is q ≡ b → total f (filter (λ p. not (is p)) rs) ≡ total f rs → total f (cond (not b) (q ∷ filter (λ p. not (is p)) rs) (filter (λ p. not (is p)) rs)) ≡ f q + total f rs
    pick true e rest = let z : f q ≡ 0 = a.0 e in omega arith
    pick false e rest = let z : total f (filter (λ p. not (is p)) rs) ≡ total f rs = rest in omega arith

pub fewer_s : {A : Aim} {x : StayParts} (is : Request → Bool) → AllOf (λ (q : Request). is q ≡ true → out_on A.conn A.is q ≡ 0) x.requests → Stays A x → Stays A (record x { requests = filter (λ q. not (is q)) x.requests })
fewer_s {A} {x} is none h = record {
  holds =
      let a : A.sent + total (noted A) x.notes ≤ total (out_on A.conn A.is) x.requests = h.holds in
      let b : total (out_on A.conn A.is) (filter (λ q. not (is q)) x.requests) ≡ total (out_on A.conn A.is) x.requests = left-total (out_on A.conn A.is) is x.requests none in omega arith;
  said = all-filter (λ (q : Request). IsSaid q.asked) (λ q. not (is q)) x.requests h.said;
  fresh = h.fresh;
  parked = h.parked;
  row = h.row;
  known = h.known;
  frames = h.frames;
}

-- ---- which requests count for nothing

pub both-left : (a b : Bool) → a && b ≡ true → a ≡ true
both-left true b e = refl
both-left false b e = absurd (true≢false (sym e))

pub both-right : (a b : Bool) → a && b ≡ true → b ≡ true
both-right true b e = e
both-right false b e = absurd (true≢false (sym e))

-- what is not looked for, or not on the connection
count-none : (a b : Bool) → (a ≡ true → b ≡ false) → count (a && b) ≡ 0
count-none true b k = ap count (k refl)
count-none false b k = refl

-- calls under a number that is spared
pub call-none : (A : Aim) (c n : ℕ) → Spares A c n → (q : Request) → IsSaid q.asked → is_call_on c n q ≡ true → out_on A.conn A.is q ≡ 0
call-none A c n spares q said e = by q.asked q.stage said (both-left (is_out_on c q.stage) (has_number n q.asked) e) (both-right (is_out_on c q.stage) (has_number n q.asked) e)
  where
    hit : (number : ℕ) → (number == n) ≡ true → list_any (◌==◌ n) (number ∷ []) ≡ true
    hit number f = ap (λ (b : Bool). b || false) (eq-eqb n number (sym (eqb-true number n f)))

    at : (d : ℕ) → (d == c) ≡ true → (d == A.conn) ≡ true → (c == A.conn) ≡ true
    at d f g = subst (λ x. (x == A.conn) ≡ true) (eqb-true d c f) g

    called : (number task lent : ℕ) (kind : Rattle.sp_rules.specs.Classes.Kind) (m : Message) → IsSaid (Calls number task lent kind m) → (number == n) ≡ true → (d : ℕ) → (d == c) ≡ true → (d == A.conn) ≡ true → A.is m ≡ false
    called number task lent kind m k f d g i = spares (at d g i) m (ap (λ (x : Message). list_any (◌==◌ n) (call_number_in x)) k.1.1.1.1 ∙ hit number f)

    by : (asked : Asked) (stage : Stage) → IsSaid asked → is_out_on c stage ≡ true → has_number n asked ≡ true → out_as A.conn A.is asked stage ≡ 0
    by asked Waits k o f = refl
    by (Calls number task lent kind m) (Out d sequence) k o f = count-none (d == A.conn) (A.is m) (called number task lent kind m k f d o)
    by (Calls number task lent kind m) (Answered d) k o f = count-none (d == A.conn) (A.is m) (called number task lent kind m k f d o)
    by (LooksUp number task name) (Out d sequence) k o f = count-none (d == A.conn) (A.is (message.Lookup number name)) (λ i. spares (at d o i) (message.Lookup number name) (hit number f))
    by (LooksUp number task name) (Answered d) k o f = count-none (d == A.conn) (A.is (message.Lookup number name)) (λ i. spares (at d o i) (message.Lookup number name) (hit number f))
    by (Tells call group) (Out d sequence) k o f = absurd (true≢false (sym f))
    by (Tells call group) (Answered d) k o f = absurd (true≢false (sym f))

-- dirty and clean calls under a sequence number that is spared
abbrev pub SparesTold : Aim → ℕ → ℕ → Type 0
SparesTold A conn sequence = (conn == A.conn) ≡ true → (m : Message) → list_any (◌==◌ sequence) (sequence_in m) ≡ true → A.is m ≡ false

pub told-none : (A : Aim) (dirty : Bool) (c n : ℕ) → SparesTold A c n → (q : Request) → Frames.tells_on dirty c n q ≡ true → out_on A.conn A.is q ≡ 0
told-none A dirty c n spares q e = by q.asked q.stage (both-left (ParkedFrames.is_unanswered_on c q.stage) _ e) (both-right (ParkedFrames.is_unanswered_on c q.stage) _ e)
  where
    hit : (kind : Due) (sequence : ℕ) (ids : List Rattle.space_ids.specs.declared.ids.ObjId.ObjId) → (sequence == n) ≡ true → list_any (◌==◌ n) (sequence_in (Requests.group_frame kind sequence ids)) ≡ true
    hit due.Dirty sequence ids f = ap (λ (b : Bool). b || false) (eq-eqb n sequence (sym (eqb-true sequence n f)))
    hit (due.Clean strong) sequence ids f = ap (λ (b : Bool). b || false) (eq-eqb n sequence (sym (eqb-true sequence n f)))

    at : (d : ℕ) → (d == c) ≡ true → (d == A.conn) ≡ true → (c == A.conn) ≡ true
    at d f g = subst (λ x. (x == A.conn) ≡ true) (eqb-true d c f) g

    by : (asked : Asked) (stage : Stage) → ParkedFrames.is_unanswered_on c stage ≡ true → Frames.has_sequence n stage && Frames.tells_of dirty asked ≡ true → out_as A.conn A.is asked stage ≡ 0
    by asked Waits o f = refl
    by asked (Answered d) o f = absurd (true≢false (sym o))
    by (Calls number task lent kind m) (Out d sequence) o f = absurd (true≢false (sym (both-right (sequence == n) false f)))
    by (LooksUp number task name) (Out d sequence) o f = absurd (true≢false (sym (both-right (sequence == n) false f)))
    by (Tells call group) (Out d sequence) o f = count-none (d == A.conn) (A.is (Requests.group_frame group.kind sequence group.ids)) (λ i. spares (at d o i) (Requests.group_frame group.kind sequence group.ids) (hit group.kind sequence group.ids (both-left (sequence == n) _ f)))

-- those that wait
pub waits-none : (A : Aim) (peer : Uuid) (q : Request) → Requests.waits_for peer q ≡ true → out_on A.conn A.is q ≡ 0
waits-none A peer q e = by q.stage (both-right (Rattle.std.specs.Str.bytes_eq q.peer peer) (Requests.is_waiting q.stage) e)
  where
    by : (stage : Stage) → Requests.is_waiting stage ≡ true → out_as A.conn A.is q.asked stage ≡ 0
    by Waits f = refl
    by (Out d sequence) f = absurd (true≢false (sym f))
    by (Answered d) f = absurd (true≢false (sym f))

-- those of another connection, and those that wait
pub other-none : (A : Aim) (c : ℕ) (dialled : Option Uuid) → (c == A.conn) ≡ false → (q : Request) → Endings.is_of_connection c dialled q ≡ true → out_on A.conn A.is q ≡ 0
other-none A c None apart q e = absurd (true≢false (sym e))
other-none A c (Some peer) apart q e = pick (is_out_on c q.stage) refl e
  where
    away : (d : ℕ) → (d == c) ≡ true → (d == A.conn) ≡ true → (b : Bool) → b ≡ false
    away d f g b = absurd (true≢false (sym (subst (λ x. (x == A.conn) ≡ true) (eqb-true d c f) g) ∙ apart))

    by : (stage : Stage) → is_out_on c stage ≡ true → out_as A.conn A.is q.asked stage ≡ 0
    by Waits f = refl
    by (Out d sequence) f = count-none (d == A.conn) (A.is (frame_of q.asked sequence)) (λ g. away d f g (A.is (frame_of q.asked sequence)))
    by (Answered d) f = count-none (d == A.conn) (not (Endings.is_group q.asked) && A.is (frame_of q.asked 0)) (λ g. away d f g (not (Endings.is_group q.asked) && A.is (frame_of q.asked 0)))

    pick : (b : Bool) → is_out_on c q.stage ≡ b → b || Requests.waits_for peer q ≡ true → out_on A.conn A.is q ≡ 0
    pick true f g = by q.stage f
    pick false f g = waits-none A peer q g

-- ---- answered calls

answered-same : (A : Aim) (c n : ℕ) (q : Request) → out_on A.conn A.is (Frames.answered_on c n q) ≡ out_on A.conn A.is q
answered-same A c n q = pick (is_call_on c n q) refl
  where
    by : (asked : Asked) (stage : Stage) → is_out_on c stage ≡ true → has_number n asked ≡ true → out_as A.conn A.is asked (Answered c) ≡ out_as A.conn A.is asked stage
    by asked Waits o f = absurd (true≢false (sym o))
    by (Calls number task lent kind m) (Out d sequence) o f = ap (λ x. count (x == A.conn && A.is m)) (sym (eqb-true d c o))
    by (Calls number task lent kind m) (Answered d) o f = ap (λ x. count (x == A.conn && A.is m)) (sym (eqb-true d c o))
    by (LooksUp number task name) (Out d sequence) o f = ap (λ x. count (x == A.conn && A.is (message.Lookup number name))) (sym (eqb-true d c o))
    by (LooksUp number task name) (Answered d) o f = ap (λ x. count (x == A.conn && A.is (message.Lookup number name))) (sym (eqb-true d c o))
    by (Tells call group) stage o f = absurd (true≢false (sym f))

    pick : (b : Bool) → is_call_on c n q ≡ b → out_on A.conn A.is (if b then record q { stage = Answered c } else q) ≡ out_on A.conn A.is q
    pick true e = by q.asked q.stage (both-left (is_out_on c q.stage) (has_number n q.asked) e) (both-right (is_out_on c q.stage) (has_number n q.asked) e)
    pick false e = refl

answered-total : (A : Aim) (c n : ℕ) (rs : List Request) → total (out_on A.conn A.is) (map (Frames.answered_on c n) rs) ≡ total (out_on A.conn A.is) rs
answered-total A c n [] = refl
answered-total A c n (q ∷ rs) = let a : out_on A.conn A.is (Frames.answered_on c n q) ≡ out_on A.conn A.is q = answered-same A c n q in let b : total (out_on A.conn A.is) (map (Frames.answered_on c n) rs) ≡ total (out_on A.conn A.is) rs = answered-total A c n rs in omega arith

pub answered_s : {A : Aim} {x : StayParts} (c n : ℕ) → Stays A x → Stays A (record x { requests = map (Frames.answered_on c n) x.requests })
answered_s {A} {x} c n h = record {
  holds = let a : A.sent + total (noted A) x.notes ≤ total (out_on A.conn A.is) x.requests = h.holds in let b : total (out_on A.conn A.is) (map (Frames.answered_on c n) x.requests) ≡ total (out_on A.conn A.is) x.requests = answered-total A c n x.requests in omega arith;
  said = all-map (λ (q : Request). IsSaid q.asked) (λ (q : Request). IsSaid q.asked) (Frames.answered_on c n) x.requests (λ q k. one q (is_call_on c n q) k) h.said;
  fresh = h.fresh;
  parked = h.parked;
  row = h.row;
  known = h.known;
  frames = h.frames;
}
  where
    one : (q : Request) (b : Bool) → IsSaid q.asked → IsSaid (if b then record q { stage = Answered c } else q).asked
    one q true k = k
    one q false k = k

-- ---- rows of connections

row-first : (conn n : ℕ) (f : Connection → Connection) → ((c : Connection) → (f c).number ≡ c.number) → (rows : List Connection) → has_row conn (at_first (λ (c : Connection). c.number == n) f rows) ≡ has_row conn rows
row-first conn n f keeps [] = refl
row-first conn n f keeps (c ∷ rows) = by (c.number == n) (row-first conn n f keeps rows)
  where
    by : (b : Bool) → has_row conn (at_first (λ (x : Connection). x.number == n) f rows) ≡ has_row conn rows → has_row conn (if b then f c ∷ rows else c ∷ at_first (λ (x : Connection). x.number == n) f rows) ≡ has_row conn (c ∷ rows)
    by true rest = change (ap (λ m. m == conn) (keeps c))
      where
        change : ((f c).number == conn) ≡ (c.number == conn) → is_some (cond ((f c).number == conn) (Some (f c)) (find (λ (x : Connection). x.number == conn) rows)) ≡ is_some (cond (c.number == conn) (Some c) (find (λ (x : Connection). x.number == conn) rows))
        change e = ap (λ b. is_some (cond b (Some (f c)) (find (λ (x : Connection). x.number == conn) rows))) e ∙ either (c.number == conn)
          where
            either : (b : Bool) → is_some (cond b (Some (f c)) (find (λ (x : Connection). x.number == conn) rows)) ≡ is_some (cond b (Some c) (find (λ (x : Connection). x.number == conn) rows))
            either true = refl
            either false = refl
    by false rest = either (c.number == conn)
      where
        either : (b : Bool) → is_some (cond b (Some c) (find (λ (x : Connection). x.number == conn) (at_first (λ (x : Connection). x.number == n) f rows))) ≡ is_some (cond b (Some c) (find (λ (x : Connection). x.number == conn) rows))
        either true = refl
        either false = rest

row-others : (conn n : ℕ) → (n == conn) ≡ false → (rows : List Connection) → has_row conn (filter (λ (c : Connection). not (c.number == n)) rows) ≡ has_row conn rows
row-others conn n apart [] = refl
row-others conn n apart (c ∷ rows) = by (c.number == n) refl (row-others conn n apart rows)
  where
    by : (b : Bool) → (c.number == n) ≡ b → has_row conn (filter (λ (x : Connection). not (x.number == n)) rows) ≡ has_row conn rows → has_row conn (cond (not b) (c ∷ filter (λ (x : Connection). not (x.number == n)) rows) (filter (λ (x : Connection). not (x.number == n)) rows)) ≡ has_row conn (c ∷ rows)
    by true e rest = rest ∙ sym (ap (λ b. is_some (cond b (Some c) (find (λ (x : Connection). x.number == conn) rows))) (subst (λ m. (m == conn) ≡ false) (sym (eqb-true c.number n e)) apart))
    by false e rest = either (c.number == conn)
      where
        either : (b : Bool) → is_some (cond b (Some c) (find (λ (x : Connection). x.number == conn) (filter (λ (x : Connection). not (x.number == n)) rows))) ≡ is_some (cond b (Some c) (find (λ (x : Connection). x.number == conn) rows))
        either true = refl
        either false = rest

row-more : (conn : ℕ) (rows : List Connection) (c : Connection) → has_row conn rows ≡ true → has_row conn (rows ++ c ∷ []) ≡ true
row-more conn [] c e = absurd (true≢false (sym e))
row-more conn (d ∷ rows) c e = by (d.number == conn) e (row-more conn rows c)
  where
    by : (b : Bool) → is_some (cond b (Some d) (find (λ (x : Connection). x.number == conn) rows)) ≡ true → (has_row conn rows ≡ true → has_row conn (rows ++ c ∷ []) ≡ true) → is_some (cond b (Some d) (find (λ (x : Connection). x.number == conn) (rows ++ c ∷ []))) ≡ true
    by true k rest = refl
    by false k rest = rest k

pub rows_s : {A : Aim} {x : StayParts} (rows : List Connection) → (has_row A.conn x.connections ≡ true → has_row A.conn rows ≡ true) → Stays A x → Stays A (record x { connections = rows })
rows_s rows there h = record { holds = h.holds; said = h.said; fresh = h.fresh; parked = h.parked; row = λ e. there (h.row e); known = h.known; frames = h.frames }

pub first_s : {A : Aim} {x : StayParts} (n : ℕ) (f : Connection → Connection) → ((c : Connection) → (f c).number ≡ c.number) → Stays A x → Stays A (record x { connections = at_first (λ (c : Connection). c.number == n) f x.connections })
first_s {A} {x} n f keeps h = rows_s _ (λ e. row-first A.conn n f keeps x.connections ∙ e) h

pub others_s : {A : Aim} {x : StayParts} (n : ℕ) → (n == A.conn) ≡ false → Stays A x → Stays A (record x { connections = filter (λ (c : Connection). not (c.number == n)) x.connections })
others_s {A} {x} n apart h = rows_s _ (λ e. row-others A.conn n apart x.connections ∙ e) h

pub opens_s : {A : Aim} {x : StayParts} (c : Connection) → Stays A x → Stays A (record x { connections = x.connections ++ c ∷ [] })
opens_s {A} {x} c h = rows_s _ (λ e. row-more A.conn x.connections c e) h

-- ---- parked frames, and calls that are made

pub parks_s : {A : Aim} {x : StayParts} (p : ParkedFrame) → SparesParked A p → A.Frame p → Stays A x → Stays A (record x { parked = x.parked ++ p ∷ [] })
parks_s {A} {x} p spares frame h = record { holds = h.holds; said = h.said; fresh = h.fresh; parked = all-more (SparesParked A) x.parked p h.parked spares; row = h.row; known = h.known; frames = all-more A.Frame x.parked p h.frames frame }

pub takes_s : {A : Aim} {x : StayParts} (is : ParkedFrame → Bool) → Stays A x → Stays A (record x { parked = filter is x.parked })
takes_s {A} {x} is h = record { holds = h.holds; said = h.said; fresh = h.fresh; parked = all-filter (SparesParked A) is x.parked h.parked; row = h.row; known = h.known; frames = all-filter A.Frame is x.parked h.frames }

pub fresh_s : {A : Aim} {x : StayParts} (rs : List Request) → AllOf (λ (q : Request). IsSaid q.asked) rs → Stays A x → Stays A (record x { fresh = rs })
fresh_s rs said h = record { holds = h.holds; said = h.said; fresh = said; parked = h.parked; row = h.row; known = h.known; frames = h.frames }
