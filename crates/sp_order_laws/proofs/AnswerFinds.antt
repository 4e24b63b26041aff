-- Each frame that is first in its queue is welcome, where no end of a connection is over: answers find what they answer.
use mathlib.Core.Path.{sym, ap, subst, ◌∙◌}
use Rattle.std.proofs.Common.{arith, inl}
use Rattle.std.proofs.lemmas.Bool.{true≢false, eqb-true, eq-eqb}
use Rattle.std.specs.List.{list_any}
use Rattle.std.specs.Prelude.{◌≡◌, ◌≤◌, refl, ℕ, ◌+◌, ◌==◌, ◌&&◌, ◌||◌, not, is_some, Bool, true, false, List, [], ◌∷◌, ◌++◌, Option, None, Some, find}
use Rattle.net_message.specs.declared.message.Message.{Message}
use Rattle.net_message.specs.declared.message.Message.TheVariants as message
use Rattle.dgc_client.specs.declared.lease.Due.TheVariants as due
use Rattle.dgc_client.specs.declared.lease.Due.{Due}
use Rattle.sp_rules.specs.Classes.{Setting}
use Rattle.sp_rules.specs.Endings.{call_number_in}
use Rattle.sp_rules.specs.Frames
use Rattle.sp_rules.specs.Frames.{is_asking, is_wrong_way, is_acked_by, tells_on}
use Rattle.sp_rules.specs.Laws.{AllOf}
use Rattle.sp_rules.specs.Lists.{total}
use Rattle.sp_rules.specs.ParkedFrames.{is_asked_on, is_unanswered_on, has_number, is_parked_at}
use Rattle.sp_rules.specs.Requests.{group_frame}
use Rattle.sp_rules.specs.State.{Request, Asked, Calls, LooksUp, Tells, Stage, Waits, Out, Answered, ParkedFrame, Frame, CallFrame, ReturnedFrame, is_open}
use Rattle.sp_rules.specs.Worlds.{World, Space, Pipe, Accepter}
use Rattle.sp_rules.proofs.AllLemmas.{some-none, all-found, found-is}
use Rattle.sp_laws.specs.Answered.{is_answered_on}
use Rattle.sp_laws.specs.Waiting.{count}
use Rattle.sp_order_laws.specs.Delivered.{came_on, sent_on, outputs_in, outputs_at}
use Rattle.sp_order_laws.specs.Ends.{IsOneOf, CameAs}
use Rattle.sp_order_laws.specs.Answering.{CallReply, GroupReply, times, times_asked, times_answered, under_way, answered_in}
use Rattle.sp_order_laws.specs.Places.{IsBetween, CallsStandOnceIn, GroupsStandOnceIn, ResultsStandOnceIn}
use Rattle.sp_order_laws.specs.Rising.{sequence_in}
use Rattle.sp_order_laws.proofs.RisingMoves.{IsSaid}
use Rattle.sp_order_laws.proofs.WorldFacts.{Known, at-all}
use Rattle.sp_order_laws.specs.Asked.{out_as, out_on, asks_for, is_answer_to, AnswersNone}
use Rattle.sp_order_laws.proofs.WelcomeLemmas.{Facts, one-some, one-left, one-total, all-known, calls_as, asks-total, answers-one, answers-both, none-answers}

-- ---- requests that count

-- if none is found, none counts
pub total-none : {A : Type 0} (f : A → ℕ) (xs : List A) → AllOf (λ (x : A). f x ≡ 0) xs → total f xs ≡ 0
total-none f [] a = refl
total-none f (x ∷ xs) a = let b : f x ≡ 0 = a.0 in let c : total f xs ≡ 0 = total-none f xs a.1 in omega arith

pub all-both : {A : Type 0} (P Q R : A → Type 0) (xs : List A) → ((x : A) → P x → Q x → R x) → AllOf P xs → AllOf Q xs → AllOf R xs
all-both P Q R [] f a b = tt
all-both P Q R (x ∷ xs) f a b = (f x a.0 b.0, all-both P Q R xs f a.1 b.1)

none-there : {A : Type 0} (is : A → Bool) (xs : List A) → find is xs ≡ None → AllOf (λ (x : A). is x ≡ false) xs
none-there is xs e = Rattle.sp_rules.proofs.AllLemmas.none-found is xs e

zero-all : {A : Type 0} (f : A → ℕ) (xs : List A) → total f xs ≡ 0 → AllOf (λ (x : A). f x ≡ 0) xs
zero-all f [] e = tt
zero-all f (x ∷ xs) e = (let a : f x + total f xs ≡ 0 = e in omega arith, zero-all f xs (let a : f x + total f xs ≡ 0 = e in omega arith))

pub is-found : {A : Type 0} (is : A → Bool) (xs : List A) → (find is xs ≡ None → ⊥) → is_some (find is xs) ≡ true
is-found is xs k = by (find is xs) refl
  where
    by : (o : Option _) → find is xs ≡ o → is_some o ≡ true
    by None e = absurd (k e)
    by (Some x) e = refl

count-zero : (b : Bool) → count b ≡ 0 → b ≡ false
count-zero true e = let a : 1 ≡ 0 = e in absurd (omega (arith, a))
count-zero false e = refl

-- a request that is not asked there under the number, nor answered, counts for nothing
call-nothing : (conn k : ℕ) (q : Request) → IsSaid q.asked → is_asked_on conn k q ≡ false → is_answered_on conn q.stage && has_number k q.asked ≡ false → out_on conn (calls_as k) q ≡ 0
call-nothing conn k q said not-asked not-answered = by q.asked q.stage said not-asked not-answered
  where
    other-order : (a b : ℕ) → (a == b) ≡ false → (b == a) ≡ false
    other-order a b e = pick (b == a) refl
      where
        pick : (x : Bool) → (b == a) ≡ x → x ≡ false
        pick true f = absurd (true≢false (sym (eq-eqb a b (sym (eqb-true b a f))) ∙ e))
        pick false f = refl

    named : (number : ℕ) (d : Bool) → d && (number == k) ≡ false → count (d && ((k == number) || false)) ≡ 0
    named number true e = ap (λ b. count (b || false)) (other-order number k e)
    named number false e = refl

    group : (kind : Due) (sequence : ℕ) (ids : List Rattle.space_ids.specs.declared.ids.ObjId.ObjId) (d : Bool) → count (d && calls_as k (group_frame kind sequence ids)) ≡ 0
    group due.Dirty sequence ids true = refl
    group due.Dirty sequence ids false = refl
    group (due.Clean strong) sequence ids true = refl
    group (due.Clean strong) sequence ids false = refl

    none : (d : Bool) → count (d && false) ≡ 0
    none true = refl
    none false = refl

    called : (number task lent : ℕ) (kind : Rattle.sp_rules.specs.Classes.Kind) (m : Message) → IsSaid (Calls number task lent kind m) → (d : Bool) → d && (number == k) ≡ false → count (d && calls_as k m) ≡ 0
    called number task lent kind m s d e = ap (λ (y : Message). count (d && calls_as k y)) s.1.1.1.1 ∙ named number d e

    by : (asked : Asked) (stage : Stage) → IsSaid asked → is_unanswered_on conn stage && has_number k asked ≡ false → is_answered_on conn stage && has_number k asked ≡ false → out_as conn (calls_as k) asked stage ≡ 0
    by asked Waits s e f = refl
    by (Calls number task lent kind m) (Out d sequence) s e f = called number task lent kind m s (d == conn) e
    by (Calls number task lent kind m) (Answered d) s e f = called number task lent kind m s (d == conn) f
    by (LooksUp number task name) (Out d sequence) s e f = named number (d == conn) e
    by (LooksUp number task name) (Answered d) s e f = named number (d == conn) f
    by (Tells call b) (Out d sequence) s e f = group b.kind sequence b.ids (d == conn)
    by (Tells call b) (Answered d) s e f = none (d == conn)

-- ---- replies find their calls

-- a reply of this number that is first in its queue
pub finds-call : {settings : List Setting} {w : World} (F : Facts settings w) (conn k : ℕ) (p : Pipe) (a b : Space) (m : Message) (ms : List Message) → IsBetween w conn p a b → p.dialler.queue ≡ m ∷ ms → IsOneOf m (sent_on conn b.outputs) → is_open a.state conn ≡ true → 1 ≤ times k (answered_in CallReply m)
    → is_some (find (is_asked_on conn k) a.state.requests) ≡ true
finds-call {settings} {w} F conn k p a b m ms between queue sent live reply = is-found (is_asked_on conn k) a.state.requests absent
  where
    stands : Rattle.sp_order_laws.specs.Places.waiting_to_go k a.state + Rattle.sp_order_laws.specs.Places.call_answered conn k p a b ≤ 1
    stands = F.calls.answered conn k p a b between

    came-none : times_answered CallReply k (came_on conn a.history) ≡ 0
    came-none =
        let x : times_answered CallReply k (came_on conn a.history ++ p.dialler.queue) ≡ times_answered CallReply k (came_on conn a.history) + times_answered CallReply k p.dialler.queue = answers-both CallReply k (came_on conn a.history) p.dialler.queue in
        let y : 1 ≤ times_answered CallReply k p.dialler.queue = answers-one CallReply k m p.dialler.queue (subst (IsOneOf m) (sym queue) (inl refl)) reply in
        let z : Rattle.sp_order_laws.specs.Places.waiting_to_go k a.state + (times_asked CallReply k p.accepter.queue + (under_way CallReply conn k b.state + times_answered CallReply k (came_on conn a.history ++ p.dialler.queue))) ≤ 1 = stands in omega arith

    unanswered : AllOf (AnswersNone (calls_as k)) (came_on conn a.history)
    unanswered = all-known (AnswersNone (calls_as k)) (came_on conn a.history) (λ x o. none-answers k x (λ le. let y : 1 ≤ times_answered CallReply k (came_on conn a.history) = answers-one CallReply k x (came_on conn a.history) o le in absurd (omega (arith, came-none))))

    was-asked : 1 ≤ total (asks_for (calls_as k)) (sent_on conn a.outputs)
    was-asked =
        let x : 1 ≤ times_answered CallReply k (sent_on conn b.outputs) = answers-one CallReply k m (sent_on conn b.outputs) sent reply in
        let y : times_answered CallReply k (sent_on conn b.outputs) ≤ times_asked CallReply k (came_on conn b.history) = at-all _ p.accepter.space w.spaces b between.accepted F.answered conn k in
        let z : times_asked CallReply k (came_on conn b.history) ≤ total (asks_for (calls_as k)) (came_on conn b.history) = asks-total k (came_on conn b.history) in
        let u : total (asks_for (calls_as k)) (came_on conn b.history ++ p.accepter.queue) ≤ total (asks_for (calls_as k)) (sent_on conn (outputs_at w.spaces p.dialler.space)) = Rattle.sp_order_laws.proofs.WorldFacts.some-total (asks_for (calls_as k)) (came_on conn b.history ++ p.accepter.queue) (sent_on conn (outputs_at w.spaces p.dialler.space)) (F.delivers.brings conn p Accepter between.pipe b between.accepted) in
        let v : total (asks_for (calls_as k)) (came_on conn b.history ++ p.accepter.queue) ≡ total (asks_for (calls_as k)) (came_on conn b.history) + total (asks_for (calls_as k)) p.accepter.queue = Rattle.sp_rules.proofs.FuelOfSpaces.total-append (asks_for (calls_as k)) (came_on conn b.history) p.accepter.queue in
        let t : total (asks_for (calls_as k)) (sent_on conn (outputs_at w.spaces p.dialler.space)) ≡ total (asks_for (calls_as k)) (sent_on conn a.outputs) = ap (λ (o : Option Space). total (asks_for (calls_as k)) (sent_on conn (outputs_in o))) between.dialled in omega arith

    stands-out : total (asks_for (calls_as k)) (sent_on conn a.outputs) ≤ total (out_on conn (calls_as k)) a.state.requests
    stands-out = at-all _ p.dialler.space w.spaces a between.dialled F.asked conn (calls_as k) live unanswered

    -- no result of the number is parked
    no-results : AllOf (λ (x : ParkedFrame). count (not (Frames.is_call_frame x.frame) && is_parked_at conn k x) ≡ 0) a.state.parked
    no-results = Rattle.sp_rules.proofs.AllLemmas.all-weaken (λ (x : ParkedFrame). CameAs a.history x x.frame) _ a.state.parked (λ x came. one x x.frame came) (at-all _ p.dialler.space w.spaces a between.dialled F.parked)
      where
        one : (x : ParkedFrame) (f : Frame) → CameAs a.history x f → count (not (Frames.is_call_frame f) && is_parked_at conn k x) ≡ 0
        one x (CallFrame target method fuel arguments) came = refl
        one x (ReturnedFrame value fuel) came = pick (x.conn == conn) refl (x.number == k) refl
          where
            pick : (c : Bool) → (x.conn == conn) ≡ c → (d : Bool) → (x.number == k) ≡ d → count (c && d) ≡ 0
            pick true e true f =
                let y : 1 ≤ times_answered CallReply k (came_on conn a.history) = answers-one CallReply k (message.Returned x.number fuel value) (came_on conn a.history) (subst (λ n. IsOneOf (message.Returned x.number fuel value) (came_on n a.history)) (eqb-true x.conn conn e) came) (let z : count (x.number == k) ≡ 1 = ap count f in omega arith) in absurd (omega (arith, came-none))
            pick true e false f = refl
            pick false e d f = refl

    none-answered : AllOf (λ (q : Request). is_answered_on conn q.stage && has_number k q.asked ≡ false) a.state.requests
    none-answered = Rattle.sp_rules.proofs.AllLemmas.all-weaken (λ (q : Request). count (is_answered_on conn q.stage && has_number k q.asked) ≡ 0) _ a.state.requests (λ q e. count-zero (is_answered_on conn q.stage && has_number k q.asked) e)
        (zero-all (λ (q : Request). count (is_answered_on conn q.stage && has_number k q.asked)) a.state.requests ((at-all _ p.dialler.space w.spaces a between.dialled F.places).answered conn k ∙ total-none (λ (x : ParkedFrame). count (not (Frames.is_call_frame x.frame) && is_parked_at conn k x)) a.state.parked no-results))

    absent : find (is_asked_on conn k) a.state.requests ≡ None → ⊥
    absent e =
        let z : total (out_on conn (calls_as k)) a.state.requests ≡ 0 = total-none (out_on conn (calls_as k)) a.state.requests
        (all-both (λ (q : Request). IsSaid q.asked × (is_asked_on conn k q ≡ false)) (λ (q : Request). is_answered_on conn q.stage && has_number k q.asked ≡ false) (λ (q : Request). out_on conn (calls_as k) q ≡ 0) a.state.requests (λ q x y. call-nothing conn k q x.0 x.1 y)
        (all-both (λ (q : Request). IsSaid q.asked) (λ (q : Request). is_asked_on conn k q ≡ false) (λ (q : Request). IsSaid q.asked × (is_asked_on conn k q ≡ false)) a.state.requests (λ q x y. (x, y)) (at-all _ p.dialler.space w.spaces a between.dialled F.said) (none-there (is_asked_on conn k) a.state.requests e)) none-answered) in
        absurd (omega (arith, was-asked, stands-out, z))

-- ---- Leases and Cleaned find their calls

-- a dirty (or a clean) call under this sequence number
abbrev pub tells_as : Bool → ℕ → Message → Bool
tells_as true k (message.Dirty sequence period objects) = sequence == k
tells_as false k (message.Clean sequence strong objects) = sequence == k
tells_as dirty k _ = false

told-nothing : (dirty : Bool) (conn k : ℕ) (q : Request) → IsSaid q.asked → tells_on dirty conn k q ≡ false → out_on conn (tells_as dirty k) q ≡ 0
told-nothing dirty conn k q said none = by dirty q.asked q.stage said none
  where
    no-call : (b : Bool) (number task lent : ℕ) (kind : Rattle.sp_rules.specs.Classes.Kind) (m : Message) → IsSaid (Calls number task lent kind m) → (d : Bool) → count (d && tells_as b k m) ≡ 0
    no-call true number task lent kind m s true = ap (λ (y : Message). count (tells_as true k y)) s.1.1.1.1
    no-call false number task lent kind m s true = ap (λ (y : Message). count (tells_as false k y)) s.1.1.1.1
    no-call b number task lent kind m s false = refl

    nothing : (d : Bool) → count (d && false) ≡ 0
    nothing true = refl
    nothing false = refl

    same : (d s : Bool) → d && (s && true) ≡ false → count (d && s) ≡ 0
    same true true e = absurd (true≢false e)
    same true false e = refl
    same false s e = refl

    by : (b : Bool) (asked : Asked) (stage : Stage) → IsSaid asked → is_unanswered_on conn stage && (Frames.has_sequence k stage && Frames.tells_of b asked) ≡ false → out_as conn (tells_as b k) asked stage ≡ 0
    by b asked Waits s e = refl
    by b (Calls number task lent kind m) (Out d sequence) s e = no-call b number task lent kind m s (d == conn)
    by b (Calls number task lent kind m) (Answered d) s e = no-call b number task lent kind m s (d == conn)
    by true (LooksUp number task name) (Out d sequence) s e = nothing (d == conn)
    by false (LooksUp number task name) (Out d sequence) s e = nothing (d == conn)
    by true (LooksUp number task name) (Answered d) s e = nothing (d == conn)
    by false (LooksUp number task name) (Answered d) s e = nothing (d == conn)
    by b (Tells call group) (Answered d) s e = nothing (d == conn)
    by b (Tells call group) (Out d sequence) s e = of b group.kind e
      where
        of : (b : Bool) (kind : Due) → (d == conn) && ((sequence == k) && Frames.tells_of b (Tells call (record group { kind = kind }))) ≡ false → count ((d == conn) && tells_as b k (group_frame kind sequence group.ids)) ≡ 0
        of true due.Dirty f = same (d == conn) (sequence == k) f
        of true (due.Clean strong) f = nothing (d == conn)
        of false due.Dirty f = nothing (d == conn)
        of false (due.Clean strong) f = same (d == conn) (sequence == k) f

-- no answer of another number answers it
none-tells : (dirty : Bool) (k : ℕ) (m : Message) → (1 ≤ times k (answered_in GroupReply m) → ⊥) → AnswersNone (tells_as dirty k) m
none-tells dirty k m none x is = by m none is
  where
    apart : (b : Bool) (n : ℕ) → (1 ≤ count (n == k) + 0 → ⊥) → (y : Message) → list_any (◌==◌ n) (sequence_in y) ≡ true → tells_as b k y ≡ false
    apart true n away (message.Dirty sequence period objects) e = pick (sequence == k) refl
      where
        or-none : (b : Bool) → b || false ≡ true → b ≡ true
        or-none true g = refl
        or-none false g = absurd (true≢false (sym g))

        pick : (b : Bool) → (sequence == k) ≡ b → b ≡ false
        pick true f = absurd (away (let a : count (n == k) ≡ 1 = ap count (eq-eqb n k (eqb-true n sequence (or-none (n == sequence) e) ∙ eqb-true sequence k f)) in omega arith))
        pick false f = refl
    apart false n away (message.Clean sequence strong objects) e = pick (sequence == k) refl
      where
        or-none : (b : Bool) → b || false ≡ true → b ≡ true
        or-none true g = refl
        or-none false g = absurd (true≢false (sym g))

        pick : (b : Bool) → (sequence == k) ≡ b → b ≡ false
        pick true f = absurd (away (let a : count (n == k) ≡ 1 = ap count (eq-eqb n k (eqb-true n sequence (or-none (n == sequence) e) ∙ eqb-true sequence k f)) in omega arith))
        pick false f = refl
    apart false n away (message.Dirty sequence period objects) e = refl
    apart true n away (message.Clean sequence strong objects) e = refl
    apart true n away (message.Call number object method fuel arguments) e = refl
    apart false n away (message.Call number object method fuel arguments) e = refl
    apart true n away (message.Lookup number name) e = refl
    apart false n away (message.Lookup number name) e = refl
    apart true n away (message.Hello version space digest) e = refl
    apart false n away (message.Hello version space digest) e = refl
    apart true n away (message.Returned number fuel value) e = refl
    apart false n away (message.Returned number fuel value) e = refl
    apart true n away (message.Threw number class) e = refl
    apart false n away (message.Threw number class) e = refl
    apart true n away (message.Spent number) e = refl
    apart false n away (message.Spent number) e = refl
    apart true n away (message.Ack number) e = refl
    apart false n away (message.Ack number) e = refl
    apart true n away (message.Lease sequence period) e = refl
    apart false n away (message.Lease sequence period) e = refl
    apart true n away (message.Cleaned sequence) e = refl
    apart false n away (message.Cleaned sequence) e = refl

    call : (b : Bool) (n : ℕ) (y : Message) → list_any (◌==◌ n) (call_number_in y) ≡ true → tells_as b k y ≡ false
    call true n (message.Call number object method fuel arguments) e = refl
    call false n (message.Call number object method fuel arguments) e = refl
    call true n (message.Lookup number name) e = refl
    call false n (message.Lookup number name) e = refl
    call b n (message.Dirty sequence period objects) e = absurd (true≢false (sym e))
    call b n (message.Clean sequence strong objects) e = absurd (true≢false (sym e))
    call b n (message.Hello version space digest) e = absurd (true≢false (sym e))
    call b n (message.Returned number fuel value) e = absurd (true≢false (sym e))
    call b n (message.Threw number class) e = absurd (true≢false (sym e))
    call b n (message.Spent number) e = absurd (true≢false (sym e))
    call b n (message.Ack number) e = absurd (true≢false (sym e))
    call b n (message.Lease sequence period) e = absurd (true≢false (sym e))
    call b n (message.Cleaned sequence) e = absurd (true≢false (sym e))

    by : (y : Message) → (1 ≤ times k (answered_in GroupReply y) → ⊥) → is_answer_to y x ≡ true → tells_as dirty k x ≡ false
    by (message.Returned n fuel value) away e = call dirty n x e
    by (message.Threw n class) away e = call dirty n x e
    by (message.Spent n) away e = call dirty n x e
    by (message.Lease n period) away e = apart dirty n away x e
    by (message.Cleaned n) away e = apart dirty n away x e
    by (message.Hello version space digest) away e = absurd (true≢false (sym e))
    by (message.Call n object method fuel arguments) away e = absurd (true≢false (sym e))
    by (message.Lookup n name) away e = absurd (true≢false (sym e))
    by (message.Ack n) away e = absurd (true≢false (sym e))
    by (message.Dirty n period objects) away e = absurd (true≢false (sym e))
    by (message.Clean n strong objects) away e = absurd (true≢false (sym e))

-- a Lease or a Cleaned of this number that is first in its queue, and the call that came at the other end
pub finds-told : {settings : List Setting} {w : World} (F : Facts settings w) (dirty : Bool) (conn k : ℕ) (p : Pipe) (a b : Space) (m n : Message) (ms : List Message) → IsBetween w conn p a b → p.dialler.queue ≡ m ∷ ms → IsOneOf n (came_on conn b.history) → asks_for (tells_as dirty k) n ≡ 1 → is_open a.state conn ≡ true → 1 ≤ times k (answered_in GroupReply m)
    → is_some (find (tells_on dirty conn k) a.state.requests) ≡ true
finds-told {settings} {w} F dirty conn k p a b m n ms between queue came asks live reply = is-found (tells_on dirty conn k) a.state.requests absent
  where
    came-none : times_answered GroupReply k (came_on conn a.history) ≡ 0
    came-none =
        let x : times_answered GroupReply k (came_on conn a.history ++ p.dialler.queue) ≡ times_answered GroupReply k (came_on conn a.history) + times_answered GroupReply k p.dialler.queue = answers-both GroupReply k (came_on conn a.history) p.dialler.queue in
        let y : 1 ≤ times_answered GroupReply k p.dialler.queue = answers-one GroupReply k m p.dialler.queue (subst (IsOneOf m) (sym queue) (inl refl)) reply in
        let z : times_asked GroupReply k p.accepter.queue + times_answered GroupReply k (came_on conn a.history ++ p.dialler.queue) ≤ 1 = F.groups.once conn k p a b between in omega arith

    unanswered : AllOf (AnswersNone (tells_as dirty k)) (came_on conn a.history)
    unanswered = all-known (AnswersNone (tells_as dirty k)) (came_on conn a.history) (λ x o. none-tells dirty k x (λ le. let y : 1 ≤ times_answered GroupReply k (came_on conn a.history) = answers-one GroupReply k x (came_on conn a.history) o le in absurd (omega (arith, came-none))))

    was-asked : 1 ≤ total (asks_for (tells_as dirty k)) (sent_on conn a.outputs)
    was-asked =
        let x : asks_for (tells_as dirty k) n ≤ total (asks_for (tells_as dirty k)) (sent_on conn (outputs_at w.spaces p.dialler.space)) = one-total (asks_for (tells_as dirty k)) n (sent_on conn (outputs_at w.spaces p.dialler.space))
        (one-some n (came_on conn b.history ++ p.accepter.queue) (sent_on conn (outputs_at w.spaces p.dialler.space)) (one-left n (came_on conn b.history) p.accepter.queue came) (F.delivers.brings conn p Accepter between.pipe b between.accepted)) in
        let t : total (asks_for (tells_as dirty k)) (sent_on conn (outputs_at w.spaces p.dialler.space)) ≡ total (asks_for (tells_as dirty k)) (sent_on conn a.outputs) = ap (λ (o : Option Space). total (asks_for (tells_as dirty k)) (sent_on conn (outputs_in o))) between.dialled in omega (arith, asks)

    stands-out : total (asks_for (tells_as dirty k)) (sent_on conn a.outputs) ≤ total (out_on conn (tells_as dirty k)) a.state.requests
    stands-out = at-all _ p.dialler.space w.spaces a between.dialled F.asked conn (tells_as dirty k) live unanswered

    absent : find (tells_on dirty conn k) a.state.requests ≡ None → ⊥
    absent e =
        let z : total (out_on conn (tells_as dirty k)) a.state.requests ≡ 0 = total-none (out_on conn (tells_as dirty k)) a.state.requests
        (all-both (λ (q : Request). IsSaid q.asked) (λ (q : Request). tells_on dirty conn k q ≡ false) (λ (q : Request). out_on conn (tells_as dirty k) q ≡ 0) a.state.requests (λ q x y. told-nothing dirty conn k q x y) (at-all _ p.dialler.space w.spaces a between.dialled F.said) (none-there (tells_on dirty conn k) a.state.requests e)) in
        absurd (omega (arith, was-asked, stands-out, z))
