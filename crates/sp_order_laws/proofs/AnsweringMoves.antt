-- What is owed for frames that came, through each move of the rules: a space answers no more than it was asked.
use mathlib.Core.Path.{sym, ap, subst, ◌∙◌}
use Rattle.std.proofs.Common.{arith}
use Rattle.std.proofs.lemmas.Bool.{true≢false, eq-eqb}
use Rattle.std.specs.List.{list_any}
use Rattle.std.specs.Prelude.{◌≡◌, ◌≤◌, refl, cond, ℕ, ◌+◌, ◌==◌, ◌&&◌, ◌||◌, not, Bool, true, false, List, [], ◌∷◌, ◌++◌, Option, None, Some, filter, find, map, if◌then◌else◌}
use Rattle.space_ids.specs.declared.ids.ForeignId.{ForeignId}
use Rattle.net_message.specs.declared.message.Message.TheVariants as message
use Rattle.net_message.specs.declared.message.Message.{Message}
use Rattle.sp_rules.specs.Behaviours.{Outcome, Returned, Threw, Spent, Reply, Throws}
use Rattle.sp_rules.specs.Classes.{Setting}
use Rattle.sp_rules.specs.Events.{Turn, Note, Says, Sends, Output}
use Rattle.sp_rules.specs.Holders
use Rattle.sp_rules.specs.Holders.{hold_ids, drop_ids}
use Rattle.sp_rules.specs.Laws.{AllOf}
use Rattle.sp_rules.specs.Lists.{each, with_some, at_first, total}
use Rattle.sp_rules.specs.LivingTasks
use Rattle.sp_rules.specs.ParkedFrames
use Rattle.sp_rules.specs.ParkedFrames.{is_parked_at}
use Rattle.sp_rules.specs.State as state
use Rattle.sp_rules.specs.State.{State, Living, Origin, OfRoot, OfCall, Request, Asked, Calls, LooksUp, Tells, Frame, CallFrame, ReturnedFrame, ParkedFrame, task_at, is_open, send, say}
use Rattle.sp_rules.proofs.AllLemmas.{all-weaken, all-both-filter, each-any}
use Rattle.sp_rules.proofs.FuelOfSpaces.{total-append}
use Rattle.sp_rules.proofs.FuelSums.{total-snoc, total-filter, total-find, value_in, found-value}
use Rattle.sp_laws.specs.Waiting.{count}
use Rattle.sp_laws.proofs.InboundLemmas.{first-same}
use Rattle.sp_order_laws.specs.Answering.{Exchange, CallReply, GroupReply, ResultAck, asked_in, answered_in, times, is_frame_of, parked_for, task_for}
use Rattle.sp_order_laws.proofs.WalkRules.{Owed, Owes, brought, paid, of_frame, of_parked, of_origin, WalkParts, Moves, Walks, fail_parked_walk}

-- ---- what is counted

abbrev pub is_same : Exchange → Exchange → Bool
is_same CallReply CallReply = true
is_same CallReply GroupReply = false
is_same CallReply ResultAck = false
is_same GroupReply CallReply = false
is_same GroupReply GroupReply = true
is_same GroupReply ResultAck = false
is_same ResultAck CallReply = false
is_same ResultAck GroupReply = false
is_same ResultAck ResultAck = true

-- what is on the connection, and nothing on another
abbrev pub here : Bool → ℕ → ℕ
here b n = if b then n else 0

abbrev pub owed_for : Exchange → ℕ → ℕ → Owed → ℕ
owed_for x conn k (Owes y n number) = here (n == conn) (if is_same x y then count (number == k) else 0)

abbrev pub owed_of : Exchange → ℕ → ℕ → List Owed → ℕ
owed_of x conn k l = total (owed_for x conn k) l

abbrev pub noted : Exchange → ℕ → ℕ → Note → ℕ
noted x conn k (Says o) = 0
noted x conn k (Sends turn n m) = here (n == conn) (times k (answered_in x m))

nothing : (b : Bool) → 0 ≡ here b 0
nothing true = refl
nothing false = refl

this : (b : Bool) (n : ℕ) → here b n + 0 ≡ here b (n + 0)
this true n = refl
this false n = refl

other : (b : Bool) → here b 0 + 0 ≡ here b 0
other true = refl
other false = refl

-- a frame pays what it answers, and makes owe what it asks
pub paid-is : (conn k : ℕ) (x : Exchange) (n : ℕ) (m : Message) → owed_of x conn k (paid n m) ≡ here (n == conn) (times k (answered_in x m))
paid-is conn k CallReply n (message.Hello version space digest) = nothing (n == conn)
paid-is conn k GroupReply n (message.Hello version space digest) = nothing (n == conn)
paid-is conn k ResultAck n (message.Hello version space digest) = nothing (n == conn)
paid-is conn k CallReply n (message.Call number object method fuel arguments) = nothing (n == conn)
paid-is conn k GroupReply n (message.Call number object method fuel arguments) = nothing (n == conn)
paid-is conn k ResultAck n (message.Call number object method fuel arguments) = nothing (n == conn)
paid-is conn k CallReply n (message.Returned number fuel value) = this (n == conn) (count (number == k))
paid-is conn k GroupReply n (message.Returned number fuel value) = other (n == conn)
paid-is conn k ResultAck n (message.Returned number fuel value) = other (n == conn)
paid-is conn k CallReply n (message.Threw number class) = this (n == conn) (count (number == k))
paid-is conn k GroupReply n (message.Threw number class) = other (n == conn)
paid-is conn k ResultAck n (message.Threw number class) = other (n == conn)
paid-is conn k CallReply n (message.Spent number) = this (n == conn) (count (number == k))
paid-is conn k GroupReply n (message.Spent number) = other (n == conn)
paid-is conn k ResultAck n (message.Spent number) = other (n == conn)
paid-is conn k CallReply n (message.Ack number) = other (n == conn)
paid-is conn k GroupReply n (message.Ack number) = other (n == conn)
paid-is conn k ResultAck n (message.Ack number) = this (n == conn) (count (number == k))
paid-is conn k CallReply n (message.Dirty sequence period objects) = nothing (n == conn)
paid-is conn k GroupReply n (message.Dirty sequence period objects) = nothing (n == conn)
paid-is conn k ResultAck n (message.Dirty sequence period objects) = nothing (n == conn)
paid-is conn k CallReply n (message.Lease sequence period) = other (n == conn)
paid-is conn k GroupReply n (message.Lease sequence period) = this (n == conn) (count (sequence == k))
paid-is conn k ResultAck n (message.Lease sequence period) = other (n == conn)
paid-is conn k CallReply n (message.Clean sequence strong objects) = nothing (n == conn)
paid-is conn k GroupReply n (message.Clean sequence strong objects) = nothing (n == conn)
paid-is conn k ResultAck n (message.Clean sequence strong objects) = nothing (n == conn)
paid-is conn k CallReply n (message.Cleaned sequence) = other (n == conn)
paid-is conn k GroupReply n (message.Cleaned sequence) = this (n == conn) (count (sequence == k))
paid-is conn k ResultAck n (message.Cleaned sequence) = other (n == conn)
paid-is conn k CallReply n (message.Lookup number name) = nothing (n == conn)
paid-is conn k GroupReply n (message.Lookup number name) = nothing (n == conn)
paid-is conn k ResultAck n (message.Lookup number name) = nothing (n == conn)

pub brought-is : (conn k : ℕ) (x : Exchange) (n : ℕ) (m : Message) → owed_of x conn k (brought n m) ≡ here (n == conn) (times k (asked_in x m))
brought-is conn k CallReply n (message.Hello version space digest) = nothing (n == conn)
brought-is conn k GroupReply n (message.Hello version space digest) = nothing (n == conn)
brought-is conn k ResultAck n (message.Hello version space digest) = nothing (n == conn)
brought-is conn k CallReply n (message.Call number object method fuel arguments) = this (n == conn) (count (number == k))
brought-is conn k GroupReply n (message.Call number object method fuel arguments) = other (n == conn)
brought-is conn k ResultAck n (message.Call number object method fuel arguments) = other (n == conn)
brought-is conn k CallReply n (message.Returned number fuel value) = other (n == conn)
brought-is conn k GroupReply n (message.Returned number fuel value) = other (n == conn)
brought-is conn k ResultAck n (message.Returned number fuel value) = this (n == conn) (count (number == k))
brought-is conn k CallReply n (message.Threw number class) = nothing (n == conn)
brought-is conn k GroupReply n (message.Threw number class) = nothing (n == conn)
brought-is conn k ResultAck n (message.Threw number class) = nothing (n == conn)
brought-is conn k CallReply n (message.Spent number) = nothing (n == conn)
brought-is conn k GroupReply n (message.Spent number) = nothing (n == conn)
brought-is conn k ResultAck n (message.Spent number) = nothing (n == conn)
brought-is conn k CallReply n (message.Ack number) = nothing (n == conn)
brought-is conn k GroupReply n (message.Ack number) = nothing (n == conn)
brought-is conn k ResultAck n (message.Ack number) = nothing (n == conn)
brought-is conn k CallReply n (message.Dirty sequence period objects) = other (n == conn)
brought-is conn k GroupReply n (message.Dirty sequence period objects) = this (n == conn) (count (sequence == k))
brought-is conn k ResultAck n (message.Dirty sequence period objects) = other (n == conn)
brought-is conn k CallReply n (message.Lease sequence period) = nothing (n == conn)
brought-is conn k GroupReply n (message.Lease sequence period) = nothing (n == conn)
brought-is conn k ResultAck n (message.Lease sequence period) = nothing (n == conn)
brought-is conn k CallReply n (message.Clean sequence strong objects) = other (n == conn)
brought-is conn k GroupReply n (message.Clean sequence strong objects) = this (n == conn) (count (sequence == k))
brought-is conn k ResultAck n (message.Clean sequence strong objects) = other (n == conn)
brought-is conn k CallReply n (message.Cleaned sequence) = nothing (n == conn)
brought-is conn k GroupReply n (message.Cleaned sequence) = nothing (n == conn)
brought-is conn k ResultAck n (message.Cleaned sequence) = nothing (n == conn)
brought-is conn k CallReply n (message.Lookup number name) = this (n == conn) (count (number == k))
brought-is conn k GroupReply n (message.Lookup number name) = other (n == conn)
brought-is conn k ResultAck n (message.Lookup number name) = other (n == conn)

both : (c d : Bool) → here c (count d) ≡ count (c && d)
both true d = refl
both false d = refl

none-of : (c : Bool) → here c 0 ≡ 0
none-of true = refl
none-of false = refl

-- what is owed for a parked frame, and for a task
parked-is : (conn k : ℕ) (x : Exchange) (p : ParkedFrame) → owed_for x conn k (of_parked p) ≡ parked_for x conn k p
parked-is conn k x p = by x p.frame
  where
    by : (y : Exchange) (f : Frame) → owed_for y conn k (of_frame p.conn p.number f) ≡ count (is_frame_of y f && (p.conn == conn && p.number == k))
    by CallReply (CallFrame target method fuel arguments) = both (p.conn == conn) (p.number == k)
    by CallReply (ReturnedFrame value fuel) = none-of (p.conn == conn)
    by GroupReply (CallFrame target method fuel arguments) = none-of (p.conn == conn)
    by GroupReply (ReturnedFrame value fuel) = none-of (p.conn == conn)
    by ResultAck (CallFrame target method fuel arguments) = none-of (p.conn == conn)
    by ResultAck (ReturnedFrame value fuel) = both (p.conn == conn) (p.number == k)

origin-is : (conn k : ℕ) (x : Exchange) (o : Origin) → owed_of x conn k (of_origin o) ≡ task_for x conn k o
origin-is conn k CallReply OfRoot = refl
origin-is conn k GroupReply OfRoot = refl
origin-is conn k ResultAck OfRoot = refl
origin-is conn k CallReply (OfCall n number) = let a : here (n == conn) (count (number == k)) ≡ count (n == conn && number == k) = both (n == conn) (number == k) in omega arith
origin-is conn k GroupReply (OfCall n number) = let a : here (n == conn) 0 ≡ 0 = none-of (n == conn) in omega arith
origin-is conn k ResultAck (OfCall n number) = let a : here (n == conn) 0 ≡ 0 = none-of (n == conn) in omega arith

-- ---- what is kept

-- the parked frames that are counted
abbrev pub weight : Exchange → ℕ → ℕ → (ParkedFrame → Bool) → ParkedFrame → ℕ
weight x conn k counts p = if counts p then parked_for x conn k p else 0

-- Answers that were sent and are noted, parked frames and tasks, and what is owed beside them are within a bound.
pub record Within (x : Exchange) (conn k sent bound : ℕ) (counts : ParkedFrame → Bool) (l : List Owed) (tasks : List Living) (parked : List ParkedFrame) (notes : List Note) : Type 0 where
  pub holds : sent + (total (noted x conn k) notes + (total (weight x conn k counts) parked + (total (λ (t : Living). task_for x conn k t.origin) tasks + owed_of x conn k l))) ≤ bound

abbrev pub Owing : Exchange → ℕ → ℕ → ℕ → ℕ → (ParkedFrame → Bool) → List Owed → State → Type 0
Owing x conn k sent bound counts l s = Within x conn k sent bound counts l s.tasks s.parked s.notes

-- ---- the moves

weight-le : (x : Exchange) (conn k : ℕ) (counts : ParkedFrame → Bool) (p : ParkedFrame) → weight x conn k counts p ≤ parked_for x conn k p
weight-le x conn k counts p = pick (counts p)
  where
    pick : (b : Bool) → (if b then parked_for x conn k p else 0) ≤ parked_for x conn k p
    pick true = omega arith
    pick false = omega arith

tasks_of : Exchange → ℕ → ℕ → List Living → ℕ
tasks_of x conn k ts = total (λ (t : Living). task_for x conn k t.origin) ts

-- a task that is found is gone with what is owed for it
task-ends : (x : Exchange) (conn k id : ℕ) (ts : List Living) (t : Living) → find (λ (u : Living). u.id == id) ts ≡ Some t → task_for x conn k t.origin + tasks_of x conn k (filter (λ (u : Living). not (u.id == id)) ts) ≤ tasks_of x conn k ts
unfolding tasks_of
task-ends x conn k id ts t is =
    let a : value_in (λ (u : Living). task_for x conn k u.origin) (find (λ (u : Living). u.id == id) ts) + total (λ (u : Living). task_for x conn k u.origin) (filter (λ (u : Living). not (u.id == id)) ts) ≤ total (λ (u : Living). task_for x conn k u.origin) ts = total-find (λ (u : Living). task_for x conn k u.origin) (λ (u : Living). u.id == id) ts in
    let b : value_in (λ (u : Living). task_for x conn k u.origin) (find (λ (u : Living). u.id == id) ts) ≡ task_for x conn k t.origin = found-value (λ (u : Living). task_for x conn k u.origin) (find (λ (u : Living). u.id == id) ts) t is in omega arith

-- what is owed in a first list and in a second
owed-both : (x : Exchange) (conn k : ℕ) (a b : List Owed) → owed_of x conn k (a ++ b) ≡ owed_of x conn k a + owed_of x conn k b
owed-both x conn k a b = total-append (owed_for x conn k) a b

pub owing_moves : (g : Setting) (x : Exchange) (conn k sent bound : ℕ) (counts : ParkedFrame → Bool) → Moves g (Owing x conn k sent bound counts)
unfolding tasks_of
owing_moves g x conn k sent bound counts = record {
  quiet = λ l s t e h. subst (λ (w : WalkParts). Within x conn k sent bound counts l w.tasks w.parked w.notes) (sym e) h;
  says = λ l s output is h. record {
    holds =
        let a : sent + (total (noted x conn k) s.notes + (total (weight x conn k counts) s.parked + (tasks_of x conn k s.tasks + owed_of x conn k l))) ≤ bound = h.holds in
        let b : total (noted x conn k) (s.notes ++ Says output ∷ []) ≡ total (noted x conn k) s.notes + 0 = total-snoc (noted x conn k) s.notes (Says output) in omega arith;
  };
  pays = λ l s turn n m is h. record {
    holds =
        let a : sent + (total (noted x conn k) s.notes + (total (weight x conn k counts) s.parked + (tasks_of x conn k s.tasks + owed_of x conn k (paid n m ++ l)))) ≤ bound = h.holds in
        let b : total (noted x conn k) (s.notes ++ Sends turn n m ∷ []) ≡ total (noted x conn k) s.notes + here (n == conn) (times k (answered_in x m)) = total-snoc (noted x conn k) s.notes (Sends turn n m) in
        let c : owed_of x conn k (paid n m ++ l) ≡ owed_of x conn k (paid n m) + owed_of x conn k l = owed-both x conn k (paid n m) l in
        let d : owed_of x conn k (paid n m) ≡ here (n == conn) (times k (answered_in x m)) = paid-is conn k x n m in omega arith;
  };
  falls = λ l s o h. record {
    holds =
        let a : sent + (total (noted x conn k) s.notes + (total (weight x conn k counts) s.parked + (tasks_of x conn k s.tasks + (owed_for x conn k o + owed_of x conn k l)))) ≤ bound = h.holds in omega arith;
  };
  fewer = λ l s is h. h;
  answered = λ l s n number h. h;
  begins = λ l s origin method arguments fuel h. record {
    holds =
        let a : sent + (total (noted x conn k) s.notes + (total (weight x conn k counts) s.parked + (tasks_of x conn k s.tasks + owed_of x conn k (of_origin origin ++ l)))) ≤ bound = h.holds in
        let b : tasks_of x conn k (s.tasks ++ Rattle.sp_rules.proofs.Stable.new_row g origin method arguments fuel s ∷ []) ≡ tasks_of x conn k s.tasks + task_for x conn k origin = total-snoc (λ (t : Living). task_for x conn k t.origin) s.tasks (Rattle.sp_rules.proofs.Stable.new_row g origin method arguments fuel s) in
        let c : owed_of x conn k (of_origin origin ++ l) ≡ owed_of x conn k (of_origin origin) + owed_of x conn k l = owed-both x conn k (of_origin origin) l in
        let d : owed_of x conn k (of_origin origin) ≡ task_for x conn k origin = origin-is conn k x origin in omega arith;
  };
  ends = λ l s id t is h. record {
    holds =
        let a : sent + (total (noted x conn k) s.notes + (total (weight x conn k counts) s.parked + (tasks_of x conn k s.tasks + owed_of x conn k l))) ≤ bound = h.holds in
        let b : task_for x conn k t.origin + tasks_of x conn k (filter (λ (u : Living). not (u.id == id)) s.tasks) ≤ tasks_of x conn k s.tasks = task-ends x conn k id s.tasks t is in
        let c : owed_of x conn k (of_origin t.origin ++ l) ≡ owed_of x conn k (of_origin t.origin) + owed_of x conn k l = owed-both x conn k (of_origin t.origin) l in
        let d : owed_of x conn k (of_origin t.origin) ≡ task_for x conn k t.origin = origin-is conn k x t.origin in omega arith;
  };
  works = λ l s id f same h. record {
    holds =
        let a : sent + (total (noted x conn k) s.notes + (total (weight x conn k counts) s.parked + (tasks_of x conn k s.tasks + owed_of x conn k l))) ≤ bound = h.holds in
        let b : tasks_of x conn k (at_first (λ (t : Living). t.id == id) f s.tasks) ≡ tasks_of x conn k s.tasks = first-same (λ (t : Living). task_for x conn k t.origin) (λ (t : Living). t.id == id) f s.tasks (λ t. ap (task_for x conn k) (same.origin t)) in omega arith;
  };
  parks = λ l s p h. record {
    holds =
        let a : sent + (total (noted x conn k) s.notes + (total (weight x conn k counts) s.parked + (tasks_of x conn k s.tasks + (owed_for x conn k (of_parked p) + owed_of x conn k l)))) ≤ bound = h.holds in
        let b : total (weight x conn k counts) (s.parked ++ p ∷ []) ≡ total (weight x conn k counts) s.parked + weight x conn k counts p = total-snoc (weight x conn k counts) s.parked p in
        let c : weight x conn k counts p ≤ parked_for x conn k p = weight-le x conn k counts p in
        let d : owed_for x conn k (of_parked p) ≡ parked_for x conn k p = parked-is conn k x p in omega arith;
  };
  takes = λ l s p h. record {
    holds =
        let a : sent + (total (noted x conn k) s.notes + (total (weight x conn k counts) s.parked + (tasks_of x conn k s.tasks + owed_of x conn k l))) ≤ bound = h.holds in
        let b : total (weight x conn k counts) (filter (λ q. not (is_parked_at p.conn p.number q)) s.parked) ≤ total (weight x conn k counts) s.parked = total-filter (weight x conn k counts) (λ q. not (is_parked_at p.conn p.number q)) s.parked in omega arith;
  };
  counts = λ l s n number h. h;
  versions = λ l s n version h. h;
  closes = λ l s n h. h;
}

-- ---- frames that fail together

-- what is owed for frames, each in turn
abbrev owed_for_all : List ParkedFrame → List Owed
owed_for_all ps = map of_parked ps

abbrev pub every : ParkedFrame → Bool
every p = true

-- frames that fail are counted apart from the others
apart : (x : Exchange) (conn k : ℕ) (is : ParkedFrame → Bool) (ps : List ParkedFrame) → total (weight x conn k (λ p. not (is p))) ps + owed_of x conn k (owed_for_all (filter is ps)) ≡ total (weight x conn k every) ps
apart x conn k is [] = refl
apart x conn k is (p ∷ ps) = pick (is p) (apart x conn k is ps)
  where
    pick : (b : Bool) → total (weight x conn k (λ q. not (is q))) ps + owed_of x conn k (owed_for_all (filter is ps)) ≡ total (weight x conn k every) ps
        → ((if not b then parked_for x conn k p else 0) + total (weight x conn k (λ q. not (is q))) ps) + owed_of x conn k (owed_for_all (cond b (p ∷ filter is ps) (filter is ps))) ≡ parked_for x conn k p + total (weight x conn k every) ps
    pick true rest = let a : owed_for x conn k (of_parked p) ≡ parked_for x conn k p = parked-is conn k x p in omega arith
    pick false rest = omega arith

-- the parked frames of a state
record HasParked (ps : List ParkedFrame) (s : State) : Type 0 where
  same : s.parked ≡ ps

parked_each : {ps : List ParkedFrame} {A : Type 0} {s : State} (f : State → A → State) (xs : List A) → ((t : State) (y : A) → HasParked ps t → HasParked ps (f t y)) → HasParked ps s → HasParked ps (each f xs s)
unfolding each
parked_each f [] k h = h
parked_each {s = s} f (y ∷ xs) k h = parked_each f xs k (k s y h)

hold_parked : {ps : List ParkedFrame} {s : State} (ids : List ForeignId) → HasParked ps s → HasParked ps (hold_ids ids s)
unfolding hold_ids
hold_parked ids h = parked_each Holders.holder_comes ids (λ t y k. record { same = k.same }) h

drop_parked : {ps : List ParkedFrame} {s : State} (ids : List ForeignId) → HasParked ps s → HasParked ps (drop_ids ids s)
unfolding drop_ids
drop_parked ids h = parked_each Holders.holder_goes ids (λ t y k. record { same = k.same }) h

some_parked : {ps : List ParkedFrame} {A : Type 0} {t : State} (o : Option A) (f : A → State) → HasParked ps t → ((a : A) → HasParked ps (f a)) → HasParked ps (with_some o t f)
some_parked None f h k = h
some_parked (Some a) f h k = k a

send_parked : {ps : List ParkedFrame} {s : State} (turn : Turn) (conn : ℕ) (m : Message) → HasParked ps s → HasParked ps (send turn conn m s)
unfolding send
send_parked {ps} {s} turn conn m h = by (is_open s conn)
  where
    by : (b : Bool) → HasParked ps (if b then record s { notes = s.notes ++ Sends turn conn m ∷ [] } else s)
    by true = record { same = h.same }
    by false = h

reply_parked : (g : Setting) {ps : List ParkedFrame} {s : State} (asked : Asked) (reply : Reply) → HasParked ps s → HasParked ps (LivingTasks.reply_to g asked reply s)
unfolding LivingTasks.reply_to LivingTasks.reply_task
reply_parked g {ps} {s} (Calls number task lent kind m) reply h = some_parked (task_at s task) _ h (λ t. says (hold_parked _ (record { same = h.same })))
  where
    says : {t : State} → HasParked ps t → HasParked ps (say (Rattle.sp_rules.specs.Events.Ready task) t)
    says k = record { same = k.same }
reply_parked g {ps} {s} (LooksUp number task name) reply h = keeps (LivingTasks.outcome_of reply)
  where
    ended : State
    ended = say (Rattle.sp_rules.specs.Events.Ended task (LivingTasks.outcome_of reply)) s

    keeps : (o : Outcome) → HasParked ps (LivingTasks.keep_result g (state.RootAcked task) o ended)
    keeps (Returned value) = hold_parked _ (record { same = h.same })
    keeps (Threw class) = record { same = h.same }
    keeps Spent = record { same = h.same }
reply_parked g (Tells call group) reply h = h

-- a frame that fails is taken, with all of its connection and number
failed-parked : (g : Setting) (s : State) (p : ParkedFrame) → HasParked (filter (λ q. not (is_parked_at p.conn p.number q)) s.parked) (ParkedFrames.fail_parked g s p)
unfolding ParkedFrames.fail_parked ParkedFrames.answer_parked
failed-parked g s p = fails p.frame (parked_each _ (filter (is_parked_at p.conn p.number) s.parked) (λ t q k. drop_parked q.references k) (record { same = refl }))
  where
    left : List ParkedFrame
    left = filter (λ q. not (is_parked_at p.conn p.number q)) s.parked

    fails : (f : Frame) {t : State} → HasParked left t → HasParked left (ParkedFrames.fail_frame g p f t)
    fails (CallFrame target method fuel arguments) k = send_parked _ p.conn _ k
    fails (ReturnedFrame value fuel) {t} k = some_parked (find (ParkedFrames.is_call_on p.conn p.number) t.requests) _ k (λ q. reply_parked g q.asked (Throws g.classes.unmarshal) (send_parked _ p.conn _ (record { same = k.same })))

-- a frame is of the connection and number of one of these
abbrev IsAmong : List ParkedFrame → ParkedFrame → Type 0
IsAmong ps q = list_any (λ (p : ParkedFrame). is_parked_at p.conn p.number q) ps ≡ true

-- once all that wait for a reference failed, none waits for it
none-waits : (g : Setting) (is : ParkedFrame → Bool) (ps : List ParkedFrame) (s : State) → AllOf (λ (q : ParkedFrame). is q ≡ true → IsAmong ps q) s.parked → AllOf (λ (q : ParkedFrame). is q ≡ false) (each (ParkedFrames.fail_parked g) ps s).parked
unfolding each
none-waits g is [] s a = all-weaken (λ (q : ParkedFrame). is q ≡ true → IsAmong [] q) (λ (q : ParkedFrame). is q ≡ false) s.parked (λ q k. by q k (is q) refl) a
  where
    by : (q : ParkedFrame) → (is q ≡ true → false ≡ true) → (b : Bool) → is q ≡ b → b ≡ false
    by q k true e = absurd (true≢false (sym (k e)))
    by q k false e = refl
none-waits g is (p ∷ ps) s a = none-waits g is ps (ParkedFrames.fail_parked g s p) (subst (AllOf (λ (q : ParkedFrame). is q ≡ true → IsAmong ps q)) (sym (failed-parked g s p).same)
    (all-weaken (λ (q : ParkedFrame). (is q ≡ true → IsAmong (p ∷ ps) q) × (not (is_parked_at p.conn p.number q) ≡ true)) (λ (q : ParkedFrame). is q ≡ true → IsAmong ps q) _ (λ q k e. rest (is_parked_at p.conn p.number q) (list_any (λ (z : ParkedFrame). is_parked_at z.conn z.number q) ps) (k.0 e) k.1)
    (all-both-filter (λ (q : ParkedFrame). is q ≡ true → IsAmong (p ∷ ps) q) (λ q. not (is_parked_at p.conn p.number q)) s.parked a)))
  where
    rest : (b c : Bool) → b || c ≡ true → not b ≡ true → c ≡ true
    rest true c e f = absurd (true≢false (sym f))
    rest false c e f = e

-- each that waits is one of those that wait
waits-among : (is : ParkedFrame → Bool) (ps : List ParkedFrame) → AllOf (λ (q : ParkedFrame). is q ≡ true → IsAmong (filter is ps) q) ps
waits-among is ps = spread ps (λ (q : ParkedFrame). IsAmong (filter is ps) q) (all-weaken (λ (p : ParkedFrame). (q : ParkedFrame) → is_parked_at p.conn p.number q ≡ true → list_any (λ (z : ParkedFrame). is_parked_at z.conn z.number q) (filter is ps) ≡ true) (λ (q : ParkedFrame). IsAmong (filter is ps) q) (filter is ps) (λ p k. k p (itself p)) (each-any (λ (p q : ParkedFrame). is_parked_at p.conn p.number q) (filter is ps)))
  where
    itself : (p : ParkedFrame) → is_parked_at p.conn p.number p ≡ true
    itself p = ap (λ b. b && p.number == p.number) (eq-eqb p.conn p.conn refl) ∙ eq-eqb p.number p.number refl

    spread : (xs : List ParkedFrame) (Is : ParkedFrame → Type 0) → AllOf Is (filter is xs) → AllOf (λ (q : ParkedFrame). is q ≡ true → Is q) xs
    spread [] Is a = tt
    spread (x ∷ xs) Is a = pick (is x) refl a (λ b. spread xs Is b)
      where
        pick : (b : Bool) → is x ≡ b → AllOf Is (cond b (x ∷ filter is xs) (filter is xs)) → (AllOf Is (filter is xs) → AllOf (λ (q : ParkedFrame). is q ≡ true → Is q) xs) → AllOf (λ (q : ParkedFrame). is q ≡ true → Is q) (x ∷ xs)
        pick true e b k = ((λ f. b.0), k b.1)
        pick false e b k = ((λ f. absurd (true≢false (sym f ∙ e))), k b)

-- where none fails all are counted
all-weigh : (x : Exchange) (conn k : ℕ) (is : ParkedFrame → Bool) (ps : List ParkedFrame) → AllOf (λ (q : ParkedFrame). is q ≡ false) ps → total (weight x conn k (λ p. not (is p))) ps ≡ total (weight x conn k every) ps
all-weigh x conn k is [] a = refl
all-weigh x conn k is (p ∷ ps) a = let b : weight x conn k (λ q. not (is q)) p ≡ parked_for x conn k p = ap (λ (c : Bool). if not c then parked_for x conn k p else 0) a.0 in let c : total (weight x conn k (λ q. not (is q))) ps ≡ total (weight x conn k every) ps = all-weigh x conn k is ps a.1 in omega arith

fail_all : (g : Setting) (x : Exchange) (conn k sent bound : ℕ) (counts : ParkedFrame → Bool) (l : List Owed) (ps : List ParkedFrame) (s : State) → Owing x conn k sent bound counts (owed_for_all ps ++ l) s → Owing x conn k sent bound counts l (each (ParkedFrames.fail_parked g) ps s)
unfolding each
fail_all g x conn k sent bound counts l [] s h = h
fail_all g x conn k sent bound counts l (p ∷ ps) s h = fail_all g x conn k sent bound counts l ps (ParkedFrames.fail_parked g s p) (fail_parked_walk (owing_moves g x conn k sent bound counts) {l = owed_for_all ps ++ l} p h)

fails_owing : (g : Setting) (x : Exchange) (conn k sent bound : ℕ) (l : List Owed) (s : State) (is : ParkedFrame → Bool) → Owing x conn k sent bound every l s → Owing x conn k sent bound every l (each (ParkedFrames.fail_parked g) (filter is s.parked) s)
fails_owing g x conn k sent bound l s is h = finish (each (ParkedFrames.fail_parked g) (filter is s.parked) s) (none-waits g is (filter is s.parked) s (waits-among is s.parked)) (fail_all g x conn k sent bound (λ p. not (is p)) l (filter is s.parked) s (record {
  holds =
      let a : sent + (total (noted x conn k) s.notes + (total (weight x conn k every) s.parked + (total (λ (t : Living). task_for x conn k t.origin) s.tasks + owed_of x conn k l))) ≤ bound = h.holds in
      let b : total (weight x conn k (λ p. not (is p))) s.parked + owed_of x conn k (owed_for_all (filter is s.parked)) ≡ total (weight x conn k every) s.parked = apart x conn k is s.parked in
      let c : owed_of x conn k (owed_for_all (filter is s.parked) ++ l) ≡ owed_of x conn k (owed_for_all (filter is s.parked)) + owed_of x conn k l = owed-both x conn k (owed_for_all (filter is s.parked)) l in omega arith;
}))
  where
    finish : (t : State) → AllOf (λ (q : ParkedFrame). is q ≡ false) t.parked → Owing x conn k sent bound (λ p. not (is p)) l t → Owing x conn k sent bound every l t
    finish t none j = record {
      holds =
          let a : sent + (total (noted x conn k) t.notes + (total (weight x conn k (λ p. not (is p))) t.parked + (total (λ (u : Living). task_for x conn k u.origin) t.tasks + owed_of x conn k l))) ≤ bound = j.holds in
          let b : total (weight x conn k (λ p. not (is p))) t.parked ≡ total (weight x conn k every) t.parked = all-weigh x conn k is t.parked none in omega arith;
    }

-- a parked frame goes with what is owed for it
frees_owing : (x : Exchange) (conn k sent bound : ℕ) (l : List Owed) (s : State) (p q : ParkedFrame) → find (is_parked_at p.conn p.number) s.parked ≡ Some q → Owing x conn k sent bound every l s → Owing x conn k sent bound every (of_parked q ∷ l) (ParkedFrames.take_parked p s)
frees_owing x conn k sent bound l s p q is h = record {
  holds =
      let a : sent + (total (noted x conn k) s.notes + (total (weight x conn k every) s.parked + (total (λ (t : Living). task_for x conn k t.origin) s.tasks + owed_of x conn k l))) ≤ bound = h.holds in
      let b : value_in (weight x conn k every) (find (is_parked_at p.conn p.number) s.parked) + total (weight x conn k every) (filter (λ z. not (is_parked_at p.conn p.number z)) s.parked) ≤ total (weight x conn k every) s.parked = total-find (weight x conn k every) (is_parked_at p.conn p.number) s.parked in
      let c : value_in (weight x conn k every) (find (is_parked_at p.conn p.number) s.parked) ≡ parked_for x conn k q = found-value (weight x conn k every) (find (is_parked_at p.conn p.number) s.parked) q is in
      let d : owed_for x conn k (of_parked q) ≡ parked_for x conn k q = parked-is conn k x q in omega arith;
}

pub owing_walks : (g : Setting) (x : Exchange) (conn k sent bound : ℕ) → Walks g (Owing x conn k sent bound every)
owing_walks g x conn k sent bound = record {
  moves = owing_moves g x conn k sent bound every;
  frees = λ l s p q is h. frees_owing x conn k sent bound l s p q is h;
  fails = λ l s r h. fails_owing g x conn k sent bound l s (ParkedFrames.names r) h;
}
