-- Each unit of fuel of a tree is counted once over a whole world.
use mathlib.Core.Path.{sym, ap, subst}
use Rattle.std.specs.Prelude.{◌≡◌, refl, zero, suc, ℕ, ◌+◌, ◌-◌, ◌≤◌, Bool, true, false, List, [], ◌∷◌, ◌++◌, length, take, map, slice_get, Option, None, Some, if◌then◌else◌}
use Rattle.std.proofs.Common.{arith}
use Rattle.std.proofs.lemmas.Bool.{true≢false}
use Rattle.net_message.specs.declared.message.Message.{Message}
use Rattle.sp_rules.specs.Behaviours
use Rattle.sp_rules.specs.Classes.{Setting}
use Rattle.sp_rules.specs.Events.{Event, Output, Started, Ended, Withdrawn, Denied, Send, Dial, Close, Ready, Moment, Sweep, Root, RootAck, Bind, Rebind, Unbind, Lookup, Opened, Refused, Received, Closed, ReadFailed, Bad, WriteFailed, Committed, Parked, GivenBack, Finished}
use Rattle.sp_rules.specs.Laws.{AllOf, HasHistory}
use Rattle.sp_rules.specs.Lists.{with_some, each, at_index, total}
use Rattle.sp_rules.specs.Refusals
use Rattle.sp_rules.specs.Space
use Rattle.sp_rules.specs.State.{State, opening, task_at}
use Rattle.sp_rules.specs.Tasks
use Rattle.sp_rules.specs.Worlds
use Rattle.sp_rules.specs.Worlds.{World, Space, Side, End, Dialler, Accepter, Pipe, grown, put, acts, act, take_event, after, happens, run, new_space, new_world, set_side, on_side, on_pipe, WorldEvent, Own, Step, Open, Refuse, Accept, Deliver, ReadFails, WriteFails}
use Rattle.sp_rules.proofs.AllLemmas.{some-none}
use Rattle.sp_rules.proofs.FuelOfSpaces.{total-append}
use Rattle.sp_rules.proofs.FuelSums.{value_in, found-value}
use Rattle.sp_rules.proofs.OwnLemmas.{some-same}
use Rattle.sp_laws.specs.Trees.{Tree, Part, part_of, carried, output_part, left_in, ended_in, root_part, FitsTree, FitsHistory, AllFrom, IsTree, total_from, space_part, pipe_part, roots_at, spent, root_fuel, FuelIsBoundedInTrees}
use Rattle.sp_laws.proofs.TreeOfFrames.{brought}
use Rattle.sp_laws.proofs.TreeOfSpaces.{on-leaves, tags-of}

-- ---- lists, with indices

-- the index of an element in a list whose first element has index j
abbrev pub index_from : ℕ → ℕ → ℕ
index_from zero j = j
index_from (suc i) j = index_from i (suc j)

index-zero : (i j : ℕ) → index_from i j ≡ i + j
index-zero zero j = omega arith
index-zero (suc i) j = let e : index_from i (suc j) ≡ i + suc j = index-zero i (suc j) in omega arith

pub index-of : (i : ℕ) → index_from i 0 ≡ i
index-of i = let e : index_from i 0 ≡ i + 0 = index-zero i 0 in omega arith

-- one element is changed: what it was goes out of the sum, and what it is comes in
changed-from : {A : Type 0} (f : ℕ → A → ℕ) (g : A → A) (i j : ℕ) (xs : List A)
    → total_from f j (at_index g i xs) + value_in (f (index_from i j)) (slice_get xs i) ≡ total_from f j xs + value_in (λ a. f (index_from i j) (g a)) (slice_get xs i)
unfolding value_in
changed-from f g i j [] = refl
changed-from f g zero j (x ∷ xs) = omega arith
changed-from f g (suc i) j (x ∷ xs) = let h : total_from f (suc j) (at_index g i xs) + value_in (f (index_from i (suc j))) (slice_get xs i) ≡ total_from f (suc j) xs + value_in (λ a. f (index_from i (suc j)) (g a)) (slice_get xs i) = changed-from f g i (suc j) xs in omega arith

changed : {A : Type 0} (f : ℕ → A → ℕ) (g : A → A) (i : ℕ) (xs : List A)
    → total_from f 0 (at_index g i xs) + value_in (f i) (slice_get xs i) ≡ total_from f 0 xs + value_in (λ a. f i (g a)) (slice_get xs i)
changed f g i xs = subst (λ n. total_from f 0 (at_index g i xs) + value_in (f n) (slice_get xs i) ≡ total_from f 0 xs + value_in (λ a. f n (g a)) (slice_get xs i)) (index-of i) (changed-from f g i 0 xs)

-- if `g` adds no more than k to the element, it adds no more than k to the sum
grows-from : {A : Type 0} (f : ℕ → A → ℕ) (g : A → A) (k i j : ℕ) (xs : List A) → ((x : A) → f (index_from i j) (g x) ≤ f (index_from i j) x + k) → total_from f j (at_index g i xs) ≤ total_from f j xs + k
grows-from f g k i j [] le = omega arith
grows-from f g k zero j (x ∷ xs) le = let a : f j (g x) ≤ f j x + k = le x in omega arith
grows-from f g k (suc i) j (x ∷ xs) le = let h : total_from f (suc j) (at_index g i xs) ≤ total_from f (suc j) xs + k = grows-from f g k i (suc j) xs le in omega arith

grows : {A : Type 0} (f : ℕ → A → ℕ) (g : A → A) (k i : ℕ) (xs : List A) → ((x : A) → f i (g x) ≤ f i x + k) → total_from f 0 (at_index g i xs) ≤ total_from f 0 xs + k
grows f g k i xs le = grows-from f g k i 0 xs (subst (λ n. (x : _) → f n (g x) ≤ f n x + k) (sym (index-of i)) le)

-- one that adds nothing is added
more-from : {A : Type 0} (f : ℕ → A → ℕ) (j : ℕ) (xs : List A) (y : A) → ((i : ℕ) → f i y ≡ 0) → total_from f j (xs ++ y ∷ []) ≡ total_from f j xs
more-from f j [] y none = let e : f j y ≡ 0 = none j in omega arith
more-from f j (x ∷ xs) y none = let h : total_from f (suc j) (xs ++ y ∷ []) ≡ total_from f (suc j) xs = more-from f (suc j) xs y none in omega arith

-- what held before one was changed
back-from : {A : Type 0} (P : ℕ → A → Type 0) (g : A → A) (i j : ℕ) (xs : List A) → ((x : A) → P (index_from i j) (g x) → P (index_from i j) x) → AllFrom P j (at_index g i xs) → AllFrom P j xs
back-from P g i j [] k a = tt
back-from P g zero j (x ∷ xs) k a = (k x a.0, a.1)
back-from P g (suc i) j (x ∷ xs) k a = (a.0, back-from P g i (suc j) xs k a.1)

-- what holds of the one that was changed
pub at-from : {A : Type 0} (P : ℕ → A → Type 0) (g : A → A) (i j : ℕ) (xs : List A) (x : A) → slice_get xs i ≡ Some x → AllFrom P j (at_index g i xs) → P (index_from i j) (g x)
at-from P g i j [] x is a = absurd (some-none x (sym is))
at-from P g zero j (y ∷ xs) x is a = subst (λ z. P j (g z)) (some-same is) a.0
at-from P g (suc i) j (y ∷ xs) x is a = at-from P g i (suc j) xs x is a.1

pub all-at : {A : Type 0} (P : A → Type 0) (i : ℕ) (xs : List A) (x : A) → slice_get xs i ≡ Some x → AllOf P xs → P x
all-at P i [] x is a = absurd (some-none x (sym is))
all-at P zero (y ∷ xs) x is a = subst P (some-same is) a.0
all-at P (suc i) (y ∷ xs) x is a = all-at P i xs x is a.1

pub all-set : {A : Type 0} (P : A → Type 0) (g : A → A) (i : ℕ) (xs : List A) → ((x : A) → P x → P (g x)) → AllOf P xs → AllOf P (at_index g i xs)
all-set P g i [] k a = tt
all-set P g zero (x ∷ xs) k a = (k x a.0, a.1)
all-set P g (suc i) (x ∷ xs) k a = (a.0, all-set P g i xs k a.1)

-- some of a queue
taken : {A : Type 0} (f : A → ℕ) (n : ℕ) (xs : List A) → total f (take n xs) ≤ total f xs
taken f zero xs = omega arith
taken f (suc n) [] = omega arith
taken f (suc n) (x ∷ xs) = let h : total f (take n xs) ≤ total f xs = taken f n xs in omega arith

-- ---- a world with fuel of a tree in hand

-- what is in the world of a tree, with this much more in hand, is no more than the fuel of its roots
pub record Holds (tree : Tree) (k : ℕ) (w : World) : Type 0 where
  pub bound : IsTree tree w → spent tree w + k ≤ root_fuel tree w
  pub histories : AllOf HasHistory w.spaces

if_holds : {tree : Tree} {k : ℕ} {t u : World} (b : Bool) → Holds tree k t → Holds tree k u → Holds tree k (if b then t else u)
if_holds true e f = e
if_holds false e f = f

some_holds : {tree : Tree} {A : Type 0} {k : ℕ} {t : World} (x : Option A) (f : A → World) → Holds tree k t → ((a : A) → x ≡ Some a → Holds tree k (f a)) → Holds tree k (with_some x t f)
some_holds None f e g = e
some_holds (Some a) f e g = g a refl

less-holds : {tree : Tree} {m k : ℕ} {w : World} → k ≤ m → Holds tree m w → Holds tree k w
less-holds {tree} {m} {k} {w} le e = record { bound = λ is. let b : spent tree w + m ≤ root_fuel tree w = e.bound is in omega (arith, le); histories = e.histories }

drop-zero : {tree : Tree} {m : ℕ} {w : World} → Holds tree (0 + m) w → Holds tree m w
drop-zero {tree} {m} {w} e = less-holds {m = 0 + m} (omega arith) e

each_holds : {tree : Tree} {A : Type 0} (f : World → A → World) (v : A → ℕ) (xs : List A) (k : ℕ) (w : World)
    → ((m : ℕ) (t : World) (x : A) → Holds tree (v x + m) t → Holds tree m (f t x)) → Holds tree (total v xs + k) w → Holds tree k (each f xs w)
unfolding each
each_holds f v [] k w g e = drop-zero e
each_holds f v (x ∷ xs) k w g e = each_holds f v xs k (f w x) g (g (total v xs + k) w x (less-holds {m = v x + total v xs + k} (omega arith) e))

-- ---- outputs

-- the calls of a connection
abbrev calls_on : Tree → ℕ → ℕ → Bool
calls_on tree conn = tree.has_call (tree.dialler conn)

on_pipe_holds : {tree : Tree} {m : ℕ} (k conn : ℕ) (f : Pipe → Pipe) (w : World) → ((p : Pipe) → pipe_part tree conn (f p) ≤ pipe_part tree conn p + k) → Holds tree (k + m) w → Holds tree m (on_pipe f conn w)
on_pipe_holds {tree} {m} k conn f w le e =
    let h : total_from (pipe_part tree) 0 (at_index f conn w.pipes) ≤ total_from (pipe_part tree) 0 w.pipes + k = grows (pipe_part tree) f k conn w.pipes le in
    record { bound = λ is. let b : spent tree w + (k + m) ≤ root_fuel tree w = e.bound is in omega (arith, h); histories = e.histories }

queued : (tree : Tree) (conn : ℕ) (m : Message) (end : End) (p : Pipe) → pipe_part tree conn (set_side (Worlds.queue_up m) end p) ≤ pipe_part tree conn p + carried (calls_on tree conn) m
queued tree conn m Dialler p = let e : total (carried (calls_on tree conn)) (p.dialler.queue ++ m ∷ []) ≡ total (carried (calls_on tree conn)) p.dialler.queue + (carried (calls_on tree conn) m + 0) = total-append (carried (calls_on tree conn)) p.dialler.queue (m ∷ []) in omega arith
queued tree conn m Accepter p = let e : total (carried (calls_on tree conn)) (p.accepter.queue ++ m ∷ []) ≡ total (carried (calls_on tree conn)) p.accepter.queue + (carried (calls_on tree conn) m + 0) = total-append (carried (calls_on tree conn)) p.accepter.queue (m ∷ []) in omega arith

ended : (tree : Tree) (conn : ℕ) (end : End) (p : Pipe) → pipe_part tree conn (set_side Worlds.ends end p) ≤ pipe_part tree conn p + 0
ended tree conn Dialler p = omega arith
ended tree conn Accepter p = omega arith

asks_holds : {tree : Tree} {m : ℕ} {w : World} (i : ℕ) (j : Option ℕ) → Holds tree m w → Holds tree m (Worlds.asks_for i j w)
asks_holds i None e = e
asks_holds i (Some j) e = record { bound = e.bound; histories = e.histories }

put_holds : (tree : Tree) (i j m : ℕ) (w : World) (o : Output) → Holds tree (output_part (part_of tree j) o + m) w → Holds tree m (put i w o)
put_holds tree i j m w (Started task) e = drop-zero e
put_holds tree i j m w (Ended task outcome) e = drop-zero e
put_holds tree i j m w (Withdrawn ids) e = drop-zero e
put_holds tree i j m w (Denied why) e = drop-zero e
put_holds tree i j m w (Send conn f) e = on_pipe_holds (carried (calls_on tree conn) f) conn _ w (λ p. queued tree conn f (Worlds.other (Worlds.end_of i p)) p) e
put_holds tree i j m w (Dial peer) e = asks_holds i (Worlds.number_of w.spaces peer) (drop-zero e)
put_holds tree i j m w (Close conn) e = on_pipe_holds 0 conn _ w (λ p. ended tree conn (Worlds.end_of i p) p) e
put_holds tree i j m w (Ready task) e = drop-zero e

-- ---- events of spaces

-- the fuel of a frame that is delivered: it is in hand
unfoldable in_hand : Tree → Event → ℕ
in_hand tree (Received conn m) = carried (calls_on tree conn) m
in_hand tree _ = 0

split : (tree : Tree) (i : ℕ) (s : State) (e : Event) → brought (part_of tree i) s e ≡ in_hand tree e + root_part (part_of tree i) s e
unfolding in_hand brought
split tree i s (Moment moment) = omega arith
split tree i s Sweep = omega arith
split tree i s (Root method arguments fuel) = omega arith
split tree i s (RootAck task) = omega arith
split tree i s (Bind name value) = omega arith
split tree i s (Rebind name value) = omega arith
split tree i s (Unbind name) = omega arith
split tree i s (Lookup peer name) = omega arith
split tree i s (Opened conn dialled) = omega arith
split tree i s (Refused peer) = omega arith
split tree i s (Received conn m) = omega arith
split tree i s (Closed conn) = omega arith
split tree i s (ReadFailed conn) = omega arith
split tree i s (Bad conn) = omega arith
split tree i s (WriteFailed conn unsent) = omega arith
split tree i s (Committed task k op) = omega arith
split tree i s (Parked task k) = omega arith
split tree i s (GivenBack task k) = omega arith
split tree i s (Finished task k) = omega arith

outputs-of : (s : Space) (e : Event) → List Output
outputs-of s e = (Space.on s.setting e s.state).1

abbrev Fits-space : Tree → ℕ → Space → Type 0
Fits-space tree i s = FitsHistory (part_of tree i) s.setting s.history

-- the space of an event has no more than it had, and what the event brings
grown-part : (tree : Tree) (i : ℕ) (e : Event) (s : Space) → HasHistory s → Fits-space tree i (grown e s)
    → space_part tree i (grown e s) + total (output_part (part_of tree i)) (outputs-of s e) ≤ space_part tree i s + (in_hand tree e + root_part (part_of tree i) (Space.state_of s.setting s.history) e)
unfolding outputs-of
grown-part tree i e s history fits = subst (λ x. left_in v (Space.on s.setting e x).0 + ended_in v s.setting (e ∷ s.history) + total (output_part v) (Space.on s.setting e x).1 ≤ left_in v x + ended_in v s.setting s.history + (in_hand tree e + root_part v past e)) (sym history)
    (let p : brought v past e ≡ in_hand tree e + root_part v past e = split tree i past e in
    let all : left_in v (Space.on s.setting e past).0 + total (output_part v) (Space.on s.setting e past).1 + Rattle.sp_laws.specs.Trees.ended_part v past e ≤ left_in v past + brought v past e = (on-leaves v s.setting e past fits.0 (tags-of v s.setting s.history fits.1)).0 in omega arith)
  where
    v : Part
    v = part_of tree i

    past : State
    past = Space.state_of s.setting s.history

pub grown-history : (e : Event) (s : Space) → HasHistory s → HasHistory (grown e s)
unfolding Space.state_of
grown-history e s h = ap (λ t. (Space.on s.setting e t).0) h

take_holds : {tree : Tree} {v : World} (i : ℕ) (e : Event) (s : Space) → slice_get v.spaces i ≡ Some s → Holds tree (in_hand tree e) v → Holds tree 0 (take_event i e s v)
unfolding take_event outputs-of
take_holds {tree} {v} i e s is now =
    each_holds (put i) (output_part (part_of tree i)) (outputs-of s e) 0 _ (λ m w o h. put_holds tree i i m w o h) (record { bound = bounded; histories = all-set HasHistory (grown e) i v.spaces (grown-history e) now.histories })
  where
    here : HasHistory s
    here = all-at HasHistory i v.spaces s is now.histories

    bounded : IsTree tree (record v { spaces = at_index (grown e) i v.spaces }) → spent tree (record v { spaces = at_index (grown e) i v.spaces }) + (total (output_part (part_of tree i)) (Space.on s.setting e s.state).1 + 0) ≤ root_fuel tree (record v { spaces = at_index (grown e) i v.spaces })
    bounded fits =
        let before : IsTree tree v = back-from (Fits-space tree) (grown e) i 0 v.spaces (λ x f. f.1) fits in
        let fit : Fits-space tree i (grown e s) = subst (λ n. Fits-space tree n (grown e s)) (index-of i) (at-from (Fits-space tree) (grown e) i 0 v.spaces s is fits) in
        let b : spent tree v + in_hand tree e ≤ root_fuel tree v = now.bound before in
        let us : value_in (space_part tree i) (slice_get v.spaces i) ≡ space_part tree i s = found-value (space_part tree i) (slice_get v.spaces i) s is in
        let ug : value_in (λ x. space_part tree i (grown e x)) (slice_get v.spaces i) ≡ space_part tree i (grown e s) = found-value (λ x. space_part tree i (grown e x)) (slice_get v.spaces i) s is in
        let rs : value_in (roots_at tree i) (slice_get v.spaces i) ≡ roots_at tree i s = found-value (roots_at tree i) (slice_get v.spaces i) s is in
        let rg : value_in (λ x. roots_at tree i (grown e x)) (slice_get v.spaces i) ≡ roots_at tree i (grown e s) = found-value (λ x. roots_at tree i (grown e x)) (slice_get v.spaces i) s is in
        let u : total_from (space_part tree) 0 (at_index (grown e) i v.spaces) + value_in (space_part tree i) (slice_get v.spaces i) ≡ total_from (space_part tree) 0 v.spaces + value_in (λ x. space_part tree i (grown e x)) (slice_get v.spaces i) = changed (space_part tree) (grown e) i v.spaces in
        let r : total_from (roots_at tree) 0 (at_index (grown e) i v.spaces) + value_in (roots_at tree i) (slice_get v.spaces i) ≡ total_from (roots_at tree) 0 v.spaces + value_in (λ x. roots_at tree i (grown e x)) (slice_get v.spaces i) = changed (roots_at tree) (grown e) i v.spaces in
        let g : space_part tree i (grown e s) + total (output_part (part_of tree i)) (Space.on s.setting e s.state).1 ≤ space_part tree i s + (in_hand tree e + root_part (part_of tree i) (Space.state_of s.setting s.history) e) = grown-part tree i e s here fit in
        let rootsg : roots_at tree i (grown e s) ≡ root_part (part_of tree i) (Space.state_of s.setting s.history) e + roots_at tree i s = refl in
        omega arith

act_holds : {tree : Tree} {before v : World} (i : ℕ) (e : Event) → Holds tree 0 before → Holds tree (in_hand tree e) v → Holds tree 0 (act before i e v)
unfolding acts
act_holds {tree} {before} {v} i e old now = some_holds (slice_get v.spaces i) _ old (λ s is.
    some_holds (Refusals.refusal s.setting (Worlds.lent_for e) s.state e) _ (take_holds i e s is now) (λ why no. record { bound = old.bound; histories = old.histories }))

-- ---- what may happen

pub plain : {tree : Tree} {w : World} → Holds tree 0 w → Holds tree 0 (record w { refused = None })
plain e = record { bound = e.bound; histories = e.histories }

on_side_holds : {tree : Tree} {m : ℕ} (k conn : ℕ) (end : End) (f : Side → Side) (w : World) → ((s : Side) → total (carried (calls_on tree conn)) (f s).queue ≤ total (carried (calls_on tree conn)) s.queue + k)
    → Holds tree (k + m) w → Holds tree m (on_side f conn end w)
on_side_holds {tree} k conn Dialler f w le e = on_pipe_holds k conn (set_side f Dialler) w (λ p. let a : total (carried (calls_on tree conn)) (f p.dialler).queue ≤ total (carried (calls_on tree conn)) p.dialler.queue + k = le p.dialler in omega arith) e
on_side_holds {tree} k conn Accepter f w le e = on_pipe_holds k conn (set_side f Accepter) w (λ p. let a : total (carried (calls_on tree conn)) (f p.accepter).queue ≤ total (carried (calls_on tree conn)) p.accepter.queue + k = le p.accepter in omega arith) e

ends_holds : {tree : Tree} (conn : ℕ) (end : End) (w : World) → Holds tree 0 w → Holds tree 0 (on_side Worlds.ends conn end w)
ends_holds conn end w e = on_side_holds 0 conn end Worlds.ends w (λ s. omega arith) e

read_fails_holds : {tree : Tree} (conn : ℕ) (at : End) (w : World) → Holds tree 0 w → Holds tree 0 (Worlds.read_fails conn at w)
unfolding Worlds.read_fails in_hand
read_fails_holds conn at w e = some_holds (slice_get w.pipes conn) _ e (λ p is.
    if_holds (Worlds.is_live (Worlds.side at p).phase) (act_holds (Worlds.side at p).space (ReadFailed conn) e (ends_holds conn at w e)) e)

cut-part : (has : ℕ → Bool) (n : ℕ) (s : Side) → total (carried has) (Worlds.cut_end n s).queue ≤ total (carried has) s.queue + 0
cut-part has n s = let a : total (carried has) (take (length s.queue - n) s.queue) ≤ total (carried has) s.queue = taken (carried has) (length s.queue - n) s.queue in omega arith

write_fails_holds : {tree : Tree} (conn : ℕ) (at : End) (unsent : ℕ) (w : World) → Holds tree 0 w → Holds tree 0 (Worlds.write_fails conn at unsent w)
unfolding Worlds.write_fails in_hand
write_fails_holds {tree} conn at unsent w e = some_holds (slice_get w.pipes conn) _ e (λ p is.
    if_holds (Worlds.is_live (Worlds.side at p).phase)
    (act_holds (Worlds.side at p).space (WriteFailed conn (Worlds.lost unsent at p)) e
    (ends_holds conn at _ (on_side_holds 0 conn (Worlds.other at) (Worlds.cut_end (Worlds.lost unsent at p)) w (cut-part (calls_on tree conn) (Worlds.lost unsent at p)) e))) e)

accept_holds : {tree : Tree} (conn : ℕ) (w : World) → Holds tree 0 w → Holds tree 0 (Worlds.accept conn w)
unfolding Worlds.accept in_hand
accept_holds {tree} conn w e = some_holds (slice_get w.pipes conn) _ e (λ p is. at p.accepter.space p.accepter.phase)
  where
    at : (space : ℕ) (phase : Worlds.Phase) → Holds tree 0 (Worlds.accept_at conn w space phase)
    at space Worlds.Unopened = act_holds space (Opened conn None) e (on_side_holds 0 conn Accepter Worlds.begin_side w (λ s. omega arith) e)
    at space Worlds.Live = e
    at space Worlds.Over = e

open_holds : {tree : Tree} (a b : ℕ) (w : World) → Holds tree 0 w → Holds tree 0 (Worlds.open_pipe a b w)
unfolding Worlds.open_pipe in_hand
open_holds {tree} a b w e = if_holds (Worlds.is_asked a b w) (act_holds a (Opened (length w.pipes) (Worlds.id_at b w)) e now) e
  where
    n : total_from (pipe_part tree) 0 (w.pipes ++ Worlds.new_pipe a b ∷ []) ≡ total_from (pipe_part tree) 0 w.pipes
    n = more-from (pipe_part tree) 0 w.pipes (Worlds.new_pipe a b) (λ i. omega arith)

    now : Holds tree 0 (record w { asked = Worlds.without_pair a b w.asked; pipes = w.pipes ++ Worlds.new_pipe a b ∷ [] })
    now = record { bound = λ is. let h : spent tree w + 0 ≤ root_fuel tree w = e.bound is in omega (arith, n); histories = e.histories }

refuse_to_holds : {tree : Tree} {before v : World} (a : ℕ) (peer : Option Rattle.uuid.specs.declared.Uuid.Uuid) → Holds tree 0 before → Holds tree 0 v → Holds tree 0 (Worlds.refuse_to before a peer v)
unfolding in_hand
refuse_to_holds a None old now = old
refuse_to_holds a (Some peer) old now = act_holds a (Refused peer) old now

refuse_holds : {tree : Tree} (a b : ℕ) (w : World) → Holds tree 0 w → Holds tree 0 (Worlds.refuse a b w)
unfolding Worlds.refuse
refuse_holds a b w e = if_holds (Worlds.is_asked a b w) (refuse_to_holds a (Worlds.id_at b w) e (record { bound = e.bound; histories = e.histories })) e

-- a frame is taken off a queue: its fuel is in hand
front : (tree : Tree) (conn : ℕ) (to : End) (p : Pipe) (ps : List Pipe) (m : Message) (ms : List Message) → slice_get ps conn ≡ Some p → (Worlds.side to p).queue ≡ m ∷ ms
    → total_from (pipe_part tree) 0 (at_index (set_side Worlds.take_front to) conn ps) + carried (calls_on tree conn) m ≤ total_from (pipe_part tree) 0 ps
unfolding value_in
front tree conn to p ps m ms is q =
    let c : total_from (pipe_part tree) 0 (at_index (set_side Worlds.take_front to) conn ps) + value_in (pipe_part tree conn) (slice_get ps conn) ≡ total_from (pipe_part tree) 0 ps + value_in (λ x. pipe_part tree conn (set_side Worlds.take_front to x)) (slice_get ps conn) = changed (pipe_part tree) (set_side Worlds.take_front to) conn ps in
    let a : value_in (pipe_part tree conn) (slice_get ps conn) ≡ pipe_part tree conn p = found-value (pipe_part tree conn) (slice_get ps conn) p is in
    let b : value_in (λ x. pipe_part tree conn (set_side Worlds.take_front to x)) (slice_get ps conn) ≡ pipe_part tree conn (set_side Worlds.take_front to p) = found-value (λ x. pipe_part tree conn (set_side Worlds.take_front to x)) (slice_get ps conn) p is in
    let d : pipe_part tree conn (set_side Worlds.take_front to p) + carried (calls_on tree conn) m ≤ pipe_part tree conn p = one to p q in
    omega arith
  where
    less : (queue : List Message) → queue ≡ m ∷ ms → total (carried (calls_on tree conn)) (Worlds.without_front queue) + carried (calls_on tree conn) m ≤ total (carried (calls_on tree conn)) queue
    less queue e = rw e (omega arith)

    one : (to : End) (p : Pipe) → (Worlds.side to p).queue ≡ m ∷ ms → pipe_part tree conn (set_side Worlds.take_front to p) + carried (calls_on tree conn) m ≤ pipe_part tree conn p
    one Dialler p e = let l : total (carried (calls_on tree conn)) (Worlds.without_front p.dialler.queue) + carried (calls_on tree conn) m ≤ total (carried (calls_on tree conn)) p.dialler.queue = less p.dialler.queue e in omega arith
    one Accepter p e = let l : total (carried (calls_on tree conn)) (Worlds.without_front p.accepter.queue) + carried (calls_on tree conn) m ≤ total (carried (calls_on tree conn)) p.accepter.queue = less p.accepter.queue e in omega arith

deliver_holds : {tree : Tree} (conn : ℕ) (to : End) (w : World) → Holds tree 0 w → Holds tree 0 (Worlds.deliver conn to w)
unfolding Worlds.deliver in_hand
deliver_holds {tree} conn to w e = some_holds (slice_get w.pipes conn) _ e (λ p is.
    if_holds (Worlds.is_live (Worlds.side to p).phase) (first p is (Worlds.is_ended (Worlds.side (Worlds.other to) p).phase) (Worlds.side to p).queue refl) e)
  where
    first : (p : Pipe) → slice_get w.pipes conn ≡ Some p → (over : Bool) (queue : List Message) → (Worlds.side to p).queue ≡ queue
        → Holds tree 0 (Worlds.deliver_first conn to w (Worlds.side to p).space over queue)
    first p is over (m ∷ ms) q =
        let l : total_from (pipe_part tree) 0 (at_index (set_side Worlds.take_front to) conn w.pipes) + carried (calls_on tree conn) m ≤ total_from (pipe_part tree) 0 w.pipes = front tree conn to p w.pipes m ms is q in
        act_holds (Worlds.side to p).space (Received conn m) e (record { bound = λ fits. let b : spent tree w + 0 ≤ root_fuel tree w = e.bound fits in omega (arith, l); histories = e.histories })
    first p is true [] q = act_holds (Worlds.side to p).space (Closed conn) e (ends_holds conn to w e)
    first p is false [] q = e

-- an event that is no frame brings nothing in hand
IsNoFrame : Event → Type 0
IsNoFrame e = (tree : Tree) → in_hand tree e ≡ 0

in-hand : {tree : Tree} {w : World} (e : Event) → IsNoFrame e → Holds tree 0 w → Holds tree (in_hand tree e) w
unfolding IsNoFrame
in-hand {tree} {w} e none h = let z : in_hand tree e ≡ 0 = none tree in less-holds {m = 0} (omega arith) h

-- own events
own-hand : (e : Event) → Worlds.is_own e ≡ true → IsNoFrame e
unfolding in_hand IsNoFrame
own-hand (Moment moment) own = λ tree. refl
own-hand Sweep own = λ tree. refl
own-hand (Root method arguments fuel) own = λ tree. refl
own-hand (RootAck task) own = λ tree. refl
own-hand (Bind name value) own = λ tree. refl
own-hand (Rebind name value) own = λ tree. refl
own-hand (Unbind name) own = λ tree. refl
own-hand (Lookup peer name) own = λ tree. refl
own-hand (Opened conn dialled) own = λ tree. refl
own-hand (Refused peer) own = λ tree. refl
own-hand (Received conn m) own = absurd (true≢false (sym own))
own-hand (Closed conn) own = λ tree. refl
own-hand (ReadFailed conn) own = λ tree. refl
own-hand (Bad conn) own = λ tree. refl
own-hand (WriteFailed conn unsent) own = λ tree. refl
own-hand (Committed task k op) own = λ tree. refl
own-hand (Parked task k) own = λ tree. refl
own-hand (GivenBack task k) own = λ tree. refl
own-hand (Finished task k) own = λ tree. refl

own_event_holds : {tree : Tree} (i : ℕ) (e : Event) (w : World) → Holds tree 0 w → Holds tree 0 (if Worlds.is_own e then act w i e w else w)
own_event_holds {tree} i e w h = pick (Worlds.is_own e) refl
  where
    pick : (b : Bool) → Worlds.is_own e ≡ b → Holds tree 0 (if b then act w i e w else w)
    pick true own = act_holds i e h (in-hand e (own-hand e own) h)
    pick false own = h

acts_hold : {tree : Tree} (before : World) (i : ℕ) (es : List Event) (w : World) → AllOf IsNoFrame es → Holds tree 0 before → Holds tree 0 w → Holds tree 0 (acts before i es w)
unfolding acts
acts_hold before i [] w none old h = h
acts_hold before i (e ∷ es) w none old h = some_holds (slice_get w.spaces i) _ old (λ s is.
    some_holds (Refusals.refusal s.setting (Worlds.lent_for e) s.state e) _
    (acts_hold before i es (take_event i e s w) none.1 old (take_holds i e s is (in-hand e none.0 h)))
    (λ why no. record { bound = old.bound; histories = old.histories }))

after-no-frames : (id : ℕ) (over : Bool) → AllOf IsNoFrame (Worlds.events_after id over)
unfolding IsNoFrame in_hand
after-no-frames id true = ((λ tree. refl), tt)
after-no-frames id false = ((λ tree. refl), tt)

op-no-frames : (id : ℕ) (op : Behaviours.Op) → AllOf IsNoFrame (Worlds.events_of_op id op)
unfolding IsNoFrame in_hand
op-no-frames id (Behaviours.Create class) = ((λ tree. refl), ((λ tree. refl), tt))
op-no-frames id (Behaviours.Get object slot) = ((λ tree. refl), ((λ tree. refl), tt))
op-no-frames id (Behaviours.Put object slot value) = ((λ tree. refl), ((λ tree. refl), tt))
op-no-frames id (Behaviours.Call target method arguments) = ((λ tree. refl), tt)

steps-no-frames : (id : ℕ) (task : Tasks.Task) (s : Tasks.Stand) → AllOf IsNoFrame (Worlds.events_at id task s)
unfolding IsNoFrame in_hand
steps-no-frames id task Tasks.Runs = after-no-frames id _
steps-no-frames id task (Tasks.AsksFor op) = op-no-frames id op
steps-no-frames id task (Tasks.HasEnded outcome) = ((λ tree. refl), tt)

step_holds : {tree : Tree} (i id : ℕ) (w : World) → Holds tree 0 w → Holds tree 0 (Worlds.step_task i id w)
unfolding Worlds.step_task
step_holds i id w h = some_holds (slice_get w.spaces i) _ h (λ s is.
    some_holds (task_at s.state id) _ (record { bound = h.bound; histories = h.histories }) (λ t here.
    if_holds t.waits (record { bound = h.bound; histories = h.histories }) (acts_hold w i _ w (steps-no-frames id t.task (Tasks.stand t.task)) h h)))

pub happens_holds : {tree : Tree} (e : WorldEvent) (w : World) → Holds tree 0 w → Holds tree 0 (happens e w)
happens_holds (Own i e) w h = own_event_holds i e w h
happens_holds (Step i task) w h = step_holds i task w h
happens_holds (Open a b) w h = open_holds a b w h
happens_holds (Refuse a b) w h = refuse_holds a b w h
happens_holds (Accept conn) w h = accept_holds conn w h
happens_holds (Deliver conn to) w h = deliver_holds conn to w h
happens_holds (ReadFails conn at) w h = read_fails_holds conn at w h
happens_holds (WriteFails conn at unsent) w h = write_fails_holds conn at unsent w h

run_holds : {tree : Tree} (events : List WorldEvent) (w : World) → Holds tree 0 w → Holds tree 0 (run w events)
unfolding run after
run_holds [] w h = h
run_holds (e ∷ es) w h = run_holds es _ (happens_holds e _ (plain h))

nothing-yet : (tree : Tree) (j : ℕ) (settings : List Setting) → total_from (space_part tree) j (map new_space settings) ≡ 0
unfolding opening
nothing-yet tree j [] = refl
nothing-yet tree j (g ∷ gs) = let e : total_from (space_part tree) (suc j) (map new_space gs) ≡ 0 = nothing-yet tree (suc j) gs in omega arith

new-histories : (settings : List Setting) → AllOf HasHistory (map new_space settings)
unfolding Space.state_of
new-histories [] = tt
new-histories (g ∷ gs) = (refl, new-histories gs)

pub begins : (tree : Tree) (settings : List Setting) → Holds tree 0 (new_world settings)
unfolding new_world
begins tree settings = let e : total_from (space_part tree) 0 (map new_space settings) ≡ 0 = nothing-yet tree 0 settings in record { bound = λ is. omega (arith, e); histories = new-histories settings }

pub fuel_is_bounded_in_trees : FuelIsBoundedInTrees
fuel_is_bounded_in_trees settings events tree is = let b : spent tree (run (new_world settings) events) + 0 ≤ root_fuel tree (run (new_world settings) events) = (run_holds events (new_world settings) (begins tree settings)).bound is in omega arith
