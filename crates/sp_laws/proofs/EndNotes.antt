-- What a Finished says that ended: the task that it finishes, if that stands at its end, and nothing else.
use mathlib.Core.Path.{sym, ap, ◌∙◌}
use Rattle.std.proofs.Common.{append-nil, arith}
use Rattle.std.proofs.lemmas.Bool.{true≢false, eqb-true, ne_eqb}
use Rattle.std.specs.Prelude.{◌≡◌, refl, ℕ, zero, suc, ◌==◌, ◌||◌, cond, is_some, Bool, true, false, List, [], ◌∷◌, ◌++◌, Option, None, Some, filter, map, if◌then◌else◌}
use Rattle.dgc_client.specs.declared.groups.Group.{Group}
use Rattle.net_message.specs.declared.message.Message.{Message}
use Rattle.net_message.specs.declared.message.Message.TheVariants as message
use Rattle.space_ids.specs.declared.ids.ForeignId.{ForeignId}
use Rattle.uuid.specs.declared.Uuid.{Uuid}
use Rattle.sp_rules.specs.Behaviours.{Outcome, Returned, Threw, Spent, Op, Create, Get, Put, Call}
use Rattle.sp_rules.specs.Classes.{Setting}
use Rattle.sp_rules.specs.Events.{Event, Committed, Parked, GivenBack, Finished, Output, Started, Ended, Withdrawn, Denied, Send, Dial, Close, Ready, Turn, Hellos, Replies, Waited, Cleans, Dirties, Acks, Note, Says, Sends, output_of, rank, of_rank, of_ranks, in_order}
use Rattle.sp_rules.specs.Events as event
use Rattle.sp_rules.specs.Holders
use Rattle.sp_rules.specs.Holders.{hold_ids, drop_ids}
use Rattle.sp_rules.specs.Lists.{each, with_some}
use Rattle.sp_rules.specs.LivingTasks
use Rattle.sp_rules.specs.Requests
use Rattle.sp_rules.specs.Space
use Rattle.sp_rules.specs.State as state
use Rattle.sp_rules.specs.State.{State, Living, Origin, OfRoot, OfCall, Until, Acked, Request, Asked, Calls, LooksUp, Tells, connection_to, is_open, ready_at, send}
use Rattle.sp_rules.specs.Tasks.{Stand, Runs, AsksFor, HasEnded, stand, steps}
use Rattle.sp_laws.proofs.AnswerLemmas.{no-notes}
use Rattle.sp_laws.specs.Ends.{is_ended, ends_in}

-- ---- notes and outputs

-- what ended, by what is noted
abbrev noted : List Note → List Output
noted notes = ends_in (map output_of notes)

ends-append : (xs ys : List Output) → ends_in (xs ++ ys) ≡ ends_in xs ++ ends_in ys
ends-append [] ys = refl
ends-append (x ∷ xs) ys = pick (is_ended x) (ends-append xs ys)
  where
    pick : (b : Bool) → ends_in (xs ++ ys) ≡ ends_in xs ++ ends_in ys → cond b (x ∷ ends_in (xs ++ ys)) (ends_in (xs ++ ys)) ≡ cond b (x ∷ ends_in xs) (ends_in xs) ++ ends_in ys
    pick true rest = ap (λ (os : List Output). x ∷ os) rest
    pick false rest = rest

-- Endeds are the outputs of one rank
ended-rank : (n : Note) → is_ended (output_of n) ≡ (rank n == 1)
ended-rank (Says (Started task)) = refl
ended-rank (Says (Ended task outcome)) = refl
ended-rank (Says (Withdrawn ids)) = refl
ended-rank (Says (Denied why)) = refl
ended-rank (Says (Send conn m)) = refl
ended-rank (Says (Dial peer)) = refl
ended-rank (Says (Close conn)) = refl
ended-rank (Says (Ready task)) = refl
ended-rank (Sends Hellos conn m) = refl
ended-rank (Sends Replies conn m) = refl
ended-rank (Sends Waited conn m) = refl
ended-rank (Sends Cleans conn m) = refl
ended-rank (Sends Dirties conn m) = refl
ended-rank (Sends event.Calls conn m) = refl
ended-rank (Sends Acks conn m) = refl

-- other ranks have none
other-rank : (k : ℕ) → (k == 1) ≡ false → (notes : List Note) → ends_in (of_rank notes k) ≡ []
other-rank k other [] = refl
other-rank k other (n ∷ notes) = pick (rank n == k) refl (other-rank k other notes)
  where
    none : (b : Bool) → b ≡ false → (os : List Output) → os ≡ [] → cond b (output_of n ∷ os) os ≡ []
    none true e os rest = absurd (true≢false e)
    none false e os rest = rest

    pick : (b : Bool) → (rank n == k) ≡ b → ends_in (of_rank notes k) ≡ [] → ends_in (map output_of (cond b (n ∷ filter (λ m. rank m == k) notes) (filter (λ m. rank m == k) notes))) ≡ []
    pick true e rest = none (is_ended (output_of n)) (ended-rank n ∙ ap (λ r. r == 1) (eqb-true (rank n) k e) ∙ other) (ends_in (of_rank notes k)) rest
    pick false e rest = rest

one-rank : (notes : List Note) → ends_in (of_rank notes 1) ≡ noted notes
one-rank [] = refl
one-rank (n ∷ notes) = pick (rank n == 1) (ended-rank n) (one-rank notes)
  where
    both : (b : Bool) → ends_in (of_rank notes 1) ≡ noted notes → cond b (output_of n ∷ ends_in (of_rank notes 1)) (ends_in (of_rank notes 1)) ≡ cond b (output_of n ∷ noted notes) (noted notes)
    both true rest = ap (λ (os : List Output). output_of n ∷ os) rest
    both false rest = rest

    pick : (b : Bool) → is_ended (output_of n) ≡ b → ends_in (of_rank notes 1) ≡ noted notes
        → ends_in (map output_of (cond b (n ∷ filter (λ m. rank m == 1) notes) (filter (λ m. rank m == 1) notes))) ≡ cond (is_ended (output_of n)) (output_of n ∷ noted notes) (noted notes)
    pick true e rest = both (is_ended (output_of n)) rest
    pick false e rest = rest ∙ sym (ap (λ b. cond b (output_of n ∷ noted notes) (noted notes)) e)

append-none : (xs ys : List Output) → ys ≡ [] → xs ++ ys ≡ xs
append-none xs ys e = ap (λ zs. xs ++ zs) e ∙ append-nil xs

from-two : (k : ℕ) (notes : List Note) → ends_in (of_ranks (suc (suc k)) notes) ≡ noted notes
from-two zero notes = ends-append (of_rank notes 0) (of_rank notes 1) ∙ ap (λ xs. xs ++ ends_in (of_rank notes 1)) (other-rank 0 refl notes) ∙ one-rank notes
from-two (suc k) notes =
    let above : (suc (suc k) == 1) ≡ false = ne_eqb (suc (suc k)) 1 (λ e. absurd (omega (arith, e))) in
    ends-append (of_ranks (suc (suc k)) notes) (of_rank notes (suc (suc k))) ∙ append-none (ends_in (of_ranks (suc (suc k)) notes)) _ (other-rank (suc (suc k)) above notes) ∙ from-two k notes

ordered : (notes : List Note) → ends_in (in_order notes) ≡ noted notes
unfolding in_order
ordered notes = from-two 12 notes

-- ---- what says of nothing that it ended

-- A property that looks at what is noted alone, and does not see notes of other kinds.
record SeesEnds (P : State → Type 0) : Type 0 where
  same : (s t : State) → t.notes ≡ s.notes → P s → P t
  more : (s : State) (n : Note) → is_ended (output_of n) ≡ false → P s → P (record s { notes = s.notes ++ n ∷ [] })

noted-more : (notes : List Note) (n : Note) → is_ended (output_of n) ≡ false → noted (notes ++ n ∷ []) ≡ noted notes
noted-more [] n e = ap (λ b. cond b (output_of n ∷ []) []) e
noted-more (x ∷ notes) n e = pick (is_ended (output_of x)) (noted-more notes n e)
  where
    pick : (b : Bool) → noted (notes ++ n ∷ []) ≡ noted notes → cond b (output_of x ∷ noted (notes ++ n ∷ [])) (noted (notes ++ n ∷ [])) ≡ cond b (output_of x ∷ noted notes) (noted notes)
    pick true rest = ap (λ (os : List Output). output_of x ∷ os) rest
    pick false rest = rest

sees : (ends : List Output) → SeesEnds (λ s. noted s.notes ≡ ends)
sees ends = record {
  same = λ s t e h. ap noted e ∙ h;
  more = λ s n e h. noted-more s.notes n e ∙ h;
}

if_sees : {P : State → Type 0} (S : SeesEnds P) {t u : State} (b : Bool) → P t → P u → P (if b then t else u)
if_sees S true h k = h
if_sees S false h k = k

some_sees : {P : State → Type 0} (S : SeesEnds P) {A : Type 0} {t : State} (o : Option A) (f : A → State) → P t → ((a : A) → P (f a)) → P (with_some o t f)
some_sees S None f h k = h
some_sees S (Some a) f h k = k a

each_sees : {P : State → Type 0} (S : SeesEnds P) {A : Type 0} {s : State} (f : State → A → State) (xs : List A) → ((t : State) (x : A) → P t → P (f t x)) → P s → P (each f xs s)
unfolding each
each_sees S f [] k h = h
each_sees S {s = s} f (x ∷ xs) k h = each_sees S f xs k (k s x h)

send_sees : {P : State → Type 0} (S : SeesEnds P) {s : State} (turn : Turn) (conn : ℕ) (m : Message) → P s → P (send turn conn m s)
unfolding send
send_sees {P} S {s} turn conn m h = if_sees S (is_open s conn) (S.more s (Sends turn conn m) refl h) h

hold_sees : {P : State → Type 0} (S : SeesEnds P) {s : State} (ids : List ForeignId) → P s → P (hold_ids ids s)
unfolding hold_ids
hold_sees {P} S ids h = each_sees S Holders.holder_comes ids (λ t x k. S.same t _ refl k) h

drop_sees : {P : State → Type 0} (S : SeesEnds P) {s : State} (ids : List ForeignId) → P s → P (drop_ids ids s)
unfolding drop_ids
drop_sees {P} S ids h = each_sees S Holders.holder_goes ids (λ t x k. S.same t _ refl k) h

-- ---- the end of an event

part_sees : {P : State → Type 0} (S : SeesEnds P) {s : State} (turn : Turn) (conn call : ℕ) (part : Group) → P s → P (Requests.part_goes_out turn conn call s part)
unfolding Requests.part_goes_out
part_sees S {s} turn conn call part h = send_sees S turn conn _ (S.same s _ refl h)

go_out_sees : {P : State → Type 0} (S : SeesEnds P) {s : State} (turn : Turn) (conn : ℕ) (q : Request) → P s → P (Requests.go_out turn conn q s)
unfolding Requests.go_out
go_out_sees {P} S {s} turn conn q h = goes q.asked
  where
    goes : (asked : Asked) → P (Requests.goes_out turn conn q.peer asked s)
    goes (Calls number task lent kind m) = send_sees S turn conn m (S.same s _ refl h)
    goes (LooksUp number task name) = send_sees S turn conn (message.Lookup number name) (S.same s _ refl h)
    goes (Tells call group) = each_sees S (Requests.part_goes_out turn conn call) _ (λ t part k. part_sees S turn conn call part k) h

dial_sees : {P : State → Type 0} (S : SeesEnds P) {s : State} (peer : Uuid) → P s → P (Requests.dial peer s)
unfolding Requests.dial
dial_sees {P} S {s} peer h = if_sees S (is_some (connection_to s peer) || state.is_dialling s peer) h (S.more (record s { dialling = s.dialling ++ peer ∷ [] }) (Says (Dial peer)) refl (S.same s _ refl h))

ask_sees : {P : State → Type 0} (S : SeesEnds P) {s : State} (q : Request) → P s → P (Requests.ask s q)
unfolding Requests.ask
ask_sees {P} S {s} q h = some_sees S (Requests.hello_came (connection_to s q.peer)) _ (dial_sees S q.peer (S.same s _ refl h)) (λ conn. go_out_sees S _ conn q h)

make_group_sees : {P : State → Type 0} (S : SeesEnds P) {s : State} (b : Group) → P s → P (Requests.make_group s b)
unfolding Requests.make_group
make_group_sees S {s} b h = ask_sees S _ (S.same s _ refl h)

settle_sees : {P : State → Type 0} (S : SeesEnds P) {s : State} → P s → P (Requests.settle s)
unfolding Requests.settle Requests.make_due Requests.ask_fresh
settle_sees {P} S {s} h = asks (Requests.make_due s) (each_sees S Requests.make_group _ (λ t b k. make_group_sees S b k) h)
  where
    asks : (t : State) → P t → P (each Requests.ask t.fresh (record t { fresh = [] }))
    asks t k = each_sees S Requests.ask t.fresh (λ u q j. ask_sees S q j) (S.same t _ refl k)

-- ---- a task ends

keep_sees : {P : State → Type 0} (S : SeesEnds P) (g : Setting) {s : State} (until : Until) (outcome : Outcome) → P s → P (LivingTasks.keep_result g until outcome s)
keep_sees S g {s} until (Returned value) h = hold_sees S _ (S.same s _ refl h)
keep_sees S g until (Threw class) h = h
keep_sees S g until Spent h = h

report_sees : {P : State → Type 0} (S : SeesEnds P) (g : Setting) {s : State} (origin : Origin) (id fuel : ℕ) (outcome : Outcome) → P s → P (LivingTasks.report g origin id fuel outcome s)
report_sees S g OfRoot id fuel outcome h = keep_sees S g _ outcome h
report_sees {P} S g {s} (OfCall conn number) id fuel outcome h = if_sees S (is_open s conn) (send_sees S Replies conn _ (keep_sees S g (Acked conn number) outcome h)) h

-- what is said that ended, of a task that stands there
abbrev pub end_of : ℕ → Stand → List Output
end_of id Runs = []
end_of id (AsksFor op) = []
end_of id (HasEnded outcome) = Ended id outcome ∷ []

abbrev pub end_for : ℕ → ℕ → Option Living → List Output
end_for id k None = []
end_for id k (Some t) = end_of id (stand (steps k t.task))

end-noted : (g : Setting) (s : State) (id : ℕ) (t : Living) (at : Stand) → s.notes ≡ [] → noted (LivingTasks.end_at g id t at s).notes ≡ end_of id at
end-noted g s id t Runs none = ap noted none
end-noted g s id t (AsksFor op) none = ap noted none
end-noted g s id t (HasEnded outcome) none = drop_sees (sees (Ended id outcome ∷ [])) _ (report_sees (sees (Ended id outcome ∷ [])) g t.origin id t.task.fuel outcome
    (ap (λ (notes : List Note). noted (notes ++ Says (Ended id outcome) ∷ [])) none))

finish-noted : (g : Setting) (s : State) (id k : ℕ) (o : Option Living) → s.notes ≡ []
    → noted (with_some o s (λ t. LivingTasks.end_at g id (LivingTasks.after_steps k t) (stand (steps k t.task)) s)).notes ≡ end_for id k o
finish-noted g s id k None none = ap noted none
finish-noted g s id k (Some t) none = end-noted g s id (LivingTasks.after_steps k t) (stand (steps k t.task)) none

pub finish-ends : (g : Setting) (h : List Event) (id k : ℕ) → ends_in (Space.on g (Finished id k) (Space.state_of g h)).1 ≡ end_for id k (ready_at (Space.state_of g h) id)
unfolding Space.on Space.happen LivingTasks.finish_task
finish-ends g h id k =
    let s : State = Space.state_of g h in
    let made : State = with_some (ready_at s id) s (λ t. LivingTasks.end_at g id (LivingTasks.after_steps k t) (stand (steps k t.task)) s) in
    ordered (Requests.settle made).notes ∙ settle_sees (sees (end_for id k (ready_at s id))) {s = made} (finish-noted g s id k (ready_at s id) (no-notes g h))

-- A Parked says of nothing that it ended.
park-noted : (g : Setting) (s : State) (id k : ℕ) (t : Living) (at : Stand) → s.notes ≡ [] → noted (LivingTasks.park_at g id k t at s).notes ≡ []
park-noted g s id k t Runs none = ap noted none
park-noted g s id k t (AsksFor (Create class)) none = ap noted none
park-noted g s id k t (AsksFor (Get object slot)) none = ap noted none
park-noted g s id k t (AsksFor (Put object slot value)) none = ap noted none
park-noted g s id k t (AsksFor (Call target method arguments)) none = ap noted none
park-noted g s id k t (HasEnded outcome) none = ap noted none

pub park-ends : (g : Setting) (h : List Event) (id k : ℕ) → ends_in (Space.on g (Parked id k) (Space.state_of g h)).1 ≡ []
unfolding Space.on Space.happen LivingTasks.park_call
park-ends g h id k =
    let s : State = Space.state_of g h in
    let made : State = with_some (ready_at s id) s (λ t. LivingTasks.park_at g id k t (stand (steps k t.task)) s) in
    ordered (Requests.settle made).notes ∙ settle_sees (sees []) {s = made} (parked (ready_at s id) (no-notes g h))
  where
    parked : (o : Option Living) → (Space.state_of g h).notes ≡ [] → noted (with_some o (Space.state_of g h) (λ t. LivingTasks.park_at g id k t (stand (steps k t.task)) (Space.state_of g h))).notes ≡ []
    parked None none = ap noted none
    parked (Some t) none = park-noted g (Space.state_of g h) id k t (stand (steps k t.task)) none

-- Commits and give-backs answer nothing.
pub commit-ends : (g : Setting) (s : State) (id k : ℕ) (op : Op) → ends_in (Space.on g (Committed id k op) s).1 ≡ []
unfolding Space.on
commit-ends g s id k op = refl

pub give-back-ends : (g : Setting) (s : State) (id k : ℕ) → ends_in (Space.on g (GivenBack id k) s).1 ≡ []
unfolding Space.on
give-back-ends g s id k = refl
