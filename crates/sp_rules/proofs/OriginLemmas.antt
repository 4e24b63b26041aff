-- The rules of requests and tasks keep the references in a space to those that were there, those that the event brings, and those of
-- standing objects.
use mathlib.Core.Path.{sym, ap, subst, ◌∙◌}
use Rattle.std.specs.Prelude.{◌≡◌, refl, ℕ, zero, suc, ◌+◌, ◌≤◌, ◌==◌, ◌&&◌, ◌||◌, not, nat_le, is_some, length, Bool, true, false, List, [], ◌∷◌, ◌++◌, Option, None, Some, find, unwrap_or, if◌then◌else◌}
use Rattle.std.proofs.Common.{arith}
use Rattle.space_ids.specs.declared.ids.ClassId.{ClassId}
use Rattle.dgc_client.specs.Table as client
use Rattle.dgc_client.specs.declared.groups.Group.{Group}
use Rattle.dgc_client.specs.declared.lease.Due.{Due}
use Rattle.dgc_client.specs.declared.lease.Due.TheVariants as due
use Rattle.space_ids.specs.declared.ids.ForeignId.{ForeignId}
use Rattle.net_message.specs.declared.message.Message.{Message}
use Rattle.uuid.specs.declared.Uuid.{Uuid}
use Rattle.space_ids.specs.declared.ids.ObjId.{ObjId}
use Rattle.space_ids.specs.declared.ids.Ref.{Ref}
use Rattle.space_ids.specs.declared.value.Value.{Value}
use Rattle.space_ids.specs.declared.value.Value.TheVariants as values
use Rattle.sp_rules.specs.Behaviours.{Outcome, Returned, Threw, Spent, Op, Create, Get, Put, Call, Reply, Gives, GivesBack, Throws, RunsOut}
use Rattle.sp_rules.specs.Classes.{Setting, Kind, IntKind, IntArrayKind, ReferenceKind, VoidKind, blank, field_kind}
use Rattle.sp_rules.specs.Events.{Started, Ended, Dial, Ready, Note, Says, Sends, Turn, output_of}
use Rattle.sp_rules.specs.Holders
use Rattle.sp_rules.specs.Holders.{hold_ids, drop_ids}
use Rattle.sp_rules.specs.Laws.{AllOf}
use Rattle.sp_rules.specs.Lists.{each, with_some, at_first}
use Rattle.sp_rules.specs.LivingTasks
use Rattle.sp_rules.specs.Origins.{references_of_message, references_of_asked, references_of_output, own_reference}
use Rattle.sp_rules.specs.References.{references_of, references_in, reference_of, foreign_ids, with_reference, with_references, is_reference_in, is_id}
use Rattle.sp_rules.specs.Refusals.{result_of}
use Rattle.sp_rules.specs.Requests
use Rattle.sp_rules.specs.State.{State, Object, Stored, Made, Written, Gone, Living, Origin, OfRoot, OfCall, Until, Request, Asked, Calls, LooksUp, Tells, Stage, Connection, KeptResult, Frame, CallFrame, ReturnedFrame, ParkedFrame, standing, last_written, task_at, ready_at, object_at, connection_at, connection_to, is_open, set_task, set_connection, say, send, tell_owner}
use Rattle.sp_rules.specs.State as state
use Rattle.sp_rules.specs.Tasks
use Rattle.sp_rules.specs.Tasks.{Task, Stand, Runs, AsksFor, HasEnded, stand, step, steps, start, answer, lend_fuel}
use Rattle.sp_rules.proofs.AllLemmas.{all-weaken, all-more, all-filter, all-first, all-found, found-is}
use Rattle.sp_rules.proofs.SweepLemmas.{one-id}

-- ---- what is kept

-- the parts that have references
pub record Parts : Type 0 where
  pub objects_made : ℕ
  pub store : List Stored
  pub tasks : List Living
  pub results : List KeptResult
  pub parked : List ParkedFrame
  pub requests : List Request
  pub fresh : List Request
  pub notes : List Note

abbrev pub parts_of : State → Parts
parts_of s = record { objects_made = s.objects_made; store = s.store; tasks = s.tasks; results = s.results; parked = s.parked; requests = s.requests; fresh = s.fresh; notes = s.notes }

-- a parked call's target is an own object of some class
abbrev pub FrameIs : Setting → (Ref → Type 0) → Frame → Type 0
FrameIs g Is (CallFrame target method fuel arguments) = ((class : ClassId) × Is (record { space = g.id; id = target; class = class })) × AllOf Is (references_of arguments)
FrameIs g Is (ReturnedFrame value fuel) = AllOf Is (references_in value)

abbrev pub NoteIs : (Ref → Type 0) → Note → Type 0
NoteIs Out n = AllOf Out (references_of_output (output_of n))

abbrev pub AskedIs : (Ref → Type 0) → Request → Type 0
AskedIs Out r = AllOf Out (references_of_asked r.asked)

-- the references in the fields of an object
abbrev pub FieldsAre : Setting → (Ref → Type 0) → List Stored → Object → Type 0
FieldsAre g Is store o = (slot : ℕ) → is_some (field_kind g.classes o.class slot) ≡ true → AllOf Is (references_in (last_written store o.id slot))

pub record Holds (g : Setting) (Is Out : Ref → Type 0) (Kept : ParkedFrame → Type 0) (c : Parts) : Type 0 where
  pub lets : (r : Ref) → Is r → Out r
  pub objects : AllOf (λ (o : Object). Is (own_reference g o)) (standing c.store)
  pub numbers : AllOf (λ (o : Object). o.id.0 ≤ c.objects_made) (standing c.store)
  pub unwritten : (id : ObjId) (slot : ℕ) → c.objects_made + 1 ≤ id.0 → last_written c.store id slot ≡ None
  pub fields : AllOf (FieldsAre g Is c.store) (standing c.store)
  pub tasks : AllOf (λ (t : Living). AllOf Is t.task.held) c.tasks
  pub results : AllOf (λ (k : KeptResult). AllOf Is (references_in k.value)) c.results
  pub parked : AllOf (λ (p : ParkedFrame). FrameIs g Is p.frame) c.parked
  pub kept : AllOf Kept c.parked
  pub requests : AllOf (AskedIs Out) c.requests
  pub fresh : AllOf (AskedIs Out) c.fresh
  pub notes : AllOf (NoteIs Out) c.notes

-- The references in a space are all of one kind `Is`, those that it sends of a kind `Out`, and its parked frames of a kind `Kept`. What is
-- of `Is` is of `Out`.
pub record Only (g : Setting) (Is Out : Ref → Type 0) (Kept : ParkedFrame → Type 0) (s : State) : Type 0 where
  pub parts : Holds g Is Out Kept (parts_of s)

-- ---- small steps

pub quiet : {g : Setting} {Is Out : Ref → Type 0} {Kept : ParkedFrame → Type 0} {s : State} (t : State) → parts_of t ≡ parts_of s → Only g Is Out Kept s → Only g Is Out Kept t
quiet {g} {Is} {Out} {Kept} t e h = record { parts = subst (Holds g Is Out Kept) (sym e) h.parts }

pub now_tasks : {g : Setting} {Is Out : Ref → Type 0} {Kept : ParkedFrame → Type 0} {s : State} (xs : List Living) → AllOf (λ (t : Living). AllOf Is t.task.held) xs → Only g Is Out Kept s → Only g Is Out Kept (record s { tasks = xs })
now_tasks xs a h = record { parts = record { lets = h.parts.lets; objects = h.parts.objects; numbers = h.parts.numbers; unwritten = h.parts.unwritten; fields = h.parts.fields; tasks = a; results = h.parts.results; parked = h.parts.parked; kept = h.parts.kept; requests = h.parts.requests; fresh = h.parts.fresh; notes = h.parts.notes } }

pub now_results : {g : Setting} {Is Out : Ref → Type 0} {Kept : ParkedFrame → Type 0} {s : State} (xs : List KeptResult) → AllOf (λ (k : KeptResult). AllOf Is (references_in k.value)) xs → Only g Is Out Kept s → Only g Is Out Kept (record s { results = xs })
now_results xs a h = record { parts = record { lets = h.parts.lets; objects = h.parts.objects; numbers = h.parts.numbers; unwritten = h.parts.unwritten; fields = h.parts.fields; tasks = h.parts.tasks; results = a; parked = h.parts.parked; kept = h.parts.kept; requests = h.parts.requests; fresh = h.parts.fresh; notes = h.parts.notes } }

pub now_requests : {g : Setting} {Is Out : Ref → Type 0} {Kept : ParkedFrame → Type 0} {s : State} (xs : List Request) → AllOf (AskedIs Out) xs → Only g Is Out Kept s → Only g Is Out Kept (record s { requests = xs })
now_requests xs a h = record { parts = record { lets = h.parts.lets; objects = h.parts.objects; numbers = h.parts.numbers; unwritten = h.parts.unwritten; fields = h.parts.fields; tasks = h.parts.tasks; results = h.parts.results; parked = h.parts.parked; kept = h.parts.kept; requests = a; fresh = h.parts.fresh; notes = h.parts.notes } }

pub now_fresh : {g : Setting} {Is Out : Ref → Type 0} {Kept : ParkedFrame → Type 0} {s : State} (xs : List Request) → AllOf (AskedIs Out) xs → Only g Is Out Kept s → Only g Is Out Kept (record s { fresh = xs })
now_fresh xs a h = record { parts = record { lets = h.parts.lets; objects = h.parts.objects; numbers = h.parts.numbers; unwritten = h.parts.unwritten; fields = h.parts.fields; tasks = h.parts.tasks; results = h.parts.results; parked = h.parts.parked; kept = h.parts.kept; requests = h.parts.requests; fresh = a; notes = h.parts.notes } }

pub now_notes : {g : Setting} {Is Out : Ref → Type 0} {Kept : ParkedFrame → Type 0} {s : State} (xs : List Note) → AllOf (NoteIs Out) xs → Only g Is Out Kept s → Only g Is Out Kept (record s { notes = xs })
now_notes xs a h = record { parts = record { lets = h.parts.lets; objects = h.parts.objects; numbers = h.parts.numbers; unwritten = h.parts.unwritten; fields = h.parts.fields; tasks = h.parts.tasks; results = h.parts.results; parked = h.parts.parked; kept = h.parts.kept; requests = h.parts.requests; fresh = h.parts.fresh; notes = a } }

pub now_parked : {g : Setting} {Is Out : Ref → Type 0} {Kept Kept' : ParkedFrame → Type 0} {s : State} (xs : List ParkedFrame) → AllOf (λ (p : ParkedFrame). FrameIs g Is p.frame) xs → AllOf Kept' xs → Only g Is Out Kept s → Only g Is Out Kept' (record s { parked = xs })
now_parked xs a b h = record { parts = record { lets = h.parts.lets; objects = h.parts.objects; numbers = h.parts.numbers; unwritten = h.parts.unwritten; fields = h.parts.fields; tasks = h.parts.tasks; results = h.parts.results; parked = a; kept = b; requests = h.parts.requests; fresh = h.parts.fresh; notes = h.parts.notes } }

pub if_only : {g : Setting} {Is Out : Ref → Type 0} {Kept : ParkedFrame → Type 0} {t u : State} (b : Bool) → Only g Is Out Kept t → Only g Is Out Kept u → Only g Is Out Kept (if b then t else u)
if_only true h k = h
if_only false h k = k

pub some_only : {g : Setting} {Is Out : Ref → Type 0} {Kept : ParkedFrame → Type 0} {A : Type 0} {t : State} (x : Option A) (f : A → State)
    → Only g Is Out Kept t → ((a : A) → x ≡ Some a → Only g Is Out Kept (f a)) → Only g Is Out Kept (with_some x t f)
some_only None f h k = h
some_only (Some a) f h k = k a refl

pub each_only : {g : Setting} {Is Out : Ref → Type 0} {Kept : ParkedFrame → Type 0} {A : Type 0} {s : State} (f : State → A → State) (xs : List A)
    → ((t : State) (x : A) → Only g Is Out Kept t → Only g Is Out Kept (f t x)) → Only g Is Out Kept s → Only g Is Out Kept (each f xs s)
unfolding each
each_only f [] k h = h
each_only {s = s} f (x ∷ xs) k h = each_only f xs k (k s x h)

-- something is done for each of which something holds
pub each_with : {g : Setting} {Is Out : Ref → Type 0} {Kept : ParkedFrame → Type 0} {A : Type 0} {s : State} (Q : A → Type 0) (f : State → A → State) (xs : List A) → AllOf Q xs
    → ((t : State) (x : A) → Q x → Only g Is Out Kept t → Only g Is Out Kept (f t x)) → Only g Is Out Kept s → Only g Is Out Kept (each f xs s)
unfolding each
each_with Q f [] a k h = h
each_with {s = s} Q f (x ∷ xs) a k h = each_with Q f xs a.1 k (k s x a.0 h)

pub note_only : {g : Setting} {Is Out : Ref → Type 0} {Kept : ParkedFrame → Type 0} {s : State} (n : Note) → NoteIs Out n → Only g Is Out Kept s → Only g Is Out Kept (record s { notes = s.notes ++ n ∷ [] })
note_only {Out = Out} {s = s} n a h = now_notes _ (all-more (NoteIs Out) s.notes n h.parts.notes a) h

pub send_only : {g : Setting} {Is Out : Ref → Type 0} {Kept : ParkedFrame → Type 0} {s : State} (turn : Turn) (conn : ℕ) (m : Message) → AllOf Out (references_of_message m) → Only g Is Out Kept s → Only g Is Out Kept (send turn conn m s)
unfolding send
send_only {s = s} turn conn m a h = if_only (is_open s conn) (note_only (Sends turn conn m) a h) h

pub hold_only : {g : Setting} {Is Out : Ref → Type 0} {Kept : ParkedFrame → Type 0} {s : State} (ids : List ForeignId) → Only g Is Out Kept s → Only g Is Out Kept (hold_ids ids s)
unfolding hold_ids
hold_only ids h = each_only Holders.holder_comes ids (λ t x k. quiet _ refl k) h

pub drop_only : {g : Setting} {Is Out : Ref → Type 0} {Kept : ParkedFrame → Type 0} {s : State} (ids : List ForeignId) → Only g Is Out Kept s → Only g Is Out Kept (drop_ids ids s)
unfolding drop_ids
drop_only ids h = each_only Holders.holder_goes ids (λ t x k. quiet _ refl k) h

-- ---- requests

pub add_only : {g : Setting} {Is Out : Ref → Type 0} {Kept : ParkedFrame → Type 0} {s : State} (r : Request) → AskedIs Out r → Only g Is Out Kept s → Only g Is Out Kept (Requests.add_request r s)
add_only {Out = Out} {s = s} r a h = now_requests _ (all-more (AskedIs Out) s.requests r h.parts.requests a) h

pub group-has-none : (Out : Ref → Type 0) (kind : Due) (sequence : ℕ) (ids : List ObjId) → AllOf Out (references_of_message (Requests.group_frame kind sequence ids))
group-has-none Out due.Dirty sequence ids = tt
group-has-none Out (due.Clean strong) sequence ids = tt

pub part_only : {g : Setting} {Is Out : Ref → Type 0} {Kept : ParkedFrame → Type 0} {s : State} (turn : Turn) (conn call : ℕ) (part : Group) → Only g Is Out Kept s → Only g Is Out Kept (Requests.part_goes_out turn conn call s part)
unfolding Requests.part_goes_out
part_only {Out = Out} {s = s} turn conn call part h =
    send_only turn conn _ (group-has-none Out part.kind (client.numbers_of s.leases + 1) part.ids) (add_only _ tt (quiet (record s { leases = client.sent part call s.leases }) refl h))

pub go_out_only : {g : Setting} {Is Out : Ref → Type 0} {Kept : ParkedFrame → Type 0} {s : State} (turn : Turn) (conn : ℕ) (r : Request) → AskedIs Out r → Only g Is Out Kept s → Only g Is Out Kept (Requests.go_out turn conn r s)
unfolding Requests.go_out
go_out_only {g} {Is} {Out} {Kept} {s = s} turn conn r a h = goes r.asked a
  where
    goes : (asked : Asked) → AllOf Out (references_of_asked asked) → Only g Is Out Kept (Requests.goes_out turn conn r.peer asked s)
    goes (Calls number task lent kind m) b = send_only turn conn m b (add_only _ b h)
    goes (LooksUp number task name) b = send_only turn conn _ tt (add_only _ tt h)
    goes (Tells call group) b = each_only _ _ (λ t part k. part_only turn conn call part k) h

pub dial_only : {g : Setting} {Is Out : Ref → Type 0} {Kept : ParkedFrame → Type 0} {s : State} (peer : Uuid) → Only g Is Out Kept s → Only g Is Out Kept (Requests.dial peer s)
unfolding Requests.dial
dial_only {s = s} peer h = if_only (is_some (connection_to s peer) || state.is_dialling s peer) h (note_only (Says (Dial peer)) tt (quiet (record s { dialling = s.dialling ++ peer ∷ [] }) refl h))

pub ask_only : {g : Setting} {Is Out : Ref → Type 0} {Kept : ParkedFrame → Type 0} {s : State} (r : Request) → AskedIs Out r → Only g Is Out Kept s → Only g Is Out Kept (Requests.ask s r)
unfolding Requests.ask
ask_only {s = s} r a h = some_only (Requests.hello_came (connection_to s r.peer)) _ (dial_only r.peer (add_only r a h)) (λ conn is. go_out_only _ conn r a h)

pub flush_only : {g : Setting} {Is Out : Ref → Type 0} {Kept : ParkedFrame → Type 0} {s : State} (peer : Uuid) (conn : ℕ) → Only g Is Out Kept s → Only g Is Out Kept (Requests.flush_waiting peer conn s)
unfolding Requests.flush_waiting
flush_only {Out = Out} {s = s} peer conn h =
    each_with (AskedIs Out) _ _ (all-filter (AskedIs Out) (Requests.waits_for peer) s.requests h.parts.requests) (λ t r a k. go_out_only _ conn r a k)
    (now_requests _ (all-filter (AskedIs Out) (λ r. not (Requests.waits_for peer r)) s.requests h.parts.requests) h)

pub make_group_only : {g : Setting} {Is Out : Ref → Type 0} {Kept : ParkedFrame → Type 0} {s : State} (b : Group) → Only g Is Out Kept s → Only g Is Out Kept (Requests.make_group s b)
unfolding Requests.make_group
make_group_only {s = s} b h = ask_only _ tt (quiet (record s { groups_made = s.groups_made + 1; leases = client.made b (s.groups_made + 1) s.leases }) refl h)

pub settle_only : {g : Setting} {Is Out : Ref → Type 0} {Kept : ParkedFrame → Type 0} {s : State} → Only g Is Out Kept s → Only g Is Out Kept (Requests.settle s)
unfolding Requests.settle Requests.make_due Requests.ask_fresh
settle_only {g} {Is} {Out} {Kept} {s = s} h = asks (Requests.make_due s) (each_only _ _ (λ t b k. make_group_only b k) h)
  where
    asks : (t : State) → Only g Is Out Kept t → Only g Is Out Kept (each Requests.ask t.fresh (record t { fresh = [] }))
    asks t k = each_with (AskedIs Out) _ _ k.parts.fresh (λ u r a j. ask_only r a j) (now_fresh [] tt k)

-- ---- tasks

-- a task holds each reference once
pub joined-one : (Is : Ref → Type 0) (refs : List Ref) (r : Ref) → AllOf Is refs → Is r → AllOf Is (with_reference refs r)
joined-one Is refs r a p = pick (is_reference_in refs r)
  where
    pick : (b : Bool) → AllOf Is (if b then refs else refs ++ r ∷ [])
    pick true = a
    pick false = all-more Is refs r a p

pub joined-all : (Is : Ref → Type 0) (refs new : List Ref) → AllOf Is refs → AllOf Is new → AllOf Is (with_references refs new)
joined-all Is refs [] a b = a
joined-all Is refs (r ∷ new) a b = joined-all Is (with_reference refs r) new (joined-one Is refs r a b.0) b.1

pub step-held : (t : Task) → (step t).held ≡ t.held
unfolding step
step-held t = at (stand t)
  where
    at : (stands : Stand) → (Tasks.step_at stands t).held ≡ t.held
    at Runs = refl
    at (AsksFor op) = refl
    at (HasEnded outcome) = refl

pub steps-held : (k : ℕ) (t : Task) → (steps k t).held ≡ t.held
unfolding steps
steps-held zero t = refl
steps-held (suc k) t = steps-held k (step t) ∙ step-held t

abbrev pub ReplyIs : (Ref → Type 0) → Reply → Type 0
ReplyIs Is (Gives value) = AllOf Is (references_in value)
ReplyIs Is (GivesBack value fuel) = AllOf Is (references_in value)
ReplyIs Is (Throws class) = Unit {0}
ReplyIs Is RunsOut = Unit {0}

pub paid-held : (back : ℕ) (t : Task) → (Tasks.pay back t).held ≡ t.held
paid-held back t = with t.fuel
  where
    with : (fuel : ℕ) → (Tasks.pay_with fuel back t).held ≡ t.held
    with zero = refl
    with (suc left) = refl

pub answer-held : (g : Setting) (Is : Ref → Type 0) (reply : Reply) (t : Task) → ReplyIs Is reply → AllOf Is t.held → AllOf Is (answer g reply t).held
unfolding answer
answer-held g Is (Gives value) t r a = joined-all Is (Tasks.pay 0 t).held _ (subst (AllOf Is) (sym (paid-held 0 t)) a) r
answer-held g Is (GivesBack value fuel) t r a = joined-all Is (Tasks.pay fuel t).held _ (subst (AllOf Is) (sym (paid-held fuel t)) a) r
answer-held g Is (Throws class) t r a = subst (AllOf Is) (sym (paid-held 0 t)) a
answer-held g Is RunsOut t r a = subst (AllOf Is) (sym (paid-held 0 t)) a

pub start-held : (g : Setting) (Is : Ref → Type 0) (method : ℕ) (arguments : List Value) (fuel : ℕ) → AllOf Is (references_of arguments) → AllOf Is (start g method arguments fuel).held
unfolding start
start-held g Is method arguments fuel a = joined-all Is [] (references_of arguments) tt a

pub add_task_only : {g : Setting} {Is Out : Ref → Type 0} {Kept : ParkedFrame → Type 0} {s : State} (origin : Origin) (method : ℕ) (arguments : List Value) (fuel : ℕ) → AllOf Is (references_of arguments)
    → Only g Is Out Kept s → Only g Is Out Kept (LivingTasks.add_task g origin method arguments fuel s)
unfolding LivingTasks.add_task
add_task_only {g} {Is} {Out} {Kept} {s = s} origin method arguments fuel a h =
    note_only (Says (Ready (s.tasks_made + 1))) tt (hold_only _ (note_only (Says (Started (s.tasks_made + 1))) tt
    (quiet _ refl (now_tasks _ (all-more (λ (t : Living). AllOf Is t.task.held) s.tasks _ h.parts.tasks (start-held g Is method arguments fuel a)) h))))

pub keep_only : {g : Setting} {Is Out : Ref → Type 0} {Kept : ParkedFrame → Type 0} {s : State} (until : Until) (value : Option Value) → AllOf Is (references_in value) → Only g Is Out Kept s → Only g Is Out Kept (LivingTasks.keep g until value s)
keep_only {Is = Is} {s = s} until value a h = hold_only _ (now_results _ (all-more (λ (k : KeptResult). AllOf Is (references_in k.value)) s.results _ h.parts.results a) h)

pub keep_result_only : {g : Setting} {Is Out : Ref → Type 0} {Kept : ParkedFrame → Type 0} {s : State} (until : Until) (outcome : Outcome) → AllOf Is (references_in (result_of outcome)) → Only g Is Out Kept s → Only g Is Out Kept (LivingTasks.keep_result g until outcome s)
keep_result_only until (Returned value) a h = keep_only until value a h
keep_result_only until (Threw class) a h = h
keep_result_only until Spent a h = h

pub reply-out : (g : Setting) (Is Out : Ref → Type 0) (number fuel : ℕ) (outcome : Outcome) → ((r : Ref) → Is r → Out r) → AllOf Is (references_in (result_of outcome)) → AllOf Out (references_of_message (LivingTasks.reply_frame g number fuel outcome))
reply-out g Is Out number fuel (Returned value) lets a = all-weaken Is Out _ lets a
reply-out g Is Out number fuel (Threw class) lets a = tt
reply-out g Is Out number fuel Spent lets a = tt

pub report_only : {g : Setting} {Is Out : Ref → Type 0} {Kept : ParkedFrame → Type 0} {s : State} (origin : Origin) (id fuel : ℕ) (outcome : Outcome) → AllOf Is (references_in (result_of outcome)) → Only g Is Out Kept s → Only g Is Out Kept (LivingTasks.report g origin id fuel outcome s)
report_only OfRoot id fuel outcome a h = keep_result_only _ outcome a h
report_only {g} {Is} {Out} {Kept} {s = s} (OfCall conn number) id fuel outcome a h =
    if_only (is_open s conn) (send_only _ conn _ (reply-out g Is Out number fuel outcome h.parts.lets a) (keep_result_only _ outcome a h)) h

pub end_with_only : {g : Setting} {Is Out : Ref → Type 0} {Kept : ParkedFrame → Type 0} {s : State} (id : ℕ) (t : Living) (outcome : Outcome) → AllOf Is (references_in (result_of outcome)) → Only g Is Out Kept s → Only g Is Out Kept (LivingTasks.end_with g id t outcome s)
end_with_only {Is = Is} {s = s} id t outcome a h = drop_only _ (report_only t.origin id t.task.fuel outcome a
    (note_only (Says (Ended id outcome)) tt (quiet _ refl (now_tasks _ (all-filter (λ (u : Living). AllOf Is u.task.held) (λ (u : Living). not (u.id == id)) s.tasks h.parts.tasks) h))))

pub reply_task_only : {g : Setting} {Is Out : Ref → Type 0} {Kept : ParkedFrame → Type 0} {s : State} (id : ℕ) (reply : Reply) → ReplyIs Is reply → Only g Is Out Kept s → Only g Is Out Kept (LivingTasks.reply_task g id reply s)
unfolding LivingTasks.reply_task
reply_task_only {g} {Is} {s = s} id reply a h = some_only (task_at s id) _ h (λ t is. note_only (Says (Ready id)) tt (hold_only _
    (now_tasks _ (all-first (λ (u : Living). AllOf Is u.task.held) (λ (u : Living). u.id == id) (LivingTasks.after_reply g reply) s.tasks (λ u b. answer-held g Is reply u.task a b) h.parts.tasks) h)))

pub outcome-is : (Is : Ref → Type 0) (reply : Reply) → ReplyIs Is reply → AllOf Is (references_in (result_of (LivingTasks.outcome_of reply)))
outcome-is Is (Gives value) a = a
outcome-is Is (GivesBack value fuel) a = a
outcome-is Is (Throws class) a = tt
outcome-is Is RunsOut a = tt

pub reply_to_only : {g : Setting} {Is Out : Ref → Type 0} {Kept : ParkedFrame → Type 0} {s : State} (asked : Asked) (reply : Reply) → ReplyIs Is reply → Only g Is Out Kept s → Only g Is Out Kept (LivingTasks.reply_to g asked reply s)
unfolding LivingTasks.reply_to
reply_to_only (Calls number task lent kind m) reply a h = reply_task_only task reply a h
reply_to_only {Is = Is} {s = s} (LooksUp number task name) reply a h =
    keep_result_only (state.RootAcked task) (LivingTasks.outcome_of reply) (outcome-is Is reply a) (note_only (Says (Ended task (LivingTasks.outcome_of reply))) tt h)
reply_to_only (Tells call group) reply a h = h

-- ---- operations on the store

-- what an operation brings: the reference of the object that it makes, or a value that it writes to an object that was made; the fields
-- that it reads are there
abbrev pub OpBrings : Setting → (Ref → Type 0) → ℕ → List Stored → Op → Type 0
OpBrings g Is made store (Create class) = nat_le 65536 (length (standing store)) ≡ false → Is (record { space = g.id; id = record { 0 = made + 1 }; class = class })
OpBrings g Is made store (Get id slot) = (o : Object) → find (λ (p : Object). is_id p.id id) (standing store) ≡ Some o → is_some (field_kind g.classes o.class slot) ≡ true
OpBrings g Is made store (Put id slot value) = (id.0 ≤ made) × AllOf Is (reference_of value)
OpBrings g Is made store (Call target method arguments) = Unit {0}

-- a value that is written is one of the kind
pub put-fields : {g : Setting} {Is Out : Ref → Type 0} {Kept : ParkedFrame → Type 0} {c : Parts} (to : ObjId) (at : ℕ) (value : Value) → AllOf Is (reference_of value) → Holds g Is Out Kept c
    → AllOf (FieldsAre g Is (Written to at value ∷ c.store)) (standing c.store)
put-fields {g} {Is} {c = c} to at value a h = all-weaken (FieldsAre g Is c.store) (FieldsAre g Is (Written to at value ∷ c.store)) (standing c.store) (λ o f slot has. pick o slot (is_id to o.id && at == slot) (f slot has)) h.fields
  where
    pick : (o : Object) (slot : ℕ) (b : Bool) → AllOf Is (references_in (last_written c.store o.id slot)) → AllOf Is (references_in (if b then Some value else last_written c.store o.id slot))
    pick o slot true f = a
    pick o slot false f = f

pub put-unwritten : {g : Setting} {Is Out : Ref → Type 0} {Kept : ParkedFrame → Type 0} {c : Parts} (to : ObjId) (at : ℕ) (value : Value) → to.0 ≤ c.objects_made → Holds g Is Out Kept c → (id : ObjId) (slot : ℕ)
    → c.objects_made + 1 ≤ id.0 → last_written (Written to at value ∷ c.store) id slot ≡ None
put-unwritten {c = c} to at value low h id slot high = pick (is_id to id) refl
  where
    pick : (b : Bool) → is_id to id ≡ b → (if b && at == slot then Some value else last_written c.store id slot) ≡ None
    pick true is = let n : to.0 ≡ id.0 = ap (λ (i : ObjId). i.0) (one-id to id is) in absurd (omega (arith, n))
    pick false is = h.unwritten id slot high

pub after_op_only : {g : Setting} {Is Out : Ref → Type 0} {Kept : ParkedFrame → Type 0} {s : State} (op : Op) → OpBrings g Is s.objects_made s.store op → Only g Is Out Kept s → Only g Is Out Kept (LivingTasks.after_op g op s)
unfolding LivingTasks.after_op
after_op_only {g} {Is} {Out} {Kept} {s = s} (Create class) b h = pick (LivingTasks.is_full s) refl
  where
    made : Is (record { space = g.id; id = record { 0 = s.objects_made + 1 }; class = class }) → Only g Is Out Kept (record s { objects_made = s.objects_made + 1; store = Made (LivingTasks.next_object s) class ∷ s.store })
    made is = record {
      parts = record {
        lets = h.parts.lets;
        objects = all-more (λ (o : Object). Is (own_reference g o)) (standing s.store) _ h.parts.objects is;
        numbers = all-more (λ (o : Object). o.id.0 ≤ s.objects_made + 1) (standing s.store) _ (all-weaken (λ (o : Object). o.id.0 ≤ s.objects_made) (λ (o : Object). o.id.0 ≤ s.objects_made + 1) _ (λ o le. omega (arith, le)) h.parts.numbers) (omega arith);
        unwritten = λ id slot high. h.parts.unwritten id slot (omega (arith, high));
        fields = all-more (FieldsAre g Is s.store) (standing s.store) _ h.parts.fields (λ slot has. subst (λ v. AllOf Is (references_in v)) (sym (h.parts.unwritten (LivingTasks.next_object s) slot (omega arith))) tt);
        tasks = h.parts.tasks;
        results = h.parts.results;
        parked = h.parts.parked;
        kept = h.parts.kept;
        requests = h.parts.requests;
        fresh = h.parts.fresh;
        notes = h.parts.notes;
      };
    }

    pick : (full : Bool) → LivingTasks.is_full s ≡ full → Only g Is Out Kept (if full then s else record s { objects_made = s.objects_made + 1; store = Made (LivingTasks.next_object s) class ∷ s.store })
    pick true e = h
    pick false e = made (b e)
after_op_only (Get id slot) b h = h
after_op_only {g} {Is} {Out} {Kept} {s = s} (Put id slot value) b h = drop_only _ (hold_only _ written)
  where
    written : Only g Is Out Kept (record s { store = Written id slot value ∷ s.store })
    written = record {
      parts = record {
        lets = h.parts.lets;
        objects = h.parts.objects;
        numbers = h.parts.numbers;
        unwritten = put-unwritten id slot value b.0 h.parts;
        fields = put-fields id slot value b.1 h.parts;
        tasks = h.parts.tasks;
        results = h.parts.results;
        parked = h.parts.parked;
        kept = h.parts.kept;
        requests = h.parts.requests;
        fresh = h.parts.fresh;
        notes = h.parts.notes;
      };
    }
after_op_only (Call target method arguments) b h = h

pub blank-has-none : (Is : Ref → Type 0) (kind : Option Kind) → AllOf Is (reference_of (blank kind))
blank-has-none Is None = tt
blank-has-none Is (Some IntKind) = tt
blank-has-none Is (Some IntArrayKind) = tt
blank-has-none Is (Some ReferenceKind) = tt
blank-has-none Is (Some VoidKind) = tt

-- what a slot holds
pub slot-is : (Is : Ref → Type 0) (kind : Option Kind) (v : Option Value) → AllOf Is (references_in v) → AllOf Is (reference_of (unwrap_or v (blank kind)))
slot-is Is kind None a = blank-has-none Is kind
slot-is Is kind (Some v) a = a

pub value-is : {g : Setting} {Is Out : Ref → Type 0} {Kept : ParkedFrame → Type 0} {s : State} (id : ObjId) (slot : ℕ) → ((o : Object) → object_at s id ≡ Some o → is_some (field_kind g.classes o.class slot) ≡ true) → Only g Is Out Kept s
    → (o : Option Object) → object_at s id ≡ o → AllOf Is (references_in (LivingTasks.value_at g s id slot o))
value-is id slot b h None e = tt
value-is {g} {Is} {s = s} id slot b h (Some o) e = slot-is Is (field_kind g.classes o.class slot) (last_written s.store id slot)
    (subst (λ i. AllOf Is (references_in (last_written s.store i slot))) (one-id o.id id (found-is (λ (q : Object). is_id q.id id) (standing s.store) o e))
    (all-found (FieldsAre g Is s.store) (λ (q : Object). is_id q.id id) (standing s.store) o e h.parts.fields slot (b o e)))

pub op-reply-is : {g : Setting} {Is Out : Ref → Type 0} {Kept : ParkedFrame → Type 0} {s : State} (op : Op) → OpBrings g Is s.objects_made s.store op → Only g Is Out Kept s → ReplyIs Is (LivingTasks.op_reply g op s)
unfolding LivingTasks.op_reply
op-reply-is {g} {Is} {s = s} (Create class) b h = pick (LivingTasks.is_full s) refl
  where
    pick : (full : Bool) → LivingTasks.is_full s ≡ full → ReplyIs Is (if full then Throws g.classes.out_of_memory else Gives (Some (values.Ref (record { space = g.id; id = LivingTasks.next_object s; class = class }))))
    pick true e = tt
    pick false e = (b e, tt)
op-reply-is {s = s} (Get id slot) b h = value-is id slot b h (object_at s id) refl
op-reply-is (Put id slot value) b h = tt
op-reply-is (Call target method arguments) b h = tt

-- holders leave the store
pub held-store : (ids : List ForeignId) (s : State) → ((hold_ids ids s).store ≡ s.store) × ((hold_ids ids s).objects_made ≡ s.objects_made)
unfolding hold_ids each
held-store [] s = (refl, refl)
held-store (r ∷ ids) s = held-store ids (Holders.holder_comes s r)

pub commit_only : {g : Setting} {Is Out : Ref → Type 0} {Kept : ParkedFrame → Type 0} {s : State} (id k : ℕ) (op : Op) → OpBrings g Is s.objects_made s.store op → Only g Is Out Kept s → Only g Is Out Kept (LivingTasks.commit g id k op s)
unfolding LivingTasks.commit
commit_only {g} {Is} {Out} {Kept} {s = s} id k op b h = some_only (ready_at s id) _ h (λ t is. after (foreign_ids g.id (Tasks.gained t.task (answer g (LivingTasks.op_reply g op s) (steps k t.task)))))
  where
    changed : Living → Living
    changed u = LivingTasks.after_reply g (LivingTasks.op_reply g op s) (LivingTasks.after_steps k u)

    held : (u : Living) → AllOf Is u.task.held → AllOf Is (changed u).task.held
    held u a = answer-held g Is (LivingTasks.op_reply g op s) (steps k u.task) (op-reply-is op b h) (subst (AllOf Is) (sym (steps-held k u.task)) a)

    t' : State
    t' = record s { tasks = at_first (λ (u : Living). u.id == id) changed s.tasks }

    after : (ids : List ForeignId) → Only g Is Out Kept (LivingTasks.after_op g op (hold_ids ids t'))
    after ids =
        let e : ((hold_ids ids t').store ≡ s.store) × ((hold_ids ids t').objects_made ≡ s.objects_made) = held-store ids t' in
        after_op_only op (subst (λ n. OpBrings g Is n (hold_ids ids t').store op) (sym e.1) (subst (λ st. OpBrings g Is s.objects_made st op) (sym e.0) b))
        (hold_only ids (now_tasks _ (all-first (λ (u : Living). AllOf Is u.task.held) (λ (u : Living). u.id == id) changed s.tasks held h.parts.tasks) h))

-- ---- calls and ends of a lent task

-- the references in a call that a task asks for, and in its result
abbrev pub CallIs : (Ref → Type 0) → Stand → Type 0
CallIs Out Runs = Unit {0}
CallIs Out (AsksFor (Create class)) = Unit {0}
CallIs Out (AsksFor (Get id slot)) = Unit {0}
CallIs Out (AsksFor (Put id slot value)) = Unit {0}
CallIs Out (AsksFor (Call target method arguments)) = AllOf Out (references_of arguments)
CallIs Out (HasEnded outcome) = Unit {0}

abbrev pub EndIs : (Ref → Type 0) → Stand → Type 0
EndIs Is Runs = Unit {0}
EndIs Is (AsksFor op) = Unit {0}
EndIs Is (HasEnded outcome) = AllOf Is (references_in (result_of outcome))

pub waiting-held : (Is : Ref → Type 0) (k : ℕ) (u : Living) → AllOf Is u.task.held → AllOf Is (LivingTasks.waiting k u).task.held
unfolding lend_fuel
waiting-held Is k u a = subst (AllOf Is) (sym (steps-held k u.task)) a

pub park_only : {g : Setting} {Is Out : Ref → Type 0} {Kept : ParkedFrame → Type 0} {s : State} (id k : ℕ) → ((t : Living) → ready_at s id ≡ Some t → CallIs Out (stand (steps k t.task))) → Only g Is Out Kept s → Only g Is Out Kept (LivingTasks.park_call g id k s)
unfolding LivingTasks.park_call
park_only {g} {Is} {Out} {Kept} {s = s} id k b h = some_only (ready_at s id) _ h (λ t is. at t (stand (steps k t.task)) (b t is))
  where
    waits : Only g Is Out Kept (set_task (LivingTasks.waiting k) id s)
    waits = now_tasks _ (all-first (λ (u : Living). AllOf Is u.task.held) (λ (u : Living). u.id == id) (LivingTasks.waiting k) s.tasks (λ u a. waiting-held Is k u a) h.parts.tasks) h

    parks : (t : Living) (op : Op) → CallIs Out (AsksFor op) → Only g Is Out Kept (LivingTasks.park_op g id k t op s)
    parks t (Create class) a = h
    parks t (Get o slot) a = h
    parks t (Put o slot value) a = h
    parks t (Call target method arguments) a = now_fresh _ (a, tt) (quiet (record (set_task (LivingTasks.waiting k) id s) { calls_made = s.calls_made + 1 }) refl waits)

    at : (t : Living) (stands : Stand) → CallIs Out stands → Only g Is Out Kept (LivingTasks.park_at g id k t stands s)
    at t Runs a = h
    at t (AsksFor op) a = parks t op a
    at t (HasEnded outcome) a = h

pub give_back_only : {g : Setting} {Is Out : Ref → Type 0} {Kept : ParkedFrame → Type 0} {s : State} (id k : ℕ) → Only g Is Out Kept s → Only g Is Out Kept (LivingTasks.give_back id k s)
unfolding LivingTasks.give_back
give_back_only {Is = Is} {s = s} id k h = some_only (ready_at s id) _ h (λ t is. now_tasks _
    (all-first (λ (u : Living). AllOf Is u.task.held) (λ (u : Living). u.id == id) (LivingTasks.after_steps k) s.tasks (λ u a. subst (AllOf Is) (sym (steps-held k u.task)) a) h.parts.tasks) h)

pub finish_only : {g : Setting} {Is Out : Ref → Type 0} {Kept : ParkedFrame → Type 0} {s : State} (id k : ℕ) → ((t : Living) → ready_at s id ≡ Some t → EndIs Is (stand (steps k t.task))) → Only g Is Out Kept s → Only g Is Out Kept (LivingTasks.finish_task g id k s)
unfolding LivingTasks.finish_task
finish_only {g} {Is} {Out} {Kept} {s = s} id k b h = some_only (ready_at s id) _ h (λ t is. at (LivingTasks.after_steps k t) (stand (steps k t.task)) (b t is))
  where
    at : (t : Living) (stands : Stand) → EndIs Is stands → Only g Is Out Kept (LivingTasks.end_at g id t stands s)
    at t Runs a = h
    at t (AsksFor op) a = h
    at t (HasEnded outcome) a = end_with_only id t outcome a h
