-- Each rule of tasks keeps the references that are started, those in tasks, fields and held results, of one kind, and what is told of leases.
use mathlib.Core.Path.{sym, ap, subst}
use Rattle.std.specs.Prelude.{◌≡◌, refl, ℕ, ◌+◌, ◌≤◌, ◌==◌, ◌&&◌, ◌||◌, not, is_some, Bool, true, false, List, [], ◌∷◌, Option, None, Some, if◌then◌else◌}
use Rattle.std.proofs.Common.{arith}
use Rattle.dgc_client.specs.History as lease_events
use Rattle.dgc_client.specs.Table as client
use Rattle.dgc_client.specs.Table.{Told, On, At, Numbered}
use Rattle.dgc_client.specs.declared.groups.Group.{Group}
use Rattle.dgc_client.specs.declared.lease.Due.{Due}
use Rattle.dgc_client.specs.declared.lease.Due.TheVariants as due
use Rattle.space_ids.specs.declared.ids.ClassId.{ClassId}
use Rattle.space_ids.specs.declared.ids.ForeignId.{ForeignId}
use Rattle.space_ids.specs.declared.ids.ObjId.{ObjId}
use Rattle.space_ids.specs.declared.ids.Ref.{Ref}
use Rattle.space_ids.specs.declared.value.Value.{Value}
use Rattle.net_message.specs.declared.message.Message.{Message}
use Rattle.uuid.specs.declared.Uuid.{Uuid}
use Rattle.sp_rules.specs.Behaviours.{Outcome, Returned, Threw, Spent, Op, Create, Get, Put, Call, Reply}
use Rattle.sp_rules.specs.Classes.{Setting, field_kind}
use Rattle.sp_rules.specs.Events.{Turn}
use Rattle.sp_rules.specs.Holders
use Rattle.sp_rules.specs.Holders.{hold_ids, drop_ids}
use Rattle.sp_rules.specs.Laws.{AllOf}
use Rattle.sp_rules.specs.Lists.{each, with_some, at_first}
use Rattle.sp_rules.specs.LivingTasks
use Rattle.sp_rules.specs.References.{references_of, references_in, reference_of, foreign_ids, is_id}
use Rattle.sp_rules.specs.Refusals.{result_of}
use Rattle.sp_rules.specs.Requests
use Rattle.sp_rules.specs.State as state
use Rattle.sp_rules.specs.State.{State, Object, Stored, Made, Written, Gone, Living, Origin, OfRoot, OfCall, Until, Request, Asked, Calls, LooksUp, Tells, Connection, KeptResult, ParkedFrame, standing, last_written, task_at, ready_at, object_at, connection_at, connection_to, is_open, set_task, send}
use Rattle.sp_rules.specs.Tasks
use Rattle.sp_rules.specs.Tasks.{Stand, Runs, AsksFor, HasEnded, stand, steps, answer, lend_fuel}
use Rattle.sp_rules.proofs.AllLemmas.{all-weaken, all-more, all-filter, all-first, all-found, found-is}
use Rattle.sp_rules.proofs.OriginLemmas.{FieldsAre, ReplyIs, answer-held, start-held, steps-held, waiting-held, outcome-is, OpBrings, EndIs, held-store, slot-is}
use Rattle.sp_rules.proofs.SweepLemmas.{one-id}

-- ---- what is kept

-- the parts that are looked at
pub record Stocks : Type 0 where
  pub objects_made : ℕ
  pub store : List Stored
  pub tasks : List Living
  pub results : List KeptResult
  pub leases : List Told
  pub parked : List ParkedFrame

abbrev pub stocks_of : State → Stocks
stocks_of s = record { objects_made = s.objects_made; store = s.store; tasks = s.tasks; results = s.results; leases = s.leases; parked = s.parked }

pub record Stock (g : Setting) (Is : Ref → Type 0) (T : List Told → Type 0) (K : ParkedFrame → Type 0) (c : Stocks) : Type 0 where
  pub numbers : AllOf (λ (o : Object). o.id.0 ≤ c.objects_made) (standing c.store)
  pub unwritten : (id : ObjId) (slot : ℕ) → c.objects_made + 1 ≤ id.0 → last_written c.store id slot ≡ None
  pub fields : AllOf (FieldsAre g Is c.store) (standing c.store)
  pub tasks : AllOf (λ (t : Living). AllOf Is t.task.held) c.tasks
  pub results : AllOf (λ (k : KeptResult). AllOf Is (references_in k.value)) c.results
  pub told : T c.leases
  pub parked : AllOf K c.parked

-- What is started is all of a kind, what was told of leases has a property, and so has each parked frame.
pub record Grown (g : Setting) (Is : Ref → Type 0) (T : List Told → Type 0) (K : ParkedFrame → Type 0) (s : State) : Type 0 where
  pub parts : Stock g Is T K (stocks_of s)

-- an event of a reference that makes no call and answers no dirty call
abbrev pub is_plain : lease_events.Event → Bool
is_plain lease_events.Held = true
is_plain lease_events.Dropped = true
is_plain (lease_events.Moment moment) = false
is_plain (lease_events.DirtyMade call) = false
is_plain (lease_events.CleanMade call) = false
is_plain (lease_events.DirtySent call) = true
is_plain (lease_events.DirtyAnswered call period) = false
is_plain (lease_events.DirtyFailed call) = true
is_plain (lease_events.CleanAnswered call) = true
is_plain (lease_events.CleanFailed call) = true

-- Own references are of the kind; and what is told but for calls that are made and answered keeps the property.
pub record Plain (g : Setting) (Is : Ref → Type 0) (T : List Told → Type 0) : Type 0 where
  pub own : (id : ObjId) (class : ClassId) → Is (record { space = g.id; id = id; class = class })
  pub on : (x : ForeignId) (e : lease_events.Event) (h : List Told) → is_plain e ≡ true → T h → T (On x e ∷ h)
  pub at : (moment : ℕ) (h : List Told) → T h → T (At moment ∷ h)
  pub numbered : (h : List Told) → T h → T (Numbered ∷ h)

-- ---- small steps

pub quiet : {g : Setting} {Is : Ref → Type 0} {T : List Told → Type 0} {K : ParkedFrame → Type 0} {s : State} (t : State) → stocks_of t ≡ stocks_of s → Grown g Is T K s → Grown g Is T K t
quiet {g} {Is} {T} {K} t e h = record { parts = subst (Stock g Is T K) (sym e) h.parts }

pub now_tasks : {g : Setting} {Is : Ref → Type 0} {T : List Told → Type 0} {K : ParkedFrame → Type 0} {s : State} (xs : List Living) → AllOf (λ (t : Living). AllOf Is t.task.held) xs → Grown g Is T K s → Grown g Is T K (record s { tasks = xs })
now_tasks xs a h = record { parts = record { numbers = h.parts.numbers; unwritten = h.parts.unwritten; fields = h.parts.fields; tasks = a; results = h.parts.results; told = h.parts.told; parked = h.parts.parked } }

pub now_results : {g : Setting} {Is : Ref → Type 0} {T : List Told → Type 0} {K : ParkedFrame → Type 0} {s : State} (xs : List KeptResult) → AllOf (λ (k : KeptResult). AllOf Is (references_in k.value)) xs → Grown g Is T K s → Grown g Is T K (record s { results = xs })
now_results xs a h = record { parts = record { numbers = h.parts.numbers; unwritten = h.parts.unwritten; fields = h.parts.fields; tasks = h.parts.tasks; results = a; told = h.parts.told; parked = h.parts.parked } }

pub now_told : {g : Setting} {Is : Ref → Type 0} {T : List Told → Type 0} {K : ParkedFrame → Type 0} {s : State} (xs : List Told) → T xs → Grown g Is T K s → Grown g Is T K (record s { leases = xs })
now_told xs a h = record { parts = record { numbers = h.parts.numbers; unwritten = h.parts.unwritten; fields = h.parts.fields; tasks = h.parts.tasks; results = h.parts.results; told = a; parked = h.parts.parked } }

pub if_grown : {g : Setting} {Is : Ref → Type 0} {T : List Told → Type 0} {K : ParkedFrame → Type 0} {t u : State} (b : Bool) → Grown g Is T K t → Grown g Is T K u → Grown g Is T K (if b then t else u)
if_grown true h k = h
if_grown false h k = k

pub some_grown : {g : Setting} {Is : Ref → Type 0} {T : List Told → Type 0} {K : ParkedFrame → Type 0} {A : Type 0} {t : State} (x : Option A) (f : A → State)
    → Grown g Is T K t → ((a : A) → x ≡ Some a → Grown g Is T K (f a)) → Grown g Is T K (with_some x t f)
some_grown None f h k = h
some_grown (Some a) f h k = k a refl

pub each_grown : {g : Setting} {Is : Ref → Type 0} {T : List Told → Type 0} {K : ParkedFrame → Type 0} {A : Type 0} {s : State} (f : State → A → State) (xs : List A)
    → ((t : State) (x : A) → Grown g Is T K t → Grown g Is T K (f t x)) → Grown g Is T K s → Grown g Is T K (each f xs s)
unfolding each
each_grown f [] k h = h
each_grown {s = s} f (x ∷ xs) k h = each_grown f xs k (k s x h)

pub send_grown : {g : Setting} {Is : Ref → Type 0} {T : List Told → Type 0} {K : ParkedFrame → Type 0} {s : State} (turn : Turn) (conn : ℕ) (m : Message) → Grown g Is T K s → Grown g Is T K (send turn conn m s)
unfolding send
send_grown {s = s} turn conn m h = if_grown (is_open s conn) (quiet _ refl h) h

pub hold_grown : {g : Setting} {Is : Ref → Type 0} {T : List Told → Type 0} {K : ParkedFrame → Type 0} {s : State} (M : Plain g Is T) (ids : List ForeignId) → Grown g Is T K s → Grown g Is T K (hold_ids ids s)
unfolding hold_ids
hold_grown M ids h = each_grown Holders.holder_comes ids (λ t x k. now_told _ (M.on x lease_events.Held t.leases refl k.parts.told) k) h

pub drop_grown : {g : Setting} {Is : Ref → Type 0} {T : List Told → Type 0} {K : ParkedFrame → Type 0} {s : State} (M : Plain g Is T) (ids : List ForeignId) → Grown g Is T K s → Grown g Is T K (drop_ids ids s)
unfolding drop_ids
drop_grown M ids h = each_grown Holders.holder_goes ids (λ t x k. now_told _ (M.on x lease_events.Dropped t.leases refl k.parts.told) k) h

-- ---- requests go out

pub on-each : {g : Setting} {Is : Ref → Type 0} {T : List Told → Type 0} (M : Plain g Is T) (e : lease_events.Event) → is_plain e ≡ true → (xs : List ForeignId) (h : List Told) → T h → T (client.on_each xs e h)
on-each M e p [] h a = a
on-each M e p (x ∷ xs) h a = on-each M e p xs (On x e ∷ h) (M.on x e h p a)

pub sent-told : {g : Setting} {Is : Ref → Type 0} {T : List Told → Type 0} (M : Plain g Is T) (part : Group) (call : ℕ) (h : List Told) → T h → T (client.sent part call h)
sent-told {g} {Is} {T} M part call h a = M.numbered _ (by part.kind)
  where
    by : (kind : Due) → T (client.sent_as kind part call h)
    by due.Dirty = on-each M (lease_events.DirtySent call) refl (client.references_at part.peer part.ids) h a
    by (due.Clean strong) = a

part_grown : {g : Setting} {Is : Ref → Type 0} {T : List Told → Type 0} {K : ParkedFrame → Type 0} {s : State} (M : Plain g Is T) (turn : Turn) (conn call : ℕ) (part : Group) → Grown g Is T K s → Grown g Is T K (Requests.part_goes_out turn conn call s part)
unfolding Requests.part_goes_out
part_grown {s = s} M turn conn call part h = send_grown turn conn _ (quiet _ refl (now_told (client.sent part call s.leases) (sent-told M part call s.leases h.parts.told) h))

pub go_out_grown : {g : Setting} {Is : Ref → Type 0} {T : List Told → Type 0} {K : ParkedFrame → Type 0} {s : State} (M : Plain g Is T) (turn : Turn) (conn : ℕ) (r : Request) → Grown g Is T K s → Grown g Is T K (Requests.go_out turn conn r s)
unfolding Requests.go_out
go_out_grown {g} {Is} {T} {K} {s} M turn conn r h = goes r.asked
  where
    goes : (asked : Asked) → Grown g Is T K (Requests.goes_out turn conn r.peer asked s)
    goes (Calls number task lent kind m) = send_grown turn conn m (quiet _ refl h)
    goes (LooksUp number task name) = send_grown turn conn _ (quiet _ refl h)
    goes (Tells call group) = each_grown _ _ (λ t part k. part_grown M turn conn call part k) h

pub dial_grown : {g : Setting} {Is : Ref → Type 0} {T : List Told → Type 0} {K : ParkedFrame → Type 0} {s : State} (peer : Uuid) → Grown g Is T K s → Grown g Is T K (Requests.dial peer s)
unfolding Requests.dial
dial_grown {s = s} peer h = if_grown (is_some (connection_to s peer) || state.is_dialling s peer) h (quiet _ refl h)

pub ask_grown : {g : Setting} {Is : Ref → Type 0} {T : List Told → Type 0} {K : ParkedFrame → Type 0} {s : State} (M : Plain g Is T) (r : Request) → Grown g Is T K s → Grown g Is T K (Requests.ask s r)
unfolding Requests.ask
ask_grown {s = s} M r h = some_grown (Requests.hello_came (connection_to s r.peer)) _ (dial_grown r.peer (quiet _ refl h)) (λ conn is. go_out_grown M _ conn r h)

pub flush_grown : {g : Setting} {Is : Ref → Type 0} {T : List Told → Type 0} {K : ParkedFrame → Type 0} {s : State} (M : Plain g Is T) (peer : Uuid) (conn : ℕ) → Grown g Is T K s → Grown g Is T K (Requests.flush_waiting peer conn s)
unfolding Requests.flush_waiting
flush_grown M peer conn h = each_grown _ _ (λ t r k. go_out_grown M _ conn r k) (quiet _ refl h)

-- ---- tasks

pub add_task_grown : {g : Setting} {Is : Ref → Type 0} {T : List Told → Type 0} {K : ParkedFrame → Type 0} {s : State} (M : Plain g Is T) (origin : Origin) (method : ℕ) (arguments : List Value) (fuel : ℕ) → AllOf Is (references_of arguments)
    → Grown g Is T K s → Grown g Is T K (LivingTasks.add_task g origin method arguments fuel s)
unfolding LivingTasks.add_task
add_task_grown {g} {Is} {T} {K} {s} M origin method arguments fuel a h =
    quiet _ refl (hold_grown M _ (quiet _ refl (now_tasks _ (all-more (λ (t : Living). AllOf Is t.task.held) s.tasks _ h.parts.tasks (start-held g Is method arguments fuel a)) h)))

pub keep_grown : {g : Setting} {Is : Ref → Type 0} {T : List Told → Type 0} {K : ParkedFrame → Type 0} {s : State} (M : Plain g Is T) (until : Until) (value : Option Value) → AllOf Is (references_in value) → Grown g Is T K s → Grown g Is T K (LivingTasks.keep g until value s)
keep_grown {Is = Is} {s = s} M until value a h = hold_grown M _ (now_results _ (all-more (λ (k : KeptResult). AllOf Is (references_in k.value)) s.results _ h.parts.results a) h)

pub keep_result_grown : {g : Setting} {Is : Ref → Type 0} {T : List Told → Type 0} {K : ParkedFrame → Type 0} {s : State} (M : Plain g Is T) (until : Until) (outcome : Outcome) → AllOf Is (references_in (result_of outcome)) → Grown g Is T K s → Grown g Is T K (LivingTasks.keep_result g until outcome s)
keep_result_grown M until (Returned value) a h = keep_grown M until value a h
keep_result_grown M until (Threw class) a h = h
keep_result_grown M until Spent a h = h

report_grown : {g : Setting} {Is : Ref → Type 0} {T : List Told → Type 0} {K : ParkedFrame → Type 0} {s : State} (M : Plain g Is T) (origin : Origin) (id fuel : ℕ) (outcome : Outcome) → AllOf Is (references_in (result_of outcome)) → Grown g Is T K s → Grown g Is T K (LivingTasks.report g origin id fuel outcome s)
report_grown M OfRoot id fuel outcome a h = keep_result_grown M _ outcome a h
report_grown {s = s} M (OfCall conn number) id fuel outcome a h = if_grown (is_open s conn) (send_grown _ conn _ (keep_result_grown M _ outcome a h)) h

end_with_grown : {g : Setting} {Is : Ref → Type 0} {T : List Told → Type 0} {K : ParkedFrame → Type 0} {s : State} (M : Plain g Is T) (id : ℕ) (t : Living) (outcome : Outcome) → AllOf Is (references_in (result_of outcome)) → Grown g Is T K s → Grown g Is T K (LivingTasks.end_with g id t outcome s)
end_with_grown {Is = Is} {s = s} M id t outcome a h = drop_grown M _ (report_grown M t.origin id t.task.fuel outcome a
    (quiet _ refl (now_tasks _ (all-filter (λ (u : Living). AllOf Is u.task.held) (λ (u : Living). not (u.id == id)) s.tasks h.parts.tasks) h)))

pub reply_to_grown : {g : Setting} {Is : Ref → Type 0} {T : List Told → Type 0} {K : ParkedFrame → Type 0} {s : State} (M : Plain g Is T) (asked : Asked) (reply : Reply) → ReplyIs Is reply → Grown g Is T K s → Grown g Is T K (LivingTasks.reply_to g asked reply s)
unfolding LivingTasks.reply_to LivingTasks.reply_task
reply_to_grown {g} {Is} {s = s} M (Calls number task lent kind m) reply a h = some_grown (task_at s task) _ h (λ t is. quiet _ refl (hold_grown M _
    (now_tasks _ (all-first (λ (u : Living). AllOf Is u.task.held) (λ (u : Living). u.id == task) (LivingTasks.after_reply g reply) s.tasks (λ u b. answer-held g Is reply u.task a b) h.parts.tasks) h)))
reply_to_grown {Is = Is} M (LooksUp number task name) reply a h = keep_result_grown M (state.RootAcked task) (LivingTasks.outcome_of reply) (outcome-is Is reply a) (quiet _ refl h)
reply_to_grown M (Tells call group) reply a h = h

-- ---- operations on the store

made_grown : {g : Setting} {Is : Ref → Type 0} {T : List Told → Type 0} {K : ParkedFrame → Type 0} {s : State} (class : ClassId) → Grown g Is T K s → Grown g Is T K (record s { objects_made = s.objects_made + 1; store = Made (LivingTasks.next_object s) class ∷ s.store })
made_grown {g} {Is} {s = s} class h = record {
  parts = record {
    numbers = all-more (λ (o : Object). o.id.0 ≤ s.objects_made + 1) (standing s.store) _ (all-weaken (λ (o : Object). o.id.0 ≤ s.objects_made) (λ (o : Object). o.id.0 ≤ s.objects_made + 1) _ (λ o le. omega (arith, le)) h.parts.numbers) (omega arith);
    unwritten = λ id slot high. h.parts.unwritten id slot (omega (arith, high));
    fields = all-more (FieldsAre g Is s.store) (standing s.store) _ h.parts.fields (λ slot has. subst (λ v. AllOf Is (references_in v)) (sym (h.parts.unwritten (LivingTasks.next_object s) slot (omega arith))) tt);
    tasks = h.parts.tasks;
    results = h.parts.results;
    told = h.parts.told;
    parked = h.parts.parked;
  };
}

written_grown : {g : Setting} {Is : Ref → Type 0} {T : List Told → Type 0} {K : ParkedFrame → Type 0} {s : State} (to : ObjId) (at : ℕ) (value : Value) → to.0 ≤ s.objects_made → AllOf Is (reference_of value) → Grown g Is T K s → Grown g Is T K (record s { store = Written to at value ∷ s.store })
written_grown {g} {Is} {T} {K} {s} to at value low a h = record {
  parts = record {
    numbers = h.parts.numbers;
    unwritten = unwritten;
    fields = all-weaken (FieldsAre g Is s.store) (FieldsAre g Is (Written to at value ∷ s.store)) (standing s.store) (λ o f slot has. field o slot (is_id to o.id && at == slot) (f slot has)) h.parts.fields;
    tasks = h.parts.tasks;
    results = h.parts.results;
    told = h.parts.told;
    parked = h.parts.parked;
  };
}
  where
    field : (o : Object) (slot : ℕ) (b : Bool) → AllOf Is (references_in (last_written s.store o.id slot)) → AllOf Is (references_in (if b then Some value else last_written s.store o.id slot))
    field o slot true f = a
    field o slot false f = f

    unwritten : (id : ObjId) (slot : ℕ) → s.objects_made + 1 ≤ id.0 → last_written (Written to at value ∷ s.store) id slot ≡ None
    unwritten id slot high = pick (is_id to id) refl
      where
        pick : (b : Bool) → is_id to id ≡ b → (if b && at == slot then Some value else last_written s.store id slot) ≡ None
        pick true is = let n : to.0 ≡ id.0 = ap (λ (i : ObjId). i.0) (one-id to id is) in absurd (omega (arith, n))
        pick false is = h.parts.unwritten id slot high

after_op_grown : {g : Setting} {Is : Ref → Type 0} {T : List Told → Type 0} {K : ParkedFrame → Type 0} {s : State} (M : Plain g Is T) (op : Op) → OpBrings g Is s.objects_made s.store op → Grown g Is T K s → Grown g Is T K (LivingTasks.after_op g op s)
unfolding LivingTasks.after_op
after_op_grown {s = s} M (Create class) b h = if_grown (LivingTasks.is_full s) h (made_grown class h)
after_op_grown M (Get id slot) b h = h
after_op_grown M (Put id slot value) b h = drop_grown M _ (hold_grown M _ (written_grown id slot value b.0 b.1 h))
after_op_grown M (Call target method arguments) b h = h

value-is : {g : Setting} {Is : Ref → Type 0} {T : List Told → Type 0} {K : ParkedFrame → Type 0} {s : State} (id : ObjId) (slot : ℕ) → ((o : Object) → object_at s id ≡ Some o → is_some (field_kind g.classes o.class slot) ≡ true) → Grown g Is T K s
    → (o : Option Object) → object_at s id ≡ o → AllOf Is (references_in (LivingTasks.value_at g s id slot o))
value-is id slot b h None e = tt
value-is {g} {Is} {s = s} id slot b h (Some o) e = slot-is Is (field_kind g.classes o.class slot) (last_written s.store id slot)
    (subst (λ i. AllOf Is (references_in (last_written s.store i slot))) (one-id o.id id (found-is (λ (q : Object). is_id q.id id) (standing s.store) o e))
    (all-found (FieldsAre g Is s.store) (λ (q : Object). is_id q.id id) (standing s.store) o e h.parts.fields slot (b o e)))

op-reply-is : {g : Setting} {Is : Ref → Type 0} {T : List Told → Type 0} {K : ParkedFrame → Type 0} {s : State} (op : Op) → OpBrings g Is s.objects_made s.store op → Grown g Is T K s → ReplyIs Is (LivingTasks.op_reply g op s)
unfolding LivingTasks.op_reply
op-reply-is {g} {Is} {s = s} (Create class) b h = pick (LivingTasks.is_full s) refl
  where
    pick : (full : Bool) → LivingTasks.is_full s ≡ full → ReplyIs Is (if full then Rattle.sp_rules.specs.Behaviours.Throws g.classes.out_of_memory else Rattle.sp_rules.specs.Behaviours.Gives (Some (Rattle.space_ids.specs.declared.value.Value.TheVariants.Ref (record { space = g.id; id = LivingTasks.next_object s; class = class }))))
    pick true e = tt
    pick false e = (b e, tt)
op-reply-is {s = s} (Get id slot) b h = value-is id slot b h (object_at s id) refl
op-reply-is (Put id slot value) b h = tt
op-reply-is (Call target method arguments) b h = tt

pub commit_grown : {g : Setting} {Is : Ref → Type 0} {T : List Told → Type 0} {K : ParkedFrame → Type 0} {s : State} (M : Plain g Is T) (id k : ℕ) (op : Op) → OpBrings g Is s.objects_made s.store op → Grown g Is T K s → Grown g Is T K (LivingTasks.commit g id k op s)
unfolding LivingTasks.commit
commit_grown {g} {Is} {T} {K} {s} M id k op b h = some_grown (ready_at s id) _ h (λ t is. after (foreign_ids g.id (Tasks.gained t.task (answer g (LivingTasks.op_reply g op s) (steps k t.task)))))
  where
    changed : Living → Living
    changed u = LivingTasks.after_reply g (LivingTasks.op_reply g op s) (LivingTasks.after_steps k u)

    held : (u : Living) → AllOf Is u.task.held → AllOf Is (changed u).task.held
    held u a = answer-held g Is (LivingTasks.op_reply g op s) (steps k u.task) (op-reply-is op b h) (subst (AllOf Is) (sym (steps-held k u.task)) a)

    t' : State
    t' = record s { tasks = at_first (λ (u : Living). u.id == id) changed s.tasks }

    after : (ids : List ForeignId) → Grown g Is T K (LivingTasks.after_op g op (hold_ids ids t'))
    after ids =
        let e : ((hold_ids ids t').store ≡ s.store) × ((hold_ids ids t').objects_made ≡ s.objects_made) = held-store ids t' in
        after_op_grown M op (subst (λ n. OpBrings g Is n (hold_ids ids t').store op) (sym e.1) (subst (λ st. OpBrings g Is s.objects_made st op) (sym e.0) b))
        (hold_grown M ids (now_tasks _ (all-first (λ (u : Living). AllOf Is u.task.held) (λ (u : Living). u.id == id) changed s.tasks held h.parts.tasks) h))

-- ---- calls and ends of a lent task

pub park_grown : {g : Setting} {Is : Ref → Type 0} {T : List Told → Type 0} {K : ParkedFrame → Type 0} {s : State} (id k : ℕ) → Grown g Is T K s → Grown g Is T K (LivingTasks.park_call g id k s)
unfolding LivingTasks.park_call
park_grown {g} {Is} {T} {K} {s} id k h = some_grown (ready_at s id) _ h (λ t is. at t (stand (steps k t.task)))
  where
    waits : Grown g Is T K (set_task (LivingTasks.waiting k) id s)
    waits = now_tasks _ (all-first (λ (u : Living). AllOf Is u.task.held) (λ (u : Living). u.id == id) (LivingTasks.waiting k) s.tasks (λ u a. waiting-held Is k u a) h.parts.tasks) h

    parks : (t : Living) (op : Op) → Grown g Is T K (LivingTasks.park_op g id k t op s)
    parks t (Create class) = h
    parks t (Get o slot) = h
    parks t (Put o slot value) = h
    parks t (Call target method arguments) = quiet _ refl waits

    at : (t : Living) (stands : Stand) → Grown g Is T K (LivingTasks.park_at g id k t stands s)
    at t Runs = h
    at t (AsksFor op) = parks t op
    at t (HasEnded outcome) = h

pub give_back_grown : {g : Setting} {Is : Ref → Type 0} {T : List Told → Type 0} {K : ParkedFrame → Type 0} {s : State} (id k : ℕ) → Grown g Is T K s → Grown g Is T K (LivingTasks.give_back id k s)
unfolding LivingTasks.give_back
give_back_grown {Is = Is} {s = s} id k h = some_grown (ready_at s id) _ h (λ t is. now_tasks _
    (all-first (λ (u : Living). AllOf Is u.task.held) (λ (u : Living). u.id == id) (LivingTasks.after_steps k) s.tasks (λ u a. subst (AllOf Is) (sym (steps-held k u.task)) a) h.parts.tasks) h)

pub finish_grown : {g : Setting} {Is : Ref → Type 0} {T : List Told → Type 0} {K : ParkedFrame → Type 0} {s : State} (M : Plain g Is T) (id k : ℕ) → ((t : Living) → ready_at s id ≡ Some t → EndIs Is (stand (steps k t.task))) → Grown g Is T K s → Grown g Is T K (LivingTasks.finish_task g id k s)
unfolding LivingTasks.finish_task
finish_grown {g} {Is} {T} {K} {s} M id k b h = some_grown (ready_at s id) _ h (λ t is. at t (stand (steps k t.task)) (b t is))
  where
    at : (t : Living) (stands : Stand) → EndIs Is stands → Grown g Is T K (LivingTasks.end_at g id (LivingTasks.after_steps k t) stands s)
    at t Runs a = h
    at t (AsksFor op) a = h
    at t (HasEnded outcome) a = end_with_grown M id (LivingTasks.after_steps k t) outcome a h
