-- After each rule of a space a client still counts exactly the holders that there are.
use mathlib.Core.Path.{sym, ap, subst, ◌∙◌}
use Rattle.std.proofs.Common.{arith, inl, inr}
use Rattle.std.proofs.lemmas.Bool.{true≢false, eqb-true, ltb-true}
use Rattle.std.specs.List.{list_any, list_all}
use Rattle.std.specs.Prelude.{◌≡◌, refl, ℕ, ◌+◌, ◌≤◌, ◌<◌, ◌==◌, ◌&&◌, ◌||◌, not, nat_le, nat_lt, is_some, is_none, length, Bool, true, false, List, [], ◌∷◌, ◌++◌, ◌⊎◌, Option, None, Some, Result, Ok, Err, drop, filter, find, map, slice_get, unwrap_or, if◌then◌else◌}
use Rattle.space_ids.specs.declared.ids.ClassId.{ClassId}
use Rattle.dgc_client.specs.History as lease_events
use Rattle.dgc_client.specs.Lease as lease
use Rattle.dgc_client.specs.Table as client
use Rattle.dgc_client.specs.declared.groups.Group.{Group}
use Rattle.dgc_client.specs.declared.lease.Due.TheVariants as due
use Rattle.dgc_client.specs.declared.lease.Due.{Due}
use Rattle.space_ids.specs.declared.ids.ForeignId.{ForeignId}
use Rattle.net_message.specs.declared.message.Message.TheVariants as message
use Rattle.net_message.specs.declared.message.Message.{Message}
use Rattle.sp_registry.specs.Bindings as registry
use Rattle.sp_registry.specs.Names.{is_name}
use Rattle.sp_registry.specs.declared.fault.RegistryFault.{RegistryFault}
use Rattle.sp_registry.specs.declared.registry.Binding.{Binding}
use Rattle.uuid.specs.declared.Uuid.{Uuid}
use Rattle.space_ids.specs.declared.ids.ObjId.{ObjId}
use Rattle.space_ids.specs.declared.ids.Ref.{Ref}
use Rattle.space_ids.specs.declared.value.Value.TheVariants as values
use Rattle.space_ids.specs.declared.value.Value.{Value}
use Rattle.sp_rules.specs.Behaviours.{Outcome, Returned, Threw, Spent, Op, Create, Get, Put, Call, Reply, Throws}
use Rattle.sp_rules.specs.Classes.{Setting, blank, field_kind, fit_kinds, fits_field}
use Rattle.sp_rules.specs.Endings
use Rattle.sp_rules.specs.Events.{Started, Ended, Turn, Replies, Event, Moment, Sweep, Root, RootAck, Bind, Rebind, Unbind, Lookup, Opened, Refused, Received, Closed, ReadFailed, Bad, WriteFailed, Committed, Parked, GivenBack, Finished, Output, Withdrawn, Denied, Send, Dial, Close, Ready}
use Rattle.sp_rules.specs.Frames
use Rattle.sp_rules.specs.Holders
use Rattle.sp_rules.specs.Holders.{hold_ids, drop_ids, times_in, has_reason}
use Rattle.sp_rules.specs.Laws.{RisesWithin}
use Rattle.sp_rules.specs.Lists.{each, at_first, numbers_below, total}
use Rattle.sp_rules.specs.LivingTasks
use Rattle.sp_rules.specs.Origins.{IsTaken}
use Rattle.sp_rules.specs.OwnEvents
use Rattle.sp_rules.specs.ParkedFrames
use Rattle.sp_rules.specs.References.{references_of, references_in, reference_of, foreign_ids, is_id}
use Rattle.sp_rules.specs.Refusals
use Rattle.sp_rules.specs.Refusals.{Check, first_refusal, checks, refusal}
use Rattle.sp_rules.specs.Requests
use Rattle.sp_rules.specs.Space
use Rattle.sp_rules.specs.State as state
use Rattle.sp_rules.specs.State.{State, Object, Stored, Made, Written, Gone, Living, Origin, OfRoot, OfCall, Until, Request, Asked, Calls, LooksUp, Tells, Connection, KeptResult, Frame, CallFrame, ReturnedFrame, ParkedFrame, standing, last_written, task_at, ready_at, object_at, connection_at, connection_to, is_open, set_task, send, opening}
use Rattle.sp_rules.specs.Tasks
use Rattle.sp_rules.specs.Tasks.{Stand, Runs, AsksFor, HasEnded, stand, steps, answer, gained}
use Rattle.sp_rules.proofs.AllLemmas.{some-none, found-is}
use Rattle.sp_rules.proofs.FuelSums.{total-snoc, total-parts, total-first, value_in, found-value}
use Rattle.sp_rules.proofs.NumberLemmas.{Fresh}
use Rattle.sp_rules.proofs.OriginLemmas.{steps-held, held-store}
use Rattle.sp_rules.proofs.OriginsOfFrames.{orphan-value}
use Rattle.sp_rules.proofs.OwnLemmas.{unrefused, later, first-of, not-false, and-left, and-right, has-some, own-only, fresh-of}
use Rattle.sp_rules.proofs.ReadyLemmas.{ready-is}
use Rattle.sp_rules.proofs.Stable.{new_row}
use Rattle.sp_rules.proofs.SweepLemmas.{one-id, store_left, left_exact}
use Rattle.sp_laws.specs.Counted.{times_held, HoldersAreCounted}
use Rattle.std.proofs.lemmas.Option.{slice_get_cases}
use Rattle.sp_laws.proofs.CountLemmas.{counted, refs_times, alike-on, alike-at, alike-each, alike-sent, alike-made}
use Rattle.sp_laws.proofs.CountSteps.{Off, task_holds, slot_of, object_holds, result_holds, parked_holds, quiet, if_off, some_off, each_off, renumber, each_less, leases_off, send_off, hold_off, drop_off, tasks_off, results_off, parked_off, store_off, task-gains, total-only, changed-only, slots-sum, slot-changed, blank-none, none-held}

-- ---- requests

part_off : {g : Setting} {r : ForeignId} {n : ℕ} {s : State} (turn : Turn) (conn call : ℕ) (part : Group) → Off g r 0 n s → Off g r 0 n (Requests.part_goes_out turn conn call s part)
unfolding Requests.part_goes_out
part_off {r = r} {s = s} turn conn call part h = send_off turn conn _ (quiet _ refl (leases_off (client.sent part call s.leases) (alike-sent r part call s.leases) h))

go_out_off : {g : Setting} {r : ForeignId} {n : ℕ} {s : State} (turn : Turn) (conn : ℕ) (q : Request) → Off g r 0 n s → Off g r 0 n (Requests.go_out turn conn q s)
unfolding Requests.go_out
go_out_off {g} {r} {n} {s = s} turn conn q h = goes q.asked
  where
    goes : (asked : Asked) → Off g r 0 n (Requests.goes_out turn conn q.peer asked s)
    goes (Calls number task lent kind m) = send_off turn conn m (quiet _ refl h)
    goes (LooksUp number task name) = send_off turn conn _ (quiet _ refl h)
    goes (Tells call group) = each_off _ _ (λ t part k. part_off turn conn call part k) h

dial_off : {g : Setting} {r : ForeignId} {n : ℕ} {s : State} (peer : Uuid) → Off g r 0 n s → Off g r 0 n (Requests.dial peer s)
unfolding Requests.dial
dial_off {s = s} peer h = if_off (is_some (connection_to s peer) || state.is_dialling s peer) h (quiet _ refl h)

ask_off : {g : Setting} {r : ForeignId} {n : ℕ} {s : State} (q : Request) → Off g r 0 n s → Off g r 0 n (Requests.ask s q)
unfolding Requests.ask
ask_off {s = s} q h = some_off (Requests.hello_came (connection_to s q.peer)) _ (dial_off q.peer (quiet _ refl h)) (λ conn is. go_out_off _ conn q h)

flush_off : {g : Setting} {r : ForeignId} {n : ℕ} {s : State} (peer : Uuid) (conn : ℕ) → Off g r 0 n s → Off g r 0 n (Requests.flush_waiting peer conn s)
unfolding Requests.flush_waiting
flush_off peer conn h = each_off _ _ (λ t q k. go_out_off _ conn q k) (quiet _ refl h)

make_group_off : {g : Setting} {r : ForeignId} {n : ℕ} {s : State} (b : Group) → Off g r 0 n s → Off g r 0 n (Requests.make_group s b)
unfolding Requests.make_group
make_group_off {r = r} {s = s} b h = ask_off _ (quiet _ refl (leases_off (client.made b (s.groups_made + 1) s.leases) (alike-made r b (s.groups_made + 1) s.leases) h))

settle_off : {g : Setting} {r : ForeignId} {n : ℕ} {s : State} → Off g r 0 n s → Off g r 0 n (Requests.settle s)
unfolding Requests.settle Requests.make_due Requests.ask_fresh
settle_off {g} {r} {n} {s = s} h = asks (Requests.make_due s) (each_off _ _ (λ t b k. make_group_off b k) h)
  where
    asks : (t : State) → Off g r 0 n t → Off g r 0 n (each Requests.ask t.fresh (record t { fresh = [] }))
    asks t k = each_off _ _ (λ u q j. ask_off q j) (quiet _ refl k)

-- ---- tasks

add_task_off : {g : Setting} {r : ForeignId} {n : ℕ} {s : State} (origin : Origin) (method : ℕ) (arguments : List Value) (fuel : ℕ) → Off g r 0 n s → Off g r 0 n (LivingTasks.add_task g origin method arguments fuel s)
unfolding LivingTasks.add_task
add_task_off {g} {r} {n} {s} origin method arguments fuel h =
    let row : Living = new_row g origin method arguments fuel s in
    let e : total (task_holds g.id r) (s.tasks ++ row ∷ []) ≡ total (task_holds g.id r) s.tasks + task_holds g.id r row = total-snoc (task_holds g.id r) s.tasks row in
    quiet _ refl (hold_off (foreign_ids g.id row.task.held) (quiet _ refl (renumber (0 + task_holds g.id r row) (n + 0) (0 + task_holds g.id r row) n (omega arith) (tasks_off (task_holds g.id r row) 0 (s.tasks ++ row ∷ []) (omega arith) h))))

keep_off : {g : Setting} {r : ForeignId} {n : ℕ} {s : State} (until : Until) (value : Option Value) → Off g r 0 n s → Off g r 0 n (LivingTasks.keep g until value s)
keep_off {g} {r} {n} {s} until value h =
    let row : KeptResult = record { until = until; value = value } in
    let e : total (result_holds g.id r) (s.results ++ row ∷ []) ≡ total (result_holds g.id r) s.results + result_holds g.id r row = total-snoc (result_holds g.id r) s.results row in
    hold_off (foreign_ids g.id (references_in value)) (renumber (0 + result_holds g.id r row) (n + 0) (0 + result_holds g.id r row) n (omega arith) (results_off (result_holds g.id r row) 0 (s.results ++ row ∷ []) (omega arith) h))

keep_result_off : {g : Setting} {r : ForeignId} {n : ℕ} {s : State} (until : Until) (outcome : Outcome) → Off g r 0 n s → Off g r 0 n (LivingTasks.keep_result g until outcome s)
keep_result_off until (Returned value) h = keep_off until value h
keep_result_off until (Threw class) h = h
keep_result_off until Spent h = h

report_off : {g : Setting} {r : ForeignId} {n : ℕ} {s : State} (origin : Origin) (id fuel : ℕ) (outcome : Outcome) → Off g r 0 n s → Off g r 0 n (LivingTasks.report g origin id fuel outcome s)
report_off OfRoot id fuel outcome h = keep_result_off _ outcome h
report_off {s = s} (OfCall conn number) id fuel outcome h = if_off (is_open s conn) (send_off _ conn _ (keep_result_off _ outcome h)) h

-- a task that ends lets go what it holds
end_with_off : {g : Setting} {r : ForeignId} {n : ℕ} {s : State} (id : ℕ) (t u : Living) (outcome : Outcome) → Fresh s → task_at s id ≡ Some u → t.task.held ≡ u.task.held → Off g r 0 n s → Off g r 0 n (LivingTasks.end_with g id t outcome s)
end_with_off {g} {r} {n} {s} id t u outcome fresh is same h =
    let e : total (task_holds g.id r) s.tasks ≡ task_holds g.id r u + total (task_holds g.id r) (filter (λ (v : Living). not (v.id == id)) s.tasks) = total-only (λ (v : Living). v.id) (task_holds g.id r) id 0 s.tasks_made s.tasks u fresh.1 is in
    let f : refs_times g.id r t.task.held ≡ refs_times g.id r u.task.held = ap (refs_times g.id r) same in
    drop_off (foreign_ids g.id t.task.held) (report_off t.origin id t.task.fuel outcome (quiet _ refl
    (renumber (0 + 0) (n + task_holds g.id r u) 0 (n + refs_times g.id r t.task.held) (omega arith) (tasks_off 0 (task_holds g.id r u) (filter (λ (v : Living). not (v.id == id)) s.tasks) (omega arith) h))))

-- a task that is changed holds what it held, and what it gained
gains_off : {g : Setting} {r : ForeignId} {n : ℕ} {s : State} (id : ℕ) (t : Living) (ids : List ForeignId) (f : Living → Living) → task_at s id ≡ Some t → task_holds g.id r (f t) ≡ task_holds g.id r t + times_in r ids → Off g r 0 n s → Off g r 0 n (hold_ids ids (set_task f id s))
gains_off {g} {r} {n} {s} id t ids f is e h =
    let a : total (task_holds g.id r) (at_first (λ (u : Living). u.id == id) f s.tasks) + value_in (task_holds g.id r) (task_at s id) ≡ total (task_holds g.id r) s.tasks + value_in (λ u. task_holds g.id r (f u)) (task_at s id) = total-first (task_holds g.id r) (λ (u : Living). u.id == id) f s.tasks in
    let b : value_in (task_holds g.id r) (task_at s id) ≡ task_holds g.id r t = found-value (task_holds g.id r) (task_at s id) t is in
    let c : value_in (λ u. task_holds g.id r (f u)) (task_at s id) ≡ task_holds g.id r (f t) = found-value (λ u. task_holds g.id r (f u)) (task_at s id) t is in
    hold_off ids (renumber (0 + times_in r ids) (n + 0) (0 + times_in r ids) n (omega arith) (tasks_off (times_in r ids) 0 (at_first (λ (u : Living). u.id == id) f s.tasks) (omega arith) h))

-- a task that is changed and holds the same
same_off : {g : Setting} {r : ForeignId} {n : ℕ} {s : State} (id : ℕ) (t : Living) (f : Living → Living) → task_at s id ≡ Some t → (f t).task.held ≡ t.task.held → Off g r 0 n s → Off g r 0 n (set_task f id s)
same_off {g} {r} {n} {s} id t f is e h =
    let a : total (task_holds g.id r) (at_first (λ (u : Living). u.id == id) f s.tasks) + value_in (task_holds g.id r) (task_at s id) ≡ total (task_holds g.id r) s.tasks + value_in (λ u. task_holds g.id r (f u)) (task_at s id) = total-first (task_holds g.id r) (λ (u : Living). u.id == id) f s.tasks in
    let b : value_in (task_holds g.id r) (task_at s id) ≡ task_holds g.id r t = found-value (task_holds g.id r) (task_at s id) t is in
    let c : value_in (λ u. task_holds g.id r (f u)) (task_at s id) ≡ task_holds g.id r (f t) = found-value (λ u. task_holds g.id r (f u)) (task_at s id) t is in
    let d : task_holds g.id r (f t) ≡ task_holds g.id r t = ap (refs_times g.id r) e in
    renumber (0 + 0) (n + 0) 0 n (omega arith) (tasks_off 0 0 (at_first (λ (u : Living). u.id == id) f s.tasks) (omega arith) h)

reply_task_off : {g : Setting} {r : ForeignId} {n : ℕ} {s : State} (id : ℕ) (reply : Reply) → Off g r 0 n s → Off g r 0 n (LivingTasks.reply_task g id reply s)
unfolding LivingTasks.reply_task
reply_task_off {g} {r} {s = s} id reply h = some_off (task_at s id) _ h (λ t is. quiet _ refl
    (gains_off id t (foreign_ids g.id (gained t.task (answer g reply t.task))) (LivingTasks.after_reply g reply) is (task-gains g r reply t.task t.task.held refl) h))

reply_to_off : {g : Setting} {r : ForeignId} {n : ℕ} {s : State} (asked : Asked) (reply : Reply) → Off g r 0 n s → Off g r 0 n (LivingTasks.reply_to g asked reply s)
unfolding LivingTasks.reply_to
reply_to_off (Calls number task lent kind m) reply h = reply_task_off task reply h
reply_to_off (LooksUp number task name) reply h = keep_result_off (state.RootAcked task) (LivingTasks.outcome_of reply) (quiet _ refl h)
reply_to_off (Tells call group) reply h = h

-- ---- operations on the store

-- Nothing was written yet under the id of a new object; a value is put into a field of a standing object.
abbrev OpFits : Setting → ℕ → List Stored → Op → Type 0
OpFits g made store (Create class) = (id : ObjId) (slot : ℕ) → made + 1 ≤ id.0 → last_written store id slot ≡ None
OpFits g made store (Get id slot) = Unit {0}
OpFits g made store (Put id slot value) = RisesWithin 0 made (map (λ (o : Object). o.id.0) (standing store)) × ((o : Object) × ((find (λ (p : Object). is_id p.id id) (standing store) ≡ Some o) × (slot < length (g.classes.fields o.class))))
OpFits g made store (Call target method arguments) = Unit {0}

-- the new object's fields are blank
new-none : (g : Setting) (r : ForeignId) (store : List Stored) (o : Object) → ((slot : ℕ) → last_written store o.id slot ≡ None) → object_holds g r store o ≡ 0
new-none g r store o none = none-held g.id r (slot_of g store o) (numbers_below (length (g.classes.fields o.class))) (λ slot.
    subst (λ w. reference_of (unwrap_or w (blank (field_kind g.classes o.class slot))) ≡ []) (sym (none slot)) (blank-none (field_kind g.classes o.class slot)))

-- what the slots of an object hold after a slot was written
written-slots : (g : Setting) (r : ForeignId) (store : List Stored) (o : Object) (slot : ℕ) (value : Value) → slot < length (g.classes.fields o.class)
    → object_holds g r (Written o.id slot value ∷ store) o + refs_times g.id r (reference_of (slot_of g store o slot)) ≡ object_holds g r store o + refs_times g.id r (reference_of value)
written-slots g r store o slot value lt =
    let n : ℕ = length (g.classes.fields o.class) in
    let a : object_holds g r (Written o.id slot value ∷ store) o ≡ total (now (Written o.id slot value ∷ store)) (numbers_below n) = slots-sum g.id r (slot_of g (Written o.id slot value ∷ store) o) (numbers_below n) in
    let b : object_holds g r store o ≡ total (now store) (numbers_below n) = slots-sum g.id r (slot_of g store o) (numbers_below n) in
    let c : total (now (Written o.id slot value ∷ store)) (numbers_below n) + now store slot ≡ total (now store) (numbers_below n) + now (Written o.id slot value ∷ store) slot = slot-changed (now store) (now (Written o.id slot value ∷ store)) slot n lt other in
    let d : now (Written o.id slot value ∷ store) slot ≡ refs_times g.id r (reference_of value) = here in omega arith
  where
    now : List Stored → ℕ → ℕ
    now st i = refs_times g.id r (reference_of (slot_of g st o i))

    itself : is_id o.id o.id ≡ true
    itself = Rattle.sp_rules.proofs.OwnLemmas.same-id o.id

    other : (i : ℕ) → (slot == i) ≡ false → now (Written o.id slot value ∷ store) i ≡ now store i
    other i e = subst (λ b. refs_times g.id r (reference_of (unwrap_or (if is_id o.id o.id && b then Some value else last_written store o.id i) (blank (field_kind g.classes o.class i)))) ≡ now store i) (sym e) (away (is_id o.id o.id))
      where
        away : (b : Bool) → refs_times g.id r (reference_of (unwrap_or (if b && false then Some value else last_written store o.id i) (blank (field_kind g.classes o.class i)))) ≡ now store i
        away true = refl
        away false = refl

    here : now (Written o.id slot value ∷ store) slot ≡ refs_times g.id r (reference_of value)
    here = subst (λ b. refs_times g.id r (reference_of (unwrap_or (if b && (slot == slot) then Some value else last_written store o.id slot) (blank (field_kind g.classes o.class slot)))) ≡ refs_times g.id r (reference_of value)) (sym itself)
        (subst (λ b. refs_times g.id r (reference_of (unwrap_or (if b then Some value else last_written store o.id slot) (blank (field_kind g.classes o.class slot)))) ≡ refs_times g.id r (reference_of value)) (sym (Rattle.std.proofs.lemmas.Bool.eq-eqb slot slot refl)) refl)

-- objects of other ids hold what they held
other-slots : (g : Setting) (r : ForeignId) (store : List Stored) (id : ObjId) (slot : ℕ) (value : Value) (o : Object) → is_id o.id id ≡ false → object_holds g r (Written id slot value ∷ store) o ≡ object_holds g r store o
other-slots g r store id slot value o e = ap (λ f. refs_times g.id r (references_of (map f (numbers_below (length (g.classes.fields o.class)))))) same
  where
    away : is_id id o.id ≡ false
    away = pick (is_id id o.id) refl
      where
        pick : (b : Bool) → is_id id o.id ≡ b → b ≡ false
        pick true t = absurd (true≢false (sym (subst (λ i. is_id i id ≡ true) (one-id id o.id t) (Rattle.sp_rules.proofs.OwnLemmas.same-id id)) ∙ e))
        pick false t = refl

    same : slot_of g (Written id slot value ∷ store) o ≡ slot_of g store o
    same = ap (λ b. (λ (i : ℕ). unwrap_or (if b && (slot == i) then Some value else last_written store o.id i) (blank (field_kind g.classes o.class i)))) away

after_op_off : {g : Setting} {r : ForeignId} {n : ℕ} {s : State} (op : Op) → OpFits g s.objects_made s.store op → Off g r 0 n s → Off g r 0 n (LivingTasks.after_op g op s)
unfolding LivingTasks.after_op
after_op_off {g} {r} {n} {s} (Create class) fits h =
    let new : Object = record { id = LivingTasks.next_object s; class = class } in
    let e : total (object_holds g r s.store) (standing s.store ++ new ∷ []) ≡ total (object_holds g r s.store) (standing s.store) + object_holds g r s.store new = total-snoc (object_holds g r s.store) (standing s.store) new in
    let z : object_holds g r s.store new ≡ 0 = new-none g r s.store new (λ slot. fits (LivingTasks.next_object s) slot (omega arith)) in
    if_off (LivingTasks.is_full s) h (quiet _ refl (renumber (0 + 0) (n + 0) 0 n (omega arith) (store_off 0 0 (Made (LivingTasks.next_object s) class ∷ s.store) (omega arith) h)))
after_op_off (Get id slot) fits h = h
after_op_off {g} {r} {n} {s} (Put id slot value) fits h =
    let o : Object = fits.1.0 in
    let is : o.id ≡ id = one-id o.id id (found-is (λ (p : Object). is_id p.id id) (standing s.store) o fits.1.1.0) in
    let old : ℕ = refs_times g.id r (reference_of (slot_of g s.store o slot)) in
    let c : total (object_holds g r (Written id slot value ∷ s.store)) (standing s.store) + object_holds g r s.store o ≡ total (object_holds g r s.store) (standing s.store) + object_holds g r (Written id slot value ∷ s.store) o
    = changed-only (λ (p : Object). p.id.0) (object_holds g r s.store) (object_holds g r (Written id slot value ∷ s.store)) id.0 0 s.objects_made (standing s.store) o fits.0 fits.1.1.0 (λ p away. other-slots g r s.store id slot value p away) in
    let w : object_holds g r (Written id slot value ∷ s.store) o + old ≡ object_holds g r s.store o + refs_times g.id r (reference_of value)
    = subst (λ i. object_holds g r (Written i slot value ∷ s.store) o + refs_times g.id r (reference_of (slot_of g s.store o slot)) ≡ object_holds g r s.store o + refs_times g.id r (reference_of value)) is (written-slots g r s.store o slot value fits.1.1.1) in
    let v : refs_times g.id r (references_in (LivingTasks.value_at g s id slot (object_at s id))) ≡ old
    = ap (λ found. refs_times g.id r (references_in (LivingTasks.value_at g s id slot found))) fits.1.1.0 ∙ ap (λ i. refs_times g.id r (reference_of (unwrap_or (last_written s.store i slot) (blank (field_kind g.classes o.class slot))))) (sym is) in
    drop_off (foreign_ids g.id (references_in (LivingTasks.value_at g s id slot (object_at s id)))) (hold_off (foreign_ids g.id (reference_of value))
    (renumber (0 + refs_times g.id r (reference_of value)) (n + old) (0 + refs_times g.id r (reference_of value)) (n + refs_times g.id r (references_in (LivingTasks.value_at g s id slot (object_at s id)))) (omega arith)
    (store_off (refs_times g.id r (reference_of value)) old (Written id slot value ∷ s.store) (omega arith) h)))
after_op_off (Call target method arguments) fits h = h

commit_off : {g : Setting} {r : ForeignId} {n : ℕ} {s : State} (id k : ℕ) (op : Op) → OpFits g s.objects_made s.store op → Off g r 0 n s → Off g r 0 n (LivingTasks.commit g id k op s)
unfolding LivingTasks.commit
commit_off {g} {r} {n} {s = s} id k op fits h = some_off (ready_at s id) _ h (λ t is. after t (ready-is (task_at s id) t is).0)
  where
    fits-after : (ids : List ForeignId) → OpFits g (hold_ids ids (set_task (λ (u : Living). LivingTasks.after_reply g (LivingTasks.op_reply g op s) (LivingTasks.after_steps k u)) id s)).objects_made (hold_ids ids (set_task (λ (u : Living). LivingTasks.after_reply g (LivingTasks.op_reply g op s) (LivingTasks.after_steps k u)) id s)).store op
    fits-after ids =
        let e : ((hold_ids ids (set_task (λ (u : Living). LivingTasks.after_reply g (LivingTasks.op_reply g op s) (LivingTasks.after_steps k u)) id s)).store ≡ s.store) × ((hold_ids ids (set_task (λ (u : Living). LivingTasks.after_reply g (LivingTasks.op_reply g op s) (LivingTasks.after_steps k u)) id s)).objects_made ≡ s.objects_made) = held-store ids (set_task (λ (u : Living). LivingTasks.after_reply g (LivingTasks.op_reply g op s) (LivingTasks.after_steps k u)) id s) in
        subst (λ m. OpFits g m (hold_ids ids (set_task (λ (u : Living). LivingTasks.after_reply g (LivingTasks.op_reply g op s) (LivingTasks.after_steps k u)) id s)).store op) (sym e.1) (subst (λ st. OpFits g s.objects_made st op) (sym e.0) fits)

    after : (t : Living) → task_at s id ≡ Some t → Off g r 0 n (LivingTasks.after_op g op (hold_ids (foreign_ids g.id (gained t.task (answer g (LivingTasks.op_reply g op s) (steps k t.task)))) (set_task (λ (u : Living). LivingTasks.after_reply g (LivingTasks.op_reply g op s) (LivingTasks.after_steps k u)) id s)))
    after t is = after_op_off op (fits-after (foreign_ids g.id (gained t.task (answer g (LivingTasks.op_reply g op s) (steps k t.task)))))
        (gains_off id t (foreign_ids g.id (gained t.task (answer g (LivingTasks.op_reply g op s) (steps k t.task)))) (λ (u : Living). LivingTasks.after_reply g (LivingTasks.op_reply g op s) (LivingTasks.after_steps k u)) is (task-gains g r (LivingTasks.op_reply g op s) (steps k t.task) t.task.held (steps-held k t.task)) h)

park_off : {g : Setting} {r : ForeignId} {n : ℕ} {s : State} (id k : ℕ) → Off g r 0 n s → Off g r 0 n (LivingTasks.park_call g id k s)
unfolding LivingTasks.park_call Tasks.lend_fuel
park_off {g} {r} {n} {s = s} id k h = some_off (ready_at s id) _ h (λ t is. at t (ready-is (task_at s id) t is).0 (stand (steps k t.task)))
  where
    parks : (t : Living) → task_at s id ≡ Some t → (op : Op) → Off g r 0 n (LivingTasks.park_op g id k t op s)
    parks t is (Create class) = h
    parks t is (Get o slot) = h
    parks t is (Put o slot value) = h
    parks t is (Call target method arguments) = quiet _ refl (same_off id t (LivingTasks.waiting k) is (steps-held k t.task) h)

    at : (t : Living) → task_at s id ≡ Some t → (stands : Stand) → Off g r 0 n (LivingTasks.park_at g id k t stands s)
    at t is Runs = h
    at t is (AsksFor op) = parks t is op
    at t is (HasEnded outcome) = h

give_back_off : {g : Setting} {r : ForeignId} {n : ℕ} {s : State} (id k : ℕ) → Off g r 0 n s → Off g r 0 n (LivingTasks.give_back id k s)
unfolding LivingTasks.give_back
give_back_off {s = s} id k h = some_off (ready_at s id) _ h (λ t is. same_off id t (LivingTasks.after_steps k) (ready-is (task_at s id) t is).0 (steps-held k t.task) h)

finish_off : {g : Setting} {r : ForeignId} {n : ℕ} {s : State} (id k : ℕ) → Fresh s → Off g r 0 n s → Off g r 0 n (LivingTasks.finish_task g id k s)
unfolding LivingTasks.finish_task
finish_off {g} {r} {n} {s = s} id k fresh h = some_off (ready_at s id) _ h (λ t is. at t (ready-is (task_at s id) t is).0 (stand (steps k t.task)))
  where
    at : (t : Living) → task_at s id ≡ Some t → (stands : Stand) → Off g r 0 n (LivingTasks.end_at g id (LivingTasks.after_steps k t) stands s)
    at t is Runs = h
    at t is (AsksFor op) = h
    at t is (HasEnded outcome) = end_with_off id (LivingTasks.after_steps k t) t outcome fresh is (steps-held k t.task) h

-- ---- parked frames

start_call_off : {g : Setting} {r : ForeignId} {n : ℕ} {s : State} (p : ParkedFrame) (target : ObjId) (method fuel : ℕ) (arguments : List Value) → Off g r 0 n s → Off g r 0 n (ParkedFrames.start_call g p target method fuel arguments s)
unfolding ParkedFrames.start_call
start_call_off {g} {r} {n} {s = s} p target method fuel arguments h = some_off (object_at s target) _ h (λ o is. selected (record { space = g.id; id = target; class = o.class }) (g.classes.selected o.class method))
  where
    selected : (receiver : Ref) (found : Option ℕ) → Off g r 0 n (ParkedFrames.start_selected g p.conn p.number receiver found fuel arguments s)
    selected receiver None = send_off _ p.conn _ h
    selected receiver (Some m) = add_task_off _ m _ fuel h

answer_parked_off : {g : Setting} {r : ForeignId} {n : ℕ} {s : State} (p : ParkedFrame) (reply : Reply) → Off g r 0 n s → Off g r 0 n (ParkedFrames.answer_parked g p reply s)
unfolding ParkedFrames.answer_parked
answer_parked_off {s = s} p reply h = some_off (find (ParkedFrames.is_call_on p.conn p.number) s.requests) _ h (λ q is. reply_to_off q.asked reply (send_off _ p.conn _ (quiet _ refl h)))

-- what is parked under a number, and what it holds
abbrev at_number : ParkedFrame → List ParkedFrame → List ParkedFrame
at_number p parked = filter (ParkedFrames.is_parked_at p.conn p.number) parked

take_off : {g : Setting} {r : ForeignId} {n : ℕ} {s : State} (p : ParkedFrame) → Off g r 0 n s → Off g r 0 (n + total (parked_holds r) (at_number p s.parked)) (ParkedFrames.take_parked p s)
take_off {g} {r} {n} {s} p h =
    let e : total (parked_holds r) (at_number p s.parked) + total (parked_holds r) (filter (λ q. not (ParkedFrames.is_parked_at p.conn p.number q)) s.parked) ≡ total (parked_holds r) s.parked = total-parts (parked_holds r) (ParkedFrames.is_parked_at p.conn p.number) s.parked in
    renumber (0 + 0) (n + total (parked_holds r) (at_number p s.parked)) 0 (n + total (parked_holds r) (at_number p s.parked)) (omega arith)
    (parked_off 0 (total (parked_holds r) (at_number p s.parked)) (filter (λ q. not (ParkedFrames.is_parked_at p.conn p.number q)) s.parked) (omega arith) h)

let_go_off : {g : Setting} {r : ForeignId} {n : ℕ} {s : State} (p : ParkedFrame) (parked : List ParkedFrame) → Off g r 0 (n + total (parked_holds r) (at_number p parked)) s → Off g r 0 n (ParkedFrames.let_go_parked p parked s)
let_go_off {r = r} p parked h = each_less (parked_holds r) (λ t (q : ParkedFrame). drop_ids q.references t) (at_number p parked) (λ k t q j. drop_off q.references j) h

go_off : {g : Setting} {r : ForeignId} {n : ℕ} {s : State} (p : ParkedFrame) → Off g r 0 n s → Off g r 0 n (ParkedFrames.go g s p)
unfolding ParkedFrames.go
go_off {g} {r} {s = s} p h = some_off (find (ParkedFrames.is_parked_at p.conn p.number) s.parked) _ h (λ q is. let_go_off p s.parked (frame q q.frame (take_off p h)))
  where
    frame : (q : ParkedFrame) (f : Frame) {m : ℕ} {t : State} → Off g r 0 m t → Off g r 0 m (ParkedFrames.go_frame g q f t)
    frame q (CallFrame target method fuel arguments) k = start_call_off q target method fuel arguments k
    frame q (ReturnedFrame value fuel) k = answer_parked_off q _ k

go_all_off : {g : Setting} {r : ForeignId} {n : ℕ} {s : State} → Off g r 0 n s → Off g r 0 n (ParkedFrames.go_all g s)
unfolding ParkedFrames.go_all
go_all_off h = each_off _ _ (λ t p k. go_off p k) h

park_frame_off : {g : Setting} {r : ForeignId} {n : ℕ} {s : State} (conn number : ℕ) (f : Frame) (references : List ForeignId) → Off g r 0 n s → Off g r 0 n (ParkedFrames.park_frame g conn number f references s)
unfolding ParkedFrames.park_frame
park_frame_off {g} {r} {n} {s} conn number f references h =
    let row : ParkedFrame = record { conn = conn; number = number; frame = f; references = references } in
    let e : total (parked_holds r) (s.parked ++ row ∷ []) ≡ total (parked_holds r) s.parked + parked_holds r row = total-snoc (parked_holds r) s.parked row in
    go_all_off (hold_off references (renumber (0 + parked_holds r row) (n + 0) (0 + parked_holds r row) n (omega arith) (parked_off (parked_holds r row) 0 (s.parked ++ row ∷ []) (omega arith) h)))

fail_parked_off : {g : Setting} {r : ForeignId} {n : ℕ} {s : State} (p : ParkedFrame) → Off g r 0 n s → Off g r 0 n (ParkedFrames.fail_parked g s p)
unfolding ParkedFrames.fail_parked
fail_parked_off {g} {r} {n} {s = s} p h = frame p.frame (let_go_off p s.parked (take_off p h))
  where
    frame : (f : Frame) {t : State} → Off g r 0 n t → Off g r 0 n (ParkedFrames.fail_frame g p f t)
    frame (CallFrame target method fuel arguments) k = send_off _ p.conn _ k
    frame (ReturnedFrame value fuel) k = answer_parked_off p (Throws g.classes.unmarshal) k

-- ---- endings

fail_dirty_off : {g : Setting} {r : ForeignId} {n : ℕ} {s : State} (call : ℕ) (id : ForeignId) → Off g r 0 n s → Off g r 0 n (Endings.fail_dirty g call s id)
unfolding Endings.fail_dirty
fail_dirty_off {g} {r} {n} {s = s} call id h = if_off (lease.is_made (Holders.lease_now s id).dirty call && is_none (Holders.lease_now s id).lease) (each_off _ (filter (ParkedFrames.names id) s.parked) (λ t p k. fail_parked_off p k) failed) failed
  where
    failed : Off g r 0 n (record s { leases = client.On id (lease_events.DirtyFailed call) ∷ s.leases })
    failed = leases_off _ (alike-on r id (lease_events.DirtyFailed call) refl refl s.leases) h

fail_group_off : {g : Setting} {r : ForeignId} {n : ℕ} {s : State} (kind : Due) (b : Group) (call : ℕ) → Off g r 0 n s → Off g r 0 n (Endings.fail_group g kind b call s)
fail_group_off due.Dirty b call h = each_off _ _ (λ t x k. fail_dirty_off call x k) h
fail_group_off {r = r} (due.Clean strong) b call h = each_off _ _ (λ t x k. leases_off _ (alike-on r x (lease_events.CleanFailed call) refl refl t.leases) k) h

end_asked_off : {g : Setting} {r : ForeignId} {n : ℕ} {s : State} (class : ClassId) (asked : Asked) → Off g r 0 n s → Off g r 0 n (Endings.end_asked g class asked s)
end_asked_off class (Calls number task lent kind m) h = reply_to_off (Calls number task lent kind m) (Throws class) h
end_asked_off class (LooksUp number task name) h = reply_to_off (LooksUp number task name) (Throws class) h
end_asked_off class (Tells call group) h = fail_group_off group.kind group call h

end_requests_off : {g : Setting} {r : ForeignId} {n : ℕ} {s : State} (is : Request → Bool) (why : Asked → ClassId) → Off g r 0 n s → Off g r 0 n (Endings.end_requests g is why s)
unfolding Endings.end_requests
end_requests_off is why h =
    each_off _ _ (λ t q k. end_asked_off (why q.asked) q.asked k)
    (each_off _ _ (λ t q k. end_asked_off (why q.asked) q.asked k) (quiet _ refl h))

orphans-hold : (u : Uuid) (r : ForeignId) (conn moment : ℕ) (ks : List KeptResult) → total (result_holds u r) (map (Endings.orphan conn moment) ks) ≡ total (result_holds u r) ks
orphans-hold u r conn moment [] = refl
orphans-hold u r conn moment (k ∷ ks) =
    let a : result_holds u r (Endings.orphan conn moment k) ≡ result_holds u r k = ap (λ value. refs_times u r (references_in value)) (orphan-value conn moment k) in
    let b : total (result_holds u r) (map (Endings.orphan conn moment) ks) ≡ total (result_holds u r) ks = orphans-hold u r conn moment ks in omega arith

let_connection_go_off : {g : Setting} {r : ForeignId} {n : ℕ} {s : State} (conn : ℕ) → Off g r 0 n s → Off g r 0 n (Endings.let_connection_go conn s)
let_connection_go_off {g} {r} {n} {s} conn h = each_off _ _ (λ t p k. let_go_off p t.parked (take_off p k)) (quiet _ refl without)
  where
    without : Off g r 0 n (record s { results = map (Endings.orphan conn s.moment) s.results })
    without =
        let e : total (result_holds g.id r) (map (Endings.orphan conn s.moment) s.results) ≡ total (result_holds g.id r) s.results = orphans-hold g.id r conn s.moment s.results in
        renumber (0 + 0) (n + 0) 0 n (omega arith) (results_off 0 0 (map (Endings.orphan conn s.moment) s.results) (omega arith) h)

end_connection_off : {g : Setting} {r : ForeignId} {n : ℕ} {s : State} (why : Asked → ClassId) (conn : ℕ) → Off g r 0 n s → Off g r 0 n (Endings.end_connection g why conn s)
unfolding Endings.end_connection
end_connection_off {s = s} why conn h = some_off (connection_at s conn) _ h (λ c is. end_requests_off _ why (let_connection_go_off conn h))

redial_off : {g : Setting} {r : ForeignId} {n : ℕ} {s : State} (peer : Uuid) (conn : ℕ) → Off g r 0 n s → Off g r 0 n (Endings.redial peer conn s)
unfolding Endings.redial
redial_off {s = s} peer conn h = dial_off peer (quiet _ refl (let_connection_go_off {s = Endings.note_peer peer s} conn (quiet _ refl h)))

close_off : {g : Setting} {r : ForeignId} {n : ℕ} {s : State} (class : ClassId) (conn : ℕ) → Off g r 0 n s → Off g r 0 n (Endings.close g class conn s)
unfolding Endings.close
close_off class conn h = quiet _ refl (end_connection_off _ conn h)

-- ---- frames that come

say_hello_off : {g : Setting} {r : ForeignId} {n : ℕ} {s : State} (version conn : ℕ) → Off g r 0 n s → Off g r 0 n (Frames.say_hello g version conn s)
say_hello_off {g} version conn h = quiet _ refl (send_off Rattle.sp_rules.specs.Events.Hellos conn (message.Hello version g.id g.digest) h)

first_off : {g : Setting} {r : ForeignId} {n : ℕ} {s : State} (c : Connection) (m : Message) → Off g r 0 n s → Off g r 0 n (Frames.first_frame g c m s)
unfolding Frames.first_frame
first_off {g} {r} {n} {s} c (message.Hello version space digest) h = some_off c.dialled _ (if_off _ (if_off (nat_le 2 g.version) (say_hello_off _ c.number known) known) (close_off _ c.number h))
    (λ peer is. if_off _ (if_off (version == c.version) (flush_off peer c.number known) (if_off (nat_le 2 c.version && version == 1) (redial_off peer c.number h) (close_off _ c.number h))) (close_off _ c.number h))
  where
    known : Off g r 0 n (Frames.greeted space c.number s)
    known = quiet _ refl h
first_off c _ h = close_off _ c.number h

call_of_off : {g : Setting} {r : ForeignId} {n : ℕ} {s : State} (conn number : ℕ) (o : Object) (method fuel : ℕ) (arguments : List Value) → Off g r 0 n s → Off g r 0 n (Frames.call_of g conn number o method fuel arguments s)
call_of_off {g} {s = s} conn number o method fuel arguments h =
    if_off (not (g.classes.may_call o.class method) || (not (fit_kinds (g.classes.parameters method) arguments) || list_any (Holders.is_refused g s) (references_of arguments))) (send_off _ conn _ h)
    (if_off (Frames.is_busy s) (send_off _ conn _ h) (park_frame_off conn number (CallFrame o.id method fuel arguments) _ h))

found_off : {g : Setting} {r : ForeignId} {n : ℕ} {s : State} (conn number : ℕ) (o : Option Object) → Off g r 0 n s → Off g r 0 n (Frames.found g conn number o s)
found_off conn number None h = send_off _ conn _ h
found_off {g} conn number (Some o) h = send_off _ conn _ (keep_off (state.Acked conn number) (Some (values.Ref (record { space = g.id; id = o.id; class = o.class }))) h)

got_call_off : {g : Setting} {r : ForeignId} {n : ℕ} {s : State} (c : Connection) (number : ℕ) (target : ObjId) (method fuel : ℕ) (arguments : List Value) → Off g r 0 n s → Off g r 0 n (Frames.got_call g c number target method fuel arguments s)
unfolding Frames.got_call
got_call_off {g} {r} {n} {s} c number target method fuel arguments h = if_off (nat_le number c.last) (close_off _ c.number h) (on (object_at s target))
  where
    on : (o : Option Object) → Off g r 0 n (Frames.call_on g c.number number o method fuel arguments (Frames.counted c.number number s))
    on None = send_off Replies c.number (message.Threw number g.classes.no_such_object) (quiet _ refl h)
    on (Some o) = call_of_off c.number number o method fuel arguments (quiet (Frames.counted c.number number s) refl h)

got_lookup_off : {g : Setting} {r : ForeignId} {n : ℕ} {s : State} (c : Connection) (number : ℕ) (name : List ℕ) → Off g r 0 n s → Off g r 0 n (Frames.got_lookup g c number name s)
unfolding Frames.got_lookup
got_lookup_off {g} {s = s} c number name h = if_off (nat_le number c.last) (close_off _ c.number h) (found_off c.number number (Frames.object_of s (registry.lookup s.owner.names name)) (quiet (Frames.counted c.number number s) refl h))

release_off : {g : Setting} {r : ForeignId} {n : ℕ} {s : State} (is : KeptResult → Bool) → Off g r 0 n s → Off g r 0 n (Frames.release g is s)
unfolding Frames.release
release_off {g} {r} {n} {s} is h =
    let e : total (result_holds g.id r) (filter is s.results) + total (result_holds g.id r) (filter (λ k. not (is k)) s.results) ≡ total (result_holds g.id r) s.results = total-parts (result_holds g.id r) is s.results in
    each_less (result_holds g.id r) (Frames.let_go g) (filter is s.results) (λ k t q j. drop_off (foreign_ids g.id (references_in q.value)) j)
    (renumber (0 + 0) (n + total (result_holds g.id r) (filter is s.results)) 0 (n + total (result_holds g.id r) (filter is s.results)) (omega arith)
    (results_off 0 (total (result_holds g.id r) (filter is s.results)) (filter (λ k. not (is k)) s.results) (omega arith) h))

got_ack_off : {g : Setting} {r : ForeignId} {n : ℕ} {s : State} (c : Connection) (number : ℕ) → Off g r 0 n s → Off g r 0 n (Frames.got_ack g c number s)
unfolding Frames.got_ack
got_ack_off {s = s} c number h = if_off (list_any (Frames.is_acked_by c.number number) s.results) (release_off _ h) (close_off _ c.number h)

returned_off : {g : Setting} {r : ForeignId} {n : ℕ} {s : State} (c : Connection) (number fuel : ℕ) (value : Option Value) (asked : Asked) → Off g r 0 n s → Off g r 0 n (Frames.returned_for g c number fuel value asked s)
returned_off {g} {s = s} c number fuel value asked h = if_off _ (reply_to_off asked _ (send_off _ c.number _ (quiet _ refl h)))
    (park_frame_off c.number number (ReturnedFrame value fuel) (foreign_ids g.id (references_in value)) (quiet (record s { requests = map (Frames.answered_on c.number number) s.requests }) refl h))

answered_by_off : {g : Setting} {r : ForeignId} {n : ℕ} {s : State} (c : Connection) (number : ℕ) (next : Asked → State → State) → ((asked : Asked) → Off g r 0 n (next asked s)) → Off g r 0 n s → Off g r 0 n (Frames.answered_by g c number next s)
unfolding Frames.answered_by
answered_by_off {s = s} c number next k h = some_off (find (ParkedFrames.is_asked_on c.number number) s.requests) _ (close_off _ c.number h) (λ q is. k q.asked)

ends_as_off : {g : Setting} {r : ForeignId} {n : ℕ} {s : State} (c : Connection) (number : ℕ) (reply : Asked → Reply) (asked : Asked) → Off g r 0 n s → Off g r 0 n (Frames.ends_as g c number reply asked s)
ends_as_off {s = s} c number reply asked h = reply_to_off asked _ (quiet (ParkedFrames.remove_requests (ParkedFrames.is_call_on c.number number) s) refl h)

told_by_off : {g : Setting} {r : ForeignId} {n : ℕ} {s : State} (c : Connection) (dirty : Bool) (sequence : ℕ) (event : ℕ → lease_events.Event) → ((call : ℕ) → (client.is_hold (event call) ≡ false) × (Rattle.sp_laws.proofs.CountLemmas.is_drop (event call) ≡ false))
    → Off g r 0 n s → Off g r 0 n (Frames.told_by g c dirty sequence event s)
unfolding Frames.told_by
told_by_off {g} {r} {n} {s = s} c dirty sequence event calm h = some_off (find (Frames.tells_on dirty c.number sequence) s.requests) _ (close_off _ c.number h) (λ q is. go_all_off (tells q.asked (quiet (ParkedFrames.remove_requests (Frames.tells_on dirty c.number sequence) s) refl h)))
  where
    tells : (asked : Asked) {t : State} → Off g r 0 n t → Off g r 0 n (Frames.group_told event asked t)
    tells (Calls number task lent kind m) k = k
    tells (LooksUp number task name) k = k
    tells (Tells call group) {t = t} k = leases_off _ (alike-each r (event call) (calm call).0 (calm call).1 (client.references_at group.peer group.ids) t.leases) k

got_off : {g : Setting} {r : ForeignId} {n : ℕ} {s : State} (c : Connection) (m : Message) → Off g r 0 n s → Off g r 0 n (Frames.got g c m s)
unfolding Frames.got Frames.got_dirty Frames.got_clean
got_off c (message.Hello version space digest) h = close_off _ c.number h
got_off c (message.Call number object method fuel arguments) h = got_call_off c number object method fuel arguments h
got_off c (message.Returned number fuel value) h = answered_by_off c number _ (λ asked. returned_off c number fuel value asked h) h
got_off {g} c (message.Threw number class) h = answered_by_off c number _ (λ asked. ends_as_off c number (λ a. Frames.thrown_reply g class) asked h) h
got_off {g} c (message.Spent number) h = answered_by_off c number _ (λ asked. ends_as_off c number (Frames.spent_reply g) asked h) h
got_off c (message.Ack number) h = got_ack_off c number h
got_off c (message.Dirty sequence period objects) h = if_off (Frames.fit_frame c objects) (send_off _ c.number _ (quiet _ refl h)) (close_off _ c.number h)
got_off c (message.Lease sequence period) h = told_by_off c true sequence (λ call. lease_events.DirtyAnswered call period) (λ call. (refl, refl)) h
got_off c (message.Clean sequence strong objects) h = if_off (Frames.fit_frame c objects) (send_off _ c.number _ (quiet _ refl h)) (close_off _ c.number h)
got_off c (message.Cleaned sequence) h = told_by_off c false sequence lease_events.CleanAnswered (λ call. (refl, refl)) h
got_off c (message.Lookup number name) h = got_lookup_off c number name h

received_off : {g : Setting} {r : ForeignId} {n : ℕ} {s : State} (c : Option Connection) (m : Message) → Off g r 0 n s → Off g r 0 n (OwnEvents.received_on g c m s)
unfolding Frames.receive
received_off None m h = h
received_off (Some c) m h = if_off (is_none c.peer) (first_off c m h) (if_off _ (close_off _ c.number h) (got_off c m h))

-- ---- own events

moment_off : {g : Setting} {r : ForeignId} {n : ℕ} {s : State} (moment : ℕ) → Off g r 0 n s → Off g r 0 n (OwnEvents.on_moment g moment s)
unfolding OwnEvents.on_moment
moment_off {r = r} {s = s} moment h = if_off (nat_lt moment s.moment) h (release_off _ (quiet _ refl (leases_off (client.At moment ∷ s.leases) (alike-at r moment s.leases) h)))

sweep_off : {g : Setting} {r : ForeignId} {n : ℕ} {s : State} → Off g r 0 n s → Off g r 0 n (OwnEvents.on_sweep g s)
unfolding OwnEvents.on_sweep
sweep_off {g} {r} {n} {s = s} h = sweeps (OwnEvents.without_reason g s) refl
  where
    stays : Object → Bool
    stays o = has_reason g s o.id

    sweeps : (gone : List Object) → OwnEvents.without_reason g s ≡ gone → Off g r 0 n (OwnEvents.sweep_of g s gone)
    sweeps [] e = h
    sweeps (o ∷ os) e =
        let left : standing (Gone (map (λ (p : Object). p.id) (o ∷ os)) ∷ s.store) ≡ filter (λ (p : Object). has_reason g s p.id) (standing s.store) = subst (λ gone. standing (store_left s gone) ≡ filter (λ (p : Object). has_reason g s p.id) (standing s.store)) e (left_exact g s) in
        let a : total (object_holds g r s.store) (filter (λ (p : Object). has_reason g s p.id) (standing s.store)) + total (object_holds g r s.store) (filter (λ (p : Object). not (has_reason g s p.id)) (standing s.store)) ≡ total (object_holds g r s.store) (standing s.store)
        = total-parts (object_holds g r s.store) (λ (p : Object). has_reason g s p.id) (standing s.store) in
        let b : total (object_holds g r s.store) (filter (λ (p : Object). not (has_reason g s p.id)) (standing s.store)) ≡ total (object_holds g r s.store) (o ∷ os) = ap (total (object_holds g r s.store)) e in
        let c : total (object_holds g r s.store) (standing (Gone (map (λ (p : Object). p.id) (o ∷ os)) ∷ s.store)) ≡ total (object_holds g r s.store) (filter (λ (p : Object). has_reason g s p.id) (standing s.store)) = ap (total (object_holds g r s.store)) left in
        quiet _ refl (each_less (object_holds g r s.store) (λ t (p : Object). Holders.drop g (references_of (Holders.fields_of g s p)) t) (o ∷ os) (λ k t p j. drop_off (foreign_ids g.id (references_of (Holders.fields_of g s p))) j)
        (each_off _ _ (λ t id k. quiet _ refl k) (renumber (0 + 0) (n + total (object_holds g r s.store) (o ∷ os)) 0 (n + total (object_holds g r s.store) (o ∷ os)) (omega arith)
        (store_off 0 (total (object_holds g r s.store) (o ∷ os)) (Gone (map (λ (p : Object). p.id) (o ∷ os)) ∷ s.store) (omega arith) h))))

names_off : {g : Setting} {r : ForeignId} {n : ℕ} {s : State} (x : Result (List Binding) RegistryFault) → Off g r 0 n s → Off g r 0 n (OwnEvents.set_names x s)
unfolding OwnEvents.set_names
names_off (Ok names) h = quiet _ refl h
names_off (Err why) h = quiet _ refl h

lookup_off : {g : Setting} {r : ForeignId} {n : ℕ} {s : State} (peer : Uuid) (name : List ℕ) → Off g r 0 n s → Off g r 0 n (OwnEvents.on_lookup g peer name s)
unfolding OwnEvents.on_lookup
lookup_off peer name h = if_off (is_name name) (quiet _ refl h) (quiet _ refl h)

opened_off : {g : Setting} {r : ForeignId} {n : ℕ} {s : State} (conn : ℕ) (dialled : Option Uuid) → Off g r 0 n s → Off g r 0 n (OwnEvents.on_opened g conn dialled s)
unfolding OwnEvents.on_opened
opened_off {g} conn None h = if_off (nat_le 2 g.version) (quiet _ refl h) (say_hello_off 1 conn (quiet _ refl h))
opened_off conn (Some peer) h = say_hello_off _ conn (quiet _ refl h)

refused_off : {g : Setting} {r : ForeignId} {n : ℕ} {s : State} (peer : Uuid) → Off g r 0 n s → Off g r 0 n (OwnEvents.on_refused g peer s)
unfolding OwnEvents.on_refused
refused_off peer h = end_requests_off (Requests.waits_for peer) _ (quiet _ refl h)

-- ---- events

-- an operation that a space takes fits its store
abbrev Fits : Setting → State → Event → Type 0
Fits g s (Committed task k op) = OpFits g s.objects_made s.store op
Fits g s _ = Unit {0}

happen_off : {g : Setting} {r : ForeignId} {n : ℕ} {s : State} (e : Event) → Fresh s → Fits g s e → Off g r 0 n s → Off g r 0 n (Space.happen g e s)
unfolding Space.happen Endings.fail_write
happen_off (Moment moment) f o h = moment_off moment h
happen_off Sweep f o h = sweep_off h
happen_off (Root method arguments fuel) f o h = add_task_off OfRoot method arguments fuel h
happen_off (RootAck task) f o h = release_off _ h
happen_off (Bind name value) f o h = names_off _ h
happen_off (Rebind name value) f o h = names_off _ h
happen_off (Unbind name) f o h = names_off _ h
happen_off (Lookup peer name) f o h = lookup_off peer name h
happen_off (Opened conn dialled) f o h = opened_off conn dialled h
happen_off (Refused peer) f o h = refused_off peer h
happen_off {s = s} (Received conn m) f o h = received_off (connection_at s conn) m h
happen_off (Closed conn) f o h = end_connection_off _ conn h
happen_off (ReadFailed conn) f o h = end_connection_off _ conn h
happen_off (Bad conn) f o h = end_connection_off _ conn h
happen_off (WriteFailed conn unsent) f o h = end_connection_off _ conn h
happen_off (Committed task k op) f o h = commit_off task k op o h
happen_off (Parked task k) f o h = park_off task k h
happen_off (GivenBack task k) f o h = give_back_off task k h
happen_off (Finished task k) f o h = finish_off task k f h

sent_off : {g : Setting} {r : ForeignId} {n : ℕ} {s : State} (o : Output) → Off g r 0 n s → Off g r 0 n (Space.record_sent s o)
sent_off (Started task) h = h
sent_off (Ended task outcome) h = h
sent_off (Withdrawn ids) h = h
sent_off (Denied why) h = h
sent_off (Send conn m) h = quiet _ refl h
sent_off (Dial peer) h = h
sent_off (Close conn) h = h
sent_off (Ready task) h = h

finish_event_off : {g : Setting} {r : ForeignId} {n : ℕ} {s : State} (answers : Bool) → Off g r 0 n s → Off g r 0 n (Space.finish_event answers s).0
finish_event_off true h = each_off _ _ (λ u o j. sent_off o j) (quiet _ refl (settle_off h))
finish_event_off false h = h

-- ---- histories

-- what a space takes of an operation on its store
op-fits : (g : Setting) (s : State) (op : Op) → Fresh s → ((id : ObjId) (slot : ℕ) → s.objects_made + 1 ≤ id.0 → last_written s.store id slot ≡ None) → Refusals.fits_store g s op ≡ true → OpFits g s.objects_made s.store op
op-fits g s (Create class) fresh unwritten e = unwritten
op-fits g s (Get id slot) fresh unwritten e = tt
op-fits g s (Call target method arguments) fresh unwritten e = tt
op-fits g s (Put id slot value) fresh unwritten e = (fresh.0, there (object_at s id) refl e)
  where
    within : (o : Object) (k : Option Rattle.sp_rules.specs.Classes.Kind) → field_kind g.classes o.class slot ≡ k → fits_field k value ≡ true → slot < length (g.classes.fields o.class)
    within o None is f = absurd (true≢false (sym f))
    within o (Some k) is f = by (slice_get_cases (g.classes.fields o.class) slot).1
      where
        by : ((x : Rattle.sp_rules.specs.Classes.Kind) × (slot < length (g.classes.fields o.class)) × (slice_get (g.classes.fields o.class) slot ≡ Some x) × (Rattle.std.specs.Prelude.get_or (g.classes.fields o.class) slot x ≡ x)) ⊎ ((length (g.classes.fields o.class) ≤ slot) × (slice_get (g.classes.fields o.class) slot ≡ None)) → slot < length (g.classes.fields o.class)
        by (inl x) = x.1
        by (inr x) = absurd (some-none k (sym is ∙ x.1))

    there : (found : Option Object) → object_at s id ≡ found → Refusals.takes_value g found slot value ≡ true → (o : Object) × ((object_at s id ≡ Some o) × (slot < length (g.classes.fields o.class)))
    there None is f = absurd (true≢false (sym f))
    there (Some o) is f = (o, (is, within o (field_kind g.classes o.class slot) refl f))

fits-of : (g : Setting) (lent : List ℕ) (s : State) (task k : ℕ) (op : Op) → first_refusal (checks g lent s (Committed task k op)) ≡ None → Refusals.fits_store g s op ≡ true
fits-of g lent s task k op e =
    let kind : List Check = Refusals.check_committed g s op (Refusals.stand_after k (task_at s task)) in
    not-false (Refusals.fits_store g s op) (first-of (not (Refusals.fits_store g s op)) Refusals.WrongKind (Refusals.refuse_if (not (Refusals.stands_at op (Refusals.stand_after k (task_at s task)))) Refusals.WrongKind)
    (later (Refusals.refuse_if (not (Refusals.holds_op g (task_at s task) op)) Refusals.NotHeld) kind
    (later (Refusals.refuse_if (not (Refusals.is_in_hand lent s task)) Refusals.NotLent) (Refusals.refuse_if (not (Refusals.holds_op g (task_at s task) op)) Refusals.NotHeld ++ kind) e))).0

fits : (g : Setting) (lent : List ℕ) (s : State) (e : Event) → first_refusal (checks g lent s e) ≡ None → Fresh s → ((id : ObjId) (slot : ℕ) → s.objects_made + 1 ≤ id.0 → last_written s.store id slot ≡ None) → Fits g s e
fits g lent s (Committed task k op) t f u = op-fits g s op f u (fits-of g lent s task k op t)
fits g lent s (Moment moment) t f u = tt
fits g lent s Sweep t f u = tt
fits g lent s (Root method arguments fuel) t f u = tt
fits g lent s (RootAck task) t f u = tt
fits g lent s (Bind name value) t f u = tt
fits g lent s (Rebind name value) t f u = tt
fits g lent s (Unbind name) t f u = tt
fits g lent s (Lookup peer name) t f u = tt
fits g lent s (Opened conn dialled) t f u = tt
fits g lent s (Refused peer) t f u = tt
fits g lent s (Received conn m) t f u = tt
fits g lent s (Closed conn) t f u = tt
fits g lent s (ReadFailed conn) t f u = tt
fits g lent s (Bad conn) t f u = tt
fits g lent s (WriteFailed conn unsent) t f u = tt
fits g lent s (Parked task k) t f u = tt
fits g lent s (GivenBack task k) t f u = tt
fits g lent s (Finished task k) t f u = tt

on_off : {r : ForeignId} (g : Setting) (lent : List ℕ) (s : State) (e : Event) → refusal g lent s e ≡ None → Fresh s → ((id : ObjId) (slot : ℕ) → s.objects_made + 1 ≤ id.0 → last_written s.store id slot ≡ None) → Off g r 0 0 s → Off g r 0 0 (Space.on g e s).0
unfolding Space.on
on_off g lent s e t f u h = finish_event_off (Space.answers_outputs e) (happen_off e f (fits g lent s e (unrefused g lent s e t) f u) h)

off-of : (g : Setting) (h : List Event) (r : ForeignId) → IsTaken g h → Off g r 0 0 (Space.state_of g h)
unfolding Space.state_of opening
off-of g [] r t = record { parts = record { even = λ lt. refl } }
off-of g (e ∷ h) r t = on_off g t.0.0 (Space.state_of g h) e t.0.1 (fresh-of g h) (own-only g h t.1).parts.unwritten (off-of g h r t.1)

pub holders_are_counted : HoldersAreCounted
holders_are_counted g h t r lt =
    let s : State = Space.state_of g h in
    let e : counted r (Space.state_of g h).leases + 0 ≡ Holders.holders_of g (Space.state_of g h) r + 0 = (off-of g h r t).parts.even (ltb-true (times_held r (Space.state_of g h).leases) 18446744073709551615 lt) in omega arith
