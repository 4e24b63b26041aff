-- Tasks: how they start, ask and go on, and end, and what becomes of their results (Java RMI specification, 3.1 and appendix A; fuel is this project's own rule).
use Rattle.std.specs.Prelude.{ℕ, ◌+◌, ◌==◌, not, nat_le, Bool, true, false, List, [], ◌∷◌, ◌++◌, Option, None, Some, filter, length, unwrap_or, if◌then◌else◌}
use Rattle.net_message.specs.declared.message.Message.{Message}
use Rattle.net_message.specs.declared.message.Message.TheVariants as message
use Rattle.space_ids.specs.declared.ids.ObjId.{ObjId}
use Rattle.space_ids.specs.declared.value.Value.{Value}
use Rattle.space_ids.specs.declared.value.Value.TheVariants as values
use Rattle.sp_rules.specs.Behaviours.{Outcome, Returned, Threw, Spent, Op, Create, Get, Put, Call, Reply, Gives, GivesBack, Throws, RunsOut}
use Rattle.sp_rules.specs.Classes.{Setting, told_class, blank, field_kind}
use Rattle.sp_rules.specs.Events.{Started, Ended, Ready, Replies}
use Rattle.sp_rules.specs.Holders.{hold, drop}
use Rattle.sp_rules.specs.Lists.{with_some}
use Rattle.sp_rules.specs.References.{references_in, reference_of}
use Rattle.sp_rules.specs.State.{State, Living, Origin, OfRoot, OfCall, Until, RootAcked, Acked, Asked, Calls, LooksUp, Tells, Waits, Made, Written, Object, task_at, ready_at, set_task, say, send, is_open, object_at, last_written, standing}
use Rattle.sp_rules.specs.Tasks.{Stand, Runs, AsksFor, HasEnded, start, steps, stand, answer, gained, lent, lend_fuel}

-- ---- starts

-- A task takes the next id as it starts.
unfoldable pub add_task : Setting → Origin → ℕ → List Value → ℕ → State → State
add_task g origin method arguments fuel s =
    let id = s.tasks_made + 1 in
    let task = start g method arguments fuel in
    say (Ready id) (hold g task.held (say (Started id) (record s {
      tasks_made = id;
      tasks = s.tasks ++ record {
        id = id;
        origin = origin;
        waits = false;
        task = task;
        began = record { method = method; arguments = arguments; fuel = fuel };
        given = [];
        steps = 0;
      } ∷ [];
    })))

-- ---- results

abbrev pub keep : Setting → Until → Option Value → State → State
keep g until value s = hold g (references_in value) (record s { results = s.results ++ record { until = until; value = value } ∷ [] })

-- A reply gives back the fuel left. An Error is answered as ServerError, a RemoteException as ServerException, any other class as itself.
abbrev pub reply_frame : Setting → ℕ → ℕ → Outcome → Message
reply_frame g number fuel (Returned value) = message.Returned number fuel value
reply_frame g number fuel (Threw class) = message.Threw number (told_class g.classes class)
reply_frame g number fuel Spent = message.Spent number

abbrev pub keep_result : Setting → Until → Outcome → State → State
keep_result g until (Returned value) s = keep g until value s
keep_result g until (Threw class) s = s
keep_result g until Spent s = s

-- Until Ack the owner of a reply holds the result, and a root's result is held until RootAck. The result of a task whose caller's connection ended is dropped.
abbrev pub report : Setting → Origin → ℕ → ℕ → Outcome → State → State
report g OfRoot id fuel outcome s = keep_result g (RootAcked id) outcome s
report g (OfCall conn number) id fuel outcome s =
    if is_open s conn
    then send Replies conn (reply_frame g number fuel outcome) (keep_result g (Acked conn number) outcome s)
    else s

-- A task lets go what it holds as it ends, after its result is held.
abbrev pub end_with : Setting → ℕ → Living → Outcome → State → State
end_with g id t outcome s =
    drop g t.task.held (report g t.origin id t.task.fuel outcome
    (say (Ended id outcome) (record s {
      tasks = filter (λ (u : Living). not (u.id == id)) s.tasks;
      retired = s.retired + t.task.made;
    })))

-- ---- replies

-- instructions of a task's own, and then a reply
abbrev pub after_steps : ℕ → Living → Living
after_steps k t = record t { task = steps k t.task; steps = t.steps + k }

abbrev pub after_reply : Setting → Reply → Living → Living
after_reply g reply t = record t {
  waits = false;
  task = answer g reply t.task;
  given = record { steps = t.steps; lent = t.waits; reply = reply } ∷ t.given;
  steps = 0;
}

-- the task goes on
unfoldable pub reply_task : Setting → ℕ → Reply → State → State
reply_task g id reply s = with_some (task_at s id) s (λ t.
    say (Ready id) (hold g (gained t.task (answer g reply t.task)) (set_task (after_reply g reply) id s)))

abbrev pub outcome_of : Reply → Outcome
outcome_of (Gives value) = Returned value
outcome_of (GivesBack value fuel) = Returned value
outcome_of (Throws class) = Threw class
outcome_of RunsOut = Spent

-- A call's task goes on with the reply. A lookup ends, and its result is held until RootAck.
unfoldable pub reply_to : Setting → Asked → Reply → State → State
reply_to g (Calls number task lent kind m) reply s = reply_task g task reply s
reply_to g (LooksUp number task name) reply s =
    keep_result g (RootAcked task) (outcome_of reply) (say (Ended task (outcome_of reply)) s)
reply_to g (Tells call group) reply s = s

-- ---- operations on the store

abbrev pub value_at : Setting → State → ObjId → ℕ → Option Object → Option Value
value_at g s id slot None = None
value_at g s id slot (Some o) = Some (unwrap_or (last_written s.store id slot) (blank (field_kind g.classes o.class slot)))

-- 65,536 objects may stand
abbrev pub is_full : State → Bool
is_full s = nat_le 65536 (length (standing s.store))

abbrev pub next_object : State → ObjId
next_object s = record { 0 = s.objects_made + 1 }

-- A new remote instance over the limit of standing objects throws OutOfMemoryError. A field is what was last put into it.
unfoldable pub op_reply : Setting → Op → State → Reply
op_reply g (Create class) s =
    if is_full s then Throws g.classes.out_of_memory
    else Gives (Some (values.Ref (record { space = g.id; id = next_object s; class = class })))
op_reply g (Get id slot) s = Gives (value_at g s id slot (object_at s id))
op_reply g (Put id slot value) s = Gives None
op_reply g (Call target method arguments) s = RunsOut

-- Instances of remote classes have ids from 1 that never come again. A field holds the reference that is put into it, and lets go the one that it had.
unfoldable pub after_op : Setting → Op → State → State
after_op g (Create class) s =
    if is_full s then s else record s { objects_made = s.objects_made + 1; store = Made (next_object s) class ∷ s.store }
after_op g (Get id slot) s = s
after_op g (Put id slot value) s =
    drop g (references_in (value_at g s id slot (object_at s id)))
    (hold g (reference_of value) (record s { store = Written id slot value ∷ s.store }))
after_op g (Call target method arguments) s = s

-- The operation at which a lent task stands is done, and its reply completes the instruction.
unfoldable pub commit : Setting → ℕ → ℕ → Op → State → State
commit g id k op s = with_some (ready_at s id) s (λ t.
    after_op g op (hold g (gained t.task (answer g (op_reply g op s) (steps k t.task)))
    (set_task (λ (u : Living). after_reply g (op_reply g op s) (after_steps k u)) id s)))

-- ---- calls of a lent task

-- the task waits for the reply to its call
abbrev pub waiting : ℕ → Living → Living
waiting k t = record t { waits = true; task = lend_fuel (steps k t.task); steps = t.steps + k }

-- Calls and lookups of a space are numbered by one from 1 as they are made.
abbrev pub park_op : Setting → ℕ → ℕ → Living → Op → State → State
park_op g id k t (Create class) s = s
park_op g id k t (Get o slot) s = s
park_op g id k t (Put o slot value) s = s
park_op g id k t (Call target method arguments) s =
    let number = s.calls_made + 1 in
    let fuel = lent (steps k t.task) in
    let s' = set_task (waiting k) id s in
    record s' {
      calls_made = number;
      fresh = record {
        peer = target.space;
        asked = Calls number id fuel (g.classes.result method) (message.Call number target.id method fuel arguments);
        stage = Waits;
      } ∷ [];
    }

abbrev pub park_at : Setting → ℕ → ℕ → Living → Stand → State → State
park_at g id k t Runs s = s
park_at g id k t (AsksFor op) s = park_op g id k t op s
park_at g id k t (HasEnded outcome) s = s

unfoldable pub park_call : Setting → ℕ → ℕ → State → State
park_call g id k s = with_some (ready_at s id) s (λ t. park_at g id k t (stand (steps k t.task)) s)

-- ---- ends of a lent task

-- A task that is given back stands at the point to which its own instructions brought it.
unfoldable pub give_back : ℕ → ℕ → State → State
give_back id k s = with_some (ready_at s id) s (λ t. set_task (after_steps k) id s)

abbrev pub end_at : Setting → ℕ → Living → Stand → State → State
end_at g id t Runs s = s
end_at g id t (AsksFor op) s = s
end_at g id t (HasEnded outcome) s = end_with g id t outcome s

-- Every Ended of a task comes from its being finished.
unfoldable pub finish_task : Setting → ℕ → ℕ → State → State
finish_task g id k s = with_some (ready_at s id) s (λ t. end_at g id (after_steps k t) (stand (steps k t.task)) s)
