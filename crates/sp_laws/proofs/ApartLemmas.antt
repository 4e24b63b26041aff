-- What frames that were parked make of a state does not depend on those that are parked.
use Rattle.std.proofs.Common.{◌≡◌, ℕ, ◌+◌, Bool, true, false, cond, List, [], ◌∷◌, Option, None, Some, refl, ap, ◌∙◌}
use Rattle.std.specs.Prelude.{find, ◌++◌}
use Rattle.net_message.specs.declared.message.Message.{Message}
use Rattle.net_message.specs.declared.message.Message.TheVariants as message
use Rattle.space_ids.specs.declared.ids.ForeignId.{ForeignId}
use Rattle.space_ids.specs.declared.ids.ObjId.{ObjId}
use Rattle.space_ids.specs.declared.ids.Ref.{Ref}
use Rattle.space_ids.specs.declared.value.Value.{Value}
use Rattle.space_ids.specs.declared.value.Value.TheVariants as values
use Rattle.sp_rules.specs.Behaviours.{Outcome, Returned, Threw, Spent, Reply, GivesBack, Throws}
use Rattle.sp_rules.specs.Classes.{Setting}
use Rattle.sp_rules.specs.Events.{Turn, Sends, Ready, Ended, Acks}
use Rattle.sp_rules.specs.Holders.{drop_ids, hold_ids, holder_comes, holder_goes}
use Rattle.sp_rules.specs.Lists.{each, with_some}
use Rattle.sp_rules.specs.LivingTasks.{add_task, after_reply, keep_result, outcome_of, reply_task, reply_to}
use Rattle.sp_rules.specs.ParkedFrames.{answer_parked, fail_frame, go_frame, is_call_on, remove_requests, start_call, start_selected}
use Rattle.sp_rules.specs.References.{foreign_ids, references_in}
use Rattle.sp_rules.specs.State.{State, Living, Object, Origin, OfCall, Until, RootAcked, Request, Asked, Calls, LooksUp, Tells, Frame, CallFrame, ReturnedFrame, ParkedFrame, is_open, object_at, say, send, set_task, task_at}
use Rattle.sp_rules.specs.Tasks.{answer, gained, start}

-- the state with these parked frames
abbrev pub with_parked : List ParkedFrame → State → State
with_parked parked s = record s { parked = parked }

-- ---- apart from parked frames

pub hold-apart : (ids : List ForeignId) (ps : List ParkedFrame) (s : State) → hold_ids ids (with_parked ps s) ≡ with_parked ps (hold_ids ids s)
unfolding hold_ids each
hold-apart [] ps s = refl
hold-apart (x ∷ xs) ps s = hold-apart xs ps (holder_comes s x)

pub drop-apart : (ids : List ForeignId) (ps : List ParkedFrame) (s : State) → drop_ids ids (with_parked ps s) ≡ with_parked ps (drop_ids ids s)
unfolding drop_ids each
drop-apart [] ps s = refl
drop-apart (x ∷ xs) ps s = drop-apart xs ps (holder_goes s x)

pub send-apart : (turn : Turn) (conn : ℕ) (m : Message) (ps : List ParkedFrame) (s : State) → send turn conn m (with_parked ps s) ≡ with_parked ps (send turn conn m s)
unfolding send
send-apart turn conn m ps s = by (is_open s conn)
  where
    by : (b : Bool) → cond b (record (with_parked ps s) { notes = s.notes ++ Sends turn conn m ∷ [] }) (with_parked ps s) ≡ with_parked ps (cond b (record s { notes = s.notes ++ Sends turn conn m ∷ [] }) s)
    by true = refl
    by false = refl

add-apart : (g : Setting) (origin : Origin) (method : ℕ) (arguments : List Value) (fuel : ℕ) (ps : List ParkedFrame) (s : State)
    → add_task g origin method arguments fuel (with_parked ps s) ≡ with_parked ps (add_task g origin method arguments fuel s)
unfolding add_task
add-apart g origin method arguments fuel ps s =
    ap (say (Ready (s.tasks_made + 1))) (hold-apart (foreign_ids g.id (start g method arguments fuel).held) ps _)

some-apart : {A : Type 0} (o : Option A) (f : A → State → State) (ps : List ParkedFrame) (s : State) → ((a : A) → f a (with_parked ps s) ≡ with_parked ps (f a s))
    → with_some o (with_parked ps s) (λ a. f a (with_parked ps s)) ≡ with_parked ps (with_some o s (λ a. f a s))
some-apart None f ps s same = refl
some-apart (Some a) f ps s same = same a

reply-task-apart : (g : Setting) (id : ℕ) (reply : Reply) (ps : List ParkedFrame) (s : State) → reply_task g id reply (with_parked ps s) ≡ with_parked ps (reply_task g id reply s)
unfolding reply_task
reply-task-apart g id reply ps s =
    some-apart (task_at s id) (λ (t : Living) (u : State). say (Ready id) (hold_ids (foreign_ids g.id (gained t.task (answer g reply t.task))) (set_task (after_reply g reply) id u))) ps s
    (λ t. ap (say (Ready id)) (hold-apart (foreign_ids g.id (gained t.task (answer g reply t.task))) ps (set_task (after_reply g reply) id s)))

keep-apart : (g : Setting) (until : Until) (outcome : Outcome) (ps : List ParkedFrame) (s : State) → keep_result g until outcome (with_parked ps s) ≡ with_parked ps (keep_result g until outcome s)
keep-apart g until (Returned value) ps s = hold-apart (foreign_ids g.id (references_in value)) ps _
keep-apart g until (Threw class) ps s = refl
keep-apart g until Spent ps s = refl

pub reply-apart : (g : Setting) (asked : Asked) (reply : Reply) (ps : List ParkedFrame) (s : State) → reply_to g asked reply (with_parked ps s) ≡ with_parked ps (reply_to g asked reply s)
unfolding reply_to
reply-apart g (Calls number task lent kind m) reply ps s = reply-task-apart g task reply ps s
reply-apart g (LooksUp number task name) reply ps s = keep-apart g (RootAcked task) (outcome_of reply) ps (say (Ended task (outcome_of reply)) s)
reply-apart g (Tells call group) reply ps s = refl

-- ---- frames

start-apart : (g : Setting) (p : ParkedFrame) (target : ObjId) (method fuel : ℕ) (arguments : List Value) (ps : List ParkedFrame) (s : State)
    → start_call g p target method fuel arguments (with_parked ps s) ≡ with_parked ps (start_call g p target method fuel arguments s)
unfolding start_call
start-apart g p target method fuel arguments ps s =
    some-apart (object_at s target) (λ (o : Object) (u : State). start_selected g p.conn p.number (record { space = g.id; id = target; class = o.class }) (g.classes.selected o.class method) fuel arguments u) ps s
    (λ o. by (record { space = g.id; id = target; class = o.class }) (g.classes.selected o.class method))
  where
    by : (receiver : Ref) (found : Option ℕ) → start_selected g p.conn p.number receiver found fuel arguments (with_parked ps s) ≡ with_parked ps (start_selected g p.conn p.number receiver found fuel arguments s)
    by receiver None = send-apart _ p.conn _ ps s
    by receiver (Some m) = add-apart g (OfCall p.conn p.number) m (values.Ref receiver ∷ arguments) fuel ps s

answer-apart : (g : Setting) (p : ParkedFrame) (reply : Reply) (ps : List ParkedFrame) (s : State) → answer_parked g p reply (with_parked ps s) ≡ with_parked ps (answer_parked g p reply s)
unfolding answer_parked
answer-apart g p reply ps s =
    some-apart (find (is_call_on p.conn p.number) s.requests) (λ (r : Request) (u : State). reply_to g r.asked reply (send Acks p.conn (message.Ack p.number) (remove_requests (is_call_on p.conn p.number) u))) ps s
    (λ r. ap (reply_to g r.asked reply) (send-apart Acks p.conn (message.Ack p.number) ps (remove_requests (is_call_on p.conn p.number) s))
    ∙ reply-apart g r.asked reply ps (send Acks p.conn (message.Ack p.number) (remove_requests (is_call_on p.conn p.number) s)))

pub go-frame-apart : (g : Setting) (p : ParkedFrame) (f : Frame) (ps : List ParkedFrame) (s : State) → go_frame g p f (with_parked ps s) ≡ with_parked ps (go_frame g p f s)
go-frame-apart g p (CallFrame target method fuel arguments) ps s = start-apart g p target method fuel arguments ps s
go-frame-apart g p (ReturnedFrame value fuel) ps s = answer-apart g p (GivesBack value fuel) ps s
