-- Frames that go leave the objects of a space.
use Rattle.std.proofs.Common.{◌≡◌, ℕ, ◌++◌, Bool, true, false, cond, List, [], ◌∷◌, Option, None, Some, refl, ◌∙◌}
use Rattle.std.specs.Prelude.{find}
use Rattle.net_message.specs.declared.message.Message.{Message}
use Rattle.net_message.specs.declared.message.Message.TheVariants as message
use Rattle.space_ids.specs.declared.ids.ForeignId.{ForeignId}
use Rattle.space_ids.specs.declared.ids.ObjId.{ObjId}
use Rattle.space_ids.specs.declared.ids.Ref.{Ref}
use Rattle.space_ids.specs.declared.value.Value.{Value}
use Rattle.space_ids.specs.declared.value.Value.TheVariants as values
use Rattle.sp_rules.specs.Behaviours.{Outcome, Returned, Threw, Spent, Reply, GivesBack}
use Rattle.sp_rules.specs.Classes.{Setting}
use Rattle.sp_rules.specs.Events.{Turn, Sends, Ready, Ended, Acks}
use Rattle.sp_rules.specs.Holders.{drop_ids, hold_ids, holder_comes, holder_goes}
use Rattle.sp_rules.specs.Lists.{each, with_some}
use Rattle.sp_rules.specs.LivingTasks.{add_task, after_reply, keep_result, outcome_of, reply_task, reply_to}
use Rattle.sp_rules.specs.ParkedFrames.{answer_parked, go_frame, is_call_on, remove_requests, start_call, start_selected}
use Rattle.sp_rules.specs.References.{foreign_ids, references_in}
use Rattle.sp_rules.specs.State.{State, Living, Object, Origin, OfCall, Until, RootAcked, Request, Asked, Calls, LooksUp, Tells, Frame, CallFrame, ReturnedFrame, ParkedFrame, is_open, object_at, say, send, set_task, task_at}
use Rattle.sp_rules.specs.Tasks.{answer, gained, start}
use Rattle.sp_endings.specs.Passing.{pass_on}

pub hold-store : (ids : List ForeignId) (s : State) → (hold_ids ids s).store ≡ s.store
unfolding hold_ids each
hold-store [] s = refl
hold-store (x ∷ xs) s = hold-store xs (holder_comes s x)

pub drop-store : (ids : List ForeignId) (s : State) → (drop_ids ids s).store ≡ s.store
unfolding drop_ids each
drop-store [] s = refl
drop-store (x ∷ xs) s = drop-store xs (holder_goes s x)

send-store : (turn : Turn) (conn : ℕ) (m : Message) (s : State) → (send turn conn m s).store ≡ s.store
unfolding send
send-store turn conn m s = by (is_open s conn)
  where
    by : (b : Bool) → (cond b (record s { notes = s.notes ++ Sends turn conn m ∷ [] }) s).store ≡ s.store
    by true = refl
    by false = refl

add-store : (g : Setting) (origin : Origin) (method : ℕ) (arguments : List Value) (fuel : ℕ) (s : State) → (add_task g origin method arguments fuel s).store ≡ s.store
unfolding add_task
add-store g origin method arguments fuel s = hold-store (foreign_ids g.id (start g method arguments fuel).held) _

some-store : {A : Type 0} (o : Option A) (f : A → State) (s : State) → ((a : A) → (f a).store ≡ s.store) → (with_some o s f).store ≡ s.store
some-store None f s same = refl
some-store (Some a) f s same = same a

reply-task-store : (g : Setting) (id : ℕ) (reply : Reply) (s : State) → (reply_task g id reply s).store ≡ s.store
unfolding reply_task
reply-task-store g id reply s =
    some-store (task_at s id) (λ (t : Living). say (Ready id) (hold_ids (foreign_ids g.id (gained t.task (answer g reply t.task))) (set_task (after_reply g reply) id s))) s
    (λ t. hold-store (foreign_ids g.id (gained t.task (answer g reply t.task))) (set_task (after_reply g reply) id s))

keep-store : (g : Setting) (until : Until) (outcome : Outcome) (s : State) → (keep_result g until outcome s).store ≡ s.store
keep-store g until (Returned value) s = hold-store (foreign_ids g.id (references_in value)) _
keep-store g until (Threw class) s = refl
keep-store g until Spent s = refl

reply-store : (g : Setting) (asked : Asked) (reply : Reply) (s : State) → (reply_to g asked reply s).store ≡ s.store
unfolding reply_to
reply-store g (Calls number task lent kind m) reply s = reply-task-store g task reply s
reply-store g (LooksUp number task name) reply s = keep-store g (RootAcked task) (outcome_of reply) (say (Ended task (outcome_of reply)) s)
reply-store g (Tells call group) reply s = refl

start-store : (g : Setting) (p : ParkedFrame) (target : ObjId) (method fuel : ℕ) (arguments : List Value) (s : State) → (start_call g p target method fuel arguments s).store ≡ s.store
unfolding start_call
start-store g p target method fuel arguments s =
    some-store (object_at s target) (λ (o : Object). start_selected g p.conn p.number (record { space = g.id; id = target; class = o.class }) (g.classes.selected o.class method) fuel arguments s) s
    (λ o. by (record { space = g.id; id = target; class = o.class }) (g.classes.selected o.class method))
  where
    by : (receiver : Ref) (found : Option ℕ) → (start_selected g p.conn p.number receiver found fuel arguments s).store ≡ s.store
    by receiver None = send-store _ p.conn _ s
    by receiver (Some m) = add-store g (OfCall p.conn p.number) m (values.Ref receiver ∷ arguments) fuel s

answer-store : (g : Setting) (p : ParkedFrame) (reply : Reply) (s : State) → (answer_parked g p reply s).store ≡ s.store
unfolding answer_parked
answer-store g p reply s =
    some-store (find (is_call_on p.conn p.number) s.requests) (λ (r : Request). reply_to g r.asked reply (send Acks p.conn (message.Ack p.number) (remove_requests (is_call_on p.conn p.number) s))) s
    (λ r. reply-store g r.asked reply (send Acks p.conn (message.Ack p.number) (remove_requests (is_call_on p.conn p.number) s)) ∙ send-store Acks p.conn (message.Ack p.number) (remove_requests (is_call_on p.conn p.number) s))

go-frame-store : (g : Setting) (p : ParkedFrame) (f : Frame) (s : State) → (go_frame g p f s).store ≡ s.store
go-frame-store g p (CallFrame target method fuel arguments) s = start-store g p target method fuel arguments s
go-frame-store g p (ReturnedFrame value fuel) s = answer-store g p (GivesBack value fuel) s

pub pass-store : (g : Setting) (p : ParkedFrame) (s : State) → (pass_on g s p).store ≡ s.store
pass-store g p s = drop-store p.references (go_frame g p p.frame s) ∙ go-frame-store g p p.frame s

pub all-pass-store : (g : Setting) (ps : List ParkedFrame) (s : State) → (each (pass_on g) ps s).store ≡ s.store
unfolding each
all-pass-store g [] s = refl
all-pass-store g (p ∷ ps) s = all-pass-store g ps (pass_on g s p) ∙ pass-store g p s
