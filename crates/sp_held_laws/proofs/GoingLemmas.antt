-- Frames go when their leases are there.
use mathlib.Core.Path.{sym, ap, subst, ◌∙◌}
use Rattle.std.proofs.Common.{inl, inr}
use Rattle.std.proofs.lemmas.Bool.{true≢false}
use Rattle.std.specs.List.{list_all}
use Rattle.std.specs.Prelude.{◌≡◌, ◌⊎◌, refl, ℕ, not, cond, Bool, true, false, List, [], ◌∷◌, ◌++◌, Option, None, Some, filter, find, if◌then◌else◌}
use Rattle.net_message.specs.declared.message.Message.{Message}
use Rattle.net_message.specs.declared.message.Message.TheVariants as message
use Rattle.space_ids.specs.declared.ids.ForeignId.{ForeignId}
use Rattle.space_ids.specs.declared.ids.ObjId.{ObjId}
use Rattle.space_ids.specs.declared.ids.Ref.{Ref}
use Rattle.space_ids.specs.declared.value.Value.{Value}
use Rattle.space_ids.specs.declared.value.Value.TheVariants as values
use Rattle.sp_rules.specs.Behaviours.{Outcome, Returned, Threw, Spent, Reply, GivesBack}
use Rattle.sp_rules.specs.Classes.{Setting}
use Rattle.sp_rules.specs.Events.{Turn, Acks, Replies, Ended, Ready}
use Rattle.sp_rules.specs.Holders
use Rattle.sp_rules.specs.Holders.{hold_ids, drop_ids}
use Rattle.sp_rules.specs.Laws.{AllOf}
use Rattle.sp_rules.specs.Lists.{each, with_some}
use Rattle.sp_rules.specs.LivingTasks
use Rattle.sp_rules.specs.ParkedFrames
use Rattle.sp_rules.specs.State.{State, Object, Living, Origin, OfCall, Until, RootAcked, Request, Asked, Calls, LooksUp, Tells, Frame, CallFrame, ReturnedFrame, ParkedFrame, task_at, object_at, set_task, say, send}
use Rattle.sp_rules.specs.Tasks.{gained, answer}
use Rattle.sp_held_laws.specs.Going.{IsParked, HasItsLeases, FramesGoWithLeases}

-- ---- what leaves the parked frames as they are

if-same : (s t u : State) (b : Bool) → t.parked ≡ s.parked → u.parked ≡ s.parked → (if b then t else u).parked ≡ s.parked
if-same s t u true e f = e
if-same s t u false e f = f

send-same : (turn : Turn) (conn : ℕ) (m : Message) (s : State) → (send turn conn m s).parked ≡ s.parked
unfolding send
send-same turn conn m s = if-same s (record s { notes = s.notes ++ Rattle.sp_rules.specs.Events.Sends turn conn m ∷ [] }) s (Rattle.sp_rules.specs.State.is_open s conn) refl refl

hold-same : (ids : List ForeignId) (s : State) → (hold_ids ids s).parked ≡ s.parked
unfolding hold_ids each
hold-same [] s = refl
hold-same (r ∷ ids) s = hold-same ids (Holders.holder_comes s r)

drop-same : (ids : List ForeignId) (s : State) → (drop_ids ids s).parked ≡ s.parked
unfolding drop_ids each
drop-same [] s = refl
drop-same (r ∷ ids) s = drop-same ids (Holders.holder_goes s r)

add-same : (g : Setting) (origin : Origin) (method : ℕ) (arguments : List Value) (fuel : ℕ) (s : State) → (LivingTasks.add_task g origin method arguments fuel s).parked ≡ s.parked
unfolding LivingTasks.add_task
add-same g origin method arguments fuel s = hold-same _ _

keep-same : (g : Setting) (until : Until) (outcome : Outcome) (s : State) → (LivingTasks.keep_result g until outcome s).parked ≡ s.parked
keep-same g until (Returned value) s = hold-same _ _
keep-same g until (Threw class) s = refl
keep-same g until Spent s = refl

reply-same : (g : Setting) (asked : Asked) (reply : Reply) (s : State) → (LivingTasks.reply_to g asked reply s).parked ≡ s.parked
unfolding LivingTasks.reply_to LivingTasks.reply_task
reply-same g (Calls number task lent kind m) reply s = at (task_at s task)
  where
    at : (o : Option Living) → (with_some o s (λ t. say (Ready task) (Holders.hold g (gained t.task (answer g reply t.task)) (set_task (LivingTasks.after_reply g reply) task s)))).parked ≡ s.parked
    at None = refl
    at (Some t) = hold-same _ _
reply-same g (LooksUp number task name) reply s = keep-same g (RootAcked task) (LivingTasks.outcome_of reply) (say (Ended task (LivingTasks.outcome_of reply)) s)
reply-same g (Tells call group) reply s = refl

call-same : (g : Setting) (p : ParkedFrame) (target : ObjId) (method fuel : ℕ) (arguments : List Value) (s : State) → (ParkedFrames.start_call g p target method fuel arguments s).parked ≡ s.parked
unfolding ParkedFrames.start_call
call-same g p target method fuel arguments s = at (object_at s target)
  where
    selected : (receiver : Ref) (found : Option ℕ) → (ParkedFrames.start_selected g p.conn p.number receiver found fuel arguments s).parked ≡ s.parked
    selected receiver None = send-same Replies p.conn (message.Threw p.number g.classes.server_error) s
    selected receiver (Some m) = add-same g (OfCall p.conn p.number) m (values.Ref receiver ∷ arguments) fuel s

    at : (o : Option Object) → (with_some o s (λ o. ParkedFrames.start_selected g p.conn p.number (record { space = g.id; id = target; class = o.class }) (g.classes.selected o.class method) fuel arguments s)).parked ≡ s.parked
    at None = refl
    at (Some o) = selected (record { space = g.id; id = target; class = o.class }) (g.classes.selected o.class method)

answer-same : (g : Setting) (p : ParkedFrame) (reply : Reply) (s : State) → (ParkedFrames.answer_parked g p reply s).parked ≡ s.parked
unfolding ParkedFrames.answer_parked
answer-same g p reply s = at (find (ParkedFrames.is_call_on p.conn p.number) s.requests)
  where
    at : (o : Option Request) → (with_some o s (λ r. LivingTasks.reply_to g r.asked reply (send Acks p.conn (message.Ack p.number) (ParkedFrames.remove_requests (ParkedFrames.is_call_on p.conn p.number) s)))).parked ≡ s.parked
    at None = refl
    at (Some r) = reply-same g r.asked reply _ ∙ send-same Acks p.conn (message.Ack p.number) (ParkedFrames.remove_requests (ParkedFrames.is_call_on p.conn p.number) s)

frame-same : (g : Setting) (p : ParkedFrame) (f : Frame) (s : State) → (ParkedFrames.go_frame g p f s).parked ≡ s.parked
frame-same g p (CallFrame target method fuel arguments) s = call-same g p target method fuel arguments s
frame-same g p (ReturnedFrame value fuel) s = answer-same g p (GivesBack value fuel) s

let-go-same : (ps : List ParkedFrame) (s : State) → (each (λ t (q : ParkedFrame). drop_ids q.references t) ps s).parked ≡ s.parked
unfolding each
let-go-same [] s = refl
let-go-same (q ∷ ps) s = let-go-same ps (drop_ids q.references s) ∙ drop-same q.references s

-- ---- one goes

parked-left : (is : ParkedFrame → Bool) (p : ParkedFrame) (xs : List ParkedFrame) → is p ≡ true → IsParked p xs → IsParked p (filter is xs)
parked-left is p [] e a = absurd a
parked-left is p (x ∷ xs) e (inl same) = by (is x) (sym (ap is same) ∙ e)
  where
    by : (b : Bool) → b ≡ true → IsParked p (cond b (x ∷ filter is xs) (filter is xs))
    by true f = inl same
    by false f = absurd (true≢false (sym f))
parked-left is p (x ∷ xs) e (inr a) = by (is x) (parked-left is p xs e a)
  where
    by : (b : Bool) → IsParked p (filter is xs) → IsParked p (cond b (x ∷ filter is xs) (filter is xs))
    by true r = inr r
    by false r = r

-- another stays
other-stays : (g : Setting) (s : State) (q p : ParkedFrame) → ParkedFrames.is_parked_at q.conn q.number p ≡ false → IsParked p s.parked → IsParked p (ParkedFrames.go g s q).parked
unfolding ParkedFrames.go
other-stays g s q p apart a = at (find (ParkedFrames.is_parked_at q.conn q.number) s.parked)
  where
    at : (o : Option ParkedFrame) → IsParked p (with_some o s (λ x. ParkedFrames.let_go_parked q s.parked (ParkedFrames.go_frame g x x.frame (ParkedFrames.take_parked q s)))).parked
    at None = a
    at (Some x) = subst (IsParked p) (sym (let-go-same (filter (ParkedFrames.is_parked_at q.conn q.number) s.parked) (ParkedFrames.go_frame g x x.frame (ParkedFrames.take_parked q s)) ∙ frame-same g x x.frame (ParkedFrames.take_parked q s)))
        (parked-left (λ y. not (ParkedFrames.is_parked_at q.conn q.number y)) p s.parked (ap not apart) a)

-- ---- all that have their leases go

-- a frame of the list was parked, and has its leases
abbrev MayGo : State → ParkedFrame → Type 0
MayGo s q = IsParked q s.parked × (list_all (ParkedFrames.has_lease s) q.references ≡ true)

each-goes : (g : Setting) (s t : State) (p : ParkedFrame) (qs : List ParkedFrame) → AllOf (MayGo s) qs → IsParked p t.parked → IsParked p (each (ParkedFrames.go g) qs t).parked ⊎ HasItsLeases s p
unfolding each
each-goes g s t p [] a there = inl there
each-goes g s t p (q ∷ qs) a there = by (ParkedFrames.is_parked_at q.conn q.number p) refl (λ still. each-goes g s (ParkedFrames.go g t q) p qs a.1 still)
  where
    by : (b : Bool) → ParkedFrames.is_parked_at q.conn q.number p ≡ b → (IsParked p (ParkedFrames.go g t q).parked → IsParked p (each (ParkedFrames.go g) qs (ParkedFrames.go g t q)).parked ⊎ HasItsLeases s p)
        → IsParked p (each (ParkedFrames.go g) qs (ParkedFrames.go g t q)).parked ⊎ HasItsLeases s p
    by true same rest = inr (record { frame = q; parked = a.0.0; same = same; leased = a.0.1 })
    by false same rest = rest (other-stays g t q p same there)

may-go : (s : State) (is : ParkedFrame → Bool) (xs : List ParkedFrame) → ((p : ParkedFrame) → IsParked p xs → IsParked p s.parked) → ((p : ParkedFrame) → is p ≡ true → list_all (ParkedFrames.has_lease s) p.references ≡ true) → AllOf (MayGo s) (filter is xs)
may-go s is [] there leased = tt
may-go s is (x ∷ xs) there leased = by (is x) refl (may-go s is xs (λ p a. there p (inr a)) leased)
  where
    by : (b : Bool) → is x ≡ b → AllOf (MayGo s) (filter is xs) → AllOf (MayGo s) (cond b (x ∷ filter is xs) (filter is xs))
    by true f rest = ((there x (inl refl), leased x f), rest)
    by false f rest = rest

pub frames_go_with_leases : FramesGoWithLeases
unfolding ParkedFrames.go_all
frames_go_with_leases g s p there = each-goes g s s p (filter (λ (q : ParkedFrame). list_all (ParkedFrames.has_lease s) q.references) s.parked)
    (may-go s (λ (q : ParkedFrame). list_all (ParkedFrames.has_lease s) q.references) s.parked (λ q a. a) (λ q e. e)) there
