-- What is answered to a call is what its task ended with, through every event.
use mathlib.Core.Path.{sym, subst, ◌∙◌}
use Rattle.std.proofs.Common.{inl, inr}
use Rattle.std.proofs.lemmas.Bool.{true≢false}
use Rattle.std.specs.Prelude.{◌≡◌, refl, ℕ, ◌+◌, Bool, true, false, List, [], ◌∷◌, Option, None, Some, if◌then◌else◌}
use Rattle.net_message.specs.declared.message.Message.{Message}
use Rattle.net_message.specs.declared.message.Message.TheVariants as message
use Rattle.space_ids.specs.declared.ids.ForeignId.{ForeignId}
use Rattle.sp_rules.specs.Behaviours.{Op, Create, Get, Put, Call}
use Rattle.sp_rules.specs.Classes.{Setting}
use Rattle.sp_rules.specs.Events.{Event, Committed, GivenBack, Output, Started, Ended, Withdrawn, Denied, Send, Dial, Close, Ready, Note, Says, Sends, output_of, in_order, ranks}
use Rattle.sp_rules.specs.Holders
use Rattle.sp_rules.specs.Holders.{hold_ids, drop_ids}
use Rattle.sp_rules.specs.Laws.{AllOf}
use Rattle.sp_rules.specs.Lists.{each, with_some}
use Rattle.sp_rules.specs.LivingTasks
use Rattle.sp_rules.specs.Requests
use Rattle.sp_rules.specs.Space
use Rattle.sp_rules.specs.State.{State, Living, ready_at, task_at, set_task, opening}
use Rattle.sp_rules.specs.Tasks.{steps, answer, gained}
use Rattle.sp_rules.proofs.AllLemmas.{all-more, ranks-all}
use Rattle.sp_rules.proofs.ReadyLemmas.{ready-is}
use Rattle.sp_laws.specs.Answers.{IsAnswer, Answers, SendsAnswer, AnswersAreOutcomes}
use Rattle.sp_laws.specs.Directions.{HasOpened}
use Rattle.sp_laws.specs.CallSent.{is_send}
use Rattle.sp_laws.proofs.DirectionLemmas.{Directed, IsCall, Frames-in, view, directed_flow, directed-begin, directed-of, wider, Finishes}
use Rattle.sp_laws.proofs.EventRules.{View, Flows, Begins, EventParts, event_parts, CanSend, happen_settles}

-- ---- between events nothing is noted

hold-notes : (ids : List ForeignId) (s : State) → (hold_ids ids s).notes ≡ s.notes
unfolding hold_ids each
hold-notes [] s = refl
hold-notes (r ∷ ids) s = hold-notes ids (Holders.holder_comes s r)

drop-notes : (ids : List ForeignId) (s : State) → (drop_ids ids s).notes ≡ s.notes
unfolding drop_ids each
drop-notes [] s = refl
drop-notes (r ∷ ids) s = drop-notes ids (Holders.holder_goes s r)

op-notes : (g : Setting) (op : Op) (s : State) → (LivingTasks.after_op g op s).notes ≡ s.notes
unfolding LivingTasks.after_op
op-notes g (Create class) s = pick (LivingTasks.is_full s)
  where
    pick : (b : Bool) → (if b then s else record s { objects_made = s.objects_made + 1; store = Rattle.sp_rules.specs.State.Made (LivingTasks.next_object s) class ∷ s.store }).notes ≡ s.notes
    pick true = refl
    pick false = refl
op-notes g (Get id slot) s = refl
op-notes g (Put id slot value) s = drop-notes _ _ ∙ hold-notes _ _
op-notes g (Call target method arguments) s = refl

commit-notes : (g : Setting) (id k : ℕ) (op : Op) (s : State) → (LivingTasks.commit g id k op s).notes ≡ s.notes
unfolding LivingTasks.commit
commit-notes g id k op s = at (ready_at s id)
  where
    at : (o : Option Living) → (with_some o s (λ t. LivingTasks.after_op g op (Holders.hold g (gained t.task (answer g (LivingTasks.op_reply g op s) (steps k t.task))) (set_task (λ (u : Living). LivingTasks.after_reply g (LivingTasks.op_reply g op s) (LivingTasks.after_steps k u)) id s)))).notes ≡ s.notes
    at None = refl
    at (Some t) = op-notes g op _ ∙ hold-notes _ _

give-notes : (id k : ℕ) (s : State) → (LivingTasks.give_back id k s).notes ≡ s.notes
unfolding LivingTasks.give_back
give-notes id k s = at (ready_at s id)
  where
    at : (o : Option Living) → (with_some o s (λ t. set_task (LivingTasks.after_steps k) id s)).notes ≡ s.notes
    at None = refl
    at (Some t) = refl

sent-notes : (os : List Output) (s : State) → (each Space.record_sent os s).notes ≡ s.notes
unfolding each
sent-notes [] s = refl
sent-notes (o ∷ os) s = sent-notes os (Space.record_sent s o) ∙ one o
  where
    one : (o : Output) → (Space.record_sent s o).notes ≡ s.notes
    one (Started task) = refl
    one (Ended task outcome) = refl
    one (Withdrawn ids) = refl
    one (Denied why) = refl
    one (Send conn m) = refl
    one (Dial peer) = refl
    one (Close conn) = refl
    one (Ready task) = refl

quiet-notes : (g : Setting) (s : State) (e : Event) → Space.answers_outputs e ≡ false → s.notes ≡ [] → (Space.happen g e s).notes ≡ []
unfolding Space.happen
quiet-notes g s (Committed task k op) lent none = commit-notes g task k op s ∙ none
quiet-notes g s (GivenBack task k) lent none = give-notes task k s ∙ none
quiet-notes g s _ lent none = absurd (true≢false lent)

notes-after : (g : Setting) (s : State) (e : Event) → s.notes ≡ [] → (Space.on g e s).0.notes ≡ []
unfolding Space.on
notes-after g s e none = by (Space.answers_outputs e) (quiet-notes g s e)
  where
    by : (b : Bool) → (b ≡ false → s.notes ≡ [] → (Space.happen g e s).notes ≡ []) → (Space.finish_event b (Space.happen g e s)).0.notes ≡ []
    by true h = sent-notes _ _
    by false h = h refl none

pub no-notes : (g : Setting) (h : List Event) → (Space.state_of g h).notes ≡ []
unfolding Space.state_of opening
no-notes g [] = refl
no-notes g (e ∷ h) = notes-after g (Space.state_of g h) e (no-notes g h)

-- ---- what is kept

abbrev Told : Setting → State → Event → Note → Type 0
Told g before e n = SendsAnswer g before e (output_of n)

abbrev answer_view : Setting → Event → List Event → State → View
answer_view g e h before = record {
  setting = g;
  event = e;
  Dialled = HasOpened (e ∷ h);
  Answers = IsAnswer g before e;
  Known = Frames-in (e ∷ h);
  Fails = λ c. Unit {0};
  Ends = λ a r. Unit {0};
  Starts = λ o n a. Unit {0};
  Speaks = λ c version. Unit {0};
  Fits = λ c ids. Unit {0};
  Keeps = λ l s. Directed (e ∷ h) l (event_parts s) × AllOf (Told g before e) s.notes;
}

can-answer : (g : Setting) (e : Event) (h : List Event) (before : State) (conn : ℕ) (m : Message) → CanSend (answer_view g e h before) conn m → Answers g before e conn m
can-answer g e h before conn (message.Hello version space digest) a = tt
can-answer g e h before conn (message.Call number object method fuel arguments) a = tt
can-answer g e h before conn (message.Lookup number name) a = tt
can-answer g e h before conn (message.Ack number) a = tt
can-answer g e h before conn (message.Dirty sequence period objects) a = tt
can-answer g e h before conn (message.Clean sequence strong objects) a = tt
can-answer g e h before conn (message.Returned number fuel value) a = a.1
can-answer g e h before conn (message.Threw number class) a = a.1
can-answer g e h before conn (message.Spent number) a = a.1
can-answer g e h before conn (message.Lease sequence period) a = tt
can-answer g e h before conn (message.Cleaned sequence) a = tt

-- a Call is no answer
call-answers : (g : Setting) (e : Event) (before : State) (conn : ℕ) (m : Message) → IsCall m → Answers g before e conn m
call-answers g e before conn (message.Call number object method fuel arguments) a = tt
call-answers g e before conn (message.Hello version space digest) a = absurd a
call-answers g e before conn (message.Lookup number name) a = absurd a
call-answers g e before conn (message.Ack number) a = absurd a
call-answers g e before conn (message.Dirty sequence period objects) a = absurd a
call-answers g e before conn (message.Clean sequence strong objects) a = absurd a
call-answers g e before conn (message.Returned number fuel value) a = absurd a
call-answers g e before conn (message.Threw number class) a = absurd a
call-answers g e before conn (message.Spent number) a = absurd a
call-answers g e before conn (message.Lease sequence period) a = absurd a
call-answers g e before conn (message.Cleaned sequence) a = absurd a

said : (g : Setting) (e : Event) (before : State) (output : Output) → is_send output ≡ false → SendsAnswer g before e output
said g e before (Started task) is = tt
said g e before (Ended task outcome) is = tt
said g e before (Withdrawn ids) is = tt
said g e before (Denied why) is = tt
said g e before (Send conn m) is = absurd (true≢false is)
said g e before (Dial peer) is = tt
said g e before (Close conn) is = tt
said g e before (Ready task) is = tt

-- ---- through the rules

directed : (g : Setting) (e : Event) (h : List Event) (before : State) → Flows (view g e h (IsAnswer g before e))
directed g e h before = directed_flow g e h (IsAnswer g before e) (λ conn number class is. inr (inl (record { number = number; class = class; says = refl; refusal = is })))
    (λ conn number name r is own. inr (inr (record { number = number; name = name; reference = r; came = is; own = own; says = refl })))

answers_flow : (g : Setting) (e : Event) (h : List Event) (before : State) → Flows (answer_view g e h before)
answers_flow g e h before = record {
  known = λ l s k. D.known l s k.0;
  dialled = λ l s k. D.dialled l s k.0;
  origins = λ l s k. D.origins l s k.0;
  sided = D.sided;
  fails = D.fails;
  starts = λ l s p target method fuel arguments o n going k known is stands finds. tt;
  gives = D.gives;
  refuses = D.refuses;
  finds = D.finds;
  speaks = λ c version. tt;
  fits = λ c ids. tt;
  quiet = λ l s t eq k. (D.quiet l s t eq k.0, subst (λ (c : EventParts). AllOf (Told g before e) c.notes) (sym eq) k.1);
  says = λ l s output is so k. (D.says l s output is so k.0, all-more (Told g before e) s.notes (Says output) k.1 (said g e before output is));
  sends = λ l s turn c m may held k. (D.sends l s turn c m may held k.0, all-more (Told g before e) s.notes (Sends turn c m) k.1 (can-answer g e h before c m may));
  clears = λ s k. (D.clears s k.0, tt);
  stores = λ l s store is k. (D.stores l s store is k.0, k.1);
  adds = λ l s q k. (D.adds l s q k.0, k.1);
  calls_out = λ l s turn c peer n id lent kind m there k. (D.calls_out l s turn c peer n id lent kind m there k.0, all-more (Told g before e) s.notes (Sends turn c m) k.1 (call-answers g e before c m k.0.owed.0));
  looks_out = λ l s turn c peer n id name there k. (D.looks_out l s turn c peer n id name there k.0, all-more (Told g before e) s.notes (Sends turn c (message.Lookup n name)) k.1 tt);
  tells = λ l s q call group eq k. (D.tells l s q call group eq k.0, k.1);
  told = λ l s peer call group k. (D.told l s peer call group k.0, k.1);
  unfresh = λ l s k. (D.unfresh l s k.0, k.1);
  removes = λ l s is k. (D.removes l s is k.0, k.1);
  sorts = λ l s is rs k. (D.sorts l s is rs k.0, k.1);
  removes_one = λ l s finds is n q eq passes has k. (D.removes_one l s finds is n q eq passes has k.0, k.1);
  removes_told = λ l s dirty c sequence k. (D.removes_told l s dirty c sequence k.0, k.1);
  answers = λ l s c n k. (D.answers l s c n k.0, k.1);
  begins = λ l s origin method arguments fuel going at k. (D.begins l s origin method arguments fuel going at k.0, k.1);
  ends = λ l s id t over is k. (D.ends l s id t over is k.0, k.1);
  replies = λ l s peer n id lent kind m reply t may is k. (D.replies l s peer n id lent kind m reply t may is k.0, k.1);
  replies_none = λ l s peer n id lent kind m is k. (D.replies_none l s peer n id lent kind m is k.0, k.1);
  looked_up = λ l s peer n id name reply may k. (D.looked_up l s peer n id name reply may k.0, all-more (Told g before e) s.notes (Says (Ended id (LivingTasks.outcome_of reply))) k.1 tt);
  works = λ l s id t f lent row ready is k. (D.works l s id t f lent row ready is k.0, k.1);
  keeps = λ l s until value k. (D.keeps l s until value k.0, k.1);
  results_go = λ l s is goes k. (D.results_go l s is goes k.0, k.1);
  falls = λ l s c n k. (D.falls l s c n k.0, k.1);
  row = λ l s c f num last dialled k. (D.row l s c f num last dialled k.0, k.1);
  counts = λ l s c n d there is low k. (D.counts l s c n d there is low k.0, k.1);
  parks_call = λ l s p going known is k. (D.parks_call l s p going known is k.0, k.1);
  parks_result = λ l s p known is k. (D.parks_result l s p known is k.0, k.1);
  takes = λ l s p k. (D.takes l s p k.0, k.1);
  takes_call = λ l s p q is call k. (D.takes_call l s p q is call k.0, k.1);
  closes = λ l s c why k. (D.closes l s c why k.0, k.1);
}
  where
    D : Flows (view g e h (IsAnswer g before e))
    D = directed g e h before

finishes : (g : Setting) (s : State) (e : Event) → Finishes g s e (IsAnswer g s e)
finishes g s e id k t outcome conn number is ready stands origin = inl (record {
  task = id;
  made = k;
  row = t;
  number = number;
  outcome = outcome;
  finished = is;
  lives = (ready-is (task_at s id) t ready).0;
  origin = origin;
  ended = stands;
  says = refl;
})

answers-begin : (g : Setting) (e : Event) (h : List Event) (s : State) → Begins (answer_view g e h s) s
answers-begin g e h s = record {
  opens = λ c dialled is k. (B.opens c dialled is k.0, k.1);
  parks = λ id n t target method arguments is ready stands k. (B.parks id n t target method arguments is ready stands k.0, k.1);
  looks = λ peer name is k. (B.looks peer name is k.0, k.1);
  roots = B.roots;
  unmarshal = B.unmarshal;
  connect = B.connect;
  marshal = B.marshal;
  threw = B.threw;
  spent = B.spent;
  finished = B.finished;
  call_came = B.call_came;
  result_came = B.result_came;
}
  where
    B : Begins (view g e h (IsAnswer g s e)) s
    B = directed-begin g s e h (IsAnswer g s e) (finishes g s e)

pub answers_are_outcomes : AnswersAreOutcomes
unfolding Space.outputs_of Space.on in_order
answers_are_outcomes g h e = by (Space.answers_outputs e)
  where
    s : State
    s = Space.state_of g h

    by : (b : Bool) → AllOf (SendsAnswer g s e) (Space.finish_event b (Space.happen g e s)).1
    by true = ranks-all (SendsAnswer g s e) ranks (Requests.settle (Space.happen g e s)).notes (happen_settles (answers_flow g e h s) s (answers-begin g e h s) (wider e h s (directed-of g h), subst (AllOf (Told g s e)) (sym (no-notes g h)) tt)).1
    by false = tt
