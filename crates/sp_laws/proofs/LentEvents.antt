-- An event of a lent task makes of it what it says, and leaves the others.
use mathlib.Core.Path.{sym, ap, subst, ◌∙◌}
use Rattle.std.specs.Prelude.{◌≡◌, refl, ℕ, List, ◌∷◌, Option, None, Some}
use Rattle.sp_rules.specs.Behaviours.{Op, Create, Get, Put, Call}
use Rattle.sp_rules.specs.Classes.{Setting}
use Rattle.sp_rules.specs.Events.{Event, Committed, Parked, GivenBack, Finished}
use Rattle.sp_rules.specs.Lists.{with_some}
use Rattle.sp_rules.specs.LivingTasks
use Rattle.sp_rules.specs.Space
use Rattle.sp_rules.specs.State.{State, Living, task_at, ready_at}
use Rattle.sp_rules.specs.Tasks.{Stand, Runs, AsksFor, HasEnded, stand, steps}
use Rattle.sp_rules.proofs.AllLemmas.{some-none}
use Rattle.sp_rules.proofs.OwnLemmas.{some-same}
use Rattle.sp_rules.proofs.ReadyLemmas.{ready-is}
use Rattle.sp_rules.proofs.Stable.{hold_keeps, finish_event_keeps}
use Rattle.sp_laws.proofs.WaitLemmas.{changed-at, changed-other, gone-at, gone-other}
use Rattle.sp_laws.specs.Changes.{lent_task, when_parked, when_finished, lent_after, LentTasksGoOn, OtherTasksStay}
use Rattle.sp_laws.proofs.RecordRowLemmas.{LooksAtTasks, framed, finds, ready-does, may-do, op-keeps, end-keeps}

-- ---- the task itself

-- a task that is ready lives
lives : (s : State) (id : ℕ) (t : Living) → ready_at s id ≡ Some t → task_at s id ≡ Some t
lives s id t is = (ready-is (task_at s id) t is).0

committed : (g : Setting) (s : State) (id k : ℕ) (op : Op) (t : Living) → ready_at s id ≡ Some t
    → task_at (LivingTasks.commit g id k op s) id ≡ Some (LivingTasks.after_reply g (LivingTasks.op_reply g op s) (LivingTasks.after_steps k t))
unfolding LivingTasks.commit
committed g s id k op t is = ready-does (λ u. task_at u id ≡ Some (done t)) (ready_at s id) t s _ is (op-keeps F g op (hold_keeps (framed F) _ (changed-at done (λ u. refl) id s.tasks t (lives s id t is))))
  where
    done : Living → Living
    done u = LivingTasks.after_reply g (LivingTasks.op_reply g op s) (LivingTasks.after_steps k u)

    F : LooksAtTasks (λ u. task_at u id ≡ Some (done t))
    F = finds id (Some (done t))

parks : (g : Setting) (s : State) (id k : ℕ) (t : Living) (stands : Stand) → task_at s id ≡ Some t → task_at (LivingTasks.park_at g id k t stands s) id ≡ Some (when_parked k stands t)
parks g s id k t Runs is = is
parks g s id k t (AsksFor (Create class)) is = is
parks g s id k t (AsksFor (Get object slot)) is = is
parks g s id k t (AsksFor (Put object slot value)) is = is
parks g s id k t (AsksFor (Call target method arguments)) is = changed-at (LivingTasks.waiting k) (λ u. refl) id s.tasks t is
parks g s id k t (HasEnded outcome) is = is

parked : (g : Setting) (s : State) (id k : ℕ) (t : Living) → ready_at s id ≡ Some t → task_at (LivingTasks.park_call g id k s) id ≡ Some (when_parked k (stand (steps k t.task)) t)
unfolding LivingTasks.park_call
parked g s id k t is = ready-does (λ u. task_at u id ≡ Some (when_parked k (stand (steps k t.task)) t)) (ready_at s id) t s _ is (parks g s id k t (stand (steps k t.task)) (lives s id t is))

given-back : (s : State) (id k : ℕ) (t : Living) → ready_at s id ≡ Some t → task_at (LivingTasks.give_back id k s) id ≡ Some (LivingTasks.after_steps k t)
unfolding LivingTasks.give_back
given-back s id k t is = ready-does (λ u. task_at u id ≡ Some (LivingTasks.after_steps k t)) (ready_at s id) t s _ is (changed-at (LivingTasks.after_steps k) (λ u. refl) id s.tasks t (lives s id t is))

ends : (g : Setting) (s : State) (id : ℕ) (t u : Living) (stands : Stand) → task_at s id ≡ Some t → task_at (LivingTasks.end_at g id u stands s) id ≡ when_finished stands t
ends g s id t u Runs is = is
ends g s id t u (AsksFor op) is = is
ends g s id t u (HasEnded outcome) is = end-keeps (finds id None) g id u outcome s (gone-at id s.tasks)

finished : (g : Setting) (s : State) (id k : ℕ) (t : Living) → ready_at s id ≡ Some t → task_at (LivingTasks.finish_task g id k s) id ≡ when_finished (stand (steps k t.task)) t
unfolding LivingTasks.finish_task
finished g s id k t is = ready-does (λ u. task_at u id ≡ when_finished (stand (steps k t.task)) t) (ready_at s id) t s _ is (ends g s id t (LivingTasks.after_steps k t) (stand (steps k t.task)) (lives s id t is))

happens : (g : Setting) (s : State) (e : Event) (id : ℕ) (t : Living) → lent_task e ≡ Some id → ready_at s id ≡ Some t → task_at (Space.happen g e s) id ≡ lent_after g s e t
unfolding Space.happen
happens g s (Committed task k op) id t of is = subst (λ n. ready_at s n ≡ Some t → task_at (LivingTasks.commit g task k op s) n ≡ lent_after g s (Committed task k op) t) (some-same of) (committed g s task k op t) is
happens g s (Parked task k) id t of is = subst (λ n. ready_at s n ≡ Some t → task_at (LivingTasks.park_call g task k s) n ≡ lent_after g s (Parked task k) t) (some-same of) (parked g s task k t) is
happens g s (GivenBack task k) id t of is = subst (λ n. ready_at s n ≡ Some t → task_at (LivingTasks.give_back task k s) n ≡ lent_after g s (GivenBack task k) t) (some-same of) (given-back s task k t) is
happens g s (Finished task k) id t of is = subst (λ n. ready_at s n ≡ Some t → task_at (LivingTasks.finish_task g task k s) n ≡ lent_after g s (Finished task k) t) (some-same of) (finished g s task k t) is
happens g s _ id t of is = absurd (some-none id (sym of))

-- how an event ends changes no task
concluded : (g : Setting) (s : State) (e : Event) (id : ℕ) (found : Option Living) → task_at (Space.happen g e s) id ≡ found → task_at (Space.on g e s).0 id ≡ found
unfolding Space.on
concluded g s e id found h = finish_event_keeps (framed (finds id found)) (Space.answers_outputs e) h

pub lent_tasks_go_on : LentTasksGoOn
unfolding Space.state_of
lent_tasks_go_on g h e id t of is = concluded g (Space.state_of g h) e id (lent_after g (Space.state_of g h) e t) (happens g (Space.state_of g h) e id t of is)

-- one that is not ready stays as it was
unready : (P : State → Type 0) (o : Option Living) (s : State) (f : Living → State) → o ≡ None → P s → P (with_some o s f)
unready P None s f is h = h
unready P (Some t) s f is h = absurd (some-none t is)

idle-stays : (g : Setting) (s : State) (e : Event) (id : ℕ) → lent_task e ≡ Some id → ready_at s id ≡ None → task_at (Space.happen g e s) id ≡ task_at s id
unfolding Space.happen LivingTasks.commit LivingTasks.park_call LivingTasks.give_back LivingTasks.finish_task
idle-stays g s (Committed task k op) id of is = unready (λ u. task_at u id ≡ task_at s id) (ready_at s task) s _ (ap (ready_at s) (some-same of) ∙ is) refl
idle-stays g s (Parked task k) id of is = unready (λ u. task_at u id ≡ task_at s id) (ready_at s task) s _ (ap (ready_at s) (some-same of) ∙ is) refl
idle-stays g s (GivenBack task k) id of is = unready (λ u. task_at u id ≡ task_at s id) (ready_at s task) s _ (ap (ready_at s) (some-same of) ∙ is) refl
idle-stays g s (Finished task k) id of is = unready (λ u. task_at u id ≡ task_at s id) (ready_at s task) s _ (ap (ready_at s) (some-same of) ∙ is) refl
idle-stays g s _ id of is = absurd (some-none id (sym of))

pub idle_task_stays : (g : Setting) (h : List Event) (e : Event) (id : ℕ) → lent_task e ≡ Some id → ready_at (Space.state_of g h) id ≡ None → task_at (Space.state_of g (e ∷ h)) id ≡ task_at (Space.state_of g h) id
unfolding Space.state_of
idle_task_stays g h e id of is = concluded g (Space.state_of g h) e id (task_at (Space.state_of g h) id) (idle-stays g (Space.state_of g h) e id of is)

-- ---- the others

commits-other : (g : Setting) (s : State) (id k : ℕ) (op : Op) (other : ℕ) → (id ≡ other → ⊥) → task_at (LivingTasks.commit g id k op s) other ≡ task_at s other
unfolding LivingTasks.commit
commits-other g s id k op other apart = may-do (λ u. task_at u other ≡ task_at s other) (ready_at s id) s _ refl (λ t. op-keeps F g op (hold_keeps (framed F) _ (changed-other (λ u. LivingTasks.after_reply g (LivingTasks.op_reply g op s) (LivingTasks.after_steps k u)) (λ u. refl) id other apart s.tasks)))
  where
    F : LooksAtTasks (λ u. task_at u other ≡ task_at s other)
    F = finds other (task_at s other)

parks-other : (g : Setting) (s : State) (id k : ℕ) (t : Living) (stands : Stand) (other : ℕ) → (id ≡ other → ⊥) → task_at (LivingTasks.park_at g id k t stands s) other ≡ task_at s other
parks-other g s id k t Runs other apart = refl
parks-other g s id k t (AsksFor (Create class)) other apart = refl
parks-other g s id k t (AsksFor (Get object slot)) other apart = refl
parks-other g s id k t (AsksFor (Put object slot value)) other apart = refl
parks-other g s id k t (AsksFor (Call target method arguments)) other apart = changed-other (LivingTasks.waiting k) (λ u. refl) id other apart s.tasks
parks-other g s id k t (HasEnded outcome) other apart = refl

parked-other : (g : Setting) (s : State) (id k other : ℕ) → (id ≡ other → ⊥) → task_at (LivingTasks.park_call g id k s) other ≡ task_at s other
unfolding LivingTasks.park_call
parked-other g s id k other apart = may-do (λ u. task_at u other ≡ task_at s other) (ready_at s id) s _ refl (λ t. parks-other g s id k t (stand (steps k t.task)) other apart)

given-other : (s : State) (id k other : ℕ) → (id ≡ other → ⊥) → task_at (LivingTasks.give_back id k s) other ≡ task_at s other
unfolding LivingTasks.give_back
given-other s id k other apart = may-do (λ u. task_at u other ≡ task_at s other) (ready_at s id) s _ refl (λ t. changed-other (LivingTasks.after_steps k) (λ u. refl) id other apart s.tasks)

ends-other : (g : Setting) (s : State) (id : ℕ) (t : Living) (stands : Stand) (other : ℕ) → (id ≡ other → ⊥) → task_at (LivingTasks.end_at g id t stands s) other ≡ task_at s other
ends-other g s id t Runs other apart = refl
ends-other g s id t (AsksFor op) other apart = refl
ends-other g s id t (HasEnded outcome) other apart = end-keeps (finds other (task_at s other)) g id t outcome s (gone-other id other apart s.tasks)

finished-other : (g : Setting) (s : State) (id k other : ℕ) → (id ≡ other → ⊥) → task_at (LivingTasks.finish_task g id k s) other ≡ task_at s other
unfolding LivingTasks.finish_task
finished-other g s id k other apart = may-do (λ u. task_at u other ≡ task_at s other) (ready_at s id) s _ refl (λ t. ends-other g s id (LivingTasks.after_steps k t) (stand (steps k t.task)) other apart)

leaves-others : (g : Setting) (s : State) (e : Event) (id other : ℕ) → lent_task e ≡ Some id → (id ≡ other → ⊥) → task_at (Space.happen g e s) other ≡ task_at s other
unfolding Space.happen
leaves-others g s (Committed task k op) id other of apart = commits-other g s task k op other (λ e. apart (sym (some-same of) ∙ e))
leaves-others g s (Parked task k) id other of apart = parked-other g s task k other (λ e. apart (sym (some-same of) ∙ e))
leaves-others g s (GivenBack task k) id other of apart = given-other s task k other (λ e. apart (sym (some-same of) ∙ e))
leaves-others g s (Finished task k) id other of apart = finished-other g s task k other (λ e. apart (sym (some-same of) ∙ e))
leaves-others g s _ id other of apart = absurd (some-none id (sym of))

pub other_tasks_stay : OtherTasksStay
unfolding Space.state_of
other_tasks_stay g h e id other of apart = concluded g (Space.state_of g h) e other (task_at (Space.state_of g h) other) (leaves-others g (Space.state_of g h) e id other of apart)
