-- Each event that a space takes leaves its living tasks on their machines.
use Rattle.std.proofs.Common.{◌≡◌, inl, inr, ℕ, suc, ◌+◌, Bool, true, false, List, [], ◌∷◌, Option, None, Some, refl, sym, ap, subst, ◌∙◌, arith}
use Rattle.std.specs.Prelude.{◌==◌, is_some, IsOk}
use Rattle.std.proofs.lemmas.Bool.{true≢false, eq-eqb, eqb-true}
use Rattle.cls_link.specs.Links.{Links}
use Rattle.space_ids.specs.declared.ids.Ref.{Ref}
use Rattle.space_ids.specs.declared.value.Value.{Value}
use Rattle.sp_behaviours.specs.Behaviours.{IsOfStore, limits_of, op_at}
use Rattle.sp_behaviours.specs.Calls.{IsSettingOf, IsTakenAs}
use Rattle.sp_behaviours.specs.ReplyStarts.{Begins}
use Rattle.sp_behaviours.specs.Follows.{Follows, stand_of, waiting}
use Rattle.sp_behaviours.proofs.AskedLemmas.{AsksAt, asks-at, asks-follow, back-taken, fits-taken, of-store, plays-on, reply-after, store-keeps}
use Rattle.sp_behaviours.proofs.Following.{replies-follow, stands, steps-follow}
use Rattle.sp_behaviours.proofs.StartLemmas.{tasks_begin}
use Rattle.sp_behaviours.proofs.Starting.{starts-follow}
use Rattle.sp_behaviours.proofs.TakenLemmas.{call_replies_are_taken, store_replies_are_taken}
use Rattle.sp_laws.specs.Calls.{IsAtCall, point}
use Rattle.sp_laws.specs.Changes.{GoesOn, HasBegun, IsAnswered, lent_after, lent_task, when_finished, when_parked}
use Rattle.sp_laws.proofs.FittedLemmas.{point-waiting, record-is, tasks_go_on}
use Rattle.sp_laws.proofs.LentEvents.{idle_task_stays, lent_tasks_go_on, other_tasks_stay}
use Rattle.sp_rules.specs.Behaviours as rules
use Rattle.sp_rules.specs.Behaviours.{Op, Create, Get, Put, Call}
use Rattle.sp_rules.specs.Classes.{Setting}
use Rattle.sp_rules.specs.Events.{Event, Committed, Parked, GivenBack, Finished}
use Rattle.sp_rules.specs.Laws.{AllOf, HasHistory}
use Rattle.sp_rules.specs.LivingTasks.{after_reply, after_steps, op_reply}
use Rattle.sp_rules.specs.LivingTasks as living
use Rattle.sp_rules.specs.Origins.{HasTaken, IsTaken}
use Rattle.sp_rules.specs.Refusals.{fits_store, refusal}
use Rattle.sp_rules.specs.Runs.{lent_if, replayed}
use Rattle.sp_rules.specs.Space.{state_of}
use Rattle.sp_rules.specs.State.{State, Beginning, Given, Living, opening, ready_at, task_at}
use Rattle.sp_rules.specs.Tasks.{Task, Stand, Runs, AsksFor, HasEnded, answer, lend_fuel, stand, start, steps}
use Rattle.sp_rules.specs.Worlds as worlds
use Rattle.sp_rules.proofs.AskedLemmas.{commits_are_asked}
use Rattle.sp_rules.proofs.AllLemmas.{some-none}
use Rattle.sp_rules.proofs.OwnLemmas.{histories_are_taken, some-same}
use Rattle.sp_rules.proofs.ReadyLemmas.{ready-is}
use Rattle.sp_rules.proofs.WorldLemmas.{states_are_histories}
use Rattle.vm_act.specs.declared.asked.Asked.{Asked}
use Rattle.vm_act.specs.declared.asked.Asked.TheVariants as asked
use Rattle.vm_act.specs.declared.machine.Machine.{Machine}
use Rattle.vm_step.specs.Begin.{begun}
use Rattle.vm_step.specs.Run as machines
use Rattle.vm_step.specs.Run.{Waits, run}
use Rattle.vm_step.specs.declared.limits.Limits.{Limits}
use Rattle.vm_step.proofs.Runs.{run-add}
use Rattle.sp_machine_laws.specs.Machines.{HasMachines, IsOnMachine, Plays, TasksAreMachines, TasksAreMachinesInWorlds}
use Rattle.sp_machine_laws.proofs.BeginLemmas.{begun-safe}

module _ (links : Links) (g : Setting) (set : IsSettingOf links g) where
  -- ---- a task on its machine

  -- however many instructions of its own it makes, it stands where the machine stands
  stands-on : (t : Living) (last : machines.State) → Follows links g (point g t) (run links t.steps last) → (k : ℕ)
      → stand (steps k (point g t)) ≡ stand_of links (run links (t.steps + k) last)
  stands-on t last follows k =
      stands links g (steps k (point g t)) (run links k (run links t.steps last)) (steps-follow links g (point g t) (run links t.steps last) k follows)
      ∙ ap (stand_of links) (sym (run-add links t.steps k last))

  -- it comes to another point of the same machine
  moved : (t u : Living) → u.began ≡ t.began → (m : IsOnMachine links g t) → (last : machines.State) → Plays links m.task.state u.given last → Follows links g (point g u) (run links u.steps last)
      → IsOnMachine links g u
  moved t u same m last plays follows = record {
    task = m.task;
    begins = ap (λ (b : Beginning). begun links g.id (record { 0 = b.method }) b.arguments (limits_of g.limits b.fuel)) same ∙ m.begins;
    never_stuck = m.never_stuck;
    within = m.within;
    last = last;
    plays = plays;
    follows = follows;
    stands = stands-on u last follows;
  }

  -- ---- how it begins

  begins : (s : State) (e : Event) (t : Living) → HasBegun g s e t → ((limits : Limits)
      → IsOk (begun links g.id (record { 0 = t.began.method }) t.began.arguments limits)) → IsOnMachine links g t
  unfolding steps run
  begins s e t new ok =
      let limits = limits_of g.limits t.began.fuel in
      let b = begun-safe links g.id (record { 0 = t.began.method }) t.began.arguments limits set.are set.sound (ok limits) in
      let starts : Follows links g (start g t.began.method t.began.arguments t.began.fuel) b.task.state =
      starts-follow links g t.began.method t.began.arguments t.began.fuel b.task (plays-on links g set) b.is b.safe.never_stuck in
      let here : point g t ≡ start g t.began.method t.began.arguments t.began.fuel =
      ap (λ n. steps n (replayed g t.began t.given)) new.steps ∙ ap (replayed g t.began) new.given in
      let there : run links t.steps b.task.state ≡ b.task.state = ap (λ n. run links n b.task.state) new.steps in
      let follows : Follows links g (point g t) (run links t.steps b.task.state) =
      subst (λ (p : Task). Follows links g p (run links t.steps b.task.state)) (sym here)
      (subst (Follows links g (start g t.began.method t.began.arguments t.began.fuel)) (sym there) starts) in
      record {
        task = b.task;
        begins = b.is;
        never_stuck = b.safe.never_stuck;
        within = b.safe.within;
        last = b.task.state;
        plays = subst (λ l. Plays links b.task.state l b.task.state) (sym new.given) refl;
        follows = follows;
        stands = stands-on t b.task.state follows;
      }

  -- ---- instructions of its own

  -- a task whose point is that many instructions on
  ahead : (t u : Living) (k : ℕ) → u.began ≡ t.began → u.given ≡ t.given → u.steps ≡ t.steps + k → point g u ≡ steps k (point g t) → IsOnMachine links g t → IsOnMachine links g u
  ahead t u k began given more on m =
      let there : run links k (run links t.steps m.last) ≡ run links u.steps m.last = sym (run-add links t.steps k m.last) ∙ ap (λ n. run links n m.last) (sym more) in
      moved t u began m m.last (subst (λ l. Plays links m.task.state l m.last) (sym given) m.plays)
      (subst (λ (p : Task). Follows links g p (run links u.steps m.last)) (sym on)
      (subst (Follows links g (steps k (point g t))) there (steps-follow links g (point g t) (run links t.steps m.last) k m.follows)))

  -- ---- replies

  -- It is given a reply after so many instructions since the last one, which its machine takes.
  replied : (t u : Living) (n : ℕ) (lent : Bool) (r : rules.Reply) (op : Op) → (m : IsOnMachine links g t) → u.began ≡ t.began → u.steps ≡ 0
      → u.given ≡ record { steps = n; lent = lent; reply = r } ∷ t.given → Follows links g (steps n (replayed g t.began t.given)) (run links n m.last)
      → (at : AsksAt links (run links n m.last) op) → IsTakenAs links.classes at.asked at.machine at.fuel r
      → lent_if lent (steps n (replayed g t.began t.given)) ≡ waiting at.asked (steps n (replayed g t.began t.given)) → IsOnMachine links g u
  unfolding steps run
  replied t u n lent r op m began none given follows at takes lends =
      let p : Task = steps n (replayed g t.began t.given) in
      let waits = asks-follow links g p (run links n m.last) follows at.asked at.machine at.fuel at.waits in
      let after : machines.State = machines.answer takes.given (Waits at.asked at.machine at.fuel) in
      let entry : Given = record { steps = n; lent = lent; reply = r } in
      let one : suc n ≡ n + 1 = omega arith in
      let goes : Follows links g (answer g r (waiting at.asked p)) after =
      replies-follow links g p at.asked at.machine at.fuel r takes.given (plays-on links g set) waits takes.told takes.due in
      let here : point g u ≡ answer g r (waiting at.asked p) =
      ap (λ k. steps k (replayed g u.began u.given)) none ∙ ap (λ (b : Beginning). replayed g b u.given) began ∙ ap (replayed g t.began) given ∙ ap (answer g r) lends in
      let there : run links u.steps after ≡ after = ap (λ k. run links k after) none in
      moved t u began m after
      (subst (λ l. Plays links m.task.state l after) (sym given) (
        m.last,
        (
          m.plays,
          record {
            asked = at.asked;
            machine = at.machine;
            fuel = at.fuel;
            waits = ap (λ k. run links k m.last) one ∙ run-add links n 1 m.last ∙ at.waits;
            reply = takes.given;
            told = takes.told;
            due = takes.due;
            goes_on = refl;
          },
        ),
      ))
      (subst (λ (q : Task). Follows links g q (run links u.steps after)) (sym here) (subst (Follows links g (answer g r (waiting at.asked p))) (sym there) goes))

  -- what is asked is a call, for which the fuel is lent
  call-lends : (m : Machine) (op : Asked) (t : Task) (target : Ref) (method : ℕ) (arguments : List Value)
      → op_at links.classes op m ≡ Call target method arguments → lend_fuel t ≡ waiting op t
  call-lends m (asked.Create class) t target method arguments e = absurd (cc)
  call-lends m (asked.Get object slot) t target method arguments e = absurd (cc)
  call-lends m (asked.Put object slot value) t target method arguments e = absurd (cc)
  call-lends m (asked.Call target method count) t other another arguments e = refl

  -- the reply to a call for which it waited
  answered : (before after : Living) → IsAnswered g before after → IsOnMachine links g before → IsOnMachine links g after
  answered before after a m = subst (IsOnMachine links g) (sym a.goes_on) by
    where
      call : IsAtCall g (point g before) a.fits.fuel a.fits.kind
      call = a.fits.at

      at : AsksAt links (run links before.steps m.last) (Call call.target call.method call.arguments)
      at = asks-at links (run links before.steps m.last) (Call call.target call.method call.arguments)
          (sym (stands links g (point g before) (run links before.steps m.last) m.follows) ∙ call.stands)

      waits : Follows links g (point g before) (Waits at.asked at.machine at.fuel)
      waits = asks-follow links g (point g before) (run links before.steps m.last) m.follows at.asked at.machine at.fuel at.waits

      takes : IsTakenAs links.classes at.asked at.machine at.fuel a.reply
      takes = call_replies_are_taken links g (point g before) at.asked at.machine at.fuel a.fits.fuel a.fits.kind a.reply set waits call a.fits.fits

      lends : lent_if before.waits (point g before) ≡ waiting at.asked (point g before)
      lends = ap (λ b. lent_if b (point g before)) a.waited ∙ call-lends at.machine at.asked (point g before) call.target call.method call.arguments at.is

      by : IsOnMachine links g (after_reply g a.reply before)
      by = replied before (after_reply g a.reply before) before.steps before.waits a.reply (Call call.target call.method call.arguments) m refl refl refl m.follows at takes lends

  -- an event of the space
  goes-on : (s : State) (e : Event) (before after : Option Living) → ((t : Living) → HasBegun g s e t → Begins links g t) → GoesOn g s e before after
      → ((t : Living) → before ≡ Some t → IsOnMachine links g t) → (t : Living) → after ≡ Some t → IsOnMachine links g t
  goes-on s e None None begun goes was t is = absurd (cc)
  goes-on s e None (Some u) begun goes was t is = let same : u ≡ t = cc in subst (IsOnMachine links g) same (begins s e u goes (begun u goes))
  goes-on s e (Some before) None begun goes was t is = absurd goes
  goes-on s e (Some before) (Some u) begun (inl stays) was t is = let same : u ≡ t = cc in subst (IsOnMachine links g) (sym stays ∙ same) (was before refl)
  goes-on s e (Some before) (Some u) begun (inr a) was t is = let same : u ≡ t = cc in subst (IsOnMachine links g) same (answered before u a (was before refl))

  -- ---- events of a lent task

  -- The store does an operation after so many instructions of a task.
  committed : (h : List Event) → IsTaken g h → (id k : ℕ) (op : Op) (lent : List ℕ) → refusal g lent (state_of g h) (Committed id k op) ≡ None → (b : Living) → ready_at (state_of g h) id ≡ Some b
      → IsOnMachine links g b → IsOnMachine links g (after_reply g (op_reply g op (state_of g h)) (after_steps k b))
  committed h taken id k op lent unrefused b ready m =
      replied u (after_reply g r u) u.steps u.waits r op on refl refl refl on.follows at takes lends
    where
      s : State
      s = state_of g h

      r : rules.Reply
      r = op_reply g op s

      u : Living
      u = after_steps k b

      both : (task_at s id ≡ Some b) × (b.waits ≡ false)
      both = ready-is (task_at s id) b ready

      there : point g u ≡ steps k b.task
      there = point-waiting g h id k b ready

      on : IsOnMachine links g u
      on = ahead b u k refl refl refl (there ∙ ap (steps k) (record-is g h id b both.0 ∙ ap (λ w. lent_if w (point g b)) both.1)) m

      at : AsksAt links (run links u.steps on.last) op
      at = asks-at links (run links u.steps on.last) op
          (sym (stands links g (point g u) (run links u.steps on.last) on.follows) ∙ ap stand there ∙ commits_are_asked g lent s id k op b unrefused both.0)

      waits : Follows links g (point g u) (Waits at.asked at.machine at.fuel)
      waits = asks-follow links g (point g u) (run links u.steps on.last) on.follows at.asked at.machine at.fuel at.waits

      of : IsOfStore at.asked
      of = of-store g s links.classes at.machine at.asked (subst (λ (o : Op). fits_store g s o ≡ true) (sym at.is) (fits-taken g lent s id k op unrefused))

      takes : IsTakenAs links.classes at.asked at.machine at.fuel r
      takes = subst (IsTakenAs links.classes at.asked at.machine at.fuel)
          (reply-after g h id k (op_at links.classes at.asked at.machine) ∙ ap (λ (o : Op). op_reply g o s) at.is)
          (store_replies_are_taken links g (GivenBack id k ∷ h) id u at.asked at.machine at.fuel set (back-taken g h id k (ap is_some ready) taken)
          (lent_tasks_go_on g h (GivenBack id k) id b refl ready) (subst (λ (p : Task). Follows links g p (Waits at.asked at.machine at.fuel)) there waits) of)

      lends : lent_if u.waits (point g u) ≡ waiting at.asked (point g u)
      lends = ap (λ w. lent_if w (point g u)) both.1 ∙ sym (store-keeps at.asked (point g u) of)

  -- its own instructions, up to a call or none
  ran : (h : List Event) (id k : ℕ) (b u : Living) → ready_at (state_of g h) id ≡ Some b → u.began ≡ b.began → u.given ≡ b.given → u.steps ≡ b.steps + k → point g u ≡ steps k b.task
      → IsOnMachine links g b → IsOnMachine links g u
  ran h id k b u ready began given more there m =
      let both : (task_at (state_of g h) id ≡ Some b) × (b.waits ≡ false) = ready-is (task_at (state_of g h) id) b ready in
      ahead b u k began given more (there ∙ ap (steps k) (record-is g h id b both.0 ∙ ap (λ w. lent_if w (point g b)) both.1)) m

  parked : (h : List Event) (id k : ℕ) (b : Living) → ready_at (state_of g h) id ≡ Some b → IsOnMachine links g b → (at : Stand) → IsOnMachine links g (when_parked k at b)
  parked h id k b ready m Runs = m
  parked h id k b ready m (AsksFor (Create class)) = m
  parked h id k b ready m (AsksFor (Get object slot)) = m
  parked h id k b ready m (AsksFor (Put object slot value)) = m
  parked h id k b ready m (AsksFor (Call target method arguments)) = ran h id k b (living.waiting k b) ready refl refl refl (point-waiting g h id k b ready) m
  parked h id k b ready m (HasEnded outcome) = m

  finished : (b t : Living) → IsOnMachine links g b → (at : Stand) → when_finished at b ≡ Some t → IsOnMachine links g t
  finished b t m Runs is = let same : b ≡ t = cc in subst (IsOnMachine links g) same m
  finished b t m (AsksFor op) is = let same : b ≡ t = cc in subst (IsOnMachine links g) same m
  finished b t m (HasEnded outcome) is = absurd (cc)

  -- one that may go on
  lent-on : (h : List Event) → IsTaken g h → (e : Event) (id : ℕ) → lent_task e ≡ Some id → (lent : List ℕ) → refusal g lent (state_of g h) e ≡ None → (b : Living) → ready_at (state_of g h) id ≡ Some b
      → IsOnMachine links g b → (t : Living) → lent_after g (state_of g h) e b ≡ Some t → IsOnMachine links g t
  lent-on h taken (Committed task k op) id of lent unrefused b ready m t is =
      let same : after_reply g (op_reply g op (state_of g h)) (after_steps k b) ≡ t = some-same is in
      subst (IsOnMachine links g) same (committed h taken task k op lent unrefused b (ap (ready_at (state_of g h)) (some-same of) ∙ ready) m)
  lent-on h taken (Parked task k) id of lent unrefused b ready m t is =
      let same : when_parked k (stand (steps k b.task)) b ≡ t = some-same is in
      subst (IsOnMachine links g) same (parked h id k b ready m (stand (steps k b.task)))
  lent-on h taken (GivenBack task k) id of lent unrefused b ready m t is =
      let same : after_steps k b ≡ t = some-same is in
      subst (IsOnMachine links g) same (ran h id k b (after_steps k b) ready refl refl refl (point-waiting g h id k b ready) m)
  lent-on h taken (Finished task k) id of lent unrefused b ready m t is = finished b t m (stand (steps k b.task)) is
  lent-on h taken _ id of lent unrefused b ready m t is = absurd (some-none id (sym of))

  -- one that may go on, or not
  lent-one : (h : List Event) → (e : Event) → IsTaken g (e ∷ h) → ((id : ℕ) (t : Living) → task_at (state_of g h) id ≡ Some t → IsOnMachine links g t) → (id : ℕ) → lent_task e ≡ Some id
      → (t : Living) → task_at (state_of g (e ∷ h)) id ≡ Some t → IsOnMachine links g t
  lent-one h e taken was id of t is = by (ready_at (state_of g h) id) refl
    where
      by : (o : Option Living) → ready_at (state_of g h) id ≡ o → IsOnMachine links g t
      by None idle = was id t (sym (idle_task_stays g h e id of idle) ∙ is)
      by (Some b) ready =
          lent-on h taken.1 e id of taken.0.0 taken.0.1 b ready (was id b (ready-is (task_at (state_of g h) id) b ready).0) t (sym (lent_tasks_go_on g h e id b of ready) ∙ is)

  -- ---- all events

  next : (h : List Event) (e : Event) → IsTaken g (e ∷ h) → ((id : ℕ) (t : Living) → task_at (state_of g h) id ≡ Some t → IsOnMachine links g t) → (id : ℕ) (t : Living)
      → task_at (state_of g (e ∷ h)) id ≡ Some t → IsOnMachine links g t
  next h e taken was id t is = by (lent_task e) refl
    where
      at : (other : ℕ) → lent_task e ≡ Some other → (b : Bool) → (other == id) ≡ b → IsOnMachine links g t
      at other of true same = lent-one h e taken was id (of ∙ ap Some (eqb-true other id same)) t is
      at other of false apart = was id t (sym (other_tasks_stay g h e other id of (λ same. true≢false (sym (eq-eqb other id same) ∙ apart))) ∙ is)

      by : (o : Option ℕ) → lent_task e ≡ o → IsOnMachine links g t
      by None of =
          goes-on (state_of g h) e (task_at (state_of g h) id) (task_at (state_of g (e ∷ h)) id) (λ u begun. tasks_begin links g h e u set taken begun) (tasks_go_on g h e id of) (was id) t is
      by (Some other) of = at other of (other == id) refl

  pub on-machines : (h : List Event) → IsTaken g h → (id : ℕ) (t : Living) → task_at (state_of g h) id ≡ Some t → IsOnMachine links g t
  unfolding state_of opening
  on-machines [] taken id t is = absurd (cc)
  on-machines (e ∷ h) taken id t is = next h e taken (λ other u there. on-machines h taken.1 other u there) id t is

pub tasks_are_machines : TasksAreMachines
tasks_are_machines links g h id t set taken is = on-machines links g set h taken id t is

-- ---- worlds

all-machines : (spaces : List worlds.Space) → AllOf HasTaken spaces → AllOf HasHistory spaces → AllOf HasMachines spaces
all-machines [] taken same = tt
all-machines (s ∷ spaces) taken same = (
  (λ links id t set is. tasks_are_machines links s.setting s.history id t set taken.0 (subst (λ (now : State). task_at now id ≡ Some t) same.0 is)),
  all-machines spaces taken.1 same.1,
)

pub tasks_are_machines_in_worlds : TasksAreMachinesInWorlds
tasks_are_machines_in_worlds settings events =
    all-machines (worlds.run (worlds.new_world settings) events).spaces (histories_are_taken settings events) (states_are_histories settings events)
