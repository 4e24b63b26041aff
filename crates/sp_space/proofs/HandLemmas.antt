-- A task in hand: what comes next of it, and where the space stands after that.
use Rattle.std.proofs.Common.{◌≡◌, inl, inr, ℕ, ◌+◌, ◌<◌, ◌≤◌, Bool, true, false, cond, List, [], ◌∷◌, Option, None, Some, refl, sym, ap, subst, ◌∙◌, length, arith}
use Rattle.std.specs.Prelude.{IfSome, IsSomeAnd, is_some, ◌==◌, ◌^◌}
use Rattle.std.proofs.lemmas.Bool.{eq-eqb, false≢true, true≢false}
use Rattle.cls_link.specs.Links.{Links}
use Rattle.cls_set.specs.declared.class.Class.{Class}
use Rattle.sp_behaviours.specs.Behaviours.{op_at, IsOfStore}
use Rattle.sp_behaviours.specs.Follows.{Follows, stand_of, waiting}
use Rattle.sp_behaviours.proofs.Following.{stands}
use Rattle.sp_living.specs.Hands.{task_of}
use Rattle.sp_laws.specs.Changes.{lent_after, when_finished, when_parked}
use Rattle.sp_laws.proofs.FittedLemmas.{point-waiting}
use Rattle.sp_laws.proofs.LentEvents.{lent_tasks_go_on}
use Rattle.sp_behaviours.specs.Calls.{IsTakenAs}
use Rattle.sp_behaviours.proofs.TakenLemmas.{store_replies_are_taken}
use Rattle.sp_rules.specs.Behaviours.{Op, Create, Get, Put, Call, Outcome}
use Rattle.sp_rules.specs.Classes.{Setting}
use Rattle.sp_rules.specs.Events.{Event, Committed, Parked, GivenBack, Finished}
use Rattle.sp_rules.specs.LivingTasks.{after_reply, after_steps, op_reply}
use Rattle.sp_rules.specs.LivingTasks as living
use Rattle.sp_rules.specs.Refusals.{refusal}
use Rattle.sp_rules.specs.Space.{on, state_of}
use Rattle.sp_rules.specs.State.{State, Living, ready_at, task_at, that_is_ready}
use Rattle.sp_rules.specs.Tasks.{Task, Stand, Runs, AsksFor, HasEnded, is_at_end, lend_fuel, stand, step, steps}
use Rattle.sp_tasks.specs.Behaviours.{op_of, outcome_of}
use Rattle.sp_tasks.specs.Recorded.{Recorded}
use Rattle.sp_tasks.specs.Rows.{Hand}
use Rattle.sp_tasks.specs.declared.behaviour.Op.{Op as Told_op}
use Rattle.sp_tasks.specs.declared.behaviour.Outcome.{Outcome as Told_outcome}
use Rattle.sp_core.specs.Cores.{IsCore, has_lent}
use Rattle.sp_core.specs.Hands.{committed, finished, given_back, is_on_store, parked}
use Rattle.sp_core.specs.declared.lent_task.LentTask.{LentTask}
use Rattle.sp_core.specs.declared.space_core.SpaceCore.{SpaceCore}
use Rattle.vm_act.specs.declared.asked.Asked.{Asked}
use Rattle.vm_act.specs.declared.asked.Asked.TheVariants as asked
use Rattle.vm_act.specs.declared.machine.Machine.{Machine}
use Rattle.vm_step.specs.Run.{State as Machine_state, Running, Waits, Over, Lost}
use Rattle.sp_space.specs.Hands.{AsksInHand, ComesNext, EndsInHand, HasMade, IsInHand, IsLevelHand}
use Rattle.sp_machines.specs.Coming.{IsNextAt, fuel_at}
use Rattle.sp_space.specs.Machines.{machine_at}
use Rattle.sp_machines.specs.Players.{AsksIn, CanCatchUp, IsBehind, IsLevel, IsLevelAt, IsPlayed, IsWaiting, Played, reached}
use Rattle.sp_space.specs.Spaces.{Stands}
use Rattle.sp_space.specs.declared.machines.Machines.{Machines}
use Rattle.sp_machines.specs.declared.task_machine.Next.{Next}
use Rattle.sp_machines.specs.declared.task_machine.Next.TheVariants as next
use Rattle.sp_space.specs.declared.parts.Parts.{Parts}
use Rattle.sp_machines.proofs.EndLemmas.{some-fuel, step-fuel}
use Rattle.sp_space.proofs.LentLemmas.{Lent, lent-hand}
use Rattle.sp_machines.proofs.PlayedLemmas.{follows-abreast, follows-ahead, waits-in}
use Rattle.sp_space.proofs.StandLemmas.{back-nothing, lent-event, machine-change}
use Rattle.sp_machines.proofs.PlayedLemmas.{only}

-- ---- instructions, none or one

steps-none : (t : Task) → steps 0 t ≡ t
unfolding steps
steps-none t = refl

steps-one : (t : Task) → steps 1 t ≡ step t
unfolding steps
steps-one t = refl

pub ready-is : (s : State) (id : ℕ) (t : Living) → task_at s id ≡ Some t → t.waits ≡ false → ready_at s id ≡ Some t
ready-is s id t lives idle = ap that_is_ready lives ∙ ap (λ b. cond b None (Some t)) idle

-- where the record of the hand stands
hand-task : (g : Setting) (s : State) (core : SpaceCore) (hand : LentTask) (t : Living) → IsCore g s core → has_lent core hand ≡ true → task_at s hand.task.id ≡ Some t → steps hand.task.made t.task ≡ task_of g hand.task
hand-task g s core hand t is own lives =
    let l = lent-hand g s core hand is own in
    let same : t ≡ l.living = only t l.living (sym lives ∙ l.there) in
    ap (λ (u : Living). steps hand.task.made u.task) same ∙ l.stands

-- ---- a machine that is level, one by one

pub record Level (links : Links) (g : Setting) (t : Living) (o : Option Played) : Type 0 where
  pub player : Played
  pub plays : o ≡ Some player
  pub level : IsLevel links g t player

pub level-player : (links : Links) (g : Setting) (t : Living) (o : Option Played) → IsLevelAt links g t o → Level links g t o
level-player links g t None level = absurd level
level-player links g t (Some p) level = record { player = p; plays = refl; level = level }

pub level-some : (links : Links) (g : Setting) (t : Living) (o : Option Played) → IsLevelAt links g t o → is_some o ≡ true
level-some links g t None level = absurd level
level-some links g t (Some p) level = refl

-- the machine of a task in hand can catch up
pub can-catch-up : (g : Setting) (h : List Event) (space : Parts) (hand : LentTask) (id : ℕ) (past : Recorded) → IsInHand g h space hand → id ≡ hand.task.id → is_some (machine_at hand.task.id space.machines) ≡ true → past ≡ hand.task.past
    → IsSomeAnd (machine_at id space.machines) (λ (p : Played). CanCatchUp p past)
can-catch-up g h space hand id past i here some same =
    subst (λ n. IsSomeAnd (machine_at n space.machines) (λ (p : Played). CanCatchUp p past)) (sym here)
    (by (machine_at hand.task.id space.machines) (subst (λ (o : Option Living). IsPlayed space.program.now g o (machine_at hand.task.id space.machines)) l.there (i.stands.played hand.task.id)) some)
  where
    l : Lent g (state_of g h) space.core hand.task
    l = lent-hand g (state_of g h) space.core hand i.stands.core i.own

    by : (o : Option Played) → IsPlayed space.program.now g (Some l.living) o → is_some o ≡ true → IsSomeAnd o (λ (p : Played). CanCatchUp p past)
    by None played some = absurd (false≢true some)
    by (Some p) played some =
        record { links = space.program.now; setting = g; living = l.living; plays = i.stands.of.plays; played = played; ready = l.waits; same = l.past ∙ sym same }

pub level-stands : (links : Links) (g : Setting) (t : Living) (o : Option Living) (m : Option Played) → o ≡ Some t → IsLevelAt links g t m → IsPlayed links g o m
level-stands links g t o None lives level = absurd level
level-stands links g t o (Some p) lives level = subst (λ (o : Option Living). IsPlayed links g o (Some p)) (sym lives) (inl level)

comes-at : (t : Living) (o : Option Played) (p : Played) (n : Next) → o ≡ Some p → IsNextAt t o n → IsNextAt t (Some p) n
comes-at t o p n plays comes = subst (λ (o : Option Played). IsNextAt t o n) plays comes

-- ---- ends

pub ended-hand : (g : Setting) (h : List Event) (space : Parts) (hand : LentTask) (outcome : Told_outcome) → (c : ComesNext g h space hand (next.Ended outcome))
    → EndsInHand g h space hand outcome × (stand c.living.task ≡ HasEnded (outcome_of outcome))
ended-hand g h space hand outcome c =
    let l = level-player space.program.now g c.living (machine_at hand.task.id space.machines) c.level in
    let comes = comes-at c.living (machine_at hand.task.id space.machines) l.player (next.Ended outcome) l.plays c.comes in
    let here : c.living.task ≡ task_of g hand.task =
    sym (steps-none c.living.task) ∙ ap (λ k. steps k c.living.task) (sym c.in_hand.fresh) ∙ hand-task g (state_of g h) space.core hand c.living c.in_hand.stands.core c.in_hand.own c.lives in
    let follows = follows-abreast space.program.now g c.living l.player l.level comes.0 in (
      record {
        stands = c.in_hand.stands;
        own = c.in_hand.own;
        at = ap stand (sym here) ∙ comes.1;
        fuel = ap fuel_at l.plays ∙ sym follows.fuel ∙ ap (λ (t : Task). t.fuel) here;
      },
      comes.1,
    )

-- ---- instructions of its own

pub made-hand : (g : Setting) (h : List Event) (space : Parts) (hand after : LentTask) (outcome : Option Told_outcome) → (c : ComesNext g h space hand (next.Made outcome))
    → after.task ≡ record hand.task { made = hand.task.made + 1 } → has_lent space.core after ≡ true → HasMade g h space after
made-hand g h space hand after outcome c ran own =
    let l = level-player space.program.now g c.living (machine_at hand.task.id space.machines) c.level in
    let comes = comes-at c.living (machine_at hand.task.id space.machines) l.player (next.Made outcome) l.plays c.comes in
    let none = c.in_hand.fresh in
    let one : hand.task.made + 1 ≡ 1 = omega (arith, none) in
    record {
      stands = c.in_hand.stands;
      own = own;
      made = ap (λ (x : Hand). x.made) ran ∙ one;
      living = c.living;
      lives = ap (λ (x : Hand). task_at (state_of g h) x.id) ran ∙ c.lives;
      player = l.player;
      plays = ap (λ (x : Hand). machine_at x.id space.machines) ran ∙ l.plays;
      level = l.level;
      ahead = comes.0;
    }

pub made-next-is : (g : Setting) (h : List Event) (space : Parts) (hand : LentTask) (outcome : Option Told_outcome) → (c : ComesNext g h space hand (next.Made outcome))
    → (stand c.living.task ≡ Runs) × (is_at_end (step c.living.task).behaviour ≡ is_some outcome) × IfSome outcome (λ ended. stand (step c.living.task) ≡ HasEnded (outcome_of ended))
made-next-is g h space hand outcome c =
    let l = level-player space.program.now g c.living (machine_at hand.task.id space.machines) c.level in
    let comes = comes-at c.living (machine_at hand.task.id space.machines) l.player (next.Made outcome) l.plays c.comes in
    (comes.1, comes.2, comes.3)

pub made-ends : (g : Setting) (h : List Event) (space : Parts) (hand : LentTask) (outcome : Told_outcome) → (m : HasMade g h space hand) → stand (step m.living.task) ≡ HasEnded (outcome_of outcome)
    → EndsInHand g h space hand outcome
made-ends g h space hand outcome m ends =
    let here : step m.living.task ≡ task_of g hand.task =
    sym (steps-one m.living.task) ∙ ap (λ k. steps k m.living.task) (sym m.made) ∙ hand-task g (state_of g h) space.core hand m.living m.stands.core m.own m.lives in
    let follows = follows-ahead space.program.now g m.living m.player m.level m.ahead in
    record {
      stands = m.stands;
      own = m.own;
      at = ap stand (sym here) ∙ ends;
      fuel = ap fuel_at m.plays ∙ sym follows.fuel ∙ ap (λ (t : Task). t.fuel) here;
    }

-- it counts one instruction more than it has made, within the fuel with which it began
pub made-fits : (g : Setting) (h : List Event) (space : Parts) (hand : LentTask) (outcome : Option Told_outcome) → (c : ComesNext g h space hand (next.Made outcome)) → (fuel : ℕ) → fuel ≡ hand.task.past.began.fuel → fuel < 2 ^ 64
    → hand.task.steps + hand.task.made + 1 < 2 ^ 64
made-fits g h space hand outcome c fuel counted short =
    let l = level-player space.program.now g c.living (machine_at hand.task.id space.machines) c.level in
    let lent = lent-hand g (state_of g h) space.core hand c.in_hand.stands.core c.in_hand.own in
    let same : c.living ≡ lent.living = only c.living lent.living (sym c.lives ∙ lent.there) in
    let within : c.living.steps + c.living.task.fuel ≤ c.living.began.fuel = l.level.within in
    let some : 1 ≤ c.living.task.fuel = some-fuel c.living.task (made-next-is g h space hand outcome c).0 in
    let began : c.living.began.fuel ≡ hand.task.past.began.fuel = ap (λ (t : Living). t.began.fuel) same ∙ ap (λ (r : Recorded). r.began.fuel) lent.past in
    let steps : c.living.steps ≡ hand.task.steps = ap (λ (t : Living). t.steps) same ∙ lent.counted in
    let none : hand.task.made ≡ 0 = c.in_hand.fresh in
    omega (arith, within, some, began, steps, none, counted, short)

-- it is given back with the instruction
pub back-level : (g : Setting) (h : List Event) (space : Parts) (hand : LentTask) (machines : Machines) → (m : HasMade g h space hand) → machine_at hand.task.id machines ≡ Some (record m.player { ahead = false })
    → IsPlayed space.program.now g (task_at (state_of g (given_back hand.task ∷ h)) hand.task.id) (machine_at hand.task.id machines)
back-level g h space hand machines m settled =
    let links = space.program.now in
    let after = lent_tasks_go_on g h (given_back hand.task) hand.task.id m.living refl (ready-is (state_of g h) hand.task.id m.living m.lives m.level.ready) in
    let follows = follows-ahead links g m.living m.player m.level m.ahead in
    let one : steps hand.task.made m.living.task ≡ step m.living.task = ap (λ k. steps k m.living.task) m.made ∙ steps-one m.living.task in
    let was : m.living.steps + m.living.task.fuel ≤ m.living.began.fuel = m.level.within in
    let took : (step m.living.task).fuel + 1 ≡ m.living.task.fuel = step-fuel m.living.task (m.level.own m.ahead) in
    let left : (steps hand.task.made m.living.task).fuel ≡ (step m.living.task).fuel = ap (λ (t : Task). t.fuel) one in
    let count : hand.task.made ≡ 1 = m.made in
    let level : IsLevel links g (after_steps hand.task.made m.living) (record m.player { ahead = false }) = record {
      program = m.level.program;
      ready = m.level.ready;
      taken = m.level.taken;
      within = omega (arith, was, took, left, count);
      follows = subst (λ (t : Task). Follows links g t m.player.task.state) (sym one) follows;
      own = λ ahead. absurd (false≢true ahead);
      last = λ ahead. absurd (false≢true ahead);
    } in
    subst (IsPlayed links g (task_at (state_of g (given_back hand.task ∷ h)) hand.task.id)) (sym settled)
    (subst (λ (o : Option Living). IsPlayed links g o (Some (record m.player { ahead = false }))) (sym after) (inl level))

-- ---- ends of tasks

-- a task that is finished is gone
pub finished-gone : (g : Setting) (h : List Event) (space : Parts) (hand : LentTask) (outcome : Told_outcome) → EndsInHand g h space hand outcome → task_at (state_of g (finished hand.task ∷ h)) hand.task.id ≡ None
finished-gone g h space hand outcome e =
    let l = lent-hand g (state_of g h) space.core hand e.stands.core e.own in
    lent_tasks_go_on g h (finished hand.task) hand.task.id l.living refl l.ready
    ∙ ap (λ (at : Stand). when_finished at l.living) (ap stand l.stands ∙ e.at)

pub gone-played : (g : Setting) (h : List Event) (space : Parts) (hand : LentTask) (outcome : Told_outcome) (machines : Machines) → EndsInHand g h space hand outcome → machine_at hand.task.id machines ≡ None
    → IsPlayed space.program.now g (task_at (state_of g (finished hand.task ∷ h)) hand.task.id) (machine_at hand.task.id machines)
gone-played g h space hand outcome machines e none =
    subst (IsPlayed space.program.now g (task_at (state_of g (finished hand.task ∷ h)) hand.task.id)) (sym none)
    (subst (λ (o : Option Living). IsPlayed space.program.now g o None) (sym (finished-gone g h space hand outcome e)) tt)

-- ---- what it asks for

pub asks-hand : (g : Setting) (h : List Event) (space : Parts) (hand : LentTask) (asked : Asked) (op : Told_op) → ComesNext g h space hand (next.Asks asked)
    → ((p : Played) (m : Machine) (fuel : ℕ) → machine_at hand.task.id space.machines ≡ Some p → p.task.state ≡ Waits asked m fuel → op_of op ≡ op_at p.task.program.classes asked m) → AsksInHand g h space hand op
asks-hand g h space hand asked op c tells =
    let l = level-player space.program.now g c.living (machine_at hand.task.id space.machines) c.level in
    let comes = comes-at c.living (machine_at hand.task.id space.machines) l.player (next.Asks asked) l.plays c.comes in
    let w = waits-in asked l.player.task.state comes.1 in
    record {
      in_hand = c.in_hand;
      living = c.living;
      lives = c.lives;
      player = l.player;
      plays = l.plays;
      level = l.level;
      abreast = comes.0;
      asked = asked;
      machine = w.0;
      fuel = w.1;
      state = w.2;
      is = tells l.player w.0 w.1 l.plays w.2 ∙ ap (λ (k : Links). op_at k.classes asked w.0) l.level.program;
    }

-- it stands there
pub asks-stand : (g : Setting) (h : List Event) (space : Parts) (hand : LentTask) (op : Told_op) → (a : AsksInHand g h space hand op) → stand a.living.task ≡ AsksFor (op_of op)
asks-stand g h space hand op a =
    let links = space.program.now in
    stands links g a.living.task a.player.task.state (follows-abreast links g a.living a.player a.level a.abreast) ∙ ap (stand_of links) a.state ∙ ap AsksFor (sym a.is)

asks-task : (g : Setting) (h : List Event) (space : Parts) (hand : LentTask) (op : Told_op) → (a : AsksInHand g h space hand op) → a.living.task ≡ task_of g hand.task
asks-task g h space hand op a =
    sym (steps-none a.living.task) ∙ ap (λ k. steps k a.living.task) (sym a.in_hand.fresh) ∙ hand-task g (state_of g h) space.core hand a.living a.in_hand.stands.core a.in_hand.own a.lives

-- as the core is told
pub asks-told : (g : Setting) (h : List Event) (space : Parts) (hand : LentTask) (op : Told_op) → (a : AsksInHand g h space hand op) → stand (task_of g hand.task) ≡ AsksFor (op_of op)
asks-told g h space hand op a = ap stand (sym (asks-task g h space hand op a)) ∙ asks-stand g h space hand op a

pub asks-fuel : (g : Setting) (h : List Event) (space : Parts) (hand : LentTask) (op : Told_op) → (a : AsksInHand g h space hand op) → fuel_at (machine_at hand.task.id space.machines) ≡ (task_of g hand.task).fuel
asks-fuel g h space hand op a =
    let follows = follows-abreast space.program.now g a.living a.player a.level a.abreast in
    ap fuel_at a.plays ∙ sym follows.fuel ∙ ap (λ (t : Task). t.fuel) (asks-task g h space hand op a)

store-keeps : (classes : List Class) (m : Machine) (op : Asked) (t : Task) → is_on_store (op_at classes op m) ≡ true → waiting op t ≡ t
store-keeps classes m (asked.Create class) t on = refl
store-keeps classes m (asked.Get object slot) t on = refl
store-keeps classes m (asked.Put object slot value) t on = refl
store-keeps classes m (asked.Call target method count) t on = absurd (false≢true on)

of-store : (classes : List Class) (m : Machine) (op : Asked) → is_on_store (op_at classes op m) ≡ true → IsOfStore op
of-store classes m (asked.Create class) on = tt
of-store classes m (asked.Get object slot) on = tt
of-store classes m (asked.Put object slot value) on = tt
of-store classes m (asked.Call target method count) on = absurd (false≢true on)

-- it has no more fuel than it began with
asks-within : (g : Setting) (h : List Event) (space : Parts) (hand : LentTask) (op : Told_op) → (a : AsksInHand g h space hand op) → a.living.task.fuel ≤ a.living.began.fuel
asks-within g h space hand op a = let within : a.living.steps + a.living.task.fuel ≤ a.living.began.fuel = a.level.within in omega (arith, within)

call-lends : (classes : List Class) (m : Machine) (op : Asked) (t : Task) → is_on_store (op_at classes op m) ≡ false → waiting op t ≡ lend_fuel t
call-lends classes m (asked.Create class) t off = absurd (true≢false off)
call-lends classes m (asked.Get object slot) t off = absurd (true≢false off)
call-lends classes m (asked.Put object slot value) t off = absurd (true≢false off)
call-lends classes m (asked.Call target method count) t off = refl

-- after an operation on the store the machine is behind
pub commit-played : (g : Setting) (h : List Event) (space : Parts) (hand : LentTask) (op : Told_op) → (a : AsksInHand g h space hand op) → is_on_store (op_of op) ≡ true
    → IsPlayed space.program.now g (task_at (state_of g (committed hand.task op ∷ h)) hand.task.id) (machine_at hand.task.id space.machines)
commit-played g h space hand op a on =
    let links = space.program.now in
    let s = state_of g h in
    let r = op_reply g (op_of op) s in
    let after = lent_tasks_go_on g h (committed hand.task op) hand.task.id a.living refl (ready-is s hand.task.id a.living a.lives a.level.ready) in
    let none : steps hand.task.made a.living.task ≡ a.living.task = ap (λ k. steps k a.living.task) a.in_hand.fresh ∙ steps-none a.living.task in
    let follows : Follows links g a.living.task (Waits a.asked a.machine a.fuel) = subst (Follows links g a.living.task) a.state (follows-abreast links g a.living a.player a.level a.abreast) in
    let takes : IsTakenAs links.classes a.asked a.machine a.fuel (op_reply g (op_at links.classes a.asked a.machine) s) =
    store_replies_are_taken links g h hand.task.id a.living a.asked a.machine a.fuel a.in_hand.stands.of.set a.in_hand.stands.taken a.lives follows (of-store links.classes a.machine a.asked (ap is_on_store (sym a.is) ∙ on)) in
    let behind : IsBehind links g (after_reply g r (after_steps hand.task.made a.living)) a.player = record {
      ready = refl;
      last = record { steps = a.living.steps + hand.task.made; lent = a.living.waits; reply = r };
      earlier = a.living.given;
      given = refl;
      taken = a.level.taken;
      steps = refl;
      waited = steps hand.task.made a.living.task;
      asks = record {
        program = a.level.program;
        level = a.abreast;
        asked = a.asked;
        machine = a.machine;
        fuel = a.fuel;
        state = a.state;
        before = a.living.task;
        follows = follows;
        is = none ∙ sym (store-keeps links.classes a.machine a.asked a.living.task (ap is_on_store (sym a.is) ∙ on));
      };
      within = asks-within g h space hand op a;
      answered = refl;
      takes = subst (λ (o : Op). IsTakenAs links.classes a.asked a.machine a.fuel (op_reply g o s)) (sym a.is) takes;
    } in
    subst (IsPlayed links g (task_at (state_of g (committed hand.task op ∷ h)) hand.task.id)) (sym a.plays)
    (subst (λ (o : Option Living). IsPlayed links g o (Some a.player)) (sym after) (inr (inr behind)))

-- a give-back of nothing leaves it so
pub back-played : (g : Setting) (h : List Event) (links : Links) (hand : Hand) (o : Option Played) → hand.made ≡ 0 → IsPlayed links g (task_at (state_of g h) hand.id) o
    → IsPlayed links g (task_at (state_of g (given_back hand ∷ h)) hand.id) o
unfolding state_of
back-played g h links hand o none p =
    subst (λ k. IsPlayed links g (task_at (on g (GivenBack hand.id k) (state_of g h)).0 hand.id) o) (sym none)
    (subst (λ (s : State). IsPlayed links g (task_at s hand.id) o) (sym (back-nothing g (state_of g h) hand.id)) p)

parks : (op : Op) (k : ℕ) (t : Living) → is_on_store op ≡ false → when_parked k (AsksFor op) t ≡ living.waiting k t
parks (Create class) k t off = absurd (true≢false off)
parks (Get object slot) k t off = absurd (true≢false off)
parks (Put object slot value) k t off = absurd (true≢false off)
parks (Call target method arguments) k t off = refl

-- after a call the task waits
pub park-played : (g : Setting) (h : List Event) (space : Parts) (hand : LentTask) (op : Told_op) → (a : AsksInHand g h space hand op) → is_on_store (op_of op) ≡ false
    → IsPlayed space.program.now g (task_at (state_of g (parked hand.task ∷ h)) hand.task.id) (machine_at hand.task.id space.machines)
park-played g h space hand op a off =
    let links = space.program.now in
    let s = state_of g h in
    let none : steps hand.task.made a.living.task ≡ a.living.task = ap (λ k. steps k a.living.task) a.in_hand.fresh ∙ steps-none a.living.task in
    let ready : ready_at s hand.task.id ≡ Some a.living = ready-is s hand.task.id a.living a.lives a.level.ready in
    let after = lent_tasks_go_on g h (parked hand.task) hand.task.id a.living refl ready
    ∙ ap (λ (at : Stand). Some (when_parked hand.task.made at a.living)) (ap stand none ∙ asks-stand g h space hand op a) ∙ ap Some (parks (op_of op) hand.task.made a.living off) in
    let waits : IsWaiting links g (living.waiting hand.task.made a.living) a.player = record {
      waits = refl;
      taken = a.level.taken;
      asks = record {
        program = a.level.program;
        level = a.abreast;
        asked = a.asked;
        machine = a.machine;
        fuel = a.fuel;
        state = a.state;
        before = a.living.task;
        follows = subst (Follows links g a.living.task) a.state (follows-abreast links g a.living a.player a.level a.abreast);
        is = ap lend_fuel none ∙ sym (call-lends links.classes a.machine a.asked a.living.task (ap is_on_store (sym a.is) ∙ off));
      };
      at = sym none ∙ sym (point-waiting g h hand.task.id hand.task.made a.living ready);
      within = asks-within g h space hand op a;
    } in
    subst (IsPlayed links g (task_at (state_of g (parked hand.task ∷ h)) hand.task.id)) (sym a.plays)
    (subst (λ (o : Option Living). IsPlayed links g o (Some a.player)) (sym after) (inr (inl waits)))
