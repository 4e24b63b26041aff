-- Tasks in hand that come back to their space: given back, to wait for a reply, or at their end.
use Rattle.std.proofs.Common.{◌≡◌, inl, inr, ℕ, ◌+◌, ◌≤◌, List, ◌∷◌, Option, None, Some, refl, sym, ap, subst, ◌∙◌, arith}
use Rattle.std.specs.Prelude.{option_map}
use Rattle.cls_set.specs.declared.class.Class.{Class}
use Rattle.sp_behaviours.specs.Behaviours.{op_at}
use Rattle.sp_behaviours.specs.Follows.{Follows, waiting}
use Rattle.sp_core.specs.Cores.{IsCore, lent_as}
use Rattle.sp_core.specs.declared.space_core.SpaceCore.{SpaceCore}
use Rattle.sp_lender.specs.Hands.{finished, given_back, parked}
use Rattle.sp_machines.specs.Players.{IsLevel, IsWaiting, Played, WaitsFor}
use Rattle.sp_machines.proofs.PlayedLemmas.{follows-abreast, waits-stand}
use Rattle.sp_laws.specs.Changes.{when_finished, when_parked}
use Rattle.sp_laws.proofs.FittedLemmas.{point-waiting}
use Rattle.sp_laws.proofs.LentEvents.{lent_tasks_go_on}
use Rattle.sp_rules.specs.Behaviours.{Op, Create, Get, Put, Call}
use Rattle.sp_rules.specs.Classes.{Setting}
use Rattle.sp_rules.specs.Events.{Event}
use Rattle.sp_rules.specs.LivingTasks as living
use Rattle.sp_rules.specs.LivingTasks.{after_steps}
use Rattle.sp_rules.specs.Refusals.{refusal}
use Rattle.sp_rules.specs.Space.{on, state_of}
use Rattle.sp_rules.specs.State.{Living, ready_at, task_at}
use Rattle.sp_rules.specs.Tasks.{Task, Stand, Runs, AsksFor, HasEnded, lend_fuel, stand, steps}
use Rattle.sp_tasks.specs.Rows.{Hand}
use Rattle.sp_tasks.specs.declared.behaviour.Op.{Op as Told_op}
use Rattle.sp_tasks.specs.declared.behaviour.Stand.{Stand as Told}
use Rattle.sp_tasks.specs.declared.behaviour.Stand.TheVariants as told
use Rattle.vm_act.specs.declared.asked.Asked.{Asked}
use Rattle.vm_act.specs.declared.asked.Asked.TheVariants as asked
use Rattle.vm_act.specs.declared.machine.Machine.{Machine}
use Rattle.sp_lending.specs.Hands.{IsAt, IsNow, IsTask}
use Rattle.sp_lending.specs.Rows.{IsMachine, IsRow}
use Rattle.sp_lending.specs.Spaces.{Stands}
use Rattle.sp_lending.specs.declared.parts.Parts.{Parts}
use Rattle.sp_lending.specs.declared.rows.Rows.{Rows}
use Rattle.sp_lending.specs.declared.task_parts.TaskParts.{TaskParts}
use Rattle.sp_lending.proofs.AlikeLemmas.{as_task, held-row, level-as}
use Rattle.sp_lending.proofs.FoundLemmas.{Found, IsCalled, IsEnded, found-back, found-finish, found-now, found-park}
use Rattle.sp_lending.proofs.LentIds.{lent_ids}
use Rattle.sp_lending.proofs.SpaceLemmas.{ChangesRow, LendsNoMore, lent-event}
use Rattle.sp_lending.proofs.TaskLemmas.{Standing}

-- the row that a machine comes back to
abbrev pub back_row : Option Played → Option (Option Played)
back_row o = option_map (λ (p : Played). Some p) o

-- ---- given back

pub back-stands : (g : Setting) (h : List Event) (space : Parts) (core : SpaceCore) (rows : Rows) (task : TaskParts) → Stands g h space → IsTask g task
    → refusal g (lent_as (state_of g h) task.hand.task (lent_ids space.core)) (state_of g h) (given_back task.hand.task) ≡ None → IsCore g (on g (given_back task.hand.task) (state_of g h)).0 core
    → LendsNoMore task.hand.task.id space.core core → ChangesRow task.hand.task.id (back_row task.player) space.rows rows → Stands g (given_back task.hand.task ∷ h) (record space { core = core; rows = rows })
back-stands g h space core rows task stands is taken core-is lends changes =
    let hand = task.hand.task in
    let f = found-back g (state_of g h) space.core hand taken in
    let after : task_at (state_of g (given_back hand ∷ h)) hand.id ≡ Some (as_task f.living.id f.living.origin is.now) =
    lent_tasks_go_on g h (given_back hand) hand.id f.living refl f.ready ∙ ap Some (found-now g h space.core hand is.now f is.is) in
    lent-event g h (given_back hand) hand.id space core rows (back_row task.player) stands refl (lent_as (state_of g h) hand (lent_ids space.core)) taken core-is lends changes
    (subst (λ (o : Option Living). IsRow g o (back_row task.player)) (sym after) (held-row g is.now task.player f.living.id f.living.origin is.held))

-- ---- it waits

-- what stands at a call
called : (at : Stand) → IsCalled at → (op : Op) × (at ≡ AsksFor op) × IsCalled (AsksFor op)
called Runs calls = absurd calls
called (AsksFor op) calls = (op, refl, calls)
called (HasEnded outcome) calls = absurd calls

parks : (op : Op) (k : ℕ) (t : Living) → IsCalled (AsksFor op) → when_parked k (AsksFor op) t ≡ living.waiting k t
parks (Create class) k t calls = absurd calls
parks (Get object slot) k t calls = absurd calls
parks (Put object slot value) k t calls = absurd calls
parks (Call target method arguments) k t calls = refl

call-lends : (classes : List Class) (m : Machine) (op : Asked) (t : Task) → IsCalled (AsksFor (op_at classes op m)) → waiting op t ≡ lend_fuel t
call-lends classes m (asked.Create class) t calls = absurd calls
call-lends classes m (asked.Get object slot) t calls = absurd calls
call-lends classes m (asked.Put object slot value) t calls = absurd calls
call-lends classes m (asked.Call target method count) t calls = refl

-- its machine waits for the reply to a call
record Calling (p : Played) : Type 0 where
  pub op : Told_op
  pub waits : WaitsFor p op
  pub calls : IsCalled (AsksFor (op_at p.task.program.classes waits.asked waits.machine))

calling : (g : Setting) (t : Living) (p : Played) (at : Told) → IsMachine g p → IsLevel p.task.program g t p → IsAt t p at → IsCalled (stand t.task) → Calling p
calling g t p told.Runs machine level at calls = absurd at
calling g t p (told.AsksFor op) machine level at calls =
    record { op = op; waits = at; calls = subst (λ (o : Op). IsCalled (AsksFor o)) at.is (subst IsCalled (waits-stand p.task.program g t p op level machine.abreast at) calls) }
calling g t p (told.HasEnded outcome) machine level at calls = absurd (subst IsCalled at calls)

parked-row : (g : Setting) (h : List Event) (id k : ℕ) (t : Living) (p : Played) → ready_at (state_of g h) id ≡ Some t → IsMachine g p → IsLevel p.task.program g (after_steps k t) p → Calling p
    → IsWaiting p.task.program g (living.waiting k t) p
parked-row g h id k t p ready machine level c =
    let links = p.task.program in
    let w = c.waits in
    let bound : (t.steps + k) + (steps k t.task).fuel ≤ t.began.fuel = level.within in
    record {
      waits = refl;
      taken = level.taken;
      asks = record {
        program = level.program;
        level = machine.abreast;
        asked = w.asked;
        machine = w.machine;
        fuel = w.fuel;
        state = w.state;
        before = steps k t.task;
        follows = subst (Follows links g (steps k t.task)) w.state (follows-abreast links g (after_steps k t) p level machine.abreast);
        is = sym (call-lends links.classes w.machine w.asked (steps k t.task) c.calls);
      };
      at = sym (point-waiting g h id k t ready);
      within = omega (arith, bound);
    }

-- a living task is level with the machine with which the one in hand is
pub own-level : (g : Setting) (h : List Event) (core : SpaceCore) (hand : Hand) (now : Living) (p : Played) → (f : Found (state_of g h) core hand) → IsNow g hand now → IsLevel p.task.program g now p
    → IsLevel p.task.program g (after_steps hand.made f.living) p
own-level g h core hand now p f is level =
    subst (λ (t : Living). IsLevel p.task.program g t p) (sym (found-now g h core hand now f is)) (level-as p.task.program g now p f.living.id f.living.origin level)

pub park-stands : (g : Setting) (h : List Event) (space : Parts) (core : SpaceCore) (rows : Rows) (task : TaskParts) (at : Told) → Stands g h space → Standing g task at
    → refusal g (lent_as (state_of g h) task.hand.task (lent_ids space.core)) (state_of g h) (parked task.hand.task) ≡ None → IsCore g (on g (parked task.hand.task) (state_of g h)).0 core
    → LendsNoMore task.hand.task.id space.core core → ChangesRow task.hand.task.id (back_row task.player) space.rows rows → Stands g (parked task.hand.task ∷ h) (record space { core = core; rows = rows })
park-stands g h space core rows task at stands s taken core-is lends changes =
    let hand = task.hand.task in
    let p = s.player in
    let fc = found-park g (state_of g h) space.core hand taken in
    let f = fc.found in
    let t = f.living in
    let level = own-level g h space.core hand s.now p f s.is s.level in
    let here : stand (steps hand.made t.task) ≡ stand s.now.task = ap (λ (u : Living). stand u.task) (found-now g h space.core hand s.now f s.is) in
    let c = calling g s.now p at s.machine s.level s.stands (subst IsCalled here fc.calls) in
    let asks = called (stand (steps hand.made t.task)) fc.calls in
    let after : task_at (state_of g (parked hand ∷ h)) hand.id ≡ Some (living.waiting hand.made t) =
    lent_tasks_go_on g h (parked hand) hand.id t refl f.ready ∙ ap (λ (x : Stand). Some (when_parked hand.made x t)) asks.1 ∙ ap Some (parks asks.0 hand.made t asks.2) in
    lent-event g h (parked hand) hand.id space core rows (back_row task.player) stands refl (lent_as (state_of g h) hand (lent_ids space.core)) taken core-is lends changes
    (subst (λ (o : Option Played). IsRow g (task_at (state_of g (parked hand ∷ h)) hand.id) (back_row o)) (sym s.plays)
    (subst (λ (o : Option Living). IsRow g o (Some (Some p))) (sym after) (s.machine, inr (inl (parked-row g h hand.id hand.made t p f.ready s.machine level c)))))

-- ---- it has ended

gone : (at : Stand) (t : Living) → IsEnded at → when_finished at t ≡ None
gone Runs t ends = absurd ends
gone (AsksFor op) t ends = absurd ends
gone (HasEnded outcome) t ends = refl

pub finish-stands : (g : Setting) (h : List Event) (space : Parts) (core : SpaceCore) (rows : Rows) (hand : Hand) → Stands g h space
    → refusal g (lent_as (state_of g h) hand (lent_ids space.core)) (state_of g h) (finished hand) ≡ None → IsCore g (on g (finished hand) (state_of g h)).0 core → LendsNoMore hand.id space.core core
    → ChangesRow hand.id None space.rows rows → Stands g (finished hand ∷ h) (record space { core = core; rows = rows })
finish-stands g h space core rows hand stands taken core-is lends changes =
    let fe = found-finish g (state_of g h) space.core hand taken in
    let f = fe.found in
    let after : task_at (state_of g (finished hand ∷ h)) hand.id ≡ None = lent_tasks_go_on g h (finished hand) hand.id f.living refl f.ready ∙ gone (stand (steps hand.made f.living.task)) f.living fe.ends in
    lent-event g h (finished hand) hand.id space core rows None stands refl (lent_as (state_of g h) hand (lent_ids space.core)) taken core-is lends changes
    (subst (λ (o : Option Living). IsRow g o None) (sym after) (λ links set. tt))
