-- A task in hand of which the store does an operation.
use Rattle.std.proofs.Common.{◌≡◌, inr, ℕ, ◌+◌, ◌≤◌, true, false, List, [], ◌∷◌, ◌++◌, None, Some, refl, sym, ap, subst, ◌∙◌, arith}
use Rattle.std.specs.Prelude.{not, is_some}
use Rattle.sp_behaviours.specs.Behaviours.{IsOfStore, op_at}
use Rattle.sp_behaviours.specs.Follows.{Follows}
use Rattle.sp_core.specs.Cores.{IsCore, is_lent, lent_as}
use Rattle.sp_core.specs.declared.lent_task.LentTask.{LentTask}
use Rattle.sp_core.specs.declared.space_core.SpaceCore.{SpaceCore}
use Rattle.sp_living.specs.Views.{turned}
use Rattle.sp_machines.specs.Players.{IsBehind, IsLevel, IsPlayedBy, Played, WaitsFor}
use Rattle.sp_machines.proofs.PlayedLemmas.{follows-abreast, waits-stand}
use Rattle.sp_laws.proofs.LentEvents.{lent_tasks_go_on}
use Rattle.sp_behaviours.specs.Calls.{IsTakenAs}
use Rattle.sp_behaviours.proofs.AskedLemmas.{back-taken, of-store, reply-after, store-keeps}
use Rattle.sp_behaviours.proofs.TakenLemmas.{store_replies_are_taken}
use Rattle.sp_rules.specs.Behaviours as rules
use Rattle.sp_rules.specs.Behaviours.{Op}
use Rattle.sp_rules.specs.Classes.{Setting}
use Rattle.sp_rules.specs.Events.{Event, Committed, GivenBack}
use Rattle.sp_rules.specs.LivingTasks.{after_reply, after_steps, op_reply}
use Rattle.sp_rules.specs.Origins.{IsTaken}
use Rattle.sp_rules.specs.Refusals.{fits_store, refusal}
use Rattle.sp_rules.specs.Runs.{replayed}
use Rattle.sp_rules.specs.Space.{on, state_of}
use Rattle.sp_rules.specs.State.{Given, Living, task_at}
use Rattle.sp_rules.specs.Tasks.{AsksFor, answer, stand, steps}
use Rattle.sp_rules.proofs.AskedLemmas.{commits_are_asked}
use Rattle.sp_tasks.specs.Behaviours.{op_of}
use Rattle.sp_tasks.specs.Rows.{Hand, replied_hand}
use Rattle.sp_tasks.specs.declared.behaviour.Op.{Op as Told_op}
use Rattle.sp_tasks.specs.declared.behaviour.Stand.{Stand as Told}
use Rattle.sp_tasks.specs.declared.behaviour.Stand.TheVariants as told
use Rattle.vm_step.specs.Run.{Waits}
use Rattle.sp_lending.specs.Hands.{IsAt, IsHeld, IsHome, IsNow, IsTask}
use Rattle.sp_lending.specs.Rows.{IsMachine}
use Rattle.sp_lending.specs.Spaces.{Stands}
use Rattle.sp_lending.specs.declared.parts.Parts.{Parts}
use Rattle.sp_lending.specs.declared.task_parts.TaskParts.{TaskParts}
use Rattle.sp_lending.proofs.FoundLemmas.{Found, found-commit, found-now}
use Rattle.sp_lending.proofs.LentIds.{lent_ids}
use Rattle.sp_lending.proofs.RecordLemmas.{steps-more, turned-more}
use Rattle.sp_lending.proofs.ReturnLemmas.{own-level}
use Rattle.sp_lending.proofs.SpaceLemmas.{out-event}
use Rattle.sp_lending.proofs.TaskLemmas.{Standing}

-- ---- an operation on the store

asks-same : (a b : Op) → AsksFor a ≡ AsksFor b → a ≡ b
asks-same a b e = cc

-- its machine waits for the reply to this operation
record Asking (p : Played) (op : Op) : Type 0 where
  pub told : Told_op
  pub waits : WaitsFor p told
  pub is : op ≡ op_at p.task.program.classes waits.asked waits.machine

asking : (g : Setting) (t : Living) (p : Played) (at : Told) (op : Op) → IsMachine g p → IsLevel p.task.program g t p → IsAt t p at → stand t.task ≡ AsksFor op → Asking p op
asking g t p told.Runs op machine level at asks = absurd at
asking g t p (told.AsksFor o) op machine level at asks =
    record { told = o; waits = at; is = asks-same op (op_of o) (sym asks ∙ waits-stand p.task.program g t p o level machine.abreast at) ∙ at.is }
asking g t p (told.HasEnded outcome) op machine level at asks = let e = sym at ∙ asks in absurd (cc)

-- ---- the reply is one that its machine takes

takes-reply : (g : Setting) (h : List Event) (core : SpaceCore) (hand : Hand) (p : Played) (op : Op) → (f : Found (state_of g h) core hand) → IsTaken g h → IsMachine g p
    → IsLevel p.task.program g (after_steps hand.made f.living) p → (a : Asking p op) → IsOfStore a.waits.asked
    → IsTakenAs p.task.program.classes a.waits.asked a.waits.machine a.waits.fuel (op_reply g op (state_of g h))
takes-reply g h core hand p op f taken machine level a of =
    let links = p.task.program in
    let w = a.waits in
    let u = after_steps hand.made f.living in
    let e : Event = GivenBack hand.id hand.made in
    let lives : task_at (state_of g (e ∷ h)) hand.id ≡ Some u = lent_tasks_go_on g h e hand.id f.living refl f.ready in
    let follows : Follows links g u.task (Waits w.asked w.machine w.fuel) = subst (Follows links g u.task) w.state (follows-abreast links g u p level machine.abreast) in
    let takes = store_replies_are_taken links g (e ∷ h) hand.id u w.asked w.machine w.fuel machine.set (back-taken g h hand.id hand.made (ap is_some f.ready) taken) lives follows of in
    let reply : op_reply g (op_at links.classes w.asked w.machine) (state_of g (e ∷ h)) ≡ op_reply g op (state_of g h) =
    reply-after g h hand.id hand.made (op_at links.classes w.asked w.machine) ∙ ap (λ (o : Op). op_reply g o (state_of g h)) (sym a.is) in
    subst (IsTakenAs links.classes w.asked w.machine w.fuel) reply takes

-- ---- the task after it

-- its machine is behind
behind-reply : (g : Setting) (now : Living) (p : Played) (r : rules.Reply) (op : Op) → IsMachine g p → IsLevel p.task.program g now p → (a : Asking p op) → IsOfStore a.waits.asked
    → IsTakenAs p.task.program.classes a.waits.asked a.waits.machine a.waits.fuel r → IsBehind p.task.program g (after_reply g r now) p
behind-reply g now p r op machine level a of takes =
    let links = p.task.program in
    let w = a.waits in
    let bound : now.steps + now.task.fuel ≤ now.began.fuel = level.within in
    record {
      ready = refl;
      last = record { steps = now.steps; lent = now.waits; reply = r };
      earlier = now.given;
      given = refl;
      taken = level.taken;
      steps = refl;
      waited = now.task;
      asks = record {
        program = level.program;
        level = machine.abreast;
        asked = w.asked;
        machine = w.machine;
        fuel = w.fuel;
        state = w.state;
        before = now.task;
        follows = subst (Follows links g now.task) w.state (follows-abreast links g now p level machine.abreast);
        is = sym (store-keeps w.asked now.task of);
      };
      within = omega (arith, bound);
      answered = refl;
      takes = takes;
    }

replied-now : (g : Setting) (hand : Hand) (now : Living) (r : rules.Reply) → IsNow g hand now → IsNow g (replied_hand r hand) (after_reply g r now)
unfolding steps
replied-now g hand now r is =
    let began = hand.past.began in
    let given = hand.past.given in
    let entry : Given = record { steps = hand.steps + hand.made; lent = false; reply = r } in
    let before : now.task ≡ steps (hand.steps + hand.made) (replayed g began (turned given)) = is.task ∙ steps-more hand.steps hand.made (replayed g began (turned given)) in
    record {
      ready = refl;
      past = λ j. record { began = (is.past j).began; given = (is.past j).given ++ record { steps = is.counted j; lent = is.ready j; reply = r } ∷ [] };
      counted = refl;
      task = ap (answer g r) before ∙ ap (replayed g began) (sym (turned-more given entry));
    }

-- The operation is done.
pub record Done (g : Setting) (h : List Event) (space : Parts) (core : SpaceCore) (task : TaskParts) (hand : Hand) (op : Told_op) : Type 0 where
  pub stands : Stands g (Committed task.hand.task.id task.hand.task.made (op_of op) ∷ h) (record space { core = core })
  pub found : Found (state_of g h) space.core task.hand.task
  pub now : Living
  pub is : IsNow g hand now
  pub player : Played
  pub plays : task.player ≡ Some player
  pub machine : IsMachine g player
  pub played : IsPlayedBy player.task.program g now player

pub commit-done : (g : Setting) (h : List Event) (space : Parts) (core : SpaceCore) (task : TaskParts) (after : Hand) (at : Told) (op : Told_op) (r : rules.Reply) → Stands g h space → Standing g task at
    → refusal g (lent_as (state_of g h) task.hand.task (lent_ids space.core)) (state_of g h) (Committed task.hand.task.id task.hand.task.made (op_of op)) ≡ None
    → IsCore g (on g (Committed task.hand.task.id task.hand.task.made (op_of op)) (state_of g h)).0 core → ((id : ℕ) → is_lent core id ≡ is_lent space.core id)
    → r ≡ op_reply g (op_of op) (state_of g h) → after ≡ replied_hand r task.hand.task → Done g h space core task after op
commit-done g h space core task after at op r stands s taken core-is same replies replied =
    let hand = task.hand.task in
    let state = state_of g h in
    let fa = found-commit g state space.core hand (op_of op) taken in
    let f = fa.found in
    let p = s.player in
    let level = own-level g h space.core hand s.now p f s.is s.level in
    let asks : stand (steps hand.made f.living.task) ≡ AsksFor (op_of op) = commits_are_asked g (lent_as state hand (lent_ids space.core)) state hand.id hand.made (op_of op) f.living taken f.there in
    let here : stand s.now.task ≡ AsksFor (op_of op) = sym (ap (λ (u : Living). stand u.task) (found-now g h space.core hand s.now f s.is)) ∙ asks in
    let a = asking g s.now p at (op_of op) s.machine s.level s.stands here in
    let of = of-store g state p.task.program.classes a.waits.machine a.waits.asked (subst (λ (o : Op). fits_store g state o ≡ true) a.is fa.fits) in
    let takes = takes-reply g h space.core hand p (op_of op) f stands.taken s.machine level a of in
    let behind = behind-reply g s.now p r (op_of op) s.machine s.level a of (subst (IsTakenAs p.task.program.classes a.waits.asked a.waits.machine a.waits.fuel) (sym replies) takes) in
    record {
      stands = out-event g h (Committed hand.id hand.made (op_of op)) hand.id space core stands refl f.lent (lent_as state hand (lent_ids space.core)) taken core-is same;
      found = f;
      now = after_reply g r s.now;
      is = subst (λ (x : Hand). IsNow g x (after_reply g r s.now)) (sym replied) (replied-now g hand s.now r s.is);
      player = p;
      plays = s.plays;
      machine = s.machine;
      played = inr (inr behind);
    }

-- The task has the reply, and where its machine stands is not known.
pub done-task : (g : Setting) (h : List Event) (space : Parts) (core : SpaceCore) (task : TaskParts) (after : LentTask) (op : Told_op) → IsHome g task.home → Done g h space core task after.task op
    → IsTask g (record task { hand = after; stand = None })
done-task g h space core task after op home done =
    record { home = home; now = done.now; is = done.is; held = subst (IsHeld g done.now) (sym done.plays) (done.machine, done.played); stood = tt }
