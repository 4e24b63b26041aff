-- What becomes of a task in hand: it takes replies, makes instructions, and stands somewhere.
use Rattle.std.proofs.Common.{◌≡◌, inl, ℕ, ◌+◌, ◌<◌, ◌≤◌, false, Option, None, Some, refl, sym, ap, subst, ◌∙◌, arith}
use Rattle.std.specs.Prelude.{◌^◌, IfSome, Ok, IsOk}
use Rattle.cls_link.specs.Links.{Links}
use Rattle.uuid.specs.declared.Uuid.{Uuid}
use Rattle.sp_behaviours.specs.Follows.{PlaysOn}
use Rattle.sp_core.specs.Hands.{HasFuel}
use Rattle.sp_core.specs.declared.lent_task.LentTask.{LentTask}
use Rattle.sp_living.specs.Hands.{StandsAt}
use Rattle.sp_living.specs.Views.{recorded_in, turned}
use Rattle.sp_machines.specs.Coming.{fuel_at}
use Rattle.sp_machines.specs.Players.{CanCatchUp, IsLevel, IsPlayedBy, IsUntouched, Played}
use Rattle.sp_machines.proofs.BeginLemmas.{begins-level}
use Rattle.sp_machines.proofs.PlayedLemmas.{follows-abreast, only, waits-stand}
use Rattle.sp_behaviours.specs.Calls.{IsSettingOf}
use Rattle.sp_rules.specs.Classes.{Setting}
use Rattle.sp_rules.specs.LivingTasks.{after_steps}
use Rattle.sp_rules.specs.Runs.{replayed}
use Rattle.sp_rules.specs.State.{Living}
use Rattle.sp_rules.specs.Tasks.{Task, stand, steps}
use Rattle.sp_tasks.specs.Recorded.{Recorded}
use Rattle.sp_tasks.specs.Rows.{Hand}
use Rattle.sp_tasks.specs.declared.behaviour.Stand.{Stand}
use Rattle.sp_tasks.specs.declared.behaviour.Stand.TheVariants as point
use Rattle.vm_step.specs.Begin.{begun}
use Rattle.vm_step.specs.Run.{IsNeverStuck}
use Rattle.vm_step.specs.declared.limits.Limits.{Limits}
use Rattle.sp_lending.specs.Hands.{IsAt, IsHeld, IsHome, IsLevelTask, IsNow, IsStood, IsTask, StandsIn}
use Rattle.sp_lending.specs.Rows.{IsMachine}
use Rattle.sp_lending.specs.declared.task_parts.TaskParts.{TaskParts}
use Rattle.sp_lending.proofs.RecordLemmas.{steps-more}

-- ---- where it stands

pub stands-at : (g : Setting) (hand : Hand) (now : Living) (p : Played) (at : Stand) → IsNow g hand now → IsMachine g p → IsLevel p.task.program g now p → IsAt now p at → StandsAt g hand at
stands-at g hand now p point.Runs is machine level at = absurd at
stands-at g hand now p (point.AsksFor op) is machine level at = ap stand (sym is.task) ∙ waits-stand p.task.program g now p op level machine.abreast at
stands-at g hand now p (point.HasEnded outcome) is machine level at = ap stand (sym is.task) ∙ at

pub has-fuel : (g : Setting) (hand : Hand) (now : Living) (p : Played) → IsNow g hand now → IsMachine g p → IsLevel p.task.program g now p → HasFuel g hand (fuel_at (Some p))
has-fuel g hand now p is machine level = sym (follows-abreast p.task.program g now p level machine.abreast).fuel ∙ ap (λ (t : Task). t.fuel) is.task

-- a task whose stand is known
pub record Standing (g : Setting) (task : TaskParts) (at : Stand) : Type 0 where
  pub now : Living
  pub is : IsNow g task.hand.task now
  pub player : Played
  pub plays : task.player ≡ Some player
  pub machine : IsMachine g player
  pub level : IsLevel player.task.program g now player
  pub stands : IsAt now player at

stood : (g : Setting) (now : Living) (o : Option Played) (at : Stand) → IsHeld g now o → IsStood g now o (Some at) → (p : Played) × (o ≡ Some p) × IsMachine g p × IsLevel p.task.program g now p × IsAt now p at
stood g now None at held is = absurd is
stood g now (Some p) at held is = (p, refl, held.0, is.0, is.1)

pub standing : (g : Setting) (task : TaskParts) (at : Stand) → task.stand ≡ Some at → IsTask g task → Standing g task at
standing g task at known is =
    let found = stood g is.now task.player at is.held (subst (IsStood g is.now task.player) known is.stood) in
    record { now = is.now; is = is.is; player = found.0; plays = found.1; machine = found.2; level = found.3; stands = found.4 }

pub standing-at : (g : Setting) (task : TaskParts) (at : Stand) → Standing g task at → StandsAt g task.hand.task at
standing-at g task at s = stands-at g task.hand.task s.now s.player at s.is s.machine s.level s.stands

pub standing-fuel : (g : Setting) (task : TaskParts) (at : Stand) (fuel : ℕ) → fuel ≡ fuel_at task.player → Standing g task at → HasFuel g task.hand.task fuel
standing-fuel g task at fuel is s = is ∙ ap fuel_at s.plays ∙ has-fuel g task.hand.task s.now s.player s.is s.machine s.level

-- ---- the same task

-- a hand with the same task
pub same-task : (g : Setting) (task : TaskParts) (hand : LentTask) → hand.task ≡ task.hand.task → IsTask g task → IsTask g (record task { hand = hand })
same-task g task hand same is =
    record { home = is.home; now = is.now; is = subst (λ (x : Hand). IsNow g x is.now) (sym same) is.is; held = is.held; stood = is.stood }

-- where its machine stands is forgotten
pub unstood : (g : Setting) (task : TaskParts) → IsTask g task → IsTask g (record task { stand = None })
unstood g task is = record { home = is.home; now = is.now; is = is.is; held = is.held; stood = tt }

-- ---- it is level

pub level-task : (g : Setting) (task : TaskParts) → task.stand ≡ None → IsLevelTask g task → IsTask g task
level-task g task none l = record {
  home = l.home;
  now = l.now;
  is = l.is;
  held = subst (IsHeld g l.now) (sym l.plays) (l.machine, inl l.level);
  stood = subst (IsStood g l.now task.player) (sym none) tt;
}

-- a machine after something, with which the task is level still
pub still-machine : (g : Setting) (p after : Played) → IsMachine g p → after.task.program ≡ p.task.program → after.ahead ≡ p.ahead → IsMachine g after
still-machine g p after m program ahead = record {
  plays = subst (λ (l : Links). PlaysOn l g) (sym program) m.plays;
  set = subst (λ (l : Links). IsSettingOf l g) (sym program) m.set;
  abreast = ahead ∙ m.abreast;
}

pub own-level : (g : Setting) (t : Living) (p after : Played) → IsLevel p.task.program g t after → IsLevel after.task.program g t after
own-level g t p after level = subst (λ (l : Links). IsLevel l g t after) (sym level.program) level

-- ---- it catches up

pub can-catch-up : (g : Setting) (hand : Hand) (now : Living) (p : Played) (past : Recorded) → IsNow g hand now → IsHeld g now (Some p) → past ≡ hand.past → CanCatchUp p past
can-catch-up g hand now p past is held same =
    record { links = p.task.program; setting = g; living = now; plays = held.0.plays; played = held.1; ready = is.ready; same = is.past ∙ sym same }

-- it has caught up
pub caught : (g : Setting) (task : TaskParts) (p after : Played) (past : Recorded) → past ≡ task.hand.task.past → IsTask g (record task { player = Some p })
    → ((links : Links) (g : Setting) (t : Living) → PlaysOn links g → IsPlayedBy links g t p → t.waits ≡ false → recorded_in t ≡ past → IsLevel links g t after) → after.ahead ≡ p.ahead
    → IsLevelTask g (record task { player = Some after })
caught g task p after past same is levels ahead =
    let level = levels p.task.program g is.now is.held.0.plays is.held.1 is.is.ready (is.is.past ∙ sym same) in
    record {
      home = is.home;
      now = is.now;
      is = is.is;
      player = after;
      plays = refl;
      machine = still-machine g p after is.held.0 level.program ahead;
      level = own-level g is.now p after level;
    }

-- a task of which this is the machine
pub with-player : (g : Setting) (task : TaskParts) (o : Option Played) → task.player ≡ o → IsTask g task → IsTask g (record task { player = o })
with-player g task o same is = subst (λ (x : Option Played). IsTask g (record task { player = x })) same is

pub with-stand : (g : Setting) (task : TaskParts) (o : Option Stand) → task.stand ≡ o → IsTask g task → IsTask g (record task { stand = o })
with-stand g task o same is = subst (λ (x : Option Stand). IsTask g (record task { stand = x })) same is

pub level-with : (g : Setting) (task : TaskParts) (o : Option Played) → task.player ≡ o → IsLevelTask g task → IsLevelTask g (record task { player = o })
level-with g task o same is = subst (λ (x : Option Played). IsLevelTask g (record task { player = x })) same is

-- ---- it begins

-- a task without a machine
pub record Beginning (g : Setting) (task : TaskParts) : Type 0 where
  pub home : IsHome g task.home
  pub now : Living
  pub is : IsNow g task.hand.task now
  pub fresh : IsUntouched task.home.program.now g now

pub beginning : (g : Setting) (task : TaskParts) → task.player ≡ None → IsTask g task → Beginning g task
beginning g task none is =
    record { home = is.home; now = is.now; is = is.is; fresh = (subst (IsHeld g is.now) none is.held) task.home.program.now is.home.set }

pub may-begin : (g : Setting) (task : TaskParts) (past : Recorded) (limits : Limits) → past ≡ task.hand.task.past → Beginning g task
    → IsOk (begun task.home.program.now task.home.id (record { 0 = past.began.method }) past.began.arguments limits)
may-begin g task past limits same b =
    let links = task.home.program.now in
    subst (λ (own : Uuid). IsOk (begun links own (record { 0 = past.began.method }) past.began.arguments limits)) (sym b.home.own)
    (subst (λ (r : Recorded). IsOk (begun links g.id (record { 0 = r.began.method }) r.began.arguments limits)) (b.is.past ∙ sym same) (b.fresh.begins limits))

pub begun-level : (g : Setting) (task : TaskParts) (past : Recorded) (p : Played) (limits : Limits) (fuel : ℕ) → past ≡ task.hand.task.past → Beginning g task → fuel ≡ past.began.fuel
    → limits ≡ record task.home.limits { fuel = fuel } → begun task.home.program.now task.home.id (record { 0 = past.began.method }) past.began.arguments limits ≡ Ok p.task → p.task.program ≡ task.home.program.now
    → IsNeverStuck task.home.program.now p.task.state → p.taken ≡ 0 → p.ahead ≡ false → IsLevelTask g (record task { player = Some p })
begun-level g task past p limits fuel same b counted limited begins program safe none abreast =
    let links = task.home.program.now in
    let level : IsLevel links g b.now p =
    begins-level links g b.now p task.home.id past limits task.home.limits fuel b.home.plays b.home.own b.home.limits b.fresh (b.is.past ∙ sym same) counted limited begins program safe none abreast in
    record {
      home = b.home;
      now = b.now;
      is = b.is;
      player = p;
      plays = refl;
      machine = record { plays = subst (λ (l : Links). PlaysOn l g) (sym program) b.home.plays; set = subst (λ (l : Links). IsSettingOf l g) (sym program) b.home.set; abreast = abreast };
      level = subst (λ (l : Links). IsLevel l g b.now p) (sym program) level;
    }

-- ---- it makes instructions

-- a hand that counts them
pub ran-now : (g : Setting) (hand after : Hand) (now : Living) (k : ℕ) → after ≡ record hand { made = hand.made + k } → IsNow g hand now → IsNow g after (after_steps k now)
ran-now g hand after now k ran is =
    let r = replayed g hand.past.began (turned hand.past.given) in
    let counted : now.steps ≡ hand.steps + hand.made = is.counted in
    subst (λ (x : Hand). IsNow g x (after_steps k now)) (sym ran) (record {
      ready = is.ready;
      past = is.past;
      counted = omega (arith, counted);
      task = ap (steps k) is.task ∙ steps-more hand.made k (steps hand.steps r);
    })

pub ran-fits : (g : Setting) (hand : Hand) (now : Living) (p : Played) (k fuel : ℕ) → IsNow g hand now → IsLevel p.task.program g now p → k ≤ now.task.fuel → fuel ≡ hand.past.began.fuel → fuel < 2 ^ 64
    → hand.steps + hand.made + k < 2 ^ 64
ran-fits g hand now p k fuel is level within began short =
    let counted : now.steps ≡ hand.steps + hand.made = is.counted in
    let bound : now.steps + now.task.fuel ≤ now.began.fuel = level.within in
    let same : now.began.fuel ≡ hand.past.began.fuel = ap (λ (r : Recorded). r.began.fuel) is.past in
    omega (arith, counted, bound, same, within, began, short)

stood-as : (g : Setting) (t : Living) (p : Played) (o : Option Stand) → IsLevel p.task.program g t p → IfSome o (StandsIn p) → IsStood g t (Some p) o
stood-as g t p None level known = tt
stood-as g t p (Some at) level known = (level, known p.task.program g t level)

-- a task that is level with this machine
pub record LevelBy (g : Setting) (task : TaskParts) (p : Played) : Type 0 where
  pub home : IsHome g task.home
  pub now : Living
  pub is : IsNow g task.hand.task now
  pub machine : IsMachine g p
  pub level : IsLevel p.task.program g now p

pub level-by : (g : Setting) (task : TaskParts) (p : Played) → IsLevelTask g (record task { player = Some p }) → LevelBy g task p
level-by g task p l =
    let same : l.player ≡ p = only l.player p (sym l.plays) in
    record {
      home = l.home;
      now = l.now;
      is = l.is;
      machine = subst (IsMachine g) same l.machine;
      level = subst (λ (q : Played). IsLevel q.task.program g l.now q) same l.level;
    }

-- It has made them.
pub ran-task : (g : Setting) (task : TaskParts) (p : Played) (hand : LentTask) (after : Played) (at : Option Stand) (k : ℕ) → (l : LevelBy g task p) → hand.task ≡ record task.hand.task { made = task.hand.task.made + k }
    → IsLevel p.task.program g (after_steps k l.now) after → after.ahead ≡ p.ahead → (after.ahead ≡ false → IfSome at (StandsIn after)) → IsTask g (record task { hand = hand; player = Some after; stand = at })
ran-task g task p hand after at k l ran level ahead known =
    let own = own-level g (after_steps k l.now) p after level in
    let machine = still-machine g p after l.machine level.program ahead in
    record {
      home = l.home;
      now = after_steps k l.now;
      is = ran-now g task.hand.task hand.task l.now k ran l.is;
      held = (machine, inl own);
      stood = stood-as g (after_steps k l.now) after at own (known machine.abreast);
    }
