-- What plays a task, plays each other that differs in its id and its origin alone.
use Rattle.std.proofs.Common.{inl, inr, ℕ, Option, None, Some}
use Rattle.std.specs.Prelude.{option_map}
use Rattle.cls_link.specs.Links.{Links}
use Rattle.sp_machines.specs.Players.{IsBehind, IsLevel, IsPlayedBy, IsUntouched, IsWaiting, Played}
use Rattle.sp_rules.specs.Classes.{Setting}
use Rattle.sp_rules.specs.State.{Living, Origin}
use Rattle.sp_lending.specs.Hands.{IsHeld}
use Rattle.sp_lending.specs.Rows.{IsRow}

abbrev pub as_task : ℕ → Origin → Living → Living
as_task id origin t = record t { id = id; origin = origin }

pub level-as : (links : Links) (g : Setting) (t : Living) (p : Played) (id : ℕ) (origin : Origin) → IsLevel links g t p → IsLevel links g (as_task id origin t) p
level-as links g t p id origin l = record { program = l.program; ready = l.ready; taken = l.taken; within = l.within; follows = l.follows; own = l.own; last = l.last }

waiting-as : (links : Links) (g : Setting) (t : Living) (p : Played) (id : ℕ) (origin : Origin) → IsWaiting links g t p → IsWaiting links g (as_task id origin t) p
waiting-as links g t p id origin w = record { waits = w.waits; taken = w.taken; asks = w.asks; at = w.at; within = w.within }

behind-as : (links : Links) (g : Setting) (t : Living) (p : Played) (id : ℕ) (origin : Origin) → IsBehind links g t p → IsBehind links g (as_task id origin t) p
behind-as links g t p id origin b = record {
  ready = b.ready;
  last = b.last;
  earlier = b.earlier;
  given = b.given;
  taken = b.taken;
  steps = b.steps;
  waited = b.waited;
  asks = b.asks;
  within = b.within;
  answered = b.answered;
  takes = b.takes;
}

untouched-as : (links : Links) (g : Setting) (t : Living) (id : ℕ) (origin : Origin) → IsUntouched links g t → IsUntouched links g (as_task id origin t)
untouched-as links g t id origin u = record { ready = u.ready; given = u.given; steps = u.steps; stands = u.stands; begins = u.begins }

played-as : (links : Links) (g : Setting) (t : Living) (p : Played) (id : ℕ) (origin : Origin) → IsPlayedBy links g t p → IsPlayedBy links g (as_task id origin t) p
played-as links g t p id origin (inl level) = inl (level-as links g t p id origin level)
played-as links g t p id origin (inr (inl waiting)) = inr (inl (waiting-as links g t p id origin waiting))
played-as links g t p id origin (inr (inr behind)) = inr (inr (behind-as links g t p id origin behind))

-- so the machine of a task in hand, if it has one, may be in the row of the living one
pub held-row : (g : Setting) (t : Living) (o : Option Played) (id : ℕ) (origin : Origin) → IsHeld g t o → IsRow g (Some (as_task id origin t)) (option_map (λ (p : Played). Some p) o)
held-row g t None id origin fresh = λ links set. untouched-as links g t id origin (fresh links set)
held-row g t (Some p) id origin held = (held.0, played-as p.task.program g t p id origin held.1)
