-- A task in hand of a lending space, with its machine. (This project's own.)
use Rattle.std.specs.Prelude.{◌≡◌, ◌+◌, false, Option, Some, None}
use Rattle.cls_link.specs.Links.{Links}
use Rattle.sp_behaviours.specs.Follows.{PlaysOn}
use Rattle.sp_living.specs.Hands.{task_of}
use Rattle.sp_living.specs.Views.{recorded_in}
use Rattle.sp_machines.specs.Limits.{AreLimits}
use Rattle.sp_machines.specs.Players.{IsLevel, IsPlayedBy, Played, WaitsFor}
use Rattle.sp_behaviours.specs.Calls.{IsSettingOf}
use Rattle.sp_rules.specs.Classes.{Setting}
use Rattle.sp_rules.specs.State.{Living}
use Rattle.sp_rules.specs.Tasks as tasks
use Rattle.sp_tasks.specs.Behaviours.{outcome_of}
use Rattle.sp_tasks.specs.Rows.{Hand}
use Rattle.sp_tasks.specs.declared.behaviour.Stand.{Stand}
use Rattle.sp_tasks.specs.declared.behaviour.Stand.TheVariants as point
use Rattle.sp_lending.specs.Rows.{IsFresh, IsMachine}
use Rattle.sp_lending.specs.declared.home.Home.{Home}
use Rattle.sp_lending.specs.declared.task_parts.TaskParts.{TaskParts}

-- Machines that are made there are of this setting.
pub record IsHome (g : Setting) (home : Home) : Type 0 where
  pub plays : PlaysOn home.program.now g
  pub set : IsSettingOf home.program.now g
  pub own : home.id ≡ g.id
  pub limits : AreLimits g home.limits

-- ---- the task

-- What a task in hand is now: what its record and its own instructions since leave.
pub record IsNow (g : Setting) (hand : Hand) (t : Living) : Type 0 where
  pub ready : t.waits ≡ false
  pub past : recorded_in t ≡ hand.past
  pub counted : t.steps ≡ hand.steps + hand.made
  pub task : t.task ≡ task_of g hand

-- Its machine plays it, if it has one.
abbrev pub IsHeld : Setting → Living → Option Played → Type 0
IsHeld g t None = IsFresh g (Some t)
IsHeld g t (Some p) = IsMachine g p × IsPlayedBy p.task.program g t p

-- ---- where its machine stands

-- A machine of a task with which it is level stands so: it waits for the reply to an operation, or the task has ended.
abbrev pub IsAt : Living → Played → Stand → Type 0
IsAt t p point.Runs = ⊥
IsAt t p (point.AsksFor op) = WaitsFor p op
IsAt t p (point.HasEnded outcome) = tasks.stand t.task ≡ tasks.HasEnded (outcome_of outcome)

-- So it is of each task with which the machine is level.
abbrev pub StandsIn : Played → Stand → Type 0
StandsIn p at = (links : Links) (g : Setting) (t : Living) → IsLevel links g t p → IsAt t p at

abbrev pub IsStood : Setting → Living → Option Played → Option Stand → Type 0
IsStood g t o None = Unit {0}
IsStood g t None (Some at) = ⊥
IsStood g t (Some p) (Some at) = IsLevel p.task.program g t p × IsAt t p at

-- ---- tasks in hand

-- A task in hand is one of a space of this setting, and its machine stands where its record and its instructions since bring it.
pub record IsTask (g : Setting) (task : TaskParts) : Type 0 where
  pub home : IsHome g task.home
  pub now : Living
  pub is : IsNow g task.hand.task now
  pub held : IsHeld g now task.player
  pub stood : IsStood g now task.player task.stand

-- Its machine has taken each reply, and its stand is not known yet.
pub record IsLevelTask (g : Setting) (task : TaskParts) : Type 0 where
  pub home : IsHome g task.home
  pub now : Living
  pub is : IsNow g task.hand.task now
  pub player : Played
  pub plays : task.player ≡ Some player
  pub machine : IsMachine g player
  pub level : IsLevel player.task.program g now player

-- This is so of a setting.
pub record Somewhere (holds : Setting → Type 0) : Type 0 where
  pub setting : Setting
  pub is : holds setting
