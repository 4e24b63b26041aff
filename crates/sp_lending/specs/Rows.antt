-- The machines of a lending space, by the ids of their tasks. (This project's own.)
use Rattle.std.specs.Prelude.{◌≡◌, ℕ, false, nat_eq, Option, Some, None}
use Rattle.std.specs.Map.{lookup}
use Rattle.cls_link.specs.Links.{Links}
use Rattle.sp_behaviours.specs.Follows.{PlaysOn}
use Rattle.sp_machines.specs.Players.{IsPlayed, Played}
use Rattle.sp_behaviours.specs.Calls.{IsSettingOf}
use Rattle.sp_rules.specs.Classes.{Setting}
use Rattle.sp_rules.specs.State.{Living}
use Rattle.sp_lending.specs.declared.rows.Rows.{Rows}

-- the row of a task, if it has one: its machine, or that it is out
abbrev pub row_at : ℕ → Rows → Option (Option Played)
row_at id rows = lookup (nat_eq id) rows.rows.entries

-- The setting's classes play on the program of a machine, which is not ahead of its task.
pub record IsMachine (g : Setting) (p : Played) : Type 0 where
  pub plays : PlaysOn p.task.program g
  pub set : IsSettingOf p.task.program g
  pub abreast : p.ahead ≡ false

-- If the task lives, nothing has happened to it since it began, and its machine can be made, over whichever program of the setting.
abbrev pub IsFresh : Setting → Option Living → Type 0
IsFresh g o = (links : Links) → IsSettingOf links g → IsPlayed links g o None

-- What a row says of the task of its id. Of a machine that is out it says nothing.
abbrev pub IsRow : Setting → Option Living → Option (Option Played) → Type 0
IsRow g o None = IsFresh g o
IsRow g o (Some None) = Unit {0}
IsRow g o (Some (Some p)) = IsMachine g p × IsPlayed p.task.program g o (Some p)
