-- In worlds too a space's own references name standing objects (Java RMI specification, 3.3: an object that is referenced stays).
use Rattle.std.specs.Prelude.{List}
use Rattle.sp_rules.specs.Classes.{Setting}
use Rattle.sp_rules.specs.Laws.{AllOf}
use Rattle.sp_rules.specs.Origins.{OwnStand}
use Rattle.sp_rules.specs.Worlds.{Space, WorldEvent, run, new_world}

-- The own references of a space of a world name standing objects of their class.
abbrev pub HasOwnStanding : Space → Type 0
HasOwnStanding s = OwnStand s.setting s.state

-- This holds of each space in every run of every world, whatever is lost or fails.
abbrev pub OwnReferencesStandInWorlds : Type 0
OwnReferencesStandInWorlds = (settings : List Setting) (events : List WorldEvent) → AllOf HasOwnStanding (run (new_world settings) events).spaces
