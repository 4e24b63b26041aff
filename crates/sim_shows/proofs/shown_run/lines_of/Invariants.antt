use Rattle.std.proofs.Common.{take}
use Rattle.sp_rules.specs.Classes.{Setting}
use Rattle.sp_rules.specs.State.{State}
use Rattle.sim_shows.specs.Lines.{AreLines, sights}
use Rattle.sim_shows.proofs.shown_run.lines_of.Given as goal

-- the lines of the objects so far
abbrev pub invariant-loop-index : goal.invariant-loop-index
invariant-loop-index g l = (w : Setting) (s : State) → g.S.WorldSpace.is_space w s l.space → AreLines (g.S.Named.is_named l.space) l.name (take l.index (sights s)) l.lines.items
