use Rattle.std.specs.Prelude.{All}
use Rattle.sp_promises.specs.WorldRuns.{IsNew}
use Rattle.sim_worlds.proofs.script.make_spaces.Given as goal

-- nothing has happened to the spaces so far
abbrev pub invariant-loop-number : goal.invariant-loop-number
invariant-loop-number g l = All (IsNew g.S.WorldSpace.is_space) l.spaces.items
