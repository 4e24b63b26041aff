use Rattle.std.proofs.Common.{Some, ap, ◌∙◌}
use Rattle.sim_spaces.proofs.program_space.ProgramSpaceNamed.object.Goals as goal

pub returns-in-Some : goal.returns-in-Some
returns-in-Some c = λ g s is. ap Some c.shown_as.ensures ∙ c.in-Some.ensures g s is
