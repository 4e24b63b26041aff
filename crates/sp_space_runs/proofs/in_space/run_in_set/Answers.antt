use Rattle.sp_runs.proofs.Sets.{set-of}
use Rattle.sp_space_runs.proofs.Rooting.{new-stands}
use Rattle.sp_space_runs.proofs.in_space.run_in_set.Goals as goal

pub new-requires : goal.new-requires
new-requires c = record { classes = c.requires.classes; rules = (set-of c.requires.program.0 c.args.program.now c.requires.program.1).rules }

pub run_new-requires : goal.run_new-requires
run_new-requires c = record {
  program = c.requires.program;
  space = new-stands c.args.program.now c.args.method c.args.arguments.now c.args.limits c.in-Ok.space c.nil.result c.nil.ensures c.in-Ok.ensures;
}
