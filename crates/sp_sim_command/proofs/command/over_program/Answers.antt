use Rattle.sp_sim_command.proofs.command.over_program.Goals as goal

-- the files make the program
pub class_digest-requires : goal.class_digest-requires
class_digest-requires g c = (c.args.program.now, (c.requires).made)
