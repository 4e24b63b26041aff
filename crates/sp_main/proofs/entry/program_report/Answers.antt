use Rattle.sp_main.proofs.entry.program_report.Goals as goal

-- the files make the program
pub class_digest-requires : goal.class_digest-requires
class_digest-requires g c = (c.args.program, (c.requires).made)
