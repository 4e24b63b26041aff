use Rattle.sp_behaviours.proofs.CrossingLemmas.{remote_rules_are_kept}
use Rattle.book_rows.proofs.play_folder.Goals as goal

-- a program that files make keeps the rules on its remote classes
pub play_program-requires-clause-rules : goal.play_program-requires-clause-rules
play_program-requires-clause-rules g c κs within = let p = (c.in-Ok-program_of.ensures).program in remote_rules_are_kept p.classes _ p.set p.linked.set p.makes_a_set
