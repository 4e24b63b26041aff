use Rattle.sp_lending.specs.Spaces.{setting_of}
use Rattle.book_rows.proofs.play_one.Given as goal

-- the setting is that of the program, the digest, the id and the limits
abbrev pub ghosts-play_over : goal.ghosts-play_over
ghosts-play_over g a = record { setting = setting_of a.program.now a.id a.digest a.limits 1 }
