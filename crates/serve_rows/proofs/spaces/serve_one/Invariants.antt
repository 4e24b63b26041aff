use Rattle.sp_lending.specs.Spaces.{setting_of}
use Rattle.serve_rows.proofs.spaces.serve_one.Given as goal

-- the setting is that of the space
abbrev pub ghosts-serve_over : goal.ghosts-serve_over
ghosts-serve_over g a = record { setting = setting_of a.program.now a.id a.digest a.limits 1 }
