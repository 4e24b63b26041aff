use Rattle.sp_lending.specs.Spaces.{setting_of}
use Rattle.sp_serve_command.proofs.command.over_classes.Given as goal

-- the setting is that of the program, the digest, the id, the limits and the version
abbrev pub ghosts-over_setting : goal.ghosts-over_setting
ghosts-over_setting g a = record { setting = setting_of a.program.now a.id a.digest a.limits a.version }
