use Rattle.std.proofs.Common.{◌≡◌, [], rules, true}
use Rattle.clap.specs.Simple.{App, app_of}
use Rattle.sp_words.specs.CommandLine.{program_shape}
use Rattle.sp_words.proofs.words.whole_command.Goals as goal

abbrev bare : App
bare = record { top = record program_shape { is_leaf = true }; subs = [] }

pub returns : goal.returns
returns c =
    let start : app_of c.disable_help_subcommand-command.result ≡ bare = search rules in
    let run = c.add-with_run.ensures _ _ start c.run_command.ensures in
    let check = c.add-with_check.ensures _ _ run c.check_command.ensures in
    c.add.ensures _ _ check c.sim_command.ensures
