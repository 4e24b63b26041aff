use Rattle.std.proofs.Common.{◌≡◌}
use Rattle.std.proofs.lemmas.Result.{IfOk-at_ok, IfOk-weaker}
use Rattle.clap.specs.Simple.{app_of}
use Rattle.sp_words.specs.Requests.{IsCommand}
use Rattle.sp_words.proofs.Parser.{one_command_more}
use Rattle.sp_words.proofs.words.add.Goals as goal

pub returns : goal.returns
returns c = λ app shape old added.
    let is_old = IfOk-at_ok (λ command. app_of command ≡ app) c.in_ok-command.was old in
    let is_added = IfOk-at_ok (IsCommand shape) c.in_ok-added.was added in
    IfOk-weaker c.subcommand.result _ _ (λ command adds. one_command_more c.in_ok-command.field-0 command c.in_ok-added.field-0 app shape adds is_added is_old) c.subcommand.ensures
