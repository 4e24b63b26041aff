use Rattle.std.proofs.Common.{codes, rules}
use Rattle.std.proofs.lemmas.Result.{IfOk-weaker}
use Rattle.clap.specs.Simple.{new_shape}
use Rattle.sp_words.specs.Requests.{IsCommand}
use Rattle.sp_words.proofs.Parser.{one_rule_more}
use Rattle.sp_words.proofs.words.check_command.Goals as goal

pub returns : goal.returns
returns c =
    let bare : IsCommand (new_shape (codes "check")) c.after_help.result = search rules in
    IfOk-weaker c.arg.result _ _ (λ command adds. one_rule_more _ command _ _ _ adds c.folder_word.ensures bare) c.arg.ensures
