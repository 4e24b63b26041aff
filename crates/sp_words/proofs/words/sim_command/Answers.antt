use Rattle.std.proofs.Common.{codes, rules}
use Rattle.std.proofs.lemmas.Result.{IfOk-weaker}
use Rattle.clap.specs.Simple.{new_shape}
use Rattle.sp_words.specs.Requests.{IsCommand}
use Rattle.sp_words.proofs.Parser.{one_rule_more}
use Rattle.sp_words.proofs.words.sim_command.Goals as goal

pub returns : goal.returns
returns c =
    let bare : IsCommand (new_shape (codes "sim")) c.after_help.result = search rules in
    let folder = one_rule_more _ c.in_ok-arg.field-0 _ _ _ c.in_ok-arg.ensures c.folder_word.ensures bare in
    IfOk-weaker c.arg-2.result _ _ (λ command adds. one_rule_more _ command _ _ _ adds c.wanted.ensures folder) c.arg-2.ensures
