use Rattle.std.proofs.Common.{codes, rules}
use Rattle.std.proofs.lemmas.Result.{IfOk-weaker}
use Rattle.clap.specs.Simple.{new_shape}
use Rattle.sp_words.specs.Requests.{IsCommand}
use Rattle.sp_words.proofs.Parser.{one_rule_more}
use Rattle.sp_words.proofs.words.run_command.Goals as goal

pub returns : goal.returns
returns c =
    let bare : IsCommand (new_shape (codes "run")) c.after_help.result = search rules in
    let one = one_rule_more _ c.in_ok-arg.field-0 _ _ _ c.in_ok-arg.ensures c.folder_word.ensures bare in
    let two = one_rule_more _ c.in_ok-arg-2.field-0 _ _ _ c.in_ok-arg-2.ensures c.wanted.ensures one in
    let three = one_rule_more _ c.in_ok-arg-3.field-0 _ _ _ c.in_ok-arg-3.ensures c.wanted-2.ensures two in
    let four = one_rule_more _ c.in_ok-arg-4.field-0 _ _ _ c.in_ok-arg-4.ensures c.arguments.ensures three in
    IfOk-weaker c.arg-5.result _ _ (λ command adds. one_rule_more _ command _ _ _ adds c.fuel.ensures four) c.arg-5.ensures
