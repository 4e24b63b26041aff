use Rattle.std.proofs.Common.{codes, refl}
use Rattle.clap.specs.Matches.{found_of}
use Rattle.clap.specs.Walk.{all_of, rows_of}
use Rattle.sp_words.proofs.Asked.{no_arguments, of_err, of_ok, refusing, some_arguments}
use Rattle.sp_words.proofs.Said.{all_said, none_some, said, unsaid}
use Rattle.sp_words.proofs.words.asked_run.Goals as goal
use Rattle.sp_words.proofs.words.asked_run.Goals.{in_default-via-in-Some+in-Some+in_default, in_default-via-in-Some+in_default, in_default-via-in_default}

pub returns-in_default : goal.returns-in_default
returns-in_default c =
    refusing (rows_of (found_of c.args.found.now)) c.refuse.result c.refuse.ensures (λ run are. elim c.in_default.branch [
      | in_default-via-in-Some+in-Some+in_default w ↦ none_some _ _ (unsaid (found_of c.args.found.now) (codes "method") c.get_str-3.result c.get_str-3.ensures w.in_default.is-2) are.method
      | in_default-via-in-Some+in_default w ↦ none_some _ _ (unsaid (found_of c.args.found.now) (codes "class") c.get_str-2.result c.get_str-2.ensures w.in_default.is-1) are.class
      | in_default-via-in_default w ↦ none_some _ _ (unsaid (found_of c.args.found.now) (codes "folder") c.get_str.result c.get_str.ensures w.in_default.is-0) are.folder
    ])

pub returns-in-Ok : goal.returns-in-Ok
returns-in-Ok c = record {
  folder = said (found_of c.args.found.now) (codes "folder") c.get_str.result c.in-Some-Some-Some.folder c.get_str.ensures c.in-Some-Some-Some.is-0;
  class = said (found_of c.args.found.now) (codes "class") c.get_str-2.result c.in-Some-Some-Some.class c.get_str-2.ensures c.in-Some-Some-Some.is-1;
  method = said (found_of c.args.found.now) (codes "method") c.get_str-3.result c.in-Some-Some-Some.method c.get_str-3.ensures c.in-Some-Some-Some.is-2;
  arguments = some_arguments _ (all_of (codes "arguments") (rows_of (found_of c.args.found.now))) c.in-Ok.arguments.items
      (all_said (found_of c.args.found.now) (codes "arguments") c.get_strs.result c.unwrap_or.result _ c.get_strs.ensures c.unwrap_or.ensures refl)
      (of_ok _ _ _ c.in-Ok.arguments c.in-Ok.is c.in_ok-arguments.ensures);
  fuel = c.in-Some.ensures;
}

pub returns-in_ok-format-in-Err : goal.returns-in_ok-format-in-Err
returns-in_ok-format-in-Err c = λ run are.
    no_arguments _ (all_of (codes "arguments") (rows_of (found_of c.args.found.now)))
    (all_said (found_of c.args.found.now) (codes "arguments") c.get_strs.result c.unwrap_or.result _ c.get_strs.ensures c.unwrap_or.ensures refl)
    (of_err _ _ _ c.in-Err.word c.in-Err.is c.in_ok-arguments.ensures) run.arguments are.arguments
