use Rattle.std.proofs.Common.{codes}
use Rattle.clap.specs.Matches.{found_of}
use Rattle.clap.specs.Walk.{rows_of}
use Rattle.sp_words.proofs.Asked.{refusing_sim}
use Rattle.sp_words.proofs.Said.{none_some, said, unsaid}
use Rattle.sp_words.proofs.words.asked_sim.Goals as goal
use Rattle.sp_words.proofs.words.asked_sim.Goals.{in_default-via-in-Some+in_default, in_default-via-in_default}

pub returns-in-Some-Some : goal.returns-in-Some-Some
returns-in-Some-Some c = record {
  folder = said (found_of c.args.found.now) (codes "folder") c.get_str.result c.in-Some-Some.folder c.get_str.ensures c.in-Some-Some.is-0;
  script = said (found_of c.args.found.now) (codes "script") c.get_str-2.result c.in-Some-Some.script c.get_str-2.ensures c.in-Some-Some.is-1;
}

pub returns-in_default : goal.returns-in_default
returns-in_default c =
    refusing_sim (rows_of (found_of c.args.found.now)) c.refuse.result c.refuse.ensures (λ sim are. elim c.in_default.branch [
      | in_default-via-in-Some+in_default w ↦ none_some _ _ (unsaid (found_of c.args.found.now) (codes "script") c.get_str-2.result c.get_str-2.ensures w.in_default.is-1) are.script
      | in_default-via-in_default w ↦ none_some _ _ (unsaid (found_of c.args.found.now) (codes "folder") c.get_str.result c.get_str.ensures w.in_default.is-0) are.folder
    ])
