use Rattle.std.proofs.Common.{codes}
use Rattle.clap.specs.Matches.{found_of}
use Rattle.clap.specs.Walk.{rows_of}
use Rattle.sp_words.proofs.Asked.{refusing_check}
use Rattle.sp_words.proofs.Said.{none_some, said, unsaid}
use Rattle.sp_words.proofs.words.asked_check.Goals as goal

pub returns-in-Some : goal.returns-in-Some
returns-in-Some c = said (found_of c.args.found.now) (codes "folder") c.get_str.result c.in-Some.folder c.get_str.ensures c.in-Some.is

pub returns-in-None : goal.returns-in-None
returns-in-None c =
    refusing_check (rows_of (found_of c.args.found.now)) c.refuse.result c.refuse.ensures
    (λ folder is. none_some _ _ (unsaid (found_of c.args.found.now) (codes "folder") c.get_str.result c.get_str.ensures c.in-None.is) is)
