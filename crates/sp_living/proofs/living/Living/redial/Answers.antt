use Rattle.std.proofs.Common.{map}
use Rattle.std.proofs.lemmas.Result.{on_ok_weaker}
use Rattle.sp_rules.specs.Endings.{note_peer, orphan, without_connection}
use Rattle.sp_rules.specs.Events.{Close}
use Rattle.sp_rules.specs.Requests.{dial}
use Rattle.sp_rules.specs.State.{State, say}
use Rattle.sp_living.proofs.AskedLemmas.{dial-own}
use Rattle.sp_living.proofs.LivingLemmas.{moved}
use Rattle.sp_living.proofs.RedialLemmas.{dials-beside}
use Rattle.sp_living.proofs.living.Living.redial.Goals as goal

pub returns-clause-redialled : goal.returns-clause-redialled
returns-clause-redialled c = on_ok_weaker c.redial.result (λ redialled. λ g s line a quiet there dialled none.
    let conn = c.args.conn in
    let peer = c.args.peer.now in
    let kept : State = record s { results = map (orphan conn s.moment) s.results } in
    let before = c.in_ok-orphan_results.ensures.orphaned g s a in
    let gone : State = say (Close conn) (without_connection conn (note_peer peer s)) in
    moved g kept (dial peer gone) c.orphan_results.new.self c.redial.new.self (dial-own peer gone)
    (λ t. dials-beside peer (say (Close conn) (without_connection conn (note_peer peer kept))) kept.results c.redial.new.self (redialled (note_peer peer kept) line (c.in_ok-note.ensures.noted kept t) quiet there dialled none)) before) c.redial.ensures
