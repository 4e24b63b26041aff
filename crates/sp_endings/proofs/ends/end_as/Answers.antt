use Rattle.std.proofs.Common.{◌==◌, sym, subst, ◌∙◌}
use Rattle.std.specs.Prelude.{filter}
use Rattle.std.proofs.lemmas.Result.{on_ok_weaker}
use Rattle.sp_rules.specs.Endings.{is_of_connection, unpark, unsent_calls, without_connection}
use Rattle.sp_rules.specs.Lists.{each}
use Rattle.sp_rules.specs.ParkedFrames.{remove_requests}
use Rattle.sp_rules.specs.State.{State, ParkedFrame, connection_at}
use Rattle.sp_living.specs.Livings.{IsLiving}
use Rattle.sp_living.proofs.TableLemmas.{none-left}
use Rattle.sp_living.proofs.ToldLemmas.{dialled-as}
use Rattle.sp_endings.proofs.EndLemmas.{connection-ends, connection-stays}
use Rattle.sp_endings.proofs.ToldLemmas.{not-there, shown-there}
use Rattle.sp_tasks.proofs.LentLemmas.{lent-next, lent-none, lent-then}
use Rattle.sp_endings.proofs.ends.end_as.Goals as goal

-- a connection that is not open
pub returns-in_default-clause-ended : goal.returns-in_default-clause-ended
returns-in_default-clause-ended w c = λ g s why a quiet tells thrown.
    let conn = c.args.conn in
    let none = not-there (connection_at s conn) (sym (none-left c.connection.result c.in_default.not-Some) ∙ c.connection.ensures s (c.transport.ensures g s a)) in
    subst (λ (u : State). IsLiving g u c.args.living.now) (sym (connection-stays g why conn s none)) a

pub returns-clause-ended : goal.returns-clause-ended
returns-clause-ended w c = on_ok_weaker c.end_all.result (λ done. λ g s why a quiet tells thrown.
    let conn = c.args.conn in
    let here = shown-there c.in-Some.connection (connection_at s conn) (sym c.in-Some.is ∙ c.connection.ensures s (c.transport.ensures g s a)) in
    let same = dialled-as c.in-Some.connection here.0 (sym c.in-Some.is ∙ c.connection.ensures s (c.transport.ensures g s a)) here.1 in
    let line = here.0 in
    let left : State = remove_requests (is_of_connection conn line.dialled) (without_connection conn s) in
    let dropped = c.in_ok-unpark.ensures.dropped g left (c.in_ok-ended.ensures.left g s line a quiet here.1 same) in
    subst (λ (u : State). IsLiving g u c.end_all.new.living) (sym (connection-ends g why conn line s here.1))
    (done g (each unpark (filter (λ (p : ParkedFrame). p.conn == conn) s.parked) left) why (unsent_calls s conn c.args.unsent) (filter (is_of_connection conn line.dialled) s.requests) dropped tells
    (c.in_ok-ended.ensures.ended g s line a quiet here.1 same) thrown)) c.end_all.ensures.ended

pub returns-in_default-clause-lent : goal.returns-in_default-clause-lent
returns-in_default-clause-lent w c = lent-none c.args.living.now.tasks

pub returns-clause-lent : goal.returns-clause-lent
returns-clause-lent w c = on_ok_weaker c.end_all.result (λ done. lent-then (lent-next c.take_connection.ensures.tasks c.in_ok-unpark.ensures.lent) done) c.end_all.ensures.lent
