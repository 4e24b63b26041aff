use Rattle.std.proofs.lemmas.Result.{on_ok_weaker}
use Rattle.sp_rules.specs.Frames.{greeted}
use Rattle.sp_rules.specs.Requests.{flush_waiting}
use Rattle.sp_living.proofs.AskedLemmas.{flush-own}
use Rattle.sp_living.proofs.LivingLemmas.{moved}
use Rattle.sp_living.proofs.living.Living.flush_waiting.Goals as goal

pub returns-clause-flushed : goal.returns-clause-flushed
returns-clause-flushed c = on_ok_weaker c.flush_waiting.result (λ flushed. λ g s row a quiet there dialled silent.
    let peer = c.args.peer.now in
    let conn = c.args.conn in
    moved g s (flush_waiting peer conn (greeted peer conn s)) c.args.self.now c.flush_waiting.new.self (flush-own peer conn (greeted peer conn s)) (λ t. flushed s row t quiet there dialled silent) a) c.flush_waiting.ensures
