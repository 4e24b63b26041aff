use Rattle.std.proofs.Common.{refl}
use Rattle.sp_results.specs.Held.{numbers_on, valued}
use Rattle.sp_results.proofs.HeldLemmas.{hold}
use Rattle.sp_results.proofs.call_results.CallResults.hold_reserved.Goals as goal

pub returns : goal.returns
returns c = λ moment results a none.
    hold moment c.args.conn c.args.number c.args.value results c.args.self.now _ refl refl (λ rows are below. c.push_reserved.ensures.pushed (valued rows) are below)
    (λ rows are absent. c.add_reserved.ensures.added (numbers_on rows) are absent) a none
