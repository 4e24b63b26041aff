use Rattle.std.proofs.Common.{sym, refl, subst}
use Rattle.std.specs.Prelude.{IsTrue}
use Rattle.dgc_list.specs.declared.remembered.Remembered.{Remembered}
use Rattle.dgc_list.specs.Remembered.{is_blank}
use Rattle.dgc_list.proofs.ReleaseLemmas.{after-alike}
use Rattle.dgc_list.proofs.list.RefList.release.Goals as goal

pub returns-clause-same : goal.returns-clause-same
returns-clause-same c = λ h after. after-alike h c.args.self.now _ refl c.release.ensures.alike (λ other there. there) after

pub returns-clause-taken : goal.returns-clause-taken
returns-clause-taken c = λ h after object named blank.
    c.release.ensures.taken object named (subst (λ (r : Remembered). IsTrue (is_blank r)) (sym (after.remembered c.args.client.now object)) blank)
