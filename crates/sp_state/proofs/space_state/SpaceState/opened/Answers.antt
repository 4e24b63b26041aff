use Rattle.std.proofs.Common.{refl}
use Rattle.std.proofs.lemmas.Result.{on_ok_weaker}
use Rattle.sp_rules.specs.OwnEvents.{on_opened}
use Rattle.sp_owner.specs.Owners.{owner_parts}
use Rattle.sp_state.proofs.QuietLemmas.{parts-quiet, opened_keeps}
use Rattle.sp_state.proofs.SpaceLemmas.{quiet}
use Rattle.sp_tasks.proofs.LentLemmas.{lent-same, on-any}
use Rattle.sp_state.proofs.space_state.SpaceState.opened.Goals as goal

pub returns-clause-opened : goal.returns-clause-opened
returns-clause-opened c = on_ok_weaker c.open.result (λ now. λ g s is silent free asked.
    quiet g s (on_opened g c.args.conn c.args.dialled s) c.args.self.now c.open.new.self (opened_keeps (parts-quiet g (owner_parts s)) {s = s} c.args.conn c.args.dialled refl) (now g s is.living silent is.version is.digest free asked) is) c.open.ensures.opened

pub returns-clause-lent : goal.returns-clause-lent
returns-clause-lent c = on-any c.open.result (lent-same c.open.ensures.tasks)
