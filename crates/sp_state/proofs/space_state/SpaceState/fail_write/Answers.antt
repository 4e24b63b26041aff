use Rattle.std.proofs.Common.{refl}
use Rattle.std.proofs.lemmas.Result.{on_ok_weaker}
use Rattle.sp_rules.specs.Endings.{fail_write}
use Rattle.sp_owner.specs.Owners.{owner_parts}
use Rattle.sp_state.proofs.QuietLemmas.{parts-quiet, fail_write_keeps}
use Rattle.sp_state.proofs.SpaceLemmas.{quiet}
use Rattle.sp_state.proofs.space_state.SpaceState.fail_write.Goals as goal

pub returns-clause-failed : goal.returns-clause-failed
returns-clause-failed w c = on_ok_weaker c.fail_write.result (λ now. λ g s is silent tells.
    quiet g s (fail_write g c.args.conn c.args.unsent s) c.args.self.now c.fail_write.new.living (fail_write_keeps (parts-quiet g (owner_parts s)) {s = s} c.args.conn c.args.unsent refl) (now g s is.living silent tells) is) c.fail_write.ensures.failed
