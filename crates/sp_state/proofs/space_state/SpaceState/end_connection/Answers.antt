use Rattle.std.proofs.Common.{refl}
use Rattle.std.proofs.lemmas.Result.{on_ok_weaker}
use Rattle.sp_rules.specs.Endings.{by_unmarshal, end_connection}
use Rattle.sp_owner.specs.Owners.{owner_parts}
use Rattle.sp_state.proofs.QuietLemmas.{parts-quiet, end_connection_keeps}
use Rattle.sp_state.proofs.SpaceLemmas.{quiet}
use Rattle.sp_state.proofs.space_state.SpaceState.end_connection.Goals as goal

pub returns-clause-ended : goal.returns-clause-ended
returns-clause-ended w c = on_ok_weaker c.end_connection.result (λ now. λ g s is silent tells.
    quiet g s (end_connection g (by_unmarshal g) c.args.conn s) c.args.self.now c.end_connection.new.living (end_connection_keeps (parts-quiet g (owner_parts s)) {s = s} (by_unmarshal g) c.args.conn refl) (now g s is.living silent tells) is) c.end_connection.ensures.ended
