use Rattle.std.proofs.Common.{refl}
use Rattle.std.proofs.lemmas.Result.{on_ok_weaker}
use Rattle.sp_requests.specs.Thrown.{thrown_class}
use Rattle.sp_rules.specs.Endings.{close}
use Rattle.sp_owner.specs.Owners.{owner_parts}
use Rattle.sp_state.proofs.QuietLemmas.{parts-quiet, close_keeps}
use Rattle.sp_state.proofs.SpaceLemmas.{quiet}
use Rattle.sp_state.proofs.space_state.SpaceState.close.Goals as goal

pub returns-clause-closed : goal.returns-clause-closed
returns-clause-closed w c = on_ok_weaker c.close.result (λ now. λ g s is silent tells.
    quiet g s (close g (thrown_class g.classes c.args.exception) c.args.conn s) c.args.self.now c.close.new.living (close_keeps (parts-quiet g (owner_parts s)) {s = s} (thrown_class g.classes c.args.exception) c.args.conn refl) (now g s is.living silent tells) is) c.close.ensures.closed
