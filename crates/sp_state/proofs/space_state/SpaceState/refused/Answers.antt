use Rattle.std.proofs.Common.{refl}
use Rattle.std.proofs.lemmas.Result.{on_ok_weaker}
use Rattle.sp_rules.specs.OwnEvents.{on_refused}
use Rattle.sp_owner.specs.Owners.{owner_parts}
use Rattle.sp_state.proofs.QuietLemmas.{parts-quiet, refused_keeps}
use Rattle.sp_state.proofs.SpaceLemmas.{quiet}
use Rattle.sp_state.proofs.space_state.SpaceState.refused.Goals as goal

pub returns-clause-refused : goal.returns-clause-refused
returns-clause-refused w c = on_ok_weaker c.refuse.result (λ now. λ g s is silent tells asked.
    quiet g s (on_refused g c.args.peer.now s) c.args.self.now c.refuse.new.living (refused_keeps (parts-quiet g (owner_parts s)) {s = s} c.args.peer.now refl) (now g s is.living silent tells asked) is) c.refuse.ensures.refused
