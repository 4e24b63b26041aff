use Rattle.std.proofs.Common.{refl}
use Rattle.sp_rules.specs.Frames.{release}
use Rattle.sp_rules.specs.OwnEvents.{is_of_root}
use Rattle.sp_owner.specs.Owners.{owner_parts}
use Rattle.sp_state.proofs.QuietLemmas.{parts-quiet, release_keeps}
use Rattle.sp_state.proofs.SpaceLemmas.{quiet}
use Rattle.sp_state.proofs.space_state.SpaceState.root_ack.Goals as goal

pub returns-clause-released : goal.returns-clause-released
returns-clause-released c = λ g s is.
    quiet g s (release g (is_of_root c.args.task) s) c.args.self.now c.release_root.new.self (release_keeps (parts-quiet g (owner_parts s)) {s = s} (is_of_root c.args.task) refl) (c.release_root.ensures.released g s is.living) is
