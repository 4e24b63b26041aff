use Rattle.std.proofs.Common.{refl, true}
use Rattle.std.proofs.lemmas.Result.{on_ok_weaker}
use Rattle.dgc_client.specs.History.Event.{DirtyAnswered}
use Rattle.sp_rules.specs.Frames.{told_by}
use Rattle.sp_owner.specs.Owners.{owner_parts}
use Rattle.sp_state.proofs.QuietLemmas.{parts-quiet, told_by_keeps}
use Rattle.sp_state.proofs.SpaceLemmas.{quiet}
use Rattle.sp_state.proofs.space_state.SpaceState.receive_lease.Goals as goal

pub returns-clause-got : goal.returns-clause-got
returns-clause-got w c = on_ok_weaker c.lease.result (λ now. λ g s row peer is silent tells on dialled.
    quiet g s (told_by g row true c.args.sequence (λ call. DirtyAnswered call c.args.period) s) c.args.self.now c.lease.new.living
    (told_by_keeps (parts-quiet g (owner_parts s)) {s = s} row true c.args.sequence (λ call. DirtyAnswered call c.args.period) refl)
    (now g s row peer is.living silent tells (c.store-store.ensures g s is.owner) on.there dialled) is) c.lease.ensures.told
