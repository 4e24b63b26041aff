use Rattle.std.proofs.Common.{refl, false}
use Rattle.std.proofs.lemmas.Result.{on_ok_weaker}
use Rattle.dgc_client.specs.History.Event.{CleanAnswered}
use Rattle.sp_rules.specs.Frames.{told_by}
use Rattle.sp_owner.specs.Owners.{owner_parts}
use Rattle.sp_state.proofs.QuietLemmas.{parts-quiet, told_by_keeps}
use Rattle.sp_state.proofs.SpaceLemmas.{quiet}
use Rattle.sp_state.proofs.space_state.SpaceState.receive_cleaned.Goals as goal

pub returns-clause-got : goal.returns-clause-got
returns-clause-got w c = on_ok_weaker c.cleaned.result (λ now. λ g s row peer is silent tells on dialled.
    quiet g s (told_by g row false c.args.sequence CleanAnswered s) c.args.self.now c.cleaned.new.living
    (told_by_keeps (parts-quiet g (owner_parts s)) {s = s} row false c.args.sequence CleanAnswered refl)
    (now g s row peer is.living silent tells (c.store-store.ensures g s is.owner) on.there dialled) is) c.cleaned.ensures.told
