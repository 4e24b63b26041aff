use Rattle.std.proofs.Common.{[], false, sym, subst}
use Rattle.net_engine.specs.Engine.{Receiver}
use Rattle.sp_inflow.specs.Telling.{AreTold}
use Rattle.sp_inflow.proofs.TellingLemmas.{none-told}
use Rattle.sp_inflow.proofs.arrivals.Arrivals.new.Goals as goal

pub returns : goal.returns
returns g c = λ bytes is.
    subst (λ (r : Receiver g.row.S.Denot). AreTold g.S.Source.remaining bytes [] (record { receiver = r; ended = false })) (sym c.in_ok-inbound.ensures) (none-told g.S.Source.remaining g.S.Source.has_failed c.args.source 65540 bytes is)
