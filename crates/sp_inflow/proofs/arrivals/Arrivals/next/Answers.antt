use Rattle.std.proofs.Common.{[], ◌∷◌, ◌++◌, sym, ap, subst, ◌∙◌}
use Rattle.sp_inflow.specs.declared.arrivals.Arrival.{Arrival}
use Rattle.sp_inflow.specs.Arriving.{is_end}
use Rattle.sp_inflow.specs.Telling.{AreTold, Incoming}
use Rattle.sp_inflow.proofs.TellingLemmas.{one-told}
use Rattle.sp_inflow.proofs.arrivals.Arrivals.next.Goals as goal

pub returns-clause-told : goal.returns-clause-told
returns-clause-told g c = λ bytes told t.
    let old : Incoming g.row.S.Denot = record { receiver = c.self.inside.inbound; ended = c.self.inside.ended } in
    let new : Incoming g.row.S.Denot = record { receiver = c.next.new.self; ended = c.is_end-self-inside.result } in
    let before : AreTold g.S.Source.remaining bytes told old = subst (λ (i : Incoming g.row.S.Denot). AreTold g.S.Source.remaining bytes told i) (sym c.self.view_is) t in
    subst (λ (a : Arrival). AreTold g.S.Source.remaining bytes (told ++ a ∷ []) new) (sym c.of-arrival.ensures)
    (one-told g.S.Source.remaining g.S.Source.has_failed bytes told old new c.in_ok-inflow.inflow c.if-self.false (c.is_end-self-inside.ensures ∙ ap is_end c.of-arrival.ensures) c.in_ok-inflow.ensures.next before)
