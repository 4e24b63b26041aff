use Rattle.std.proofs.Common.{◌≡◌, ◌+◌, ◌∷◌, List, take, sym, ◌∙◌, subst}
use Rattle.dgc_client.specs.declared.groups.DueCall.{DueCall}
use Rattle.dgc_client.specs.History.{Event}
use Rattle.dgc_client.specs.Table.{Told, IsAfter, making, made_each}
use Rattle.dgc_client.specs.Table.Told.{On}
use Rattle.dgc_client.proofs.TableLemmas.{made-next}
use Rattle.dgc_client.proofs.table.Clients.made_calls.Goals as goal

pub loop-due-preserved : goal.loop-due-preserved
loop-due-preserved c =
    let calls = c.args.calls.now in
    let i = c.loop-due.due-index in
    let due = c.due-item.result in (
      λ h was.
          let before = made_each (take i calls) c.args.call h in
          let next = subst (λ (d : DueCall). made_each (take (i + 1) calls) c.args.call h ≡ On d.reference (making d.kind c.args.call) ∷ before) (sym c.due-item.is)
          (made-next calls i due c.args.call h c.loop-due-test.true) in
          subst (λ (k : List Told). IsAfter k c.change.new.self) (sym next)
          (subst (λ (e : Event). IsAfter (On due.reference e ∷ before) c.change.new.self) c.making.ensures (c.change.ensures.told before (c.loop-due.invariant.0 h was))),
      c.change.ensures.room ∙ c.loop-due.invariant.1,
    )
