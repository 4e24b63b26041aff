use Rattle.std.proofs.Common.{List, sym, ◌∙◌, subst}
use Rattle.space_ids.specs.declared.ids.ObjId.{ObjId}
use Rattle.dgc_client.specs.History.{event_of}
use Rattle.dgc_client.specs.Table.{Told, IsAfter}
use Rattle.dgc_client.proofs.TableLemmas.{told-next}
use Rattle.dgc_client.proofs.table.Clients.tell.Goals as goal

pub loop-id-preserved : goal.loop-id-preserved
loop-id-preserved c =
    let nowhere : ObjId = record { 0 = 0 } in (
      λ h was. subst (λ (k : List Told). IsAfter k c.change.new.self)
          (sym (told-next c.args.group.now.peer c.args.group.now.ids c.as_slice-id-items.result.now c.loop-id.id-index nowhere (event_of c.args.change) h c.as_slice-id-items.ensures c.loop-id-test.true))
          (c.change.ensures.told _ (c.loop-id.invariant.0 h was)),
      c.change.ensures.numbers ∙ c.loop-id.invariant.1,
      c.change.ensures.room ∙ c.loop-id.invariant.2,
    )
