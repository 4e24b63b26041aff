use Rattle.std.proofs.Common.{◌≡◌, true, get_or, take, sym, ap, ◌∙◌}
use Rattle.std.proofs.lemmas.Bool.{false≢true}
use Rattle.std.proofs.lemmas.List.{take_more}
use Rattle.space_ids.specs.declared.ids.ObjId.{ObjId}
use Rattle.dgc_list.specs.declared.remembered.Remembered.{Remembered}
use Rattle.dgc_list.specs.Remembered.{is_late}
use Rattle.dgc_list.specs.Objects.{remembered_at}
use Rattle.dgc_list.proofs.ReplaceLemmas.{planned-push}
use Rattle.dgc_list.proofs.calls.add_expiries.Goals as goal
use Rattle.dgc_list.proofs.calls.add_expiries.Goals.{then-not-is_late+in_ok-add, else-not-is_late}

pub loop-id-preserved : goal.loop-id-preserved
loop-id-preserved c =
    let nowhere : ObjId = record { 0 = 0 } in
    let id = get_or c.args.ids.now c.loop-id.id-index nowhere in
    let told = take c.loop-id.id-index c.args.ids.now in
    rw (take_more c.args.ids.now c.loop-id.id-index nowhere c.loop-id-test.true) (elim c.if-not-is_late.branch [
      | then-not-is_late+in_ok-add w ↦ rw w.expiries-is (
        planned-push c.args.client.now told id c.args.number c.args.moment c.args.objects.now c.loop-id.expiries w.add.new.self
            c.loop-id.invariant.0 w.in_ok-add.ensures.kept (λ _. w.in_ok-add.ensures.added),
        λ other was. w.in_ok-add.ensures.kept other (c.loop-id.invariant.1 other was),
      )
      | else-not-is_late w ↦
          let late : is_late (remembered_at c.args.objects.now id c.args.client.now) c.args.number ≡ true =
          ap (λ (r : Remembered). is_late r c.args.number) (sym c.get.ensures) ∙ sym c.is_late.ensures ∙ w.if-not-is_late.false in
          rw w.expiries-is (
            planned-push c.args.client.now told id c.args.number c.args.moment c.args.objects.now c.loop-id.expiries c.loop-id.expiries
                c.loop-id.invariant.0 (λ _ there. there) (λ fresh. absurd (false≢true (sym fresh ∙ late))),
            c.loop-id.invariant.1,
          )
    ])
