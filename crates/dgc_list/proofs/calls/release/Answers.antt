use Rattle.std.proofs.Common.{get_or, take}
use Rattle.std.proofs.lemmas.Bool.{false≢true}
use Rattle.std.proofs.lemmas.List.{take_more}
use Rattle.space_ids.specs.declared.ids.ObjId.{ObjId}
use Rattle.dgc_list.specs.Objects.{clients_at}
use Rattle.dgc_list.proofs.ReleaseLemmas.{alike-refl, alike-trans, taken-more}
use Rattle.dgc_list.proofs.calls.release.Goals as goal

pub loop-id-init : goal.loop-id-init
loop-id-init c = record {
  alike = λ other. alike-refl (clients_at c.args.objects.now other);
  taken = λ other named _. absurd (false≢true named);
}

pub loop-id-preserved : goal.loop-id-preserved
loop-id-preserved c =
    let nowhere : ObjId = record { 0 = 0 } in
    let id = get_or c.args.ids.now c.loop-id.id-index nowhere in
    let alike = c.loop-id.invariant.alike in record {
      alike = λ other. alike-trans (clients_at c.args.objects.now other) (clients_at c.loop-id.objects other) (clients_at c.release_at.new.objects other) (alike other) (c.release_at.ensures.alike other);
      taken = rw (take_more c.args.ids.now c.loop-id.id-index nowhere c.loop-id-test.true)
          (taken-more c.args.client.now (take c.loop-id.id-index c.args.ids.now) id c.args.objects.now c.loop-id.objects c.release_at.new.objects
          alike c.loop-id.invariant.taken c.release_at.ensures.taken c.release_at.ensures.others);
    }
