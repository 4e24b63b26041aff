use Rattle.std.proofs.Common.{◌≡◌, get_or, take, ap, ◌∙◌}
use Rattle.std.proofs.lemmas.List.{take_more}
use Rattle.space_ids.specs.declared.ids.ObjId.{ObjId}
use Rattle.dgc_list.specs.Remembered.{after_dirty}
use Rattle.dgc_list.specs.Objects.{remembered_at}
use Rattle.dgc_list.proofs.CallsLemmas.{tells-push, known-kept, named-at, or-left}
use Rattle.dgc_list.proofs.RememberedLemmas.{dirty-twice, dirty-some}
use Rattle.dgc_list.proofs.ReplaceLemmas.{dirty-same, planned-dirty}
use Rattle.dgc_list.proofs.calls.tell_dirty.Goals as goal

pub replace-requires-clause-room : goal.replace-requires-clause-room
replace-requires-clause-room c =
    let nowhere : ObjId = record { 0 = 0 } in
    or-left _ _ (c.loop-id.invariant.known (get_or c.args.ids.now c.loop-id.id-index nowhere) (named-at c.args.ids.now c.loop-id.id-index nowhere c.loop-id-test.true))

pub loop-id-preserved : goal.loop-id-preserved
loop-id-preserved c =
    let nowhere : ObjId = record { 0 = 0 } in
    let id = get_or c.args.ids.now c.loop-id.id-index nowhere in
    let named = named-at c.args.ids.now c.loop-id.id-index nowhere c.loop-id-test.true in
    let f = after_dirty c.args.number c.args.expires in
    let told : c.after_dirty-remembered.result ≡ f (remembered_at c.loop-id.objects id c.args.client.now) = c.after_dirty-remembered.ensures ∙ ap f c.get-before.ensures in
    let set = rw told at c.replace.ensures.here in
    record {
      told = rw (take_more c.args.ids.now c.loop-id.id-index nowhere c.loop-id-test.true)
          (tells-push f (dirty-twice c.args.number c.args.expires) c.args.client.now (take c.loop-id.id-index c.args.ids.now) id
          c.args.objects.now c.loop-id.objects c.replace.new.objects c.loop-id.invariant.told set c.replace.ensures.others);
      known = known-kept c.args.client.now c.args.ids.now id (f (remembered_at c.loop-id.objects id c.args.client.now)) c.loop-id.objects c.replace.new.objects
          set (dirty-some c.args.number c.args.expires _) c.replace.ensures.others c.loop-id.invariant.known;
      planned = λ o o_named fresh. c.replace.ensures.kept (record { moment = c.args.expires; object = o; client = c.args.client.now }) (c.loop-id.invariant.planned o o_named fresh)
          (λ stands. rw told (dirty-same c.args.number c.args.expires (remembered_at c.loop-id.objects id c.args.client.now) stands));
      covered = λ was. c.replace.ensures.covered
          (λ m stands. planned-dirty c.args.number c.args.expires c.args.client.now (take c.loop-id.id-index c.args.ids.now) id c.args.objects.now c.loop-id.objects c.loop-id.expiries
          c.loop-id.invariant.told (c.loop-id.invariant.planned id named) (c.loop-id.invariant.covered was) m (rw told at stands))
          (c.loop-id.invariant.covered was);
    }
