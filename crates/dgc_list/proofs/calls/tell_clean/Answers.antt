use Rattle.std.proofs.Common.{◌≡◌, Bool, false, get_or, take, sym, ap, ◌∙◌, subst}
use Rattle.std.proofs.lemmas.List.{take_more}
use Rattle.space_ids.specs.declared.ids.ObjId.{ObjId}
use Rattle.dgc_list.specs.Remembered.{after_clean, is_blank}
use Rattle.dgc_list.specs.Objects.{clients_at, remembered_at}
use Rattle.dgc_list.proofs.CallsLemmas.{tells-push, known-kept, named-at}
use Rattle.dgc_list.proofs.RememberedLemmas.{clean-twice, clean-keeps, strong-some, can-clean}
use Rattle.dgc_list.proofs.calls.tell_clean.Goals as goal

pub replace-requires-clause-room : goal.replace-requires-clause-room
replace-requires-clause-room c =
    let nowhere : ObjId = record { 0 = 0 } in
    let id = get_or c.args.ids.now c.loop-id.id-index nowhere in
    let named = named-at c.args.ids.now c.loop-id.id-index nowhere c.loop-id-test.true in
    let told = c.after_clean-remembered.ensures ∙ ap (after_clean c.args.number c.args.strong) c.get-before.ensures in
    rw told (can-clean (clients_at c.loop-id.objects id) c.args.client.now c.args.number c.args.strong (λ strong. c.loop-id.invariant.known strong id named))

pub loop-id-preserved : goal.loop-id-preserved
loop-id-preserved c =
    let nowhere : ObjId = record { 0 = 0 } in
    let id = get_or c.args.ids.now c.loop-id.id-index nowhere in
    let f = after_clean c.args.number c.args.strong in
    let told : c.after_clean-remembered.result ≡ f (remembered_at c.loop-id.objects id c.args.client.now) = c.after_clean-remembered.ensures ∙ ap f c.get-before.ensures in
    let set = rw told at c.replace.ensures.here in
    record {
      told = rw (take_more c.args.ids.now c.loop-id.id-index nowhere c.loop-id-test.true)
          (tells-push f (clean-twice c.args.number c.args.strong) c.args.client.now (take c.loop-id.id-index c.args.ids.now) id
          c.args.objects.now c.loop-id.objects c.replace.new.objects c.loop-id.invariant.told set c.replace.ensures.others);
      known = λ strong. known-kept c.args.client.now c.args.ids.now id (f (remembered_at c.loop-id.objects id c.args.client.now)) c.loop-id.objects c.replace.new.objects
          set (subst (λ (s : Bool). is_blank (after_clean c.args.number s (remembered_at c.loop-id.objects id c.args.client.now)) ≡ false) (sym strong) (strong-some c.args.number _))
          c.replace.ensures.others (c.loop-id.invariant.known strong);
      covered = λ was. c.replace.ensures.covered
          (λ m stands. c.loop-id.invariant.covered was id c.args.client.now m (clean-keeps c.args.number c.args.strong (remembered_at c.loop-id.objects id c.args.client.now) m (rw told at stands)))
          (c.loop-id.invariant.covered was);
    }
