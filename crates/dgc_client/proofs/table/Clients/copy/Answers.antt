use Rattle.std.proofs.Common.{◌≡◌, refl, rules}
use Rattle.std.proofs.lemmas.List.Elements.{same_from_all_zip}
use Rattle.dgc_client.specs.declared.table.Clients.{Clients}
use Rattle.dgc_client.specs.Kept.{leases_now}
use Rattle.dgc_client.specs.Table.{leases_of}
use Rattle.dgc_client.proofs.SoundLemmas.{planned-same, sound-copied, touched-same}
use Rattle.dgc_client.proofs.TableLemmas.{after-touched}
use Rattle.dgc_client.proofs.table.Clients.copy.Goals as goal

pub returns : goal.returns
returns c =
    let old = c.args.self.now in
    let touched : c.in_ok-clone.field-0.indexes.items ≡ old.touched.indexes.items = search (rules, same_from_all_zip) in
    let touched_all : c.in_ok-clone.field-0.all ≡ old.touched.all = search (rules, same_from_all_zip) in
    let later : c.in_ok-clone-2.field-0.indexes.items ≡ old.later.indexes.items = search (rules, same_from_all_zip) in
    let later_all : c.in_ok-clone-2.field-0.all ≡ old.later.all = search (rules, same_from_all_zip) in
    let halves : c.in_ok-clone-3.field-0.halves.row.keys ≡ old.plans.halves.row.keys = search (rules, same_from_all_zip) in
    let halves_all : c.in_ok-clone-3.field-0.halves.all ≡ old.plans.halves.all = search (rules, same_from_all_zip) in
    let ends : c.in_ok-clone-3.field-0.ends.row.keys ≡ old.plans.ends.row.keys = search (rules, same_from_all_zip) in
    let ends_all : c.in_ok-clone-3.field-0.ends.all ≡ old.plans.ends.all = search (rules, same_from_all_zip) in
    let moment = c.in_ok-copy.ensures.moment in
    let leases : leases_of c.in_ok-copy.field-0 ≡ leases_of old.leases = λ i. leases_now (moment i) (c.in_ok-copy.ensures.moments i) (c.in_ok-copy.ensures.entries i) in
    let new : Clients = record { leases = c.in_ok-copy.field-0; touched = c.in_ok-clone.field-0; later = c.in_ok-clone-2.field-0; plans = c.in_ok-clone-3.field-0; moved = old.moved; numbers = old.numbers } in
    record {
      copied = λ h was.
          after-touched h old new moment refl leases
          (sound-copied old new leases moment refl (touched-same old.touched c.in_ok-clone.field-0 touched touched_all) (touched-same old.later c.in_ok-clone-2.field-0 later later_all)
          (planned-same old.plans.halves c.in_ok-clone-3.field-0.halves halves halves_all) (planned-same old.plans.ends c.in_ok-clone-3.field-0.ends ends ends_all) was.sound)
          was;
    }
