use Rattle.std.proofs.Common.{◌≡◌, ℕ, List, refl, sym, ap, ◌∙◌}
use Rattle.std.specs.Prelude.{slice_get, is_some}
use Rattle.std.specs.Map.{keys_of, lookup}
use Rattle.space_ids.specs.declared.ids.ForeignId.{ForeignId}
use Rattle.dgc_client.specs.declared.lease.ClientLease.{ClientLease}
use Rattle.dgc_client.specs.declared.leases.Leases.{Leases}
use Rattle.std.proofs.lemmas.Result.{err_from_is_err_and}
use Rattle.indexmap.specs.IndexMap.{insert_entry}
use Rattle.indexmap.proofs.SetLemmas.{keys_insert_entry}
use Rattle.dgc_client.specs.Lease.{after_hold}
use Rattle.dgc_client.specs.History.Event.{Held}
use Rattle.dgc_client.specs.Table.{is_same, is_among, leases_of}
use Rattle.dgc_client.proofs.TableLemmas.{after-held, after-touched, known-among}
use Rattle.dgc_client.proofs.TouchedLemmas.{insert-other}
use Rattle.dgc_client.proofs.SoundLemmas.{sound-write, sound-same, insert-here, planned-before}
use Rattle.dgc_client.proofs.table.Clients.hold.Goals as goal

pub returns-in_err-index-clause-err : goal.returns-in_err-index-clause-err
returns-in_err-index-clause-err c =
    let p = err_from_is_err_and c.from_residual.result c.from_residual.ensures.1 in
    rw p.1 (λ h was. after-touched h c.args.self.now _ c.insert.ensures.moment refl c.in_err-index.ensures.err
    (sound-same c.args.self.now c.insert.new.self c.in_err-index.ensures.err c.insert.ensures.moment was.sound) was)

pub returns-in_err-index-clause-unknown : goal.returns-in_err-index-clause-unknown
returns-in_err-index-clause-unknown c =
    let p = err_from_is_err_and c.from_residual.result c.from_residual.ensures.1 in
    rw p.1 (λ h was. sym (ap (is_among c.args.reference.now) was.held) ∙ sym (known-among c.args.reference.now (leases_of c.args.self.now.leases)) ∙ ap is_some c.in_err-index.ensures.absent)

pub returns-clause-ok : goal.returns-clause-ok
returns-clause-ok c = λ h was.
    let before = leases_of c.args.self.now.leases in
    let at = c.in_ok-index.index in
    let lease : ClientLease = c.hold.new.self in
    let reference = c.args.reference.now in
    let leases : leases_of c.note.new.self.leases ≡ insert_entry is_same before reference lease = ap leases_of c.note.ensures.leases ∙ c.in_ok-index.ensures.leases in
    let moment : c.note.new.self.leases.moment ≡ c.args.self.now.leases.moment = ap (λ (l : Leases). l.moment) c.note.ensures.leases ∙ c.insert.ensures.moment in
    let index = c.in_ok-index.ensures.index in
    after-held h c.args.self.now c.note.new.self reference Held lease refl moment c.note.ensures.numbers
    (ap (λ (es : List (ForeignId × ClientLease)). keys_of es) leases ∙ keys_insert_entry is_same before reference lease)
    (λ q. ap (λ (l : Leases). lookup (is_same q) (leases_of l)) c.note.ensures.leases ∙ c.in_ok-index.ensures.each q)
    (c.hold.ensures ∙ ap after_hold c.get-before.ensures.lease)
    (λ s. sound-write c.args.self.now c.note.new.self at lease
    (λ k apart. ap (λ (es : List (ForeignId × ClientLease)). slice_get es k) leases ∙ insert-other reference lease before k (λ same. apart (same ∙ sym index)))
    (λ r x there. insert-here reference lease before r x (ap (λ (n : ℕ). slice_get (insert_entry is_same before reference lease) n) (sym index) ∙ ap (λ (es : List (ForeignId × ClientLease)). slice_get es at) (sym leases) ∙ there))
    moment c.note.ensures.moved c.note.ensures.touched c.note.ensures.touched_kept c.note.ensures.later c.note.ensures.later_kept
    (λ term is. c.note.ensures.planned term is (λ had. planned-before c.args.self.now s reference c.get-before.result c.get-before.ensures.lease at index term had))
    c.note.ensures.planned_kept c.note.ensures.halves_kept s) was
