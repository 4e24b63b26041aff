use Rattle.std.proofs.Common.{◌≡◌, ◌∷◌, List, sym, ap, ◌∙◌, subst}
use Rattle.std.specs.Prelude.{slice_get}
use Rattle.std.specs.Map.{keys_of, lookup}
use Rattle.std.proofs.lemmas.Bool.{false≢true}
use Rattle.space_ids.specs.declared.ids.ForeignId.{ForeignId}
use Rattle.dgc_client.specs.declared.lease.ClientLease.{ClientLease}
use Rattle.dgc_client.specs.declared.leases.Leases.{Leases}
use Rattle.dgc_client.specs.declared.table.Clients.{Clients}
use Rattle.indexmap.specs.IndexMap.{set_value_at}
use Rattle.dgc_client.specs.History.{after, event_of}
use Rattle.dgc_client.specs.Table.{is_same, IsAfter, leases_of}
use Rattle.dgc_client.specs.Table.Told.{On}
use Rattle.dgc_client.proofs.TableLemmas.{after-change, after-nothing, known-among, no-hold, puts, keys-set}
use Rattle.dgc_client.proofs.TouchedLemmas.{set-other}
use Rattle.dgc_client.proofs.SoundLemmas.{sound-write, set-here, planned-before}
use Rattle.dgc_client.proofs.table.Clients.change.Goals as goal

pub returns-in-Some-clause-told : goal.returns-in-Some-clause-told
returns-in-Some-clause-told c = λ h was.
    let before = leases_of c.args.self.now.leases in
    let at = c.in-Some.index in
    let lease : ClientLease = c.change.new.self in
    let leases : leases_of c.note.new.self.leases ≡ set_value_at before at lease = ap leases_of c.note.ensures.leases ∙ c.in-Some.ensures.leases in
    let moment : c.note.new.self.leases.moment ≡ c.args.self.now.leases.moment = ap (λ (l : Leases). l.moment) c.note.ensures.leases ∙ c.put.ensures.moment in
    after-change h c.args.self.now c.note.new.self c.args.reference.now c.args.change lease
    (λ _. puts c.args.reference.now lease c.args.self.now c.note.new.self moment c.note.ensures.numbers
    (ap (λ (es : List (ForeignId × ClientLease)). keys_of es) leases ∙ keys-set before at lease)
    (λ q. ap (λ (l : Leases). lookup (is_same q) (leases_of l)) c.note.ensures.leases ∙ c.in-Some.ensures.each q)
    (λ s. sound-write c.args.self.now c.note.new.self at lease
    (λ k apart. ap (λ (es : List (ForeignId × ClientLease)). slice_get es k) leases ∙ set-other before at k lease apart)
    (λ r x there. set-here before at lease r x (ap (λ (es : List (ForeignId × ClientLease)). slice_get es at) (sym leases) ∙ there))
    moment c.note.ensures.moved c.note.ensures.touched c.note.ensures.touched_kept c.note.ensures.later c.note.ensures.later_kept
    (λ term is. c.note.ensures.planned term is (λ had. planned-before c.args.self.now s c.args.reference.now c.get-before.result c.get-before.ensures.lease at c.in-Some.ensures.index term had))
    c.note.ensures.planned_kept c.note.ensures.halves_kept s))
    (λ unknown. absurd (false≢true (sym unknown ∙ sym c.in-Some.ensures.known)))
    (c.change.ensures ∙ ap (after (event_of c.args.change)) c.get-before.ensures.lease) was

pub returns-in-None-clause-told : goal.returns-in-None-clause-told
returns-in-None-clause-told c = λ h was.
    let self = c.args.self.now in
    let table : Leases → Clients = λ leases. record { leases = leases; touched = self.touched; later = self.later; plans = self.plans; moved = self.moved; numbers = self.numbers } in
    subst (λ (leases : Leases). IsAfter (On c.args.reference.now (event_of c.args.change) ∷ h) (table leases)) (sym c.in-None.ensures.unchanged)
    (after-nothing h self c.args.reference.now (event_of c.args.change) (no-hold c.args.change)
    (sym (known-among c.args.reference.now (leases_of self.leases)) ∙ sym c.in-None.ensures.known) was)
