use Rattle.std.proofs.Common.{sym, ◌∙◌}
use Rattle.sp_parked.specs.ByReferences.{pairs}
use Rattle.sp_parked.proofs.TicketLemmas.{if-ok, keys-pairs, there}
use Rattle.sp_parked.proofs.by_reference.ByReference.tickets.Goals as goal

pub returns-in-Some : goal.returns-in-Some
returns-in-Some c =
    if-ok c.numbers.result _ _ (λ tickets is. λ holds a. is (pairs (holds c.args.reference.now)) (there holds c.args.self.now c.args.reference.now c.in-Some.tickets.now (sym c.in-Some.ensures.value) a) ∙ keys-pairs (holds c.args.reference.now)) c.numbers.ensures
