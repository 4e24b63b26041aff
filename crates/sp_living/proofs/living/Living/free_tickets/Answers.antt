use Rattle.std.proofs.Common.{◌≡◌, ℕ, take, ap, ◌∙◌, arith}
use Rattle.std.specs.Prelude.{filter}
use Rattle.std.specs.Map.{keys_of}
use Rattle.std.proofs.lemmas.List.{take_all}
use Rattle.sp_living.specs.Frames.{is_free}
use Rattle.sp_living.specs.Tickets.{free_at}
use Rattle.sp_living.proofs.TicketLemmas.{tickets-found}
use Rattle.sp_living.proofs.living.Living.free_tickets.Goals as goal

pub returns : goal.returns
returns c = λ g s a frames b.
    let ts = c.deref-ticket-items.result.now in
    let i = c.loop-ticket.ticket-index in
    let all : take i ts ≡ keys_of frames = take_all i ts (omega arith) ∙ c.deref-ticket-items.ensures.value ∙ c.in_ok-tickets.ensures frames b in
    c.loop-ticket.invariant s frames a.transport b ∙ ap (filter (λ (t : ℕ). free_at s t frames)) all ∙ tickets-found (is_free s) frames b.rows.rises
