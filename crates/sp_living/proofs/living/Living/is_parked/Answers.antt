use Rattle.std.proofs.Common.{◌≡◌, ℕ, false, List, take, sym, ap, subst, ◌∙◌, arith}
use Rattle.std.specs.Prelude.{filter, ◌==◌}
use Rattle.std.specs.List.{list_any}
use Rattle.std.specs.Map.{keys_of}
use Rattle.std.proofs.lemmas.List.{take_all}
use Rattle.sp_parked.specs.declared.frame.ParkedFrame.{ParkedFrame}
use Rattle.sp_rules.specs.ParkedFrames.{is_parked_at}
use Rattle.sp_rules.specs.State as rules
use Rattle.sp_living.specs.Tickets.{numbered_at}
use Rattle.sp_living.proofs.TicketLemmas.{none-numbered}
use Rattle.sp_living.proofs.living.Living.is_parked.Goals as goal

pub returns : goal.returns
returns c = λ same g s a.
    let p = a.parked in
    let i = c.loop-ticket.ticket-index in
    let ts = c.deref-ticket-items.result.now in
    let has : ℕ → Rattle.std.specs.Prelude.Bool = λ t. numbered_at c.args.number t p.frames in
    let which : take i ts ≡ keys_of (filter (λ (row : ℕ × ParkedFrame). c.args.conn == row.1.conn) p.frames) =
    take_all i ts (omega arith) ∙ c.deref-ticket-items.ensures.value ∙ c.in_ok-on_connection.ensures p.frames p.ticketed in
    subst (λ (l : List rules.ParkedFrame). list_any (is_parked_at c.args.conn c.args.number) l ≡ false) p.are
    (none-numbered c.args.conn c.args.number p.frames p.ticketed.rows.rises (ap (list_any has) (sym which) ∙ c.loop-ticket.invariant p.frames p.ticketed))
