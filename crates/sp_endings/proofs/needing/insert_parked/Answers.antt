use Rattle.std.proofs.Common.{◌≡◌, ℕ, take, ap, ◌∙◌, arith}
use Rattle.std.specs.Prelude.{◌||◌}
use Rattle.std.specs.List.{list_any}
use Rattle.std.specs.Map.{keys_of}
use Rattle.std.proofs.lemmas.List.{take_all}
use Rattle.sp_rules.specs.Holders.{in_frame}
use Rattle.sp_rules.specs.References.{is_id_in}
use Rattle.sp_rules.specs.State as rules
use Rattle.sp_endings.specs.Needs.{needed_at}
use Rattle.sp_endings.proofs.NeedLemmas.{parked-any}
use Rattle.sp_endings.proofs.needing.insert_parked.Goals as goal

pub returns : goal.returns
returns c = λ g s own p id.
    let ts = c.deref-ticket-items.result.now in
    let i = c.loop-ticket.ticket-index in
    let all : take i ts ≡ keys_of p.frames = take_all i ts (omega arith) ∙ c.deref-ticket-items.ensures.value ∙ c.in_ok-tickets.ensures p.frames p.ticketed in
    let has = λ (q : rules.ParkedFrame). is_id_in (in_frame g q.frame) id in
    c.loop-ticket.invariant g p.frames own p.ticketed id
    ∙ ap (λ b. is_id_in c.args.ids.now id || b)
    (ap (list_any (λ (t : ℕ). needed_at g t p.frames id)) all ∙ parked-any has p.frames p.ticketed.rows.rises ∙ ap (list_any has) p.are)
