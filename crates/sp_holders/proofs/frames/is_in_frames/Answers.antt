use Rattle.std.proofs.Common.{◌≡◌, ◌<◌, ℕ, length, take, sym, ap, arith, ◌∙◌}
use Rattle.std.specs.List.{list_any}
use Rattle.std.specs.Map.{keys_of}
use Rattle.std.proofs.lemmas.List.{take_all}
use Rattle.sp_endings.proofs.NeedLemmas.{parked-any}
use Rattle.sp_rules.specs.Holders.{references_of_frame}
use Rattle.sp_rules.specs.References.{is_reference_in}
use Rattle.sp_rules.specs.State as rules
use Rattle.sp_holders.specs.Places.{has_at}
use Rattle.sp_holders.proofs.AnyLemmas.{any-here}
use Rattle.sp_holders.proofs.frames.is_in_frames.Goals as goal

pub returns-then-is_at : goal.returns-then-is_at
returns-then-is_at c = λ frames a.
    let r = c.args.reference.now in
    let ts = c.deref-ticket-items.result.now in
    let i = c.loop-ticket.ticket-index in
    let within : i < length ts = omega arith in
    let has = λ (t : ℕ). has_at r t a.frames in
    let is = λ (p : rules.ParkedFrame). is_reference_in (references_of_frame p.frame) r in
    let all = c.deref-ticket-items.ensures.value ∙ c.in_ok-tickets.ensures a.frames a.ticketed in
    sym (ap (list_any is) (sym a.are) ∙ sym (parked-any is a.frames a.ticketed.rows.rises) ∙ ap (list_any has) (sym all)
    ∙ any-here has ts i _ within (sym (c.is_at.ensures a.frames a.ticketed) ∙ c.if-is_at.true))

pub returns : goal.returns
returns c = λ frames a.
    let r = c.args.reference.now in
    let ts = c.deref-ticket-items.result.now in
    let i = c.loop-ticket.ticket-index in
    let has = λ (t : ℕ). has_at r t a.frames in
    let is = λ (p : rules.ParkedFrame). is_reference_in (references_of_frame p.frame) r in
    let all : take i ts ≡ keys_of a.frames = take_all i ts (omega arith) ∙ c.deref-ticket-items.ensures.value ∙ c.in_ok-tickets.ensures a.frames a.ticketed in
    sym (ap (list_any is) (sym a.are) ∙ sym (parked-any is a.frames a.ticketed.rows.rises) ∙ ap (list_any has) (sym all) ∙ c.loop-ticket.invariant a.frames a.ticketed)
