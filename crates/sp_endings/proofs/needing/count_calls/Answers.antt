use Rattle.std.proofs.Common.{◌≡◌, ℕ, List, take, length, sym, ap, ◌∙◌, arith}
use Rattle.std.specs.Prelude.{filter}
use Rattle.std.specs.Map.{keys_of}
use Rattle.std.proofs.lemmas.List.{take_all}
use Rattle.sp_rules.specs.Frames.{is_call_frame}
use Rattle.sp_rules.specs.State as rules
use Rattle.sp_endings.specs.Needs.{calls_at}
use Rattle.sp_endings.proofs.AloneLemmas.{no-call}
use Rattle.sp_endings.proofs.NeedLemmas.{parked-count}
use Rattle.sp_endings.proofs.needing.count_calls.Goals as goal

pub returns-then-is_empty : goal.returns-then-is_empty
returns-then-is_empty c = λ frames b. no-call frames (sym (c.is_empty.ensures frames b) ∙ c.if-is_empty.true)

pub returns : goal.returns
returns c = λ frames b.
    let ts = c.deref-ticket-items.result.now in
    let i = c.loop-ticket.ticket-index in
    let all : take i ts ≡ keys_of frames = take_all i ts (omega arith) ∙ c.deref-ticket-items.ensures.value ∙ c.in_ok-tickets.ensures frames b in
    c.loop-ticket.invariant.counted frames b ∙ ap (λ (l : List ℕ). length (filter (λ (t : ℕ). calls_at t frames) l)) all
    ∙ parked-count (λ (p : rules.ParkedFrame). is_call_frame p.frame) frames b.rows.rises
