use Rattle.std.proofs.Common.{◌≡◌, ◌+◌, ◌-◌, ◌^◌, ℕ, length, ◌∙◌, arith}
use Rattle.std.specs.Prelude.{filter, min, nat_le}
use Rattle.std.proofs.lemmas.Bool.Decides.{nat_tests}
use Rattle.sp_rules.specs.Frames.{is_call_frame}
use Rattle.sp_rules.specs.State as rules
use Rattle.sp_endings.proofs.NeedLemmas.{parked-length, tasks-length}
use Rattle.sp_endings.proofs.needing.is_busy.Goals as goal

-- a count that does not go beyond what fits is as much above this one
capped : (m n : ℕ) → m ≡ min n (2 ^ 64 - 1) → nat_le 4096 m ≡ nat_le 4096 n
capped m n is = grind (arith, nat_tests)

pub returns : goal.returns
returns c = λ g s a.
    let calls = λ (p : rules.ParkedFrame). is_call_frame p.frame in
    let parked = c.parked.ensures g s a in
    let counted = c.in_ok-calls.ensures parked.frames parked.ticketed ∙ parked-length calls parked.frames s.parked parked.are in
    let lives = c.len.ensures ∙ tasks-length c.tasks.result.now.rows s.tasks (c.tasks.ensures.are g s a).rows in
    capped c.saturating_add.result (length s.tasks + length (filter calls s.parked)) (c.saturating_add.ensures ∙ (λ j. min (lives j + counted j) (2 ^ 64 - 1)))
