use Rattle.std.proofs.Common.{ℕ, ◌<◌, ◌≤◌, sym, subst}
use Rattle.sp_pipes.proofs.PipeLemmas.{lowest, many-rows, no-lowest}
use Rattle.sp_pipes.proofs.pipes.Pipes.unaccepted.Goals as goal

pub returns-then-self-len : goal.returns-then-self-len
returns-then-self-len c = λ pipes a.
    let t = c.args.self.now in
    sym (lowest t.unaccepted pipes a.below a.stands (subst (λ (n : ℕ). t.unaccepted < n) (many-rows t c.len.result pipes c.len.ensures a) c.if-self-len.true))

pub returns-else-self-len : goal.returns-else-self-len
returns-else-self-len c = λ pipes a.
    let t = c.args.self.now in
    sym (no-lowest t.unaccepted pipes a.below (subst (λ (n : ℕ). n ≤ t.unaccepted) (many-rows t c.len.result pipes c.len.ensures a) c.if-self-len.false))
