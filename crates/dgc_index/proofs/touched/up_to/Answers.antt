use Rattle.std.proofs.Common.{◌≡◌, arith}
use Rattle.dgc_index.proofs.TouchedLemmas.{counted-indexes}
use Rattle.dgc_index.proofs.touched.up_to.Goals as goal

pub returns-clause-there : goal.returns-clause-there
returns-clause-there c =
    let all : c.loop-at.at ≡ c.args.count = omega arith in
    λ at below. counted-indexes c.loop-at.indexes.items c.loop-at.at c.loop-at.invariant.0 c.loop-at.invariant.1 at (omega arith)
