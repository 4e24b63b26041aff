use Rattle.std.proofs.Common.{refl}
use Rattle.sp_rules.specs.Worlds.{ends, set_side}
use Rattle.sp_pipes.specs.Connections.{end_of, pipe_of}
use Rattle.sp_pipes.proofs.PipeLemmas.{absent, changed, found, less-side, row-there}
use Rattle.sp_pipes.proofs.pipes.Pipes.end.Goals as goal

pub returns-then-index-len-clause-ended : goal.returns-then-index-len-clause-ended
returns-then-index-len-clause-ended c = λ pipes a. absent (set_side ends (end_of c.args.end)) pipes c.args.self.now c.len.result c.args.conn c.len.ensures c.if-index-len.true a

pub returns-clause-ended : goal.returns-clause-ended
returns-clause-ended c = λ pipes a.
    let there = row-there c.args.self.now c.len.result c.args.conn c.index_mut.result.now c.len.ensures c.if-index-len.false c.index_mut.ensures.value in
    found (set_side ends (end_of c.args.end)) (less-side ends (λ s. refl) (end_of c.args.end)) c.args.conn pipes c.args.self.now _ _
    (changed pipe_of (set_side ends (end_of c.args.end)) c.args.self.now.rows.items c.args.conn c.index_mut.result.now c.end.new.self there (c.end.ensures)) c.advance.ensures.found a
