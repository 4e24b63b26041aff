use Rattle.std.proofs.Common.{refl}
use Rattle.sp_rules.specs.Worlds.{Accepter, begin_side, set_side}
use Rattle.sp_pipes.specs.Connections.{pipe_of}
use Rattle.sp_pipes.proofs.PipeLemmas.{absent, changed, found, less-side, row-there}
use Rattle.sp_pipes.proofs.pipes.Pipes.begin.Goals as goal

pub returns-then-index-len-clause-begun : goal.returns-then-index-len-clause-begun
returns-then-index-len-clause-begun c = λ pipes a. absent (set_side begin_side Accepter) pipes c.args.self.now c.len.result c.args.conn c.len.ensures c.if-index-len.true a

pub returns-clause-begun : goal.returns-clause-begun
returns-clause-begun c = λ pipes a.
    let there = row-there c.args.self.now c.len.result c.args.conn c.index_mut.result.now c.len.ensures c.if-index-len.false c.index_mut.ensures.value in
    found (set_side begin_side Accepter) (less-side begin_side (λ s. refl) Accepter) c.args.conn pipes c.args.self.now _ _
    (changed pipe_of (set_side begin_side Accepter) c.args.self.now.rows.items c.args.conn c.index_mut.result.now c.begin.new.self there (c.begin.ensures)) c.advance.ensures.found a
