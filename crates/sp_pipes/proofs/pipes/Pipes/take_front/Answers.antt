use Rattle.std.proofs.Common.{refl}
use Rattle.sp_rules.specs.Worlds.{set_side, take_front}
use Rattle.sp_pipes.specs.Connections.{end_of, pipe_of}
use Rattle.sp_pipes.proofs.PipeLemmas.{absent, changed, quiet, quiet-side, row-there}
use Rattle.sp_pipes.proofs.pipes.Pipes.take_front.Goals as goal

pub returns-then-index-len-clause-taken : goal.returns-then-index-len-clause-taken
returns-then-index-len-clause-taken c = λ pipes a. absent (set_side take_front (end_of c.args.to)) pipes c.args.self.now c.len.result c.args.conn c.len.ensures c.if-index-len.true a

pub returns-clause-taken : goal.returns-clause-taken
returns-clause-taken c = λ pipes a.
    let there = row-there c.args.self.now c.len.result c.args.conn c.index_mut.result.now c.len.ensures c.if-index-len.false c.index_mut.ensures.value in
    quiet (set_side take_front (end_of c.args.to)) (quiet-side take_front (λ s. refl) (end_of c.args.to)) c.args.conn pipes c.args.self.now _
    (changed pipe_of (set_side take_front (end_of c.args.to)) c.args.self.now.rows.items c.args.conn c.index_mut.result.now c.take_front.new.self there c.take_front.ensures) refl a
