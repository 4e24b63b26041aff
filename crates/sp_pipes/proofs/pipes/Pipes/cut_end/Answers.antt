use Rattle.std.proofs.Common.{refl}
use Rattle.sp_rules.specs.Worlds.{cut_end, set_side}
use Rattle.sp_pipes.specs.Connections.{end_of, pipe_of}
use Rattle.sp_pipes.proofs.PipeLemmas.{absent, changed, quiet, quiet-side, row-there}
use Rattle.sp_pipes.proofs.pipes.Pipes.cut_end.Goals as goal

pub returns-then-index-len-clause-cut : goal.returns-then-index-len-clause-cut
returns-then-index-len-clause-cut c = λ pipes a. absent (set_side (cut_end c.args.frames) (end_of c.args.to)) pipes c.args.self.now c.len.result c.args.conn c.len.ensures c.if-index-len.true a

pub returns-clause-cut : goal.returns-clause-cut
returns-clause-cut c = λ pipes a.
    let there = row-there c.args.self.now c.len.result c.args.conn c.index_mut.result.now c.len.ensures c.if-index-len.false c.index_mut.ensures.value in
    quiet (set_side (cut_end c.args.frames) (end_of c.args.to)) (quiet-side (cut_end c.args.frames) (λ s. refl) (end_of c.args.to)) c.args.conn pipes c.args.self.now _
    (changed pipe_of (set_side (cut_end c.args.frames) (end_of c.args.to)) c.args.self.now.rows.items c.args.conn c.index_mut.result.now c.cut_end.new.self there c.cut_end.ensures) refl a
