use Rattle.std.proofs.Common.{◌≡◌, ◌∙◌, refl, ap}
use Rattle.sp_rules.specs.Worlds.{Pipe, End, end_of as end_at, ends, set_side}
use Rattle.sp_pipes.specs.Connections.{end_of, pipe_of}
use Rattle.sp_pipes.specs.declared.pipe.Pipe.{Pipe as Row}
use Rattle.sp_pipes.proofs.PipeLemmas.{absent, changed, found, less-side, row-there, same-row}
use Rattle.sp_pipes.proofs.pipes.Pipes.close.Goals as goal

pub returns-then-index-len-clause-closed : goal.returns-then-index-len-clause-closed
returns-then-index-len-clause-closed c = λ pipes a. absent (λ (p : Pipe). set_side ends (end_at c.args.writer p) p) pipes c.args.self.now c.len.result c.args.conn c.len.ensures c.if-index-len.true a

pub returns-clause-closed : goal.returns-clause-closed
returns-clause-closed c = λ pipes a.
    let x : Row = c.index_mut.result.now in
    let there = row-there c.args.self.now c.len.result c.args.conn x c.len.ensures c.if-index-len.false c.index_mut.ensures.value in
    let seen = row-there c.args.self.now c.len.result c.args.conn c.index.result.now c.len.ensures c.if-index-len.false c.index.ensures in
    let at : end_of c.end_at-side.result ≡ end_at c.args.writer (pipe_of x) = c.end_at-side.ensures
    ∙ ap (λ (y : Row). end_at c.args.writer (pipe_of y)) (same-row c.args.self.now.rows.items c.args.conn c.index.result.now x seen there) in
    found (λ (p : Pipe). set_side ends (end_at c.args.writer p) p) (λ p. less-side ends (λ s. refl) (end_at c.args.writer p) p) c.args.conn pipes c.args.self.now _ _
    (changed pipe_of (λ (p : Pipe). set_side ends (end_at c.args.writer p) p) c.args.self.now.rows.items c.args.conn x c.end.new.self there
    (c.end.ensures ∙ ap (λ (n : End). set_side ends n (pipe_of x)) at)) c.advance.ensures.found a
