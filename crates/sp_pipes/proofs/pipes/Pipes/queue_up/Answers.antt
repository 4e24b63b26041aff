use Rattle.std.proofs.Common.{◌≡◌, ◌∙◌, refl, sym, ap, subst}
use Rattle.std.proofs.lemmas.Result.{on_ok_weaker}
use Rattle.sp_rules.specs.Worlds.{Pipe, End, end_of as end_at, other, queue_up, set_side}
use Rattle.sp_pipes.specs.Connections.{end_of, pipe_of}
use Rattle.sp_pipes.specs.declared.pipe.Pipe.{Pipe as Row}
use Rattle.sp_pipes.proofs.PipeLemmas.{absent, changed, kept, on-err, quiet, quiet-side, row-there, same-row}
use Rattle.sp_pipes.proofs.pipes.Pipes.queue_up.Goals as goal

pub returns-then-index-len-clause-queued : goal.returns-then-index-len-clause-queued
returns-then-index-len-clause-queued c = λ pipes a.
    absent (λ (p : Pipe). set_side (queue_up c.args.message) (other (end_at c.args.writer p)) p) pipes c.args.self.now c.len.result c.args.conn c.len.ensures c.if-index-len.true a

pub returns-clause-queued : goal.returns-clause-queued
returns-clause-queued c = on_ok_weaker c.queue_up.result (λ e pipes a.
    let x : Row = c.index_mut.result.now in
    let there = row-there c.args.self.now c.len.result c.args.conn x c.len.ensures c.if-index-len.false c.index_mut.ensures.value in
    let seen = row-there c.args.self.now c.len.result c.args.conn c.index.result.now c.len.ensures c.if-index-len.false c.index.ensures in
    let to : end_of c.other-to.result ≡ other (end_at c.args.writer (pipe_of x)) = c.other-to.ensures ∙ ap other (c.end_at.ensures
    ∙ ap (λ (y : Row). end_at c.args.writer (pipe_of y)) (same-row c.args.self.now.rows.items c.args.conn c.index.result.now x seen there)) in
    quiet (λ (p : Pipe). set_side (queue_up c.args.message) (other (end_at c.args.writer p)) p) (λ p. quiet-side (queue_up c.args.message) (λ s. refl) (other (end_at c.args.writer p)) p)
    c.args.conn pipes c.args.self.now _
    (changed pipe_of (λ (p : Pipe). set_side (queue_up c.args.message) (other (end_at c.args.writer p)) p) c.args.self.now.rows.items c.args.conn x c.queue_up.new.self there
    (e ∙ ap (λ (n : End). set_side (queue_up c.args.message) n (pipe_of x)) to)) refl a) c.queue_up.ensures.queued

pub returns-clause-same : goal.returns-clause-same
returns-clause-same c = on-err c.queue_up.result (λ e pipes a.
    let x : Row = c.index_mut.result.now in
    let there = row-there c.args.self.now c.len.result c.args.conn x c.len.ensures c.if-index-len.false c.index_mut.ensures.value in
    kept c.args.conn pipes c.args.self.now _ x c.queue_up.new.self there e refl refl a) c.queue_up.ensures.same
