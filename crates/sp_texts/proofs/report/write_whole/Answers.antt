use Rattle.std.proofs.Common.{arith}
use Rattle.dev_io.proofs.Writes.{appends_more}
use Rattle.sp_texts.proofs.report.write_whole.Goals as goal

pub loop-taken-preserved : goal.loop-taken-preserved
loop-taken-preserved g c = (
  omega (arith, (c.in_ok-taken.ensures).within, c.split_at.ensures.back_len),
  appends_more (g.W.Write.contents c.args.to.now) (g.W.Write.contents c.loop-taken.to) (g.W.Write.contents c.write_part.new.writer) c.args.text.now c.split_at.result.1.now c.loop-taken.taken c.in_ok-taken.field-0 c.split_at.ensures.back c.loop-taken.invariant.1 (c.in_ok-taken.ensures).bytes,
)
