use Rattle.std.proofs.Common.{arith}
use Rattle.dev_io.proofs.Writes.{appends_more}
use Rattle.dev_io.proofs.writing.write_all.Goals as goal

pub loop-taken-preserved : goal.loop-taken-preserved
loop-taken-preserved g c = (
  omega (arith, c.in-Ok.ensures.within, c.split_at.ensures.back_len),
  appends_more (g.K.Sink.contents c.args.sink.now) (g.K.Sink.contents c.loop-taken.sink) (g.K.Sink.contents c.write.new.self) c.args.bytes.now c.split_at.result.1.now c.loop-taken.taken c.in-Ok.count c.split_at.ensures.back c.loop-taken.invariant.1 c.in-Ok.ensures.bytes,
)
