use Rattle.std.proofs.Common.{◌≡◌, ◌+◌, ◌-◌, length, take, drop, arith}
use Rattle.std.proofs.lemmas.List.{length-take, length-drop}
use Rattle.net_engine.proofs.Moves.{moved}
use Rattle.net_engine.proofs.inbound.read_more.Goals as goal

pub returns-in-Ok-clause-bytes : goal.returns-in-Ok-clause-bytes
returns-in-Ok-clause-bytes g c =
    let part = (c.args.filled + c.args.missing) - c.args.filled in
    let kept : length c.read.new.buffer ≡ length (take part (drop c.args.filled c.args.buffer.now)) = c.read.auto.buffer in
    let len : length c.read.new.buffer ≡ part = omega (arith, kept, length-take part (drop c.args.filled c.args.buffer.now), length-drop c.args.filled c.args.buffer.now) in
    moved g.S.Source.remaining c.args.buffer.now c.read.new.buffer c.args.filled part c.in-Ok.count c.args.source.now c.read.new.self (omega arith) len (omega (arith, c.in-Ok.ensures.within, len)) c.in-Ok.ensures.bytes.0
