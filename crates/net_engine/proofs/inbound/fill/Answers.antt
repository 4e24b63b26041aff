use Rattle.std.proofs.Common.{◌≡◌, ◌+◌, ◌≤◌, List, ℕ, length, take, subst, arith}
use Rattle.std.proofs.KnownBytes.{Keeps-trans}
use Rattle.net_frames.specs.Stream.{IsPartial, known_end}
use Rattle.net_engine.specs.Engine.{known}
use Rattle.net_engine.proofs.Moves.{end_fits, read_within}
use Rattle.net_engine.proofs.inbound.fill.Goals as goal

pub loop-look-preserved : goal.loop-look-preserved
loop-look-preserved g c =
    let seen = rw c.in-Missing.is at c.in_ok-look.ensures in
    let fits : c.loop-look.filled ≤ length c.loop-look.buffer = omega (arith, c.loop-look.invariant.0, c.loop-look.invariant.1) in
    let ends : length (take c.loop-look.filled c.loop-look.buffer) + c.in-Missing.count ≡ known_end (take c.loop-look.filled c.loop-look.buffer) =
    subst (λ (held : List ℕ). length held + c.in-Missing.count ≡ known_end held) c.split_at.ensures.front seen.2 in
    let partial : IsPartial (take c.loop-look.filled c.loop-look.buffer) = subst IsPartial c.split_at.ensures.front seen.0 in (
      omega (arith, c.read_more.auto.buffer, c.loop-look.invariant.0),
      omega (arith, end_fits c.split_at.result.0.now seen.0, seen.2, c.split_at.ensures.front_len, c.in-Ok.ensures.within),
      read_within c.loop-look.buffer c.read_more.new.buffer c.loop-look.filled c.in-Ok.count c.in-Missing.count partial c.in-Ok.ensures.front fits c.in-Ok.ensures.within ends,
      Keeps-trans (known g.S.Source.remaining (take c.args.filled.now c.args.buffer.now) c.args.source.now) (known g.S.Source.remaining (take c.loop-look.filled c.loop-look.buffer) c.loop-look.source)
          (known g.S.Source.remaining (take (c.loop-look.filled + c.in-Ok.count) c.read_more.new.buffer) c.read_more.new.source) c.loop-look.invariant.3 c.in-Ok.ensures.bytes,
    )
