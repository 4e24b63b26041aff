use Rattle.std.proofs.Common.{ℕ, subst, arith}
use Rattle.ver_check.proofs.Typings.{proved_safe}
use Rattle.ver_check.specs.Flow.{Reaches}
use Rattle.ver_check.proofs.body.BodyView.check.Goals as goal

pub returns : goal.returns
returns c =
    let body = c.args.self.now in
    let opens = c.in_ok-frame.ensures.1 in
    proved_safe body c.loop-index.frame c.requires.listed (omega (arith, opens.locals)) c.in_ok-frame.ensures.2 opens c.requires.within
    (subst (λ (n : ℕ). Reaches body n c.loop-index.frame) {x = c.loop-index.index} (omega arith) c.loop-index.invariant)

pub advance-requires-clause-arguments : goal.advance-requires-clause-arguments
advance-requires-clause-arguments c = omega (arith, c.in_ok-frame.ensures.1.locals)
