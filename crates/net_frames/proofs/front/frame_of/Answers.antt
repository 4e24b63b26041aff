use Rattle.std.proofs.Common.{arith}
use Rattle.std.proofs.lemmas.Result.{err_from_is_err_and}
use Rattle.net_frames.proofs.BodyLaws.{whole_takes}
use Rattle.net_frames.proofs.FrontLaws.{body_fails}
use Rattle.net_frames.proofs.front.frame_of.Goals as goal

pub returns-in_err-message : goal.returns-in_err-message
returns-in_err-message c =
    let p = err_from_is_err_and c.from_residual.result c.from_residual.ensures.1 in
    rw (p.1, p.2) (body_fails c.args.body.now c.in_err-message.field-0.0 (λ i. omega (arith, c.type_inv.body i)) c.in_err-message.ensures)

pub new-requires : goal.new-requires
new-requires c = (whole_takes c.args.body.now c.in_ok-message.message (λ i. omega (arith, c.type_inv.body i)) c.in_ok-message.ensures).1

pub returns : goal.returns
returns c =
    let t = whole_takes c.args.body.now c.in_ok-message.message (λ i. omega (arith, c.type_inv.body i)) c.in_ok-message.ensures in
    rw c.new.ensures t
