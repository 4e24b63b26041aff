use Rattle.std.proofs.Common.{inl, inr, arith}
use Rattle.std.proofs.lemmas.Result.{err_from_is_err_and}
use Rattle.net_frames.proofs.FrontLaws.{length_breaks, is_missing, front_fails, is_whole}
use Rattle.net_frames.proofs.front.read_front.Goals as goal

pub returns-then-body_length-lt1 : goal.returns-then-body_length-lt1
returns-then-body_length-lt1 c =
    length_breaks c.args.bytes.now c.told_length-body_length.result c.told_length-body_length.ensures c.if-bytes-lt4.false (elim c.then-body_length-lt1.either [ inl low ↦ inl low | inr high ↦ inr high.1 ])

pub returns-then-bytes-length : goal.returns-then-bytes-length
returns-then-bytes-length c =
    is_missing c.args.bytes.now c.told_length-body_length.result c.told_length-body_length.ensures c.if-bytes-lt4.false c.if-body_length-lt1.false c.if-body_length-gt-MAX_BODY.false c.if-bytes-length.true

pub returns-in_err-frame : goal.returns-in_err-frame
returns-in_err-frame c =
    let p = err_from_is_err_and c.from_residual.result c.from_residual.ensures.1 in
    rw (p.1, p.2)
    (front_fails c.args.bytes.now c.first_body.result.now c.told_length-body_length.result c.in_err-frame.field-0.0 c.first_body.ensures c.told_length-body_length.ensures c.if-body_length-lt1.false c.if-body_length-gt-MAX_BODY.false c.if-bytes-length.false c.in_err-frame.ensures)

pub returns : goal.returns
returns c =
    is_whole c.args.bytes.now c.first_body.result.now c.told_length-body_length.result c.in_ok-frame.frame (λ i. omega (arith, c.type_inv.bytes i)) c.first_body.ensures c.told_length-body_length.ensures c.if-body_length-lt1.false c.if-body_length-gt-MAX_BODY.false c.if-bytes-length.false c.in_ok-frame.ensures
