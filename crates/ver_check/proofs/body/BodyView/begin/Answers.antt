use Rattle.std.proofs.Common.{◌<◌, ◌≤◌, length, ap, refl, arith}
use Rattle.ver_check.proofs.Stops.{stopped}
use Rattle.ver_check.specs.Faults.{IsBodyFault, IsWrongBody, IsWrongEntry}
use Rattle.ver_check.specs.Faults as faults
use Rattle.ver_check.specs.Flow.{ComesIn, Reaches}
use Rattle.ver_check.specs.Flow.Reaches.{begins}
use Rattle.ver_check.specs.Typing.{IsWithin}
use Rattle.ver_frames.specs.Frames.{Frame}
use Rattle.ver_check.proofs.body.BodyView.begin.Goals as goal

pub returns-in-Ok : goal.returns-in-Ok
returns-in-Ok c =
    let opens = c.in_ok-frame.ensures.opening in (
      begins c.enter.new.frame (rw opens at c.in-Ok.ensures 0),
      record {
        locals = omega (arith, c.local_count.ensures, ap (λ (f : Frame). length f.locals) opens, c.in_ok-frame.ensures.full);
        stack = rw c.in_ok-frame.ensures.empty (omega arith);
      },
      omega (arith, c.if-insn_count-eq0.false, c.insn_count.ensures),
    )

pub returns-in-Err : goal.returns-in-Err
returns-in-Err c =
    let body = c.args.self.now in
    let opens = c.in_ok-frame.ensures.opening in
    let settled = rw opens at c.in-Err.ensures 0 in
    let few : length body.opening.locals ≤ body.max_locals = omega (arith, c.local_count.ensures, ap (λ (f : Frame). length f.locals) opens) in
    rw c.fault-in-Err.ensures (stopped body.offsets 0 c.in-Err.stop (ComesIn body 0 body.opening c.enter.new.frame) (IsWrongEntry body 0 body.opening 0) (IsBodyFault body) (λ frame. Reaches body 0 frame × IsWithin body body.opening × (0 < length body.insns))
    (λ rule told wrong. record { told = told; wrong = faults.IsWrongBody.opening few wrong; offset = refl }) settled)
