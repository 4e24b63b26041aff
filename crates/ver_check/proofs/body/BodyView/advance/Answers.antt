use Rattle.std.proofs.Common.{◌+◌, add-one, refl}
use Rattle.ver_check.proofs.Stops.{stopped}
use Rattle.ver_check.specs.Faults as faults
use Rattle.ver_check.specs.Faults.{IsBodyFault, IsWrongAt}
use Rattle.ver_check.specs.Flow.{Passes, Reaches}
use Rattle.ver_check.specs.Flow.Reaches.{comes_on}
use Rattle.ver_check.proofs.body.BodyView.advance.Goals as goal

pub returns-in-Ok : goal.returns-in-Ok
returns-in-Ok c =
    rw add-one (comes_on c.args.index c.insn.result c.args.frame.now c.pass.new.frame c.requires.reached c.insn.ensures c.in-Ok.ensures)

pub returns-in-Err : goal.returns-in-Err
returns-in-Err c =
    let body = c.args.self.now in
    let insn = c.insn.result in
    let here = c.args.frame.now in
    rw c.fault.ensures (stopped body.offsets c.args.index c.in-Err.stop (Passes body c.args.index insn here c.pass.new.frame) (IsWrongAt body c.args.index insn here) (IsBodyFault body) (λ _. Reaches body (c.args.index + 1) c.pass.new.frame)
    (λ rule told wrong. record { told = told; wrong = faults.IsWrongBody.instruction c.requires.arguments c.args.index insn here c.requires.reached c.insn.ensures wrong; offset = refl }) c.in-Err.ensures)
