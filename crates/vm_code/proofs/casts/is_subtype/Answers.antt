use Rattle.std.proofs.Common.{arith}
use Rattle.vm_code.proofs.Subtypes.{subtype_test}
use Rattle.vm_code.proofs.casts.is_subtype.Goals as goal

pub returns : goal.returns
returns c =
    let count = c.len.ensures.count in
    let inside = c.if-class-len.false in
    subtype_test c.args.set.now c.len.ensures.set c.args.class c.args.asked c.implements.result (omega (arith, count, inside)) c.implements.ensures
