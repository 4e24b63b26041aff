use Rattle.std.proofs.Common.{◌≤◌, length, arith}
use Rattle.vm_stack.proofs.Calls.{frames_of-without}
use Rattle.vm_stack.proofs.stack.Stack.discard.Goals as goal

pub returns : goal.returns
returns c =
    let written : c.self.inside.top ≤ length c.self.inside.words.values = omega (arith, c.self.invariant.within, c.self.invariant.used, c.self.invariant.placed.room) in
    rw (← c.self.view_is)
    (frames_of-without c.self.inside.words.values c.self.inside.link c.self.inside.top c.args.count c.self.inside.links.items c.self.inside.free
    c.self.invariant.placed.operands written (rw (← c.self.view_is) at c.requires))
