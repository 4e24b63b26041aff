use Rattle.vm_stack.proofs.Rows.{frames_of-set}
use Rattle.vm_stack.proofs.stack.Stack.set_local.Goals as goal

pub returns : goal.returns
returns c =
    rw (← c.self.view_is, c.set.ensures)
    (frames_of-set c.self.inside.words.values c.self.inside.link c.self.inside.top c.self.inside.links.items c.self.inside.free c.args.local c.args.word
    c.self.invariant.placed (rw (← c.self.view_is) at c.requires))
