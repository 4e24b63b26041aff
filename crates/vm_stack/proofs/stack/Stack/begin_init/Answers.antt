use Rattle.vm_stack.proofs.Rows.{frames_of-begun}
use Rattle.vm_stack.proofs.stack.Stack.begin_init.Goals as goal

pub returns : goal.returns
returns c =
    rw (← c.self.view_is, c.begin_init.ensures)
    (frames_of-begun c.self.inside.words.values c.self.inside.link c.self.inside.top c.self.inside.links.items c.self.inside.free c.get-word.result
    c.self.invariant.placed (rw (← c.self.view_is) at c.requires) c.get-word.ensures)
