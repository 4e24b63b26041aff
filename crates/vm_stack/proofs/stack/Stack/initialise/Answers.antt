use Rattle.vm_stack.proofs.Rows.{frames_of-initialised}
use Rattle.vm_stack.proofs.stack.Stack.initialise.Goals as goal

pub returns : goal.returns
returns c =
    rw (← c.self.view_is, c.initialise.ensures)
    (frames_of-initialised c.self.inside.words.values c.self.inside.link c.self.inside.top c.self.inside.links.items c.self.inside.free c.args.word.now
    c.self.invariant.placed)
