use Rattle.std.proofs.Common.{◌≡◌, ◌+◌, ◌-◌, ◌<◌, length, sym, ap, ◌∙◌, arith, refl, Some, slice_get}
use Rattle.vm_stack.specs.Frames.{Frames}
use Rattle.vm_stack.proofs.Rows.{local_read, local_fits}
use Rattle.vm_stack.proofs.stack.Stack.local.Goals as goal

pub overflow_add-self-inside : goal.overflow_add-self-inside
overflow_add-self-inside c = omega (arith, local_fits c.self.inside.words.values c.self.inside.link c.self.inside.top c.args.local c.self.invariant.placed (rw (← c.self.view_is) at c.requires))

pub returns : goal.returns
returns c =
    rw (← c.self.view_is)
    (local_read c.self.inside.words.values c.self.inside.link c.self.inside.top c.args.local c.self.invariant.placed (rw (← c.self.view_is) at c.requires) ∙ c.get.ensures)
