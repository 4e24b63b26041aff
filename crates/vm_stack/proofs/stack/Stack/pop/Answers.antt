use Rattle.std.proofs.Common.{◌≡◌, ◌+◌, ◌-◌, ◌<◌, ◌≤◌, length, sym, ap, ◌∙◌, arith, refl, Some, slice_get}
use Rattle.vm_stack.specs.Layout.{frames_of}
use Rattle.vm_stack.proofs.Rows.{frames_of-pop, has_operand}
use Rattle.vm_stack.proofs.stack.Stack.pop.Goals as goal

pub returns : goal.returns
returns c =
    let some : c.self.inside.link.base < c.self.inside.top =
    has_operand c.self.inside.words.values c.self.inside.link c.self.inside.top (rw (← c.self.view_is) at c.requires) in
    let one : c.self.inside.top - 1 + 1 ≡ c.self.inside.top = omega arith in
    let base : c.self.inside.link.base ≤ c.self.inside.top - 1 = omega arith in
    rw (← c.self.view_is)
    (rw one at (frames_of-pop c.self.inside.words.values c.self.inside.link (c.self.inside.top - 1) c.self.inside.links.items c.self.inside.free c.get.result base c.get.ensures))
