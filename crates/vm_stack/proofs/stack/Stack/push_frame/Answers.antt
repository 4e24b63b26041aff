use Rattle.std.proofs.Common.{◌≡◌, ◌+◌, ◌-◌, ◌<◌, ◌≤◌, ◌++◌, List, length, ap, arith, take, drop, length-drop}
use Rattle.std.specs.Prelude.{replicate}
use Rattle.std.proofs.lemmas.List.{length-reverse, length-take}
use Rattle.vm_heap.specs.Tagged.{Tagged, Unset}
use Rattle.vm_heap.specs.Words.{Row}
use Rattle.vm_stack.specs.Layout.{frame_of}
use Rattle.vm_stack.proofs.Calls.{frames_of-called, count_locals, length-grown}
use Rattle.vm_stack.proofs.stack.Stack.push_frame.Goals as goal

pub returns-clause-pushed : goal.returns-clause-pushed
returns-clause-pushed c =
    let is = ap (λ (r : Row). r.values) c.grow_to.ensures in
    let written : c.self.inside.top ≤ length c.self.inside.words.values = omega (arith, c.self.invariant.within, c.self.invariant.used, c.self.invariant.placed.room) in
    let within : c.self.inside.top - c.args.arguments + c.args.max_locals ≤ length c.grow_to.new.self.values =
    omega (arith, length-grown c.self.inside.words.values c.grow_to.new.self.values _ is, c.room.ensures, c.if-self-cost.false, c.self.invariant.within, c.self.invariant.placed.room) in
    rw (← c.self.view_is, c.forget.ensures, c.push_reserved.ensures.items)
    (frames_of-called c.self.inside.words.values _ c.grow_to.new.self.values c.self.inside.link c.self.inside.top c.self.inside.links.items c.self.inside.free
    c.args.method c.args.arguments c.args.max_locals c.args.max_stack is c.self.invariant.placed written within c.requires.locals (rw (← c.self.view_is) at c.requires.passed))

pub returns-clause-count : goal.returns-clause-count
returns-clause-count c =
    let is = ap (λ (r : Row). r.values) c.grow_to.ensures in
    let within : c.self.inside.top - c.args.arguments + c.args.max_locals ≤ length c.grow_to.new.self.values =
    omega (arith, length-grown c.self.inside.words.values c.grow_to.new.self.values _ is, c.room.ensures, c.if-self-cost.false, c.self.invariant.within, c.self.invariant.placed.room) in
    let given : c.args.arguments ≤ length (frame_of (take c.self.inside.top c.self.inside.words.values) c.self.inside.link).operands = rw (← c.self.view_is) at c.requires.passed in
    let few : c.args.arguments ≤ c.self.inside.top =
    omega (
      arith,
      given,
      length-reverse (drop c.self.inside.link.base (take c.self.inside.top c.self.inside.words.values)),
      length-drop c.self.inside.link.base (take c.self.inside.top c.self.inside.words.values),
      length-take c.self.inside.top c.self.inside.words.values,
    ) in
    rw (c.forget.ensures) (count_locals c.grow_to.new.self.values c.self.inside.top c.args.arguments c.args.max_locals few c.requires.locals within)
