use Rattle.std.proofs.Common.{refl, subst, sym}
use Rattle.vm_heap.specs.References.{Table}
use Rattle.vm_step.specs.Start.{AreHeld}
use Rattle.vm_step.proofs.Holding.{are_held}
use Rattle.vm_step.proofs.Begins.{opening_runs}
use Rattle.vm_step.proofs.opening.opening.Goals as goal

pub returns-clause-opens : goal.returns-clause-opens
returns-clause-opens c =
    opening_runs c.args.own c.args.method c.args.code.now c.args.arguments.now c.args.limits c.in_ok-stack.stack c.push_frame.new.self c.pass.new.stack c.in_ok-heap.heap c.copy_in.new.heap
    c.in_ok-references.references c.hold_all.new.references c.pass.new.references
    c.in_ok-stack.ensures (c.if-not-push_frame.ensures.fits.0 refl) c.if-not-push_frame.ensures.pushed
    c.pass.ensures.frame c.pass.ensures.callers c.pass.ensures.free c.in_ok-heap.ensures.empty
    c.if-not-copy_in.ensures.fits c.if-not-copy_in.ensures.cells c.if-not-copy_in.ensures.free c.in_ok-references.ensures
    c.if-not-hold_all.ensures.rows c.if-not-hold_all.ensures.held c.pass.ensures.references

pub pass-requires-clause-known : goal.pass-requires-clause-known
pass-requires-clause-known c =
    subst (λ (t : Table). AreHeld t c.args.arguments.now) (sym c.if-not-hold_all.ensures.held) (are_held c.args.arguments.now c.in_ok-references.references (sym c.if-not-hold_all.ensures.rows))
