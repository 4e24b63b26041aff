use Rattle.std.proofs.Common.{arith, map}
use Rattle.sp_outputs.specs.Notes.{output_of}
use Rattle.sp_rules.specs.Space.{state_of}
use Rattle.sp_space_runs.proofs.Histories.{ends-so, goes-so}
use Rattle.sp_space_runs.proofs.in_space.play.Goals as goal

pub returns-in-Some-clause-ended : goal.returns-in-Some-clause-ended
returns-in-Some-clause-ended c = λ program g first began begun.
    let goes = c.loop-outputs.invariant program g first began begun in
    let s = state_of g goes.history in
    let outputs = map output_of c.in-Ok.outputs.items in
    ends-so program g first began c.loop-outputs.left c.loop-outputs.space c.step.new.self outputs goes (c.in-Ok.ensures.accepted g s goes.stands) (c.in-Ok.ensures.outputs g s goes.stands)
    (c.in-Ok.ensures.state g s goes.stands) c.ended.result c.ended.ensures c.in-Some.outcome c.in-Some.is

pub overflow_sub-left : goal.overflow_sub-left
overflow_sub-left c =
    let (program, g, first, began, begun) = c.requires in
    let goes = c.loop-outputs.invariant program g first began begun in
    let s = state_of g goes.history in
    let outputs = map output_of c.in-Ok.outputs.items in
    (goes-so program g first began c.loop-outputs.left c.loop-outputs.space c.step.new.self outputs goes (c.in-Ok.ensures.accepted g s goes.stands) (c.in-Ok.ensures.outputs g s goes.stands)
    (c.in-Ok.ensures.state g s goes.stands) c.ended.result c.ended.ensures c.in_default-ended.is).0

pub loop-outputs-smaller : goal.loop-outputs-smaller
loop-outputs-smaller c = omega (arith, overflow_sub-left c)

pub loop-outputs-preserved : goal.loop-outputs-preserved
loop-outputs-preserved c = λ program g first began begun.
    let goes = c.loop-outputs.invariant program g first began begun in
    let s = state_of g goes.history in
    let outputs = map output_of c.in-Ok.outputs.items in
    (goes-so program g first began c.loop-outputs.left c.loop-outputs.space c.step.new.self outputs goes (c.in-Ok.ensures.accepted g s goes.stands) (c.in-Ok.ensures.outputs g s goes.stands)
    (c.in-Ok.ensures.state g s goes.stands) c.ended.result c.ended.ensures c.in_default-ended.is).1
