use Rattle.ver_check.proofs.FrameIndices.{read_index, past_indices, past_last}
use Rattle.ver_check.specs.Bodies.{declared_at}
use Rattle.ver_check.proofs.body.BodyView.index_at.Goals as goal

pub returns-in-Some : goal.returns-in-Some
unfolding declared_at
returns-in-Some c =
    let inside = c.self.inside in
    let found = c.in-Some.ensures.lookup in
    rw (← c.self.view_is, c.from.ensures) (read_index inside.declared.now inside.method.now.linked.offsets inside.indices.now c.args.index c.in-Some.frame.now c.self.invariant.0 found.3.0 found.1)

pub returns-in-None : goal.returns-in-None
unfolding declared_at
returns-in-None c =
    let inside = c.self.inside in
    rw (← c.self.view_is, c.len.ensures, past_last inside.declared.now) (past_indices inside.declared.now inside.method.now.linked.offsets inside.indices.now c.args.index c.self.invariant.0 c.in-None.ensures.lookup.3)
