use Rattle.std.proofs.Common.{◌∙◌}
use Rattle.ver_frames.specs.Changes.{is_made_at}
use Rattle.ver_frames.proofs.Changing.{any_reverse}
use Rattle.ver_frames.proofs.frame.TypeFrame.has_made_at.Goals as goal

pub returns : goal.returns
returns c =
    let i = c.self.inside in
    rw (← c.self.view_is) (rw c.deref.ensures.value at c.any_made_at.ensures ∙ any_reverse (is_made_at c.args.offset) i.stack.items)
