use Rattle.std.proofs.Common.{◌∙◌, Bool, List, reverse, ap}
use Rattle.ver_frames.proofs.Changing.{filled_changed}
use Rattle.ver_frames.specs.Frames.{Frame, filled}
use Rattle.ver_frames.specs.declared.vtype.VType.{VType}
use Rattle.ver_frames.proofs.frame.TypeFrame.change_locals.Goals as goal

abbrev frame_of : List VType → Bool → List VType → Frame
frame_of stack flag locals = record { locals = locals; stack = stack; flag_this_uninit = flag }

pub returns : goal.returns
returns c =
    let i = c.self.inside in
    rw (← c.self.view_is) (ap (frame_of (reverse i.stack.items) i.flag_this_uninit)
    (ap (filled i.max_locals) c.change_all.ensures ∙ filled_changed c.args.change i.max_locals i.locals.items))
