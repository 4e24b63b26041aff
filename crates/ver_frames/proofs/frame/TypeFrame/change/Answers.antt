use Rattle.std.proofs.Common.{◌≡◌, ◌∙◌, Bool, List, map, reverse, ap}
use Rattle.ver_frames.proofs.Changing.{filled_changed, reverse_map}
use Rattle.ver_frames.specs.Changes.{changed}
use Rattle.ver_frames.specs.Frames.{Frame, filled}
use Rattle.ver_frames.specs.declared.vtype.VType.{VType}
use Rattle.ver_frames.proofs.frame.TypeFrame.change.Goals as goal

abbrev frame_of : Bool → List VType → List VType → Frame
frame_of flag stack locals = record { locals = locals; stack = stack; flag_this_uninit = flag }

pub returns : goal.returns
returns c =
    let i = c.self.inside in
    let f = changed c.args.change in
    let locals : filled i.max_locals c.change_all.new.types.items ≡ map f (filled i.max_locals i.locals.items) =
    ap (filled i.max_locals) c.change_all.ensures ∙ filled_changed c.args.change i.max_locals i.locals.items in
    let stack : reverse c.change_all-2.new.types.items ≡ map f (reverse i.stack.items) =
    ap (λ (ts : List VType). reverse ts) c.change_all-2.ensures ∙ reverse_map f i.stack.items in
    rw (← c.self.view_is)
    (ap (frame_of i.flag_this_uninit (reverse c.change_all-2.new.types.items)) locals ∙ ap (λ (ts : List VType). frame_of i.flag_this_uninit ts (map f (filled i.max_locals i.locals.items))) stack)
