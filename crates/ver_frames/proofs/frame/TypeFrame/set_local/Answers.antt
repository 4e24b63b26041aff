use Rattle.std.proofs.Common.{◌≡◌, ◌<◌, ◌≤◌, ℕ, Bool, List, length, reverse, ap, vec_len, arith}
use Rattle.ver_frames.proofs.Fillings.{filled_count, filled_set, filled_set_after}
use Rattle.ver_frames.specs.Frames.{Frame, filled}
use Rattle.ver_frames.specs.declared.vtype.VType.{VType}
use Rattle.ver_frames.proofs.frame.TypeFrame.set_local.Goals as goal

abbrev frame_of : List VType → Bool → List VType → Frame
frame_of stack flag locals = record { locals = locals; stack = stack; flag_this_uninit = flag }

pub returns-then-index-len-clause-ok : goal.returns-then-index-len-clause-ok
returns-then-index-len-clause-ok c =
    let i = c.self.inside in
    rw (c.from-index.ensures, ← c.self.view_is)
    (ap (frame_of (reverse i.stack.items) i.flag_this_uninit)
    (filled_set i.max_locals i.locals.items c.args.number c.args.kind (omega (arith, c.from-index.ensures, c.len.ensures, i.locals.ok.0, c.if-index-len.true))))

pub returns-clause-ok : goal.returns-clause-ok
returns-clause-ok c =
    let i = c.self.inside in
    let stored : vec_len i.locals ≡ length i.locals.items = omega (arith, i.locals.ok.0) in
    let after : length i.locals.items ≤ c.args.number = omega (arith, c.from-index.ensures, c.len.ensures, i.locals.ok.0, c.if-index-len.false) in
    let all = filled_count i.max_locals i.locals.items in
    let long : length (filled i.max_locals i.locals.items) ≡ length c.args.self.now.locals = ap (λ (f : Frame). length f.locals) c.self.view_is in
    let within : c.args.number < i.max_locals = omega (arith, c.requires, all, long, after) in
    rw (← c.self.view_is)
    (ap (frame_of (reverse i.stack.items) i.flag_this_uninit)
    (filled_set_after i.max_locals i.locals.items c.args.number c.from-index.result (vec_len i.locals) c.args.kind c.resize.new.self.items c.from-index.ensures stored after within c.in_ok-resize.ensures.items))
