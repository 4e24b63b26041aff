use Rattle.ver_check.proofs.Links.{within_at}
use Rattle.ver_check.proofs.Starts.{declared_stand}
use Rattle.ver_check.proofs.all_methods.check_code.Goals as goal

pub find_frames-requires-clause-starts : goal.find_frames-requires-clause-starts
find_frames-requires-clause-starts c =
    let stand = declared_stand c.args.method.now c.in-Ok.frames c.in-Ok.ensures.declared in
    rw (c.as_slice-offsets.ensures) (rw (← c.method.view_is) at stand)

pub check-requires-clause-within : goal.check-requires-clause-within
check-requires-clause-within c = λ index f e.
    within_at c.args.method.now c.in-Ok.frames c.in-Ok.ensures.within index f e
