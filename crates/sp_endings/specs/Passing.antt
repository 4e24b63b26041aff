-- What becomes of frames that were parked, once they have been taken out. (This project's own.)
use Rattle.sp_rules.specs.Classes.{Setting}
use Rattle.sp_rules.specs.Holders.{drop_ids}
use Rattle.sp_rules.specs.ParkedFrames.{fail_frame, go_frame}
use Rattle.sp_rules.specs.State.{State, ParkedFrame}

-- A frame that has been taken out goes: a task or a result holds its references before it lets them go.
abbrev pub pass_on : Setting → State → ParkedFrame → State
pass_on g s p = drop_ids p.references (go_frame g p p.frame s)

-- A frame that has been taken out fails.
abbrev pub give_up : Setting → State → ParkedFrame → State
give_up g s p = fail_frame g p p.frame (drop_ids p.references s)

-- A frame that has been taken out lets its references go.
abbrev pub let_references_go : State → ParkedFrame → State
let_references_go s p = drop_ids p.references s
