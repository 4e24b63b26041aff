use Rattle.std.proofs.Common.{List, ap, ◌∙◌}
use Rattle.std.specs.Prelude.{◌||◌}
use Rattle.space_ids.specs.declared.ids.ObjId.{ObjId}
use Rattle.sp_rules.specs.References.{is_id_in}
use Rattle.sp_endings.specs.Needs.{is_needed}
use Rattle.sp_state.proofs.SweepLemmas.{idle-is}
use Rattle.sp_state.proofs.space_state.SpaceState.idle.Goals as goal

pub returns : goal.returns
returns c = λ g s is. c.in_ok-ids.ensures g s is.owner ∙ idle-is g s c.insert_own.new.ids
    (λ id. c.in_ok-insert_own.ensures g s is.living id ∙ ap (λ (ids : List ObjId). is_id_in ids id || is_needed g s id) c.new-needed.ensures)
