use Rattle.sp_behaviours.proofs.Following.{ends-told, stands}
use Rattle.sp_behaviours.proofs.behaviours.tasks_stand_where_machines_stand.Goals as goal

pub returns : goal.returns
returns c = record { stands = stands; ends = ends-told }
