-- When what lives in a space is in the state that the rules of spaces give: one line a part. (This project's own.)
use Rattle.std.specs.Prelude.{◌≡◌}
use Rattle.sp_rules.specs.Classes.{Setting}
use Rattle.sp_rules.specs.State.{State}
use Rattle.sp_transport.specs.Transports.{IsTransport}
use Rattle.sp_living.specs.Parts.{AreParkedIn, AreResults, AreTasks, IsMoment}
use Rattle.sp_living.specs.declared.living.Living.{Living}

-- The tasks, the results that are held and the parked frames are those of the state, and so is the space's side of the transport.
pub record IsLiving (g : Setting) (s : State) (l : Living) : Type 0 where
  pub id : l.id ≡ g.id
  pub moment : IsMoment l.moment s.moment
  pub transport : IsTransport s l.transport
  pub tasks : AreTasks g s.tasks_made s.tasks l.tasks
  pub results : AreResults s.moment s.results l.results l.call_results
  pub parked : AreParkedIn s.parked l.parked
