use Rattle.sp_inflow.proofs.CourseLemmas.{first-events}
use Rattle.sp_inflow.proofs.laws.what_is_told_are_the_events_of_the_bytes.Goals as goal

pub returns : goal.returns
returns g c = first-events g.S.Source.remaining
