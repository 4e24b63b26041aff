use Rattle.sp_laws.proofs.PlaceEvents
use Rattle.sp_laws.proofs.laws.answers_are_parked.Goals as goal

pub returns : goal.returns
returns c = PlaceEvents.answers_are_parked
