use Rattle.sp_held_laws.proofs.StandingLaws
use Rattle.sp_held_laws.proofs.laws.own_references_stand_in_worlds.Goals as goal

pub returns : goal.returns
returns c = StandingLaws.own_references_stand_in_worlds c.histories_are_taken.ensures c.states_are_histories.ensures c.own_references_stand.ensures
