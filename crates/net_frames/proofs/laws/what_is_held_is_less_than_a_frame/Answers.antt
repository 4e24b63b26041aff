use Rattle.net_frames.proofs.StreamLaws.{held_short}
use Rattle.net_frames.proofs.laws.what_is_held_is_less_than_a_frame.Goals as goal

pub returns : goal.returns
returns c = held_short
