use Rattle.net_frames.proofs.StreamLaws.{alone}
use Rattle.net_frames.proofs.laws.a_frame_is_a_stream.Goals as goal

pub returns : goal.returns
returns c = alone
