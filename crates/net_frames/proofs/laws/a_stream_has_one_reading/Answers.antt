use Rattle.net_frames.proofs.StreamLaws.{one_reading}
use Rattle.net_frames.proofs.laws.a_stream_has_one_reading.Goals as goal

pub returns : goal.returns
returns c = one_reading
