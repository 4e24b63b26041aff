use Rattle.net_frames.proofs.StreamLaws.{two_readings}
use Rattle.net_frames.proofs.laws.no_bytes_have_two_readings.Goals as goal

pub returns : goal.returns
returns c = two_readings
