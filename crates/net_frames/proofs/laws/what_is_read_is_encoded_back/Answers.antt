use Rattle.net_frames.proofs.StreamLaws.{fed_one}
use Rattle.net_frames.proofs.laws.what_is_read_is_encoded_back.Goals as goal

pub returns : goal.returns
returns c = fed_one
