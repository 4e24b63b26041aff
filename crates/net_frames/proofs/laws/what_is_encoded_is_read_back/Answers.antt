use Rattle.net_frames.proofs.StreamLaws.{fed_back, not_refused}
use Rattle.net_frames.proofs.laws.what_is_encoded_is_read_back.Goals as goal

pub returns-clause-frames : goal.returns-clause-frames
returns-clause-frames c = fed_back

pub returns-clause-error : goal.returns-clause-error
returns-clause-error c = not_refused
