use Rattle.net_frames.proofs.StreamLaws.{then_rest, rest_of}
use Rattle.net_frames.proofs.laws.the_rest_is_read_as_if_alone.Goals as goal

pub returns-clause-alone : goal.returns-clause-alone
returns-clause-alone c = then_rest

pub returns-clause-together : goal.returns-clause-together
returns-clause-together c = rest_of
