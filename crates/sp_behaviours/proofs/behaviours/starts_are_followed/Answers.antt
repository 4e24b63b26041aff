use Rattle.sp_behaviours.proofs.Starting.{starts-follow}
use Rattle.sp_behaviours.proofs.behaviours.starts_are_followed.Goals as goal

pub returns : goal.returns
returns c = starts-follow
