use Rattle.sp_behaviours.proofs.Following.{lent-left, replies-follow}
use Rattle.sp_behaviours.proofs.behaviours.replies_are_followed.Goals as goal

pub returns : goal.returns
returns c = record { follows = replies-follow; lent = lent-left }
