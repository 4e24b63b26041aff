use Rattle.std.proofs.Common.{refl}
use Rattle.dgc_list.proofs.ListLemmas.{after-same}
use Rattle.dgc_list.proofs.list.RefList.reserve_clean.Goals as goal

pub returns-in-Ok-clause-same : goal.returns-in-Ok-clause-same
returns-in-Ok-clause-same c = λ h after. after-same h c.args.self.now _ refl c.make_room.ensures.same (λ other there. there) after

pub returns-in-Err-clause-same : goal.returns-in-Err-clause-same
returns-in-Err-clause-same c = λ h after. c.release.ensures.same h (after-same h c.args.self.now _ refl c.make_room.ensures.same (λ other there. there) after)
