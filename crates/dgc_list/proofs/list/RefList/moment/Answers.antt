use Rattle.std.proofs.Common.{refl}
use Rattle.dgc_list.proofs.ListLemmas.{after-early, after-moment}
use Rattle.dgc_list.proofs.list.RefList.moment.Goals as goal

pub returns-then-moment-self : goal.returns-then-moment-self
returns-then-moment-self c = λ h after. after-early h c.args.self.now c.args.moment c.if-moment-self.true after

pub returns : goal.returns
returns c = λ h after. after-moment h c.args.self.now _ c.args.moment c.if-moment-self.false refl c.expire.ensures.objects c.expire.ensures.covered c.expire.ensures.none after
