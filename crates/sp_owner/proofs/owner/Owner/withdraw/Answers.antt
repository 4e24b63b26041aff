use Rattle.sp_owner.proofs.OwnerLemmas.{withdrawn}
use Rattle.sp_owner.proofs.owner.Owner.withdraw.Goals as goal

pub returns : goal.returns
returns c = λ g s is. withdrawn g s c.args.self.now c.withdraw.new.self c.forget.new.entries c.args.ids.now is (c.in_ok-withdraw.ensures.ok g s.store is.store) c.withdraw.ensures.made c.in_ok-withdraw.ensures.holds (c.forget.ensures s.owner.entries is.entries)
