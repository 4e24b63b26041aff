use Rattle.std.proofs.Common.{sym}
use Rattle.sp_rules.specs.State.{opening}
use Rattle.sp_owner.proofs.owner.Owner.new.Goals as goal

pub returns : goal.returns
unfolding opening
returns c = λ g same. record {
  id = sym same;
  store = c.new.ensures.after g (sym (sym same));
  holds = c.new.ensures.holds;
  objects_made = c.new.ensures.made;
  names = c.in_ok-new.ensures;
  entries = c.with_hashes.ensures;
}
