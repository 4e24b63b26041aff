use Rattle.std.proofs.Common.{◌∙◌, ap}
use Rattle.sp_owner.specs.Owners.{owner_parts}
use Rattle.sp_owner.proofs.owner.Owner.copy.Goals as goal

pub returns : goal.returns
returns c = λ g s is. record {
  id = is.id;
  store = c.in_ok-copy.ensures.after g s.store is.store;
  holds = λ id. c.in_ok-copy.ensures.holds id ∙ is.holds id;
  objects_made = c.in_ok-copy.ensures.made ∙ is.objects_made;
  names = ap (λ n. n.bindings) c.in_ok-copy-2.ensures.copied ∙ is.names;
  entries = c.in_ok-copy-3.ensures.copied s.owner.entries is.entries;
}
