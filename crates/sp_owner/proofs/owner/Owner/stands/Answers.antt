use Rattle.std.proofs.Common.{ap, ◌∙◌}
use Rattle.std.specs.Prelude.{is_some}
use Rattle.sp_rules.specs.State.{standing}
use Rattle.sp_owner.proofs.OwnerLemmas.{stands-is}
use Rattle.sp_owner.proofs.owner.Owner.stands.Goals as goal

pub returns : goal.returns
returns c = λ g s is. c.is_some.ensures ∙ ap is_some (c.class_of.ensures g s.store is.store) ∙ stands-is c.args.id (standing s.store)
