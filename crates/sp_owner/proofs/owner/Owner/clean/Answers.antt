use Rattle.std.proofs.Common.{List, ◌∷◌, subst, ◌∙◌}
use Rattle.dgc_list.specs.History.{Clean, IsAfter}
use Rattle.space_ids.specs.declared.ids.ObjId.{ObjId}
use Rattle.sp_rules.specs.Frames.{that_stand}
use Rattle.sp_owner.proofs.OwnerLemmas.{on-ok, told-more}
use Rattle.sp_owner.proofs.owner.Owner.clean.Goals as goal

pub returns : goal.returns
returns c = on-ok c.clean.result _ _ (λ told. λ g s is.
    told-more g s c.args.self.now (Clean c.args.client.now (that_stand s c.args.ids.now) c.args.sequence c.args.strong) c.clean.new.self
    (subst (λ (ids : List ObjId). IsAfter (Clean c.args.client.now ids c.args.sequence c.args.strong ∷ s.owner.entries) c.clean.new.self) (c.deref.ensures.value ∙ c.in_ok-standing.ensures g s is) (told s.owner.entries is.entries)) is) c.clean.ensures.ok
