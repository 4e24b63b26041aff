use Rattle.std.proofs.Common.{List, ◌∷◌, subst, ◌∙◌}
use Rattle.dgc_list.specs.History.{Dirty, IsAfter}
use Rattle.space_ids.specs.declared.ids.ObjId.{ObjId}
use Rattle.sp_rules.specs.Frames.{that_stand}
use Rattle.sp_owner.proofs.OwnerLemmas.{on-ok, told-more}
use Rattle.sp_owner.proofs.owner.Owner.dirty.Goals as goal

pub returns-clause-told : goal.returns-clause-told
returns-clause-told c = on-ok c.dirty.result _ _ (λ told. λ g s is.
    told-more g s c.args.self.now (Dirty c.args.client.now (that_stand s c.args.ids.now) c.args.sequence c.args.period) c.dirty.new.self
    (subst (λ (ids : List ObjId). IsAfter (Dirty c.args.client.now ids c.args.sequence c.args.period ∷ s.owner.entries) c.dirty.new.self) (c.deref.ensures.value ∙ c.in_ok-standing.ensures g s is) (told s.owner.entries is.entries)) is) c.dirty.ensures.ok
