use Rattle.std.proofs.Common.{◌∷◌, refl}
use Rattle.sp_rules.specs.State.{Written}
use Rattle.sp_owner.proofs.OwnerLemmas.{if-some, put-into}
use Rattle.sp_owner.proofs.owner.Owner.put_field.Goals as goal

pub returns-clause-written : goal.returns-clause-written
returns-clause-written c = if-some c.put_field.result _ _ (λ _ written. λ g s is.
    put-into g s (record s { store = Written c.args.id c.args.slot c.args.value ∷ s.store }) c.args.self.now c.put_field.new.self refl refl is (written g s.store is.store) c.put_field.ensures.made c.put_field.ensures.holds) c.put_field.ensures.written
