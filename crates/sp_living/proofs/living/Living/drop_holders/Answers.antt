use Rattle.std.proofs.Common.{List, refl, sym, subst, ◌∙◌}
use Rattle.std.proofs.lemmas.List.{take_all}
use Rattle.space_ids.specs.declared.ids.Ref.{Ref}
use Rattle.sp_rules.specs.Holders.{drop}
use Rattle.sp_rules.specs.State.{State}
use Rattle.sp_living.specs.Livings.{IsLiving}
use Rattle.sp_living.proofs.HolderLemmas.{drop-next}
use Rattle.sp_living.proofs.LivingLemmas.{dropped-none}
use Rattle.sp_living.proofs.living.Living.drop_holders.Goals as goal

pub loop-reference-init : goal.loop-reference-init
loop-reference-init c = (λ g s a. subst (λ (u : State). IsLiving g u c.args.self.now) (sym (dropped-none s)) a, refl)

pub loop-reference-preserved : goal.loop-reference-preserved
loop-reference-preserved c = (
  λ g s a.
      subst (λ (u : State). IsLiving g u c.drop_one.new.self) (sym (drop-next g c.args.references.now c.loop-reference.reference-index c.reference-item.result s c.loop-reference-test.true c.reference-item.is))
      (c.drop_one.ensures.dropped g _ (c.loop-reference.invariant.0 g s a)),
  c.drop_one.ensures.tasks ∙ c.loop-reference.invariant.1,
)

pub returns-clause-dropped : goal.returns-clause-dropped
returns-clause-dropped c = λ g s a.
    subst (λ (rs : List Ref). IsLiving g (drop g rs s) c.loop-reference.self) (take_all c.loop-reference.reference-index c.args.references.now c.loop-reference-test.false) (c.loop-reference.invariant.0 g s a)
