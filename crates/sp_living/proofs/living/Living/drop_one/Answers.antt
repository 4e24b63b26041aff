use Rattle.std.proofs.Common.{◌≡◌, true, false, refl, sym, ap, subst, ◌∙◌}
use Rattle.std.specs.Str.{bytes_eq}
use Rattle.sp_rules.specs.Holders.{holder_goes}
use Rattle.sp_rules.specs.State.{State}
use Rattle.sp_living.specs.Livings.{IsLiving}
use Rattle.sp_living.proofs.HolderLemmas.{drop-foreign, drop-own, not-false, not-true}
use Rattle.sp_living.proofs.LivingLemmas.{moved}
use Rattle.sp_living.proofs.living.Living.drop_one.Goals as goal

pub returns-then-ne-clause-dropped : goal.returns-then-ne-clause-dropped
returns-then-ne-clause-dropped c = λ g s a.
    let r = c.args.reference.now in
    let foreign : bytes_eq r.space g.id ≡ false = ap (bytes_eq r.space) (sym a.id) ∙ not-true _ (sym c.ne.ensures ∙ c.if-ne.true) in
    subst (λ (u : State). IsLiving g u (record c.args.self.now { transport = c.drop_holder.new.self })) (sym (drop-foreign g.id r s foreign))
    (moved g s (holder_goes s (record { space = r.space; id = r.id })) c.args.self.now c.drop_holder.new.self refl (λ t. c.drop_holder.ensures.dropped s t) a)

pub returns-else-ne-clause-dropped : goal.returns-else-ne-clause-dropped
returns-else-ne-clause-dropped c = λ g s a.
    let r = c.args.reference.now in
    let own : bytes_eq r.space g.id ≡ true = ap (bytes_eq r.space) (sym a.id) ∙ not-false _ (sym c.ne.ensures ∙ c.if-ne.false) in
    subst (λ (u : State). IsLiving g u c.args.self.now) (sym (drop-own g.id r s own)) a
