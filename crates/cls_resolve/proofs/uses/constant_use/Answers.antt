use Rattle.std.proofs.Common.{refl, sym, ap, ◌∙◌}
use Rattle.cf_pool.specs.Pools.{integer_at}
use Rattle.cls_resolve.proofs.ClassChecks.{int_broken, int_kept}
use Rattle.cls_resolve.proofs.uses.constant_use.Goals as goal

pub returns-in-Some-clause-broken : goal.returns-in-Some-clause-broken
returns-in-Some-clause-broken c =
    λ method. int_kept c.args.set.now _ refl c.in-Some.value (sym (c.in-Some.ensures ∙ ap (λ p. integer_at p c.args.index) c.pool_of.ensures))

pub returns-in-None-clause-broken : goal.returns-in-None-clause-broken
returns-in-None-clause-broken c =
    λ method. int_broken c.args.set.now _ refl (sym (c.in-None.ensures ∙ ap (λ p. integer_at p c.args.index) c.pool_of.ensures))
