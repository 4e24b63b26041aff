use Rattle.std.proofs.Common.{[], ◌∷◌, ◌++◌, ap, ◌∙◌, arith, get_or}
use Rattle.sp_rules.specs.Frames.{that_stand}
use Rattle.sp_owner.proofs.OwnerLemmas.{filter-next, filter-whole}
use Rattle.sp_owner.proofs.owner.Owner.those_that_stand.Goals as goal

pub loop-id-preserved : goal.loop-id-preserved
loop-id-preserved c = λ g s is.
    c.in_ok-push_if_it_stands.ensures g s is ∙ ap (λ ids. ids ++ that_stand s (get_or c.args.ids.now c.loop-id.id-index (record { 0 = 0 }) ∷ [])) (c.loop-id.invariant g s is) ∙ filter-next _ c.args.ids.now c.loop-id.id-index (record { 0 = 0 }) (omega (arith, c.loop-id-test.true))

pub returns : goal.returns
returns c = λ g s is. c.loop-id.invariant g s is ∙ filter-whole _ c.args.ids.now c.loop-id.id-index (omega (arith, c.loop-id-test.false))
