use Rattle.std.proofs.Common.{sym, ap, ◌∙◌}
use Rattle.std.specs.Prelude.{◌||◌}
use Rattle.sp_holders.specs.Places.{is_away}
use Rattle.sp_holders.proofs.PlaceLemmas.{if-err, if-ok, near-or-far}
use Rattle.sp_holders.proofs.holders.has_holder.Goals as goal

pub returns-then-is_at_hand-clause-held : goal.returns-then-is_at_hand-clause-held
returns-then-is_at_hand-clause-held c = λ g s is.
    let r = c.args.reference.now in
    sym (near-or-far g s r ∙ ap (λ b. b || is_away s r) (sym (c.is_at_hand.ensures g s is) ∙ c.if-is_at_hand.true))

pub returns-clause-held : goal.returns-clause-held
returns-clause-held c = if-ok c.is_away.result _ _ (λ n told. λ g s is.
    let r = c.args.reference.now in
    told g s (c.living.ensures.stands g s is)
    ∙ sym (near-or-far g s r ∙ ap (λ b. b || is_away s r) (sym (c.is_at_hand.ensures g s is) ∙ c.if-is_at_hand.false))) c.is_away.ensures

pub returns-clause-err : goal.returns-clause-err
returns-clause-err c = if-err c.is_away.result _ (λ g s is. sym (c.is_at_hand.ensures g s is) ∙ c.if-is_at_hand.false)
