use Rattle.std.proofs.Common.{sym, ap, ◌∙◌}
use Rattle.std.specs.Prelude.{◌||◌}
use Rattle.sp_holders.proofs.PlaceLemmas.{fields}
use Rattle.sp_holders.proofs.holders.is_at_hand.Goals as goal

pub returns-then-is_in_own_tables : goal.returns-then-is_in_own_tables
returns-then-is_in_own_tables c = λ g s is.
    c.if-is_in_own_tables.true ∙ ap (λ t. t || fields g s c.args.reference.now) (sym c.if-is_in_own_tables.true ∙ c.is_in_own_tables.ensures g s (c.living.ensures.stands g s is))

pub returns-else-is_in_own_tables : goal.returns-else-is_in_own_tables
returns-else-is_in_own_tables c = λ g s is.
    let none = sym c.if-is_in_own_tables.false ∙ c.is_in_own_tables.ensures g s (c.living.ensures.stands g s is) in
    let has = c.is_in_fields.ensures g s (c.owner.ensures g s is) is.numbers in
    λ j. none j || has j
