use Rattle.std.proofs.Common.{ap, ◌∙◌}
use Rattle.sp_tasks.specs.Rows.{Hand, is_in_hand, row_of}
use Rattle.sp_tasks.proofs.LentLemmas.{lent-rows}
use Rattle.sp_core.proofs.TwinLemmas.{fits-both}
use Rattle.sp_core.proofs.space_core.SpaceCore.copy_for.Goals as goal

pub returns-clause-own : goal.returns-clause-own
returns-clause-own c =
    let hand = c.args.hand.now in
    let same = c.in_ok-twin.ensures in
    let rows = c.in_ok-space.ensures.rows in
    fits-both c.in_ok-space.space hand c.in_ok-twin.twin (ap (λ (h : Hand). h.id) same) (ap (λ (h : Hand). h.made) same)
    ((λ j. is_in_hand (row_of (same j).id (rows j)) (same j)) ∙ c.requires)

pub returns-clause-state : goal.returns-clause-state
returns-clause-state c = λ g s is. record { state = c.in_ok-space.ensures.stands g s is.state is.rest; lent = lent-rows c.in_ok-space.ensures.rows }
