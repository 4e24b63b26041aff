use Rattle.std.proofs.Common.{List, sym, ap, ◌∙◌}
use Rattle.std.specs.Prelude.{nat_lt}
use Rattle.std.specs.List.{list_all}
use Rattle.space_ids.specs.declared.value.Value.{Value}
use Rattle.sp_rules.specs.Refusals.{is_root_argument}
use Rattle.sp_rules.specs.References.{references_of}
use Rattle.sp_core.proofs.RootLemmas.{root-checks}
use Rattle.sp_core.proofs.space_core.SpaceCore.check_root.Goals as goal

pub returns : goal.returns
returns c = λ g s lent is told.
    let root = c.args.root.now in
    root-checks g lent s root.method root.arguments root.fuel root.refused c.in_ok-may_have.may_have _ c.in_ok-is_busy.is_busy told
    (c.in_ok-may_have.ensures g s is ∙ ap (λ (vs : List Value). list_all (is_root_argument g s) (references_of vs)) c.as_slice.ensures)
    (ap (λ n. nat_lt n root.fuel) is.fuel) (c.in_ok-is_busy.ensures g s (c.living.ensures.stands g s is.state)) ∙ sym c.first_fault.ensures
