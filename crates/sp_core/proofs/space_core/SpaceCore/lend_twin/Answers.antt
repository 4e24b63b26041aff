use Rattle.std.proofs.Common.{Option, Some, None, sym, subst}
use Rattle.sp_state.specs.declared.space_state.SpaceState.{SpaceState}
use Rattle.sp_core.specs.Hands.{IsLentIn, IsLentToo}
use Rattle.sp_core.specs.declared.space_core.SpaceCore.{SpaceCore}
use Rattle.sp_core.proofs.LendLemmas.{twin-new}
use Rattle.sp_core.proofs.space_core.SpaceCore.lend_twin.Goals as goal

pub returns-in_default-clause-lent : goal.returns-in_default-clause-lent
returns-in_default-clause-lent c =
    subst (λ (o : Option SpaceState). IsLentToo c.args.task o c.take.new.self None) c.in_default.ensures.value
    (subst (λ (o : Option SpaceState). IsLentToo c.args.task None o None) (sym c.take.ensures.after) tt)

pub returns-clause-lent : goal.returns-clause-lent
returns-clause-lent c =
    let too : IsLentIn c.args.task c.in-Some.spare c.lend-twin.new.self c.lend-twin.result = record { twin = c.lend-twin.ensures.task; same = c.lend-twin.ensures.same; lent = c.lend-twin.ensures.lent } in
    subst (λ (core : SpaceCore). IsLentToo c.args.task c.args.self.now.spare core.spare c.lend-twin.result) (sym c.put_spare.ensures)
    (subst (λ (o : Option SpaceState). IsLentToo c.args.task o (Some c.lend-twin.new.self) c.lend-twin.result) c.in-Some.ensures.value too)

pub returns-clause-twin : goal.returns-clause-twin
returns-clause-twin c = twin-new c.args.task _ c.lend-twin.result c.lend-twin.ensures.task
