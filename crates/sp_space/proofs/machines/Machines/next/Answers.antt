use Rattle.std.proofs.Common.{◌≡◌, Option, Some, sym, subst, arith}
use Rattle.std.proofs.lemmas.Grind.{common_steps}
use Rattle.sp_machines.specs.Coming.{IsNextAt}
use Rattle.sp_space.specs.Machines.{machine_at}
use Rattle.sp_machines.specs.Players.{IsLevelAt, Played}
use Rattle.sp_space.proofs.machines.Machines.next.Goals as goal

pub returns-clause-next : goal.returns-clause-next
returns-clause-next c = λ links g t level.
    let was : machine_at c.args.id c.args.self.now ≡ Some c.in-Some.player.now = grind (arith, common_steps) in
    let now : machine_at c.args.id (record { rows = c.get_mut.follows.lender c.next.new.self }) ≡ Some c.next.new.self = grind (arith, common_steps) in
    subst (λ (o : Option Played). IsNextAt t o c.in_ok-next-in-Some.field-0) (sym now)
    (c.in_ok-next-in-Some.ensures.next links g t (subst (λ (o : Option Played). IsLevelAt links g t o) was level))
