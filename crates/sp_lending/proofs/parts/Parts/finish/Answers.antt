use Rattle.std.proofs.Common.{None, Some, ap}
use Rattle.std.specs.Prelude.{is_ok}
use Rattle.sp_rules.specs.Space.{state_of}
use Rattle.sp_lender.specs.Hands.{finished}
use Rattle.sp_lending.proofs.FoundLemmas.{found-finish}
use Rattle.sp_lending.proofs.LentIds.{lends-those, lent_ids}
use Rattle.sp_lending.proofs.ReturnLemmas.{finish-stands}
use Rattle.sp_lending.proofs.SpaceLemmas.{kept-space, no-more, row-of, same-lent, space-after, space-core}
use Rattle.sp_lending.proofs.TaskLemmas.{same-task, standing, standing-at, standing-fuel, with-stand}
use Rattle.sp_lending.proofs.parts.Parts.finish.Goals as goal

pub returns-in-Ok-clause-outputs : goal.returns-in-Ok-clause-outputs
returns-in-Ok-clause-outputs c = λ g s is of.
    let space = c.args.self.now in
    let task = c.args.task in
    let st = standing g task c.in-Some.at c.in-Some.is of in
    c.in-Ok.ensures.outputs g s (space-core g s space is) is.stands.classes (standing-at g task c.in-Some.at st) (standing-fuel g task c.in-Some.at c.fuel_of-fuel.result c.fuel_of-fuel.ensures st)

pub returns-in-Ok-clause-state : goal.returns-in-Ok-clause-state
returns-in-Ok-clause-state c = λ g s is of.
    let space = c.args.self.now in
    let task = c.args.task in
    let at = c.in-Some.at in
    let st = standing g task at c.in-Some.is of in
    let stands-at = standing-at g task at st in
    let fuel = standing-fuel g task at c.fuel_of-fuel.result c.fuel_of-fuel.ensures st in
    space-after g s (finished task.hand.task) space (record space { core = c.finish.new.self; rows = c.remove.new.self }) is (λ h stands.
    finish-stands g h space c.finish.new.self c.remove.new.self task.hand.task stands (c.in-Ok.ensures.accepted g (state_of g h) (lent_ids space.core) stands.core (lends-those space.core) stands-at)
    (c.in-Ok.ensures.state g (state_of g h) stands.core stands.classes stands-at fuel)
    (no-more task.hand.task.id (is_ok c.finish.result) space.core c.finish.new.self (ap is_ok c.in-Ok.is) (c.finish.ensures.lent g (state_of g h) stands.core))
    (row-of c.id-id.result task.hand.task.id None space.rows c.remove.new.self c.id-id.ensures c.remove.ensures))

pub returns-in-Ok-clause-historys : goal.returns-in-Ok-clause-historys
returns-in-Ok-clause-historys c = λ g s is of.
    let space = c.args.self.now in
    let task = c.args.task in
    let st = standing g task c.in-Some.at c.in-Some.is of in
    (found-finish g s space.core task.hand.task (c.in-Ok.ensures.accepted g s (lent_ids space.core) (space-core g s space is) (lends-those space.core) (standing-at g task c.in-Some.at st))).found.historys

pub returns-clause-of : goal.returns-clause-of
returns-clause-of c = λ g of. with-stand g (record c.args.task { hand = c.in-Err.hand }) (Some c.in-Some.at) c.in-Some.is (same-task g c.args.task c.in-Err.hand c.in-Err.ensures.task of)

pub returns-clause-unchanged : goal.returns-clause-unchanged
returns-clause-unchanged c = λ g s is.
    let space = c.args.self.now in
    kept-space g s space c.finish.new.self is (λ t core. c.in-Err.ensures.unchanged g t core)
    (same-lent c.args.task.hand.task.id (is_ok c.finish.result) space.core c.finish.new.self (ap is_ok c.in-Err.is) (c.finish.ensures.lent g s (space-core g s space is)))
