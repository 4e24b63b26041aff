use Rattle.std.proofs.Common.{Some, ap}
use Rattle.std.specs.Prelude.{is_ok}
use Rattle.sp_rules.specs.Space.{state_of}
use Rattle.sp_lender.specs.Hands.{parked}
use Rattle.sp_lending.proofs.FoundLemmas.{found-park}
use Rattle.sp_lending.proofs.LendLemmas.{row-there}
use Rattle.sp_lending.proofs.LentIds.{lends-those, lent_ids}
use Rattle.sp_lending.proofs.ReturnLemmas.{back_row, park-stands}
use Rattle.sp_lending.proofs.SpaceLemmas.{kept-space, no-more, row-of, same-lent, space-after, space-core}
use Rattle.sp_lending.proofs.TaskLemmas.{same-task, standing, standing-at, standing-fuel, with-stand}
use Rattle.sp_lending.proofs.parts.Parts.park_own.Goals as goal

-- its row is there
pub restore-requires : goal.restore-requires
restore-requires c =
    let k = c.requires.known in
    let space = c.args.self.now in
    let hand = c.args.task.hand in
    let s = standing k.setting c.args.task c.in-Some.at c.in-Some.is k.of in
    let core-is = space-core k.setting k.state space k.is in
    let taken = c.in-Ok.ensures.accepted k.setting k.state (lent_ids space.core) core-is (lends-those space.core) k.is.stands.classes (standing-at k.setting c.args.task c.in-Some.at s) in
    row-there k.setting k.state k.state space c.id-id.result hand.task k.is (found-park k.setting k.state space.core hand.task taken).found c.id-id.ensures

pub returns-in-Ok-clause-outputs : goal.returns-in-Ok-clause-outputs
returns-in-Ok-clause-outputs c = λ g s is of.
    let space = c.args.self.now in
    let task = c.args.task in
    let st = standing g task c.in-Some.at c.in-Some.is of in
    c.in-Ok.ensures.outputs g s (space-core g s space is) is.stands.classes (standing-at g task c.in-Some.at st) (standing-fuel g task c.in-Some.at c.fuel_of-fuel.result c.fuel_of-fuel.ensures st)

pub returns-in-Ok-clause-state : goal.returns-in-Ok-clause-state
returns-in-Ok-clause-state c = λ g s is of.
    let space = c.args.self.now in
    let task = c.args.task in
    let at = c.in-Some.at in
    let st = standing g task at c.in-Some.is of in
    let stands-at = standing-at g task at st in
    let fuel = standing-fuel g task at c.fuel_of-fuel.result c.fuel_of-fuel.ensures st in
    space-after g s (parked task.hand.task) space (record space { core = c.park_lent.new.self; rows = c.restore.new.self }) is (λ h stands.
    park-stands g h space c.park_lent.new.self c.restore.new.self task at stands st (c.in-Ok.ensures.accepted g (state_of g h) (lent_ids space.core) stands.core (lends-those space.core) stands.classes stands-at)
    (c.in-Ok.ensures.state g (state_of g h) stands.core stands.classes stands-at fuel)
    (no-more task.hand.task.id (is_ok c.park_lent.result) space.core c.park_lent.new.self (ap is_ok c.in-Ok.is) (c.park_lent.ensures.lent g (state_of g h) stands.core))
    (row-of c.id-id.result task.hand.task.id (back_row task.player) space.rows c.restore.new.self c.id-id.ensures c.restore.ensures))

pub returns-clause-of : goal.returns-clause-of
returns-clause-of c = λ g of. with-stand g (record c.args.task { hand = c.in-Err.hand }) (Some c.in-Some.at) c.in-Some.is (same-task g c.args.task c.in-Err.hand c.in-Err.ensures.task of)

pub returns-clause-unchanged : goal.returns-clause-unchanged
returns-clause-unchanged c = λ g s is.
    let space = c.args.self.now in
    kept-space g s space c.park_lent.new.self is (λ t core. c.in-Err.ensures.unchanged g t core)
    (same-lent c.args.task.hand.task.id (is_ok c.park_lent.result) space.core c.park_lent.new.self (ap is_ok c.in-Err.is) (c.park_lent.ensures.lent g s (space-core g s space is)))
