use Rattle.sp_rules.specs.Space.{state_of}
use Rattle.sp_lender.specs.Hands.{given_back}
use Rattle.sp_lending.proofs.FoundLemmas.{found-back}
use Rattle.sp_lending.proofs.LendLemmas.{row-there}
use Rattle.sp_lending.proofs.LentIds.{lends-those, lent_ids}
use Rattle.sp_lending.proofs.ReturnLemmas.{back-stands, back_row}
use Rattle.sp_lending.proofs.SpaceLemmas.{row-of, space-after, space-core}
use Rattle.sp_lending.proofs.parts.Parts.take_back.Goals as goal

-- its row is there
pub restore-requires : goal.restore-requires
restore-requires c =
    let k = c.requires.known in
    let space = c.args.self.now in
    let hand = c.args.task.hand in
    row-there k.setting k.state k.state space c.id-id.result hand.task k.is
    (found-back k.setting k.state space.core hand.task (c.take_back.ensures.accepted k.setting k.state (lent_ids space.core) (space-core k.setting k.state space k.is) (lends-those space.core))) c.id-id.ensures

pub returns-clause-state : goal.returns-clause-state
returns-clause-state c = λ g s is of.
    let space = c.args.self.now in
    let task = c.args.task in
    space-after g s (given_back task.hand.task) space (record space { core = c.take_back.new.self; rows = c.restore.new.self }) is (λ h stands.
    back-stands g h space c.take_back.new.self c.restore.new.self task stands of (c.take_back.ensures.accepted g (state_of g h) (lent_ids space.core) stands.core (lends-those space.core))
    (c.take_back.ensures.state g (state_of g h) stands.core) c.take_back.ensures.others
    (row-of c.id-id.result task.hand.task.id (back_row task.player) space.rows c.restore.new.self c.id-id.ensures c.restore.ensures))
