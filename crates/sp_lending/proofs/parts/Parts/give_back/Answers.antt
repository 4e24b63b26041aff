use Rattle.sp_rules.specs.Space.{state_of}
use Rattle.sp_lender.specs.Hands.{given_back}
use Rattle.sp_lending.proofs.FoundLemmas.{found-back}
use Rattle.sp_lending.proofs.LendLemmas.{row-there}
use Rattle.sp_lending.proofs.LentIds.{lends-those, lent_ids}
use Rattle.sp_lending.proofs.ReturnLemmas.{back-stands, back_row}
use Rattle.sp_lending.proofs.SpaceLemmas.{row-of, space-after, space-core}
use Rattle.sp_lending.proofs.parts.Parts.give_back.Goals as goal

-- its row is there
pub restore-requires : goal.restore-requires
restore-requires c =
    let k = c.requires.known in
    let space = c.args.self.now in
    let hand = c.args.task.hand in
    row-there k.setting k.state k.state space c.id-id.result hand.task k.is
    (found-back k.setting k.state space.core hand.task (c.in-Ok.ensures.accepted k.setting k.state (lent_ids space.core) (space-core k.setting k.state space k.is) (lends-those space.core))) c.id-id.ensures

pub returns-in-Ok-clause-state : goal.returns-in-Ok-clause-state
returns-in-Ok-clause-state c = λ g s is of.
    let space = c.args.self.now in
    let task = c.args.task in
    space-after g s (given_back task.hand.task) space (record space { core = c.give_back.new.self; rows = c.restore.new.self }) is (λ h stands.
    back-stands g h space c.give_back.new.self c.restore.new.self task stands of (c.in-Ok.ensures.accepted g (state_of g h) (lent_ids space.core) stands.core (lends-those space.core))
    (c.in-Ok.ensures.state g (state_of g h) stands.core) c.in-Ok.ensures.others
    (row-of c.id-id.result task.hand.task.id (back_row task.player) space.rows c.restore.new.self c.id-id.ensures c.restore.ensures))

pub returns-in-Ok-clause-historys : goal.returns-in-Ok-clause-historys
returns-in-Ok-clause-historys c = λ g s is.
    let space = c.args.self.now in
    let hand = c.args.task.hand in
    (found-back g s space.core hand.task (c.in-Ok.ensures.accepted g s (lent_ids space.core) (space-core g s space is) (lends-those space.core))).historys
