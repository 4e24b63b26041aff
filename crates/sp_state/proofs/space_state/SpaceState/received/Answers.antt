use Rattle.std.proofs.Common.{Option, ap}
use Rattle.std.proofs.lemmas.Result.{on_ok_weaker}
use Rattle.sp_rules.specs.Frames.{receive}
use Rattle.sp_rules.specs.OwnEvents.{received_on}
use Rattle.sp_rules.specs.State.{Connection, connection_at}
use Rattle.sp_state.proofs.FrameLemmas.{none-seen, one-seen, space-is}
use Rattle.sp_tasks.proofs.LentLemmas.{lent-none}
use Rattle.sp_state.proofs.space_state.SpaceState.received.Goals as goal

pub returns-in-Some-clause-received : goal.returns-in-Some-clause-received
returns-in-Some-clause-received w c = on_ok_weaker c.receive.result (λ now. λ g s is silent tells.
    let m = c.args.message in
    let found = one-seen c.args.conn s c.in-Some.connection (c.in-Some.ensures s (c.transport.ensures g s is.living)) in
    space-is g (receive g found.row m s) (received_on g (connection_at s c.args.conn) m s) c.receive.new.self (ap (λ (o : Option Connection). received_on g o m s) found.comes.there)
    (now g s found.row is silent tells found.comes found.seen)) c.receive.ensures.received

pub returns-in-None-clause-received : goal.returns-in-None-clause-received
returns-in-None-clause-received w c = λ g s is silent tells.
    let m = c.args.message in
    space-is g s (received_on g (connection_at s c.args.conn) m s) c.args.self.now
    (ap (λ (o : Option Connection). received_on g o m s) (none-seen c.args.conn s (c.in-None.ensures s (c.transport.ensures g s is.living)))) is

pub returns-in-None-clause-lent : goal.returns-in-None-clause-lent
returns-in-None-clause-lent w c = lent-none c.args.self.now.living.tasks
