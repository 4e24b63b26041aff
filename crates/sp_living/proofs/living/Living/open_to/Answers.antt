use Rattle.std.proofs.Common.{Some, subst}
use Rattle.net_message.specs.declared.message.Message.{Message}
use Rattle.sp_rules.specs.Events.{Hellos}
use Rattle.sp_rules.specs.Frames.{of_version}
use Rattle.sp_rules.specs.OwnEvents.{add_connection, dialled_no_more}
use Rattle.sp_rules.specs.State.{State, send}
use Rattle.sp_living.specs.Livings.{IsLiving}
use Rattle.sp_living.proofs.LivingLemmas.{moved, sent-own}
use Rattle.sp_living.proofs.living.Living.open_to.Goals as goal

pub returns-clause-opened : goal.returns-clause-opened
returns-clause-opened c = λ g s a quiet digest free asked.
    let conn = c.args.conn in
    let opened : State = dialled_no_more (Some c.args.peer.now) (add_connection conn (Some c.args.peer.now) s) in
    subst (λ (m : Message). IsLiving g (of_version c.args.version conn (send Hellos conn m opened)) (record c.args.self.now { transport = c.speak.new.self })) (c.hello-hello.ensures.said g s a digest)
    (moved g s (of_version c.args.version conn (send Hellos conn c.hello-hello.result opened)) c.args.self.now c.speak.new.self (sent-own Hellos conn c.hello-hello.result opened)
    (λ t. c.speak.ensures.spoken (send Hellos conn c.hello-hello.result opened)
    (c.open_reserved.ensures.opened s (c.in_ok-reserve_notes.ensures.same s (c.in_ok-reserve_requests.ensures.same s (c.in_ok-reserve_connections.ensures.same s t))) quiet free asked c.hello-hello.ensures.hello)) a)
