use Rattle.std.proofs.Common.{arith}
use Rattle.sp_transport.proofs.MakingLemmas.{now-made}
use Rattle.sp_transport.proofs.transport.Transport.make_call.Goals as goal

pub returns-clause-made : goal.returns-clause-made
returns-clause-made c = λ s a room number named.
    let made = a.calls_made in
    now-made s c.args.self.now c.args.peer.now c.args.asked c.saturating_add-self.result (omega (arith, made, room, c.saturating_add-self.ensures)) number named a
