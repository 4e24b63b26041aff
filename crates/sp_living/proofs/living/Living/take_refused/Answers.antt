use Rattle.std.proofs.Common.{Some, refl}
use Rattle.sp_rules.specs.OwnEvents.{dialled_no_more}
use Rattle.sp_rules.specs.ParkedFrames.{remove_requests}
use Rattle.sp_rules.specs.Requests.{waits_for}
use Rattle.sp_rules.specs.State.{State}
use Rattle.sp_living.proofs.LivingLemmas.{moved}
use Rattle.sp_living.proofs.living.Living.take_refused.Goals as goal

pub returns-clause-ended : goal.returns-clause-ended
returns-clause-ended c = λ g s a quiet waited.
    c.refuse_reserved.ensures.ended s 0 a.transport quiet waited (c.in_ok-ending.ensures.refused s a.transport quiet waited)

pub returns-clause-left : goal.returns-clause-left
returns-clause-left c = λ g s a quiet waited.
    let peer = c.args.peer.now in
    let left : State = remove_requests (waits_for peer) (dialled_no_more (Some peer) s) in
    moved g s left c.args.self.now c.refuse_reserved.new.self refl (λ t. c.refuse_reserved.ensures.refused s t quiet waited) a
