use Rattle.sp_rules.specs.State.{send}
use Rattle.sp_outputs.specs.Notes.{turn_of}
use Rattle.sp_living.proofs.LivingLemmas.{moved, sent-own}
use Rattle.sp_living.proofs.living.Living.reply.Goals as goal

pub returns-clause-sent : goal.returns-clause-sent
returns-clause-sent c = λ g s a.
    moved g s (send (turn_of c.args.turn) c.args.conn c.args.message s) c.args.self.now c.send_reserved.new.self (sent-own (turn_of c.args.turn) c.args.conn c.args.message s)
    (λ t. c.send_reserved.ensures.sent s (c.in_ok-reserve_notes.ensures.same s t) (λ row there. c.is_dialled.ensures.others c.if-is_dialled.false s row t there)) a
