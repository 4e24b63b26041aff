use Rattle.std.proofs.Common.{◌∙◌}
use Rattle.std.proofs.lemmas.Result.{IfOk-weaker, on_ok_weaker}
use Rattle.sp_rules.specs.ParkedFrames.{names}
use Rattle.sp_living.specs.Tickets.{AreTicketsOf}
use Rattle.sp_living.proofs.living.Living.take_frames_naming.Goals as goal

pub returns-clause-frames : goal.returns-clause-frames
returns-clause-frames c = IfOk-weaker c.take_frames.result _ _ (λ taken is. λ g s a.
    let which : AreTicketsOf (names c.args.reference.now) c.deref.result.now c.args.self.now.parked = λ frames b. c.deref.ensures.value ∙ c.in_ok-tickets.ensures frames b in
    is g s (names c.args.reference.now) a which) c.take_frames.ensures.frames

pub returns-clause-left : goal.returns-clause-left
returns-clause-left c = on_ok_weaker c.take_frames.result (λ left. λ g s a.
    let which : AreTicketsOf (names c.args.reference.now) c.deref.result.now c.args.self.now.parked = λ frames b. c.deref.ensures.value ∙ c.in_ok-tickets.ensures frames b in
    left g s (names c.args.reference.now) a which) c.take_frames.ensures.left
