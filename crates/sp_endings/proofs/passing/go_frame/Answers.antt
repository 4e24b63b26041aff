use Rattle.std.proofs.Common.{sym, subst}
use Rattle.std.proofs.lemmas.Result.{on_ok_weaker}
use Rattle.sp_parked.specs.Parkings.{frame_of}
use Rattle.sp_parked.specs.declared.frame.Frame.{Frame}
use Rattle.sp_rules.specs.ParkedFrames.{go_frame}
use Rattle.sp_living.specs.Livings.{IsLiving}
use Rattle.sp_endings.proofs.passing.go_frame.Goals as goal

pub returns-in-Call-clause-gone : goal.returns-in-Call-clause-gone
returns-in-Call-clause-gone w c = on_ok_weaker c.start_call.result (λ started. λ g s p a tells after at of.
    subst (λ (f : Frame). IsLiving g (go_frame g p (frame_of f) s) c.start_call.new.living) (sym c.in-Call.is) (started g s p a tells after at of)) c.start_call.ensures.started

pub returns-in-Returned-clause-gone : goal.returns-in-Returned-clause-gone
returns-in-Returned-clause-gone w c = on_ok_weaker c.answer_parked.result (λ replied. λ g s p a tells after at of.
    subst (λ (f : Frame). IsLiving g (go_frame g p (frame_of f) s) c.answer_parked.new.self) (sym c.in-Returned.is) (replied g s p a at of)) c.answer_parked.ensures.answered
