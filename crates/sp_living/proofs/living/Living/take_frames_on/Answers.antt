use Rattle.std.proofs.Common.{ℕ, ◌∙◌, filter}
use Rattle.std.specs.Prelude.{◌==◌}
use Rattle.std.specs.Map.{keys_of}
use Rattle.std.proofs.lemmas.Cmp.{nat_eq_equiv}
use Rattle.std.proofs.lemmas.Result.{IfOk-weaker, on_ok_weaker}
use Rattle.sp_parked.specs.declared.frame.ParkedFrame.{ParkedFrame as Waiting}
use Rattle.sp_rules.specs.State.{ParkedFrame}
use Rattle.sp_living.specs.Tickets.{AreTicketsOf}
use Rattle.sp_living.proofs.living.Living.take_frames_on.Goals as goal

pub returns-clause-frames : goal.returns-clause-frames
returns-clause-frames c = IfOk-weaker c.take_frames.result _ _ (λ taken is. λ g s a.
    let conn = c.args.conn in
    let which : AreTicketsOf (λ (p : ParkedFrame). p.conn == conn) c.deref.result.now c.args.self.now.parked = λ frames b.
    c.deref.ensures.value ∙ c.in_ok-tickets.ensures frames b ∙ (λ j. keys_of (filter (λ (row : ℕ × Waiting). nat_eq_equiv.symm conn row.1.conn j) frames)) in
    is g s (λ (p : ParkedFrame). p.conn == conn) a which) c.take_frames.ensures.frames

pub returns-clause-left : goal.returns-clause-left
returns-clause-left c = on_ok_weaker c.take_frames.result (λ left. λ g s a.
    let conn = c.args.conn in
    let which : AreTicketsOf (λ (p : ParkedFrame). p.conn == conn) c.deref.result.now c.args.self.now.parked = λ frames b.
    c.deref.ensures.value ∙ c.in_ok-tickets.ensures frames b ∙ (λ j. keys_of (filter (λ (row : ℕ × Waiting). nat_eq_equiv.symm conn row.1.conn j) frames)) in
    left g s (λ (p : ParkedFrame). p.conn == conn) a which) c.take_frames.ensures.left
