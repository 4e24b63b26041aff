use Rattle.std.proofs.Common.{sym, ◌∙◌}
use Rattle.std.specs.Prelude.{find}
use Rattle.std.proofs.lemmas.Result.{on_ok_weaker}
use Rattle.sp_rules.specs.Endings.{close}
use Rattle.sp_rules.specs.Frames.{answered_by, returned_for}
use Rattle.sp_rules.specs.ParkedFrames.{is_asked_on}
use Rattle.sp_living.proofs.FoundLemmas.{one-asks}
use Rattle.sp_state.specs.Receiving.{park_returned, refuse_returned}
use Rattle.sp_state.proofs.AnswerLemmas.{answers-nothing, answers-one, asked-called, none-left}
use Rattle.sp_state.proofs.FrameLemmas.{space-is}
use Rattle.sp_state.proofs.AnswerLemmas.{returned-bad, returned-good}
use Rattle.sp_state.proofs.space_state.SpaceState.receive_returned.Goals as goal

pub returns-in_default-clause-got : goal.returns-in_default-clause-got
returns-in_default-clause-got w c = on_ok_weaker c.close.result (λ now. λ g s row peer is silent tells on dialled.
    let conn = c.args.conn in
    let number = c.args.number in
    let next = returned_for g row number c.args.fuel c.args.value in
    let none = sym (none-left c.asked.result c.in_default.not-Some) ∙ c.asked.ensures g s row peer is.living on.there dialled in
    space-is g (close g g.classes.unmarshal conn s) (answered_by g row number next s) c.close.new.self
    (answers-nothing g row conn number next s on none) (now g s is silent tells)) c.close.ensures.closed

pub returns-then-is_unfit_result-clause-got : goal.returns-then-is_unfit_result-clause-got
returns-then-is_unfit_result-clause-got w c = on_ok_weaker c.refuse_returned.result (λ now. λ g s row peer is silent tells on dialled.
    let conn = c.args.conn in
    let number = c.args.number in
    let next = returned_for g row number c.args.fuel c.args.value in
    let found = one-asks c.in-Some.asker (find (is_asked_on conn number) s.requests) (sym c.in-Some.is ∙ c.asked.ensures g s row peer is.living on.there dialled) in
    let asked = found.row.asked in
    space-is g (refuse_returned g conn number asked s) (answered_by g row number next s) c.refuse_returned.new.self
    (answers-one g row conn number next s c.in-Some.asker on found
    ∙ returned-bad g row conn number c.args.fuel c.args.value asked s on (sym (c.is_unfit_result.ensures g s asked is tells found.asks) ∙ c.if-is_unfit_result.true))
    (let called = asked-called conn number s.requests found.row found.there in now g s row peer asked called.0 is tells on dialled called.1 found.asks)) c.refuse_returned.ensures.refused

pub returns-clause-got : goal.returns-clause-got
returns-clause-got w c = on_ok_weaker c.park_returned.result (λ now. λ g s row peer is silent tells on dialled.
    let conn = c.args.conn in
    let number = c.args.number in
    let next = returned_for g row number c.args.fuel c.args.value in
    let found = one-asks c.in-Some.asker (find (is_asked_on conn number) s.requests) (sym c.in-Some.is ∙ c.asked.ensures g s row peer is.living on.there dialled) in
    let asked = found.row.asked in
    space-is g (park_returned g conn number c.args.fuel c.args.value s) (answered_by g row number next s) c.park_returned.new.self
    (answers-one g row conn number next s c.in-Some.asker on found
    ∙ returned-good g row conn number c.args.fuel c.args.value asked s on (sym (c.is_unfit_result.ensures g s asked is tells found.asks) ∙ c.if-is_unfit_result.false))
    (now g s row peer is tells on dialled)) c.park_returned.ensures.parked
