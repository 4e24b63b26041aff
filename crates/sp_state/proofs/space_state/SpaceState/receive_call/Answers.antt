use Rattle.std.proofs.Common.{◌≡◌, ℕ, nat_le, arith, true, false, None, Some, refl, ap, ◌∙◌}
use Rattle.std.proofs.lemmas.Bool.Decides.{nat_tests}
use Rattle.std.proofs.lemmas.Result.{on_ok_weaker}
use Rattle.sp_rules.specs.Endings.{close}
use Rattle.sp_rules.specs.Frames.{call_on, counted, got_call}
use Rattle.sp_rules.specs.State.{State, object_at}
use Rattle.sp_state.specs.Receiving.{take_call}
use Rattle.sp_state.proofs.CallLemmas.{called-late, called-new}
use Rattle.sp_state.proofs.FrameLemmas.{closed-at, space-is}
use Rattle.sp_state.proofs.SpaceLemmas.{quiet}
use Rattle.sp_tasks.proofs.LentLemmas.{lent-next}
use Rattle.sp_state.proofs.space_state.SpaceState.receive_call.Goals as goal

pub returns-then-number-last-clause-got : goal.returns-then-number-last-clause-got
returns-then-number-last-clause-got w c = on_ok_weaker c.close.result (λ now. λ g s row is silent tells on last.
    let k = c.args.call in
    let late : nat_le c.args.number row.last ≡ true = ap (nat_le c.args.number) last ∙ grind (arith, nat_tests) in
    space-is g (close g g.classes.unmarshal row.number s) (got_call g row c.args.number k.target k.method k.fuel k.arguments s) c.close.new.self
    (called-late g row c.args.number k.target k.method k.fuel k.arguments s late)
    (closed-at g g.classes.unmarshal c.args.conn s row c.close.new.self on (now g s is silent tells))) c.close.ensures.closed

pub returns-in-Some-clause-got : goal.returns-in-Some-clause-got
returns-in-Some-clause-got w c = on_ok_weaker c.answer_threw.result (λ now. λ g s row is silent tells on last.
    let k = c.args.call in
    let conn = c.args.conn in
    let number = c.args.number in
    let t : State = counted conn number s in
    let new : nat_le number row.last ≡ false = ap (nat_le number) last ∙ grind (arith, nat_tests) in
    let is1 = quiet g s t c.args.self.now c.count.new.self refl (c.count.ensures.counted g s is.living silent) is in
    space-is g (take_call g conn number (Some c.in-Some.why) k.target k.method k.fuel k.arguments t) (got_call g row number k.target k.method k.fuel k.arguments s) c.answer_threw.new.self
    (called-new g row number k.target k.method k.fuel k.arguments s new
    ∙ ap (λ (n : ℕ). call_on g n number (object_at s k.target) k.method k.fuel k.arguments (counted n number s)) on.number
    ∙ c.in_ok-why.ensures g t conn number is1 tells
    ∙ ap (λ o. take_call g conn number o k.target k.method k.fuel k.arguments t) c.in-Some.is)
    (now g t is1 tells)) c.answer_threw.ensures.answered

pub returns-in-None-clause-got : goal.returns-in-None-clause-got
returns-in-None-clause-got w c = on_ok_weaker c.park_received.result (λ now. λ g s row is silent tells on last.
    let k = c.args.call in
    let conn = c.args.conn in
    let number = c.args.number in
    let t : State = counted conn number s in
    let new : nat_le number row.last ≡ false = ap (nat_le number) last ∙ grind (arith, nat_tests) in
    let is1 = quiet g s t c.args.self.now c.count.new.self refl (c.count.ensures.counted g s is.living silent) is in
    space-is g (take_call g conn number None k.target k.method k.fuel k.arguments t) (got_call g row number k.target k.method k.fuel k.arguments s) c.park_received.new.self
    (called-new g row number k.target k.method k.fuel k.arguments s new
    ∙ ap (λ (n : ℕ). call_on g n number (object_at s k.target) k.method k.fuel k.arguments (counted n number s)) on.number
    ∙ c.in_ok-why.ensures g t conn number is1 tells
    ∙ ap (λ o. take_call g conn number o k.target k.method k.fuel k.arguments t) c.in-None.is)
    (now g t is1 tells)) c.park_received.ensures.parked

pub returns-in-Some-clause-lent : goal.returns-in-Some-clause-lent
returns-in-Some-clause-lent w c = on_ok_weaker c.answer_threw.result (λ told. lent-next c.count.ensures.tasks told) c.answer_threw.ensures.lent

pub returns-in-None-clause-lent : goal.returns-in-None-clause-lent
returns-in-None-clause-lent w c = on_ok_weaker c.park_received.result (λ parked. lent-next c.count.ensures.tasks parked) c.park_received.ensures.lent
