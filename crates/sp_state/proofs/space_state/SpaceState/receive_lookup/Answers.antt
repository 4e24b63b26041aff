use Rattle.std.proofs.Common.{◌≡◌, ℕ, nat_le, arith, true, false, refl, sym, ap, ◌∙◌}
use Rattle.std.proofs.lemmas.Bool.Decides.{nat_tests}
use Rattle.std.proofs.lemmas.Result.{on_ok_weaker}
use Rattle.sp_registry.specs.Bindings.{lookup}
use Rattle.sp_rules.specs.Endings.{close}
use Rattle.sp_rules.specs.Frames.{counted, found, got_lookup, object_of}
use Rattle.sp_rules.specs.ParkedFrames.{answer_threw}
use Rattle.sp_rules.specs.State.{State}
use Rattle.sp_state.specs.Receiving.{give_found}
use Rattle.sp_state.proofs.CallLemmas.{found-none, found-one, looked-late, looked-new}
use Rattle.sp_state.proofs.FrameLemmas.{closed-at, space-is}
use Rattle.sp_state.proofs.SpaceLemmas.{quiet}
use Rattle.sp_tasks.proofs.LentLemmas.{lent-next}
use Rattle.sp_state.proofs.space_state.SpaceState.receive_lookup.Goals as goal

pub returns-then-number-last-clause-got : goal.returns-then-number-last-clause-got
returns-then-number-last-clause-got w c = on_ok_weaker c.close.result (λ now. λ g s row is silent tells on last.
    let late : nat_le c.args.number row.last ≡ true = ap (nat_le c.args.number) last ∙ grind (arith, nat_tests) in
    space-is g (close g g.classes.unmarshal row.number s) (got_lookup g row c.args.number c.args.name.now s) c.close.new.self
    (looked-late g row c.args.number c.args.name.now s late)
    (closed-at g g.classes.unmarshal c.args.conn s row c.close.new.self on (now g s is silent tells))) c.close.ensures.closed

pub returns-in-Some-clause-got : goal.returns-in-Some-clause-got
returns-in-Some-clause-got w c = on_ok_weaker c.give_found.result (λ now. λ g s row is silent tells on last.
    let conn = c.args.conn in
    let number = c.args.number in
    let name = c.args.name.now in
    let t : State = counted conn number s in
    let new : nat_le number row.last ≡ false = ap (nat_le number) last ∙ grind (arith, nat_tests) in
    let is1 = quiet g s t c.args.self.now c.count.new.self refl (c.count.ensures.counted g s is.living silent) is in
    space-is g (give_found g conn number c.in-Some.id c.in-Some.class t) (got_lookup g row number name s) c.give_found.new.self
    (looked-new g row number name s new
    ∙ ap (λ (n : ℕ). found g n number (object_of s (lookup s.owner.names name)) (counted n number s)) on.number
    ∙ found-one g conn number (object_of s (lookup s.owner.names name)) c.in-Some.id c.in-Some.class t (sym c.in-Some.is ∙ c.find.ensures g t is1.owner))
    (now g t is1)) c.give_found.ensures.given

pub returns-in-None-clause-got : goal.returns-in-None-clause-got
returns-in-None-clause-got w c = on_ok_weaker c.answer_threw.result (λ now. λ g s row is silent tells on last.
    let conn = c.args.conn in
    let number = c.args.number in
    let name = c.args.name.now in
    let t : State = counted conn number s in
    let new : nat_le number row.last ≡ false = ap (nat_le number) last ∙ grind (arith, nat_tests) in
    let is1 = quiet g s t c.args.self.now c.count.new.self refl (c.count.ensures.counted g s is.living silent) is in
    space-is g (answer_threw conn number g.classes.not_bound t) (got_lookup g row number name s) c.answer_threw.new.self
    (looked-new g row number name s new
    ∙ ap (λ (n : ℕ). found g n number (object_of s (lookup s.owner.names name)) (counted n number s)) on.number
    ∙ found-none g conn number (object_of s (lookup s.owner.names name)) t (sym c.in-None.is ∙ c.find.ensures g t is1.owner))
    (now g t is1 tells)) c.answer_threw.ensures.answered

pub returns-in-Some-clause-lent : goal.returns-in-Some-clause-lent
returns-in-Some-clause-lent w c = on_ok_weaker c.give_found.result (λ given. lent-next c.count.ensures.tasks given) c.give_found.ensures.lent

pub returns-in-None-clause-lent : goal.returns-in-None-clause-lent
returns-in-None-clause-lent w c = on_ok_weaker c.answer_threw.result (λ told. lent-next c.count.ensures.tasks told) c.answer_threw.ensures.lent
