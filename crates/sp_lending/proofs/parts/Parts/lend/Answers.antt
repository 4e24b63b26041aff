use Rattle.std.proofs.Common.{◌≡◌, Option, true, ap, refl, sym, subst, ◌∙◌}
use Rattle.std.specs.Prelude.{option_and_then}
use Rattle.std.proofs.lemmas.Bool.{true≢false}
use Rattle.sp_core.specs.Cores.{is_historys, is_lent}
use Rattle.sp_machines.specs.Players.{Played}
use Rattle.sp_rules.specs.Space.{state_of}
use Rattle.sp_rules.specs.State.{ready_at}
use Rattle.sp_lender.specs.Hands.{IsHistorys}
use Rattle.sp_lending.specs.Rows.{row_at}
use Rattle.sp_lending.proofs.FoundLemmas.{found-as}
use Rattle.sp_lending.proofs.LendLemmas.{lends-else, lends-it, lent-task}
use Rattle.sp_lending.proofs.SpaceLemmas.{kept-space, lent-space, same-rows, space-core}
use Rattle.sp_lending.proofs.parts.Parts.lend.Goals as goal

pub returns-then-is_err-clause-state : goal.returns-then-is_err-clause-state
returns-then-is_err-clause-state c = λ g s is. same-rows g s c.args.self.now c.reserve.new.self is c.reserve.ensures.same

pub returns-in_default-clause-state : goal.returns-in_default-clause-state
returns-in_default-clause-state c = λ g s is.
    let space = c.args.self.now in
    kept-space g s (record space { rows = c.reserve.new.self }) c.lend.new.self (same-rows g s space c.reserve.new.self is c.reserve.ensures.same) (λ t core. c.lend.ensures.state g t core) c.in_default.ensures.unchanged

pub returns-clause-of : goal.returns-clause-of
returns-clause-of c = λ g s is.
    let space = c.args.self.now in
    let t = state_of g is.history in
    let hand = c.in-Some.hand in
    let same : hand.task.id ≡ c.args.task = c.in-Some.ensures.task.0 in
    lent-task g s space c.lend.new.self _ is
    (subst (λ id. is_historys (ready_at t id) hand.task ≡ true) (sym same) (c.in-Some.ensures.hand g t is.stands.core))
    (ap (is_lent c.lend.new.self) same ∙ lends-it c.args.task space.core c.lend.new.self c.in-Some.ensures.others)
    c.in-Some.ensures.task.1 refl
    (λ out. true≢false (sym (c.is_out.ensures (ap (λ id. row_at id space.rows) (sym same) ∙ out)) ∙ c.if-is_out.false))
    (c.take-player.ensures.taken ∙ ap (option_and_then (λ (x : Option Played). x)) (c.reserve.ensures.same c.args.task ∙ ap (λ id. row_at id space.rows) (sym same))) refl

pub returns-clause-historys : goal.returns-clause-historys
returns-clause-historys c = λ g s is.
    let space = c.args.self.now in
    let hand = c.in-Some.hand in
    let same : hand.task.id ≡ c.args.task = c.in-Some.ensures.task.0 in
    subst (λ id. IsHistorys (ready_at s id) hand.task) same
    (found-as s c.lend.new.self hand.task (subst (λ id. is_historys (ready_at s id) hand.task ≡ true) (sym same) (c.in-Some.ensures.hand g s (space-core g s space is)))
    (ap (is_lent c.lend.new.self) same ∙ lends-it c.args.task space.core c.lend.new.self c.in-Some.ensures.others)).historys

pub returns-clause-state : goal.returns-clause-state
returns-clause-state c = λ g s is.
    let space = c.args.self.now in
    lent-space g s c.args.task (record space { rows = c.reserve.new.self }) c.lend.new.self c.take-player.new.self (same-rows g s space c.reserve.new.self is c.reserve.ensures.same) (λ t core. c.lend.ensures.state g t core)
    (lends-else c.args.task space.core c.lend.new.self c.in-Some.ensures.others) c.take-player.ensures.out
