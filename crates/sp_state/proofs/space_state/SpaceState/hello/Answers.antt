use Rattle.std.proofs.Common.{ℕ, Option, refl, sym, ap, subst, ◌∙◌}
use Rattle.std.specs.Prelude.{option_and_then}
use Rattle.std.proofs.lemmas.Result.{on_ok_weaker}
use Rattle.sp_rules.specs.Endings.{close}
use Rattle.sp_rules.specs.Frames.{answer_hello, greeted}
use Rattle.sp_rules.specs.State.{Connection}
use Rattle.sp_state.specs.Hellos.{take_hello}
use Rattle.sp_state.specs.Spaces.{IsSpace}
use Rattle.sp_state.proofs.FrameLemmas.{closed-at, hello-known, hello-strange, space-is}
use Rattle.sp_state.proofs.SpaceLemmas.{quiet}
use Rattle.sp_tasks.proofs.LentLemmas.{lent-same, lent-then}
use Rattle.sp_state.proofs.space_state.SpaceState.hello.Goals as goal

pub returns-then-speaks_with-clause-got : goal.returns-then-speaks_with-clause-got
returns-then-speaks_with-clause-got w c = on_ok_weaker c.answer_hello.result (λ said. λ g s row is silent tells on none.
    let hello = c.args.hello in
    let known = sym (c.speaks_with.ensures g s is) ∙ c.if-speaks_with.true in
    let living = c.greet.ensures.greeted g s is.living silent (λ d there. sym (ap (λ (o : Option Connection). option_and_then (λ (k : Connection). k.dialled) o) (sym on.there ∙ there)) ∙ none) in
    let now = quiet g s (greeted hello.space c.args.conn s) c.args.self.now c.greet.new.self refl living is in
    space-is g (answer_hello g hello.version row.number (greeted hello.space row.number s)) (take_hello g row hello s) c.answer_hello.new.self (hello-known g row hello s none known)
    (subst (λ (n : ℕ). IsSpace g (answer_hello g hello.version n (greeted hello.space n s)) c.answer_hello.new.self) (sym on.number) (said g (greeted hello.space c.args.conn s) now))) c.answer_hello.ensures.said

pub returns-clause-got : goal.returns-clause-got
returns-clause-got w c = on_ok_weaker c.close.result (λ now. λ g s row is silent tells on none.
    let hello = c.args.hello in
    let other = sym (c.speaks_with.ensures g s is) ∙ c.if-speaks_with.false in
    space-is g (close g g.classes.unmarshal row.number s) (take_hello g row hello s) c.close.new.self (hello-strange g row hello s none other)
    (closed-at g g.classes.unmarshal c.args.conn s row c.close.new.self on (now g s is silent tells))) c.close.ensures.closed

pub returns-then-speaks_with-clause-lent : goal.returns-then-speaks_with-clause-lent
returns-then-speaks_with-clause-lent w c = on_ok_weaker c.answer_hello.result (λ lent. lent-then (lent-same c.greet.ensures.tasks) lent) c.answer_hello.ensures.lent
