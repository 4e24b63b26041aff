use Rattle.std.proofs.Common.{ℕ, cond, sym, ap, refl, subst, ◌∙◌}
use Rattle.std.specs.Prelude.{min}
use Rattle.std.proofs.lemmas.Result.{on_ok_weaker}
use Rattle.sp_rules.specs.Frames.{answer_hello, say_hello}
use Rattle.sp_owner.specs.Owners.{owner_parts}
use Rattle.sp_living.specs.Livings.{IsLiving}
use Rattle.sp_state.proofs.FrameLemmas.{space-is}
use Rattle.sp_state.proofs.QuietLemmas.{parts-quiet, say_hello_keeps}
use Rattle.sp_state.proofs.SpaceLemmas.{quiet}
use Rattle.sp_tasks.proofs.LentLemmas.{lent-same, on-any}
use Rattle.sp_state.proofs.space_state.SpaceState.answer_hello.Goals as goal

pub returns-then-says_late-clause-said : goal.returns-then-says_late-clause-said
returns-then-says_late-clause-said c = on_ok_weaker c.answer_hello.result (λ said. λ g s is.
    let lower = min c.args.version g.version in
    let late = sym (c.says_late.ensures g s is) ∙ c.if-says_late.true in
    let living = subst (λ (v : ℕ). IsLiving g (say_hello g v c.args.conn s) c.answer_hello.new.self) (c.min.ensures ∙ ap (λ (v : ℕ). min c.args.version v) is.version) (said g s is.living is.digest) in
    space-is g (say_hello g lower c.args.conn s) (answer_hello g c.args.version c.args.conn s) _ (ap (λ b. cond b (say_hello g lower c.args.conn s) s) late)
    (quiet g s (say_hello g lower c.args.conn s) c.args.self.now c.answer_hello.new.self (say_hello_keeps (parts-quiet g (owner_parts s)) {s = s} lower c.args.conn refl) living is)) c.answer_hello.ensures.said

pub returns-clause-said : goal.returns-clause-said
returns-clause-said c = λ g s is.
    space-is g s (answer_hello g c.args.version c.args.conn s) c.args.self.now (ap (λ b. cond b (say_hello g (min c.args.version g.version) c.args.conn s) s) (sym (c.says_late.ensures g s is) ∙ c.if-says_late.false)) is

pub returns-then-says_late-clause-lent : goal.returns-then-says_late-clause-lent
returns-then-says_late-clause-lent c = on-any c.answer_hello.result (lent-same c.answer_hello.ensures.tasks)
