use Rattle.std.proofs.Common.{◌≡◌, arith, List, sym, ap, subst, ◌∙◌, length}
use Rattle.std.proofs.lemmas.Result.{on_ok_weaker}
use Rattle.space_ids.specs.declared.ids.ObjId.{ObjId}
use Rattle.sp_rules.specs.OwnEvents.{on_sweep}
use Rattle.sp_state.specs.Spaces.{IsSpace}
use Rattle.sp_state.specs.Sweeping.{idle_of, withdrawn}
use Rattle.sp_state.proofs.FrameLemmas.{space-is}
use Rattle.sp_state.proofs.SweepLemmas.{not-empty, nothing-goes, some-go}
use Rattle.sp_tasks.proofs.LentLemmas.{lent-none}
use Rattle.sp_state.proofs.space_state.SpaceState.sweep.Goals as goal

pub returns-then-count-eq0-clause-swept : goal.returns-then-count-eq0-clause-swept
returns-then-count-eq0-clause-swept c = λ g s is.
    let none : length c.in_ok-ids.ids.items ≡ 0 = omega arith in
    space-is g s (on_sweep g s) c.args.self.now (nothing-goes g s (sym (c.in_ok-ids.ensures g s is) ∙ not-empty c.in_ok-ids.ids.items none)) is

pub returns-clause-swept : goal.returns-clause-swept
returns-clause-swept c = on_ok_weaker c.withdraw.result (λ now. λ g s is.
    let same = c.in_ok-ids.ensures g s is in
    space-is g (withdrawn g (idle_of g s) s) (on_sweep g s) c.withdraw.new.self
    (some-go g s is.numbers (λ none. let e : length c.in_ok-ids.ids.items ≡ 0 = ap length (same ∙ none) in absurd (omega arith)))
    (subst (λ (ids : List ObjId). IsSpace g (withdrawn g ids s) c.withdraw.new.self) same (now g s is))) c.withdraw.ensures.withdrawn

pub returns-then-count-eq0-clause-lent : goal.returns-then-count-eq0-clause-lent
returns-then-count-eq0-clause-lent c = lent-none c.args.self.now.living.tasks
