use Rattle.std.proofs.Common.{◌≤◌, ◌<◌, arith, sym, subst}
use Rattle.std.proofs.lemmas.Result.{on_ok_weaker}
use Rattle.sp_rules.specs.OwnEvents.{on_moment}
use Rattle.sp_owner.specs.Owners.{KeepsParts, OwnerParts}
use Rattle.sp_state.specs.Spaces.{AreNumbered}
use Rattle.sp_state.proofs.FrameLemmas.{space-is}
use Rattle.sp_state.proofs.SpaceLemmas.{late, moment-parts}
use Rattle.sp_tasks.proofs.LentLemmas.{lent-none, lent-same, on-any}
use Rattle.sp_state.proofs.space_state.SpaceState.moment.Goals as goal

pub returns-then-moment-last-clause-passed : goal.returns-then-moment-last-clause-passed
returns-then-moment-last-clause-passed c = λ g s is few.
    let last = c.moment-last.ensures g s is.living in
    let before : c.args.moment < s.moment = omega (arith, last, c.if-moment-last.true) in
    space-is g s (on_moment g c.args.moment s) c.args.self.now (late g c.args.moment s before) is

pub returns-clause-passed : goal.returns-clause-passed
returns-clause-passed c = on_ok_weaker c.pass_moment.result (λ passed. λ g s is few.
    let last = c.moment-last.ensures g s is.living in
    let after : s.moment ≤ c.args.moment = omega (arith, last, c.if-moment-last.false) in
    record {
      id = is.id;
      version = is.version;
      digest = is.digest;
      numbers = subst AreNumbered (sym (moment-parts g c.args.moment s after)) is.numbers;
      owner = subst (λ (p : OwnerParts). KeepsParts g p c.moment.new.self) (sym (moment-parts g c.args.moment s after)) (c.moment.ensures g s is.owner);
      living = passed g s is.living few;
    }) c.pass_moment.ensures.passed

pub returns-then-moment-last-clause-lent : goal.returns-then-moment-last-clause-lent
returns-then-moment-last-clause-lent c = lent-none c.args.self.now.living.tasks

pub returns-clause-lent : goal.returns-clause-lent
returns-clause-lent c = on-any c.pass_moment.result (lent-same c.pass_moment.ensures.tasks)

pub returns-then-moment-ge-END_OF_TIME-clause-passed : goal.returns-then-moment-ge-END_OF_TIME-clause-passed
returns-then-moment-ge-END_OF_TIME-clause-passed c = λ g s is few. absurd (omega arith)

pub returns-then-moment-ge-END_OF_TIME-clause-lent : goal.returns-then-moment-ge-END_OF_TIME-clause-lent
returns-then-moment-ge-END_OF_TIME-clause-lent c = lent-none c.args.self.now.living.tasks
