use Rattle.std.proofs.Common.{◌≤◌, ◌<◌, sym, subst, ◌∙◌, arith}
use Rattle.sp_rules.specs.State.{State}
use Rattle.sp_living.specs.Livings.{IsLiving}
use Rattle.sp_living.proofs.StepLemmas.{in-time, late, left_by_moment, now-passed}
use Rattle.sp_living.proofs.living.Living.pass_moment.Goals as goal

pub returns-then-moment-self-clause-passed : goal.returns-then-moment-self-clause-passed
returns-then-moment-self-clause-passed c = λ g s a few.
    let is = a.moment.same in
    let before : c.args.moment < s.moment = omega (arith, is, c.if-moment-self.true) in
    subst (λ (u : State). IsLiving g u c.args.self.now) (sym (late g c.args.moment s before)) a

pub returns-clause-passed : goal.returns-clause-passed
returns-clause-passed c = λ g s a few.
    let moment = c.args.moment in
    let is = a.moment.same in
    let before : s.moment ≤ moment = omega (arith, is, c.if-moment-self.false) in
    let goes = sym (c.deref.ensures.value ∙ c.in_ok-references.ensures s.moment s.results a.results.of_calls) in
    subst (λ (u : State). IsLiving g u c.drop_holders.new.self) (sym (in-time g moment s c.deref.result.now before goes))
    (c.drop_holders.ensures.dropped g (left_by_moment moment s) (now-passed g s c.args.self.now moment few c.pass.new.self c.moment.new.self before (c.pass.ensures s.moment s.results a.results.of_calls before) (c.moment.ensures.moment s a.transport) a))
