use Rattle.std.proofs.Common.{sym, subst}
use Rattle.sp_rules.specs.Classes.{Setting}
use Rattle.sp_rules.specs.State.{State}
use Rattle.sp_space.specs.Spaces.{IsSpace}
use Rattle.sp_machines.proofs.ResultLemmas.{if-err, if-ok, ok-of, ok-or-on, on-err}
use Rattle.sp_space.proofs.SpaceStep.{rests-at, step-accepted, step-answers, step-refused, step-same, step-space}
use Rattle.sp_space.proofs.world_space.SpaceWorldSpace.step.Goals as goal

pub invariant_of-self : goal.invariant_of-self
invariant_of-self c =
    let k = c.self.invariant.known in
    ok-or-on c.step_task.result _ _ _ (λ rests. rests) (λ rests. rests)
    (ok-of c.step_task.result _ _ (λ outputs done. rests-at k.setting _ c.step_task.new.self (done k.setting k.history k.is).stands c.step_task.ensures.free) c.step_task.ensures.done)
    (on-err c.step_task.result _ _ (λ same. rests-at k.setting k.history c.step_task.new.self (same k.setting k.history k.is) c.step_task.ensures.free) c.step_task.ensures.same)

pub returns : goal.returns
returns c =
    let space = c.self.inside.parts in
    let inside : (g : Setting) (s : State) → IsSpace g s c.args.self.now → IsSpace g s space = λ g s is. subst (IsSpace g s) (sym c.self.view_is) is in
    let after = c.step_task.new.self in
    let free = c.step_task.ensures.free in
    record {
      accepted = ok-of c.step_task.result _ _ (λ outputs done. λ g s is.
          step-accepted g s space after c.args.task _ (inside g s is) (done g (inside g s is).history (inside g s is).stands)) c.step_task.ensures.done;
      outputs = if-ok c.step_task.result _ _ (λ outputs done. λ g s is.
          step-answers g s space after c.args.task _ (inside g s is) (done g (inside g s is).history (inside g s is).stands)) c.step_task.ensures.done;
      state = ok-of c.step_task.result _ _ (λ outputs done. λ g s is.
          step-space g s space after c.args.task _ (inside g s is) (done g (inside g s is).history (inside g s is).stands) free) c.step_task.ensures.done;
      refused = if-err c.step_task.result _ _ (λ fault refused. λ g s is.
          step-refused g s space c.args.task fault (inside g s is) (refused g (inside g s is).history (inside g s is).stands)) c.step_task.ensures.refused;
      unchanged = on-err c.step_task.result _ _ (λ same. λ g s is.
          step-same g s space after (inside g s is) (same g (inside g s is).history (inside g s is).stands) free) c.step_task.ensures.same;
    }
