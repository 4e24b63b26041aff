use Rattle.std.proofs.Common.{◌≡◌, inl, inr, [], Option, refl, ap, sym, subst, ◌∙◌}
use Rattle.std.specs.Prelude.{is_some, map, true}
use Rattle.sp_events.specs.FaultNames.{Refuses}
use Rattle.sp_events.specs.declared.fault.CoreFault.TheVariants as fault
use Rattle.sp_outputs.specs.Notes.{output_of}
use Rattle.sp_rules.specs.Refusals.{Refusal}
use Rattle.sp_rules.specs.Space.{state_of}
use Rattle.sp_rules.specs.State.{ready_at}
use Rattle.sp_core.specs.Cores.{has_lent}
use Rattle.sp_core.specs.declared.space_core.SpaceCore.{SpaceCore}
use Rattle.sp_space.specs.Events.{IsStep, IsStepRefused}
use Rattle.sp_space.proofs.FreeLemmas.{lends-none, still-free, unready}
use Rattle.sp_machines.proofs.ResultLemmas.{if-err, if-ok, on-err}
use Rattle.sp_space.proofs.StandLemmas.{core-change}
use Rattle.sp_space.proofs.StepLemmas.{not-ready}
use Rattle.sp_space.proofs.parts.Parts.step_task.Goals as goal

-- it is not lent, since none is
pub returns-in_default-clause-refused : goal.returns-in_default-clause-refused
returns-in_default-clause-refused c = λ g h is.
    let s = state_of g h in
    let none = unready (is_some (ready_at s c.args.task)) (is_some c.lend.result) (c.lend.ensures.lent g s [] is.core (lends-none c.args.self.now.core c.requires.rests.free)) (ap is_some c.in_default.is) in
    inr (subst (λ (r : Option Refusal). Refuses r fault.NotLent) (sym (not-ready g s c.args.task none)) refl)

pub returns-in_default-clause-same : goal.returns-in_default-clause-same
returns-in_default-clause-same c = λ g h is. core-change g h c.args.self.now c.lend.new.self is (c.lend.ensures.state g (state_of g h) is.core)

pub returns-in_default-clause-free : goal.returns-in_default-clause-free
returns-in_default-clause-free c = still-free c.args.self.now.core c.lend.new.self c.requires.rests.free c.in_default.ensures.unchanged

-- it is
pub level-requires : goal.level-requires
level-requires c =
    let k = c.requires.rests.known in
    record {
      known = record {
        setting = k.setting;
        history = k.history;
        is = record {
          stands = core-change k.setting k.history c.args.self.now c.lend.new.self k.is (c.lend.ensures.state k.setting (state_of k.setting k.history) k.is.core);
          own = c.in-Some.ensures.own;
          fresh = c.in-Some.ensures.task.1;
        };
      };
    }

pub returns-in-Ok-clause-done : goal.returns-in-Ok-clause-done
returns-in-Ok-clause-done c =
    if-ok c.advance.result _ _ (λ outputs done. λ g h is.
    subst (λ id. IsStep g h id c.advance.new.self (map output_of outputs.items)) c.in-Some.ensures.task.0
    (done g h (c.in-Ok.ensures.level g h (record {
      stands = core-change g h c.args.self.now c.lend.new.self is (c.lend.ensures.state g (state_of g h) is.core);
      own = c.in-Some.ensures.own;
      fresh = c.in-Some.ensures.task.1;
    })))) c.advance.ensures.done

pub returns-in-Ok-clause-refused : goal.returns-in-Ok-clause-refused
returns-in-Ok-clause-refused c =
    if-err c.advance.result _ _ (λ fault refused. λ g h is.
    subst (λ id. IsStepRefused g h id fault) c.in-Some.ensures.task.0
    (refused g h (c.in-Ok.ensures.level g h (record {
      stands = core-change g h c.args.self.now c.lend.new.self is (c.lend.ensures.state g (state_of g h) is.core);
      own = c.in-Some.ensures.own;
      fresh = c.in-Some.ensures.task.1;
    })))) c.advance.ensures.refused

pub returns-in-Ok-clause-same : goal.returns-in-Ok-clause-same
returns-in-Ok-clause-same c =
    on-err c.advance.result _ _ (λ same. λ g h is.
    same g h (c.in-Ok.ensures.level g h (record {
      stands = core-change g h c.args.self.now c.lend.new.self is (c.lend.ensures.state g (state_of g h) is.core);
      own = c.in-Some.ensures.own;
      fresh = c.in-Some.ensures.task.1;
    }))) c.advance.ensures.same
