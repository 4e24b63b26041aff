-- A task that was started and run to its end is a whole run of the tagged machine.
use Rattle.std.proofs.Common.{◌≡◌, ◌∙◌, ℕ, ℤ, Bool, true, false, List, ap, sym, subst, arith, Some}
use Rattle.std.specs.Prelude.{Err, IfOk, MatchBool, Ok, Result, length, nat_le}
use Rattle.cls_link.specs.Links.{Links}
use Rattle.cls_link.specs.declared.linked_code.MethodId.{MethodId}
use Rattle.cls_set.specs.declared.class.Class.{Class}
use Rattle.sp_runs.specs.OfProgram.{IsEndOf}
use Rattle.sp_runs.specs.Outcomes.{IsNamed, IsTold, ThrewClass}
use Rattle.sp_runs.specs.Runs.{Runs}
use Rattle.sp_files.specs.declared.outcome.RunOutcome.{RunOutcome}
use Rattle.sp_files.specs.declared.outcome.RunOutcome.TheVariants as told
use Rattle.uuid.specs.Parts.{zero_bytes}
use Rattle.space_ids.specs.declared.value.Value.{Value}
use Rattle.space_ids.specs.declared.value.Value.TheVariants as value
use Rattle.vm_act.specs.Crossing.{most_elements}
use Rattle.vm_step.specs.Ends.{End, ReturnedNothing, ReturnedInt, ReturnedNull, ReturnedInts, ReturnedRemote, Threw, ThrewObject, Spent}
use Rattle.vm_step.specs.Limited.{KeepsWithin}
use Rattle.vm_step.specs.Run.{run, IsNeverStuck}
use Rattle.vm_step.specs.Start.{started}
use Rattle.vm_step.specs.Task as tasks
use Rattle.vm_step.specs.Task.{Tasked, IsOutcome, TellsThrown, fuel_left, thrown_name, unmarshalled}
use Rattle.vm_step.specs.declared.limits.Limits.{Limits}
use Rattle.vm_step.specs.declared.outcome.Outcome.{Outcome}
use Rattle.vm_step.specs.declared.outcome.Outcome.TheVariants as outcome
use Rattle.vm_step.proofs.Made.{made-fuel}

module _ (classes : List Class) (o : Outcome) (named : RunOutcome) (is : IsNamed classes o named) where
  abbrev renamed : (p : Outcome) → o ≡ p → IsNamed classes p named
  renamed p same = subst (λ (p : Outcome). IsNamed classes p named) same is

  -- a class that was thrown is told by the name that it has in the set
  thrown_told : (name : List ℕ) → TellsThrown classes name o → named ≡ told.Threw name
  thrown_told name tells =
      let threw : ThrewClass classes tells.0 named = renamed (outcome.Threw tells.0) tells.1 in
      let some : Some threw.0 ≡ Some name = sym threw.2 ∙ tells.2 in
      let same : threw.0 ≡ name = cc in
      threw.1 ∙ ap (λ (name : List ℕ). told.Threw name) same

  ints_told : (elements : List ℤ) (b : Bool) → MatchBool b (o ≡ outcome.Returned (Some (value.Ints elements))) (TellsThrown classes unmarshalled o)
      → MatchBool b (named ≡ told.Returned (Some (value.Ints elements))) (named ≡ told.Threw unmarshalled)
  ints_told elements true tells = renamed (outcome.Returned (Some (value.Ints elements))) tells
  ints_told elements false tells = thrown_told unmarshalled tells

  -- so each end is told
  pub named-IsTold : (end : End) → tasks.Tells classes end o → IsTold classes end named
  named-IsTold ReturnedNothing tells = renamed _ tells
  named-IsTold (ReturnedInt n) tells = renamed _ tells
  named-IsTold ReturnedNull tells = renamed _ tells
  named-IsTold (ReturnedInts elements) tells = ints_told elements (nat_le (length elements) most_elements) tells
  named-IsTold (ReturnedRemote reference) tells = renamed _ tells
  named-IsTold (Threw thrown) tells = thrown_told (thrown_name thrown) tells
  named-IsTold (ThrewObject class) tells = renamed _ tells
  named-IsTold Spent tells = renamed _ tells

pub whole_run : (program : Links) (method : MethodId) (arguments : List Value) (limits : Limits) (task : Tasked) (steps : ℕ) (o : Outcome) (named : RunOutcome)
    → started program zero_bytes method arguments limits ≡ Ok task → IsNeverStuck program task.state → ((k : ℕ) → KeepsWithin program (run program k task.state))
    → fuel_left task.state ≡ limits.fuel → IsOutcome program.classes (run program steps task.state) o → IsNamed program.classes o named
    → Runs program method arguments limits named
whole_run program method arguments limits task steps o named start never within fuel is name =
    let left : fuel_left (run program steps task.state) ≡ is.left = ap fuel_left is.over in
    record {
      task = task;
      starts = start;
      never_stuck = never;
      within = within;
      steps = steps;
      end = is.end;
      left = is.left;
      ends = is.over;
      fuel = omega (arith, made-fuel program steps task.state never, left, fuel);
      told = named-IsTold program.classes o named name is.end is.tells;
    }

-- so it is if the outcome is told of the state where it ended
pub whole_end : {E : Type 0} (program : Links) (method : MethodId) (arguments : List Value) (limits : Limits) (task : Tasked) (steps : ℕ)
    → started program zero_bytes method arguments limits ≡ Ok task → IsNeverStuck program task.state → ((k : ℕ) → KeepsWithin program (run program k task.state))
    → fuel_left task.state ≡ limits.fuel → (r : Result RunOutcome E) → IfOk r (IsEndOf program (run program steps task.state)) → IfOk r (Runs program method arguments limits)
whole_end program method arguments limits task steps start never within fuel (Ok told) end =
    whole_run program method arguments limits task steps end.0 told start never within fuel end.1 end.2
whole_end program method arguments limits task steps start never within fuel (Err e) end = tt
