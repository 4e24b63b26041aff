-- How outcomes are told, with the names of classes. (JVMS 2.6.4, 2.10; what a task may return is this project's own.)
use Rattle.std.specs.Prelude.{◌≡◌, ℕ, MatchBool, Some, None, List, length, nat_le}
use Rattle.cls_set.specs.Classes as sets
use Rattle.cls_set.specs.declared.class.Class.{Class}
use Rattle.sp_files.specs.declared.outcome.RunOutcome.{RunOutcome}
use Rattle.sp_files.specs.declared.outcome.RunOutcome.TheVariants as told
use Rattle.space_ids.specs.declared.ids.ClassId.{ClassId}
use Rattle.space_ids.specs.declared.value.Value.TheVariants as value
use Rattle.vm_act.specs.Crossing.{most_elements}
use Rattle.vm_step.specs.Ends.{End, ReturnedNothing, ReturnedInt, ReturnedNull, ReturnedInts, ReturnedRemote, Threw, ThrewObject, Spent}
use Rattle.vm_step.specs.Task.{thrown_name, unmarshalled}
use Rattle.vm_step.specs.declared.outcome.Outcome.{Outcome}
use Rattle.vm_step.specs.declared.outcome.Outcome.TheVariants as outcome

-- the class of this number was thrown, by its name in the set
abbrev pub ThrewClass : List Class → ClassId → RunOutcome → Type 0
ThrewClass classes class outcome = (name : List ℕ) × (outcome ≡ told.Threw name) × (sets.name_at classes class ≡ Some name)

-- how a task ended, as it is printed: an array by its elements, if there are not too many, and a thrown class by its name. A longer
-- array cannot cross, and a MarshalException is thrown in its place
abbrev pub IsTold : List Class → End → RunOutcome → Type 0
IsTold classes ReturnedNothing outcome = outcome ≡ told.Returned None
IsTold classes (ReturnedInt n) outcome = outcome ≡ told.Returned (Some (value.Int n))
IsTold classes ReturnedNull outcome = outcome ≡ told.Returned (Some value.Null)
IsTold classes (ReturnedInts elements) outcome =
    MatchBool (nat_le (length elements) most_elements) (outcome ≡ told.Returned (Some (value.Ints elements))) (outcome ≡ told.Threw unmarshalled)
IsTold classes (ReturnedRemote reference) outcome = outcome ≡ told.Returned (Some (value.Ref reference))
IsTold classes (Threw thrown) outcome = outcome ≡ told.Threw (thrown_name thrown)
IsTold classes (ThrewObject class) outcome = ThrewClass classes class outcome
IsTold classes Spent outcome = outcome ≡ told.Spent

-- an outcome with the name of a class instead of its number
abbrev pub IsNamed : List Class → Outcome → RunOutcome → Type 0
IsNamed classes (outcome.Returned value) named = named ≡ told.Returned value
IsNamed classes (outcome.Threw class) named = ThrewClass classes class named
IsNamed classes outcome.Spent named = named ≡ told.Spent
