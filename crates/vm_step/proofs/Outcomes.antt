-- What the outcome of a task tells of its end.
use Rattle.std.proofs.Common.{◌≡◌, ℕ, ◌<◌, List, [], length, refl, ap, subst, ◌∙◌, ◌≤◌, arith, le-leb, Option, Some, None}
use Rattle.std.proofs.lemmas.List.{length-map}
use Rattle.std.proofs.lemmas.Option.{slice_get_within}
use Rattle.std.specs.Prelude.{ℤ, Bool, true, false, nat_le, if◌then◌else◌, IsSome, MatchBool, OnErr, Result, Ok, Err, option_and_then, option_map}
use Rattle.cls_link.specs.Links.{Links}
use Rattle.cls_set.proofs.Names.{name_at_number}
use Rattle.cls_set.specs.Classes.{names, number_of}
use Rattle.cls_set.specs.declared.class.Class.{Class}
use Rattle.space_ids.specs.declared.ids.ClassId.{ClassId}
use Rattle.space_ids.specs.declared.value.Value.TheVariants as value
use Rattle.vm_step.specs.Run.{State, over, run, IsNotLost, IsNeverStuck}
use Rattle.vm_step.proofs.Runs.{at_once}
use Rattle.vm_step.specs.Task.{outcome_at, outcome_of, thrown_name, threw_named, unmarshalled, GivesInts, IsOfSet, IsOutcome, Tells, TellsThrown}
use Rattle.vm_act.specs.Crossing.{most_elements}
use Rattle.vm_step.specs.declared.outcome.Outcome.{Outcome}
use Rattle.vm_step.specs.declared.outcome.Outcome.TheVariants as outcome
use Rattle.vm_heap.specs.Heap.{Cell, Ints, Object, cell_at, length_at, length_of}
use Rattle.vm_act.specs.declared.ending.Ending.{Ending}
use Rattle.vm_act.specs.declared.ending.Ending.TheVariants.{ReturnedReference}
use Rattle.vm_step.specs.Ends.{End, ReturnedNothing, ReturnedInt, ReturnedNull, ReturnedInts, ReturnedRemote, Threw, ThrewObject, Spent, IsEndIn, end_of, returned_at, returned_cell}

-- what is returned lies in no empty heap
pub nowhere : (e : Ending) (o : Option ℕ) (address : ℕ) → IsSome (end_of [] e) → e ≡ ReturnedReference o → o ≡ Some address → ⊥
unfolding cell_at
nowhere e o address some is at =
    let none : IsSome (end_of [] (ReturnedReference (Some address))) = subst IsSome (ap (end_of []) (is ∙ ap ReturnedReference at)) some in
    absurd (cc)

-- a task that is never stuck has ended with something
pub end_there : (links : Links) (s : State) (o : Option End) (fuel : ℕ) → IsNeverStuck links s → s ≡ over o fuel → IsSome o
unfolding run
end_there links s o fuel safe is = of o (subst (IsNotLost links) is (at_once links s safe))
  where
    of : (o : Option End) → IsNotLost links (over o fuel) → IsSome o
    of None h = absurd h
    of (Some e) h = refl

-- what is known of the outcome that an end is to callers
pub record IsTold (classes : List Class) (end : End) (told : Outcome) : Type 0 where
  pub tells : Tells classes end told
  pub of_set : IsOfSet classes told

named : (classes : List Class) (name : List ℕ) (told : Outcome) (found : Option ClassId) → number_of classes name ≡ found
    → option_map (λ class. outcome.Threw class) found ≡ Some told → TellsThrown classes name told × IsOfSet classes told
named classes name told None is e = absurd (cc)
named classes name told (Some id) is e =
    let same : outcome.Threw id ≡ told = cc in
    let at = name_at_number classes name id is in
    let within : id.0 < length (names classes) = slice_get_within (names classes) id.0 name at in
    rw (← same) ((id, refl, at), omega (arith, within, length-map classes (λ (c : Class). c.file.name)))

told_ints : (classes : List Class) (elements : List ℤ) (told : Outcome) (b : Bool) → nat_le (length elements) most_elements ≡ b
    → (if b then Some (outcome.Returned (Some (value.Ints elements))) else threw_named classes unmarshalled) ≡ Some told
    → MatchBool b (told ≡ outcome.Returned (Some (value.Ints elements))) (TellsThrown classes unmarshalled told) × IsOfSet classes told
told_ints classes elements told true is e =
    let same : outcome.Returned (Some (value.Ints elements)) ≡ told = cc in
    rw (← same) (refl, tt)
told_ints classes elements told false is e = named classes unmarshalled told (number_of classes unmarshalled) refl e

told_end : (classes : List Class) (end : End) (told : Outcome) → outcome_of classes end ≡ Some told → IsEndIn classes end → IsTold classes end told
told_end classes ReturnedNothing told e in_set = let same : outcome.Returned None ≡ told = cc in rw (← same) record { tells = refl; of_set = tt }
told_end classes (ReturnedInt n) told e in_set = let same : outcome.Returned (Some (value.Int n)) ≡ told = cc in rw (← same) record { tells = refl; of_set = tt }
told_end classes ReturnedNull told e in_set = let same : outcome.Returned (Some value.Null) ≡ told = cc in rw (← same) record { tells = refl; of_set = tt }
told_end classes (ReturnedInts elements) told e in_set =
    let so = told_ints classes elements told (nat_le (length elements) most_elements) refl e in
    record { tells = so.0; of_set = so.1 }
told_end classes (ReturnedRemote reference) told e in_set =
    let same : outcome.Returned (Some (value.Ref reference)) ≡ told = cc in rw (← same) record { tells = refl; of_set = tt }
told_end classes (Threw thrown) told e in_set =
    let so = named classes (thrown_name thrown) told (number_of classes (thrown_name thrown)) refl e in
    record { tells = so.0; of_set = so.1 }
told_end classes (ThrewObject class) told e in_set = let same : outcome.Threw class ≡ told = cc in rw (← same) record { tells = refl; of_set = in_set }
told_end classes Spent told e in_set = let same : outcome.Spent ≡ told = cc in rw (← same) record { tells = refl; of_set = tt }

-- the outcome of a task that is over
pub record Outcomes (classes : List Class) (s : State) (told : Outcome) : Type 0 where
  pub ending : IsOutcome classes s told
  pub of_set : IsOfSet classes told

pub is_outcome : (links : Links) (s : State) (o : Option End) (fuel : ℕ) (told : Outcome) → IsNeverStuck links s → s ≡ over o fuel
    → option_and_then (outcome_of links.classes) o ≡ Some told → Outcomes links.classes s told
unfolding run
is_outcome links s o fuel told safe is e = of o (subst (IsNotLost links) is (at_once links s safe)) is e
  where
    of : (o : Option End) → IsNotLost links (over o fuel) → s ≡ over o fuel → option_and_then (outcome_of links.classes) o ≡ Some told → Outcomes links.classes s told
    of None h is e = absurd h
    of (Some end) h is e =
        let so = told_end links.classes end told e h in
        record { ending = record { end = end; left = fuel; over = is; tells = so.tells }; of_set = so.of_set }

-- ---- an array is given

ints_within : (classes : List Class) (elements : List ℤ) → length elements ≤ most_elements → GivesInts (outcome_of classes (ReturnedInts elements))
ints_within classes elements few = rw (le-leb (length elements) most_elements few) tt

-- an array that is not too long crosses
pub gives_ints : (classes : List Class) (cells : List Cell) (address count : ℕ) → length_at address cells ≡ Some count → count ≤ most_elements
    → GivesInts (option_and_then (outcome_of classes) (returned_at cells (Some address)))
gives_ints classes cells address count is few = of_cell (cell_at cells address) is
  where
    of_cell : (o : Option Cell) → option_and_then length_of o ≡ Some count → GivesInts (option_and_then (outcome_of classes) (option_map returned_cell o))
    of_cell None long = absurd (cc)
    of_cell (Some (Object class fields)) long = absurd (cc)
    of_cell (Some (Ints elements)) long = let same : length elements ≡ count = cc in ints_within classes elements (omega (arith, same, few))

pub given_over : (classes : List Class) (o : Option End) (fuel : ℕ) → GivesInts (option_and_then (outcome_of classes) o) → GivesInts (outcome_at classes (over o fuel))
given_over classes None fuel gives = absurd gives
given_over classes (Some end) fuel gives = gives

-- what holds in any case holds of an error
pub on_err : {T E P : Type 0} (r : Result T E) → P → OnErr r P
on_err (Ok x) holds = tt
on_err (Err e) holds = holds
