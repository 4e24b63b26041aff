-- A machine over the replies of its space: some moves and then others, and how it ends.
use Rattle.std.proofs.Common.{◌≡◌, ℕ, zero, suc, ◌+◌, true, false, List, [], ◌∷◌, ◌++◌, Option, Some, None, refl, sym, subst, arith, length}
use Rattle.std.specs.Prelude.{IsSome, nat_le, option_map, if◌then◌else◌}
use Rattle.cls_link.specs.Links.{Links, AreLinks}
use Rattle.cls_set.specs.declared.class.Class.{Class}
use Rattle.space_ids.specs.declared.ids.ClassId.{ClassId}
use Rattle.space_ids.specs.declared.value.Value.TheVariants as value
use Rattle.sp_behaviours.specs.Behaviours.{told, told_end, told_some}
use Rattle.sp_behaviours.specs.Follows.{stand_before, stand_of}
use Rattle.sp_rules.specs.Behaviours as rules
use Rattle.sp_rules.specs.Tasks.{HasEnded}
use Rattle.sp_runs.specs.OverReplies.{made_over}
use Rattle.vm_act.specs.Crossing.{most_elements}
use Rattle.vm_act.specs.Next.{Next, On, Ends, Asks, Stuck}
use Rattle.vm_act.specs.declared.ending.Thrown.TheVariants as thrown
use Rattle.vm_step.specs.Ends.{End, ReturnedNothing, ReturnedInt, ReturnedNull, ReturnedInts, ReturnedRemote, Threw, ThrewObject, Spent}
use Rattle.vm_step.specs.Run.{State, Running, Waits, Over, Lost, AreDue, IsNeverStuck, IsNotLost, after, answer, played, run, step}
use Rattle.vm_step.specs.Steps as insns
use Rattle.vm_step.specs.Task.{IsOfSet, Tells, fuel_left, outcome_of, thrown_name, threw_named, unmarshalled}
use Rattle.vm_step.specs.declared.outcome.Outcome.{Outcome}
use Rattle.vm_step.specs.declared.outcome.Outcome.TheVariants as outcome
use Rattle.vm_step.proofs.Made.{made-fuel}
use Rattle.vm_step.proofs.Outcomes.{is_outcome}
use Rattle.vm_step.proofs.Runs.{at_once, at_steps}
use Rattle.vm_step.proofs.Throws.{thrown_stands}
use Rattle.vm_typing.specs.Runs.{Move, Replied, Steps}

-- ---- one after the other

pub played-append : (links : Links) (some others : List Move) (s : State) → played links (some ++ others) s ≡ played links others (played links some s)
unfolding played
played-append links [] others s = refl
played-append links (Steps k ∷ some) others s = played-append links some others (run links k s)
played-append links (Replied given ∷ some) others s = played-append links some others (answer given s)

pub due-append : (links : Links) (some others : List Move) (s : State) → AreDue links some s → AreDue links others (played links some s) → AreDue links (some ++ others) s
unfolding played AreDue
due-append links [] others s due more = more
due-append links (Steps k ∷ some) others s due more = due-append links some others (run links k s) due more
due-append links (Replied given ∷ some) others s due more = (due.0, due-append links some others (answer given s) due.1 more)

pub made-append : (links : Links) (some others : List Move) (s : State) → made_over links (some ++ others) s ≡ made_over links some s + made_over links others (played links some s)
unfolding played made_over
made-append links [] others s = omega arith
made-append links (Steps k ∷ some) others s = let rest = made-append links some others (run links k s) in omega (arith, rest)
made-append links (Replied given ∷ some) others s = let rest = made-append links some others (answer given s) in omega (arith, rest)

-- ---- some steps

pub step-played : (links : Links) (k : ℕ) (s : State) → played links (Steps k ∷ []) s ≡ run links k s
unfolding played
step-played links k s = refl

pub step-due : (links : Links) (k : ℕ) (s : State) → AreDue links (Steps k ∷ []) s
unfolding AreDue
step-due links k s = tt

pub step-counted : (links : Links) (k : ℕ) (s : State) → IsNeverStuck links s → made_over links (Steps k ∷ []) s + fuel_left (played links (Steps k ∷ []) s) ≡ fuel_left s
unfolding played made_over
step-counted links k s safe = let all = made-fuel links k s safe in omega (arith, all)

-- ---- ends

-- an outcome as the machine has it
abbrev pub untold : rules.Outcome → Outcome
untold (rules.Returned value) = outcome.Returned value
untold (rules.Threw class) = outcome.Threw class
untold rules.Spent = outcome.Spent

pub told-untold : (o : rules.Outcome) → told (untold o) ≡ o
told-untold (rules.Returned value) = refl
told-untold (rules.Threw class) = refl
told-untold rules.Spent = refl

pub untold-told : (o : Outcome) → untold (told o) ≡ o
untold-told (outcome.Returned value) = refl
untold-told (outcome.Threw class) = refl
untold-told outcome.Spent = refl

-- Where its task has ended, the machine is over after one step more, with what tells of that end.
pub record IsOverSo (links : Links) (s : State) (o : Outcome) : Type 0 where
  pub end : End
  pub left : ℕ
  pub over : run links 1 s ≡ Over end left
  pub tells : Tells links.classes end o
  pub of_set : IsOfSet links.classes o

threw-there : (classes : List Class) (name : List ℕ) (found : Option ClassId) → IsSome found → IsSome (option_map (λ class. outcome.Threw class) found)
threw-there classes name None some = absurd (cc)
threw-there classes name (Some id) some = refl

-- a linked set has each class that is thrown
outcome-there : (links : Links) → AreLinks links → (end : End) → IsSome (outcome_of links.classes end)
outcome-there links are ReturnedNothing = refl
outcome-there links are (ReturnedInt n) = refl
outcome-there links are ReturnedNull = refl
outcome-there links are (ReturnedInts elements) =
    elim (nat_le (length elements) most_elements) as (λ b. IsSome (if b then Some (outcome.Returned (Some (value.Ints elements))) else threw_named links.classes unmarshalled)) [
      | true ↦ refl
      | false ↦ threw-there links.classes unmarshalled _ (thrown_stands links thrown.MarshalException are)
    ]
outcome-there links are (ReturnedRemote reference) = refl
outcome-there links are (Threw what) = threw-there links.classes (thrown_name what) _ (thrown_stands links what are)
outcome-there links are (ThrewObject class) = refl
outcome-there links are Spent = refl

one-end : (a b : rules.Outcome) → HasEnded a ≡ HasEnded b → a ≡ b
one-end a b e = cc

module _ (links : Links) (are : AreLinks links) where
  told-over : (end : End) (fuel : ℕ) (found : Option Outcome) → IsNeverStuck links (Over end fuel) → outcome_of links.classes end ≡ found → IsSome found → IsOverSo links (Over end fuel) (untold (told_some found))
  unfolding run step
  told-over end fuel None safe is some = absurd (cc)
  told-over end fuel (Some so) safe is some =
      let known = is_outcome links (Over end fuel) (Some end) fuel so safe refl is in
      let same : Over known.ending.end known.ending.left ≡ Over end fuel = sym known.ending.over in
      let one : known.ending.end ≡ end = cc in
      subst (IsOverSo links (Over end fuel)) (sym (untold-told so))
      (record { end = end; left = fuel; over = refl; tells = subst (λ (e : End). Tells links.classes e so) one known.ending.tells; of_set = known.of_set })

  pub over-so : (s : State) (o : rules.Outcome) → IsNeverStuck links s → stand_of links s ≡ HasEnded o → IsOverSo links s (untold o)
  unfolding run step
  over-so (Running m zero) o safe e =
      subst (λ (x : rules.Outcome). IsOverSo links (Running m zero) (untold x)) (one-end rules.Spent o e) (record { end = Spent; left = zero; over = refl; tells = refl; of_set = tt })
  over-so (Running m (suc fuel)) o safe e = by (insns.step links m) refl e
    where
      by : (n : Next) → insns.step links m ≡ n → stand_before links n ≡ HasEnded o → IsOverSo links (Running m (suc fuel)) (untold o)
      by (On m') is e = absurd (cc)
      by (Ends ending) is e = absurd (cc)
      by (Asks op m') is e = absurd (cc)
      by Stuck is e = absurd (subst (λ (n : Next). IsNotLost links (after m.heap.cells n fuel)) is (at_steps links (Running m (suc fuel)) safe 1))
  over-so (Waits op m fuel) o safe e = absurd (cc)
  over-so (Over end fuel) o safe e =
      subst (λ (x : rules.Outcome). IsOverSo links (Over end fuel) (untold x)) (one-end (told_end links.classes end) o e) (told-over end fuel (outcome_of links.classes end) safe refl (outcome-there links are end))
  over-so Lost o safe e = absurd (at_once links Lost safe)
