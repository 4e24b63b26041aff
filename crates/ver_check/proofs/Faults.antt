-- A fault tells of a body, a method or a class set that it is not type safe.
use Rattle.std.proofs.Common.{◌≡◌, ℕ, zero, suc, cond, refl, ◌<◌, ◌≤◌, ◌⊎◌, inl, inr, Bool, true, false, Option, Some, None, Result, Ok, Err, List, [], ◌∷◌, length, sym, subst, ap, ◌∙◌, arith}
use Rattle.std.specs.Prelude.{IsSomeAnd, MatchBool, MatchOption, option_and_then, slice_get, slice_index}
use Rattle.std.specs.List.{AllByRecursion}
use Rattle.cls_link.specs.Links.{Links}
use Rattle.cls_link.specs.declared.linked_code.LinkedInsn.{LinkedInsn}
use Rattle.cls_link.specs.declared.linked_code.LinkedMethod.{LinkedMethod}
use Rattle.cls_set.specs.declared.class.Class.{Class}
use Rattle.ver_check.proofs.Typings.{refuted, refuted_opening}
use Rattle.ver_check.specs.Acceptance.{AreSafe, IsSafe, IsSafeMethod, subject_of}
use Rattle.ver_check.specs.Bodies.{Body, body_of, declared_at, offset_at}
use Rattle.ver_check.specs.Effects.{effect, falls_through, targets}
use Rattle.ver_check.specs.Faults as faults
use Rattle.ver_check.specs.Faults.{IsBodyFault, IsCheckFault, IsFaultWith, IsMethodFault, IsMissing, IsWrongAmong, IsWrongAt, IsWrongBody, IsWrongEntry, IsWrongNext}
use Rattle.ver_check.specs.Flow.{ComesIn, GoesTo, Passes}
use Rattle.ver_check.specs.Refusals.{SettlesSet}
use Rattle.ver_check.specs.Typing.{IsTypeSafe, Lands}
use Rattle.ver_rules.specs.declared.fault.CheckFault.{CheckFault}
use Rattle.ver_rules.specs.declared.fault.CheckFault.TheVariants as fault
use Rattle.ver_rules.specs.declared.fault.CheckRule.{CheckRule}
use Rattle.ver_rules.specs.declared.fault.CheckRule.TheVariants.{NoFrame, NotAssignable}
use Rattle.ver_frames.specs.Assignable.{IsFrameAssignable}
use Rattle.ver_frames.specs.Frames.{Frame}
use Rattle.ver_frames.specs.Method.{Subject}
use Rattle.ver_frames.specs.StackMap.{declared_frames}
use Rattle.ver_frames.proofs.StackMapLaws.{declares_again}
use Rattle.ver_frames.specs.declared.fault.StackMapFault.{StackMapFault}

-- a frame that is not assignable to the one declared does not come in
entry_stops : (classes : List Class) (o : Option Frame) (given here : Frame) (R : Type 0) (S : Type 0) → IsSomeAnd o (λ declared. ¬ IsFrameAssignable classes given declared × R × S)
    → MatchOption o (here ≡ given) (λ declared. IsFrameAssignable classes given declared × (here ≡ declared)) → ⊥
entry_stops classes None given here R S wrong came = absurd wrong
entry_stops classes (Some d) given here R S wrong came = wrong.0 came.0

-- nor does it land on it
target_stops : (classes : List Class) (o : Option Frame) (given : Frame) (R S T U : Type 0) → ((o ≡ None) × R × S) ⊎ IsSomeAnd o (λ declared. ¬ IsFrameAssignable classes given declared × T × U)
    → IsSomeAnd o (λ declared. IsFrameAssignable classes given declared) → ⊥
target_stops classes None given R S T U wrong lands = absurd lands
target_stops classes (Some d) given R S T U (inl none) lands = absurd (let e = none.0 in cc)
target_stops classes (Some d) given R S T U (inr wrong) lands = wrong.0 lands

among_stops : (body : Body) (index : ℕ) (after : Frame) (ts : List ℕ) (rule : CheckRule) (told : ℕ) → IsWrongAmong body index after ts rule told → AllByRecursion (Lands body after) ts → ⊥
among_stops body index after [] rule told wrong lands = absurd wrong
among_stops body index after (t ∷ ts) rule told (inl wrong) lands =
    target_stops body.classes (declared_at body t) after (rule ≡ NoFrame) (told ≡ t) (rule ≡ NotAssignable) (told ≡ index) wrong lands.0
among_stops body index after (t ∷ ts) rule told (inr others) lands = among_stops body index after ts rule told others.1 lands.1

next_stops : (body : Body) (index : ℕ) (falls : Bool) (after next : Frame) (rule : CheckRule) (told : ℕ) (R S : Type 0)
    → MatchBool falls (((length body.insns ≤ suc index) × R × S) ⊎ ((suc index < length body.insns) × IsWrongEntry body (suc index) after index rule told)) ((suc index < length body.insns) × IsMissing body (suc index) rule told)
    → MatchBool falls ((suc index < length body.insns) × ComesIn body (suc index) after next) (suc index < length body.insns → declared_at body (suc index) ≡ Some next)
    → ⊥
next_stops body index true after next rule told R S (inl ends) goes = let past = ends.0 in let inside = goes.0 in absurd (omega (arith, past, inside))
next_stops body index true after next rule told R S (inr wrong) goes = entry_stops body.classes (declared_at body (suc index)) after next (rule ≡ NotAssignable) (told ≡ index) wrong.1 goes.1
next_stops body index false after next rule told R S wrong goes = let some = goes wrong.0 in let none = wrong.1.0 in absurd (cc)

same_ok : (f g : Frame) → ◌≡◌ {A = Result Frame CheckRule} (Ok f) (Ok g) → f ≡ g
same_ok f g e = cc

none_acts : (rule : CheckRule) (r : Result Frame CheckRule) (after : Frame) → r ≡ Err rule → r ≡ Ok after → ⊥
none_acts rule r after e acts = absurd (cc)

-- the pass does not come through an instruction that is at fault
pub wrong_stops : (body : Body) (index : ℕ) (i : LinkedInsn) (here next : Frame) (rule : CheckRule) (told : ℕ) → IsWrongAt body index i here rule told → Passes body index i here next → ⊥
wrong_stops body index i here next rule told (faults.IsWrongAt.acts e at) passes = none_acts rule (effect body (offset_at body index) i here) passes.after e passes.acts
wrong_stops body index i here next rule told (faults.IsWrongAt.lands after acts wrong) passes =
    among_stops body index after (targets body i) rule told wrong (subst (λ (f : Frame). AllByRecursion (Lands body f) (targets body i)) (same_ok passes.after after (sym passes.acts ∙ acts)) passes.lands)
wrong_stops body index i here next rule told (faults.IsWrongAt.goes_on after acts lands wrong) passes =
    next_stops body index (falls_through i) after next rule told _ _ wrong (subst (λ (f : Frame). GoesTo body index i f next) (same_ok passes.after after (sym passes.acts ∙ acts)) passes.goes_to)

-- a body that is at fault is not type safe
pub body_unsafe : (body : Body) (rule : CheckRule) (told : ℕ) → IsWrongBody body rule told → ¬ IsTypeSafe body
body_unsafe body rule told (faults.IsWrongBody.arguments many e at) safe = let few = safe.typing.arguments in absurd (omega (arith, many, few))
body_unsafe body rule told (faults.IsWrongBody.empty few none e at) safe = let some = safe.typing.begins in absurd (omega (arith, none, some))
body_unsafe body rule told (faults.IsWrongBody.opening few wrong) safe =
    refuted_opening body (λ here came. entry_stops body.classes (declared_at body 0) body.opening here (rule ≡ NotAssignable) (told ≡ 0) wrong came) safe
body_unsafe body rule told (faults.IsWrongBody.instruction few index i here reaches at wrong) safe =
    refuted body index i here reaches at (λ next passes. wrong_stops body index i here next rule told wrong passes) safe

fault_with : (m : Subject) (r : Result (List (ℕ × Frame)) StackMapFault) (rule : CheckRule) (at : ℕ) (declared : List (ℕ × Frame)) → IsFaultWith m r rule at → r ≡ Ok declared → IsTypeSafe (body_of m declared) → ⊥
fault_with m (Ok found) rule at declared wrong e safe =
    let same : found ≡ declared = cc in
    body_unsafe (body_of m found) rule wrong.told wrong.wrong (subst (λ (ds : List (ℕ × Frame)). IsTypeSafe (body_of m ds)) (sym same) safe)
fault_with m (Err broken) rule at declared wrong e safe = absurd (cc)

-- a method that is at fault is not type safe
pub method_unsafe : (m : Subject) (rule : CheckRule) (at : ℕ) → IsMethodFault m rule at → ¬ IsSafe m
method_unsafe m rule at wrong safe = fault_with m (declared_frames m) rule at safe.declared wrong (declares_again m safe.declared safe.spelled) safe.body

safe_subject : (o : Option Subject) (m : Subject) → o ≡ Some m → MatchOption o (Unit {0}) IsSafe → IsSafe m
safe_subject None m e safe = absurd (cc)
safe_subject (Some s) m e safe = let same : s ≡ m = cc in subst IsSafe same safe

safe_at : (classes : List Class) (o : Option LinkedMethod) (m : Subject) → option_and_then (subject_of classes) o ≡ Some m → MatchOption o (Unit {0}) (IsSafeMethod classes) → IsSafe m
safe_at classes None m e safe = absurd (cc)
safe_at classes (Some method) m e safe = safe_subject (subject_of classes method) m e safe

-- a class set at fault has a method that is not type safe
pub set_unsafe : {X : Type 0} (So : X → Type 0) (links : Links) (e : CheckFault) → IsCheckFault links e → SettlesSet {X = X} (Err e) So (¬ AreSafe links)
unfolding AreSafe
set_unsafe So links fault.Memory wrong = tt
set_unsafe So links (fault.Broken rule class method descriptor at) wrong = λ safe.
    method_unsafe wrong.subject rule at wrong.wrong (safe_at links.classes (slice_get links.methods wrong.index) wrong.subject wrong.stands (safe wrong.index wrong.inside))
