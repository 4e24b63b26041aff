-- A method of a program that does not run is refused as such.
use Rattle.std.proofs.Common.{inl, inr, ℕ, List, Some, IfOk, subst, sym}
use Rattle.std.specs.Prelude.{Result, Ok, Err, IfErr}
use Rattle.cls_link.specs.Links.{Links}
use Rattle.cls_link.specs.declared.linked_code.MethodId.{MethodId}
use Rattle.sp_files.specs.Names.{NamesMethod}
use Rattle.sp_files.specs.Programs.{IsProgram}
use Rattle.sp_files.specs.declared.files.ClassBytes.{ClassBytes}
use Rattle.sp_files.specs.declared.outcome.RunOutcome.{RunOutcome}
use Rattle.sp_files.specs.declared.refusal.Refusal.{Refusal}
use Rattle.sp_files.specs.declared.refusal.Refusal.TheVariants as refusal
use Rattle.sp_runs.specs.InSpace.{RunsInSpace}
use Rattle.sp_runs.specs.OfProgram.{IsNotFound, IsRefusedOf, IsRunOf}
use Rattle.sp_runs.specs.Runs.{IsNotRun, IsNotRunInSpace, IsRefused, IsRun, Runs, absent, no_memory, not_started, passes_reference}
use Rattle.space_ids.specs.declared.value.Value.{Value}
use Rattle.vm_step.specs.Run.{HasNoRemote}
use Rattle.vm_step.specs.declared.fault.StartFault.{StartFault}
use Rattle.vm_step.specs.declared.limits.Limits.{Limits}

refused : (files : List ClassBytes) (class text : List ℕ) (arguments : List Value) (limits : Limits) (program : Links) (method : MethodId)
    → IsProgram files program → NamesMethod program class text (Some method) → (r : Refusal) → IsNotRun program method arguments limits r → IsRefused files class text arguments limits r
refused files class text arguments limits program method is named (refusal.Start fault) why = not_started program method fault is named why
refused files class text arguments limits program method is named refusal.Memory why = no_memory
refused files class text arguments limits program method is named r why = absurd why

pub run_refused : {A : Type 0} (class text : List ℕ) (arguments : List Value) (limits : Limits) (program : Links) (method : MethodId)
    → NamesMethod program class text (Some method) → (r : Result A Refusal) → IfErr r (IsNotRun program method arguments limits) → IfErr r (IsRefusedOf program class text arguments limits)
run_refused class text arguments limits program method named (Ok a) why = tt
run_refused class text arguments limits program method named (Err r) why = λ files is. refused files class text arguments limits program method is named r why

-- so it is in a space
there : (files : List ClassBytes) (class text : List ℕ) (arguments : List Value) (limits : Limits) (program : Links) (method : MethodId)
    → IsProgram files program → ¬ HasNoRemote program.classes → NamesMethod program class text (Some method) → (r : Refusal) → IsNotRunInSpace program method arguments limits r
    → IsRefused files class text arguments limits r
there files class text arguments limits program method is remote named (refusal.Start fault) (inl why) = not_started program method fault is named why
there files class text arguments limits program method is remote named (refusal.Start fault) (inr passes) = passes_reference program method fault is remote named passes
there files class text arguments limits program method is remote named refusal.Memory why = no_memory
there files class text arguments limits program method is remote named r why = absurd why

pub refused_there : {A : Type 0} (class text : List ℕ) (arguments : List Value) (limits : Limits) (program : Links) (method : MethodId)
    → ¬ HasNoRemote program.classes → NamesMethod program class text (Some method) → (r : Result A Refusal) → IfErr r (IsNotRunInSpace program method arguments limits)
    → IfErr r (IsRefusedOf program class text arguments limits)
refused_there class text arguments limits program method remote named (Ok a) why = tt
refused_there class text arguments limits program method remote named (Err r) why = λ files is. there files class text arguments limits program method is remote named r why

-- a method that is not found
pub not_found : (class text : List ℕ) (arguments : List Value) (limits : Limits) (program : Links) (r : Refusal) → IsNotFound program class text r → IsRefusedOf program class text arguments limits r
not_found class text arguments limits program (refusal.Start fault) why = λ files is.
    subst (λ (f : StartFault). IsRefused files class text arguments limits (refusal.Start f)) (sym why.0) (absent program is why.1)
not_found class text arguments limits program refusal.Memory why = λ files is. no_memory
not_found class text arguments limits program r why = absurd why

-- ---- outcomes

pub told_alone : {E : Type 0} (class text : List ℕ) (arguments : List Value) (limits : Limits) (program : Links) (method : MethodId)
    → HasNoRemote program.classes → NamesMethod program class text (Some method) → (r : Result RunOutcome E) → IfOk r (Runs program method arguments limits)
    → IfOk r (IsRunOf program class text arguments limits)
told_alone class text arguments limits program method plain named (Ok o) runs = λ files is.
    record { program = program; is_program = is; method = method; named = named; alone = λ none. runs; in_space = λ remote. absurd (remote plain) }
told_alone class text arguments limits program method plain named (Err e) runs = tt

pub told_there : {E : Type 0} (class text : List ℕ) (arguments : List Value) (limits : Limits) (program : Links) (method : MethodId)
    → ¬ HasNoRemote program.classes → NamesMethod program class text (Some method) → (r : Result RunOutcome E) → IfOk r (RunsInSpace program method arguments limits)
    → IfOk r (IsRunOf program class text arguments limits)
told_there class text arguments limits program method remote named (Ok o) runs = λ files is.
    record { program = program; is_program = is; method = method; named = named; alone = λ none. absurd (remote none); in_space = λ some. runs }
told_there class text arguments limits program method remote named (Err e) runs = tt

-- ---- files that make the program

pub run_of : {E : Type 0} (files : List ClassBytes) (class text : List ℕ) (arguments : List Value) (limits : Limits) (program : Links) → IsProgram files program
    → (r : Result RunOutcome E) → IfOk r (IsRunOf program class text arguments limits) → IfOk r (IsRun files class text arguments limits)
run_of files class text arguments limits program is (Ok o) runs = runs files is
run_of files class text arguments limits program is (Err e) runs = tt

pub refused_of : {A : Type 0} (files : List ClassBytes) (class text : List ℕ) (arguments : List Value) (limits : Limits) (program : Links) → IsProgram files program
    → (r : Result A Refusal) → IfErr r (IsRefusedOf program class text arguments limits) → IfErr r (IsRefused files class text arguments limits)
refused_of files class text arguments limits program is (Ok a) why = tt
refused_of files class text arguments limits program is (Err r) why = why files is
