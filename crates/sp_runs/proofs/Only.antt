-- A method of class files runs to one outcome.
use Rattle.std.proofs.Common.{◌≡◌, ◌≢◌, ◌∙◌, ◌+◌, ℕ, ℤ, Bool, true, false, List, Some, None, arith, ap, refl, subst, sym}
use Rattle.std.specs.Prelude.{IfErr, IfOk, MatchBool, Result, Ok, Err, IsErrAnd, length, nat_le}
use Rattle.cls_link.specs.Links.{Links}
use Rattle.cls_link.specs.declared.linked_code.MethodId.{MethodId}
use Rattle.cls_set.specs.declared.class.Class.{Class}
use Rattle.space_ids.specs.declared.ids.ClassId.{ClassId}
use Rattle.space_ids.specs.declared.value.Value.{Value}
use Rattle.space_ids.specs.declared.value.Value.TheVariants as value
use Rattle.sp_runs.specs.InSpace.{RunsInSpace}
use Rattle.sp_files.specs.Only.{IsOutOfMemory}
use Rattle.sp_runs.specs.OfProgram.{IsNotFound}
use Rattle.sp_runs.specs.Only.{OnlyGives}
use Rattle.sp_runs.specs.Outcomes.{IsTold, ThrewClass}
use Rattle.sp_files.specs.Programs.{IsProgram}
use Rattle.sp_runs.specs.Runs.{IsNotRun, IsRun, Runs}
use Rattle.sp_files.specs.Names.{NamesMethod}
use Rattle.sp_files.specs.declared.files.ClassBytes.{ClassBytes}
use Rattle.sp_files.specs.declared.outcome.RunOutcome.{RunOutcome}
use Rattle.sp_files.specs.declared.outcome.RunOutcome.TheVariants as told
use Rattle.sp_files.specs.declared.refusal.Refusal.{Refusal}
use Rattle.sp_files.specs.declared.refusal.Refusal.TheVariants as refusal
use Rattle.uuid.specs.Parts.{zero_bytes}
use Rattle.vm_act.specs.Crossing.{most_elements}
use Rattle.vm_step.proofs.Runs.{run_ended}
use Rattle.vm_step.specs.Ends.{End, ReturnedNothing, ReturnedInt, ReturnedNull, ReturnedInts, ReturnedRemote, Threw, ThrewObject, Spent}
use Rattle.vm_step.specs.Run.{HasNoRemote, State, Over, run}
use Rattle.vm_step.specs.Start.{started}
use Rattle.vm_step.specs.Task.{Tasked, unmarshalled}
use Rattle.vm_step.specs.declared.fault.StartFault.{StartFault}
use Rattle.vm_step.specs.declared.fault.StartFault.TheVariants as start
use Rattle.vm_step.specs.declared.limits.Limits.{Limits}
use Rattle.sp_files.proofs.Only.{one_named, one_program}

-- ---- answers

-- a fault of which all is known is expected
pub only_error : {A E : Type 0} (r : Result A E) (known : E) (value : A) (P : E → Type 0) → IsErrAnd r (λ e. e ≡ known) → P known → OnlyGives value P r
only_error (Ok a) known value P is holds = absurd is
only_error (Err e) known value P is holds = subst P (sym is) holds

-- ---- runs

some_none : {X : Type 0} {x : X} → Some x ≡ None → ⊥
some_none e = cc

starts_not : {A E : Type 0} {r : Result A E} {a : A} {e : E} → r ≡ Ok a → r ≡ Err e → ⊥
starts_not ok err = cc

-- a method that runs does not start only if memory ran out
pub start_out : (program : Links) (method : MethodId) (arguments : List Value) (limits : Limits) (outcome : RunOutcome) (fault : StartFault)
    → (fault ≢ start.Memory → started program zero_bytes method arguments limits ≡ Err fault) → Runs program method arguments limits outcome → fault ≡ start.Memory
start_out program method arguments limits outcome start.Memory refused runs = refl
start_out program method arguments limits outcome start.AbsentMethod refused runs = absurd (starts_not runs.starts (refused (λ e. absurd (cc))))
start_out program method arguments limits outcome start.BadSignature refused runs = absurd (starts_not runs.starts (refused (λ e. absurd (cc))))
start_out program method arguments limits outcome start.BadArgument refused runs = absurd (starts_not runs.starts (refused (λ e. absurd (cc))))

one_end : (program : Links) (state : State) (a b : ℕ) (e f : End) (l k : ℕ) → run program a state ≡ Over e l → run program b state ≡ Over f k → e ≡ f
one_end program state a b e f l k one other =
    let first : run program (a + b) state ≡ Over e l = run_ended program a (a + b) state (Some e) l one (omega arith) in
    let second : run program (a + b) state ≡ Over f k = run_ended program b (a + b) state (Some f) k other (omega arith) in
    let same : Over e l ≡ Over f k = sym first ∙ second in
    cc

pub one_thrown : (classes : List Class) (class : ClassId) (o p : RunOutcome) → ThrewClass classes class o → ThrewClass classes class p → o ≡ p
one_thrown classes class o p a b =
    let some : Some a.0 ≡ Some b.0 = sym a.2 ∙ b.2 in
    let same : a.0 ≡ b.0 = cc in
    a.1 ∙ (ap (λ (name : List ℕ). told.Threw name) same ∙ sym b.1)

one_array : (elements : List ℤ) (few : Bool) (o p : RunOutcome)
    → MatchBool few (o ≡ told.Returned (Some (value.Ints elements))) (o ≡ told.Threw unmarshalled)
    → MatchBool few (p ≡ told.Returned (Some (value.Ints elements))) (p ≡ told.Threw unmarshalled) → o ≡ p
one_array elements true o p a b = a ∙ sym b
one_array elements false o p a b = a ∙ sym b

one_told : (classes : List Class) (end : End) (o p : RunOutcome) → IsTold classes end o → IsTold classes end p → o ≡ p
one_told classes ReturnedNothing o p a b = a ∙ sym b
one_told classes (ReturnedInt n) o p a b = a ∙ sym b
one_told classes ReturnedNull o p a b = a ∙ sym b
one_told classes (ReturnedInts elements) o p a b = one_array elements (nat_le (length elements) most_elements) o p a b
one_told classes (ReturnedRemote reference) o p a b = a ∙ sym b
one_told classes (Threw thrown) o p a b = a ∙ sym b
one_told classes (ThrewObject class) o p a b = one_thrown classes class o p a b
one_told classes Spent o p a b = a ∙ sym b

-- a method of a program runs to one outcome
pub one_outcome : (program : Links) (method : MethodId) (arguments : List Value) (limits : Limits) (o p : RunOutcome)
    → Runs program method arguments limits o → Runs program method arguments limits p → o ≡ p
one_outcome program method arguments limits o p a b =
    let starts : Ok a.task ≡ Ok b.task = sym a.starts ∙ b.starts in
    let same : a.task ≡ b.task = cc in
    let ends : run program b.steps a.task.state ≡ Over b.end b.left = subst (λ (t : Tasked). run program b.steps t.state ≡ Over b.end b.left) (sym same) b.ends in
    let end : a.end ≡ b.end = one_end program a.task.state a.steps b.steps a.end b.end a.left b.left a.ends ends in
    one_told program.classes a.end o p a.told (subst (λ (e : End). IsTold program.classes e p) (sym end) b.told)

-- and gives no other, unless memory runs out
pub only_ran : (program : Links) (method : MethodId) (arguments : List Value) (limits : Limits) (outcome : RunOutcome) (r : Result RunOutcome Refusal)
    → IfOk r (Runs program method arguments limits) → IfErr r (λ e. e ≡ refusal.Memory) → Runs program method arguments limits outcome → OnlyGives outcome IsOutOfMemory r
only_ran program method arguments limits outcome (Ok o) ran out runs = one_outcome program method arguments limits o outcome ran runs
only_ran program method arguments limits outcome (Err e) ran out runs = subst IsOutOfMemory (sym out) tt

-- nor does it run then
pub out_ran : (program : Links) (method : MethodId) (arguments : List Value) (limits : Limits) (r : Result RunOutcome Refusal)
    → IfErr r (λ e. e ≡ refusal.Memory) → IfErr r (IsNotRun program method arguments limits)
out_ran program method arguments limits (Ok o) out = tt
out_ran program method arguments limits (Err e) out = subst (IsNotRun program method arguments limits) (sym out) tt

-- the method that is looked for is the one that runs
pub only_run : (files : List ClassBytes) (class text : List ℕ) (arguments : List Value) (limits : Limits) (program : Links) (method : MethodId) (outcome : RunOutcome)
    → IsProgram files program → NamesMethod program class text (Some method) → IsRun files class text arguments limits outcome
    → (HasNoRemote program.classes → Runs program method arguments limits outcome) × (¬ HasNoRemote program.classes → RunsInSpace program method arguments limits outcome)
only_run files class text arguments limits program method outcome is named run =
    let same : run.program ≡ program = one_program files run.program program run.is_program is in
    let found : NamesMethod program class text (Some run.method) = subst (λ (p : Links). NamesMethod p class text (Some run.method)) same run.named in
    let some : Some run.method ≡ Some method = one_named program class text (Some run.method) (Some method) found named in
    let equal : run.method ≡ method = cc in
    let alone = subst (λ (p : Links). HasNoRemote p.classes → Runs p run.method arguments limits outcome) same run.alone in
    let in_space = subst (λ (p : Links). ¬ HasNoRemote p.classes → RunsInSpace p run.method arguments limits outcome) same run.in_space in
    subst (λ (m : MethodId). (HasNoRemote program.classes → Runs program m arguments limits outcome) × (¬ HasNoRemote program.classes → RunsInSpace program m arguments limits outcome)) equal
    (alone, in_space)

-- and there is one
pub not_absent : (files : List ClassBytes) (class text : List ℕ) (arguments : List Value) (limits : Limits) (program : Links) (outcome : RunOutcome)
    → IsProgram files program → NamesMethod program class text None → IsRun files class text arguments limits outcome → ⊥
not_absent files class text arguments limits program outcome is none run =
    let same : run.program ≡ program = one_program files run.program program run.is_program is in
    let found : NamesMethod program class text (Some run.method) = subst (λ (p : Links). NamesMethod p class text (Some run.method)) same run.named in
    some_none (one_named program class text (Some run.method) None found none)

-- so it is found, unless memory runs out
pub found_out : (files : List ClassBytes) (class text : List ℕ) (arguments : List Value) (limits : Limits) (program : Links) (outcome : RunOutcome) → IsProgram files program
    → IsRun files class text arguments limits outcome → (r : Refusal) → IsNotFound program class text r → IsOutOfMemory r
found_out files class text arguments limits program outcome is run (refusal.Start fault) why = absurd (not_absent files class text arguments limits program outcome is why.1 run)
found_out files class text arguments limits program outcome is run refusal.Memory why = tt
found_out files class text arguments limits program outcome is run r why = absurd why
