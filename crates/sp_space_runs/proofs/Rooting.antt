-- A new space whose only root is a method: why it does not start it, and where it stands if it does.
use Rattle.std.proofs.Common.{◌≡◌, inl, inr, ℕ, ◌<◌, Bool, true, false, List, [], ◌∷◌, Option, None, Some, refl, sym, ap, subst, ◌∙◌, arith}
use Rattle.std.specs.Prelude.{◌≤◌, ◌≢◌, nat_lt, unwrap_or}
use Rattle.std.specs.List.{list_all}
use Rattle.std.proofs.lemmas.Bool.{false≢true}
use Rattle.std.proofs.lemmas.Bool.Decides.{nat_tests}
use Rattle.cls_link.specs.Links.{Links}
use Rattle.cls_link.specs.declared.linked_code.MethodId.{MethodId}
use Rattle.space_ids.specs.declared.ids.Ref.{Ref}
use Rattle.space_ids.specs.declared.value.Value.{Value}
use Rattle.sp_space.specs.Spaces as spaces
use Rattle.sp_space.specs.Spaces.{IsSpace}
use Rattle.sp_space.specs.declared.parts.Parts.{Parts}
use Rattle.sp_behaviours.specs.Classes.{classes_of}
use Rattle.sp_behaviours.specs.Starts.{start_refusal_in}
use Rattle.sp_events.specs.FaultNames.{Refuses, RefusesOrLacks, core_fault_number, start_refusal}
use Rattle.sp_events.specs.declared.fault.CoreFault.{CoreFault}
use Rattle.sp_events.specs.declared.fault.CoreFault.TheVariants as core
use Rattle.sp_events.specs.declared.fault.StartFault.TheVariants as core_start
use Rattle.sp_files.specs.Only.{IsOutOfMemory}
use Rattle.sp_files.specs.Programs.{IsProgram}
use Rattle.sp_files.specs.declared.files.ClassBytes.{ClassBytes}
use Rattle.sp_files.specs.declared.outcome.RunOutcome.{RunOutcome}
use Rattle.sp_rules.specs.Classes.{Setting, StartRefusal, AbsentMethod, BadSignature, BadArgument}
use Rattle.sp_rules.specs.Events.{Root}
use Rattle.sp_rules.specs.Frames.{is_busy}
use Rattle.sp_rules.specs.References.{references_of}
use Rattle.sp_rules.specs.Refusals.{Refusal as Refused, is_root_argument, is_worn, refusal, start_refusal_number}
use Rattle.sp_rules.specs.Space.{on, state_of}
use Rattle.sp_rules.specs.State.{opening}
use Rattle.sp_runs.specs.Going.{HasEnded, setting_of}
use Rattle.sp_runs.specs.InSpace.{RunsInSpace}
use Rattle.sp_runs.specs.Outcomes.{IsNamed}
use Rattle.sp_runs.specs.Runs.{IsNotRunInSpace}
use Rattle.sp_runs.proofs.Sets.{set-of}
use Rattle.sp_runs.proofs.SpaceRoots.{Rooted, its-limits, not-started, one-run, root-goes, root-tests, root-unrefused, root_refusal, runs-over, starts-else}
use Rattle.sp_space_runs.specs.Going.{Goes, IsRootFault, refusal_at}
use Rattle.uuid.specs.Parts.{zero_bytes}
use Rattle.uuid.specs.declared.Uuid.{Uuid}
use Rattle.vm_step.specs.Task.{Tasked}
use Rattle.vm_step.specs.declared.limits.Limits.{Limits}
use Rattle.vm_step.specs.declared.outcome.Outcome.{Outcome}

-- ---- why it does not start

-- what a fault of a first root says: of the start, or that an argument is a reference
abbrev TellsWhy : Option StartRefusal → Bool → CoreFault → Type 0
TellsWhy why own (core.Start x) = why ≡ Some (start_refusal x)
TellsWhy why own core.NotHeld = (why ≡ None) × (own ≡ false)
TellsWhy why own core.Memory = Unit {0}
TellsWhy why own _ = ⊥

value-of : (a b : ℕ) → Some a ≡ Some b → a ≡ b
value-of a b e = ap (λ o. unwrap_or o a) e

-- a refusal of a start has its own number
one-number : (a b : StartRefusal) → start_refusal_number a ≡ start_refusal_number b → a ≡ b
one-number AbsentMethod AbsentMethod e = refl
one-number AbsentMethod BadSignature e = absurd (omega (arith, e))
one-number AbsentMethod BadArgument e = absurd (omega (arith, e))
one-number BadSignature AbsentMethod e = absurd (omega (arith, e))
one-number BadSignature BadSignature e = refl
one-number BadSignature BadArgument e = absurd (omega (arith, e))
one-number BadArgument AbsentMethod e = absurd (omega (arith, e))
one-number BadArgument BadSignature e = absurd (omega (arith, e))
one-number BadArgument BadArgument e = refl

low-number : (a : StartRefusal) → start_refusal_number a < 90
low-number AbsentMethod = omega arith
low-number BadSignature = omega arith
low-number BadArgument = omega arith

-- no other refusal has the number of one of a start
not-low : (n : ℕ) (why : StartRefusal) → 90 ≤ n → Some n ≡ Some (start_refusal_number why) → ⊥
not-low n why high e =
    let same : n ≡ start_refusal_number why = value-of n (start_refusal_number why) e in
    let low = low-number why in
    omega (arith, same, low, high)

of-start : (why : StartRefusal) (own : Bool) (f : CoreFault) → core_fault_number f ≡ Some (start_refusal_number why) → TellsWhy (Some why) own f
of-start why own (core.Start x) e =
    ap (λ w. Some w) (one-number why (start_refusal x) (sym (value-of (start_refusal_number (start_refusal x)) (start_refusal_number why) e)))
of-start why own core.UnknownTask e = not-low 90 why (omega arith) e
of-start why own core.NotLent e = not-low 91 why (omega arith) e
of-start why own core.NotHeld e = absurd (not-low 92 why (omega arith) e)
of-start why own core.WrongKind e = not-low 93 why (omega arith) e
of-start why own core.Strange e = not-low 94 why (omega arith) e
of-start why own core.WornOut e = not-low 98 why (omega arith) e
of-start why own core.Busy e = not-low 99 why (omega arith) e
of-start why own core.Memory e = tt

not-held : (n : ℕ) → (n ≡ 92 → ⊥) → Some n ≡ Some 92 → ⊥
not-held n other e = other (value-of n 92 e)

-- references that are not held
of-held : (f : CoreFault) → core_fault_number f ≡ Some 92 → TellsWhy None false f
of-held (core.Start x) e = absurd (not-low 92 (start_refusal x) (omega arith) (sym e))
of-held core.UnknownTask e = not-held 90 (λ same. omega (arith, same)) e
of-held core.NotLent e = not-held 91 (λ same. omega (arith, same)) e
of-held core.NotHeld e = (refl, refl)
of-held core.WrongKind e = not-held 93 (λ same. omega (arith, same)) e
of-held core.Strange e = not-held 94 (λ same. omega (arith, same)) e
of-held core.WornOut e = not-held 98 (λ same. omega (arith, same)) e
of-held core.Busy e = not-held 99 (λ same. omega (arith, same)) e
of-held core.Memory e = tt

tells-why : (why : Option StartRefusal) (own : Bool) (f : CoreFault) → Refuses (root_refusal false why own false false) f → TellsWhy why own f
tells-why (Some why) own f e = of-start why own f e
tells-why None false f e = of-held f e
tells-why None true f e = subst (TellsWhy None true) (sym e) tt

not-over : (n : ℕ) → nat_lt n n ≡ false
not-over n = grind (arith, nat_tests)

-- a new space is not worn out, nor busy
first-tests : (g : Setting) (method : ℕ) (arguments : List Value) (fuel : ℕ) → g.limits.fuel ≡ fuel
    → refusal g [] opening (Root method arguments fuel)
    ≡ root_refusal false (g.classes.start_refusal g.id method arguments) (list_all (is_root_argument g opening) (references_of arguments)) false false
unfolding opening
first-tests g method arguments fuel within =
    root-tests g [] opening method arguments fuel
    ∙ ap (λ b. root_refusal (is_worn opening) (g.classes.start_refusal g.id method arguments) (list_all (is_root_argument g opening) (references_of arguments)) b (is_busy opening))
    (ap (λ n. nat_lt n fuel) within ∙ not-over fuel)

module _ (program : Links) (method : MethodId) (arguments : List Value) (limits : Limits) where
  some-reference : (p : Ref → Bool) (references : List Ref) → list_all p references ≡ false → references ≢ []
  some-reference p references not-all none = false≢true (sym not-all ∙ ap (list_all p) none)

  not-run : (own : Bool) (p : Ref → Bool) (f : CoreFault) → own ≡ list_all p (references_of arguments) → TellsWhy (start_refusal_in program zero_bytes method.0 arguments) own f
      → IsNotRunInSpace program method arguments limits (refusal_at f) × IsRootFault f
  not-run own p (core.Start core_start.AbsentMethod) is why = (inl (λ known. not-started program method arguments limits AbsentMethod why), tt)
  not-run own p (core.Start core_start.BadSignature) is why = (inl (λ known. not-started program method arguments limits BadSignature why), tt)
  not-run own p (core.Start core_start.BadArgument) is why = (inl (λ known. not-started program method arguments limits BadArgument why), tt)
  not-run own p core.NotHeld is why =
      let (task, starting) = starts-else program method arguments limits why.0 in
      (inr (record { task = task; starts = starting; references = some-reference p (references_of arguments) (sym is ∙ why.1); is = refl }), tt)
  not-run own p core.Memory is why = (tt, tt)
  not-run own p core.UnknownTask is why = absurd why
  not-run own p core.NotLent is why = absurd why
  not-run own p core.WrongKind is why = absurd why
  not-run own p core.Strange is why = absurd why
  not-run own p core.WornOut is why = absurd why
  not-run own p core.Busy is why = absurd why

  abbrev its-setting : Setting
  its-setting = setting_of program zero_bytes limits

  -- a root that a new space refuses does not run there
  pub root-refused : (f : CoreFault) → RefusesOrLacks (refusal its-setting [] opening (Root method.0 arguments limits.fuel)) f
      → IsNotRunInSpace program method arguments limits (refusal_at f) × IsRootFault f
  root-refused f (inl out) = subst (λ f. IsNotRunInSpace program method arguments limits (refusal_at f) × IsRootFault f) (sym out) (tt, tt)
  root-refused f (inr why) =
      let own = list_all (is_root_argument its-setting opening) (references_of arguments) in
      let tests = first-tests its-setting method.0 arguments limits.fuel refl in
      not-run own (is_root_argument its-setting opening) f refl
      (tells-why (start_refusal_in program zero_bytes method.0 arguments) own f (subst (λ r. Refuses r f) tests why))

  -- one that runs is not refused, unless memory runs out
  pub root-out : (outcome : RunOutcome) → RunsInSpace program method arguments limits outcome → (f : CoreFault)
      → RefusesOrLacks (refusal its-setting [] opening (Root method.0 arguments limits.fuel)) f → IsOutOfMemory (refusal_at f)
  root-out outcome runs f why =
      subst (λ f. IsOutOfMemory (refusal_at f))
      (sym (by (refusal its-setting [] opening (Root method.0 arguments limits.fuel)) (root-unrefused program method arguments limits outcome runs) why)) tt
    where
      by : (r : Option Refused) → r ≡ None → RefusesOrLacks r f → f ≡ core.Memory
      by r none (inl out) = out
      by r none (inr refuses) = subst (λ r. Refuses r f) none refuses

  -- ---- where it stands

  pub new-stands : (space : Parts) (own : Uuid) → own ≡ zero_bytes
      → ((g : Setting) → g.classes ≡ classes_of program → g.id ≡ own → g.digest ≡ its-setting.digest → spaces.AreLimits g limits → g.version ≡ 2 → IsSpace g opening space) → IsSpace its-setting opening space
  new-stands space own nil stands = stands its-setting refl (sym nil) refl (record { heap = refl; stack = refl; references = refl; fuel = refl }) refl

  module _ (files : List ClassBytes) (is : IsProgram files program) (space : Parts) (accepted : refusal its-setting [] opening (Root method.0 arguments limits.fuel) ≡ None) where
    rooted : Rooted program method arguments limits
    rooted = root-goes program method arguments limits [] (set-of files program is) accepted

    pub began : Tasked
    began = rooted.task

    pub goes-first : IsSpace its-setting (on its-setting (Root method.0 arguments limits.fuel) opening).0 space
        → Goes program its-setting (Root method.0 arguments limits.fuel) began.state limits.fuel space
    unfolding state_of began rooted
    goes-first stands = record {
      files = files;
      is_program = is;
      classes = refl;
      history = Root method.0 arguments limits.fuel ∷ [];
      goes = rooted.goes;
      stands = stands;
    }

    pub runs-so : (end : Outcome) (named : RunOutcome) → HasEnded program its-setting (Root method.0 arguments limits.fuel) began.state end → IsNamed program.classes end named
        → RunsInSpace program method arguments limits named
    unfolding began rooted
    runs-so end named ended name = record {
      setting = its-setting;
      classes = refl;
      id = refl;
      digest = refl;
      version = refl;
      within = its-limits program zero_bytes limits;
      end = end;
      ends = ended.ends;
      named = name;
      on_machine = runs-over program method arguments limits rooted.task end named (set-of files program is) rooted.starts ended.over name;
    }

    pub only-so : (outcome : RunOutcome) → RunsInSpace program method arguments limits outcome → (end : Outcome) (named : RunOutcome)
        → HasEnded program its-setting (Root method.0 arguments limits.fuel) began.state end → IsNamed program.classes end named → named ≡ outcome
    only-so outcome runs end named ended name = one-run program method arguments limits outcome runs end named name ended.only
