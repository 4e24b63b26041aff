-- A new space whose only root is a method: where it stands if it takes the root, and that it comes to one outcome.
use Rattle.std.proofs.Common.{◌≡◌, ℕ, Bool, true, false, cond, List, [], ◌∷◌, ◌++◌, Option, None, Some, refl, sym, ap, subst, ◌∙◌}
use Rattle.std.specs.Prelude.{not, ◌&&◌, nat_lt, IfNone, IfSome, IsOk, Result, Ok, Err, option_and_then}
use Rattle.std.specs.List.{list_all}
use Rattle.std.specs.Option.{option_map_or}
use Rattle.std.specs.Str.{bytes_eq}
use Rattle.std.proofs.lemmas.Bool.{false≢true}
use Rattle.cls_link.specs.Links.{Links}
use Rattle.cls_link.specs.declared.linked_code.MethodId.{MethodId}
use Rattle.space_ids.specs.declared.ids.Ref.{Ref}
use Rattle.space_ids.specs.declared.value.Value.{Value}
use Rattle.sp_rules.specs.Classes.{Setting, StartRefusal, AbsentMethod, BadSignature, BadArgument}
use Rattle.sp_rules.specs.Events.{Root}
use Rattle.sp_rules.specs.Frames.{is_busy}
use Rattle.sp_rules.specs.References.{references_of}
use Rattle.sp_rules.specs.Refusals.{Refusal as Refused, Busy, NotHeld, WornOut, WrongKind, first_refusal, is_root_argument, is_worn, refusal, refuse_if, refuse_start}
use Rattle.sp_rules.specs.Space.{state_of}
use Rattle.sp_rules.specs.State.{State, opening}
use Rattle.sp_rules.specs.Tasks.{start}
use Rattle.sp_behaviours.specs.Starts.{refusal_of, start_refusal_in}
use Rattle.sp_files.specs.declared.outcome.RunOutcome.{RunOutcome}
use Rattle.sp_runs.specs.Going.{EndsOver, GoesOn, setting_of}
use Rattle.sp_runs.specs.InSpace.{AreLimits, EndsAs, RunsInSpace, begins}
use Rattle.sp_runs.specs.Outcomes.{IsNamed}
use Rattle.sp_runs.specs.OverReplies.{RunsOverReplies}
use Rattle.sp_runs.proofs.Alone.{new_task, root-alone, root-only}
use Rattle.sp_runs.proofs.OnMachine.{start-follows, start-known}
use Rattle.sp_runs.proofs.Sets.{IsSet}
use Rattle.sp_runs.proofs.SpaceOnly.{first-unrefused, grows-reached, one-name}
use Rattle.sp_runs.proofs.Whole.{named-IsTold}
use Rattle.uuid.specs.Parts.{zero_bytes}
use Rattle.uuid.specs.declared.Uuid.{Uuid}
use Rattle.ver_frames.specs.Method.{is_static}
use Rattle.vm_step.specs.Start.{fill, refusal as start_refused, start_fault, startable, started, takes_crossing}
use Rattle.vm_step.specs.Subjects.{Declared}
use Rattle.vm_step.specs.Task.{Tasked}
use Rattle.vm_step.specs.declared.fault.StartFault.{StartFault}
use Rattle.vm_step.specs.declared.fault.StartFault.TheVariants as fault
use Rattle.vm_step.specs.declared.limits.Limits.{Limits}
use Rattle.vm_step.specs.declared.outcome.Outcome.{Outcome}
use Rattle.vm_step.proofs.Refused.{refused, starts}

-- ---- the setting

pub its-limits : (program : Links) (id : Uuid) (limits : Limits) → AreLimits (setting_of program id limits) limits
its-limits program id limits = record { heap = refl; stack = refl; references = refl; fuel = refl }

-- there is one
pub one-setting : (program : Links) (method : MethodId) (arguments : List Value) (limits : Limits) (o : RunOutcome) (r : RunsInSpace program method arguments limits o)
    → r.setting ≡ setting_of program zero_bytes limits
one-setting program method arguments limits o r = λ j. record {
  classes = r.classes j;
  id = r.id j;
  digest = r.digest j;
  version = r.version j;
  limits = record { heap = r.within.heap j; stack = r.within.stack j; references = r.within.references j; fuel = r.within.fuel j };
}

-- ---- what a root is tested for

-- the tests, one after the other
abbrev pub root_refusal : Bool → Option StartRefusal → Bool → Bool → Bool → Option Refused
root_refusal worn why own over busy =
    cond (worn && true) (Some WornOut) (first_refusal (refuse_start why ++ (refuse_if (not own) NotHeld ++ (refuse_if over WrongKind ++ refuse_if busy Busy))))

pub root-tests : (g : Setting) (lent : List ℕ) (s : State) (method : ℕ) (arguments : List Value) (fuel : ℕ)
    → refusal g lent s (Root method arguments fuel)
    ≡ root_refusal (is_worn s) (g.classes.start_refusal g.id method arguments) (list_all (is_root_argument g s) (references_of arguments)) (nat_lt g.limits.fuel fuel) (is_busy s)
unfolding refusal
root-tests g lent s method arguments fuel = refl

tested : (worn : Bool) (why : Option StartRefusal) (own over busy : Bool) → root_refusal worn why own over busy ≡ None → (why ≡ None) × (own ≡ true)
tested true why own over busy e = absurd (cc)
tested false (Some why) own over busy e = absurd (cc)
tested false None false over busy e = absurd (cc)
tested false None true over busy e = (refl, refl)

-- a new space has nothing that a reference could name
names-nothing : (g : Setting) (r : Ref) → is_root_argument g opening r ≡ false
unfolding opening
names-nothing g r = by (bytes_eq r.space g.id)
  where
    by : (here : Bool) → cond here (here && false) false ≡ false
    by true = refl
    by false = refl

none-among : (g : Setting) (references : List Ref) → list_all (is_root_argument g opening) references ≡ true → references ≡ []
none-among g [] all = refl
none-among g (r ∷ rs) all = absurd (false≢true (sym (ap (λ b. b && list_all (is_root_argument g opening) rs) (names-nothing g r)) ∙ all))

-- ---- starts

-- a start is refused for nothing but its method and its arguments
never-memory : (program : Links) (method : MethodId) (arguments : List Value) → start_fault program method arguments ≡ Some fault.Memory → ⊥
never-memory program method arguments e = by (startable program method) e
  where
    by-tests : (crossing fits : Bool) → cond (not crossing) (Some fault.BadSignature) (cond fits None (Some fault.BadArgument)) ≡ Some fault.Memory → ⊥
    by-tests false fits e = cc
    by-tests true true e = cc
    by-tests true false e = cc

    by : (o : Option Declared) → option_map_or (λ (m : Declared). start_refused program.classes m.method arguments) o (Some fault.AbsentMethod) ≡ Some fault.Memory → ⊥
    by None e = cc
    by (Some m) e = by-tests (takes_crossing program.classes m.method.types) (is_static m.method && fill program.classes m.method.types.parameters arguments) e

-- the fault that a refusal of a start is
abbrev pub fault_of : StartRefusal → StartFault
fault_of AbsentMethod = fault.AbsentMethod
fault_of BadSignature = fault.BadSignature
fault_of BadArgument = fault.BadArgument

one-fault : (w : StartFault) (x : StartRefusal) → refusal_of w ≡ Some x → w ≡ fault_of x
one-fault fault.AbsentMethod AbsentMethod e = refl
one-fault fault.AbsentMethod BadSignature e = absurd (cc)
one-fault fault.AbsentMethod BadArgument e = absurd (cc)
one-fault fault.BadSignature AbsentMethod e = absurd (cc)
one-fault fault.BadSignature BadSignature e = refl
one-fault fault.BadSignature BadArgument e = absurd (cc)
one-fault fault.BadArgument AbsentMethod e = absurd (cc)
one-fault fault.BadArgument BadSignature e = absurd (cc)
one-fault fault.BadArgument BadArgument e = refl
one-fault fault.Memory x e = absurd (cc)

module _ (program : Links) (method : MethodId) (arguments : List Value) (limits : Limits) where
  pub not-started : (x : StartRefusal) → start_refusal_in program zero_bytes method.0 arguments ≡ Some x → started program zero_bytes method arguments limits ≡ Err (fault_of x)
  not-started x e = by (start_fault program method arguments) e (refused program method arguments zero_bytes (start_fault program method arguments) refl)
    where
      by : (o : Option StartFault) → option_and_then refusal_of o ≡ Some x → IfSome o (λ w. (limits : Limits) → started program zero_bytes method arguments limits ≡ Err w)
          → started program zero_bytes method arguments limits ≡ Err (fault_of x)
      by None e h = absurd (cc)
      by (Some w) e h = h limits ∙ ap (λ w. Err w) (one-fault w x e)

  of-ok : (r : Result Tasked StartFault) → IsOk r → (task : Tasked) × (r ≡ Ok task)
  of-ok (Ok task) ok = (task, refl)
  of-ok (Err w) ok = absurd (cc)

  pub starts-else : start_refusal_in program zero_bytes method.0 arguments ≡ None → (task : Tasked) × (started program zero_bytes method arguments limits ≡ Ok task)
  starts-else e =
      by (start_fault program method arguments) refl e (starts program method arguments zero_bytes (start_fault program method arguments) refl)
    where
      by : (o : Option StartFault) → start_fault program method arguments ≡ o → option_and_then refusal_of o ≡ None
          → IfNone o ((limits : Limits) → IsOk (started program zero_bytes method arguments limits)) → (task : Tasked) × (started program zero_bytes method arguments limits ≡ Ok task)
      by None is e ok = of-ok (started program zero_bytes method arguments limits) (ok limits)
      by (Some fault.AbsentMethod) is e ok = absurd (cc)
      by (Some fault.BadSignature) is e ok = absurd (cc)
      by (Some fault.BadArgument) is e ok = absurd (cc)
      by (Some fault.Memory) is e ok = absurd (never-memory program method arguments is)

  -- ---- where the space stands

  -- A root that the space takes has started, and goes on.
  pub record Rooted : Type 0 where
    pub task : Tasked
    pub starts : started program zero_bytes method arguments limits ≡ Ok task
    pub goes : GoesOn program (setting_of program zero_bytes limits) (Root method.0 arguments limits.fuel) task.state limits.fuel (Root method.0 arguments limits.fuel ∷ [])

  pub root-goes : (lent : List ℕ) → IsSet program → refusal (setting_of program zero_bytes limits) lent opening (Root method.0 arguments limits.fuel) ≡ None → Rooted
  unfolding state_of start
  root-goes lent set taken =
      let g = setting_of program zero_bytes limits in
      let tests = root-tests g lent opening method.0 arguments limits.fuel in
      let (unrefused, own) = tested (is_worn opening) (start_refusal_in program zero_bytes method.0 arguments) (list_all (is_root_argument g opening) (references_of arguments))
      (nat_lt g.limits.fuel limits.fuel) (is_busy opening) (sym tests ∙ taken) in
      let none = none-among g (references_of arguments) own in
      let (task, starting) = starts-else unrefused in
      record {
        task = task;
        starts = starting;
        goes = record {
          grows = begins;
          taken = ((lent, taken), tt);
          alone = root-alone g method.0 arguments limits.fuel none;
          task = new_task g 1 method.0 arguments limits.fuel;
          only = root-only g method.0 arguments limits.fuel none;
          comes = start-follows program g method.0 arguments limits.fuel task set refl starting;
          left = refl;
          awaits = λ end e. grows-reached g (Root method.0 arguments limits.fuel) e.before e.grows;
        };
      }

  -- ---- one outcome

  -- the machine comes to the outcome too
  pub runs-over : (task : Tasked) (end : Outcome) (named : RunOutcome) → IsSet program → started program zero_bytes method arguments limits ≡ Ok task → EndsOver program task.state end
      → IsNamed program.classes end named → RunsOverReplies program method arguments limits named
  runs-over task end named set starting over name =
      let known = start-known program zero_bytes method arguments limits set task starting in
      record {
        task = task;
        starts = starting;
        never_stuck = known.never_stuck;
        within = known.within;
        moves = over.moves;
        due = over.due;
        end = over.end;
        left = over.left;
        ends = over.ends;
        fuel = over.counted ∙ known.fuel;
        told = named-IsTold program.classes end named name over.end over.tells;
      }

  module _ (outcome : RunOutcome) (runs : RunsInSpace program method arguments limits outcome) where
    ends-there : EndsAs (setting_of program zero_bytes limits) (Root method.0 arguments limits.fuel) runs.end
    ends-there = subst (λ (g : Setting). EndsAs g (Root method.0 arguments limits.fuel) runs.end) (one-setting program method arguments limits outcome runs) runs.ends

    -- the root is not refused, since that does not depend on what is lent
    pub root-unrefused : refusal (setting_of program zero_bytes limits) [] opening (Root method.0 arguments limits.fuel) ≡ None
    unfolding state_of
    root-unrefused =
        let g = setting_of program zero_bytes limits in
        let (lent, unrefused) = first-unrefused g (Root method.0 arguments limits.fuel) runs.end ends-there in
        root-tests g [] opening method.0 arguments limits.fuel ∙ sym (root-tests g lent opening method.0 arguments limits.fuel) ∙ unrefused

    pub one-run : (end : Outcome) (told-so : RunOutcome) → IsNamed program.classes end told-so
        → ((other : Outcome) → EndsAs (setting_of program zero_bytes limits) (Root method.0 arguments limits.fuel) other → other ≡ end) → told-so ≡ outcome
    one-run end told-so named only =
        one-name program.classes end told-so outcome named (subst (λ (e : Outcome). IsNamed program.classes e outcome) (only runs.end ends-there) runs.named)
