-- A task that starts follows its machine as that begins.
use Rattle.std.proofs.Common.{◌≡◌, ℕ, ◌≤◌, Bool, true, false, List, [], ◌∷◌, ◌++◌, length, refl, ap, sym, subst, ◌∙◌, arith, length-append, Option, Some, None}
use Rattle.std.specs.Prelude.{◌&&◌, nat_le, option_map, Result, Ok, Err, if◌then◌else◌}
use Rattle.cf_reader.specs.declared.class_file.Code.{Code}
use Rattle.cls_link.specs.Links.{Links}
use Rattle.cls_link.specs.declared.linked_code.MethodId.{MethodId}
use Rattle.space_ids.specs.declared.ids.Ref.{Ref}
use Rattle.space_ids.specs.declared.value.Value.{Value}
use Rattle.space_ids.specs.declared.value.Value.TheVariants as value
use Rattle.uuid.specs.declared.Uuid.{Uuid}
use Rattle.sp_rules.specs.Behaviours as rules
use Rattle.sp_rules.specs.Classes.{Setting}
use Rattle.sp_rules.specs.References.{is_reference_in, references_of, with_reference, with_references}
use Rattle.sp_rules.specs.Tasks.{Task, start, within_limit}
use Rattle.vm_heap.specs.References as heap
use Rattle.vm_heap.specs.References.{Table, row_for}
use Rattle.vm_act.specs.declared.ending.Thrown.TheVariants.{OutOfMemoryError, StackOverflowError}
use Rattle.vm_step.specs.Ends.{Threw}
use Rattle.vm_step.specs.Run.{State, Running, Waits, Over, Lost, IsNeverStuck}
use Rattle.vm_step.specs.Begin.{begun, is_static_at, receiver_refusal}
use Rattle.vm_step.specs.Start.{have_room, have_rows, is_row, no_references, opening_machine, opening_state, refusal, startable, with_arguments}
use Rattle.vm_step.specs.Subjects.{Declared}
use Rattle.vm_step.specs.Task.{Tasked, fuel_left}
use Rattle.vm_step.specs.declared.fault.StartFault.{StartFault}
use Rattle.vm_step.specs.declared.fault.StartFault.TheVariants as fault
use Rattle.vm_step.specs.declared.limits.Limits.{Limits}
use Rattle.vm_step.specs.declared.outcome.Outcome.TheVariants as outcome
use Rattle.vm_stack.specs.Frames.{frame_cost}
use Rattle.sp_behaviours.specs.Behaviours.{behaviour, behaviour_at, limits_of, of_begun, told_end, told_some}
use Rattle.sp_behaviours.proofs.OwnSteps.{stand-is}
use Rattle.sp_behaviours.specs.Follows.{CallsRemotely, Does, Follows, HoldsAs, HoldsIn, PlaysOn}
use Rattle.sp_behaviours.proofs.Coming.{Arrives, Comes, Overflows, comes, over-more, stays-within}

-- ---- the references of arguments

one-more : (held : List Ref) (r : Ref) (b : Bool) → length held ≤ length (if b then held else held ++ r ∷ [])
one-more held r true = omega arith
one-more held r false = omega (arith, length-append held (r ∷ []))

grows : (held new : List Ref) → length held ≤ length (with_references held new)
grows held [] = omega arith
grows held (r ∷ rs) =
    let more : length (with_reference held r) ≤ length (with_references (with_reference held r) rs) = grows (with_reference held r) rs in
    let one : length held ≤ length (with_reference held r) = one-more held r (is_reference_in held r) in
    omega (arith, one, more)

still-over : (held new : List Ref) (limit : ℕ) → nat_le (length held) limit ≡ false → nat_le (length (with_references held new)) limit ≡ false
still-over held new limit over = over-more (length held) (length (with_references held new)) limit (grows held new) over

abbrev AllCome : Setting → List Ref → Table → Bool → Type 0
AllCome g held table true = Arrives g held table
AllCome g held table false = Overflows g held

all-come : (g : Setting) (values : List Value) (held : List Ref) (table : Table) → HoldsAs g held table
    → AllCome g (with_references held (references_of values)) (with_arguments values table) (have_rows values table)
unfolding have_rows with_arguments
all-come g [] held table holds = record { fits = stays-within g held table holds; holds = holds }
all-come g (value.Null ∷ values) held table holds = all-come g values held table holds
all-come g (value.Int n ∷ values) held table holds = all-come g values held table holds
all-come g (value.Ints ns ∷ values) held table holds = all-come g values held table holds
all-come g (value.Ref r ∷ values) held table holds =
    by (row_for r table) (comes g held table r holds) (λ h. all-come g values (with_reference held r) (heap.with_reference r table) h)
  where
    by : (o : Option ℕ) → Comes g (with_reference held r) (heap.with_reference r table) o
        → (HoldsAs g (with_reference held r) (heap.with_reference r table)
        → AllCome g (with_references (with_reference held r) (references_of values)) (with_arguments values (heap.with_reference r table)) (have_rows values (heap.with_reference r table)))
        → AllCome g (with_references (with_reference held r) (references_of values)) (with_arguments values (heap.with_reference r table)) (is_row o && have_rows values (heap.with_reference r table))
    by None over rest = record { over = still-over (with_reference held r) (references_of values) g.limits.references over.over }
    by (Some row) arrives rest = rest arrives.holds

-- ---- starts

module _ (links : Links) (g : Setting) (arguments : List Value) (fuel : ℕ) (plays : PlaysOn links g) where
  abbrev limits : Limits
  limits = limits_of g.limits fuel

  abbrev none : Table
  none = no_references g.id limits

  abbrev came : List Ref
  came = with_references [] (references_of arguments)

  nothing : HoldsAs g [] none
  nothing = record { rows = refl; own = refl; limit = refl; within = omega arith }

  -- a task is over the limit where its machine has no row
  abbrev limited : Bool → rules.Behaviour → rules.Behaviour
  limited b behaviour = if b then behaviour else rules.Over (rules.Threw g.classes.out_of_memory)

  module _ (id : MethodId) (code : Code) where
    abbrev opened : Bool → Bool → Bool → State
    opened room rows frame =
        if room && rows
        then (if frame then Running (opening_machine id code (with_arguments arguments none) arguments limits) fuel else Over (Threw StackOverflowError) fuel)
        else Over (Threw OutOfMemoryError) fuel

    thrown-is : rules.Over (rules.Threw g.classes.out_of_memory) ≡ behaviour_at links (Over (Threw OutOfMemoryError) fuel)
    thrown-is = ap (λ o. rules.Over (told_some (option_map (λ class. outcome.Threw class) o))) (sym plays.out_of_memory)

    opens : (room rows frame : Bool) → AllCome g came (with_arguments arguments none) rows
        → (within_limit g came (behaviour_at links (opened room rows frame)) ≡ behaviour_at links (opened room rows frame)) × (fuel ≡ fuel_left (opened room rows frame)) × HoldsIn g came (opened room rows frame) × CallsRemotely links (opened room rows frame)
    opens true true true all = (ap (λ b. limited b (behaviour_at links (opened true true true))) all.fits, refl, all.holds, tt)
    opens true true false all = (ap (λ b. limited b (behaviour_at links (opened true true false))) all.fits, refl, tt, tt)
    opens false true frame all = (ap (λ b. limited b (behaviour_at links (opened false true frame))) all.fits, refl, tt, tt)
    opens true false frame all = (ap (λ b. limited b (behaviour_at links (opened true false frame))) all.over ∙ thrown-is, refl, tt, tt)
    opens false false frame all = (ap (λ b. limited b (behaviour_at links (opened false false frame))) all.over ∙ thrown-is, refl, tt, tt)

    pub opening-follows : (within_limit g came (behaviour_at links (opening_state g.id id code arguments limits)) ≡ behaviour_at links (opening_state g.id id code arguments limits))
        × (fuel ≡ fuel_left (opening_state g.id id code arguments limits)) × HoldsIn g came (opening_state g.id id code arguments limits) × CallsRemotely links (opening_state g.id id code arguments limits)
    opening-follows =
        opens (have_room arguments limits.heap_words) (have_rows arguments none) (nat_le (frame_cost code.max_locals code.max_stack) limits.stack_words) (all-come g arguments [] none nothing)

-- what begins does so in the opening state
opened-state : (links : Links) (own : Uuid) (id : MethodId) (values : List Value) (limits : Limits) (task : Tasked) → begun links own id values limits ≡ Ok task
    → (code : Code) × (task.state ≡ opening_state own id code values limits)
opened-state links own id values limits task e = chosen (is_static_at links id) e
  where
    begin : Declared → Option StartFault → Result Tasked StartFault
    begin m (Some why) = Err why
    begin m None = Ok (record { program = links; own = own; state = opening_state own id m.code values limits })

    start_at : (Declared → Option StartFault) → Option Declared → Result Tasked StartFault
    start_at refuses None = Err fault.AbsentMethod
    start_at refuses (Some m) = begin m (refuses m)

    opened : (m : Declared) (why : Option StartFault) → begin m why ≡ Ok task → (code : Code) × (task.state ≡ opening_state own id code values limits)
    opened m (Some why) e = absurd (cc)
    opened m None e = let same : record { program = links; own = own; state = opening_state own id m.code values limits } ≡ task = cc in (m.code, ap (λ (t : Tasked). t.state) (sym same))

    by : (refuses : Declared → Option StartFault) (o : Option Declared) → start_at refuses o ≡ Ok task → (code : Code) × (task.state ≡ opening_state own id code values limits)
    by refuses None e = absurd (cc)
    by refuses (Some m) e = opened m (refuses m) e

    chosen : (b : Bool) → (if b then start_at (λ m. refusal links.classes m.method values) (startable links id) else start_at (λ m. receiver_refusal links.classes own m values) (startable links id)) ≡ Ok task
        → (code : Code) × (task.state ≡ opening_state own id code values limits)
    chosen true e = by (λ m. refusal links.classes m.method values) (startable links id) e
    chosen false e = by (λ m. receiver_refusal links.classes own m values) (startable links id) e

-- what does as a state tells does so as deep as its fuel
abbrev depth_of : State → ℕ
depth_of (Running m fuel) = fuel
depth_of (Waits op m fuel) = fuel
depth_of (Over end fuel) = 0
depth_of Lost = 0

does_at : (links : Links) (t : Task) (s : State) → t.behaviour ≡ behaviour_at links s → Does links (depth_of s) t s
does_at links t (Running m fuel) b = (omega arith, b)
does_at links t (Waits op m fuel) b = (omega arith, b)
does_at links t (Over end fuel) b = stand-is t (rules.Over (told_end links.classes end)) t.fuel b refl
does_at links t Lost b = tt

pub starts-follow : (links : Links) (g : Setting) (method : ℕ) (arguments : List Value) (fuel : ℕ) (task : Tasked) → PlaysOn links g
    → begun links g.id (record { 0 = method }) arguments (limits_of g.limits fuel) ≡ Ok task → IsNeverStuck links task.state → Follows links g (start g method arguments fuel) task.state
unfolding start behaviour
starts-follow links g method arguments fuel task plays e safe =
    let id : MethodId = record { 0 = method } in
    let opened = opened-state links g.id id arguments (limits_of g.limits fuel) task e in
    let is = opening-follows links g arguments fuel plays id opened.0 in
    let does : g.classes.behaviour g.id g.limits method arguments fuel ≡ behaviour_at links task.state = plays.behaviour g.id g.limits method arguments fuel ∙ ap (of_begun links) e in
    let came : List Ref = with_references [] (references_of arguments) in
    record {
      depth = depth_of task.state;
      behaviour = does_at links (start g method arguments fuel) task.state
          (ap (within_limit g came) does ∙ subst (λ (s : State). within_limit g came (behaviour_at links s) ≡ behaviour_at links s) (sym opened.1) is.0);
      fuel = is.1 ∙ ap fuel_left (sym opened.1);
      held = subst (HoldsIn g came) (sym opened.1) is.2;
      calls = subst (CallsRemotely links) (sym opened.1) is.3;
      never_stuck = safe;
    }
