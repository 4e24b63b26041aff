-- The machine of the only task of a space: how it begins, and what its task's instructions and the replies of the space make of it.
use Rattle.std.proofs.Common.{◌≡◌, ℕ, suc, ◌+◌, Bool, true, false, List, [], ◌∷◌, ◌++◌, Option, Some, None, refl, sym, ap, subst, ◌∙◌, arith}
use Rattle.std.specs.Prelude.{not, ◌&&◌, if◌then◌else◌, nat_le, Result, Ok, Err}
use Rattle.std.specs.Str.{bytes_eq}
use Rattle.std.proofs.lemmas.Bool.{false≢true}
use Rattle.cls_link.specs.Links.{Links, AreLinks}
use Rattle.cls_link.specs.declared.linked_code.MethodId.{MethodId}
use Rattle.cls_set.specs.declared.class.Class.{Class}
use Rattle.cf_reader.specs.declared.class_file.Code.{Code}
use Rattle.space_ids.specs.declared.value.Value.{Value}
use Rattle.uuid.specs.declared.Uuid.{Uuid}
use Rattle.sp_behaviours.specs.Behaviours.{limits_of, op_at, op_of, reply_to, IsOfStore}
use Rattle.sp_behaviours.specs.Follows.{Follows, HoldsAsked, PlaysOn}
use Rattle.sp_behaviours.proofs.Following.{replies-follow, stands, steps-follow}
use Rattle.sp_behaviours.proofs.AskedLemmas.{AsksAt, asks-at, asks-follow, store-keeps}
use Rattle.sp_behaviours.proofs.Starting.{starts-follow}
use Rattle.sp_behaviours.proofs.TakenLemmas.{store_replies_are_taken}
use Rattle.sp_behaviours.specs.Classes.{classes_of}
use Rattle.sp_rules.specs.Behaviours as rules
use Rattle.sp_rules.specs.Classes.{Setting}
use Rattle.sp_rules.specs.Events.{Event}
use Rattle.sp_rules.specs.LivingTasks.{op_reply}
use Rattle.sp_rules.specs.Origins.{IsTaken}
use Rattle.sp_rules.specs.Space.{state_of}
use Rattle.sp_rules.specs.State.{Living, task_at}
use Rattle.sp_rules.specs.Tasks as tasks
use Rattle.sp_rules.specs.Tasks.{AsksFor, HasEnded}
use Rattle.sp_runs.specs.Going.{AreOwn, EndsOver, FollowsFrom}
use Rattle.sp_runs.specs.OverReplies.{made_over}
use Rattle.sp_runs.proofs.Moved.{IsOverSo, due-append, made-append, over-so, played-append, step-counted, step-due, step-played, untold}
use Rattle.sp_runs.proofs.OwnValues.{in-own}
use Rattle.sp_runs.proofs.Sets.{IsSet, plays-on, setting-is}
use Rattle.ver_frames.specs.Method.{is_static}
use Rattle.vm_act.specs.declared.asked.Asked.{Asked}
use Rattle.vm_act.specs.declared.asked.Asked.TheVariants as asked
use Rattle.vm_act.specs.declared.asked.Reply.{Reply}
use Rattle.vm_act.specs.declared.machine.Machine.{Machine}
use Rattle.vm_step.specs.Begin.{begin_refusal, receiver_refusal}
use Rattle.vm_act.specs.declared.ending.Thrown.TheVariants.{OutOfMemoryError, StackOverflowError}
use Rattle.vm_step.specs.Ends.{Threw}
use Rattle.vm_step.specs.Limited.{AlwaysKeepsWithin}
use Rattle.vm_step.specs.Run.{State, Running, Waits, Over, AreDue, FitsFuel, IsDue, IsNeverStuck, IsNotLost, answer, fuel_after, played, run}
use Rattle.vm_step.specs.Start.{fill, have_room, have_rows, no_references, opening_machine, opening_state, refusal, startable, started, takes_crossing, with_arguments}
use Rattle.vm_step.specs.Subjects.{Declared}
use Rattle.vm_step.specs.Task.{IsOfSet, Tasked, fuel_left}
use Rattle.vm_step.specs.declared.fault.StartFault.{StartFault}
use Rattle.vm_step.specs.declared.fault.StartFault.TheVariants as fault
use Rattle.vm_step.specs.declared.limits.Limits.{Limits}
use Rattle.vm_step.proofs.Begins.{Begins, startable-begins}
use Rattle.vm_step.proofs.Begun.{started_begun}
use Rattle.vm_step.proofs.Made.{made-fuel}
use Rattle.vm_step.proofs.Runs.{answer-fuel, at_once}
use Rattle.vm_stack.specs.Frames.{frame_cost}
use Rattle.vm_typing.specs.Runs.{Move, Replied, Steps}

-- ---- how it begins

-- What is known of a task that starts with these limits.
pub record IsStarted (links : Links) (limits : Limits) (task : Tasked) : Type 0 where
  pub never_stuck : IsNeverStuck links task.state
  pub within : AlwaysKeepsWithin links task.state
  pub fuel : fuel_left task.state ≡ limits.fuel

opening-fuel : (own : Uuid) (id : MethodId) (code : Code) (arguments : List Value) (limits : Limits) → fuel_left (opening_state own id code arguments limits) ≡ limits.fuel
opening-fuel own id code arguments limits =
    by (opening_machine id code (with_arguments arguments (no_references own limits)) arguments limits) (have_room arguments limits.heap_words && have_rows arguments (no_references own limits))
    (nat_le (frame_cost code.max_locals code.max_stack) limits.stack_words)
  where
    by : (m : Machine) (room frame : Bool) → fuel_left (if room then (if frame then Running m limits.fuel else Over (Threw StackOverflowError) limits.fuel) else Over (Threw OutOfMemoryError) limits.fuel) ≡ limits.fuel
    by m true true = refl
    by m true false = refl
    by m false frame = refl

module _ (links : Links) (own : Uuid) (id : MethodId) (arguments : List Value) (limits : Limits) (set : IsSet links) where
  abbrev begin : Declared → Option StartFault → Result Tasked StartFault
  begin m (Some why) = Err why
  begin m None = Ok (record { program = links; own = own; state = opening_state own id m.code arguments limits })

  abbrev start_at : Option Declared → Result Tasked StartFault
  start_at None = Err fault.AbsentMethod
  start_at (Some m) = begin m (refusal links.classes m.method arguments)

  static-of : (takes static filled : Bool) → (if not takes then Some fault.BadSignature else (if static && filled then None else Some fault.BadArgument)) ≡ None → static ≡ true
  static-of false static filled e = absurd (cc)
  static-of true true filled e = refl
  static-of true false filled e = absurd (cc)

  begins-so : (m : Declared) → startable links id ≡ Some m → refusal links.classes m.method arguments ≡ None → Begins links own id m arguments limits
  begins-so m found taken =
      let static : is_static m.method ≡ true = static-of (takes_crossing links.classes m.method.types) (is_static m.method) (fill links.classes m.method.types.parameters arguments) taken in
      let begins : begin_refusal links.classes own m arguments ≡ None =
      ap (λ b. if b then refusal links.classes m.method arguments else receiver_refusal links.classes own m arguments) static ∙ taken in
      startable-begins links own id m arguments limits set.linked set.sound found begins

  pub start-known : (task : Tasked) → started links own id arguments limits ≡ Ok task → IsStarted links limits task
  start-known task e = by (startable links id) refl e
    where
      at : (m : Declared) → startable links id ≡ Some m → (why : Option StartFault) → refusal links.classes m.method arguments ≡ why → begin m why ≡ Ok task → IsStarted links limits task
      at m found (Some why) taken e = absurd (cc)
      at m found None taken e =
          let begins = begins-so m found taken in
          let same : record { program = links; own = own; state = opening_state own id m.code arguments limits } ≡ task = cc in
          subst (IsStarted links limits) same
          (record { never_stuck = begins.never_stuck; within = begins.within_replies; fuel = opening-fuel own id m.code arguments limits })

      by : (o : Option Declared) → startable links id ≡ o → start_at o ≡ Ok task → IsStarted links limits task
      by None found e = absurd (cc)
      by (Some m) found e = at m found (refusal links.classes m.method arguments) refl e

-- a task that starts so follows it
pub start-follows : (links : Links) (g : Setting) (method : ℕ) (arguments : List Value) (fuel : ℕ) (task : Tasked) → IsSet links → g.classes ≡ classes_of links
    → started links g.id (record { 0 = method }) arguments (limits_of g.limits fuel) ≡ Ok task → FollowsFrom links g task.state (tasks.start g method arguments fuel)
unfolding played AreDue made_over
start-follows links g method arguments fuel task set same starts =
    let known = start-known links g.id (record { 0 = method }) arguments (limits_of g.limits fuel) set task starts in
    let begins = started_begun links g.id (record { 0 = method }) arguments (limits_of g.limits fuel) task starts in
    record {
      moves = [];
      due = tt;
      follows = starts-follow links g method arguments fuel task (plays-on links g set same) begins known.never_stuck;
      counted = omega arith;
    }

-- ---- some moves more

pub one-step : (t : tasks.Task) → tasks.steps 1 t ≡ tasks.step t
unfolding tasks.steps
one-step t = refl

module _ (links : Links) (g : Setting) (start : State) where
  comes-on : (t u : tasks.Task) (c : FollowsFrom links g start t) (more : List Move) → AreDue links more (played links c.moves start) → Follows links g u (played links more (played links c.moves start))
      → made_over links more (played links c.moves start) + fuel_left (played links more (played links c.moves start)) ≡ fuel_left (played links c.moves start) → FollowsFrom links g start u
  comes-on t u c more due follows counted =
      let there = played-append links c.moves more start in
      let all = made-append links c.moves more start in
      let before = c.counted in
      let left : fuel_left (played links (c.moves ++ more) start) ≡ fuel_left (played links more (played links c.moves start)) = ap fuel_left there in
      record {
        moves = c.moves ++ more;
        due = due-append links c.moves more start c.due due;
        follows = subst (Follows links g u) (sym there) follows;
        counted = omega (arith, all, before, counted, left);
      }

  -- through instructions of its own
  pub steps-come : (t : tasks.Task) (k : ℕ) → FollowsFrom links g start t → FollowsFrom links g start (tasks.steps k t)
  steps-come t k c =
      let m = played links c.moves start in
      comes-on t (tasks.steps k t) c (Steps k ∷ []) (step-due links k m)
      (subst (Follows links g (tasks.steps k t)) (sym (step-played links k m)) (steps-follow links g t m k c.follows)) (step-counted links k m c.follows.never_stuck)

  -- to its end
  pub end-comes : (t : tasks.Task) (end : rules.Outcome) → AreLinks links → FollowsFrom links g start t → tasks.stand t ≡ HasEnded end → EndsOver links start (untold end) × IsOfSet links.classes (untold end)
  end-comes t end are c ends =
      let m = played links c.moves start in
      let over : IsOverSo links m (untold end) = over-so links are m end c.follows.never_stuck (sym (stands links g t m c.follows) ∙ ends) in
      let one = step-played links 1 m in
      let there : played links (c.moves ++ Steps 1 ∷ []) start ≡ Over over.end over.left = played-append links c.moves (Steps 1 ∷ []) start ∙ one ∙ over.over in
      let all = made-append links c.moves (Steps 1 ∷ []) start in
      let before = c.counted in
      let last = step-counted links 1 m c.follows.never_stuck in
      let left : fuel_left (played links (Steps 1 ∷ []) m) ≡ over.left = ap fuel_left (one ∙ over.over) in (
        record {
          moves = c.moves ++ Steps 1 ∷ [];
          due = due-append links c.moves (Steps 1 ∷ []) start c.due (step-due links 1 m);
          end = over.end;
          left = over.left;
          ends = there;
          counted = omega (arith, all, before, last, left);
          tells = over.tells;
        },
        over.of_set,
      )

-- ---- what it asks

-- it calls no object of another space, since its task holds a reference to none
store-asked : (links : Links) (g : Setting) (t : tasks.Task) (op : Asked) (m : Machine) (fuel : ℕ) → AreOwn g t.held → Follows links g t (Waits op m fuel) → IsOfStore op
store-asked links g t (asked.Create class) m fuel own follows = tt
store-asked links g t (asked.Get object slot) m fuel own follows = tt
store-asked links g t (asked.Put object slot value) m fuel own follows = tt
store-asked links g t (asked.Call target method count) m fuel own follows =
    let here : IsNotLost links (Waits (asked.Call target method count) m fuel) = at_once links (Waits (asked.Call target method count) m fuel) follows.never_stuck in
    let foreign : bytes_eq target.space g.id ≡ false = subst (λ (id : Uuid). bytes_eq target.space id ≡ false) follows.held.0.own here.0.0 in
    let held : HoldsAsked t.held (asked.Call target method count) = follows.held.1 in
    false≢true (sym (in-own g t.held target own foreign) ∙ held)

store-is : (classes : List Class) (op : Asked) (m : Machine) → IsOfStore op → op_at classes op m ≡ op_of [] op
store-is classes (asked.Create class) m store = refl
store-is classes (asked.Get object slot) m store = refl
store-is classes (asked.Put object slot value) m store = refl
store-is classes (asked.Call target method count) m store = absurd store

-- the reply to it gives nothing back
store-fuel : (op : Asked) (given : Reply) (fuel : ℕ) → IsOfStore op → FitsFuel op given fuel
store-fuel (asked.Create class) given fuel store = tt
store-fuel (asked.Get object slot) given fuel store = tt
store-fuel (asked.Put object slot value) given fuel store = tt
store-fuel (asked.Call target method count) given fuel store = absurd store

store-left : (op : Asked) (given : Reply) (fuel : ℕ) → IsOfStore op → fuel_after op given fuel ≡ fuel
store-left (asked.Create class) given fuel store = refl
store-left (asked.Get object slot) given fuel store = refl
store-left (asked.Put object slot value) given fuel store = refl
store-left (asked.Call target method count) given fuel store = absurd store

-- ---- a reply

-- the task goes on following it
reply-follows : (links : Links) (g : Setting) (t : tasks.Task) (op : Asked) (m : Machine) (fuel : ℕ) (r : rules.Reply) (given : Reply) → PlaysOn links g → Follows links g t (Waits op m fuel)
    → reply_to op r ≡ Some given → IsDue links.classes given (Waits op m fuel) → IsOfStore op → Follows links g (tasks.answer g r t) (answer given (Waits op m fuel))
reply-follows links g t op m fuel r given plays follows is due store =
    subst (λ (u : tasks.Task). Follows links g (tasks.answer g r u) (answer given (Waits op m fuel))) (store-keeps op t store) (replies-follow links g t op m fuel r given plays follows is due)

module _ (links : Links) (s : State) (op : Asked) (m : Machine) (fuel : ℕ) (given : Reply) (waits : run links 1 s ≡ Waits op m fuel) where
  reply-played : played links (Steps 1 ∷ Replied given ∷ []) s ≡ answer given (Waits op m fuel)
  unfolding played
  reply-played = ap (answer given) waits

  reply-due : IsDue links.classes given (Waits op m fuel) → AreDue links (Steps 1 ∷ Replied given ∷ []) s
  unfolding AreDue
  reply-due due = (subst (IsDue links.classes given) (sym waits) due, tt)

  reply-counted : IsNeverStuck links s → IsNeverStuck links (Waits op m fuel) → IsDue links.classes given (Waits op m fuel) → IsOfStore op
      → made_over links (Steps 1 ∷ Replied given ∷ []) s + fuel_left (played links (Steps 1 ∷ Replied given ∷ []) s) ≡ fuel_left s
  unfolding made_over
  reply-counted safe waiting-safe due store =
      let first = made-fuel links 1 s safe in
      let there : fuel_left (run links 1 s) ≡ suc fuel = ap fuel_left waits in
      let last : fuel_left (played links (Steps 1 ∷ Replied given ∷ []) s) ≡ fuel =
      ap fuel_left reply-played ∙ answer-fuel links given (Waits op m fuel) waiting-safe due ∙ store-left op given fuel store in
      omega (arith, first, there, last)

-- What a task asks its space for is an operation on the store, and with the reply to it follows the machine.
pub record OnStore (links : Links) (g : Setting) (start : State) (h : List Event) (t : tasks.Task) (op : rules.Op) : Type 0 where
  pub asked : Asked
  pub store : IsOfStore asked
  pub is : op ≡ op_of [] asked
  pub comes : FollowsFrom links g start (tasks.answer g (op_reply g op (state_of g h)) t)

module _ (links : Links) (g : Setting) (start : State) (t : tasks.Task) (c : FollowsFrom links g start t) where
  -- the reply to an operation that it asks for
  reply-comes : (op : Asked) (m : Machine) (fuel : ℕ) (r : rules.Reply) (given : Reply) → PlaysOn links g → run links 1 (played links c.moves start) ≡ Waits op m fuel
      → Follows links g t (Waits op m fuel) → reply_to op r ≡ Some given → IsDue links.classes given (Waits op m fuel) → IsOfStore op → FollowsFrom links g start (tasks.answer g r t)
  reply-comes op m fuel r given plays waits follows is due store =
      let s = played links c.moves start in
      let there = reply-played links s op m fuel given waits in
      comes-on links g start t (tasks.answer g r t) c (Steps 1 ∷ Replied given ∷ []) (reply-due links s op m fuel given waits due)
      (subst (Follows links g (tasks.answer g r t)) (sym there) (reply-follows links g t op m fuel r given plays follows is due store))
      (reply-counted links s op m fuel given waits c.follows.never_stuck follows.never_stuck due store)

pub asks-store : (links : Links) (g : Setting) (start : State) (h : List Event) (id : ℕ) (t : Living) (op : rules.Op) → IsSet links → g.classes ≡ classes_of links → IsTaken g h
    → task_at (state_of g h) id ≡ Some t → AreOwn g t.task.held → FollowsFrom links g start t.task → tasks.stand t.task ≡ AsksFor op → OnStore links g start h t.task op
asks-store links g start h id t op set same taken lives own c asks =
    let s = played links c.moves start in
    by (asks-at links s op (sym (stands links g t.task s c.follows) ∙ asks))
  where
    by : AsksAt links (played links c.moves start) op → OnStore links g start h t.task op
    by at =
        let follows = asks-follow links g t.task (played links c.moves start) c.follows at.asked at.machine at.fuel at.waits in
        let store = store-asked links g t.task at.asked at.machine at.fuel own follows in
        let is : op ≡ op_of [] at.asked = sym at.is ∙ store-is links.classes at.asked at.machine store in
        let reply = store_replies_are_taken links g h id t at.asked at.machine at.fuel (setting-is links g set same) taken lives follows store in
        let given : reply_to at.asked (op_reply g op (state_of g h)) ≡ Some reply.given =
        subst (λ (o : rules.Op). reply_to at.asked (op_reply g o (state_of g h)) ≡ Some reply.given) at.is reply.told in
        record {
          asked = at.asked;
          store = store;
          is = is;
          comes = reply-comes links g start t.task c at.asked at.machine at.fuel (op_reply g op (state_of g h)) reply.given (plays-on links g set same) at.waits follows given reply.due store;
        }
