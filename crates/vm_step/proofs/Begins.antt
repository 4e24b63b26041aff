-- A task begins in a state that is never stuck: its first frame fits the one in which its method begins.
use Rattle.ver_frames.specs.declared.vtype.VType.{VType}
use Rattle.std.proofs.Common.{◌≡◌, ℕ, zero, suc, ◌+◌, ◌-◌, ◌≤◌, Bool, true, false, List, [], ◌∷◌, ◌++◌, length, refl, ap, sym, subst, ◌∙◌, arith, Option, Some, None, drop, le-leb}
use Rattle.std.specs.Prelude.{not, ◌&&◌, ◌==◌, nat_le, bytes_eq, codes, option_map, replicate, if◌then◌else◌}
use Rattle.std.specs.Option.{option_map_or}
use Rattle.cf_reader.specs.declared.class_file.Code.{Code}
use Rattle.cls_link.specs.Links.{Links, AreLinks}
use Rattle.cls_link.specs.declared.linked_code.MethodId.{MethodId}
use Rattle.cls_set.specs.declared.class.Class.{Class}
use Rattle.space_ids.specs.declared.value.Value.{Value}
use Rattle.ver_frames.specs.Method.{Subject, argument_types}
use Rattle.vm_act.specs.declared.calls.Callee.{Callee}
use Rattle.vm_act.specs.declared.ending.Thrown.TheVariants.{OutOfMemoryError, StackOverflowError}
use Rattle.vm_act.specs.declared.machine.Machine.{Machine}
use Rattle.uuid.specs.declared.Uuid.{Uuid}
use Rattle.vm_heap.specs.References.{Table}
use Rattle.vm_heap.specs.Heap.{Store, all_cost}
use Rattle.vm_heap.specs.Tagged.{Tagged, Unset}
use Rattle.vm_stack.specs.Frames.{Frames, empty_frame, entered, frame_cost}
use Rattle.vm_typing.specs.Fits.{Held, AllFit, no_marks, no_method}
use Rattle.vm_typing.specs.Owed.{Owed, IsCallee}
use Rattle.vm_typing.specs.Runs.{Move, Steps}
use Rattle.vm_typing.specs.Typed.{IsTyped}
use Rattle.vm_typing.specs.World.{IsPlain, World, MethodType, parameters}
use Rattle.vm_typing.proofs.Runs.{starts_typed}
use Rattle.vm_laws.proofs.Owing.{owed}
use Rattle.vm_laws.proofs.Subjects.{passes_both, stands}
use Rattle.vm_laws.specs.Worlds.{subject_at, is_init, method_type, world_of}
use Rattle.vm_step.specs.Ends.{Threw}
use Rattle.vm_step.specs.Limited.{KeepsWithin}
use Rattle.vm_step.specs.Run.{State, Running, Over, played, run, AreDue, IsNeverStuck}
use Rattle.vm_step.specs.Sound.{IsSoundSet}
use Rattle.vm_step.specs.Start.{copies, have_room, is_startable, have_rows, no_references, opening_frame, opening_machine, opening_state, passed_from, with_arguments, startable}
use Rattle.vm_step.specs.Subjects.{Declared, declared_at, declared_of, shown}
use Rattle.vm_step.specs.declared.fault.StartFault.{StartFault}
use Rattle.vm_step.specs.declared.found.Found.{Found}
use Rattle.vm_step.specs.declared.limits.Limits.{Limits}
use Rattle.vm_step.proofs.Holding.{are_held, own_stays}
use Rattle.vm_step.proofs.Limited.{sound_within}
use Rattle.vm_step.proofs.Safe.{IsSound, plays-sound, sound-IsNeverStuck}
use Rattle.vm_step.specs.Begin.{begin_refusal}
use Rattle.vm_step.proofs.Arguments.{Accepts, accepts, both, copies_fit, each_held}

module _ (links : Links) (own : Uuid) (id : MethodId) (m : Subject) (arguments : List Value) (limits : Limits) (are : AreLinks links) (sound : IsSoundSet links)
    (found : subject_at links id.0 ≡ Some m) (normal : is_init m ≡ false) (given : Accepts (world_of links sound.frames) own m arguments) where
  abbrev world : World
  world = world_of links sound.frames

  owes : Owed world
  owes = owed links sound.frames are sound.typed sound.read

  abbrev callee : Callee
  callee = record { method = id.0; arguments = length arguments; max_locals = m.code.max_locals; max_stack = m.code.max_stack; begins_uninit = false }

  abbrev type_in : Option Subject → MethodType
  type_in o = option_map_or (λ (s : Subject). method_type s (sound.frames id.0)) o no_method

  type_is : world.method id.0 ≡ method_type m (sound.frames id.0)
  type_is = ap type_in found

  known : world.has_code id.0 ≡ true
  known = ap (λ (o : Option Subject). option_map_or (λ (s : Subject). true) o false) found

  passed_is : parameters (world.method id.0) ≡ argument_types m
  passed_is = rw (type_is, normal) refl

  count : length arguments ≡ length (parameters (world.method id.0))
  count = rw passed_is given.count

  agrees : IsCallee world callee
  agrees = record {
    known = known;
    arguments = count;
    max_locals = ap (λ (t : MethodType). t.max_locals) (sym type_is);
    max_stack = ap (λ (t : MethodType). t.max_stack) (sym type_is);
    begins_uninit = sym (ap (λ (t : MethodType). t.begins_uninit) type_is ∙ given.begins);
  }

  -- there are as many local variables as arguments at least
  pub few : length arguments ≤ m.code.max_locals
  few =
      let locals = (owes.methods id.0 known).locals in
      let same : (world.method id.0).max_locals ≡ m.code.max_locals = ap (λ (t : MethodType). t.max_locals) type_is in
      omega (arith, locals, count, same)

  abbrev first : Table
  first = no_references own limits

  abbrev table : Table
  table = with_arguments arguments first

  machine : Machine
  machine = opening_machine id m.code table arguments limits

  abbrev at_first : Held
  at_first = record { cells = copies arguments; references = table }

  typed : have_rows arguments first ≡ true → IsTyped world (world.method id.0).result machine
  unfolding machine all_cost
  typed rows =
      starts_typed world owes callee (passed_from 0 table arguments) empty_frame (limits.stack_words - frame_cost m.code.max_locals m.code.max_stack)
      (record { cells = copies arguments; free = limits.heap_words - all_cost (copies arguments) }) table agrees
      (subst (λ ts. AllFit world at_first no_marks ts (passed_from 0 table arguments)) (sym passed_is) fits)
      (copies_fit world at_first arguments)
      (ap (λ (t : MethodType). t.is_init) type_is ∙ normal)
    where
      fits : AllFit world at_first no_marks (argument_types m) (passed_from 0 table arguments)
      fits = given.fits at_first refl (own_stays arguments first) (each_held table arguments (are_held arguments first rows))

  abbrev asked : Option VType
  asked = (world.method id.0).result

  abbrev plain : (t : VType) → asked ≡ Some t → IsPlain t
  plain = (owes.methods id.0 known).result

  abbrev IsFine : State → Type 0
  IsFine = IsSound links sound.frames asked plain (sound.keeps asked)

  opens : (a : Bool) → (have_room arguments limits.heap_words && have_rows arguments first) ≡ a → (b : Bool)
      → IsFine (if a then (if b then Running machine limits.fuel else Over (Threw StackOverflowError) limits.fuel) else Over (Threw OutOfMemoryError) limits.fuel)
  opens true e true = typed (both (have_room arguments limits.heap_words) (have_rows arguments first) e).1
  opens true e false = tt
  opens false e b = tt

  opening-is_fine : IsFine (opening_state own id m.code arguments limits)
  unfolding machine
  opening-is_fine = opens (have_room arguments limits.heap_words && have_rows arguments first) refl (nat_le (frame_cost m.code.max_locals m.code.max_stack) limits.stack_words)

  pub opening-IsNeverStuck : IsNeverStuck links (opening_state own id m.code arguments limits)
  opening-IsNeverStuck = sound-IsNeverStuck links sound.frames asked plain (sound.keeps asked) (opening_state own id m.code arguments limits) opening-is_fine

  -- all frames of its runs are within the limits of their methods
  pub opening-KeepsWithin : (moves : List Move) → AreDue links moves (opening_state own id m.code arguments limits)
      → KeepsWithin links (played links moves (opening_state own id m.code arguments limits))
  opening-KeepsWithin moves due =
      sound_within links sound.frames sound.typed asked plain (sound.keeps asked) (played links moves (opening_state own id m.code arguments limits))
      (plays-sound links sound.frames asked plain (sound.keeps asked) moves (opening_state own id m.code arguments limits) opening-is_fine due)

  pub opening-KeepsWithin-run : (k : ℕ) → KeepsWithin links (run links k (opening_state own id m.code arguments limits))
  unfolding played AreDue
  opening-KeepsWithin-run k = opening-KeepsWithin (Steps k ∷ []) tt

drop-replicate : (n m : ℕ) (x : Tagged) → drop n (replicate m x) ≡ replicate (m - n) x
drop-replicate zero m x = let e : m - zero ≡ m = omega arith in rw e refl
drop-replicate (suc n) zero x = let e : zero - suc n ≡ zero = omega arith in rw e refl
drop-replicate (suc n) (suc m) x = let e : suc m - suc n ≡ m - n = omega arith in rw e (drop-replicate n m x)

same_frames : (a b : Frames) → a.frame ≡ b.frame → a.callers ≡ b.callers → a.free ≡ b.free → a ≡ b
same_frames a b frame callers free = λ i. record { frame = frame i; callers = callers i; free = free i }

same_store : (a b : Store) → a.cells ≡ b.cells → a.free ≡ b.free → a ≡ b
same_store a b cells free = λ i. record { cells = cells i; free = free i }

-- a new stack with the first frame, to which the arguments were passed, and a new heap with their copies, are the opening state's
pub opening_runs : (own : Uuid) (id : MethodId) (code : Code) (arguments : List Value) (limits : Limits) (fresh entry s : Frames) (empty heap : Store) (none_yet held table : Table)
    → fresh ≡ record { frame = empty_frame; callers = []; free = limits.stack_words } → frame_cost code.max_locals code.max_stack ≤ fresh.free
    → entry ≡ entered id.0 0 code.max_locals code.max_stack fresh
    → s.frame ≡ record entry.frame { locals = passed_from 0 held arguments ++ drop (length arguments) entry.frame.locals } → s.callers ≡ entry.callers → s.free ≡ entry.free
    → empty ≡ record { cells = []; free = limits.heap_words } → true ≡ have_room arguments empty.free → heap.cells ≡ empty.cells ++ copies arguments
    → heap.free + all_cost (copies arguments) ≡ empty.free → none_yet ≡ no_references own limits → true ≡ have_rows arguments none_yet → held ≡ with_arguments arguments none_yet
    → table ≡ held → Running (record { stack = s; heap = heap; references = table }) limits.fuel ≡ opening_state own id code arguments limits
unfolding entered
opening_runs own id code arguments limits fresh entry s empty heap none_yet held table new enough pushed frame callers free none room cells left nothing rows came stays =
    let all : code.max_locals - 0 ≡ code.max_locals = omega arith in
    let cost : ℕ = frame_cost code.max_locals code.max_stack in
    let with : held ≡ with_arguments arguments (no_references own limits) = came ∙ ap (with_arguments arguments) nothing in
    let stack : Frames = record { frame = opening_frame id code held arguments; callers = empty_frame ∷ []; free = limits.stack_words - cost } in
    let frames : s.frame ≡ opening_frame id code held arguments = frame ∙ rw (pushed, all, drop-replicate (length arguments) code.max_locals Unset) refl in
    let same : s ≡ stack = same_frames s stack frames (callers ∙ rw (pushed, new) refl) (free ∙ rw (pushed, new) refl) in
    let within : cost ≤ limits.stack_words = subst (λ f. cost ≤ f) (ap (λ (f : Frames). f.free) new) enough in
    let words : empty.free ≡ limits.heap_words = ap (λ (e : Store). e.free) none in
    let rest : heap.free ≡ limits.heap_words - all_cost (copies arguments) = omega (arith, left, words) in
    let store : Store = record { cells = copies arguments; free = limits.heap_words - all_cost (copies arguments) } in
    let same_heap : heap ≡ store = same_store heap store (cells ∙ ap (λ (e : Store). e.cells ++ copies arguments) none) rest in
    let has : have_room arguments limits.heap_words ≡ true = sym (room ∙ ap (have_room arguments) words) in
    let has_rows : have_rows arguments (no_references own limits) ≡ true = sym (rows ∙ ap (have_rows arguments) nothing) in
    rw (same, same_heap, stays, has, has_rows, le-leb cost limits.stack_words within, with) refl

-- nothing is started where the copies, the references or the first frame have no room
pub opening_throws : (own : Uuid) (id : MethodId) (code : Code) (arguments : List Value) (limits : Limits) (empty : Store) → empty ≡ record { cells = []; free = limits.heap_words }
    → false ≡ have_room arguments empty.free → Over (Threw OutOfMemoryError) limits.fuel ≡ opening_state own id code arguments limits
opening_throws own id code arguments limits empty none room =
    let has : have_room arguments limits.heap_words ≡ false = sym (room ∙ ap (λ (e : Store). have_room arguments e.free) none) in
    rw has refl

pub opening_overruns : (own : Uuid) (id : MethodId) (code : Code) (arguments : List Value) (limits : Limits) (empty : Store) (none_yet : Table) → empty ≡ record { cells = []; free = limits.heap_words }
    → true ≡ have_room arguments empty.free → none_yet ≡ no_references own limits → false ≡ have_rows arguments none_yet
    → Over (Threw OutOfMemoryError) limits.fuel ≡ opening_state own id code arguments limits
opening_overruns own id code arguments limits empty none_yet none room nothing rows =
    let has : have_room arguments limits.heap_words ≡ true = sym (room ∙ ap (λ (e : Store). have_room arguments e.free) none) in
    let few : have_rows arguments (no_references own limits) ≡ false = sym (rows ∙ ap (have_rows arguments) nothing) in
    rw (has, few) refl

pub opening_overflows : (own : Uuid) (id : MethodId) (code : Code) (arguments : List Value) (limits : Limits) (empty : Store) (none_yet : Table) → empty ≡ record { cells = []; free = limits.heap_words }
    → true ≡ have_room arguments empty.free → none_yet ≡ no_references own limits → true ≡ have_rows arguments none_yet
    → nat_le (frame_cost code.max_locals code.max_stack) limits.stack_words ≡ false
    → Over (Threw StackOverflowError) limits.fuel ≡ opening_state own id code arguments limits
opening_overflows own id code arguments limits empty none_yet none room nothing rows full =
    let has : have_room arguments limits.heap_words ≡ true = sym (room ∙ ap (λ (e : Store). have_room arguments e.free) none) in
    let has_rows : have_rows arguments (no_references own limits) ≡ true = sym (rows ∙ ap (have_rows arguments) nothing) in
    rw (has, has_rows, full) refl

-- what is known of the task that a method's start gives
pub record Begins (links : Links) (own : Uuid) (id : MethodId) (m : Declared) (arguments : List Value) (limits : Limits) : Type 0 where
  pub few : length arguments ≤ m.code.max_locals
  pub never_stuck : IsNeverStuck links (opening_state own id m.code arguments limits)
  pub within : (k : ℕ) → KeepsWithin links (run links k (opening_state own id m.code arguments limits))
  pub within_replies : (moves : List Move) → AreDue links moves (opening_state own id m.code arguments limits)
      → KeepsWithin links (played links moves (opening_state own id m.code arguments limits))

maps_some : {A B : Type 0} (o : Option A) (f : A → B) (b : B) → option_map f o ≡ Some b → (a : A) × ((o ≡ Some a) × (f a ≡ b))
maps_some None f b e = absurd (cc)
maps_some (Some a) f b e = (a, (refl, cc))

normal : (m : Declared) → is_startable m ≡ true → bytes_eq m.method.name (codes "<init>") ≡ false
normal m e = is_not (bytes_eq m.method.name (codes "<init>")) (both (not (bytes_eq m.method.name (codes "<init>"))) (not (length m.insns == 0)) e).0
  where
    is_not : (b : Bool) → not b ≡ true → b ≡ false
    is_not true e = absurd (cc)
    is_not false e = refl

pub startable-begins : (links : Links) (own : Uuid) (id : MethodId) (m : Declared) (arguments : List Value) (limits : Limits) → AreLinks links → IsSoundSet links → startable links id ≡ Some m
    → begin_refusal links.classes own m arguments ≡ None → Begins links own id m arguments limits
unfolding declared_at
startable-begins links own id m arguments limits are sound found taken =
    let at = passes_both (declared_at links id) (λ d. if is_startable d then Some d else None) m found in
    let passed = tested at.0 (is_startable at.0) refl at.1.1 in
    let subject = maps_some (subject_at links id.0) declared_of at.0 at.1.0 in
    let no_init : is_init subject.0 ≡ false = normal (declared_of subject.0) (subst (λ (d : Declared). is_startable d ≡ true) (sym subject.1.1) passed.1) in
    let same = (stands links id.0 subject.0 subject.1.0).classes in
    let given : Accepts (world_of links sound.frames) own subject.0 arguments =
    accepts links own subject.0 arguments are sound same no_init (subst (λ (d : Declared). begin_refusal links.classes own d arguments ≡ None) (sym (subject.1.1 ∙ passed.0)) taken) in
    let begins : Begins links own id (declared_of subject.0) arguments limits = record {
      few = few links own id subject.0 arguments limits are sound subject.1.0 no_init given;
      never_stuck = opening-IsNeverStuck links own id subject.0 arguments limits are sound subject.1.0 no_init given;
      within = opening-KeepsWithin-run links own id subject.0 arguments limits are sound subject.1.0 no_init given;
      within_replies = opening-KeepsWithin links own id subject.0 arguments limits are sound subject.1.0 no_init given;
    } in
    subst (λ (d : Declared). Begins links own id d arguments limits) (subject.1.1 ∙ passed.0) begins
  where
    tested : (d : Declared) (b : Bool) → is_startable d ≡ b → (if b then Some d else None) ≡ Some m → (d ≡ m) × (is_startable d ≡ true)
    tested d false is e = absurd (cc)
    tested d true is e = (cc, is)

-- the same, of what a start found and did not refuse
pub found_begins : (links program : Links) (own : Uuid) (id : MethodId) (r : Option Found) (found : Found) (classes : List Class) (why : Option StartFault) (given arguments : List Value) (limits : Limits)
    → links ≡ program → AreLinks links → IsSoundSet program → option_map shown r ≡ startable links id → r ≡ Some found → classes ≡ links.classes
    → why ≡ begin_refusal classes own (shown found) given → why ≡ None → given ≡ arguments → Begins program own id (shown found) arguments limits
found_begins links program own id r found classes why given arguments limits same are sound is was set refuses none args =
    let at : startable program id ≡ Some (shown found) = subst (λ (l : Links). startable l id ≡ Some (shown found)) same (sym is ∙ ap (option_map shown) was) in
    let here : classes ≡ program.classes = set ∙ ap (λ (l : Links). l.classes) same in
    let accepted : begin_refusal program.classes own (shown found) arguments ≡ None = rw (← here, ← args) (sym refuses ∙ none) in
    startable-begins program own id (shown found) arguments limits (subst AreLinks same are) sound at accepted
