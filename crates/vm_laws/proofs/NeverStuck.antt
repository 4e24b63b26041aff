-- A machine that runs a linked and checked set stands at a checked instruction at each step, so it is never stuck.
use Rattle.std.proofs.Common.{◌≡◌, ℕ, zero, suc, ◌+◌, ◌<◌, Bool, true, false, List, [], ◌∷◌, length, get_or, refl, sym, subst, ap, ◌∙◌, Option, Some, None, Ok, arith}
use Rattle.std.specs.Prelude.{MatchBool, MatchOption, option_map, slice_get}
use Rattle.std.specs.List.{AllByRecursion}
use Rattle.std.specs.Option.{option_map_or}
use Rattle.std.proofs.lemmas.Option.{slice_get_within}
use Rattle.cls_link.proofs.Indices.{index_found}
use Rattle.cls_link.specs.Links.{Links, AreLinks}
use Rattle.cls_link.specs.Targets.{index_from}
use Rattle.cls_link.specs.declared.linked_code.LinkedInsn.{LinkedInsn}
use Rattle.cls_link.specs.declared.linked_code.LinkedInsn.TheVariants as insn
use Rattle.cls_set.proofs.Hierarchy.{some_of, true_false}
use Rattle.cls_set.specs.declared.class.Class.{Class}
use Rattle.ver_check.specs.Bodies.{Body, body_of, declared_at, frame_at_offset, offset_at}
use Rattle.ver_check.specs.Effects.{effect, falls_through, targets}
use Rattle.ver_check.specs.Listed.{IsListed}
use Rattle.ver_check.specs.Typing as check
use Rattle.ver_check.specs.Typing.{IsFineAt, IsTyping, Lands}
use Rattle.ver_frames.proofs.Starts.{rise}
use Rattle.ver_frames.specs.Assignable.{IsFrameAssignable}
use Rattle.ver_frames.specs.Frames.{Frame}
use Rattle.ver_frames.specs.Method.{Subject, result_type}
use Rattle.ver_frames.specs.Types.{field_vtype}
use Rattle.ver_frames.specs.declared.vtype.VType.{VType}
use Rattle.vm_act.specs.Steps.{on_some}
use Rattle.vm_act.specs.declared.machine.Machine.{Machine}
use Rattle.vm_code.specs.Act.{act}
use Rattle.vm_typing.proofs.Runs.{plays_sound, runs_sound}
use Rattle.vm_typing.proofs.Uses.{IsFrameAssignable-itself}
use Rattle.vm_typing.specs.Fits.{held_by, no_method}
use Rattle.vm_typing.specs.Laws.{Leads}
use Rattle.vm_typing.specs.Typed.{IsTyped}
use Rattle.vm_typing.specs.World.{World, Enters, MethodType}
use Rattle.vm_laws.proofs.Owing.{owed}
use Rattle.vm_laws.proofs.Subjects.{listed, passes_both, stands}
use Rattle.vm_laws.specs.Files.{AreAsRead}
use Rattle.vm_laws.specs.Worlds.{AreTyped, IsTypedBy, method_type, subject_at, world_of}
use Rattle.vm_laws.specs.Rows.{IsBodyOf, IsRow, StandsAt}
use Rattle.vm_laws.specs.Steps.{AreNamed, AreNeverStuck, AreNeverStuckByReplies, insn_at, step}
use Rattle.vm_laws.proofs.Entries.{declared_under, is_entry}
use Rattle.vm_laws.proofs.CallRows as calls
use Rattle.vm_laws.proofs.IntRows as ints
use Rattle.vm_laws.proofs.ObjectRows as objects
use Rattle.vm_laws.proofs.ReturnRows as returns
use Rattle.vm_laws.proofs.WordRows as words

there : {A : Type 0} (xs : List A) (n : ℕ) → n < length xs → (x : A) × (slice_get xs n ≡ Some x)
there [] n inside = absurd (omega (arith, inside))
there (x ∷ xs) zero inside = (x, refl)
there (x ∷ xs) (suc n) inside = there xs n (omega (arith, inside))

-- a frame that flows in at an instruction comes in at the frame there
flows_in : (body : Body) (frames : ℕ → Frame) → IsTyping body frames → (index : ℕ) (given : Frame) (d : Option Frame) → declared_at body index ≡ d
    → MatchOption d (frames index ≡ given) (λ declared. IsFrameAssignable body.classes given declared) → IsFrameAssignable body.classes given (frames index)
flows_in body frames typing index given None is enters = subst (λ (f : Frame). IsFrameAssignable body.classes given f) (sym enters) (IsFrameAssignable-itself body.classes given)
flows_in body frames typing index given (Some declared) is enters =
    subst (λ (f : Frame). IsFrameAssignable body.classes given f) (sym (typing.declared index declared is)) enters

declared_within : (body : Body) (index : ℕ) (f : Frame) → declared_at body index ≡ Some f → index < length body.offsets
unfolding declared_at
declared_within body index f e =
    let at = passes_both (slice_get body.offsets index) (frame_at_offset body.declared) f e in
    slice_get_within body.offsets index at.0 at.1.0

result_is : (s : Subject) → result_type s ≡ option_map (field_vtype s.classes) s.method.types.result
unfolding result_type
result_is s = refl

where_true : (A B : Type 0) (b : Bool) → MatchBool b A B → b ≡ true → A
where_true A B true holds e = holds
where_true A B false holds e = absurd (true_false (sym e))

module _ (links : Links) (frames : ℕ → ℕ → Frame) (are : AreLinks links) (typed : AreTyped links frames) (read : AreAsRead links.classes) where
  abbrev world : World
  world = world_of links frames

  abbrev type_in : ℕ → Option Subject → MethodType
  type_in number o = option_map_or (λ (s : Subject). method_type s (frames number)) o no_method

  row : (body : Body) (i : LinkedInsn) → IsRow links world body i
  row body insn.Nop = (words.rows links world (owed links frames are typed read) body).nop
  row body insn.Null = (words.rows links world (owed links frames are typed read) body).null
  row body (insn.Constant n) = (words.rows links world (owed links frames are typed read) body).constant n
  row body (insn.Load kind local) = (words.rows links world (owed links frames are typed read) body).load kind local
  row body (insn.Store kind local) = (words.rows links world (owed links frames are typed read) body).store kind local
  row body (insn.Increment local by) = (words.rows links world (owed links frames are typed read) body).increment local by
  row body (insn.Stack operation) = (words.rows links world (owed links frames are typed read) body).stack operation
  row body (insn.Unary operator) = (ints.rows links world (owed links frames are typed read) are.set body).unary operator
  row body (insn.Binary operator) = (ints.rows links world (owed links frames are typed read) are.set body).binary operator
  row body (insn.Array operation) = (ints.rows links world (owed links frames are typed read) are.set body).array operation
  row body (insn.If condition target) = (ints.rows links world (owed links frames are typed read) are.set body).if_zero condition target
  row body (insn.IfCompare condition target) = (ints.rows links world (owed links frames are typed read) are.set body).if_compare condition target
  row body (insn.IfSame equality target) = (ints.rows links world (owed links frames are typed read) are.set body).if_same equality target
  row body (insn.IfNull equality target) = (ints.rows links world (owed links frames are typed read) are.set body).if_null equality target
  row body (insn.Goto target) = (ints.rows links world (owed links frames are typed read) are.set body).goto target
  row body (insn.Switch index) = (ints.rows links world (owed links frames are typed read) are.set body).switch index
  row body (insn.ReturnValue kind) = (returns.rows links world (owed links frames are typed read) are.set body).return_value kind
  row body insn.Return = (returns.rows links world (owed links frames are typed read) are.set body).return_nothing
  row body insn.Throw = (returns.rows links world (owed links frames are typed read) are.set body).throw
  row body (insn.GetField class field) = (objects.rows links world (owed links frames are typed read) are.set body).get_field class field
  row body (insn.PutField class field) = (objects.rows links world (owed links frames are typed read) are.set body).put_field class field
  row body (insn.Invoke kind class method) = (calls.rows links world (owed links frames are typed read) are.set body).invoke kind class method
  row body (insn.InvokeInterface count class method) = (calls.rows links world (owed links frames are typed read) are.set body).invoke_interface count class method
  row body (insn.New class) = (objects.rows links world (owed links frames are typed read) are.set body).new class
  row body (insn.CheckCast type) = (objects.rows links world (owed links frames are typed read) are.set body).check_cast type
  row body (insn.InstanceOf type) = (objects.rows links world (owed links frames are typed read) are.set body).instance_of type

  module _ (number : ℕ) (s : Subject) (e : subject_at links number ≡ Some s) where
    type_is : world.method number ≡ method_type s (frames number)
    type_is = ap (type_in number) e

    enters : (index : ℕ) (given : Frame) → index < length s.linked.insns → IsFrameAssignable s.classes given (frames number index) → Enters world number index given
    enters index given inside to =
        let same = (stands links number s e).classes in
        record {
          inside = subst (λ (t : MethodType). index < t.count) (sym type_is) inside;
          to = subst (λ (t : MethodType). IsFrameAssignable links.classes given (t.frames index)) (sym type_is)
              (subst (λ (classes : List Class). IsFrameAssignable classes given (frames number index)) same to);
        }

    lands_at : (declared : List (ℕ × Frame)) → IsTyping (body_of s declared) (frames number) → (given : Frame) (to : ℕ) → Lands (body_of s declared) given to → Enters world number to given
    lands_at declared typing given to lands =
        let d = some_of (declared_at (body_of s declared) to) (λ f. IsFrameAssignable s.classes given f) lands in
        let within = declared_within (body_of s declared) to d.0 d.1 in
        let long = (listed links are number s e).listed in
        enters to given (omega (arith, within, long)) (subst (λ (f : Frame). IsFrameAssignable s.classes given f) (sym (typing.declared to d.0 d.1)) d.2)

    all_land : (declared : List (ℕ × Frame)) → IsTyping (body_of s declared) (frames number) → (given : Frame) (all : List ℕ) → AllByRecursion (Lands (body_of s declared) given) all
        → AllByRecursion (λ to. Enters world number to given) all
    all_land declared typing given [] lands = tt
    all_land declared typing given (to ∷ all) lands = (lands_at declared typing given to lands.0, all_land declared typing given all lands.1)

    next_enters : (declared : List (ℕ × Frame)) → IsTyping (body_of s declared) (frames number) → (index : ℕ) (i : LinkedInsn) (given : Frame)
        → check.GoesOn (body_of s declared) (frames number) index i given → falls_through i ≡ true → Enters world number (index + 1) given
    next_enters declared typing index i given goes falls =
        let on = where_true ((suc index < length s.linked.insns) × check.Enters (body_of s declared) (frames number) (suc index) given) _ (falls_through i) goes falls in
        let next : suc index ≡ index + 1 = omega arith in
        subst (λ (k : ℕ). Enters world number k given) next
        (enters (suc index) given on.0 (flows_in (body_of s declared) (frames number) typing (suc index) given (declared_at (body_of s declared) (suc index)) refl on.1))

    body_is : (declared : List (ℕ × Frame)) → IsBodyOf links world number (body_of s declared)
    body_is declared =
        let entry = is_entry links number s e in
        let list = listed links are number s e in
        record {
          linked = refl;
          classes = (stands links number s e).classes;
          owner = ap (λ (t : MethodType). t.owner) (sym type_is);
          is_init = ap (λ (t : MethodType). t.is_init) (sym type_is);
          result = ap (λ (t : MethodType). t.result) (sym type_is);
          max_stack = ap (λ (t : MethodType). t.max_stack) (sym type_is);
          count = ap (λ (t : MethodType). t.count) (sym type_is);
          offsets = λ index. ap (λ (t : MethodType). t.offset_at index) type_is;
          made = λ offset. ap (λ (t : MethodType). t.made_at offset) type_is;
          found = found list;
          declared_by = rw entry.at (ap (λ (c : _). Some c) entry.class);
          switches = λ index. rw (entry.at, entry.code) refl;
          declaration = s.method;
          declared = declared_under links are number s e;
          named = refl;
          gives = result_is s ∙ ap (λ (classes : List Class). option_map (field_vtype classes) s.method.types.result) (stands links number s e).classes;
        }
      where
        found : IsListed s.linked → (index : ℕ) → index < length s.linked.insns → index_from 0 s.linked.offsets (get_or s.linked.offsets index 0) ≡ Some index
        found list index inside =
            let long = list.listed in
            let same : 0 + index ≡ index = omega arith in
            subst (λ (k : ℕ). index_from 0 s.linked.offsets (get_or s.linked.offsets index 0) ≡ Some k) same
            (index_found 0 s.linked.offsets (get_or s.linked.offsets index 0) index (rise s.linked.offsets list.rising) (omega (arith, inside, long)) refl)

    insn_is : (index : ℕ) (i : LinkedInsn) → slice_get s.linked.insns index ≡ Some i → insn_at links number index ≡ Some i
    insn_is index i is = let entry = is_entry links number s e in rw (entry.at, entry.code) is

  module _ (named : AreNamed links frames) (asked : Option VType) (m : Machine) (at : IsTyped world asked m) where
    stands_at : (s : Subject) (e : subject_at links m.stack.frame.method ≡ Some s) (by : IsTypedBy s (frames m.stack.frame.method)) (i : LinkedInsn)
        → slice_get s.linked.insns m.stack.frame.index ≡ Some i
        → (fine : IsFineAt (body_of s by.declared) (frames m.stack.frame.method) m.stack.frame.index i)
        → StandsAt links world (body_of s by.declared) i ((world.method m.stack.frame.method).frames m.stack.frame.index) fine.after m
    stands_at s e by i is fine = record {
      body_of = body_is m.stack.frame.method s e by.declared;
      is = is;
      typed = refl;
      names = named m.stack.frame.method s e m.stack.frame.index i is;
      effect = subst (λ (t : MethodType). effect (body_of s by.declared) (offset_at (body_of s by.declared) m.stack.frame.index) i (t.frames m.stack.frame.index) ≡ Ok fine.after)
          (sym (type_is m.stack.frame.method s e)) fine.acts;
      lands = all_land m.stack.frame.method s e by.declared by.typing fine.after (targets (body_of s by.declared) i) fine.lands;
      goes_on = next_enters m.stack.frame.method s e by.declared by.typing m.stack.frame.index i fine.after fine.goes_on;
    }

    steps_at : (o : Option Subject) → subject_at links m.stack.frame.method ≡ o → option_map_or (λ (s : Subject). true) o false ≡ true → Leads world asked (held_by m) (step links m)
    steps_at None e has = absurd (true_false (sym has))
    steps_at (Some s) e has =
        let by = typed m.stack.frame.method s e in
        let one = there s.linked.insns m.stack.frame.index (subst (λ (t : MethodType). m.stack.frame.index < t.count) (type_is m.stack.frame.method s e) at.inside) in
        let fine = by.typing.fine m.stack.frame.index one.0 one.1 in
        subst (λ (o : Option LinkedInsn). Leads world asked (held_by m) (on_some (λ i. act links i m) o)) (sym (insn_is m.stack.frame.method s e m.stack.frame.index one.0 one.1))
        (row (body_of s by.declared) one.0 asked at.fresh at.receiver ((world.method m.stack.frame.method).frames m.stack.frame.index) fine.after m (stands_at s e by one.0 one.1 fine) at.at)

    pub steps_typed : Leads world asked (held_by m) (step links m)
    steps_typed = steps_at (subject_at links m.stack.frame.method) refl at.at.frame.known

  pub never_stuck : AreNamed links frames → AreNeverStuck links frames
  never_stuck named asked m at n = runs_sound world asked (step links) (λ m at. steps_typed named asked m at) m at n

  pub never_stuck_by_replies : AreNamed links frames → AreNeverStuckByReplies links frames
  never_stuck_by_replies named asked m at moves fit = plays_sound world asked (step links) (λ m at. steps_typed named asked m at) m at moves fit
