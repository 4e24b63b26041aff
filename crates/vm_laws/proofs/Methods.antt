-- What is owed of a method that is linked and checked.
use Rattle.std.proofs.Common.{◌≡◌, ℕ, ◌-◌, ◌<◌, ◌≤◌, ◌++◌, Bool, true, false, Option, Some, None, List, [], ◌∷◌, length, replicate, get_or, refl, sym, subst, ap, ◌∙◌, arith}
use Rattle.std.specs.Prelude.{not, ◌&&◌, if◌then◌else◌, map, MatchOption, option_map}
use Rattle.std.specs.Option.{unwrap_or}
use Rattle.cf_text.specs.declared.types.FieldType.{FieldType}
use Rattle.cls_link.proofs.Indices.{index_found}
use Rattle.cls_link.specs.Targets.{index_from}
use Rattle.cls_set.proofs.Hierarchy.{true_false, same_some}
use Rattle.cls_set.specs.Subtypes.IsSubclass.{itself}
use Rattle.cls_set.specs.declared.class.Class.{Class}
use Rattle.std.proofs.Common.{inr}
use Rattle.ver_check.specs.Bodies.{Body, body_of, declared_at}
use Rattle.ver_check.specs.Listed.{IsListed}
use Rattle.ver_check.specs.Typing.{IsTyping}
use Rattle.ver_frames.proofs.Fillings.{filled_count}
use Rattle.ver_frames.proofs.Starts.{rise}
use Rattle.ver_frames.specs.Assignable.{IsAssignable, AreAssignable, IsFrameAssignable}
use Rattle.ver_frames.specs.Frames.{Frame}
use Rattle.ver_frames.specs.Method as ver
use Rattle.ver_frames.specs.Method.{Subject, is_static, begins_uninit, receiver_types, argument_types, result_type}
use Rattle.ver_frames.specs.Types.{field_vtype}
use Rattle.ver_frames.specs.declared.vtype.VType.{VType}
use Rattle.ver_frames.specs.declared.vtype.VType.TheVariants as vtype
use Rattle.vm_typing.specs.World as world
use Rattle.vm_typing.specs.World.{MethodType, IsPlain, ArePlain, parameters, init_receiver, parameters_of}
use Rattle.vm_laws.specs.Files.{AreAsRead, Declares}
use Rattle.vm_laws.specs.Worlds.{is_init, method_type, IsTypedBy}
use Rattle.vm_laws.proofs.Objects.{plain_append}

-- each type may stand for itself
assignable_itself : (classes : List Class) (t : VType) → IsAssignable classes t t
unfolding IsAssignable
assignable_itself classes vtype.Top = tt
assignable_itself classes vtype.Int = tt
assignable_itself classes vtype.Null = tt
assignable_itself classes (vtype.Object class) = inr (itself class)
assignable_itself classes vtype.IntArray = tt
assignable_itself classes (vtype.Uninitialized offset) = refl
assignable_itself classes vtype.UninitializedThis = tt

are_assignable : (classes : List Class) (ts : List VType) → AreAssignable classes ts ts
are_assignable classes [] = tt
are_assignable classes (t ∷ ts) = (assignable_itself classes t, are_assignable classes ts)

frame_itself : (classes : List Class) (f : Frame) → IsFrameAssignable classes f f
frame_itself classes f = record { locals = are_assignable classes f.locals; stack = are_assignable classes f.stack; flag = λ e. e }

-- what flows in at an instruction comes in at the frame there
flows_in : (body : Body) (frames : ℕ → Frame) → IsTyping body frames → (index : ℕ) (given : Frame) (d : Option Frame) → declared_at body index ≡ d
    → MatchOption d (frames index ≡ given) (λ declared. IsFrameAssignable body.classes given declared) → IsFrameAssignable body.classes given (frames index)
flows_in body frames typing index given None is enters = subst (λ (f : Frame). IsFrameAssignable body.classes given f) (sym enters) (frame_itself body.classes given)
flows_in body frames typing index given (Some declared) is enters =
    subst (λ (f : Frame). IsFrameAssignable body.classes given f) (sym (typing.declared index declared is)) enters

-- the receiver of an `<init>`, and that of another method
pub begins_not : (m : Subject) → is_init m ≡ false → begins_uninit m ≡ false
unfolding begins_uninit
begins_not m e = rw e (on (not (is_static m.method)) (not m.class.is_built_in))
  where
    on : (a b : Bool) → (a && (b && false)) ≡ false
    on true true = refl
    on true false = refl
    on false b = refl

init_arguments : (m : Subject) → is_static m.method ≡ false
    → init_receiver (begins_uninit m) m.class_id ∷ map (field_vtype m.classes) m.method.types.parameters ≡ argument_types m
unfolding argument_types receiver_types
init_arguments m static = rw static (on (begins_uninit m))
  where
    on : (b : Bool) → init_receiver b m.class_id ∷ map (field_vtype m.classes) m.method.types.parameters
        ≡ ((if b then vtype.UninitializedThis else vtype.Object m.class_id) ∷ []) ++ map (field_vtype m.classes) m.method.types.parameters
    on true = refl
    on false = refl

-- the words that a method is passed are the first local variables of its first frame
pub parameters_are : (m : Subject) (frames : ℕ → Frame) → (is_init m ≡ true → is_static m.method ≡ false) → parameters (method_type m frames) ≡ argument_types m
parameters_are m frames inits = on (is_init m) refl
  where
    on : (b : Bool) → is_init m ≡ b
        → parameters_of b (init_receiver (begins_uninit m) m.class_id) (if b then map (field_vtype m.classes) m.method.types.parameters else argument_types m) ≡ argument_types m
    on true e = init_arguments m (inits e)
    on false e = refl

-- the receiver of what is no `<init>` is an object of its class
arguments_plain : (m : Subject) → is_init m ≡ false → ArePlain (map (field_vtype m.classes) m.method.types.parameters) → ArePlain (argument_types m)
unfolding argument_types receiver_types
arguments_plain m e plain = plain_append _ (map (field_vtype m.classes) m.method.types.parameters) (on (is_static m.method) (begins_uninit m) (begins_not m e)) plain
  where
    on : (static b : Bool) → b ≡ false → ArePlain (if static then [] else ((if b then vtype.UninitializedThis else vtype.Object m.class_id) ∷ []))
    on true b f = tt
    on false true f = absurd (true_false f)
    on false false f = (tt, tt)

result_plain : (m : Subject) → ((type : FieldType) → m.method.types.result ≡ Some type → IsPlain (field_vtype m.classes type)) → (t : VType) → result_type m ≡ Some t → IsPlain t
unfolding result_type
result_plain m plain t e = on m.method.types.result refl e
  where
    on : (o : Option FieldType) → m.method.types.result ≡ o → option_map (field_vtype m.classes) o ≡ Some t → IsPlain t
    on None is e = absurd (cc)
    on (Some type) is e = subst IsPlain (same_some e) (plain type is)

result_none : (m : Subject) → m.method.types.result ≡ None → result_type m ≡ None
unfolding result_type
result_none m e = ap (option_map (field_vtype m.classes)) e

-- what is owed of a method, by its types
pub record Meets (classes : List Class) (mt : MethodType) : Type 0 where
  pub locals : length (parameters mt) ≤ mt.max_locals
  pub plain : ArePlain mt.arguments
  pub result : (t : VType) → mt.result ≡ Some t → IsPlain t
  pub void : mt.is_init ≡ true → mt.result ≡ None
  pub index : (index : ℕ) → index < mt.count → mt.index_at (mt.offset_at index) ≡ index
  pub inside : 0 < mt.count
  pub to : IsFrameAssignable classes (world.opening mt) (mt.frames 0)

opening_is : (m : Subject) (frames : ℕ → Frame) → parameters (method_type m frames) ≡ argument_types m → world.opening (method_type m frames) ≡ ver.opening m
unfolding ver.opening
opening_is m frames same =
    ap (λ (ts : List VType). record { locals = ts ++ replicate (m.code.max_locals - length ts) vtype.Top; stack = []; flag_this_uninit = begins_uninit m }) same

few : (m : Subject) → length (ver.opening m).locals ≤ m.code.max_locals → length (argument_types m) ≤ m.code.max_locals
unfolding ver.opening
few m within = let all = filled_count m.code.max_locals (argument_types m) in omega (arith, all, within)

index_is : (m : Subject) → IsListed m.linked → (index : ℕ) → index < length m.linked.insns → unwrap_or (index_from 0 m.linked.offsets (get_or m.linked.offsets index 0)) 0 ≡ index
index_is m listed index inside =
    let long = listed.listed in
    ap (λ o. unwrap_or o 0) (index_found 0 m.linked.offsets (get_or m.linked.offsets index 0) index (rise m.linked.offsets listed.rising) (omega (arith, inside, long)) refl)
    ∙ omega arith

pub meets : (m : Subject) (frames : ℕ → Frame) → IsListed m.linked → IsTypedBy m frames → AreAsRead m.classes → Declares m.classes m.method → Meets m.classes (method_type m frames)
meets m frames listed typed read declares =
    let same = parameters_are m frames (λ e. (read.inits m.method declares e).0) in
    let within = few m typed.typing.arguments in
    record {
      locals = subst (λ (ts : List VType). length ts ≤ m.code.max_locals) (sym same) within;
      plain = plain (is_init m) refl;
      result = result_plain m (λ type e. read.results m.method type declares e);
      void = λ e. result_none m (read.inits m.method declares e).1;
      index = index_is m listed;
      inside = typed.typing.begins;
      to = subst (λ (f : Frame). IsFrameAssignable m.classes f (frames 0)) (sym (opening_is m frames same))
          (flows_in (body_of m typed.declared) frames typed.typing 0 (ver.opening m) (declared_at (body_of m typed.declared) 0) refl typed.typing.opening);
    }
  where
    plain : (b : Bool) → is_init m ≡ b → ArePlain (if b then map (field_vtype m.classes) m.method.types.parameters else argument_types m)
    plain true e = read.parameters m.method declares
    plain false e = arguments_plain m e (read.parameters m.method declares)
