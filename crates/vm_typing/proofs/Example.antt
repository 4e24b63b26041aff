-- The example meets what is owed, and each of its steps leads typed.
use Rattle.std.proofs.Common.{◌≡◌, ℕ, zero, suc, ◌<◌, true, false, List, [], ◌∷◌, refl, ap, sym, subst, ◌∙◌, arith, Option, Some, None, inl, inr}
use Rattle.std.specs.Prelude.{pos, IsSomeAnd, slice_get, codes}
use Rattle.space_ids.specs.declared.ids.ClassId.{ClassId}
use Rattle.cls_set.specs.Classes.{IsInterface}
use Rattle.cls_set.specs.Subtypes.{IsSubclass}
use Rattle.cls_set.specs.Subtypes.IsSubclass.{itself, superclass, through}
use Rattle.ver_frames.specs.Frames.{Frame}
use Rattle.ver_frames.specs.Assignable.{IsAssignable, IsObjectAssignable, IsFrameAssignable}
use Rattle.ver_frames.specs.declared.vtype.VType.{VType}
use Rattle.ver_frames.specs.declared.vtype.VType.TheVariants as vtype
use Rattle.vm_heap.specs.References.{Table}
use Rattle.vm_heap.specs.Tagged.{Tagged}
use Rattle.vm_heap.specs.Heap.{Store}
use Rattle.vm_heap.specs.declared.heap.WordKind.TheVariants as kind
use Rattle.vm_stack.specs.Frames as frames
use Rattle.vm_stack.specs.Frames.{empty_frame}
use Rattle.vm_act.specs.declared.machine.Machine.{Machine}
use Rattle.vm_typing.specs.World.{IsPlain, Enters}
use Rattle.vm_typing.specs.Fits.{held_in}
use Rattle.vm_typing.specs.Typed.{IsTyped}
use Rattle.vm_typing.specs.Owed.{Owed, MethodOwed}
use Rattle.vm_typing.specs.Leads.{LeadsTo}
use Rattle.vm_typing.specs.Runs.{KeepsTyped, started}
use Rattle.vm_typing.specs.Example.{has_code, object_id, point_id, object_class, point_class, world, methods, main_frames, init_frames, main_callee, point_callee, object_callee, step, act_at, ExampleIsSound}
use Rattle.vm_typing.proofs.Words
use Rattle.vm_typing.proofs.Objects
use Rattle.vm_typing.proofs.Asks
use Rattle.vm_typing.proofs.Calls
use Rattle.vm_typing.proofs.Returns
use Rattle.vm_typing.proofs.Runs

no_interface : (n : ℕ) → IsSomeAnd (slice_get (object_class ∷ point_class ∷ []) n) IsInterface → ⊥
no_interface zero is = is refl
no_interface (suc zero) is = is refl
no_interface (suc (suc n)) is = absurd is

abbrev number_in : Option ClassId → ℕ
number_in None = 0
number_in (Some c) = c.0

-- P has no subclass but itself
extended : (s : ℕ) (t : ClassId) → IsSomeAnd (slice_get (object_class ∷ point_class ∷ []) s) (λ c. c.superclass ≡ Some t) → t.0 ≡ 1 → ⊥
extended zero t e is = absurd (cc)
extended (suc zero) t e is = (let same : Path (Option ClassId) (Some object_id) (Some t) = e in let none : 0 ≡ t.0 = ap (λ (c : Option ClassId). number_in c) same in absurd (omega arith))
extended (suc (suc n)) t e is = absurd e

below_point : (a b : ClassId) → IsSubclass world.classes a b → b.0 ≡ 1 → a ≡ b
below_point a b (itself c) is = refl
below_point a b (superclass s t e) is = absurd (extended s.0 t e is)
below_point a b (through s m t lower upper) is =
    let same : m ≡ t = below_point m t upper is in
    below_point s m lower (ap (λ (c : ClassId). c.0) same ∙ is) ∙ same

object_is : (n : ℕ) → slice_get (codes "java/lang/Object" ∷ codes "P" ∷ []) n ≡ Some (codes "java/lang/Object") → 0 ≡ n
object_is zero e = refl
object_is (suc zero) e = absurd (cc)
object_is (suc (suc n)) e = absurd (cc)

field_of_point : (n slot : ℕ) (t : VType) → slice_get (world.fields (record { 0 = n })) slot ≡ Some t → (n ≡ 1) × IsPlain t
field_of_point zero slot t e = absurd (cc)
field_of_point (suc zero) zero t e = (refl, (let same : vtype.Int ≡ t = cc in subst IsPlain same tt))
field_of_point (suc zero) (suc slot) t e = absurd (cc)
field_of_point (suc (suc n)) slot t e = absurd (cc)

owed_of : (number : ℕ) → has_code number ≡ true → MethodOwed world number
unfolding IsAssignable
owed_of zero known = record {
  locals = omega arith;
  plain = tt;
  result = λ t e. (let same : vtype.Int ≡ t = cc in subst IsPlain same tt);
  void = λ e. absurd (cc);
  index = λ index inside. refl;
  opens = record { inside = omega arith; to = record { locals = tt; stack = tt; flag = λ e. e } };
}
owed_of (suc zero) known = record {
  locals = omega arith;
  plain = (tt, tt);
  result = λ t e. absurd (cc);
  void = λ e. refl;
  index = λ index inside. refl;
  opens = record { inside = omega arith; to = record { locals = (tt, (tt, tt)); stack = tt; flag = λ e. e } };
}
owed_of (suc (suc zero)) known = record {
  locals = omega arith;
  plain = tt;
  result = λ t e. absurd (cc);
  void = λ e. refl;
  index = λ index inside. refl;
  opens = record { inside = omega arith; to = record { locals = (inr (itself object_id), tt); stack = tt; flag = λ e. e } };
}
owed_of (suc (suc (suc n))) known = absurd (cc)

further : (a b c : ClassId) → IsObjectAssignable world.classes a b → IsObjectAssignable world.classes b c → IsObjectAssignable world.classes a c
further a b c (inl i) q = absurd (no_interface b.0 i)
further a b c (inr p) (inl i) = absurd (no_interface c.0 i)
further a b c (inr p) (inr q) = inr (through a b c p q)

inherits : (a b : ClassId) (slot : ℕ) (t : VType) → IsObjectAssignable world.classes a b → slice_get (world.fields b) slot ≡ Some t → slice_get (world.fields a) slot ≡ Some t
inherits a b slot t (inl i) e = absurd (no_interface b.0 i)
inherits a b slot t (inr p) e =
    subst (λ (c : ClassId). slice_get (world.fields c) slot ≡ Some t) (sym (below_point a b p (field_of_point b.0 slot t e).0)) e

pub owed : Owed world
owed = record {
  object = omega arith;
  object_named = λ class e. ap (λ (n : ℕ). record { 0 = n }) (object_is class.0 e);
  further = λ a b c known p q. further a b c p q;
  inherits = λ a b slot t known p e. inherits a b slot t p e;
  object_fields = refl;
  fields = λ class slot t e. (field_of_point class.0 slot t e).1;
  methods = owed_of;
}

enters_main : (index : ℕ) (f : Frame) → index < 6 → IsFrameAssignable world.classes f (main_frames index) → Enters world 0 index f
enters_main index f inside to = record { inside = inside; to = to }

abbrev at_machine : ℕ → ℕ → List Tagged → List Tagged → ℕ → List frames.Frame → ℕ → Store → Table → Machine
at_machine method index locals operands room callers free heap references =
    record { stack = record { frame = record { method = method; index = index; locals = locals; operands = operands; room = room }; callers = callers; free = free }; heap = heap; references = references }

abbrev asked : Option VType
asked = Some vtype.Int

step_typed : (method index : ℕ) (locals operands : List Tagged) (room : ℕ) (callers : List frames.Frame) (free : ℕ) (heap : Store) (references : Table)
    → IsTyped world asked (at_machine method index locals operands room callers free heap references)
    → LeadsTo world asked (held_in heap references) (IsTyped world asked) (act_at method index (at_machine method index locals operands room callers free heap references))
unfolding IsAssignable
step_typed zero zero locals operands room callers free heap references typed =
    Objects.new_object-leads world owed asked (held_in heap references) typed.fresh typed.receiver point_id (kind.Int ∷ []) 0 (main_frames 0) _ (omega arith) (tt, tt) (omega arith) refl refl refl (omega arith)
    (record { inside = omega arith; to = record { locals = tt; stack = (refl, tt); flag = λ e. e } }) typed.at
step_typed zero (suc zero) locals operands room callers free heap references typed =
    Words.dup-leads world owed asked (held_in heap references) typed.fresh typed.receiver (vtype.Uninitialized 0) [] (main_frames 1) _ refl (omega arith)
    (record { inside = omega arith; to = record { locals = tt; stack = (refl, (refl, tt)); flag = λ e. e } }) typed.at
step_typed zero (suc (suc zero)) locals operands room callers free heap references typed =
    Words.constant-leads world owed asked (held_in heap references) typed.fresh typed.receiver (pos 5) (main_frames 2) _ (omega arith)
    (record { inside = omega arith; to = record { locals = tt; stack = (tt, (refl, (refl, tt))); flag = λ e. e } }) typed.at
step_typed zero (suc (suc (suc zero))) locals operands room callers free heap references typed =
    Calls.construct_new-leads world owed asked (held_in heap references) typed.fresh typed.receiver point_callee 0 false (main_frames 3) (vtype.Uninitialized 0 ∷ []) _
    (record { known = refl; arguments = refl; max_locals = refl; max_stack = refl; begins_uninit = refl }) refl
    (record { given = vtype.Int ∷ []; whole = refl; to = (tt, tt) }) refl
    (record { inside = omega arith; to = record { locals = tt; stack = (inr (itself point_id), tt); flag = λ e. e } }) typed.at
step_typed zero (suc (suc (suc (suc zero)))) locals operands room callers free heap references typed =
    Asks.read_field-leads world owed asked (held_in heap references) typed.fresh typed.receiver point_id 0 vtype.Int refl (vtype.Object point_id) [] (main_frames 4) _ refl (inr (itself point_id)) (omega arith)
    (record { inside = omega arith; to = record { locals = tt; stack = (tt, tt); flag = λ e. e } }) typed.at
step_typed zero (suc (suc (suc (suc (suc n))))) locals operands room callers free heap references typed =
    Returns.return_int-leads world owed asked typed.fresh typed.receiver [] (main_frames (suc (suc (suc (suc (suc n)))))) _ refl refl typed.at
step_typed (suc zero) zero locals operands room callers free heap references typed =
    Words.load_local-leads world owed asked (held_in heap references) typed.fresh typed.receiver kind.Reference 0 vtype.UninitializedThis (init_frames 0) _ refl tt (omega arith)
    (record { inside = omega arith; to = record { locals = (tt, (tt, tt)); stack = (tt, tt); flag = λ e. e } }) typed.at
step_typed (suc zero) (suc zero) locals operands room callers free heap references typed =
    Words.load_local-leads world owed asked (held_in heap references) typed.fresh typed.receiver kind.Int 1 vtype.Int (init_frames 1) _ refl tt (omega arith)
    (record { inside = omega arith; to = record { locals = (tt, (tt, tt)); stack = (tt, (tt, tt)); flag = λ e. e } }) typed.at
step_typed (suc zero) (suc (suc zero)) locals operands room callers free heap references typed =
    Asks.write_field-leads world owed asked (held_in heap references) typed.fresh typed.receiver point_id 0 vtype.Int refl kind.Int vtype.Int vtype.UninitializedThis [] (init_frames 2) _ tt refl tt refl
    (record { inside = omega arith; to = record { locals = (tt, (tt, tt)); stack = tt; flag = λ e. e } }) typed.at
step_typed (suc zero) (suc (suc (suc zero))) locals operands room callers free heap references typed =
    Words.load_local-leads world owed asked (held_in heap references) typed.fresh typed.receiver kind.Reference 0 vtype.UninitializedThis (init_frames 3) _ refl tt (omega arith)
    (record { inside = omega arith; to = record { locals = (tt, (tt, tt)); stack = (tt, tt); flag = λ e. e } }) typed.at
step_typed (suc zero) (suc (suc (suc (suc zero)))) locals operands room callers free heap references typed =
    Calls.construct_this-leads world owed asked (held_in heap references) typed.fresh typed.receiver object_callee false (init_frames 4) [] _
    (record { known = refl; arguments = refl; max_locals = refl; max_stack = refl; begins_uninit = refl }) refl
    (record { given = []; whole = refl; to = tt }) (inr (superclass point_id object_id refl))
    (record { inside = omega arith; to = record { locals = (inr (itself point_id), (tt, tt)); stack = tt; flag = λ e. e } }) typed.at
step_typed (suc zero) (suc (suc (suc (suc (suc n))))) locals operands room callers free heap references typed =
    Returns.return_nothing-leads world owed asked typed.fresh typed.receiver (init_frames (suc (suc (suc (suc (suc n)))))) _ refl typed.at
step_typed (suc (suc number)) index locals operands room callers free heap references typed =
    Returns.return_nothing-leads world owed asked typed.fresh typed.receiver ((methods (suc (suc number))).frames index) _ refl typed.at

keeps : KeepsTyped world asked step
keeps m typed =
    step_typed m.stack.frame.method m.stack.frame.index m.stack.frame.locals m.stack.frame.operands m.stack.frame.room m.stack.callers m.stack.free m.heap m.references typed

pub example_is_sound : ExampleIsSound
example_is_sound free heap_free n references =
    Runs.runs_sound world asked step keeps (started main_callee [] empty_frame free (record { cells = []; free = heap_free }) references)
    (Runs.starts_typed world owed main_callee [] empty_frame free (record { cells = []; free = heap_free }) references
    (record { known = refl; arguments = refl; max_locals = refl; max_stack = refl; begins_uninit = refl }) tt tt refl) n
